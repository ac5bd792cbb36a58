use Rattle.std.proofs.Common.{◌≡◌, ◌∙◌, ◌+◌, ap, ap₂, sym, refl, subst, Option, ℕ, List, is_some, if◌then◌else◌, Some, string_bytes}
use Rattle.std.proofs.lemmas.Map.Text.{hash_map_updates_text}
use Rattle.std.specs.HashMap.{get_by_text, hash_map_len}
use Rattle.std.specs.Map.{update}
use Rattle.std.specs.Str.{bytes_eq}
use Rattle.dict_match.specs.declared.trie.Trie.{Trie}
use Rattle.dict_match.specs.Marks.{HasMark}
use Rattle.dict_match.proofs.TrieLemmas.{AddsWord, Reaches-word}
use Rattle.dict_match.proofs.trie.Trie.number.Goals as goal

pub returns-clause-kept : goal.returns-clause-kept
returns-clause-kept c = λ put node path r.
    let old : Trie = c.args.self.now in
    let new : Trie = record { words = c.insert.new.self; edges = c.args.self.now.edges; ends = c.args.self.now.ends; marks = c.set.new.self } in
    let none : get_by_text old.words c.args.text.now ≡ _ = sym c.in_default.ensures.value in
    let adds : AddsWord old new c.args.text.now = record {
      none = none;
      words = λ cs. hash_map_updates_text (string_bytes c.in_ok-from_str.field-0) old.words new.words (Some c.len-number.result) c.in_ok-insert.ensures.updates cs
          ∙ ap₂ (λ (b : List ℕ) (n : ℕ). update bytes_eq (get_by_text old.words) b (Some n) cs) c.in_ok-from_str.ensures.ok c.len-number.ensures.len;
      len = c.in_ok-insert.ensures.len
          ∙ ap (λ (o : Option ℕ). hash_map_len old.words + (if is_some o then 0 else 1)) (c.in_ok-insert.ensures.old ∙ ap (get_by_text old.words) c.in_ok-from_str.ensures.ok ∙ none);
      edges = refl;
      ends = refl;
      set_is = subst (HasMark new.marks) c.mark_of.ensures.mark c.set.ensures.set;
      marks = c.set.ensures.kept;
    } in
    Reaches-word old new c.args.text.now put node path adds r
