use Rattle.std.proofs.Common.{◌≡◌, ◌∙◌, ◌++◌, ◌<◌, ℕ, List, [], length, map, get_or, ap, ap₂, sym, subst, arith, All}
use Rattle.std.proofs.lemmas.List.{length-map}
use Rattle.std.proofs.lemmas.List.Elements.{All-same}
use Rattle.std.proofs.lemmas.Option.{slice_get_within}
use Rattle.span_token.specs.Extents.{Extent, extent_of}
use Rattle.dict_match.specs.declared.dict_use.DictUse.{DictUse}
use Rattle.dict_match.specs.declared.walk.DictMatch.{DictMatch}
use Rattle.dict_match.specs.Dictionaries.{AreMatches}
use Rattle.dict_match.specs.Rows.{dict_and_extent, extents_for, extents_of_rows}
use Rattle.dict_match.proofs.AppendLemmas.{rows-listed}
use Rattle.dict_match.specs.LawProofs.InsideLemmas.{each-inside}
use Rattle.dict_match.specs.LawProofs.MatchLaws.{dict_matches-are, dict_matches-only}
use Rattle.dict_match.proofs.SplitLemmas.{empty-row, number-of_rows}
use Rattle.dict_match.proofs.pass.DictPass.matches.Goals as goal

pub put_rows-requires : goal.put_rows-requires
put_rows-requires c =
    let a = c.in_ok-append_matches.ensures in
    let added : map dict_and_extent c.append_matches.new.into.items ≡ a.added = a.after ∙ ap (λ (ms : List DictMatch). map dict_and_extent ms ++ a.added) c.new-found.ensures.items in
    let given : map dict_and_extent c.as_slice.result.now ≡ a.added = ap (map dict_and_extent) c.as_slice.ensures.value ∙ added in
    let made = number-of_rows c.in_ok-rows.rows.items c.len.result c.in_ok-rows.ensures in
    let number : length c.args.self.now ≡ length c.in_ok-rows.rows.items = sym (made ∙ c.len.ensures ∙ ap (λ (ds : List DictUse). length ds) c.self.view_is) in
    All-same (λ (m : ℕ × Extent). m.0 < length c.in_ok-rows.rows.items) _ _ given
    (subst (λ (n : ℕ). All (λ (m : ℕ × Extent). m.0 < n) a.added) number a.below)

pub returns-clause-matches : goal.returns-clause-matches
returns-clause-matches c =
    let dicts = c.args.self.now in
    let a = c.in_ok-append_matches.ensures in
    let added : map dict_and_extent c.append_matches.new.into.items ≡ a.added = a.after ∙ ap (λ (ms : List DictMatch). map dict_and_extent ms ++ a.added) c.new-found.ensures.items in
    let given : map dict_and_extent c.as_slice.result.now ≡ a.added = ap (map dict_and_extent) c.as_slice.ensures.value ∙ added in
    let made = number-of_rows c.in_ok-rows.rows.items c.len.result c.in_ok-rows.ensures in
    let number : c.len.result ≡ length dicts = c.len.ensures ∙ ap (λ (ds : List DictUse). length ds) c.self.view_is in
    record {
      number = length-map c.put_rows.new.rows.items _ ∙ c.in_ok-put_rows.ensures.number ∙ made ∙ number;
      each = λ i dict at.
          let within = slice_get_within dicts i dict at in
          let empty : get_or (extents_of_rows c.in_ok-rows.rows.items) i [] ≡ [] = empty-row c.in_ok-rows.rows.items c.len.result i c.in_ok-rows.ensures (omega (arith, within, number)) in
          let row : get_or (extents_of_rows c.put_rows.new.rows.items) i [] ≡ extents_for i a.added =
          c.in_ok-put_rows.ensures.each i (omega (arith, within, made, number))
          ∙ ap₂ (λ (es : List Extent) (ms : List (ℕ × Extent)). es ++ extents_for i ms) empty given in
          subst (AreMatches dict c.args.doc.now (extent_of c.args.source)) (sym row) (a.each i dict at);
    }

pub returns-clause-listed : goal.returns-clause-listed
returns-clause-listed c = rows-listed c.args.self.now c.args.doc.now (extent_of c.args.source) (extents_of_rows c.put_rows.new.rows.items) (returns-clause-matches c)

pub returns-clause-meaning : goal.returns-clause-meaning
returns-clause-meaning c = λ dict. dict_matches-are dict c.args.doc.now (extent_of c.args.source)

pub returns-clause-unique : goal.returns-clause-unique
returns-clause-unique c = λ dict spans are. dict_matches-only dict c.args.doc.now (extent_of c.args.source) spans are

pub returns-clause-within : goal.returns-clause-within
returns-clause-within c = each-inside c.args.self.now c.args.doc.now (extent_of c.args.source) c.put_rows.new.rows.items (returns-clause-matches c)
