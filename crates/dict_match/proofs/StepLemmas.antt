-- Steps of the walk, and what they leave found.
use Rattle.std.proofs.Common.{◌≡◌, ℕ, ◌+◌, ◌-◌, ◌<◌, ◌≤◌, ◌↔◌, inl, inr, Bool, true, false, cond, List, [], ◌∷◌, ◌++◌, length, get_or, slice_get, Some, None, refl, sym, ap, subst, ◌∙◌, arith}
use Rattle.std.specs.Bool.{Decides}
use Rattle.std.proofs.lemmas.Bool.{cases_lt}
use Rattle.std.proofs.lemmas.List.{append_assoc}
use Rattle.span_token.specs.Extents.{Extent}
use Rattle.span_token.specs.SourceTokens.{run_extent, SomeTokens}
use Rattle.dict_match.specs.declared.dict_use.DictUse.{DictUse}
use Rattle.dict_match.specs.declared.trie.Trie.{Trie}
use Rattle.dict_match.specs.Dictionaries.{AgreesWith, IsMatch}
use Rattle.dict_match.specs.DictMatches.{matches_from}
use Rattle.dict_match.specs.Tries.{put_dicts, step, Reaches}
use Rattle.dict_match.specs.Walks.{run_texts, HasEndFor, HasRun, PutsWhere}
use Rattle.dict_match.specs.LawProofs.MatchLaws.{does_agree-Decides, run_agrees, matches_from-more, matches_from-stop}
use Rattle.dict_match.proofs.PutLemmas.{end-agrees, agrees-end}
use Rattle.dict_match.proofs.RowLemmas.{puts-cond}
use Rattle.dict_match.proofs.WalkLemmas.{key, keys, length-run, none-longer}

refuted : (b : Bool) (P : Type 0) → Decides b P → (P → ⊥) → b ≡ false
refuted true P told none = absurd (none (told.0 refl))
refuted false P told none = refl

module _ (trie : Trie) (dicts : List DictUse) (tokens : SomeTokens) (i : ℕ) (dict : DictUse) (at : slice_get dicts i ≡ Some dict) where
  -- where no step leads on, no longer run agrees
  pub stops : (node first last : ℕ) → Reaches trie (put_dicts 0 dicts) node (keys tokens first last) → step trie node (key tokens last) ≡ None → first ≤ last → last < length tokens.tokens →
      matches_from dict tokens.doc tokens.tokens first (length tokens.tokens) ≡ matches_from dict tokens.doc tokens.tokens first last
  stops node first last r none le lt =
      matches_from-stop dict tokens.doc tokens.tokens first last (length tokens.tokens) le (omega (arith, lt)) (λ k more fewer.
      refuted (run_agrees dict tokens.doc tokens.tokens first k) (AgreesWith dict (run_texts tokens first (k + 1))) (does_agree-Decides dict (run_texts tokens first (k + 1)))
      (λ agrees. none-longer trie dicts node tokens first last (k + 1) i dict r none at le (omega (arith, more)) (omega (arith, fewer)) agrees))

  -- an end of the dictionary agrees with a run where the dictionary does
  pub end-means : (next first last : ℕ) → Reaches trie (put_dicts 0 dicts) next (keys tokens first (last + 1)) → first ≤ last → last < length tokens.tokens →
      HasEndFor i (run_texts tokens first (last + 1)) (get_or trie.ends.items next []) ↔ AgreesWith dict (run_texts tokens first (last + 1))
  end-means next first last r le lt =
      let texts = run_texts tokens first (last + 1) in
      let long : 0 < length texts = omega (arith, length-run tokens first (last + 1) (omega (arith, le)) (omega (arith, lt)), le) in (
        λ has. agrees-end trie dicts next texts r i dict at long has,
        λ agrees. end-agrees trie dicts next texts r i dict at long agrees,
      )

  -- a run is put where an end agrees
  pub one-more : (next first last : ℕ) (front old new : List Extent) → Reaches trie (put_dicts 0 dicts) next (keys tokens first (last + 1)) → first ≤ last → last < length tokens.tokens →
      PutsWhere (HasEndFor i (run_texts tokens first (last + 1)) (get_or trie.ends.items next [])) (run_extent tokens.tokens first last) old new →
      old ≡ front ++ matches_from dict tokens.doc tokens.tokens first last → new ≡ front ++ matches_from dict tokens.doc tokens.tokens first (last + 1)
  one-more next first last front old new r le lt puts was =
      let texts = run_texts tokens first (last + 1) in
      let agrees = run_agrees dict tokens.doc tokens.tokens first last in
      let told = does_agree-Decides dict texts in
      let means = end-means next first last r le lt in
      let run : List Extent = cond agrees (run_extent tokens.tokens first last ∷ []) [] in
      puts-cond (HasEndFor i texts (get_or trie.ends.items next [])) agrees (run_extent tokens.tokens first last) old new (λ h. means.1 (told.0 h), λ has. told.1 (means.0 has)) puts
      ∙ ap (λ (es : List Extent). es ++ run) was
      ∙ append_assoc front (matches_from dict tokens.doc tokens.tokens first last) run
      ∙ ap (λ (es : List Extent). front ++ es) (sym (matches_from-more dict tokens.doc tokens.tokens first last le))

  -- ---- whether there is a run

  -- where no step leads on, no run is left
  pub none-left : (node first last : ℕ) → Reaches trie (put_dicts 0 dicts) node (keys tokens first last) → step trie node (key tokens last) ≡ None → first ≤ last →
      (HasRun dict tokens first last → ⊥) → HasRun dict tokens first (length tokens.tokens) → ⊥
  none-left node first last r none le before run = elim (cases_lt run.last last) [
    | inl fewer ↦ before (record { last = run.last; «from» = run.from; before = fewer; agrees = run.agrees })
    | inr more ↦
        let within = run.before in
        none-longer trie dicts node tokens first last (run.last + 1) i dict r none at le (omega (arith, more)) (omega (arith, within)) run.agrees
  ]

  -- one more run that doesn't agree
  pub none-here : (next first last : ℕ) → Reaches trie (put_dicts 0 dicts) next (keys tokens first (last + 1)) → first ≤ last → last < length tokens.tokens →
      (HasEndFor i (run_texts tokens first (last + 1)) (get_or trie.ends.items next []) → ⊥) → (HasRun dict tokens first last → ⊥) → HasRun dict tokens first (last + 1) → ⊥
  none-here next first last r le lt none before run = elim (cases_lt run.last last) [
    | inl fewer ↦ before (record { last = run.last; «from» = run.from; before = fewer; agrees = run.agrees })
    | inr more ↦
        let within = run.before in
        let same : run.last ≡ last = omega (arith, more, within) in
        none ((end-means next first last r le lt).1 (subst (λ (n : ℕ). AgreesWith dict (run_texts tokens first (n + 1))) same run.agrees))
  ]

  -- one that does
  pub some-here : (next first last : ℕ) → Reaches trie (put_dicts 0 dicts) next (keys tokens first (last + 1)) → first ≤ last → last < length tokens.tokens →
      HasEndFor i (run_texts tokens first (last + 1)) (get_or trie.ends.items next []) → HasRun dict tokens first (length tokens.tokens)
  some-here next first last r le lt has = record { last = last; «from» = le; before = lt; agrees = (end-means next first last r le lt).0 has }

-- a match is that of some run
pub run-match : (dict : DictUse) (tokens : SomeTokens) (first : ℕ) → HasRun dict tokens first (length tokens.tokens) → (e : Extent) × IsMatch dict tokens.doc tokens.tokens e
run-match dict tokens first run =
    let le = run.from in
    let lt = run.before in
    let same_number : run.last ≡ run.last + 1 - 1 = omega arith in (
      run_extent tokens.tokens first run.last,
      record {
        first = first;
        past = run.last + 1;
        some = omega (arith, le);
        there = omega (arith, lt);
        agrees = run.agrees;
        extent_is = ap (run_extent tokens.tokens first) same_number;
      },
    )

pub match-run : (dict : DictUse) (tokens : SomeTokens) → (m : (e : Extent) × IsMatch dict tokens.doc tokens.tokens e) → (first : ℕ) × (first < length tokens.tokens) × HasRun dict tokens first (length tokens.tokens)
match-run dict tokens m =
    let match = m.1 in
    let some = match.some in
    let there = match.there in
    let past : match.past ≡ match.past - 1 + 1 = omega (arith, some) in (
      match.first,
      omega (arith, some, there),
      record {
        last = match.past - 1;
        «from» = omega (arith, some);
        before = omega (arith, some, there);
        agrees = subst (λ (n : ℕ). AgreesWith dict (run_texts tokens match.first n)) past match.agrees;
      },
    )
