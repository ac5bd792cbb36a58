-- What a dictionary matches, as a list: `matches_among` is the one list that has exactly the matches in span order.
use Rattle.std.proofs.Common.{◌≡◌, ℕ, zero, suc, ◌+◌, ◌-◌, ◌<◌, ◌≤◌, ◌↔◌, ◌⊎◌, inl, inr, ◌&&◌, nat_lt, IsTrue, Result, Ok, Err, IfOk, Bool, true, false, cond, List, [], ◌∷◌, ◌++◌, map, length, get_or, slice_range, refl, sym, ap, ap₂, subst, ◌∙◌, arith, suc-le-suc, zero-le}
use Rattle.std.specs.Bool.{Decides}
use Rattle.std.specs.List.{All, AllPairs, Contains, filter, flat_map, range_with_len}
use Rattle.std.specs.Cmp.Lexicographic.{pointwise}
use Rattle.std.specs.Str.{bytes_eq}
use Rattle.std.proofs.lemmas.Bool.{and_parts, cases_lt}
use Rattle.std.proofs.lemmas.Bool.Decides.{Decides-ltb, same_from_decides}
use Rattle.std.proofs.lemmas.Slice.Eq.{slice_eq-Decides, bytes_eq-Decides}
use Rattle.std.proofs.lemmas.List.{map-id, map-append, append-nil, append_assoc, flat_map_more}
use Rattle.std.proofs.lemmas.List.Elements.{filter-append, Contains-get_or, All-filter, Contains-append_left, Contains-push, Contains-push_cases}
use Rattle.std.proofs.lemmas.List.Folds.{Any-from_list_any, list_any-from_Any}
use Rattle.std.proofs.lemmas.List.FromFn.{map-range_with_len_more}
use Rattle.std.proofs.lemmas.List.Kept.{AllPairs-filter}
use Rattle.std.proofs.lemmas.List.Quantifiers.{all_pairs_push}
use Rattle.span_token.specs.Documents.{Doc, characters}
use Rattle.span_token.specs.Extents.{Extent, nth_extent}
use Rattle.dict_match.specs.declared.dict_use.DictUse.{DictUse}
use Rattle.span_token.specs.SpanOrderLaws.{in_order_is_unique}
use Rattle.span_token.specs.SourceTokens.{tokens_in, run_extent, SomeTokens, InTextOrder}
use Rattle.span_token.specs.SpanOrder.{IsBefore, AreInOrder}
use Rattle.dict_match.specs.Dictionaries.{folded, texts_of, entry_texts, Agree, AgreesWith, IsMatch, AreMatches}
use Rattle.dict_match.specs.DictMatches.{do_agree, does_agree, matches_from, matches_among, dict_matches, does_match}
use Rattle.span_token.specs.Relations.{does_contain}
use Rattle.span_token.specs.Tokens.{tokens_of}
use Rattle.span_token.specs.TokenLaws.{token_not_empty, token_in_list, apart}
use Rattle.dict_match.specs.Walks.{run_texts}

-- ---- tests

do_agree-Decides : (exact : Bool) (xs ys : List (List ℕ)) → Decides (do_agree exact xs ys) (Agree exact xs ys)
do_agree-Decides true xs ys = slice_eq-Decides bytes_eq-Decides xs ys (pointwise bytes_eq xs ys) refl
do_agree-Decides false xs ys = slice_eq-Decides bytes_eq-Decides (map folded xs) (map folded ys) (pointwise bytes_eq (map folded xs) (map folded ys)) refl

pub does_agree-Decides : (dict : DictUse) (texts : List (List ℕ)) → Decides (does_agree dict texts) (AgreesWith dict texts)
unfolding does_agree
does_agree-Decides dict texts = (
  λ h.
      let parts = and_parts _ _ h in
      let some = Any-from_list_any (λ (entry : List ℕ). do_agree dict.exact texts (entry_texts entry)) dict.entries parts.1 in
      record {
        filled = (Decides-ltb 0 (length texts)).0 parts.0;
        entry = some.1;
        listed = (some.0, some.2, some.3);
        agree = (do_agree-Decides dict.exact texts (entry_texts some.1)).0 some.4;
      },
  λ a. ap₂ ◌&&◌ ((Decides-ltb 0 (length texts)).1 a.filled)
      (list_any-from_Any (λ (entry : List ℕ). do_agree dict.exact texts (entry_texts entry)) dict.entries
      (let at = a.listed in (at.0, a.entry, at.1, at.2, (do_agree-Decides dict.exact texts (entry_texts a.entry)).1 a.agree))),
)

-- ---- the runs from one token

range-more : (a n j : ℕ) → a + n ≡ j → range_with_len a (n + 1) ≡ range_with_len a n ++ j ∷ []
range-more a n j e =
    sym (map-id (range_with_len a (n + 1))) ∙ map-range_with_len_more (λ k. k) a n j e ∙ ap (λ (ks : List ℕ). ks ++ j ∷ []) (map-id (range_with_len a n))

kept-one : (b : Bool) (f : ℕ → Extent) (k : ℕ) → map f (cond b (k ∷ []) []) ≡ cond b (f k ∷ []) []
kept-one true f k = refl
kept-one false f k = refl

module _ (dict : DictUse) (d : Doc) (tokens : List Extent) where
  -- whether the run from token number `first` to `last` agrees with an entry
  abbrev pub run_agrees : ℕ → ℕ → Bool
  run_agrees first last = does_agree dict (texts_of d (slice_range tokens first (last + 1)))

  pub matches_from-none : (first : ℕ) → matches_from dict d tokens first first ≡ []
  unfolding matches_from
  matches_from-none first =
      let none : first - first ≡ 0 = omega arith in
      ap (λ (n : ℕ). map (run_extent tokens first) (filter (run_agrees first) (range_with_len first n))) none

  -- one more run
  pub matches_from-more : (first past : ℕ) → first ≤ past →
      matches_from dict d tokens first (past + 1) ≡ matches_from dict d tokens first past ++ cond (run_agrees first past) (run_extent tokens first past ∷ []) []
  unfolding matches_from
  matches_from-more first past le =
      let count : past + 1 - first ≡ past - first + 1 = omega arith in
      let same_number : first + (past - first) ≡ past = omega arith in
      let before = range_with_len first (past - first) in
      ap (λ (n : ℕ). map (run_extent tokens first) (filter (run_agrees first) (range_with_len first n))) count
      ∙ ap (λ (ks : List ℕ). map (run_extent tokens first) (filter (run_agrees first) ks)) (range-more first (past - first) past same_number)
      ∙ ap (map (run_extent tokens first)) (filter-append (run_agrees first) before (past ∷ []))
      ∙ map-append (run_extent tokens first) (filter (run_agrees first) before) (filter (run_agrees first) (past ∷ []))
      ∙ ap (λ (es : List Extent). map (run_extent tokens first) (filter (run_agrees first) before) ++ es) (kept-one (run_agrees first past) (run_extent tokens first) past)

  stop-after : (first past k : ℕ) → first ≤ past → ((last : ℕ) → past ≤ last → last < past + k → run_agrees first last ≡ false) →
      matches_from dict d tokens first (past + k) ≡ matches_from dict d tokens first past
  stop-after first past zero le none =
      let same : past + 0 ≡ past = omega arith in
      ap (matches_from dict d tokens first) same
  stop-after first past (suc k) le none =
      let same : past + suc k ≡ past + k + 1 = omega arith in
      ap (matches_from dict d tokens first) same
      ∙ matches_from-more first (past + k) (omega (arith, le))
      ∙ ap (λ (b : Bool). matches_from dict d tokens first (past + k) ++ cond b (run_extent tokens first (past + k) ∷ []) []) (none (past + k) (omega arith) (omega arith))
      ∙ append-nil (matches_from dict d tokens first (past + k))
      ∙ stop-after first past k le (λ last more fewer. none last more (omega (arith, fewer)))

  -- where no longer run agrees
  pub matches_from-stop : (first past n : ℕ) → first ≤ past → past ≤ n → ((last : ℕ) → past ≤ last → last < n → run_agrees first last ≡ false) →
      matches_from dict d tokens first n ≡ matches_from dict d tokens first past
  matches_from-stop first past n le within none =
      let same : n ≡ past + (n - past) = omega arith in
      ap (matches_from dict d tokens first) same
      ∙ stop-after first past (n - past) le (λ last more fewer. none last more (omega (arith, fewer, same)))

-- one more token, and all of them
pub among-more : (from : ℕ → List Extent) (n : ℕ) → flat_map from (range_with_len 0 n) ++ from n ≡ flat_map from (range_with_len 0 (n + 1))
among-more from n =
    let start : 0 + n ≡ n = omega arith in
    flat_map_more from [] (range_with_len 0 n) n ∙ ap (flat_map from) (sym (range-more 0 n n start))

pub among-all : (dict : DictUse) (d : Doc) (tokens : List Extent) (n : ℕ) → n ≡ length tokens →
    flat_map (λ first. matches_from dict d tokens first (length tokens)) (range_with_len 0 n) ≡ matches_among dict d tokens
unfolding matches_among
among-all dict d tokens n is = ap (λ (k : ℕ). flat_map (λ first. matches_from dict d tokens first (length tokens)) (range_with_len 0 k)) is

-- ---- found so far

-- a match from a token before the one with number `first`, or from that one with tokens before `past` alone
pub record IsMatchUpto (dict : DictUse) (tokens : SomeTokens) (first past : ℕ) (e : Extent) : Type 0 where
  pub match : IsMatch dict tokens.doc tokens.tokens e
  pub upto : (match.first < first) ⊎ ((match.first ≡ first) × (match.past ≤ past))

widened : (dict : DictUse) (tokens : SomeTokens) (first last : ℕ) (e : Extent) → IsMatchUpto dict tokens first last e → IsMatchUpto dict tokens first (last + 1) e
widened dict tokens first last e m = record {
  match = m.match;
  upto = elim m.upto [ inl a ↦ inl a | inr a ↦ inr (a.0, omega (arith, a.1)) ];
}

before-run : (dict : DictUse) (tokens : SomeTokens) (first last : ℕ) (e : Extent) → InTextOrder tokens.tokens → first ≤ last → last < length tokens.tokens →
    IsMatchUpto dict tokens first last e → IsBefore e (run_extent tokens.tokens first last)
before-run dict tokens first last e order le lt m =
    let match = m.match in
    let begins : e.begin ≡ (nth_extent tokens.tokens match.first).begin = ap (λ (x : Extent). x.begin) match.extent_is in
    let ends : e.end ≡ (nth_extent tokens.tokens (match.past - 1)).end = ap (λ (x : Extent). x.end) match.extent_is in
    elim m.upto [
      | inl a ↦
          let one = order.filled match.first (omega (arith, a, le, lt)) in
          let two = order.apart match.first first a (omega (arith, le, lt)) in
          inl (omega (arith, begins, one, two))
      | inr a ↦
          let some = match.some in
          let two = order.apart (match.past - 1) last (omega (arith, a.0, a.1, some, le)) lt in
          let three = order.filled last lt in
          inr (begins ∙ ap (λ (n : ℕ). (nth_extent tokens.tokens n).begin) a.0, omega (arith, ends, two, three))
    ]

new-match : (dict : DictUse) (tokens : SomeTokens) (first last : ℕ) → first ≤ last → last < length tokens.tokens → AgreesWith dict (run_texts tokens first (last + 1)) →
    IsMatchUpto dict tokens first (last + 1) (run_extent tokens.tokens first last)
new-match dict tokens first last le lt agrees =
    let same_number : last ≡ last + 1 - 1 = omega arith in
    record {
      match = record {
        first = first;
        past = last + 1;
        some = omega (arith, le);
        there = omega (arith, lt);
        agrees = agrees;
        extent_is = ap (run_extent tokens.tokens first) same_number;
      };
      upto = inr (refl, omega arith);
    }

-- a match from the one token is an older one, or that of the last run
last-cases : (dict : DictUse) (tokens : SomeTokens) (first last : ℕ) (e : Extent) → IsMatchUpto dict tokens first (last + 1) e →
    IsMatchUpto dict tokens first last e ⊎ (AgreesWith dict (run_texts tokens first (last + 1)) × (run_extent tokens.tokens first last ≡ e))
last-cases dict tokens first last e m = elim m.upto [
  | inl a ↦ inl (record { match = m.match; upto = inl a })
  | inr a ↦ elim (cases_lt last m.match.past) [
    | inl more ↦
        let past : m.match.past ≡ last + 1 = omega (arith, a.1, more) in
        let final : m.match.past - 1 ≡ last = omega (arith, past) in
        inr (
          subst (AgreesWith dict) (ap₂ (run_texts tokens) a.0 past) m.match.agrees,
          sym (m.match.extent_is ∙ ap₂ (run_extent tokens.tokens) a.0 final),
        )
    | inr le ↦ inl (record { match = m.match; upto = inr (a.0, omega (arith, le)) })
  ]
]

pub upto-step : (dict : DictUse) (tokens : SomeTokens) (first last : ℕ) (old : List Extent) (agrees : Bool) → InTextOrder tokens.tokens → first ≤ last → last < length tokens.tokens →
    Decides agrees (AgreesWith dict (run_texts tokens first (last + 1))) →
    AreInOrder (IsMatchUpto dict tokens first last) old → AreInOrder (IsMatchUpto dict tokens first (last + 1)) (old ++ cond agrees (run_extent tokens.tokens first last ∷ []) [])
upto-step dict tokens first last old true order le lt means are =
    let run = run_extent tokens.tokens first last in
    record {
      rising = all_pairs_push IsBefore old run are.rising (λ k d low. before-run dict tokens first last (get_or old k d) order le lt ((are.exactly (get_or old k d)).0 (Contains-get_or old k d low)));
      exactly = λ e. (
        λ c. elim (Contains-push_cases old run e c) [
          | inl a ↦ widened dict tokens first last e ((are.exactly e).0 a)
          | inr a ↦ subst (IsMatchUpto dict tokens first (last + 1)) a (new-match dict tokens first last le lt (means.0 refl))
        ],
        λ m. elim (last-cases dict tokens first last e m) [
          | inl a ↦ Contains-append_left old (run ∷ []) e ((are.exactly e).1 a)
          | inr a ↦ subst (Contains (old ++ run ∷ [])) a.1 (Contains-push old run)
        ],
      );
    }
upto-step dict tokens first last old false order le lt means are =
    subst (AreInOrder (IsMatchUpto dict tokens first (last + 1))) (sym (append-nil old)) (record {
      rising = are.rising;
      exactly = λ e. (
        λ c. widened dict tokens first last e ((are.exactly e).0 c),
        λ m. elim (last-cases dict tokens first last e m) [
          | inl a ↦ (are.exactly e).1 a
          | inr a ↦ let no : false ≡ true = means.1 a.0 in cc
        ],
      );
    })

-- ---- the next token

-- no longer run from the one token agrees with an entry
pub upto-stop : (dict : DictUse) (tokens : SomeTokens) (first last : ℕ) (found : List Extent) →
    ((past : ℕ) → last < past → past ≤ length tokens.tokens → AgreesWith dict (run_texts tokens first past) → ⊥) →
    AreInOrder (IsMatchUpto dict tokens first last) found → AreInOrder (IsMatchUpto dict tokens (first + 1) (first + 1)) found
upto-stop dict tokens first last found none are = record {
  rising = are.rising;
  exactly = λ e. (
    λ c. let m = (are.exactly e).0 c in
        record { match = m.match; upto = inl (elim m.upto [ inl a ↦ omega (arith, a) | inr a ↦ omega (arith, a.0) ]) },
    λ m. (are.exactly e).1 (back e m),
  );
} where
  back : (e : Extent) → IsMatchUpto dict tokens (first + 1) (first + 1) e → IsMatchUpto dict tokens first last e
  back e m = elim m.upto [
    | inl a ↦ elim (cases_lt m.match.first first) [
      | inl lt ↦ record { match = m.match; upto = inl lt }
      | inr le ↦
          let here : m.match.first ≡ first = omega (arith, a, le) in
          elim (cases_lt last m.match.past) [
            | inl more ↦ absurd (none m.match.past more m.match.there (subst (λ (n : ℕ). AgreesWith dict (run_texts tokens n m.match.past)) here m.match.agrees))
            | inr fewer ↦ record { match = m.match; upto = inr (here, omega (arith, fewer)) }
          ]
    ]
    | inr a ↦ let some = m.match.some in absurd (omega (arith, a.0, a.1, some))
  ]

pub upto-start : (dict : DictUse) (tokens : SomeTokens) → AreInOrder (IsMatchUpto dict tokens 0 0) []
upto-start dict tokens = record {
  rising = λ i j d lt low. absurd (omega (arith, low));
  exactly = λ e. (
    λ c. absurd (let low = c.1 in omega (arith, low)),
    λ m. let some = m.match.some in absurd (elim m.upto [ inl a ↦ omega (arith, a) | inr a ↦ omega (arith, a.0, a.1, some) ]),
  );
}

pub upto-end : (dict : DictUse) (tokens : SomeTokens) (n : ℕ) (found : List Extent) → length tokens.tokens ≤ n → AreInOrder (IsMatchUpto dict tokens n n) found →
    AreInOrder (IsMatch dict tokens.doc tokens.tokens) found
upto-end dict tokens n found long are = record {
  rising = are.rising;
  exactly = λ e. (
    λ c. ((are.exactly e).0 c).match,
    λ m. let some = m.some in let there = m.there in (are.exactly e).1 (record { match = m; upto = inl (omega (arith, some, there, long)) }),
  );
}

-- ---- all of them

module _ (dict : DictUse) (tokens : SomeTokens) (order : InTextOrder tokens.tokens) where
  from-run : (first n : ℕ) (front : List Extent) → first + n ≤ length tokens.tokens → AreInOrder (IsMatchUpto dict tokens first first) front →
      AreInOrder (IsMatchUpto dict tokens first (first + n)) (front ++ matches_from dict tokens.doc tokens.tokens first (first + n))
  from-run first zero front within are =
      let same : first ≡ first + 0 = omega arith in
      subst (λ (past : ℕ). AreInOrder (IsMatchUpto dict tokens first past) (front ++ matches_from dict tokens.doc tokens.tokens first past)) same
      (subst (AreInOrder (IsMatchUpto dict tokens first first)) (sym (ap (λ (es : List Extent). front ++ es) (matches_from-none dict tokens.doc tokens.tokens first) ∙ append-nil front)) are)
  from-run first (suc n) front within are =
      let past = first + n in
      let same : past + 1 ≡ first + suc n = omega arith in
      let found = matches_from dict tokens.doc tokens.tokens first past in
      let agrees = run_agrees dict tokens.doc tokens.tokens first past in
      subst (λ (p : ℕ). AreInOrder (IsMatchUpto dict tokens first p) (front ++ matches_from dict tokens.doc tokens.tokens first p)) same
      (subst (AreInOrder (IsMatchUpto dict tokens first (past + 1)))
      (append_assoc front found (cond agrees (run_extent tokens.tokens first past ∷ []) []) ∙ ap (λ (es : List Extent). front ++ es) (sym (matches_from-more dict tokens.doc tokens.tokens first past (omega arith))))
      (upto-step dict tokens first past (front ++ found) agrees order (omega arith) (omega (arith, within)) (does_agree-Decides dict (run_texts tokens first (past + 1)))
      (from-run first n front (omega (arith, within)) are)))

  abbrev from : ℕ → List Extent
  from first = matches_from dict tokens.doc tokens.tokens first (length tokens.tokens)

  from-all : (n : ℕ) → n ≤ length tokens.tokens → AreInOrder (IsMatchUpto dict tokens n n) (flat_map from (range_with_len 0 n))
  from-all zero le = upto-start dict tokens
  from-all (suc n) le =
      let front = flat_map from (range_with_len 0 n) in
      let next : n + 1 ≡ suc n = omega arith in
      let full : n + (length tokens.tokens - n) ≡ length tokens.tokens = omega (arith, le) in
      let more : front ++ from n ≡ flat_map from (range_with_len 0 (n + 1)) = among-more from n in
      let run : AreInOrder (IsMatchUpto dict tokens n (length tokens.tokens)) (front ++ from n) =
      subst (λ (past : ℕ). AreInOrder (IsMatchUpto dict tokens n past) (front ++ matches_from dict tokens.doc tokens.tokens n past)) full
      (from-run n (length tokens.tokens - n) front (omega (arith, full)) (from-all n (omega (arith, le)))) in
      subst (λ (k : ℕ). AreInOrder (IsMatchUpto dict tokens k k) (flat_map from (range_with_len 0 k))) next
      (subst (AreInOrder (IsMatchUpto dict tokens (n + 1) (n + 1))) more
      (upto-stop dict tokens n (length tokens.tokens) (front ++ from n) (λ past longer within agrees. absurd (omega (arith, longer, within))) run))

  -- the list has exactly the matches, in span order
  pub matches_among-are : AreInOrder (IsMatch dict tokens.doc tokens.tokens) (matches_among dict tokens.doc tokens.tokens)
  unfolding matches_among
  matches_among-are = upto-end dict tokens (length tokens.tokens) (flat_map from (range_with_len 0 (length tokens.tokens))) (omega arith) (from-all (length tokens.tokens) (omega arith))

-- ---- the matches in a source

in-text-order : (d : Doc) (source : Extent) → InTextOrder (tokens_in d source)
in-text-order d source =
    let cs = characters d in
    let filled : All (λ (t : Extent). t.begin < t.end) (tokens_of cs) = λ k x lt. token_not_empty cs (get_or (tokens_of cs) k x) (token_in_list cs k x lt) in
    let stand : AllPairs (λ (t u : Extent). t.end ≤ u.begin) (tokens_of cs) = apart cs in
    record {
      filled = λ i lt. All-filter (does_contain source) (λ (t : Extent). t.begin < t.end) (tokens_of cs) filled i _ lt;
      apart = λ i j lt low. AllPairs-filter (λ (t u : Extent). t.end ≤ u.begin) (does_contain source) (tokens_of cs) stand i j _ lt low;
    }

-- the function gives exactly the matches
pub dict_matches-are : (dict : DictUse) (d : Doc) (source : Extent) → AreMatches dict d source (dict_matches dict d source)
dict_matches-are dict d source =
    let tokens : SomeTokens = record { doc = d; tokens = tokens_in d source } in
    matches_among-are dict tokens (in-text-order d source)

-- no other list has exactly the matches
pub dict_matches-only : (dict : DictUse) (d : Doc) (source : Extent) (extents : List Extent) → AreMatches dict d source extents → extents ≡ dict_matches dict d source
dict_matches-only dict d source extents are =
    in_order_is_unique (IsMatch dict d (tokens_in d source)) extents (dict_matches dict d source) are (dict_matches-are dict d source)

some-listed : (es : List Extent) → Decides (nat_lt 0 (length es)) ((e : Extent) × Contains es e)
some-listed [] = (λ h. absurd (let low = (Decides-ltb 0 0).0 h in omega (arith, low)), λ s. absurd (let low = s.1.1 in omega (arith, low)))
some-listed (e ∷ es) = (λ h. (e, (0, suc-le-suc zero-le, refl)), λ s. (Decides-ltb 0 (length (e ∷ es))).1 (suc-le-suc zero-le))

-- the test says whether there is a match
pub does_match-Decides : (dict : DictUse) (d : Doc) (source : Extent) → Decides (does_match dict d source) ((e : Extent) × IsMatch dict d (tokens_in d source) e)
does_match-Decides dict d source =
    let told = some-listed (dict_matches dict d source) in
    let are = dict_matches-are dict d source in (
      λ h. let some = told.0 h in (some.0, (are.exactly some.0).0 some.1),
      λ m. told.1 (m.0, (are.exactly m.0).1 m.1),
    )

-- ---- answers of calls that may lack memory

pub told-as : {E : Type 0} (r : Result Bool E) (b : Bool) (P : Type 0) → Decides b P → IfOk r (λ found. IsTrue found ↔ P) → IfOk r (λ found. found ≡ b)
told-as (Ok found) b P decides told = same_from_decides found b told decides
told-as (Err e) b P decides told = tt
