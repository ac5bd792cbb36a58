-- The pairs of a sweep, and the join as it is defined.
use Rattle.std.proofs.Common.{◌≡◌, ℕ, ◌+◌, ◌≤◌, Bool, true, false, not, cond, ◌&&◌, nat_le, nat_lt, Option, Some, None, List, [], ◌∷◌, ◌++◌, map, length, get_or, refl, sym, ap, ap₂, subst, ◌∙◌, arith, All}
use Rattle.std.specs.List.{flat_map}
use Rattle.std.specs.List.Sorted.{IsPermutation}
use Rattle.std.proofs.lemmas.List.Elements.{All-map, All-tail}
use Rattle.std.proofs.lemmas.List.Folds.{flat_map-map}
use Rattle.std.proofs.lemmas.List.Sorted.{All-permutation, length_permutation}
use Rattle.aql_base.specs.Bags.{SameBag}
use Rattle.aql_base.specs.BagLaws.{SameBag-refl, SameBag-trans, SameBag-is, SameBag-append, SameBag-flat_map, SameBag-flat_map_each, SameBag-flat_map_append, SameBag-pairs}
use Rattle.span_token.specs.Extents.{Extent}
use Rattle.span_token.specs.Documents.{characters}
use Rattle.span_token.specs.Tokens.{tokens_of}
use Rattle.span_token.specs.Relations.{do_overlap}
use Rattle.row_values.specs.Datums.{Datum}
use Rattle.span_joins.specs.declared.rule.Rule.{Rule}
use Rattle.span_joins.specs.declared.rule.Rule.TheVariants.{Gap, Tokens, Contains, OverlapsFromLeft, OverlapsFromRight}
use Rattle.span_joins.specs.declared.way.Way.{Way}
use Rattle.span_joins.specs.declared.way.Way.TheVariants.{Swept}
use Rattle.row_values.specs.Rows.{span_in}
use Rattle.span_joins.specs.Joins.{holds, joined_where}
use Rattle.span_joins.specs.Answers.{answer_of, is_back, is_pair, is_turned, is_exact, is_bounded, test_of, test_by}
use Rattle.span_joins.specs.JoinLaws.{row_if}
use Rattle.span_joins.specs.Sweeps.{Entry, entry, answer_at, row_of, pair_at, pair_of, pairs_of, pairs_with, pairs_from, all_pairs, joined_by, IsProper, MayMeetAny, HaveWidth}
use Rattle.span_joins.proofs.AnswerLaws.{pair-gap, pair-tokens, pair-contains, pair-from_left, pair-from_right, do_overlap-swap, lt-not_le}
use Rattle.span_joins.specs.JoinLaws.{joined_where-rows}

-- the join, by its rows where they stand
joined_where-entries : (test : Extent → Extent → Bool) (lc rc : ℕ) (left right : List (List Datum)) → joined_where test left lc right rc ≡ pairs_of test false (map (entry lc) left) (map (entry rc) right)
joined_where-entries test lc rc left right =
    joined_where-rows test lc rc left right
    ∙ (λ i. flat_map (λ l. sym (flat_map-map (pair_of test false (entry lc l)) (entry rc) right) i) left)
    ∙ sym (flat_map-map (λ k. flat_map (pair_of test false k) (map (entry rc) right)) (entry lc) left)

-- a test of two spans, from the other one
held_back : (test : Extent → Extent → Bool) (o p : Option Extent) → holds test o p ≡ holds (λ a b. test b a) p o
held_back test None None = refl
held_back test None (Some b) = refl
held_back test (Some a) None = refl
held_back test (Some a) (Some b) = refl

-- where the first rows stand behind, they are the right ones
pairs_back : (test : Extent → Extent → Bool) (firsts others : List Entry) → SameBag (pairs_of test true firsts others) (pairs_of (λ a b. test b a) false others firsts)
pairs_back test firsts others =
    SameBag-trans _ _ _ (SameBag-pairs (pair_of test true) firsts others)
    (SameBag-is _ _ (λ i. flat_map (λ (m : Entry). flat_map (λ (k : Entry). row_if (held_back test k.span m.span i) (m.values ++ k.values)) firsts) others))

-- the pairs of rows where they stand are the join
pub joined_by-entries : (way : Way) (fc oc : ℕ) (firsts others : List (List Datum)) → SameBag (pairs_of (test_by way) (is_back way) (map (entry fc) firsts) (map (entry oc) others)) (joined_by way firsts fc others oc)
joined_by-entries way fc oc firsts others = by (is_back way)
  where
    by : (b : Bool) → SameBag (pairs_of (test_by way) b (map (entry fc) firsts) (map (entry oc) others)) (cond b (joined_where (λ a b. test_by way b a) others oc firsts fc) (joined_where (test_by way) firsts fc others oc))
    by true = SameBag-trans _ _ _ (pairs_back (test_by way) (map (entry fc) firsts) (map (entry oc) others)) (SameBag-is _ _ (sym (joined_where-entries (λ a b. test_by way b a) oc fc others firsts)))
    by false = SameBag-is _ _ (sym (joined_where-entries (test_by way) fc oc firsts others))

-- a rule's answer is a pair where its test holds, of spans that end at or after their begins
pair-tested : (rule : Rule) (a b : Extent) → b.begin ≤ b.end → is_pair (answer_of rule a b) ≡ test_of rule a b
pair-tested (Gap low high front) a b h = pair-gap low high front a b
pair-tested (Tokens doc low high front) a b h = pair-tokens (tokens_of (characters doc.now)) low high a b
pair-tested (Contains front) a b h = pair-contains front a b h
pair-tested OverlapsFromLeft a b h = pair-from_left a b
pair-tested OverlapsFromRight a b h = pair-from_right a b

pair-proper : (rule : Rule) (a : Extent) (o : Option Extent) → IsProper o → is_pair (answer_at rule a o) ≡ holds (test_of rule) (Some a) o
pair-proper rule a None h = refl
pair-proper rule a (Some b) h = pair-tested rule a b h

pair-exact : (rule : Rule) (a : Extent) (o : Option Extent) → is_exact rule ≡ true → is_pair (answer_at rule a o) ≡ holds (test_of rule) (Some a) o
pair-exact rule a None h = refl
pair-exact (Gap low high front) a (Some b) h = pair-gap low high front a b
pair-exact (Tokens doc low high front) a (Some b) h = pair-tokens (tokens_of (characters doc.now)) low high a b
pair-exact (Contains front) a (Some b) h = absurd cc
pair-exact OverlapsFromLeft a (Some b) h = absurd cc
pair-exact OverlapsFromRight a (Some b) h = absurd cc

nothing : (xs : List Entry) → flat_map {A = List Datum} (λ x. []) xs ≡ []
nothing [] = refl
nothing (x ∷ xs) = nothing xs

-- the pairs by the test of a rule
abbrev tested : Rule → Entry → Entry → List (List Datum)
tested rule = pair_of (test_of rule) (is_turned rule)

module _ (rule : Rule) (P : Option Extent → Type 0) (each : (a : Extent) (o : Option Extent) → P o → is_pair (answer_at rule a o) ≡ holds (test_of rule) (Some a) o) where
  pairs_with-tested : (a : Extent) (first : List Datum) (others : List Entry) → All (λ m. P m.span) others
      → flat_map (pair_at rule a first) others ≡ flat_map (λ (m : Entry). row_if (holds (test_of rule) (Some a) m.span) (row_of rule first m.values)) others
  pairs_with-tested a first [] h = refl
  pairs_with-tested a first (m ∷ others) h =
      ap₂ (λ (ys zs : List (List Datum)). ys ++ zs) (ap (λ b. row_if b (row_of rule first m.values)) (each a m.span (h 0 m (omega arith))))
      (pairs_with-tested a first others (All-tail (λ (e : Entry). P e.span) m others h))

  pairs_from-tested : (o : Option Extent) (first : List Datum) (others : List Entry) → All (λ m. P m.span) others
      → pairs_from rule o first others ≡ flat_map (λ (m : Entry). row_if (holds (test_of rule) o m.span) (row_of rule first m.values)) others
  unfolding pairs_with
  pairs_from-tested None first others h = sym (nothing others)
  pairs_from-tested (Some a) first others h = pairs_with-tested a first others h

  pub all_pairs-tested : (firsts others : List Entry) → All (λ m. P m.span) others → all_pairs rule firsts others ≡ flat_map (λ k. flat_map (tested rule k) others) firsts
  unfolding all_pairs
  all_pairs-tested firsts others h i = flat_map (λ (k : Entry). pairs_from-tested k.span k.values others h i) firsts

-- rows in another order give the same pairs
pub pairs_of-SameBag : (test : Extent → Extent → Bool) (turned : Bool) (ks ls ms ns : List Entry) → SameBag ks ls → SameBag ms ns → SameBag (pairs_of test turned ks ms) (pairs_of test turned ls ns)
pairs_of-SameBag test turned ks ls ms ns h g =
    SameBag-trans (pairs_of test turned ks ms) (pairs_of test turned ls ms) (pairs_of test turned ls ns) (SameBag-flat_map (λ k. flat_map (pair_of test turned k) ms) ks ls h)
    (SameBag-flat_map_each (λ k. flat_map (pair_of test turned k) ms) (λ k. flat_map (pair_of test turned k) ns) (λ k. SameBag-flat_map (pair_of test turned k) ms ns g) ls)

-- the pairs of a rule are those of its test, of spans that end at or after their begins
pub swept-pairs : (way : Way) (rule : Rule) (firsts others : List Entry) → way ≡ Swept rule → All (λ m. IsProper m.span) others → all_pairs rule firsts others ≡ pairs_of (test_by way) (is_back way) firsts others
swept-pairs way rule firsts others is proper =
    all_pairs-tested rule IsProper (pair-proper rule) firsts others proper ∙ ap (λ w. pairs_of (test_by w) (is_back w) firsts others) (sym is)

-- and of any spans by a rule whose tests are bounded
pub exact-pairs : (way : Way) (rule : Rule) (firsts others : List Entry) → way ≡ Swept rule → is_bounded way ≡ true → all_pairs rule firsts others ≡ pairs_of (test_by way) (is_back way) firsts others
exact-pairs way rule firsts others is e =
    let exact = subst (λ w. is_bounded w ≡ true) is e in
    all_pairs-tested rule (λ o. Unit {0}) (λ a o h. pair-exact rule a o exact) firsts others (λ k d low. tt) ∙ ap (λ w. pairs_of (test_by w) (is_back w) firsts others) (sym is)

-- two spans overlap where the right one doesn't begin before the left one, or else where the left one begins after it
either_way : (k m : Entry) → tested OverlapsFromLeft k m ++ tested OverlapsFromRight m k ≡ pair_of do_overlap false k m
either_way k m = on k.span m.span
  where
    by : (x y p q : Bool) → y ≡ not x → p ≡ q → row_if (not x && p) (k.values ++ m.values) ++ row_if (not y && q) (k.values ++ m.values) ≡ row_if p (k.values ++ m.values)
    by true true p q e f = absurd cc
    by true false p q e f = ap (λ t. row_if t (k.values ++ m.values)) (sym f)
    by false true true q e f = refl
    by false true false q e f = refl
    by false false p q e f = absurd cc

    on : (o p : Option Extent) → row_if (holds (test_of OverlapsFromLeft) o p) (k.values ++ m.values) ++ row_if (holds (test_of OverlapsFromRight) p o) (k.values ++ m.values) ≡ row_if (holds do_overlap o p) (k.values ++ m.values)
    on None None = refl
    on None (Some b) = refl
    on (Some a) None = refl
    on (Some a) (Some b) = by (nat_lt b.begin a.begin) (nat_le a.begin b.begin) (do_overlap a b) (do_overlap b a) (lt-not_le a.begin b.begin) (do_overlap-swap a b)

overlaps-split : (ks ms : List Entry) → SameBag (flat_map (λ k. flat_map (tested OverlapsFromLeft k) ms) ks ++ flat_map (λ m. flat_map (tested OverlapsFromRight m) ks) ms) (pairs_of do_overlap false ks ms)
overlaps-split ks ms =
    let from_left : Entry → List (List Datum) = λ k. flat_map (tested OverlapsFromLeft k) ms in
    let from_right : Entry → List (List Datum) = λ k. flat_map (λ m. tested OverlapsFromRight m k) ms in
    let turned : SameBag (flat_map (λ m. flat_map (tested OverlapsFromRight m) ks) ms) (flat_map from_right ks) = SameBag-pairs (tested OverlapsFromRight) ms ks in
    let first = SameBag-append (flat_map from_left ks) (flat_map from_left ks) _ _ (SameBag-refl (flat_map from_left ks)) turned in
    let second = SameBag-flat_map_append from_left from_right ks in
    let third = SameBag-flat_map_each (λ k. from_left k ++ from_right k) (λ k. flat_map (λ m. tested OverlapsFromLeft k m ++ tested OverlapsFromRight m k) ms)
    (λ k. SameBag-flat_map_append (tested OverlapsFromLeft k) (λ m. tested OverlapsFromRight m k) ms) ks in
    SameBag-trans _ _ _ first (SameBag-trans _ _ _ second (SameBag-trans _ _ _ third (SameBag-is _ _ (λ i. flat_map (λ k. flat_map (λ m. either_way k m i) ms) ks))))

any-left : (a : Extent) (o : Option Extent) → Unit {0} → is_pair (answer_at OverlapsFromLeft a o) ≡ holds (test_of OverlapsFromLeft) (Some a) o
any-left a None u = refl
any-left a (Some b) u = pair-from_left a b

any-right : (a : Extent) (o : Option Extent) → Unit {0} → is_pair (answer_at OverlapsFromRight a o) ≡ holds (test_of OverlapsFromRight) (Some a) o
any-right a None u = refl
any-right a (Some b) u = pair-from_right a b

pub met-pairs : (lefts rights : List Entry) → SameBag (all_pairs OverlapsFromLeft lefts rights ++ all_pairs OverlapsFromRight rights lefts) (pairs_of do_overlap false lefts rights)
met-pairs lefts rights =
    let a = all_pairs-tested OverlapsFromLeft (λ o. Unit {0}) any-left lefts rights (λ k d low. tt) in
    let b = all_pairs-tested OverlapsFromRight (λ o. Unit {0}) any-right rights lefts (λ k d low. tt) in
    SameBag-trans _ _ _ (SameBag-is _ _ (ap₂ (λ (xs ys : List (List Datum)). xs ++ ys) a b)) (overlaps-split lefts rights)

-- rows where they stand: their spans may be looked at, and they have their columns
pub may_meet-rows : (way : Way) (column : ℕ) (rows : List (List Datum)) → All (λ row. MayMeetAny way (span_in column row)) rows → All (λ m. MayMeetAny way m.span) (map (entry column) rows)
may_meet-rows way column rows h = All-map (λ (m : Entry). MayMeetAny way m.span) (entry column) rows h

pub have_width-rows : (width m n lc rc : ℕ) (left right : List (List Datum)) → width ≡ m + n → All (λ row. length row ≡ m) left → All (λ row. length row ≡ n) right
    → All (λ k. HaveWidth width k.values (map (entry rc) right)) (map (entry lc) left)
have_width-rows width m n lc rc left right e h g =
    All-map (λ (k : Entry). HaveWidth width k.values (map (entry rc) right)) (entry lc) left
    (λ i d low. All-map (λ (k : Entry). length (get_or left i d) + length k.values ≡ width) (entry rc) right (λ j f high. omega (arith, e, h i d low, g j f high)))

-- and so have sorted ones
pub have_width-sorted : (width : ℕ) (firsts firsts' others others' : List Entry) → IsPermutation firsts firsts' → IsPermutation others others'
    → All (λ k. HaveWidth width k.values others) firsts → All (λ k. HaveWidth width k.values others') firsts'
have_width-sorted width firsts firsts' others others' f o h =
    All-permutation (λ (k : Entry). HaveWidth width k.values others') firsts firsts' f
    (λ i d low. All-permutation (λ (m : Entry). length (get_or firsts i d).values + length m.values ≡ width) others others' o (h i d low))

-- the pairs of sorted sides are as many
pub pairs_of-length : (test : Extent → Extent → Bool) (turned : Bool) (ks ls ms ns : List Entry) → SameBag ks ls → SameBag ms ns → length (pairs_of test turned ks ms) ≡ length (pairs_of test turned ls ns)
pairs_of-length test turned ks ls ms ns h g = sym (length_permutation (pairs_of test turned ks ms) (pairs_of test turned ls ns) (pairs_of-SameBag test turned ks ls ms ns h g))
