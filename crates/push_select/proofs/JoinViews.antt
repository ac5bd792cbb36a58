-- The join that a condition of the code stands for, and what it means.
use Rattle.std.proofs.Common.{◌≡◌, ◌∙◌, ℕ, ◌+◌, ◌-◌, ◌<◌, ◌≤◌, Bool, true, false, List, [], ◌∷◌, map, length, take, get_or, refl, sym, ap, ap₂, subst, arith, Option, Some, None}
use Rattle.std.specs.Prelude.{nat_lt}
use Rattle.std.specs.List.{All}
use Rattle.std.specs.Option.{IfNone}
use Rattle.std.specs.declared.vec.Vec.{Vec}
use Rattle.std.specs.declared.alloc.Global.{Global}
use Rattle.std.proofs.lemmas.Bool.{ltb-true, ltb-false}
use Rattle.std.proofs.lemmas.Bool.Decides.{nat_tests}
use Rattle.std.proofs.lemmas.List.{take_more, take_all}
use Rattle.std.proofs.lemmas.List.Elements.{All-head, All-tail, All-push}
use Rattle.span_token.specs.Documents.{Doc as Document}
use Rattle.span_token.specs.Extents.{Extent}
use Rattle.span_token.specs.Relations.{do_overlap}
use Rattle.row_values.specs.Datums.{Datum}
use Rattle.row_values.specs.Rows.{span_in}
use Rattle.span_joins.specs.Joins.{holds}
use Rattle.scalar_ops.specs.declared.expr.Expr.{Expr}
use Rattle.scalar_ops.specs.declared.expr.Expr.TheVariants as expr
use Rattle.scalar_ops.specs.declared.op.Op.{Op}
use Rattle.scalar_ops.specs.declared.op.Op.TheVariants as op
use Rattle.scalar_ops.specs.Expressions.{Term, column, number, string, call, Terms, none, more, terms, list_of, ReadsBelow}
use Rattle.scalar_ops.specs.Tables.{Lists}
use Rattle.scalar_ops.specs.Values.{holding}
use Rattle.scalar_ops.specs.Views.{term_of}
use Rattle.algebra.specs.declared.node.JoinKind.{JoinKind}
use Rattle.algebra.specs.declared.node.JoinKind.TheVariants as kind
use Rattle.algebra.specs.JoiningLaws.{holding-predicate}
use Rattle.algebra.specs.Operators.{does_join}
use Rattle.algebra.specs.Predicates.{of_columns}
use Rattle.push_select.specs.declared.join.Choice.{Choice}
use Rattle.push_select.specs.declared.join.Join.{Join}
use Rattle.push_select.specs.Joins.{kinds_of, column_of, both, two_columns, join_by_sides, join_with, join_by, join_of, rank_of, IsOfOtherRank}
use Rattle.push_select.proofs.ExprViews.{call_view}

none_some : {X : Type 0} (x : X) → None ≡ Some x → ⊥
none_some x is = cc

some_is : {X : Type 0} (x y : X) → Some x ≡ Some y → x ≡ y
some_is x y is = cc

-- ---- the code's conditions

list_of-terms : (ts : List Term) → list_of (terms ts) ≡ ts
list_of-terms [] = refl
list_of-terms (t ∷ ts) = ap (λ (rest : List Term). t ∷ rest) (list_of-terms ts)

-- what is found for a call, in words of its arguments
pub join_call : (width : ℕ) (e : Expr) (o : Op) (args : Vec Expr Global) (found : Option Join) → e ≡ expr.Call o args
    → found ≡ join_by width o (map term_of args.items) → found ≡ join_of width (term_of e)
join_call width e o args found is by_arguments =
    by_arguments
    ∙ (ap (join_by width o) (sym (list_of-terms (map term_of args.items)))
    ∙ (ap (join_of width) (sym (call_view o args)) ∙ ap (λ (x : Expr). join_of width (term_of x)) (sym is)))

-- other numbers of arguments than two
pub columns_other : (args : List Expr) → (length args ≡ 2 → ⊥) → None ≡ two_columns (map term_of args)
columns_other [] other = refl
columns_other (x ∷ []) other = refl
columns_other (x ∷ y ∷ []) other = absurd (other refl)
columns_other (x ∷ y ∷ z ∷ args) other = refl

-- a first argument that is no column
pub columns_first : (args : List Expr) (x : Expr) → length args ≡ 2 → x ≡ get_or args 0 x → None ≡ column_of (term_of x) → None ≡ two_columns (map term_of args)
columns_first [] x two at is = absurd (omega (arith, two))
columns_first (a ∷ []) x two at is = absurd (omega (arith, two))
columns_first (a ∷ b ∷ []) x two at is =
    ap (λ (m : Option ℕ). both m (column_of (term_of b))) (is ∙ ap (λ (e : Expr). column_of (term_of e)) at)
columns_first (a ∷ b ∷ c ∷ args) x two at is = absurd (omega (arith, two))

-- a first argument that is a column, and a second
pub columns_both : (args : List Expr) (x y : Expr) (m : ℕ) (found : Option ℕ) → length args ≡ 2 → x ≡ get_or args 0 x → y ≡ get_or args 1 y
    → Some m ≡ column_of (term_of x) → found ≡ column_of (term_of y) → both (Some m) found ≡ two_columns (map term_of args)
columns_both [] x y m found two at next is so = absurd (omega (arith, two))
columns_both (a ∷ []) x y m found two at next is so = absurd (omega (arith, two))
columns_both (a ∷ b ∷ []) x y m found two at next is so =
    ap₂ (λ (m n : Option ℕ). both m n) (is ∙ ap (λ (e : Expr). column_of (term_of e)) at) (so ∙ ap (λ (e : Expr). column_of (term_of e)) next)
columns_both (a ∷ b ∷ c ∷ args) x y m found two at next is so = absurd (omega (arith, two))

-- ---- conditions one by one

-- what holds of all so far, and of one more
pub all_more : (P : Expr → Type 0) (conds : List Expr) (i : ℕ) (cond : Expr) → i < length conds → cond ≡ get_or conds i cond → All P (take i conds) → P cond → All P (take (i + 1) conds)
all_more P conds i cond below at so_far one =
    subst (All P) (sym (take_more conds i cond below)) (All-push P (take i conds) (get_or conds i cond) so_far (subst P at one))

pub all_of : (P : Expr → Type 0) (conds : List Expr) (i : ℕ) → length conds ≤ i → All P (take i conds) → All P conds
all_of P conds i past so_far = subst (All P) (take_all i conds past) so_far

-- the answer's fact where there is none
pub when_none : {X : Type 0} (P : Type 0) (found : Option X) → ((x : X) → found ≡ Some x → ⊥) → IfNone found P → P
when_none P None lacks fact = fact
when_none P (Some x) lacks fact = absurd (lacks x refl)

no_rank : (j : Join) → (rank_of j.kind ≡ 0 → ⊥) → (rank_of j.kind ≡ 1 → ⊥) → (rank_of j.kind ≡ 2 → ⊥) → ⊥
no_rank j near over inside = by j.kind near over inside
  where
    by : (k : JoinKind) → (rank_of k ≡ 0 → ⊥) → (rank_of k ≡ 1 → ⊥) → (rank_of k ≡ 2 → ⊥) → ⊥
    by (kind.Follows min max) near over inside = near refl
    by (kind.FollowsTok min max) near over inside = near refl
    by kind.Overlaps near over inside = over refl
    by kind.Contains near over inside = inside refl
    by (kind.FollowsBack min max) near over inside = near refl
    by (kind.FollowsTokBack min max) near over inside = near refl
    by kind.ContainsBack near over inside = inside refl

unranked : (found : Option Join) → IsOfOtherRank 0 found → IsOfOtherRank 1 found → IsOfOtherRank 2 found → found ≡ None
unranked None near over inside = refl
unranked (Some j) near over inside = absurd (no_rank j near over inside)

-- a join of no rank is none
pub all_unranked : (width : ℕ) (conds : List Expr) → All (λ (c : Expr). IsOfOtherRank 0 (join_of width (term_of c))) conds → All (λ (c : Expr). IsOfOtherRank 1 (join_of width (term_of c))) conds
    → All (λ (c : Expr). IsOfOtherRank 2 (join_of width (term_of c))) conds → All (λ (c : Expr). join_of width (term_of c) ≡ None) conds
all_unranked width conds near over inside = λ k d at. unranked (join_of width (term_of (get_or conds k d))) (near k d at) (over k d at) (inside k d at)

-- of three answers the last is none, as those before it: then no join is found
pub none_of_all : (width : ℕ) (conds : List Expr) (near over inside : Option Choice) → ((x : Choice) → near ≡ Some x → ⊥) → ((x : Choice) → over ≡ Some x → ⊥)
    → IfNone near (All (λ (c : Expr). IsOfOtherRank 0 (join_of width (term_of c))) conds) → IfNone over (All (λ (c : Expr). IsOfOtherRank 1 (join_of width (term_of c))) conds)
    → IfNone inside (All (λ (c : Expr). IsOfOtherRank 2 (join_of width (term_of c))) conds) → IfNone inside (All (λ (c : Expr). join_of width (term_of c) ≡ None) conds)
none_of_all width conds near over (Some x) a b p q r = tt
none_of_all width conds near over None a b p q r =
    all_unranked width conds (when_none (All (λ (c : Expr). IsOfOtherRank 0 (join_of width (term_of c))) conds) near a p) (when_none (All (λ (c : Expr). IsOfOtherRank 1 (join_of width (term_of c))) conds) over b q) r

-- ---- what it is

-- the two forms of a condition that a join stands for
pub data JoinForm (width : ℕ) : Term → Join → Type 0 where
  forth : (o : Op) (kinds : JoinKind × JoinKind) (a b : ℕ) → kinds_of o ≡ Some kinds → a < width → width ≤ b → JoinForm width (of_columns o a b) (record { kind = kinds.0; lc = a; rc = b - width })
  back : (o : Op) (kinds : JoinKind × JoinKind) (a b : ℕ) → kinds_of o ≡ Some kinds → b < width → width ≤ a → JoinForm width (of_columns o a b) (record { kind = kinds.1; lc = b; rc = a - width })

by_sides : (width : ℕ) (o : Op) (kinds : JoinKind × JoinKind) (a b : ℕ) (j : Join) → kinds_of o ≡ Some kinds → (x y : Bool) → nat_lt a width ≡ x → nat_lt b width ≡ y
    → join_by_sides x y width kinds (a, b) ≡ Some j → JoinForm width (of_columns o a b) j
by_sides width o kinds a b j e true true p q is = absurd (none_some j is)
by_sides width o kinds a b j e true false p q is = subst (JoinForm width (of_columns o a b)) (some_is _ j is) (forth o kinds a b e (ltb-true a width p) (ltb-false b width q))
by_sides width o kinds a b j e false true p q is = subst (JoinForm width (of_columns o a b)) (some_is _ j is) (back o kinds a b e (ltb-true b width q) (ltb-false a width p))
by_sides width o kinds a b j e false false p q is = absurd (none_some j is)

by_kinds : (width : ℕ) (o : Op) (a b : ℕ) (j : Join) (k : Option (JoinKind × JoinKind)) → kinds_of o ≡ k → join_with width (Some (a, b)) k ≡ Some j → JoinForm width (of_columns o a b) j
by_kinds width o a b j None e is = absurd (none_some j is)
by_kinds width o a b j (Some kinds) e is = by_sides width o kinds a b j e (nat_lt a width) (nat_lt b width) refl refl is

by_two : (width : ℕ) (o : Op) (s t : Term) (j : Join) → join_with width (both (column_of s) (column_of t)) (kinds_of o) ≡ Some j → JoinForm width (call o (more s (more t none))) j
by_two width o (column a) (column b) j is = by_kinds width o a b j (kinds_of o) refl is
by_two width o s t j is = absurd (none_some j is)

-- arguments of a condition that a join stands for
by_args : (width : ℕ) (o : Op) (args : Terms) (j : Join) → join_by width o (list_of args) ≡ Some j → JoinForm width (call o args) j
by_args width o none j is = absurd (none_some j is)
by_args width o (more s none) j is = absurd (none_some j is)
by_args width o (more s (more t none)) j is = by_two width o s t j is
by_args width o (more s (more t (more u rest))) j is = absurd (none_some j is)

pub is_join : (width : ℕ) (c : Term) (j : Join) → join_of width c ≡ Some j → JoinForm width c j
is_join width (column n) j is = absurd (none_some j is)
is_join width (number n) j is = absurd (none_some j is)
is_join width (string t) j is = absurd (none_some j is)
is_join width (call o args) j is = by_args width o args j is

-- its left column is on the left side
pub join-left : (width : ℕ) (c : Term) (j : Join) → JoinForm width c j → j.lc < width
join-left width c j (forth o kinds a b e below from) = below
join-left width c j (back o kinds a b e below from) = below

shift_below : (width other n : ℕ) → n < width + other → width ≤ n → n - width < other
shift_below width other n below from = omega (arith, below, from)

-- and its right column on the right side, where the condition reads the joined row
pub join-right : (width other : ℕ) (c : Term) (j : Join) → JoinForm width c j → ReadsBelow (width + other) c → j.rc < other
join-right width other c j (forth o kinds a b e below from) reads =
    shift_below width other b (All-head (λ n. n < width + other) b [] (All-tail (λ n. n < width + other) a (b ∷ []) reads)) from
join-right width other c j (back o kinds a b e below from) reads = shift_below width other a (All-head (λ n. n < width + other) a (b ∷ []) reads) from

-- ---- what it means

do_overlap-swap : (a b : Extent) → do_overlap a b ≡ do_overlap b a
do_overlap-swap a b = grind (arith, nat_tests)

overlaps_turned : (x y : Option Extent) → holds do_overlap x y ≡ holds do_overlap y x
overlaps_turned (Some a) (Some b) = do_overlap-swap a b
overlaps_turned (Some a) None = refl
overlaps_turned None (Some b) = refl
overlaps_turned None None = refl

module _ (lists : Lists) (doc : Document) where
  -- the two kinds of an operator join by it, with its first column on the left and on the right
  record JoinsBy (o : Op) (kinds : JoinKind × JoinKind) : Type 0 where
    first : (a b : ℕ) (row : List Datum) → holding lists doc (of_columns o a b ∷ []) row ≡ holds (does_join doc kinds.0) (span_in a row) (span_in b row)
    second : (a b : ℕ) (row : List Datum) → holding lists doc (of_columns o a b ∷ []) row ≡ holds (does_join doc kinds.1) (span_in b row) (span_in a row)

  joins_by : (o : Op) (kinds : JoinKind × JoinKind) → kinds_of o ≡ Some kinds → JoinsBy o kinds
  joins_by (op.Follows min max) kinds is = subst (JoinsBy (op.Follows min max)) (some_is _ kinds is) (record {
    first = λ a b row. holding-predicate lists doc (kind.Follows min max) a b row;
    second = λ a b row. holding-predicate lists doc (kind.FollowsBack min max) b a row;
  })
  joins_by (op.FollowsTok min max) kinds is = subst (JoinsBy (op.FollowsTok min max)) (some_is _ kinds is) (record {
    first = λ a b row. holding-predicate lists doc (kind.FollowsTok min max) a b row;
    second = λ a b row. holding-predicate lists doc (kind.FollowsTokBack min max) b a row;
  })
  joins_by op.Overlaps kinds is = subst (JoinsBy op.Overlaps) (some_is _ kinds is) (record {
    first = λ a b row. holding-predicate lists doc kind.Overlaps a b row;
    second = λ a b row. holding-predicate lists doc kind.Overlaps a b row ∙ overlaps_turned (span_in a row) (span_in b row);
  })
  joins_by op.Contains kinds is = subst (JoinsBy op.Contains) (some_is _ kinds is) (record {
    first = λ a b row. holding-predicate lists doc kind.Contains a b row;
    second = λ a b row. holding-predicate lists doc kind.ContainsBack b a row;
  })
  joins_by o kinds is = absurd (none_some kinds is)

  -- where n stands behind the left side
  behind : (width n : ℕ) → width ≤ n → width + (n - width) ≡ n
  behind width n from = omega (arith, from)

  -- the condition holds of a joined row where the join's predicate holds of its two spans
  pub join-means : (width : ℕ) (c : Term) (j : Join) → JoinForm width c j → (row : List Datum)
      → holding lists doc (c ∷ []) row ≡ holds (does_join doc j.kind) (span_in j.lc row) (span_in (width + j.rc) row)
  join-means width c j (forth o kinds a b e below from) row =
      (joins_by o kinds e).first a b row ∙ ap (λ (n : ℕ). holds (does_join doc kinds.0) (span_in a row) (span_in n row)) (sym (behind width b from))
  join-means width c j (back o kinds a b e below from) row =
      (joins_by o kinds e).second a b row ∙ ap (λ (n : ℕ). holds (does_join doc kinds.1) (span_in b row) (span_in n row)) (sym (behind width a from))
