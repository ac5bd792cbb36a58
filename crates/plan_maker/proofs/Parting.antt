-- Conditions that are taken apart.
use Rattle.std.proofs.Common.{◌≡◌, ◌∙◌, ℕ, ◌+◌, ◌<◌, ◌&&◌, Bool, true, false, List, [], ◌∷◌, ◌++◌, map, length, take, get_or, refl, sym, ap, ap₂, subst, arith, Bor}
use Rattle.std.specs.List.{All, list_all}
use Rattle.std.specs.declared.vec.Vec.{Vec}
use Rattle.std.specs.declared.alloc.Global.{Global}
use Rattle.std.proofs.lemmas.List.{map-append, get_or_append_left, get_or-append-add, length-append, length-map, get_or-map, take_more}
use Rattle.std.proofs.lemmas.List.Elements.{All-nil, All-cons, All-push}
use Rattle.span_token.specs.Documents.{Doc}
use Rattle.row_values.specs.Datums.{Datum}
use Rattle.scalar_ops.specs.declared.expr.Expr.{Expr}
use Rattle.scalar_ops.specs.declared.expr.Expr.TheVariants as expr
use Rattle.scalar_ops.specs.declared.op.Op.TheVariants.{And}
use Rattle.scalar_ops.specs.Expressions.{Term, call, terms, columns_of, columns_in, ReadsBelow}
use Rattle.scalar_ops.specs.Operators.{is_true}
use Rattle.scalar_ops.specs.Tables.{Lists}
use Rattle.scalar_ops.specs.Values.{value, holding}
use Rattle.scalar_ops.specs.ValueLaws.{holding-append, holding-and}
use Rattle.scalar_ops.specs.Views.{term_of}
use Rattle.plan_maker.specs.Grounds.{terms_lent}
use Rattle.plan_maker.proofs.ExprViews.{call_view}

all-left : {X : Type 0} (P : X → Type 0) (xs ys : List X) → All P (xs ++ ys) → All P xs
all-left P xs ys all k d below = subst P (get_or_append_left xs ys d k below) (all k d (omega (arith, below, length-append xs ys)))

all-right : {X : Type 0} (P : X → Type 0) (xs ys : List X) → All P (xs ++ ys) → All P ys
all-right P xs ys all k d below = subst P (get_or-append-add xs ys k d) (all (length xs + k) d (omega (arith, below, length-append xs ys)))

-- what a call reads below a width each argument reads below it
reads_each : (width : ℕ) (ts : List Term) → All (λ n. n < width) (columns_in (terms ts)) → All (ReadsBelow width) ts
reads_each width [] all = All-nil (ReadsBelow width)
reads_each width (t ∷ ts) all =
    All-cons (ReadsBelow width) t ts (all-left (λ n. n < width) (columns_of t) (columns_in (terms ts)) all)
    (reads_each width ts (all-right (λ n. n < width) (columns_of t) (columns_in (terms ts)) all))

module _ (cond : Expr) (args : Vec Expr Global) (is : cond ≡ expr.Call And args) where
  pub parts_read : (width : ℕ) → ReadsBelow width (term_of cond) → All (ReadsBelow width) (map term_of args.items)
  parts_read width reads =
      reads_each width (map term_of args.items)
      (subst (λ (t : Term). ReadsBelow width t) (call_view And args) (subst (λ (e : Expr). ReadsBelow width (term_of e)) is reads))

  -- an `And` of one condition or more is these conditions
  pub parts_hold : (lists : Lists) (doc : Doc) (row : List Datum) → 0 < length args.items → holding lists doc (map term_of args.items) row ≡ is_true (value lists doc row (term_of cond))
  parts_hold lists doc row some =
      sym (ap (λ (e : Expr). is_true (value lists doc row (term_of e))) is ∙ (ap (λ (t : Term). is_true (value lists doc row t)) (call_view And args) ∙ by (map term_of args.items) (omega (arith, some, length-map args.items term_of))))
    where
      by : (ts : List Term) → 0 < length ts → is_true (value lists doc row (call And (terms ts))) ≡ holding lists doc ts row
      by [] none = absurd (omega (arith, none))
      by (t ∷ ts) some = holding-and lists doc row t ts

-- one condition more
and_true : (b : Bool) → (b && true) ≡ b
and_true true = refl
and_true false = refl

pub holding_push : (lists : Lists) (doc : Doc) (row : List Datum) (before after : List (Bor Expr)) (cond : Bor Expr) → after ≡ before ++ cond ∷ []
    → holding lists doc (terms_lent after) row ≡ (holding lists doc (terms_lent before) row && is_true (value lists doc row (term_of cond.now)))
holding_push lists doc row before after cond put =
    ap (λ (cs : List (Bor Expr)). holding lists doc (terms_lent cs) row) put
    ∙ (ap (λ (ts : List Term). holding lists doc ts row) (map-append (λ (c : Bor Expr). term_of c.now) before (cond ∷ []))
    ∙ (holding-append lists doc row (terms_lent before) (term_of cond.now ∷ []) ∙ ap (λ (b : Bool). holding lists doc (terms_lent before) row && b) (and_true (is_true (value lists doc row (term_of cond.now))))))

pub reads_push : (width : ℕ) (before after : List (Bor Expr)) (cond : Bor Expr) → after ≡ before ++ cond ∷ [] → All (ReadsBelow width) (terms_lent before) → ReadsBelow width (term_of cond.now)
    → All (ReadsBelow width) (terms_lent after)
reads_push width before after cond put all one =
    subst (λ (cs : List (Bor Expr)). All (ReadsBelow width) (terms_lent cs)) (sym put)
    (subst (All (ReadsBelow width)) (sym (map-append (λ (c : Bor Expr). term_of c.now) before (cond ∷ []))) (All-push (ReadsBelow width) (terms_lent before) (term_of cond.now) all one))

and_further : (a b c : Bool) → ((a && b) && c) ≡ (a && (b && c))
and_further true b c = refl
and_further false b c = refl

-- the parts of one condition more
pub holding_more : (lists : Lists) (doc : Doc) (row : List Datum) (conds : List Expr) (i : ℕ) (cond : Expr) (first before after : Bool) → i < length conds → cond ≡ get_or conds i cond
    → before ≡ (first && holding lists doc (map term_of (take i conds)) row) → after ≡ (before && is_true (value lists doc row (term_of cond)))
    → after ≡ (first && holding lists doc (map term_of (take (i + 1) conds)) row)
holding_more lists doc row conds i cond first before after below at so_far put =
    let front = holding lists doc (map term_of (take i conds)) row in
    let one = is_true (value lists doc row (term_of cond)) in
    put ∙ (ap (λ (b : Bool). b && one) so_far
    ∙ (and_further first front one
    ∙ ap (λ (b : Bool). first && b) (sym (ap (λ (es : List Expr). holding lists doc (map term_of es) row) (take_more conds i cond below ∙ ap (λ (e : Expr). take i conds ++ e ∷ []) (sym at))
    ∙ (ap (λ (ts : List Term). holding lists doc ts row) (map-append term_of (take i conds) (cond ∷ []))
    ∙ (holding-append lists doc row (map term_of (take i conds)) (term_of cond ∷ []) ∙ ap (λ (b : Bool). front && b) (and_true one)))))))

-- the condition with a number reads what all read
pub reads_at : (width : ℕ) (conds : List Expr) (i : ℕ) (cond : Expr) → i < length conds → cond ≡ get_or conds i cond → All (ReadsBelow width) (map term_of conds) → ReadsBelow width (term_of cond)
reads_at width conds i cond below at all =
    subst (ReadsBelow width) (get_or-map term_of conds i cond (term_of cond) below ∙ ap term_of (sym at)) (all i (term_of cond) (omega (arith, below, length-map conds term_of)))
