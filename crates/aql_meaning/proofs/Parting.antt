-- `And` and the conditions that it joins.
use Rattle.std.proofs.Common.{◌≡◌, ◌∙◌, ℕ, ◌<◌, ◌≤◌, ◌+◌, ◌&&◌, Bool, true, false, ◌++◌, List, [], ◌∷◌, map, length, take, get_or, append_assoc, refl, sym, ap, subst, arith}
use Rattle.std.specs.declared.vec.Vec.{Vec}
use Rattle.std.specs.declared.alloc.Global.{Global}
use Rattle.std.proofs.lemmas.List.{append-nil, map-append, length-map, take_more, take_all}
use mathlib.Core.Former.{Count}
use Rattle.scalar_ops.specs.declared.op.Op.{Op}
use Rattle.scalar_ops.specs.declared.op.Op.TheVariants.{And}
use Rattle.scalar_ops.specs.declared.expr.Expr.{Expr, Row_of-Expr, end_of-Expr, more_of-Expr, items-the_row-Expr, items_hidden-the_row-Expr-0}
use Rattle.scalar_ops.specs.declared.expr.Expr.TheVariants as expr
use Rattle.scalar_ops.specs.Expressions.{Term, call, more, terms}
use Rattle.scalar_ops.specs.Operators.{is_true}
use Rattle.scalar_ops.specs.Values.{value, holding}
use Rattle.scalar_ops.specs.ValueLaws.{holding-append, holding-and}
use Rattle.scalar_ops.specs.Views.{term_of, terms_of}
use Rattle.aql_meaning.specs.Nests.{HoldAlike}

-- ---- a call is seen through the list of its arguments

args_view : (n : Count) (row : Row_of-Expr n) → terms_of row ≡ terms (map term_of (items-the_row-Expr n row))
args_view n end_of-Expr = refl
args_view n (more_of-Expr arg rest) = ap (more (term_of arg)) (args_view _ rest)

abbrev args_of : Expr → (n : Count) × Row_of-Expr n
args_of (expr.Call' op shape row) = (_, row)
args_of _ = (_, end_of-Expr)

call_view : (op : Op) (args : Vec Expr Global) → term_of (expr.Call op args) ≡ call op (terms (map term_of args.items))
call_view op args =
    let row = args_of (expr.Call op args) in
    ap (call op) (args_view row.0 row.1 ∙ ap (λ (xs : List Expr). terms (map term_of xs)) (items_hidden-the_row-Expr-0 args))

-- ---- conditions in place of others

and_true : (b : Bool) → (b && true) ≡ b
and_true true = refl
and_true false = refl

-- `And` of one condition or more holds where they hold
joined_alike : (conds : List Term) → 0 < length conds → HoldAlike conds (call And (terms conds) ∷ [])
joined_alike [] some lists doc row = let no : ⊥ = omega arith in absurd no
joined_alike (c ∷ cs) some lists doc row =
    sym (holding-and lists doc row c cs) ∙ sym (and_true (is_true (value lists doc row (call And (terms (c ∷ cs))))))

alike_behind : (front conds others : List Term) → HoldAlike conds others → HoldAlike (front ++ conds) (front ++ others)
alike_behind front conds others alike lists doc row =
    holding-append lists doc row front conds
    ∙ (ap (λ (b : Bool). holding lists doc front row && b) (alike lists doc row) ∙ sym (holding-append lists doc row front others))

-- an `And` that is put by its parts
pub and_put : (before after : List Term) (e : Expr) (op : Op) (args : Vec Expr Global) → e ≡ expr.Call op args → op ≡ And → 0 < length args.items
    → HoldAlike after (before ++ map term_of args.items) → HoldAlike after (before ++ term_of e ∷ [])
and_put before after e op args is is_and some put lists doc row =
    put lists doc row
    ∙ (alike_behind before (map term_of args.items) (call And (terms (map term_of args.items)) ∷ [])
    (joined_alike (map term_of args.items) (omega (arith, some, length-map args.items term_of))) lists doc row
    ∙ ap (λ (t : Term). holding lists doc (before ++ t ∷ []) row) (sym (ap term_of is ∙ (call_view op args ∙ ap (λ (o : Op). call o (terms (map term_of args.items))) is_and))))

-- one condition more
pub parts_more : (front parts after : List Term) (conds : List Expr) (i : ℕ) (cond : Expr) → i < length conds → cond ≡ get_or conds i cond
    → HoldAlike parts (front ++ map term_of (take i conds)) → HoldAlike after (parts ++ term_of cond ∷ []) → HoldAlike after (front ++ map term_of (take (i + 1) conds))
parts_more front parts after conds i cond below at so_far put lists doc row =
    put lists doc row
    ∙ (holding-append lists doc row parts (term_of cond ∷ [])
    ∙ (ap (λ (b : Bool). b && holding lists doc (term_of cond ∷ []) row) (so_far lists doc row)
    ∙ (sym (holding-append lists doc row (front ++ map term_of (take i conds)) (term_of cond ∷ []))
    ∙ ap (λ (cs : List Term). holding lists doc cs row) (append_assoc front (map term_of (take i conds)) (term_of cond ∷ [])
    ∙ ap (λ (cs : List Term). front ++ cs) (sym (map-append term_of (take i conds) (cond ∷ []))
    ∙ ap (map term_of) (sym (take_more conds i cond below ∙ ap (λ (c : Expr). take i conds ++ c ∷ []) (sym at))))))))

-- none so far
pub parts_none : (front : List Term) (conds : List Expr) → HoldAlike front (front ++ map term_of (take 0 conds))
parts_none front conds lists doc row = ap (λ (cs : List Term). holding lists doc cs row) (sym (append-nil front))

-- and so of all
pub parts_all : (front parts : List Term) (conds : List Expr) (i : ℕ) → length conds ≤ i → HoldAlike parts (front ++ map term_of (take i conds)) → HoldAlike parts (front ++ map term_of conds)
parts_all front parts conds i end so_far = subst (λ (cs : List Expr). HoldAlike parts (front ++ map term_of cs)) (take_all i conds end) so_far
