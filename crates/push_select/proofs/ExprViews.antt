-- An expression that is made of a list is seen through its elements.
use Rattle.std.proofs.Common.{◌≡◌, ◌∙◌, ◌+◌, ◌-◌, ◌<◌, ◌&&◌, ℕ, Bool, List, [], ◌∷◌, ◌++◌, map, length, take, get_or, refl, ap, ap₂, sym, arith, Bor}
use Rattle.std.specs.Prelude.{nat_le}
use Rattle.std.specs.List.{list_all}
use Rattle.std.specs.declared.vec.Vec.{Vec}
use Rattle.std.specs.declared.alloc.Global.{Global}
use Rattle.std.proofs.lemmas.List.{map-append, map_more}
use Rattle.std.proofs.lemmas.List.Folds.{list_all-append, list_all-map}
use mathlib.Core.Former.{Count}
use Rattle.scalar_ops.specs.declared.op.Op.{Op}
use Rattle.scalar_ops.specs.declared.expr.Expr.{Expr, Row_of-Expr, end_of-Expr, more_of-Expr, items-the_row-Expr, items_hidden-the_row-Expr-0}
use Rattle.scalar_ops.specs.declared.expr.Expr.TheVariants as expr
use Rattle.scalar_ops.specs.Expressions.{Term, Terms, column, number, string, call, none, more, terms, columns_of, columns_in, does_read_from, renamed, all_renamed}
use Rattle.scalar_ops.specs.Views.{term_of, terms_of}
use Rattle.push_select.specs.Conditions.{terms_lent}

args_view : (n : Count) (row : Row_of-Expr n) → terms_of row ≡ terms (map term_of (items-the_row-Expr n row))
args_view n end_of-Expr = refl
args_view n (more_of-Expr arg rest) = ap (more (term_of arg)) (args_view _ rest)

abbrev args_of : Expr → (n : Count) × Row_of-Expr n
args_of (expr.Call' op shape row) = (_, row)
args_of _ = (_, end_of-Expr)

-- a call is seen through the list of its arguments
pub call_view : (op : Op) (args : Vec Expr Global) → term_of (expr.Call op args) ≡ call op (terms (map term_of args.items))
call_view op args =
    let row = args_of (expr.Call op args) in
    ap (call op) (args_view row.0 row.1 ∙ ap (λ (xs : List Expr). terms (map term_of xs)) (items_hidden-the_row-Expr-0 args))

-- ---- other numbers of columns

module _ (rename : ℕ → ℕ) where
  terms_renamed : (xs : List Expr) → terms (map (λ x. renamed rename (term_of x)) xs) ≡ all_renamed rename (terms (map term_of xs))
  terms_renamed [] = refl
  terms_renamed (x ∷ xs) = ap (more (renamed rename (term_of x))) (terms_renamed xs)

  -- a call with such numbers is the call of arguments with such numbers
  pub renamed_call : (e : Expr) (op : Op) (args copies : Vec Expr Global) → e ≡ expr.Call op args
      → map term_of copies.items ≡ map (λ x. renamed rename (term_of x)) args.items → term_of (expr.Call op copies) ≡ renamed rename (term_of e)
  renamed_call e op args copies is by =
      call_view op copies
      ∙ (ap (λ (ts : List Term). call op (terms ts)) by
      ∙ (ap (λ (ts : Terms). call op ts) (terms_renamed args.items)
      ∙ (sym (ap (λ (t : Term). renamed rename t) (call_view op args)) ∙ sym (ap (λ (x : Expr). renamed rename (term_of x)) is))))

less_none : (n : ℕ) → n - 0 ≡ n
less_none n = omega arith

mutual
  -- numbers that are less by nothing are the same
  renamed-none : (t : Term) → renamed (λ n. n - 0) t ≡ t
  renamed-none (column n) = ap column (less_none n)
  renamed-none (number n) = refl
  renamed-none (string t) = refl
  renamed-none (call op args) = ap (call op) (all_renamed-none args)

  all_renamed-none : (ts : Terms) → all_renamed (λ n. n - 0) ts ≡ ts
  all_renamed-none none = refl
  all_renamed-none (more t ts) = ap₂ (λ (a : Term) (b : Terms). more a b) (renamed-none t) (all_renamed-none ts)

pub none_less : (conds : List (Bor Expr)) → map (λ (cond : Bor Expr). renamed (λ n. n - 0) (term_of cond.now)) conds ≡ terms_lent conds
none_less [] = refl
none_less (c ∷ conds) = ap₂ (λ (t : Term) (ts : List Term). t ∷ ts) (renamed-none (term_of c.now)) (none_less conds)

pub none_less_terms : (exprs : List Expr) → map (λ (e : Expr). renamed (λ n. n - 0) (term_of e)) exprs ≡ map term_of exprs
none_less_terms [] = refl
none_less_terms (e ∷ exprs) = ap₂ (λ (t : Term) (ts : List Term). t ∷ ts) (renamed-none (term_of e)) (none_less_terms exprs)

-- expressions with the numbers that columns have in a list
terms_named : (shown : List ℕ) (exprs : List Expr) → map (λ (e : Expr). renamed (λ n. get_or shown n 0) (term_of e)) exprs ≡ map (renamed (λ n. get_or shown n 0)) (map term_of exprs)
terms_named shown [] = refl
terms_named shown (e ∷ exprs) = ap (λ (ts : List Term). renamed (λ n. get_or shown n 0) (term_of e) ∷ ts) (terms_named shown exprs)

pub named-terms : (seen shown : List ℕ) (exprs copies : List Expr) (terms given : List Term) → seen ≡ shown → map term_of exprs ≡ terms
    → map term_of copies ≡ map (λ (e : Expr). renamed (λ n. get_or seen n 0) (term_of e)) exprs → given ≡ map term_of copies → given ≡ map (renamed (λ n. get_or shown n 0)) terms
named-terms seen shown exprs copies terms given same are named is =
    is ∙ (named ∙ (ap (λ (list : List ℕ). map (λ (e : Expr). renamed (λ n. get_or list n 0) (term_of e)) exprs) same
    ∙ (terms_named shown exprs ∙ ap (map (renamed (λ n. get_or shown n 0))) are)))

-- one function after another
pub terms_renamed_lent : (rename : ℕ → ℕ) (conds : List (Bor Expr)) → map (λ (cond : Bor Expr). renamed rename (term_of cond.now)) conds ≡ map (renamed rename) (terms_lent conds)
terms_renamed_lent rename [] = refl
terms_renamed_lent rename (c ∷ conds) = ap (λ (ts : List Term). renamed rename (term_of c.now) ∷ ts) (terms_renamed_lent rename conds)

-- one copy more
pub copies_more : {X : Type 0} (f : X → Term) (xs : List X) (i : ℕ) (x : X) (before after : List Expr) (copy : Expr) → i < length xs → x ≡ get_or xs i x → map term_of before ≡ map f (take i xs)
    → after ≡ before ++ copy ∷ [] → term_of copy ≡ f x → map term_of after ≡ map f (take (i + 1) xs)
copies_more f xs i x before after copy below at so_far put is =
    ap (λ (es : List Expr). map term_of es) put
    ∙ (map-append term_of before (copy ∷ [])
    ∙ (ap₂ (λ (ts : List Term) (t : Term). ts ++ t ∷ []) so_far (is ∙ ap f at) ∙ sym (map_more f xs i x below)))

-- ---- what is read

read_from-terms : (width : ℕ) (ts : List Term) → list_all (λ n. nat_le width n) (columns_in (terms ts)) ≡ list_all (does_read_from width) ts
read_from-terms width [] = refl
read_from-terms width (t ∷ ts) =
    list_all-append (λ n. nat_le width n) (columns_of t) (columns_in (terms ts)) ∙ ap (λ b. does_read_from width t && b) (read_from-terms width ts)

-- a call reads from a width on where each argument does
pub read_from_call : (width : ℕ) (e : Expr) (op : Op) (args : Vec Expr Global) (found : Bool) → e ≡ expr.Call op args
    → found ≡ list_all (λ e. does_read_from width (term_of e)) args.items → found ≡ does_read_from width (term_of e)
read_from_call width e op args found is by_arguments =
    by_arguments
    ∙ (sym (list_all-map (does_read_from width) term_of args.items)
    ∙ (sym (read_from-terms width (map term_of args.items))
    ∙ (ap (does_read_from width) (sym (call_view op args))
    ∙ ap (λ x. does_read_from width (term_of x)) (sym is))))
