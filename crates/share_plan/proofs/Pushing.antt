-- Numbers that are put behind others, one list after another.
use Rattle.std.proofs.Common.{◌≡◌, ◌∙◌, ℕ, ℤ, pos, ◌+◌, ◌<◌, List, [], ◌∷◌, ◌++◌, length, map, take, get_or, refl, sym, ap, append_assoc}
use Rattle.std.specs.List.{flat_map}
use Rattle.std.proofs.lemmas.List.{flat_map_more, map-append, take_more}
use Rattle.scalar_ops.specs.declared.expr.Expr.{Expr}
use Rattle.scalar_ops.specs.declared.op.Op.{Op}
use Rattle.scalar_ops.specs.Expressions.{Term, call, terms}
use Rattle.scalar_ops.specs.Views.{term_of}
use Rattle.share_plan.specs.ExprWords.{op_words, term_words, argument_words, list_words}

-- one element more of a list
pub taken_more : {X : Type 0} (xs : List X) (i : ℕ) (x : X) → i < length xs → x ≡ get_or xs i x → take (i + 1) xs ≡ take i xs ++ x ∷ []
taken_more {X} xs i x below is = take_more xs i x below ∙ ap (λ (y : X). take i xs ++ y ∷ []) (sym is)

pub lists_more : {X : Type 0} (f : X → List ℤ) (start before after : List ℤ) (xs : List X) (i : ℕ) (x : X) → i < length xs → x ≡ get_or xs i x
    → before ≡ start ++ flat_map f (take i xs) → after ≡ before ++ f x → after ≡ start ++ flat_map f (take (i + 1) xs)
lists_more {X} f start before after xs i x below is so_far put =
    put
    ∙ (ap (λ (all : List ℤ). all ++ f x) so_far
    ∙ (flat_map_more f start (take i xs) x ∙ ap (λ (all : List X). start ++ flat_map f all) (sym (taken_more xs i x below is))))

-- an expression more, with its mark
pub exprs_more : (start before between after : List ℤ) (exprs : List Expr) (i : ℕ) (e : Expr) → i < length exprs → e ≡ get_or exprs i e
    → before ≡ start ++ list_words (map term_of (take i exprs)) → between ≡ before ++ term_words (term_of e) → after ≡ between ++ pos 4 ∷ pos 0 ∷ []
    → after ≡ start ++ list_words (map term_of (take (i + 1) exprs))
exprs_more start before between after exprs i e below is so_far put marked =
    let f = λ (t : Term). term_words t ++ pos 4 ∷ pos 0 ∷ [] in
    let ts = map term_of (take i exprs) in
    let more : map term_of (take (i + 1) exprs) ≡ ts ++ term_of e ∷ [] = ap (map term_of) (taken_more exprs i e below is) ∙ map-append term_of (take i exprs) (e ∷ []) in
    marked
    ∙ (ap (λ (all : List ℤ). all ++ pos 4 ∷ pos 0 ∷ []) put
    ∙ (append_assoc before (term_words (term_of e)) (pos 4 ∷ pos 0 ∷ [])
    ∙ (ap (λ (all : List ℤ). all ++ f (term_of e)) so_far
    ∙ (flat_map_more f start ts (term_of e) ∙ ap (λ (all : List Term). start ++ list_words all) (sym more)))))

arguments-are : (ts : List Term) → argument_words (terms ts) ≡ list_words ts
arguments-are [] = refl
arguments-are (t ∷ ts) = ap (λ (rest : List ℤ). (term_words t ++ pos 4 ∷ pos 0 ∷ []) ++ rest) (arguments-are ts)

-- the arguments of an operator, and then the operator
pub call_words : (old begun given after : List ℤ) (op : Op) (ts : List Term) → begun ≡ old ++ pos 5 ∷ pos 0 ∷ [] → given ≡ begun ++ list_words ts → after ≡ given ++ op_words op
    → after ≡ old ++ term_words (call op (terms ts))
call_words old begun given after op ts begins gives ends =
    ends
    ∙ (ap (λ (all : List ℤ). all ++ op_words op) (gives ∙ ap (λ (all : List ℤ). all ++ list_words ts) begins)
    ∙ (ap (λ (all : List ℤ). all ++ op_words op) (append_assoc old (pos 5 ∷ pos 0 ∷ []) (list_words ts))
    ∙ (append_assoc old (pos 5 ∷ pos 0 ∷ list_words ts) (op_words op)
    ∙ ap (λ (args : List ℤ). old ++ pos 5 ∷ pos 0 ∷ (args ++ op_words op)) (sym (arguments-are ts)))))

-- an operator's bounds, and then its number in the table
pub parts_pushed : (old one two after : List ℤ) (tag low high : ℤ) → one ≡ old ++ pos 6 ∷ low ∷ [] → two ≡ one ++ pos 7 ∷ high ∷ [] → after ≡ two ++ pos 8 ∷ tag ∷ []
    → after ≡ old ++ pos 6 ∷ low ∷ pos 7 ∷ high ∷ pos 8 ∷ tag ∷ []
parts_pushed old one two after tag low high first second third =
    third
    ∙ (ap (λ (all : List ℤ). all ++ pos 8 ∷ tag ∷ []) (second ∙ ap (λ (all : List ℤ). all ++ pos 7 ∷ high ∷ []) first)
    ∙ (append_assoc (old ++ pos 6 ∷ low ∷ []) (pos 7 ∷ high ∷ []) (pos 8 ∷ tag ∷ [])
    ∙ append_assoc old (pos 6 ∷ low ∷ []) (pos 7 ∷ high ∷ pos 8 ∷ tag ∷ [])))
