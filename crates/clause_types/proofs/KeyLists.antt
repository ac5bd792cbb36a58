-- Keys that are calls.
use Rattle.std.proofs.Common.{◌≡◌, ◌∙◌, ℕ, List, [], ◌∷◌, map, refl, ap, sym}
use Rattle.std.specs.declared.vec.Vec.{Vec}
use Rattle.std.specs.declared.alloc.Global.{Global}
use Rattle.aql_syntax.specs.declared.tree.Ast.{Ast}
use Rattle.aql_syntax.specs.declared.tree.Form.{Form}
use Rattle.aql_syntax.specs.declared.tree.Form.TheVariants as form
use Rattle.aql_syntax.specs.Nodes.{call_view}
use Rattle.aql_syntax.specs.Trees.{Term, call, more_terms, as_terms, Item}
use Rattle.aql_syntax.specs.Views.{term_at, term_of}
use Rattle.clause_types.specs.Keys.{written_out, all_written_out}

pub all-as_terms : (items : List Item) (ts : List Term) → all_written_out items (as_terms ts) ≡ as_terms (map (written_out items) ts)
all-as_terms items [] = refl
all-as_terms items (t ∷ ts) = ap (more_terms (written_out items t)) (all-as_terms items ts)

-- an expression that is known to be a call of this name with these arguments
pub called : (at : ℕ) (f : Form) (name : List ℕ) (args : Vec Ast Global) → f ≡ form.Call name args
    → (text : List ℕ) → text ≡ name → (exprs : List Ast) → exprs ≡ args.items
    → term_at at f ≡ call at text (as_terms (map term_of exprs))
called at f name args is text same_text exprs same_exprs =
    ap (term_at at) is
    ∙ (call_view at name args
    ∙ (ap (λ (other : List ℕ). call at other (as_terms (map term_of args.items))) (sym same_text)
    ∙ ap (λ (others : List Ast). call at text (as_terms (map term_of others))) (sym same_exprs)))

-- the same, written out
pub written_call : (items : List Item) (at : ℕ) (f : Form) (name : List ℕ) (args : Vec Ast Global) → f ≡ form.Call name args
    → (text : List ℕ) → text ≡ name → (exprs : List Ast) → exprs ≡ args.items
    → written_out items (term_at at f) ≡ call at text (as_terms (map (written_out items) (map term_of exprs)))
written_call items at f name args is text same_text exprs same_exprs =
    ap (written_out items) (called at f name args is text same_text exprs same_exprs)
    ∙ ap (call at text) (all-as_terms items (map term_of exprs))
