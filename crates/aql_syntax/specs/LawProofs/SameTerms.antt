-- The test of `specs/Sameness.antt` answers whether two expressions are equal but for places.
use Rattle.std.proofs.Common.{◌≡◌, ◌∙◌, ℕ, ℤ, Bool, true, false, ◌&&◌, List, [], ◌∷◌, length, map, refl, ap, sym, arith}
use Rattle.std.specs.declared.vec.Vec.{Vec}
use Rattle.std.specs.declared.alloc.Global.{Global}
use Rattle.std.proofs.lemmas.Bool.{false≢true}
use Rattle.aql_syntax.specs.declared.tree.Ast.{Ast}
use Rattle.aql_syntax.specs.declared.tree.Form.{Form}
use Rattle.aql_syntax.specs.declared.tree.Form.TheVariants as form
use Rattle.aql_syntax.specs.Views.{term_at, term_of}
use Rattle.aql_syntax.specs.Nodes.{call_view}
use Rattle.std.specs.Bool.{Decides}
use Rattle.std.specs.Str.{bytes_eq}
use Rattle.std.specs.Ordering.{int_eq}
use Rattle.std.proofs.lemmas.Bool.Decides.{Decides-int_eq}
use Rattle.std.proofs.lemmas.Slice.Eq.{bytes_eq-Decides}
use Rattle.aql_syntax.specs.Trees.{Name, Term, int, str, regex, column, bare, call, star, Terms, no_terms, more_terms, as_terms}
use Rattle.aql_syntax.specs.Sameness.{unplaced_name, unplaced, all_unplaced, AreSame, is_same_name, is_same, are_same}

both : (x y : Bool) → (x && y) ≡ true → (x ≡ true) × (y ≡ true)
both true y h = (refl, h)
both false y h = absurd (false≢true h)

and_both : (x y : Bool) → x ≡ true → y ≡ true → (x && y) ≡ true
and_both x y p q = ap (λ z. z && y) p ∙ q

text_is : (x y : List ℕ) → bytes_eq x y ≡ true → x ≡ y
text_is x y h = (bytes_eq-Decides x y).0 h

text_itself : (x : List ℕ) → bytes_eq x x ≡ true
text_itself x = (bytes_eq-Decides x x).1 refl

int_itself : (x : ℤ) → int_eq x x ≡ true
int_itself x = (Decides-int_eq x x).1 refl

name_is : (x y : Name) → is_same_name x y ≡ true → unplaced_name x ≡ unplaced_name y
name_is x y h = ap (λ (text : List ℕ). record { text = text; at = 0 }) (text_is x.text y.text h)

mutual
  same_is : (a b : Term) → is_same a b ≡ true → unplaced a ≡ unplaced b
  same_is (int at value) (int place other) h = ap (int 0) ((Decides-int_eq value other).0 h)
  same_is (str at text) (str place other) h = ap (str 0) (text_is text other h)
  same_is (regex at text) (regex place other) h = ap (regex 0) (text_is text other h)
  same_is (column at alias name) (column place other_alias other) h =
      let p = both (is_same_name alias other_alias) (is_same_name name other) h in
      ap (λ x. column 0 x (unplaced_name name)) (name_is alias other_alias p.0) ∙ ap (column 0 (unplaced_name other_alias)) (name_is name other p.1)
  same_is (bare at name) (bare place other) h = ap (bare 0) (name_is name other h)
  same_is (call at word args) (call place other others) h =
      let p = both (bytes_eq word other) (are_same args others) h in
      ap (λ x. call 0 x (all_unplaced args)) (text_is word other p.0) ∙ ap (call 0 other) (all_is args others p.1)
  same_is (star at word) (star place other) h = ap (star 0) (text_is word other h)
  same_is term other h = absurd (false≢true h)

  all_is : (xs ys : Terms) → are_same xs ys ≡ true → all_unplaced xs ≡ all_unplaced ys
  all_is no_terms no_terms h = refl
  all_is (more_terms x xs) (more_terms y ys) h =
      let p = both (is_same x y) (are_same xs ys) h in
      ap (λ z. more_terms z (all_unplaced xs)) (same_is x y p.0) ∙ ap (more_terms (unplaced y)) (all_is xs ys p.1)
  all_is args others h = absurd (false≢true h)

-- places don't count
mutual
  unplaced_same : (a b : Term) → is_same (unplaced a) (unplaced b) ≡ is_same a b
  unplaced_same (int at value) (int place other) = refl
  unplaced_same (int at value) other = refl
  unplaced_same (str at text) (str place other) = refl
  unplaced_same (str at text) other = refl
  unplaced_same (regex at text) (regex place other) = refl
  unplaced_same (regex at text) other = refl
  unplaced_same (column at alias name) (column place other_alias other) = refl
  unplaced_same (column at alias name) other = refl
  unplaced_same (bare at name) (bare place other) = refl
  unplaced_same (bare at name) other = refl
  unplaced_same (call at word args) (call place other others) = ap (λ rest. bytes_eq word other && rest) (all_unplaced_same args others)
  unplaced_same (call at word args) other = refl
  unplaced_same (star at word) (star place other) = refl
  unplaced_same (star at word) other = refl

  all_unplaced_same : (xs ys : Terms) → are_same (all_unplaced xs) (all_unplaced ys) ≡ are_same xs ys
  all_unplaced_same (more_terms x xs) (more_terms y ys) =
      ap (λ z. z && are_same (all_unplaced xs) (all_unplaced ys)) (unplaced_same x y) ∙ ap (λ z. is_same x y && z) (all_unplaced_same xs ys)
  all_unplaced_same (more_terms x xs) no_terms = refl
  all_unplaced_same no_terms no_terms = refl
  all_unplaced_same no_terms (more_terms y ys) = refl

mutual
  same_itself : (a : Term) → is_same a a ≡ true
  same_itself (int at value) = int_itself value
  same_itself (str at text) = text_itself text
  same_itself (regex at text) = text_itself text
  same_itself (column at alias name) = and_both (is_same_name alias alias) (is_same_name name name) (text_itself alias.text) (text_itself name.text)
  same_itself (bare at name) = text_itself name.text
  same_itself (call at word args) = and_both (bytes_eq word word) (are_same args args) (text_itself word) (all_itself args)
  same_itself (star at word) = text_itself word

  all_itself : (xs : Terms) → are_same xs xs ≡ true
  all_itself no_terms = refl
  all_itself (more_terms x xs) = and_both (is_same x x) (are_same xs xs) (same_itself x) (all_itself xs)

pub decides : (a b : Term) → Decides (is_same a b) (AreSame a b)
decides a b = (
  same_is a b,
  λ h. sym (unplaced_same a b) ∙ ap (is_same (unplaced a)) (sym h) ∙ same_itself (unplaced a),
)

-- lists of different lengths are not the same
pub not_as_long : (xs ys : List Term) → (length xs ≡ length ys → ⊥) → are_same (as_terms xs) (as_terms ys) ≡ false
not_as_long [] [] h = absurd (h refl)
not_as_long [] (y ∷ ys) h = refl
not_as_long (x ∷ xs) [] h = refl
not_as_long (x ∷ xs) (y ∷ ys) h =
    ap (λ z. is_same x y && z) (not_as_long xs ys (λ e. h (omega (arith, e)))) ∙ and_false (is_same x y)
  where
    and_false : (b : Bool) → (b && false) ≡ false
    and_false true = refl
    and_false false = refl

-- an expression that is known to be a call of this name with these arguments
pub called : (at : ℕ) (f : Form) (name : List ℕ) (args : Vec Ast Global) → f ≡ form.Call name args
    → (text : List ℕ) → text ≡ name → (items : List Ast) → items ≡ args.items
    → term_at at f ≡ call at text (as_terms (map term_of items))
called at f name args is text same_text items same_items =
    ap (term_at at) is
    ∙ call_view at name args
    ∙ ap (λ (other : List ℕ). call at other (as_terms (map term_of args.items))) (sym same_text)
    ∙ ap (λ (others : List Ast). call at text (as_terms (map term_of others))) (sym same_items)
