-- The entries of the dictionary with a name, where each name is defined once.
use Rattle.std.proofs.Common.{◌≡◌, ◌∙◌, ℕ, zero, suc, ◌-◌, ◌<◌, Bool, true, false, cond, Some, None, List, [], ◌∷◌, map, flat_map, length, get_or, Contains, refl, ap, sym, subst, arith}
use Rattle.std.specs.Str.{bytes_eq}
use Rattle.std.specs.Cmp.Lexicographic.{bytes_decides}
use Rattle.std.proofs.lemmas.List.Elements.{Contains-append_left, Contains-append_right}
use Rattle.aql_syntax.specs.Trees.{Name, Statement, module_, require, export, dictionary, create, output}
use Rattle.aql_syntax.specs.declared.tree.Statement as declared
use Rattle.aql_syntax.specs.Views.{statement_of}
use Rattle.view_graph.specs.Names.{Named, view_named, dictionary_named, defined_by, AllDiffer}
use Rattle.view_graph.specs.Uses.{statement_at}
use Rattle.view_graph.specs.Answers.{IsResolved}
use Rattle.view_graph.specs.Found.{FindsDictionary}
use Rattle.aql_tables.specs.Programs.{entries_of}

differ_head : {X : Type 0} (x : X) (xs : List X) → AllDiffer (x ∷ xs) → ¬ (Contains xs x)
differ_head x xs differ at = differ 0 (suc at.0) x (omega arith) (omega (arith, at.1)) (sym at.2)

differ_tail : {X : Type 0} (x : X) (xs : List X) → AllDiffer (x ∷ xs) → AllDiffer xs
differ_tail x xs differ = λ i j d before within. differ (suc i) (suc j) d (omega (arith, before)) (omega (arith, within))

some_same : {X : Type 0} (x y : X) (xs ys : List X) → x ∷ xs ≡ y ∷ ys → x ≡ y
some_same x y xs ys e = cc

named_same : (a b : List ℕ) → dictionary_named a ≡ dictionary_named b → a ≡ b
named_same a b e = cc

abbrev IsFilled : {X : Type 0} → List X → Type 0
IsFilled [] = ⊥
IsFilled (x ∷ xs) = Unit {0}

no_name : {X : Type 0} (x : X) → [] ≡ x ∷ [] → ⊥
no_name x e = subst IsFilled (sym e) tt

-- what the statement at an index defines is defined
defined_there : (ss : List Statement) (index : ℕ) (x : Named) → defined_by (statement_at ss index) ≡ x ∷ [] → Contains (flat_map defined_by ss) x
defined_there [] index x e = absurd (no_name x e)
defined_there (s ∷ ss) zero x e = Contains-append_left (defined_by s) (flat_map defined_by ss) x (subst (λ (ns : List Named). Contains ns x) (sym e) (0, omega arith, refl))
defined_there (s ∷ ss) (suc index) x e = Contains-append_right (defined_by s) (flat_map defined_by ss) x (defined_there ss index x e)

abbrev IsDictionary : Statement → Type 0
IsDictionary (dictionary own entries) = Unit {0}
IsDictionary statement = ⊥

-- the dictionary at an index is the first with its name
first_entries : (ss : List Statement) → AllDiffer (flat_map defined_by ss) → (index : ℕ) (own : Name) (entries : List (List ℕ))
    → statement_at ss index ≡ dictionary own entries → entries_of ss own.text ≡ Some entries
first_entries [] differ index own entries e = absurd (subst IsDictionary (sym e) tt)
first_entries (s ∷ ss) differ zero own entries e =
    subst (λ (s : Statement). entries_of (s ∷ ss) own.text ≡ Some entries) (sym e)
    (ap (λ b. cond b (Some entries) (entries_of ss own.text)) ((bytes_decides own.text own.text).1 refl))
first_entries (dictionary mine others ∷ ss) differ (suc index) own entries e =
    by (bytes_eq own.text mine.text) refl (first_entries ss (differ_tail (dictionary_named mine.text) (flat_map defined_by ss) differ) index own entries e)
  where
    by : (b : Bool) → bytes_eq own.text mine.text ≡ b → entries_of ss own.text ≡ Some entries → entries_of (dictionary mine others ∷ ss) own.text ≡ Some entries
    by true is later =
        absurd (differ_head (dictionary_named mine.text) (flat_map defined_by ss) differ
        (defined_there ss index (dictionary_named mine.text)
        (ap defined_by e ∙ ap (λ (name : List ℕ). dictionary_named name ∷ []) ((bytes_decides own.text mine.text).0 is))))
    by false isnt later = ap (λ b. cond b (Some others) (entries_of ss own.text)) isnt ∙ later
first_entries (create name query ∷ ss) differ (suc index) own entries e =
    first_entries ss (differ_tail (view_named name.text) (flat_map defined_by ss) differ) index own entries e
first_entries (module_ name ∷ ss) differ (suc index) own entries e = first_entries ss differ index own entries e
first_entries (require ∷ ss) differ (suc index) own entries e = first_entries ss differ index own entries e
first_entries (export name ∷ ss) differ (suc index) own entries e = first_entries ss differ index own entries e
first_entries (output name alias ∷ ss) differ (suc index) own entries e = first_entries ss differ index own entries e

-- a name that no dictionary has
no_entries : (ss : List Statement) (name : List ℕ) → ¬ (Contains (flat_map defined_by ss) (dictionary_named name)) → entries_of ss name ≡ None
no_entries [] name never = refl
no_entries (dictionary mine others ∷ ss) name never =
    by (bytes_eq name mine.text) refl (no_entries ss name (λ at. never (Contains-append_right (dictionary_named mine.text ∷ []) (flat_map defined_by ss) (dictionary_named name) at)))
  where
    by : (b : Bool) → bytes_eq name mine.text ≡ b → entries_of ss name ≡ None → entries_of (dictionary mine others ∷ ss) name ≡ None
    by true is later = absurd (never (0, omega arith, ap dictionary_named (sym ((bytes_decides name mine.text).0 is))))
    by false isnt later = ap (λ b. cond b (Some others) (entries_of ss name)) isnt ∙ later
no_entries (create own query ∷ ss) name never =
    no_entries ss name (λ at. never (Contains-append_right (view_named own.text ∷ []) (flat_map defined_by ss) (dictionary_named name) at))
no_entries (module_ own ∷ ss) name never = no_entries ss name never
no_entries (require ∷ ss) name never = no_entries ss name never
no_entries (export own ∷ ss) name never = no_entries ss name never
no_entries (output own alias ∷ ss) name never = no_entries ss name never

module _ (program : List Statement) (name : List ℕ) where
  -- a graph finds no dictionary
  pub found_none : FindsDictionary program name None → entries_of program name ≡ None
  found_none never = no_entries program name (λ at. never (Contains-append_right (_ ∷ []) (flat_map defined_by program) (dictionary_named name) at))

  -- a graph finds a dictionary
  pub found_entries : (order : List ℕ) → IsResolved program order → (number : ℕ) → FindsDictionary program name (Some number)
      → (own : Name) (entries : List (List ℕ)) → statement_at program (number - 1) ≡ dictionary own entries → entries_of program name ≡ Some entries
  found_entries order resolved number found own entries e =
      subst (λ (name : List ℕ). entries_of program name ≡ Some entries)
      (named_same own.text name (some_same (dictionary_named own.text) (dictionary_named name) [] [] (ap defined_by (sym e) ∙ found.1)))
      (first_entries program (differ_tail _ (flat_map defined_by program) resolved.outputs.names.distinct) (number - 1) own entries e)

  -- what it finds is a dictionary
  pub found_other : (number : ℕ) → FindsDictionary program name (Some number) → ¬ (defined_by (statement_at program (number - 1)) ≡ [])
  found_other number found none = no_name (dictionary_named name) (sym none ∙ found.1)

-- the statement of the code at an index
pub statement_found : (ss : List declared.Statement) (index : ℕ) (s : declared.Statement) → index < length ss → get_or ss index s ≡ s
    → statement_at (map statement_of ss) index ≡ statement_of s
statement_found [] index s within is = absurd (omega (arith, within))
statement_found (first ∷ ss) zero s within is = ap statement_of is
statement_found (first ∷ ss) (suc index) s within is = statement_found ss index s (omega (arith, within)) is
