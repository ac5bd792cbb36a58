-- Outputs in order keep their names apart, and each shows a view that is there.
use Rattle.std.proofs.Common.{◌≡◌, ◌∙◌, ◌≢◌, ◌<◌, ℕ, suc, Bool, true, false, cond, nat_lt, if◌then◌else◌, IfSome, Option, Some, None, List, [], ◌∷◌, ◌++◌, map, flat_map, length, All, AllPairs, refl, ap, sym, subst, arith}
use Rattle.std.specs.List.{position_or_len}
use Rattle.std.specs.Option.{option_to_list}
use Rattle.std.specs.Ordering.{is_lt}
use Rattle.std.specs.Str.{bytes_eq}
use Rattle.std.specs.declared.cmp.Ordering.{Ordering}
use Rattle.std.proofs.lemmas.Bool.{ltb-true}
use Rattle.std.proofs.lemmas.List.Elements.{All-nil, All-cons, All-head, All-tail, All-append}
use Rattle.std.proofs.lemmas.List.Kept.{AllPairs-cons}
use Rattle.aql_base.specs.Sorting.{put_in_order, sorted_by}
use Rattle.aql_syntax.specs.Naming.{output_name}
use Rattle.aql_syntax.specs.Trees.{Name, Statement, output}
use Rattle.view_graph.specs.Names.{output_of, outputs_of, AllDiffer}
use Rattle.aql_typed.specs.Programs.{NamesView, AreTypedOutputs}
use Rattle.aql_typed.specs.declared.tree.Output.{Output}
use Rattle.aql_types.specs.Programs.{view_number, output_with, output_in, by_name, outputs_of_program}
use Rattle.aql_types.specs.Queries.{View}

pairs_tail : {X : Type 0} (R : X → X → Type 0) (x : X) (xs : List X) → AllPairs R (x ∷ xs) → AllPairs R xs
pairs_tail R x xs h = λ i j d less within. h (suc i) (suc j) d (omega (arith, less)) (omega (arith, within))

pairs_head : {X : Type 0} (R : X → X → Type 0) (x : X) (xs : List X) → AllPairs R (x ∷ xs) → All (R x) xs
pairs_head R x xs h = λ k d below. h 0 (suc k) d (omega arith) (omega (arith, below))

module _ {X Y : Type 0} (cmp : X → X → Ordering) (f : X → Y) where
  -- what holds of each holds in order
  put_all : (P : Y → Type 0) (x : X) (xs : List X) → P (f x) → All P (map f xs) → All P (map f (put_in_order cmp x xs))
  unfolding put_in_order
  put_all P x [] h all = All-cons P (f x) [] h all
  put_all P x (y ∷ ys) h all = by (is_lt (cmp y x)) (put_all P x ys h (All-tail P (f y) (map f ys) all))
    where
      by : (b : Bool) → All P (map f (put_in_order cmp x ys)) → All P (map f (if b then y ∷ put_in_order cmp x ys else x ∷ y ∷ ys))
      by true later = All-cons P (f y) (map f (put_in_order cmp x ys)) (All-head P (f y) (map f ys) all) later
      by false later = All-cons P (f x) (f y ∷ map f ys) h all

  sorted_all : (P : Y → Type 0) (xs : List X) → All P (map f xs) → All P (map f (sorted_by cmp xs))
  unfolding sorted_by
  sorted_all P [] all = all
  sorted_all P (x ∷ xs) all =
      put_all P x (sorted_by cmp xs) (All-head P (f x) (map f xs) all) (sorted_all P xs (All-tail P (f x) (map f xs) all))

  module _ (R : Y → Y → Type 0) (turned : (a b : Y) → R a b → R b a) where
    put_pairs : (x : X) (xs : List X) → All (R (f x)) (map f xs) → AllPairs R (map f xs) → AllPairs R (map f (put_in_order cmp x xs))
    unfolding put_in_order
    put_pairs x [] all pairs = AllPairs-cons R (f x) [] all pairs
    put_pairs x (y ∷ ys) all pairs =
        by (is_lt (cmp y x)) (put_pairs x ys (All-tail (R (f x)) (f y) (map f ys) all) (pairs_tail R (f y) (map f ys) pairs))
      where
        by : (b : Bool) → AllPairs R (map f (put_in_order cmp x ys)) → AllPairs R (map f (if b then y ∷ put_in_order cmp x ys else x ∷ y ∷ ys))
        by true later =
            AllPairs-cons R (f y) (map f (put_in_order cmp x ys))
            (put_all (R (f y)) x ys (turned (f x) (f y) (All-head (R (f x)) (f y) (map f ys) all)) (pairs_head R (f y) (map f ys) pairs))
            later
        by false later = AllPairs-cons R (f x) (f y ∷ map f ys) all pairs

    sorted_pairs : (xs : List X) → AllPairs R (map f xs) → AllPairs R (map f (sorted_by cmp xs))
    unfolding sorted_by
    sorted_pairs [] pairs = pairs
    sorted_pairs (x ∷ xs) pairs =
        put_pairs x (sorted_by cmp xs) (sorted_all (R (f x)) xs (pairs_head R (f x) (map f xs) pairs)) (sorted_pairs xs (pairs_tail R (f x) (map f xs) pairs))

map_itself : {X : Type 0} (xs : List X) → map (λ (x : X). x) xs ≡ xs
map_itself [] = refl
map_itself (x ∷ xs) = ap (λ rest. x ∷ rest) (map_itself xs)

-- the same of the elements themselves
sorted_each : {X : Type 0} (cmp : X → X → Ordering) (P : X → Type 0) (xs : List X) → All P xs → All P (sorted_by cmp xs)
sorted_each {X} cmp P xs all =
    subst (λ (ys : List X). All P ys) (map_itself (sorted_by cmp xs))
    (sorted_all cmp (λ (x : X). x) P xs (subst (λ (ys : List X). All P ys) (sym (map_itself xs)) all))

-- the number of a view is below how many they are
number_below : (name : List ℕ) (views : List View) → IfSome (view_number name views) (λ n. n < length views)
number_below name views = by (nat_lt number (length views)) refl
  where
    number : ℕ
    number = position_or_len (λ (v : View). bytes_eq v.name name) views

    by : (b : Bool) → nat_lt number (length views) ≡ b → IfSome (cond b (Some number) None) (λ n. n < length views)
    by true e = ltb-true number (length views) e
    by false e = tt

module _ (views : List View) where
  output_fits : (view : Name) (name : Option (List ℕ)) → All (NamesView (length views)) (output_with views view name)
  output_fits view None = All-nil (NamesView (length views))
  output_fits view (Some text) =
      All-cons (NamesView (length views)) (record { name = text; view = view_number view.text views }) [] (number_below view.text views) (All-nil (NamesView (length views)))

  one_fits : (statement : Statement) → All (NamesView (length views)) (output_in views statement)
  one_fits (output name alias) = output_fits name (output_name (output name alias))
  one_fits statement = All-nil (NamesView (length views))

  outputs_fit : (program : List Statement) → All (NamesView (length views)) (flat_map (output_in views) program)
  outputs_fit [] = All-nil (NamesView (length views))
  outputs_fit (statement ∷ program) =
      All-append (NamesView (length views)) (output_in views statement) (flat_map (output_in views) program) (one_fits statement) (outputs_fit program)

  -- their names, in the order of the text
  abbrev names : List Output → List (List ℕ)
  names outs = map (λ out. out.name) outs

  name_with : (view : Name) (name : Option (List ℕ)) → names (output_with views view name) ≡ option_to_list name
  name_with view None = refl
  name_with view (Some text) = refl

  name_in : (statement : Statement) → names (output_in views statement) ≡ output_of statement
  name_in (output name alias) = name_with name (output_name (output name alias))
  name_in statement = refl

  names_append : (outs more : List Output) → names (outs ++ more) ≡ names outs ++ names more
  names_append [] more = refl
  names_append (out ∷ outs) more = ap (λ rest. out.name ∷ rest) (names_append outs more)

  output_names : (program : List Statement) → names (flat_map (output_in views) program) ≡ outputs_of program
  output_names [] = refl
  output_names (statement ∷ program) =
      names_append (output_in views statement) (flat_map (output_in views) program)
      ∙ (ap (λ here. here ++ names (flat_map (output_in views) program)) (name_in statement)
      ∙ ap (λ rest. output_of statement ++ rest) (output_names program))

  -- the outputs of a program of which no two have one name
  pub outputs_typed : (program : List Statement) → AllDiffer (outputs_of program) → AreTypedOutputs (length views) (outputs_of_program views program)
  outputs_typed program differ = record {
    named = sorted_each by_name (NamesView (length views)) (flat_map (output_in views) program) (outputs_fit program);
    distinct =
        sorted_pairs by_name (λ (out : Output). out.name) (λ (a : List ℕ) (b : List ℕ). a ≢ b) (λ a b differs same. differs (sym same))
        (flat_map (output_in views) program)
        (subst (λ (texts : List (List ℕ)). AllPairs (λ (a : List ℕ) (b : List ℕ). a ≢ b) texts) (sym (output_names program)) differ);
  }
