-- Lists of values, and the rows that they show.
use Rattle.std.proofs.Common.{◌≡◌, List, [], ◌∷◌, ◌++◌, map, flat_map, refl, sym, ap}
use Rattle.std.specs.Cmp.Lexicographic.{slice_cmp}
use Rattle.std.specs.Hash as fed
use Rattle.std.specs.Ordering.{on, ordering_then}
use Rattle.std.proofs.lemmas.List.{length-map}
use Rattle.row_values.specs.declared.value.Value.{Value}
use Rattle.row_values.specs.Datums.{datum_of, datum_cmp}
use Rattle.row_values.specs.Hashing.{datum_input, row_input}
use Rattle.row_values.specs.Rows.{row_cmp}

-- the order of lists of values is that of the rows that they show
pub row_cmp-values : (xs ys : List Value) → slice_cmp (on datum_of datum_cmp) xs ys ≡ row_cmp (map datum_of xs) (map datum_of ys)
row_cmp-values [] [] = refl
row_cmp-values [] (y ∷ ys) = refl
row_cmp-values (x ∷ xs) [] = refl
row_cmp-values (x ∷ xs) (y ∷ ys) = ap (ordering_then (datum_cmp (datum_of x) (datum_of y))) (row_cmp-values xs ys)

inputs : (xs : List Value) → flat_map (λ v. datum_input (datum_of v)) xs ≡ flat_map datum_input (map datum_of xs)
inputs [] = refl
inputs (x ∷ xs) = ap (λ more. datum_input (datum_of x) ++ more) (inputs xs)

-- and so is what they give to a hash function
pub row_input-values : (xs : List Value) → fed.slice (λ v. datum_input (datum_of v)) xs ≡ row_input (map datum_of xs)
row_input-values xs = λ i. fed.usize (sym (length-map xs datum_of) i) ++ inputs xs i
