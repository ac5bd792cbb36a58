-- serde_json's object of pairs, with the members as they stand: in the order of their names.
use Rattle.std.proofs.Common.{◌≡◌, ℕ, suc, ◌+◌, ◌<◌, ◌≤◌, List, [], ◌∷◌, length, map, fold, get_or, refl, sym, ap, ◌∙◌, arith, add-zero, zero-add, All, Ordering, Less, Equal, Greater}
use Rattle.std.specs.List.{enumerate_from, zip}
use Rattle.std.specs.Ordering.{nat_cmp, match_ordering}
use Rattle.std.specs.Cmp.Lexicographic.{slice_cmp}
use Rattle.std.specs.Map.{values_of}
use Rattle.std.proofs.lemmas.Map.Views.{All-values-insert_entry}
use Rattle.std.proofs.lemmas.List.Elements.{All-nil}
use Rattle.serde_json.specs.Data.{Data, null, object, put}
use Rattle.corpus_json.specs.Outputs.{put_pair, object_of}
use Rattle.corpus_json.specs.NameIndexes.{NameIndex, put_index, name_indexes}
use Rattle.corpus_json.specs.Writing.{listed}

-- a name with the value at its index
abbrev pub with_value : List Data → NameIndex → List ℕ × Data
with_value values (name, index) = (name, get_or values index null)

chosen : (values : List Data) (o : Ordering) (a b c : List NameIndex) → listed (map (with_value values) (match_ordering o a b c)) ≡ match_ordering o (listed (map (with_value values) a)) (listed (map (with_value values) b)) (listed (map (with_value values) c))
chosen values Less a b c = refl
chosen values Equal a b c = refl
chosen values Greater a b c = refl

-- a member that is put into the object is put into the indexes
put-put_index : (values : List Data) (indexes : List NameIndex) (name : List ℕ) (index : ℕ)
    → listed (map (with_value values) (put_index indexes (index, name))) ≡ put name (get_or values index null) (listed (map (with_value values) indexes))
put-put_index values [] name index = refl
put-put_index values ((l, i) ∷ indexes) name index = chosen values (slice_cmp nat_cmp name l) _ _ _ ∙ rw (put-put_index values indexes name index)

-- from the n-th pair on
put_all : (values : List Data) (names : List (List ℕ)) (rest : List Data) (n : ℕ) (indexes : List NameIndex) → length names ≡ length rest → ((k : ℕ) → get_or rest k null ≡ get_or values (n + k) null)
    → fold put_pair (listed (map (with_value values) indexes)) (zip names rest) ≡ listed (map (with_value values) (fold put_index indexes (enumerate_from n names)))
put_all values [] rest n indexes same at = refl
put_all values (name ∷ names) [] n indexes same at = absurd (omega arith)
put_all values (name ∷ names) (value ∷ rest) n indexes same at =
    let here : value ≡ get_or values n null = at 0 ∙ ap (λ k. get_or values k null) (add-zero n) in
    let first : put name value (listed (map (with_value values) indexes)) ≡ listed (map (with_value values) (put_index indexes (n, name))) =
    ap (λ v. put name v (listed (map (with_value values) indexes))) here ∙ sym (put-put_index values indexes name n) in
    ap (λ members. fold put_pair members (zip names rest)) first
    ∙ put_all values names rest (n + 1) (put_index indexes (n, name)) (omega arith) (λ k. at (suc k) ∙ ap (λ j. get_or values j null) (omega arith))

-- serde_json's object of as many names as values has them in the order of the names
pub object_of-zip : (names : List (List ℕ)) (values : List Data) → length names ≡ length values → object_of (zip names values) ≡ object (listed (map (with_value values) (name_indexes names)))
unfolding name_indexes
object_of-zip names values same = ap object (put_all values names values 0 [] same (λ k. ap (λ j. get_or values j null) (sym (zero-add k))))

-- ---- each index is that of a name

puts_within : (n : ℕ) (names : List (List ℕ)) (i : ℕ) (indexes : List NameIndex) → i + length names ≤ n → All (λ index. index < n) (values_of indexes) → All (λ index. index < n) (values_of (fold put_index indexes (enumerate_from i names)))
puts_within n [] i indexes fits all = all
puts_within n (name ∷ names) i indexes fits all =
    puts_within n names (i + 1) (put_index indexes (i, name)) (omega arith) (All-values-insert_entry (slice_cmp nat_cmp) name i (λ index. index < n) indexes all (omega arith))

pub indexes_within : (names : List (List ℕ)) → All (λ index. index < length names) (map (λ (p : NameIndex). p.1) (name_indexes names))
unfolding name_indexes
indexes_within names = puts_within (length names) names 0 [] (omega arith) (All-nil (λ index. index < length names))
