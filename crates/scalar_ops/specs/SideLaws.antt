-- Conditions on a joined row: those that read one side alone hold as they do on that side.
use Rattle.std.specs.Prelude.{ℕ, ◌≡◌, ◌≤◌, ◌+◌, ◌-◌, ◌&&◌, Bool, true, false, not, List, [], ◌∷◌, ◌++◌, map, length, refl}
use Rattle.std.specs.List.{filter, list_all}
use Rattle.std.proofs.Common.{◌∙◌, ap, ap₂, sym, arith}
use Rattle.span_token.specs.Documents.{Doc}
use Rattle.row_values.specs.Datums.{Datum}
use Rattle.row_values.specs.Rows.{value_in}
use Rattle.row_values.specs.RowBags.{value_in-right}
use Rattle.scalar_ops.specs.Expressions.{Term, ReadsFrom, does_read_below, does_read_from, renamed}
use Rattle.scalar_ops.specs.Operators.{is_true}
use Rattle.scalar_ops.specs.Tables.{Lists}
use Rattle.scalar_ops.specs.Values.{value, holding}
use Rattle.scalar_ops.specs.ReadingLaws.{does_read_below-is, does_read_from-is}
use Rattle.scalar_ops.specs.ValueLaws.{value-left, value-renamed}

-- the test of the first of some conditions may stand behind those of others
and-later : (a b c : Bool) → (a && (b && c)) ≡ (b && (a && c))
and-later true b c = refl
and-later false true c = refl
and-later false false c = refl

and-sooner : (a b c : Bool) → (a && (b && c)) ≡ ((a && b) && c)
and-sooner true b c = refl
and-sooner false b c = refl

-- of what holds of all that pass a test and of all that don't
list_all-parted : {X : Type 0} (holds test : X → Bool) (xs : List X)
    → list_all holds xs ≡ (list_all holds (filter test xs) && list_all holds (filter (λ x. not (test x)) xs))
list_all-parted holds test [] = refl
list_all-parted holds test (x ∷ xs) = by (test x) refl (list_all-parted holds test xs)
  where
    by : (passes : Bool) → test x ≡ passes → list_all holds xs ≡ (list_all holds (filter test xs) && list_all holds (filter (λ y. not (test y)) xs))
        → list_all holds (x ∷ xs) ≡ (list_all holds (filter test (x ∷ xs)) && list_all holds (filter (λ y. not (test y)) (x ∷ xs)))
    by true e rest = rw e (ap (λ b. holds x && b) rest
        ∙ and-sooner (holds x) (list_all holds (filter test xs)) (list_all holds (filter (λ y. not (test y)) xs)))
    by false e rest = rw e (ap (λ b. holds x && b) rest
        ∙ and-later (holds x) (list_all holds (filter test xs)) (list_all holds (filter (λ y. not (test y)) xs)))

-- two tests that agree on what passes a third
list_all-where : {X : Type 0} (holds other test : X → Bool) → ((x : X) → test x ≡ true → holds x ≡ other x) → (xs : List X)
    → list_all holds (filter test xs) ≡ list_all other (filter test xs)
list_all-where holds other test same [] = refl
list_all-where holds other test same (x ∷ xs) = by (test x) refl (list_all-where holds other test same xs)
  where
    by : (passes : Bool) → test x ≡ passes → list_all holds (filter test xs) ≡ list_all other (filter test xs)
        → list_all holds (filter test (x ∷ xs)) ≡ list_all other (filter test (x ∷ xs))
    by true e rest = rw e (ap₂ ◌&&◌ (same x e) rest)
    by false e rest = rw e rest

-- conditions that read the left side of a joined row alone, as long as a width
abbrev pub left_conditions : ℕ → List Term → List Term
left_conditions width conds = filter (does_read_below width) conds

-- the others
abbrev pub later_conditions : ℕ → List Term → List Term
later_conditions width conds = filter (λ c. not (does_read_below width c)) conds

-- of these, those that read the right side alone, with the numbers that columns have there
abbrev pub right_conditions : ℕ → List Term → List Term
right_conditions width conds = map (renamed (λ n. n - width)) (filter (does_read_from width) (later_conditions width conds))

-- those that read both sides
abbrev pub joint_conditions : ℕ → List Term → List Term
joint_conditions width conds = filter (λ c. not (does_read_from width c)) (later_conditions width conds)

module _ (lists : Lists) (doc : Doc) where
  -- conditions hold where those that pass a test hold and the others
  pub holding-parted : (test : Term → Bool) (conds : List Term) (row : List Datum)
      → holding lists doc conds row ≡ (holding lists doc (filter test conds) row && holding lists doc (filter (λ c. not (test c)) conds) row)
  holding-parted test conds row = list_all-parted (λ c. is_true (value lists doc row c)) test conds

  module _ (left right : List Datum) where
    -- what reads the right side alone is worth what it is worth there, with the numbers that columns have there
    pub value-right : (t : Term) → ReadsFrom (length left) t → value lists doc (left ++ right) t ≡ value lists doc right (renamed (λ n. n - length left) t)
    value-right t reads = sym (value-renamed lists doc (λ n. n - length left) (left ++ right) right t (λ k d at. there _ (reads k d at)))
      where
        there : (n : ℕ) → length left ≤ n → value_in right (n - length left) ≡ value_in (left ++ right) n
        there n from = let e : length left + (n - length left) ≡ n = omega (arith, from) in sym (value_in-right left right (n - length left)) ∙ ap (value_in (left ++ right)) e

    -- conditions that read the left side alone hold where they hold on it
    pub holding-left : (conds : List Term) → holding lists doc (left_conditions (length left) conds) (left ++ right) ≡ holding lists doc (left_conditions (length left) conds) left
    holding-left conds = list_all-where (λ c. is_true (value lists doc (left ++ right) c)) (λ c. is_true (value lists doc left c)) (does_read_below (length left))
        (λ c reads. ap is_true (value-left lists doc left right c ((does_read_below-is (length left) c).0 reads))) conds

    holding-renamed : (conds : List Term) → list_all (λ c. is_true (value lists doc right (renamed (λ n. n - length left) c))) conds ≡ holding lists doc (map (renamed (λ n. n - length left)) conds) right
    holding-renamed [] = refl
    holding-renamed (c ∷ conds) = ap (λ b. is_true (value lists doc right (renamed (λ n. n - length left) c)) && b) (holding-renamed conds)

    holding-right : (conds : List Term) → holding lists doc (filter (does_read_from (length left)) conds) (left ++ right)
        ≡ holding lists doc (map (renamed (λ n. n - length left)) (filter (does_read_from (length left)) conds)) right
    holding-right conds = list_all-where (λ c. is_true (value lists doc (left ++ right) c)) (λ c. is_true (value lists doc right (renamed (λ n. n - length left) c))) (does_read_from (length left))
        (λ c reads. ap is_true (value-right c ((does_read_from-is (length left) c).0 reads))) conds
        ∙ holding-renamed (filter (does_read_from (length left)) conds)

    -- conditions on a joined row are conditions on its left side, on its right side, and those that read both
    pub holding-push : (conds : List Term) → holding lists doc conds (left ++ right)
        ≡ (holding lists doc (left_conditions (length left) conds) left
        && (holding lists doc (right_conditions (length left) conds) right && holding lists doc (joint_conditions (length left) conds) (left ++ right)))
    holding-push conds =
        holding-parted (does_read_below (length left)) conds (left ++ right)
        ∙ ap₂ ◌&&◌ (holding-left conds)
        (holding-parted (does_read_from (length left)) (later_conditions (length left) conds) (left ++ right)
        ∙ ap (λ b. b && holding lists doc (joint_conditions (length left) conds) (left ++ right)) (holding-right (later_conditions (length left) conds)))
