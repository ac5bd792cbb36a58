-- What is asked of the values of some arguments, whatever they are.
use Rattle.std.specs.Prelude.{ℕ, ℤ, Bool, false, not, ◌&&◌, List, [], ◌∷◌}
use Rattle.std.specs.List.{list_all}
use Rattle.span_token.specs.Extents.{Extent}
use Rattle.span_token.specs.Documents.{Doc, text_in}
use Rattle.scalar_ops.specs.declared.op.Op.{Op}
use Rattle.scalar_ops.specs.declared.op.Op.TheVariants.{And, Or}
use Rattle.row_values.specs.Datums.{Datum, null, int, truth, text, span, is_null}

-- a value of one span; Null where it isn't one
abbrev pub of_span : (Extent → Datum) → List Datum → Datum
of_span f (span s ∷ []) = f s
of_span f args = null

-- a value of two spans; Null where one is missing
abbrev pub of_spans : (Extent → Extent → Datum) → List Datum → Datum
of_spans f (span a ∷ span b ∷ []) = f a b
of_spans f args = null

-- a value of a span and an integer; Null where one is missing
abbrev pub of_span_and_number : (Extent → ℤ → Datum) → List Datum → Datum
of_span_and_number f (span s ∷ int n ∷ []) = f s n
of_span_and_number f args = null

-- a test of one span, false of anything else
abbrev pub holds_of_span : (Extent → Bool) → List Datum → Bool
holds_of_span f (span s ∷ []) = f s
holds_of_span f args = false

-- a test of two spans, false of anything else
abbrev pub holds_of_spans : (Extent → Extent → Bool) → List Datum → Bool
holds_of_spans f (span a ∷ span b ∷ []) = f a b
holds_of_spans f args = false

-- a test of two integers, false of anything else
abbrev pub holds_of_numbers : (ℤ → ℤ → Bool) → List Datum → Bool
holds_of_numbers f (int m ∷ int n ∷ []) = f m n
holds_of_numbers f args = false

-- a test of a text, or of the text of a span, false of anything else
abbrev pub holds_of_text : Doc → (List ℕ → Bool) → List Datum → Bool
holds_of_text doc f (text t ∷ []) = f t
holds_of_text doc f (span s ∷ []) = f (text_in doc s)
holds_of_text doc f args = false

-- a test of two values, false where one is Null and of anything else
abbrev pub holds_of_values : (Datum → Datum → Bool) → List Datum → Bool
holds_of_values f (x ∷ y ∷ []) = not (is_null x) && (not (is_null y) && f x y)
holds_of_values f args = false

-- a test of one value, false of anything else
abbrev pub holds_of_value : (Datum → Bool) → List Datum → Bool
holds_of_value f (x ∷ []) = f x
holds_of_value f args = false

-- a test of one truth value, false of anything else
abbrev pub holds_of_truth : (Bool → Bool) → List Datum → Bool
holds_of_truth f (truth b ∷ []) = f b
holds_of_truth f args = false

-- whether a value is true
abbrev pub is_true : Datum → Bool
is_true (truth b) = b
is_true value = false

-- there are truth values, and all of them are true
abbrev pub holds_of_all : List Datum → Bool
holds_of_all [] = false
holds_of_all (x ∷ xs) = list_all is_true (x ∷ xs)

-- an operator of one value or of two: any but `And` and `Or`
abbrev pub IsOfFew : Op → Type 0
IsOfFew And = ⊥
IsOfFew Or = ⊥
IsOfFew op = Unit {0}
