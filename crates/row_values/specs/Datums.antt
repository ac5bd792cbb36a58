-- Values as definitions see them: a text is its bytes, wherever they lie.
use Rattle.std.specs.Prelude.{ℕ, ℤ, Bool, true, false, List, Option, Some, None, ⊤}
use Rattle.std.specs.Cmp.Lexicographic.{slice_cmp}
use Rattle.std.specs.Ordering.{nat_cmp, int_cmp, bool_cmp}
use Rattle.std.specs.declared.cmp.Ordering.{Ordering}
use Rattle.span_token.specs.Documents.{Doc, LiesIn}
use Rattle.span_token.specs.Extents.{Extent, extent_of}
use Rattle.span_token.specs.SpanOrder.{extent_cmp}
use Rattle.row_values.specs.declared.value.Value.{Value}
use Rattle.row_values.specs.declared.value.Value.TheVariants.{Null, Int, Bool as Truth, Text, Span}

-- a value by its kind and what it shows
pub data Datum : Type 0 where
  null : Datum
  int : ℤ → Datum
  truth : Bool → Datum
  text : List ℕ → Datum
  span : Extent → Datum

-- what a value shows
abbrev pub datum_of : Value → Datum
datum_of Null = null
datum_of (Int n) = int n
datum_of (Truth b) = truth b
datum_of (Text t) = text t.now
datum_of (Span s) = span (extent_of s)

-- whether a value is Null
abbrev pub is_null : Datum → Bool
is_null null = true
is_null value = false

-- the integer that a value is; of Null and of a value of another kind none
abbrev pub integer_of : Datum → Option ℤ
integer_of (int n) = Some n
integer_of value = None

-- the span that a value is; of Null and of a value of another kind none
abbrev pub span_of : Datum → Option Extent
span_of (span e) = Some e
span_of value = None

-- a value that is a span lies in the document
abbrev pub IsOfDocument : Doc → Datum → Type 0
IsOfDocument document null = ⊤
IsOfDocument document (int n) = ⊤
IsOfDocument document (truth b) = ⊤
IsOfDocument document (text t) = ⊤
IsOfDocument document (span extent) = LiesIn extent document

-- the number of a value's kind: Null, then integers, truth values, texts and spans
abbrev pub kind_of : Datum → ℕ
kind_of null = 0
kind_of (int n) = 1
kind_of (truth b) = 2
kind_of (text t) = 3
kind_of (span e) = 4

-- values by kind; numbers by size, false before true, texts by bytes, spans by begin and then by end
abbrev pub datum_cmp : Datum → Datum → Ordering
datum_cmp (int m) (int n) = int_cmp m n
datum_cmp (truth a) (truth b) = bool_cmp a b
datum_cmp (text s) (text t) = slice_cmp nat_cmp s t
datum_cmp (span d) (span e) = extent_cmp d e
datum_cmp x y = nat_cmp (kind_of x) (kind_of y)
