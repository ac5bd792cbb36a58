-- The order of values and the order of rows are total orders, and they tell all values and rows apart.
use Rattle.std.proofs.Common.{◌≡◌, ℕ, ℤ, pos, Bool, true, false, List, [], ◌∷◌, refl, sym, ap, subst, ◌∙◌, true≢false, nat_cmp, int_cmp, IsTrue, ◌↔◌}
use Rattle.std.specs.Cmp.{IsTotalOrder, bool_cmp_total}
use Rattle.std.specs.Cmp.Lexicographic.{slice_cmp, lists_total}
use Rattle.std.specs.Ordering.{is_eq, bool_cmp, on, then_cmp, ordering_then}
use Rattle.std.specs.declared.cmp.Ordering.{Ordering}
use Rattle.std.specs.declared.cmp.Ordering.TheVariants.{Less, Equal, Greater}
use Rattle.std.proofs.lemmas.Cmp.{nat_cmp_total, int_cmp_total, nat_list_cmp_total, on_total, then_total, tied_itself, ranked, int_ranked}
use Rattle.span_token.specs.Extents.{Extent}
use Rattle.span_token.specs.SpanOrder.{extent_cmp}
use Rattle.row_values.specs.Datums.{Datum, null, int, truth, text, span, kind_of, datum_cmp}
use Rattle.row_values.specs.Rows.{row_cmp}

-- what a value shows, of each kind, and something fixed for the other kinds
abbrev number_in : Datum → ℤ
number_in null = pos 0
number_in (int n) = n
number_in (truth b) = pos 0
number_in (text t) = pos 0
number_in (span e) = pos 0

abbrev truth_in : Datum → Bool
truth_in null = false
truth_in (int n) = false
truth_in (truth b) = b
truth_in (text t) = false
truth_in (span e) = false

abbrev text_in : Datum → List ℕ
text_in null = []
text_in (int n) = []
text_in (truth b) = []
text_in (text t) = t
text_in (span e) = []

abbrev extent_in : Datum → Extent
extent_in null = record { begin = 0; end = 0 }
extent_in (int n) = record { begin = 0; end = 0 }
extent_in (truth b) = record { begin = 0; end = 0 }
extent_in (text t) = record { begin = 0; end = 0 }
extent_in (span e) = e

-- the order of values, one kind after another
abbrev by_kinds : Datum → Datum → Ordering
by_kinds = then_cmp (on kind_of nat_cmp) (then_cmp (on number_in int_cmp) (then_cmp (on truth_in bool_cmp) (then_cmp (on text_in (slice_cmp nat_cmp)) (on extent_in extent_cmp))))

then_Equal : (o : Ordering) → ordering_then o Equal ≡ o
then_Equal Less = refl
then_Equal Equal = refl
then_Equal Greater = refl

is_by_kinds : (x y : Datum) → by_kinds x y ≡ datum_cmp x y
is_by_kinds (int m) (int n) = then_Equal (int_cmp m n)
is_by_kinds (truth a) (truth b) = then_Equal (bool_cmp a b)
is_by_kinds (text s) (text t) = then_Equal (slice_cmp nat_cmp s t)
is_by_kinds (span d) (span e) = refl
is_by_kinds null null = refl
is_by_kinds x y = refl

extent_cmp_total : IsTotalOrder extent_cmp
extent_cmp_total = then_total (on_total (λ (e : Extent). e.begin) nat_cmp_total) (on_total (λ (e : Extent). e.end) nat_cmp_total)

pub datum_cmp_total : IsTotalOrder datum_cmp
datum_cmp_total = subst IsTotalOrder (λ i x y. is_by_kinds x y i)
    (then_total (on_total kind_of nat_cmp_total) (then_total (on_total number_in int_cmp_total) (then_total (on_total truth_in bool_cmp_total) (then_total (on_total text_in nat_list_cmp_total) (on_total extent_in extent_cmp_total)))))

-- the row order is a total order
pub row_cmp_total : IsTotalOrder row_cmp
row_cmp_total = lists_total datum_cmp_total

pub not_equal : {G : Type 0} (o : Ordering) → is_eq o ≡ false → o ≡ Equal → G
not_equal o h e = absurd (true≢false (sym (ap is_eq e) ∙ h))

-- what a test of an answer tells
pub equal_is : (o : Ordering) → is_eq o ≡ true → o ≡ Equal
equal_is Less e = absurd (true≢false (sym e))
equal_is Equal e = refl
equal_is Greater e = absurd (true≢false (sym e))

pub then_first : (o p : Ordering) → ordering_then o p ≡ Equal → o ≡ Equal
then_first Less p e = e
then_first Equal p e = refl
then_first Greater p e = e

pub then_second : (o p : Ordering) → ordering_then o p ≡ Equal → p ≡ Equal
then_second Less p e = not_equal Less refl e
then_second Equal p e = e
then_second Greater p e = not_equal Greater refl e

pub nat_exact : (m n : ℕ) → nat_cmp m n ≡ Equal → m ≡ n
nat_exact m n e = ranked m n Equal (sym e)

bool_exact : (a b : Bool) → bool_cmp a b ≡ Equal → a ≡ b
bool_exact false false e = refl
bool_exact false true e = not_equal Less refl e
bool_exact true false e = not_equal Greater refl e
bool_exact true true e = refl

-- lists that their order doesn't tell apart are equal, where that holds of their elements
lists_exact : {X : Type 0} (cmp : X → X → Ordering) → ((x y : X) → cmp x y ≡ Equal → x ≡ y) → (xs ys : List X) → slice_cmp cmp xs ys ≡ Equal → xs ≡ ys
lists_exact cmp exact [] [] e = refl
lists_exact cmp exact [] (y ∷ ys) e = not_equal Less refl e
lists_exact cmp exact (x ∷ xs) [] e = not_equal Greater refl e
lists_exact cmp exact (x ∷ xs) (y ∷ ys) e =
    let first = exact x y (then_first (cmp x y) (slice_cmp cmp xs ys) e) in
    let rest = lists_exact cmp exact xs ys (then_second (cmp x y) (slice_cmp cmp xs ys) e) in
    λ i. first i ∷ rest i

pub text_exact : (s t : List ℕ) → slice_cmp nat_cmp s t ≡ Equal → s ≡ t
text_exact = lists_exact nat_cmp nat_exact

extent_exact : (d e : Extent) → extent_cmp d e ≡ Equal → d ≡ e
extent_exact d e h =
    let begins = nat_exact d.begin e.begin (then_first (nat_cmp d.begin e.begin) (nat_cmp d.end e.end) h) in
    let ends = nat_exact d.end e.end (then_second (nat_cmp d.begin e.begin) (nat_cmp d.end e.end) h) in
    λ i. record { begin = begins i; end = ends i }

-- values that the order doesn't tell apart are equal
pub datum_cmp_exact : (x y : Datum) → datum_cmp x y ≡ Equal → x ≡ y
datum_cmp_exact null null e = refl
datum_cmp_exact (int m) (int n) e = ap int (int_ranked m n Equal (sym e))
datum_cmp_exact (truth a) (truth b) e = ap truth (bool_exact a b e)
datum_cmp_exact (text s) (text t) e = ap text (lists_exact nat_cmp nat_exact s t e)
datum_cmp_exact (span d) (span f) e = ap span (extent_exact d f e)
datum_cmp_exact x y e = absurd (true≢false (sym (ap is_eq e)))

-- rows that the row order doesn't tell apart are equal
pub row_cmp_exact : (x y : List Datum) → row_cmp x y ≡ Equal → x ≡ y
row_cmp_exact = lists_exact datum_cmp datum_cmp_exact

pub datum_cmp_itself : (x : Datum) → datum_cmp x x ≡ Equal
datum_cmp_itself x = tied_itself datum_cmp_total x

pub row_cmp_itself : (x : List Datum) → row_cmp x x ≡ Equal
row_cmp_itself x = tied_itself row_cmp_total x

-- whether two values are equal, from what their order answers
pub same_from_cmp : (x y : Datum) (r : Bool) → r ≡ is_eq (datum_cmp x y) → IsTrue r ↔ (x ≡ y)
same_from_cmp x y r e = (λ h. datum_cmp_exact x y (equal_is (datum_cmp x y) (sym e ∙ h)), λ h. e ∙ ap is_eq (ap (datum_cmp x) (sym h) ∙ datum_cmp_itself x))
