-- What is found in a row: where it lies, and how wide its rows are.
use Rattle.std.proofs.Common.{◌≡◌, ◌∙◌, ◌<◌, ◌++◌, ℕ, ◌+◌, List, [], ◌∷◌, Option, Some, None, option_map, map, length, refl, sym, ap, ap₂, subst, take, get_or, option_to_list, IfSome, arith}
use Rattle.std.specs.List.{All, cons_option, filter_map, flat_map}
use Rattle.std.proofs.lemmas.List.{length-map, map-append, take_more}
use Rattle.std.proofs.lemmas.List.Elements.{All-weaker, All-nil, All-cons, All-head, All-tail, All-map, All-append, filter_map-append}
use Rattle.span_token.specs.Documents.{Doc, LiesIn}
use Rattle.span_token.specs.Extents.{Extent, extent_of}
use Rattle.span_token.specs.Relations.{ContainsExtent}
use Rattle.span_token.specs.declared.span.Span.{Span}
use Rattle.aql_regex_extract.specs.Matches.{PutsRows, extents_of, IsInside}
use Rattle.row_values.specs.Datums.{Datum, IsOfDocument}
use Rattle.row_values.specs.Rows.{span_in}
use Rattle.aql_typed.specs.Meaning.{group_value}
use Rattle.row_operators.specs.Searches.{IsFoundIn}

one_found : (doc : Doc) (source : Extent) → LiesIn source doc → (o : Option Span) → IsInside source o → IsFoundIn doc o
one_found doc source lies None inside = tt
one_found doc source lies (Some s) inside = let e = inside.ends in omega (arith, e, lies)

-- what lies in a span of the document lies in the document
pub all_found : (doc : Doc) (source : Extent) (found : List (Option Span)) → LiesIn source doc → All (IsInside source) found → All (IsFoundIn doc) found
all_found doc source found lies inside = All-weaker (IsInside source) (IsFoundIn doc) (one_found doc source lies) found inside

-- a row of one span for each
pub one_each : (es : List Extent) → flat_map (λ row. row) (map (λ e. Some e ∷ []) es) ≡ map Some es
one_each [] = refl
one_each (e ∷ es) = ap (λ (rest : List (Option Extent)). Some e ∷ rest) (one_each es)

-- what holds of each image holds at each element
pub All-unmap : {X Y : Type 0} (P : Y → Type 0) (f : X → Y) (xs : List X) → All P (map f xs) → All (λ x. P (f x)) xs
All-unmap P f [] all = All-nil (λ x. P (f x))
All-unmap P f (x ∷ xs) all = All-cons (λ x. P (f x)) x xs (All-head P (f x) (map f xs) all) (All-unmap P f xs (All-tail P (f x) (map f xs) all))

-- spans of a span of the document lie in the document
pub spans_found : (doc : Doc) (source : Extent) (spans : List Span) (found : List (Option Span)) → LiesIn source doc
    → extents_of found ≡ map Some (map extent_of spans) → All (λ s. ContainsExtent source (extent_of s)) spans → All (IsFoundIn doc) found
spans_found doc source spans found lies is inside =
    let P : Option Extent → Type 0 = λ e. IsOfDocument doc (group_value e) in
    All-unmap P (option_map extent_of) found (subst (All P) (sym is) (All-map P Some (map extent_of spans)
    (All-map (λ e. P (Some e)) extent_of spans (All-weaker (λ s. ContainsExtent source (extent_of s)) (λ s. P (Some (extent_of s))) (λ s contains. let e = contains.ends in omega (arith, e, lies)) spans inside))))

-- spans put one after another are rows of one
pub entries_put : (es : List Extent) (spans : List Span) (found : List (Option Span)) (number : ℕ) → number ≡ length spans → map extent_of spans ≡ es
    → extents_of found ≡ map Some (map extent_of spans) → PutsRows (map (λ e. Some e ∷ []) es) [] (extents_of found) number
entries_put es spans found number counted are is = (
  counted ∙ (sym (length-map spans extent_of) ∙ (ap length are ∙ sym (length-map es (λ e. Some e ∷ [])))),
  is ∙ (ap (map Some) are ∙ sym (one_each es)),
)

one_more : (o : Option Span) (e : Option Extent) → option_map extent_of o ≡ e → map extent_of (option_to_list o) ≡ cons_option e []
one_more None e is = ap (λ (e : Option Extent). cons_option e []) is
one_more (Some s) e is = ap (λ (e : Option Extent). cons_option e []) is

-- the span of one row more
pub spans_more : (column : ℕ) (rows : List (List Datum)) (i : ℕ) (row : List Datum) (o : Option Span) (before after : List Span)
    → i < length rows → row ≡ get_or rows i row → option_map extent_of o ≡ span_in column row → after ≡ before ++ option_to_list o
    → map extent_of before ≡ filter_map (span_in column) (take i rows) → map extent_of after ≡ filter_map (span_in column) (take (i + 1) rows)
spans_more column rows i row o before after below is span put so_far =
    ap (map extent_of) put ∙ (map-append extent_of before (option_to_list o) ∙ (ap₂ ◌++◌ so_far (one_more o (span_in column row) span)
    ∙ (sym (filter_map-append (span_in column) (take i rows) (row ∷ [])) ∙ ap (filter_map (span_in column)) (sym (take_more rows i row below ∙ ap (λ (r : List Datum). take i rows ++ r ∷ []) (sym is))))))

-- and where it lies
pub more_lie : (doc : Doc) (o : Option Span) (before after : List Span) → IfSome o (λ s. LiesIn (extent_of s) doc) → after ≡ before ++ option_to_list o
    → All (λ s. LiesIn (extent_of s) doc) before → All (λ s. LiesIn (extent_of s) doc) after
more_lie doc o before after lies put so_far =
    subst (All (λ (s : Span). LiesIn (extent_of s) doc)) (sym put) (All-append (λ (s : Span). LiesIn (extent_of s) doc) before (option_to_list o) so_far (one o lies))
  where
    one : (o : Option Span) → IfSome o (λ s. LiesIn (extent_of s) doc) → All (λ s. LiesIn (extent_of s) doc) (option_to_list o)
    one None lies = All-nil (λ s. LiesIn (extent_of s) doc)
    one (Some s) lies = All-cons (λ s. LiesIn (extent_of s) doc) s [] lies (All-nil (λ s. LiesIn (extent_of s) doc))
