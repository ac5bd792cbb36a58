use Rattle.std.proofs.Common.{rules, ◌≡◌, ◌∙◌, ◌++◌, ◌∷◌, List, [], Some, Option, map, ap, sym, subst, option_map}
use Rattle.std.specs.List.{All}
use Rattle.std.proofs.lemmas.List.Elements.{All-nil}
use Rattle.span_token.specs.Extents.{extent_of}
use Rattle.span_token.specs.Relations.{ContainsExtent}
use Rattle.span_token.specs.declared.span.Span.{Span}
use Rattle.aql_regex_extract.specs.Matches.{extents_of, PutsRows}
use Rattle.dict_match.specs.DictMatches.{dict_matches}
use Rattle.scalar_ops.specs.Extractions.{of_some, of_dict}
use Rattle.row_operators.proofs.Finding.{spans_found, entries_put}
use Rattle.row_operators.proofs.search.find_entries.Goals as goal

-- the spans that were put
spans_are : (c : goal.After-drop-spans-2) → extents_of c.push_spans.new.found.items ≡ map Some (map extent_of c.as_slice.result.now)
spans_are c = c.in_ok-push_spans.ensures ∙ ap (λ (before : List (Option Span)). extents_of before ++ map Some (map extent_of c.as_slice.result.now)) c.requires.none_yet

pub returns-clause-rows : goal.returns-clause-rows
returns-clause-rows c =
    let found = of_dict c.args.tools.now c.args.dict (λ the. dict_matches the c.args.doc.now (extent_of c.in-Some.source)) in
    let are : map extent_of c.as_slice.result.now ≡ found =
    ap (map extent_of) c.as_slice.ensures.value ∙ (c.in_ok-append_dict_matches.ensures.matches ∙ ap (λ (spans : List Span). map extent_of spans ++ found) c.new-spans.ensures.items) in
    let put = entries_put found c.as_slice.result.now c.push_spans.new.found.items c.len.result (c.len.ensures ∙ sym c.as_slice.ensures.len) are (spans_are c) in
    let P : Option Span → Type 0 = λ source. PutsRows (of_some (λ s. map (λ e. Some e ∷ []) (of_dict c.args.tools.now c.args.dict (λ the. dict_matches the c.args.doc.now s))) (option_map extent_of source))
    [] (extents_of c.push_spans.new.found.items) c.len.result in
    subst P (sym c.in-Some.is) put

pub returns-clause-lies : goal.returns-clause-lies
returns-clause-lies c =
    let source = extent_of c.in-Some.source in
    let none = subst (All (λ (s : Span). ContainsExtent source (extent_of s))) (sym c.new-spans.ensures.items) (All-nil (λ (s : Span). ContainsExtent source (extent_of s))) in
    let inside = subst (All (λ (s : Span). ContainsExtent source (extent_of s))) (sym c.as_slice.ensures.value) (c.in_ok-append_dict_matches.ensures.within none) in
    spans_found c.args.doc.now source c.as_slice.result.now c.push_spans.new.found.items (search rules) (spans_are c) inside
