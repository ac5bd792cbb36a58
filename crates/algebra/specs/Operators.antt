-- What a node gives of the rows of its inputs: the table of nodes, one line each, in the words of the meaning.
use Rattle.std.specs.Prelude.{ℕ, pos, ◌-◌, Bool, List, [], ◌∷◌, ◌++◌, Some, map, filter, length, take, drop, slice_get}
use Rattle.std.specs.List.{flat_map, range_with_len}
use Rattle.std.specs.Ordering.{eq_by_cmp}
use Rattle.span_token.specs.Documents.{Doc as Document, characters}
use Rattle.span_token.specs.Extents.{Extent}
use Rattle.span_token.specs.Tokens.{tokens_of}
use Rattle.span_token.specs.Relations.{does_follow, does_follow_tok, do_overlap, does_contain}
use Rattle.row_values.specs.Datums.{Datum, int, datum_cmp}
use Rattle.row_values.specs.Rows.{value_in, sorted, product, minus as without}
use Rattle.span_joins.specs.Joins.{joined_where}
use Rattle.group_agg.specs.Groups.{grouped}
use Rattle.scalar_ops.specs.Extractions.{of_some}
use Rattle.scalar_ops.specs.Tables.{Lists}
use Rattle.aql_typed.specs.Trees.{Extraction, regex, token_regex, dict, blocks, plain}
use Rattle.aql_typed.specs.Meaning.{Rows, group_value, document_rows, found_in, extracted, selected, projected, kept, cut}
use Rattle.algebra.specs.declared.node.JoinKind.{JoinKind}
use Rattle.algebra.specs.declared.node.JoinKind.TheVariants as kind
use Rattle.algebra.specs.declared.node.Local.{Local}
use Rattle.algebra.specs.declared.node.Local.TheVariants as sought
use Rattle.algebra.specs.declared.node.Node.{Node}
use Rattle.algebra.specs.declared.node.Node.TheVariants.{Doc, Regex, TokenRegex, Dict, DictPart, Blocks, Select, Project, Cross, SpanJoin, Restricted, Union, Minus, Consolidate, Group, OrderLimit}

-- the predicate of a join, of the span of the left row and that of the right one
abbrev pub does_join : Document → JoinKind → Extent → Extent → Bool
does_join doc (kind.Follows min max) a b = does_follow a b min max
does_join doc (kind.FollowsTok min max) a b = does_follow_tok (tokens_of (characters doc)) a b min max
does_join doc kind.Overlaps a b = do_overlap a b
does_join doc kind.Contains a b = does_contain a b
does_join doc (kind.FollowsBack min max) a b = does_follow b a min max
does_join doc (kind.FollowsTokBack min max) a b = does_follow_tok (tokens_of (characters doc)) b a min max
does_join doc kind.ContainsBack a b = does_contain b a

-- what a restricted join looks for in the document, which is column 0 of its source
abbrev pub sought_by : Local → Extraction
sought_by (sought.TokenRegex low high pattern) = token_regex 0 low high pattern (0 ∷ [])
sought_by (sought.Dict d) = dict 0 d

-- whether the dictionary's number, which stands in the last column but one, is this one
abbrev pub is_marked : ℕ → List Datum → Bool
is_marked number row = eq_by_cmp datum_cmp (value_in row (length row - 2)) (int (pos number))

-- the row without the dictionary's number
abbrev pub unmarked : List Datum → List Datum
unmarked row = take (length row - 2) row ++ drop (length row - 1) row

-- the rows with a dictionary's number, without it
abbrev pub part_of : ℕ → Rows → Rows
part_of number rows = map unmarked (filter (is_marked number) rows)

module _ (lists : Lists) (doc : Document) where
  -- the row, followed by what is found: one row for each match in it
  abbrev pub followed : Extraction → List Datum → Rows
  followed extraction row = map (λ found. row ++ map group_value found) (found_in lists doc extraction row)

  -- those of all rows
  abbrev pub with_found : Extraction → Rows → Rows
  with_found extraction rows = flat_map (followed extraction) rows

  -- the row, followed by a dictionary's number and what is found: one row for each match of that dictionary
  abbrev pub marked_at : ℕ → List ℕ → List Datum → ℕ → Rows
  marked_at column dicts row number =
      of_some (λ d. map (λ found. row ++ int (pos number) ∷ map group_value found) (found_in lists doc (dict column d) row)) (slice_get dicts number)

  -- those of all dictionaries
  abbrev pub marked_in : ℕ → List ℕ → List Datum → Rows
  marked_in column dicts row = flat_map (marked_at column dicts row) (range_with_len 0 (length dicts))

  -- each left row, followed by the source's row and each span that is sought in it and passes the predicate
  abbrev pub restricted : JoinKind → ℕ → Local → Rows → Rows → Rows
  restricted join lc local_part left source = joined_where (does_join doc join) left lc (with_found (sought_by local_part) source) 1

  -- what a node gives of the rows of its left and its right input, or of its only one, which is the left
  abbrev pub op : Node → Rows → Rows → Rows
  op Doc left right = document_rows lists doc
  op (Regex input column pattern groups) left right = with_found (regex column pattern groups) left
  op (TokenRegex input column low high pattern groups) left right = with_found (token_regex column low high pattern groups) left
  op (Dict input column dicts) left right = flat_map (marked_in column dicts) left
  op (DictPart input number) left right = part_of number left
  op (Blocks input column low high from to tokens) left right = extracted lists doc [] (blocks column low high from to tokens) left
  op (Select input conds) left right = selected lists doc conds left
  op (Project input items) left right = projected lists doc (plain items) left
  op (Cross l r conditional) left right = product left right
  op (SpanJoin l r join lc rc conditional) left right = joined_where (does_join doc join) left lc right rc
  op (Restricted outer source join lc local_part) left right = restricted join lc local_part left right
  op (Union l r) left right = left ++ right
  op (Minus l r) left right = without left right
  op (Consolidate input policy target) left right = kept lists doc (Some (record { policy = policy; target = target })) left
  op (Group input keys aggs) left right = sorted (grouped keys aggs left)
  op (OrderLimit input keys limit) left right = cut keys limit left
