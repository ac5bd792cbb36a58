-- Each row of a node has as many values as the node's shape has columns.
use Rattle.std.proofs.Common.{◌≡◌, ℕ, zero, suc, ◌+◌, ◌-◌, ◌≤◌, List, [], ◌∷◌, ◌++◌, map, length, get_or, take, drop, pos, refl, ap, subst, arith, Option, Some, None, flat_map}
use Rattle.std.specs.List.{All, filter_map, range_with_len}
use Rattle.std.proofs.lemmas.List.{length-append, length-map, length-drop, take-append-drop}
use Rattle.std.proofs.lemmas.List.Elements.{All-nil, All-cons, All-head, All-tail, All-append, All-map, All-weaker, All-filter}
use Rattle.std.proofs.lemmas.List.Sorted.{All-permutation}
use Rattle.span_token.specs.Documents.{Doc as Document}
use Rattle.span_token.specs.Extents.{Extent}
use Rattle.row_values.specs.Datums.{Datum, int, span, span_of}
use Rattle.row_values.specs.Rows.{span_in, sorted}
use Rattle.row_values.specs.RowBags.{width-product, All-minus}
use Rattle.row_values.specs.SortedRows.{SameBag-sorted}
use Rattle.span_joins.specs.JoinLaws.{width-joined_where}
use Rattle.span_sets.specs.Blocks.{is_neighbour, blocks_of}
use Rattle.span_sets.specs.Laws.{All-consolidated}
use Rattle.group_agg.specs.Groups.{grouped}
use Rattle.group_agg.specs.Limits.{limited}
use Rattle.group_agg.specs.Laws.{width-grouped, All-limited}
use Rattle.scalar_ops.specs.Tables.{Lists}
use Rattle.scalar_ops.specs.Values.{value, holding}
use Rattle.aql_typed.specs.Trees.{Extraction, regex, token_regex, dict}
use Rattle.aql_typed.specs.Fitting.{found_width}
use Rattle.aql_typed.specs.Meaning.{Rows, group_value, found_in, row_of}
use Rattle.algebra.specs.declared.node.Node.{Node}
use Rattle.algebra.specs.declared.node.Node.TheVariants.{Doc, Regex, TokenRegex, Dict, DictPart, Blocks, Select, Project, Cross, SpanJoin, Restricted, Union, Minus, Consolidate, Group, OrderLimit}
use Rattle.algebra.specs.declared.node.Local.{Local}
use Rattle.algebra.specs.declared.node.Local.TheVariants as sought
use Rattle.algebra.specs.declared.shape.Shape.{Shape}
use Rattle.algebra.specs.Folds.{of_input, had, all_from}
use Rattle.algebra.specs.FoundWidths.{All-of_some, found-wide}
use Rattle.algebra.specs.Inputs.{left_input, right_input}
use Rattle.algebra.specs.Nodes.{ArePlanned, IsPlan}
use Rattle.algebra.specs.Operators.{op, does_join, sought_by, is_marked, unmarked, followed, with_found, marked_at, marked_in}
use Rattle.algebra.specs.Shapes.{shape_by, no_shape, shapes_of, IsMade}
use Rattle.algebra.specs.Values.{val}

-- each row has so many values
abbrev pub AreWide : ℕ → Rows → Type 0
AreWide width rows = All (λ row. length row ≡ width) rows

-- what holds of each row's rows holds of all
pub All-flat_map : {X Y : Type 0} (P : X → Type 0) (Q : Y → Type 0) (f : X → List Y) → ((x : X) → P x → All Q (f x)) → (xs : List X) → All P xs → All Q (flat_map f xs)
All-flat_map P Q f each [] all = All-nil Q
All-flat_map P Q f each (x ∷ xs) all = All-append Q (f x) (flat_map f xs) (each x (All-head P x xs all)) (All-flat_map P Q f each xs (All-tail P x xs all))

-- a row without its dictionary's number has one value less
unmarked_wide : (row : List Datum) (width : ℕ) → length row ≡ width → 2 ≤ width → length (unmarked row) ≡ width - 1
unmarked_wide row width is room =
    let n = length row in
    let whole : length (take (n - 2) row) + length (drop (n - 2) row) ≡ n = omega (arith, length-append (take (n - 2) row) (drop (n - 2) row), ap length (take-append-drop (n - 2) row)) in
    omega (arith, whole, length-drop (n - 2) row, length-drop (n - 1) row, length-append (take (n - 2) row) (drop (n - 1) row), is, room)

module _ (lists : Lists) (doc : Document) where
  followed_wide : (extraction : Extraction) (width : ℕ) (row : List Datum) → length row ≡ width → AreWide (width + found_width extraction) (followed lists doc extraction row)
  followed_wide extraction width row is =
      All-map (λ r. length r ≡ width + found_width extraction) (λ found. row ++ map group_value found) (found_in lists doc extraction row)
      (All-weaker (λ found. length found ≡ found_width extraction) (λ found. length (row ++ map group_value found) ≡ width + found_width extraction)
      (λ found e. omega (arith, length-append row (map group_value found), length-map found group_value, e, is)) (found_in lists doc extraction row) (found-wide lists doc extraction row))

  -- what is found in rows is as much wider as the extraction says
  pub with_found-wide : (extraction : Extraction) (width : ℕ) (rows : Rows) → AreWide width rows → AreWide (width + found_width extraction) (with_found lists doc extraction rows)
  with_found-wide extraction width rows all =
      All-flat_map (λ row. length row ≡ width) (λ row. length row ≡ width + found_width extraction) (followed lists doc extraction) (followed_wide extraction width) rows all

  marked_wide : (column : ℕ) (dicts : List ℕ) (width : ℕ) (row : List Datum) → length row ≡ width → (number : ℕ) → AreWide (width + 2) (marked_at lists doc column dicts row number)
  marked_wide column dicts width row is number =
      All-of_some (λ r. length r ≡ width + 2) (λ d. map (λ found. row ++ int (pos number) ∷ map group_value found) (found_in lists doc (dict column d) row)) _
      (λ d. All-map (λ r. length r ≡ width + 2) (λ found. row ++ int (pos number) ∷ map group_value found) (found_in lists doc (dict column d) row)
      (All-weaker (λ found. length found ≡ 1) (λ found. length (row ++ int (pos number) ∷ map group_value found) ≡ width + 2)
      (λ found e. omega (arith, length-append row (int (pos number) ∷ map group_value found), length-map found group_value, e, is)) (found_in lists doc (dict column d) row) (found-wide lists doc (dict column d) row)))

  marked_in_wide : (column : ℕ) (dicts : List ℕ) (width : ℕ) (row : List Datum) → length row ≡ width → AreWide (width + 2) (marked_in lists doc column dicts row)
  marked_in_wide column dicts width row is =
      All-flat_map (λ number. Unit {0}) (λ r. length r ≡ width + 2) (marked_at lists doc column dicts row) (λ number h. marked_wide column dicts width row is number) (range_with_len 0 (length dicts)) (λ k d below. tt)

  sought_wide : (local_part : Local) (rows : Rows) → AreWide 1 rows → AreWide 2 (with_found lists doc (sought_by local_part) rows)
  sought_wide (sought.TokenRegex low high pattern) rows all = with_found-wide (sought_by (sought.TokenRegex low high pattern)) 1 rows all
  sought_wide (sought.Dict d) rows all = with_found-wide (sought_by (sought.Dict d)) 1 rows all

  sorted_wide : (width : ℕ) (rows : Rows) → AreWide width rows → AreWide width (sorted rows)
  sorted_wide width rows all = All-permutation (λ row. length row ≡ width) rows (sorted rows) (SameBag-sorted rows) all

  -- a node's rows are as wide as its shape says, where those of its inputs are
  pub op-wide : (node : Node) (s t : Shape) (left right : Rows) → IsMade node s t → AreWide s.width left → AreWide t.width right → AreWide (shape_by node s t).width (op lists doc node left right)
  op-wide Doc s t left right made h k = All-cons (λ row. length row ≡ 1) _ [] refl (All-nil (λ row. length row ≡ 1))
  op-wide (Regex input column pattern groups) s t left right made h k = with_found-wide (regex column pattern groups) s.width left h
  op-wide (TokenRegex input column low high pattern groups) s t left right made h k = with_found-wide (token_regex column low high pattern groups) s.width left h
  op-wide (Dict input column dicts) s t left right made h k =
      All-flat_map (λ row. length row ≡ s.width) (λ row. length row ≡ s.width + 2) (marked_in lists doc column dicts) (marked_in_wide column dicts s.width) left h
  op-wide (DictPart input number) s t left right made h k =
      All-map (λ row. length row ≡ s.width - 1) unmarked _
      (All-weaker (λ row. length row ≡ s.width) (λ row. length (unmarked row) ≡ s.width - 1) (λ row is. unmarked_wide row s.width is made.room) _
      (All-filter (is_marked number) (λ row. length row ≡ s.width) left h))
  op-wide (Blocks input column low high from to tokens) s t left right made h k =
      All-map (λ row. length row ≡ 1) (λ (e : Extent). span e ∷ []) (blocks_of (is_neighbour doc tokens from to) low high (filter_map (span_in column) left)) (λ i d below. refl)
  op-wide (Select input conds) s t left right made h k = All-filter (holding lists doc conds) (λ row. length row ≡ s.width) left h
  op-wide (Project input items) s t left right made h k =
      All-map (λ row. length row ≡ length items) (row_of lists doc items) left (λ i d below. length-map items _)
  op-wide (Cross l r conditional) s t left right made h k = width-product s.width t.width left right h k
  op-wide (SpanJoin l r join lc rc conditional) s t left right made h k = width-joined_where (does_join doc join) lc rc s.width t.width left right h k
  op-wide (Restricted outer source join lc local_part) s t left right made h k =
      width-joined_where (does_join doc join) lc 1 s.width 2 left (with_found lists doc (sought_by local_part) right) h
      (sought_wide local_part right (subst (λ (shape : Shape). AreWide shape.width right) made.1 k))
  op-wide (Union l r) s t left right made h k = All-append (λ row. length row ≡ s.width) left right h (subst (λ n. AreWide n right) made.2 k)
  op-wide (Minus l r) s t left right made h k = All-minus (λ row. length row ≡ s.width) left right h
  op-wide (Consolidate input policy target) s t left right made h k = All-consolidated (λ row. length row ≡ s.width) policy (λ row. span_of (value lists doc row target)) left h
  op-wide (Group input keys aggs) s t left right made h k = sorted_wide (length aggs) (grouped keys aggs left) (width-grouped keys aggs left)
  op-wide (OrderLimit input keys None) s t left right made h k = h
  op-wide (OrderLimit input keys (Some n)) s t left right made h k = sorted_wide s.width (limited keys (Some n) left) (All-limited (λ row. length row ≡ s.width) keys (Some n) left h)

  -- shapes and rows by the numbers of nodes
  abbrev Suit : List Shape → List Rows → Type 0
  Suit shapes values = (i : ℕ) → AreWide (get_or shapes i no_shape).width (get_or values i [])

  suit_push : (shapes : List Shape) (values : List Rows) (shape : Shape) (rows : Rows) → length values ≡ length shapes → Suit shapes values → AreWide shape.width rows → Suit (shapes ++ shape ∷ []) (values ++ rows ∷ [])
  suit_push [] [] shape rows same suit wide zero = wide
  suit_push [] [] shape rows same suit wide (suc i) = suit i
  suit_push [] (v ∷ values) shape rows same suit wide i = absurd (omega (arith, same))
  suit_push (s ∷ shapes) [] shape rows same suit wide i = absurd (omega (arith, same))
  suit_push (s ∷ shapes) (v ∷ values) shape rows same suit wide zero = suit 0
  suit_push (s ∷ shapes) (v ∷ values) shape rows same suit wide (suc i) = suit_push shapes values shape rows (omega (arith, same)) (λ j. suit (suc j)) wide i

  suit_input : (shapes : List Shape) (values : List Rows) (o : Option ℕ) → Suit shapes values → AreWide (of_input no_shape shapes o).width (of_input [] values o)
  suit_input shapes values None suit = All-nil (λ row. length row ≡ 0)
  suit_input shapes values (Some i) suit = suit i

  suit_all : (shapes : List Shape) (values : List Rows) (nodes : List Node) → ArePlanned shapes nodes → length values ≡ length shapes → Suit shapes values
      → Suit (all_from no_shape shape_by shapes nodes) (all_from [] (op lists doc) values nodes)
  suit_all shapes values [] planned same suit = suit
  suit_all shapes values (node ∷ nodes) planned same suit =
      let shape = had no_shape shape_by shapes node in
      let rows = had [] (op lists doc) values node in
      let wide : AreWide shape.width rows =
      op-wide node (of_input no_shape shapes (left_input node)) (of_input no_shape shapes (right_input node)) (of_input [] values (left_input node)) (of_input [] values (right_input node)) planned.0.made
      (suit_input shapes values (left_input node) suit) (suit_input shapes values (right_input node) suit) in
      suit_all (shapes ++ shape ∷ []) (values ++ rows ∷ []) nodes planned.1
      (omega (arith, same, length-append shapes (shape ∷ []), length-append values (rows ∷ [])))
      (suit_push shapes values shape rows same suit wide)

  -- the rows of each node of a plan have a value for each of its columns
  pub val-wide : (nodes : List Node) (n : ℕ) → IsPlan nodes → AreWide (get_or (shapes_of nodes) n no_shape).width (val lists doc nodes n)
  val-wide nodes n plan = suit_all [] [] nodes plan refl (λ i. All-nil (λ row. length row ≡ 0)) n
