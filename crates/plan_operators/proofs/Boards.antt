-- The rows of nodes, made of those of their inputs.
use Rattle.std.proofs.Common.{◌≡◌, ◌∙◌, ◌<◌, ◌+◌, ◌++◌, ◌∷◌, ℕ, List, [], Option, Some, None, length, take, refl, sym, ap, subst, arith, ⊎_elim}
use Rattle.std.specs.Prelude.{slice_index_or, IfSome, IfNone, IsSome, map, true, Contains}
use Rattle.std.proofs.Common.{inl, inr}
use Rattle.std.proofs.lemmas.Bool.{true≢false}
use Rattle.std.proofs.lemmas.List.{length-map, length-take, get_or-map, get_or-take, take_more}
use Rattle.std.proofs.lemmas.List.Elements.{All-nil, All-push, All-weaker, Contains-get_or}
use Rattle.aql_base.specs.Bags.{SameBag}
use Rattle.aql_base.specs.CountLaws.{length-SameBag}
use Rattle.aql_base.specs.BagLaws.{SameBag-is, SameBag-refl, SameBag-sym, SameBag-trans}
use Rattle.span_token.specs.Documents.{Doc}
use Rattle.row_values.specs.Datums.{IsOfDocument}
use Rattle.row_values.specs.Rows.{RowList, RowsLieIn}
use Rattle.aql_typed.specs.Meaning.{Rows}
use Rattle.scalar_ops.specs.Tables.{Lists}
use Rattle.std.specs.List.{All}
use Rattle.algebra.specs.declared.node.Node.{Node}
use Rattle.algebra.specs.declared.shape.Shape.{Shape}
use Rattle.algebra.specs.declared.output.PlanOut.{PlanOut}
use Rattle.algebra.specs.FoldLaws.{length-each}
use Rattle.algebra.specs.Folds.{of_input}
use Rattle.algebra.specs.Plans.{IsOutput, AreOutputs}
use Rattle.algebra.specs.Growth.{IsAt}
use Rattle.algebra.specs.Inputs.{left_input, right_input, is_conditional, IsAmong}
use Rattle.algebra.specs.JoiningLaws.{conditional-nil}
use Rattle.algebra.specs.OperatorLaws.{op-SameBag}
use Rattle.algebra.specs.Operators.{op}
use Rattle.algebra.specs.Shapes.{no_shape, shapes_of, shape_by}
use Rattle.algebra.specs.Values.{all_values, val}
use Rattle.plan_operators.specs.Boards.{IsOf, Holds, IsBoardOf}
use Rattle.plan_operators.specs.Filling.{HasAsked, IsEmptyInput, IsEmptyOn, IsInput, IsRightInput, IsSpared, IsGivenUp, IsThere, input_on, rows_found, rows_or_none}
use Rattle.plan_operators.specs.Given.{MayRead}

none_of : (xs : Rows) → length xs ≡ 0 → xs ≡ []
none_of [] e = refl
none_of (x ∷ xs) e = absurd (omega (arith, e))

-- a bag of none
pub same_none : (xs ys : Rows) → SameBag xs ys → ys ≡ [] → xs ≡ []
same_none xs ys same e = none_of xs (length-SameBag xs ys same ∙ ap (λ (zs : Rows). length zs) e)

module _ (lists : Lists) (doc : Doc) (nodes : List Node) where
  abbrev width_of : ℕ → ℕ
  width_of i = (slice_index_or (shapes_of nodes) i no_shape).width

  held : (i w : ℕ) (o : Option RowList) → IsSome o → IfSome o (IsOf lists doc nodes i) → IsInput lists doc nodes (Some i) (rows_or_none w o)
  held i w None some h = absurd (true≢false (sym some))
  held i w (Some list) some h = record { same = h.same; wide = h.wide; lies = h.lies }

  fits : (i : ℕ) (o : Option RowList) → IfSome o (IsOf lists doc nodes i) → ((rows_or_none (width_of i) o).width ≡ width_of i) × RowsLieIn doc (rows_or_none (width_of i) o).rows
  fits i None h = (refl, All-nil (All (IsOfDocument doc)))
  fits i (Some list) h = (h.wide, h.lies)

  module _ (board : List (Option RowList)) (has : IsBoardOf lists doc nodes board) where
    -- an input that is there has its rows on the board
    pub on_board : (o : Option ℕ) → IsAmong (length board) o → IsThere board o → IsInput lists doc nodes o (input_on nodes board o)
    on_board None among present = record { same = SameBag-refl []; wide = refl; lies = All-nil (All (IsOfDocument doc)) }
    on_board (Some i) among present = held i (width_of i) (slice_index_or board i None) present (has.each i among)

    -- where an input has no row on the board it is worth none
    pub empty_none : (o : Option ℕ) → IsEmptyInput board o → of_input [] (all_values lists doc nodes) o ≡ []
    empty_none None empty = refl
    empty_none (Some i) empty =
        let is : IsOf lists doc nodes i empty.list = subst (λ (o : Option RowList). IfSome o (IsOf lists doc nodes i)) empty.list_is (has.each i empty.there) in
        same_none (val lists doc nodes i) empty.list.rows (SameBag-sym empty.list.rows (val lists doc nodes i) is.same) empty.none

    -- and an input that is there and worth none has none
    pub emptied : (n : ℕ) → n < length board → (o : Option ℕ) → IsAmong n o → IsThere board o → of_input [] (all_values lists doc nodes) o ≡ [] → IsEmptyInput board o
    emptied n below None among present none = tt
    emptied n below (Some i) among present none = empty_at (slice_index_or board i None) refl present (has.each i (omega (arith, among, below)))
      where
        empty_at : (p : Option RowList) → slice_index_or board i None ≡ p → IsSome p → IfSome p (IsOf lists doc nodes i) → IsEmptyOn board i
        empty_at None e is_some is = absurd (true≢false (sym is_some))
        empty_at (Some list) e is_some is = record { there = omega (arith, among, below); list = list; list_is = e; none = same_none list.rows (val lists doc nodes i) is.same none }

    fit : (o : Option ℕ) → IsAmong (length board) o → ((input_on nodes board o).width ≡ (of_input no_shape (shapes_of nodes) o).width) × RowsLieIn doc (input_on nodes board o).rows
    fit None among = (refl, All-nil (All (IsOfDocument doc)))
    fit (Some i) among = fits i (slice_index_or board i None) (has.each i among)

    -- the right input of a node that is asked for is there
    pub right_there : (node : Node) → IsAmong (length board) (right_input node) → HasAsked board node → IsRightInput lists doc nodes node (input_on nodes board (right_input node))
    right_there node among asked =
        ⊎_elim (λ (present : IsThere board (right_input node)). inl (on_board (right_input node) among present))
        (λ (spared : (is_conditional node ≡ true) × IsEmptyInput board (left_input node)).
        let fitting = fit (right_input node) among in
        inr (record { conditional = spared.0; none = empty_none (left_input node) spared.1; wide = fitting.0; lies = fitting.1 }))
        asked.right

    -- rows that were taken off it are those of their input
    pub taken_is : (input other_input : Option ℕ) (rows : RowList) → IsAmong (length board) input → IsGivenUp input other_input rows board → IsInput lists doc nodes input rows
    taken_is input other_input rows among taken =
        let below : taken.node < length board = subst (IsAmong (length board)) taken.is_input among in
        let is : IsOf lists doc nodes taken.node rows = subst (λ (o : Option RowList). IfSome o (IsOf lists doc nodes taken.node)) taken.rows_are (has.each taken.node below) in
        subst (λ (o : Option ℕ). IsInput lists doc nodes o rows) (sym taken.is_input) (record { same = is.same; wide = is.wide; lies = is.lies })

  -- an input whose rows stand as they stood
  same_input : (old new : List (Option RowList)) (o : Option ℕ) → ((m : ℕ) → o ≡ Some m → slice_index_or new m None ≡ slice_index_or old m None) → input_on nodes new o ≡ input_on nodes old o
  same_input old new None same = refl
  same_input old new (Some i) same = ap (rows_or_none (width_of i)) (same i refl)

  -- a board that gives up rows of one input, and then of the other
  module _ (old mid new : List (Option RowList)) (left right : Option ℕ) (of_left of_right : Option RowList)
      (left_given : IfSome of_left (λ rows. IsGivenUp left right rows old)) (left_none : IfNone of_left ((m : ℕ) → slice_index_or mid m None ≡ slice_index_or old m None))
      (left_others : (m : ℕ) → (left ≡ Some m → ⊥) → slice_index_or mid m None ≡ slice_index_or old m None)
      (right_given : IfSome of_right (λ rows. IsGivenUp right left rows mid)) (right_none : IfNone of_right ((m : ℕ) → slice_index_or new m None ≡ slice_index_or mid m None))
      (right_others : (m : ℕ) → (right ≡ Some m → ⊥) → slice_index_or new m None ≡ slice_index_or mid m None) where
    -- the right one stands as it stood when the left one was given up
    right_at_first : (m : ℕ) → right ≡ Some m → slice_index_or mid m None ≡ slice_index_or old m None
    right_at_first m is = by of_left left_given left_none
      where
        by : (o : Option RowList) → IfSome o (λ rows. IsGivenUp left right rows old) → IfNone o ((k : ℕ) → slice_index_or mid k None ≡ slice_index_or old k None) → slice_index_or mid m None ≡ slice_index_or old m None
        by None given none = none m
        by (Some rows) given none = left_others m (λ other. given.other (is ∙ sym other))

    -- and the left one when the right one was
    left_at_last : (m : ℕ) → left ≡ Some m → slice_index_or new m None ≡ slice_index_or mid m None
    left_at_last m is = by of_right right_given right_none
      where
        by : (o : Option RowList) → IfSome o (λ rows. IsGivenUp right left rows mid) → IfNone o ((k : ℕ) → slice_index_or new k None ≡ slice_index_or mid k None) → slice_index_or new m None ≡ slice_index_or mid m None
        by None given none = none m
        by (Some rows) given none = right_others m (λ other. given.other (is ∙ sym other))

    module _ (has : IsBoardOf lists doc nodes old) where
      -- what is found of the left input is what it has
      pub left_found : IsAmong (length old) left → IsThere old left → IsInput lists doc nodes left (rows_found nodes new left of_left)
      left_found among present = by of_left left_given left_none
        where
          by : (o : Option RowList) → IfSome o (λ rows. IsGivenUp left right rows old) → IfNone o ((k : ℕ) → slice_index_or mid k None ≡ slice_index_or old k None) → IsInput lists doc nodes left (rows_found nodes new left o)
          by None given none =
              subst (IsInput lists doc nodes left) (sym (same_input old new left (λ m is. left_at_last m is ∙ none m))) (on_board old has left among present)
          by (Some rows) given none = taken_is old has left right rows among given

      -- and of the right one, or that isn't asked for
      pub right_found : (node : Node) → right ≡ right_input node → IsAmong (length old) right → HasAsked old node → IsRightInput lists doc nodes node (rows_found nodes new right of_right)
      right_found node is among asked = by of_right right_given right_none
        where
          by : (o : Option RowList) → IfSome o (λ rows. IsGivenUp right left rows mid) → IfNone o ((k : ℕ) → slice_index_or new k None ≡ slice_index_or mid k None) → IsRightInput lists doc nodes node (rows_found nodes new right o)
          by None given none =
              subst (IsRightInput lists doc nodes node)
              (ap (input_on nodes old) (sym is) ∙ sym (same_input old new right (λ m at. none m ∙ right_at_first m at)))
              (right_there old has node (subst (IsAmong (length old)) is among) asked)
          by (Some rows) given none =
              inl (subst (λ (o : Option ℕ). IsInput lists doc nodes o rows) is
              (taken_is old has right left rows among
              (record { node = given.node; is_input = given.is_input; rows_are = sym (right_at_first given.node given.is_input) ∙ given.rows_are; other = given.other })))

  module _ (n : ℕ) (node : Node) (at : IsAt nodes n node) (left right : RowList) (l : IsInput lists doc nodes (left_input node) left) where
    abbrev left_worth : Rows
    left_worth = of_input [] (all_values lists doc nodes) (left_input node)

    abbrev right_worth : Rows
    right_worth = of_input [] (all_values lists doc nodes) (right_input node)

    module _ (wide_right : right.width ≡ (of_input no_shape (shapes_of nodes) (right_input node)).width) where
      -- the node may read them
      may_read_wide : MayRead node left right
      may_read_wide = record {
        left_shape = of_input no_shape (shapes_of nodes) (left_input node);
        right_shape = of_input no_shape (shapes_of nodes) (right_input node);
        left_width = l.wide;
        right_width = wide_right;
        made = at.valid.made;
      }

      -- and where its operator gives of them what it gives of its inputs' values, these are its rows
      is_of : (out : RowList) → SameBag (op lists doc node left.rows right.rows) (op lists doc node left_worth right_worth) → SameBag out.rows (op lists doc node left.rows right.rows)
          → out.width ≡ (shape_by node (of_input no_shape (shapes_of nodes) (left_input node)) (of_input no_shape (shapes_of nodes) (right_input node))).width → RowsLieIn doc out.rows → IsOf lists doc nodes n out
      is_of out worth same wide lies = record {
        same = SameBag-trans out.rows (op lists doc node left.rows right.rows) (val lists doc nodes n) same
            (SameBag-trans (op lists doc node left.rows right.rows) (op lists doc node left_worth right_worth) (val lists doc nodes n) worth
            (SameBag-sym (val lists doc nodes n) (op lists doc node left_worth right_worth) (at.stands.has.same lists doc)));
        wide = wide ∙ sym (ap (λ (s : Shape). s.width) at.stands.has.shaped);
        lies = lies;
      }

    -- so it does where the left one has no row, whatever stands for the right one
    spared_same : is_conditional node ≡ true → left_worth ≡ [] → SameBag (op lists doc node left.rows right.rows) (op lists doc node left_worth right_worth)
    spared_same conditional none =
        let no_left : left.rows ≡ [] = same_none left.rows left_worth l.same none in
        SameBag-is (op lists doc node left.rows right.rows) (op lists doc node left_worth right_worth)
        (ap (λ (rows : Rows). op lists doc node rows right.rows) no_left
        ∙ (conditional-nil lists doc node right.rows conditional
        ∙ (sym (conditional-nil lists doc node right_worth conditional) ∙ ap (λ (rows : Rows). op lists doc node rows right_worth) (sym none))))

  -- the rows on the right, or what stands for them
  module _ (n : ℕ) (node : Node) (at : IsAt nodes n node) (left right : RowList) (l : IsInput lists doc nodes (left_input node) left) (r : IsRightInput lists doc nodes node right) where
    pub right_wide : right.width ≡ (of_input no_shape (shapes_of nodes) (right_input node)).width
    right_wide = ⊎_elim (λ (is : IsInput lists doc nodes (right_input node) right). is.wide) (λ (spared : IsSpared lists doc nodes node right). spared.wide) r

    pub right_lies : RowsLieIn doc right.rows
    right_lies = ⊎_elim (λ (is : IsInput lists doc nodes (right_input node) right). is.lies) (λ (spared : IsSpared lists doc nodes node right). spared.lies) r

    pub may_read : MayRead node left right
    may_read = may_read_wide n node at left right l right_wide

    -- its operator gives of them what it gives of its inputs' values
    pub worth-same : SameBag (op lists doc node left.rows right.rows) (op lists doc node (of_input [] (all_values lists doc nodes) (left_input node)) (of_input [] (all_values lists doc nodes) (right_input node)))
    worth-same =
        ⊎_elim
        (λ (is : IsInput lists doc nodes (right_input node) right).
        op-SameBag lists doc node left.rows (of_input [] (all_values lists doc nodes) (left_input node)) right.rows (of_input [] (all_values lists doc nodes) (right_input node)) l.same is.same)
        (λ (spared : IsSpared lists doc nodes node right). spared_same n node at left right l spared.conditional spared.none) r

    pub rows_are : (out : RowList) → SameBag out.rows (op lists doc node left.rows right.rows)
        → out.width ≡ (shape_by node (of_input no_shape (shapes_of nodes) (left_input node)) (of_input no_shape (shapes_of nodes) (right_input node))).width → RowsLieIn doc out.rows → IsOf lists doc nodes n out
    rows_are out same wide lies = is_of n node at left right l right_wide out worth-same same wide lies

  -- the rows that one node gives of those that another one gives of its inputs' rows
  pub passed_is : (k n : ℕ) (p s : Node) → left_input s ≡ Some k → right_input s ≡ None → (at_p : IsAt nodes k p) → IsAt nodes n s → (left right : RowList) → (lin : IsInput lists doc nodes (left_input p) left)
      → (rin : IsRightInput lists doc nodes p right) → (out : RowList) → out.rows ≡ op lists doc s (op lists doc p left.rows right.rows) []
      → out.width ≡ (shape_by s (shape_by p (of_input no_shape (shapes_of nodes) (left_input p)) (of_input no_shape (shapes_of nodes) (right_input p))) no_shape).width
      → RowsLieIn doc out.rows → IsOf lists doc nodes n out
  passed_is k n p s from_it alone at_p at_s left right lin rin out rows width lies =
      let worth : Option ℕ → Rows = of_input [] (all_values lists doc nodes) in
      let shape : Option ℕ → Shape = of_input no_shape (shapes_of nodes) in
      let given : Rows = op lists doc p left.rows right.rows in
      let is_given : SameBag given (val lists doc nodes k) =
      SameBag-trans given (op lists doc p (worth (left_input p)) (worth (right_input p))) (val lists doc nodes k) (worth-same k p at_p left right lin rin)
      (SameBag-sym (val lists doc nodes k) (op lists doc p (worth (left_input p)) (worth (right_input p))) (at_p.stands.has.same lists doc)) in
      let on_left : SameBag given (worth (left_input s)) = subst (λ (o : Option ℕ). SameBag given (worth o)) (sym from_it) is_given in
      let on_right : SameBag [] (worth (right_input s)) = subst (λ (o : Option ℕ). SameBag [] (worth o)) (sym alone) (SameBag-refl []) in
      let meant : Rows = op lists doc s (worth (left_input s)) (worth (right_input s)) in
      record {
        same = SameBag-trans out.rows (op lists doc s given []) (val lists doc nodes n) (SameBag-is out.rows (op lists doc s given []) rows)
            (SameBag-trans (op lists doc s given []) meant (val lists doc nodes n) (op-SameBag lists doc s given (worth (left_input s)) [] (worth (right_input s)) on_left on_right)
            (SameBag-sym (val lists doc nodes n) meant (at_s.stands.has.same lists doc)));
        wide = width ∙ (ap (λ (t : Shape). (shape_by s t no_shape).width) (sym at_p.stands.has.shaped ∙ ap shape (sym from_it))
            ∙ (ap (λ (o : Option ℕ). (shape_by s (shape (left_input s)) (shape o)).width) (sym alone) ∙ sym (ap (λ (t : Shape). t.width) at_s.stands.has.shaped)));
        lies = lies;
      }

-- the nodes of outputs are there
pub outputs-there : (nodes : List Node) (outs : List PlanOut) → AreOutputs nodes outs → All (λ (out : PlanOut). out.node < length nodes) outs
outputs-there nodes outs valid =
    All-weaker (IsOutput (shapes_of nodes)) (λ (out : PlanOut). out.node < length nodes) (λ out is. omega (arith, is.there, length-each no_shape shape_by nodes)) outs valid.each

-- rows that are there and right
pub held-there : (lists : Lists) (doc : Doc) (nodes : List Node) (n : ℕ) (o : Option RowList) → IsSome o → IfSome o (IsOf lists doc nodes n) → Holds lists doc nodes n o
held-there lists doc nodes n None some is = absurd (true≢false (sym some))
held-there lists doc nodes n (Some list) some is = is

-- those of outputs hold what their nodes have
pub all-held : (lists : Lists) (doc : Doc) (nodes : List Node) (board : List (Option RowList)) (shown : List PlanOut) → IsBoardOf lists doc nodes board → All (λ (out : PlanOut). out.node < length board) shown
    → All (λ (out : PlanOut). IsSome (slice_index_or board out.node None)) shown → All (λ (out : PlanOut). Holds lists doc nodes out.node (slice_index_or board out.node None)) shown
all-held lists doc nodes board shown has there some = λ k d below.
    let n : ℕ = (slice_index_or shown k d).node in
    held-there lists doc nodes n (slice_index_or board n None) (some k d below) (has.each n (there k d below))

-- and are listed among the nodes that are shown
pub shown-listed : (shown : List PlanOut) (k : ℕ) (d : PlanOut) → k < length shown → Contains (map (λ (out : PlanOut). out.node) shown) (slice_index_or shown k d).node
shown-listed shown k d below =
    subst (Contains (map (λ (out : PlanOut). out.node) shown)) (get_or-map (λ (out : PlanOut). out.node) shown k d 0 below)
    (Contains-get_or (map (λ (out : PlanOut). out.node) shown) k 0 (omega (arith, below, length-map shown (λ (out : PlanOut). out.node))))

-- the nodes of one output more are there, where those of the outputs before it stay
pub there-more : (outs : List PlanOut) (i : ℕ) (out : PlanOut) (old new : List (Option RowList)) → i < length outs → out ≡ slice_index_or outs i out
    → ((m : ℕ) → Contains (map (λ (o : PlanOut). o.node) outs) m → IsSome (slice_index_or old m None) → IsSome (slice_index_or new m None)) → IsSome (slice_index_or new out.node None)
    → All (λ (o : PlanOut). IsSome (slice_index_or old o.node None)) (take i outs) → All (λ (o : PlanOut). IsSome (slice_index_or new o.node None)) (take (i + 1) outs)
there-more outs i out old new below at kept there before =
    let was : All (λ (o : PlanOut). IsSome (slice_index_or new o.node None)) (take i outs) = λ k d inside.
    let early : k < i = omega (arith, inside, length-take i outs) in
    let same : slice_index_or (take i outs) k d ≡ slice_index_or outs k d = get_or-take i outs k d early in
    kept (slice_index_or (take i outs) k d).node (subst (λ (o : PlanOut). Contains (map (λ (p : PlanOut). p.node) outs) o.node) (sym same) (shown-listed outs k d (omega (arith, early, below)))) (before k d inside) in
    subst (All (λ (o : PlanOut). IsSome (slice_index_or new o.node None))) (sym (take_more outs i out below ∙ ap (λ (o : PlanOut). take i outs ++ o ∷ []) (sym at)))
    (All-push (λ (o : PlanOut). IsSome (slice_index_or new o.node None)) (take i outs) out was there)
