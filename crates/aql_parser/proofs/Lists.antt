-- A loop that reads a list: what it has and what the rest of the list gives is what all of it gives.
use Rattle.std.proofs.Common.{◌≡◌, ◌∙◌, ℕ, suc, ◌+◌, ◌-◌, ◌<◌, ◌≤◌, Bool, true, false, List, [], ◌∷◌, ◌++◌, length, Option, Some, None, Ok, Err, Result, map, refl, ap, sym, append_assoc, arith}
use Rattle.std.specs.Result.{IsErrAnd}
use Rattle.std.proofs.lemmas.List.{map-append, append-nil}
use Rattle.span_token.specs.declared.refusal.Failure.{Failure}
use Rattle.span_token.specs.declared.refusal.Failure.TheVariants.{OutOfMemory, Fault}
use Rattle.aql_lexer.specs.Kinds.{Kind}
use Rattle.aql_parser.specs.Readers.{Left, Eats, Gives, Reader, prefixed, listed, separated, until, repeated, after}

prefixed_nil : {A : Type 0} (r : Option (List A × ℕ × List Kind)) → prefixed [] r ≡ r
prefixed_nil None = refl
prefixed_nil (Some r) = refl

prefixed_append : {A : Type 0} (xs ys : List A) (r : Option (List A × ℕ × List Kind)) → prefixed xs (prefixed ys r) ≡ prefixed (xs ++ ys) r
prefixed_append xs ys None = refl
prefixed_append xs ys (Some r) = ap (λ zs. Some (zs, r.1, r.2)) (sym (append_assoc xs ys r.0))

module _ {A : Type 0} (separates : List Kind → Bool) (item : Reader A) where
  -- before the first turn
  pub list_begins : (turns n : ℕ) (ks : List Kind) → turns ≡ length ks + 1 → prefixed [] (listed separates item turns n ks) ≡ separated separates item n ks
  unfolding separated
  list_begins turns n ks all = prefixed_nil (listed separates item turns n ks) ∙ ap (λ t. listed separates item t n ks) all

  -- the same after what is there already
  pub list_begins_after : (front : List A) (turns n : ℕ) (ks : List Kind) → turns ≡ length ks + 1 → prefixed front (listed separates item turns n ks) ≡ prefixed front (separated separates item n ks)
  unfolding separated
  list_begins_after front turns n ks all = ap (λ t. prefixed front (listed separates item t n ks)) all

  module _ (xs : List A) (turn end : ℕ) (turn_left : turn < end) (n : ℕ) (ks : List Kind) where
    one_turn : end - turn ≡ suc (end - (turn + 1))
    one_turn = omega arith

    -- no item is read
    pub list_refused : item n ks ≡ None → prefixed xs (listed separates item (end - turn) n ks) ≡ None
    list_refused none = rw (one_turn, none) refl

    module _ (x : A) (m : ℕ) (mid : List Kind) (reads : item n ks ≡ Some (x, m, mid)) where
      -- no separator follows the item
      pub list_ends : separates mid ≡ false → prefixed xs (listed separates item (end - turn) n ks) ≡ Some (xs ++ x ∷ [], m, mid)
      list_ends no_more = rw (one_turn, reads, no_more) refl

      -- a separator follows the item
      pub list_goes_on : separates mid ≡ true → prefixed (xs ++ x ∷ []) (listed separates item (end - (turn + 1)) (m + 1) (after mid)) ≡ prefixed xs (listed separates item (end - turn) n ks)
      list_goes_on more = rw (one_turn, reads, more) (sym (prefixed_append xs (x ∷ []) (listed separates item (end - (turn + 1)) (m + 1) (after mid))))

  -- no turn is left
  pub list_without_turns : (xs : List A) (turn end n : ℕ) (ks : List Kind) → end ≤ turn → prefixed xs (listed separates item (end - turn) n ks) ≡ None
  list_without_turns xs turn end n ks done =
      let zero_left : end - turn ≡ 0 = omega arith in
      rw zero_left refl

  -- so the rest of the list has none
  pub list_stops : (whole : Option (List A × ℕ × List Kind)) (front : List A) (turn end n : ℕ) (ks : List Kind) → prefixed front (listed separates item (end - turn) n ks) ≡ whole → end ≤ turn → whole ≡ None
  list_stops whole front turn end n ks so_far done = sym so_far ∙ list_without_turns front turn end n ks done

-- what is refused is passed on
gives_refused : {X Y A B F : Type 0} (answer : Result Y (Failure F)) (refused : Failure F) (view : X → A) (seen : Y → B) (read : Option (A × ℕ × List Kind)) (whole : Option (B × ℕ × List Kind)) (mid last : Left)
    → (read ≡ None → whole ≡ None) → Gives view read (Err refused) mid → IsErrAnd answer (λ e. e ≡ refused) → Gives seen whole answer last
gives_refused (Ok y) refused view seen read whole mid last none gives same = absurd same
gives_refused (Err e) OutOfMemory view seen read whole mid last none gives same = rw same tt
gives_refused (Err e) (Fault f) view seen read whole mid last none gives same = rw same (none gives)

-- an item is refused, and so is the list
pub list_fails : {X Y A F : Type 0} (answer : Result Y (Failure F)) (refused : Failure F) (view : X → A) (seen : Y → List A) (separates : List Kind → Bool) (item : Reader A) (whole : Option (List A × ℕ × List Kind)) (front : List A) (turn end : ℕ) (left mid last : Left)
    → prefixed front (listed separates item (end - turn) left.at left.kinds) ≡ whole → turn < end
    → Gives view (item left.at left.kinds) (Err refused) mid → IsErrAnd answer (λ e. e ≡ refused) → Gives seen whole answer last
list_fails answer refused view seen separates item whole front turn end left mid last so_far turn_left gives same =
    gives_refused answer refused view seen (item left.at left.kinds) whole mid last (λ none. sym so_far ∙ list_refused separates item front turn end turn_left left.at left.kinds none) gives same

-- the same of a loop that pushes what it reads, seen by `view`
module _ {X A : Type 0} (view : X → A) (separates : List Kind → Bool) (item : Reader A) (whole : Option (List A × ℕ × List Kind))
    (old new : List X) (x : X) (turn end : ℕ) (left mid next : Left)
    (so_far : prefixed (map view old) (listed separates item (end - turn) left.at left.kinds) ≡ whole) (turn_left : turn < end)
    (pushed : new ≡ old ++ x ∷ []) (reads : item left.at left.kinds ≡ Some (view x, mid.at, mid.kinds)) where
  seen : map view new ≡ map view old ++ view x ∷ []
  seen = ap (map view) pushed ∙ map-append view old (x ∷ [])

  -- no separator: the list is read
  pub list_returns : Eats separates false mid next → whole ≡ Some (map view new, next.at, next.kinds)
  list_returns eats =
      rw (eats.1, seen) (sym so_far ∙ list_ends separates item (map view old) turn end turn_left left.at left.kinds (view x) mid.at mid.kinds reads eats.0)

  -- a separator: the loop goes on
  pub list_continues : Eats separates true mid next → prefixed (map view new) (listed separates item (end - (turn + 1)) next.at next.kinds) ≡ whole
  list_continues eats =
      rw (eats.1, seen) (list_goes_on separates item (map view old) turn end turn_left left.at left.kinds (view x) mid.at mid.kinds reads eats.0 ∙ so_far)

-- items up to where the test sees their end
module _ {A : Type 0} (ends : List Kind → Bool) (item : Reader A) where
  pub items_begin : (turns n : ℕ) (ks : List Kind) → turns ≡ length ks + 1 → prefixed [] (until ends item turns n ks) ≡ repeated ends item n ks
  unfolding repeated
  items_begin turns n ks all = prefixed_nil (until ends item turns n ks) ∙ ap (λ t. until ends item t n ks) all

  -- no turn is left
  pub items_stop : (whole : Option (List A × ℕ × List Kind)) (front : List A) (turn end n : ℕ) (ks : List Kind) → prefixed front (until ends item (end - turn) n ks) ≡ whole → end ≤ turn → whole ≡ None
  items_stop whole front turn end n ks so_far done =
      let zero_left : end - turn ≡ 0 = omega arith in
      sym so_far ∙ rw zero_left refl

module _ {X A : Type 0} (view : X → A) (ends : List Kind → Bool) (item : Reader A) (whole : Option (List A × ℕ × List Kind))
    (old : List X) (turn end : ℕ) (left : Left)
    (so_far : prefixed (map view old) (until ends item (end - turn) left.at left.kinds) ≡ whole) (turn_left : turn < end) where
  this_turn : end - turn ≡ suc (end - (turn + 1))
  this_turn = omega arith

  -- the end comes next
  pub items_return : ends left.kinds ≡ true → whole ≡ Some (map view old, left.at, left.kinds)
  items_return ended = sym so_far ∙ rw (this_turn, ended) (ap (λ (xs : List A). Some (xs, left.at, left.kinds)) (append-nil (map view old)))

  module _ (goes_on : ends left.kinds ≡ false) where
    -- no item is read
    pub items_refused : item left.at left.kinds ≡ None → whole ≡ None
    items_refused none = sym so_far ∙ rw (this_turn, goes_on, none) refl

    -- an item is read
    pub items_continue : (new : List X) (x : X) (next : Left) → new ≡ old ++ x ∷ [] → item left.at left.kinds ≡ Some (view x, next.at, next.kinds) → prefixed (map view new) (until ends item (end - (turn + 1)) next.at next.kinds) ≡ whole
    items_continue new x next pushed reads =
        let seen : map view new ≡ map view old ++ view x ∷ [] = ap (map view) pushed ∙ map-append view old (x ∷ []) in
        let turned : prefixed (map view old) (until ends item (end - turn) left.at left.kinds) ≡ prefixed (map view old ++ view x ∷ []) (until ends item (end - (turn + 1)) next.at next.kinds) =
        rw (this_turn, goes_on, reads) (prefixed_append (map view old) (view x ∷ []) (until ends item (end - (turn + 1)) next.at next.kinds)) in
        rw seen (sym turned ∙ so_far)

-- an item is refused, and so are the items
pub items_fail : {X Y A F : Type 0} (answer : Result Y (Failure F)) (refused : Failure F) (view : X → A) (seen : Y → List A) (ends : List Kind → Bool) (item : Reader A) (whole : Option (List A × ℕ × List Kind)) (old : List X) (turn end : ℕ) (left mid last : Left)
    → prefixed (map view old) (until ends item (end - turn) left.at left.kinds) ≡ whole → turn < end → ends left.kinds ≡ false
    → Gives view (item left.at left.kinds) (Err refused) mid → IsErrAnd answer (λ e. e ≡ refused) → Gives seen whole answer last
items_fail answer refused view seen ends item whole old turn end left mid last so_far turn_left goes_on gives same =
    gives_refused answer refused view seen (item left.at left.kinds) whole mid last (items_refused view ends item whole old turn end left so_far turn_left goes_on) gives same

-- the same of a loop that pushes what it reads as it is
module _ {A : Type 0} (separates : List Kind → Bool) (item : Reader A) (whole : Option (List A × ℕ × List Kind))
    (old new : List A) (x : A) (turn end : ℕ) (left mid next : Left)
    (so_far : prefixed old (listed separates item (end - turn) left.at left.kinds) ≡ whole) (turn_left : turn < end)
    (pushed : new ≡ old ++ x ∷ []) (reads : item left.at left.kinds ≡ Some (x, mid.at, mid.kinds)) where
  -- no separator: the list is read
  pub plain_list_returns : Eats separates false mid next → whole ≡ Some (new, next.at, next.kinds)
  plain_list_returns eats =
      rw (eats.1, pushed) (sym so_far ∙ list_ends separates item old turn end turn_left left.at left.kinds x mid.at mid.kinds reads eats.0)

  -- a separator: the loop goes on
  pub plain_list_continues : Eats separates true mid next → prefixed new (listed separates item (end - (turn + 1)) next.at next.kinds) ≡ whole
  plain_list_continues eats =
      rw (eats.1, pushed) (list_goes_on separates item old turn end turn_left left.at left.kinds x mid.at mid.kinds reads eats.0 ∙ so_far)
