use Rattle.std.proofs.Common.{◌≡◌, ◌+◌, ◌^◌, ◌++◌, ◌∷◌, length, take, [], sym, subst, ◌∙◌, arith, ap, All}
use Rattle.std.proofs.lemmas.List.{take_more}
use Rattle.group_agg.specs.Groups.{HasColumn}
use Rattle.group_agg.specs.Tallies.{AreKeys, AreTallied}
use Rattle.group_agg.proofs.GroupKeys.{AreBounded-weaker, AreKeys-more, AreTallied-if_new, AreTallied-added, HaveStarted, IsGrown-insert_key, keys_by_new, key_at, contains_at, distinct_keys, tallied_long}
use Rattle.group_agg.proofs.groups.tally_rows.Goals as goal

pub add_row-requires-clause-there : goal.add_row-requires-clause-there
add_row-requires-clause-there c =
    let keys = c.args.keys.now in
    let aggs = c.args.aggs.now in
    let rows = c.args.rows.now in
    let i = c.loop-row.row-index in
    let old = c.loop-row.group_keys.keys in
    let new = c.insert_full.new.self.keys in
    let key = c.in_ok-key.key in
    let is_new = c.in_ok-number.is_new in
    let was = c.loop-row.columns.items in
    let before = c.start_if_new.new.columns.items in
    let begun = AreTallied-if_new keys aggs (take i rows) old new key is_new i was before c.loop-row.invariant.keys (distinct_keys new c.insert_full.ensures.unique)
    (keys_by_new old new key is_new c.in_ok-number.ensures.keys c.in_ok-number.ensures.added) (omega arith) c.in_ok-start_if_new.ensures.same
    (λ e. subst (λ k. HaveStarted aggs k was before) (sym c.in_ok-key.ensures) (c.in_ok-start_if_new.ensures.started e))
    c.loop-row.invariant.tallies c.loop-row.invariant.bounded in
    λ k d below. omega (arith, tallied_long keys aggs (take i rows) new before begun.0 k d below, c.in_ok-number.ensures.within)

pub add_row-requires-clause-columns_there : goal.add_row-requires-clause-columns_there
add_row-requires-clause-columns_there c = subst (λ r. All (HasColumn (length r)) c.args.aggs.now) (sym c.row-item.is) (c.requires.columns_there c.loop-row.row-index c.row-item.result (omega arith))

pub add_row-requires-clause-room : goal.add_row-requires-clause-room
add_row-requires-clause-room c =
    let keys = c.args.keys.now in
    let aggs = c.args.aggs.now in
    let rows = c.args.rows.now in
    let i = c.loop-row.row-index in
    let old = c.loop-row.group_keys.keys in
    let new = c.insert_full.new.self.keys in
    let key = c.in_ok-key.key in
    let is_new = c.in_ok-number.is_new in
    let was = c.loop-row.columns.items in
    let before = c.start_if_new.new.columns.items in
    let begun = AreTallied-if_new keys aggs (take i rows) old new key is_new i was before c.loop-row.invariant.keys (distinct_keys new c.insert_full.ensures.unique)
    (keys_by_new old new key is_new c.in_ok-number.ensures.keys c.in_ok-number.ensures.added) (omega arith) c.in_ok-start_if_new.ensures.same
    (λ e. subst (λ k. HaveStarted aggs k was before) (sym c.in_ok-key.ensures) (c.in_ok-start_if_new.ensures.started e))
    c.loop-row.invariant.tallies c.loop-row.invariant.bounded in
    AreBounded-weaker i (2 ^ 32) before (omega arith) begun.1

pub loop-row-preserved : goal.loop-row-preserved
loop-row-preserved c =
    let keys = c.args.keys.now in
    let aggs = c.args.aggs.now in
    let rows = c.args.rows.now in
    let i = c.loop-row.row-index in
    let old = c.loop-row.group_keys.keys in
    let new = c.insert_full.new.self.keys in
    let key = c.in_ok-key.key in
    let is_new = c.in_ok-number.is_new in
    let was = c.loop-row.columns.items in
    let before = c.start_if_new.new.columns.items in
    let begun = AreTallied-if_new keys aggs (take i rows) old new key is_new i was before c.loop-row.invariant.keys (distinct_keys new c.insert_full.ensures.unique)
    (keys_by_new old new key is_new c.in_ok-number.ensures.keys c.in_ok-number.ensures.added) (omega arith) c.in_ok-start_if_new.ensures.same
    (λ e. subst (λ k. HaveStarted aggs k was before) (sym c.in_ok-key.ensures) (c.in_ok-start_if_new.ensures.started e))
    c.loop-row.invariant.tallies c.loop-row.invariant.bounded in
    let row = c.row-item.result in
    let n = c.in_ok-number.number in
    let after = c.add_row.new.columns.items in
    let distinct = distinct_keys new c.insert_full.ensures.unique in
    let grown = IsGrown-insert_key old new key c.in_ok-number.ensures.keys in
    let at = key_at new n key c.in_ok-number.ensures.stored in
    let rows_are : take (i + 1) rows ≡ take i rows ++ row ∷ [] = take_more rows i row (omega arith) ∙ ap (λ r. take i rows ++ r ∷ []) (sym c.row-item.is) in
    record {
      keys = subst (λ xs. AreKeys keys xs new) (sym rows_are) (AreKeys-more keys (take i rows) old new row key c.loop-row.invariant.keys c.in_ok-key.ensures grown distinct (contains_at new n key c.in_ok-number.ensures.within at));
      tallies = subst (λ xs. AreTallied keys aggs xs new after) (sym rows_are) (AreTallied-added keys aggs (take i rows) new row n before after distinct c.in_ok-number.ensures.within (at ∙ c.in_ok-key.ensures) (omega arith) c.add_row.ensures.added begun.0);
      bounded = c.add_row.ensures.bounded i begun.1;
    }
