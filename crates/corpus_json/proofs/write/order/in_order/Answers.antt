use Rattle.std.proofs.Common.{◌∙◌, ◌≡◌, ◌+◌, [], List, ℕ, Bor, sym, ap, map, drop, get_or}
use Rattle.corpus_json.specs.NameIndexes.{NameIndex, entry_index, name_indexes, put_index}
use Rattle.corpus_json.proofs.NameIndexLemmas.{with_rest, texts, with_one_more, with_none, entry_index-insert_entry}
use Rattle.corpus_json.proofs.Sections.{all_within}
use Rattle.corpus_json.proofs.write.order.in_order.Goals as goal

pub names-init : goal.names-init
unfolding name_indexes
names-init c = ap (λ es. with_rest (map entry_index es) 0 (texts c.args.names.now)) c.new-indexes.ensures.empty

pub names-preserved : goal.names-preserved
names-preserved c =
    let none : Bor (List ℕ) = record { ref_ptr = (0, 0); now = [] } in
    let i = c.names.index in
    let names = c.args.names.now in
    let put : map entry_index c.insert.new.self.entries ≡ put_index (map entry_index c.names.indexes.entries) (i, (get_or names i none).now) =
    ap (map entry_index) c.in_ok-insert.ensures.entries ∙ entry_index-insert_entry c.names.indexes.entries (get_or names i none) i in
    ap (λ (indexes : List NameIndex). with_rest indexes (i + 1) (drop (i + 1) (texts names))) put ∙ with_one_more names i none (map entry_index c.names.indexes.entries) c.names-test.true ∙ c.names.invariant

pub returns-clause-order : goal.returns-clause-order
returns-clause-order c = c.in_ok-list.ensures ∙ sym (with_none c.args.names.now c.names.index (map entry_index c.names.indexes.entries) c.names-test.false) ∙ c.names.invariant

pub returns-clause-within : goal.returns-clause-within
returns-clause-within c = all_within c.args.names.now c.in_ok-list.list.items (returns-clause-order c)
