use Rattle.std.proofs.Common.{◌≡◌, ◌∙◌, ◌⊎◌, ℕ, ◌+◌, List, length, refl, sym, ap, ap₂, subst, Option, true, true≢false}
use Rattle.std.specs.List.{Contains}
use Rattle.std.proofs.lemmas.Option.{slice_get_read}
use Rattle.algebra.specs.Inputs.{left_input, right_input}
use Rattle.restrict_eval.specs.Readers.{is_shown, readers_in, noted, AreReaders}
use Rattle.restrict_eval.proofs.Nearing.{at}
use Rattle.restrict_eval.proofs.Reading.{told_live, unread-step, read-step, among_lists}
use Rattle.restrict_eval.proofs.readers.note_inputs.Goals as goal

pub returns-in_ok-note-2-clause-noted : goal.returns-in_ok-note-2-clause-noted
returns-in_ok-note-2-clause-noted c outputs are =
    let nodes = c.args.nodes.now in
    let n = c.args.n in
    let lists = c.args.lists.now.items in
    let shown = c.args.shown.now in
    let node = c.get.result.now in
    let is = slice_get_read nodes (length nodes) n node refl c.requires.there c.get.ensures.node in
    let some : (is_shown shown n ≡ true) ⊎ ((k : ℕ) × Contains (readers_in lists n) k) =
    subst (λ (ls : List (List ℕ)). (is_shown shown n ≡ true) ⊎ ((k : ℕ) × Contains (readers_in ls n) k)) c.as_slice.ensures.value (c.is_live.ensures.0 c.if-is_live.true) in
    let live = told_live nodes outputs shown n (n + 1) lists are some in
    let step = read-step nodes outputs (at nodes c.get.ensures.at.plan) shown n node is lists are live
    (among_lists nodes outputs lists shown (n + 1) n (left_input node) are c.requires.there c.get.ensures.at.left_lower)
    (among_lists nodes outputs lists shown (n + 1) n (right_input node) are c.requires.there c.get.ensures.at.right_lower) in
    let first : c.note.new.lists.items ≡ noted (left_input node) n lists = c.in_ok-note.ensures.noted ∙ ap (λ (o : Option ℕ). noted o n lists) c.inputs-left.ensures.left in
    let second : c.note-then-is_live.new.lists.items ≡ noted (right_input node) n (noted (left_input node) n lists) =
    c.in_ok-note-2.ensures.noted ∙ ap₂ (λ (o : Option ℕ) (ls : List (List ℕ)). noted o n ls) c.inputs-left.ensures.right first in
    subst (λ (ls : List (List ℕ)). AreReaders nodes outputs n shown ls) (sym second) step

pub returns-else-is_live-clause-noted : goal.returns-else-is_live-clause-noted
returns-else-is_live-clause-noted c outputs are =
    let nodes = c.args.nodes.now in
    let n = c.args.n in
    let lists = c.args.lists.now.items in
    let shown = c.args.shown.now in
    let node = c.get.result.now in
    let is = slice_get_read nodes (length nodes) n node refl c.requires.there c.get.ensures.node in
    unread-step nodes outputs (at nodes c.get.ensures.at.plan) shown n node is lists are (λ some.
    true≢false (sym (c.is_live.ensures.1 (subst (λ (ls : List (List ℕ)). (is_shown shown n ≡ true) ⊎ ((k : ℕ) × Contains (readers_in ls n) k)) (sym c.as_slice.ensures.value) some)) ∙ c.if-is_live.false))
