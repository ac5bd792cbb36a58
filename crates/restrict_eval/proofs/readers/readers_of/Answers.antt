use Rattle.std.proofs.Common.{rules, ◌≡◌, ◌∙◌, ◌+◌, ◌-◌, ℕ, Bool, List, length, map, sym, subst, arith}
use Rattle.restrict_eval.specs.Readers.{AreReaders}
use Rattle.restrict_eval.proofs.Reading.{none-read}
use Rattle.restrict_eval.proofs.readers.readers_of.Goals as goal

pub nodes-init : goal.nodes-init
nodes-init c =
    let nodes = c.args.nodes.now in
    let shown_long : length c.in_ok-shown.shown.items ≡ length nodes = omega (arith, c.in_ok-shown.ensures.long, c.len.ensures, c.in_ok-shown.shown.ok.0) in
    let lists_long : length c.in_ok-lists.lists.items ≡ length nodes = omega (arith, c.in_ok-lists.ensures.long, c.len-2.ensures, c.in_ok-lists.lists.ok.0) in
    record {
      within = omega (arith, c.len-rest.ensures);
      shown_long = c.in_ok-shown.ensures.long ∙ c.len.ensures;
      lists_long = c.in_ok-lists.ensures.long ∙ c.len-2.ensures;
      readers = subst (λ (k : ℕ). AreReaders nodes (map (λ out. out.node) c.args.outputs.now) k c.in_ok-shown.shown.items c.in_ok-lists.lists.items) (sym c.len-rest.ensures)
          (none-read nodes (map (λ out. out.node) c.args.outputs.now) c.in_ok-shown.shown.items c.in_ok-lists.lists.items shown_long lists_long c.in_ok-shown.ensures.shown c.in_ok-lists.ensures.none);
    }

pub nodes-preserved : goal.nodes-preserved
nodes-preserved c =
    let nodes = c.args.nodes.now in
    let outs = map (λ out. out.node) c.args.outputs.now in
    let shown = c.in_ok-shown.shown.items in
    let next : c.nodes.rest ≡ c.nodes.rest - 1 + 1 = search rules in
    let before : AreReaders nodes outs (c.nodes.rest - 1 + 1) c.as_slice.result.now c.nodes.lists.items =
    subst (λ (marks : List Bool). AreReaders nodes outs (c.nodes.rest - 1 + 1) marks c.nodes.lists.items) (sym c.as_slice.ensures.value)
    (subst (λ (k : ℕ). AreReaders nodes outs k shown c.nodes.lists.items) next c.nodes.invariant.readers) in
    record {
      within = omega (arith, c.nodes.invariant.within);
      shown_long = c.nodes.invariant.shown_long;
      lists_long = c.in_ok-note_inputs.ensures.long ∙ c.nodes.invariant.lists_long;
      readers = subst (λ (marks : List Bool). AreReaders nodes outs (c.nodes.rest - 1) marks c.note_inputs.new.lists.items) c.as_slice.ensures.value (c.in_ok-note_inputs.ensures.noted outs before);
    }

pub returns : goal.returns
returns c =
    let done : c.nodes.rest ≡ 0 = search rules in
    subst (λ (k : ℕ). AreReaders c.args.nodes.now (map (λ out. out.node) c.args.outputs.now) k c.in_ok-shown.shown.items c.nodes.lists.items) done c.nodes.invariant.readers
