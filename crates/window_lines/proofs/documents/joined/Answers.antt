use Rattle.std.proofs.Common.{rules, ◌≡◌, Global, IfOk, sym, map, length, subst, arith}
use Rattle.std.proofs.lemmas.Iterator.Adapters.{YieldsList-from_vec}
use Rattle.std.proofs.lemmas.Iterator.Consumers.{YieldsList-turn}
use Rattle.std.specs.Fork.{slice_chunk}
use Rattle.corpus_json.specs.Inputs.{doc_of}
use Rattle.window_lines.proofs.Stretches.{mapped-turn}
use Rattle.window_lines.proofs.documents.joined.Goals as goal

pub loop-part-preserved : goal.loop-part-preserved
loop-part-preserved c =
    let list = YieldsList-from_vec {Z = Global} c.args.parts.items (search rules) (search rules) in
    let turn = YieldsList-turn list c.loop-part.yielded c.loop-part.part-iterator c.loop-part.yielded_by c.next.result c.next.new.self c.in-Some.part c.in-Some.is c.next.ensures.steps in
    let told : IfOk c.in-Some.part (λ docs. docs.items ≡ map doc_of (slice_chunk c.args.inputs.now c.args.size (length c.loop-part.yielded))) =
    subst (λ part. IfOk part (λ docs. docs.items ≡ map doc_of (slice_chunk c.args.inputs.now c.args.size (length c.loop-part.yielded)))) (sym turn.1) (c.requires.each (length c.loop-part.yielded) c.in-Some.part (omega (arith, turn.0, c.args.parts.ok.0))) in
    mapped-turn doc_of c.args.inputs.now c.args.size c.loop-part.yielded c.in-Some.part c.loop-part.docs.items c.in_ok-more.more.items c.append.new.self.items
    c.loop-part.invariant (search rules) (search rules)
