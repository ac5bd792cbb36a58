use Rattle.std.proofs.Common.{◌≡◌, ◌∙◌, refl, sym}
use Rattle.line_parts.specs.Answered.{outgoing}
use Rattle.line_parts.specs.PartLaws.{answered-first}
use Rattle.line_parts.specs.TurnLaws.{came-begun}
use Rattle.line_parts.specs.Turns.{none_taken}
use Rattle.line_parts.specs.declared.desk.First.{First}
use Rattle.line_parts.specs.declared.desk.First.TheVariants.{Unknown, Bad, Good}
use Rattle.window_lines.proofs.pieces.Ready.lead.Goals as goal

pub returns-in-Good-clause-stood : goal.returns-in-Good-clause-stood
returns-in-Good-clause-stood g c =
    let piece = g.W.Turn.piece in
    let shown = g.W.Turn.shown in
    let first = c.args.self.now.first.now in
    let held = g.O.Sink.held c.args.out.now in
    let faults = g.O.Sink.faults c.args.out.now in
    let begun = c.lead_first.ensures.good c.in-Good.is in
    let none : c.lead_first.new.desk.taken ≡ none_taken = c.lead_first.ensures.taken ∙ c.requires.taken in
    let begin = outgoing c.args.pending.now held faults in
    let is : c.lead_pieces.new.desk.first ≡ Good = c.lead_pieces.ensures.first ∙ c.in-Good.is in
    record {
      unknown = λ other. let e : Unknown ≡ Good = sym other ∙ is in absurd (cc);
      bad = λ other. let e : Bad ≡ Good = sym other ∙ is in absurd (cc);
      good = λ same. c.lead_pieces.ensures.goes_on begin
          (rw none (came-begun piece first shown begin (outgoing c.lead_first.new.pending held faults) none_taken
          (answered-first piece first shown c.args.pending.now c.lead_first.new.pending begun.0 begun.1) refl refl refl));
    }
