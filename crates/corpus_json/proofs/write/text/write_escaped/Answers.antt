use Rattle.std.proofs.Common.{◌+◌, ◌++◌, drop, sym, ap, ◌∙◌, append_assoc, arith}
use Rattle.std.specs.List.{slice_range}
use Rattle.json.specs.Print.{escape}
use Rattle.corpus_json.proofs.Texts.{escape_split}
use Rattle.corpus_json.proofs.write.text.write_escaped.Goals as goal

pub text-preserved : goal.text-preserved
text-preserved c =
    let text = c.args.text.now in
    let at = c.text.at in
    let piece = escape (slice_range text at (at + 16)) in
    let rest = escape (drop (at + 16) text) in (
      omega arith,
      ap (λ items. items ++ rest) c.in_ok-write_piece.ensures ∙ append_assoc c.text.out.items piece rest
          ∙ ap (λ ts. c.text.out.items ++ ts) (sym (escape_split text at (at + 16) (omega arith))) ∙ c.text.invariant.1,
    )
