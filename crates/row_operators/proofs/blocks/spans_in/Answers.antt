use Rattle.std.proofs.Common.{rules}
use Rattle.row_operators.proofs.Finding.{spans_more, more_lie}
use Rattle.row_operators.proofs.blocks.spans_in.Goals as goal

pub loop-row-preserved : goal.loop-row-preserved
loop-row-preserved c = record {
  spans = spans_more c.args.column c.args.rows.now c.loop-row.row-index c.row-item.result c.source_in.result c.loop-row.spans.items c.push_some.new.spans.items
      (search rules) c.row-item.is c.source_in.ensures.source c.in_ok-push_some.ensures c.loop-row.invariant.spans;
  lies = more_lie c.args.doc.now c.source_in.result c.loop-row.spans.items c.push_some.new.spans.items c.source_in.ensures.lies c.in_ok-push_some.ensures c.loop-row.invariant.lies;
}
