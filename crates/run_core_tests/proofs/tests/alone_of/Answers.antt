use Rattle.run_core_tests.specs.Matched.{alone-is}
use Rattle.run_core_tests.proofs.tests.alone_of.Goals as goal

pub returns : goal.returns
returns c =
    alone-is c.args.tools.now c.args.doc.now c.args.matches.now c.in_ok-rows.rows c.as_slice.result.now c.args.items.now c.requires.matches c.as_slice.ensures c.requires.items c.in_ok-rows.ensures.width c.in_ok-rows.ensures.rows
