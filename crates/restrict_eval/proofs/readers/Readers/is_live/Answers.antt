use Rattle.restrict_eval.proofs.Reading.{live_iff}
use Rattle.restrict_eval.proofs.readers.Readers.is_live.Goals as goal

pub returns : goal.returns
returns c nodes outputs are =
    live_iff nodes outputs c.args.self.now.shown.items c.args.n c.args.self.now.lists.items c.is_live.result c.as_slice.result.now c.as_slice-2.result.now c.as_slice.ensures.value c.as_slice-2.ensures.value are c.is_live.ensures
