use Rattle.span_token.proofs.ClassLemmas.{class_of-ascii}
use Rattle.span_token.proofs.classes.class_of_ascii.Goals as goal

pub returns : goal.returns
returns c = class_of-ascii c.args.byte c.requires
