use Rattle.json.proofs.Printed.Plain.{escape_on_plain}
use Rattle.corpus_json.proofs.write.plain.is_short_plain.Goals as goal

pub returns : goal.returns
returns c = escape_on_plain c.plain_short.result c.args.text.now c.plain_short.ensures
