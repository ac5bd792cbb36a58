use Rattle.std.proofs.Common.{All, subst}
use Rattle.std.proofs.lemmas.List.Elements.{All-map}
use Rattle.row_values.specs.Datums.{IsOfDocument, datum_of}
use Rattle.corpus_json_tests.proofs.tests.row_fits.Goals as goal

pub returns : goal.returns
returns c = λ fits. subst (All (IsOfDocument c.args.document.now)) c.values.ensures (All-map (IsOfDocument c.args.document.now) datum_of c.values.result.now (c.values_fit.ensures fits))
