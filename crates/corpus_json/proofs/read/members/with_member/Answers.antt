use Rattle.std.proofs.Common.{refl, codes, sym}
use Rattle.corpus_json.proofs.Passing.{put_here, put_elsewhere, other_name}
use Rattle.corpus_json.proofs.read.members.with_member.Goals as goal

pub returns-then-eq : goal.returns-then-eq
returns-then-eq c = λ d ms string strings. record {
  text = put_here (codes "text") c.args.name.now _ d ms (sym c.if-eq.ensures) string;
  label = put_elsewhere (codes "label") c.args.name.now _ d ms (other_name c.args.name.now (codes "text") (codes "label") (sym c.if-eq.ensures) refl) strings.label;
}

pub returns-then-eq-2 : goal.returns-then-eq-2
returns-then-eq-2 c = λ d ms string strings. record {
  text = put_elsewhere (codes "text") c.args.name.now _ d ms (other_name c.args.name.now (codes "label") (codes "text") (sym c.if-eq-2.ensures) refl) strings.text;
  label = put_here (codes "label") c.args.name.now _ d ms (sym c.if-eq-2.ensures) string;
}

pub returns : goal.returns
returns c = λ d ms string strings. record {
  text = put_elsewhere (codes "text") c.args.name.now _ d ms (sym c.if-eq.ensures) strings.text;
  label = put_elsewhere (codes "label") c.args.name.now _ d ms (sym c.if-eq-2.ensures) strings.label;
}
