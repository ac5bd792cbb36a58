use Rattle.std.proofs.Common.{refl, chars}
use Rattle.std.proofs.lemmas.Str.{IsCharBoundary-start}
use Rattle.span_token.proofs.ScanLemmas.{from_start}
use Rattle.span_token.proofs.scan.TokenScan.new.Goals as goal

pub invariant_of-result : goal.invariant_of-result
invariant_of-result c = record {
  utf8 = c.utf8.text;
  short = c.requires;
  point = record { passed = refl; boundary = IsCharBoundary-start c.args.text.now c.utf8.text };
  seam = record { between = λ there word. refl };
}

pub returns : goal.returns
returns c = from_start (chars c.args.text.now)
