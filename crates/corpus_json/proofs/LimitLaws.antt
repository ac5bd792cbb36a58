-- The constants of the code are the limits of the definitions.
use Rattle.std.proofs.Common.{◌≡◌, refl}
use Rattle.corpus_json.specs.Limits.{line_limit, corpus_limit}
use Rattle.corpus_json.specs.declared.limits.TheConstants.{LINE_LIMIT, CORPUS_LIMIT}

pub line_limit-is : LINE_LIMIT ≡ line_limit
line_limit-is = refl

pub corpus_limit-is : CORPUS_LIMIT ≡ corpus_limit
corpus_limit-is = refl
