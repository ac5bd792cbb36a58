-- The limits of the code are those of the definitions.
use Rattle.std.proofs.Common.{◌≡◌, refl}
use Rattle.span_token.specs.Limits.{text_limit}
use Rattle.span_token.specs.declared.limits.TheConstants.{TEXT_LIMIT}

pub text_limit-is : TEXT_LIMIT ≡ text_limit
text_limit-is = refl
