-- The constants of the code are the limits of the definitions.
use Rattle.std.proofs.Common.{◌≡◌, refl}
use Rattle.aqlx_top.specs.declared.limits.TheConstants.{PROGRAM_LIMIT, STATEMENT_LIMIT}
use Rattle.aqlx_top.specs.Limits.{program_limit, statement_limit}

pub program_limit_is : PROGRAM_LIMIT ≡ program_limit
program_limit_is = refl

pub statement_limit_is : STATEMENT_LIMIT ≡ statement_limit
statement_limit_is = refl
