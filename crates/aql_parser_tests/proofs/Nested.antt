-- How deep the tokens of a statement nest, as the parser asks for it.
use Rattle.std.proofs.Common.{◌≡◌, ◌≤◌, ℕ, List, take, sym, arith}
use Rattle.std.proofs.lemmas.List.{take-map}
use Rattle.aql_lexer.specs.Kinds.{kind_of, kinds_of}
use Rattle.aql_lexer.specs.declared.token.Tok.{Tok}
use Rattle.aql_parser.specs.Nesting.{IsWithin}
use Rattle.aql_parser.specs.Runs.{IsLeastDepth}

-- the first statement's tokens nest within a limit where their depth is no greater
pub nested_run : (limit depth len : ℕ) (rest : List Tok) → depth ≤ limit → IsLeastDepth (take len (kinds_of rest)) depth → IsWithin limit (kinds_of (take len rest))
nested_run limit depth len rest few least =
    let same : kinds_of (take len rest) ≡ take len (kinds_of rest) = sym (take-map (λ tok. kind_of tok.kind) len rest) in
    λ i. rw same (omega (arith, least.within i, few))
