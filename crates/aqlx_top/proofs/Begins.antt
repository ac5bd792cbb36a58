-- Where a token begins, by its number.
use Rattle.std.proofs.Common.{◌≡◌, ℕ, ◌<◌, List, map, length, get_or, ap, ◌∙◌, arith}
use Rattle.std.proofs.lemmas.List.{get_or-map, length-map}
use Rattle.aql_lexer.specs.Kinds.{Token, token_of}
use Rattle.aql_lexer.specs.declared.token.Tok.{Tok}
use Rattle.aqlx_top.specs.ProgramFaults.{begin_of}

pub begin_at : (toks : List Tok) (number : ℕ) (d : Tok) → number < length toks → begin_of (map token_of toks) number ≡ (get_or toks number d).begin
begin_at toks number d below =
    get_or-map (λ (token : Token). token.begin) (map token_of toks) number (token_of d) 0 (omega (arith, below, length-map toks token_of))
    ∙ ap (λ (token : Token). token.begin) (get_or-map token_of toks number d (token_of d) below)
