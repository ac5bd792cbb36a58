-- Calls within a number of parentheses.
use Rattle.std.proofs.Common.{◌≡◌, ℕ, zero, suc, ◌-◌, ◌<◌, refl, arith, sub-one, List, None}
use Rattle.aql_lexer.specs.Kinds.{Kind}
use Rattle.aql_parser.specs.Readers.{◌◁◌, symbol}
use Rattle.aql_parser.specs.Reading.Queries.{within, read_query}
use Rattle.aql_parser.specs.Reading.Expressions.{after_paren, calls_within, read_term}

-- the arguments of a call have one parenthesis less
pub calls_more : (depth : ℕ) → 0 < depth → calls_within depth ≡ after_paren (read_term (depth - 1))
unfolding read_term
calls_more zero more = absurd (omega arith)
calls_more (suc depth) more = rw sub-one refl

-- a query in parentheses has one parenthesis less
pub within_more : (depth : ℕ) → 0 < depth → within depth ≡ (read_query (depth - 1) ◁ symbol ")")
unfolding within read_query
within_more zero more = absurd (omega arith)
within_more (suc depth) more = rw sub-one refl

pub within_none : (depth : ℕ) → depth ≡ 0 → (n : ℕ) (ks : List Kind) → within depth n ks ≡ None
unfolding within
within_none zero none n ks = refl
within_none (suc depth) none n ks = absurd (omega arith)
