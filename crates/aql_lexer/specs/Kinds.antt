-- Tokens as definitions see them: texts as their bytes, numbers without bounds.
use Rattle.std.specs.Prelude.{ℕ, ℤ, List, map}
use Rattle.aql_lexer.specs.declared.token.TokKind.{TokKind}
use Rattle.aql_lexer.specs.declared.token.TokKind.TheVariants.{Word, Name, Int, Str, Regex, Symbol}
use Rattle.aql_lexer.specs.declared.token.Tok.{Tok}

-- what a token is, with the bytes of its text
pub data Kind : Type 0 where
  word : List ℕ → Kind
  name : List ℕ → Kind
  int : ℤ → Kind
  str : List ℕ → Kind
  regex : List ℕ → Kind
  symbol : ℕ → Kind

abbrev pub kind_of : TokKind → Kind
kind_of (Word text) = word text
kind_of (Name text) = name text
kind_of (Int number) = int number
kind_of (Str text) = str text
kind_of (Regex text) = regex text
kind_of (Symbol byte) = symbol byte

-- a token with its first byte, from 0, and its line, from 1
pub record Token : Type 0 where
  pub kind : Kind
  pub begin : ℕ
  pub line : ℕ

abbrev pub token_of : Tok → Token
token_of tok = record { kind = kind_of tok.kind; begin = tok.begin; line = tok.line }

-- the kinds of tokens, without their places
abbrev pub kinds_of : List Tok → List Kind
kinds_of toks = map (λ tok. kind_of tok.kind) toks
