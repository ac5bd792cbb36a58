-- Programs with trees, and the first statement without one.
use Rattle.std.specs.Prelude.{◌≡◌, ℕ, zero, suc, ◌+◌, List, [], ◌∷◌, ◌++◌, length, map, drop, ⊤, ◌⊎◌}
use Rattle.std.specs.List.{sum_by}
use Rattle.span_token.specs.declared.refusal.Failure.{Failure}
use Rattle.span_token.specs.declared.refusal.Failure.TheVariants.{OutOfMemory, Fault}
use Rattle.aql_lexer.specs.Kinds.{Kind, Token}
use Rattle.aql_syntax.specs.Trees.{Statement}
use Rattle.aql_syntax.specs.Programs.{IsNoModule, HasTokens, runs_of, AreTokensOf, placed_in}
use Rattle.aql_parser.specs.declared.parsing.SyntaxFault.{SyntaxFault}

abbrev pub kinds_in : List Token → List Kind
kinds_in tokens = map (λ token. token.kind) tokens

-- a statement with so many before it: `module` has none
abbrev pub MayFollow : ℕ → Statement → Type 0
MayFollow zero statement = ⊤
MayFollow (suc before) statement = IsNoModule statement

-- with so many statements before it, the run is all tokens of a statement
abbrev pub HasTree : ℕ → List Kind → Type 0
HasTree before run = (statement : Statement) × HasTokens statement run × MayFollow before statement

-- each of the runs, with so many statements before the first
abbrev pub HaveTrees : ℕ → List (List Kind) → Type 0
HaveTrees before [] = ⊤
HaveTrees before (run ∷ runs) = HasTree before run × HaveTrees (before + 1) runs

-- the first statement without a tree: its number, from 1, and the line of its first token
pub record IsSyntaxFault (tokens : List Token) (statement line : ℕ) : Type 0 where
  pub before : List (List Kind)
  pub run : List Kind
  pub later : List (List Kind)
  pub runs : runs_of (kinds_in tokens) ≡ before ++ run ∷ later
  pub first_without : HaveTrees 0 before
  pub no_tree : ¬ (HasTree (length before) run)
  pub number : statement ≡ length before + 1
  pub first : Token
  pub others : List Token
  pub begins : drop (sum_by length before) tokens ≡ first ∷ others
  pub on_line : line ≡ first.line

-- tokens are those of some statements or have a fault, and not both; the statements are one list but for
-- places, and the fault is one
pub record IsDecided (tokens : List Token) : Type 0 where
  pub one_of_two : ((trees : List Statement) × AreTokensOf (kinds_in tokens) trees) ⊎ ((statement line : ℕ) × IsSyntaxFault tokens statement line)
  pub one_list : (xs ys : List Statement) → AreTokensOf (kinds_in tokens) xs → AreTokensOf (kinds_in tokens) ys → placed_in (kinds_in tokens) xs ≡ placed_in (kinds_in tokens) ys
  pub one_fault : (s t l m : ℕ) → IsSyntaxFault tokens s l → IsSyntaxFault tokens t m → (s ≡ t) × (l ≡ m)
  pub not_both : (trees : List Statement) (statement line : ℕ) → AreTokensOf (kinds_in tokens) trees → ¬ (IsSyntaxFault tokens statement line)

-- the kept statement and line are the fault's; want of memory says nothing of the tokens
abbrev pub IsFaultOf : List Token → Failure SyntaxFault → Type 0
IsFaultOf tokens OutOfMemory = ⊤
IsFaultOf tokens (Fault fault) = IsSyntaxFault tokens fault.statement fault.line
