-- Whether a statement that was read stays, and what a refusal is passed on as. Not in any public clause.
use Rattle.std.specs.Prelude.{◌≡◌, ℕ, zero, suc, Bool, true, false, not, Ok, Err, Result, ⊤}
use Rattle.span_token.specs.declared.refusal.Failure.{Failure}
use Rattle.span_token.specs.declared.refusal.Failure.TheVariants.{OutOfMemory, Fault}
use Rattle.aql_syntax.specs.declared.tree.Statement.{Statement}
use Rattle.aql_syntax.specs.Trees.{module_}
use Rattle.aql_syntax.specs.Trees.{Statement as Tree}
use Rattle.aql_parser.specs.declared.parsing.SyntaxFault.{SyntaxFault}

abbrev pub is_module : Tree → Bool
is_module (module_ name) = true
is_module _ = false

-- a statement that may have so many before it
abbrev pub may_follow : ℕ → Tree → Bool
may_follow zero tree = true
may_follow (suc before) tree = not (is_module tree)

-- the statement where the test is passed, and no tree otherwise
abbrev pub IsKept : {F : Type 0} → Statement → Bool → Result Statement (Failure F) → Type 0
IsKept tree true answer = answer ≡ Ok tree
IsKept tree false (Err (Fault f)) = ⊤
IsKept tree false _ = ⊥

-- the refusal of the statement with this number and line
abbrev pub IsNamed : {F : Type 0} → Failure F → ℕ → ℕ → Failure SyntaxFault → Type 0
IsNamed OutOfMemory statement line named = named ≡ OutOfMemory
IsNamed (Fault f) statement line named = named ≡ Fault (record { statement = statement; line = line })
