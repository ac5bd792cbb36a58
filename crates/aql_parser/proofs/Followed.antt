-- What is read and then followed by a token.
use Rattle.std.proofs.Common.{◌≡◌, ℕ, List, Option, Some, None, ap, refl}
use Rattle.std.specs.Prelude.{Result, Ok, Err}
use Rattle.span_token.specs.declared.refusal.Failure.{Failure}
use Rattle.span_token.specs.declared.refusal.Failure.TheVariants.{OutOfMemory, Fault}
use Rattle.aql_lexer.specs.Kinds.{Kind}
use Rattle.aql_parser.specs.Readers.{Left, Reader, Gives, and_then, mapped, ◌◁◌}

-- what is read, seen by `view`
abbrev seen : {X A : Type 0} → (X → A) → Option (X × ℕ × List Kind) → Option (A × ℕ × List Kind)
seen view None = None
seen view (Some r) = Some (view r.0, r.1, r.2)

step : {X A B F : Type 0} (view : X → A) (x : X) (left : Left) (o : Option (B × ℕ × List Kind)) (result : Result X (Failure F))
    → Gives (λ given. given) (and_then o (λ _ m rest. Some (x, m, rest))) result left → Gives view (and_then o (λ _ m rest. Some (view x, m, rest))) result left
step view x left None (Ok y) e = ap (seen view) e
step view x left (Some r) (Ok y) e = ap (seen view) e
step view x left None (Err (Fault f)) e = refl
step view x left (Some r) (Err (Fault f)) e = ap (seen view) e
step view x left o (Err OutOfMemory) e = tt

-- what is given back after a token is what is read before it
pub given_after : {X A B F : Type 0} (view : X → A) (x : X) (read : Reader A) (next : Reader B) (n m : ℕ) (ks mid : List Kind) (result : Result X (Failure F)) (left : Left)
    → read n ks ≡ Some (view x, m, mid) → Gives (λ given. given) (mapped (λ _. x) next m mid) result left → Gives view ((read ◁ next) n ks) result left
given_after view x read next n m ks mid result left reads gives = rw reads (step view x left (next m mid) result gives)
