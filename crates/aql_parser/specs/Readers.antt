-- Readers: what is read from the tokens that are left, and what is left then. The parser computes
-- them, and the laws in `proofs/` say that they read the grammar.
use Rattle.std.specs.Prelude.{◌≡◌, ℕ, zero, suc, ◌+◌, ◌==◌, Bool, true, false, if◌then◌else◌, not, ◌++◌, List, [], ◌∷◌, length, Option, Some, None, Ok, Err, Result, codes, ⊤}
use Rattle.std.specs.Str.{byte, bytes_eq}
use Prim.Native.String.{String}
use Rattle.span_token.specs.declared.refusal.Failure.{Failure}
use Rattle.span_token.specs.declared.refusal.Failure.TheVariants.{OutOfMemory, Fault}
use Rattle.aql_lexer.specs.Kinds.{Kind}
use Rattle.aql_lexer.specs.Kinds as k
use Rattle.aql_syntax.specs.Spellings.{same_word, is_reserved}
use Rattle.aql_syntax.specs.Trees.{Name, Number}
use Rattle.aql_syntax.specs.Views.{name_of}
use Rattle.aql_syntax.specs.declared.tree.Ident.{Ident}

-- the tokens that are left, and the number of the first of them
pub record Left : Type 0 where
  pub at : ℕ
  pub kinds : List Kind

-- from the tokens that are left, of which the first has this number: what is read, or None, and the
-- number and the tokens after it
abbrev pub Reader : Type 0 → Type 0
Reader A = ℕ → List Kind → Option (A × ℕ × List Kind)

abbrev pub and_then : {A B : Type 0} → Option (A × ℕ × List Kind) → (A → ℕ → List Kind → Option B) → Option B
and_then None f = None
and_then (Some r) f = f r.0 r.1 r.2

abbrev pub pure : {A : Type 0} → A → Reader A
pure a n ks = Some (a, n, ks)

-- the tokens but the first
abbrev pub after : List Kind → List Kind
after [] = []
after (kind ∷ ks) = ks

-- one after the other: both, the second, or the first of what they read
infixr 6 ◌⊗◌
abbrev pub ◌⊗◌ : {A B : Type 0} → Reader A → Reader B → Reader (A × B)
(first ⊗ second) n ks = and_then (first n ks) (λ a m mid. and_then (second m mid) (λ b l rest. Some ((a, b), l, rest)))

infixr 6 ◌▷◌
abbrev pub ◌▷◌ : {A B : Type 0} → Reader A → Reader B → Reader B
(first ▷ second) n ks = and_then (first n ks) (λ a m mid. second m mid)

infixr 6 ◌◁◌
abbrev pub ◌◁◌ : {A B : Type 0} → Reader A → Reader B → Reader A
(first ◁ second) n ks = and_then (first n ks) (λ a m mid. and_then (second m mid) (λ b l rest. Some (a, l, rest)))

abbrev pub mapped : {A B : Type 0} → (A → B) → Reader A → Reader B
mapped f read n ks = and_then (read n ks) (λ a m rest. Some (f a, m, rest))

-- where the next token passes the test, it is taken and the first reads on; else the second reads
abbrev pub eaten : {A : Type 0} → (List Kind → Bool) → Reader A → Reader A → Reader A
eaten test first second n ks = if test ks then first (n + 1) (after ks) else second n ks

abbrev pub optional : {A : Type 0} → (List Kind → Bool) → Reader A → Reader (Option A)
optional test read = eaten test (mapped Some read) (pure None)

-- what is read where the test sees it, which takes no token
abbrev pub where_seen : {A : Type 0} → (List Kind → Bool) → Reader A → Reader (Option A)
where_seen test read n ks = if test ks then mapped Some read n ks else Some (None, n, ks)

-- a list put before what is read
abbrev pub prefixed : {A : Type 0} → List A → Option (List A × ℕ × List Kind) → Option (List A × ℕ × List Kind)
prefixed front None = None
prefixed front (Some r) = Some (front ++ r.0, r.1, r.2)

-- an item, and then items with a separator before each, in at most so many turns
abbrev pub listed : {A : Type 0} → (List Kind → Bool) → Reader A → ℕ → Reader (List A)
listed separates item zero n ks = None
listed separates item (suc turns) n ks = and_then (item n ks) (λ x m mid.
    if separates mid then prefixed (x ∷ []) (listed separates item turns (m + 1) (after mid)) else Some (x ∷ [], m, mid))

unfoldable pub separated : {A : Type 0} → (List Kind → Bool) → Reader A → Reader (List A)
separated separates item n ks = listed separates item (length ks + 1) n ks

-- items up to where the test sees their end, in at most so many turns
abbrev pub until : {A : Type 0} → (List Kind → Bool) → Reader A → ℕ → Reader (List A)
until ends item zero n ks = None
until ends item (suc turns) n ks =
    if ends ks then Some ([], n, ks) else and_then (item n ks) (λ x m mid. prefixed (x ∷ []) (until ends item turns m mid))

unfoldable pub repeated : {A : Type 0} → (List Kind → Bool) → Reader A → Reader (List A)
repeated ends item n ks = until ends item (length ks + 1) n ks

-- a list that may be left out, after what begins it
abbrev pub clause : {A : Type 0} → (List Kind → Bool) → Reader (List A) → Reader (List A)
clause begins list = eaten begins list (pure [])

-- the next token is this symbol
abbrev pub sees_symbol : ℕ → List Kind → Bool
sees_symbol c (k.symbol byte ∷ ks) = byte == c
sees_symbol c _ = false

-- the next token is this keyword
abbrev pub sees_word : List ℕ → List Kind → Bool
sees_word w (k.word v ∷ ks) = same_word v w
sees_word w _ = false

abbrev pub sees : String → List Kind → Bool
sees w = sees_word (codes w)

-- the next token is this word, in this case
abbrev pub sees_exactly : List ℕ → List Kind → Bool
sees_exactly w (k.word v ∷ ks) = bytes_eq v w
sees_exactly w _ = false

abbrev pub sees_sign : String → List Kind → Bool
sees_sign s = sees_symbol (byte s)

abbrev pub take_if : (List Kind → Bool) → Reader (Unit {0})
take_if test n ks = if test ks then Some (tt, n + 1, after ks) else None

abbrev pub symbol : String → Reader (Unit {0})
symbol s = take_if (sees_sign s)

abbrev pub keyword : String → Reader (Unit {0})
keyword w = take_if (sees w)

abbrev pub exactly : String → Reader (Unit {0})
exactly w = take_if (sees_exactly (codes w))

abbrev pub named : ℕ → List ℕ → List Kind → Option (Name × ℕ × List Kind)
named n text rest = Some (record { text = text; at = n }, n + 1, rest)

abbrev pub a_name : Reader Name
a_name n (k.word w ∷ ks) = if is_reserved w then None else named n w ks
a_name n (k.name t ∷ ks) = named n t ks
a_name n _ = None

-- the next token is a name
abbrev pub sees_name : List Kind → Bool
sees_name (k.word w ∷ ks) = not (is_reserved w)
sees_name (k.name t ∷ ks) = true
sees_name _ = false

abbrev pub a_string : Reader Name
a_string n (k.str t ∷ ks) = named n t ks
a_string n _ = None

abbrev pub a_pattern : Reader Name
a_pattern n (k.regex t ∷ ks) = named n t ks
a_pattern n _ = None

abbrev pub an_int : Reader Number
an_int n (k.int value ∷ ks) = Some (record { value = value; at = n }, n + 1, ks)
an_int n _ = None

-- what a test of the next token answers, where the token is taken if it passes
abbrev pub Eats : (List Kind → Bool) → Bool → Left → Left → Type 0
Eats test true old new = (test old.kinds ≡ true) × (new ≡ record { at = old.at + 1; kinds = after old.kinds })
Eats test false old new = (test old.kinds ≡ false) × (new ≡ old)

-- the next token is taken
pub record Takes (kind : Kind) (old new : Left) : Type 0 where
  pub kinds : old.kinds ≡ kind ∷ new.kinds
  pub at : new.at ≡ old.at + 1

-- a word as a name, unless it is reserved
abbrev pub IsUnreserved : {F : Type 0} → List ℕ → ℕ → Result Ident (Failure F) → Type 0
IsUnreserved word at (Ok name) = (is_reserved word ≡ false) × (name_of name ≡ record { text = word; at = at })
IsUnreserved word at (Err OutOfMemory) = ⊤
IsUnreserved word at (Err (Fault f)) = is_reserved word ≡ true

-- what a call answers is what the reader gives, seen by `view`, or want of memory
abbrev pub Gives : {X A F : Type 0} → (X → A) → Option (A × ℕ × List Kind) → Result X (Failure F) → Left → Type 0
Gives view read (Ok x) left = read ≡ Some (view x, left.at, left.kinds)
Gives view read (Err OutOfMemory) left = ⊤
Gives view read (Err (Fault f)) left = read ≡ None
