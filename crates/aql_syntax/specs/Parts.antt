-- Parts of a list of tokens, from one place up to another: the marks in which the grammar is written.
-- A part relates the tokens from where it begins to those that are left where it ends.
use Rattle.std.specs.Prelude.{◌≡◌, ℕ, List, [], ◌∷◌, Option, Some, None, codes, ◌⊎◌}
use Rattle.std.specs.Str.{byte}
use Prim.Native.String.{String}
use Rattle.aql_lexer.specs.Kinds.{Kind}
use Rattle.aql_lexer.specs.Kinds as k
use Rattle.aql_syntax.specs.Spellings.{Spelling, SpellsKeyword, SpellsName, SpellsDictionary}
use Rattle.aql_syntax.specs.Trees.{Name, Number}

abbrev pub Part : Type 1
Part = List Kind → List Kind → Type 0

-- `first` and then `second`
infixr 5 ◌▸◌
abbrev pub ◌▸◌ : Part → Part → Part
(first ▸ second) ks rest = (mid : List Kind) × first ks mid × second mid rest

-- `first`, or else `second`
infixr 5 ◌or◌
abbrev pub ◌or◌ : Part → Part → Part
(first or second) ks rest = first ks rest ⊎ second ks rest

-- no token
abbrev pub Nothing : Part
Nothing ks rest = ks ≡ rest

-- no tokens at all are such a part
abbrev pub Nowhere : Part
Nowhere ks rest = ⊥

abbrev pub Token : Kind → Part
Token kind ks rest = ks ≡ kind ∷ rest

abbrev pub Symbol : String → Part
Symbol sign = Token (k.symbol (byte sign))

abbrev pub InParens : Part → Part
InParens part = Symbol "(" ▸ part ▸ Symbol ")"

-- an integer
abbrev pub IsInt : Number → Part
IsInt number = Token (k.int number.value)

-- a part that may be left out
abbrev pub Optional : {A : Type 0} → (A → Part) → Option A → Part
Optional Is None = Nothing
Optional Is (Some x) = Is x

-- { part }
abbrev pub Each : {A : Type 0} → (A → Part) → List A → Part
Each Is [] = Nothing
Each Is (x ∷ xs) = Is x ▸ Each Is xs

-- part { separator part }
abbrev pub Separated : {A : Type 0} → Part → (A → Part) → List A → Part
Separated separator Is [] = Nowhere
Separated separator Is (x ∷ xs) = Is x ▸ Each (λ y. separator ▸ Is y) xs

-- [ begin part { separator part } ]
abbrev pub Clause : {A : Type 0} → Part → Part → (A → Part) → List A → Part
Clause begin separator Is [] = Nothing
Clause begin separator Is (x ∷ xs) = begin ▸ Separated separator Is (x ∷ xs)

module _ (spelling : Spelling) where
  -- a Word that is this keyword
  abbrev pub Keyword : String → Part
  Keyword keyword ks rest = (word : List ℕ) × (ks ≡ k.word word ∷ rest) × SpellsKeyword spelling (codes keyword) word

  abbrev pub IsName : Name → Part
  IsName name ks rest = (kind : Kind) × (ks ≡ kind ∷ rest) × SpellsName spelling name.text kind

  abbrev pub IsDictionaryName : Name → Part
  IsDictionaryName name ks rest = (kind : Kind) × (ks ≡ kind ∷ rest) × SpellsDictionary spelling name.text kind
