-- The tokens of what an extraction looks for.
use Rattle.std.specs.Prelude.{ℕ, Bool, true, false, List, [], ◌∷◌, Option, Some, None, codes}
use Prim.Native.String.{String}
use Rattle.aql_lexer.specs.Kinds as k
use Rattle.aql_syntax.specs.Spellings.{Spelling, free, plain}
use Rattle.aql_syntax.specs.Parts.{Part, ◌▸◌, ◌or◌, Nowhere, Token, Keyword, IsName, IsDictionaryName, IsInt, Optional, Separated}
use Rattle.aql_syntax.specs.Grammar.Expressions.{IsColumn}
use Rattle.aql_syntax.specs.Trees.{Name, Number, Range, one, two, Group, Flag, exact, ignore_case}

-- how a flag is written
abbrev pub flag_text : Flag → List ℕ
flag_text exact = codes "Exact"
flag_text ignore_case = codes "IgnoreCase"

-- what a separation counts
abbrev pub unit_of : Bool → String
unit_of true = "tokens"
unit_of false = "characters"

-- "token" | "tokens"; plainly always "tokens"
abbrev pub IsCountWord : Spelling → Part
IsCountWord free = Keyword free "token" or Keyword free "tokens"
IsCountWord plain = Keyword plain "tokens"

module _ (spelling : Spelling) where
  -- range = "between" Int "and" Int | Int
  abbrev pub IsRange : Range → Part
  IsRange (two low high) = Keyword spelling "between" ▸ IsInt low ▸ Keyword spelling "and" ▸ IsInt high
  IsRange (one number) = IsInt number

  -- range ( "token" | "tokens" ) "in"
  abbrev pub IsBound : Range → Part
  IsBound range = IsRange range ▸ IsCountWord spelling ▸ Keyword spelling "in"

  -- "as" name
  abbrev pub IsOutput : Name → Part
  IsOutput name = Keyword spelling "as" ▸ IsName spelling name

  -- "group" Int "as" name
  abbrev pub IsNumbered : Option Number → Name → Part
  IsNumbered None name = Nowhere
  IsNumbered (Some number) name = Keyword spelling "group" ▸ IsInt number ▸ IsOutput name

  -- out = "as" name | "return" "group" Int "as" name { "and" "group" Int "as" name }
  abbrev pub AreNumbered : List Group → Part
  AreNumbered groups =
      Keyword spelling "return" ▸ Separated (Keyword spelling "and") (λ group. IsNumbered group.number group.name) groups

  abbrev pub IsOnlyGroup : Option Number → Name → Part
  IsOnlyGroup None name = IsOutput name
  IsOnlyGroup (Some number) name = Keyword spelling "return" ▸ IsNumbered (Some number) name

  abbrev pub AreGroups : List Group → Part
  AreGroups [] = Nowhere
  AreGroups (group ∷ []) = IsOnlyGroup group.number group.name
  AreGroups (group ∷ other ∷ groups) = AreNumbered (group ∷ other ∷ groups)

  -- regex = "regex" Regex "on" [ range ( "token" | "tokens" ) "in" ] column out
  abbrev pub IsPattern : Name → Option Range → Name → Name → List Group → Part
  IsPattern text bound alias name groups =
      Keyword spelling "regex" ▸ Token (k.regex text.text) ▸ Keyword spelling "on" ▸ Optional IsBound bound ▸
      IsColumn spelling alias name ▸ AreGroups groups

  -- flag = the Str 'Exact' | the Str 'IgnoreCase'
  abbrev pub IsFlag : Flag → Part
  IsFlag flag = Keyword spelling "with" ▸ Keyword spelling "flags" ▸ Token (k.str (flag_text flag))

  -- dict = "dictionary" ( name | Str ) [ "with" "flags" flag ] "on" column "as" name
  abbrev pub IsDict : Name → Option Flag → Name → Name → Name → Part
  IsDict dictionary flag alias name out =
      Keyword spelling "dictionary" ▸ IsDictionaryName spelling dictionary ▸ Optional IsFlag flag ▸
      Keyword spelling "on" ▸ IsColumn spelling alias name ▸ IsOutput out

  -- blocks = "blocks" "with" "count" range "and" "separation" range ( "tokens" | "characters" )
  --          "on" column "as" name
  abbrev pub IsBlocks : Range → Range → Bool → Name → Name → Name → Part
  IsBlocks count gap tokens alias name out =
      Keyword spelling "blocks" ▸ Keyword spelling "with" ▸ Keyword spelling "count" ▸ IsRange count ▸
      Keyword spelling "and" ▸ Keyword spelling "separation" ▸ IsRange gap ▸ Keyword spelling (unit_of tokens) ▸
      Keyword spelling "on" ▸ IsColumn spelling alias name ▸ IsOutput out
