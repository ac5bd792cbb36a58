-- The tokens of expressions and items.
use Rattle.std.specs.Prelude.{Option, Some, None}
use Rattle.aql_lexer.specs.Kinds as k
use Rattle.aql_syntax.specs.Spellings.{Spelling}
use Rattle.aql_syntax.specs.Parts.{Part, ◌▸◌, Nothing, Nowhere, Token, Symbol, Keyword, IsName}
use Rattle.aql_syntax.specs.Trees.{Name, Term, int, str, regex, column, bare, call, star, Terms, no_terms, more_terms, Item}

module _ (spelling : Spelling) where
  -- column = name "." name
  abbrev pub IsColumn : Name → Name → Part
  IsColumn alias name = IsName spelling alias ▸ Symbol "." ▸ IsName spelling name

  -- expr = Int | Str | Regex | column | name | Word "(" [ expr { "," expr } ] ")" | Word "(" "*" ")"
  abbrev mutual
    pub IsTerm : Term → Part
    IsTerm (int at value) = Token (k.int value)
    IsTerm (str at text) = Token (k.str text)
    IsTerm (regex at text) = Token (k.regex text)
    IsTerm (column at alias name) = IsColumn alias name
    IsTerm (bare at name) = IsName spelling name
    IsTerm (call at word args) = Token (k.word word) ▸ Symbol "(" ▸ AreArgs args ▸ Symbol ")"
    IsTerm (star at word) = Token (k.word word) ▸ Symbol "(" ▸ Symbol "*" ▸ Symbol ")"

    pub AreArgs : Terms → Part
    AreArgs no_terms = Nothing
    AreArgs (more_terms arg args) = IsTerm arg ▸ AreLaterArgs args

    pub AreLaterArgs : Terms → Part
    AreLaterArgs no_terms = Nothing
    AreLaterArgs (more_terms arg args) = Symbol "," ▸ IsTerm arg ▸ AreLaterArgs args

  -- item = column | expr "as" name
  abbrev pub IsNamed : Term → Option Name → Part
  IsNamed (column at alias name) None = IsColumn alias name
  IsNamed expr None = Nowhere
  IsNamed expr (Some name) = IsTerm expr ▸ Keyword spelling "as" ▸ IsName spelling name

  abbrev pub IsItem : Item → Part
  IsItem item = IsNamed item.expr item.name
