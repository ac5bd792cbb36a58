-- The tokens of statements.
use Rattle.std.specs.Prelude.{ℕ, List, codes}
use Rattle.aql_lexer.specs.Kinds as k
use Rattle.aql_syntax.specs.Spellings.{Spelling}
use Rattle.aql_syntax.specs.Parts.{Part, ◌▸◌, Token, Symbol, InParens, Keyword, IsName, Optional, Separated}
use Rattle.aql_syntax.specs.Grammar.Queries.{IsQuery}
use Rattle.aql_syntax.specs.Trees.{Statement, module_, require, export, dictionary, create, output}

module _ (spelling : Spelling) where
  -- Str
  abbrev pub IsText : List ℕ → Part
  IsText text = Token (k.str text)

  -- statement = "module" name ";"                       first statement only
  --           | "require" "document" "with" "columns" text Text ";"
  --           | "export" "view" name ";"
  --           | "create" "dictionary" name "as" "(" Str { "," Str } ")" ";"
  --           | "create" "view" name "as" query ";"
  --           | "output" "view" name [ "as" Str ] ";"
  abbrev pub IsStatement : Statement → Part
  IsStatement (module_ name) = Keyword spelling "module" ▸ IsName spelling name ▸ Symbol ";"
  IsStatement require =
      Keyword spelling "require" ▸ Keyword spelling "document" ▸ Keyword spelling "with" ▸ Keyword spelling "columns" ▸
      Token (k.word (codes "text")) ▸ Token (k.word (codes "Text")) ▸ Symbol ";"
  IsStatement (export name) =
      Keyword spelling "export" ▸ Keyword spelling "view" ▸ IsName spelling name ▸ Symbol ";"
  IsStatement (dictionary name entries) =
      Keyword spelling "create" ▸ Keyword spelling "dictionary" ▸ IsName spelling name ▸ Keyword spelling "as" ▸
      InParens (Separated (Symbol ",") IsText entries) ▸ Symbol ";"
  IsStatement (create name query) =
      Keyword spelling "create" ▸ Keyword spelling "view" ▸ IsName spelling name ▸ Keyword spelling "as" ▸
      IsQuery spelling query ▸ Symbol ";"
  IsStatement (output name alias) =
      Keyword spelling "output" ▸ Keyword spelling "view" ▸ IsName spelling name ▸
      Optional (λ text. Keyword spelling "as" ▸ IsText text) alias ▸ Symbol ";"
