-- Reading statements.
use Rattle.std.specs.Prelude.{ℕ, List, Option}
use Rattle.aql_lexer.specs.Kinds as k
use Rattle.aql_syntax.specs.Trees.{Name, Query, Statement, module_, require, export, dictionary, create, output}
use Rattle.aql_parser.specs.Readers.{Reader, ◌⊗◌, ◌▷◌, ◌◁◌, mapped, eaten, optional, separated, sees, sees_sign, exactly, symbol, keyword, a_name, a_string}
use Rattle.aql_parser.specs.Reading.Queries.{read_query}

abbrev pub a_text : Reader (List ℕ)
a_text = mapped (λ string. string.text) a_string

unfoldable pub after_module : Reader Statement
after_module = mapped module_ (a_name ◁ symbol ";")

unfoldable pub after_columns : Reader (Unit {0})
after_columns = exactly "text" ▷ exactly "Text" ▷ symbol ";"

unfoldable pub after_require : Reader Statement
after_require =
    mapped (λ u. require) (keyword "document" ▷ keyword "with" ▷ keyword "columns" ▷ after_columns)

unfoldable pub after_export : Reader Statement
after_export = mapped export (keyword "view" ▷ a_name ◁ symbol ";")

abbrev pub made_dictionary : Name × List (List ℕ) → Statement
made_dictionary parts = dictionary parts.0 parts.1

unfoldable pub after_dictionary : Reader Statement
after_dictionary =
    mapped made_dictionary (a_name ⊗ keyword "as" ▷ symbol "(" ▷ separated (sees_sign ",") a_text ◁ symbol ")" ▷ symbol ";")

abbrev pub made_create : Name × Query → Statement
made_create parts = create parts.0 parts.1

unfoldable pub after_view : ℕ → Reader Statement
after_view depth = mapped made_create (a_name ⊗ keyword "as" ▷ read_query depth ◁ symbol ";")

unfoldable pub after_create : ℕ → Reader Statement
after_create depth = eaten (sees "dictionary") after_dictionary (keyword "view" ▷ after_view depth)

abbrev pub made_output : Name × Option (List ℕ) → Statement
made_output parts = output parts.0 parts.1

unfoldable pub after_output : Reader Statement
after_output = mapped made_output (keyword "view" ▷ a_name ⊗ optional (sees "as") a_text ◁ symbol ";")

-- a statement within so many parentheses, with its ";"
unfoldable pub read_statement : ℕ → Reader Statement
read_statement depth =
    eaten (sees "create") (after_create depth)
    (eaten (sees "output") after_output
    (eaten (sees "export") after_export
    (eaten (sees "require") after_require
    (keyword "module" ▷ after_module))))
