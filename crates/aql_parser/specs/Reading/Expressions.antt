-- Reading expressions and items.
use Rattle.std.specs.Prelude.{ℕ, zero, suc, ◌+◌, Bool, true, false, if◌then◌else◌, List, [], ◌∷◌, Some, None}
use Rattle.aql_lexer.specs.Kinds as k
use Rattle.aql_syntax.specs.Spellings.{is_reserved}
use Rattle.aql_syntax.specs.Trees.{Name, Term, int, str, regex, column, bare, call, star, no_terms, as_terms, Item}
use Rattle.aql_parser.specs.Readers.{Reader, pure, and_then, ◌⊗◌, ◌▷◌, ◌◁◌, mapped, eaten, separated, sees, sees_sign, symbol, a_name}

abbrev pub read_column : Reader (Name × Name)
read_column = a_name ⊗ (symbol "." ▷ a_name)

-- after a name: the rest of a column, or nothing
abbrev pub after_name : Name → Reader Term
after_name name = eaten (sees_sign ".") (mapped (λ other. column name.at name other) a_name) (pure (bare name.at name))

-- after the word of a call and its "(": the arguments, which `inner` reads
abbrev pub after_paren : Reader Term → ℕ → List ℕ → Reader Term
after_paren inner at word =
    eaten (sees_sign ")") (pure (call at word no_terms))
    (eaten (sees_sign "*") (mapped (λ u. star at word) (symbol ")"))
    (mapped (λ args. call at word (as_terms args)) (separated (sees_sign ",") inner ◁ symbol ")")))

-- nothing is read
abbrev pub refused : {A : Type 0} → Reader A
refused n ks = None

-- after a word: a call, or what follows a name
abbrev pub after_word : (ℕ → List ℕ → Reader Term) → ℕ → List ℕ → Reader Term
after_word calls at word =
    eaten (sees_sign "(") (calls at word)
    (if is_reserved word then refused else after_name (record { text = word; at = at }))

abbrev pub term_with : (ℕ → List ℕ → Reader Term) → Reader Term
term_with calls n [] = None
term_with calls n (k.int value ∷ ks) = Some (int n value, n + 1, ks)
term_with calls n (k.str text ∷ ks) = Some (str n text, n + 1, ks)
term_with calls n (k.regex text ∷ ks) = Some (regex n text, n + 1, ks)
term_with calls n (k.word word ∷ ks) = after_word calls n word (n + 1) ks
term_with calls n (k.name text ∷ ks) = after_name (record { text = text; at = n }) (n + 1) ks
term_with calls n (k.symbol c ∷ ks) = None

-- a call's rest within so many parentheses, of which its own is one
abbrev pub calls_within : ℕ → ℕ → List ℕ → Reader Term
calls_within zero = λ at word. refused
calls_within (suc depth) = after_paren (term_with (calls_within depth))

-- an expression within so many parentheses
unfoldable pub read_term : ℕ → Reader Term
read_term depth = term_with (calls_within depth)

abbrev pub is_column : Term → Bool
is_column (column at alias name) = true
is_column _ = false

-- after an item's expression: "as" name, which only a column can do without
abbrev pub after_expression : Term → Reader Item
after_expression expr =
    eaten (sees "as") (mapped (λ name. record { expr = expr; name = Some name }) a_name)
    (if is_column expr then pure (record { expr = expr; name = None }) else refused)

abbrev pub read_item : ℕ → Reader Item
read_item depth n ks = and_then (read_term depth n ks) after_expression
