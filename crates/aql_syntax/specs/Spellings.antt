-- How the words of a tree are spelled in tokens: freely, as a program may write them, or plainly,
-- with keywords in lower case and quotes only where they must be.
use Rattle.std.specs.Prelude.{◌≡◌, ℕ, Bool, true, false, ◌&&◌, not, List, [], ◌∷◌, codes, ⊤}
use Rattle.std.specs.List.{list_any, list_all}
use Rattle.std.specs.Str.{str_eq_ignore_ascii_case}
use Rattle.aql_lexer.specs.Kinds.{Kind}
use Rattle.aql_lexer.specs.Kinds as k
use Rattle.aql_lexer.specs.Tokens.{begins_word, goes_on_word, is_in_name}

-- as a program may write a tree, or as `print` writes it
pub data Spelling : Type 0 where
  free : Spelling
  plain : Spelling

-- equal in all but the case of ASCII letters
unfoldable pub same_word : List ℕ → List ℕ → Bool
same_word a b = str_eq_ignore_ascii_case a b

-- the words that are no names, in any case
abbrev pub reserved_words : List (List ℕ)
reserved_words =
    codes "select" ∷ codes "extract" ∷ codes "from" ∷ codes "where" ∷ codes "and" ∷
    codes "consolidate" ∷ codes "on" ∷ codes "using" ∷ codes "group" ∷ codes "order" ∷
    codes "by" ∷ codes "limit" ∷ codes "having" ∷ codes "union" ∷ codes "minus" ∷ codes "as" ∷
    codes "with" ∷ codes "in" ∷ codes "between" ∷ codes "return" ∷ codes "create" ∷
    codes "output" ∷ codes "view" ∷ codes "dictionary" ∷ []

unfoldable pub is_reserved : List ℕ → Bool
is_reserved word = list_any (λ reserved. same_word word reserved) reserved_words

-- an ASCII letter or `_`, and then ASCII letters, digits and `_`
unfoldable pub is_word : List ℕ → Bool
is_word [] = false
is_word (c ∷ cs) = begins_word c && list_all goes_on_word cs

-- a name that can stand without quotes
unfoldable pub can_be_word : List ℕ → Bool
can_be_word text = is_word text && not (is_reserved text)

-- a name that can stand in quotes: one character or more
unfoldable pub can_be_name : List ℕ → Bool
can_be_name [] = false
can_be_name (c ∷ cs) = list_all is_in_name (c ∷ cs)

-- a keyword: in any case, or in lower case
abbrev pub SpellsKeyword : Spelling → List ℕ → List ℕ → Type 0
SpellsKeyword free keyword word = same_word word keyword ≡ true
SpellsKeyword plain keyword word = word ≡ keyword

abbrev pub MayQuote : Spelling → List ℕ → Type 0
MayQuote free text = ⊤
MayQuote plain text = can_be_word text ≡ false

-- a name: a Word that isn't reserved, or a Name
abbrev pub SpellsName : Spelling → List ℕ → Kind → Type 0
SpellsName spelling text (k.word word) = (word ≡ text) × (is_reserved word ≡ false)
SpellsName spelling text (k.name name) = (name ≡ text) × MayQuote spelling text
SpellsName spelling text _ = ⊥

abbrev pub MayBeString : Spelling → List ℕ → Type 0
MayBeString free text = ⊤
MayBeString plain text = (can_be_word text ≡ false) × (can_be_name text ≡ false)

-- a dictionary's name in an extraction: a name, or a Str
abbrev pub SpellsDictionary : Spelling → List ℕ → Kind → Type 0
SpellsDictionary spelling text (k.str string) = (string ≡ text) × MayBeString spelling text
SpellsDictionary spelling text kind = SpellsName spelling text kind
