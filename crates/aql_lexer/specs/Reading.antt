-- How a program text reads: white space, comments and tokens in turn. There is one reading, or one
-- byte at which none of them stands.
use Rattle.std.specs.Prelude.{◌≡◌, ℕ, ◌+◌, ◌<◌, List, [], ◌∷◌, ◌++◌, length, take, drop, count_by, ◌⊎◌, Option, Some, None}
use Rattle.aql_lexer.specs.Kinds.{Kind, Token}
use Rattle.aql_lexer.specs.Tokens.{is_line_feed, IsWhite, IsComment, IsToken}

-- a part of a text, with its bytes
pub data Part : Type 0 where
  white : List ℕ → Part
  comment : List ℕ → Part
  token : Kind → List ℕ → Part

abbrev pub bytes_of : Part → List ℕ
bytes_of (white bytes) = bytes
bytes_of (comment bytes) = bytes
bytes_of (token kind bytes) = bytes

-- the kind of a token, and none of white space and comments
abbrev pub kind_in : Part → Option Kind
kind_in (white bytes) = None
kind_in (comment bytes) = None
kind_in (token kind bytes) = Some kind

-- between `before` and `after` these bytes are what the part says
abbrev pub IsPart : List ℕ → Part → List ℕ → Type 0
IsPart before (white bytes) after = IsWhite before bytes
IsPart before (comment bytes) after = IsComment bytes after
IsPart before (token kind bytes) after = IsToken kind bytes after

-- behind `before` the text is these parts, one after the other, and then `rest`
abbrev pub Reads : List ℕ → List Part → List ℕ → List ℕ → Type 0
Reads before [] text rest = text ≡ rest
Reads before (part ∷ parts) text rest =
    (after : List ℕ) × (text ≡ bytes_of part ++ after) × IsPart before part after × Reads (before ++ bytes_of part) parts after rest

-- the token of a kind at its place; none where there is no kind
abbrev pub tokens_at : ℕ → ℕ → Option Kind → List Token
tokens_at begin line None = []
tokens_at begin line (Some kind) = record { kind = kind; begin = begin; line = line } ∷ []

-- the tokens among parts that stand behind `before`: a token begins behind as many bytes, and its line is
-- 1 and the number of LF among them
abbrev pub tokens_among : List ℕ → List Part → List Token
tokens_among before [] = []
tokens_among before (part ∷ parts) =
    tokens_at (length before) (1 + count_by is_line_feed before) (kind_in part) ++ tokens_among (before ++ bytes_of part) parts

-- the text is white space, comments and these tokens in turn
pub record IsReading (text : List ℕ) (tokens : List Token) : Type 0 where
  pub parts : List Part
  pub reads : Reads [] parts text []
  pub tokens_are : tokens ≡ tokens_among [] parts

-- behind `before` the text begins with neither white space nor a comment nor a token
abbrev pub BeginsNothing : List ℕ → List ℕ → Type 0
BeginsNothing before text = (part : Part) (after : List ℕ) → text ≡ bytes_of part ++ after → ¬ (IsPart before part after)

-- all before the byte is read, and at it stands neither white space nor a comment nor a token
pub record IsFault (text : List ℕ) (place : ℕ) : Type 0 where
  pub parts : List Part
  pub reads : Reads [] parts text (drop place text)
  pub in_text : place < length text
  pub nothing : BeginsNothing (take place text) (drop place text)

-- a text has one reading or one fault, and not both
pub record IsDecided (text : List ℕ) : Type 0 where
  pub one_of_two : ((tokens : List Token) × IsReading text tokens) ⊎ ((place : ℕ) × IsFault text place)
  pub one_reading : (xs ys : List Token) → IsReading text xs → IsReading text ys → xs ≡ ys
  pub one_fault : (p q : ℕ) → IsFault text p → IsFault text q → p ≡ q
  pub not_both : (tokens : List Token) (place : ℕ) → IsReading text tokens → ¬ (IsFault text place)
