-- The weight of a pattern: how large it may grow when its counts, as in `a{2,5}`, are written out. It is read off the
-- letters of the text, so that it guards the builder and needs no grammar.
use Rattle.std.specs.Prelude.{ℕ, zero, suc, ◌+◌, ◌-◌, ◌*◌, ◌<◌, ◌⊎◌, min, max, Bool, true, false, List, [], ◌∷◌, length, Option, Some, None, option_map, option_and_then, unwrap_or, if◌then◌else◌, ◌==◌}
use Rattle.std.specs.Char.{is_ascii_digit}
use Rattle.std.specs.Option.{option_or, option_map_or}

-- what stands behind the byte, where the text begins with it
abbrev pub behind : ℕ → List ℕ → Option (List ℕ)
behind byte [] = None
behind byte (b ∷ rest) = if b == byte then Some rest else None

-- the decimal number at the front of a text, which continues the number `before`
abbrev pub number_after : ℕ → List ℕ → ℕ
number_after before [] = before
number_after before (b ∷ rest) = if is_ascii_digit b then number_after (10 * before + (b - 48)) rest else before

-- the decimal number at the front of a text; 0 where no digit stands there
abbrev pub number_at : List ℕ → ℕ
number_at text = number_after 0 text

-- what follows the digits at the front
abbrev pub after_digits : List ℕ → List ℕ
after_digits [] = []
after_digits (b ∷ rest) = if is_ascii_digit b then after_digits rest else b ∷ rest

-- a digit stands at the front
abbrev pub begins_number : List ℕ → Bool
begins_number [] = false
begins_number (b ∷ rest) = is_ascii_digit b

-- a count at the front of a text: its number, and what follows it
pub record Count : Type 0 where
  pub number : ℕ
  pub rest : List ℕ

-- the end of a count, `}`, with a `?` after it where one stands there. Its number is at least 1
abbrev pub closed : ℕ → List ℕ → Option Count
closed number text =
    option_map (λ rest. record { number = max 1 number; rest = unwrap_or (behind 63 rest) rest }) (behind 125 text)

-- the same behind a comma, and a second number where one stands there: the greater of the two counts
abbrev pub bounded : ℕ → List ℕ → Option Count
bounded low text = option_and_then (λ high. closed (max low (number_at high)) (after_digits high)) (behind 44 text)

-- behind a brace, the rest of a count: `{a}`, `{a,}` or `{a,b}`
abbrev pub count_behind : List ℕ → Option Count
count_behind text =
    if begins_number text then option_or (closed (number_at text) (after_digits text)) (bounded (number_at text) (after_digits text))
    else None

-- the count at the front of a text
unfoldable pub count_at : List ℕ → Option Count
count_at text = option_and_then count_behind (behind 123 text)

-- the product of the first `n` counts that follow one another from the front on
unfoldable pub chain_of : ℕ → List ℕ → ℕ
chain_of zero text = 1
chain_of (suc n) text = option_map_or (λ c. c.number * chain_of n c.rest) (count_at text) 1

-- the number of the chain at the front: the product of all counts that follow one another there
abbrev pub chain_at : List ℕ → ℕ
chain_at text = chain_of (length text) text

-- a chain, and the depth of parentheses at which it stands
pub record Chain : Type 0 where
  pub depth : ℕ
  pub number : ℕ

-- The chains of a text that is read from a depth on; `passed` says that a backslash stands before it, so that its first
-- byte is passed over. Behind the first count of a chain the later ones begin chains too, with lesser numbers.
abbrev pub chains_in : Bool → ℕ → List ℕ → List Chain
chains_in passed depth [] = []
chains_in true depth (b ∷ rest) = chains_in false depth rest
chains_in false depth (b ∷ rest) =
    if b == 92 then chains_in true depth rest
    else if b == 40 then chains_in false (depth + 1) rest
    else if b == 41 then chains_in false (depth - 1) rest
    else if b == 123 then record { depth = depth; number = chain_at (b ∷ rest) } ∷ chains_in false depth rest
    else chains_in false depth rest

-- the greatest number of the chains at a depth; 1 where none stands there
abbrev pub greatest_at : List Chain → ℕ → ℕ
greatest_at [] depth = 1
greatest_at (c ∷ cs) depth = if c.depth == depth then max c.number (greatest_at cs depth) else greatest_at cs depth

-- the product of a function's values below `n`
abbrev pub product_below : (ℕ → ℕ) → ℕ → ℕ
product_below f zero = 1
product_below f (suc k) = product_below f k * f k

-- above this a weight isn't counted
abbrev pub most_weight : ℕ
most_weight = 1000000

-- the product over all depths of the greatest chain there; no depth is above the text's length
unfoldable pub weight_of : List ℕ → ℕ
weight_of text = min (product_below (greatest_at (chains_in false 0 text)) (length text + 1)) most_weight

-- longer than 1,000 bytes, or bytes times weight above 50,000
abbrev pub IsLarge : List ℕ → Type 0
IsLarge text = (1000 < length text) ⊎ (50000 < length text * weight_of text)
