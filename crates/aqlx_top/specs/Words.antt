-- What command words ask for.
use Rattle.std.specs.Prelude.{◌≡◌, ℕ, ◌+◌, ◌*◌, ◌-◌, Bool, ◌&&◌, nat_le, List, [], ◌∷◌, length, Option, Some, None, option_map, codes, if◌then◌else◌}
use Rattle.std.specs.Char.{is_ascii_digit}
use Rattle.std.specs.List.{list_all}
use Rattle.std.specs.Str.{bytes_eq}

-- what is asked for: to run, to check or to show the plan of the program file of this name, to write so many generated
-- documents, or the demonstration on so many
pub data Order : Type 0 where
  to_run : List ℕ → Order
  to_check : List ℕ → Order
  to_plan : List ℕ → Order
  to_generate : ℕ → Order
  to_demonstrate : ℕ → Order

-- the most workers, and the most documents, that may be asked for
abbrev pub worker_limit : ℕ
worker_limit = 16

abbrev pub document_limit : ℕ
document_limit = 100000

-- the number that digits write, behind those of a number
abbrev pub number_behind : ℕ → List ℕ → ℕ
number_behind n [] = n
number_behind n (digit ∷ digits) = number_behind (10 * n + (digit - 48)) digits

-- a word of digits, or none, whose value is from one number to another; no digits have the value 0
abbrev pub is_between : ℕ → ℕ → List ℕ → Bool
is_between least most word = list_all is_ascii_digit word && (nat_le least (number_behind 0 word) && nat_le (number_behind 0 word) most)

-- the name of the option
abbrev pub is_option : List ℕ → Bool
is_option word = bytes_eq word (codes "--workers")

-- a number of workers: digits with a value from 1 to 16
abbrev pub is_workers : List ℕ → Bool
is_workers word = is_between 1 worker_limit word

-- the number of documents that a word asks for: digits, one at least, with a value of at most 100,000
abbrev pub count_of : List ℕ → Option ℕ
count_of word = if nat_le 1 (length word) && is_between 0 document_limit word then Some (number_behind 0 word) else None

-- what `MODE PROGRAM` asks for
abbrev pub order_by : List ℕ → List ℕ → Option Order
order_by mode word =
    if bytes_eq mode (codes "run") then Some (to_run word)
    else (if bytes_eq mode (codes "check") then Some (to_check word)
    else (if bytes_eq mode (codes "plan") then Some (to_plan word)
    else (if bytes_eq mode (codes "gen") then option_map to_generate (count_of word)
    else (if bytes_eq mode (codes "demo") then option_map to_demonstrate (count_of word) else None))))

-- what `MODE PROGRAM --workers N`, `MODE --workers N PROGRAM` and `--workers N MODE PROGRAM` ask for
abbrev pub order_in_four : List ℕ → List ℕ → List ℕ → List ℕ → Option Order
order_in_four a b c d =
    if is_option c && is_workers d then order_by a b
    else (if is_option b && is_workers c then order_by a d
    else (if is_option a && is_workers b then order_by c d else None))

-- what the words ask for: `MODE PROGRAM`, or one of these with a number of workers
abbrev pub order_of : List (List ℕ) → Option Order
order_of (mode ∷ word ∷ []) = order_by mode word
order_of (a ∷ b ∷ c ∷ d ∷ []) = order_in_four a b c d
order_of words = None

abbrev pub IsOrder : List (List ℕ) → Order → Type 0
IsOrder words order = order_of words ≡ Some order

-- the words ask for no run
abbrev pub IsNoRun : List (List ℕ) → Type 0
IsNoRun words = (name : List ℕ) → ¬ (IsOrder words (to_run name))

-- the words ask for nothing
abbrev pub IsNoOrder : List (List ℕ) → Type 0
IsNoOrder words = order_of words ≡ None

-- the program file that an order reads
abbrev pub file_of : Order → Option (List ℕ)
file_of (to_run name) = Some name
file_of (to_check name) = Some name
file_of (to_plan name) = Some name
file_of (to_generate count) = None
file_of (to_demonstrate count) = None

-- the words ask for something that reads the program file of this name
pub record IsFileOrder (words : List (List ℕ)) (name : List ℕ) : Type 0 where
  pub order : Order
  pub asked : IsOrder words order
  pub named : file_of order ≡ Some name
