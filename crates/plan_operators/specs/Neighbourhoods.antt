-- What a restricted join looks at: runs of tokens near its outer rows, and what is found from one token after another.
use Rattle.std.specs.Prelude.{ℕ, ◌+◌, ◌-◌, ◌<◌, ◌≤◌, ◌≡◌, min, max, Bool, IsTrue, List, [], ◌∷◌, ◌++◌, map, length, slice_get, slice_range, slice_index_or, Option, Some}
use Rattle.std.specs.List.{cons_option, flat_map, list_any, range_with_len}
use Rattle.std.specs.List.Sorted.{IsNonDecreasingBy}
use Rattle.span_token.specs.Documents.{Doc, characters}
use Rattle.span_token.specs.Extents.{Extent, nth_extent}
use Rattle.span_token.specs.SourceTokens.{run_extent}
use Rattle.span_token.specs.Tokens.{tokens_of}
use Rattle.row_values.specs.Datums.{Datum, span}
use Rattle.row_values.specs.Rows.{RowList, span_in}
use Rattle.aql_regex_extract.specs.TokenRuns.{longest_run}
use Rattle.dict_match.specs.Dictionaries.{texts_of}
use Rattle.dict_match.specs.DictMatches.{does_agree, matches_from}
use Rattle.dict_match.specs.declared.dict_use.DictUse.{DictUse}
use Rattle.span_joins.specs.Joins.{holds}
use Rattle.scalar_ops.specs.Extractions.{of_pattern, of_dict}
use Rattle.scalar_ops.specs.Tables.{Lists}
use Rattle.aql_typed.specs.Meaning.{Rows, group_value}
use Rattle.algebra.specs.declared.node.JoinKind.{JoinKind}
use Rattle.algebra.specs.declared.node.Local.{Local}
use Rattle.algebra.specs.declared.node.Local.TheVariants as sought
use Rattle.algebra.specs.Operators.{does_join}
use Rattle.plan_operators.specs.declared.near.Near.{Near}
use Rattle.plan_operators.specs.declared.stretches.Stretch.{Stretch}

-- ---- runs of tokens near a span

-- just so many tokens begin before a place: those with lower numbers
pub record AreBegun (tokens : List Extent) (place number : ℕ) : Type 0 where
  pub there : number ≤ length tokens
  pub before : (i : ℕ) → i < number → (nth_extent tokens i).begin < place
  pub behind : (i : ℕ) → number ≤ i → i < length tokens → place ≤ (nth_extent tokens i).begin

-- both ends of an extent are in another
pub record EndsIn (wide e : Extent) : Type 0 where
  pub begin_from : wide.begin ≤ e.begin
  pub begin_to : e.begin ≤ wide.end
  pub end_from : wide.begin ≤ e.end
  pub end_to : e.end ≤ wide.end

-- the tokens from number `first` to before `past` are there, one or more, and both ends of the extent are in their run
pub record IsInRun (tokens : List Extent) (first past : ℕ) (e : Extent) : Type 0 where
  pub some : first < past
  pub there : past ≤ length tokens
  pub ends : EndsIn (run_extent tokens first (past - 1)) e

-- the run of tokens from number `first` to before `past` begins early enough and ends late enough to be near
pub record IsNearRun (near : Near) (first past : ℕ) : Type 0 where
  pub begins : first < near.before
  pub ends : near.past ≤ past

-- ---- stretches of tokens

-- token i is in the stretch from number `first` to before `past`
pub record IsIn (first past i : ℕ) : Type 0 where
  pub «from» : first ≤ i
  pub to : i < past

-- stretch number n; one without tokens where there is none
abbrev pub stretch_at : List Stretch → ℕ → Stretch
stretch_at stretches n = slice_index_or stretches n (record { first = 0; past = 0 })

-- token i is in one of the stretches
abbrev pub IsInSome : List Stretch → ℕ → Type 0
IsInSome stretches i = (n : ℕ) × IsIn (stretch_at stretches n).first (stretch_at stretches n).past i

-- no stretch begins before the one in front of it
abbrev pub FirstsRise : List Stretch → Type 0
FirstsRise = IsNonDecreasingBy (λ stretch. stretch.first)

-- each run of at most `reach` tokens that joins with the span of a row begins in one of the stretches
abbrev pub AreAround : Doc → JoinKind → ℕ → ℕ → List Stretch → List Datum → Type 0
AreAround doc kind lc reach stretches row =
    (outer e : Extent) (first past : ℕ) → span_in lc row ≡ Some outer → IsInRun (tokens_of (characters doc)) first past e → past ≤ first + reach
    → IsTrue (does_join doc kind outer e) → IsInSome stretches first

module _ (lists : Lists) (doc : Doc) where
  -- ---- what is found from a token on

  -- in the tokens before number `past`, from number `first` on: the spans of each match, which is one span
  abbrev pub found_from : Local → ℕ → ℕ → List (List (Option Extent))
  found_from (sought.TokenRegex low high p) past first =
      of_pattern lists p (λ pattern. cons_option (longest_run pattern doc (tokens_of (characters doc)) (0 ∷ []) first low (min high (past - first) + 1 - low)) [])
  found_from (sought.Dict d) past first = map (λ e. Some e ∷ []) (of_dict lists d (λ dictionary. matches_from dictionary doc (tokens_of (characters doc)) first past))

  -- as rows behind a row of the source
  abbrev pub rows_from : Local → List Datum → ℕ → ℕ → Rows
  rows_from local row past first = map (λ found. row ++ map group_value found) (found_from local past first)

  -- those of the tokens from number `first` to before `stop`
  abbrev pub rows_between : Local → List Datum → ℕ → ℕ → ℕ → Rows
  rows_between local row past first stop = flat_map (rows_from local row past) (range_with_len first (stop - first))

  -- a match has no more tokens than this
  abbrev pub IsReach : Local → ℕ → Type 0
  IsReach (sought.TokenRegex low high p) reach = high ≤ reach
  IsReach (sought.Dict d) reach = (the : DictUse) (first past : ℕ) → slice_get lists.dicts d ≡ Some the → past ≤ length (tokens_of (characters doc))
      → IsTrue (does_agree the (texts_of doc (slice_range (tokens_of (characters doc)) first past))) → past ≤ first + reach

-- ---- what joins

-- some outer row joins with the row
abbrev pub does_meet : Doc → JoinKind → List (List Datum) → ℕ → List Datum → Bool
does_meet doc kind outer lc row = list_any (λ l. holds (does_join doc kind) (span_in lc l) (span_in 1 row)) outer

-- where a test passes the row of a match of at most `reach` tokens, the match begins in one of the stretches
abbrev pub BeginIn : Doc → ℕ → List Stretch → List Datum → (List Datum → Bool) → Type 0
BeginIn doc reach stretches row keep =
    (e : Extent) (first past : ℕ) → IsInRun (tokens_of (characters doc)) first past e → past ≤ first + reach → IsTrue (keep (row ++ span e ∷ [])) → IsInSome stretches first

-- the rows of some tokens of a stretch are put after the others: `done` is the token up to which all those are passed
-- that stand in the stretch, and those that are passed in front of it don't
pub record PutsStretch (lists : Lists) (doc : Doc) (local_part : Local) (row : List Datum) (stretch : Stretch) (from past done : ℕ) (old new : RowList) : Type 0 where
  pub begin : ℕ
  pub after : from ≤ begin
  pub in_front : begin ≤ max from stretch.first
  pub up_to : begin ≤ done
  pub within : done ≤ past
  pub all : min stretch.past past ≤ done
  pub put : new ≡ record { width = old.width; rows = old.rows ++ rows_between lists doc local_part row past begin done }
