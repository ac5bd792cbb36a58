-- Steps of the walk over the tokens.
use Rattle.std.specs.Prelude.{◌≡◌, ℕ, ◌<◌, ◌≤◌, ◌⊎◌, List, [], ◌∷◌, ◌++◌, ◌+◌, map, take, drop, length, slice_index_or, slice_range, Option, Some, None}
use Rattle.std.specs.List.{All, Contains}
use Rattle.std.specs.HashMap.{get_by_text}
use Rattle.span_token.specs.Documents.{text_in}
use Rattle.span_token.specs.Extents.{Extent}
use Rattle.dict_match.specs.declared.dict_use.DictUse.{DictUse}
use Rattle.dict_match.specs.declared.ahead.Ahead.{Ahead}
use Rattle.dict_match.specs.declared.trie.End.{End}
use Rattle.dict_match.specs.declared.trie.Trie.{Trie}
use Rattle.dict_match.specs.declared.walk.DictMatch.{DictMatch}
use Rattle.dict_match.specs.Dictionaries.{folded, texts_of, AgreesWith}
use Rattle.span_token.specs.SourceTokens.{SomeTokens}

-- for each token the number that the tree's words have for its folding, if they have one
abbrev pub numbers_of : Trie → SomeTokens → List (Option ℕ)
numbers_of trie tokens = map (λ t. get_by_text trie.words (folded (text_in tokens.doc t))) tokens.tokens

-- the texts of the tokens from one to before another
abbrev pub run_texts : SomeTokens → ℕ → ℕ → List (List ℕ)
run_texts tokens first past = texts_of tokens.doc (slice_range tokens.tokens first past)

-- an entry's texts, where it has kept them, are those of a run
abbrev pub IsSpelled : List (List ℕ) → Option (List (List ℕ)) → Type 0
IsSpelled texts None = Unit {0}
IsSpelled texts (Some spelled) = spelled ≡ texts

-- some of these ends is of the dictionary and agrees with a run
pub record HasEndFor (dict : ℕ) (texts : List (List ℕ)) (ends : List End) : Type 0 where
  pub end : End
  pub listed : Contains ends end
  pub dict_is : end.dict ≡ dict
  pub spelled : IsSpelled texts end.spelled

-- no dictionary has two ends here that agree with a run
abbrev pub HasOneEach : List (List ℕ) → List End → Type 0
HasOneEach texts ends = (i j : ℕ) (d : End) → i < j → j < length ends
    → (slice_index_or ends i d).dict ≡ (slice_index_or ends j d).dict
    → IsSpelled texts (slice_index_or ends i d).spelled → IsSpelled texts (slice_index_or ends j d).spelled → ⊥

-- an extent is put behind the others where `P` holds, and else nothing is
abbrev pub PutsWhere : Type 0 → Extent → List Extent → List Extent → Type 0
PutsWhere P e old new = (P × (new ≡ old ++ e ∷ [])) ⊎ ((P → ⊥) × (new ≡ old))

-- some run from token number `first`, with its last token before number `past`, agrees with an entry
pub record HasRun (dict : DictUse) (tokens : SomeTokens) (first past : ℕ) : Type 0 where
  pub last : ℕ
  pub «from» : first ≤ last
  pub before : last < past
  pub agrees : AgreesWith dict (run_texts tokens first (last + 1))

-- what is kept is the numbers of tokens one after another, the first of which is token number `begin`
abbrev pub AreAhead : Trie → SomeTokens → Ahead → Type 0
AreAhead trie tokens ahead = ahead.numbers.items ≡ take (length ahead.numbers.items) (drop ahead.begin (numbers_of trie tokens))

-- token number `i` is one of those whose numbers are kept, or the next one behind them
pub record IsKnownOrNext (i : ℕ) (ahead : Ahead) : Type 0 where
  pub «from» : ahead.begin ≤ i
  pub to : i ≤ ahead.begin + length ahead.numbers.items

-- a list goes on after another, with matches of dictionaries whose numbers are below `n`
pub record Extends (n : ℕ) (old new : List DictMatch) : Type 0 where
  pub added : List DictMatch
  pub after : new ≡ old ++ added
  pub below : All (λ (m : DictMatch). m.dict < n) added
