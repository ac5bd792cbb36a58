-- What dictionaries match: runs of tokens that agree with an entry, token by token.
use Rattle.std.specs.Prelude.{◌≡◌, ℕ, ◌<◌, ◌≤◌, ◌-◌, Bool, true, false, List, map, length, slice_range, None, chars, encode_utf8_all}
use Rattle.std.specs.List.{Contains}
use Rattle.caseless.specs.Caseless.{default_case_fold}
use Rattle.span_token.specs.Documents.{Doc, text_in}
use Rattle.span_token.specs.Extents.{Extent}
use Rattle.span_token.specs.SourceTokens.{tokens_in, run_extent}
use Rattle.span_token.specs.SpanOrder.{AreInOrder}
use Rattle.span_token.specs.Tokens.{tokens_of}
use Rattle.dict_match.specs.declared.dict_use.DictUse.{DictUse}

-- the full case folding of a text
unfoldable pub folded : List ℕ → List ℕ
folded text = encode_utf8_all (default_case_fold (chars text))

-- the texts of some tokens
abbrev pub texts_of : Doc → List Extent → List (List ℕ)
texts_of d = map (text_in d)

-- an entry as a document
abbrev pub entry_doc : List ℕ → Doc
entry_doc entry = record { text = entry; label = None }

-- the texts of an entry's tokens
abbrev pub entry_texts : List ℕ → List (List ℕ)
entry_texts entry = texts_of (entry_doc entry) (tokens_of (chars entry))

-- texts agree one by one: where case counts they are equal, and else their foldings are
abbrev pub Agree : Bool → List (List ℕ) → List (List ℕ) → Type 0
Agree true xs ys = xs ≡ ys
Agree false xs ys = map folded xs ≡ map folded ys

-- tokens with these texts, one or more, agree with some entry of a dictionary
pub record AgreesWith (dict : DictUse) (texts : List (List ℕ)) : Type 0 where
  pub filled : 0 < length texts
  pub entry : List ℕ
  pub listed : Contains dict.entries entry
  pub agree : Agree dict.exact texts (entry_texts entry)

-- an extent that a dictionary matches among tokens: that of a run of one or more of them
pub record IsMatch (dict : DictUse) (d : Doc) (tokens : List Extent) (e : Extent) : Type 0 where
  pub first : ℕ
  pub past : ℕ
  pub some : first < past
  pub there : past ≤ length tokens
  pub agrees : AgreesWith dict (texts_of d (slice_range tokens first past))
  pub extent_is : e ≡ run_extent tokens first (past - 1)

-- exactly the extents that a dictionary matches among the tokens wholly in a source
abbrev pub AreMatches : DictUse → Doc → Extent → List Extent → Type 0
AreMatches dict d source = AreInOrder (IsMatch dict d (tokens_in d source))
