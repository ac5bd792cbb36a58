-- Objects of strings without escapes, and where their members stand. Only private clauses cite this.
use Rattle.std.specs.Prelude.{◌≡◌, ℕ, ◌+◌, ◌<◌, ◌⊎◌, List, length, drop, get_or, Some}
use Rattle.std.specs.List.{prefix_len}
use Rattle.json.specs.Run.{is_plain}
use Rattle.serde_json.specs.Data.{Members, object}
use Rattle.serde_json.specs.Read.{read}
use Rattle.corpus_json.specs.Passing.{AreStrings}
use Rattle.corpus_json.specs.declared.read.flat.Member.{Member}
use Rattle.corpus_json.specs.declared.read.members.Strings.{Strings}

-- serde_json reads an object in the text, and these are its strings
pub record IsObjectOf (strings : Strings) (text : List ℕ) : Type 0 where
  pub members : Members
  pub is_read : read text ≡ Some (object members)
  pub strings_are : AreStrings strings members

-- a quote stands at `at`, and the next byte that isn't plain is the quote at `stop`
pub record IsPlainString (text : List ℕ) (at stop : ℕ) : Type 0 where
  pub first : get_or text at 0 ≡ 34
  pub stop_is : stop ≡ at + 1 + prefix_len is_plain (drop (at + 1) text)
  pub last : get_or text stop 0 ≡ 34
  pub within : stop < length text

-- at most one space stands between
abbrev pub IsPastBlank : List ℕ → ℕ → ℕ → Type 0
IsPastBlank text at past = (past ≡ at) ⊎ ((past ≡ at + 1) × (get_or text at 0 ≡ 32))

-- a name, a colon and a string stand at `at`
pub record IsMemberAt (text : List ℕ) (at : ℕ) (member : Member) : Type 0 where
  pub name : IsPlainString text at member.name_end
  pub colon : get_or text (member.name_end + 1) 0 ≡ 58
  pub blank : IsPastBlank text (member.name_end + 2) member.from
  pub string : IsPlainString text member.from member.end
