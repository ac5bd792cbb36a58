-- What is told of a text by its bytes, before an engine is asked.
use Rattle.std.specs.Prelude.{◌≡◌, ℕ, ◌<◌, ◌≤◌, Bool, true, List, [], ◌∷◌, length, get_or, All, IfSome, IsTrue}
use Rattle.regex_hir.specs.Re.{Re}
use Rattle.regex_hir.specs.Matches.{Matches}
use Rattle.regex_extract.specs.Language.{InLanguage}
use Rattle.aql_regex_extract.specs.ByteSets.{Has}
use Rattle.aql_regex_extract.specs.Matches.{has_match}
use Rattle.aql_regex_extract.specs.declared.byte_set.ByteSet.{ByteSet}
use Rattle.aql_regex_extract.specs.declared.admitted.Admitted.{Admitted}

-- ---- of the texts that a pattern can match

-- the set has each of their bytes
pub record IsMadeOf (set : ByteSet) (re : Re) : Type 0 where
  pub at : (w : List ℕ) → InLanguage re w → All (Has set) w

-- the text begins with a byte of the set, or is empty and may be so
abbrev pub Begins : ByteSet → Bool → List ℕ → Type 0
Begins set may_be_empty [] = may_be_empty ≡ true
Begins set may_be_empty (b ∷ w) = Has set b

-- each of them begins with a byte of the set, or is empty and may be so
pub record BeginsIn (set : ByteSet) (may_be_empty : Bool) (re : Re) : Type 0 where
  pub at : (w : List ℕ) → InLanguage re w → Begins set may_be_empty w

-- ---- of a text in which the whole-text form is looked for

-- it is empty or begins with one of the first bytes, and has none but the others, if they are not all
abbrev pub IsAdmitted : Admitted → List ℕ → Type 0
IsAdmitted a text = Begins a.firsts true text × IfSome a.bytes (λ set. All (Has set) text)

-- each number of the list is a byte
abbrev pub AreBytes : List ℕ → Type 0
AreBytes text = (k : ℕ) → get_or text k 0 < 256

-- a text in which the tree has a match is admitted
pub record AdmitsWhole (re : Re) (a : Admitted) : Type 0 where
  pub at : (text : List ℕ) → AreBytes text → (i j : ℕ) → i ≤ length text → Matches text re i j → IsAdmitted a text

-- a text in which the pattern has a match is admitted
pub record AdmitsMatches (pattern : List ℕ) (a : Admitted) : Type 0 where
  pub at : (text : List ℕ) → AreBytes text → IsTrue (has_match pattern text) → IsAdmitted a text
