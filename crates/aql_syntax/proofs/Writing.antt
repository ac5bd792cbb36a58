-- One write after another: what the last one adds to is what was there, and all that was written since.
use Rattle.std.proofs.Common.{◌≡◌, List, ◌++◌, append_assoc}
use Rattle.aql_lexer.specs.Kinds.{Kind}

module _ (old first second : List Kind) (a b : List Kind) (writes_a : first ≡ old ++ a) (writes_b : second ≡ first ++ b) where
  pub after_two : (c : List Kind) → second ++ c ≡ old ++ (a ++ (b ++ c))
  after_two c = rw (writes_b, writes_a) (simp append_assoc)

  module _ (third c : List Kind) (writes_c : third ≡ second ++ c) where
    pub after_three : (d : List Kind) → third ++ d ≡ old ++ (a ++ (b ++ (c ++ d)))
    after_three d = rw (writes_c, writes_b, writes_a) (simp append_assoc)

    pub after_four : (fourth d : List Kind) → fourth ≡ third ++ d → (e : List Kind) → fourth ++ e ≡ old ++ (a ++ (b ++ (c ++ (d ++ e))))
    after_four fourth d writes_d e = rw (writes_d, writes_c, writes_b, writes_a) (simp append_assoc)
