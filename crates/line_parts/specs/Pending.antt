-- Bytes in several texts.
use Rattle.std.specs.Prelude.{ℕ, List}
use Rattle.std.specs.List.{flat_map}
use Rattle.std.specs.declared.vec.Vec.{Vec}

-- the bytes of texts, one after another
abbrev pub texts_of : {A : Type 0} → List (Vec ℕ A) → List ℕ
texts_of = flat_map (λ text. text.items)
