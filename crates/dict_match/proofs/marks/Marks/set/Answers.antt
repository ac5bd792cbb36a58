use Rattle.std.proofs.Common.{◌≡◌, ◌∙◌, ◌<◌, ℕ, List, length, get_or, bit_or, ◌*◌, ◌/◌, ◌%◌, ◌^◌, ap, ap₂, sym, subst, arith}
use Rattle.std.proofs.Math.ListN.{set}
use Rattle.std.proofs.lemmas.List.{get_or_default}
use Rattle.std.proofs.lemmas.Nat.{mod_below, one_shl}
use Rattle.dict_match.specs.Marks.{HasMark}
use Rattle.dict_match.proofs.MarkLemmas.{set-itself, set-kept}
use Rattle.dict_match.proofs.marks.Marks.set.Goals as goal

-- the byte as it is written
module _ (bytes : List ℕ) (mark read : ℕ) (there : mark / 8 < length bytes) (is : read ≡ get_or bytes (mark / 8) read) where
  pub written : set bytes (mark / 8) (bit_or (get_or bytes (mark / 8) 0) (2 ^ (mark % 8))) ≡ set bytes (mark / 8) (bit_or read (1 * 2 ^ (mark % 8) % 256))
  written = ap (set bytes (mark / 8)) (ap₂ bit_or (sym (is ∙ get_or_default bytes (mark / 8) read 0 there)) (sym (one_shl (mark % 8) 8 (mod_below mark 8 (omega arith)))))

pub returns-clause-set : goal.returns-clause-set
returns-clause-set c =
    let bytes = c.self.inside.bytes.items in
    let mark = c.args.mark in
    let there : mark / 8 < length bytes = omega (arith, c.requires.below, c.self.invariant) in
    subst (λ (bs : List ℕ). HasMark bs mark) (written bytes mark c.index-byte.result.now there c.index-byte.ensures) (set-itself bytes mark there)

pub returns-clause-kept : goal.returns-clause-kept
returns-clause-kept c = λ other is.
    let bytes = c.self.inside.bytes.items in
    let mark = c.args.mark in
    let there : mark / 8 < length bytes = omega (arith, c.requires.below, c.self.invariant) in
    subst (λ (bs : List ℕ). HasMark bs other) (written bytes mark c.index-byte.result.now there c.index-byte.ensures) (set-kept bytes mark there other (subst (λ (bs : List ℕ). HasMark bs other) (sym c.self.view_is) is))
