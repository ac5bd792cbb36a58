use Rattle.std.proofs.Common.{◌∙◌, List, ℕ, ◌++◌, ap, ap₂, sym, map, chars, encode_utf8_all}
use Rattle.std.specs.Char.{to_ascii_lowercase}
use Rattle.std.specs.Str.Iter.{chars_steps}
use Rattle.unicode_normalization.proofs.IterLemmas.{Spells-chars}
use Rattle.caseless.specs.CaseFold.{CaseFoldSteps}
use Rattle.caseless.specs.Caseless.{default_case_fold}
use Rattle.caseless.proofs.CaselessLemmas.{Spells-CaseFold}
use Rattle.dict_match.specs.Dictionaries.{folded}
use Rattle.dict_match.proofs.FoldLemmas.{folded-ascii, drained}
use Rattle.dict_match.proofs.fold.fold_into.Goals as goal

pub returns-in_ok-push_str : goal.returns-in_ok-push_str
returns-in_ok-push_str c =
    c.make_ascii_lowercase.ensures.bytes
    ∙ ap (map to_ascii_lowercase) (c.in_ok-push_str.ensures.bytes ∙ ap (λ (b : List ℕ). b ++ c.args.text.now) c.clear.ensures.bytes)
    ∙ sym (folded-ascii c.args.text.now c.if-is_ascii.ensures.cases)

pub returns-in_ok-extend : goal.returns-in_ok-extend
unfolding folded
returns-in_ok-extend c =
    let ran = c.in_ok-extend.ensures.ran in
    let spelled = Spells-CaseFold (c.default_case_fold.ensures.text _ (Spells-chars _ _ c.utf8.text c.chars.ensures.rest)) in
    ran.3
    ∙ ap₂ (λ (b cs : List ℕ). b ++ encode_utf8_all cs) c.clear.ensures.bytes
    (drained {steps = CaseFoldSteps chars_steps} c.default_case_fold.result ran.0 ran.1 (default_case_fold (chars c.args.text.now)) ran.2 ran.4 (record { runs = spelled }))
