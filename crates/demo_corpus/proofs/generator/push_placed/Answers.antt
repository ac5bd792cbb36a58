use Rattle.std.proofs.Common.{◌≡◌, ◌++◌, List, ℕ, sym, ap, ◌∙◌, arith, string_bytes}
use Rattle.demo_corpus.proofs.Fillings.{placed_number}
use Rattle.demo_corpus.proofs.generator.push_placed.Goals as goal

pub returns-in_ok-push_str : goal.returns-in_ok-push_str
returns-in_ok-push_str c =
    let is : c.args.c ≡ 35 = omega arith in
    c.in_ok-push_str.ensures.bytes ∙ ap (λ (bytes : List ℕ). string_bytes c.args.text.now ++ bytes) (sym (placed_number c.args.number.now c.args.c c.utf8.number is))
