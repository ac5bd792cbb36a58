use Rattle.std.proofs.Common.{arith}
use Rattle.window_lines.proofs.pieces.Ready.go_to_line.Goals as goal

pub find_line-requires : goal.find_line-requires
find_line-requires g c =
    record { sees = c.go_to-2.ensures.sees c.args.self.now.seen (omega (arith, c.requires.there)) }
