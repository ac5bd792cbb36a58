use Rattle.std.proofs.Common.{◌≡◌, ◌-◌, ◌≤◌, IfSome, vec_len}
use Rattle.aqlx_top.specs.ProgramFile.{IsSoFar}
use Rattle.aqlx_top.proofs.program_file.read_by_pieces.Given as goal

abbrev pub invariant-loop-bytes : goal.invariant-loop-bytes
invariant-loop-bytes g l =
    (vec_len l.bytes ≤ l.most)
    × (g.F.Files.told l.files ≡ g.F.Files.told l.initial.files)
    × (g.F.Files.faults l.files ≡ g.F.Files.faults l.initial.files)
    × IfSome (g.F.Files.told l.initial.files) (λ names. IsSoFar (names l.name) l.bytes.items)

abbrev pub decreases-loop-bytes : goal.decreases-loop-bytes
decreases-loop-bytes g l = l.most - vec_len l.bytes
