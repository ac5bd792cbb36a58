use Rattle.std.proofs.Common.{◌∙◌}
use Rattle.aqlx_top.proofs.FileLemmas.{so_far_more}
use Rattle.aqlx_top.proofs.program_file.read_next.Goals as goal

pub returns-in_ok-extend_from_slice-in-Ok-clause-bytes :
    goal.returns-in_ok-extend_from_slice-in-Ok-clause-bytes
returns-in_ok-extend_from_slice-in-Ok-clause-bytes g c =
    so_far_more (g.F.Files.told c.args.files.now) c.args.name.now c.args.bytes.now.items c.read.new.buf c.extend_from_slice.new.self.items c.in-Ok.taken c.len.result
    (c.len.ensures ∙ c.args.bytes.now.ok.0)
    c.in_ok-extend_from_slice-in-Ok.ensures.items
    c.in-Ok.ensures.bound.0
    c.requires.so_far
    c.in-Ok.ensures.bytes
