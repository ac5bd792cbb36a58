use denote.Exit.{no}
use denote.Param.Send.{param_sync, arg_sync, shr_sync}
use Rattle.window_lines.proofs.Crosses.{Writing-sync, one_captured_sync}
use Rattle.window_lines.proofs.lines.parts_of.Goals as goal

pub map_indices-requires-sync-F : goal.map_indices-requires-sync-F
map_indices-requires-sync-F g c κs within = param_sync 3 _ (arg_sync _ no _ (one_captured_sync _ _ (shr_sync _ _ _ (Writing-sync _ _ _ _ _ c.type_bounds.sync-P))))
