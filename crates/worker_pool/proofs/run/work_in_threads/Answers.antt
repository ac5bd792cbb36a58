use denote.Exit.{no}
use denote.Param.Send.{param_send, param_sync, arg_send, arg_sync, shr_sync}
use Rattle.std.proofs.Crossing.{sync}
use Rattle.worker_pool.proofs.Crosses.{Worker-send, Shared-sync, two_captured_sync}
use Rattle.worker_pool.proofs.run.work_in_threads.Goals as goal

pub for_each_mut-requires-send-T : goal.for_each_mut-requires-send-T
for_each_mut-requires-send-T g c κs within = param_send 1 _ (arg_send _ no _ (Worker-send _))

pub for_each_mut-requires-sync-F : goal.for_each_mut-requires-sync-F
for_each_mut-requires-sync-F g c κs within =
    param_sync 2 _ (arg_sync _ no _ (two_captured_sync _ _ _ (shr_sync _ _ _ sync) (shr_sync _ _ _ (Shared-sync _ _ _ _ _ c.type_bounds.send-W c.type_bounds.sync-W c.type_bounds.sync-G))))
