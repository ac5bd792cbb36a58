use denote.Exit.{no}
use denote.Param.Send.{param_send, arg_send, mut_send, shr_send}
use Rattle.std.proofs.Common.{◌≡◌, ◌-◌, All, subst, sym}
use Rattle.std.proofs.lemmas.List.Elements.{All-take}
use Rattle.window_lines.proofs.Crosses.{Hand-send, Ready-sync, two_captured_send}
use Rattle.window_lines.proofs.ready.+threads.Goals as goal

pub answer_beside-join_mut-requires-send-F : goal.answer_beside-join_mut-requires-send-F
answer_beside-join_mut-requires-send-F g t c κs within =
    param_send 1 _ (arg_send _ no _ (two_captured_send _ _ _ (shr_send _ _ _ (Ready-sync _ _ _ _ _ _ _ _ _ c.requires.shared.3 c.requires.shared.4 c.requires.shared.1 c.requires.shared.2)) (mut_send _ _ _ (Hand-send _))))

pub answer_by-answer_beside-requires-clause-tools : goal.answer_by-answer_beside-requires-clause-tools
answer_by-answer_beside-requires-clause-tools g t c κs within =
    let lists = c.args.ready.now.schedule.now.lists in
    let hands = c.args.hands.now in
    subst (All (λ hand. hand.value.tools ≡ lists)) (sym c.pop.ensures.rest) (All-take (λ hand. hand.value.tools ≡ lists) (hands.len - 1) hands.items c.requires.tools)
