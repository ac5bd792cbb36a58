-- What holds of the others and of the hand holds of all, whether or not it was put behind them.
use Rattle.std.proofs.Common.{◌≡◌, ◌++◌, ◌∷◌, [], List, Box, Bool, true, false, cond, All, subst, sym}
use Rattle.std.proofs.lemmas.List.Elements.{All-push}
use Rattle.std.specs.Prelude.{is_ok}
use Rattle.window_lines.specs.declared.hands.Hand.{Hand}
use Rattle.window_lines.proofs.ready.put_back.Goals as goal

all_put : {Z : Type 0} → (P : Box Hand Z → Type 0) (before now : List (Box Hand Z)) (hand : Box Hand Z) (put : Bool) → now ≡ cond put (before ++ hand ∷ []) before → All P before → P hand → All P now
all_put P before now hand true is all own = subst (All P) (sym is) (All-push P before hand all own)
all_put P before now hand false is all own = subst (All P) (sym is) all

pub returns-clause-tools : goal.returns-clause-tools
returns-clause-tools c = λ lists all own.
    all_put (λ hand. hand.value.tools ≡ lists) c.args.hands.now.items c.push.new.self.items c.args.hand (is_ok c.push.result) c.push.ensures.items all own
