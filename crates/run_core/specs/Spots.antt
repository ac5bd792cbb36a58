-- What is kept of an item, and how it stands then.
use Rattle.std.specs.Prelude.{Some, None}
use Rattle.std.specs.Arc.{arc_value}
use Rattle.run_core.specs.declared.spot.Kept.{Kept}
use Rattle.run_core.specs.declared.spot.Kept.TheVariants.{Nothing, Claimed, Published, Both}
use Rattle.run_core.specs.Boards.{Standing, untouched}

abbrev pub standing_of : Kept → Standing
standing_of Nothing = untouched
standing_of (Claimed worker) = record { claim = Some worker; rows = None }
standing_of (Published rows) = record { claim = None; rows = Some (arc_value rows) }
standing_of (Both worker rows) = record { claim = Some worker; rows = Some (arc_value rows) }
