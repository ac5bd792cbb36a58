-- The form of the plan by which a program is run.
use Rattle.std.specs.Prelude.{ℕ, List}
use Rattle.algebra.specs.Items.{output_nodes}
use Rattle.algebra.specs.Plans.{Parts}
use Rattle.push_select.specs.Pushed.{ArePushed, AreUnrestricted}
use Rattle.share_plan.specs.Sharing.{AreDistinct, AreMerged}
use Rattle.share_plan.specs.Ordering.{IsInOrder}
use Rattle.share_plan.specs.Pruning.{AreRead, IsDropped}
use Rattle.restrict_eval.specs.Rebuilding.{IsRestrictedFrom}
use Rattle.restrict_eval.specs.Restricting.{AreConditional, AreRestricted}

-- nothing is done twice and nothing for nobody, conditions stand as low as they can, and joins ask for both of their inputs
pub record IsPromised (plan : Parts) : Type 0 where
  pub distinct : AreDistinct plan.nodes
  pub merged : AreMerged plan.nodes
  pub pushed : ArePushed plan.nodes
  pub unrestricted : AreUnrestricted plan.nodes
  pub read : AreRead plan

-- the plan has the nodes of one in which nothing is done twice and conditions stand low, but that joins look near their left
-- rows, and that what they read no more is left out
pub record IsMadeOf (before plan : Parts) : Type 0 where
  pub promised : IsPromised before
  pub between : Parts
  pub numbers : List ℕ
  pub restricted : IsRestrictedFrom before.nodes (output_nodes before) between.nodes numbers
  pub dropped : IsDropped between.nodes (output_nodes between) plan.nodes (output_nodes plan)

-- nothing is done twice and nothing for nobody, every join asks for its right input only where it needs it, what can be looked
-- for near left rows is, what only right sides of one left side need stands behind it, and the plan is made of one in which
-- conditions stand as low as they can
pub record IsNormal (plan : Parts) : Type 0 where
  pub distinct : AreDistinct plan.nodes
  pub merged : AreMerged plan.nodes
  pub conditional : AreConditional plan.nodes
  pub restricted : AreRestricted plan.nodes (output_nodes plan)
  pub read : AreRead plan
  pub ordered : IsInOrder plan.nodes (output_nodes plan)
  pub before : Parts
  pub made : IsMadeOf before plan
