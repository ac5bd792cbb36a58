-- A limit without a number behind a union stands for the union.
use Rattle.std.proofs.Common.{◌<◌, ℕ, List, [], All, None}
use Rattle.std.proofs.lemmas.List.Elements.{All-nil}
use Rattle.algebra.specs.declared.node.Node.{Node}
use Rattle.algebra.specs.declared.node.Node.TheVariants.{Union, OrderLimit}
use Rattle.algebra.specs.Folds.{had}
use Rattle.algebra.specs.Growth.{Stands}
use Rattle.algebra.specs.GrowthLaws.{grows-trans}
use Rattle.algebra.specs.KindLaws.{node-order_limit, has-order_limit}
use Rattle.algebra.specs.Nodes.{IsNode}
use Rattle.algebra.specs.Shapes.{shape_by, shapes_of, no_shape}
use Rattle.algebra.specs.Values.{value_after}

module _ (old mid : List Node) (l r i : ℕ) (union : Stands old mid i (Union l r)) where
  -- it may stand behind the union
  pub may_stand : IsNode (shapes_of mid) (OrderLimit i [] None)
  may_stand =
      node-order_limit mid i (had no_shape shape_by (shapes_of old) (Union l r)) (λ lists doc. value_after lists doc old (Union l r)) union.has [] None tt
      (All-nil (λ (key : ℕ). key < (had no_shape shape_by (shapes_of old) (Union l r)).width))

  -- and has its rows
  pub stands_for : (new : List Node) (n : ℕ) → Stands mid new n (OrderLimit i [] None) → Stands old new n (Union l r)
  stands_for new n limit = record {
    grows = grows-trans old mid new union.grows limit.grows;
    has = has-order_limit mid i (had no_shape shape_by (shapes_of old) (Union l r)) (λ lists doc. value_after lists doc old (Union l r)) union.has [] None new n limit;
  }
