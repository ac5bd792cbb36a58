-- Joins that look near their left rows, and the joins with all that is found that stand for them.
use Rattle.std.proofs.Common.{◌≡◌, ℕ, ◌<◌, ◌≤◌, Bool, false, List, [], ◌∷◌, length, get_or, refl, arith}
use Rattle.std.specs.List.{flat_map}
use Rattle.aql_base.specs.BagLaws.{SameBag-refl, SameBag-is}
use Rattle.span_token.specs.Documents.{Doc as Document}
use Rattle.scalar_ops.specs.Tables.{Lists}
use Rattle.aql_typed.specs.Meaning.{Rows}
use Rattle.algebra.specs.declared.node.JoinKind.{JoinKind}
use Rattle.algebra.specs.declared.node.Local.{Local}
use Rattle.algebra.specs.declared.node.Local.TheVariants as sought
use Rattle.algebra.specs.declared.node.Node.{Node}
use Rattle.algebra.specs.declared.node.Node.TheVariants.{TokenRegex, Dict, DictPart, Cross, SpanJoin, Restricted}
use Rattle.algebra.specs.declared.shape.Form.TheVariants.{Marked}
use Rattle.algebra.specs.declared.shape.Shape.{Shape}
use Rattle.algebra.specs.DictLaws.{dict_part}
use Rattle.algebra.specs.Growth.{Has, Stands}
use Rattle.algebra.specs.GrowthLaws.{grows-trans, has-node, has-grown, has-same, stands-by}
use Rattle.algebra.specs.KindLaws.{node-token_regex, has-token_regex, node-dict, has-dict, node-dict_part, has-dict_part, node-span_join, has-span_join}
use Rattle.algebra.specs.Nodes.{IsNode}
use Rattle.algebra.specs.Operators.{marked_in, part_of, sought_by, with_found}
use Rattle.algebra.specs.Shapes.{columns, document_shape, no_shape, shapes_of}
use Rattle.algebra.specs.Values.{val}
use Rattle.push_select.specs.Replacing.{Searches}
use Rattle.push_select.proofs.Replacing.{node_there}

-- ---- what is found in the document

module _ (old : List Node) (source : ℕ) (there : source < length old) (document : get_or (shapes_of old) source no_shape ≡ document_shape) where
  abbrev rows : Lists → Document → Rows
  rows lists doc = val lists doc old source

  source_has : Has old source document_shape rows
  source_has = record { there = there; shaped = document; same = λ lists doc. SameBag-refl (rows lists doc) }

  -- runs of tokens
  module _ (low high pattern : ℕ) where
    pub runs-valid : 1 ≤ low → IsNode (shapes_of old) (TokenRegex source 0 low high pattern (0 ∷ []))
    runs-valid some = node-token_regex old source document_shape rows source_has 0 low high pattern (0 ∷ []) tt (omega arith) some

    pub runs-searched : (new : List Node) (n : ℕ) → Stands old new n (TokenRegex source 0 low high pattern (0 ∷ [])) → Searches old new source n (sought.TokenRegex low high pattern)
    runs-searched new n stands = record {
      grows = stands.grows;
      has = has-token_regex old source document_shape rows source_has 0 low high pattern (0 ∷ []) new n stands;
    }

  -- matches of a dictionary
  module _ (d : ℕ) where
    pub dict-valid : IsNode (shapes_of old) (Dict source 0 (d ∷ []))
    dict-valid = node-dict old source document_shape rows source_has 0 (d ∷ []) tt (omega arith)

    module _ (mid : List Node) (m : ℕ) (both : Stands old mid m (Dict source 0 (d ∷ []))) where
      abbrev marked : Lists → Document → Rows
      marked lists doc = flat_map (marked_in lists doc 0 (d ∷ [])) (rows lists doc)

      abbrev marked_shape : Shape
      marked_shape = record { width = 3; form = Marked 1 }

      both_has : Has mid m marked_shape marked
      both_has = has-dict old source document_shape rows source_has 0 (d ∷ []) mid m both

      pub part-valid : IsNode (shapes_of mid) (DictPart m 0)
      part-valid = node-dict_part mid m marked_shape marked both_has 0 (record { listed = omega arith; room = omega arith })

      pub part-searched : (new : List Node) (n : ℕ) → Stands mid new n (DictPart m 0) → Searches old new source n (sought.Dict d)
      part-searched new n stands = record {
        grows = grows-trans old mid new both.grows stands.grows;
        has = has-same new n (columns 2) (λ lists doc. part_of 0 (marked lists doc)) (λ lists doc. with_found lists doc (sought_by (sought.Dict d)) (rows lists doc))
            (λ lists doc. SameBag-is _ _ (dict_part lists doc source 0 (d ∷ []) m 0 d (rows lists doc) [] [] (omega arith) refl))
            (has-dict_part mid m marked_shape marked both_has 0 new n stands);
      }

-- ---- the join with it

module _ (old : List Node) (outer source : ℕ) (kind : JoinKind) (lc : ℕ) (part : Local) (valid : IsNode (shapes_of old) (Restricted outer source kind lc part)) where
  pub source-there : source < length old
  source-there = node_there old source valid.right_below

  abbrev s : Shape
  s = get_or (shapes_of old) outer no_shape

  abbrev left : Lists → Document → Rows
  left lists doc = val lists doc old outer

  abbrev found : Lists → Document → Rows
  found lists doc = with_found lists doc (sought_by part) (val lists doc old source)

  outer_has : Has old outer s left
  outer_has = has-node old outer (node_there old outer valid.left_below)

  module _ (mid : List Node) (m : ℕ) (searches : Searches old mid source m part) where
    left_has : Has mid outer s left
    left_has = has-grown old mid outer s left searches.grows outer_has

    pub whole-valid : IsNode (shapes_of mid) (SpanJoin outer m kind lc 1 false)
    whole-valid = node-span_join mid outer m s (columns 2) left found left_has searches.has kind lc 1 false valid.made.0 tt valid.made.2 (omega arith)

    pub whole-stands : (new : List Node) (n : ℕ) → Stands mid new n (SpanJoin outer m kind lc 1 false) → Stands old new n (Restricted outer source kind lc part)
    whole-stands new n stands =
        stands-by old (Restricted outer source kind lc part) s (get_or (shapes_of old) source no_shape) left (λ lists doc. val lists doc old source) outer_has (has-node old source source-there)
        new n (grows-trans old mid new searches.grows stands.grows)
        (has-span_join mid outer m s (columns 2) left found left_has searches.has kind lc 1 false new n stands)

-- ---- joins that aren't conditional stand for those that are

module _ (old : List Node) (l r : ℕ) (c : Bool) where
  pub cross-valid : IsNode (shapes_of old) (Cross l r c) → IsNode (shapes_of old) (Cross l r false)
  cross-valid valid = record { left_below = valid.left_below; right_below = valid.right_below; made = valid.made }

  pub cross-stands : (new : List Node) (n : ℕ) → Stands old new n (Cross l r false) → Stands old new n (Cross l r c)
  cross-stands new n stands = record { grows = stands.grows; has = stands.has }

  pub join-valid : (k : JoinKind) (lc rc : ℕ) → IsNode (shapes_of old) (SpanJoin l r k lc rc c) → IsNode (shapes_of old) (SpanJoin l r k lc rc false)
  join-valid k lc rc valid = record { left_below = valid.left_below; right_below = valid.right_below; made = valid.made }

  pub join-stands : (k : JoinKind) (lc rc : ℕ) (new : List Node) (n : ℕ) → Stands old new n (SpanJoin l r k lc rc false) → Stands old new n (SpanJoin l r k lc rc c)
  join-stands k lc rc new n stands = record { grows = stands.grows; has = stands.has }
