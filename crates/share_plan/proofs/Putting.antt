-- What holds after a node was put, by whether its list of numbers was there.
use Rattle.std.proofs.Common.{◌≡◌, ◌∙◌, ℕ, ◌<◌, true, false, List, [], ◌∷◌, ◌++◌, length, set, slice_get, refl, sym, ap, subst, arith, Option, Some}
use Rattle.std.proofs.lemmas.List.{length-append, get_or_at}
use Rattle.std.proofs.lemmas.Option.{slice_get_within, slice_get-get_or}
use Rattle.algebra.specs.declared.node.Node.{Node}
use Rattle.algebra.specs.declared.node.Node.TheVariants.{Doc, Dict, DictPart}
use Rattle.algebra.specs.declared.shape.Shape.{Shape}
use Rattle.algebra.specs.FoldLaws.{length-each}
use Rattle.algebra.specs.Growth.{Grows, Stands}
use Rattle.algebra.specs.GrowthLaws.{is-at, stands-added}
use Rattle.algebra.specs.Nodes.{IsNode, IsPlan}
use Rattle.algebra.specs.Shapes.{shape_by, no_shape, shapes_of, HasDictNumber}
use Rattle.share_plan.specs.declared.kind.Kind.{Kind}
use Rattle.share_plan.specs.declared.kind.Kind.TheVariants.{Source, Plain}
use Rattle.share_plan.specs.Indexes.{dict_at, found_as, found_by, Key, IsInserted, IsIndex}
use Rattle.share_plan.specs.Kinds.{kind_of}
use Rattle.share_plan.specs.Putting.{IsOpenAt, Keeps, Extends, IsPartAt, IsDictOf, IsFound}
use Rattle.share_plan.specs.Words.{node_words}
use Rattle.share_plan.proofs.Extending.{extends-part}
use Rattle.share_plan.proofs.Finding.{keys_more, key_apart, key_last, there_in_front}
use Rattle.share_plan.proofs.Indexing.{long_keys, part-there, index-more, index-wider, wider-keeps, wider-at}
use Rattle.share_plan.proofs.KindLaws.{open_inputs}
use Rattle.share_plan.proofs.Parts.{is_node, dict_shape, part_found, keeps_grows, keeps_trans, found_kept}

pub keeps-same : (nodes : List Node) → Keeps nodes nodes
keeps-same nodes = record {
  long = omega arith;
  shaped = λ n below opens. refl;
  same = λ lists doc n below opens. refl;
}

module _ (nodes : List Node) (keys later : List Key) (key : Key) (n : ℕ) (index : IsIndex nodes keys) (put : IsInserted keys later key n true) where
  pub last_number : n ≡ length nodes
  last_number = key_last keys later key n true put refl ∙ long_keys nodes keys index

  indexed_more : (node : Node) → IsNode (shapes_of nodes) node → key.items ≡ node_words (found_by (nodes ++ node ∷ []) node) → IsIndex (nodes ++ node ∷ []) later
  indexed_more node valid are =
      subst (IsIndex (nodes ++ node ∷ [])) (sym (keys_more keys later key n true put refl))
      (index-more nodes keys key index node valid (key_apart keys later key n true put refl) are)

  -- any other node than a `Dict` node or a part
  pub plain-stands : (node : Node) → Stands nodes (nodes ++ node ∷ []) n node
  plain-stands node = stands-added nodes (nodes ++ node ∷ []) n node last_number refl

  pub plain-index : (node : Node) → kind_of node ≡ Plain → IsNode (shapes_of nodes) node → key.items ≡ node_words node → IsIndex (nodes ++ node ∷ []) later
  plain-index node plain valid are =
      indexed_more node valid (are ∙ ap (λ (k : Kind). node_words (found_as (nodes ++ node ∷ []) k node)) (sym plain))

  -- a `Dict` node of a column that has none
  pub dict-stands : (i c : ℕ) → IsDictOf (nodes ++ Dict i c [] ∷ []) n i c
  dict-stands i c =
      let here = Dict i c [] in (
        [],
        slice_get-get_or (nodes ++ here ∷ []) n Doc (omega (arith, last_number, length-append nodes (here ∷ [])))
            ∙ ap (λ (node : Node). Some node) (get_or_at nodes here [] Doc n (sym last_number)),
      )

  pub dict-index : (i c : ℕ) → IsNode (shapes_of nodes) (Dict i c []) → key.items ≡ node_words (Dict i c []) → IsIndex (nodes ++ Dict i c [] ∷ []) later
  dict-index i c valid are = indexed_more (Dict i c []) valid are

-- the input of a `Dict` node
module _ (nodes : List Node) (plan : IsPlan nodes) (m i c : ℕ) (dicts : List ℕ) (at : slice_get nodes m ≡ Some (Dict i c dicts)) where
  fits : IsNode (shapes_of nodes) (Dict i c dicts)
  fits = (is-at nodes m (Dict i c dicts) plan (slice_get_within nodes m (Dict i c dicts) at) (is_node nodes m (Dict i c dicts) at)).valid

  input_there : i < length nodes
  input_there = omega (arith, fits.left_below, length-each no_shape shape_by nodes)

  input_open : IsOpenAt nodes i
  input_open = (open_inputs (shapes_of nodes) (Dict i c dicts) Source refl fits).left

-- a part that is put behind the nodes, its dictionary behind those of its `Dict` node
pub record IsPartMore (nodes last : List Node) (later : List Key) (n i c d : ℕ) : Type 0 where
  pub keeps : Keeps nodes last
  pub extends : Extends nodes last
  pub part : IsPartAt last n
  pub index : IsIndex last later
  pub found : IsFound nodes last n i c d

module _ (nodes : List Node) (keys later : List Key) (key : Key) (n m d number : ℕ) (index : IsIndex nodes keys) (put : IsInserted keys later key n true)
    (are : key.items ≡ node_words (DictPart m d)) (wide last : List Node) (i c : ℕ) (dicts : List ℕ) (at : slice_get nodes m ≡ Some (Dict i c dicts))
    (number_is : number ≡ length dicts) (wide_is : wide ≡ set nodes m (Dict i c (dicts ++ d ∷ []))) (last_is : last ≡ wide ++ DictPart m number ∷ []) where
  abbrev wider : List Node
  wider = set nodes m (Dict i c (dicts ++ d ∷ []))

  abbrev part : Node
  part = DictPart m (length dicts)

  abbrev final : List Node
  final = wider ++ part ∷ []

  wider_index : IsIndex wider keys
  wider_index = index-wider nodes keys index m i c d dicts at

  wider_there : slice_get wider m ≡ Some (Dict i c (dicts ++ d ∷ []))
  wider_there = wider-at nodes keys index m i c d dicts at

  listed : slice_get (dicts ++ d ∷ []) (length dicts) ≡ Some d
  listed =
      slice_get-get_or (dicts ++ d ∷ []) (length dicts) 0 (omega (arith, length-append dicts (d ∷ [])))
      ∙ ap (λ (e : ℕ). Some e) (get_or_at dicts d [] 0 (length dicts) refl)

  m_below : m < length wider
  m_below = slice_get_within wider m (Dict i c (dicts ++ d ∷ [])) wider_there

  part_fits : IsNode (shapes_of wider) part
  part_fits = record {
    left_below = omega (arith, m_below, length-each no_shape shape_by wider);
    right_below = tt;
    made = subst (λ (s : Shape). HasDictNumber s (length dicts)) (sym (dict_shape wider wider_index.plan m i c (dicts ++ d ∷ []) wider_there))
        (record { listed = omega (arith, length-append dicts (d ∷ [])); room = omega arith });
  }

  m_final : slice_get final m ≡ Some (Dict i c (dicts ++ d ∷ []))
  m_final = there_in_front Doc wider (part ∷ []) m m_below ∙ wider_there

  part_key : key.items ≡ node_words (found_by final part)
  part_key =
      are ∙ ap (λ (e : ℕ). node_words (DictPart m e))
      (sym (ap (λ (o : Option Node). dict_at o (length dicts)) m_final ∙ get_or_at dicts d [] 0 (length dicts) refl))

  final_index : IsIndex final later
  final_index = indexed_more wider keys later key n wider_index put part part_fits part_key

  part_stands : slice_get final n ≡ Some part
  part_stands =
      let last_n : n ≡ length wider = last_number wider keys later key n wider_index put in
      slice_get-get_or final n Doc (omega (arith, last_n, length-append wider (part ∷ []))) ∙ ap (λ (node : Node). Some node) (get_or_at wider part [] Doc n (sym last_n))

  final_keeps : Keeps nodes final
  final_keeps =
      keeps_trans nodes wider final (wider-keeps nodes keys index m i c d dicts at) (keeps_grows wider final (record { added = part ∷ []; grown = refl }))

  final_more : IsPartMore nodes final later n i c d
  final_more = record {
    keeps = final_keeps;
    extends = extends-part nodes wider final m i c d (length dicts) dicts at refl refl;
    part = (m, length dicts, part_stands);
    index = final_index;
    found = found_kept nodes final final n i c d final_keeps (input_there nodes index.plan m i c dicts at) (input_open nodes index.plan m i c dicts at)
        (part_found final final_index.plan m i c (dicts ++ d ∷ []) m_final (length dicts) d listed n part_stands);
  }

  pub part-more : IsPartMore nodes last later n i c d
  part-more =
      subst (λ (list : List Node). IsPartMore nodes list later n i c d)
      (sym (last_is ∙ (ap (λ (all : List Node). all ++ DictPart m number ∷ []) wide_is ∙ ap (λ (p : ℕ). wider ++ DictPart m p ∷ []) number_is)))
      final_more

-- a part that is there
pub part-stays : (nodes : List Node) (keys later : List Key) (key : Key) (n m d i c : ℕ) (dicts : List ℕ) → IsIndex nodes keys → IsInserted keys later key n false
    → key.items ≡ node_words (DictPart m d) → slice_get nodes m ≡ Some (Dict i c dicts) → IsFound nodes nodes n i c d
part-stays nodes keys later key n m d i c dicts index put are at =
    let p = part-there nodes keys later key n false index put refl m i c d dicts are at in
    part_found nodes index.plan m i c dicts at p.0 d p.2 n p.1

pub part-at : (nodes : List Node) (keys later : List Key) (key : Key) (n m d i c : ℕ) (dicts : List ℕ) → IsIndex nodes keys → IsInserted keys later key n false
    → key.items ≡ node_words (DictPart m d) → slice_get nodes m ≡ Some (Dict i c dicts) → IsPartAt nodes n
part-at nodes keys later key n m d i c dicts index put are at =
    let p = part-there nodes keys later key n false index put refl m i c d dicts are at in
    (m, p.0, p.1)

-- what is found in a node after more nodes were put was found in it before
pub found_before : (nodes mid after : List Node) (n i c d : ℕ) → Grows nodes mid → IsNode (shapes_of nodes) (Dict i c []) → IsFound mid after n i c d → IsFound nodes after n i c d
found_before nodes mid after n i c d grows valid found =
    found_kept nodes mid after n i c d (keeps_grows nodes mid grows) (omega (arith, valid.left_below, length-each no_shape shape_by nodes))
    (open_inputs (shapes_of nodes) (Dict i c []) Source refl valid).left found
