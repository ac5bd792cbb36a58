-- Nodes that take the place of others: when they may be put, and what they have then.
use Rattle.std.proofs.Common.{◌≡◌, ◌∙◌, ℕ, ◌+◌, ◌<◌, List, [], ◌∷◌, ◌++◌, map, length, get_or, take, drop, refl, sym, ap, subst, arith}
use Rattle.std.specs.List.{All}
use Rattle.std.proofs.lemmas.List.Elements.{All-append, All-head, All-tail}
use Rattle.aql_base.specs.Bags.{SameBag}
use Rattle.aql_base.specs.BagLaws.{SameBag-trans, SameBag-is, SameBag-filter}
use Rattle.span_token.specs.Documents.{Doc as Document}
use Rattle.scalar_ops.specs.declared.expr.Expr.{Expr}
use Rattle.scalar_ops.specs.Expressions.{Term, ReadsBelow}
use Rattle.scalar_ops.specs.Tables.{Lists}
use Rattle.scalar_ops.specs.Values.{holding}
use Rattle.scalar_ops.specs.Views.{term_of}
use Rattle.aql_typed.specs.Meaning.{Rows, selected}
use Rattle.algebra.specs.declared.node.Node.{Node}
use Rattle.algebra.specs.declared.node.Node.TheVariants.{Select}
use Rattle.algebra.specs.declared.shape.Shape.{Shape}
use Rattle.algebra.specs.FoldLaws.{length-each}
use Rattle.algebra.specs.Growth.{Grows, Has, Stands}
use Rattle.algebra.specs.GrowthLaws.{grows-none, grows-trans, has-grown, has-same}
use Rattle.algebra.specs.Nodes.{IsNode, IsPlan}
use Rattle.algebra.specs.Shapes.{IsOpen, columns, shape_by, no_shape, shapes_of}
use Rattle.algebra.specs.Values.{val}
use Rattle.algebra.specs.WidthLaws.{val-wide}
use Rattle.push_select.specs.declared.below.Pair.{Pair}
use Rattle.push_select.specs.declared.join.Choice.{Choice}
use Rattle.push_select.specs.Joins.{IsChoice}
use Rattle.push_select.specs.Replacing.{Combination, all_pairs, joined_by, cross_of, join_of_pair, joint_width, IsPlain, Gives, Narrows, Combines}
use Rattle.push_select.specs.Pushed.{width_at}
use Rattle.push_select.proofs.JoiningRows.{selected-none, selected-joined_out, terms_split, terms_left}
use Rattle.push_select.proofs.JoinViews.{JoinForm, is_join, join-left, join-right}
use Rattle.push_select.proofs.Parting.{all-left, all-right}

-- a node that has a shape is there
pub node_there : (nodes : List Node) (n : ℕ) → n < length (shapes_of nodes) → n < length nodes
node_there nodes n below = omega (arith, below, length-each no_shape shape_by nodes)

pub shape_there : (nodes : List Node) (n : ℕ) → n < length nodes → n < length (shapes_of nodes)
shape_there nodes n below = omega (arith, below, length-each no_shape shape_by nodes)

-- ---- what is given stays so

pub gives-grown : (old new : List Node) (n w : ℕ) (f : Lists → Document → Rows) → Grows old new → Gives old n w f → Gives new n w f
gives-grown old new n w f grows gives = record {
  shape = gives.shape;
  readable = gives.readable;
  wide = gives.wide;
  has = has-grown old new n gives.shape f grows gives.has;
}

pub gives-is : (nodes : List Node) (n w : ℕ) (f g : Lists → Document → Rows) → ((lists : Lists) (doc : Document) → f lists doc ≡ g lists doc) → Gives nodes n w f → Gives nodes n w g
gives-is nodes n w f g is gives = record {
  shape = gives.shape;
  readable = gives.readable;
  wide = gives.wide;
  has = has-same nodes n gives.shape f g (λ lists doc. SameBag-is _ _ (is lists doc)) gives.has;
}

pub gives-width : (nodes : List Node) (n w v : ℕ) (f : Lists → Document → Rows) → w ≡ v → Gives nodes n w f → Gives nodes n v f
gives-width nodes n w v f is gives = record { shape = gives.shape; readable = gives.readable; wide = gives.wide ∙ is; has = gives.has }

-- the number of columns by the node's shape
pub width-given : (nodes : List Node) (n w : ℕ) (f : Lists → Document → Rows) → Gives nodes n w f → width_at nodes n ≡ w
width-given nodes n w f gives = ap (λ (s : Shape). s.width) gives.has.shaped ∙ gives.wide

pub open-given : (nodes : List Node) (n w : ℕ) (f : Lists → Document → Rows) → Gives nodes n w f → IsOpen (get_or (shapes_of nodes) n no_shape)
open-given nodes n w f gives = subst (λ (s : Shape). IsOpen s) (sym gives.has.shaped) gives.readable

-- ---- selections by no condition

pub terms_none : (conds : List Expr) → length conds ≡ 0 → map term_of conds ≡ []
terms_none [] is = refl
terms_none (c ∷ conds) is = absurd (omega (arith, is))

pub none_listed : (conds : List Term) → length conds ≡ 0 → conds ≡ []
none_listed [] is = refl
none_listed (c ∷ conds) is = absurd (omega (arith, is))

none_same : (nodes : List Node) (i : ℕ) (conds : List Term) → conds ≡ [] → (lists : Lists) (doc : Document) → SameBag (val lists doc nodes i) (selected lists doc conds (val lists doc nodes i))
none_same nodes i conds none lists doc =
    SameBag-is _ _ (sym (ap (λ (cs : List Term). selected lists doc cs (val lists doc nodes i)) none ∙ selected-none lists doc (val lists doc nodes i)))

-- the input stands for a selection by none
pub stands-none : (nodes : List Node) (i : ℕ) (conds : List Term) → conds ≡ [] → IsPlain nodes i → IsNode (shapes_of nodes) (Select i conds) → Stands nodes nodes i (Select i conds)
stands-none nodes i conds none plain valid = record {
  grows = grows-none nodes;
  has = record { there = node_there nodes i valid.left_below; shaped = plain; same = λ lists doc. none_same nodes i conds none lists doc };
}

-- and gives the rows on which none has to hold
pub narrows-none : (nodes : List Node) (i : ℕ) (conds : List Term) → conds ≡ [] → IsNode (shapes_of nodes) (Select i conds) → Narrows nodes nodes i i conds
narrows-none nodes i conds none valid = record {
  grows = grows-none nodes;
  gives = record {
    shape = get_or (shapes_of nodes) i no_shape;
    readable = valid.made.0;
    wide = refl;
    has = record { there = node_there nodes i valid.left_below; shaped = refl; same = λ lists doc. none_same nodes i conds none lists doc };
  };
}

-- what stands for a selection gives the rows on which the conditions hold
pub narrows-stands : (old new : List Node) (i n : ℕ) (conds : List Term) → Stands old new n (Select i conds) → Narrows old new i n conds
narrows-stands old new i n conds stands = record {
  grows = stands.grows;
  gives = record { shape = columns (width_at old i); readable = tt; wide = refl; has = stands.has };
}

-- ---- selections above a node that combines two others

module _ (old mid : List Node) (m : ℕ) (pair : Pair) (rows : Combination) (has : Has mid m (columns (joint_width old pair)) (λ lists doc. rows doc (val lists doc old pair.left) (val lists doc old pair.right))) where
  pub above-plain : IsPlain mid m
  above-plain = has.shaped ∙ sym (ap (λ (s : Shape). columns s.width) has.shaped)

  pub above-valid : (conds : List Term) → All (ReadsBelow (joint_width old pair)) conds → IsNode (shapes_of mid) (Select m conds)
  above-valid conds reads = record {
    left_below = shape_there mid m has.there;
    right_below = tt;
    made = subst (λ (s : Shape). IsOpen s × All (ReadsBelow s.width) conds) (sym has.shaped) (tt, reads);
  }

  pub above-combines : (new : List Node) (n : ℕ) (conds : List Term) → Grows old mid → Stands mid new n (Select m conds) → Combines old new pair n rows conds
  above-combines new n conds grows stands = record {
    grows = grows-trans old mid new grows stands.grows;
    has = record {
      there = stands.has.there;
      shaped = stands.has.shaped ∙ ap (λ (s : Shape). columns s.width) has.shaped;
      same = λ lists doc. SameBag-trans _ _ _ (stands.has.same lists doc) (SameBag-filter (holding lists doc conds) _ _ (has.same lists doc));
    };
  }

-- ---- a join that a condition stands for

module _ (old : List Node) (pair : Pair) (both : IsNode (shapes_of old) (cross_of pair)) (conds : List Expr) (found : Choice) (is : IsChoice (width_at old pair.left) conds found) where
  abbrev front : List Term
  front = map term_of (take found.number conds)

  abbrev rest : List Term
  rest = map term_of (drop (found.number + 1) conds)

  form : JoinForm (width_at old pair.left) (term_of is.cond) found.join
  form = is_join (width_at old pair.left) (term_of is.cond) found.join is.joins

  split : map term_of conds ≡ front ++ term_of is.cond ∷ rest
  split = terms_split conds found.number is.cond is.there is.at

  -- what holds of all conditions holds of that one
  found_all : (P : Term → Type 0) → All P (map term_of conds) → P (term_of is.cond)
  found_all P all = All-head P (term_of is.cond) rest (all-right P front (term_of is.cond ∷ rest) (subst (All P) split all))

  -- and of the others
  pub others-all : (P : Term → Type 0) (others : List Expr) → others ≡ take found.number conds ++ drop (found.number + 1) conds → All P (map term_of conds) → All P (map term_of others)
  others-all P others are all =
      subst (All P) (sym (terms_left conds others found.number are))
      (All-append P front rest (all-left P front (term_of is.cond ∷ rest) (subst (All P) split all))
      (All-tail P (term_of is.cond) rest (all-right P front (term_of is.cond ∷ rest) (subst (All P) split all))))

  pub join-valid : All (ReadsBelow (joint_width old pair)) (map term_of conds) → IsNode (shapes_of old) (join_of_pair pair found.join)
  join-valid reads = record {
    left_below = both.left_below;
    right_below = both.right_below;
    made = (
      both.made.0,
      both.made.1,
      join-left (width_at old pair.left) (term_of is.cond) found.join form,
      join-right (width_at old pair.left) (width_at old pair.right) (term_of is.cond) found.join form (found_all (ReadsBelow (joint_width old pair)) reads),
    );
  }

  -- the others over the join are all conditions over the product
  others_same : IsPlan old → (others : List Expr) → others ≡ take found.number conds ++ drop (found.number + 1) conds → (lists : Lists) (doc : Document)
      → selected lists doc (map term_of others) (joined_by found.join doc (val lists doc old pair.left) (val lists doc old pair.right))
      ≡ selected lists doc (map term_of conds) (all_pairs doc (val lists doc old pair.left) (val lists doc old pair.right))
  others_same plan others are lists doc =
      let a = val lists doc old pair.left in
      let b = val lists doc old pair.right in
      ap (λ (cs : List Term). selected lists doc cs (joined_by found.join doc a b)) (terms_left conds others found.number are)
      ∙ (sym (selected-joined_out lists doc (width_at old pair.left) front rest (term_of is.cond) found.join form a b (val-wide lists doc old pair.left plan))
      ∙ ap (λ (cs : List Term). selected lists doc cs (all_pairs doc a b)) (sym split))

  pub found-combines : IsPlan old → (others : List Expr) → others ≡ take found.number conds ++ drop (found.number + 1) conds → (new : List Node) (n : ℕ)
      → Combines old new pair n (joined_by found.join) (map term_of others) → Combines old new pair n all_pairs (map term_of conds)
  found-combines plan others are new n combines = record {
    grows = combines.grows;
    has = record {
      there = combines.has.there;
      shaped = combines.has.shaped;
      same = λ lists doc. SameBag-trans _ _ _ (combines.has.same lists doc) (SameBag-is _ _ (others_same plan others are lists doc));
    };
  }
