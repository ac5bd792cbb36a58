-- Laws of nodes with their inputs renumbered, and made conditional where they are joins: a table with a line a kind.
use Rattle.std.proofs.Common.{◌≡◌, ◌∙◌, ℕ, ◌<◌, inl, inr, Bool, List, refl, ap, ap₂, option_map}
use Rattle.algebra.specs.declared.node.JoinKind.{JoinKind}
use Rattle.algebra.specs.declared.node.Local.{Local}
use Rattle.algebra.specs.declared.node.Node.{Node}
use Rattle.algebra.specs.declared.node.Node.TheVariants.{Doc, Regex, TokenRegex, Dict, DictPart, Blocks, Select, Project, Cross, SpanJoin, Restricted, Union, Minus, Consolidate, Group, OrderLimit}
use Rattle.algebra.specs.Inputs.{left_input, right_input, with_inputs, IsAmong}
use Rattle.scalar_ops.specs.Expressions.{Term}
use Rattle.restrict_eval.specs.Rebuilding.{made_conditional}
use Rattle.restrict_eval.specs.Restricting.{IsConditional, Reads}

-- the node with its inputs renumbered, conditional where it is a join
abbrev pub carried : (ℕ → ℕ) → Node → Node
carried to node = made_conditional (with_inputs to node)

-- renumberings that agree on the inputs of a node
pub with_inputs-agree : (count : ℕ) (f g : ℕ → ℕ) → ((i : ℕ) → i < count → f i ≡ g i) → (node : Node) → IsAmong count (left_input node) → IsAmong count (right_input node) → with_inputs f node ≡ with_inputs g node
with_inputs-agree count f g agree Doc left right = refl
with_inputs-agree count f g agree (Regex i c p groups) left right = ap (λ (n : ℕ). Regex n c p groups) (agree i left)
with_inputs-agree count f g agree (TokenRegex i c low high p groups) left right = ap (λ (n : ℕ). TokenRegex n c low high p groups) (agree i left)
with_inputs-agree count f g agree (Dict i c dicts) left right = ap (λ (n : ℕ). Dict n c dicts) (agree i left)
with_inputs-agree count f g agree (DictPart i number) left right = ap (λ (n : ℕ). DictPart n number) (agree i left)
with_inputs-agree count f g agree (Blocks i c low high from upto tokens) left right = ap (λ (n : ℕ). Blocks n c low high from upto tokens) (agree i left)
with_inputs-agree count f g agree (Select i conds) left right = ap (λ (n : ℕ). Select n conds) (agree i left)
with_inputs-agree count f g agree (Project i items) left right = ap (λ (n : ℕ). Project n items) (agree i left)
with_inputs-agree count f g agree (Cross l r conditional) left right = ap₂ (λ (m n : ℕ). Cross m n conditional) (agree l left) (agree r right)
with_inputs-agree count f g agree (SpanJoin l r join lc rc conditional) left right = ap₂ (λ (m n : ℕ). SpanJoin m n join lc rc conditional) (agree l left) (agree r right)
with_inputs-agree count f g agree (Restricted o s join lc part) left right = ap₂ (λ (m n : ℕ). Restricted m n join lc part) (agree o left) (agree s right)
with_inputs-agree count f g agree (Union l r) left right = ap₂ (λ (m n : ℕ). Union m n) (agree l left) (agree r right)
with_inputs-agree count f g agree (Minus l r) left right = ap₂ (λ (m n : ℕ). Minus m n) (agree l left) (agree r right)
with_inputs-agree count f g agree (Consolidate i policy target) left right = ap (λ (n : ℕ). Consolidate n policy target) (agree i left)
with_inputs-agree count f g agree (Group i keys aggs) left right = ap (λ (n : ℕ). Group n keys aggs) (agree i left)
with_inputs-agree count f g agree (OrderLimit i keys limit) left right = ap (λ (n : ℕ). OrderLimit n keys limit) (agree i left)

module _ (to : ℕ → ℕ) where
  pub carried-left : (node : Node) → left_input (carried to node) ≡ option_map to (left_input node)
  carried-left Doc = refl
  carried-left (Regex i c p groups) = refl
  carried-left (TokenRegex i c low high p groups) = refl
  carried-left (Dict i c dicts) = refl
  carried-left (DictPart i number) = refl
  carried-left (Blocks i c low high from upto tokens) = refl
  carried-left (Select i conds) = refl
  carried-left (Project i items) = refl
  carried-left (Cross l r conditional) = refl
  carried-left (SpanJoin l r join lc rc conditional) = refl
  carried-left (Restricted o s join lc part) = refl
  carried-left (Union l r) = refl
  carried-left (Minus l r) = refl
  carried-left (Consolidate i policy target) = refl
  carried-left (Group i keys aggs) = refl
  carried-left (OrderLimit i keys limit) = refl

  pub carried-right : (node : Node) → right_input (carried to node) ≡ option_map to (right_input node)
  carried-right Doc = refl
  carried-right (Regex i c p groups) = refl
  carried-right (TokenRegex i c low high p groups) = refl
  carried-right (Dict i c dicts) = refl
  carried-right (DictPart i number) = refl
  carried-right (Blocks i c low high from upto tokens) = refl
  carried-right (Select i conds) = refl
  carried-right (Project i items) = refl
  carried-right (Cross l r conditional) = refl
  carried-right (SpanJoin l r join lc rc conditional) = refl
  carried-right (Restricted o s join lc part) = refl
  carried-right (Union l r) = refl
  carried-right (Minus l r) = refl
  carried-right (Consolidate i policy target) = refl
  carried-right (Group i keys aggs) = refl
  carried-right (OrderLimit i keys limit) = refl

  pub carried_conditional : (node : Node) → IsConditional (carried to node)
  carried_conditional Doc = tt
  carried_conditional (Regex i c p groups) = tt
  carried_conditional (TokenRegex i c low high p groups) = tt
  carried_conditional (Dict i c dicts) = tt
  carried_conditional (DictPart i number) = tt
  carried_conditional (Blocks i c low high from upto tokens) = tt
  carried_conditional (Select i conds) = tt
  carried_conditional (Project i items) = tt
  carried_conditional (Cross l r conditional) = refl
  carried_conditional (SpanJoin l r join lc rc conditional) = refl
  carried_conditional (Restricted o s join lc part) = tt
  carried_conditional (Union l r) = tt
  carried_conditional (Minus l r) = tt
  carried_conditional (Consolidate i policy target) = tt
  carried_conditional (Group i keys aggs) = tt
  carried_conditional (OrderLimit i keys limit) = tt

  -- what is carried to a `Doc` node is one
  pub from_doc : (node : Node) → carried to node ≡ Doc → node ≡ Doc
  from_doc Doc e = refl
  from_doc (Regex i c p groups) e = cc
  from_doc (TokenRegex i c low high p groups) e = cc
  from_doc (Dict i c dicts) e = cc
  from_doc (DictPart i number) e = cc
  from_doc (Blocks i c low high from upto tokens) e = cc
  from_doc (Select i conds) e = cc
  from_doc (Project i items) e = cc
  from_doc (Cross l r conditional) e = cc
  from_doc (SpanJoin l r join lc rc conditional) e = cc
  from_doc (Restricted o s join lc part) e = cc
  from_doc (Union l r) e = cc
  from_doc (Minus l r) e = cc
  from_doc (Consolidate i policy target) e = cc
  from_doc (Group i keys aggs) e = cc
  from_doc (OrderLimit i keys limit) e = cc

  -- what is carried to a `TokenRegex` node is one
  pub from_runs : (node : Node) (i' c' low' high' p' : ℕ) (groups' : List ℕ) → carried to node ≡ TokenRegex i' c' low' high' p' groups' → (j : ℕ) × (node ≡ TokenRegex j c' low' high' p' groups') × (to j ≡ i')
  from_runs Doc i' c' low' high' p' groups' e = cc
  from_runs (Regex i c p groups) i' c' low' high' p' groups' e = cc
  from_runs (TokenRegex i c low high p groups) i' c' low' high' p' groups' e = (i, cc, cc)
  from_runs (Dict i c dicts) i' c' low' high' p' groups' e = cc
  from_runs (DictPart i number) i' c' low' high' p' groups' e = cc
  from_runs (Blocks i c low high from upto tokens) i' c' low' high' p' groups' e = cc
  from_runs (Select i conds) i' c' low' high' p' groups' e = cc
  from_runs (Project i items) i' c' low' high' p' groups' e = cc
  from_runs (Cross l r conditional) i' c' low' high' p' groups' e = cc
  from_runs (SpanJoin l r join lc rc conditional) i' c' low' high' p' groups' e = cc
  from_runs (Restricted o s join lc part) i' c' low' high' p' groups' e = cc
  from_runs (Union l r) i' c' low' high' p' groups' e = cc
  from_runs (Minus l r) i' c' low' high' p' groups' e = cc
  from_runs (Consolidate i policy target) i' c' low' high' p' groups' e = cc
  from_runs (Group i keys aggs) i' c' low' high' p' groups' e = cc
  from_runs (OrderLimit i keys limit) i' c' low' high' p' groups' e = cc

  -- what is carried to a `Project` node is one
  pub from_project : (node : Node) (i' : ℕ) (items' : List Term) → carried to node ≡ Project i' items' → (j : ℕ) × (node ≡ Project j items') × (to j ≡ i')
  from_project Doc i' items' e = cc
  from_project (Regex i c p groups) i' items' e = cc
  from_project (TokenRegex i c low high p groups) i' items' e = cc
  from_project (Dict i c dicts) i' items' e = cc
  from_project (DictPart i number) i' items' e = cc
  from_project (Blocks i c low high from upto tokens) i' items' e = cc
  from_project (Select i conds) i' items' e = cc
  from_project (Project i items) i' items' e = (i, cc, cc)
  from_project (Cross l r conditional) i' items' e = cc
  from_project (SpanJoin l r join lc rc conditional) i' items' e = cc
  from_project (Restricted o s join lc part) i' items' e = cc
  from_project (Union l r) i' items' e = cc
  from_project (Minus l r) i' items' e = cc
  from_project (Consolidate i policy target) i' items' e = cc
  from_project (Group i keys aggs) i' items' e = cc
  from_project (OrderLimit i keys limit) i' items' e = cc

  -- what is carried to a `Dict` node is one
  pub from_dict : (node : Node) (i' c' : ℕ) (dicts' : List ℕ) → carried to node ≡ Dict i' c' dicts' → (j : ℕ) × (node ≡ Dict j c' dicts') × (to j ≡ i')
  from_dict Doc i' c' dicts' e = cc
  from_dict (Regex i c p groups) i' c' dicts' e = cc
  from_dict (TokenRegex i c low high p groups) i' c' dicts' e = cc
  from_dict (Dict i c dicts) i' c' dicts' e = (i, cc, cc)
  from_dict (DictPart i number) i' c' dicts' e = cc
  from_dict (Blocks i c low high from upto tokens) i' c' dicts' e = cc
  from_dict (Select i conds) i' c' dicts' e = cc
  from_dict (Project i items) i' c' dicts' e = cc
  from_dict (Cross l r conditional) i' c' dicts' e = cc
  from_dict (SpanJoin l r join lc rc conditional) i' c' dicts' e = cc
  from_dict (Restricted o s join lc part) i' c' dicts' e = cc
  from_dict (Union l r) i' c' dicts' e = cc
  from_dict (Minus l r) i' c' dicts' e = cc
  from_dict (Consolidate i policy target) i' c' dicts' e = cc
  from_dict (Group i keys aggs) i' c' dicts' e = cc
  from_dict (OrderLimit i keys limit) i' c' dicts' e = cc

  -- what is carried to a `DictPart` node is one
  pub from_dict_part : (node : Node) (i' number' : ℕ) → carried to node ≡ DictPart i' number' → (j : ℕ) × (node ≡ DictPart j number') × (to j ≡ i')
  from_dict_part Doc i' number' e = cc
  from_dict_part (Regex i c p groups) i' number' e = cc
  from_dict_part (TokenRegex i c low high p groups) i' number' e = cc
  from_dict_part (Dict i c dicts) i' number' e = cc
  from_dict_part (DictPart i number) i' number' e = (i, cc, cc)
  from_dict_part (Blocks i c low high from upto tokens) i' number' e = cc
  from_dict_part (Select i conds) i' number' e = cc
  from_dict_part (Project i items) i' number' e = cc
  from_dict_part (Cross l r conditional) i' number' e = cc
  from_dict_part (SpanJoin l r join lc rc conditional) i' number' e = cc
  from_dict_part (Restricted o s join lc part) i' number' e = cc
  from_dict_part (Union l r) i' number' e = cc
  from_dict_part (Minus l r) i' number' e = cc
  from_dict_part (Consolidate i policy target) i' number' e = cc
  from_dict_part (Group i keys aggs) i' number' e = cc
  from_dict_part (OrderLimit i keys limit) i' number' e = cc

  -- what is carried to a `SpanJoin` node is one
  pub from_join : (node : Node) (l' r' : ℕ) (join' : JoinKind) (lc' rc' : ℕ) (conditional' : Bool) → carried to node ≡ SpanJoin l' r' join' lc' rc' conditional' → (i j : ℕ) × (b : Bool) × (node ≡ SpanJoin i j join' lc' rc' b) × (to i ≡ l') × (to j ≡ r')
  from_join Doc l' r' join' lc' rc' conditional' e = cc
  from_join (Regex i c p groups) l' r' join' lc' rc' conditional' e = cc
  from_join (TokenRegex i c low high p groups) l' r' join' lc' rc' conditional' e = cc
  from_join (Dict i c dicts) l' r' join' lc' rc' conditional' e = cc
  from_join (DictPart i number) l' r' join' lc' rc' conditional' e = cc
  from_join (Blocks i c low high from upto tokens) l' r' join' lc' rc' conditional' e = cc
  from_join (Select i conds) l' r' join' lc' rc' conditional' e = cc
  from_join (Project i items) l' r' join' lc' rc' conditional' e = cc
  from_join (Cross l r conditional) l' r' join' lc' rc' conditional' e = cc
  from_join (SpanJoin l r join lc rc conditional) l' r' join' lc' rc' conditional' e = (l, r, conditional, cc, cc, cc)
  from_join (Restricted o s join lc part) l' r' join' lc' rc' conditional' e = cc
  from_join (Union l r) l' r' join' lc' rc' conditional' e = cc
  from_join (Minus l r) l' r' join' lc' rc' conditional' e = cc
  from_join (Consolidate i policy target) l' r' join' lc' rc' conditional' e = cc
  from_join (Group i keys aggs) l' r' join' lc' rc' conditional' e = cc
  from_join (OrderLimit i keys limit) l' r' join' lc' rc' conditional' e = cc

  -- what is carried to a `Restricted` node is one
  pub from_restricted : (node : Node) (o' s' : ℕ) (join' : JoinKind) (lc' : ℕ) (part' : Local) → carried to node ≡ Restricted o' s' join' lc' part' → (i j : ℕ) × (node ≡ Restricted i j join' lc' part')
  from_restricted Doc o' s' join' lc' part' e = cc
  from_restricted (Regex i c p groups) o' s' join' lc' part' e = cc
  from_restricted (TokenRegex i c low high p groups) o' s' join' lc' part' e = cc
  from_restricted (Dict i c dicts) o' s' join' lc' part' e = cc
  from_restricted (DictPart i number) o' s' join' lc' part' e = cc
  from_restricted (Blocks i c low high from upto tokens) o' s' join' lc' part' e = cc
  from_restricted (Select i conds) o' s' join' lc' part' e = cc
  from_restricted (Project i items) o' s' join' lc' part' e = cc
  from_restricted (Cross l r conditional) o' s' join' lc' part' e = cc
  from_restricted (SpanJoin l r join lc rc conditional) o' s' join' lc' part' e = cc
  from_restricted (Restricted o s join lc part) o' s' join' lc' part' e = (o, s, cc)
  from_restricted (Union l r) o' s' join' lc' part' e = cc
  from_restricted (Minus l r) o' s' join' lc' part' e = cc
  from_restricted (Consolidate i policy target) o' s' join' lc' part' e = cc
  from_restricted (Group i keys aggs) o' s' join' lc' part' e = cc
  from_restricted (OrderLimit i keys limit) o' s' join' lc' part' e = cc

  -- what it reads stands for what the node reads
  pub reads_carried : (node : Node) (i : ℕ) → Reads node i → Reads (carried to node) (to i)
  reads_carried node i (inl left) = inl (carried-left node ∙ ap (option_map to) left)
  reads_carried node i (inr right) = inr (carried-right node ∙ ap (option_map to) right)
