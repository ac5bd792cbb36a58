-- Nodes that are found by lists of numbers: a `Dict` node by its input and column, a part of one by its dictionary, any other
-- node as it is.
use Rattle.std.specs.Prelude.{ℕ, ℤ, ◌≡◌, ◌≢◌, Bool, true, not, if◌then◌else◌, Option, Some, List, [], ◌∷◌, ◌++◌, map, slice_get, slice_index_or}
use Rattle.std.specs.Cmp.Lexicographic.{pointwise}
use Rattle.std.specs.List.{AllPairs, list_any}
use Rattle.std.specs.Ordering.{int_eq}
use Rattle.std.specs.declared.alloc.Global.{Global}
use Rattle.std.specs.declared.vec.Vec.{Vec}
use Rattle.algebra.specs.declared.node.Node.{Node}
use Rattle.algebra.specs.declared.node.Node.TheVariants.{Dict, DictPart}
use Rattle.algebra.specs.Nodes.{IsPlan}
use Rattle.share_plan.specs.declared.kind.Kind.{Kind}
use Rattle.share_plan.specs.declared.kind.Kind.TheVariants.{Source, Part, Plain}
use Rattle.share_plan.specs.Kinds.{kind_of}
use Rattle.share_plan.specs.Words.{node_words}

-- the dictionary with a number of a `Dict` node
abbrev pub dict_at : Option Node → ℕ → ℕ
dict_at (Some (Dict input column dicts)) number = slice_index_or dicts number 0
dict_at other number = 0

-- a `Dict` node without its dictionaries
abbrev pub emptied : Node → Node
emptied (Dict input column dicts) = Dict input column []
emptied node = node

-- what a node of a kind is found by, among some nodes
abbrev pub found_as : List Node → Kind → Node → Node
found_as nodes Source node = emptied node
found_as nodes (Part input number) node = DictPart input (dict_at (slice_get nodes input) number)
found_as nodes Plain node = node

abbrev pub found_by : List Node → Node → Node
found_by nodes node = found_as nodes (kind_of node) node

-- the lists of numbers by which the nodes are found
abbrev pub keys_of : List Node → List (List ℤ)
keys_of nodes = map (λ node. node_words (found_by nodes node)) nodes

-- a key: a list of numbers
abbrev pub Key : Type 0
Key = Vec ℤ Global

-- whether two keys have the same numbers
abbrev pub same : Key → Key → Bool
same x y = pointwise int_eq x.items y.items

-- the keys after one was put, and whether it is new: then it goes last
pub record IsInserted (keys later : List Key) (key : Key) (n : ℕ) (is_new : Bool) : Type 0 where
  pub keys_are : later ≡ (if list_any (same key) keys then keys else keys ++ key ∷ [])
  pub added : is_new ≡ not (list_any (same key) keys)
  pub stored : (k : Key) × (slice_get later n ≡ Some k) × (same key k ≡ true)

-- the nodes are a plan, and each is found by its own list of numbers
pub record IsIndex (nodes : List Node) (keys : List Key) : Type 0 where
  pub plan : IsPlan nodes
  pub found : map (λ (key : Key). key.items) keys ≡ keys_of nodes
  pub distinct : AllPairs (λ a b. a ≢ b) (keys_of nodes)
