-- A node is read from its numbers, so no two nodes have one list of them.
use Rattle.std.proofs.Common.{◌≡◌, ◌∙◌, ℕ, ℤ, pos, Bool, true, false, Option, Some, None, List, [], ◌∷◌, ◌++◌, map, length, take, drop, get_or, refl, sym, ap, ap₂}
use Rattle.std.specs.List.{flat_map}
use Rattle.std.proofs.lemmas.List.{append-nil, length-map, take_at, drop_at}
use Rattle.group_agg.specs.declared.agg.Agg.{Agg}
use Rattle.group_agg.specs.declared.agg.Agg.TheVariants.{Key, Count, CountOf, Sum, Min, Max}
use Rattle.span_sets.specs.declared.policy.Policy.{Policy}
use Rattle.span_sets.specs.declared.policy.Policy.TheVariants.{ContainedWithin, NotContainedWithin, ContainsButNotEqual, ExactMatch, LeftToRight}
use Rattle.scalar_ops.specs.Expressions.{Term}
use Rattle.algebra.specs.declared.node.JoinKind.{JoinKind}
use Rattle.algebra.specs.declared.node.JoinKind.TheVariants as kind
use Rattle.algebra.specs.declared.node.Local.{Local}
use Rattle.algebra.specs.declared.node.Local.TheVariants as sought
use Rattle.algebra.specs.declared.node.Node.{Node}
use Rattle.algebra.specs.declared.node.Node.TheVariants.{Doc, Regex, TokenRegex, Dict, DictPart, Blocks, Select, Project, Cross, SpanJoin, Restricted, Union, Minus, Consolidate, Group, OrderLimit}
use Rattle.share_plan.specs.Words.{flag_word, policy_word, kind_words, local_words, agg_words, node_words}
use Rattle.share_plan.proofs.ExprReading.{nat_of, term_in, terms_in, term-read, terms-read}

abbrev numbers : List ℤ → List ℕ
numbers words = map nat_of words

numbers-read : (xs : List ℕ) → numbers (map pos xs) ≡ xs
numbers-read [] = refl
numbers-read (x ∷ xs) = ap (λ (ys : List ℕ). x ∷ ys) (numbers-read xs)

abbrev flag_in : ℤ → Bool
flag_in v = get_or (false ∷ true ∷ []) (nat_of v) false

flag-read : (b : Bool) → flag_in (flag_word b) ≡ b
flag-read true = refl
flag-read false = refl

abbrev policy_in : ℤ → Policy
policy_in v = get_or (ContainedWithin ∷ NotContainedWithin ∷ ContainsButNotEqual ∷ ExactMatch ∷ LeftToRight ∷ []) (nat_of v) LeftToRight

policy-read : (policy : Policy) → policy_in (policy_word policy) ≡ policy
policy-read ContainedWithin = refl
policy-read NotContainedWithin = refl
policy-read ContainsButNotEqual = refl
policy-read ExactMatch = refl
policy-read LeftToRight = refl

abbrev joins : ℤ → ℤ → List JoinKind
joins low high =
    kind.Follows low high ∷ kind.FollowsTok low high ∷ kind.Overlaps ∷ kind.Contains ∷ kind.FollowsBack low high ∷ kind.FollowsTokBack low high
    ∷ kind.ContainsBack ∷ []

abbrev join_in : List ℤ → JoinKind
join_in (tag ∷ low ∷ high ∷ words) = get_or (joins low high) (nat_of tag) kind.ContainsBack
join_in words = kind.ContainsBack

join-read : (join : JoinKind) (words : List ℤ) → join_in (kind_words join ++ words) ≡ join
join-read (kind.Follows min max) words = refl
join-read (kind.FollowsTok min max) words = refl
join-read kind.Overlaps words = refl
join-read kind.Contains words = refl
join-read (kind.FollowsBack min max) words = refl
join-read (kind.FollowsTokBack min max) words = refl
join-read kind.ContainsBack words = refl

abbrev local_in : List ℤ → Local
local_in (low ∷ high ∷ pattern ∷ words) = sought.TokenRegex (nat_of low) (nat_of high) (nat_of pattern)
local_in (d ∷ words) = sought.Dict (nat_of d)
local_in [] = sought.Dict 0

-- behind the words of a join
abbrev local_behind : List ℤ → Local
local_behind (tag ∷ low ∷ high ∷ words) = local_in words
local_behind words = sought.Dict 0

local-read : (part : Local) → local_in (local_words part) ≡ part
local-read (sought.TokenRegex low high pattern) = refl
local-read (sought.Dict d) = refl

local-behind : (join : JoinKind) (part : Local) → local_behind (kind_words join ++ local_words part) ≡ part
local-behind (kind.Follows min max) part = local-read part
local-behind (kind.FollowsTok min max) part = local-read part
local-behind kind.Overlaps part = local-read part
local-behind kind.Contains part = local-read part
local-behind (kind.FollowsBack min max) part = local-read part
local-behind (kind.FollowsTokBack min max) part = local-read part
local-behind kind.ContainsBack part = local-read part

abbrev agg_in : ℤ → ℕ → Agg
agg_in tag n = get_or (Key n ∷ Count ∷ CountOf n ∷ Sum n ∷ Min n ∷ Max n ∷ []) (nat_of tag) Count

abbrev aggs_in : List ℤ → List Agg
aggs_in (tag ∷ n ∷ words) = agg_in tag (nat_of n) ∷ aggs_in words
aggs_in words = []

aggs-read : (aggs : List Agg) → aggs_in (flat_map agg_words aggs) ≡ aggs
aggs-read [] = refl
aggs-read (Key n ∷ aggs) = ap (λ (rest : List Agg). Key n ∷ rest) (aggs-read aggs)
aggs-read (Count ∷ aggs) = ap (λ (rest : List Agg). Count ∷ rest) (aggs-read aggs)
aggs-read (CountOf n ∷ aggs) = ap (λ (rest : List Agg). CountOf n ∷ rest) (aggs-read aggs)
aggs-read (Sum n ∷ aggs) = ap (λ (rest : List Agg). Sum n ∷ rest) (aggs-read aggs)
aggs-read (Min n ∷ aggs) = ap (λ (rest : List Agg). Min n ∷ rest) (aggs-read aggs)
aggs-read (Max n ∷ aggs) = ap (λ (rest : List Agg). Max n ∷ rest) (aggs-read aggs)

-- ---- nodes, each from the numbers behind its number in the table

abbrev regex_in : List ℤ → Node
regex_in (i ∷ c ∷ p ∷ words) = Regex (nat_of i) (nat_of c) (nat_of p) (numbers words)
regex_in words = Doc

abbrev token_regex_in : List ℤ → Node
token_regex_in (i ∷ c ∷ l ∷ h ∷ p ∷ words) = TokenRegex (nat_of i) (nat_of c) (nat_of l) (nat_of h) (nat_of p) (numbers words)
token_regex_in words = Doc

abbrev dict_in : List ℤ → Node
dict_in (i ∷ c ∷ words) = Dict (nat_of i) (nat_of c) (numbers words)
dict_in words = Doc

abbrev part_in : List ℤ → Node
part_in (i ∷ p ∷ words) = DictPart (nat_of i) (nat_of p)
part_in words = Doc

abbrev blocks_in : List ℤ → Node
blocks_in (i ∷ c ∷ l ∷ h ∷ from ∷ upto ∷ t ∷ words) = Blocks (nat_of i) (nat_of c) (nat_of l) (nat_of h) from upto (flag_in t)
blocks_in words = Doc

abbrev select_in : List ℤ → Node
select_in (i ∷ words) = Select (nat_of i) (terms_in words)
select_in words = Doc

abbrev project_in : List ℤ → Node
project_in (i ∷ words) = Project (nat_of i) (terms_in words)
project_in words = Doc

abbrev cross_in : List ℤ → Node
cross_in (l ∷ r ∷ b ∷ words) = Cross (nat_of l) (nat_of r) (flag_in b)
cross_in words = Doc

abbrev span_join_in : List ℤ → Node
span_join_in (l ∷ r ∷ lc ∷ rc ∷ b ∷ words) = SpanJoin (nat_of l) (nat_of r) (join_in words) (nat_of lc) (nat_of rc) (flag_in b)
span_join_in words = Doc

abbrev restricted_in : List ℤ → Node
restricted_in (o ∷ s ∷ lc ∷ words) = Restricted (nat_of o) (nat_of s) (join_in words) (nat_of lc) (local_behind words)
restricted_in words = Doc

abbrev union_in : List ℤ → Node
union_in (l ∷ r ∷ words) = Union (nat_of l) (nat_of r)
union_in words = Doc

abbrev minus_in : List ℤ → Node
minus_in (l ∷ r ∷ words) = Minus (nat_of l) (nat_of r)
minus_in words = Doc

abbrev consolidate_in : List ℤ → Node
consolidate_in (i ∷ p ∷ words) = Consolidate (nat_of i) (policy_in p) (term_in words)
consolidate_in words = Doc

abbrev group_in : List ℤ → Node
group_in (i ∷ n ∷ words) = Group (nat_of i) (numbers (take (nat_of n) words)) (aggs_in (drop (nat_of n) words))
group_in words = Doc

abbrev limit_in : ℤ → ℤ → Option ℕ
limit_in b n = get_or (None ∷ Some (nat_of n) ∷ []) (nat_of b) None

abbrev order_limit_in : List ℤ → Node
order_limit_in (i ∷ b ∷ n ∷ words) = OrderLimit (nat_of i) (numbers words) (limit_in b n)
order_limit_in words = Doc

abbrev node_in : List ℤ → Node
node_in [] = Doc
node_in (tag ∷ words) =
    get_or (Doc ∷ regex_in words ∷ token_regex_in words ∷ dict_in words ∷ part_in words ∷ blocks_in words ∷ select_in words ∷ project_in words
    ∷ cross_in words ∷ span_join_in words ∷ restricted_in words ∷ union_in words ∷ minus_in words ∷ consolidate_in words ∷ group_in words
    ∷ order_limit_in words ∷ []) (nat_of tag) Doc

node-read : (node : Node) → node_in (node_words node) ≡ node
node-read Doc = refl
node-read (Regex i c p groups) = ap (λ (gs : List ℕ). Regex i c p gs) (numbers-read groups)
node-read (TokenRegex i c l h p groups) = ap (λ (gs : List ℕ). TokenRegex i c l h p gs) (numbers-read groups)
node-read (Dict i c dicts) = ap (λ (ds : List ℕ). Dict i c ds) (numbers-read dicts)
node-read (DictPart i p) = refl
node-read (Blocks i c l h from upto tokens) = ap (λ (b : Bool). Blocks i c l h from upto b) (flag-read tokens)
node-read (Select i conds) = ap (λ (ts : List Term). Select i ts) (terms-read conds)
node-read (Project i items) = ap (λ (ts : List Term). Project i ts) (terms-read items)
node-read (Cross l r conditional) = ap (λ (b : Bool). Cross l r b) (flag-read conditional)
node-read (SpanJoin l r join lc rc conditional) =
    ap₂ (λ (j : JoinKind) (b : Bool). SpanJoin l r j lc rc b) (ap (λ (words : List ℤ). join_in words) (sym (append-nil (kind_words join))) ∙ join-read join []) (flag-read conditional)
node-read (Restricted o s join lc part) =
    ap₂ (λ (j : JoinKind) (p : Local). Restricted o s j lc p) (join-read join (local_words part)) (local-behind join part)
node-read (Union l r) = refl
node-read (Minus l r) = refl
node-read (Consolidate i policy target) = ap₂ (λ (p : Policy) (t : Term). Consolidate i p t) (policy-read policy) (term-read target)
node-read (Group i keys aggs) =
    let ks = map pos keys in
    let found = flat_map agg_words aggs in
    ap₂ (λ (ns : List ℕ) (xs : List Agg). Group i ns xs)
    (ap (λ (words : List ℤ). numbers words) (take_at ks found (length keys) (length-map keys pos)) ∙ numbers-read keys)
    (ap (λ (words : List ℤ). aggs_in words) (drop_at ks found (length keys) (length-map keys pos)) ∙ aggs-read aggs)
node-read (OrderLimit i keys None) = ap (λ (ks : List ℕ). OrderLimit i ks None) (numbers-read keys)
node-read (OrderLimit i keys (Some n)) = ap (λ (ks : List ℕ). OrderLimit i ks (Some n)) (numbers-read keys)

-- nodes with the same numbers are equal
pub words-told : (a b : Node) → node_words a ≡ node_words b → a ≡ b
words-told a b e = sym (node-read a) ∙ (ap (λ (words : List ℤ). node_in words) e ∙ node-read b)
