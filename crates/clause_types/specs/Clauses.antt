-- The clauses after the sources.
use Rattle.std.specs.Prelude.{ℕ, pos, Bool, true, false, not, ◌||◌, List, [], ◌∷◌, ◌++◌, Option, Some, None, map, flat_map, option_map, is_none, int_le, nat_abs, codes, if◌then◌else◌}
use Rattle.aql_syntax.specs.Trees.{Name, Number, Term, column, bare, Item, Cons}
use Rattle.aql_typed.specs.Trees.{Consolidation}
use Rattle.span_sets.specs.declared.policy.Policy.{Policy}
use Rattle.span_sets.specs.declared.policy.Policy.TheVariants as policy
use Rattle.scalar_ops.specs.declared.kind.Kind.{Kind}
use Rattle.scalar_ops.specs.declared.kind.Kind.TheVariants as kind
use Rattle.scalar_ops.specs.Expressions as expressed
use Rattle.clause_types.specs.declared.fault.Breach.{Breach}
use Rattle.clause_types.specs.declared.fault.TypeRule.TheVariants.{UnknownColumn, NotGrouped, BadRange, UnknownPolicy}
use Rattle.clause_types.specs.declared.wanted.Wanted.TheVariants.{OfKind}
use Rattle.clause_types.specs.Faults.{broken}
use Rattle.clause_types.specs.Functions.{entry_named}
use Rattle.clause_types.specs.Known.{Known}
use Rattle.clause_types.specs.Typings.{Typing, term_meant, Content, expression, row_count, aggregated, ItemTyping}
use Rattle.clause_types.specs.Scopes.{Scope}
use Rattle.clause_types.specs.Calls.{wrong_argument}
use Rattle.clause_types.specs.Expressions.{typing}
use Rattle.clause_types.specs.Items.{at_of}
use Rattle.clause_types.specs.Keys.{is_key, has_item}

-- the policies with their names
abbrev pub policies : List (List ℕ × Policy)
policies =
    (codes "ContainedWithin", policy.ContainedWithin) ∷ (codes "NotContainedWithin", policy.NotContainedWithin)
    ∷ (codes "ContainsButNotEqual", policy.ContainsButNotEqual) ∷ (codes "ExactMatch", policy.ExactMatch)
    ∷ (codes "LeftToRight", policy.LeftToRight) ∷ []

abbrev pub policy_or_default : Option Policy → Policy
policy_or_default None = policy.ContainedWithin
policy_or_default (Some p) = p

-- the policy that is written, and ContainedWithin where none is
abbrev pub policy_of : Option Name → Policy
policy_of None = policy.ContainedWithin
policy_of (Some name) = policy_or_default (entry_named name.text policies)

-- UnknownPolicy: the text is no policy's name; at the text
abbrev pub unknown_policy : Option Name → List Breach
unknown_policy None = []
unknown_policy (Some name) = broken (is_none (entry_named name.text policies)) name.at (UnknownPolicy name.text)

-- BadRange: a limit is below 0; at the integer
abbrev pub bad_limit : Option Number → List Breach
bad_limit None = []
bad_limit (Some n) = broken (not (int_le (pos 0) n.value)) n.at (BadRange n.value n.value)

abbrev pub limit_of : Option Number → Option ℕ
limit_of limit = option_map (λ n. nat_abs n.value) limit

abbrev pub is_aggregate : Content → Bool
is_aggregate (expression meant) = false
is_aggregate row_count = true
is_aggregate (aggregated a meant) = true

-- NotGrouped: of a selection that groups by these keys, an item is neither an aggregate nor equal to a key; at the item
module _ (items : List Item) (keys : List Term) where
  abbrev pub ungrouped : Item → ItemTyping → List Breach
  ungrouped item typed = broken (not (is_aggregate typed.content || is_key items keys item)) typed.at NotGrouped

  abbrev pub not_grouped : List Item → List ItemTyping → List Breach
  not_grouped (item ∷ more) (typed ∷ more_typed) = ungrouped item typed ++ not_grouped more more_typed
  not_grouped more typed = []

-- an `order by` key that is no item keeps the column's name, or this text
abbrev pub name_kept : Term → List ℕ
name_kept (column at alias name) = name.text
name_kept (bare at name) = name.text
name_kept term = codes "order by"

-- UnknownColumn: an `order by` key equals no item's expression, or is a bare name that is no output name; at the expression
abbrev pub no_item : List Item → Term → List Breach
no_item items key = broken (not (has_item items key)) (at_of key) (UnknownColumn (name_kept key))

-- the expression is a bare name
abbrev pub is_bare : Term → Bool
is_bare (bare at name) = true
is_bare term = false

-- an expression that is wanted to be of a kind
abbrev pub kind_faults : Known → Kind → Typing → List Breach
kind_faults known wanted t = t.faults ++ wrong_argument known (OfKind wanted) t

module _ (known : Known) (scope : Scope) where
  -- conditions are Boolean, group keys are wanted Any
  abbrev pub each_faults : Kind → List Term → List Breach
  each_faults wanted exprs = flat_map (λ expr. kind_faults known wanted (typing known scope expr)) exprs

  -- the target of a consolidation is a Span; the target is checked before the policy
  abbrev pub cons_faults : Cons → List Breach
  cons_faults cons = kind_faults known kind.Span (typing known scope cons.target) ++ unknown_policy cons.policy

  abbrev pub consolidation_faults : Option Cons → List Breach
  consolidation_faults None = []
  consolidation_faults (Some cons) = cons_faults cons

  abbrev pub terms_of : List Term → List expressed.Term
  terms_of exprs = map (λ expr. term_meant (typing known scope expr).meant) exprs

  abbrev pub consolidation_for : Cons → Consolidation
  consolidation_for cons = record { policy = policy_of cons.policy; target = term_meant (typing known scope cons.target).meant }

  abbrev pub consolidation_of : Option Cons → Option Consolidation
  consolidation_of cons = option_map consolidation_for cons

  -- what is wrong with an `order by` key by itself: a bare name stands for its item, also for an aggregate
  abbrev pub key_faults : Term → List Breach
  key_faults key = if is_bare key then [] else (typing known scope key).faults

  -- an `order by` key is an item
  abbrev pub order_faults : List Item → Term → List Breach
  order_faults items key = key_faults key ++ no_item items key

  abbrev pub orders_faults : List Item → List Term → List Breach
  orders_faults items keys = flat_map (order_faults items) keys
