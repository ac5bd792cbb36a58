-- How definitions see the clauses of a selection that the code keeps.
use Rattle.std.specs.Prelude.{ℕ, ◌≡◌, List, Option, map, option_map}
use Rattle.scalar_ops.specs.Expressions.{Term}
use Rattle.scalar_ops.specs.Views.{term_of}
use Rattle.aql_syntax.specs.Trees.{Item, Clauses, Tail}
use Rattle.aql_typed.specs.Trees as tree
use Rattle.aql_typed.specs.Views as typed
use Rattle.clause_types.specs.declared.extraction.TailParts as declared_tail
use Rattle.clause_types.specs.declared.selection.Parts as declared
use Rattle.clause_types.specs.Clauses.{terms_of, consolidation_of, limit_of}
use Rattle.clause_types.specs.Keys.{item_number}
use Rattle.clause_types.specs.Known.{Known}
use Rattle.clause_types.specs.Scopes.{Scope}
use Rattle.clause_types.specs.Selections.{projection_by}
use Rattle.clause_types.specs.Typings.{ItemTyping}

-- all but the columns
pub record Parts : Type 0 where
  pub conds : List Term
  pub consolidate : Option tree.Consolidation
  pub keys : List Term
  pub order : List ℕ
  pub limit : Option ℕ

abbrev pub parts_of : declared.Parts → Parts
parts_of parts = record {
  conds = map term_of parts.conds.items;
  consolidate = option_map typed.consolidation_of parts.consolidate;
  keys = map term_of parts.keys.items;
  order = parts.order.items;
  limit = parts.limit;
}

-- the parts are those of some clauses
pub record SameParts (known : Known) (row scope : Scope) (items : List Item) (clauses : Clauses) (parts : declared.Parts) : Type 0 where
  pub conds : terms_of known row clauses.conds ≡ map term_of parts.conds.items
  pub consolidate : consolidation_of known scope clauses.cons ≡ option_map typed.consolidation_of parts.consolidate
  pub keys : terms_of known scope clauses.group ≡ map term_of parts.keys.items
  pub order : map (item_number items) clauses.order ≡ parts.order.items
  pub limit : parts.limit ≡ limit_of clauses.limit

-- with the columns
abbrev pub clauses_with : Parts → List Item → List ItemTyping → Clauses → tree.SelectClauses
clauses_with parts items typed clauses = record {
  conds = parts.conds;
  consolidate = parts.consolidate;
  projection = projection_by parts.keys items typed clauses.group;
  order = parts.order;
  limit = parts.limit;
}

-- the clauses after an extraction's source are those of a tail
pub record SameTail (known : Known) (scope : Scope) (tail : Tail) (parts : declared_tail.TailParts) : Type 0 where
  pub conds : terms_of known scope tail.conds ≡ map term_of parts.conds.items
  pub consolidate : consolidation_of known scope tail.cons ≡ option_map typed.consolidation_of parts.consolidate
  pub limit : parts.limit ≡ limit_of tail.limit
