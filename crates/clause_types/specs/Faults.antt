-- Faults in the order of checking. A part has the list of all its faults; the order of checking is the order of the
-- list, and what is told of it is the first.
use Rattle.std.specs.Prelude.{ℕ, Bool, true, false, List, [], ◌∷◌, ◌++◌, Option, Some, None, flat_map, if◌then◌else◌}
use Rattle.std.specs.Str.{bytes_eq}
use Rattle.std.specs.List.{list_any}
use Rattle.aql_syntax.specs.Trees.{Name}
use Rattle.clause_types.specs.declared.fault.Breach.{Breach}
use Rattle.clause_types.specs.declared.fault.TypeRule.{TypeRule}

-- the fault of this rule at this token, where the rule is broken; else none
abbrev pub broken : Bool → ℕ → TypeRule → List Breach
broken true at rule = record { at = at; rule = rule } ∷ []
broken false at rule = []

-- the first, where there is one
abbrev pub first : {X : Type 0} → List X → Option X
first [] = None
first (x ∷ xs) = Some x

-- a name of the list has this text
abbrev pub has_name : List ℕ → List Name → Bool
has_name text names = list_any (λ name. bytes_eq name.text text) names

-- of some names, those whose text an earlier one has; `earlier` stands before them all
abbrev pub repeated : List Name → List Name → List Name
repeated earlier [] = []
repeated earlier (name ∷ names) =
    if has_name name.text earlier then name ∷ repeated (earlier ++ name ∷ []) names
    else repeated (earlier ++ name ∷ []) names

-- DuplicateAlias, DuplicateColumn: a name equals an earlier one of the list; at the name
abbrev pub duplicate : (List ℕ → TypeRule) → List Name → List Breach
duplicate rule names = flat_map (λ name. broken true name.at (rule name.text)) (repeated [] names)
