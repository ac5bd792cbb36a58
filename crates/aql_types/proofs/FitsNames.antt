-- Names without a repeated one: all differ.
use Rattle.std.proofs.Common.{◌≡◌, ◌∙◌, ◌≢◌, ℕ, Bool, true, false, if◌then◌else◌, List, [], ◌∷◌, ◌++◌, map, flat_map, All, refl, ap, arith}
use Rattle.std.specs.Str.{bytes_eq}
use Rattle.std.proofs.lemmas.Bool.{both_ways}
use Rattle.std.proofs.lemmas.List.Elements.{All-nil, All-cons}
use Rattle.std.proofs.lemmas.List.Kept.{AllPairs-cons}
use Rattle.std.proofs.lemmas.Slice.Eq.{bytes_eq-Decides}
use Rattle.row_values.specs.Outputs.{HasDistinctNames}
use Rattle.aql_syntax.specs.Trees.{Name}
use Rattle.aql_typed.specs.declared.tree.Column.{Column}
use Rattle.clause_types.specs.declared.fault.TypeRule.{TypeRule}
use Rattle.clause_types.specs.Extractions.{span_columns}
use Rattle.clause_types.specs.Faults.{broken, has_name, repeated, duplicate}
use Rattle.clause_types.specs.Items.{columns_of_items, names_of_items}
use Rattle.clause_types.specs.Typings.{ItemTyping}
use Rattle.clause_types.specs.FaultlessLaws.{not_nil}
use Rattle.aql_types.proofs.Repeats.{has_name-append}

-- the texts of names, and the names of columns
abbrev pub texts : List Name → List (List ℕ)
texts names = map (λ name. name.text) names

abbrev pub names_in : List Column → List (List ℕ)
names_in columns = map (λ c. c.name) columns

none_repeated : (rule : List ℕ → TypeRule) (names : List Name) → flat_map (λ name. broken true name.at (rule name.text)) names ≡ [] → names ≡ []
none_repeated rule [] h = refl
none_repeated rule (name ∷ names) h =
    absurd (not_nil (record { at = name.at; rule = rule name.text }) (flat_map (λ (n : Name). broken true n.at (rule n.text)) names) h)

-- the first isn't among the earlier ones, and neither are the others
head_is_new : (earlier : List Name) (name : Name) (names : List Name) → repeated earlier (name ∷ names) ≡ []
    → (has_name name.text earlier ≡ false) × (repeated (earlier ++ name ∷ []) names ≡ [])
head_is_new earlier name names h = by (has_name name.text earlier) refl h
  where
    by : (b : Bool) → has_name name.text earlier ≡ b
        → (if b then name ∷ repeated (earlier ++ name ∷ []) names else repeated (earlier ++ name ∷ []) names) ≡ []
        → (has_name name.text earlier ≡ false) × (repeated (earlier ++ name ∷ []) names ≡ [])
    by true e none = absurd (not_nil name (repeated (earlier ++ name ∷ []) names) none)
    by false e none = (e, none)

later_keep : (q : List ℕ) (earlier : List Name) (name : Name) → has_name q earlier ≡ true → has_name q (earlier ++ name ∷ []) ≡ true
later_keep q earlier name h = has_name-append q earlier name ∙ by (bytes_eq name.text q) (has_name q earlier) h
  where
    by : (b has : Bool) → has ≡ true → (if b then true else has) ≡ true
    by true has e = refl
    by false has e = e

itself : (earlier : List Name) (name : Name) → has_name name.text (earlier ++ name ∷ []) ≡ true
itself earlier name =
    has_name-append name.text earlier name
    ∙ ap (λ b. if b then true else has_name name.text earlier) ((bytes_eq-Decides name.text name.text).1 refl)

-- a text that an earlier name has is none of the later ones
all_others : (q : List ℕ) (earlier names : List Name) → repeated earlier names ≡ [] → has_name q earlier ≡ true → All (λ text. q ≢ text) (texts names)
all_others q earlier [] h has = All-nil (λ (text : List ℕ). q ≢ text)
all_others q earlier (name ∷ names) h has =
    let p = head_is_new earlier name names h in
    All-cons (λ (text : List ℕ). q ≢ text) name.text (texts names)
    (λ same. both_ways (has_name q earlier) (ap (λ (text : List ℕ). has_name text earlier) same ∙ p.0) has)
    (all_others q (earlier ++ name ∷ []) names p.1 (later_keep q earlier name has))

all_differ : (earlier names : List Name) → repeated earlier names ≡ [] → HasDistinctNames (texts names)
all_differ earlier [] h = λ i j d less within. absurd (omega (arith, within))
all_differ earlier (name ∷ names) h =
    let p = head_is_new earlier name names h in
    AllPairs-cons (λ (a : List ℕ) (b : List ℕ). a ≢ b) name.text (texts names)
    (all_others name.text (earlier ++ name ∷ []) names p.1 (itself earlier name))
    (all_differ (earlier ++ name ∷ []) names p.1)

pub no_duplicate : (rule : List ℕ → TypeRule) (names : List Name) → duplicate rule names ≡ [] → HasDistinctNames (texts names)
no_duplicate rule names h = all_differ [] names (none_repeated rule (repeated [] names) h)

-- the names of the columns that items give
pub names_of_columns : (items : List ItemTyping) → names_in (columns_of_items items) ≡ texts (names_of_items items)
names_of_columns [] = refl
names_of_columns (item ∷ items) = ap (λ rest. item.name.text ∷ rest) (names_of_columns items)

names_of_spans : (names : List Name) → names_in (span_columns names) ≡ texts names
names_of_spans [] = refl
names_of_spans (name ∷ names) = ap (λ rest. name.text ∷ rest) (names_of_spans names)

-- and of those that are found behind them
pub names_given : (items : List ItemTyping) (names : List Name)
    → names_in (columns_of_items items ++ span_columns names) ≡ texts (names_of_items items ++ names)
names_given [] names = names_of_spans names
names_given (item ∷ items) names = ap (λ rest. item.name.text ∷ rest) (names_given items names)
