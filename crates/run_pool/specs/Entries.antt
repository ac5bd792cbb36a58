-- What was handed to a pool, and what it answered, document by document.
use Rattle.std.specs.Prelude.{◌≡◌, ℕ, List, [], ◌++◌, map, length, string_bytes, Option, Some, None, option_map, Result, MatchResult}
use Rattle.span_token.specs.Documents.{Doc}
use Rattle.algebra.specs.Plans.{Parts}
use Rattle.plan_maker.specs.PlanTexts.{text_of}
use Rattle.run_pool.specs.declared.handed.Handed.{Handed}
use Rattle.run_pool.specs.Lines.{Meaning, line_from}

-- a document that was handed to a pool with a plan: the plan's text, the document's, its line, and the number of rows of
-- each output
pub record Entry : Type 0 where
  pub plan : List ℕ
  pub text : List ℕ
  pub line : List ℕ
  pub sizes : List ℕ

-- what is kept of it
abbrev pub entry_told : Handed → Entry
entry_told handed = record { plan = string_bytes handed.plan; text = string_bytes handed.text; line = handed.line.items; sizes = handed.sizes.items }

-- the entry of a document that is answered so
abbrev pub entry_of : Meaning → Parts → Doc → Entry
entry_of meant plan doc = record { plan = text_of plan; text = doc.text; line = line_from meant plan doc; sizes = map length (meant plan doc) }

-- a list, where it is told, with these entries behind it
abbrev pub with_entries : Option (List Entry) → List Entry → Option (List Entry)
with_entries told entries = option_map (λ list. list ++ entries) told

-- an empty list, where one is told
abbrev pub fresh : Option (List Entry) → Option (List Entry)
fresh told = option_map (λ list. []) told

-- the entries of a list, and none where it isn't told
abbrev pub entries_in : Option (List Entry) → List Entry
entries_in None = []
entries_in (Some list) = list

-- a part of these entries, the first ones, is behind the list
pub record AreHandedInPart (before now : Option (List Entry)) (entries : List Entry) : Type 0 where
  pub handed : List Entry
  pub others : List Entry
  pub split : entries ≡ handed ++ others
  pub told : now ≡ with_entries before handed

-- these entries are behind the list, and for want of memory a part of them
abbrev pub AreHanded : {T E : Type 0} → Option (List Entry) → Option (List Entry) → List Entry → Result T E → Type 0
AreHanded before now entries result = MatchResult result (λ _. now ≡ with_entries before entries) (λ _. AreHandedInPart before now entries)
