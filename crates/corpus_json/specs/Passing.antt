-- The values of a line, read without being kept. Only private clauses cite this.
use Rattle.std.specs.Prelude.{◌≡◌, ℕ, List, [], ◌∷◌, length, Option, Some, None, option_map, option_and_then, codes}
use Rattle.json.specs.Token.{Token}
use Rattle.json.specs.Json as json
use Rattle.serde_json.specs.Data.{Data, object, Items, Members, no_members, put}
use Rattle.serde_json.specs.Find.{get_member, as_str}
use Rattle.serde_json.specs.Read.{of_json, of_items, of_members, converted, max_depth}
use Rattle.corpus_json.specs.declared.read.members.Strings.{Strings}

-- what serde_json reads at the head of the tokens, and the tokens after it: a value, the items of an array, or the members of an object
abbrev pub value_at : ℕ → List Token → Option (Data × List Token)
value_at depth tokens = converted of_json (json.value depth tokens)

abbrev pub items_at : ℕ → List Token → Option (Items × List Token)
items_at depth tokens = converted of_items (json.items (json.value depth) (length tokens) tokens)

abbrev pub members_at : ℕ → List Token → Option (Members × List Token)
members_at depth tokens = converted (λ ms. of_members ms no_members) (json.members (json.value depth) (length tokens) tokens)

-- the tokens after it alone
abbrev pub rest_of : {A : Type 0} → Option (A × List Token) → Option (List Token)
rest_of read = option_map (λ p. p.1) read

-- the value that all tokens together are
abbrev pub whole_value : List Token → Option Data
whole_value tokens = option_and_then of_json (option_and_then (λ p. json.if_last p.0 p.1) (json.value max_depth tokens))

-- the object of the members that were read, where no token is left
abbrev pub if_none_left : Members → List Token → Option Data
if_none_left ms [] = Some (object ms)
if_none_left ms (token ∷ tokens) = None

abbrev pub object_alone : Option (Members × List Token) → Option Data
object_alone read = option_and_then (λ p. if_none_left p.0 p.1) read

-- of the members found, the strings of these two names
pub record AreStrings (strings : Strings) (found : Members) : Type 0 where
  pub text : option_map (λ text. text.now) strings.text ≡ option_and_then as_str (get_member (codes "text") found)
  pub label : option_map (λ label. label.now) strings.label ≡ option_and_then as_str (get_member (codes "label") found)

-- one more member is put
abbrev pub PutsString : Strings → Strings → List ℕ → Option (List ℕ) → Type 0
PutsString before now name string = (value : Data) (found : Members) → string ≡ as_str value → AreStrings before found → AreStrings now (put name value found)

-- a value was passed, which was this string or none
pub record PassesValue (depth : ℕ) (before : List Token) (string : Option (List ℕ)) (now : List Token) : Type 0 where
  pub value : Data
  pub read : value_at depth before ≡ Some (value, now)
  pub string_is : string ≡ as_str value

-- the members of an object were passed, with its brace
pub record PassesMembers (depth : ℕ) (before : List Token) (strings : Strings) (now : List Token) : Type 0 where
  pub members : Members
  pub read : members_at depth before ≡ Some (members, now)
  pub strings_are : AreStrings strings members
