-- The grammar's loops under serde_json's conversion, a turn at a time, and the object that a whole line is.
use Rattle.std.proofs.Common.{◌≡◌, ℕ, zero, suc, ◌-◌, ◌<◌, ◌≤◌, List, [], ◌∷◌, length, true, false, Option, Some, None, is_some, option_map, option_and_then, refl, sym, ap, ◌∙◌, arith}
use Rattle.std.proofs.lemmas.Bool.{false≢true}
use Rattle.std.proofs.lemmas.Slice.Eq.{bytes_eq-Decides}
use Rattle.std.specs.Str.{bytes_eq}
use Rattle.json.specs.Token.{Token}
use Rattle.json.specs.Json as json
use Rattle.json.specs.Json.{Parse, parse_map, after_end_array, read_key, items_step, items, members, value, if_last}
use Rattle.json.proofs.Grammar.{items_end, items_more, members_end, members_no_key, members_more, left-parse_map, value_is, value-begin_array, value-begin_object}
use Rattle.serde_json.specs.Data.{Num, Data, number, array, object, item, Members, no_members, put}
use Rattle.serde_json.specs.Find.{get_member, as_str}
use Rattle.serde_json.proofs.Views.{get_member-put, get_member-put_other}
use Rattle.serde_json.specs.Read.{number_of, of_json, of_items, of_members, converted}
use Rattle.span_token.specs.Documents.{Doc}
use Rattle.corpus_json.specs.Documents.{document_of}
use Rattle.corpus_json.specs.Passing.{members_at, rest_of, whole_value, object_alone}

-- ---- what was read, under a conversion

abbrev pick : {A : Type 0} → A → Option A → A
pick d None = d
pick d (Some a) = a

found : {A B : Type 0} (a : A) (r s : List Token) (x : Option B) (b : B) → option_map {U = B × List Token} (λ y. (y, r)) x ≡ Some (b, s) → (r ≡ s) × (x ≡ Some b)
found a r s None b e = absurd (cc)
found a r s (Some y) b e = let same = ap (pick (y, r)) e in (ap (λ p. p.1) same, ap (λ p. Some p.0) same)

converted_some : {A B : Type 0} (f : A → Option B) (o : Option (A × List Token)) (b : B) (r : List Token) → converted f o ≡ Some (b, r) → (a : A) × (o ≡ Some (a, r)) × (f a ≡ Some b)
converted_some f None b r e = absurd (cc)
converted_some f (Some p) b r e = let both = found p.0 p.1 r (f p.0) b e in (p.0, ap (λ s. Some (p.0, s)) both.0, both.1)

refused : {B : Type 0} (r : List Token) (x : Option B) → option_map {U = B × List Token} (λ y. (y, r)) x ≡ None → x ≡ None
refused r None e = refl
refused r (Some y) e = absurd (cc)

twice : {A B : Type 0} (g : A → B) (r : List Token) (x : Option A) → option_map (λ b. (b, r)) (option_map g x) ≡ parse_map g (option_map (λ a. (a, r)) x)
twice g r None = refl
twice g r (Some a) = refl

pub converted-array : (o : Option (json.Items × List Token)) → converted of_json (parse_map json.array o) ≡ parse_map array (converted of_items o)
converted-array None = refl
converted-array (Some p) = twice array p.1 (of_items p.0)

pub converted-object : (o : Option (json.Members × List Token)) → converted of_json (parse_map json.object o) ≡ parse_map object (converted (λ ms. of_members ms no_members) o)
converted-object None = refl
converted-object (Some p) = twice object p.1 (of_members p.0 no_members)

with_item : (j : json.Json) (d : Data) → of_json j ≡ Some d → (o : Option (json.Items × List Token)) → converted of_items (parse_map (json.item j) o) ≡ parse_map (item d) (converted of_items o)
with_item j d e None = refl
with_item j d e (Some p) = rw e (twice (item d) p.1 (of_items p.0))

without_item : (j : json.Json) → of_json j ≡ None → (o : Option (json.Items × List Token)) → converted of_items (parse_map (json.item j) o) ≡ None
without_item j e None = refl
without_item j e (Some p) = rw e

with_member : (k : List ℕ) (j : json.Json) (d : Data) (old : Members) → of_json j ≡ Some d → (o : Option (json.Members × List Token))
    → converted (λ ms. of_members ms old) (parse_map (json.member k j) o) ≡ converted (λ ms. of_members ms (put k d old)) o
with_member k j d old e None = refl
with_member k j d old e (Some p) = rw e

without_member : (k : List ℕ) (j : json.Json) (old : Members) → of_json j ≡ None → (o : Option (json.Members × List Token)) → converted (λ ms. of_members ms old) (parse_map (json.member k j) o) ≡ None
without_member k j old e None = refl
without_member k j old e (Some p) = rw e

-- ---- a turn of the loops

module _ (p : Parse json.Json) where
  pub item_passed : (n : ℕ) (ts r : List Token) (d : Data) → 0 < n → after_end_array ts ≡ None → converted of_json (p ts) ≡ Some (d, r)
      → rest_of (converted of_items (items p n ts)) ≡ rest_of (converted of_items (items p (n - 1) r))
  item_passed n ts r d some going e =
      let j = converted_some of_json (p ts) d r e in
      ap (λ o. rest_of (converted of_items o)) (items_more p n ts r j.0 some going j.1) ∙ ap rest_of (with_item j.0 d j.2 (items p (n - 1) r)) ∙ left-parse_map (item d) (converted of_items (items p (n - 1) r))

  no_item : (more : Parse json.Items) (o : Option (json.Json × List Token)) → converted of_json o ≡ None → converted of_items (option_and_then (λ q. parse_map (json.item q.0) (more q.1)) o) ≡ None
  no_item more None e = refl
  no_item more (Some q) e = without_item q.0 (refused q.1 (of_json q.0) e) (more q.1)

  pub item_refused : (n : ℕ) (ts : List Token) → after_end_array ts ≡ None → converted of_json (p ts) ≡ None → converted of_items (items p n ts) ≡ None
  unfolding items
  item_refused zero ts going e = refl
  item_refused (suc n) ts going e = ap (λ o. converted of_items (items_step p (items p n) ts o)) going ∙ no_item (items p n) (p ts) e

  pub items_over : (n : ℕ) (ts r : List Token) → length ts ≤ n → after_end_array ts ≡ Some r → rest_of (converted of_items (items p n ts)) ≡ Some r
  items_over n ts r enough e = ap (λ o. rest_of (converted of_items o)) (items_end p n ts r enough e)

  module _ (old : Members) where
    pub member_passed : (n : ℕ) (k : List ℕ) (ts s r : List Token) (d : Data) → 0 < n → read_key ts ≡ Some (Some k, s) → converted of_json (p s) ≡ Some (d, r)
        → converted (λ ms. of_members ms old) (members p n ts) ≡ converted (λ ms. of_members ms (put k d old)) (members p (n - 1) r)
    member_passed n k ts s r d some key e =
        let j = converted_some of_json (p s) d r e in
        ap (converted (λ ms. of_members ms old)) (members_more p n k ts s r j.0 some key j.1) ∙ with_member k j.0 d old j.2 (members p (n - 1) r)

    no_member : (k : List ℕ) (more : Parse json.Members) (o : Option (json.Json × List Token)) → converted of_json o ≡ None
        → converted (λ ms. of_members ms old) (option_and_then (λ q. parse_map (json.member k q.0) (more q.1)) o) ≡ None
    no_member k more None e = refl
    no_member k more (Some q) e = without_member k q.0 old (refused q.1 (of_json q.0) e) (more q.1)

    pub member_refused : (n : ℕ) (k : List ℕ) (ts s : List Token) → read_key ts ≡ Some (Some k, s) → converted of_json (p s) ≡ None → converted (λ ms. of_members ms old) (members p n ts) ≡ None
    unfolding members
    member_refused zero k ts s key e = refl
    member_refused (suc n) k ts s key e = rw key (no_member k (members p n) (p s) e)

    pub key_refused : (n : ℕ) (ts : List Token) → read_key ts ≡ None → converted (λ ms. of_members ms old) (members p n ts) ≡ None
    key_refused n ts e = ap (converted (λ ms. of_members ms old)) (members_no_key p n ts e)

    pub members_over : (n : ℕ) (ts r : List Token) → length ts ≤ n → read_key ts ≡ Some (None, r) → converted (λ ms. of_members ms old) (members p n ts) ≡ Some (old, r)
    members_over n ts r enough e = ap (converted (λ ms. of_members ms old)) (members_end p n ts r enough e)

-- ---- a number

pub in_range : (x : Option Num) → is_some x ≡ true → (n : Num) × (x ≡ Some n)
in_range None e = absurd (cc)
in_range (Some n) e = (n, refl)

pub out_of_range : (x : Option Num) → is_some x ≡ false → x ≡ None
out_of_range None e = refl
out_of_range (Some n) e = absurd (cc)

-- ---- a member's string

-- where the member that is put has the name that is looked for
pub put_here : (k n : List ℕ) (string : Option (List ℕ)) (d : Data) (ms : Members) → bytes_eq n k ≡ true → string ≡ as_str d → string ≡ option_and_then as_str (get_member k (put n d ms))
put_here k n string d ms same is =
    is ∙ sym (ap (option_and_then as_str) (ap (λ m. get_member k (put m d ms)) ((bytes_eq-Decides n k).0 same) ∙ get_member-put k d ms))

-- where it has another
pub put_elsewhere : (k n : List ℕ) (string : Option (List ℕ)) (d : Data) (ms : Members) → bytes_eq n k ≡ false → string ≡ option_and_then as_str (get_member k ms) → string ≡ option_and_then as_str (get_member k (put n d ms))
put_elsewhere k n string d ms other is =
    is ∙ sym (ap (option_and_then as_str) (get_member-put_other k n d ms (λ same. false≢true (sym other ∙ (bytes_eq-Decides n k).1 (sym same)))))

pub other_name : (n k l : List ℕ) → bytes_eq n k ≡ true → bytes_eq k l ≡ false → bytes_eq n l ≡ false
other_name n k l same other = ap (λ m. bytes_eq m l) ((bytes_eq-Decides n k).0 same) ∙ other

-- ---- the whole line

alone : (r : List Token) (t : Token) (x : Option Members) → None ≡ object_alone (option_map (λ ms. (ms, t ∷ r)) x)
alone r t None = refl
alone r t (Some ms) = refl

last : (x : Option Members) → option_map object x ≡ object_alone (option_map (λ ms. (ms, [])) x)
last None = refl
last (Some ms) = refl

object_last : (o : Option (json.Members × List Token)) → option_and_then of_json (option_and_then (λ p. if_last p.0 p.1) (parse_map json.object o)) ≡ object_alone (converted (λ ms. of_members ms no_members) o)
object_last None = refl
object_last (Some (ms, [])) = last (of_members ms no_members)
object_last (Some (ms, t ∷ r)) = alone r t (of_members ms no_members)

-- all tokens are an object where its members end with them
pub whole_object : (ts : List Token) → whole_value (Token.begin_object ∷ ts) ≡ object_alone (members_at 126 ts)
whole_object ts = ap (λ o. option_and_then of_json (option_and_then (λ p. if_last p.0 p.1) o)) (value-begin_object 127 ts (omega arith)) ∙ object_last (members (value 126) (length ts) ts)

abbrev document_at : Option (json.Json × List Token) → Option Doc
document_at o = option_and_then document_of (option_and_then of_json (option_and_then (λ p. if_last p.0 p.1) o))

pub nothing_whole : option_and_then document_of (whole_value []) ≡ None
nothing_whole = ap document_at (value_is 127 [])

none_of_other : (j : json.Json) → option_and_then document_of (of_json j) ≡ None → (ts : List Token) → document_at (Some (j, ts)) ≡ None
none_of_other j none [] = none
none_of_other j none (t ∷ ts) = refl

no_document_of : {A : Type 0} (f : A → Data) → ((a : A) → document_of (f a) ≡ None) → (x : Option A) → option_and_then document_of (option_map f x) ≡ None
no_document_of f none None = refl
no_document_of f none (Some a) = none a

array_whole : (o : Option (json.Items × List Token)) → document_at (parse_map json.array o) ≡ None
array_whole None = refl
array_whole (Some (js, ts)) = none_of_other (json.array js) (no_document_of array (λ ds. refl) (of_items js)) ts

-- tokens that begin with no object are no document
pub other_whole : (t : Token) (ts : List Token) → (t ≡ Token.begin_object → ⊥) → option_and_then document_of (whole_value (t ∷ ts)) ≡ None
other_whole Token.begin_object ts other = absurd (other refl)
other_whole Token.end_object ts other = ap document_at (value_is 127 _)
other_whole Token.begin_array ts other = ap document_at (value-begin_array 127 ts (omega arith)) ∙ array_whole (items (value 126) (length ts) ts)
other_whole Token.end_array ts other = ap document_at (value_is 127 _)
other_whole (Token.key s) ts other = ap document_at (value_is 127 _)
other_whole (Token.string s) ts other = ap document_at (value_is 127 _) ∙ none_of_other (json.string s) refl ts
other_whole (Token.number s) ts other = ap document_at (value_is 127 _) ∙ none_of_other (json.number s) (no_document_of number (λ n. refl) (number_of s)) ts
other_whole (Token.boolean b) ts other = ap document_at (value_is 127 _) ∙ none_of_other (json.boolean b) refl ts
other_whole Token.null ts other = ap document_at (value_is 127 _) ∙ none_of_other json.null refl ts
other_whole Token.bad ts other = ap document_at (value_is 127 _)
