use Rattle.std.proofs.Common.{◌≡◌, ◌-◌, ◌<◌, [], ◌∷◌, length, Some, None, Option, option_map, refl, sym, ap, ap₂, ◌∙◌, arith}
use Rattle.json.specs.Token.{Token}
use Rattle.json.specs.Json.{parse_map, after_end_array, read_key, items, members, value}
use Rattle.json.specs.Reads.{token_of}
use Rattle.json.proofs.Grammar.{left_some, left_none, value_is, value-begin_array, value-begin_object, read_key-shorter}
use Rattle.serde_json.specs.Data.{Num, null, boolean, number, string, array, object, no_members, put}
use Rattle.serde_json.specs.Read.{number_of, of_json, converted}
use Rattle.corpus_json.specs.Passing.{value_at, items_at, members_at, rest_of}
use Rattle.corpus_json.proofs.Passing.{converted-array, converted-object, item_passed, item_refused, items_over, member_passed, member_refused, key_refused, members_over, in_range, out_of_range}
use Rattle.corpus_json.proofs.read.members.+pass.Goals as goal

pub pass_value-returns-in_err-token-clause-value : goal.pass_value-returns-in_err-token-clause-value
pass_value-returns-in_err-token-clause-value t c =
    let empty : c.args.reader.now ≡ [] = grind arith in
    let none : value_at c.args.depth c.args.reader.now ≡ None = ap (value_at c.args.depth) empty ∙ ap (converted of_json) (value_is c.args.depth []) in
    grind (arith, none)

pub pass_value-returns-in-String-clause-value : goal.pass_value-returns-in-String-clause-value
pass_value-returns-in-String-clause-value t c =
    let first : c.args.reader.now ≡ token_of c.in_ok-token.token ∷ c.next.new.self = grind arith in
    let is : c.args.reader.now ≡ Token.string c.in-String.text.now ∷ c.next.new.self = first ∙ ap (λ k. token_of k ∷ c.next.new.self) c.in-String.is in
    record {
      value = string c.in-String.text.now;
      read = ap (value_at c.args.depth) is ∙ ap (converted of_json) (value_is c.args.depth _);
      string_is = refl;
    }

pub pass_value-returns-in-Bool-clause-value : goal.pass_value-returns-in-Bool-clause-value
pass_value-returns-in-Bool-clause-value t c =
    let first : c.args.reader.now ≡ token_of c.in_ok-token.token ∷ c.next.new.self = grind arith in
    let is : c.args.reader.now ≡ Token.boolean c.in-Bool.field-0 ∷ c.next.new.self = first ∙ ap (λ k. token_of k ∷ c.next.new.self) c.in-Bool.is in
    record {
      value = boolean c.in-Bool.field-0;
      read = ap (value_at c.args.depth) is ∙ ap (converted of_json) (value_is c.args.depth _);
      string_is = refl;
    }

pub pass_value-returns-in-Null-clause-value : goal.pass_value-returns-in-Null-clause-value
pass_value-returns-in-Null-clause-value t c =
    let first : c.args.reader.now ≡ token_of c.in_ok-token.token ∷ c.next.new.self = grind arith in
    let is : c.args.reader.now ≡ Token.null ∷ c.next.new.self = first ∙ ap (λ k. token_of k ∷ c.next.new.self) c.in-Null.is in
    record {
      value = null;
      read = ap (value_at c.args.depth) is ∙ ap (converted of_json) (value_is c.args.depth _);
      string_is = refl;
    }

pub pass_value-returns-then-is_in_range-clause-value : goal.pass_value-returns-then-is_in_range-clause-value
pass_value-returns-then-is_in_range-clause-value t c =
    let first : c.args.reader.now ≡ token_of c.in_ok-token.token ∷ c.next.new.self = grind arith in
    let is : c.args.reader.now ≡ Token.number c.in-Number.text.now ∷ c.next.new.self = first ∙ ap (λ k. token_of k ∷ c.next.new.self) c.in-Number.is in
    let there = in_range (number_of c.in-Number.text.now) (sym c.is_in_range.ensures ∙ c.if-is_in_range.true) in
    record {
      value = number there.0;
      read = ap (value_at c.args.depth) is ∙ ap (converted of_json) (value_is c.args.depth _) ∙ ap (λ (x : Option Num). option_map (λ d. (d, c.next.new.self)) (option_map number x)) there.1;
      string_is = refl;
    }

pub pass_value-returns-else-is_in_range-clause-value : goal.pass_value-returns-else-is_in_range-clause-value
pass_value-returns-else-is_in_range-clause-value t c =
    let first : c.args.reader.now ≡ token_of c.in_ok-token.token ∷ c.next.new.self = grind arith in
    let is : c.args.reader.now ≡ Token.number c.in-Number.text.now ∷ c.next.new.self = first ∙ ap (λ k. token_of k ∷ c.next.new.self) c.in-Number.is in
    ap (value_at c.args.depth) is ∙ ap (converted of_json) (value_is c.args.depth _) ∙ rw (out_of_range (number_of c.in-Number.text.now) (sym c.is_in_range.ensures ∙ c.if-is_in_range.false))

pub pass_value-returns-in-EndObject-clause-value : goal.pass_value-returns-in-EndObject-clause-value
pass_value-returns-in-EndObject-clause-value t c =
    let first : c.args.reader.now ≡ token_of c.in_ok-token.token ∷ c.next.new.self = grind arith in
    let none : value c.args.depth c.args.reader.now ≡ None = rw (value_is c.args.depth c.args.reader.now, first) (grind arith) in
    ap (converted of_json) none

pub pass_value-returns-then-depth-eq0-clause-value : goal.pass_value-returns-then-depth-eq0-clause-value
unfolding value
pass_value-returns-then-depth-eq0-clause-value t c =
    let first : c.args.reader.now ≡ token_of c.in_ok-token.token ∷ c.next.new.self = grind arith in
    let none : c.args.depth ≡ 0 = omega arith in
    ap₂ value_at none (first ∙ ap (λ k. token_of k ∷ c.next.new.self) c.in-BeginArray.is)

pub pass_value-returns-then-depth-eq0-2-clause-value : goal.pass_value-returns-then-depth-eq0-2-clause-value
unfolding value
pass_value-returns-then-depth-eq0-2-clause-value t c =
    let first : c.args.reader.now ≡ token_of c.in_ok-token.token ∷ c.next.new.self = grind arith in
    let none : c.args.depth ≡ 0 = omega arith in
    ap₂ value_at none (first ∙ ap (λ k. token_of k ∷ c.next.new.self) c.in-BeginObject.is)

pub pass_value-returns-in_err-pass_items-in-BeginArray-clause-value : goal.pass_value-returns-in_err-pass_items-in-BeginArray-clause-value
pass_value-returns-in_err-pass_items-in-BeginArray-clause-value t c =
    let first : c.args.reader.now ≡ token_of c.in_ok-token.token ∷ c.next.new.self = grind arith in
    let opened : value_at c.args.depth c.args.reader.now ≡ parse_map array (items_at (c.args.depth - 1) c.next.new.self) =
    ap (value_at c.args.depth) (first ∙ ap (λ k. token_of k ∷ c.next.new.self) c.in-BeginArray.is) ∙ ap (converted of_json) (value-begin_array c.args.depth c.next.new.self (omega arith)) ∙ converted-array (items (value (c.args.depth - 1)) (length c.next.new.self) c.next.new.self) in
    let none : value_at c.args.depth c.args.reader.now ≡ None = opened ∙ ap (parse_map array) (left_none _ c.in_err-pass_items-in-BeginArray.ensures.value) in
    grind (arith, none)

pub pass_value-returns-in_ok-pass_items-in-BeginArray-clause-value : goal.pass_value-returns-in_ok-pass_items-in-BeginArray-clause-value
pass_value-returns-in_ok-pass_items-in-BeginArray-clause-value t c =
    let first : c.args.reader.now ≡ token_of c.in_ok-token.token ∷ c.next.new.self = grind arith in
    let opened : value_at c.args.depth c.args.reader.now ≡ parse_map array (items_at (c.args.depth - 1) c.next.new.self) =
    ap (value_at c.args.depth) (first ∙ ap (λ k. token_of k ∷ c.next.new.self) c.in-BeginArray.is) ∙ ap (converted of_json) (value-begin_array c.args.depth c.next.new.self (omega arith)) ∙ converted-array (items (value (c.args.depth - 1)) (length c.next.new.self) c.next.new.self) in
    let found = left_some _ _ c.in_ok-pass_items-in-BeginArray.ensures.value in
    record {
      value = array found.0;
      read = opened ∙ ap (parse_map array) found.1;
      string_is = refl;
    }

pub pass_value-returns-in_err-pass_members-in-BeginObject-clause-value : goal.pass_value-returns-in_err-pass_members-in-BeginObject-clause-value
pass_value-returns-in_err-pass_members-in-BeginObject-clause-value t c =
    let first : c.args.reader.now ≡ token_of c.in_ok-token.token ∷ c.next.new.self = grind arith in
    let opened : value_at c.args.depth c.args.reader.now ≡ parse_map object (members_at (c.args.depth - 1) c.next.new.self) =
    ap (value_at c.args.depth) (first ∙ ap (λ k. token_of k ∷ c.next.new.self) c.in-BeginObject.is) ∙ ap (converted of_json) (value-begin_object c.args.depth c.next.new.self (omega arith)) ∙ converted-object (members (value (c.args.depth - 1)) (length c.next.new.self) c.next.new.self) in
    let none : value_at c.args.depth c.args.reader.now ≡ None = opened ∙ ap (parse_map object) c.in_err-pass_members-in-BeginObject.ensures.value in
    grind (arith, none)

pub pass_value-returns-in_ok-pass_members-in-BeginObject-clause-value : goal.pass_value-returns-in_ok-pass_members-in-BeginObject-clause-value
pass_value-returns-in_ok-pass_members-in-BeginObject-clause-value t c =
    let first : c.args.reader.now ≡ token_of c.in_ok-token.token ∷ c.next.new.self = grind arith in
    let opened : value_at c.args.depth c.args.reader.now ≡ parse_map object (members_at (c.args.depth - 1) c.next.new.self) =
    ap (value_at c.args.depth) (first ∙ ap (λ k. token_of k ∷ c.next.new.self) c.in-BeginObject.is) ∙ ap (converted of_json) (value-begin_object c.args.depth c.next.new.self (omega arith)) ∙ converted-object (members (value (c.args.depth - 1)) (length c.next.new.self) c.next.new.self) in
    let found = c.in_ok-pass_members-in-BeginObject.ensures.value in
    record {
      value = object found.members;
      read = opened ∙ ap (parse_map object) found.read;
      string_is = refl;
    }

pub pass_items-items-init : goal.pass_items-items-init
pass_items-items-init t c = (length c.args.reader.now, omega arith, refl, omega arith)

pub pass_items-items-preserved : goal.pass_items-items-preserved
pass_items-items-preserved t c =
    let p = value c.args.depth in
    let l = c.items in
    let n = l.invariant.0 in
    let going : (after_end_array l.reader ≡ None) × (c.take_end_array.new.self ≡ l.reader) = grind arith in
    let done = c.in_ok-pass_value.ensures in
    let r = c.pass_value.new.reader in
    let less : length r < length l.reader = rw (← going.1) done.shorter in
    let read : value_at c.args.depth l.reader ≡ Some (done.value.value, r) = rw (← going.1) done.value.read in
    (n - 1, omega (arith, l.invariant.1), l.invariant.2 ∙ item_passed p n l.reader r done.value.value (omega (arith, l.invariant.1)) going.0 read, omega (arith, l.invariant.3))

pub pass_items-returns-in_err-pass_value-clause-value : goal.pass_items-returns-in_err-pass_value-clause-value
pass_items-returns-in_err-pass_value-clause-value t c =
    let p = value c.args.depth in
    let l = c.items in
    let n = l.invariant.0 in
    let going : (after_end_array l.reader ≡ None) × (c.take_end_array.new.self ≡ l.reader) = grind arith in
    let none = l.invariant.2 ∙ ap rest_of (item_refused p n l.reader going.0 (rw (← going.1) c.in_err-pass_value.ensures.value)) in
    grind (arith, none)

pub pass_items-returns-clause-value : goal.pass_items-returns-clause-value
pass_items-returns-clause-value t c =
    let l = c.items in
    l.invariant.2 ∙ items_over (value c.args.depth) l.invariant.0 l.reader c.take_end_array.new.self l.invariant.1 (grind arith)

pub pass_members-members-init : goal.pass_members-members-init
pass_members-members-init t c = (length c.args.reader.now, no_members, omega arith, refl, record { text = refl; label = refl }, omega arith)

pub pass_members-returns-in_err-name-clause-value : goal.pass_members-returns-in_err-name-clause-value
pass_members-returns-in_err-name-clause-value t c =
    let l = c.members in
    let none = l.invariant.3 ∙ key_refused (value c.args.depth) l.invariant.1 l.invariant.0 l.reader c.in_err-name.ensures.value in
    grind (arith, none)

pub pass_members-returns-in_err-string-clause-value : goal.pass_members-returns-in_err-string-clause-value
pass_members-returns-in_err-string-clause-value t c =
    let l = c.members in
    let k = c.in-Some.name.now in
    let s = c.next_key.new.self in
    let named : read_key l.reader ≡ Some (Some k, s) = grind arith in
    let none = l.invariant.3 ∙ member_refused (value c.args.depth) l.invariant.1 l.invariant.0 k l.reader s named c.in_err-string.ensures.value in
    grind (arith, none)

pub pass_members-members-preserved : goal.pass_members-members-preserved
pass_members-members-preserved t c =
    let p = value c.args.depth in
    let l = c.members in
    let n = l.invariant.0 in
    let k = c.in-Some.name.now in
    let s = c.next_key.new.self in
    let named : read_key l.reader ≡ Some (Some k, s) = grind arith in
    let done = c.in_ok-string.ensures in
    let d = done.value.value in
    let less = read_key-shorter l.reader (Some k) s named in
    let lesser = done.shorter in (
      n - 1,
      put k d l.invariant.1,
      omega (arith, l.invariant.2),
      l.invariant.3 ∙ member_passed p l.invariant.1 n k l.reader s c.pass_value.new.reader d (omega (arith, l.invariant.2)) named done.value.read,
      c.with_member-strings.ensures d l.invariant.1 done.value.string_is l.invariant.4,
      omega (arith, l.invariant.5),
    )

pub pass_members-returns-clause-value : goal.pass_members-returns-clause-value
pass_members-returns-clause-value t c =
    let l = c.members in
    record {
      members = l.invariant.1;
      read = l.invariant.3 ∙ members_over (value c.args.depth) l.invariant.1 l.invariant.0 l.reader c.next_key.new.self l.invariant.2 (grind arith);
      strings_are = l.invariant.4;
    }
