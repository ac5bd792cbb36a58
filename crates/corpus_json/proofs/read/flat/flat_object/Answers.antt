use Rattle.std.proofs.Common.{◌≡◌, ◌+◌, List, ℕ, Some, length, get_or, refl, sym, ap, ◌∙◌, subst, arith}
use Rattle.std.proofs.lemmas.Str.{IsCharBoundary-after_ascii}
use Rattle.corpus_json.specs.Flat.{IsMemberAt, IsPastBlank}
use Rattle.corpus_json.specs.Passing.{PutsString}
use Rattle.corpus_json.proofs.Flat.{byte_within, string_of, begins, goes_on, finishes}
use Rattle.corpus_json.proofs.read.flat.flat_object.Goals as goal

pub members-init : goal.members-init
members-init c = begins c.args.text.now _ (record { text = refl; label = refl })

pub range-name-requires-clause-start_boundary : goal.range-name-requires-clause-start_boundary
range-name-requires-clause-start_boundary c some =
    let d = c.args.text.now in
    let is = subst (λ (t : List ℕ). IsMemberAt t c.members.at c.in-Some.member) c.as_bytes-bytes.ensures.value c.in-Some.ensures in
    IsCharBoundary-after_ascii d c.members.at c.utf8.text (byte_within d c.members.at 34 (omega arith) is.name.first) (omega (arith, is.name.first))

pub range-string-requires-clause-start_boundary : goal.range-string-requires-clause-start_boundary
range-string-requires-clause-start_boundary c some =
    let d = c.args.text.now in
    let m = c.in-Some.member in
    let is = subst (λ (t : List ℕ). IsMemberAt t c.members.at m) c.as_bytes-bytes.ensures.value c.in-Some.ensures in
    IsCharBoundary-after_ascii d m.from c.utf8.text (byte_within d m.from 34 (omega arith) is.string.first) (omega (arith, is.string.first))

pub members-preserved : goal.members-preserved
members-preserved c =
    let d = c.args.text.now in
    let m = c.in-Some.member in
    let at = c.members.at in
    let new = c.with_member-strings.result in
    let as_text = c.as_bytes-bytes.ensures.value in
    let is = subst (λ (t : List ℕ). IsMemberAt t at m) as_text c.in-Some.ensures in
    let puts = subst (λ (k : List ℕ). PutsString c.members.strings new k (Some (string_of d m))) c.range-name.ensures.value
    (subst (λ (s : List ℕ). PutsString c.members.strings new c.range-name.result.now (Some s)) c.range-string.ensures.value c.with_member-strings.ensures) in
    let is_comma : get_or d (m.end + 1) 0 ≡ 44 = ap (λ (t : List ℕ). get_or t (m.end + 1) 0) (sym as_text) ∙ sym c.byte_at-next.ensures ∙ c.if-next-eq44.true in
    goes_on d at c.members.strings new c.members.invariant m is puts c.past_blank-at.result is_comma
    (subst (λ (t : List ℕ). IsPastBlank t (m.end + 1 + 1) c.past_blank-at.result) as_text c.past_blank-at.ensures)

pub returns-then-past-bytes : goal.returns-then-past-bytes
returns-then-past-bytes c =
    let d = c.args.text.now in
    let m = c.in-Some.member in
    let at = c.members.at in
    let new = c.with_member-strings.result in
    let as_text = c.as_bytes-bytes.ensures.value in
    let is = subst (λ (t : List ℕ). IsMemberAt t at m) as_text c.in-Some.ensures in
    let puts = subst (λ (k : List ℕ). PutsString c.members.strings new k (Some (string_of d m))) c.range-name.ensures.value
    (subst (λ (s : List ℕ). PutsString c.members.strings new c.range-name.result.now (Some s)) c.range-string.ensures.value c.with_member-strings.ensures) in
    let brace : get_or d 0 0 ≡ 123 = ap (λ (t : List ℕ). get_or t 0 0) (sym as_text) ∙ sym c.byte_at.ensures ∙ c.if-byte_at-ne123.false in
    let is_brace : get_or d (m.end + 1) 0 ≡ 125 = ap (λ (t : List ℕ). get_or t (m.end + 1) 0) (sym as_text) ∙ sym c.byte_at-next.ensures ∙ c.if-next-eq125.true in
    finishes d at c.members.strings new c.members.invariant m is puts brace is_brace (omega (arith, c.if-past-bytes.true, ap length as_text))
