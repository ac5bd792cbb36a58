use Rattle.std.proofs.Common.{◌≡◌, ◌∙◌, ◌++◌, [], ◌∷◌, true, false, List, ℕ, Vec, Global, refl, ap, sym, subst, length, map, chars, arith}
use Rattle.std.proofs.lemmas.List.{map-append}
use Rattle.std.proofs.lemmas.Str.{IsCharBoundary-start}
use Rattle.span_token.specs.Extents.{Extent, extent_of}
use Rattle.span_token.specs.Leads.{IsPlace}
use Rattle.span_token.specs.Offsets.{AreBytesOf, ArePairs}
use Rattle.span_token.specs.Sweeps.{IsSwept, is_of_token}
use Rattle.span_token.specs.Tokens.{tokens_of}
use Rattle.span_token.specs.declared.classes.Class.{Class}
use Rattle.span_token.specs.declared.classes.Class.TheVariants.{Space}
use Rattle.span_token.specs.declared.offsets.TokenBytes.{TokenBytes}
use Rattle.span_token.specs.declared.span.Span.{Span}
use Rattle.span_token.specs.declared.sweep.Sweep.{Sweep}
use Rattle.span_token.proofs.OffsetLemmas.{ArePairs-none, ArePairs-append, ArePairs-one, AreOffsets-pairs}
use Rattle.span_token.proofs.SweepLemmas.{IsSwept-none, IsSwept-all, IsSwept-as, found_with}
use Rattle.span_token.proofs.decoded.decoded_tokens.Goals.{then-is_in_token+in_ok-push+in_ok-push-2, else-is_in_token}
use Rattle.span_token.proofs.decoded.decoded_tokens.Goals as goal

pub loop-offsets-init : goal.loop-offsets-init
loop-offsets-init c =
    let text = c.args.text.now in
    let start : c.new.result.begin ≡ 0 = ap (λ (s : Sweep). s.begin) c.new.ensures in
    let last : c.new.result.last ≡ Space = ap (λ (s : Sweep). s.last) c.new.ensures in
    let none : [] ≡ map extent_of c.new-spans.result.items = sym (ap (map extent_of) c.new-spans.ensures.items) in
    let first : IsPlace text 0 0 = record { passed = refl; boundary = IsCharBoundary-start text c.utf8.text } in
    record {
      point = record {
        point = first;
        inside = omega arith;
        begins = subst (λ (n : ℕ). IsPlace text n 0) (sym start) first;
        ordered = omega (arith, start);
      };
      tokens = IsSwept-as (chars text) [] _ 0 0 _ Space _ none (sym start) (sym last) (IsSwept-none (chars text));
      pairs = subst (λ (ts : List Extent). ArePairs text ts c.new-offsets.result.items) none (subst (ArePairs text []) (sym c.new-offsets.ensures.items) (ArePairs-none text));
    }

-- the tokens found so far, and their bytes
record AreFound (text : List ℕ) (spans : List Span) (offsets : List TokenBytes) (at begin : ℕ) (last : Class) : Type 0 where
  pub tokens : IsSwept (chars text) (map extent_of spans) at begin last
  pub pairs : ArePairs text (map extent_of spans) offsets

-- with those of one more stretch
found_more : (text : List ℕ) (spans all ended : List Span) (offsets bytes more : List TokenBytes) (at begin : ℕ) (last : Class) →
    all ≡ spans ++ ended → bytes ≡ offsets ++ more → IsSwept (chars text) (map extent_of spans ++ map extent_of ended) at begin last →
    ArePairs text (map extent_of spans) offsets → ArePairs text (map extent_of ended) more → AreFound text all bytes at begin last
found_more text spans all ended offsets bytes more at begin last one two known pairs new =
    let found : map extent_of all ≡ map extent_of spans ++ map extent_of ended = ap (map extent_of) one ∙ map-append extent_of spans ended in
    record {
      tokens = IsSwept-as (chars text) _ _ at begin begin last last (sym found) refl refl known;
      pairs = subst (λ (ts : List Extent). ArePairs text ts bytes) (sym found)
          (subst (ArePairs text (map extent_of spans ++ map extent_of ended)) (sym two) (ArePairs-append text _ _ _ _ pairs new));
    }

-- all tokens, and their bytes
record AreAll (text : List ℕ) (spans : List Span) (offsets : List TokenBytes) : Type 0 where
  pub tokens : map extent_of spans ≡ tokens_of (chars text)
  pub pairs : ArePairs text (map extent_of spans) offsets

-- where a token ends at the end
all_with : (text : List ℕ) (spans all : List Span) (offsets bytes : List TokenBytes) (at begin : ℕ) (last : Class) (span : Span) (one : TokenBytes) →
    all ≡ spans ++ span ∷ [] → bytes ≡ offsets ++ one ∷ [] → extent_of span ≡ record { begin = begin; end = at } → AreBytesOf text (record { begin = begin; end = at }) one →
    is_of_token last ≡ true → at ≡ length (chars text) → AreFound text spans offsets at begin last → AreAll text all bytes
all_with text spans all offsets bytes at begin last span one more longer is here in_token end h =
    let token : Extent = record { begin = begin; end = at } in
    let found : map extent_of all ≡ map extent_of spans ++ token ∷ [] =
    ap (map extent_of) more ∙ map-append extent_of spans (span ∷ []) ∙ ap (λ e. map extent_of spans ++ e ∷ []) is in
    record {
      tokens = found ∙ ap (λ b. found_with b (map extent_of spans) begin at) (sym in_token) ∙ IsSwept-all (chars text) (map extent_of spans) at begin last end h.tokens;
      pairs = subst (λ (ts : List Extent). ArePairs text ts bytes) (sym found)
          (subst (ArePairs text (map extent_of spans ++ token ∷ [])) (sym longer) (ArePairs-append text _ _ _ _ h.pairs (ArePairs-one text token one here)));
    }

-- where none does
all_without : (text : List ℕ) (spans all : List Span) (offsets bytes : List TokenBytes) (at begin : ℕ) (last : Class) →
    all ≡ spans → bytes ≡ offsets → is_of_token last ≡ false → at ≡ length (chars text) → AreFound text spans offsets at begin last → AreAll text all bytes
all_without text spans all offsets bytes at begin last same alike in_token end h = record {
  tokens = ap (map extent_of) same ∙ ap (λ b. found_with b (map extent_of spans) begin at) (sym in_token) ∙ IsSwept-all (chars text) (map extent_of spans) at begin last end h.tokens;
  pairs = subst (λ (xs : List Span). ArePairs text (map extent_of xs) bytes) (sym same) (subst (ArePairs text (map extent_of spans)) (sym alike) h.pairs);
}

pub loop-offsets-preserved : goal.loop-offsets-preserved
loop-offsets-preserved c =
    let stretch = c.sweep_stretch-stretch in
    let so_far = c.loop-offsets in
    let more = found_more c.args.text.now so_far.spans.items _ _ so_far.offsets.items _ _ stretch.result.behind.at.place stretch.result.behind.sweep.begin stretch.result.behind.sweep.last
    c.in_ok-extend_from_slice.ensures.items c.in_ok-extend_from_slice-2.ensures.items (stretch.ensures.tokens _ so_far.invariant.tokens) so_far.invariant.pairs stretch.ensures.pairs in
    record { point = stretch.ensures.point; tokens = more.tokens; pairs = more.pairs }

all_found : (c : goal.Joined-is_in_token) → AreAll c.args.text.now c.if-is_in_token.spans.items c.if-is_in_token.offsets.items
all_found c =
    let text = c.args.text.now in
    let stretch = c.sweep_stretch-stretch in
    let behind = stretch.result.behind in
    let so_far = c.loop-offsets in
    let spans = c.extend_from_slice.new.self.items in
    let offsets = c.extend_from_slice-in-loop-offsets.new.self.items in
    let found : AreFound text spans offsets behind.at.place behind.sweep.begin behind.sweep.last =
    found_more text so_far.spans.items spans _ so_far.offsets.items offsets _ behind.at.place behind.sweep.begin behind.sweep.last
    c.in_ok-extend_from_slice.ensures.items c.in_ok-extend_from_slice-2.ensures.items (stretch.ensures.tokens _ so_far.invariant.tokens) so_far.invariant.pairs stretch.ensures.pairs in
    let end = stretch.ensures.last c.if-stretch.true in
    elim c.if-is_in_token.branch [
      | then-is_in_token+in_ok-push+in_ok-push-2 w ↦
          let here = subst (AreBytesOf text (record { begin = behind.sweep.begin; end = behind.at.place })) (sym w.bytes.ensures) (record { begins = stretch.ensures.point.begins; ends = stretch.ensures.point.point }) in
          all_with text spans _ offsets _ behind.at.place behind.sweep.begin behind.sweep.last w.span.result w.bytes.result
          (ap (λ (v : Vec Span Global). v.items) w.spans-is ∙ w.in_ok-push.ensures.items)
          (ap (λ (v : Vec TokenBytes Global). v.items) w.offsets-is ∙ w.in_ok-push-2.ensures.items)
          w.span.ensures here (sym c.is_in_token.ensures ∙ w.if-is_in_token.true) end found
      | else-is_in_token w ↦
          all_without text spans _ offsets _ behind.at.place behind.sweep.begin behind.sweep.last
          (ap (λ (v : Vec Span Global). v.items) w.spans-is) (ap (λ (v : Vec TokenBytes Global). v.items) w.offsets-is)
          (sym c.is_in_token.ensures ∙ w.if-is_in_token.false) end found
    ]

pub returns-clause-tokens : goal.returns-clause-tokens
returns-clause-tokens c = (all_found c).tokens

pub returns-clause-bytes : goal.returns-clause-bytes
returns-clause-bytes c = AreOffsets-pairs c.args.text.now _ _ (all_found c).tokens (all_found c).pairs
