-- One character on in a text.
use Rattle.std.proofs.Common.{◌≡◌, ◌<◌, ◌+◌, ◌∙◌, ℕ, List, ◌++◌, length, take, drop, get_or, sym, ap, ap₂, arith, IsUtf8, chars}
use Rattle.std.specs.Char.{len_utf8}
use Rattle.std.proofs.Math.Seq.{take-add}
use Rattle.std.proofs.lemmas.List.{take_all, take_at, length-drop, get_or-drop}
use Rattle.std.proofs.lemmas.Str.{IsUtf8-drop, IsCharBoundary-past_char, cons_from_encodes, length-encode}
use lib.Utf8.{encode}
use Rattle.span_token.specs.Leads.{leads, IsPlace}
use Rattle.span_token.proofs.LeadsLemmas.{leads-append, leads-chars, leads-encode}
use Rattle.span_token.proofs.PlaceLemmas.{drop_to_place}

-- at a place where the character `c` stands
pub record IsAtChar (bs : List ℕ) (n i c : ℕ) : Type 0 where
  pub there : n < length (chars bs)
  pub char : get_or (chars bs) n 0 ≡ c
  pub next : IsPlace bs (n + 1) (i + len_utf8 c)

pub at_char : (bs rest : List ℕ) (n i c : ℕ) → IsUtf8 bs → IsPlace bs n i → drop i bs ≡ encode c ++ rest → IsAtChar bs n i c
at_char bs rest n i c u p split =
    let cons = cons_from_encodes (drop n (chars bs)) rest c (sym (drop_to_place bs n i u p) ∙ split) in
    let zero : n + 0 ≡ n = omega arith in
    let front : take (len_utf8 c) (drop i bs) ≡ encode c = ap (take (len_utf8 c)) split ∙ take_at (encode c) rest (len_utf8 c) (length-encode c) in
    record {
      there = omega (arith, ap length cons.1, length-drop n (chars bs));
      char = ap (λ k. get_or (chars bs) k 0) (sym zero) ∙ sym (get_or-drop n (chars bs) 0 0) ∙ ap (λ xs. get_or xs 0 0) cons.1;
      next = record {
        passed = ap leads (take-add i (len_utf8 c) bs) ∙ leads-append (take i bs) (take (len_utf8 c) (drop i bs))
            ∙ ap₂ (λ a b. a + b) p.passed (ap leads front ∙ leads-encode c);
        boundary = IsCharBoundary-past_char bs rest i c p.boundary.0 (IsUtf8-drop bs i u p.boundary) split;
      };
    }

pub at_end : (bs : List ℕ) (n : ℕ) → IsUtf8 bs → IsPlace bs n (length bs) → n ≡ length (chars bs)
at_end bs n u p = sym p.passed ∙ ap leads (take_all (length bs) bs (omega arith)) ∙ leads-chars bs u
