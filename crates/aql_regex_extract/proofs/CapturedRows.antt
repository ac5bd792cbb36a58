-- The row of a match against the captures that a search gives.
use Rattle.std.proofs.Common.{◌≡◌, ◌++◌, ℕ, zero, suc, ◌<◌, ◌≤◌, List, [], ◌∷◌, Option, Some, nat_le, refl, ap, ap₂, ◌∙◌, arith, le-leb, option_map, None, sym}
use Rattle.std.proofs.lemmas.Bool.{cond-true, cond-false, lt-leb}
use Rattle.std.proofs.lemmas.Option.{same_Some}
use Rattle.regex.specs.Patterns.{Match, span}
use Rattle.regex.specs.Search.{group_span}
use Rattle.regex.specs.Strings.{captures_span, IsCapturesOf}
use Rattle.regex.specs.declared.string.captures.Captures.{Captures}
use Rattle.span_token.specs.Documents.{Doc, moved}
use Rattle.span_token.specs.Extents.{Extent}
use Rattle.aql_regex_extract.specs.Matches.{group_in, placed, row_by, row_of}
use Rattle.aql_regex_extract.specs.Steps.{row_from, PushesMatch}

pub group_in-captures : (hay : List ℕ) (m : Match) (c : Captures) → IsCapturesOf hay m c → (n : ℕ) → captures_span c n ≡ group_in m n
unfolding group_span
group_in-captures hay m c h zero = ap Some h.1.whole_is
group_in-captures hay m c h (suc n) = h.2 (suc n) (omega arith)

pub row_by-alike : (d : Doc) (source : Extent) (f g : ℕ → Option (ℕ × ℕ)) → ((n : ℕ) → f n ≡ g n) → (groups : List ℕ) →
    row_by d source groups f ≡ row_by d source groups g
row_by-alike d source f g same [] = refl
row_by-alike d source f g same (n ∷ ns) =
    ap₂ ◌∷◌ (ap (placed d source) (same n)) (row_by-alike d source f g same ns)

pub row_of-captures : (hay : List ℕ) (m : Match) (c : Captures) (d : Doc) (source : Extent) (groups : List ℕ) → IsCapturesOf hay m c →
    row_by d source groups (captures_span c) ≡ row_of d source groups m
row_of-captures hay m c d source groups h =
    row_by-alike d source (captures_span c) (group_in m) (group_in-captures hay m c h) groups

pub row_from-enough : (least : ℕ) (d : Doc) (source : Extent) (groups : List ℕ) (m : Match) → least ≤ m.trace.end →
    row_from least d source groups m ≡ row_of d source groups m
row_from-enough least d source groups m h = cond-true (nat_le least m.trace.end) _ [] (le-leb least m.trace.end h)

pub row_from-early : (least : ℕ) (d : Doc) (source : Extent) (groups : List ℕ) (m : Match) → m.trace.end < least →
    row_from least d source groups m ≡ []
row_from-early least d source groups m h = cond-false (nat_le least m.trace.end) _ [] (lt-leb least m.trace.end h)

-- the end of the whole match, as its captures say it
pub end-captures : (hay : List ℕ) (m : Match) (c : Captures) (s : ℕ × ℕ) (end : ℕ) → IsCapturesOf hay m c →
    Some s ≡ captures_span c 0 → end ≡ s.1 → end ≡ m.trace.end
end-captures hay m c s end h whole is_end =
    is_end ∙ ap (λ (x : ℕ × ℕ). x.1) (same_Some _ _ (whole ∙ group_in-captures hay m c h 0))

-- a search for spans alone puts the row of the whole match after the others
pub pushes-span : (least : ℕ) (d : Doc) (source : Extent) (groups : List ℕ) (found : Option Match) (old new : List (Option Extent)) (from to : ℕ) (e : Extent) →
    Some (from, to) ≡ option_map span found → least ≤ to → groups ≡ 0 ∷ [] → e ≡ moved d source from to → new ≡ old ++ Some e ∷ [] →
    PushesMatch least d source groups found old new to
pushes-span least d source groups None old new from to e is_found late whole place pushed = absurd cc
pushes-span least d source groups (Some m) old new from to e is_found late whole place pushed =
    let same : (from, to) ≡ span m = same_Some _ _ is_found in
    let ends : to ≡ m.trace.end = ap (λ (s : ℕ × ℕ). s.1) same in
    let enough : least ≤ m.trace.end = omega (arith, ends) in
    let row : Some e ∷ [] ≡ row_of d source (0 ∷ []) m =
    ap (λ (x : Extent). Some x ∷ []) (place ∙ ap (λ (s : ℕ × ℕ). moved d source s.0 s.1) same) in
    record {
      it = m;
      is_found = refl;
      ends = ends;
      pushed = pushed ∙ ap (λ (r : List (Option Extent)). old ++ r) (row
          ∙ ap (λ (gs : List ℕ). row_of d source gs m) (sym whole)
          ∙ sym (row_from-enough least d source groups m enough));
    }
