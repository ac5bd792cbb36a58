-- What is known of texts, as one mention after another is seen.
use Rattle.std.proofs.Common.{◌≡◌, ◌∙◌, ℕ, ◌+◌, ◌<◌, ◌^◌, Bool, true, false, cond, Option, Some, None, List, [], ◌∷◌, ◌++◌, flat_map, length, get_or, refl, ap, sym, subst}
use Rattle.std.specs.Str.{bytes_eq}
use Rattle.std.specs.Cmp.Lexicographic.{bytes_decides}
use Rattle.std.specs.Option.{is_none}
use Rattle.std.proofs.lemmas.List.{append-nil, length-append}
use Rattle.std.proofs.lemmas.List.Concat.{flat_map-append}
use Rattle.aql_regex_extract.specs.declared.pattern.PatternFault.{PatternFault}
use Rattle.aql_regex_extract.specs.Faults.{IsPattern, HasFault}
use Rattle.aql_tables.specs.declared.patterns.Verdict.{Verdict}
use Rattle.aql_tables.specs.declared.patterns.Verdict.TheVariants.{Number, Fault}
use Rattle.aql_tables.specs.Mentions.{Mention, of_pattern}
use Rattle.aql_tables.specs.Numbers.{each_once, number_among}
use Rattle.aql_regex_extract.specs.Patterns.{group_count_of}
use Rattle.aql_tables.specs.Verdicts.{pattern_fault, groups_of}
use Rattle.aql_tables.specs.VerdictLaws.{fault_told, pattern_told}
use Rattle.aql_tables.specs.Programs.{pattern_in, patterns_among}
use Rattle.aql_tables.specs.Kept.{IsTold, HasPatterns, IsSet}
use Rattle.aql_tables.proofs.Once.{pushed, each_once-push, apart, at_last, at_more, past_more, at_number, pushed_known, pushed_new}

pub same_is : (xs ys : List ℕ) → bytes_eq xs ys ≡ true → xs ≡ ys
same_is xs ys = (bytes_decides xs ys).0

pub itself : (xs : List ℕ) → bytes_eq xs xs ≡ true
itself xs = (bytes_decides xs xs).1 refl

-- a mention that is no pattern adds none
pub none_more : (seen : List Mention) (m : Mention) → pattern_in m ≡ [] → patterns_among (seen ++ m ∷ []) ≡ patterns_among seen
none_more seen m none =
    ap (λ (ts : List (List ℕ)). each_once bytes_eq ts)
    (flat_map-append pattern_in seen (m ∷ []) ∙ (ap (λ (ts : List (List ℕ)). flat_map pattern_in seen ++ (ts ++ [])) none ∙ append-nil (flat_map pattern_in seen)))

pub tell_other : (seen : List Mention) (ks : List (List ℕ)) (verdict_at : List ℕ → Option Verdict) (m : Mention) → pattern_in m ≡ [] → HasPatterns seen ks verdict_at → HasPatterns (seen ++ m ∷ []) ks verdict_at
tell_other seen ks verdict_at m none has = record { patterns_are = none_more seen m none ∙ has.patterns_are; keeps = has.keeps }

-- a mention of a pattern adds it where it isn't there
one_more : (seen : List Mention) (text : List ℕ) → pattern_fault text ≡ None → patterns_among (seen ++ of_pattern text ∷ []) ≡ pushed bytes_eq same_is itself (patterns_among seen) text
one_more seen text good =
    ap (λ (ts : List (List ℕ)). each_once bytes_eq ts)
    (flat_map-append pattern_in seen (of_pattern text ∷ []) ∙ ap (λ (ts : List (List ℕ)). flat_map pattern_in seen ++ (ts ++ [])) (ap (λ o. cond (is_none o) (text ∷ []) []) good))
    ∙ each_once-push bytes_eq same_is itself (flat_map pattern_in seen) text

module _ (seen : List Mention) (ks : List (List ℕ)) (verdict_at : List ℕ → Option Verdict) (text : List ℕ) (has : HasPatterns seen ks verdict_at) where
  -- a text that is known
  pub tell_known : (v : Verdict) → verdict_at text ≡ Some v → HasPatterns (seen ++ of_pattern text ∷ []) ks verdict_at
  tell_known v known = record { patterns_are = by v (subst (IsTold ks text) known (has.keeps.told text)); keeps = has.keeps }
    where
      by : (v : Verdict) → IsTold ks text (Some v) → patterns_among (seen ++ of_pattern text ∷ []) ≡ ks
      by (Number n) told =
          one_more seen text told.1
          ∙ (ap (λ (ts : List (List ℕ)). pushed bytes_eq same_is itself ts text) has.patterns_are ∙ pushed_known bytes_eq same_is itself text ks n told.0)
      by (Fault fault) told = none_more seen (of_pattern text) (ap (λ o. cond (is_none o) (text ∷ []) []) told.1) ∙ has.patterns_are

  -- a text that isn't known so far
  module _ (new_at : List ℕ → Option Verdict) (unknown : verdict_at text ≡ None) where
    past : number_among bytes_eq text ks ≡ length ks
    past = subst (IsTold ks text) unknown (has.keeps.told text)

    -- what is known of a text after this one's verdict is set, from what is known of this one and of the others
    set_told : (ks : List (List ℕ)) (v : Verdict) → IsSet bytes_eq verdict_at new_at text v → IsTold ks text (Some v)
        → ((q : List ℕ) → bytes_eq q text ≡ false → IsTold ks q (verdict_at q)) → (q : List ℕ) → IsTold ks q (new_at q)
    set_told ks v set own others q = subst (IsTold ks q) (sym (set q)) (by (bytes_eq text q) refl)
      where
        by : (b : Bool) → bytes_eq text q ≡ b → IsTold ks q (cond (bytes_eq text q) (Some v) (verdict_at q))
        by true e = rw e (subst (λ (t : List ℕ). IsTold ks t (Some v)) (same_is text q e) own)
        by false e = rw e (others q (apart bytes_eq same_is itself text q e))

    -- it has a fault
    pub tell_fault : (fault : PatternFault) → HasFault text fault → IsSet bytes_eq verdict_at new_at text (Fault fault) → HasPatterns (seen ++ of_pattern text ∷ []) ks new_at
    tell_fault fault is set = record {
      patterns_are = none_more seen (of_pattern text) (ap (λ o. cond (is_none o) (text ∷ []) []) (fault_told text fault is)) ∙ has.patterns_are;
      keeps = record {
        short = has.keeps.short;
        told = set_told ks (Fault fault) set (past, fault_told text fault is) (λ q e. has.keeps.told q);
      };
    }

    -- it is a pattern
    pub tell_new : IsPattern text → length ks + 1 < 2 ^ 32 → IsSet bytes_eq verdict_at new_at text (Number (length ks)) → HasPatterns (seen ++ of_pattern text ∷ []) (ks ++ text ∷ []) new_at
    tell_new is room set = record {
      patterns_are = one_more seen text (pattern_told text is)
          ∙ (ap (λ (ts : List (List ℕ)). pushed bytes_eq same_is itself ts text) has.patterns_are ∙ pushed_new bytes_eq same_is itself text ks past);
      keeps = record {
        short = rw (length-append ks (text ∷ [])) room;
        told = set_told (ks ++ text ∷ []) (Number (length ks)) set (at_last bytes_eq same_is itself text ks past, pattern_told text is)
            (λ q e. later q e (verdict_at q) (has.keeps.told q));
      };
    }
      where
        later : (q : List ℕ) → bytes_eq q text ≡ false → (o : Option Verdict) → IsTold ks q o → IsTold (ks ++ text ∷ []) q o
        later q e None told = past_more bytes_eq same_is itself q text ks told e
        later q e (Some (Number n)) told = (at_more bytes_eq same_is itself q ks (text ∷ []) n told.0, told.1)
        later q e (Some (Fault fault)) told = (past_more bytes_eq same_is itself q text ks told.0 e, told.1)

-- ---- groups

pub groups_good : (text : List ℕ) → pattern_fault text ≡ None → groups_of text ≡ group_count_of text
groups_good text good = ap (λ o. cond (is_none o) (group_count_of text) 0) good

pub groups_bad : (text : List ℕ) (fault : PatternFault) → pattern_fault text ≡ Some fault → groups_of text ≡ 0
groups_bad text fault bad = ap (λ o. cond (is_none o) (group_count_of text) 0) bad

-- the pattern with the number of a text has its groups
pub groups_at : (ks : List (List ℕ)) (text : List ℕ) (n : ℕ) → IsTold ks text (Some (Number n)) → (there : List ℕ) → there ≡ get_or ks n there
    → group_count_of there ≡ groups_of text
groups_at ks text n told there is =
    ap group_count_of (is ∙ (ap (λ (i : ℕ). get_or ks i there) (sym told.0.number_is)
    ∙ at_number bytes_eq same_is itself text ks there (subst (λ (i : ℕ). i < length ks) (sym told.0.number_is) told.0.within)))
    ∙ sym (groups_good text told.1)
