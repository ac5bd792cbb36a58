-- The dictionaries, as one mention after another is seen.
use Rattle.std.proofs.Common.{◌≡◌, ◌∙◌, ℕ, ◌+◌, ◌<◌, ◌^◌, Bool, true, false, cond, Option, Some, None, List, [], ◌∷◌, ◌++◌, flat_map, length, refl, ap, ap₂, sym, subst}
use Rattle.std.specs.Bool.{beq}
use Rattle.std.specs.Str.{bytes_eq}
use Rattle.std.specs.Cmp.{booleans_Decides}
use Rattle.std.specs.Cmp.Lexicographic.{bytes_decides}
use Rattle.std.specs.Option.{is_some, unwrap_or}
use Rattle.std.proofs.lemmas.Bool.Decides.{Decides-and}
use Rattle.std.proofs.lemmas.List.{append-nil, length-append, map-append}
use Rattle.std.proofs.lemmas.List.Concat.{flat_map-append}
use Rattle.aql_syntax.specs.Trees.{Statement}
use Rattle.dict_match.specs.declared.dict_use.DictUse.{DictUse}
use Rattle.aql_tables.specs.Mentions.{Mention, of_dictionary}
use Rattle.aql_tables.specs.Numbers.{each_once, number_among}
use Rattle.aql_tables.specs.Programs.{DictKey, same_dict, entries_of, use_of, dict_in, dicts_among}
use Rattle.aql_tables.specs.Kept.{IsNumberOf, HasDicts, IsSet}
use Rattle.aql_tables.proofs.Once.{pushed, each_once-push, apart, at_last, at_more, past_more, pushed_known, pushed_new}

pub same_is : (a b : DictKey) → same_dict a b ≡ true → a ≡ b
same_is a b e =
    let both = (Decides-and (bytes_eq a.0 b.0) (beq a.1 b.1) (bytes_decides a.0 b.0) (booleans_Decides a.1 b.1)).0 e in
    ap₂ (λ (name : List ℕ) (exact : Bool). (name, exact)) both.0 both.1

pub itself : (a : DictKey) → same_dict a a ≡ true
itself a = (Decides-and (bytes_eq a.0 a.0) (beq a.1 a.1) (bytes_decides a.0 a.0) (booleans_Decides a.1 a.1)).1 (refl, refl)

module _ (program : List Statement) where
  -- a mention that is no dictionary adds none
  none_more : (seen : List Mention) (m : Mention) → dict_in program m ≡ [] → dicts_among program (seen ++ m ∷ []) ≡ dicts_among program seen
  none_more seen m none =
      ap (λ (keys : List DictKey). each_once same_dict keys)
      (flat_map-append (dict_in program) seen (m ∷ [])
      ∙ (ap (λ (keys : List DictKey). flat_map (dict_in program) seen ++ (keys ++ [])) none ∙ append-nil (flat_map (dict_in program) seen)))

  -- a mention of a dictionary adds it where it isn't there
  one_more : (seen : List Mention) (name : List ℕ) (exact : Bool) → is_some (entries_of program name) ≡ true
      → dicts_among program (seen ++ of_dictionary name exact ∷ []) ≡ pushed same_dict same_is itself (dicts_among program seen) (name, exact)
  one_more seen name exact good =
      ap (λ (keys : List DictKey). each_once same_dict keys)
      (flat_map-append (dict_in program) seen (of_dictionary name exact ∷ [])
      ∙ ap (λ b. flat_map (dict_in program) seen ++ (cond b ((name, exact) ∷ []) [] ++ [])) good)
      ∙ each_once-push same_dict same_is itself (flat_map (dict_in program) seen) (name, exact)

  module _ (seen : List Mention) (keys : List DictKey) (uses : List DictUse) (number_at : DictKey → Option ℕ) (has : HasDicts program seen keys uses number_at) where
    -- what is no dictionary
    pub use_none : (m : Mention) → dict_in program m ≡ [] → HasDicts program (seen ++ m ∷ []) keys uses number_at
    use_none m none = record { dicts_are = none_more seen m none ∙ has.dicts_are; uses_are = has.uses_are; keeps = has.keeps }

    module _ (name : List ℕ) (exact : Bool) where
      -- a name that no dictionary has
      pub use_no_entries : entries_of program name ≡ None → HasDicts program (seen ++ of_dictionary name exact ∷ []) keys uses number_at
      use_no_entries none = use_none (of_dictionary name exact) (ap (λ o. cond (is_some o) ((name, exact) ∷ []) []) none)

      -- a dictionary that is known
      pub use_known : (n : ℕ) → number_at (name, exact) ≡ Some n → HasDicts program (seen ++ of_dictionary name exact ∷ []) keys uses number_at
      use_known n known = by (is_some (entries_of program name)) refl
        where
          by : (b : Bool) → is_some (entries_of program name) ≡ b → HasDicts program (seen ++ of_dictionary name exact ∷ []) keys uses number_at
          by true good = record {
            dicts_are = one_more seen name exact good
                ∙ (ap (λ (ks : List DictKey). pushed same_dict same_is itself ks (name, exact)) has.dicts_are
                ∙ pushed_known same_dict same_is itself (name, exact) keys n (subst (IsNumberOf same_dict keys (name, exact)) known (has.keeps.numbered (name, exact))));
            uses_are = has.uses_are;
            keeps = has.keeps;
          }
          by false none = use_none (of_dictionary name exact) (ap (λ b. cond b ((name, exact) ∷ []) []) none)

      -- one that isn't known so far
      pub use_new : (new_at : DictKey → Option ℕ) → number_at (name, exact) ≡ None → (entries : List (List ℕ)) → entries_of program name ≡ Some entries
          → length keys + 1 < 2 ^ 32 → IsSet same_dict number_at new_at (name, exact) (length keys)
          → HasDicts program (seen ++ of_dictionary name exact ∷ []) (keys ++ (name, exact) ∷ []) (uses ++ record { entries = entries; exact = exact } ∷ []) new_at
      use_new new_at unknown entries good room set = record {
        dicts_are = one_more seen name exact (ap is_some good)
            ∙ (ap (λ (ks : List DictKey). pushed same_dict same_is itself ks (name, exact)) has.dicts_are
            ∙ pushed_new same_dict same_is itself (name, exact) keys (past unknown));
        uses_are = map-append (use_of program) keys ((name, exact) ∷ [])
            ∙ ap₂ (λ (us : List DictUse) (es : List (List ℕ)). us ++ record { entries = es; exact = exact } ∷ []) has.uses_are (ap (λ o. unwrap_or o []) good);
        keeps = record {
          short = rw (length-append keys ((name, exact) ∷ [])) room;
          numbered = λ key. subst (IsNumberOf same_dict (keys ++ (name, exact) ∷ []) key) (sym (set key)) (by key (past unknown) (same_dict (name, exact) key) refl);
        };
      }
        where
          past : number_at (name, exact) ≡ None → number_among same_dict (name, exact) keys ≡ length keys
          past unknown = subst (IsNumberOf same_dict keys (name, exact)) unknown (has.keeps.numbered (name, exact))

          later : (key : DictKey) → same_dict key (name, exact) ≡ false → (o : Option ℕ) → IsNumberOf same_dict keys key o → IsNumberOf same_dict (keys ++ (name, exact) ∷ []) key o
          later key e None told = past_more same_dict same_is itself key (name, exact) keys told e
          later key e (Some n) told = at_more same_dict same_is itself key keys ((name, exact) ∷ []) n told

          by : (key : DictKey) → number_among same_dict (name, exact) keys ≡ length keys → (b : Bool) → same_dict (name, exact) key ≡ b
              → IsNumberOf same_dict (keys ++ (name, exact) ∷ []) key (cond (same_dict (name, exact) key) (Some (length keys)) (number_at key))
          by key past true e = rw e (subst (λ (k : DictKey). IsNumberOf same_dict (keys ++ (name, exact) ∷ []) k (Some (length keys))) (same_is (name, exact) key e) (at_last same_dict same_is itself (name, exact) keys past))
          by key past false e = rw e (later key (apart same_dict same_is itself (name, exact) key e) (number_at key) (has.keeps.numbered key))
