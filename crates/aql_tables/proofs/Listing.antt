-- All that a program mentions is listed, each once, and nothing else.
use Rattle.std.proofs.Common.{◌≡◌, ◌∙◌, ℕ, zero, suc, ◌<◌, Bool, true, false, cond, Option, List, [], ◌∷◌, flat_map, length, get_or, refl, ap, sym, subst, arith}
use Rattle.std.specs.Str.{bytes_eq}
use Rattle.std.specs.Option.{option_map}
use Rattle.std.specs.List.{All, Contains}
use Rattle.std.proofs.lemmas.Option.{slice_get-map}
use Rattle.std.proofs.lemmas.List.Elements.{All-nil, All-cons, All-head, All-tail, All-append, All-weaker, All-contains_itself, Contains-append_left, Contains-append_right}
use Rattle.aql_syntax.specs.Trees.{Statement}
use Rattle.aql_tables.specs.Mentions.{Mention, of_pattern, of_dictionary, mentions_of}
use Rattle.aql_tables.specs.Numbers.{number_among}
use Rattle.aql_tables.specs.Verdicts.{is_pattern}
use Rattle.aql_tables.specs.Programs.{DictKey, same_dict, is_dictionary, use_of, pattern_in, dict_in, dicts_of, collected, IsListed, ListsMentions}
use Rattle.aql_tables.proofs.Once.{found_each, all_each, differ_each}
use Rattle.aql_tables.proofs.Telling as pattern
use Rattle.aql_tables.proofs.Using as dict

module _ {M X : Type 0} (f : M → List X) where
  -- what an element gives is among what all give
  among : (ms : List M) (i : ℕ) (m : M) (x : X) → i < length ms → get_or ms i m ≡ m → f m ≡ x ∷ [] → Contains (flat_map f ms) x
  among [] i m x within is e = absurd (omega (arith, within))
  among (first ∷ ms) zero m x within is e = Contains-append_left (f first) (flat_map f ms) x (subst (λ (xs : List X). Contains xs x) (sym (ap f is ∙ e)) (0, omega arith, refl))
  among (first ∷ ms) (suc i) m x within is e = Contains-append_right (f first) (flat_map f ms) x (among ms i m x (omega (arith, within)) is e)

  -- what is true of all that each gives
  all_given : (Q : M → Type 0) (P : X → Type 0) → ((m : M) → Q m → All P (f m)) → (ms : List M) → All Q ms → All P (flat_map f ms)
  all_given Q P each [] all = All-nil P
  all_given Q P each (m ∷ ms) all = All-append P (f m) (flat_map f ms) (each m (All-head Q m ms all)) (all_given Q P each ms (All-tail Q m ms all))

module _ (program : List Statement) where
  listed : (m : Mention) → Contains (mentions_of program) m → IsListed program (collected program) m
  listed (of_pattern text) at = λ good.
      found_each bytes_eq pattern.same_is pattern.itself (flat_map pattern_in (mentions_of program)) text
      (among pattern_in (mentions_of program) at.0 (of_pattern text) text at.1 at.2 (ap (λ b. cond b (text ∷ []) []) good))
  listed (of_dictionary name exact) at = λ good.
      let key : DictKey = (name, exact) in
      slice_get-map (use_of program) (dicts_of program) (number_among same_dict key (dicts_of program))
      ∙ ap (λ (o : Option DictKey). option_map (use_of program) o)
      (found_each same_dict dict.same_is dict.itself (flat_map (dict_in program) (mentions_of program)) key
      (among (dict_in program) (mentions_of program) at.0 (of_dictionary name exact) key at.1 at.2 (ap (λ b. cond b (key ∷ []) []) good)))

  abbrev IsPatternThere : List ℕ → Type 0
  IsPatternThere text = (is_pattern text ≡ true) × Contains (mentions_of program) (of_pattern text)

  abbrev IsDictThere : DictKey → Type 0
  IsDictThere key = (is_dictionary program key.0 ≡ true) × Contains (mentions_of program) (of_dictionary key.0 key.1)

  one_pattern : (m : Mention) → Contains (mentions_of program) m → All IsPatternThere (pattern_in m)
  one_pattern (of_dictionary name exact) at = All-nil IsPatternThere
  one_pattern (of_pattern text) at = by (is_pattern text) refl
    where
      by : (b : Bool) → is_pattern text ≡ b → All IsPatternThere (cond (is_pattern text) (text ∷ []) [])
      by true good = subst (λ b. All IsPatternThere (cond b (text ∷ []) [])) (sym good) (All-cons IsPatternThere text [] (good, at) (All-nil IsPatternThere))
      by false bad = subst (λ b. All IsPatternThere (cond b (text ∷ []) [])) (sym bad) (All-nil IsPatternThere)

  one_dict : (m : Mention) → Contains (mentions_of program) m → All IsDictThere (dict_in program m)
  one_dict (of_pattern text) at = All-nil IsDictThere
  one_dict (of_dictionary name exact) at = by (is_dictionary program name) refl
    where
      by : (b : Bool) → is_dictionary program name ≡ b → All IsDictThere (cond (is_dictionary program name) ((name, exact) ∷ []) [])
      by true good = subst (λ b. All IsDictThere (cond b ((name, exact) ∷ []) [])) (sym good) (All-cons IsDictThere (name, exact) [] (good, at) (All-nil IsDictThere))
      by false bad = subst (λ b. All IsDictThere (cond b ((name, exact) ∷ []) [])) (sym bad) (All-nil IsDictThere)

  -- what is collected of a program lists what it mentions
  pub lists_mentions : ListsMentions program (collected program)
  lists_mentions = record {
    listed = All-weaker (Contains (mentions_of program)) (IsListed program (collected program)) listed (mentions_of program) (All-contains_itself (mentions_of program));
    patterns_distinct = differ_each bytes_eq pattern.same_is pattern.itself (flat_map pattern_in (mentions_of program));
    dicts_distinct = differ_each same_dict dict.same_is dict.itself (flat_map (dict_in program) (mentions_of program));
    only_patterns = all_each bytes_eq pattern.same_is pattern.itself IsPatternThere (flat_map pattern_in (mentions_of program))
        (all_given pattern_in (Contains (mentions_of program)) IsPatternThere one_pattern (mentions_of program) (All-contains_itself (mentions_of program)));
    only_dicts = all_each same_dict dict.same_is dict.itself IsDictThere (flat_map (dict_in program) (mentions_of program))
        (all_given (dict_in program) (Contains (mentions_of program)) IsDictThere one_dict (mentions_of program) (All-contains_itself (mentions_of program)));
  }
