-- Any program is resolved or has a fault, and one of them alone.
use Rattle.std.proofs.Common.{◌≡◌, ◌∙◌, ◌+◌, ◌<◌, ◌≤◌, ◌⊎◌, inl, inr, ⊎_elim, ℕ, suc, Bool, true, false, List, [], ◌∷◌, ◌++◌, map, take, drop, length, get_or, Contains, All, refl, ap, sym, subst, arith, append_assoc, true≢false}
use Rattle.std.specs.List.{AllZip}
use Rattle.std.specs.Str.{bytes_eq}
use Rattle.std.proofs.lemmas.Slice.Eq.{bytes_eq-Decides}
use Rattle.std.proofs.lemmas.Bool.{cases_lt, cases_order}
use Rattle.std.proofs.lemmas.List.{append-nil, get_or-append-add, get_or_append_left, length-append}
use Rattle.std.proofs.lemmas.List.Elements.{All-append, All-cons, All-head, All-tail, All-weaker, All-contains, Contains-append_left, Contains-append_right}
use Rattle.aql_syntax.specs.Trees.{Statement, require}
use Rattle.view_graph.specs.declared.fault.NameFault.{NameFault}
use Rattle.view_graph.specs.declared.fault.NameFault.TheVariants.{DuplicateName, UnknownView, UnknownDictionary, DuplicateOutput, Cycle}
use Rattle.view_graph.specs.Names.{Named, view_named, dictionary_named, defined_by, looked_up_by, names_used_by, output_of, names_defined, names_looked_up, outputs_of, AllDiffer, IsDefined, LooksUpDefined}
use Rattle.view_graph.specs.Faults.{text_of, DefinesAgain, LooksUpUndefined, NamesOutputAgain}
use Rattle.view_graph.specs.Graphs.{HasRank}
use Rattle.view_graph.specs.Uses.{Uses, CreatesView, statement_at, views_of}
use Rattle.view_graph.specs.Answers.{HasNames, HasOutputs, IsNameFault, IsResolved, IsCycleFault, IsNameDecided}
use Rattle.view_graph.specs.Circles.{IsBegunAtLeast, AreViews}
use Rattle.view_graph.proofs.Defining.{flat_map-push, creates_within}
use Rattle.view_graph.proofs.Once.{Or, contains_or, Again, again_not, one_again, again_or, later_cut, same_cut, Fails, one_fails, fails_or}
use Rattle.view_graph.proofs.Longest.{Circle, ranks_or_circle}
use Rattle.view_graph.proofs.Sorting.{put_in_order, one_by_rank}
use Rattle.view_graph.proofs.Creating.{few_defined, few_outputs, document, IsListed, listed, views_differ}
use Rattle.view_graph.proofs.Following.{user_within}
use Rattle.view_graph.proofs.Turning.{IsCycle-turned}
use Rattle.view_graph.proofs.Relations.{no_circle}
use Rattle.view_graph.proofs.Resolving.{are_used, resolved_by}

-- ---- names

pub same_text : (a b : List ℕ) → Or (a ≡ b)
same_text a b = by (bytes_eq a b) refl
  where
    by : (t : Bool) → bytes_eq a b ≡ t → Or (a ≡ b)
    by true e = inl ((bytes_eq-Decides a b).0 e)
    by false e = inr (λ is. true≢false (sym ((bytes_eq-Decides a b).1 is) ∙ e))

same_view : (a b : List ℕ) → view_named a ≡ view_named b → a ≡ b
same_view a b e = cc

same_dictionary : (a b : List ℕ) → dictionary_named a ≡ dictionary_named b → a ≡ b
same_dictionary a b e = cc

apart : (a b : List ℕ) → view_named a ≡ dictionary_named b → ⊥
apart a b e = cc

same_named : (x y : Named) → Or (x ≡ y)
same_named (view_named a) (view_named b) = ⊎_elim (λ is. inl (ap view_named is)) (λ isnt. inr (λ e. isnt (same_view a b e))) (same_text a b)
same_named (dictionary_named a) (dictionary_named b) = ⊎_elim (λ is. inl (ap dictionary_named is)) (λ isnt. inr (λ e. isnt (same_dictionary a b e))) (same_text a b)
same_named (view_named a) (dictionary_named b) = inr (λ e. apart a b e)
same_named (dictionary_named a) (view_named b) = inr (λ e. apart b a (sym e))

-- ---- each kind of fault: when there is one, and that there is one alone

module _ (program : List Statement) where
  as_again : (number : ℕ) (name : List ℕ) → DefinesAgain program number name → Again document defined_by program
  as_again number name h = record { before = h.before; element = h.statement; after = h.numbered.after; split = h.numbered.split; value = h.named; gives = h.defines; again = h.again; first = h.first }

  as_output_again : (number : ℕ) (name : List ℕ) → NamesOutputAgain program number name → Again [] output_of program
  as_output_again number name h = record { before = h.before; element = h.statement; after = h.numbered.after; split = h.numbered.split; value = name; gives = h.names; again = h.again; first = h.first }

  defines_again : (h : Again document defined_by program) → DefinesAgain program (length h.before + 1) (text_of h.value)
  defines_again h = record { before = h.before; statement = h.element; numbered = record { after = h.after; split = h.split; number_is = refl }; named = h.value; defines = h.gives; name_is = refl; again = h.again; first = h.first }

  output_again : (h : Again [] output_of program) → NamesOutputAgain program (length h.before + 1) h.value
  output_again h = record { before = h.before; statement = h.element; numbered = record { after = h.after; split = h.split; number_is = refl }; names = h.gives; again = h.again; first = h.first }

  defines_not : (number : ℕ) (name : List ℕ) → DefinesAgain program number name → ¬ (AllDiffer (names_defined program))
  defines_not number name h = again_not document defined_by program (as_again number name h)

  outputs_not : (number : ℕ) (name : List ℕ) → NamesOutputAgain program number name → ¬ (AllDiffer (outputs_of program))
  outputs_not number name h = again_not [] output_of program (as_output_again number name h)

  one_definition : (n m : ℕ) (a b : List ℕ) → DefinesAgain program n a → DefinesAgain program m b → (n ≡ m) × (a ≡ b)
  unfolding as_again
  one_definition n m a b h k =
      let one = one_again document defined_by program (as_again n a h) (as_again m b k) in
      (omega (arith, h.numbered.number_is, k.numbered.number_is, one.0), h.name_is ∙ ap text_of one.1 ∙ sym k.name_is)

  one_output : (n m : ℕ) (a b : List ℕ) → NamesOutputAgain program n a → NamesOutputAgain program m b → (n ≡ m) × (a ≡ b)
  unfolding as_output_again
  one_output n m a b h k =
      let one = one_again [] output_of program (as_output_again n a h) (as_output_again m b k) in
      (omega (arith, h.numbered.number_is, k.numbered.number_is, one.0), one.1)

  -- the names before one that isn't defined, in its statement
  as_fails : (n : ℕ) (x : Named) (h : LooksUpUndefined program n x) → Fails (IsDefined program) (looked_up_by h.statement)
  as_fails n x h = record {
    earlier = h.earlier;
    value = x;
    later = h.later;
    split = h.looks_up;
    fails = h.undefined;
    first = λ k d below.
        subst (λ (y : Named). IsDefined program y) (get_or-append-add (names_looked_up h.before) h.earlier k d)
        (h.first (length (names_looked_up h.before) + k) d (omega (arith, below, length-append (names_looked_up h.before) h.earlier)));
  }

  first_before : (n : ℕ) (x : Named) (h : LooksUpUndefined program n x) → All (IsDefined program) (names_looked_up h.before)
  first_before n x h = λ k d below.
      subst (λ (y : Named). IsDefined program y) (get_or_append_left (names_looked_up h.before) h.earlier d k below)
      (h.first k d (omega (arith, below, length-append (names_looked_up h.before) h.earlier)))

  -- the name is among those that statements look up
  among : (whole before more : List Statement) (s : Statement) (earlier later : List Named) (x : Named) → whole ≡ before ++ s ∷ more → looked_up_by s ≡ earlier ++ x ∷ later → Contains (names_looked_up whole) x
  among whole before more s earlier later x split looks =
      subst (λ (ss : List Statement). Contains (names_looked_up ss) x) (sym split) (in_cut before)
    where
      here : Contains (looked_up_by s) x
      here = subst (λ (ns : List Named). Contains ns x) (sym looks) (Contains-append_right earlier (x ∷ later) x (0, omega arith, refl))

      in_cut : (b : List Statement) → Contains (names_looked_up (b ++ s ∷ more)) x
      in_cut [] = Contains-append_left (looked_up_by s) (names_looked_up more) x here
      in_cut (t ∷ ts) = Contains-append_right (looked_up_by t) (names_looked_up (ts ++ s ∷ more)) x (in_cut ts)

  looks_not : (n : ℕ) (x : Named) → LooksUpUndefined program n x → ¬ (LooksUpDefined program)
  looks_not n x h all = h.undefined (All-contains (IsDefined program) (names_looked_up program) x all (among program h.before h.numbered.after h.statement h.earlier h.later x h.numbered.split h.looks_up))

  not_earlier : (n m : ℕ) (x y : Named) (h : LooksUpUndefined program n x) (k : LooksUpUndefined program m y) → ¬ (length h.before < length k.before)
  not_earlier n m x y h k less =
      let more = later_cut h.before k.before h.statement k.statement h.numbered.after k.numbered.after (sym h.numbered.split ∙ k.numbered.split) less in
      h.undefined (All-contains (IsDefined program) (names_looked_up k.before) x (first_before m y k) (among k.before h.before more.0 h.statement h.earlier h.later x more.1 h.looks_up))

  one_unknown : (n m : ℕ) (x y : Named) → LooksUpUndefined program n x → LooksUpUndefined program m y → (n ≡ m) × (x ≡ y)
  unfolding as_fails
  one_unknown n m x y h k = by (cases_order (length h.before) (length k.before))
    where
      same : length h.before ≡ length k.before → x ≡ y
      same long =
          let cut = same_cut h.before k.before h.statement k.statement h.numbered.after k.numbered.after (sym h.numbered.split ∙ k.numbered.split) long in
          let other = as_fails m y k in
          (one_fails (IsDefined program) (looked_up_by h.statement) (as_fails n x h)
          (record { earlier = other.earlier; value = y; later = other.later; split = ap looked_up_by cut.1 ∙ other.split; fails = other.fails; first = other.first })).1

      by : (length h.before ≡ length k.before) ⊎ ((length h.before < length k.before) ⊎ (length k.before < length h.before)) → (n ≡ m) × (x ≡ y)
      by (inl long) = (omega (arith, h.numbered.number_is, k.numbered.number_is, long), same long)
      by (inr (inl less)) = absurd (not_earlier n m x y h k less)
      by (inr (inr more)) = absurd (not_earlier m n y x k h more)

  -- each name that is looked up is defined, or there is a first that isn't
  abbrev Undefined : Type 0
  Undefined = (n : ℕ) × (x : Named) × LooksUpUndefined program n x

  undefined_or : (before rest : List Statement) → program ≡ before ++ rest → All (IsDefined program) (names_looked_up before) → LooksUpDefined program ⊎ Undefined
  undefined_or before [] split all = inl (subst (λ (ss : List Statement). All (IsDefined program) (names_looked_up ss)) (sym (split ∙ append-nil before)) all)
  undefined_or before (s ∷ ss) split all =
      by (fails_or (IsDefined program) (λ x. contains_or same_named (names_defined program) x) (looked_up_by s))
      (λ more. undefined_or (before ++ s ∷ []) ss (split ∙ sym (append_assoc before (s ∷ []) ss))
      (subst (λ (ns : List Named). All (IsDefined program) ns) (sym (flat_map-push looked_up_by before s)) (All-append (IsDefined program) (names_looked_up before) (looked_up_by s) all more)))
    where
      by : All (IsDefined program) (looked_up_by s) ⊎ Fails (IsDefined program) (looked_up_by s) → (All (IsDefined program) (looked_up_by s) → LooksUpDefined program ⊎ Undefined) → LooksUpDefined program ⊎ Undefined
      by (inl more) on = on more
      by (inr f) on = inr (
        length before + 1,
        f.value,
        record {
          before = before;
          statement = s;
          numbered = record { after = ss; split = split; number_is = refl };
          earlier = f.earlier;
          later = f.later;
          looks_up = f.split;
          undefined = f.fails;
          first = All-append (IsDefined program) (names_looked_up before) f.earlier all f.first;
        },
      )

  -- ---- the views

  no_named : (x : Named) → ◌≡◌ {A = List Named} [] (x ∷ []) → ⊥
  no_named x e = cc

  same_one : (x y : Named) → ◌≡◌ {A = List Named} (x ∷ []) (y ∷ []) → x ≡ y
  same_one x y e = cc

  uses_or : (a b : ℕ) → Or (Uses program a b)
  uses_or a b = by (few_defined (statement_at program b))
    where
      named : (x : Named) → defined_by (statement_at program b) ≡ x ∷ [] → Or (Contains (names_used_by (statement_at program a)) x) → Or (Uses program a b)
      named (view_named name) is (inl at) = inl (record { name = name; source = at; view = is })
      named (view_named name) is (inr isnt) = inr (λ h. isnt (subst (λ (x : Named). Contains (names_used_by (statement_at program a)) x) (same_one (view_named h.name) (view_named name) (sym h.view ∙ is)) h.source))
      named (dictionary_named name) is any = inr (λ h. apart h.name name (same_one (view_named h.name) (dictionary_named name) (sym h.view ∙ is)))

      by : (defined_by (statement_at program b) ≡ []) ⊎ ((x : Named) × (defined_by (statement_at program b) ≡ x ∷ [])) → Or (Uses program a b)
      by (inl none) = inr (λ h. no_named (view_named h.name) (sym none ∙ h.view))
      by (inr one) = named one.0 one.1 (contains_or same_named (names_used_by (statement_at program a)) one.0)

  used_within : (a b : ℕ) → Uses program a b → b < length program
  used_within a b h = creates_within program require b h.name h.view (cases_lt b (length program))

  -- the index of a least number
  least_of : (x : ℕ) (xs : List ℕ) → (at : ℕ) × (at < length (x ∷ xs)) × All (λ p. get_or (x ∷ xs) at 0 ≤ p) (x ∷ xs)
  least_of x [] = (0, omega arith, All-cons (λ p. x ≤ p) x [] (omega arith) (λ k d below. absurd (omega (arith, below))))
  least_of x (y ∷ ys) = by (least_of y ys) (cases_lt x (get_or (y ∷ ys) (least_of y ys).0 0))
    where
      by : (rest : (at : ℕ) × (at < length (y ∷ ys)) × All (λ p. get_or (y ∷ ys) at 0 ≤ p) (y ∷ ys)) → (x < get_or (y ∷ ys) rest.0 0) ⊎ (get_or (y ∷ ys) rest.0 0 ≤ x)
          → (at : ℕ) × (at < length (x ∷ y ∷ ys)) × All (λ p. get_or (x ∷ y ∷ ys) at 0 ≤ p) (x ∷ y ∷ ys)
      by rest (inl less) = (0, omega arith, All-cons (λ p. x ≤ p) x (y ∷ ys) (omega arith) (All-weaker (λ p. get_or (y ∷ ys) rest.0 0 ≤ p) (λ p. x ≤ p) (λ p h. omega (arith, less, h)) (y ∷ ys) rest.2))
      by rest (inr more) = (suc rest.0, omega (arith, rest.1), All-cons (λ p. get_or (y ∷ ys) rest.0 0 ≤ p) x (y ∷ ys) more rest.2)

  begun : (views : List ℕ) → 0 < length views → (turned : List ℕ) × IsBegunAtLeast views turned
  begun [] some = absurd (omega (arith, some))
  begun (x ∷ xs) some = let l = least_of x xs in (drop l.0 (x ∷ xs) ++ take l.0 (x ∷ xs), record { at = l.0; within = l.1; turn = refl; least = l.2 })

  with_names : (cycle : List ℕ) → AreViews program cycle → (views : List (List ℕ)) × AllZip (CreatesView program) cycle views
  with_names [] are = ([], tt)
  with_names (p ∷ ps) are =
      let head = All-head (λ view. (name : List ℕ) × CreatesView program view name) p ps are in
      let rest = with_names ps (All-tail (λ view. (name : List ℕ) × CreatesView program view name) p ps are) in
      (head.0 ∷ rest.0, (head.1, rest.1))

  abbrev Decided : Type 0
  Decided = ((order : List ℕ) × IsResolved program order) ⊎ ((fault : NameFault) × IsNameFault program fault)

  with_circle : HasOutputs program → Circle (Uses program) → Decided
  with_circle outputs circle =
      let turned = begun circle.0 circle.1.some in
      let cycle = IsCycle-turned (Uses program) circle.0 turned.0 circle.1 circle.2 turned.1 in
      let views = with_names turned.0 (are_used program turned.0 cycle.closed) in
      inr (Cycle views.0, (outputs, record { indexes = turned.0; cycle = cycle; named = views.1 }))

  with_ranks : HasOutputs program → ((v : ℕ) → v < length program → (rank : ℕ) × HasRank (Uses program) v rank) → Decided
  unfolding IsListed
  with_ranks outputs ranks =
      let all : All (λ v. (rank : ℕ) × HasRank (Uses program) v rank) (views_of program) =
      All-weaker (IsListed 0 program) (λ v. (rank : ℕ) × HasRank (Uses program) v rank) (λ v h. ranks v (omega (arith, h.1, h.2))) (views_of program) (listed program 0) in
      let order = put_in_order (Uses program) (views_of program) all in
      inl (
        map (λ view. view + 1) order.0,
        resolved_by program order.0 outputs
            (λ views closed. no_circle (Uses program) (λ a b h. ranks a (user_within program a (view_named h.name) h.source (cases_lt a (length program)))) views closed) order.1 _ refl,
      )

  with_outputs : HasOutputs program → Decided
  with_outputs outputs = ⊎_elim (with_ranks outputs) (with_circle outputs) (ranks_or_circle (Uses program) (length program) used_within uses_or)

  with_names_sound : HasNames program → Decided
  with_names_sound names =
      ⊎_elim (λ differ. with_outputs (record { names = names; outputs_distinct = differ }))
      (λ h. inr (DuplicateOutput (length h.before + 1) h.value, (names, output_again h)))
      (again_or [] output_of same_text few_outputs [] program (λ i j d less within. absurd (omega (arith, within))))

  unknown_fault : AllDiffer (names_defined program) → (n : ℕ) (x : Named) → LooksUpUndefined program n x → Decided
  unknown_fault distinct n (view_named name) h = inr (UnknownView n name, (distinct, h))
  unknown_fault distinct n (dictionary_named name) h = inr (UnknownDictionary n name, (distinct, h))

  with_distinct : AllDiffer (names_defined program) → Decided
  with_distinct distinct =
      ⊎_elim (λ defined. with_names_sound (record { distinct = distinct; defined = defined })) (λ h. unknown_fault distinct h.0 h.1 h.2)
      (undefined_or [] program refl (λ k d below. absurd (omega (arith, below))))

  one_of_two : Decided
  one_of_two =
      ⊎_elim with_distinct (λ h. inr (DuplicateName (length h.before + 1) (text_of h.value), defines_again h))
      (again_or document defined_by same_named few_defined [] program (λ i j d less within same. absurd (omega (arith, less, within))))

  abbrev Same : NameFault → NameFault → Type 0
  Same f g = (f ≡ g) ⊎ (IsCycleFault f × IsCycleFault g)

  two : (C : ℕ → List ℕ → NameFault) (n m : ℕ) (a b : List ℕ) → n ≡ m → a ≡ b → C n a ≡ C m b
  two C n m a b e h = ap (λ (i : ℕ). C i a) e ∙ ap (C m) h

  one_fault : (f g : NameFault) → IsNameFault program f → IsNameFault program g → Same f g
  one_fault (DuplicateName n a) (DuplicateName m b) h k = let one = one_definition n m a b h k in inl (two DuplicateName n m a b one.0 one.1)
  one_fault (DuplicateName n a) (UnknownView m b) h k = absurd (defines_not n a h k.0)
  one_fault (DuplicateName n a) (UnknownDictionary m b) h k = absurd (defines_not n a h k.0)
  one_fault (DuplicateName n a) (DuplicateOutput m b) h k = absurd (defines_not n a h k.0.distinct)
  one_fault (DuplicateName n a) (Cycle views) h k = absurd (defines_not n a h k.0.names.distinct)
  one_fault (UnknownView n a) (DuplicateName m b) h k = absurd (defines_not m b k h.0)
  one_fault (UnknownView n a) (UnknownView m b) h k = let one = one_unknown n m (view_named a) (view_named b) h.1 k.1 in inl (two UnknownView n m a b one.0 (same_view a b one.1))
  one_fault (UnknownView n a) (UnknownDictionary m b) h k = absurd (apart a b (one_unknown n m (view_named a) (dictionary_named b) h.1 k.1).1)
  one_fault (UnknownView n a) (DuplicateOutput m b) h k = absurd (looks_not n (view_named a) h.1 k.0.defined)
  one_fault (UnknownView n a) (Cycle views) h k = absurd (looks_not n (view_named a) h.1 k.0.names.defined)
  one_fault (UnknownDictionary n a) (DuplicateName m b) h k = absurd (defines_not m b k h.0)
  one_fault (UnknownDictionary n a) (UnknownView m b) h k = absurd (apart b a (one_unknown m n (view_named b) (dictionary_named a) k.1 h.1).1)
  one_fault (UnknownDictionary n a) (UnknownDictionary m b) h k = let one = one_unknown n m (dictionary_named a) (dictionary_named b) h.1 k.1 in inl (two UnknownDictionary n m a b one.0 (same_dictionary a b one.1))
  one_fault (UnknownDictionary n a) (DuplicateOutput m b) h k = absurd (looks_not n (dictionary_named a) h.1 k.0.defined)
  one_fault (UnknownDictionary n a) (Cycle views) h k = absurd (looks_not n (dictionary_named a) h.1 k.0.names.defined)
  one_fault (DuplicateOutput n a) (DuplicateName m b) h k = absurd (defines_not m b k h.0.distinct)
  one_fault (DuplicateOutput n a) (UnknownView m b) h k = absurd (looks_not m (view_named b) k.1 h.0.defined)
  one_fault (DuplicateOutput n a) (UnknownDictionary m b) h k = absurd (looks_not m (dictionary_named b) k.1 h.0.defined)
  one_fault (DuplicateOutput n a) (DuplicateOutput m b) h k = let one = one_output n m a b h.1 k.1 in inl (two DuplicateOutput n m a b one.0 one.1)
  one_fault (DuplicateOutput n a) (Cycle views) h k = absurd (outputs_not n a h.1 k.0.outputs_distinct)
  one_fault (Cycle views) (DuplicateName m b) h k = absurd (defines_not m b k h.0.names.distinct)
  one_fault (Cycle views) (UnknownView m b) h k = absurd (looks_not m (view_named b) k.1 h.0.names.defined)
  one_fault (Cycle views) (UnknownDictionary m b) h k = absurd (looks_not m (dictionary_named b) k.1 h.0.names.defined)
  one_fault (Cycle views) (DuplicateOutput m b) h k = absurd (outputs_not m b k.1 h.0.outputs_distinct)
  one_fault (Cycle views) (Cycle others) h k = inr (tt, tt)

  not_both : (order : List ℕ) (f : NameFault) → IsResolved program order → ¬ (IsNameFault program f)
  not_both order (DuplicateName n a) r h = defines_not n a h r.outputs.names.distinct
  not_both order (UnknownView n a) r h = looks_not n (view_named a) h.1 r.outputs.names.defined
  not_both order (UnknownDictionary n a) r h = looks_not n (dictionary_named a) h.1 r.outputs.names.defined
  not_both order (DuplicateOutput n a) r h = outputs_not n a h.1 r.outputs.outputs_distinct
  not_both order (Cycle views) r h = r.no_cycle h.1.indexes h.1.cycle.closed

  one_order : (xs ys : List ℕ) → IsResolved program xs → IsResolved program ys → xs ≡ ys
  one_order xs ys h k = h.numbers ∙ ap (λ (ps : List ℕ). map (λ view. view + 1) ps) (one_by_rank (Uses program) (views_of program) h.ranked k.ranked (views_differ program) h.by_rank k.by_rank) ∙ sym k.numbers

  pub decided : IsNameDecided program
  decided = record { one_of_two = one_of_two; one_order = one_order; one_fault = one_fault; not_both = not_both }
