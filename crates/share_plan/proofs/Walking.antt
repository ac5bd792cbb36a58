-- Walks from the outputs of a plan: one step more, and what is known when all steps are done.
use Rattle.std.proofs.Common.{◌≡◌, ◌∙◌, ℕ, ◌+◌, ◌-◌, ◌*◌, ◌<◌, ◌≤◌, ◌⊎◌, inl, inr, Bool, true, false, not, cond, List, [], ◌∷◌, ◌++◌, length, map, take, set, get_or, slice_get, count_by, refl, sym, ap, subst, arith, Option, Some, None}
use Rattle.std.specs.List.{All, Contains}
use Rattle.std.specs.Option.{IfSome}
use Rattle.std.proofs.Math.Nat.{suc-mul}
use Rattle.std.proofs.Math.Seq.{take-append_seam}
use Rattle.std.proofs.lemmas.Bool.{cases_lt, true≢false}
use Rattle.std.proofs.lemmas.List.{length-append, length-set, length-take, take_all, take_more, get_or_at, get_or_append_left, get_or-set_same, get_or-set_other, get_or-take, get_or_past, take-append-le}
use Rattle.std.proofs.lemmas.List.Elements.{All-contains, All-map, All-push, Contains-append_left, Contains-push, Contains-push_cases}
use Rattle.std.proofs.lemmas.List.Quantifiers.{all_pairs_push}
use Rattle.std.proofs.lemmas.List.Sums.{sum_by-set}
use Rattle.std.proofs.lemmas.Option.{none-some, same_Some, slice_get_within, slice_get-get_or, get_or_from_slice_get}
use Rattle.algebra.specs.declared.node.Node.{Node}
use Rattle.algebra.specs.declared.output.PlanOut.{PlanOut}
use Rattle.algebra.specs.FoldLaws.{length-each}
use Rattle.algebra.specs.Inputs.{left_input, right_input}
use Rattle.algebra.specs.Plans.{AreOutputs}
use Rattle.algebra.specs.Shapes.{shape_by, no_shape}
use Rattle.share_plan.specs.Marks.{IsMarked, AreClosed, AreFounded}
use Rattle.share_plan.specs.Walks as walks
use Rattle.share_plan.specs.Walks.{IsCalled, IsReady, AreReady, AreCalled, IsWalked, IsOrder, IsWaiting, IsWay, unmarked, missing, first_of, steps_left}
use Rattle.share_plan.proofs.Extending.{same_at}
use Rattle.share_plan.proofs.Finding.{there_in_front}

-- ---- marks

-- a number past the marks isn't marked
pub marked_within : (marks : List Bool) (i : ℕ) → IsMarked marks i → i < length marks
marked_within marks i marked = elim (cases_lt i (length marks)) [
  | inl h ↦ h
  | inr h ↦ absurd (true≢false (sym marked ∙ get_or_past marks i false h))
]

whether : (k m : ℕ) → (k ≡ m) ⊎ (k ≡ m → ⊥)
whether k m = elim (cases_lt k m) [
  | inl h ↦ inr (λ e. omega (arith, h, e))
  | inr h ↦ elim (cases_lt m k) [
    | inl l ↦ inr (λ e. omega (arith, l, e))
    | inr l ↦ inl (omega (arith, h, l))
  ]
]

pub set_stays : (marks : List Bool) (i k : ℕ) → IsMarked marks k → IsMarked (set marks i true) k
set_stays marks i k marked = elim (whether k i) [
  | inl e ↦ ap (λ (n : ℕ). get_or (set marks i true) n false) e ∙ get_or-set_same marks i true false (subst (λ (n : ℕ). n < length marks) e (marked_within marks k marked))
  | inr apart ↦ get_or-set_other marks i k true false apart ∙ marked
]

set_told : (marks : List Bool) (i k : ℕ) → IsMarked (set marks i true) k → IsMarked marks k ⊎ (k ≡ i)
set_told marks i k marked = elim (whether k i) [
  | inl e ↦ inr e
  | inr apart ↦ inl (sym (get_or-set_other marks i k true false apart) ∙ marked)
]

-- ---- elements of lists of numbers

-- where an element stands, and what stands somewhere
pub listed_at : (xs : List ℕ) (x : ℕ) → Contains xs x → (k : ℕ) × (slice_get xs k ≡ Some x)
listed_at xs x c = (c.0, slice_get-get_or xs c.0 x c.1 ∙ ap (λ (n : ℕ). Some n) c.2)

pub contains_at : (xs : List ℕ) (k x : ℕ) → slice_get xs k ≡ Some x → Contains xs x
contains_at xs k x at = (k, slice_get_within xs k x at, get_or_from_slice_get xs k x x at)

-- what stands before an index
pub taken_at : (xs : List ℕ) (n x : ℕ) → Contains (take n xs) x → (k : ℕ) × (k < n) × (slice_get xs k ≡ Some x)
taken_at xs n x c =
    let below : c.0 < n = omega (arith, c.1, length-take n xs) in
    let there : c.0 < length xs = omega (arith, c.1, length-take n xs) in
    (c.0, below, slice_get-get_or xs c.0 x there ∙ ap (λ (m : ℕ). Some m) (sym (get_or-take n xs c.0 x below) ∙ c.2))

pub contains_taken : (xs : List ℕ) (n x : ℕ) → Contains (take n xs) x → Contains xs x
contains_taken xs n x c = let t = taken_at xs n x c in contains_at xs t.0 x t.2

-- an element is one of those in front, or the last, and so are those before it
pub record IsFront (xs : List ℕ) (y k x : ℕ) : Type 0 where
  pub at : slice_get xs k ≡ Some x
  pub before : take k (xs ++ y ∷ []) ≡ take k xs

pub record IsLast (xs : List ℕ) (y k x : ℕ) : Type 0 where
  pub index : k ≡ length xs
  pub is : x ≡ y
  pub before : take k (xs ++ y ∷ []) ≡ xs

pub front_or_last : (xs : List ℕ) (y k x : ℕ) → slice_get (xs ++ y ∷ []) k ≡ Some x → IsFront xs y k x ⊎ IsLast xs y k x
front_or_last xs y k x at = elim (cases_lt k (length xs)) [
  | inl h ↦ inl (record { at = sym (there_in_front 0 xs (y ∷ []) k h) ∙ at; before = take-append-le k xs (y ∷ []) (omega (arith, h)) })
  | inr h ↦
      let last : k ≡ length xs = omega (arith, h, slice_get_within (xs ++ y ∷ []) k x at, length-append xs (y ∷ [])) in
      inr (record {
        index = last;
        is = sym (get_or_from_slice_get (xs ++ y ∷ []) k x 0 at) ∙ get_or_at xs y [] 0 k (sym last);
        before = ap (λ (n : ℕ). take n (xs ++ y ∷ [])) last ∙ take-append_seam xs (y ∷ []);
      })
]

if_all : (P Q : ℕ → Type 0) (o : Option ℕ) → ((i : ℕ) → P i → Q i) → IfSome o P → IfSome o Q
if_all P Q None weaker holds = tt
if_all P Q (Some i) weaker holds = weaker i holds

-- ---- inputs without a mark

unmarked_told : (marks : List Bool) (o : Option ℕ) (i : ℕ) → unmarked marks o ≡ Some i → (o ≡ Some i) × (IsMarked marks i → ⊥)
unmarked_told marks None i e = absurd (none-some i e)
unmarked_told marks (Some j) i e = by (get_or marks j false) refl
  where
    by : (b : Bool) → get_or marks j false ≡ b → (Some j ≡ Some i) × (IsMarked marks i → ⊥)
    by true is = absurd (none-some i (sym (ap (λ (b : Bool). cond b None (Some j)) is) ∙ e))
    by false is =
        let same : j ≡ i = same_Some j i (sym (ap (λ (b : Bool). cond b None (Some j)) is) ∙ e) in
        (ap (λ (n : ℕ). Some n) same, λ marked. true≢false (sym marked ∙ (ap (λ (n : ℕ). get_or marks n false) (sym same) ∙ is)))

unmarked_none : (marks : List Bool) (o : Option ℕ) → unmarked marks o ≡ None → IfSome o (IsMarked marks)
unmarked_none marks None e = tt
unmarked_none marks (Some j) e = by (get_or marks j false) refl
  where
    by : (b : Bool) → get_or marks j false ≡ b → IsMarked marks j
    by true is = is
    by false is = absurd (none-some j (sym e ∙ ap (λ (b : Bool). cond b None (Some j)) is))

-- an input without a mark: the left one, or the right one where the left one has a mark
abbrev IsFirstMissing : List Bool → Node → ℕ → Type 0
IsFirstMissing marks node i = (left_input node ≡ Some i) ⊎ ((right_input node ≡ Some i) × IfSome (left_input node) (IsMarked marks))

missing_some : (marks : List Bool) (node : Node) (i : ℕ) → missing marks node ≡ Some i → (IsMarked marks i → ⊥) × IsFirstMissing marks node i
missing_some marks node i e = by (unmarked marks (left_input node)) refl
  where
    by : (o : Option ℕ) → unmarked marks (left_input node) ≡ o → (IsMarked marks i → ⊥) × IsFirstMissing marks node i
    by None is =
        let right = unmarked_told marks (right_input node) i (sym (ap (λ (o : Option ℕ). first_of o (unmarked marks (right_input node))) is) ∙ e) in
        (right.1, inr (right.0, unmarked_none marks (left_input node) is))
    by (Some j) is =
        let left = unmarked_told marks (left_input node) i (is ∙ (sym (ap (λ (o : Option ℕ). first_of o (unmarked marks (right_input node))) is) ∙ e)) in
        (left.1, inl left.0)

missing_none : (marks : List Bool) (node : Node) → missing marks node ≡ None → IfSome (left_input node) (IsMarked marks) × IfSome (right_input node) (IsMarked marks)
missing_none marks node e = by (unmarked marks (left_input node)) refl
  where
    by : (o : Option ℕ) → unmarked marks (left_input node) ≡ o → IfSome (left_input node) (IsMarked marks) × IfSome (right_input node) (IsMarked marks)
    by None is = (
      unmarked_none marks (left_input node) is,
      unmarked_none marks (right_input node) (sym (ap (λ (o : Option ℕ). first_of o (unmarked marks (right_input node))) is) ∙ e),
    )
    by (Some j) is = absurd (none-some j (sym e ∙ ap (λ (o : Option ℕ). first_of o (unmarked marks (right_input node))) is))

-- ---- what is left of a walk

not_marked : (b : Bool) → (b ≡ true → ⊥) → b ≡ false
not_marked true never = absurd (never refl)
not_marked false never = refl

fewer_marks : (marks : List Bool) (n : ℕ) → n < length marks → (IsMarked marks n → ⊥) → count_by not (set marks n true) + 1 ≡ count_by not marks
fewer_marks marks n below fresh =
    let is : get_or marks n false ≡ false = not_marked (get_or marks n false) fresh in
    let e = subst (λ (b : Bool). count_by not (set marks n true) + cond (not b) 1 0 ≡ count_by not marks + 0) is (sum_by-set (λ (b : Bool). cond (not b) 1 0) marks n true false below) in
    omega (arith, e)

last_of : (xs : List ℕ) (x : ℕ) → get_or (xs ++ x ∷ []) (length (xs ++ x ∷ []) - 1) 0 ≡ x
last_of xs x = get_or_at xs x [] 0 (length (xs ++ x ∷ []) - 1) (omega (arith, length-append xs (x ∷ [])))

falls : (few many long t n : ℕ) → few + 1 ≡ many → t ≤ long → few * (long + 1) + t < many * (long + 1) + n
falls few many long t n one low =
    let more : many * (long + 1) ≡ few * (long + 1) + (long + 1) = ap (λ (k : ℕ). k * (long + 1)) (sym one ∙ omega arith) ∙ suc-mul few (long + 1) in
    omega (arith, more, low)

pub steps-down : (marks : List Bool) (way : List ℕ) (n i : ℕ) → i < n → steps_left marks ((way ++ n ∷ []) ++ i ∷ []) < steps_left marks (way ++ n ∷ [])
steps-down marks way n i lower = omega (arith, lower, last_of way n, last_of (way ++ n ∷ []) i)

pub steps-back : (marks : List Bool) (way : List ℕ) (n : ℕ) → n < length marks → (IsMarked marks n → ⊥) → All (λ (k : ℕ). k < length marks) way → steps_left (set marks n true) way < steps_left marks (way ++ n ∷ [])
steps-back marks way n below fresh there =
    let same : length (set marks n true) ≡ length marks = length-set marks n true in
    let low : get_or way (length way - 1) 0 ≤ length marks = elim (cases_lt 0 (length way)) [
      | inl h ↦ let last : get_or way (length way - 1) 0 < length marks = there (length way - 1) 0 (omega (arith, h)) in omega (arith, last)
      | inr h ↦ let none : get_or way (length way - 1) 0 ≡ 0 = get_or_past way (length way - 1) 0 (omega (arith, h)) in omega (arith, none)
    ] in
    let less : count_by not (set marks n true) * (length marks + 1) + get_or way (length way - 1) 0 < count_by not marks * (length marks + 1) + n =
    falls (count_by not (set marks n true)) (count_by not marks) (length marks) (get_or way (length way - 1) 0) n (fewer_marks marks n below fresh) low in
    rw (same, last_of way n) less

-- ---- one step more

module _ (nodes : List Node) (shown : List ℕ) where
  called_more : (before later : List ℕ) → ((j : ℕ) → Contains before j → Contains later j) → (i : ℕ) → IsCalled nodes shown before i → IsCalled nodes shown later i
  called_more before later more _ (walks.output i listed) = walks.output i listed
  called_more before later more _ (walks.left k i node at is called) = walks.left k i node at is (called_more before later more k called)
  called_more before later more _ (walks.right k i node at is left called) =
      walks.right k i node at is (if_all (Contains before) (Contains later) (left_input node) more left) (called_more before later more k called)

  pub walked-none : (marks : List Bool) → length marks ≡ length nodes → All (λ (mark : Bool). mark ≡ false) marks → IsWalked nodes shown [] marks
  walked-none marks long none = record {
    long = long;
    ready = λ k i at. absurd (nothing k i at);
    called = λ k i at. absurd (nothing k i at);
    marked = λ i c. absurd (omega (arith, c.1));
    listed = λ i marked. absurd (true≢false (sym marked ∙ none i false (marked_within marks i marked)));
  }
    where
      nothing : (k i : ℕ) → slice_get {X = ℕ} [] k ≡ Some i → ⊥
      nothing k i at = let below = slice_get_within [] k i at in omega (arith, below)

  module _ (order : List ℕ) (marks : List Bool) (walked : IsWalked nodes shown order marks) where
    -- a way begins with the node of an output
    pub way-one : (n : ℕ) → n < length nodes → Contains shown n → (IsMarked marks n → ⊥) → IsWay nodes shown order marks (n ∷ [])
    way-one n below listed fresh = record {
      each = λ k d under. at_first k d under;
      down = λ i j d less under. absurd (omega (arith, less, under));
    }
      where
        at_first : (k d : ℕ) → k < length (n ∷ []) → IsWaiting nodes shown order marks (get_or (n ∷ []) k d)
        at_first k d under =
            let first : k ≡ 0 = omega (arith, under) in
            subst (λ (m : ℕ). IsWaiting nodes shown order marks (get_or (n ∷ []) m d)) (sym first) (record { there = below; fresh = fresh; called = walks.output n listed })

    module _ (rest : List ℕ) (n : ℕ) (way : IsWay nodes shown order marks (rest ++ n ∷ [])) where
      pub last : IsWaiting nodes shown order marks n
      last = All-contains (IsWaiting nodes shown order marks) (rest ++ n ∷ []) n way.each (Contains-push rest n)

      -- those before it have higher numbers
      above : (k d : ℕ) → k < length rest → n < get_or rest k d
      above k d below =
          let less : get_or (rest ++ n ∷ []) (length rest) d < get_or (rest ++ n ∷ []) k d = way.down k (length rest) d below (omega (arith, length-append rest (n ∷ []))) in
          omega (arith, less, get_or_at rest n [] d (length rest) refl, get_or_append_left rest (n ∷ []) d k below)

      each_before : (k d : ℕ) → k < length rest → IsWaiting nodes shown order marks (get_or rest k d)
      each_before k d below =
          subst (IsWaiting nodes shown order marks) (get_or_append_left rest (n ∷ []) d k below) (way.each k d (omega (arith, below, length-append rest (n ∷ []))))

      pub all_within : All (λ (k : ℕ). k < length marks) rest
      all_within k d below = omega (arith, (each_before k d below).there, walked.long)

      module _ (node : Node) (at : slice_get nodes n ≡ Some node) where
        called_by : (i : ℕ) → IsFirstMissing marks node i → IsCalled nodes shown order i
        called_by i (inl is) = walks.left n i node at is last.called
        called_by i (inr is) = walks.right n i node at is.0 (if_all (IsMarked marks) (Contains order) (left_input node) walked.listed is.1) last.called

        -- the way goes on to an input
        pub way-down : (i : ℕ) → missing marks node ≡ Some i → i < n → IsWay nodes shown order marks ((rest ++ n ∷ []) ++ i ∷ [])
        way-down i e low =
            let m = missing_some marks node i e in
            record {
              each = All-push (IsWaiting nodes shown order marks) (rest ++ n ∷ []) i way.each (record { there = omega (arith, low, last.there); fresh = m.0; called = called_by i m.1 });
              down = all_pairs_push (λ upper lower. lower < upper) (rest ++ n ∷ []) i way.down (λ k d below. elim (cases_lt k (length rest)) [
                | inl h ↦ omega (arith, low, above k d h, get_or_append_left rest (n ∷ []) d k h)
                | inr h ↦
                    let seam : length rest ≡ k = omega (arith, h, below, length-append rest (n ∷ [])) in
                    omega (arith, low, get_or_at rest n [] d k seam)
              ]);
            }

        -- or comes back from the node
        pub walked-back : missing marks node ≡ None → IsWalked nodes shown (order ++ n ∷ []) (set marks n true)
        walked-back e =
            let both = missing_none marks node e in
            record {
              long = length-set marks n true ∙ walked.long;
              ready = λ k i there. elim (front_or_last order n k i there) [
                | inl h ↦ subst (λ (before : List ℕ). IsReady nodes before i) (sym h.before) (walked.ready k i h.at)
                | inr h ↦ subst (λ (before : List ℕ). IsReady nodes before i) (sym h.before) (subst (IsReady nodes order) (sym h.is) (record {
                  node = node;
                  at = at;
                  fresh = λ c. last.fresh (walked.marked n c);
                  left = if_all (IsMarked marks) (Contains order) (left_input node) walked.listed both.0;
                  right = if_all (IsMarked marks) (Contains order) (right_input node) walked.listed both.1;
                }))
              ];
              called = λ k i there. elim (front_or_last order n k i there) [
                | inl h ↦ subst (λ (before : List ℕ). IsCalled nodes shown before i) (sym h.before) (walked.called k i h.at)
                | inr h ↦ subst (λ (before : List ℕ). IsCalled nodes shown before i) (sym h.before) (subst (IsCalled nodes shown order) (sym h.is) last.called)
              ];
              marked = λ i c. elim (Contains-push_cases order n i c) [
                | inl h ↦ set_stays marks n i (walked.marked i h)
                | inr h ↦ subst (IsMarked (set marks n true)) h (get_or-set_same marks n true false (omega (arith, last.there, walked.long)))
              ];
              listed = λ i marked. elim (set_told marks n i marked) [
                | inl h ↦ Contains-append_left order (n ∷ []) i (walked.listed i h)
                | inr h ↦ subst (Contains (order ++ n ∷ [])) (sym h) (Contains-push order n)
              ];
            }

      pub way-back : IsWay nodes shown (order ++ n ∷ []) (set marks n true) rest
      way-back = record {
        each = λ k d below.
            let was = each_before k d below in
            record {
              there = was.there;
              fresh = λ marked. elim (set_told marks n (get_or rest k d) marked) [
                | inl h ↦ was.fresh h
                | inr h ↦ higher k d below h
              ];
              called = called_more order (order ++ n ∷ []) (λ j c. Contains-append_left order (n ∷ []) j c) (get_or rest k d) was.called;
            };
        down = λ i j d less below.
            let was : get_or (rest ++ n ∷ []) j d < get_or (rest ++ n ∷ []) i d = way.down i j d less (omega (arith, below, length-append rest (n ∷ []))) in
            omega (arith, was, get_or_append_left rest (n ∷ []) d i (omega (arith, less, below)), get_or_append_left rest (n ∷ []) d j below);
      }
        where
          higher : (k d : ℕ) → k < length rest → get_or rest k d ≡ n → ⊥
          higher k d below same = let more = above k d below in omega (arith, more, same)

      pub still-on : (i : ℕ) → Contains (rest ++ n ∷ []) i → Contains rest i ⊎ IsMarked (set marks n true) i
      still-on i c = elim (Contains-push_cases rest n i c) [
        | inl h ↦ inl h
        | inr h ↦ inr (subst (IsMarked (set marks n true)) h (get_or-set_same marks n true false (omega (arith, last.there, walked.long))))
      ]

-- ---- when all steps are done

module _ (nodes : List Node) (shown order : List ℕ) (marks : List Bool) (is : IsOrder nodes shown order marks) where
  pub order-closed : AreClosed nodes marks
  order-closed i node at marked =
      let l = listed_at order i (is.walked.listed i marked) in
      let r = is.walked.ready l.0 i l.1 in
      let same : r.node ≡ node = same_at nodes i r.node node r.at at in
      let listed : (j : ℕ) → Contains (take l.0 order) j → IsMarked marks j = λ j c. is.walked.marked j (contains_taken order l.0 j c) in
      subst (λ (x : Node). IfSome (left_input x) (IsMarked marks) × IfSome (right_input x) (IsMarked marks)) same
      (if_all (Contains (take l.0 order)) (IsMarked marks) (left_input r.node) listed r.left, if_all (Contains (take l.0 order)) (IsMarked marks) (right_input r.node) listed r.right)

  -- whatever a way leads to was gone through
  pub called_marked : (before : List ℕ) (i : ℕ) → IsCalled nodes shown before i → IsMarked marks i
  called_marked before _ (walks.output i listed) = is.all i listed
  called_marked before _ (walks.left k i node at e called) = subst (λ (o : Option ℕ). IfSome o (IsMarked marks)) e (order-closed k node at (called_marked before k called)).0
  called_marked before _ (walks.right k i node at e left called) = subst (λ (o : Option ℕ). IfSome o (IsMarked marks)) e (order-closed k node at (called_marked before k called)).1

  pub order-founded : AreFounded shown nodes marks
  order-founded i marked = let l = listed_at order i (is.walked.listed i marked) in by (take l.0 order) i (is.walked.called l.0 i l.1)
    where
      by : (before : List ℕ) (i : ℕ) → IsCalled nodes shown before i → Contains shown i ⊎ ((k : ℕ) × (node : Node) × (slice_get nodes k ≡ Some node) × IsMarked marks k × ((left_input node ≡ Some i) ⊎ (right_input node ≡ Some i)))
      by before _ (walks.output i listed) = inl listed
      by before _ (walks.left k i node at e called) = inr (k, node, at, called_marked before k called, inl e)
      by before _ (walks.right k i node at e left called) = inr (k, node, at, called_marked before k called, inr e)

-- ---- outputs, one after another

-- the numbers of nodes that outputs show are numbers of nodes
pub all-there : (nodes : List Node) (outs : List PlanOut) → AreOutputs nodes outs → All (λ out. out.node < length nodes) outs
all-there nodes outs are k d below = omega (arith, (are.each k d below).there, length-each no_shape shape_by nodes)

pub shown-more : (marks later : List Bool) (outs : List PlanOut) (k : ℕ) (out : PlanOut) → k < length outs → out ≡ get_or outs k out → ((i : ℕ) → IsMarked marks i → IsMarked later i) → IsMarked later out.node
    → All (λ (o : PlanOut). IsMarked marks o.node) (take k outs) → All (λ (o : PlanOut). IsMarked later o.node) (take (k + 1) outs)
shown-more marks later outs k out below is more here before =
    let list : take (k + 1) outs ≡ take k outs ++ out ∷ [] = take_more outs k out below ∙ ap (λ (o : PlanOut). take k outs ++ o ∷ []) (sym is) in
    subst (All (λ (o : PlanOut). IsMarked later o.node)) (sym list)
    (All-push (λ (o : PlanOut). IsMarked later o.node) (take k outs) out (λ j d low. more (get_or (take k outs) j d).node (before j d low)) here)

pub shown-all : (marks : List Bool) (outs items : List PlanOut) (k : ℕ) → items ≡ outs → length items ≤ k → All (λ (o : PlanOut). IsMarked marks o.node) (take k items) → (i : ℕ) → Contains (map (λ (o : PlanOut). o.node) outs) i
    → IsMarked marks i
shown-all marks outs items k same past all i c =
    let whole : take k items ≡ outs = take_all k items past ∙ same in
    subst (IsMarked marks) c.2 (All-map (IsMarked marks) (λ (o : PlanOut). o.node) outs (subst (All (λ (o : PlanOut). IsMarked marks o.node)) whole all) c.0 i c.1)
