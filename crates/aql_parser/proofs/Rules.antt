-- A reader reads a part of the grammar: all that it reads has tokens of the part, and it reads whatever
-- has them, with its places, where what follows stops it and the parentheses fit.
use Rattle.std.proofs.Common.{◌≡◌, ◌∙◌, ◌⊎◌, inl, inr, ⊎_elim, ℕ, zero, suc, ◌+◌, ◌-◌, ◌≤◌, Bool, true, false, cond, List, [], ◌∷◌, length, take, Option, Some, None, refl, ap, sym, subst, codes, arith, if◌then◌else◌}
use Rattle.std.specs.Bool.{⊤}
use Rattle.std.specs.List.{count_by}
use Rattle.std.proofs.lemmas.Bool.{false≢true, eqb-true, eq-eqb}
use Rattle.std.proofs.lemmas.List.Sums.{sum_by-cons}
use Prim.Native.String.{String}
use Rattle.aql_lexer.specs.Kinds.{Kind}
use Rattle.aql_lexer.specs.Kinds as k
use Rattle.aql_syntax.specs.Spellings.{free, same_word}
use Rattle.aql_syntax.specs.Parts.{Part, ◌▸◌, Token, Keyword, Optional}
use Rattle.aql_syntax.specs.Places.{Placing, placed_optional}
use Rattle.aql_parser.specs.Nesting.{is_sign, IsWithin}
use Rattle.aql_parser.specs.Readers.{Reader, and_then, pure, ◌⊗◌, ◌▷◌, ◌◁◌, mapped, eaten, optional, where_seen, after, take_if, sees, sees_word, sees_symbol, symbol, keyword}

-- what is found where a part stands
pub record Found {A : Type 0} (read : Reader A) (place : Placing A) (d n : ℕ) (ks : List Kind) (a : A) (rest : List Kind) : Type 0 where
  pub reads : read n ks ≡ Some ((place n a).0, (place n a).1, rest)
  pub within : IsWithin d rest
  pub shorter : length rest ≤ length ks

pub record Reads {A : Type 0} (read : Reader A) (P : A → Part) (place : Placing A) (d : ℕ) (Stops : List Kind → Type 0) : Type 0 where
  pub sound : (n : ℕ) (ks : List Kind) (a : A) (m : ℕ) (rest : List Kind) → read n ks ≡ Some (a, m, rest) → P a ks rest
  pub complete : (n : ℕ) (ks : List Kind) (a : A) (rest : List Kind) → Stops rest → IsWithin d ks → P a ks rest → Found read place d n ks a rest

abbrev pub Always : List Kind → Type 0
Always ks = ⊤

-- a reading that went on: what was read first, and then
pub bind : {A B : Type 0} (r : Option (A × ℕ × List Kind)) (f : A → ℕ → List Kind → Option B) (b : B) → and_then r f ≡ Some b → (a : A) × (m : ℕ) × (mid : List Kind) × (r ≡ Some (a, m, mid)) × (f a m mid ≡ Some b)
bind None f b h = absurd (no_some h)
  where
    no_some : {B : Type 0} {b : B} → ◌≡◌ {A = Option B} None (Some b) → ⊥
    no_some e = cc
bind (Some r) f b h = (r.0, r.1, r.2, refl, h)

pub none_some : {B : Type 0} (b : B) → ◌≡◌ {A = Option B} None (Some b) → ⊥
none_some b e = cc

pub some_is : {B : Type 0} (a b : B) → Some a ≡ Some b → a ≡ b
some_is a b e = cc

-- the three parts of what is read
pub some_parts : {A : Type 0} (a b : A) (m n : ℕ) (ks ls : List Kind) → ◌≡◌ {A = Option (A × ℕ × List Kind)} (Some (a, m, ks)) (Some (b, n, ls)) → (a ≡ b) × (m ≡ n) × (ks ≡ ls)
some_parts a b m n ks ls e =
    let same = some_is (a, m, ks) (b, n, ls) e in
    (ap (λ t. t.0) same, ap (λ t. t.1) same, ap (λ t. t.2) same)

pub chosen : {A : Type 0} (b : Bool) (x y z : A) → cond b x y ≡ z → ((b ≡ true) × (x ≡ z)) ⊎ ((b ≡ false) × (y ≡ z))
chosen true x y z h = inl (refl, h)
chosen false x y z h = inr (refl, h)

counted : (p : Kind → Bool) (b : Bool) (i : ℕ) (kind : Kind) (rest : List Kind) → p kind ≡ b → count_by p (take (suc i) (kind ∷ rest)) ≡ cond b 1 0 + count_by p (take i rest)
counted p b i kind rest is =
    sum_by-cons (λ x. cond (p x) 1 0) kind (take i rest) ∙ ap (λ c. cond c 1 0 + count_by p (take i rest)) is

-- a token that is no parenthesis leaves as much room
pub within_after : (d : ℕ) (kind : Kind) (rest : List Kind) → is_sign "(" kind ≡ false → is_sign ")" kind ≡ false → IsWithin d (kind ∷ rest) → IsWithin d rest
within_after d kind rest no_open no_close h = λ i.
    let o = counted (is_sign "(") false i kind rest no_open in
    let c = counted (is_sign ")") false i kind rest no_close in
    omega (arith, o, c, h (suc i))

-- an open parenthesis takes a level
pub within_open : (d : ℕ) (rest : List Kind) → IsWithin d (k.symbol 40 ∷ rest) → (e : ℕ) × (d ≡ suc e) × IsWithin e rest
within_open zero rest h =
    let o = counted (is_sign "(") true 0 (k.symbol 40) rest refl in
    let c = counted (is_sign ")") false 0 (k.symbol 40) rest refl in
    absurd (omega (arith, o, c, h 1))
within_open (suc e) rest h = (
  e,
  refl,
  λ i.
      let o = counted (is_sign "(") true i (k.symbol 40) rest refl in
      let c = counted (is_sign ")") false i (k.symbol 40) rest refl in
      omega (arith, o, c, h (suc i)),
)

-- and a closed one gives it back
pub within_close : (d : ℕ) (rest : List Kind) → IsWithin d (k.symbol 41 ∷ rest) → IsWithin (suc d) rest
within_close d rest h = λ i.
    let o = counted (is_sign "(") false i (k.symbol 41) rest refl in
    let c = counted (is_sign ")") true i (k.symbol 41) rest refl in
    omega (arith, o, c, h (suc i))

-- a reader that takes one token of a part
pub record Takes (test : List Kind → Bool) (P : Part) : Type 0 where
  pub found : (ks : List Kind) → test ks ≡ true → P ks (after ks)
  pub tested : (ks rest : List Kind) → P ks rest → (test ks ≡ true) × (kind : Kind) × (ks ≡ kind ∷ rest) × (is_sign "(" kind ≡ false) × (is_sign ")" kind ≡ false)

-- what is only passed over, up to a number
abbrev pub passing : (ℕ → ℕ) → Placing (Unit {0})
passing step n u = (u, step n)

-- one token
abbrev pub one : Placing (Unit {0})
one = passing (λ n. n + 1)

-- a part and the part after it
abbrev pub placed_pair : {A B : Type 0} → Placing A → Placing B → Placing (A × B)
placed_pair p q n ab = let a' = p n ab.0 in let b' = q a'.1 ab.1 in ((a'.0, b'.0), b'.1)

pub reads_token : {test : List Kind → Bool} {P : Part} (d : ℕ) → Takes test P → Reads (take_if test) (λ u. P) one d Always
reads_token {test} {P} d takes = record {
  sound = λ n ks u m rest h. ⊎_elim
      (λ p. subst (λ (r : List Kind). P ks r) (some_parts _ _ _ _ _ _ p.1).2 (takes.found ks p.0))
      (λ p. absurd (none_some _ p.1))
      (chosen (test ks) _ _ _ h);
  complete = λ n ks u rest stops within h.
      let seen = takes.tested ks rest h in
      let there : IsWithin d (seen.1 ∷ rest) = rw seen.2 at within in
      record {
        reads = rw (seen.0, seen.2) refl;
        within = within_after d seen.1 rest seen.3 seen.4 there;
        shorter = rw seen.2 (omega arith);
      };
}

-- keywords and signs
pub sees_word_is : (w : List ℕ) (ks : List Kind) → sees_word w ks ≡ true → (v : List ℕ) × (ks ≡ k.word v ∷ after ks) × (same_word v w ≡ true)
sees_word_is w (k.word v ∷ ks) h = (v, refl, h)
sees_word_is w [] h = absurd (false≢true h)
sees_word_is w (k.name t ∷ ks) h = absurd (false≢true h)
sees_word_is w (k.int i ∷ ks) h = absurd (false≢true h)
sees_word_is w (k.str t ∷ ks) h = absurd (false≢true h)
sees_word_is w (k.regex t ∷ ks) h = absurd (false≢true h)
sees_word_is w (k.symbol c ∷ ks) h = absurd (false≢true h)

pub takes_keyword : (w : String) → Takes (sees w) (Keyword free w)
takes_keyword w = record {
  found = λ ks h. sees_word_is (codes w) ks h;
  tested = λ ks rest h. (rw h.1 h.2, k.word h.0, h.1, refl, refl);
}

pub sees_symbol_is : (c : ℕ) (ks : List Kind) → sees_symbol c ks ≡ true → ks ≡ k.symbol c ∷ after ks
sees_symbol_is c (k.symbol b ∷ ks) h = ap (λ (d : ℕ). k.symbol d ∷ ks) (eqb-true b c h)
sees_symbol_is c [] h = absurd (false≢true h)
sees_symbol_is c (k.word v ∷ ks) h = absurd (false≢true h)
sees_symbol_is c (k.name t ∷ ks) h = absurd (false≢true h)
sees_symbol_is c (k.int i ∷ ks) h = absurd (false≢true h)
sees_symbol_is c (k.str t ∷ ks) h = absurd (false≢true h)
sees_symbol_is c (k.regex t ∷ ks) h = absurd (false≢true h)

-- a sign that is no parenthesis
pub takes_sign : (c : ℕ) → is_sign "(" (k.symbol c) ≡ false → is_sign ")" (k.symbol c) ≡ false → Takes (sees_symbol c) (Token (k.symbol c))
takes_sign c no_open no_close = record {
  found = λ ks h. sees_symbol_is c ks h;
  tested = λ ks rest h. (rw h (eq-eqb c c refl), k.symbol c, h, no_open, no_close);
}

pub reads_keyword : (d : ℕ) (w : String) → Reads (keyword w) (λ u. Keyword free w) one d Always
reads_keyword d w = reads_token d (takes_keyword w)

-- the same part of what is the same
pub carried : {A : Type 0} (P : A → Part) (a b : A) (ks rest left : List Kind) → a ≡ b → rest ≡ left → P a ks rest → P b ks left
carried P a b ks rest left same_a same_rest h = subst (λ (l : List Kind). P b ks l) same_rest (subst (λ x. P x ks rest) same_a h)

-- one part after another
module _ {A B : Type 0} {r : Reader A} {P : A → Part} {p : Placing A} {q : Reader B} {Q : B → Part} {q' : Placing B} {S T : List Kind → Type 0} (d : ℕ) (first : Reads r P p d S) (second : Reads q Q q' d T) where
  pub reads_pair : ((b : B) (ks rest : List Kind) → T rest → Q b ks rest → S ks) → Reads (r ⊗ q) (λ ab. P ab.0 ▸ Q ab.1) (placed_pair p q') d T
  reads_pair follows = record {
    sound = λ n ks ab m rest h.
        let one = bind (r n ks) _ _ h in
        let two = bind (q one.1 one.2) _ _ one.4 in
        let same = some_parts _ _ _ _ _ _ two.4 in
        carried (λ ab. P ab.0 ▸ Q ab.1) (one.0, two.0) ab ks two.2 rest same.0 same.2
        (one.2, first.sound n ks one.0 one.1 one.2 one.3, second.sound one.1 one.2 two.0 two.1 two.2 two.3);
    complete = λ n ks ab rest stops within h.
        let one = first.complete n ks ab.0 h.0 (follows ab.1 h.0 rest stops h.2) within h.1 in
        let two = second.complete (p n ab.0).1 h.0 ab.1 rest stops one.within h.2 in
        record {
          reads = rw (one.reads, two.reads) refl;
          within = two.within;
          shorter = omega (arith, one.shorter, two.shorter);
        };
  }

-- a part that is only passed over, and then a part
module _ {B : Type 0} {w : Reader (Unit {0})} {W : Part} {step : ℕ → ℕ} {q : Reader B} {Q : B → Part} {q' : Placing B} {T : List Kind → Type 0} (d : ℕ) (first : Reads w (λ u. W) (passing step) d Always) (second : Reads q Q q' d T) where
  pub reads_after : Reads (w ▷ q) (λ b. W ▸ Q b) (λ n b. q' (step n) b) d T
  reads_after = record {
    sound = λ n ks b m rest h.
        let one = bind (w n ks) _ _ h in
        (one.2, first.sound n ks one.0 one.1 one.2 one.3, second.sound one.1 one.2 b m rest one.4);
    complete = λ n ks b rest stops within h.
        let one = first.complete n ks tt h.0 tt within h.1 in
        let two = second.complete (step n) h.0 b rest stops one.within h.2 in
        record {
          reads = rw one.reads two.reads;
          within = two.within;
          shorter = omega (arith, one.shorter, two.shorter);
        };
  }

-- a part, and then one that is only passed over
module _ {A : Type 0} {r : Reader A} {P : A → Part} {p : Placing A} {w : Reader (Unit {0})} {W : Part} {step : ℕ → ℕ} {S : List Kind → Type 0} (d : ℕ) (first : Reads r P p d S) (second : Reads w (λ u. W) (passing step) d Always) where
  pub reads_before : ((ks rest : List Kind) → W ks rest → S ks) → Reads (r ◁ w) (λ a. P a ▸ W) (λ n a. ((p n a).0, step (p n a).1)) d Always
  reads_before follows = record {
    sound = λ n ks a m rest h.
        let one = bind (r n ks) _ _ h in
        let two = bind (w one.1 one.2) _ _ one.4 in
        let same = some_parts _ _ _ _ _ _ two.4 in
        carried (λ a. P a ▸ W) one.0 a ks two.2 rest same.0 same.2
        (one.2, first.sound n ks one.0 one.1 one.2 one.3, second.sound one.1 one.2 two.0 two.1 two.2 two.3);
    complete = λ n ks a rest stops within h.
        let one = first.complete n ks a h.0 (follows h.0 rest h.2) within h.1 in
        let two = second.complete (p n a).1 h.0 tt rest tt one.within h.2 in
        record {
          reads = rw (one.reads, two.reads) refl;
          within = two.within;
          shorter = omega (arith, one.shorter, two.shorter);
        };
  }

-- what a reader reads, made into something else
pub record Made {A B : Type 0} (f : A → B) (P : A → Part) (p : Placing A) (place : Placing B) (b : B) (ks rest : List Kind) : Type 0 where
  pub of : A
  pub part : P of ks rest
  pub places : (n : ℕ) → (place n b).0 ≡ f (p n of).0
  pub next : (n : ℕ) → (place n b).1 ≡ (p n of).1

module _ {A B : Type 0} {r : Reader A} {P : A → Part} {p : Placing A} {S : List Kind → Type 0} (d : ℕ) (f : A → B) (reader : Reads r P p d S) (P' : B → Part) (place : Placing B) where
  pub reads_mapped : ((a : A) (ks rest : List Kind) → P a ks rest → P' (f a) ks rest) → ((b : B) (ks rest : List Kind) → P' b ks rest → Made f P p place b ks rest) → Reads (mapped f r) P' place d S
  reads_mapped into made = record {
    sound = λ n ks b m rest h.
        let one = bind (r n ks) _ _ h in
        let same = some_parts _ _ _ _ _ _ one.4 in
        carried P' (f one.0) b ks one.2 rest same.0 same.2 (into one.0 ks one.2 (reader.sound n ks one.0 one.1 one.2 one.3));
    complete = λ n ks b rest stops within h.
        let was = made b ks rest h in
        let one = reader.complete n ks was.of rest stops within was.part in
        record {
          reads = rw (one.reads, was.places n, was.next n) refl;
          within = one.within;
          shorter = one.shorter;
        };
  }

-- a reader where less stops it
pub reads_where : {A : Type 0} {r : Reader A} {P : A → Part} {p : Placing A} {S T : List Kind → Type 0} (d : ℕ) → Reads r P p d S → ((ks : List Kind) → T ks → S ks) → Reads r P p d T
reads_where d reader stops = record {
  sound = reader.sound;
  complete = λ n ks a rest stop within h. reader.complete n ks a rest (stops rest stop) within h;
}

-- the test is passed where the token is taken
pub eaten_true : {A : Type 0} (test : List Kind → Bool) (r : Reader A) (n : ℕ) (ks : List Kind) (x : A × ℕ × List Kind) → (take_if test ▷ r) n ks ≡ Some x → test ks ≡ true
eaten_true test r n ks x h = from_test (test ks) refl
  where
    from_test : (b : Bool) → test ks ≡ b → test ks ≡ true
    from_test true is = is
    from_test false is = absurd (none_some x (rw is at h))

-- a choice by the next token
module _ {A : Type 0} (test : List Kind → Bool) (r s : Reader A) {P1 P2 : A → Part} {place : Placing A} {S : List Kind → Type 0} (d : ℕ) (first : Reads (take_if test ▷ r) P1 place d S) (second : Reads s P2 place d S) (P : A → Part) where
  pub reads_choice : ((a : A) (ks rest : List Kind) → P1 a ks rest → P a ks rest) → ((a : A) (ks rest : List Kind) → P2 a ks rest → P a ks rest) → ((a : A) (ks rest : List Kind) → S rest → P a ks rest → P1 a ks rest ⊎ ((test ks ≡ false) × P2 a ks rest)) → Reads (eaten test r s) P place d S
  reads_choice into1 into2 split = record {
    sound = λ n ks a m rest h. ⊎_elim
        (λ c. into1 a ks rest (first.sound n ks a m rest (rw c.0 c.1)))
        (λ c. into2 a ks rest (second.sound n ks a m rest c.1))
        (chosen (test ks) _ _ _ h);
    complete = λ n ks a rest stops within h. ⊎_elim
        (λ h1.
        let one = first.complete n ks a rest stops within h1 in
        let passed = eaten_true test r n ks _ one.reads in
        record { reads = rw passed (rw passed at one.reads); within = one.within; shorter = one.shorter })
        (λ c.
        let two = second.complete n ks a rest stops within c.1 in
        record { reads = rw c.0 two.reads; within = two.within; shorter = two.shorter })
        (split a ks rest stops h);
  }

-- a part that may be left out, where the next token tells
module _ {A : Type 0} (test : List Kind → Bool) (r : Reader A) {P : A → Part} {place : Placing A} {S : List Kind → Type 0} (d : ℕ) where
  pub reads_optional : Reads (take_if test ▷ r) P place d S → Reads (optional test r) (Optional P) (placed_optional place) d (λ ks. S ks × (test ks ≡ false))
  reads_optional reader = record {
    sound = λ n ks o m rest h. ⊎_elim
        (λ c.
        let one = bind (r (n + 1) (after ks)) _ _ c.1 in
        let same = some_parts _ _ _ _ _ _ one.4 in
        carried (Optional P) (Some one.0) o ks one.2 rest same.0 same.2 (reader.sound n ks one.0 one.1 one.2 (rw c.0 one.3)))
        (λ c.
        let same = some_parts _ _ _ _ _ _ c.1 in
        carried (Optional P) None o ks ks rest same.0 same.2 refl)
        (chosen (test ks) _ _ _ h);
    complete = λ n ks o rest stops within h. optional_complete n ks o rest stops.0 stops.1 within h;
  }
    where
      optional_complete : (n : ℕ) (ks : List Kind) (o : Option A) (rest : List Kind) → S rest → test rest ≡ false → IsWithin d ks → Optional P o ks rest → Found (optional test r) (placed_optional place) d n ks o rest
      optional_complete n ks None rest stops unseen within h = record {
        reads = rw h (rw unseen refl);
        within = rw h at within;
        shorter = rw h (omega arith);
      }
      optional_complete n ks (Some a) rest stops unseen within h =
          let one = reader.complete n ks a rest stops within h in
          let passed = eaten_true test r n ks _ one.reads in
          record {
            reads = rw (passed, rw passed at one.reads) refl;
            within = one.within;
            shorter = one.shorter;
          }

  -- the same where the token belongs to the part
  pub reads_where_seen : Reads r P place d S → ((a : A) (ks rest : List Kind) → P a ks rest → test ks ≡ true) → Reads (where_seen test r) (Optional P) (placed_optional place) d (λ ks. S ks × (test ks ≡ false))
  reads_where_seen reader begins = record {
    sound = λ n ks o m rest h. ⊎_elim
        (λ c.
        let one = bind (r n ks) _ _ c.1 in
        let same = some_parts _ _ _ _ _ _ one.4 in
        carried (Optional P) (Some one.0) o ks one.2 rest same.0 same.2 (reader.sound n ks one.0 one.1 one.2 one.3))
        (λ c.
        let same = some_parts _ _ _ _ _ _ c.1 in
        carried (Optional P) None o ks ks rest same.0 same.2 refl)
        (chosen (test ks) _ _ _ h);
    complete = λ n ks o rest stops within h. seen_complete n ks o rest stops.0 stops.1 within h;
  }
    where
      seen_complete : (n : ℕ) (ks : List Kind) (o : Option A) (rest : List Kind) → S rest → test rest ≡ false → IsWithin d ks → Optional P o ks rest → Found (where_seen test r) (placed_optional place) d n ks o rest
      seen_complete n ks None rest stops unseen within h = record {
        reads = rw h (rw unseen refl);
        within = rw h at within;
        shorter = rw h (omega arith);
      }
      seen_complete n ks (Some a) rest stops unseen within h =
          let one = reader.complete n ks a rest stops within h in
          record {
            reads = rw (begins a ks rest h, one.reads) refl;
            within = one.within;
            shorter = one.shorter;
          }

-- the same part, said otherwise
pub reads_as : {A : Type 0} {r : Reader A} {P : A → Part} {p : Placing A} {S : List Kind → Type 0} (d : ℕ) → Reads r P p d S → (Q : A → Part) → ((a : A) (ks rest : List Kind) → P a ks rest → Q a ks rest) → ((a : A) (ks rest : List Kind) → Q a ks rest → P a ks rest) → Reads r Q p d S
reads_as d reader Q into out = record {
  sound = λ n ks a m rest h. into a ks rest (reader.sound n ks a m rest h);
  complete = λ n ks a rest stops within h. reader.complete n ks a rest stops within (out a ks rest h);
}

-- the same of what is made after a part that is passed over
skipped_made : {A B : Type 0} (f : A → B) (o : Option (Unit {0} × ℕ × List Kind)) (r : Reader A) (a : A) (m : ℕ) (rest : List Kind) → and_then o (λ u l mid. r l mid) ≡ Some (a, m, rest) → and_then o (λ u l mid. mapped f r l mid) ≡ Some (f a, m, rest)
skipped_made f None r a m rest h = absurd (none_some _ h)
skipped_made f (Some t) r a m rest h = rw h refl

made_skipped : {A B : Type 0} (f : A → B) (o : Option (Unit {0} × ℕ × List Kind)) (r : Reader A) (b : B) (m : ℕ) (rest : List Kind) → and_then o (λ u l mid. mapped f r l mid) ≡ Some (b, m, rest) → (a : A) × (l : ℕ) × (left : List Kind) × (and_then o (λ u l mid. r l mid) ≡ Some (a, l, left)) × (f a ≡ b) × (left ≡ rest)
made_skipped f None r b m rest h = absurd (none_some _ h)
made_skipped f (Some t) r b m rest h =
    let one = bind (r t.1 t.2) _ _ h in
    let same = some_parts _ _ _ _ _ _ one.4 in
    (one.0, one.1, one.2, one.3, same.0, same.2)

module _ {A B : Type 0} (w : Reader (Unit {0})) (r : Reader A) {P : A → Part} {p : Placing A} {S : List Kind → Type 0} (d : ℕ) (f : A → B) (reader : Reads (w ▷ r) P p d S) (P' : B → Part) (place : Placing B) where
  pub reads_after_mapped : ((a : A) (ks rest : List Kind) → P a ks rest → P' (f a) ks rest) → ((b : B) (ks rest : List Kind) → P' b ks rest → Made f P p place b ks rest) → Reads (w ▷ mapped f r) P' place d S
  reads_after_mapped into made = record {
    sound = λ n ks b m rest h.
        let one = made_skipped f (w n ks) r b m rest h in
        carried P' (f one.0) b ks one.2 rest one.4 one.5 (into one.0 ks one.2 (reader.sound n ks one.0 one.1 one.2 one.3));
    complete = λ n ks b rest stops within h.
        let was = made b ks rest h in
        let one = reader.complete n ks was.of rest stops within was.part in
        record {
          reads = rw (was.places n, was.next n) (skipped_made f (w n ks) r _ _ rest one.reads);
          within = one.within;
          shorter = one.shorter;
        };
  }

-- a token that stands for a value
module _ {B : Type 0} (test : List Kind → Bool) {W : Part} (d : ℕ) (takes : Takes test W) (value : B) (P : B → Part) where
  pub reads_value : ((ks rest : List Kind) → W ks rest → P value ks rest) → ((b : B) (ks rest : List Kind) → P b ks rest → (value ≡ b) × W ks rest) → Reads (take_if test ▷ pure value) P (λ n b. (b, n + 1)) d Always
  reads_value into out = record {
    sound = λ n ks b m rest h.
        let one = bind (take_if test n ks) _ _ h in
        let same = some_parts _ _ _ _ _ _ one.4 in
        let token = (reads_token d takes).sound n ks one.0 one.1 one.2 one.3 in
        carried P value b ks one.2 rest same.0 same.2 (into ks one.2 token);
    complete = λ n ks b rest stops within h.
        let was = out b ks rest h in
        let one = (reads_token d takes).complete n ks tt rest tt within was.1 in
        record {
          reads = rw one.reads (ap (λ v. Some (v, n + 1, rest)) was.0);
          within = one.within;
          shorter = one.shorter;
        };
  }

-- the same part and places, said otherwise
module _ {A : Type 0} {r : Reader A} {P : A → Part} {p : Placing A} {S : List Kind → Type 0} (d : ℕ) (reader : Reads r P p d S) (Q : A → Part) (place : Placing A) where
  pub reads_recast : ((a : A) (ks rest : List Kind) → P a ks rest → Q a ks rest) → ((a : A) (ks rest : List Kind) → Q a ks rest → P a ks rest) → ((a : A) (ks rest : List Kind) → Q a ks rest → (n : ℕ) → place n a ≡ p n a) → Reads r Q place d S
  reads_recast into out places = record {
    sound = λ n ks a m rest h. into a ks rest (reader.sound n ks a m rest h);
    complete = λ n ks a rest stops within h.
        let one = reader.complete n ks a rest stops within (out a ks rest h) in
        record {
          reads = rw (places a ks rest h n) one.reads;
          within = one.within;
          shorter = one.shorter;
        };
  }

-- a choice by a test that takes no token
module _ {A : Type 0} (test : List Kind → Bool) {r s : Reader A} {P1 P2 : A → Part} {place : Placing A} {S : List Kind → Type 0} (d : ℕ) (first : Reads r P1 place d S) (second : Reads s P2 place d S) (P : A → Part) where
  pub reads_tested : ((a : A) (ks rest : List Kind) → P1 a ks rest → P a ks rest) → ((a : A) (ks rest : List Kind) → P2 a ks rest → P a ks rest) → ((a : A) (ks rest : List Kind) → P a ks rest → ((test ks ≡ true) × P1 a ks rest) ⊎ ((test ks ≡ false) × P2 a ks rest)) → Reads (λ n ks. if test ks then r n ks else s n ks) P place d S
  reads_tested into1 into2 split = record {
    sound = λ n ks a m rest h. ⊎_elim
        (λ c. into1 a ks rest (first.sound n ks a m rest c.1))
        (λ c. into2 a ks rest (second.sound n ks a m rest c.1))
        (chosen (test ks) _ _ _ h);
    complete = λ n ks a rest stops within h. ⊎_elim
        (λ c.
        let one = first.complete n ks a rest stops within c.1 in
        record { reads = rw c.0 one.reads; within = one.within; shorter = one.shorter })
        (λ c.
        let two = second.complete n ks a rest stops within c.1 in
        record { reads = rw c.0 two.reads; within = two.within; shorter = two.shorter })
        (split a ks rest h);
  }

-- readers that read the same
pub reads_same : {A : Type 0} (r s : Reader A) {P : A → Part} {p : Placing A} {S : List Kind → Type 0} (d : ℕ) → Reads r P p d S → ((n : ℕ) (ks : List Kind) → s n ks ≡ r n ks) → Reads s P p d S
reads_same r s d reader same = record {
  sound = λ n ks a m rest h. reader.sound n ks a m rest (sym (same n ks) ∙ h);
  complete = λ n ks a rest stops within h.
      let one = reader.complete n ks a rest stops within h in
      record { reads = same n ks ∙ one.reads; within = one.within; shorter = one.shorter };
}

-- what is passed over, and then a pair
passed_pair : {A B : Type 0} (o : Option (Unit {0} × ℕ × List Kind)) (r : Reader A) (q : Reader B) → and_then o (λ u l mid. (r ⊗ q) l mid) ≡ and_then (and_then o (λ u l mid. r l mid)) (λ a m mid. and_then (q m mid) (λ b l rest. Some ((a, b), l, rest)))
passed_pair None r q = refl
passed_pair (Some t) r q = refl

pub reads_passed_pair : {A B : Type 0} (w : Reader (Unit {0})) (r : Reader A) (q : Reader B) {P : A × B → Part} {p : Placing (A × B)} {S : List Kind → Type 0} (d : ℕ) → Reads ((w ▷ r) ⊗ q) P p d S → Reads (w ▷ (r ⊗ q)) P p d S
reads_passed_pair w r q d reader = reads_same ((w ▷ r) ⊗ q) (w ▷ (r ⊗ q)) d reader (λ n ks. passed_pair (w n ks) r q)

-- what is passed over, and then what goes on by what was read
pub passed_on : {A B : Type 0} (o : Option (Unit {0} × ℕ × List Kind)) (r : Reader A) (f : A → Reader B) → and_then o (λ u l mid. and_then (r l mid) f) ≡ and_then (and_then o (λ u l mid. r l mid)) f
passed_on None r f = refl
passed_on (Some t) r f = refl

-- a reader that knows its own place
pub reads_at : {A : Type 0} (r : ℕ → Reader A) {P : A → Part} (p : ℕ → Placing A) {S : List Kind → Type 0} (d : ℕ) → ((at : ℕ) → Reads (r at) P (p at) d S) → Reads (λ n ks. r n n ks) P (λ n a. p n n a) d S
reads_at r p d readers = record {
  sound = λ n ks a m rest h. (readers n).sound n ks a m rest h;
  complete = λ n ks a rest stops within h.
      let one = (readers n).complete n ks a rest stops within h in
      record { reads = one.reads; within = one.within; shorter = one.shorter };
}
