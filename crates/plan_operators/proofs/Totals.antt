-- Sums over chosen numbers, of which some are chosen gone more.
use Rattle.std.proofs.Common.{◌≡◌, ◌∙◌, ◌+◌, ◌<◌, ◌≤◌, ◌==◌, ℕ, zero, suc, Bool, true, false, cond, refl, sym, ap, arith, ⊎_elim}
use Rattle.std.specs.Prelude.{◌⊎◌}
use Rattle.std.proofs.lemmas.Bool.{cases_eq, cases_lt, eq-eqb, ne_eqb, false≢true, true≢false}
use Rattle.plan_operators.specs.Readers.{total}

cond-was : (b : Bool) (x : ℕ) → b ≡ true → cond b x 0 ≡ x
cond-was true x e = refl
cond-was false x e = absurd (false≢true e)

cond-gone : (b : Bool) (x : ℕ) → b ≡ false → cond b x 0 ≡ 0
cond-gone true x e = absurd (true≢false e)
cond-gone false x e = refl

cond-fewer : (a b : Bool) (x : ℕ) → (a ≡ true → b ≡ true) → cond a x 0 ≤ cond b x 0
cond-fewer true true x h = omega arith
cond-fewer true false x h = absurd (false≢true (h refl))
cond-fewer false b x h = omega arith

cond-most : (b : Bool) (x : ℕ) → cond b x 0 ≤ x
cond-most true x = omega arith
cond-most false x = omega arith

module _ (worth : ℕ → ℕ) where
  -- where fewer are chosen the sum isn't greater
  pub total-fewer : (few many : ℕ → Bool) (m : ℕ) → ((k : ℕ) → k < m → few k ≡ true → many k ≡ true) → total few worth m ≤ total many worth m
  total-fewer few many zero less = omega arith
  total-fewer few many (suc m) less =
      let rest : total few worth m ≤ total many worth m = total-fewer few many m (λ k below. less k (omega (arith, below))) in
      let here : cond (few m) (worth m) 0 ≤ cond (many m) (worth m) 0 = cond-fewer (few m) (many m) (worth m) (less m (omega arith)) in
      omega (arith, rest, here)

  -- what one of the chosen is worth
  pub total-one : (chosen : ℕ → Bool) (n m : ℕ) → n < m → chosen n ≡ true → worth n ≤ total chosen worth m
  total-one chosen n zero below was = absurd (omega (arith, below))
  total-one chosen n (suc m) below was =
      ⊎_elim (λ (before : n < m). let rest : worth n ≤ total chosen worth m = total-one chosen n m before was in omega (arith, rest))
      (λ (last : m ≤ n).
      let is : n ≡ m = omega (arith, below, last) in
      let same : worth n ≡ worth m = ap worth is in
      let here : cond (chosen m) (worth m) 0 ≡ worth m = cond-was (chosen m) (worth m) (sym (ap chosen is) ∙ was) in
      omega (arith, same, here))
      (cases_lt n m)

  -- one of them is chosen gone more
  pub total-without : (few many : ℕ → Bool) (n m : ℕ) → n < m → ((k : ℕ) → few k ≡ true → many k ≡ true) → many n ≡ true → few n ≡ false → total few worth m + worth n ≤ total many worth m
  total-without few many n zero below less was gone = absurd (omega (arith, below))
  total-without few many n (suc m) below less was gone =
      ⊎_elim
      (λ (before : n < m).
      let rest : total few worth m + worth n ≤ total many worth m = total-without few many n m before less was gone in
      let here : cond (few m) (worth m) 0 ≤ cond (many m) (worth m) 0 = cond-fewer (few m) (many m) (worth m) (less m) in
      omega (arith, rest, here))
      (λ (last : m ≤ n).
      let is : n ≡ m = omega (arith, below, last) in
      let same : worth n ≡ worth m = ap worth is in
      let rest : total few worth m ≤ total many worth m = total-fewer few many m (λ k inside. less k) in
      let had : cond (many m) (worth m) 0 ≡ worth m = cond-was (many m) (worth m) (sym (ap many is) ∙ was) in
      let lost : cond (few m) (worth m) 0 ≡ 0 = cond-gone (few m) (worth m) (sym (ap few is) ∙ gone) in
      omega (arith, same, rest, had, lost))
      (cases_lt n m)

  -- one more may be chosen
  pub total-more : (few many : ℕ → Bool) (n m : ℕ) → ((k : ℕ) → many k ≡ true → (few k ≡ true) ⊎ (k ≡ n)) → total many worth m ≤ total few worth m + worth n
  total-more few many n zero more = omega arith
  total-more few many n (suc m) more =
      let other : (k : ℕ) → (k ≡ n → ⊥) → many k ≡ true → few k ≡ true = λ k apart was. ⊎_elim (λ (is : few k ≡ true). is) (λ (e : k ≡ n). absurd (apart e)) (more k was) in
      ⊎_elim
      (λ (last : m ≡ n).
      let same : worth m ≡ worth n = ap worth last in
      let rest : total many worth m ≤ total few worth m = total-fewer many few m (λ k below. other k (λ e. omega (arith, below, e, last))) in
      let here : cond (many m) (worth m) 0 ≤ worth m = cond-most (many m) (worth m) in
      omega (arith, same, rest, here))
      (λ (apart : m ≡ n → ⊥).
      let rest : total many worth m ≤ total few worth m + worth n = total-more few many n m more in
      let here : cond (many m) (worth m) 0 ≤ cond (few m) (worth m) 0 = cond-fewer (many m) (few m) (worth m) (other m apart) in
      omega (arith, rest, here))
      (cases_eq m n)

  -- two of them are chosen gone more
  pub total-without-two : (few many : ℕ → Bool) (n p m : ℕ) → n < m → p < m → (p ≡ n → ⊥) → ((k : ℕ) → few k ≡ true → many k ≡ true) → many n ≡ true → many p ≡ true → few n ≡ false → few p ≡ false
      → total few worth m + worth n + worth p ≤ total many worth m
  total-without-two few many n p m there also apart less was_n was_p gone_n gone_p =
      let mid : ℕ → Bool = λ k. cond (k == n) false (many k) in
      let other : (k : ℕ) → (k ≡ n → ⊥) → mid k ≡ many k = λ k differs. ap (λ (b : Bool). cond b false (many k)) (ne_eqb k n differs) in
      let itself : mid n ≡ false = ap (λ (b : Bool). cond b false (many n)) (eq-eqb n n refl) in
      let in_mid : (k : ℕ) → few k ≡ true → mid k ≡ true = λ k was. other k (λ e. true≢false (sym was ∙ (ap few e ∙ gone_n))) ∙ less k was in
      let from_mid : (k : ℕ) → mid k ≡ true → many k ≡ true = λ k was.
      ⊎_elim (λ (e : k ≡ n). ap many e ∙ was_n) (λ (differs : k ≡ n → ⊥). sym (other k differs) ∙ was) (cases_eq k n) in
      let first : total mid worth m + worth n ≤ total many worth m = total-without mid many n m there from_mid was_n itself in
      let second : total few worth m + worth p ≤ total mid worth m = total-without few mid p m also in_mid (other p apart ∙ was_p) gone_p in
      omega (arith, first, second)

  -- none is chosen
  pub total-none : (chosen : ℕ → Bool) (m : ℕ) → ((k : ℕ) → k < m → chosen k ≡ true → ⊥) → total chosen worth m ≡ 0
  total-none chosen m none =
      let nothing : total chosen worth m ≤ total (λ k. false) worth m = total-fewer chosen (λ k. false) m (λ k below was. absurd (none k below was)) in
      omega (arith, nothing, all_none m)
    where
      all_none : (n : ℕ) → total (λ k. false) worth n ≡ 0
      all_none zero = refl
      all_none (suc n) = omega (arith, all_none n)
