-- Terms as lists of marks, so that a model may hold them: each argument first, then its operator.
use Rattle.std.specs.Prelude.{ℕ, ℤ, pos, ◌≡◌, ◌⊎◌, Bool, true, false, List, [], ◌∷◌, ◌++◌, refl}
use Rattle.std.proofs.Common.{sym, ◌∙◌, ap, inl, inr, append_assoc, append-nil}
use Rattle.std.specs.Coded.{Coded, code_by, coded_list, coded⊎, coded_ℕ, coded_ℤ, coded_bool}
use Rattle.scalar_ops.specs.declared.op.Op.{Op}
use Rattle.scalar_ops.specs.contracts.op.Op as op
use Rattle.scalar_ops.specs.Expressions.{Term, column, number, string, call, Terms, none, more}

-- a column, a number, a text, an operator over the arguments in front of it; true: no arguments, false: one more
abbrev pub Mark : Type 0
Mark = ℕ ⊎ (ℤ ⊎ (List ℕ ⊎ (Op ⊎ Bool)))

abbrev mutual
  pub marks : Term → List Mark
  marks (column n) = inl n ∷ []
  marks (number n) = inr (inl n) ∷ []
  marks (string t) = inr (inr (inl t)) ∷ []
  marks (call op args) = argument_marks args ++ inr (inr (inr (inl op))) ∷ []

  pub argument_marks : Terms → List Mark
  argument_marks none = inr (inr (inr (inr true))) ∷ []
  argument_marks (more t ts) = marks t ++ (argument_marks ts ++ inr (inr (inr (inr false))) ∷ [])

-- the terms and the lists of arguments that were read, the last first
abbrev pub Stacks : Type 0
Stacks = List Term × List Terms

abbrev pub operator_read : Op → List Term → List Terms → Stacks
operator_read op ts [] = (ts, [])
operator_read op ts (args ∷ rest) = (call op args ∷ ts, rest)

abbrev pub argument_read : List Term → List Terms → Stacks
argument_read (t ∷ ts) (args ∷ rest) = (ts, more t args ∷ rest)
argument_read ts rest = (ts, rest)

abbrev pub mark_read : Mark → List Term → List Terms → Stacks
mark_read (inl n) ts lists = (column n ∷ ts, lists)
mark_read (inr (inl n)) ts lists = (number n ∷ ts, lists)
mark_read (inr (inr (inl t))) ts lists = (string t ∷ ts, lists)
mark_read (inr (inr (inr (inl op)))) ts lists = operator_read op ts lists
mark_read (inr (inr (inr (inr true)))) ts lists = (ts, none ∷ lists)
mark_read (inr (inr (inr (inr false)))) ts lists = argument_read ts lists

abbrev pub read_onto : List Mark → Stacks → Stacks
read_onto [] stacks = stacks
read_onto (m ∷ ms) stacks = read_onto ms (mark_read m stacks.0 stacks.1)

mutual
  pub read-marks : (t : Term) (ms : List Mark) (ts : List Term) (lists : List Terms) → read_onto (marks t ++ ms) (ts, lists) ≡ read_onto ms (t ∷ ts, lists)
  read-marks (column n) ms ts lists = refl
  read-marks (number n) ms ts lists = refl
  read-marks (string t) ms ts lists = refl
  read-marks (call op args) ms ts lists =
      ap (λ all. read_onto all (ts, lists)) (append_assoc (argument_marks args) (inr (inr (inr (inl op))) ∷ []) ms)
      ∙ read-arguments args (inr (inr (inr (inl op))) ∷ ms) ts lists

  pub read-arguments : (args : Terms) (ms : List Mark) (ts : List Term) (lists : List Terms) → read_onto (argument_marks args ++ ms) (ts, lists) ≡ read_onto ms (ts, args ∷ lists)
  read-arguments none ms ts lists = refl
  read-arguments (more t args) ms ts lists =
      ap (λ all. read_onto all (ts, lists)) (append_assoc (marks t) (argument_marks args ++ inr (inr (inr (inr false))) ∷ []) ms)
      ∙ (read-marks t ((argument_marks args ++ inr (inr (inr (inr false))) ∷ []) ++ ms) ts lists
      ∙ (ap (λ all. read_onto all (t ∷ ts, lists)) (append_assoc (argument_marks args) (inr (inr (inr (inr false))) ∷ []) ms)
      ∙ read-arguments args (inr (inr (inr (inr false))) ∷ ms) (t ∷ ts) lists))

abbrev pub first_term : List Term → Term
first_term [] = number (pos 0)
first_term (t ∷ ts) = t

abbrev pub unmarked : List Mark → Term
unmarked ms = first_term (read_onto ms ([], [])).0

pub unmarked-marks : (t : Term) → unmarked (marks t) ≡ t
unmarked-marks t =
    ap (λ (ms : List Mark). unmarked ms) (sym (append-nil (marks t)))
    ∙ ap (λ (stacks : Stacks). first_term stacks.0) (read-marks t [] [] [])

pub mark_code : Coded Mark
mark_code = coded⊎ coded_ℕ (coded⊎ coded_ℤ (coded⊎ (coded_list coded_ℕ) (coded⊎ op.the_row.coded coded_bool)))

pub term_code : Coded Term
term_code = code_by (List Mark) (coded_list mark_code) marks unmarked unmarked-marks
