-- Expressions as definitions see them, and the columns that they read.
use Rattle.std.specs.Prelude.{ℕ, ◌<◌, ◌≤◌, nat_lt, nat_le, ℤ, Bool, List, [], ◌∷◌, ◌++◌, All}
use Rattle.std.specs.List.{list_all}
use Rattle.scalar_ops.specs.declared.op.Op.{Op}

mutual
  -- a column of the row, an integer, a text, or an operator with its arguments
  pub data Term : Type 0 where
    column : ℕ → Term
    number : ℤ → Term
    string : List ℕ → Term
    call : Op → Terms → Term

  -- the arguments of an operator
  pub data Terms : Type 0 where
    none : Terms
    more : Term → Terms → Terms

-- the arguments as a list
abbrev pub list_of : Terms → List Term
list_of none = []
list_of (more t ts) = t ∷ list_of ts

-- a list as arguments
abbrev pub terms : List Term → Terms
terms [] = none
terms (t ∷ ts) = more t (terms ts)

abbrev mutual
  -- the columns that an expression reads, from the left
  pub columns_of : Term → List ℕ
  columns_of (column n) = n ∷ []
  columns_of (number n) = []
  columns_of (string t) = []
  columns_of (call op args) = columns_in args

  pub columns_in : Terms → List ℕ
  columns_in none = []
  columns_in (more t ts) = columns_of t ++ columns_in ts

-- every column that it reads is below a width
abbrev pub ReadsBelow : ℕ → Term → Type 0
ReadsBelow width t = All (λ n. n < width) (columns_of t)

-- whether every column that it reads is below a width
abbrev pub does_read_below : ℕ → Term → Bool
does_read_below width t = list_all (λ n. nat_lt n width) (columns_of t)

-- no column that it reads is below a width
abbrev pub ReadsFrom : ℕ → Term → Type 0
ReadsFrom width t = All (λ n. width ≤ n) (columns_of t)

-- whether no column that it reads is below a width
abbrev pub does_read_from : ℕ → Term → Bool
does_read_from width t = list_all (λ n. nat_le width n) (columns_of t)

module _ (rename : ℕ → ℕ) where
  abbrev mutual
    -- the expression with other numbers of columns
    pub renamed : Term → Term
    renamed (column n) = column (rename n)
    renamed (number n) = number n
    renamed (string t) = string t
    renamed (call op args) = call op (all_renamed args)

    pub all_renamed : Terms → Terms
    all_renamed none = none
    all_renamed (more t ts) = more (renamed t) (all_renamed ts)
