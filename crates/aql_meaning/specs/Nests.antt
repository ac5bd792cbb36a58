-- Nested loops over sources, and the conditions that are tried before each.
use Rattle.std.specs.Prelude.{◌≡◌, ◌+◌, ℕ, List, [], ◌∷◌, ◌++◌, map, All, ⊤}
use denote.Ref.{Bor}
use Rattle.std.specs.List.{sum_by}
use Rattle.span_token.specs.Documents.{Doc}
use Rattle.row_values.specs.Datums.{Datum}
use Rattle.row_values.specs.Rows.{RowList}
use Rattle.scalar_ops.specs.declared.expr.Expr.{Expr}
use Rattle.scalar_ops.specs.Expressions.{Term, ReadsBelow}
use Rattle.scalar_ops.specs.Tables.{Lists}
use Rattle.scalar_ops.specs.Values.{holding}
use Rattle.scalar_ops.specs.Views.{term_of}
use Rattle.aql_meaning.specs.declared.nest.Level.{Level}

-- conditions that are lent, as terms
abbrev pub terms_lent : List (Bor Expr) → List Term
terms_lent = map (λ cond. term_of cond.now)

-- conditions that hold for the same rows
abbrev pub HoldAlike : List Term → List Term → Type 0
HoldAlike conds others = (lists : Lists) (doc : Doc) (row : List Datum) → holding lists doc conds row ≡ holding lists doc others row

-- the conditions of all levels, and those that are left for whole combinations
abbrev pub all_conds : List Level → List Term → List Term
all_conds [] last = last
all_conds (level ∷ levels) last = terms_lent level.conds.items ++ all_conds levels last

-- what is tried before a loop reads columns of the sources around it alone
abbrev pub AreEarly : ℕ → List Level → Type 0
AreEarly width [] = ⊤
AreEarly width (level ∷ levels) = All (ReadsBelow width) (terms_lent level.conds.items) × AreEarly (width + level.source.now.width) levels

-- the loops go over the sources, and their conditions and the last ones hold where all hold
pub record IsNest (sources : List RowList) (conds : List Term) (levels : List Level) (last : List Term) (width : ℕ) : Type 0 where
  pub early : AreEarly 0 levels
  pub sources_are : map (λ level. level.source.now) levels ≡ sources
  pub wide : width ≡ sum_by (λ source. source.width) sources
  pub same : HoldAlike (all_conds levels last) conds
