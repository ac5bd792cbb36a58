use Rattle.std.proofs.Common.{◌≡◌, ◌&&◌, ℕ, List, map, take}
use Rattle.std.specs.List.{All}
use Rattle.span_token.specs.Documents.{Doc}
use Rattle.row_values.specs.Datums.{Datum}
use Rattle.scalar_ops.specs.Expressions.{ReadsBelow}
use Rattle.scalar_ops.specs.Tables.{Lists}
use Rattle.scalar_ops.specs.Values.{holding}
use Rattle.scalar_ops.specs.Views.{term_of}
use Rattle.push_select.specs.Conditions.{terms_lent, IsApart}
use Rattle.push_select.proofs.conditions.+parts.Given as goal

abbrev pub invariant-push_all-loop-cond : goal.invariant-push_all-loop-cond
invariant-push_all-loop-cond l = record {
  same : (lists : Lists) (doc : Doc) (row : List Datum) → holding lists doc (terms_lent l.into.items) row ≡ (holding lists doc (terms_lent l.fn.into.items) row && holding lists doc (map term_of (take l.cond-index l.conds)) row);
  reads : (width : ℕ) → All (ReadsBelow width) (terms_lent l.fn.into.items) → All (ReadsBelow width) (map term_of l.conds) → All (ReadsBelow width) (terms_lent l.into.items);
  apart : All IsApart (terms_lent l.fn.into.items) → All IsApart (terms_lent l.into.items);
}
