use Rattle.std.proofs.Common.{◌≡◌, ℕ, ◌≤◌, List, Option, length, map, sym, ap, subst, arith}
use Rattle.std.proofs.lemmas.Result.{IfOk-weaker}
use Rattle.row_values.specs.Rows.{RowList}
use Rattle.group_agg.specs.Candidates.{keyed, first_of}
use Rattle.group_agg.specs.Limits.{IsLimited, number_kept}
use Rattle.group_agg.specs.LawProofs.Functions.{IsLimited-only, only_from}
use Rattle.group_agg.specs.LawProofs.LimitLaws.{IsLimited-all, IsLimited-first}
use Rattle.group_agg.proofs.first_rows.limited.Goals as goal

-- a list that is all rows, or the first of them, is an answer
abbrev firsts : List ℕ → ℕ → RowList → RowList
firsts keys n rows = record { width = rows.width; rows = map (λ p. p.1) (first_of n (map (keyed keys) rows.rows)) }

copied : (keys : List ℕ) (limit : Option ℕ) (rows out : RowList) → number_kept limit (length rows.rows) ≡ length rows.rows → out ≡ rows → IsLimited keys limit rows out
copied keys limit rows out kept e = subst (IsLimited keys limit rows) (sym e) (IsLimited-all keys limit rows kept)

first : (keys : List ℕ) (limit : Option ℕ) (n : ℕ) (rows out : RowList) → n ≡ number_kept limit (length rows.rows) → n ≤ length rows.rows → out ≡ firsts keys n rows → IsLimited keys limit rows out
first keys limit n rows out kept not_more e = IsLimited-first keys limit n rows out kept not_more (ap (λ (o : RowList). o.width) e) (ap (λ (o : RowList). o.rows) e)

pub returns-then-n-len-clause-rows : goal.returns-then-n-len-clause-rows
returns-then-n-len-clause-rows c =
    let rows = c.args.rows.now in
    let kept : number_kept c.args.limit (length rows.rows) ≡ length rows.rows = omega (arith, c.number_kept-n.ensures.number, c.len.ensures) in
    IfOk-weaker c.copy.result (λ out. out ≡ rows) (IsLimited c.args.keys.now c.args.limit rows) (λ out e. copied c.args.keys.now c.args.limit rows out kept e) c.copy.ensures

pub returns-then-n-len-clause-bag : goal.returns-then-n-len-clause-bag
returns-then-n-len-clause-bag c = IfOk-weaker c.copy.result (IsLimited c.args.keys.now c.args.limit c.args.rows.now) _ (λ out h. IsLimited-only c.args.keys.now c.args.limit c.args.rows.now out h) (returns-then-n-len-clause-rows c)

pub returns-then-n-len-clause-only : goal.returns-then-n-len-clause-only
returns-then-n-len-clause-only c = IfOk-weaker c.copy.result (IsLimited c.args.keys.now c.args.limit c.args.rows.now) _ (λ out h. only_from c.args.keys.now c.args.limit c.args.rows.now out h) (returns-then-n-len-clause-rows c)

pub returns-clause-rows : goal.returns-clause-rows
returns-clause-rows c =
    let rows = c.args.rows.now in
    IfOk-weaker c.first_rows.result (λ out. out ≡ firsts c.args.keys.now c.number_kept-n.result rows) (IsLimited c.args.keys.now c.args.limit rows) (λ out e. first c.args.keys.now c.args.limit c.number_kept-n.result rows out c.number_kept-n.ensures.number c.number_kept-n.ensures.not_more e) c.first_rows.ensures

pub returns-clause-bag : goal.returns-clause-bag
returns-clause-bag c = IfOk-weaker c.first_rows.result (IsLimited c.args.keys.now c.args.limit c.args.rows.now) _ (λ out h. IsLimited-only c.args.keys.now c.args.limit c.args.rows.now out h) (returns-clause-rows c)

pub returns-clause-only : goal.returns-clause-only
returns-clause-only c = IfOk-weaker c.first_rows.result (IsLimited c.args.keys.now c.args.limit c.args.rows.now) _ (λ out h. only_from c.args.keys.now c.args.limit c.args.rows.now out h) (returns-clause-rows c)
