-- Columns of keys and arguments.
use Rattle.std.proofs.Common.{◌≡◌, ◌∙◌, ℕ, zero, suc, ◌+◌, ◌<◌, ◌≤◌, ◌++◌, List, [], ◌∷◌, map, length, sym, ap, subst, arith}
use Rattle.std.specs.List.{All, range_with_len}
use Rattle.std.proofs.lemmas.List.{map-append, length-map}
use Rattle.std.proofs.lemmas.List.FromFn.{length-range_with_len, get_or-range_with_len}
use Rattle.span_token.specs.Documents.{Doc}
use Rattle.row_values.specs.Datums.{Datum}
use Rattle.scalar_ops.specs.Expressions.{Term}
use Rattle.scalar_ops.specs.Tables.{Lists}
use Rattle.scalar_ops.specs.Values.{value}
use Rattle.scalar_ops.specs.Views.{term_of}
use Rattle.scalar_ops.specs.declared.expr.Expr.{Expr}
use Rattle.group_agg.specs.declared.agg.Agg.{Agg}
use Rattle.group_agg.specs.Groups.{HasKey}

last : (a n j : ℕ) → a + n ≡ j → range_with_len a (suc n) ≡ range_with_len a n ++ j ∷ []
last a zero j is = let same : a ≡ j = omega (arith, is) in ap (λ (k : ℕ). k ∷ []) same
last a (suc n) j is = ap (λ (rest : List ℕ). a ∷ rest) (last (a + 1) n j (omega (arith, is)))

-- one number more
pub counting_more : (n : ℕ) → range_with_len 0 (n + 1) ≡ range_with_len 0 n ++ n ∷ []
counting_more n = let on : n + 1 ≡ suc n = omega arith in ap (range_with_len 0) on ∙ last 0 n n (omega arith)

-- the columns of the keys are there
pub columns_below : (columns : List ℕ) (n width : ℕ) → columns ≡ range_with_len 0 n → n ≤ width → All (λ column. column < width) columns
columns_below columns n width are enough =
    subst (All (λ column. column < width)) (sym are) (λ k d below.
    let short : k < n = omega (arith, below, length-range_with_len 0 n) in omega (arith, get_or-range_with_len 0 n k d short, short, enough))

pub keys_there : (columns : List ℕ) (n : ℕ) (aggs : List Agg) → columns ≡ range_with_len 0 n → All (HasKey n) aggs → All (HasKey (length columns)) aggs
keys_there columns n aggs are there =
    subst (λ (k : ℕ). All (HasKey k) aggs) (sym (ap length are ∙ length-range_with_len 0 n)) there

-- the values of each of two lists of expressions
pub values_one_by_one : (lists : Lists) (doc : Doc) (row : List Datum) (keys arguments : List Term)
    → map (value lists doc row) (keys ++ arguments) ≡ map (value lists doc row) keys ++ map (value lists doc row) arguments
values_one_by_one lists doc row keys arguments = map-append (value lists doc row) keys arguments

-- the numbers of so many columns as there are expressions
pub columns_are : (columns items : List ℕ) (exprs : List Expr) (keys : List Term) → columns ≡ items → items ≡ range_with_len 0 (length exprs) → map term_of exprs ≡ keys
    → columns ≡ range_with_len 0 (length keys)
columns_are columns items exprs keys same are seen = same ∙ (are ∙ ap (range_with_len 0) (sym (length-map exprs term_of) ∙ ap length seen))
