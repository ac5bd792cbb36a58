use Rattle.std.proofs.Common.{◌≡◌, map, drop}
use Rattle.std.specs.List.{list_all, list_any}
use Rattle.scalar_ops.specs.Operators.{is_true}
use Rattle.scalar_ops.specs.Values.{value}
use Rattle.scalar_ops.specs.Views.{term_of}
use Rattle.scalar_ops.proofs.evaluation.+eval.Given as goal

-- what is left decides
abbrev pub invariant-all_hold-loop-expr : goal.invariant-all_hold-loop-expr
invariant-all_hold-loop-expr l = record {
  same : l.tools ≡ l.fn.tools;
  left : list_all is_true (map (λ e. value l.fn.tools l.doc l.row (term_of e)) (drop l.expr-index l.exprs))
      ≡ list_all is_true (map (λ e. value l.fn.tools l.doc l.row (term_of e)) l.exprs);
}

abbrev pub invariant-some_holds-loop-expr : goal.invariant-some_holds-loop-expr
invariant-some_holds-loop-expr l = record {
  same : l.tools ≡ l.fn.tools;
  left : list_any is_true (map (λ e. value l.fn.tools l.doc l.row (term_of e)) (drop l.expr-index l.exprs))
      ≡ list_any is_true (map (λ e. value l.fn.tools l.doc l.row (term_of e)) l.exprs);
}
