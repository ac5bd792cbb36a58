-- The one node of the tests' plan is worth one row on a document.
use Rattle.std.proofs.Common.{◌≡◌, List, [], ◌∷◌, refl, sym, ap, subst, arith, All, Contains, Some}
use Rattle.std.specs.Prelude.{slice_get, slice_index_or}
use Rattle.std.proofs.lemmas.List.Elements.{All-push, All-nil}
use Rattle.aql_base.specs.BagLaws.{SameBag-is}
use Rattle.span_token.specs.Documents.{Doc as Document, whole_of}
use Rattle.row_values.specs.Datums.{span, IsOfDocument}
use Rattle.row_values.specs.Rows.{RowList}
use Rattle.algebra.specs.declared.node.Node.{Node}
use Rattle.algebra.specs.declared.node.Node.TheVariants.{Doc}
use Rattle.algebra.specs.Needed as needs
use Rattle.algebra.specs.Plans.{Parts}
use Rattle.algebra.specs.Shapes.{shapes_of, no_shape}
use Rattle.algebra.specs.Values.{val}
use Rattle.run_tables.specs.Items.{IsResult}
use Rattle.run_tables_tests.specs.Plans.{IsDocumentPlan}

pub document_is_result : (plan : Parts) (docs : List Document) (doc : Document) (list : RowList) → IsDocumentPlan plan → slice_get docs 0 ≡ Some doc → list ≡ record { width = 1; rows = (span (whole_of doc) ∷ []) ∷ [] } → IsResult plan docs 0 list
document_is_result plan docs doc list is there list_is = subst (IsResult plan docs 0) (sym list_is) result
  where
    result : IsResult plan docs 0 (record { width = 1; rows = (span (whole_of doc) ∷ []) ∷ [] })
    result = record {
      of_item = record {
        d = 0;
        n = 0;
        doc = doc;
        node = Doc;
        is = omega arith;
        doc_is = there;
        node_is = ap (λ (nodes : List Node). slice_get nodes 0) is.nodes;
      };
      needed = needs.output 0 (subst (λ outs. Contains outs 0) (sym is.outputs) (0, omega arith, refl));
      has = record {
        width = sym (ap (λ (nodes : List Node). (slice_index_or (shapes_of nodes) 0 no_shape).width) is.nodes);
        lies = All-push (All (IsOfDocument doc)) [] (span (whole_of doc) ∷ []) (All-nil _) (All-push (IsOfDocument doc) [] (span (whole_of doc)) (All-nil _) (omega arith));
        same = SameBag-is _ _ (sym (ap (λ (nodes : List Node). val plan.lists doc nodes 0) is.nodes));
      };
    }
