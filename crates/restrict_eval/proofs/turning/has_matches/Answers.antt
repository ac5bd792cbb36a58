use Rattle.std.proofs.Common.{◌≡◌, ◌∙◌, length, refl, sym, ap, Some, true≢false}
use Rattle.std.specs.Prelude.{slice_get}
use Rattle.std.proofs.lemmas.Option.{slice_get_read}
use Rattle.algebra.specs.declared.node.Node.{Node}
use Rattle.algebra.specs.declared.node.Node.TheVariants.{Project}
use Rattle.restrict_eval.specs.Nears.{plain_columns}
use Rattle.restrict_eval.proofs.Sides.{columns_have, others_lack, node_has}
use Rattle.restrict_eval.proofs.turning.has_matches.Goals as goal

pub returns-in-Some : goal.returns-in-Some
returns-in-Some c =
    let nodes = c.args.nodes.now in
    let is : slice_get nodes c.args.n ≡ Some (Project c.in-Project.input c.in-Project.items) =
    slice_get_read nodes (length nodes) c.args.n c.get.result.now refl c.requires.there c.get.ensures.node ∙ ap (λ (x : Node). Some x) c.in-Project.is in
    columns_have nodes c.args.n c.in-Project.input c.in-Project.items c.in-Some._columns c.has_runs.result is
    (sym (ap plain_columns c.as_slice.ensures) ∙ (sym c.in_ok-_columns-in-Project.ensures ∙ c.in-Some.is)) c.has_runs.ensures

pub returns-in-None : goal.returns-in-None
returns-in-None c =
    let nodes = c.args.nodes.now in
    let is : slice_get nodes c.args.n ≡ Some (Project c.in-Project.input c.in-Project.items) =
    slice_get_read nodes (length nodes) c.args.n c.get.result.now refl c.requires.there c.get.ensures.node ∙ ap (λ (x : Node). Some x) c.in-Project.is in (
      λ t. absurd (true≢false (sym t)),
      λ has. absurd (others_lack nodes c.args.n c.in-Project.input c.in-Project.items is (sym (ap plain_columns c.as_slice.ensures) ∙ (sym c.in_ok-_columns-in-Project.ensures ∙ c.in-None.is)) has),
    )

pub returns-in_default : goal.returns-in_default
returns-in_default c =
    let nodes = c.args.nodes.now in
    let is = slice_get_read nodes (length nodes) c.args.n c.get.result.now refl c.requires.there c.get.ensures.node in
    node_has nodes c.args.n c.get.result.now c.has_runs-in_default.result is c.in_default.not-Project c.has_runs-in_default.ensures
