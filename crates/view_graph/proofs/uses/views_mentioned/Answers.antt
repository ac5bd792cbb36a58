use Rattle.std.proofs.Common.{◌∙◌, ◌+◌, sym, subst, ℕ, List, [], ◌∷◌, ◌++◌, map, take, drop, get_or}
use Rattle.view_graph.specs.declared.names.mentions.Mention.{Mention}
use Rattle.view_graph.specs.declared.names.mentions.Mention.TheVariants.{View}
use Rattle.view_graph.specs.Names.{Named}
use Rattle.view_graph.specs.Mentions.{named_of}
use Rattle.view_graph.specs.Lookups.{AreViewsNamed}
use Rattle.view_graph.proofs.Splits.{map-take_more, map_split}
use Rattle.view_graph.proofs.LookingUp.{with_view, with_other, mentions_undefined}
use Rattle.view_graph.proofs.uses.views_mentioned.Goals as goal
use Rattle.view_graph.proofs.uses.views_mentioned.Goals.{in-View+in_ok-push-in-View, in-Other}

abbrev nothing : Mention
nothing = View (record { ref_ptr = (0, 0); now = [] })

pub returns-in-Nothing-clause-fault : goal.returns-in-Nothing-clause-fault
returns-in-Nothing-clause-fault c = λ program names.
    let i = c.loop-mention.mention-index in
    mentions_undefined program (map named_of (take i c.args.mentions.now)) (named_of (get_or c.args.mentions.now i nothing)) c.loop-mention.used (c.loop-mention.invariant program names)
    c.args.number (map named_of (drop (i + 1) c.args.mentions.now)) (map named_of c.args.mentions.now) c.in_ok-unknown-in-Nothing.field-0
    (c.in-Nothing.ensures program names) (map_split named_of c.args.mentions.now i nothing c.loop-mention-test.true) c.in_ok-unknown-in-Nothing.ensures

pub loop-mention-preserved : goal.loop-mention-preserved
loop-mention-preserved c = λ program names.
    let i = c.loop-mention.mention-index in
    let before = map named_of (take i c.args.mentions.now) in
    let named = named_of (get_or c.args.mentions.now i nothing) in
    subst (λ (ns : List Named). AreViewsNamed program ns c.match-find.used) (sym (map-take_more named_of c.args.mentions.now i nothing c.loop-mention-test.true))
    (elim c.match-find.branch [
      | in-View+in_ok-push-in-View w ↦
          subst (λ (used : List ℕ). AreViewsNamed program (before ++ named ∷ []) used) (sym (w.used-is ∙ w.in_ok-push-in-View.ensures.ok))
          (with_view program before named c.loop-mention.used (c.loop-mention.invariant program names) w.in-View.view (w.in-View.ensures program names))
      | in-Other w ↦
          subst (λ (used : List ℕ). AreViewsNamed program (before ++ named ∷ []) used) (sym w.used-is)
          (with_other program before named c.loop-mention.used (c.loop-mention.invariant program names) (w.in-Other.ensures program names))
    ])
