use Rattle.std.proofs.Common.{sym, subst, List, [], map, take}
use Rattle.aql_tables.specs.declared.mention.Mention as declared
use Rattle.aql_tables.specs.declared.mention.Mention.TheVariants.{Pattern}
use Rattle.aql_tables.proofs.Seeing.{map-take_more}
use Rattle.aql_syntax.specs.Views.{statement_of}
use Rattle.aql_tables.specs.Mentions.{Mention}
use Rattle.aql_tables.specs.Kept.{entry_of, mention_of, number_by, HasDicts, HasPatterns}
use Rattle.aql_tables.proofs.tables.tables_of.Goals as goal

abbrev nothing : declared.Mention
nothing = Pattern (record { ref_ptr = (0, 0); now = [] })

pub loop-mention-init : goal.loop-mention-init
loop-mention-init c = record { patterns = c.new-patterns.ensures; dicts = c.new-dicts.ensures (map statement_of c.args.graph.now.0) }

pub loop-mention-preserved : goal.loop-mention-preserved
loop-mention-preserved c =
    let seen = map mention_of (take c.loop-mention.mention-index c.args.mentions.now) in
    let program = map statement_of c.args.graph.now.0 in
    let one_more = map-take_more mention_of c.args.mentions.now c.loop-mention.mention-index nothing c.loop-mention-test.true in
    record {
      patterns = subst (λ (seen : List Mention). HasPatterns seen c.note.new.patterns.compiled.items (entry_of c.note.new.patterns.verdicts)) (sym one_more)
          (c.in_ok-note.ensures.patterns seen c.loop-mention.invariant.patterns);
      dicts = subst (λ (seen : List Mention). HasDicts program seen c.note.new.dicts.keys.items c.note.new.dicts.uses.items (number_by (entry_of c.note.new.dicts.exact) (entry_of c.note.new.dicts.other))) (sym one_more)
          (c.in_ok-note.ensures.dicts seen c.loop-mention.invariant.dicts);
    }
