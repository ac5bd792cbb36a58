use Rattle.std.proofs.Common.{◌≡◌, ◌++◌, OnOk, Bool, List, sym, subst}
use Rattle.aql_tables.specs.Mentions.{with_flags}
use Rattle.aql_tables.proofs.MentionsViews.{flags_in-short, flags_in-long}
use Rattle.aql_tables.proofs.walk.terms.dictionary.Goals as goal

pub returns-in_default : goal.returns-in_default
returns-in_default c =
    subst (λ (flags : List Bool). OnOk c.dictionary.result (c.dictionary.new.self ≡ c.args.out.now ++ with_flags c.args.name.now flags))
    (sym (flags_in-short c.args.rest.now c.in_default.len_below)) c.dictionary.ensures

pub returns-in-len2-up : goal.returns-in-len2-up
returns-in-len2-up c =
    subst (λ (flags : List Bool). OnOk c.flagged.result (c.flagged.new.out ≡ c.args.out.now ++ with_flags c.args.name.now flags))
    (sym (flags_in-long c.args.rest.now c.flag-item.result c.in-len2-up.len_at_least c.flag-item.is)) c.flagged.ensures
