use Rattle.std.proofs.Common.{ap, ◌∙◌, refl, true}
use Rattle.regex.specs.Patterns.{Config}
use Rattle.aql_regex_extract.proofs.Trees.{tree_of-regex, no_tree-refused}
use Rattle.aql_regex_extract.proofs.pattern.build.Goals as goal

pub returns-in-Ok-clause-good : goal.returns-in-Ok-clause-good
returns-in-Ok-clause-good c =
    let made = c.in-Ok.ensures in
    rw (tree_of-regex c.in-Ok.built _ (made.source ∙ c.options.ensures.source)
    (made.config ∙ ap (λ (x : Config). record x { utf8 = true }) c.options.ensures.config) made.read).1 refl

pub returns-in-Err-Syntax-clause-unread : goal.returns-in-Err-Syntax-clause-unread
returns-in-Err-Syntax-clause-unread c =
    let refused = rw c.in-Err-Syntax.field-0-is at c.in-Err-Syntax.ensures in
    no_tree-refused _ _ _ _ (ap (λ (x : Config). record x { utf8 = true }) c.options.ensures.config) c.options.ensures.source
    refused.kind (refused.by_grammar c.in-Err-Syntax.field-0-0 refl)
