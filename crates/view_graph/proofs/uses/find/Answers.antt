use Rattle.std.proofs.Common.{◌∙◌, ap, sym, ℕ, Option, Some}
use Rattle.view_graph.specs.Indexes.{entry_of}
use Rattle.view_graph.specs.Mentions.{named_of}
use Rattle.view_graph.proofs.LookingUp.{found_view, found_document, found_no_view, found_dictionary, found_no_dictionary}
use Rattle.view_graph.proofs.uses.find.Goals as goal

pub returns-in-Some-Some : goal.returns-in-Some-Some
returns-in-Some-Some c = λ program names.
    found_view program (entry_of c.args.names.now.views) (entry_of c.args.names.now.dictionaries) names (named_of c.args.mention) c.in-View.name.now
    c.in-Some-Some.view (ap named_of c.in-View.is) (sym c.view_entry.ensures ∙ (c.in-Some-Some.is ∙ ap (λ (o : Option ℕ). Some o) c.in-Some-Some.field-0-is))

pub returns-in-Some-None : goal.returns-in-Some-None
returns-in-Some-None c = λ program names.
    found_document program (entry_of c.args.names.now.views) (entry_of c.args.names.now.dictionaries) names (named_of c.args.mention) c.in-View.name.now
    (ap named_of c.in-View.is) (sym c.view_entry.ensures ∙ (c.in-Some-None.is ∙ ap (λ (o : Option ℕ). Some o) c.in-Some-None.field-0-is))

pub returns-in-None : goal.returns-in-None
returns-in-None c = λ program names.
    found_no_view program (entry_of c.args.names.now.views) (entry_of c.args.names.now.dictionaries) names (named_of c.args.mention) c.in-View.name.now
    (ap named_of c.in-View.is) (sym c.view_entry.ensures ∙ c.in-None.is)

pub returns-in-Some : goal.returns-in-Some
returns-in-Some c = λ program names.
    found_dictionary program (entry_of c.args.names.now.views) (entry_of c.args.names.now.dictionaries) names (named_of c.args.mention) c.in-Dictionary.name.now
    c.in-Some.field-0 (ap named_of c.in-Dictionary.is) (sym c.dictionary_entry.ensures ∙ c.in-Some.is)

pub returns-in-None-dictionary_entry : goal.returns-in-None-dictionary_entry
returns-in-None-dictionary_entry c = λ program names.
    found_no_dictionary program (entry_of c.args.names.now.views) (entry_of c.args.names.now.dictionaries) names (named_of c.args.mention) c.in-Dictionary.name.now
    (ap named_of c.in-Dictionary.is) (sym c.dictionary_entry.ensures ∙ c.in-None-dictionary_entry.is)
