use Rattle.std.proofs.Common.{◌∙◌, ap, slice_range}
use Rattle.span_token.specs.Extents.{Extent}
use Rattle.span_token.specs.Documents.{Doc, text_in}
use Rattle.span_token.proofs.PlaceLemmas.{between_places, whole_text}
use Rattle.span_token.proofs.document.Document.text_of.Goals as goal

pub range-requires-clause-start_le_end : goal.range-requires-clause-start_le_end
range-requires-clause-start_le_end c =
    (between_places c.args.self.now.text c.args.span.begin c.args.span.end c.byte_of-begin.result c.byte_behind-end.result c.byte_of-begin.ensures.utf8 c.byte_of-begin.ensures.place c.byte_behind-end.ensures.place c.args.span.ordered).ordered

pub returns-clause-text : goal.returns-clause-text
returns-clause-text c =
    c.range.ensures.value
    ∙ ap (λ (d : Doc). slice_range d.text c.byte_of-begin.result c.byte_behind-end.result) c.self.view_is
    ∙ (between_places c.args.self.now.text c.args.span.begin c.args.span.end c.byte_of-begin.result c.byte_behind-end.result c.byte_of-begin.ensures.utf8 c.byte_of-begin.ensures.place c.byte_behind-end.ensures.place c.args.span.ordered).bytes

pub returns-clause-whole : goal.returns-clause-whole
returns-clause-whole c =
    λ all. returns-clause-text c ∙ ap (λ (e : Extent). text_in c.args.self.now e) all ∙ whole_text c.args.self.now.text c.byte_of-begin.ensures.utf8
