use Rattle.std.proofs.Common.{◌≡◌, ap₂, encode_utf8_all, slice_range, chars, ◌∙◌, ◌+◌, arith}
use Rattle.span_token.specs.ExtentLaws.{same_extent}
use Rattle.span_token.proofs.LeadsLemmas.{leads-take-le}
use Rattle.span_token.proofs.PlaceLemmas.{moved_place, moved_text}
use Rattle.span_token.proofs.document.Document.span_in.Goals as goal

pub overflow_add-at : goal.overflow_add-at
overflow_add-at c =
    let m = moved_place c.args.self.now.text c.args.source.begin c.args.source.end c.byte_of-first.result c.args.from c.byte_of-first.ensures.utf8 c.byte_of-first.ensures.place c.args.source.ordered c.requires.in_document c.requires.from in
    omega (arith, m.within, c.byte_of-first.ensures.short)

pub leads_before-begin-requires : goal.leads_before-begin-requires
leads_before-begin-requires c =
    (moved_place c.args.self.now.text c.args.source.begin c.args.source.end c.byte_of-first.result c.args.from c.byte_of-first.ensures.utf8 c.byte_of-first.ensures.place c.args.source.ordered c.requires.in_document c.requires.from).within

pub overflow_add-first : goal.overflow_add-first
overflow_add-first c =
    let m = moved_place c.args.self.now.text c.args.source.begin c.args.source.end c.byte_of-first.result c.args.to c.byte_of-first.ensures.utf8 c.byte_of-first.ensures.place c.args.source.ordered c.requires.in_document c.requires.to in
    omega (arith, m.within, c.byte_of-first.ensures.short)

pub leads_behind-end-requires : goal.leads_behind-end-requires
leads_behind-end-requires c = record {
  ordered = omega (arith, c.requires.ordered);
  within = (moved_place c.args.self.now.text c.args.source.begin c.args.source.end c.byte_of-first.result c.args.to c.byte_of-first.ensures.utf8 c.byte_of-first.ensures.place c.args.source.ordered c.requires.in_document c.requires.to).within;
  passed = c.leads_before-begin.ensures.leads;
}

pub invariant_of-result : goal.invariant_of-result
invariant_of-result c = record {
  ordered = omega (arith, c.leads_before-begin.ensures.leads, c.leads_behind-end.ensures.leads, leads-take-le (c.byte_of-first.result + c.args.from) (c.byte_of-first.result + c.args.to) c.args.self.now.text (omega (arith, c.requires.ordered)));
}

pub returns-clause-moved : goal.returns-clause-moved
returns-clause-moved c =
    let from = moved_place c.args.self.now.text c.args.source.begin c.args.source.end c.byte_of-first.result c.args.from c.byte_of-first.ensures.utf8 c.byte_of-first.ensures.place c.args.source.ordered c.requires.in_document c.requires.from in
    let to = moved_place c.args.self.now.text c.args.source.begin c.args.source.end c.byte_of-first.result c.args.to c.byte_of-first.ensures.utf8 c.byte_of-first.ensures.place c.args.source.ordered c.requires.in_document c.requires.to in
    same_extent _ _ (c.leads_before-begin.ensures.leads ∙ from.moved) (c.leads_behind-end.ensures.leads ∙ to.moved)

pub returns-clause-text : goal.returns-clause-text
returns-clause-text c =
    let ends : encode_utf8_all (slice_range (chars c.args.self.now.text) c.leads_before-begin.result c.leads_behind-end.result) ≡ _ =
    ap₂ (λ b e. encode_utf8_all (slice_range (chars c.args.self.now.text) b e)) c.leads_before-begin.ensures.leads c.leads_behind-end.ensures.leads in
    ends ∙ moved_text c.args.self.now.text c.args.source.begin c.args.source.end c.byte_of-first.result c.args.from c.args.to c.byte_of-first.ensures.utf8 c.byte_of-first.ensures.place c.args.source.ordered c.requires.in_document c.requires.from c.requires.to c.requires.ordered

pub returns-clause-after : goal.returns-clause-after
returns-clause-after c =
    let m = moved_place c.args.self.now.text c.args.source.begin c.args.source.end c.byte_of-first.result c.args.from c.byte_of-first.ensures.utf8 c.byte_of-first.ensures.place c.args.source.ordered c.requires.in_document c.requires.from in
    omega (arith, c.leads_before-begin.ensures.leads, m.moved)

pub returns-clause-within : goal.returns-clause-within
returns-clause-within c =
    let m = moved_place c.args.self.now.text c.args.source.begin c.args.source.end c.byte_of-first.result c.args.to c.byte_of-first.ensures.utf8 c.byte_of-first.ensures.place c.args.source.ordered c.requires.in_document c.requires.to in
    omega (arith, c.leads_behind-end.ensures.leads, m.before_end)

pub returns-clause-in_document : goal.returns-clause-in_document
returns-clause-in_document c = omega (arith, returns-clause-within c, c.requires.in_document)
