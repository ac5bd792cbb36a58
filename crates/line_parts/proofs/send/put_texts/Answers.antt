use Rattle.std.proofs.Common.{◌≡◌, ◌+◌, ◌++◌, ◌∷◌, ◌∙◌, [], take, drop, sym, ap, take-append-drop, arith}
use Rattle.std.proofs.lemmas.Grind.{flat_map-append}
use Rattle.std.proofs.lemmas.List.{append-nil, take_more}
use Rattle.std.proofs.lemmas.Result.{err_from_is_err_and}
use Rattle.line_parts.specs.Pending.{texts_of}
use Rattle.line_parts.specs.SinkLaws.{front_behind, front_wider}
use Rattle.line_parts.proofs.send.put_texts.Goals as goal

pub returns-in_err-put-clause-bytes : goal.returns-in_err-put-clause-bytes
returns-in_err-put-clause-bytes g c =
    let p = err_from_is_err_and c.from_residual.result c.from_residual.ensures.1 in
    let texts = c.args.texts.now in
    let i = c.loop-text.text-index in
    let one : take (i + 1) texts ≡ take i texts ++ c.text-item.result ∷ [] =
    take_more texts i c.text-item.result (omega arith) ∙ ap (λ text. take i texts ++ text ∷ []) (sym c.text-item.is) in
    let whole : texts_of texts ≡ (texts_of (take i texts) ++ c.as_slice.result.now) ++ texts_of (drop (i + 1) texts) =
    ap texts_of (sym (take-append-drop (i + 1) texts))
    ∙ flat_map-append (λ text. text.items) (take (i + 1) texts) (drop (i + 1) texts)
    ∙ ap (λ front. front ++ texts_of (drop (i + 1) texts))
    (ap texts_of one ∙ flat_map-append (λ text. text.items) (take i texts) (c.text-item.result ∷ []) ∙ ap (λ last. texts_of (take i texts) ++ last) (append-nil c.text-item.result.items ∙ sym c.as_slice.ensures.value)) in
    let front = c.in_err-put.ensures.bytes in
    let kept = front_behind (g.O.Sink.held c.args.out.now) (g.O.Sink.held c.loop-text.out) (g.O.Sink.held c.put.new.out) (texts_of (take i texts)) c.as_slice.result.now c.loop-text.invariant.bytes front.0 front.1 in
    rw (p.1, whole) (front_wider (g.O.Sink.held c.args.out.now) (g.O.Sink.held c.put.new.out) (texts_of (take i texts) ++ c.as_slice.result.now) (texts_of (drop (i + 1) texts)) kept.0 kept.1)
