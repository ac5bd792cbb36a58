use Rattle.std.proofs.Common.{◌≡◌, ◌∷◌, ◌+◌, [], List, ℕ, refl, sym, subst, ◌∙◌, arith}
use Rattle.demo_corpus.specs.Corpora.{corpus_of, generated_corpus}
use Rattle.std.proofs.lemmas.Result.{err_from_is_err_and}
use Rattle.demo_corpus.specs.Prefixes.{AppendsFront, GainsAllBut, GainsFront}
use Rattle.demo_corpus.specs.Generator.{generated}
use Rattle.demo_corpus.proofs.Corpora.{corpus_more, corpus_later}
use Rattle.demo_corpus.proofs.Sinks.{appends_nothing, gained_more, front_more, front_longer, sent_rest}
use Rattle.demo_corpus.proofs.corpus.write_corpus.Goals as goal

pub documents-init : goal.documents-init
documents-init g c = record {
  gained = record { front = []; whole = sym c.new-pending.ensures.items; gained = appends_nothing (g.O.Sink.held c.args.out.now) };
  told = refl;
  flushed = refl;
  faults = refl;
}

pub documents-preserved : goal.documents-preserved
documents-preserved g c =
    let before = c.documents.invariant in
    let more = c.in_ok-write_next.ensures in
    let a = g.O.Sink.held c.args.out.now in
    let i = c.documents.i in
    record {
      gained = subst (λ (bytes : List ℕ). GainsAllBut c.write_next.new.pending.items a (g.O.Sink.held c.write_next.new.out) bytes) (sym (corpus_more i))
          (gained_more a (g.O.Sink.held c.documents.out) (g.O.Sink.held c.write_next.new.out) c.documents.pending.items (corpus_of (generated i ∷ [])) c.write_next.new.pending.items (generated_corpus i) before.gained more.bytes);
      told = more.told ∙ before.told;
      flushed = more.flushed ∙ before.flushed;
      faults = more.cause ∙ before.faults;
    }

pub returns-in_err-write_next-clause-bytes : goal.returns-in_err-write_next-clause-bytes
returns-in_err-write_next-clause-bytes g c =
    let p = err_from_is_err_and c.from_residual.result c.from_residual.ensures.1 in
    let a = g.O.Sink.held c.args.out.now in
    let b = g.O.Sink.held c.write_next.new.out in
    let i = c.documents.i in
    let line = corpus_of (generated i ∷ []) in
    let next = subst (λ (bytes : List ℕ). GainsFront a b bytes) (sym (corpus_more i))
    (front_more a (g.O.Sink.held c.documents.out) b c.documents.pending.items line (generated_corpus i) c.documents.invariant.gained c.in_err-write_next.ensures.bytes) in
    let later = corpus_later (i + 1) c.args.count (omega arith) in
    rw p.1 (subst (λ (bytes : List ℕ). GainsFront a b bytes) (sym later.1) (front_longer a b (generated_corpus (i + 1)) later.0 next))

pub returns-clause-bytes : goal.returns-clause-bytes
returns-clause-bytes g c =
    let a = g.O.Sink.held c.args.out.now in
    let b = g.O.Sink.held c.send.new.out in
    let all : c.documents.i ≡ c.args.count = omega arith in
    subst (λ (n : ℕ). AppendsFront a b c.send.result (generated_corpus n)) all
    (sent_rest c.send.result a (g.O.Sink.held c.documents.out) b c.documents.pending.items (generated_corpus c.documents.i) c.documents.invariant.gained c.send.ensures.bytes)
