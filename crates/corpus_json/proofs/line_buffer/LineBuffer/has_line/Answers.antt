-- A whole line is ready where the last LF stands past the begin of what is ready.
use Rattle.std.proofs.Common.{◌≡◌, ℕ, ◌≤◌, List, length, sym, ap, subst, arith, slice_range}
use Rattle.std.proofs.lemmas.Bool.{lt-ltb, ltb-true}
use Rattle.std.specs.Prelude.{Contains}
use Rattle.corpus_json.specs.Reading.{Reading}
use Rattle.corpus_json.proofs.LastLf.{lf_ready, ready_lf}
use Rattle.corpus_json.proofs.line_buffer.LineBuffer.has_line.Goals as goal

pub returns : goal.returns
returns c =
    let s = c.self.inside in
    let within : s.to ≤ length s.bytes.items = omega (arith, c.self.invariant.within, s.bytes.ok.0) in
    let ready : slice_range s.bytes.items s.from s.to ≡ c.args.self.now.ready = ap (λ (r : Reading). r.ready) c.self.view_is in (
      λ test. subst (λ (bytes : List ℕ). Contains bytes 10) ready (lf_ready s.bytes.items s.from s.to s.past_last_lf within c.self.invariant.last_lf (ltb-true _ _ test)),
      λ held.
          lt-ltb _ _
          (ready_lf s.bytes.items s.from s.to s.past_last_lf within c.self.invariant.last_lf
          (subst (λ (bytes : List ℕ). Contains bytes 10) (sym ready) held)),
    )
