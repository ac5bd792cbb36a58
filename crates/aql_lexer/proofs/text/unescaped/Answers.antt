use Rattle.std.proofs.Common.{◌≡◌, ◌≢◌, ◌+◌, ◌<◌, ◌≤◌, ◌⊎◌, length, get_or, ◌++◌, true, false, string_bytes, inl, inr, arith}
use Rattle.std.proofs.lemmas.Grind.{common_steps}
use Rattle.std.proofs.lemmas.Str.{IsCharBoundary-start, IsCharBoundary-after_ascii}
use Rattle.aql_lexer.specs.Scanning.{escapes_of}
use Rattle.aql_lexer.proofs.Unescaping.{waiting, keeps_plain, keeps_pair, drops_backslash}
use Rattle.aql_lexer.proofs.text.unescaped.Goals as goal
use Rattle.aql_lexer.proofs.text.unescaped.Goals.{then-drops_backslash+in_ok-push_str, else-drops_backslash, else-bytes-at-eq92-via-then-bytes-at-eq92+else-at-bytes, else-bytes-at-eq92-via-else-bytes-at-eq92}

pub loop-at-init : goal.loop-at-init
loop-at-init c = record {
  order = omega arith;
  within = omega arith;
  boundary = IsCharBoundary-start c.args.text.now c.utf8.text;
  value = rw c.new-meant.ensures.bytes;
}

pub loop-at-preserved-then-at-bytes : goal.loop-at-preserved-then-at-bytes
loop-at-preserved-then-at-bytes c =
    let text = c.args.text.now in
    let at = c.loop-at.at in
    let inv = c.loop-at.invariant in
    let within : at + 1 < length text = grind (arith, common_steps) in
    let slash : get_or text at 0 ≡ 92 = grind (arith, common_steps) in
    elim c.if-drops_backslash.branch [
      | then-drops_backslash+in_ok-push_str w ↦
          let from : c.if-drops_backslash.from ≡ at + 1 = w.from-is in
          let written : string_bytes c.if-drops_backslash.meant ≡ string_bytes c.loop-at.meant ++ waiting text c.loop-at.from at = grind (arith, common_steps) in
          let bare : escapes_of c.args.escapes (get_or text (at + 1) 0) ≡ true = grind (arith, common_steps) in
          rw (from, written) record {
            order = omega arith;
            within = omega arith;
            boundary = IsCharBoundary-after_ascii text at c.utf8.text (omega arith) (omega arith);
            value = drops_backslash (escapes_of c.args.escapes) text _ _ c.loop-at.from at inv.order within slash bare inv.value;
          }
      | else-drops_backslash w ↦
          let other : escapes_of c.args.escapes (get_or text (at + 1) 0) ≡ false = grind (arith, common_steps) in
          rw (w.from-is, w.meant-is) record {
            order = omega arith;
            within = omega arith;
            boundary = inv.boundary;
            value = keeps_pair (escapes_of c.args.escapes) text _ _ c.loop-at.from at inv.order within slash other inv.value;
          }
    ]

pub loop-at-preserved : goal.loop-at-preserved
loop-at-preserved c =
    let text = c.args.text.now in
    let at = c.loop-at.at in
    let inv = c.loop-at.invariant in
    let within : at < length text = grind (arith, common_steps) in
    let why : (get_or text at 0 ≢ 92) ⊎ (length text ≤ at + 1) = elim c.else-bytes-at-eq92.branch [
      | else-bytes-at-eq92-via-then-bytes-at-eq92+else-at-bytes w ↦ inr (grind (arith, common_steps))
      | else-bytes-at-eq92-via-else-bytes-at-eq92 w ↦ inl (λ e. grind (arith, common_steps))
    ] in
    record {
      order = omega arith;
      within = omega arith;
      boundary = inv.boundary;
      value = keeps_plain (escapes_of c.args.escapes) text _ _ c.loop-at.from at inv.order within why inv.value;
    }
