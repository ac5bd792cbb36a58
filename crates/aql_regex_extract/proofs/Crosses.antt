-- A pattern may be shared by threads, and sent to one: its expressions hold nothing that is changed behind a `&`. What
-- searches for one may be sent.
use denote.Param.Send.{IsSend, IsSync, sendable}
use denote.Ref.{NamedLft}
use Rattle.std.proofs.Crossing.{crosses}
use Rattle.std.proofs.vec.Vec.TheSendSync as vec
use Rattle.std.proofs.boxed.Box.TheSendSync as boxed
use Rattle.std.proofs.string.String.TheSendSync as string
use Rattle.std.proofs.option.Option.TheSendSync as option
use Rattle.regex_hir.specs.contracts.hir.Hir as Hir
use Rattle.regex_hir.proofs.hir.Hir.TheLaws.TheKnot as knot
use Rattle.regex_hir.proofs.look.Look.TheSendSync as look
use Rattle.regex_class.proofs.Class.TheSendSync as class
use Rattle.regex_extract.proofs.frames.Frame.TheSendSync as frame
use Rattle.regex_dfa.proofs.dfa.Dfa.TheSendSync as dfa
use Rattle.regex_literal.proofs.caseless.Caseless.TheSendSync as caseless
use Rattle.regex_literal.proofs.prefilter.Prefilter.TheSendSync as prefilter
use Rattle.regex_literal.proofs.ladder.Ladder.TheSendSync as ladder
use Rattle.regex_literal.proofs.byte_set.ByteSet.TheSendSync as byte_set
use Rattle.regex_meta.proofs.plan.Role.TheSendSync as role
use Rattle.regex_meta.specs.contracts.plan.Plan as Plan
use Rattle.regex_meta.specs.contracts.plan.Plans as Plans
use Rattle.regex_meta.specs.contracts.signs.Signs as Signs
use Rattle.regex_meta.specs.contracts.program.Program as Program
use Rattle.regex.specs.contracts.pattern.Pattern as Source
use Rattle.regex.specs.contracts.string.regex.Regex as Regex
use Rattle.regex_dfa.proofs.forward.Forward.TheSendSync as forward
use Rattle.regex_dfa.proofs.reverse.Reverse.TheSendSync as reverse
use Rattle.regex_meta.proofs.head.Head.TheSendSync as head
use Rattle.regex_meta.proofs.branch.Tail.TheSendSync as tail
use Rattle.regex_meta.proofs.branch.Means.TheSendSync as means
use Rattle.regex_meta.proofs.choice.Choice.TheSendSync as choice
use Rattle.regex_meta.proofs.pace.Pace.TheSendSync as pace
use Rattle.regex_meta.proofs.gait.Gait.TheSendSync as gait
use Rattle.regex_literal.proofs.caseless.Room.TheSendSync as room
use Rattle.regex_tagged.proofs.search.Tagged.TheSendSync as tagged
use Rattle.regex_bits.proofs.build.Bits.TheSendSync as bits
use Rattle.regex_vm.proofs.pikevm.PikeVm.TheSendSync as pikevm
use Rattle.regex_vm.proofs.backtrack.Backtracker.TheSendSync as backtracker
use Rattle.regex_meta.specs.contracts.branch.Branch as Branch
use Rattle.regex_meta.specs.contracts.branches.Branches as Branches
use Rattle.regex_meta.specs.contracts.searcher.apart.Apart as Apart
use Rattle.regex_meta.specs.contracts.searcher.Searcher as Engines
use Rattle.regex.specs.contracts.engine.Engine as Engine
use Rattle.regex.specs.contracts.string.matcher.Matcher as Matcher
use Rattle.aql_regex_extract.specs.contracts.pattern.Pattern as Pattern
use Rattle.aql_regex_extract.specs.contracts.searcher.Searcher as Searcher
use Rattle.aql_regex_extract.specs.contracts.whole.WholeSearcher as WholeSearcher

ruleset syncs = (sendable, crosses, vec.the_sync, boxed.the_sync, string.the_sync, option.the_field_sync)

ruleset sends = (sendable, crosses, vec.the_send, boxed.the_send, string.the_send, option.the_field_send)

-- ---- shared

Hir-sync : IsSync (Hir.the_field).row
Hir-sync = search (knot.sync-Hir, syncs, look.the_field_sync, class.the_field_sync) depth 40 fits 20000

Signs-sync : IsSync (Signs.the_field).row
Signs-sync = search (Hir-sync, syncs, caseless.the_sync) depth 40 fits 20000

Plan-sync : IsSync (Plan.the_field).row
Plan-sync = search (Hir-sync, syncs, role.the_field_sync, prefilter.the_sync, frame.the_field_sync, ladder.the_sync) depth 40 fits 20000

Plans-sync : IsSync (Plans.the_field).row
Plans-sync = search (Plan-sync, syncs) depth 40 fits 20000

Program-sync : IsSync (Program.the_field).row
Program-sync = search (Hir-sync, dfa.the_field_sync, Plans-sync, Signs-sync, byte_set.the_sync, syncs) depth 40 fits 20000

Source-sync : IsSync (Source.the_field).row
Source-sync = search (Program-sync, syncs) depth 40 fits 20000

pub Regex-sync : IsSync (Regex.the_field).row
Regex-sync = search (Source-sync, syncs) depth 40 fits 20000

-- a pattern may be shared
pub Pattern-sync : IsSync Pattern.the_row
Pattern-sync = search (Regex-sync, syncs) depth 40 fits 20000

-- ---- sent

Hir-send : IsSend (Hir.the_field).row
Hir-send = search (knot.send-Hir, sends, look.the_field_send, class.the_field_send) depth 40 fits 20000

Signs-send : IsSend (Signs.the_field).row
Signs-send = search (Hir-send, sends, caseless.the_send) depth 40 fits 20000

Plan-send : IsSend (Plan.the_field).row
Plan-send = search (Hir-send, sends, role.the_field_send, prefilter.the_send, frame.the_field_send, ladder.the_send) depth 40 fits 20000

Plans-send : IsSend (Plans.the_field).row
Plans-send = search (Plan-send, sends) depth 40 fits 20000

Program-send : IsSend (Program.the_field).row
Program-send = search (Hir-send, dfa.the_field_send, Plans-send, Signs-send, byte_set.the_send, sends) depth 40 fits 20000

Source-send : IsSend (Source.the_field).row
Source-send = search (Program-send, sends) depth 40 fits 20000

pub Regex-send : IsSend (Regex.the_field).row
Regex-send = search (Source-send, sends) depth 40 fits 20000

-- a pattern may be sent
pub Pattern-send : IsSend Pattern.the_row
Pattern-send = search (Regex-send, sends) depth 40 fits 20000

-- what a caller lists in its `search` where a pattern is shared or sent
pub ruleset patterns = (Pattern-sync, Pattern-send, Regex-sync, Regex-send)

-- ---- searchers, which are sent alone

Branch-send : (p : NamedLft) → IsSend (Branch.the_field p).row
Branch-send p = search (Hir-sync, sends, head.the_field_send, tail.the_field_send) depth 40 fits 20000

Branches-send : (p : NamedLft) → IsSend (Branches.the_field p).row
Branches-send p = search (Branch-send, Hir-sync, Signs-sync, sends, means.the_field_send) depth 40 fits 20000

Apart-send : (p : NamedLft) → IsSend (Apart.the_field p).row
Apart-send p = search (Branches-send, sends, choice.the_field_send, room.the_field_send) depth 40 fits 20000

Engines-send : (p : NamedLft) → IsSend (Engines.the_field p).row
Engines-send p =
    search (Apart-send, Program-sync, sends, forward.the_field_send, reverse.the_field_send, head.the_field_send, tagged.the_field_send, bits.the_field_send, pikevm.the_send, backtracker.the_field_send, pace.the_field_send, gait.the_field_send) depth 60 fits 20000

Engine-send : (p : NamedLft) → IsSend (Engine.the_field p).row
Engine-send p = search (Engines-send, sends, syncs) depth 40 fits 20000

Matcher-send : (p : NamedLft) → IsSend (Matcher.the_field p).row
Matcher-send p = search (Engine-send, sends) depth 40 fits 20000

pub Searcher-send : (p : NamedLft) → IsSend (Searcher.the_row p)
Searcher-send p = search (Matcher-send, Pattern-sync, sends) depth 40 fits 20000

pub WholeSearcher-send : (p : NamedLft) → IsSend (WholeSearcher.the_row p)
WholeSearcher-send p = search (Matcher-send, Pattern-sync, sends) depth 40 fits 20000

-- what a caller lists in its `search` where searchers are sent
pub ruleset searchers = (patterns, Searcher-send, WholeSearcher-send)
