use Rattle.std.proofs.Common.{◌≡◌, ◌≤◌, ◌-◌, length}
use Rattle.rpc_record.specs.Honest.{HonestOver}
use Rattle.rpc_record.specs.Records.{one_fragment}
use Rattle.rpc_record.specs.Stream.{now_in}
use Rattle.rpc_record.specs.Shown.{shown_by, line_of}
use Rattle.rpc_record.proofs.RecordGoesOut.{Writing}
use Rattle.rpc_record.specs.declared.sending.SendState.TheVariants as sendings
use Rattle.rpc_record.proofs.stream_link.StreamLink.send_fine.Given as goal

abbrev pub invariant-loop-at : goal.invariant-loop-at
invariant-loop-at g l =
    Writing (shown_by g.W.Wire.told l.fn.self) (now_in g.W.Wire.told l.self-inside.line) l.self-inside.inbox (one_fragment l.rec) l.at
    × (l.size ≡ length (one_fragment l.rec)) × (l.self-inside.sending ≡ sendings.Fine)
    × (l.fn.self.wire ≤ l.self-inside.line.faults) × (l.self-inside.faults ≡ l.fn.self.own) × (l.self-inside.inbox.gather.phase ≡ l.fn.self.phase)
    × (HonestOver g.W.Wire.told g.W.Wire.honest (line_of l.fn.self) → HonestOver g.W.Wire.told g.W.Wire.honest l.self-inside.line)

abbrev pub decreases-loop-at : goal.decreases-loop-at
decreases-loop-at g l = l.size - l.at
