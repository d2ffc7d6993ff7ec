-- One of its holds is of the file.
use Rattle.std.proofs.Common.{sym, subst, Bool}
use Rattle.std.specs.Prelude.{Decides}
use Rattle.trace_claims.specs.Leaving.{SlotHolds}
use Rattle.trace_claims.proofs.Leavings.{slot-decides}
use Rattle.trace_claims.proofs.slots.slot_holds.Goals as goal

pub returns : goal.returns
returns c m h has within = subst (λ (b : Bool). Decides b (SlotHolds m h c.args.place c.args.lane c.args.slot c.args.file.now)) (sym (rw c.as_slice.ensures.value at c.has_file.ensures))
    (slot-decides m h c.args.all.now c.args.place c.args.lane c.args.slot c.in_ok-holds.holds.items c.args.file.now has within c.in_ok-holds.ensures)
