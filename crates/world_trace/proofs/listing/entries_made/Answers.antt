-- Row after row.
use Rattle.std.proofs.Common.{◌≡◌}
use Rattle.world_trace.proofs.Rowing.{start-row, next-row, last-row}
use Rattle.world_trace.proofs.listing.entries_made.Goals as goal

pub loop-row-init : goal.loop-row-init
loop-row-init c = start-row c.new-entries.result.items c.args.export.now c.args.place c.is_kept.ensures.sound c.new-entries.ensures.items

pub loop-row-preserved : goal.loop-row-preserved
loop-row-preserved c =
    next-row c.loop-row.entries.items c.push.new.self.items c.dir_entry.result c.in-Some.row _ _ _ c.in_ok-push.ensures.items c.dir_entry.ensures c.in-Some.ensures c.loop-row.invariant

pub returns : goal.returns
returns c = last-row c.loop-row.entries.items _ _ c.in_default.ensures c.loop-row.invariant
