use Rattle.std.proofs.Common.{◌≤◌, ◌*◌}
use Rattle.page_store.specs.Store.{HasZeros}
use Rattle.page_store.proofs.format.write_slots.Given as goal

-- the slots so far are zeros
abbrev pub invariant-loop-slot : goal.invariant-loop-slot
invariant-loop-slot g l = record {
  zeros : g.D.Disk.tells l.fn.disk → HasZeros (4224 * l.slot) (g.D.Disk.seen l.disk);
  goes_on : g.D.Disk.tells l.fn.disk → g.D.Disk.tells l.disk;
  later : g.D.Disk.faults l.fn.disk ≤ g.D.Disk.faults l.disk;
}
