use Rattle.std.proofs.Common.{◌≡◌, ◌≤◌, length}
use Rattle.page_store.specs.Store.{AreShown, StaysAs}
use Rattle.page_store.proofs.opening.read_slots.Given as goal

-- what was read so far, of a disk that reads as before
abbrev pub invariant-loop-slot : goal.invariant-loop-slot
invariant-loop-slot g l = record {
  shown : g.D.Disk.tells l.fn.disk → AreShown (g.D.Disk.seen l.fn.disk) l.slot l.slots.items;
  long : length l.slots.items ≡ l.slot;
  stays : g.D.Disk.tells l.fn.disk → StaysAs g.D.Disk.seen g.D.Disk.may_leave g.D.Disk.moment g.D.Disk.left_since l.fn.disk l.disk;
  goes_on : g.D.Disk.tells l.fn.disk → g.D.Disk.tells l.disk;
  later : g.D.Disk.faults l.fn.disk ≤ g.D.Disk.faults l.disk;
}
