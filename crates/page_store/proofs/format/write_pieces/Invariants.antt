use Rattle.std.proofs.Common.{◌≤◌, ◌*◌}
use Rattle.page_store.specs.Store.{HasZeros}
use Rattle.page_store.proofs.format.write_pieces.Given as goal

-- the pieces so far are zeros
abbrev pub invariant-loop-piece : goal.invariant-loop-piece
invariant-loop-piece g l = record {
  zeros : g.D.Disk.tells l.fn.disk → HasZeros (65600 * l.piece) (g.D.Disk.seen l.disk);
  goes_on : g.D.Disk.tells l.fn.disk → g.D.Disk.tells l.disk;
  later : g.D.Disk.faults l.fn.disk ≤ g.D.Disk.faults l.disk;
}
