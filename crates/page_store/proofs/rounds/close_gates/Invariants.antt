use Rattle.std.proofs.Common.{◌≡◌, ◌<◌, ◌≤◌, ℕ, length}
use Rattle.page_store.specs.Disk.{Every, LeavesOnly}
use Rattle.page_store.specs.Slots.{IsSound, IsFrom, IsOpen}
use Rattle.page_store.specs.Rounds.{IsIn, IsOutside}
use Rattle.page_store.proofs.rounds.close_gates.Given as goal

-- the gates of the round so far read as closed
abbrev pub invariant-loop-slot : goal.invariant-loop-slot
invariant-loop-slot g l = record {
  safe : g.D.Disk.tells l.fn.disk → (n : ℕ) → length l.fn.round ≤ n → IsSound n (g.D.Disk.may_leave l.fn.disk) → IsSound n (g.D.Disk.may_leave l.disk);
  leaves : g.D.Disk.tells l.fn.disk → (n : ℕ) → length l.fn.round ≤ n → IsSound n (g.D.Disk.may_leave l.fn.disk)
      → Every (g.D.Disk.may_leave l.disk) (IsFrom n (g.D.Disk.may_leave l.fn.disk));
  outside : g.D.Disk.tells l.fn.disk → (n : ℕ) → length l.fn.round ≤ n → IsSound n (g.D.Disk.may_leave l.fn.disk)
      → Every (g.D.Disk.may_leave l.disk) (IsOutside n l.fn.round (g.D.Disk.may_leave l.fn.disk));
  any_moment : g.D.Disk.tells l.fn.disk → (n : ℕ) → length l.fn.round ≤ n → IsSound n (g.D.Disk.may_leave l.fn.disk)
      → LeavesOnly g.D.Disk.moment g.D.Disk.left_since l.fn.disk l.disk (IsFrom n (g.D.Disk.may_leave l.fn.disk));
  reads : g.D.Disk.tells l.fn.disk → (k : ℕ) → k < l.slot → IsIn l.fn.round k → IsOpen (g.D.Disk.seen l.disk) k → ⊥;
  goes_on : g.D.Disk.tells l.fn.disk → g.D.Disk.tells l.disk;
  later : g.D.Disk.faults l.fn.disk ≤ g.D.Disk.faults l.disk;
}
