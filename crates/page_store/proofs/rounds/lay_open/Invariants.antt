use Rattle.std.proofs.Common.{◌≡◌, ◌<◌, ◌≤◌, ◌*◌, ℕ, length}
use Rattle.page_store.specs.Disk.{Every, LeavesOnly, Only}
use Rattle.page_store.specs.Slots.{IsOpen}
use Rattle.page_store.specs.Pages.{StoredPage}
use Rattle.page_store.specs.Rounds.{IsFilled, IsOpening}
use Rattle.page_store.proofs.rounds.lay_open.Given as goal

-- the gates of the round so far read as open
abbrev pub invariant-loop-slot : goal.invariant-loop-slot
invariant-loop-slot g l = record {
  opening : g.D.Disk.tells l.fn.disk → (n : ℕ) → length l.fn.round ≤ n → 4224 * n ≤ length (g.D.Disk.seen l.fn.disk) → Only (g.D.Disk.seen l.fn.disk) (g.D.Disk.may_leave l.fn.disk)
      → Every (g.D.Disk.may_leave l.disk) (IsOpening n l.fn.round (g.D.Disk.seen l.fn.disk));
  any_moment : g.D.Disk.tells l.fn.disk → (n : ℕ) → length l.fn.round ≤ n → 4224 * n ≤ length (g.D.Disk.seen l.fn.disk) → Only (g.D.Disk.seen l.fn.disk) (g.D.Disk.may_leave l.fn.disk)
      → LeavesOnly g.D.Disk.moment g.D.Disk.left_since l.fn.disk l.disk (IsOpening n l.fn.round (g.D.Disk.seen l.fn.disk));
  opened : g.D.Disk.tells l.fn.disk → (k : ℕ) (page : StoredPage) → k < l.slot → IsFilled l.fn.round k page → IsOpen (g.D.Disk.seen l.disk) k;
  goes_on : g.D.Disk.tells l.fn.disk → g.D.Disk.tells l.disk;
  later : g.D.Disk.faults l.fn.disk ≤ g.D.Disk.faults l.disk;
}
