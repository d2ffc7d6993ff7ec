use Rattle.std.proofs.Common.{◌≡◌, ◌≤◌, ℕ, length}
use Rattle.page_store.specs.Slots.{IsSound}
use Rattle.page_store.specs.Rounds.{IsUnderWay}
use Rattle.kept_pages.specs.Kept.{AreKept, Fills}
use Rattle.kept_pages.proofs.storing.fill_all.Given as goal

-- the slots so far are filled
abbrev pub invariant-loop-at : goal.invariant-loop-at
invariant-loop-at g l = record {
  fills : g.D.Disk.tells l.fn.store.disk → (n : ℕ) → length l.fn.store.pages ≤ n → IsSound n (g.D.Disk.may_leave l.fn.store.disk)
      → IsUnderWay (g.D.Disk.seen l.fn.store.disk) (g.D.Disk.may_leave l.fn.store.disk) l.fn.store.round
      → Fills g.D.Disk.seen g.D.Disk.may_leave g.D.Disk.moment g.D.Disk.left_since n l.fn.store l.store;
  kept : AreKept l.cache l.fn.store.round → AreKept l.cache l.store.round;
  short : length l.store.round ≤ length l.fn.store.round;
  pages : l.store.pages ≡ l.fn.store.pages;
  label : l.store.label ≡ l.fn.store.label;
  goes_on : g.D.Disk.tells l.fn.store.disk → g.D.Disk.tells l.store.disk;
  later : g.D.Disk.faults l.fn.store.disk ≤ g.D.Disk.faults l.store.disk;
}
