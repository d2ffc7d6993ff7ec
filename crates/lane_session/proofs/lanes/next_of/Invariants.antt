use Rattle.std.proofs.Common.{◌≡◌, ◌≤◌, ◌<◌, Some, slice_get, ℕ, length}
use Rattle.nfs_script.specs.declared.script.ScriptLine.{ScriptLine}
use Rattle.lane_session.proofs.lanes.next_of.Given as goal

abbrev pub invariant-loop-place : goal.invariant-loop-place
invariant-loop-place l = (l.from ≤ l.place) × (l.place ≤ length l.script) × ((k : ℕ) (s : ScriptLine) → slice_get l.script k ≡ Some s → l.from ≤ k → k < l.place → s.lane ≡ l.lane → ⊥)
