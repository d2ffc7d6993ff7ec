use Rattle.std.proofs.Common.{◌≡◌, ◌≤◌, ◌<◌, ◌^◌, ◌-◌, ◌++◌}
use Rattle.made_script.specs.Made.{each, turn, number_at}
use Rattle.made_script.proofs.script.write_turns.Given as goal

abbrev pub invariant-loop-k : goal.invariant-loop-k
invariant-loop-k l = record {
  most : l.k ≤ l.n;
  below : l.x < 2 ^ 31;
  number : l.x ≡ number_at l.n l.k;
  is : l.out ≡ l.fn.out ++ each (turn l.n) l.k;
}

abbrev pub decreases-loop-k : goal.decreases-loop-k
decreases-loop-k l = l.n - l.k
