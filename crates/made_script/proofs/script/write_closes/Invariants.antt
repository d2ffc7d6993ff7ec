use Rattle.std.proofs.Common.{◌≡◌, ◌≤◌, ◌-◌, ◌++◌}
use Rattle.made_script.specs.Made.{each, close_text}
use Rattle.made_script.proofs.script.write_closes.Given as goal

abbrev pub invariant-loop-lane : goal.invariant-loop-lane
invariant-loop-lane l = record {
  most : l.lane ≤ 16;
  is : l.out ≡ l.fn.out ++ each close_text l.lane;
}

abbrev pub decreases-loop-lane : goal.decreases-loop-lane
decreases-loop-lane l = 16 - l.lane
