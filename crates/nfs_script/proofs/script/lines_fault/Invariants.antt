use Rattle.std.proofs.Common.{◌≡◌, length, ◌≤◌, ◌+◌}
use Rattle.script_text.specs.Lines.{lines}
use Rattle.nfs_script.specs.Script.{lines_fault}
use Rattle.nfs_script.proofs.script.lines_fault.Given as goal

abbrev pub invariant-loop-rest : goal.invariant-loop-rest
invariant-loop-rest l = record {
  bound : l.number + length l.rest ≤ l.fn.before + length l.fn.text;
  fault : lines_fault l.fn.last l.fn.before (lines l.fn.text) ≡ lines_fault l.fn.last l.number (lines l.rest);
}

abbrev pub decreases-loop-rest : goal.decreases-loop-rest
decreases-loop-rest l = length l.rest
