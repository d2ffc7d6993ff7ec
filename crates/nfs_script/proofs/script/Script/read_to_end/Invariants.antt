use Rattle.std.proofs.Common.{◌≡◌, length, ◌≤◌, ◌+◌}
use Rattle.script_text.specs.Lines.{lines}
use Rattle.nfs_script.specs.Script.{lines_by}
use Rattle.nfs_script.proofs.script.Script.read_to_end.Given as goal

abbrev pub invariant-loop-number : goal.invariant-loop-number
invariant-loop-number l = record {
  bound : l.number + length l.rest ≤ l.fn.before + length l.fn.text;
  short : length l.rest ≤ length l.fn.text;
  within : l.number ≤ 268435456;
  read : lines_by l.fn.last l.fn.before l.fn.self (lines l.fn.text) ≡ lines_by l.fn.last l.number l.self (lines l.rest);
}

abbrev pub decreases-loop-number : goal.decreases-loop-number
decreases-loop-number l = length l.rest
