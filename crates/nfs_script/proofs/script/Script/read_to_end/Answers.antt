use Rattle.std.proofs.Common.{arith, inl, inr}
use Rattle.nfs_script.proofs.ReadOn.{same, checked}
use Rattle.nfs_script.proofs.script.Script.read_to_end.Goals as goal
use Rattle.nfs_script.proofs.script.Script.read_to_end.Goals.{then-loop-number-test+else-not-is_empty, else-loop-number-test}

pub returns : goal.returns
returns c = same _ _ _ _ c.loop-number.invariant.read (checked c.args.last c.loop-number.number c.loop-number.self c.loop-number.rest.now c.check_lines.result (elim c.loop-number-test.branch [
  | then-loop-number-test+else-not-is_empty w ↦ inr (grind (arith, w.is_empty.ensures, w.if-not-is_empty.false))
  | else-loop-number-test w ↦ inl (omega (arith, w.loop-number-test.false))
]) c.check_lines.ensures)
