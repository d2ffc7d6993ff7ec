use Rattle.std.proofs.Common.{arith}
use Rattle.nfs_script.proofs.Shown.{names_step}
use Rattle.nfs_script.proofs.shown_text.write_names.Goals as goal

pub loop-name-preserved : goal.loop-name-preserved
loop-name-preserved c = names_step _ _ _ c.args.names.now c.loop-name.name-index c.name-item.result (omega (arith, c.loop-name-test.true)) c.name-item.is c.loop-name.invariant c.in_ok-write_name.ensures.ok
