use Rattle.std.proofs.Common.{arith}
use Rattle.nfs_script.proofs.Shown.{shown_step}
use Rattle.nfs_script.proofs.shown_text.write_shown.Goals as goal

pub loop-byte-preserved : goal.loop-byte-preserved
loop-byte-preserved c = shown_step _ _ _ c.args.bytes.now c.loop-byte.byte-index 0 (omega (arith, c.loop-byte-test.true)) c.loop-byte.invariant c.in_ok-write_byte.ensures.ok
