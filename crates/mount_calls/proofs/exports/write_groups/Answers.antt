use Rattle.std.proofs.Common.{arith}
use Rattle.mount_calls.specs.Exports.{next_name_bytes}
use Rattle.mount_calls.proofs.ListLaws.{many_written}
use Rattle.mount_calls.proofs.exports.write_groups.Goals as goal

pub loop-name-preserved : goal.loop-name-preserved
loop-name-preserved c =
    many_written next_name_bytes c.names-names.result.now c.loop-name.name-index c.name-item.result _ _ _ (omega (arith, c.loop-name-test.true)) c.name-item.is c.loop-name.invariant c.in_ok-write_next_name.ensures.ok
