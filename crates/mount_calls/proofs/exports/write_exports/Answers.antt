use Rattle.std.proofs.Common.{arith}
use Rattle.mount_calls.specs.Exports.{next_row_bytes}
use Rattle.mount_calls.proofs.ListLaws.{many_written}
use Rattle.mount_calls.proofs.Laws.{exports_written}
use Rattle.mount_calls.proofs.exports.write_exports.Goals as goal

pub loop-row-preserved : goal.loop-row-preserved
loop-row-preserved c =
    many_written next_row_bytes c.rows-rows.result.now c.loop-row.row-index c.row-item.result _ _ _ (omega (arith, c.loop-row-test.true)) c.row-item.is c.loop-row.invariant c.in_ok-write_next_row.ensures.ok

pub returns-clause-spelled : goal.returns-clause-spelled
returns-clause-spelled c = exports_written c.args.list.now c.requires
