use Rattle.std.proofs.Common.{length}
use Rattle.mount_calls.specs.Lists.{AlongList}
use Rattle.mount_calls.specs.Exports.{row_at}
use Rattle.mount_calls.proofs.exports.read_exports.Given as goal

abbrev pub invariant-rows : goal.invariant-rows
invariant-rows l = AlongList row_at l.fn.r l.rows.items l.r

abbrev pub decreases-rows : goal.decreases-rows
decreases-rows l = length l.r
