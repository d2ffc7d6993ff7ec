use Rattle.std.proofs.Common.{◌≡◌, ◌++◌, take}
use Rattle.mount_calls.specs.Lists.{many_bytes}
use Rattle.mount_calls.specs.Exports.{next_row_bytes}
use Rattle.mount_calls.proofs.exports.write_exports.Given as goal

abbrev pub invariant-loop-row : goal.invariant-loop-row
invariant-loop-row l = l.w ≡ l.fn.w ++ many_bytes next_row_bytes (take l.row-index l.rows)
