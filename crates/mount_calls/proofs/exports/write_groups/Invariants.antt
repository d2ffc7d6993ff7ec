use Rattle.std.proofs.Common.{◌≡◌, ◌++◌, take}
use Rattle.mount_calls.specs.Lists.{many_bytes}
use Rattle.mount_calls.specs.Exports.{next_name_bytes}
use Rattle.mount_calls.proofs.exports.write_groups.Given as goal

abbrev pub invariant-loop-name : goal.invariant-loop-name
invariant-loop-name l = l.w ≡ l.fn.w ++ many_bytes next_name_bytes (take l.name-index l.names)
