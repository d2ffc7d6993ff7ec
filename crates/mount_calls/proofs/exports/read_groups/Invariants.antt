use Rattle.std.proofs.Common.{length}
use Rattle.xdr_codec.specs.Reading.{opaque_at}
use Rattle.mount_calls.specs.Lists.{AlongList}
use Rattle.mount_calls.proofs.exports.read_groups.Given as goal

abbrev pub invariant-names : goal.invariant-names
invariant-names l = AlongList (opaque_at 255) l.fn.r l.names.items l.r

abbrev pub decreases-names : goal.decreases-names
decreases-names l = length l.r
