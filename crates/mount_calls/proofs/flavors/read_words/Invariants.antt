use Rattle.std.proofs.Common.{◌-◌, length}
use Rattle.xdr_codec.specs.Reading.{u32_at}
use Rattle.mount_calls.specs.Lists.{AlongMany}
use Rattle.mount_calls.proofs.flavors.read_words.Given as goal

abbrev pub invariant-words : goal.invariant-words
invariant-words l = AlongMany u32_at l.count l.fn.r l.list.items l.r

abbrev pub decreases-words : goal.decreases-words
decreases-words l = l.count - length l.list.items
