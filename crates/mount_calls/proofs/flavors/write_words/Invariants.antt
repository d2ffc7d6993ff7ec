use Rattle.std.proofs.Common.{◌≡◌, ◌++◌, take}
use Rattle.xdr_codec.specs.Spelling.{u32_bytes}
use Rattle.mount_calls.specs.Lists.{many_bytes}
use Rattle.mount_calls.proofs.flavors.write_words.Given as goal

abbrev pub invariant-loop-word : goal.invariant-loop-word
invariant-loop-word l = l.w ≡ l.fn.w ++ many_bytes u32_bytes (take l.word-index l.list)
