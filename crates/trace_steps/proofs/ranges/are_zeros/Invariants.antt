-- So far each byte is zero.
use Rattle.std.proofs.Common.{◌≡◌, drop}
use Rattle.trace_steps.specs.RangeTests.{are_zeros}
use Rattle.trace_steps.proofs.ranges.are_zeros.Given as goal

abbrev pub invariant-loop-byte : goal.invariant-loop-byte
invariant-loop-byte l = are_zeros l.bytes ≡ are_zeros (drop l.byte-index l.bytes)
