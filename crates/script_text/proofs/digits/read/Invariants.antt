use Rattle.std.proofs.Common.{◌≡◌, ◌*◌, length}
use Rattle.script_text.specs.Digits.{IsSeen}
use Rattle.script_text.proofs.digits.read.Given as goal

abbrev pub invariant-loop-group : goal.invariant-loop-group
invariant-loop-group l = record {
  kept : length l.bytes ≡ length l.fn.bytes;
  read : IsSeen l.hex l.bytes l.seen (64 * l.group);
}
