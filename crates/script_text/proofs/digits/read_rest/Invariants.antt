use Rattle.std.proofs.Common.{◌≡◌, ◌*◌, length}
use Rattle.script_text.specs.Digits.{IsSeen}
use Rattle.script_text.proofs.digits.read_rest.Given as goal

abbrev pub invariant-loop-block : goal.invariant-loop-block
invariant-loop-block l = record {
  kept : length l.bytes ≡ length l.fn.bytes;
  read : IsSeen l.hex l.bytes l.seen (16 * l.block);
}
