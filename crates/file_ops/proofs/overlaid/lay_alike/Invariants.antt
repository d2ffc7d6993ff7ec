use Rattle.std.proofs.Common.{◌≡◌, ◌<◌, ℕ, length}
use Rattle.file_ops.specs.Overlaid.{byte_or}
use Rattle.file_ops.proofs.Overlays.{byte_laid}
use Rattle.file_ops.proofs.overlaid.lay_alike.Given as goal

abbrev pub invariant-loop-at : goal.invariant-loop-at
invariant-loop-at l = record {
  size : length l.bytes ≡ length l.initial.bytes;
  bytes : (at : ℕ) → at < length l.initial.bytes → byte_or l.bytes at 0 ≡ byte_laid l.lows l.highs l.initial.bytes l.at at;
}
