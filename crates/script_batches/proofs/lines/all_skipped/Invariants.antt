use Rattle.std.proofs.Common.{◌≡◌, length}
use Rattle.script_text.specs.Lines.{lines}
use Rattle.script_batches.specs.Batches.{all_skipped}
use Rattle.script_batches.proofs.lines.all_skipped.Given as goal

abbrev pub invariant-loop-rest : goal.invariant-loop-rest
invariant-loop-rest l = record { same : all_skipped (lines l.fn.text) ≡ all_skipped (lines l.rest) }

abbrev pub decreases-loop-rest : goal.decreases-loop-rest
decreases-loop-rest l = length l.rest
