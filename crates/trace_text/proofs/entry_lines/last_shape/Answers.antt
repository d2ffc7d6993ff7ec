-- The entry at the place begins no such operation.
use Rattle.std.proofs.Common.{length, arith}
use Rattle.trace_text.specs.EntryLines.{last_shape}
use Rattle.trace_text.proofs.Shaping.{shape-back}
use Rattle.trace_text.proofs.entry_lines.last_shape.Goals as goal

pub loop-left-preserved : goal.loop-left-preserved
loop-left-preserved c = shape-back c.args.lane c.args.line c.args.entries.now c.loop-left.left c.shape_at.result
    (last_shape c.args.lane c.args.line c.args.entries.now (length c.args.entries.now)) (grind (arith, c.loop-left-test.true)) c.shape_at.ensures
    c.in_default.not-Some c.loop-left.invariant
