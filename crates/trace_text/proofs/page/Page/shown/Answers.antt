-- A byte more.
use Rattle.std.proofs.Common.{arith}
use Rattle.trace_text.proofs.Paging.{put_more, shown_more, shown_none}
use Rattle.trace_text.proofs.page.Page.shown.Goals as goal

pub loop-byte-init : goal.loop-byte-init
loop-byte-init c = shown_none c.args.self.now

pub loop-byte-preserved : goal.loop-byte-preserved
loop-byte-preserved c = put_more _ _ _ _ _ _ (shown_more c.args.bytes.now c.loop-byte.byte-index 0 (omega (arith, c.loop-byte-test.true))) c.loop-byte.invariant c.in_ok-shown_byte.ensures
