-- A name more.
use Rattle.std.proofs.Common.{arith}
use Rattle.trace_text.proofs.Paging.{put_more, slashed_more, slashed_none}
use Rattle.trace_text.proofs.op_texts.write_names.Goals as goal

pub loop-name-init : goal.loop-name-init
loop-name-init c = slashed_none c.args.page.now

pub loop-name-preserved : goal.loop-name-preserved
loop-name-preserved c = put_more _ _ _ _ _ _ (slashed_more c.args.names.now c.loop-name.name-index c.name-item.result (omega (arith, c.loop-name-test.true)) c.name-item.is)
    c.loop-name.invariant c.in_ok-write_name.ensures
