-- An entry more.
use Rattle.std.proofs.Common.{arith}
use Rattle.trace_text.specs.Texts.{name_text}
use Rattle.trace_text.proofs.Paging.{pieces_more, put_more}
use Rattle.trace_text.proofs.object_texts.write_entered.Goals as goal

pub loop-entry-preserved : goal.loop-entry-preserved
loop-entry-preserved c = put_more _ _ _ _ _ _
    (pieces_more (name_text c.args.dir.now c.args.old.now) c.args.new.now c.loop-entry.entry-index c.entry-item.result (omega (arith, c.loop-entry-test.true)) c.entry-item.is)
    c.loop-entry.invariant c.in_ok-write_name.ensures
