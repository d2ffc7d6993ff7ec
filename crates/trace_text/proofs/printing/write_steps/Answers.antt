-- An entry more.
use Rattle.trace_text.proofs.Paging.{put_more, put_nil, steps_more}
use Rattle.trace_text.proofs.printing.write_steps.Goals as goal

pub loop-entry-init : goal.loop-entry-init
loop-entry-init c = λ all. put_nil c.args.page.now

pub loop-entry-preserved : goal.loop-entry-preserved
loop-entry-preserved c = λ all. put_more _ _ _ _ _ _ (steps_more c.args.trace.now c.loop-entry.entry) (c.loop-entry.invariant all) (c.in_ok-write_step.ensures all)
