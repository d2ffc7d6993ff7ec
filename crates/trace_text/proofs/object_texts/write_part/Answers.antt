-- An object more.
use Rattle.trace_text.specs.Texts.{changed_text, object_before, objects_in}
use Rattle.trace_text.proofs.Paging.{firsts_more, put_more, put_nil}
use Rattle.trace_text.proofs.object_texts.write_part.Goals as goal

pub loop-place-init : goal.loop-place-init
loop-place-init c = put_nil c.args.page.now

pub loop-place-preserved : goal.loop-place-preserved
loop-place-preserved c = put_more _ _ _ _ _ _
    (firsts_more (changed_text (object_before c.args.trace.now c.args.entry) c.args.part) (objects_in c.args.trace.now c.args.entry) c.loop-place.place) c.loop-place.invariant
    (rw c.objects_in-objects.ensures at c.in_ok-write_first.ensures)
