-- In place of the first under its handle, or as the last.
use Rattle.std.proofs.Common.{sym, ◌∙◌}
use Rattle.trace_text.specs.Puts.{is_under}
use Rattle.trace_text.proofs.Placing.{set-first, set-last}
use Rattle.trace_text.proofs.draft.put.Goals as goal

pub returns-in-Some-clause-objects : goal.returns-in-Some-clause-objects
returns-in-Some-clause-objects c = set-first (is_under c.args.handle) (record { handle = c.args.handle; object = c.args.object }) c.args.update.now.objects.items c.in-Some.place
    (sym (rw c.as_slice.ensures.value at c.in-Some.ensures))

pub returns-in_ok-push-in-None-clause-objects : goal.returns-in_ok-push-in-None-clause-objects
returns-in_ok-push-in-None-clause-objects c = c.in_ok-push-in-None.ensures.items
    ∙ set-last (is_under c.args.handle) (record { handle = c.args.handle; object = c.args.object }) c.args.update.now.objects.items
    (sym (rw c.as_slice.ensures.value at c.in-None.ensures))
