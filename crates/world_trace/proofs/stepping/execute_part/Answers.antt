-- A WRITE breaks off with any status.
use Rattle.std.proofs.Common.{◌∙◌}
use Rattle.world_trace.proofs.Moving.{moved}
use Rattle.world_trace.proofs.Resting.{part-same}
use Rattle.world_trace.proofs.stepping.execute_part.Goals as goal

pub returns-in_ok-_reply-in-File-Write : goal.returns-in_ok-_reply-in-File-Write
returns-in_ok-_reply-in-File-Write c = λ status.
    moved c.args.export.now c.execute_partial.new.self _ (c.in_ok-_reply-in-File-Write.ensures.ok.0 ∙ part-same c.args.export.now c.args.call.now c.args.bytes 5 status)
