-- A call that may change nothing.
use Rattle.std.proofs.Common.{refl, sym, ◌∙◌}
use Rattle.world_trace.proofs.Moving.{rested}
use Rattle.world_trace.proofs.Resting.{idle}
use Rattle.world_trace.proofs.stepping.execute.Goals as goal

pub returns-then-not-may_change : goal.returns-then-not-may_change
returns-then-not-may_change c =
    rested c.args.export.now c.args.export.now _ refl (idle c.args.export.now c.args.call.now c.args.reply.now (sym c.may_change.ensures ∙ c.if-not-may_change.true))
