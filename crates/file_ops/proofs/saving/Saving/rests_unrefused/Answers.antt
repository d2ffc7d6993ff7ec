use Rattle.std.proofs.Common.{sym, ◌∙◌}
use Rattle.file_ops.proofs.Resting.{unsending-rests}
use Rattle.file_ops.proofs.saving.Saving.rests_unrefused.Goals as goal

pub returns : goal.returns
returns c = unsending-rests c.args.self.now c.args.back.now c.requires (sym c.may_send.ensures ∙ c.if-may_send.false)

pub rests_sent-requires-clause-may : goal.rests_sent-requires-clause-may
rests_sent-requires-clause-may c = sym c.may_send.ensures ∙ c.if-may_send.true
