use Rattle.std.proofs.Common.{sym, ◌∙◌}
use Rattle.file_ops.proofs.Resting.{first-rests, later-rests}
use Rattle.file_ops.proofs.saving.rests_in_turn.Goals as goal

pub returns-then-is_first : goal.returns-then-is_first
returns-then-is_first c = first-rests c.args.lane c.args.saving.now c.args.shelf.now _ c.rests.ensures

pub returns : goal.returns
returns c = later-rests c.args.lane c.args.saving.now c.args.shelf.now (sym c.is_first.ensures ∙ c.if-is_first.false)
