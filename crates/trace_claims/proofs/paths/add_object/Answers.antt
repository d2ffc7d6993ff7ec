-- The directory, or another.
use Rattle.std.proofs.Common.{sym, ◌∙◌}
use Rattle.trace_claims.proofs.Rooting.{object-ok, object-not}
use Rattle.trace_claims.proofs.paths.add_object.Goals as goal

pub returns-then-is_at : goal.returns-then-is_at
returns-then-is_at c = object-ok c.args.lead.now c.args.dir.now c.args.object c.args.since c.args.later.now.items _ _ (sym c.is_at.ensures ∙ c.if-is_at.true) (rw c.max.ensures at c.add.ensures)

pub returns-else-is_at : goal.returns-else-is_at
returns-else-is_at c = object-not c.args.lead.now c.args.dir.now c.args.object c.args.since c.args.later.now.items (sym c.is_at.ensures ∙ c.if-is_at.false)
