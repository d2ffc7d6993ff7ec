-- A record came there, and has an xid.
use Rattle.std.proofs.Common.{sym, ◌∙◌}
use Rattle.trace_claims.proofs.Hearers.{came-under, heard-uncame, heard-nameless}
use Rattle.trace_claims.proofs.records.heard_at.Goals as goal

pub returns-then-not-came_at : goal.returns-then-not-came_at
returns-then-not-came_at c = heard-uncame c.args.entries.now c.args.place (sym c.came_at.ensures ∙ c.if-not-came_at.true)

pub heard_under-requires : goal.heard_under-requires
heard_under-requires c = came-under c.args.entries.now c.args.place c.in-Some.xid (sym c.came_at.ensures ∙ c.if-not-came_at.false) (sym (rw c.came_bytes.ensures at c.xid_of.ensures) ∙ c.in-Some.is)

pub returns-in-None : goal.returns-in-None
returns-in-None c = heard-nameless c.args.entries.now c.args.place (sym (rw c.came_bytes.ensures at c.xid_of.ensures) ∙ c.in-None.is)
