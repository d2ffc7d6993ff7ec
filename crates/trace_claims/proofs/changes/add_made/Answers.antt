-- Each file that has the name after the entry.
use Rattle.trace_claims.proofs.Makings.{made-ok, made-nothing}
use Rattle.trace_claims.proofs.changes.add_made.Goals as goal

pub returns-in-Some : goal.returns-in-Some
returns-in-Some c = made-ok c.args.trace.now c.args.made c.in-Some.made c.args.place c.args.after c.args.all.now.items _ _ c.in-Some.is (rw c.listed_at.ensures at c.add_named.ensures)

pub returns-in-None : goal.returns-in-None
returns-in-None c = made-nothing c.args.trace.now c.args.made c.args.place c.args.after c.args.all.now.items c.in-None.is
