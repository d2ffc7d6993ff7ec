-- A call of another client, or another entry.
use Rattle.trace_claims.proofs.Makings.{entry-ok, entry-not}
use Rattle.trace_claims.proofs.changes.add_changes.Goals as goal

pub returns-in-Foreign : goal.returns-in-Foreign
returns-in-Foreign c = entry-ok c.args.trace.now c.args.entry.now c.args.place c.args.after c.in-Foreign.call c.in-Foreign.reply c.args.all.now.items _ _ c.in-Foreign.is c.add_of_call.ensures

pub returns-in_default : goal.returns-in_default
returns-in_default c = entry-not c.args.trace.now c.args.entry.now c.args.place c.args.after c.args.all.now.items c.in_default.not-Foreign
