-- The record is a reply to the call, or not.
use Rattle.trace_claims.proofs.Hearers.{called-below, heard-so, heard-not}
use Rattle.trace_claims.proofs.records.heard_of.Goals as goal

pub came_bytes-requires : goal.came_bytes-requires
came_bytes-requires c = called-below c.args.entries.now c.args.place c.args.xid c.args.call c.requires

pub returns-in-Some : goal.returns-in-Some
returns-in-Some c = heard-so c.args.entries.now c.args.place c.args.xid c.args.call c.requires c.args.after c.in-Some.reply (rw (c.in-Some.is, c.came_bytes.ensures) at c.in_ok-reply.ensures.finds)

pub returns-in-None : goal.returns-in-None
returns-in-None c = heard-not c.args.entries.now c.args.place c.args.xid c.args.call c.requires (rw (c.in-None.is, c.came_bytes.ensures) at c.in_ok-reply.ensures.finds)
