-- The xid waits, and a call was sent under it before.
use Rattle.std.proofs.Common.{true≢false, sym, ◌∙◌}
use Rattle.trace_claims.proofs.Hearers.{under-below, heard-unwaited, heard-uncalled}
use Rattle.trace_claims.proofs.records.heard_under.Goals as goal

pub waits-requires : goal.waits-requires
waits-requires c = under-below c.args.entries.now c.args.place c.args.xid c.requires

pub returns-then-not-waits : goal.returns-then-not-waits
returns-then-not-waits c = heard-unwaited c.args.entries.now c.args.place c.args.xid c.requires (λ w. true≢false (sym (c.waits.ensures.1 w) ∙ c.if-not-waits.true))

pub heard_of-requires : goal.heard_of-requires
heard_of-requires c = record { came = c.requires; waits = c.waits.ensures.0 c.if-not-waits.false; call_is = rw c.in-Some.is at c.in_ok-call.ensures }

pub returns-in-None : goal.returns-in-None
returns-in-None c = heard-uncalled c.args.entries.now c.args.place c.args.xid c.requires (rw c.in-None.is at c.in_ok-call.ensures)
