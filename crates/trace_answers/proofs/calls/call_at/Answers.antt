-- The record's xid tells the call.
use Rattle.std.proofs.Common.{Option, sym, subst, ◌∙◌}
use Rattle.std.specs.Prelude.{MatchOption}
use Rattle.trace_answers.specs.declared.calls.LastCall.{LastCall}
use Rattle.trace_answers.specs.Calling.{CalledAt, NoCallAt}
use Rattle.trace_answers.proofs.Callings.{called-by, came-below, no-xid}
use Rattle.trace_answers.proofs.calls.call_at.Goals as goal

pub came_bytes-requires : goal.came_bytes-requires
came_bytes-requires c = came-below c.args.entries.now c.args.at c.requires

pub returns-in_ok-call_before-in-Some : goal.returns-in_ok-call_before-in-Some
returns-in_ok-call_before-in-Some c = subst (λ (z : Option LastCall). MatchOption z (NoCallAt c.args.entries.now c.args.at) (CalledAt c.args.entries.now c.args.at)) (sym c.called.ensures)
    (called-by c.args.entries.now c.args.at c.requires c.in-Some.xid (sym (rw c.came_bytes.ensures at c.xid_of.ensures) ∙ c.in-Some.is) c.in_ok-call_before-in-Some.field-0 c.in_ok-call_before-in-Some.ensures)

pub returns-in-None : goal.returns-in-None
returns-in-None c = no-xid c.args.entries.now c.args.at (sym (rw c.came_bytes.ensures at c.xid_of.ensures) ∙ c.in-None.is)
