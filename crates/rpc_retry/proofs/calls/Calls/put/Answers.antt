use Rattle.std.proofs.Common.{Ok, sym, subst, ℕ, List}
use Rattle.rpc_message.specs.Call.{SpellsCallHead}
use Rattle.rpc_retry.specs.Held.{next_xid}
use Rattle.rpc_retry.specs.Put.{call_head}
use Rattle.rpc_retry.proofs.Putting.{spelled_by, calls_by, step_by}
use Rattle.rpc_retry.proofs.calls.Calls.put.Goals as goal

pub put_checked-requires-clause-may : goal.put_checked-requires-clause-may
put_checked-requires-clause-may g c = sym c.in_ok-check.ensures

pub put_checked-requires-clause-spelled : goal.put_checked-requires-clause-spelled
put_checked-requires-clause-spelled g c =
    record { prog = c.args.prog; proc = c.args.proc; args = c.args.args.now; is = c.in_ok-bytes.ensures.bytes; spells = c.in_ok-bytes.ensures.spelled }

pub returns-clause-calls : goal.returns-clause-calls
returns-clause-calls g c = calls_by c.args.self.now c.put_checked.new.self c.in_ok-bytes.bytes _ c.args.purpose (Ok c.in_ok-xid.xid) c.in_ok-bytes.ensures.bytes c.in_ok-xid.ensures.calls

pub returns-clause-spelled : goal.returns-clause-spelled
returns-clause-spelled g c =
    let spelled = subst (λ (b : List ℕ). SpellsCallHead (call_head (next_xid c.args.self.now) c.args.prog c.args.proc) c.args.args.now b) c.in_ok-bytes.ensures.bytes c.in_ok-bytes.ensures.spelled in
    spelled_by c.args.self.now c.args.prog c.args.proc c.args.args.now (Ok c.in_ok-xid.xid) c.in_ok-xid.ensures.answer spelled

pub returns-clause-step : goal.returns-clause-step
returns-clause-step g c = step_by c.args.self.now c.put_checked.new.self c.in_ok-bytes.bytes _ (Ok c.in_ok-xid.xid) c.in_ok-bytes.ensures.bytes c.in_ok-xid.ensures.step
