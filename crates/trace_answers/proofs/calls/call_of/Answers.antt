-- What the record asks for tells the call.
use Rattle.std.proofs.Common.{Option, sym, subst}
use Rattle.world_model.specs.declared.message.Call.{Call}
use Rattle.trace_answers.specs.Calling.{FindsCall}
use Rattle.trace_answers.proofs.Callings.{call-by}
use Rattle.trace_answers.proofs.calls.call_of.Goals as goal

pub returns : goal.returns
returns c = subst (λ (z : Option Call). FindsCall c.args.xid c.args.rec.now z) (sym c.call_in.ensures)
    (call-by c.args.xid c.args.rec.now c.in_ok-asked.field-0 c.in_ok-asked.ensures.sound (λ x call spells. c.in_ok-asked.ensures.served x call spells))
