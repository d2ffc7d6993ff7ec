use Rattle.std.proofs.Common.{refl, true, false}
use Rattle.client_core.proofs.Beginning.{heard-none, heard-one}
use Rattle.client_core.proofs.work.Work.take.Goals as goal

pub returns-in_default-clause-hears : goal.returns-in_default-clause-hears
returns-in_default-clause-hears c = heard-none c.args.self.now c.take_call.new.self c.args.rec.now false refl (rw c.bytes.ensures at c.in_default.ensures.takes)

pub returns-clause-hears : goal.returns-clause-hears
returns-clause-hears c = heard-one c.args.self.now c.take_call.new.self c.settle.new.self c.args.rec.now true c.in-Some.purpose refl (rw c.bytes.ensures at c.in-Some.ensures.takes)
    (record { says = c.deliver.ensures.says; first = c.deliver.new.self; own = c.deliver.ensures.hears; rest = c.settle.ensures.moves; still = c.settle.ensures.still })
