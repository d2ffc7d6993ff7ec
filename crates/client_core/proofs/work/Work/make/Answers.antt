use Rattle.client_core.proofs.Leading.{makes-of, on-ok-then, is-record}
use Rattle.client_core.proofs.work.Work.make.Goals as goal

pub put-requires-clause-spelled : goal.put-requires-clause-spelled
put-requires-clause-spelled c = is-record c.args.self.now c.procedure_of-proc.result c.args.call.now c.in-Ok.bytes c.in-Ok.ensures

pub returns-clause-made : goal.returns-clause-made
returns-clause-made c = on-ok-then c.put.result c.put.ensures.ok (λ put.
    makes-of c.args.self.now c.put.new.self c.args.lane c.procedure_of-proc.result c.args.turn c.args.call.now c.in-Ok.ensures.args c.procedure_of-proc.ensures c.requires.turn c.requires.spells
    c.in-Ok.ensures.spells c.in_ok-may_make.ensures.ok (put c.in-Ok.ensures.args c.in-Ok.ensures.of))
