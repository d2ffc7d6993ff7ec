use Rattle.run_asked.proofs.Ending.{with-ends}
use Rattle.run_asked.proofs.Promising.{with-promised}
use Rattle.run_asked.proofs.top.run_with.Goals as goal

pub returns-clause-headline : goal.returns-clause-headline
returns-clause-headline g c = with-promised _ _ _ _ _ _ _ c.run_with.ensures.runs

pub returns-clause-ends : goal.returns-clause-ends
returns-clause-ends g c =
    with-ends (g.C.Clock.readings c.args.clock.now) (g.C.Clock.readings c.run_with.new.clock) (g.L.Link.told c.args.link.now) (g.L.Link.told c.run_with.new.link)
    (λ rounds. g.A.Asker.asks c.args.asker.now rounds c.run_with.new.asker) c.args.settings.now c.run_with.result
    (with-promised _ _ _ _ _ _ _ c.run_with.ensures.runs)
