use Rattle.std.proofs.Common.{◌≡◌, subst, rules}
use Rattle.pair_ends.specs.Ends.{number_of}
use Rattle.pair_runs.specs.PairGoing.{PairPasses, TurnsBy}
use Rattle.pair_runs.proofs.client.Client.turn.Goals as goal

pub returns-clause-goes : goal.returns-clause-goes
returns-clause-goes g c =
    let same : c.turn_at.new.end.link.now ≡ c.link-1.given.0 = search rules in
    subst (λ l. PairPasses (g.C.Clock.readings c.args.clock.now) (g.C.Clock.readings c.turn_at.new.clock) (g.P.PairLink.told c.args.link.now) (g.P.PairLink.told l) (g.K.Sink.written c.args.out.now) (g.K.Sink.written c.turn_at.new.out) (TurnsBy (number_of c.args.self.now.side) c.args.self.now.script c.args.self.now.state c.turn_at.new.self.state c.turn_at.result)) same
    c.turn_at.ensures.goes
