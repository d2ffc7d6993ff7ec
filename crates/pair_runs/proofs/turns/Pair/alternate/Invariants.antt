use Rattle.std.proofs.Common.{◌≤◌, Ok}
use Rattle.pair_runs.specs.Clients.{AreReady, left_in}
use Rattle.pair_runs.specs.PairGoing.{PairBy, PairPasses}
use Rattle.pair_runs.proofs.turns.Pair.alternate.Given as goal

abbrev pub invariant-alternating : goal.invariant-alternating
invariant-alternating g l = record {
  ready : AreReady l.self;
  honest : g.P.PairLink.honest l.fn.link → g.P.PairLink.honest l.link;
  later : g.K.Sink.faults l.fn.out ≤ g.K.Sink.faults l.out;
  goes : PairPasses (g.C.Clock.readings l.fn.clock) (g.C.Clock.readings l.clock) (g.P.PairLink.told l.fn.link) (g.P.PairLink.told l.link) (g.K.Sink.written l.fn.out) (g.K.Sink.written l.out) (PairBy {T = Unit {0}} l.fn.self l.self (Ok tt));
}

abbrev pub decreases-alternating : goal.decreases-alternating
decreases-alternating g l = left_in l.self
