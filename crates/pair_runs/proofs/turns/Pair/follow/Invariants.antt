use Rattle.std.proofs.Common.{◌≤◌, Ok}
use Rattle.pair_runs.specs.Clients.{AreReady}
use Rattle.pair_runs.specs.PairGoing.{PairBy, PairPasses}
use Rattle.pair_runs.proofs.turns.Pair.follow.Given as goal

abbrev pub invariant-loop-letter : goal.invariant-loop-letter
invariant-loop-letter g l = record {
  ready : AreReady l.self;
  honest : g.P.PairLink.honest l.fn.link → g.P.PairLink.honest l.link;
  later : g.K.Sink.faults l.fn.out ≤ g.K.Sink.faults l.out;
  goes : PairPasses (g.C.Clock.readings l.fn.clock) (g.C.Clock.readings l.clock) (g.P.PairLink.told l.fn.link) (g.P.PairLink.told l.link) (g.K.Sink.written l.fn.out) (g.K.Sink.written l.out) (PairBy {T = Unit {0}} l.fn.self l.self (Ok tt));
}
