use Rattle.export_session.specs.Senders.{DoesAll, Talks}
use Rattle.export_session.proofs.serving.Serving.serve_datagrams.Given as goal

abbrev pub invariant-loop : goal.invariant-loop
invariant-loop g l = DoesAll (g.D.Datagrams.told l.fn.datagrams) (g.D.Datagrams.told l.datagrams) (λ es. Talks l.fn.self es l.self)
