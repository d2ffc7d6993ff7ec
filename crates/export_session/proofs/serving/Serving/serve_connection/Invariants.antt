use Rattle.export_session.specs.Talk.{Does, Talks}
use Rattle.export_session.proofs.serving.Serving.serve_connection.Given as goal

abbrev pub invariant-loop : goal.invariant-loop
invariant-loop g l = Does (g.L.Link.told l.fn.link) (g.L.Link.told l.link) (λ es. Talks l.fn.self es l.self)
