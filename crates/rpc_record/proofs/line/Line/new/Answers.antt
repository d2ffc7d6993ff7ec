use Rattle.rpc_record.proofs.LineBegins.{fresh_begun}
use Rattle.rpc_record.proofs.LineStaysHonest.{begins_honest}
use Rattle.rpc_record.proofs.line.Line.new.Goals as goal

pub returns-clause-begun : goal.returns-clause-begun
returns-clause-begun g c = fresh_begun (g.W.Wire.told c.args.wire) _ _ c.forget_places.ensures.told c.forget_places.ensures.placed

pub returns-clause-honest : goal.returns-clause-honest
returns-clause-honest g c = begins_honest g.W.Wire.told g.W.Wire.honest g.met.W.Wire.lawful c.args.wire _ _ _ c.forget_places.ensures.told c.forget_places.ensures.placed c.forget_places.ensures.honest
