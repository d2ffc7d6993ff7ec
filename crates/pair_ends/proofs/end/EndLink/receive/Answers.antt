use Rattle.pair_ends.specs.Ends.{number_of}
use Rattle.pair_ends.proofs.Calls.{side-tells, spares-then}
use Rattle.pair_ends.proofs.end.EndLink.receive.Goals as goal

pub returns-clause-told : goal.returns-clause-told
returns-clause-told g c =
    let t = rw c.number.ensures.is at c.receive.ensures.told in
    side-tells (number_of c.args.self.now.side) _ _ _ t

pub returns-clause-stays : goal.returns-clause-stays
returns-clause-stays g c = λ first s.
    let t = rw (c.number.ensures.is, s.1) at c.receive.ensures.told in
    (s.0, s.1, spares-then (number_of first.side) _ _ _ _ s.2 t)
