use Rattle.pair_ends.specs.Ends.{number_of}
use Rattle.pair_ends.proofs.Calls.{side-notes, spares-note}
use Rattle.pair_ends.proofs.end.EndLink.note.Goals as goal

pub returns-clause-told : goal.returns-clause-told
returns-clause-told g c =
    let t = rw c.number.ensures.is at c.note.ensures.told in
    side-notes (number_of c.args.self.now.side) _ _ _ t

pub returns-clause-stays : goal.returns-clause-stays
returns-clause-stays g c = λ first s.
    let t = rw (c.number.ensures.is, s.1) at c.note.ensures.told in
    (s.0, s.1, spares-note (number_of first.side) _ _ _ _ s.2 t)
