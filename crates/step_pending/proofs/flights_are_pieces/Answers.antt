use Rattle.step_pending.proofs.Flights.{is-piece-of, piece-flies}
use Rattle.step_pending.proofs.flights_are_pieces.Goals as goal

pub returns-clause-piece : goal.returns-clause-piece
returns-clause-piece c = is-piece-of

pub returns-clause-places : goal.returns-clause-places
returns-clause-places c = piece-flies
