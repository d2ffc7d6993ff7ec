use Rattle.lane_session.proofs.running.Session.has_room.Goals as goal

pub have_room-requires-clause-before : goal.have_room-requires-clause-before
have_room-requires-clause-before c = rw c.count-lines.ensures c.requires.held.seated.room

pub have_room-requires-clause-few : goal.have_room-requires-clause-few
have_room-requires-clause-few c = rw c.count-more.ensures c.requires.few

pub returns : goal.returns
returns c = rw (← c.count-lines.ensures, ← c.count-more.ensures) c.have_room.ensures
