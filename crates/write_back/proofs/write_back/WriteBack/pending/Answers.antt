use Rattle.write_back.proofs.write_back.WriteBack.pending.Goals as goal

pub returns-clause-count : goal.returns-clause-count
returns-clause-count c = rw (← c.self.view_is) c.self.invariant.counted.total

pub returns-clause-most : goal.returns-clause-most
returns-clause-most c = c.self.invariant.counted.room

pub returns-clause-sound : goal.returns-clause-sound
returns-clause-sound c = rw (← c.self.view_is) c.self.invariant.counted.sound
