use Rattle.batch_runs.proofs.running.go_to.Goals as goal

pub returns-clause-stands : goal.returns-clause-stands
returns-clause-stands c = record { goes = c.next_script.ensures.goes c.args.next; core = c.next_script.ensures.core }

pub returns-clause-held : goal.returns-clause-held
returns-clause-held c = c.next_script.ensures.held c.args.next (rw c.if-not-has_room.false at c.has_room.ensures)
