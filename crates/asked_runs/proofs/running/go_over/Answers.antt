use Rattle.std.proofs.Common.{refl, ◌∙◌}
use Rattle.asked_runs.proofs.running.go_over.Goals as goal

pub returns-clause-goes : goal.returns-clause-goes
returns-clause-goes c = (refl, (λ e. c.if-status-eq-LINK_LOST.false (c.status.ensures ∙ e)), record { goes = c.next_script.ensures.goes c.args.next; core = c.next_script.ensures.core })

pub returns-clause-held : goal.returns-clause-held
returns-clause-held c = c.next_script.ensures.held c.args.next (rw c.if-not-has_room.false at c.has_room.ensures)
