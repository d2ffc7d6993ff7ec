use Rattle.std.proofs.Common.{inl, inr, ◌∙◌, refl, append-nil}
use Rattle.lane_session.proofs.Passing.{relates_note, relates_then}
use Rattle.lane_session.proofs.Beginnings.{Timed, Same, More, note-more}
use Rattle.lane_session.proofs.lines.note_at.Goals as goal

pub returns-in-Err-clause-goes : goal.returns-in-Err-clause-goes
returns-in-Err-clause-goes g c = relates_note _ _ _ _ (λ h k is. inl (is ∙ append-nil h)) c.in-Err.ensures.told

pub returns-in-Err-note-clause-goes : goal.returns-in-Err-note-clause-goes
returns-in-Err-note-clause-goes g c =
    relates_then _ _ _ (Timed c.args.ms) Same _ (λ h k l p q. inr (q ∙ p)) (relates_note _ _ _ (Timed c.args.ms) (λ h k is. is) c.in-Ok.ensures.told)
    (relates_note _ _ _ Same (λ h k is. is ∙ append-nil h) c.in-Err-note.ensures.told)

pub returns-in-Ok-note-clause-goes : goal.returns-in-Ok-note-clause-goes
returns-in-Ok-note-clause-goes g c =
    relates_then _ _ _ (Timed c.args.ms) (More c.args.lane c.args.line c.args.op) _ (λ h k l p q. (refl, note-more c.args.lane c.args.line c.args.op c.args.ms h k l p q))
    (relates_note _ _ _ (Timed c.args.ms) (λ h k is. is) c.in-Ok.ensures.told) (relates_note _ _ _ (More c.args.lane c.args.line c.args.op) (λ h k is. is) c.in-Ok-note.ensures.told)
