use Rattle.std.proofs.Common.{[], ◌∷◌, refl}
use Rattle.world_model.specs.declared.entry.Entry.TheVariants.{Delivered, Failed}
use Rattle.export_session.specs.Talk.{silent, before_a_record}
use Rattle.export_session.proofs.Doing.{does_call, does_exactly, does_then}
use Rattle.export_session.proofs.Turning.{came_then}
use Rattle.export_session.proofs.serving.Serving.serve_record.Goals as goal

pub returns-in-Whole-clause-turns : goal.returns-in-Whole-clause-turns
returns-in-Whole-clause-turns g c =
    does_then _ _ _ _ _ _ (λ es fs p q. came_then _ c.answer.result _ _ es fs p q) (does_exactly _ _ (Delivered _ ∷ []) c.in-Whole.ensures.told) (rw c.as_slice.ensures.value at c.answer.ensures.turns)

pub returns-in-Silent-clause-turns : goal.returns-in-Silent-clause-turns
returns-in-Silent-clause-turns g c = does_call _ _ (Failed ∷ []) _ c.in-Silent.ensures.told (silent refl refl)

pub returns-in-Failed-clause-turns : goal.returns-in-Failed-clause-turns
returns-in-Failed-clause-turns g c = does_call _ _ (Failed ∷ []) _ c.in-Failed.ensures.told (silent refl refl)

pub returns-in-Memory-clause-turns : goal.returns-in-Memory-clause-turns
returns-in-Memory-clause-turns g c = does_call _ _ [] _ c.in-Memory.ensures.told (before_a_record refl refl)
