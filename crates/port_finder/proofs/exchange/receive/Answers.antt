use Rattle.std.proofs.Common.{[], ◌∷◌, refl, arith}
use Rattle.world_model.specs.declared.entry.Entry.TheVariants.{Delivered, Failed}
use Rattle.port_finder.proofs.Doing.{does_call, calm_one, delivered_calm}
use Rattle.port_finder.proofs.exchange.receive.Goals as goal

pub returns-in-Whole-clause-does : goal.returns-in-Whole-clause-does
returns-in-Whole-clause-does g c =
    let r = c.in-Whole.ensures in
    rw c.of.ensures (does_call _ _ _ _ (Delivered _ ∷ []) r.told r.cause.later (λ f. absurd (calm_one (Delivered _) (delivered_calm _) f)))

pub returns-in-Silent-clause-does : goal.returns-in-Silent-clause-does
returns-in-Silent-clause-does g c = let r = c.in-Silent.ensures in does_call _ _ _ _ (Failed ∷ []) r.told r.cause.later (λ f. r.cause.failed)

pub returns-in-Failed-clause-does : goal.returns-in-Failed-clause-does
returns-in-Failed-clause-does g c = let r = c.in-Failed.ensures in does_call _ _ _ _ (Failed ∷ []) r.told r.cause.later (λ f. r.cause.failed)

pub returns-in-Memory-clause-does : goal.returns-in-Memory-clause-does
returns-in-Memory-clause-does g c = let r = c.in-Memory.ensures in does_call _ _ _ _ [] r.told r.cause.later (λ f. absurd f)
