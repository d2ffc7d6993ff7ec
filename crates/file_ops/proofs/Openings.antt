-- An opening keeps its words from step to step.
use Rattle.std.proofs.Common.{◌≡◌, ℕ, Bool, List, true, false, if◌then◌else◌, Ok, Err, refl, ap, subst, ◌∙◌}
use Rattle.std.specs.FinMap as finite
use Rattle.open_files.specs.Slots as slots
use Rattle.client_shelf.specs.declared.turn.Turn.{Turn}
use Rattle.client_shelf.specs.declared.step.Step.{Step}
use Rattle.file_ops.specs.declared.opening.Opening.{Opening}
use Rattle.file_ops.specs.declared.opening.OpeningStep.{OpeningStep}
use Rattle.file_ops.specs.declared.opening.OpeningPhase.{OpeningPhase}
use Rattle.file_ops.specs.declared.opening.OpeningPhase.TheVariants.{Look, Make, Find, Ask}
use Rattle.file_ops.specs.declared.opening.OpeningStep.TheVariants.{Send, Wait, Ended}
use Rattle.file_ops.specs.declared.opening.Led.{Led}
use Rattle.file_ops.specs.declared.opening.Led.TheVariants.{Goes, Opens, Knows, Ends}
use Rattle.file_ops.specs.declared.open_file.OpenFile.{OpenFile}
use Rattle.file_ops.specs.Opening.{call_of, waits, go_after, at_step, led_after, counted, opening_after}
use Rattle.file_ops.specs.OpenFile.{place_of, opened_of, PutsOver, Follows}

pub go-keeps : (o : Opening) (turn : Turn) (file : List ℕ) → opened_of (go_after o turn) file ≡ opened_of o file
go-keeps o turn file = elim (waits o turn) as (λ b. opened_of (if b then o else record o { asked = true }) file ≡ opened_of o file) [ true ↦ refl | false ↦ refl ]

pub led-keeps : (o : Opening) (turn : Turn) (led : Led) (file : List ℕ) → opened_of (led_after o turn led) file ≡ opened_of o file
led-keeps o turn (Goes step) file = go-keeps (at_step o step) turn file
led-keeps o turn (Opens other attr) file = refl
led-keeps o turn (Knows other stamp) file = refl
led-keeps o turn (Ends fault) file = refl

-- an opening that was put off once more makes the same calls
pub counted-call : (o : Opening) (step : OpeningPhase) → call_of (counted o) step ≡ call_of o step
counted-call o Look = refl
counted-call o Make = refl
counted-call o Find = refl
counted-call o (Ask file) = refl

pub after-keeps : (again : Bool) (o : Opening) (turn : Turn) (led : Led) (file : List ℕ) → opened_of (opening_after again o turn led) file ≡ opened_of o file
after-keeps true o turn led file = refl
after-keeps false o turn led file = led-keeps o turn led file

-- what follows a step is that of the machine before it
pub follows-before : (again : Bool) (m : OpenFile) (o : Opening) (turn : Turn) (led : Led) → o ≡ opening_after again m.opening turn led → (step : OpeningStep) (next : Step) (old new : slots.Opens)
    → Follows (record m { opening = o }) step next old new → Follows m step next old new
follows-before again m o turn led is (Ended (Ok file)) next old new h =
    subst (λ of. PutsOver (finite.get old (place_of m)) (place_of m) of next old new) (ap (λ x. opened_of x file) is ∙ after-keeps again m.opening turn led file) h
follows-before again m o turn led is (Ended (Err fault)) next old new h = h
follows-before again m o turn led is (Send call) next old new h = h
follows-before again m o turn led is Wait next old new h = h
