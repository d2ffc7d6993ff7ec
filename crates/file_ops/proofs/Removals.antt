-- What follows the reply to a REMOVE goes by whether the call is made again.
use Rattle.std.proofs.Common.{◌≡◌, ℕ, Bool, List, Result, sym, ◌∙◌, subst}
use Rattle.world_model.specs.declared.answer.Fault.{Fault}
use Rattle.world_model.specs.declared.message.Reply.{Reply}
use Rattle.client_shelf.specs.declared.repeats.Repeat.{Repeat}
use Rattle.client_shelf.specs.declared.shelf.Shelf.{Shelf}
use Rattle.client_shelf.specs.declared.turn.Turn.{Turn}
use Rattle.client_shelf.specs.declared.step.Step.{Step}
use Rattle.file_ops.specs.declared.closing.Removal.{Removal}
use Rattle.file_ops.specs.declared.close_file.Closing.{Closing}
use Rattle.client_shelf.specs.Busy.{goes_again}
use Rattle.file_ops.specs.Closings.{remove_busy}
use Rattle.file_ops.specs.Closes.{EndsIf}

pub ends-by : (b told busy : Bool) (sent turn : Turn) (came : Result Reply Fault) (repeats : List Repeat) (lane : ℕ) (removal : Removal) (took : Shelf) (next : Step) (state : Closing) (new : Shelf)
    → told ≡ b → told ≡ goes_again busy sent turn repeats → busy ≡ remove_busy came → EndsIf b lane removal took next state new
    → EndsIf (goes_again (remove_busy came) sent turn repeats) lane removal took next state new
ends-by b told busy sent turn came repeats lane removal took next state new is e f k =
    subst (λ x. EndsIf (goes_again x sent turn repeats) lane removal took next state new) f (subst (λ x. EndsIf x lane removal took next state new) (sym is ∙ e) k)
