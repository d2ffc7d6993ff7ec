-- A reply that leads to no further call.
use Rattle.std.proofs.Common.{◌≡◌, ℕ, Bool, false, List, sym, ap, ◌∙◌}
use Rattle.world_model.specs.declared.message.Call.{Call}
use Rattle.client_shelf.specs.declared.shelf.Shelf.{Shelf}
use Rattle.client_shelf.specs.declared.turn.Turn.{Turn}
use Rattle.client_shelf.specs.declared.step.Step.{Step}
use Rattle.client_shelf.specs.Busy.{goes_again}
use Rattle.name_ops.specs.declared.told.Told.{Told}
use Rattle.name_ops.specs.Changing.{told_busy, change_next, Changes, EndsChange}

-- it is no reply of a busy server, so no call is made again
pub ends-change : (dir : List ℕ) (call : Call) (told : Told) (sent turn : Turn) (old : Shelf) (next : Step) (after : Shelf) → told_busy told.refusal ≡ false
    → EndsChange dir told sent turn old next after → Changes dir call told sent turn old next after
ends-change dir call told sent turn old next after idle e = record {
  attrs = e.attrs;
  next_is = e.next_is ∙ sym (ap (λ (b : Bool). change_next (goes_again b sent turn old.repeats) call told) idle);
  others = e.others;
}
