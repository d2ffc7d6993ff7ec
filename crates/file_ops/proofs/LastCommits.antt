-- What the reply to the second COMMIT of a save leads to.
use Rattle.std.proofs.Common.{◌≡◌, ℕ, List, Result, refl, sym, subst}
use Rattle.nfs_types.specs.declared.verf.Verf.{Verf}
use Rattle.world_model.specs.declared.answer.Fault.{Fault}
use Rattle.world_model.specs.declared.message.Reply.{Reply}
use Rattle.client_shelf.specs.declared.repeats.Repeat.{Repeat}
use Rattle.client_shelf.specs.declared.turn.Turn.{Turn}
use Rattle.write_back.specs.Files.{Pending}
use Rattle.file_ops.specs.declared.saving.Saving.{Saving}
use Rattle.file_ops.specs.declared.saving.Phase.TheVariants.{CommittingAgain}
use Rattle.file_ops.specs.declared.saving.SavingStep.{SavingStep}
use Rattle.file_ops.specs.Judging.{commit_told}
use Rattle.file_ops.specs.Saves.{Leads, last_next, last_saving, commit_again, commit_repeats, TakesIn, Takes}

pub last-takes : (s : Saving) (told : Result Verf Fault) (wsize : ℕ) (sent turn : Turn) (came : Result Reply Fault) (repeats : List Repeat) (back : Pending) (next : SavingStep) (new : Saving) (later : List Repeat)
    → s.phase ≡ CommittingAgain → told ≡ commit_told came → next ≡ last_next (commit_again told sent turn repeats s) told s → new ≡ last_saving (commit_again told sent turn repeats s) s → later ≡ commit_repeats told sent turn repeats s
    → Takes wsize sent turn came repeats s back next new back later
last-takes s told wsize sent turn came repeats back next new later is e gives keeps counted =
    subst (λ p. TakesIn p wsize sent turn came repeats s back next new back later) (sym is)
    (subst (λ t. Leads (last_next (commit_again t sent turn repeats s) t s) (last_saving (commit_again t sent turn repeats s) s) next new × (back ≡ back) × (later ≡ commit_repeats t sent turn repeats s)) e
    (record { gives_next = gives; keeps = keeps }, refl, counted))
