-- What others do while a save is under way, and what is seen once it has ended.
use Rattle.std.proofs.Common.{◌≡◌, ◌<◌, ℕ, List, [], ◌∷◌, Option, Some, None, refl, sym, ap, subst, ◌∙◌}
use Rattle.world_model.specs.declared.answer.Fault.{Fault}
use Rattle.write_back.specs.Files.{Pending, of_file, with_bytes, OnFile}
use Rattle.write_back.specs.Pieces.{Sent, FilePending, rest_at, fly_at}
use Rattle.write_back.specs.Places.{PutsBytes}
use Rattle.write_back.proofs.SendsOn.{puts-with}
use Rattle.file_ops.specs.declared.saving.Phase.{Phase}
use Rattle.file_ops.specs.declared.saving.Phase.TheVariants.{Sending, Committing, Resending, CommittingAgain}
use Rattle.file_ops.specs.declared.saving.Saving.{Saving}
use Rattle.model_writes.specs.Machine.{Cell, Flight, Clear, View}
use Rattle.model_writes.specs.Story.{File, Spot}
use Rattle.step_pending.specs.Cells.{IsRest, EachSound, Shows}
use Rattle.step_pending.proofs.Shown.{kept-some, flown-of}
use Rattle.step_saves.specs.Saves.{IsClearUpTo, IsHeld, IsLost, AreAgain, PhaseHas, PhaseCounts, IsUnderWay}
use Rattle.step_saves.proofs.Places.{later-each, later-clear}

module _ (offset : ℕ) (bytes : List ℕ) (number upto : ℕ) (of new : FilePending) (later : upto < number) (puts : PutsBytes offset bytes number of new) (same : new.pieces ≡ of.pieces) where
  has-then : (phase : Phase) (refusal : Option Fault) → PhaseHas phase refusal upto of → PhaseHas phase refusal upto new
  has-then Sending refusal has = tt
  has-then Committing refusal has = later-each IsHeld offset bytes number upto of new later puts has
  has-then Resending None has = (later-each IsLost offset bytes number upto of new later puts has.0, subst AreAgain (sym same) has.1)
  has-then Resending (Some fault) has = tt
  has-then CommittingAgain refusal has = later-clear offset bytes number upto of new later puts has

same-pieces : (offset : ℕ) (bytes : List ℕ) (number : ℕ) (of : FilePending) → (with_bytes offset bytes number of).pieces ≡ of.pieces
same-pieces offset [] number of = refl
same-pieces offset (b ∷ bs) number of = refl

pub later-on : (s : Saving) (old new : Pending) (offset number : ℕ) (bytes : List ℕ) → EachSound old → s.upto < number → OnFile old new s.file (with_bytes offset bytes number (of_file s.file old))
    → IsUnderWay s old → IsUnderWay s new
later-on s old new offset number bytes sound later on way =
    let puts : PutsBytes offset bytes number (of_file s.file old) (of_file s.file new) = puts-with offset bytes number (of_file s.file old) (of_file s.file new) (sound s.file) on.here in
    let same : (of_file s.file new).pieces ≡ (of_file s.file old).pieces = ap (λ (of : FilePending). of.pieces) on.here ∙ same-pieces offset bytes number (of_file s.file old) in
    record {
      counts = subst (λ (ps : List Sent). PhaseCounts s.phase s.waiting ps) (sym same) way.counts;
      has = has-then offset bytes number s.upto (of_file s.file old) (of_file s.file new) later puts same s.phase s.refusal way.has;
    }

pub others-on : (s : Saving) (old new : Pending) → of_file s.file new ≡ of_file s.file old → IsUnderWay s old → IsUnderWay s new
others-on s old new same way = record {
  counts = subst (λ (of : FilePending). PhaseCounts s.phase s.waiting of.pieces) (sym same) way.counts;
  has = subst (λ (of : FilePending). PhaseHas s.phase s.refusal s.upto of) (sym same) way.has;
}

pub clear-shown : (file : File) (upto : ℕ) (back : Pending) → IsClearUpTo upto (of_file file back) → (c : View) → Shows back c → Clear file upto c
clear-shown file upto back clear c shows = record { rest = rest; fly = fly }
  where
    rest : (i : Spot) (cell : Cell) → i.file ≡ file → c.rest i ≡ Some cell → upto < cell.number
    rest i cell same is =
        let kept = kept-some (rest_at (of_file i.file back) i.at) cell (subst (λ o. IsRest (rest_at (of_file i.file back) i.at) o) is (shows.rest i)) in
        let above : upto < kept.0.number = clear.rest i.at kept.0 (sym (ap (λ (f : File). rest_at (of_file f back) i.at) same) ∙ kept.1) in
        subst (λ n. upto < n) (sym kept.2.number) above

    fly : (i : Spot) (f : Flight) → i.file ≡ file → c.fly i ≡ Some f → upto < f.number
    fly i f same is =
        let flown = flown-of (fly_at (of_file i.file back) i.at) f (sym (shows.fly i) ∙ is) in
        let above : upto < flown.0.number = clear.fly i.at flown.0 (sym (ap (λ (g : File). fly_at (of_file g back) i.at) same) ∙ flown.1) in
        subst (λ (z : Flight). upto < z.number) flown.2 above
