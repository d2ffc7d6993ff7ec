-- P holds of what any operation makes of what came of its call, where that isn't made again: where it may be made again, since it wasn't put off then; and else
-- where P holds of that too.
use Rattle.core_session.proofs.Prelude.{◌≡◌, ◌||◌, ◌&&◌, ◌==◌, inl, inr, ℕ, Bool, true, false, List, length, Option, Some, None, Result, Ok, Err, refl, sym, subst, nat_lt, Wcc, Verf, FileKept, Fault, Call, Reply, Pending, Step, Repeat, Shelf, Turn, fails_busy, goes_again, Closing, Led, PutFile, Putting, Saving, Syncing, Writing, written_by, write_told, commit_told, found_by, FileMachine, Machine, NameMachine, PathMachine, Takes, file_of, FineOption, FineNext, fine-as, CallFaults, FitsWalk, FineLed}
use Rattle.client_shelf.specs.Busy.{is_busy}
use Rattle.core_facts.proofs.Faults.{fine-fault, fine-some}
use Rattle.nfs_file_calls.specs.declared.owned.FileKept.TheVariants as kept
use Rattle.world_model.specs.declared.answer.Fault.TheVariants as faults
use Rattle.world_model.specs.declared.message.Reply.TheVariants as replies
use Rattle.client_shelf.specs.declared.step.Step.TheVariants as nexts
use Rattle.file_ops.specs.declared.close_file.Closing.TheVariants as closing
use Rattle.file_ops.specs.declared.opening.Led.TheVariants as leads
use Rattle.file_ops.specs.declared.put_file.Putting.TheVariants as putting
use Rattle.file_ops.specs.declared.sync_file.Syncing.TheVariants as syncing
use Rattle.file_ops.specs.declared.write_file.Writing.TheVariants as writing
use Rattle.file_ops.specs.Opening as opening
use Rattle.file_ops.specs.Saves as saves
use Rattle.name_ops.specs.Walking as walking
use Rattle.op_machines.specs.declared.file_machine.FileMachine.TheVariants as files
use Rattle.op_machines.specs.declared.machine.Machine.TheVariants as machines
use Rattle.core_answers.proofs.answers.SaveFaults as once
use Rattle.core_answers.proofs.answers.WriteFaults as once_write
use Rattle.core_answers.proofs.refusals.FitAll as one
use Rattle.core_answers.proofs.refusals.FitFiles as one_file
use Rattle.core_session.proofs.delays.AllSteps.{SendsOr, Ends, FineMachine, FitsFile, FitsPath, FitsMachine, MachineStep, all-takes}
use Rattle.core_session.proofs.delays.FileSteps.{FitsSync, FitsClose, FitsPut}
use Rattle.core_session.proofs.delays.Times.{Times, AgainMachine, opening_full, save_full, write_full, sync_full, close_full, put_full, file_full, path_full, is_full, save-low, not-put-off}
use Rattle.core_session.proofs.delays.SaveSteps.{FitsSave}
use Rattle.core_session.proofs.delays.WriteSteps.{FitsWrite}
use Rattle.core_session.proofs.delays.Took.{Took, result-calm, not-again}
use Rattle.core_session.proofs.delays.TookFiles.{Calm, CalmFile, CalmPath}

module _ (P : Fault → Type 0) (own : CallFaults P) (times : Times) (next : Step) (sent turn : Turn) (came : Result Reply Fault) (repeats : List Repeat) where
  less-busy : (busy lt : Bool) → lt ≡ true → (busy && lt) ≡ false → busy ≡ false
  less-busy false lt low is = refl
  less-busy true true low is = absurd (cc)
  less-busy true false low is = absurd (cc)

  -- ---- where P holds of whatever came

  save-any : (s : Saving) (back : Pending) → once.FitsSave P own sent came s back → FitsSave P own times sent turn came repeats s back
  save-any s back f = record { lands = λ sending ends between refusal l. f.lands sending between refusal l; commits = λ idle ends. f.commits idle }

  write-any : (at : Writing) (back : Pending) → once_write.FitsWrite P own sent came at back → FitsWrite P own times sent turn came repeats at back
  write-any writing.Idle back f = tt
  write-any (writing.Room file s) back f = save-any s back f

  sync-any : (at : Syncing) (back : Pending) → one_file.FitsSync P own sent came at back → FitsSync P own times sent turn came repeats at back
  sync-any syncing.Idle back f = tt
  sync-any (syncing.Saves s) back f = save-any s back f

  close-any : (at : Closing) (back : Pending) → one_file.FitsClose P own sent came at back → FitsClose P own times sent turn came repeats at back
  close-any closing.Idle back f = tt
  close-any (closing.Queued s) back f = tt
  close-any (closing.Saves s) back f = save-any s back f
  close-any (closing.ToRemove removal) back f = tt
  close-any (closing.Removing removal) back f = tt

  put-any : (at : Putting) (m : PutFile) (back : Pending) → one_file.FitsPut P own sent came at m back → FitsPut P own times sent turn came repeats at m back
  put-any putting.Idle m back f = tt
  put-any putting.Opens m back f = λ ends. f
  put-any (putting.Adds file) m back f = write-any m.write.state back f
  put-any (putting.Saves s) m back f = save-any s back f

  file-any : (m : FileMachine) (back : Pending) → one.FitsFile P own sent came m back → FitsFile P own times next sent turn came repeats m back
  file-any (files.Open m) back f = inr f
  file-any (files.Read m) back f = inr f
  file-any (files.Write m) back f = write-any m.state back f
  file-any (files.Sync m) back f = sync-any m.state back f
  file-any (files.Close m) back f = close-any m.state back f
  file-any (files.Truncate m) back f = inr f
  file-any (files.Put m) back f = put-any m.state m back f

  path-any : (b : Bool) (m : PathMachine) (back : Pending) → one.FitsPath P own b sent came m back → FitsPath P own times b next sent turn came repeats m back
  path-any true m back f = file-any (file_of m.opener) back f
  path-any false m back f = λ ends. f

  pub any-fits : (m : Machine) (back : Pending) → one.FitsMachine P own sent came m back → FitsMachine P own times next sent turn came repeats m back
  any-fits (machines.File m) back f = file-any m back f
  any-fits (machines.Path m) back f = path-any m.arrived m back f
  any-fits (machines.Name m) back f = inr f

  -- ---- where the call may be made again

  module _ (other : (fault : Fault) → is_busy fault ≡ false → P fault) (outer : (fault : Fault) → came ≡ Err fault → P fault) (may : goes_again true sent turn repeats ≡ true) where
    -- what becomes of a piece that wasn't put off
    module _ (how size xid : ℕ) (file : List ℕ) (back between : Pending) where
      written-calm : (a b : Bool) (wcc : Wcc) (count committed : ℕ) (verf : Verf) (refusal : Option Fault) → (nat_lt committed how || nat_lt 2 committed) ≡ a
          → ((count == 0) || nat_lt size count) ≡ b → saves.Lands xid file (written_by how size wcc count committed verf) back between refusal → FineOption P refusal
      written-calm true b wcc count committed verf refusal i j l = let k = rw i at l in fine-some P (faults.Bad 3) refusal k.0 (other (faults.Bad 3) refl)
      written-calm false true wcc count committed verf refusal i j l = let k = rw (i, j) at l in fine-some P (faults.Bad 4) refusal k.0 (other (faults.Bad 4) refl)
      written-calm false false wcc count committed verf None i j l = tt
      written-calm false false wcc count committed verf (Some fault) i j l = let k = rw (i, j) at l in fine-fault P fault faults.Memory k.0 own.memory

      file-calm : (reply : FileKept) (refusal : Option Fault) → saves.told_busy (write_told how size (Ok (replies.File reply))) ≡ false
          → saves.Lands xid file (write_told how size (Ok (replies.File reply))) back between refusal → FineOption P refusal
      file-calm (kept.Write wcc count committed verf) refusal none l =
          written-calm (nat_lt committed how || nat_lt 2 committed) ((count == 0) || nat_lt size count) wcc count committed verf refusal refl refl l
      file-calm (kept.WriteFail status wcc) refusal none l = fine-some P (faults.Nfs status.0) refusal l.0 (other (faults.Nfs status.0) none)
      file-calm reply refusal none l = fine-some P (faults.Bad 2) refusal l.0 (other (faults.Bad 2) refl)

      lands-calm : (r : Result Reply Fault) (refusal : Option Fault) → ((fault : Fault) → r ≡ Err fault → P fault) → saves.told_busy (write_told how size r) ≡ false
          → saves.Lands xid file (write_told how size r) back between refusal → FineOption P refusal
      lands-calm (Ok (replies.File reply)) refusal out none l = file-calm reply refusal none l
      lands-calm (Ok (replies.Dir reply)) refusal out none l = fine-some P (faults.Bad 2) refusal l.0 (other (faults.Bad 2) refl)
      lands-calm (Ok (replies.Mount reply)) refusal out none l = fine-some P (faults.Bad 2) refusal l.0 (other (faults.Bad 2) refl)
      lands-calm (Err fault) refusal out none l = fine-some P fault refusal l.0 (out fault refl)

    save-calm : (s : Saving) (back : Pending) → save_full s ≡ false → FitsSave P own times sent turn came repeats s back
    save-calm s back low = record {
      lands = λ sending ends between refusal l.
          let p = saves.answered sent.xid s.file back in
          lands-calm p.how (length p.bytes) sent.xid s.file back between came refusal outer
          (not-again (saves.told_busy (saves.told_of sent.xid s.file back came)) sent turn repeats may ends) l;
      commits = λ idle ends.
          result-calm P other (commit_told came)
          (less-busy (fails_busy (commit_told came)) (nat_lt s.put_off 3) (save-low (saves.is_sending s.phase) (nat_lt s.put_off 3) low idle)
          (not-again (fails_busy (commit_told came) && nat_lt s.put_off 3) sent turn repeats may ends));
    }

    write-calm : (at : Writing) (back : Pending) → write_full at ≡ false → FitsWrite P own times sent turn came repeats at back
    write-calm writing.Idle back low = tt
    write-calm (writing.Room file s) back low = save-calm s back low

    sync-calm : (at : Syncing) (back : Pending) → sync_full at ≡ false → FitsSync P own times sent turn came repeats at back
    sync-calm syncing.Idle back low = tt
    sync-calm (syncing.Saves s) back low = save-calm s back low

    close-calm : (at : Closing) (back : Pending) → close_full at ≡ false → FitsClose P own times sent turn came repeats at back
    close-calm closing.Idle back low = tt
    close-calm (closing.Queued s) back low = tt
    close-calm (closing.Saves s) back low = save-calm s back low
    close-calm (closing.ToRemove removal) back low = tt
    close-calm (closing.Removing removal) back low = tt

    led-calm : (led : Led) → opening.ends_busy led ≡ false → FineLed P own led
    led-calm (leads.Goes step) is = tt
    led-calm (leads.Opens file attr) is = tt
    led-calm (leads.Knows file stamp) is = tt
    led-calm (leads.Ends fault) is = other fault is

    put-calm : (at : Putting) (m : PutFile) (back : Pending) → put_full at m ≡ false → FitsPut P own times sent turn came repeats at m back
    put-calm putting.Idle m back low = tt
    put-calm putting.Opens m back low = λ ends.
        led-calm (opening.told_led m.opening came)
        (not-put-off (opening.ends_busy (opening.told_led m.opening came)) (opening.looks m.opening.step) (nat_lt m.opening.put_off 3)
        (not-again (opening.may_again m.opening (opening.told_led m.opening came)) sent turn repeats may ends) low)
    put-calm (putting.Adds file) m back low = write-calm m.write.state back low
    put-calm (putting.Saves s) m back low = save-calm s back low

    walk-calm : (name : Option (List ℕ)) → fails_busy (found_by came) ≡ false → FitsWalk P own name came
    walk-calm None is = tt
    walk-calm (Some name) is = result-calm P other (found_by came) is

    module _ (E : Fault → Type 0) (later : List Repeat) (call : Call) where
      abbrev TookAll : Type 0 → Type 0
      TookAll X = Took E sent turn repeats later (next ≡ nexts.Send call) X

      -- it is made again, or it wasn't put off
      sends-calm : (X : Type 0) → TookAll X → SendsOr next X
      sends-calm X t = by (goes_again t.busy sent turn repeats) refl
        where
          by : (b : Bool) → goes_again t.busy sent turn repeats ≡ b → SendsOr next X
          by true again = inl (call, t.again again)
          by false ends = inr (t.calm (not-again t.busy sent turn repeats may ends))

      -- an open whose call it may make again
      open-calm : (X : Type 0) (b : Bool) → b ≡ false → SendsOr next (b ≡ false → X) → SendsOr next X
      open-calm X b low (inl s) = inl s
      open-calm X b low (inr f) = inr (f low)

      machine-calm : (m : FileMachine) (back : Pending) → file_full m ≡ false → TookAll (CalmFile P own came m) → FitsFile P own times next sent turn came repeats m back
      machine-calm (files.Open m) back low t = open-calm _ (opening_full m.opening) low (sends-calm _ t)
      machine-calm (files.Read m) back low t = sends-calm _ t
      machine-calm (files.Write m) back low t = write-calm m.state back low
      machine-calm (files.Sync m) back low t = sync-calm m.state back low
      machine-calm (files.Close m) back low t = close-calm m.state back low
      machine-calm (files.Truncate m) back low t = sends-calm _ t
      machine-calm (files.Put m) back low t = put-calm m.state m back low

      path-calm : (b : Bool) (m : PathMachine) (back : Pending) → path_full b m ≡ false → TookAll (CalmPath P own came b m) → FitsPath P own times b next sent turn came repeats m back
      path-calm true m back low t = machine-calm (file_of m.opener) back low t
      path-calm false m back low t = λ ends. walk-calm (walking.waiting_name m.walk) (not-again (fails_busy (found_by came)) sent turn repeats may ends)

      -- an operation on names: of its step itself
      name-calm : (m : NameMachine) → TookAll (FineNext P next) → FineNext P next
      name-calm m t = by (sends-calm (FineNext P next) t)
        where
          by : SendsOr next (FineNext P next) → FineNext P next
          by (inl s) = fine-as P (nexts.Send s.0) next s.1 tt
          by (inr f) = f

      -- What any operation then makes of it.
      pub calm-takes : (m : Machine) (wsize : ℕ) (old : Shelf) (new : Machine) (after : Shelf) → old.repeats ≡ repeats → Ends P own times m old → FineMachine P own times m → AgainMachine times sent turn came old.repeats m
          → is_full m ≡ false → TookAll (Calm P own came next m) → Takes wsize m sent turn came old next new after → MachineStep P own times next new
      calm-takes (machines.File m) wsize old new after same place f more low t s =
          all-takes P own times (machines.File m) wsize sent turn came old next new after place
          (subst (λ (r : List Repeat). FitsFile P own times next sent turn came r m old.back) (sym same) (machine-calm m old.back low t)) f more s
      calm-takes (machines.Path m) wsize old new after same place f more low t s =
          all-takes P own times (machines.Path m) wsize sent turn came old next new after place
          (subst (λ (r : List Repeat). FitsPath P own times m.arrived next sent turn came r m old.back) (sym same) (path-calm m.arrived m old.back low t)) f more s
      calm-takes (machines.Name m) wsize old new after same place f more low t s = (name-calm m t, subst (FineMachine P own times) (sym s.machine_is) tt)
