-- Where a put has saved its file, only later bytes are pending of it: the last step of its machine.
use Rattle.core_session.proofs.Prelude.{◌≡◌, ℕ, Bool, true, false, List, Option, Some, None, Result, Ok, Err, sym, subst, Fault, Reply, Step, Shelf, Turn, PutFile, Putting, Saving, by-step, ends_as, FileMachine, Machine, Opener, PathMachine, file_of, Takes, EndsSo}
use Rattle.world_model.specs.declared.answer.Answer.TheVariants as answers
use Rattle.client_shelf.specs.declared.step.Step.TheVariants as nexts
use Rattle.file_ops.specs.declared.put_file.Putting.TheVariants as putting
use Rattle.file_ops.specs.PutFile as puts
use Rattle.file_ops.specs.Syncs as syncs
use Rattle.op_machines.specs.declared.file_machine.FileMachine.TheVariants as files
use Rattle.op_machines.specs.declared.machine.Machine.TheVariants as machines
use Rattle.op_machines.specs.FileSteps as file_steps
use Rattle.op_machines.specs.PathSteps as paths
use Rattle.core_session.proofs.syncs.AllJobs.{job_save, path_save}
use Rattle.core_session.proofs.syncs.Jobs.{file_save, putting_save}
use Rattle.core_session.proofs.syncs.PutGoes.{put_own, file_own, path_own, own_save, AtSave}
use Rattle.core_session.proofs.pending.Settles.{IsGood, AboveIt, SaveEnds}

-- its own save is the one that its lane has
none-own : (z : Saving) → {X : Type 0} → None ≡ Some z → X
none-own z e = absurd (let no_way : None ≡ Some z = e in cc)

put-job : (at : Putting) (m : PutFile) (z : Saving) → put_own at ≡ Some z → putting_save at m.write.state ≡ Some z
put-job putting.Idle m z is = none-own z is
put-job putting.Opens m z is = none-own z is
put-job (putting.Adds file) m z is = none-own z is
put-job (putting.Saves s) m z is = is

file-job : (m : FileMachine) (z : Saving) → file_own m ≡ Some z → file_save m ≡ Some z
file-job (files.Open m) z is = none-own z is
file-job (files.Read m) z is = none-own z is
file-job (files.Write m) z is = none-own z is
file-job (files.Sync m) z is = none-own z is
file-job (files.Close m) z is = none-own z is
file-job (files.Truncate m) z is = none-own z is
file-job (files.Put m) z is = put-job m.state m z is

path-job : (b : Bool) (o : Opener) (z : Saving) → path_own b o ≡ Some z → path_save b o ≡ Some z
path-job true o z is = file-job (file_of o) z is
path-job false o z is = none-own z is

pub own-job : (m : Machine) (z : Saving) → own_save m ≡ Some z → job_save m ≡ Some z
own-job (machines.File m) z is = file-job m z is
own-job (machines.Path m) z is = path-job m.arrived m.opener z is
own-job (machines.Name m) z is = none-own z is

-- a good end is one of its own save
well-at : (own : Option Saving) (next : Step) → EndsSo (AtSave own) next → IsGood next → AtSave own
well-at own (nexts.Send call) e good = absurd good
well-at own nexts.Wait e good = absurd good
well-at own (nexts.Done (answers.Done value)) e good = e
well-at own (nexts.Done (answers.Refused fault)) e good = absurd good

pub good-own : (own : Option Saving) (next : Step) → EndsSo (AtSave own) next → IsGood next → AtSave own
good-own = well-at

some-save : (a b : Saving) → Some a ≡ Some b → a ≡ b
some-save a b e = cc

module _ (f : List ℕ) (i u : ℕ) (wsize : ℕ) (sent turn : Turn) (came : Result Reply Fault) where
  put-follows : (gives : _) (lane : ℕ) (saved : Saving) (old : Shelf) (next : Step) (state : Putting) (new : Shelf) → puts.Follows gives lane saved old next state new
      → (IsGood (syncs.sync_next gives) → AboveIt f i u old.back) → IsGood next → AboveIt f i u new.back
  put-follows gives lane saved old next state new k at good = by-step
      (λ g. puts.Follows g lane saved old next state new → (IsGood (syncs.sync_next g) → AboveIt f i u old.back) → AboveIt f i u new.back)
      (λ call k at. absurd (subst IsGood k.0 good)) (λ k at. absurd (subst IsGood k.0 good)) ended gives k at
    where
      ended : (result : Result (Unit {0}) Fault) → puts.Follows (ends_as result) lane saved old next state new → (IsGood (syncs.sync_next (ends_as result)) → AboveIt f i u old.back) → AboveIt f i u new.back
      ended (Ok done) k at = by (puts.keeps_refused lane saved.file old.puts old.order) k.back
        where
          by : (b : Bool) → puts.GivesUpAlone b None saved.file old.opens old.back new.back → AboveIt f i u new.back
          by true is = subst (AboveIt f i u) (sym is) (at tt)
          by false is = subst (AboveIt f i u) (sym is) (at tt)
      ended (Err fault) k at = absurd (subst IsGood k.next_is good)

  put-settles : (at : Putting) (m : PutFile) (z : Saving) (old : Shelf) (next : Step) (new : PutFile) (after : Shelf) → put_own at ≡ Some z → puts.Takes at wsize m sent turn came old next new after
      → SaveEnds f i u wsize sent turn came old.back z → IsGood next → AboveIt f i u after.back
  put-settles putting.Idle m z old next new after is t ends good = none-own z is
  put-settles putting.Opens m z old next new after is t ends good = none-own z is
  put-settles (putting.Adds file) m z old next new after is t ends good = none-own z is
  put-settles (putting.Saves s) m z old next new after is t ends good =
      put-follows t.0.gives m.write.lane t.0.saved t.0.took next new.state after t.0.follows
      (λ well. subst (SaveEnds f i u wsize sent turn came old.back) (sym (some-save s z is)) ends old.repeats t.0.took.repeats t.0.gives t.0.saved t.0.took.back t.0.takes well) good

  file-settles : (m : FileMachine) (z : Saving) (old : Shelf) (next : Step) (new : FileMachine) (after : Shelf) → file_own m ≡ Some z → file_steps.Takes wsize m sent turn came old next new after
      → SaveEnds f i u wsize sent turn came old.back z → IsGood next → AboveIt f i u after.back
  file-settles (files.Open m) z old next new after is t ends good = none-own z is
  file-settles (files.Read m) z old next new after is t ends good = none-own z is
  file-settles (files.Write m) z old next new after is t ends good = none-own z is
  file-settles (files.Sync m) z old next new after is t ends good = none-own z is
  file-settles (files.Close m) z old next new after is t ends good = none-own z is
  file-settles (files.Truncate m) z old next new after is t ends good = none-own z is
  file-settles (files.Put m) z old next new after is t ends good = put-settles m.state m z old next t.machine after is t.step ends good

  path-settles : (b : Bool) (m : PathMachine) (z : Saving) (old : Shelf) (next : Step) (new : PathMachine) (after : Shelf) → path_own b m.opener ≡ Some z → paths.PathTakes b wsize m sent turn came old next new after
      → SaveEnds f i u wsize sent turn came old.back z → IsGood next → AboveIt f i u after.back
  path-settles true m z old next new after is t ends good = file-settles (file_of m.opener) z old next (file_of t.opener) after is t.step ends good
  path-settles false m z old next new after is t ends good = none-own z is

  pub put-takes-good : (m : Machine) (z : Saving) (old : Shelf) (next : Step) (new : Machine) (after : Shelf) → own_save m ≡ Some z → Takes wsize m sent turn came old next new after
      → SaveEnds f i u wsize sent turn came old.back z → IsGood next → AboveIt f i u after.back
  put-takes-good (machines.File m) z old next new after is t ends good = file-settles m z old next t.machine after is t.step ends good
  put-takes-good (machines.Path m) z old next new after is t ends good = path-settles m.arrived m z old next t.machine after is t.step ends good
  put-takes-good (machines.Name m) z old next new after is t ends good = none-own z is
