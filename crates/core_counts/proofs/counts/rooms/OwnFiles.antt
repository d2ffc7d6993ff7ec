-- An operation whose own save waits for a COMMIT of a file: what is told of that save.
use Rattle.core_counts.proofs.Prelude.{◌≡◌, ℕ, Bool, true, false, List, Some, None, Pending, LaneFile, Closing, PutFile, Putting, Saving, Syncing, file_of, FileMachine, Machine, Opener, commits_of, JobHas, Job}
use Rattle.core_answers.proofs.writes.AllFits.{commits_path}
use Rattle.core_session.proofs.syncs.AllJobs.{PathHas}
use Rattle.core_session.proofs.syncs.Jobs.{FileHas, SyncHas, CloseHas, PutHas}
use Rattle.file_ops.specs.Saves as saves
use Rattle.file_ops.specs.declared.close_file.Closing.TheVariants as closing
use Rattle.file_ops.specs.declared.put_file.Putting.TheVariants as putting
use Rattle.file_ops.specs.declared.sync_file.Syncing.TheVariants as syncing
use Rattle.op_machines.specs.declared.file_machine.FileMachine.TheVariants as files
use Rattle.op_machines.specs.declared.machine.Machine.TheVariants as machines
use Rattle.core_answers.proofs.writes.CallFits.{commits_if, commits_save, commits_sync, commits_close, commits_put, commits_file}
use Rattle.core_counts.proofs.counts.rooms.Roles.{put_role, file_role, path_role, role_of, OwnLeft}

none-is : {X : Type 0} → (f : List ℕ) → None ≡ Some f → X
none-is f is = absurd (let no_way : None ≡ Some f = is in cc)

some-file : (a b : List ℕ) → Some a ≡ Some b → a ≡ b
some-file a b is = cc

module _ (f : List ℕ) (left : ℕ) (j : Job) (q : ℕ) (b : Pending) (o : List LaneFile) where
  -- its save is of the file, and this is told of it
  pub record OwnSave : Type 0 where
    pub saving : Saving
    pub file : saving.file ≡ f
    pub has : j.KA saving q b o

  saved-file : (s : Saving) → commits_save s ≡ Some f → s.file ≡ f
  saved-file s is = by (saves.is_sending s.phase) is
    where
      by : (c : Bool) → commits_if c s.file ≡ Some f → s.file ≡ f
      by true e = none-is f e
      by false e = some-file s.file f e

  sync-own : (at : Syncing) → commits_sync at ≡ Some f → SyncHas j.PA j.KA at q b o → OwnSave
  sync-own syncing.Idle is h = none-is f is
  sync-own (syncing.Saves s) is h = record { saving = s; file = saved-file s is; has = h }

  close-own : (at : Closing) → commits_close at ≡ Some f → CloseHas j.PA j.KA j.X j.B at q b o → OwnSave
  close-own closing.Idle is h = none-is f is
  close-own (closing.Queued s) is h = none-is f is
  close-own (closing.Saves s) is h = record { saving = s; file = saved-file s is; has = h }
  close-own (closing.ToRemove removal) is h = none-is f is
  close-own (closing.Removing removal) is h = none-is f is

  put-own : (m : PutFile) (at : Putting) → OwnLeft f left (put_role at m.write.state) → commits_put at m.write.state ≡ Some f → PutHas j.P j.K j.KA j.A m at q b o → OwnSave
  put-own m putting.Idle k is h = absurd k
  put-own m putting.Opens k is h = absurd k
  put-own m (putting.Adds file) k is h = absurd k
  put-own m (putting.Saves s) k is h = record { saving = s; file = saved-file s is; has = h }

  file-own : (m : FileMachine) → OwnLeft f left (file_role m) → commits_file m ≡ Some f → FileHas j m q b o → OwnSave
  file-own (files.Sync m) k is h = sync-own m.state is h
  file-own (files.Close m) k is h = close-own m.state is h
  file-own (files.Put m) k is h = put-own m m.state k is h
  file-own (files.Write m) k is h = absurd k
  file-own (files.Open m) k is h = none-is f is
  file-own (files.Read m) k is h = none-is f is
  file-own (files.Truncate m) k is h = none-is f is

  path-own : (c : Bool) (opener : Opener) → OwnLeft f left (path_role c opener) → commits_path c opener ≡ Some f → PathHas j c opener q b o → OwnSave
  path-own true opener k is h = file-own (file_of opener) k is h
  path-own false opener k is h = none-is f is

  pub all-own : (m : Machine) → OwnLeft f left (role_of m) → commits_of m ≡ Some f → JobHas j m q b o → OwnSave
  all-own (machines.File m) k is h = file-own m k is h
  all-own (machines.Path m) k is h = path-own m.arrived m.opener k is h
  all-own (machines.Name m) k is h = none-is f is
