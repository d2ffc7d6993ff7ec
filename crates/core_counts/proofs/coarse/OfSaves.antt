-- What is known of an operation that waits for WRITEs of a file, or for a COMMIT of one, is known of its save.
use Rattle.core_counts.proofs.Prelude.{◌≡◌, ℕ, Bool, true, false, List, Option, Some, None, ap, Closing, Putting, Saving, Syncing, Writing, FileMachine, Machine, Opener, file_of, flies_if, flies_put, flies_file, flies_path, flies_of, commits_of}
use Rattle.core_facts.proofs.Flights.{flies_save, flies_write, flies_sync, flies_close}
use Rattle.core_answers.proofs.writes.AllFits.{commits_path}
use Rattle.file_ops.specs.declared.close_file.Closing.TheVariants as closing
use Rattle.file_ops.specs.declared.put_file.Putting.TheVariants as putting
use Rattle.file_ops.specs.declared.sync_file.Syncing.TheVariants as syncing
use Rattle.file_ops.specs.declared.write_file.Writing.TheVariants as writing
use Rattle.file_ops.specs.Saves as saves
use Rattle.op_machines.specs.declared.file_machine.FileMachine.TheVariants as files
use Rattle.op_machines.specs.declared.machine.Machine.TheVariants as machines
use Rattle.core_answers.proofs.writes.AllBacks.{Saves, PathSaves}
use Rattle.core_answers.proofs.writes.Backs.{SyncSaves, CloseSaves, WriteSaves, PutSaves, FileSaves}
use Rattle.core_answers.proofs.writes.CallFits.{commits_if, commits_save, commits_write, commits_sync, commits_close, commits_put, commits_file}

-- of a save, where the operation waits for WRITEs of its file while it sends, and else for a COMMIT of it
pub record IsOfSave (flies commits : Option (List ℕ)) (s : Saving) : Type 0 where
  pub sends : saves.is_sending s.phase ≡ true → flies ≡ Some s.file
  pub commits_ : saves.is_sending s.phase ≡ false → commits ≡ Some s.file

module _ (N : Saving → Type 0) where
  abbrev Of : Option (List ℕ) → Option (List ℕ) → Type 0
  Of flies commits = (s : Saving) → IsOfSave flies commits s → N s

  of-save : (s : Saving) → Of (flies_save s) (commits_save s) → N s
  of-save s of = of s (record { sends = λ is. ap (λ (b : Bool). flies_if b s.file) is; commits_ = λ is. ap (λ (b : Bool). commits_if b s.file) is })

  of-sync : (w : Syncing) → Of (flies_sync w) (commits_sync w) → SyncSaves N w
  of-sync syncing.Idle of = tt
  of-sync (syncing.Saves s) of = of-save s of

  of-close : (w : Closing) → Of (flies_close w) (commits_close w) → CloseSaves N w
  of-close closing.Idle of = tt
  of-close (closing.Queued s) of = tt
  of-close (closing.Saves s) of = of-save s of
  of-close (closing.ToRemove removal) of = tt
  of-close (closing.Removing removal) of = tt

  of-write : (w : Writing) → Of (flies_write w) (commits_write w) → WriteSaves N w
  of-write writing.Idle of = tt
  of-write (writing.Room file s) of = of-save s of

  of-put : (p : Putting) (w : Writing) → Of (flies_put p w) (commits_put p w) → PutSaves N p w
  of-put putting.Idle w of = tt
  of-put putting.Opens w of = tt
  of-put (putting.Adds file) w of = of-write w of
  of-put (putting.Saves s) w of = of-save s of

  of-file : (m : FileMachine) → Of (flies_file m) (commits_file m) → FileSaves N m
  of-file (files.Open m) of = tt
  of-file (files.Read m) of = tt
  of-file (files.Write m) of = of-write m.state of
  of-file (files.Sync m) of = of-sync m.state of
  of-file (files.Close m) of = of-close m.state of
  of-file (files.Truncate m) of = tt
  of-file (files.Put m) of = of-put m.state m.write.state of

  of-path : (b : Bool) (o : Opener) → Of (flies_path b o) (commits_path b o) → PathSaves N b o
  of-path true o of = of-file (file_of o) of
  of-path false o of = tt

  pub of-machine : (m : Machine) → Of (flies_of m) (commits_of m) → Saves N m
  of-machine (machines.File m) of = of-file m of
  of-machine (machines.Path m) of = of-path m.arrived m.opener of
  of-machine (machines.Name m) of = tt

-- ---- an operation that waits for WRITEs waits for no COMMIT

none-file : {X : Type 0} → (f : List ℕ) → None ≡ Some f → X
none-file f is = absurd (let no_way : None ≡ Some f = is in cc)

module _ (f g : List ℕ) where
  both-save : (s : Saving) → flies_save s ≡ Some f → commits_save s ≡ Some g → ⊥
  both-save s = by (saves.is_sending s.phase)
    where
      by : (b : Bool) → flies_if b s.file ≡ Some f → commits_if b s.file ≡ Some g → ⊥
      by true flies commits = none-file g commits
      by false flies commits = none-file f flies

  both-sync : (w : Syncing) → flies_sync w ≡ Some f → commits_sync w ≡ Some g → ⊥
  both-sync syncing.Idle flies commits = none-file f flies
  both-sync (syncing.Saves s) flies commits = both-save s flies commits

  both-close : (w : Closing) → flies_close w ≡ Some f → commits_close w ≡ Some g → ⊥
  both-close closing.Idle flies commits = none-file f flies
  both-close (closing.Queued s) flies commits = none-file f flies
  both-close (closing.Saves s) flies commits = both-save s flies commits
  both-close (closing.ToRemove removal) flies commits = none-file f flies
  both-close (closing.Removing removal) flies commits = none-file f flies

  both-write : (w : Writing) → flies_write w ≡ Some f → commits_write w ≡ Some g → ⊥
  both-write writing.Idle flies commits = none-file f flies
  both-write (writing.Room file s) flies commits = both-save s flies commits

  both-put : (p : Putting) (w : Writing) → flies_put p w ≡ Some f → commits_put p w ≡ Some g → ⊥
  both-put putting.Idle w flies commits = none-file f flies
  both-put putting.Opens w flies commits = none-file f flies
  both-put (putting.Adds file) w flies commits = both-write w flies commits
  both-put (putting.Saves s) w flies commits = both-save s flies commits

  both-file : (m : FileMachine) → flies_file m ≡ Some f → commits_file m ≡ Some g → ⊥
  both-file (files.Open m) flies commits = none-file f flies
  both-file (files.Read m) flies commits = none-file f flies
  both-file (files.Write m) flies commits = both-write m.state flies commits
  both-file (files.Sync m) flies commits = both-sync m.state flies commits
  both-file (files.Close m) flies commits = both-close m.state flies commits
  both-file (files.Truncate m) flies commits = none-file f flies
  both-file (files.Put m) flies commits = both-put m.state m.write.state flies commits

  both-path : (b : Bool) (o : Opener) → flies_path b o ≡ Some f → commits_path b o ≡ Some g → ⊥
  both-path true o flies commits = both-file (file_of o) flies commits
  both-path false o flies commits = none-file f flies

pub never-both : (m : Machine) (f g : List ℕ) → flies_of m ≡ Some f → commits_of m ≡ Some g → ⊥
never-both (machines.File m) f g flies commits = both-file f g m flies commits
never-both (machines.Path m) f g flies commits = both-path f g m.arrived m.opener flies commits
never-both (machines.Name m) f g flies commits = none-file f flies
