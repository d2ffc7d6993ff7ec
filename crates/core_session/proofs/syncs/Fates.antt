-- What is said of an operation's save, its bytes and its file: under less, taken apart, and by the kind of the operation.
use Rattle.core_session.proofs.Prelude.{◌-◌, ◌≡◌, ◌≤◌, ◌<◌, ◌⊎◌, arith, inl, inr, ℕ, Bool, true, false, List, Option, Some, None, Result, refl, sym, ap, subst, ◌∙◌, Fault, Reply, Pending, LaneFile, Shelf, Turn, Step, Closing, Opening, PutFile, Putting, Saving, Syncing, Truncating, Writing, FileMachine, Machine, Opener, PathMachine, file_of, slot_taken, begun_at, WalkStep, Starts, Resumes, Takes, of_writing, of_syncing, of_closing, of_putting, in_flight, seat_of, IsLive, IsFreshFor, seat_close, seat_put, flies_if, flies_save, flies_write, flies_sync, flies_close, flies_put, flies_file, flies_path, flies_of}
use Rattle.op_machines.specs.Openers.{placed}
use Rattle.core_facts.proofs.AllSeats.{path_seat, OpenerFresh, OnPath}
use Rattle.core_facts.proofs.FileSeats.{FileLive, FileFresh, seat_write, seat_sync, seat_file}
use Rattle.file_ops.specs.declared.close_file.Closing.TheVariants as closing
use Rattle.file_ops.specs.declared.put_file.Putting.TheVariants as putting
use Rattle.file_ops.specs.declared.sync_file.Syncing.TheVariants as syncing
use Rattle.file_ops.specs.declared.truncate_file.Truncating.TheVariants as truncating
use Rattle.file_ops.specs.declared.write_file.Writing.TheVariants as writing
use Rattle.file_ops.specs.Saves as saves
use Rattle.file_ops.specs.WriteFile as writes
use Rattle.op_machines.specs.declared.file_machine.FileMachine.TheVariants as files
use Rattle.op_machines.specs.declared.machine.Machine.TheVariants as machines
use Rattle.op_machines.specs.declared.opener.Opener.TheVariants as openers
use Rattle.op_machines.specs.PathSteps as paths
use Rattle.name_ops.specs.declared.walk.WalkStep.TheVariants as walks
use Rattle.name_ops.specs.Walking as walking
use Rattle.op_machines.specs.FileSteps as steps
use Rattle.core_facts.specs.InFlight.{of_saving, of_file as calls_of}
use Rattle.core_facts.proofs.AllCounts.{of_path, path-file}
use Rattle.core_answers.proofs.writes.AllFits.{commits_path, commits_of}
use Rattle.core_answers.proofs.writes.CallFits.{commits_if, commits_save, commits_write, commits_sync, commits_close, commits_put, commits_file}
use Rattle.core_session.proofs.syncs.Jobs.{Job, RoomHas, SyncHas, CloseHas, TruncateHas, PutHas, FileHas, FileGood, FileBad, file_lane, file_save, writing_save, syncing_save, closing_save, putting_save}
use Rattle.core_session.proofs.syncs.AllJobs.{PathHas, PathGood, JobHas, JobGood, JobBad, job_save, job_lane, path_save}

-- ---- one job's words as another's

-- as far as an operation that has this save needs it
pub record Says (j k : Job) (save : Option Saving) (q : ℕ) (b : Pending) (o : List LaneFile) (r : ℕ) (c : Pending) (l : List LaneFile) : Type 0 where
  pub p : save ≡ None → j.P q b o → k.P r c l
  pub pa : save ≡ None → j.PA q b o → k.PA r c l
  pub room : (s : Saving) → save ≡ Some s → j.K s q b o → k.K s r c l
  pub own : (s : Saving) → save ≡ Some s → j.KA s q b o → k.KA s r c l
  pub x : j.X → k.X
  pub a : (file : List ℕ) (offset : ℕ) (bytes : List ℕ) → j.A file offset bytes → k.A file offset bytes
  pub of : (file : List ℕ) → j.B file → k.B file
  pub cut : (file : List ℕ) (size upto : ℕ) → j.C file size upto → k.C file size upto

module _ (j k : Job) (q : ℕ) (b : Pending) (o : List LaneFile) (r : ℕ) (c : Pending) (l : List LaneFile) where
  room-says : (A A2 : List ℕ → ℕ → List ℕ → Type 0) → ((file : List ℕ) (offset : ℕ) (bytes : List ℕ) → A file offset bytes → A2 file offset bytes) → (offset : ℕ) (bytes : List ℕ) (w : Writing)
      → Says j k (writing_save w) q b o r c l → RoomHas j.P j.K A offset bytes w q b o → RoomHas k.P k.K A2 offset bytes w r c l
  room-says A A2 f offset bytes writing.Idle s h = s.p refl h
  room-says A A2 f offset bytes (writing.Room file saving) s h = (s.room saving refl h.0, f file offset bytes h.1)

  sync-says : (w : Syncing) → Says j k (syncing_save w) q b o r c l → SyncHas j.PA j.KA w q b o → SyncHas k.PA k.KA w r c l
  sync-says syncing.Idle s h = s.pa refl h
  sync-says (syncing.Saves saving) s h = s.own saving refl h

  close-says : (w : Closing) → Says j k (closing_save w) q b o r c l → CloseHas j.PA j.KA j.X j.B w q b o → CloseHas k.PA k.KA k.X k.B w r c l
  close-says closing.Idle s h = s.pa refl h
  close-says (closing.Queued saving) s h = s.own saving refl h
  close-says (closing.Saves saving) s h = s.own saving refl h
  close-says (closing.ToRemove removal) s h = (s.pa refl h.0, (λ none. s.x (h.1 none)), s.of removal.file h.2)
  close-says (closing.Removing removal) s h = (s.pa refl h.0, (λ none. s.x (h.1 none)), s.of removal.file h.2)

  truncate-says : (size : ℕ) (w : Truncating) → Says j k None q b o r c l → TruncateHas j.P j.C size w q b o → TruncateHas k.P k.C size w r c l
  truncate-says size truncating.Idle s h = s.p refl h
  truncate-says size (truncating.Queued file upto) s h = (s.p refl h.0, s.cut file size upto h.1)
  truncate-says size (truncating.Asked file upto) s h = (s.p refl h.0, s.cut file size upto h.1)

  put-says : (m : PutFile) (w : Putting) → Says j k (putting_save w m.write.state) q b o r c l → PutHas j.P j.K j.KA j.A m w q b o → PutHas k.P k.K k.KA k.A m w r c l
  put-says m putting.Idle s h = s.p refl h
  put-says m putting.Opens s h = s.p refl h
  put-says m (putting.Adds file) s h =
      room-says (λ g n bs. j.A g n bs × (g ≡ file)) (λ g n bs. k.A g n bs × (g ≡ file)) (λ g n bs a. (s.a g n bs a.0, a.1)) m.write.offset (writes.made_bytes m.write.text) m.write.state s h
  put-says m (putting.Saves saving) s h = s.own saving refl h

  file-says : (m : FileMachine) → Says j k (file_save m) q b o r c l → FileHas j m q b o → FileHas k m r c l
  file-says (files.Open m) s h = s.p refl h
  file-says (files.Read m) s h = s.p refl h
  file-says (files.Write m) s h = room-says j.A k.A s.a m.offset (writes.made_bytes m.text) m.state s h
  file-says (files.Sync m) s h = sync-says m.state s h
  file-says (files.Close m) s h = close-says m.state s h
  file-says (files.Truncate m) s h = truncate-says m.size m.state s h
  file-says (files.Put m) s h = put-says m m.state s h

  path-says : (there : Bool) (m : Opener) → Says j k (path_save there m) q b o r c l → PathHas j there m q b o → PathHas k there m r c l
  path-says true m s h = file-says (file_of m) s h
  path-says false m s h = s.p refl h

  pub job-says : (m : Machine) → Says j k (job_save m) q b o r c l → JobHas j m q b o → JobHas k m r c l
  job-says (machines.File m) s h = file-says m s h
  job-says (machines.Path m) s h = path-says m.arrived m.opener s h
  job-says (machines.Name m) s h = s.p refl h

-- ---- what it says of a save, or without one

pub data Part (j : Job) (save : Option Saving) (q : ℕ) (b : Pending) (o : List LaneFile) : Type 0 where
  none : save ≡ None → j.P q b o ⊎ j.PA q b o → Part j save q b o
  room : (s : Saving) → save ≡ Some s → j.K s q b o → Part j save q b o
  own : (s : Saving) → save ≡ Some s → j.KA s q b o → Part j save q b o

module _ (j : Job) (q : ℕ) (b : Pending) (o : List LaneFile) where
  room-part : (A : List ℕ → ℕ → List ℕ → Type 0) (offset : ℕ) (bytes : List ℕ) (w : Writing) → RoomHas j.P j.K A offset bytes w q b o → Part j (writing_save w) q b o
  room-part A offset bytes writing.Idle h = none refl (inl h)
  room-part A offset bytes (writing.Room file saving) h = room saving refl h.0

  sync-part : (w : Syncing) → SyncHas j.PA j.KA w q b o → Part j (syncing_save w) q b o
  sync-part syncing.Idle h = none refl (inr h)
  sync-part (syncing.Saves saving) h = own saving refl h

  close-part : (w : Closing) → CloseHas j.PA j.KA j.X j.B w q b o → Part j (closing_save w) q b o
  close-part closing.Idle h = none refl (inr h)
  close-part (closing.Queued saving) h = own saving refl h
  close-part (closing.Saves saving) h = own saving refl h
  close-part (closing.ToRemove removal) h = none refl (inr h.0)
  close-part (closing.Removing removal) h = none refl (inr h.0)

  truncate-part : (size : ℕ) (w : Truncating) → TruncateHas j.P j.C size w q b o → Part j None q b o
  truncate-part size truncating.Idle h = none refl (inl h)
  truncate-part size (truncating.Queued file upto) h = none refl (inl h.0)
  truncate-part size (truncating.Asked file upto) h = none refl (inl h.0)

  put-part : (m : PutFile) (w : Putting) → PutHas j.P j.K j.KA j.A m w q b o → Part j (putting_save w m.write.state) q b o
  put-part m putting.Idle h = none refl (inl h)
  put-part m putting.Opens h = none refl (inl h)
  put-part m (putting.Adds file) h = room-part (λ g n bs. j.A g n bs × (g ≡ file)) m.write.offset (writes.made_bytes m.write.text) m.write.state h
  put-part m (putting.Saves saving) h = own saving refl h

  file-part : (m : FileMachine) → FileHas j m q b o → Part j (file_save m) q b o
  file-part (files.Open m) h = none refl (inl h)
  file-part (files.Read m) h = none refl (inl h)
  file-part (files.Write m) h = room-part j.A m.offset (writes.made_bytes m.text) m.state h
  file-part (files.Sync m) h = sync-part m.state h
  file-part (files.Close m) h = close-part m.state h
  file-part (files.Truncate m) h = truncate-part m.size m.state h
  file-part (files.Put m) h = put-part m m.state h

  path-part : (there : Bool) (m : Opener) → PathHas j there m q b o → Part j (path_save there m) q b o
  path-part true m h = file-part (file_of m) h
  path-part false m h = none refl (inl h)

  pub job-part : (m : Machine) → JobHas j m q b o → Part j (job_save m) q b o
  job-part (machines.File m) h = file-part m h
  job-part (machines.Path m) h = path-part m.arrived m.opener h
  job-part (machines.Name m) h = none refl (inl h)

-- ---- of which file it sends and commits, where it has a place, and how many of its calls wait

-- of a save, by what is said of the operation that has it
pub record SaveOf (s : Saving) (seat flies commits : Option (List ℕ)) (calls : ℕ) : Type 0 where
  pub seat_is : seat ≡ Some s.file
  pub flies_is : 1 ≤ calls → saves.is_sending s.phase ≡ true → flies ≡ Some s.file
  pub commits_is : 1 ≤ calls → saves.is_sending s.phase ≡ false → commits ≡ Some s.file
  pub waits : 1 ≤ calls → 1 ≤ of_saving s

own-save : (s : Saving) → SaveOf s (Some s.file) (flies_save s) (commits_save s) (of_saving s)
own-save s = record {
  seat_is = refl;
  flies_is = λ some sends. ap (λ (b : Bool). flies_if b s.file) sends;
  commits_is = λ some idle. ap (λ (b : Bool). commits_if b s.file) idle;
  waits = λ some. some;
}

queued-save : (s : Saving) → SaveOf s (Some s.file) None None 0
queued-save s = record {
  seat_is = refl;
  flies_is = λ some. absurd (omega (arith, some));
  commits_is = λ some. absurd (omega (arith, some));
  waits = λ some. absurd (omega (arith, some));
}

some-save : (a b : Saving) → Some a ≡ Some b → a ≡ b
some-save a b e = cc

none-save : {X : Type 0} → (s : Saving) → None ≡ Some s → X
none-save s e = absurd (let no_way : None ≡ Some s = e in cc)

writing-is : (w : Writing) (s : Saving) → writing_save w ≡ Some s → SaveOf s (seat_write w) (flies_write w) (commits_write w) (of_writing w)
writing-is writing.Idle s is = none-save s is
writing-is (writing.Room file t) s is =
    subst (λ (z : Saving). SaveOf z (seat_write (writing.Room file t)) (flies_write (writing.Room file t)) (commits_write (writing.Room file t)) (of_writing (writing.Room file t))) (some-save t s is) (own-save t)

syncing-is : (w : Syncing) (s : Saving) → syncing_save w ≡ Some s → SaveOf s (seat_sync w) (flies_sync w) (commits_sync w) (of_syncing w)
syncing-is syncing.Idle s is = none-save s is
syncing-is (syncing.Saves t) s is =
    subst (λ (z : Saving). SaveOf z (seat_sync (syncing.Saves t)) (flies_sync (syncing.Saves t)) (commits_sync (syncing.Saves t)) (of_syncing (syncing.Saves t))) (some-save t s is) (own-save t)

closing-is : (w : Closing) (s : Saving) → closing_save w ≡ Some s → SaveOf s (seat_close w) (flies_close w) (commits_close w) (of_closing w)
closing-is closing.Idle s is = none-save s is
closing-is (closing.Queued t) s is =
    subst (λ (z : Saving). SaveOf z (seat_close (closing.Queued t)) (flies_close (closing.Queued t)) (commits_close (closing.Queued t)) (of_closing (closing.Queued t))) (some-save t s is) (queued-save t)
closing-is (closing.Saves t) s is =
    subst (λ (z : Saving). SaveOf z (seat_close (closing.Saves t)) (flies_close (closing.Saves t)) (commits_close (closing.Saves t)) (of_closing (closing.Saves t))) (some-save t s is) (own-save t)
closing-is (closing.ToRemove r) s is = none-save s is
closing-is (closing.Removing r) s is = none-save s is

putting-is : (p : Putting) (o : Opening) (w : Writing) (s : Saving) → putting_save p w ≡ Some s → SaveOf s (seat_put p w) (flies_put p w) (commits_put p w) (of_putting p o w)
putting-is putting.Idle o w s is = none-save s is
putting-is putting.Opens o w s is = none-save s is
putting-is (putting.Adds file) o w s is = writing-is w s is
putting-is (putting.Saves t) o w s is =
    subst (λ (z : Saving). SaveOf z (seat_put (putting.Saves t) w) (flies_put (putting.Saves t) w) (commits_put (putting.Saves t) w) (of_putting (putting.Saves t) o w)) (some-save t s is) (own-save t)

file-is : (m : FileMachine) (s : Saving) → file_save m ≡ Some s → SaveOf s (seat_file m) (flies_file m) (commits_file m) (calls_of m)
file-is (files.Open m) s is = none-save s is
file-is (files.Read m) s is = none-save s is
file-is (files.Write m) s is = writing-is m.state s is
file-is (files.Sync m) s is = syncing-is m.state s is
file-is (files.Close m) s is = closing-is m.state s is
file-is (files.Truncate m) s is = none-save s is
file-is (files.Put m) s is = putting-is m.state m.opening m.write.state s is

path-is : (b : Bool) (m : PathMachine) (s : Saving) → m.arrived ≡ b → path_save b m.opener ≡ Some s → SaveOf s (path_seat b m.opener) (flies_path b m.opener) (commits_path b m.opener) (of_path m)
path-is true m s there is =
    subst (λ (n : ℕ). SaveOf s (seat_file (file_of m.opener)) (flies_file (file_of m.opener)) (commits_file (file_of m.opener)) n) (sym (path-file m there)) (file-is (file_of m.opener) s is)
path-is false m s there is = none-save s is

pub save-is : (m : Machine) (s : Saving) → job_save m ≡ Some s → SaveOf s (seat_of m) (flies_of m) (commits_of m) (in_flight m)
save-is (machines.File m) s is = file-is m s is
save-is (machines.Path m) s is = path-is m.arrived m s refl is
save-is (machines.Name m) s is = none-save s is

-- ---- kinds

abbrev pub file_kind : FileMachine → ℕ
file_kind (files.Open m) = 0
file_kind (files.Read m) = 0
file_kind (files.Write m) = 1
file_kind (files.Sync m) = 2
file_kind (files.Close m) = 5
file_kind (files.Truncate m) = 0
file_kind (files.Put m) = 3

abbrev pub job_kind : Machine → ℕ
job_kind (machines.File m) = file_kind m
job_kind (machines.Path m) = file_kind (file_of m.opener)
job_kind (machines.Name m) = 0

module _ (wsize : ℕ) (turn : Turn) where
  file-start-kind : (m : FileMachine) (old : Shelf) (next : Step) (new : FileMachine) (after : Shelf) → steps.Starts wsize m turn old next new after → file_kind new ≡ file_kind m
  file-start-kind (files.Open m) old next new after s = ap file_kind s.machine_is
  file-start-kind (files.Read m) old next new after s = ap file_kind s.machine_is
  file-start-kind (files.Write m) old next new after s = ap file_kind s.machine_is
  file-start-kind (files.Sync m) old next new after s = ap file_kind s.machine_is
  file-start-kind (files.Close m) old next new after s = ap file_kind s.machine_is
  file-start-kind (files.Truncate m) old next new after s = ap file_kind s.machine_is
  file-start-kind (files.Put m) old next new after s = ap file_kind s.machine_is

  file-resume-kind : (m : FileMachine) (old : Shelf) (next : Step) (new : FileMachine) (after : Shelf) → steps.Resumes wsize m turn old next new after → file_kind new ≡ file_kind m
  file-resume-kind (files.Open m) old next new after s = ap file_kind s.machine_is
  file-resume-kind (files.Read m) old next new after s = ap file_kind s.machine_is
  file-resume-kind (files.Write m) old next new after s = ap file_kind s.machine_is
  file-resume-kind (files.Sync m) old next new after s = ap file_kind s.machine_is
  file-resume-kind (files.Close m) old next new after s = ap file_kind s.machine_is
  file-resume-kind (files.Truncate m) old next new after s = ap file_kind s.machine_is
  file-resume-kind (files.Put m) old next new after s = ap file_kind s.machine_is

  file-take-kind : (sent : Turn) (came : Result Reply Fault) (m : FileMachine) (old : Shelf) (next : Step) (new : FileMachine) (after : Shelf) → steps.Takes wsize m sent turn came old next new after
      → file_kind new ≡ file_kind m
  file-take-kind sent came (files.Open m) old next new after s = ap file_kind s.machine_is
  file-take-kind sent came (files.Read m) old next new after s = ap file_kind s.machine_is
  file-take-kind sent came (files.Write m) old next new after s = ap file_kind s.machine_is
  file-take-kind sent came (files.Sync m) old next new after s = ap file_kind s.machine_is
  file-take-kind sent came (files.Close m) old next new after s = ap file_kind s.machine_is
  file-take-kind sent came (files.Truncate m) old next new after s = ap file_kind s.machine_is
  file-take-kind sent came (files.Put m) old next new after s = ap file_kind s.machine_is

  placed-kind : (dir : List ℕ) (o : Opener) → file_kind (file_of (placed dir o)) ≡ file_kind (file_of o)
  placed-kind dir (openers.Open m) = refl
  placed-kind dir (openers.Put m) = refl

  begun-kind : (moment : ℕ) (o : Opener) → file_kind (file_of (begun_at moment o)) ≡ file_kind (file_of o)
  begun-kind moment (openers.Open m) = refl
  begun-kind moment (openers.Put m) = refl

  abbrev path_kind : PathMachine → ℕ
  path_kind m = file_kind (file_of m.opener)

  then-kind : (m : PathMachine) (old : Shelf) (next : Step) (new : PathMachine) (after : Shelf) → paths.ThenResumes wsize m turn old next new after → path_kind new ≡ path_kind m
  then-kind m old next new after t = ap path_kind t.machine_is ∙ file-resume-kind (file_of m.opener) old next (file_of t.opener) after t.step

  follows-kind : (step : WalkStep) (m : PathMachine) (old : Shelf) (next : Step) (new : PathMachine) (after : Shelf) → paths.Follows step wsize m turn old next new after → path_kind new ≡ path_kind m
  follows-kind (walks.Send call) m old next new after f = ap path_kind f.1
  follows-kind walks.Wait m old next new after f = ap path_kind f.1
  follows-kind (walks.At dir) m old next new after f = then-kind (record m { opener = placed dir m.opener; arrived = true }) old next new after f ∙ placed-kind dir m.opener
  follows-kind (walks.Refused fault) m old next new after f = ap path_kind f.1

  path-resume-kind : (b : Bool) (m : PathMachine) (old : Shelf) (next : Step) (new : PathMachine) (after : Shelf) → paths.PathResumes b wsize m turn old next new after → path_kind new ≡ path_kind m
  path-resume-kind true m old next new after r = then-kind m old next new after r
  path-resume-kind false m old next new after r =
      follows-kind (walking.go_next m.walk turn old) (record m { walk = walking.go_after m.walk turn old }) (walking.go_shelf m.walk turn old) next new after r

  path-start-kind : (taken : Bool) (m : PathMachine) (old : Shelf) (next : Step) (new : PathMachine) (after : Shelf) → paths.StartsIf taken wsize m turn old next new after → path_kind new ≡ path_kind m
  path-start-kind true m old next new after s = ap path_kind s.1
  path-start-kind false m old next new after s =
      path-resume-kind m.arrived (record m { opener = begun_at (turn.moment - 1) m.opener }) old next new after s ∙ begun-kind (turn.moment - 1) m.opener

  path-take-kind : (sent : Turn) (came : Result Reply Fault) (b : Bool) (m : PathMachine) (old : Shelf) (next : Step) (new : PathMachine) (after : Shelf) → paths.PathTakes b wsize m sent turn came old next new after
      → path_kind new ≡ path_kind m
  path-take-kind sent came true m old next new after t = ap path_kind t.machine_is ∙ file-take-kind sent came (file_of m.opener) old next (file_of t.opener) after t.step
  path-take-kind sent came false m old next new after t = follows-kind t.step t.walked t.heard next new after t.follows ∙ ap path_kind t.walked_is

  pub start-kind : (m : Machine) (old : Shelf) (next : Step) (new : Machine) (after : Shelf) → Starts wsize m turn old next new after → job_kind new ≡ job_kind m
  start-kind (machines.File m) old next new after s = ap job_kind s.machine_is ∙ file-start-kind m old next s.machine after s.step
  start-kind (machines.Path m) old next new after s = ap job_kind s.machine_is ∙ path-start-kind (slot_taken m.opener old.opens) m old next s.machine after s.step
  start-kind (machines.Name m) old next new after s = ap job_kind s.machine_is

  pub resume-kind : (m : Machine) (old : Shelf) (next : Step) (new : Machine) (after : Shelf) → Resumes wsize m turn old next new after → job_kind new ≡ job_kind m
  resume-kind (machines.File m) old next new after s = ap job_kind s.machine_is ∙ file-resume-kind m old next s.machine after s.step
  resume-kind (machines.Path m) old next new after s = ap job_kind s.machine_is ∙ path-resume-kind m.arrived m old next s.machine after s.step
  resume-kind (machines.Name m) old next new after s = ap job_kind s.machine_is

  pub take-kind : (sent : Turn) (came : Result Reply Fault) (m : Machine) (old : Shelf) (next : Step) (new : Machine) (after : Shelf) → Takes wsize m sent turn came old next new after
      → job_kind new ≡ job_kind m
  take-kind sent came (machines.File m) old next new after s = ap job_kind s.machine_is ∙ file-take-kind sent came m old next s.machine after s.step
  take-kind sent came (machines.Path m) old next new after s = ap job_kind s.machine_is ∙ path-take-kind sent came m.arrived m old next s.machine after s.step
  take-kind sent came (machines.Name m) old next new after s = ap job_kind s.machine_is

-- what the good end of a write, and of a sync or close, shows
pub good-write : (j : Job) (m : Machine) (q : ℕ) (b : Pending) (o : List LaneFile) → job_kind m ≡ 1 → JobGood j m q b o → j.PA q b o
good-write j (machines.File m) q b o is g = by m is g
  where
    by : (m : FileMachine) → file_kind m ≡ 1 → FileGood j m q b o → j.PA q b o
    by (files.Open m) is g = absurd (omega (arith, is))
    by (files.Read m) is g = absurd (omega (arith, is))
    by (files.Write m) is g = g
    by (files.Sync m) is g = absurd (omega (arith, is))
    by (files.Close m) is g = absurd (omega (arith, is))
    by (files.Truncate m) is g = absurd (omega (arith, is))
    by (files.Put m) is g = absurd (omega (arith, is))
good-write j (machines.Path m) q b o is g = absurd (by m.opener is)
  where
    by : (n : Opener) → file_kind (file_of n) ≡ 1 → ⊥
    by (openers.Open n) e = omega (arith, e)
    by (openers.Put n) e = omega (arith, e)
good-write j (machines.Name m) q b o is g = absurd (omega (arith, is))

pub good-save : (j : Job) (m : Machine) (q : ℕ) (b : Pending) (o : List LaneFile) → (job_kind m ≡ 2) ⊎ (job_kind m ≡ 5) → JobGood j m q b o → j.PA q b o × j.X
good-save j (machines.File m) q b o is g = by m is g
  where
    not-so : {A : Type 0} → (n : ℕ) → n < 2 → (n ≡ 2) ⊎ (n ≡ 5) → A
    not-so n low (inl e) = absurd (omega (arith, low, e))
    not-so n low (inr e) = absurd (omega (arith, low, e))

    by : (m : FileMachine) → (file_kind m ≡ 2) ⊎ (file_kind m ≡ 5) → FileGood j m q b o → j.PA q b o × j.X
    by (files.Open m) is g = not-so 0 (omega arith) is
    by (files.Read m) is g = not-so 0 (omega arith) is
    by (files.Write m) is g = not-so 1 (omega arith) is
    by (files.Sync m) is g = g
    by (files.Close m) is g = g
    by (files.Truncate m) is g = not-so 0 (omega arith) is
    by (files.Put m) is g = g
good-save j (machines.Path m) q b o is g = by m.opener is
  where
    by : (n : Opener) → (file_kind (file_of n) ≡ 2) ⊎ (file_kind (file_of n) ≡ 5) → j.PA q b o × j.X
    by (openers.Open n) (inl e) = absurd (omega (arith, e))
    by (openers.Open n) (inr e) = absurd (omega (arith, e))
    by (openers.Put n) (inl e) = absurd (omega (arith, e))
    by (openers.Put n) (inr e) = absurd (omega (arith, e))
good-save j (machines.Name m) q b o (inl e) g = absurd (omega (arith, e))
good-save j (machines.Name m) q b o (inr e) g = absurd (omega (arith, e))

-- the good end of a put
pub good-path : (j : Job) (m : Machine) (q : ℕ) (b : Pending) (o : List LaneFile) → job_kind m ≡ 3 → JobGood j m q b o → j.PA q b o × j.X
good-path j (machines.Path m) q b o is g = by m.opener is g
  where
    by : (m : Opener) → file_kind (file_of m) ≡ 3 → PathGood j m q b o → j.PA q b o × j.X
    by (openers.Open m) is g = absurd (omega (arith, is))
    by (openers.Put m) is g = g
good-path j (machines.File m) q b o is g = by m is g
  where
    by : (m : FileMachine) → file_kind m ≡ 3 → FileGood j m q b o → j.PA q b o × j.X
    by (files.Open m) is g = absurd (omega (arith, is))
    by (files.Read m) is g = absurd (omega (arith, is))
    by (files.Write m) is g = absurd (omega (arith, is))
    by (files.Sync m) is g = absurd (omega (arith, is))
    by (files.Close m) is g = absurd (omega (arith, is))
    by (files.Truncate m) is g = absurd (omega (arith, is))
    by (files.Put m) is g = g
good-path j (machines.Name m) q b o is g = absurd (omega (arith, is))

-- a write that was refused
pub bad-write : (j : Job) (m : Machine) (q : ℕ) (b : Pending) (o : List LaneFile) → job_kind m ≡ 1 → JobBad j m q b o → j.P q b o
bad-write j (machines.File m) q b o is g = by m is g
  where
    by : (m : FileMachine) → file_kind m ≡ 1 → FileBad j m q b o → j.P q b o
    by (files.Open m) is g = absurd (omega (arith, is))
    by (files.Read m) is g = absurd (omega (arith, is))
    by (files.Write m) is g = g
    by (files.Sync m) is g = absurd (omega (arith, is))
    by (files.Close m) is g = absurd (omega (arith, is))
    by (files.Truncate m) is g = absurd (omega (arith, is))
    by (files.Put m) is g = absurd (omega (arith, is))
bad-write j (machines.Path m) q b o is g = absurd (by m.opener is)
  where
    by : (n : Opener) → file_kind (file_of n) ≡ 1 → ⊥
    by (openers.Open n) e = omega (arith, e)
    by (openers.Put n) e = omega (arith, e)
bad-write j (machines.Name m) q b o is g = absurd (omega (arith, is))

pub bad-any : (j : Job) (m : Machine) (q : ℕ) (b : Pending) (o : List LaneFile) → (j.P q b o → j.R q b o) → JobBad j m q b o → j.R q b o
bad-any j (machines.File m) q b o p g = by m g
  where
    by : (m : FileMachine) → FileBad j m q b o → j.R q b o
    by (files.Open m) g = g
    by (files.Read m) g = g
    by (files.Write m) g = p g
    by (files.Sync m) g = g
    by (files.Close m) g = g
    by (files.Truncate m) g = g
    by (files.Put m) g = g
bad-any j (machines.Path m) q b o p g = g
bad-any j (machines.Name m) q b o p g = g

-- a write that goes on has none of its own saves
pub data WritePart (j : Job) (q : ℕ) (b : Pending) (o : List LaneFile) : Type 0 where
  before : j.P q b o → WritePart j q b o
  in_room : (s : Saving) → j.K s q b o → WritePart j q b o

pub write-part : (j : Job) (m : Machine) (q : ℕ) (b : Pending) (o : List LaneFile) → job_kind m ≡ 1 → JobHas j m q b o → WritePart j q b o
write-part j (machines.File m) q b o is h = by m is h
  where
    room-is : (offset : ℕ) (bytes : List ℕ) (w : Writing) → RoomHas j.P j.K j.A offset bytes w q b o → WritePart j q b o
    room-is offset bytes writing.Idle h = before h
    room-is offset bytes (writing.Room file s) h = in_room s h.0

    by : (m : FileMachine) → file_kind m ≡ 1 → FileHas j m q b o → WritePart j q b o
    by (files.Open m) is h = absurd (omega (arith, is))
    by (files.Read m) is h = absurd (omega (arith, is))
    by (files.Write m) is h = room-is m.offset (writes.made_bytes m.text) m.state h
    by (files.Sync m) is h = absurd (omega (arith, is))
    by (files.Close m) is h = absurd (omega (arith, is))
    by (files.Truncate m) is h = absurd (omega (arith, is))
    by (files.Put m) is h = absurd (omega (arith, is))
write-part j (machines.Path m) q b o is h = absurd (by m.opener is)
  where
    by : (n : Opener) → file_kind (file_of n) ≡ 1 → ⊥
    by (openers.Open n) e = omega (arith, e)
    by (openers.Put n) e = omega (arith, e)
write-part j (machines.Name m) q b o is h = absurd (omega (arith, is))

-- any good end
pub good-any : (j : Job) (m : Machine) (q : ℕ) (b : Pending) (o : List LaneFile) → (j.P q b o → j.R q b o) → (j.PA q b o → j.R q b o) → JobGood j m q b o → j.R q b o
good-any j (machines.File m) q b o p pa g = by m g
  where
    by : (m : FileMachine) → FileGood j m q b o → j.R q b o
    by (files.Open m) g = p g
    by (files.Read m) g = p g
    by (files.Write m) g = pa g
    by (files.Sync m) g = pa g.0
    by (files.Close m) g = pa g.0
    by (files.Truncate m) g = g
    by (files.Put m) g = pa g.0
good-any j (machines.Path m) q b o p pa g = by m.opener g
  where
    by : (m : Opener) → PathGood j m q b o → j.R q b o
    by (openers.Open m) g = p g
    by (openers.Put m) g = pa g.0
good-any j (machines.Name m) q b o p pa g = p g

-- ---- the lane of an operation that is at work

file-lane : (lane : ℕ) (m : FileMachine) → FileLive lane m → file_lane lane m ≡ lane
file-lane lane (files.Open m) live = refl
file-lane lane (files.Read m) live = refl
file-lane lane (files.Write m) live = live.0
file-lane lane (files.Sync m) live = live.0
file-lane lane (files.Close m) live = live.0
file-lane lane (files.Truncate m) live = live.0
file-lane lane (files.Put m) live = live.0

path-lane : (b : Bool) (lane : ℕ) (m : PathMachine) → OnPath b lane m → file_lane lane (file_of m.opener) ≡ lane
path-lane true lane m live = file-lane lane (file_of m.opener) live
path-lane false lane m live = by m.opener live.1
  where
    by : (o : Opener) → OpenerFresh lane o → file_lane lane (file_of o) ≡ lane
    by (openers.Open k) fresh = refl
    by (openers.Put k) fresh = fresh

pub live-lane : (lane : ℕ) (m : Machine) → IsLive lane m → job_lane lane m ≡ lane
live-lane lane (machines.File m) live = file-lane lane m live
live-lane lane (machines.Path m) live = path-lane m.arrived lane m live
live-lane lane (machines.Name m) live = refl

fresh-file : (lane : ℕ) (m : FileMachine) → FileFresh lane m → file_lane lane m ≡ lane
fresh-file lane (files.Open m) fresh = refl
fresh-file lane (files.Read m) fresh = refl
fresh-file lane (files.Write m) fresh = fresh
fresh-file lane (files.Sync m) fresh = fresh
fresh-file lane (files.Close m) fresh = fresh
fresh-file lane (files.Truncate m) fresh = fresh
fresh-file lane (files.Put m) fresh = fresh

pub fresh-lane : (lane : ℕ) (m : Machine) → IsFreshFor lane m → job_lane lane m ≡ lane
fresh-lane lane (machines.File m) fresh = fresh-file lane m fresh
fresh-lane lane (machines.Path m) fresh = by m.opener fresh.opener
  where
    by : (o : Opener) → OpenerFresh lane o → file_lane lane (file_of o) ≡ lane
    by (openers.Open k) of = refl
    by (openers.Put k) of = of
fresh-lane lane (machines.Name m) fresh = refl
