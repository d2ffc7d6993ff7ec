-- A call that an operation makes again was put off once more than it counts. A call that it makes again no more, since it was put off three times, was put off as
-- often as it counts.
use Rattle.core_session.proofs.Prelude.{◌≡◌, ◌≤◌, ◌+◌, ◌&&◌, ℕ, Bool, true, false, List, Result, Ok, Err, refl, sym, ap, subst, ◌∙◌, nat_lt, ltb-false, Fault, Call, Reply, jukebox, Pending, Repeat, Turn, fails_busy, Closing, Led, Opening, PutFile, Putting, Saving, Syncing, Writing, commit_told, FileMachine, Machine, PathMachine, file_of, PathOr, Expects, PathNames, SyncNames, WriteNames, CloseNames, StateNames, FileNames, Saves, flies_save, flies_write, flies_sync, flies_close, flies_put, flies_file, flies_path, CallFaults, CallFits, FineLed, FitsOpening}
use Rattle.std.specs.Prelude.{not, ◌||◌, is_none}
use Rattle.core_facts.proofs.AllAwaited.{PutAwaits, FileAwaits}
use Rattle.core_answers.proofs.answers.SaveFaults.{FitsSave}
use Rattle.core_answers.proofs.answers.WriteFaults.{FitsWrite}
use Rattle.core_answers.proofs.refusals.FitAll.{FitsFile, FitsPath, FitsMachine}
use Rattle.core_answers.proofs.refusals.FitFiles.{FitsSync, FitsClose, FitsPut}
use Rattle.core_answers.proofs.writes.AllFits.{commits_path}
use Rattle.core_answers.proofs.writes.CallFits.{Fits, commits_save, commits_write, commits_sync, commits_close, commits_put, commits_file}
use Rattle.nfs_dir_calls.specs.declared.call.DirCall.TheVariants as dirs
use Rattle.world_model.specs.declared.answer.Fault.TheVariants as faults
use Rattle.world_model.specs.declared.message.Call.TheVariants as calls
use Rattle.file_ops.specs.declared.close_file.Closing.TheVariants as closing
use Rattle.file_ops.specs.declared.opening.Led.TheVariants as leads
use Rattle.file_ops.specs.declared.opening.OpeningPhase.{OpeningPhase}
use Rattle.file_ops.specs.declared.opening.OpeningPhase.TheVariants as opening_steps
use Rattle.file_ops.specs.declared.put_file.Putting.TheVariants as putting
use Rattle.file_ops.specs.declared.sync_file.Syncing.TheVariants as syncing
use Rattle.file_ops.specs.declared.write_file.Writing.TheVariants as writing
use Rattle.file_ops.specs.Opening as opening
use Rattle.file_ops.specs.Saves as saves
use Rattle.op_machines.specs.declared.file_machine.FileMachine.TheVariants as files
use Rattle.op_machines.specs.declared.machine.Machine.TheVariants as machines
use Rattle.core_session.proofs.delays.AllSteps.{FineFile, FineMachine}
use Rattle.core_session.proofs.delays.FileSteps.{FineSyncing, FineClosing, FinePutting}
use Rattle.core_session.proofs.delays.Times.{Times, Looked, AgainOpening, AgainSave, AgainWrite, AgainSync, AgainClose, AgainPut, AgainFile, AgainPath, AgainMachine, opening_full, save_full, write_full, sync_full, close_full, put_full, file_full, path_full, is_full, full-both, not-sending}
use Rattle.core_session.proofs.delays.Took.{fault-busy, result-busy, again-busy}
use Rattle.core_session.proofs.delays.TookFiles.{commits-file}
use Rattle.core_session.proofs.delays.WriteSteps.{FineWriting}

-- nothing is said of a fault
abbrev pub Any : Fault → Type 0
Any fault = Unit {0}

pub any-own : CallFaults Any
any-own = record { memory = tt }

abbrev pub look_up : List ℕ → List ℕ → Call
look_up dir name = calls.Dir (dirs.Lookup dir name)

look-call : (o : Opening) (step : OpeningPhase) → opening.looks step ≡ true → opening.call_of o step ≡ look_up o.dir o.name
look-call o opening_steps.Look is = refl
look-call o opening_steps.Make is = absurd (cc)
look-call o opening_steps.Find is = refl
look-call o (opening_steps.Ask file) is = absurd (cc)

and-left : (a b : Bool) → (a && b) ≡ true → a ≡ true
and-left true b e = refl
and-left false b e = absurd (cc)

-- ---- it is made again

module _ (E : Fault → Type 0) (mine : CallFaults E) (before later : Times) (sent turn : Turn) (came : Result Reply Fault) (repeats : List Repeat) (call : Call)
    (looks-more : (dir name : List ℕ) (k : ℕ) → call ≡ look_up dir name → E (faults.Nfs jukebox) → before.looks dir name k → later.looks dir name (k + 1))
    (commits-more : (file : List ℕ) (k : ℕ) → call ≡ saves.commit_of file → E (faults.Nfs jukebox) → before.commits file k → later.commits file (k + 1)) where
  led-off : (led : Led) → opening.ends_busy led ≡ true → FineLed E mine led → E (faults.Nfs jukebox)
  led-off (leads.Goes step) is f = absurd (cc)
  led-off (leads.Opens file attr) is f = absurd (cc)
  led-off (leads.Knows file stamp) is f = absurd (cc)
  led-off (leads.Ends fault) is f = fault-busy E fault is f

  opening-again : (o : Opening) → call ≡ opening.call_of o o.step → FitsOpening E mine o came → Looked before o → AgainOpening later sent turn came repeats o
  opening-again o e fits k = λ again looking.
      looks-more o.dir o.name o.put_off (e ∙ look-call o o.step looking)
      (led-off (opening.told_led o came)
      (and-left (opening.ends_busy (opening.told_led o came)) (not (opening.looks o.step) || nat_lt o.put_off 3)
      (again-busy (opening.may_again o (opening.told_led o came)) sent turn repeats again)) fits) k

  save-again : (s : Saving) (back : Pending) → Saves s.file call → Fits (flies_save s) (commits_save s) call → FitsSave E mine sent came s back → before.commits s.file s.put_off
      → AgainSave later sent turn came repeats s
  save-again s back e k fits c = λ idle again.
      commits-more s.file s.put_off (commits-file s call e k idle)
      (result-busy E (commit_told came)
      (and-left (fails_busy (commit_told came)) (is_none s.refusal)
      (and-left (saves.may_again (fails_busy (commit_told came)) s) (nat_lt s.put_off 3) (again-busy (saves.may_commit (commit_told came) s) sent turn repeats again))) (fits.commits idle)) c

  write-again : (at : Writing) (back : Pending) → WriteNames at call → Fits (flies_write at) (commits_write at) call → FitsWrite E mine sent came at back → FineWriting Any any-own before at
      → AgainWrite later sent turn came repeats at
  write-again writing.Idle back e k fits f = tt
  write-again (writing.Room file s) back e k fits f = save-again s back e k fits f.2

  sync-again : (at : Syncing) (back : Pending) → SyncNames at call → Fits (flies_sync at) (commits_sync at) call → FitsSync E mine sent came at back → FineSyncing Any any-own before at
      → AgainSync later sent turn came repeats at
  sync-again syncing.Idle back e k fits f = tt
  sync-again (syncing.Saves s) back e k fits f = save-again s back e k fits f.2

  close-again : (at : Closing) (back : Pending) → CloseNames at call → Fits (flies_close at) (commits_close at) call → FitsClose E mine sent came at back → FineClosing Any any-own before at
      → AgainClose later sent turn came repeats at
  close-again closing.Idle back e k fits f = tt
  close-again (closing.Queued s) back e k fits f = tt
  close-again (closing.Saves s) back e k fits f = save-again s back e k fits f.2
  close-again (closing.ToRemove removal) back e k fits f = tt
  close-again (closing.Removing removal) back e k fits f = tt

  put-again : (at : Putting) (m : PutFile) (back : Pending) → PutAwaits at m.opening call → StateNames at m.write.state call → Fits (flies_put at m.write.state) (commits_put at m.write.state) call
      → FitsPut E mine sent came at m back → FineWriting Any any-own before m.write.state → FinePutting Any any-own before at → Looked before m.opening → AgainPut later sent turn came repeats at m
  put-again putting.Idle m back a e k fits w p o = tt
  put-again putting.Opens m back a e k fits w p o = opening-again m.opening a fits o
  put-again (putting.Adds file) m back a e k fits w p o = write-again m.write.state back e k fits w
  put-again (putting.Saves s) m back a e k fits w p o = save-again s back e k fits p.2

  file-again : (m : FileMachine) (back : Pending) → FileAwaits m call → FileNames m call → Fits (flies_file m) (commits_file m) call → FitsFile E mine sent came m back
      → FineFile Any any-own before m → AgainFile later sent turn came repeats m
  file-again (files.Open m) back a e k fits f = opening-again m.opening a fits f
  file-again (files.Read m) back a e k fits f = tt
  file-again (files.Write m) back a e k fits f = write-again m.state back e k fits f
  file-again (files.Sync m) back a e k fits f = sync-again m.state back e k fits f
  file-again (files.Close m) back a e k fits f = close-again m.state back e k fits f
  file-again (files.Truncate m) back a e k fits f = tt
  file-again (files.Put m) back a e k fits f = put-again m.state m back a e k fits f.0 f.1 f.2

  path-again : (b : Bool) (m : PathMachine) (back : Pending) → PathOr b m call → PathNames b m call → Fits (flies_path b m.opener) (commits_path b m.opener) call
      → FitsPath E mine b sent came m back → FineFile Any any-own before (file_of m.opener) → AgainPath later sent turn came repeats b m
  path-again true m back a e k fits f = file-again (file_of m.opener) back a e k fits f
  path-again false m back a e k fits f = tt

  pub machine-again : (m : Machine) (back : Pending) → Expects m call → CallFits m call → FitsMachine E mine sent came m back → FineMachine Any any-own before m
      → AgainMachine later sent turn came repeats m
  machine-again (machines.File m) back e k fits f = file-again m back e.0 e.1 k fits f
  machine-again (machines.Path m) back e k fits f = path-again m.arrived m back e.0 e.1 k fits f
  machine-again (machines.Name m) back e k fits f = tt

-- ---- it was put off three times

-- R holds of a number of times that is three or more
pub record Often (R : ℕ → Type 0) : Type 0 where
  pub many : ℕ
  pub enough : 3 ≤ many
  pub so : R many

module _ (counts : Times) (call : Call) (R : ℕ → Type 0) (looks-are : (dir name : List ℕ) (k : ℕ) → call ≡ look_up dir name → counts.looks dir name k → R k)
    (commits-are : (file : List ℕ) (k : ℕ) → call ≡ saves.commit_of file → counts.commits file k → R k) where
  opening-often : (o : Opening) → call ≡ opening.call_of o o.step → Looked counts o → opening_full o ≡ true → Often R
  opening-often o e k is =
      let both = full-both (opening.looks o.step) (nat_lt o.put_off 3) is in
      record { many = o.put_off; enough = ltb-false o.put_off 3 both.1; so = looks-are o.dir o.name o.put_off (e ∙ look-call o o.step both.0) k }

  save-often : (s : Saving) → Saves s.file call → Fits (flies_save s) (commits_save s) call → counts.commits s.file s.put_off → save_full s ≡ true → Often R
  save-often s e k c is =
      let both = full-both (not (saves.is_sending s.phase)) (nat_lt s.put_off 3) is in
      record { many = s.put_off; enough = ltb-false s.put_off 3 both.1; so = commits-are s.file s.put_off (commits-file s call e k (not-sending (saves.is_sending s.phase) both.0)) c }

  write-often : (at : Writing) → WriteNames at call → Fits (flies_write at) (commits_write at) call → FineWriting Any any-own counts at → write_full at ≡ true → Often R
  write-often writing.Idle e k f is = absurd (cc)
  write-often (writing.Room file s) e k f is = save-often s e k f.2 is

  sync-often : (at : Syncing) → SyncNames at call → Fits (flies_sync at) (commits_sync at) call → FineSyncing Any any-own counts at → sync_full at ≡ true → Often R
  sync-often syncing.Idle e k f is = absurd (cc)
  sync-often (syncing.Saves s) e k f is = save-often s e k f.2 is

  close-often : (at : Closing) → CloseNames at call → Fits (flies_close at) (commits_close at) call → FineClosing Any any-own counts at → close_full at ≡ true → Often R
  close-often closing.Idle e k f is = absurd (cc)
  close-often (closing.Queued s) e k f is = absurd (cc)
  close-often (closing.Saves s) e k f is = save-often s e k f.2 is
  close-often (closing.ToRemove removal) e k f is = absurd (cc)
  close-often (closing.Removing removal) e k f is = absurd (cc)

  put-often : (at : Putting) (m : PutFile) → PutAwaits at m.opening call → StateNames at m.write.state call → Fits (flies_put at m.write.state) (commits_put at m.write.state) call
      → FineWriting Any any-own counts m.write.state → FinePutting Any any-own counts at → Looked counts m.opening → put_full at m ≡ true → Often R
  put-often putting.Idle m a e k w p o is = absurd (cc)
  put-often putting.Opens m a e k w p o is = opening-often m.opening a o is
  put-often (putting.Adds file) m a e k w p o is = write-often m.write.state e k w is
  put-often (putting.Saves s) m a e k w p o is = save-often s e k p.2 is

  file-often : (m : FileMachine) → FileAwaits m call → FileNames m call → Fits (flies_file m) (commits_file m) call → FineFile Any any-own counts m → file_full m ≡ true → Often R
  file-often (files.Open m) a e k f is = opening-often m.opening a f is
  file-often (files.Read m) a e k f is = absurd (cc)
  file-often (files.Write m) a e k f is = write-often m.state e k f is
  file-often (files.Sync m) a e k f is = sync-often m.state e k f is
  file-often (files.Close m) a e k f is = close-often m.state e k f is
  file-often (files.Truncate m) a e k f is = absurd (cc)
  file-often (files.Put m) a e k f is = put-often m.state m a e k f.0 f.1 f.2 is

  path-often : (b : Bool) (m : PathMachine) → PathOr b m call → PathNames b m call → Fits (flies_path b m.opener) (commits_path b m.opener) call → FineFile Any any-own counts (file_of m.opener)
      → path_full b m ≡ true → Often R
  path-often true m a e k f is = file-often (file_of m.opener) a e k f is
  path-often false m a e k f is = absurd (cc)

  pub machine-often : (m : Machine) → Expects m call → CallFits m call → FineMachine Any any-own counts m → is_full m ≡ true → Often R
  machine-often (machines.File m) e k f is = file-often m e.0 e.1 k f is
  machine-often (machines.Path m) e k f is = path-often m.arrived m e.0 e.1 k f is
  machine-often (machines.Name m) e k f is = absurd (cc)
