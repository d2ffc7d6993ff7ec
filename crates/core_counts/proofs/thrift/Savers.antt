-- Operations that make bytes stable or set a size, as any operation: what their steps lead to, and what becomes of the kept pages.
use Rattle.core_counts.proofs.Prelude.{◌≡◌, ◌≤◌, ◌-◌, ℕ, Bool, true, false, List, [], Option, Some, None, Result, Ok, Err, refl, sym, ap, subst, ◌∙◌, Stamp, Wcc, FileCall, Pages, Answer, Fault, Call, Reply, Step, Shelf, Turn, PutFile, Truncating, FileMachine, Machine, Opener, PathMachine, file_of, Starts, Resumes, Takes, flies_file, flies_path, flies_of, ThenOf, written_file, kept-as}
use Rattle.core_answers.specs.writes.Alone.{write_in}
use Rattle.core_answers.proofs.pages.NamePages.{SamePages}
use Rattle.nfs_file_calls.specs.declared.call.FileCall.TheVariants as file_calls
use Rattle.world_model.specs.declared.message.Call.TheVariants as calls
use Rattle.claims.specs.Thrifty.{ChangesFile}
use Rattle.claims.specs.Thrifty as thrifty
use Rattle.client_shelf.specs.Unmade.{came_unmade}
use Rattle.client_shelf.specs.declared.step.Step.TheVariants as nexts
use Rattle.file_ops.specs.declared.truncate_file.TruncateFile.{TruncateFile}
use Rattle.file_ops.specs.declared.truncate_file.Truncating.TheVariants as truncating
use Rattle.file_ops.specs.Saves as saves
use Rattle.file_ops.specs.TruncateFile as truncates
use Rattle.file_ops.proofs.Failed.{unset-as, unset-unmade}
use Rattle.op_machines.specs.declared.file_machine.FileMachine.TheVariants as files
use Rattle.op_machines.specs.declared.machine.Machine.TheVariants as machines
use Rattle.op_machines.specs.declared.opener.Opener.TheVariants as openers
use Rattle.op_machines.specs.FileSteps as steps
use Rattle.op_machines.specs.PathSteps as paths
use Rattle.core_answers.proofs.pages.PageCalls.{PageAwaits}
use Rattle.core_session.proofs.kept.OwnTold.{takes-wrote}
use Rattle.core_counts.proofs.thrift.Distinct.{Few}
use Rattle.core_counts.proofs.thrift.Growth.{GoodPages}
use Rattle.core_counts.proofs.thrift.OtherPages.{good-wrote, good-cut}
use Rattle.core_counts.proofs.thrift.SaverPages.{write-none, sync-none, close-none, put-none}
use Rattle.core_counts.proofs.thrift.SaverSteps.{PutSaves, PutStays, stays-any, put-resumes, put-takes}

-- ---- which they are

abbrev pub SavesFile : FileMachine → Type 0
SavesFile (files.Open m) = ⊥
SavesFile (files.Read m) = ⊥
SavesFile (files.Write m) = Unit {0}
SavesFile (files.Sync m) = Unit {0}
SavesFile (files.Close m) = Unit {0}
SavesFile (files.Truncate m) = Unit {0}
SavesFile (files.Put m) = PutSaves m

abbrev pub SavesPath : Bool → Opener → Type 0
SavesPath true opener = SavesFile (file_of opener)
SavesPath false opener = ⊥

abbrev pub IsSaver : Machine → Type 0
IsSaver (machines.File m) = SavesFile m
IsSaver (machines.Path m) = SavesPath m.arrived m.opener
IsSaver (machines.Name m) = ⊥

-- the file of which a SETATTR waits
abbrev pub cuts_in : Truncating → Option (List ℕ)
cuts_in truncating.Idle = None
cuts_in (truncating.Queued file upto) = None
cuts_in (truncating.Asked file upto) = Some file

abbrev pub cuts_file : FileMachine → Option (List ℕ)
cuts_file (files.Truncate m) = cuts_in m.state
cuts_file m = None

abbrev pub cuts_of : Machine → Option (List ℕ)
cuts_of (machines.File m) = cuts_file m
cuts_of (machines.Path m) = None
cuts_of (machines.Name m) = None

-- ---- what a step leads to

pub then-map : {S T : Type 0} → (P : S → Type 0) (Q : T → Type 0) (A : Answer → Type 0) (next : Step) (s : S) (t : T) → (P s → Q t) → ThenOf P A next s → ThenOf Q A next t
then-map P Q A (nexts.Send call) s t f k = f k
then-map P Q A nexts.Wait s t f k = f k
then-map P Q A (nexts.Done answer) s t f k = k

-- those that save from their start
abbrev pub Stores : FileMachine → Type 0
Stores (files.Open m) = ⊥
Stores (files.Read m) = ⊥
Stores (files.Write m) = Unit {0}
Stores (files.Sync m) = Unit {0}
Stores (files.Close m) = Unit {0}
Stores (files.Truncate m) = Unit {0}
Stores (files.Put m) = ⊥

abbrev pub FileStays : Step → FileMachine → Type 0
FileStays next new = ThenOf SavesFile (λ answer. Unit {0}) next new

abbrev pub AllStays : Step → Machine → Type 0
AllStays next new = ThenOf IsSaver (λ answer. Unit {0}) next new

-- It stays what it is until it is answered.
one-stays : (next : Step) (to new : FileMachine) → new ≡ to → SavesFile to → FileStays next new
one-stays next to new is own = stays-any SavesFile next new (subst SavesFile (sym is) own)

put-stays : (next : Step) (put : PutFile) (new : FileMachine) → new ≡ files.Put put → PutStays next put → FileStays next new
put-stays next put new is k = subst (FileStays next) (sym is) (then-map PutSaves SavesFile (λ answer. Unit {0}) next put (files.Put put) (λ z. z) k)

file-starts : (k : FileMachine) (wsize : ℕ) (turn : Turn) (old : Shelf) (next : Step) (new : FileMachine) (after : Shelf) → Stores k → steps.Starts wsize k turn old next new after
    → FileStays next new
file-starts (files.Open m) wsize turn old next new after own s = absurd own
file-starts (files.Read m) wsize turn old next new after own s = absurd own
file-starts (files.Write m) wsize turn old next new after own s = one-stays next _ new s.machine_is tt
file-starts (files.Sync m) wsize turn old next new after own s = one-stays next _ new s.machine_is tt
file-starts (files.Close m) wsize turn old next new after own s = one-stays next _ new s.machine_is tt
file-starts (files.Truncate m) wsize turn old next new after own s = one-stays next _ new s.machine_is tt
file-starts (files.Put m) wsize turn old next new after own s = absurd own

file-resumes : (k : FileMachine) (wsize : ℕ) (turn : Turn) (old : Shelf) (next : Step) (new : FileMachine) (after : Shelf) → SavesFile k → steps.Resumes wsize k turn old next new after
    → FileStays next new
file-resumes (files.Open m) wsize turn old next new after own s = absurd own
file-resumes (files.Read m) wsize turn old next new after own s = absurd own
file-resumes (files.Write m) wsize turn old next new after own s = one-stays next _ new s.machine_is tt
file-resumes (files.Sync m) wsize turn old next new after own s = one-stays next _ new s.machine_is tt
file-resumes (files.Close m) wsize turn old next new after own s = one-stays next _ new s.machine_is tt
file-resumes (files.Truncate m) wsize turn old next new after own s = one-stays next _ new s.machine_is tt
file-resumes (files.Put m) wsize turn old next new after own s = put-stays next s.machine new s.machine_is (put-resumes m.state wsize m turn old next s.machine after own s.step)

file-takes : (k : FileMachine) (wsize : ℕ) (sent turn : Turn) (came : Result Reply Fault) (old : Shelf) (next : Step) (new : FileMachine) (after : Shelf) → SavesFile k
    → steps.Takes wsize k sent turn came old next new after → FileStays next new
file-takes (files.Open m) wsize sent turn came old next new after own s = absurd own
file-takes (files.Read m) wsize sent turn came old next new after own s = absurd own
file-takes (files.Write m) wsize sent turn came old next new after own s = one-stays next _ new s.machine_is tt
file-takes (files.Sync m) wsize sent turn came old next new after own s = one-stays next _ new s.machine_is tt
file-takes (files.Close m) wsize sent turn came old next new after own s = one-stays next _ new s.machine_is tt
file-takes (files.Truncate m) wsize sent turn came old next new after own s = one-stays next _ new s.machine_is tt
file-takes (files.Put m) wsize sent turn came old next new after own s =
    put-stays next s.machine new s.machine_is (put-takes m.state wsize m sent turn came old next s.machine after own s.step)

-- ---- as any operation

as-file : (next : Step) (m : FileMachine) (new : Machine) → new ≡ machines.File m → FileStays next m → AllStays next new
as-file next m new is k = subst (AllStays next) (sym is) (then-map SavesFile IsSaver (λ answer. Unit {0}) next m (machines.File m) (λ z. z) k)

pub as-path : (m : PathMachine) (o : Opener) (next : Step) (p : PathMachine) (new : Machine) → m.arrived ≡ true → new ≡ machines.Path p → p ≡ record m { opener = o }
    → FileStays next (file_of o) → AllStays next new
as-path m o next p new there is at k =
    subst (AllStays next) (sym is) (subst (λ (q : PathMachine). AllStays next (machines.Path q)) (sym at)
    (then-map SavesFile IsSaver (λ answer. Unit {0}) next (file_of o) (machines.Path (record m { opener = o })) (λ z. subst (λ (b : Bool). SavesPath b o) (sym there) z) k))

pub saver-starts : (k : FileMachine) (wsize : ℕ) (turn : Turn) (old : Shelf) (next : Step) (new : Machine) (after : Shelf) → Stores k → Starts wsize (machines.File k) turn old next new after
    → AllStays next new
saver-starts k wsize turn old next new after own s = as-file next s.machine new s.machine_is (file-starts k wsize turn old next s.machine after own s.step)

path-resumes : (b : Bool) (wsize : ℕ) (m : PathMachine) (turn : Turn) (old : Shelf) (next : Step) (p : PathMachine) (new : Machine) (after : Shelf) → m.arrived ≡ b → SavesPath b m.opener
    → new ≡ machines.Path p → paths.PathResumes b wsize m turn old next p after → AllStays next new
path-resumes false wsize m turn old next p new after there own is r = absurd own
path-resumes true wsize m turn old next p new after there own is r =
    as-path m r.opener next p new there is r.machine_is (file-resumes (file_of m.opener) wsize turn old next (file_of r.opener) after own r.step)

pub saver-resumes : (m : Machine) (wsize : ℕ) (turn : Turn) (old : Shelf) (next : Step) (new : Machine) (after : Shelf) → IsSaver m → Resumes wsize m turn old next new after → AllStays next new
saver-resumes (machines.File m) wsize turn old next new after own s = as-file next s.machine new s.machine_is (file-resumes m wsize turn old next s.machine after own s.step)
saver-resumes (machines.Path m) wsize turn old next new after own s = path-resumes m.arrived wsize m turn old next s.machine new after refl own s.machine_is s.step
saver-resumes (machines.Name m) wsize turn old next new after own s = absurd own

path-takes : (b : Bool) (wsize : ℕ) (m : PathMachine) (sent turn : Turn) (came : Result Reply Fault) (old : Shelf) (next : Step) (p : PathMachine) (new : Machine) (after : Shelf)
    → m.arrived ≡ b → SavesPath b m.opener → new ≡ machines.Path p → paths.PathTakes b wsize m sent turn came old next p after → AllStays next new
path-takes false wsize m sent turn came old next p new after there own is t = absurd own
path-takes true wsize m sent turn came old next p new after there own is t =
    as-path m t.opener next p new there is t.machine_is (file-takes (file_of m.opener) wsize sent turn came old next (file_of t.opener) after own t.step)

pub saver-takes : (m : Machine) (wsize : ℕ) (sent turn : Turn) (came : Result Reply Fault) (old : Shelf) (next : Step) (new : Machine) (after : Shelf) → IsSaver m
    → Takes wsize m sent turn came old next new after → AllStays next new
saver-takes (machines.File m) wsize sent turn came old next new after own s = as-file next s.machine new s.machine_is (file-takes m wsize sent turn came old next s.machine after own s.step)
saver-takes (machines.Path m) wsize sent turn came old next new after own s = path-takes m.arrived wsize m sent turn came old next s.machine new after refl own s.machine_is s.step
saver-takes (machines.Name m) wsize sent turn came old next new after own s = absurd own

none-cuts : {A : Type 0} → (g : List ℕ) → None ≡ Some g → A
none-cuts g e = absurd (cc)

-- ---- which call changes a file

write-is : (call : FileCall) (g : List ℕ) → write_in call ≡ Some g → (offset : ℕ) × (how : ℕ) × (bytes : List ℕ) × (call ≡ file_calls.Write g offset how bytes)
write-is (file_calls.Write f offset how bytes) g e = (offset, how, bytes, ap (λ (z : List ℕ). file_calls.Write z offset how bytes) (one f g e))
  where
    one : (a b : List ℕ) → Some a ≡ Some b → a ≡ b
    one a b k = cc
write-is file_calls.Null g e = none-cuts g e
write-is (file_calls.GetAttr f) g e = none-cuts g e
write-is (file_calls.SetAttr f set guard) g e = none-cuts g e
write-is (file_calls.Access f bits) g e = none-cuts g e
write-is (file_calls.Read f offset count) g e = none-cuts g e
write-is (file_calls.FsStat f) g e = none-cuts g e
write-is (file_calls.FsInfo f) g e = none-cuts g e
write-is (file_calls.PathConf f) g e = none-cuts g e
write-is (file_calls.Commit f offset count) g e = none-cuts g e

pub written-changes : (call : Call) (g : List ℕ) → written_file call ≡ Some g → ChangesFile g call
written-changes (calls.File call) g e = let k = write-is call g e in thrifty.writes k.0 k.1 k.2 (ap calls.File k.3)
written-changes (calls.Dir call) g e = none-cuts g e
written-changes (calls.Mount call) g e = none-cuts g e

cut-changes : (at : Truncating) (size : ℕ) (call : Call) (g : List ℕ) → cuts_in at ≡ Some g → PageAwaits (machines.File (files.Truncate (record { lane = 0; slot = 0; size = size; state = at }))) call
    → ChangesFile g call
cut-changes truncating.Idle size call g is on = none-cuts g is
cut-changes (truncating.Queued file upto) size call g is on = none-cuts g is
cut-changes (truncating.Asked file upto) size call g is on = thrifty.sets _ _ (on ∙ ap (λ (z : List ℕ). truncates.size_call z size) (one file g is))
  where
    one : (a b : List ℕ) → Some a ≡ Some b → a ≡ b
    one a b k = cc

pub set-changes : (m : Machine) (call : Call) (g : List ℕ) → cuts_of m ≡ Some g → PageAwaits m call → ChangesFile g call
set-changes (machines.File (files.Open m)) call g is on = none-cuts g is
set-changes (machines.File (files.Read m)) call g is on = none-cuts g is
set-changes (machines.File (files.Write m)) call g is on = none-cuts g is
set-changes (machines.File (files.Sync m)) call g is on = none-cuts g is
set-changes (machines.File (files.Close m)) call g is on = none-cuts g is
set-changes (machines.File (files.Truncate m)) call g is on = cut-changes m.state m.size call g is on
set-changes (machines.File (files.Put m)) call g is on = none-cuts g is
set-changes (machines.Path m) call g is on = none-cuts g is
set-changes (machines.Name m) call g is on = none-cuts g is

-- ---- the kept pages

module _ (M : List ℕ → ℕ → Type 0) (P : List ℕ → Stamp → ℕ → Type 0) (few : (f : List ℕ) (s : Stamp) (i : ℕ) → P f s i → Few M) (b : ℕ) (came : Result Reply Fault) (sent turn : Turn)
    (old : Shelf) (low : turn.moment - 1 ≤ b) (good : GoodPages M P few b old.pages) where
  abbrev T : Pages → Type 0
  T c = GoodPages M P few b c

  -- no page of it is followed
  abbrev pub Off : List ℕ → Type 0
  Off g = (f : List ℕ) (s : Stamp) (i : ℕ) → P f s i → f ≡ g → ⊥

  -- nor where its call was made
  abbrev pub OffIfMade : List ℕ → Type 0
  OffIfMade g = came_unmade came ≡ false → Off g

  as-pages : (after : Shelf) → SamePages old after → T after.pages
  as-pages after is = subst T (sym is) good

  size-pages : (told : Result Wcc Fault) (g : List ℕ) (size : ℕ) → Off g → T (truncates.told_pages told g size (turn.moment - 1) old.pages)
  size-pages (Ok wcc) g size off = good-cut M P few b g wcc size (turn.moment - 1) old.pages low off good
  size-pages (Err fault) g size off = unset-as T g (turn.moment - 1) fault old.pages good (good-wrote M P few b g saves.untold 0 [] (turn.moment - 1) old.pages low off good)

  unmade-cut : (what : Result Reply Fault) → came_unmade what ≡ true → (g : List ℕ) (size : ℕ) → T (truncates.told_pages (truncates.size_told what) g size (turn.moment - 1) old.pages)
  unmade-cut (Ok reply) e g size = absurd (let no_way : false ≡ true = e in cc)
  unmade-cut (Err fault) e g size = unset-unmade T g (turn.moment - 1) fault old.pages e good

  cut-pages : (u : Bool) → came_unmade came ≡ u → (g : List ℕ) (size : ℕ) → OffIfMade g → T (truncates.told_pages (truncates.size_told came) g size (turn.moment - 1) old.pages)
  cut-pages true e g size off = unmade-cut came e g size
  cut-pages false e g size off = size-pages (truncates.size_told came) g size (off e)

  truncate-pages : (at : Truncating) (m : TruncateFile) (attrs : _) (back : _) (after : Shelf) → ((g : List ℕ) → cuts_in at ≡ Some g → OffIfMade g)
      → after ≡ truncates.took_shelf at m came sent turn attrs back old → T after.pages
  truncate-pages truncating.Idle m attrs back after off is = as-pages after (kept-as old old after is refl)
  truncate-pages (truncating.Queued file upto) m attrs back after off is = as-pages after (kept-as old old after is refl)
  truncate-pages (truncating.Asked file upto) m attrs back after off is =
      subst T (sym (ap (λ (s : Shelf). s.pages) is)) (cut-pages (came_unmade came) refl file m.size (off file refl))

  file-none : (m : FileMachine) (wsize : ℕ) (next : Step) (new : FileMachine) (after : Shelf) → SavesFile m → flies_file m ≡ None → ((g : List ℕ) → cuts_file m ≡ Some g → OffIfMade g)
      → steps.Takes wsize m sent turn came old next new after → T after.pages
  file-none (files.Open m) wsize next new after own none off t = absurd own
  file-none (files.Read m) wsize next new after own none off t = absurd own
  file-none (files.Write m) wsize next new after own none off t = as-pages after (write-none came sent turn old m.state wsize m next t.state after none t.step)
  file-none (files.Sync m) wsize next new after own none off t = as-pages after (sync-none came sent turn old m.state wsize m next t.state after none t.step)
  file-none (files.Close m) wsize next new after own none off t = as-pages after (close-none came sent turn old m.state wsize m next t.state after none t.step)
  file-none (files.Truncate m) wsize next new after own none off t = truncate-pages m.state m after.attrs after.back after off t.shelf_is
  file-none (files.Put m) wsize next new after own none off t = as-pages after (put-none came sent turn old m.state wsize m next t.machine after own none t.step)

  none-opener : (o : Opener) (g : List ℕ) → cuts_file (file_of o) ≡ Some g → OffIfMade g
  none-opener (openers.Open m) g is = none-cuts g is
  none-opener (openers.Put m) g is = none-cuts g is

  path-none : (b_ : Bool) (m : PathMachine) (wsize : ℕ) (next : Step) (new : PathMachine) (after : Shelf) → SavesPath b_ m.opener → flies_path b_ m.opener ≡ None
      → paths.PathTakes b_ wsize m sent turn came old next new after → T after.pages
  path-none false m wsize next new after own none t = absurd own
  path-none true m wsize next new after own none t = file-none (file_of m.opener) wsize next (file_of t.opener) after own none (none-opener m.opener) t.step

  none-pages : (m : Machine) (wsize : ℕ) (next : Step) (new : Machine) (after : Shelf) → IsSaver m → flies_of m ≡ None → ((g : List ℕ) → cuts_of m ≡ Some g → OffIfMade g)
      → Takes wsize m sent turn came old next new after → T after.pages
  none-pages (machines.File m) wsize next new after own none off t = file-none m wsize next t.machine after own none off t.step
  none-pages (machines.Path m) wsize next new after own none off t = path-none m.arrived m wsize next t.machine after own none t.step
  none-pages (machines.Name m) wsize next new after own none off t = absurd own

  -- Those that are followed stay, where no WRITE of their file is answered and no size of it is set.
  pub saver-pages : (m : Machine) (wsize : ℕ) (next : Step) (new : Machine) (after : Shelf) → IsSaver m → ((g : List ℕ) → flies_of m ≡ Some g → OffIfMade g) → ((g : List ℕ) → cuts_of m ≡ Some g → OffIfMade g)
      → Takes wsize m sent turn came old next new after → T after.pages
  saver-pages m wsize next new after own flies cuts t = by (flies_of m) refl
    where
      by : (o : Option (List ℕ)) → flies_of m ≡ o → T after.pages
      by None is = none-pages m wsize next new after own is cuts t
      by (Some g) is =
          takes-wrote T g came sent turn old (λ unmade. good) (λ made. good-wrote M P few b g saves.untold 0 [] (turn.moment - 1) old.pages low (flies g is made) good)
          (λ offset bytes wcc count committed verf said. good-wrote M P few b g wcc offset bytes (turn.moment - 1) old.pages low (flies g is (ap came_unmade said)) good) m wsize next new after is t
