-- A step that no reply made possible leaves the calls that are made again as they are.
use Rattle.core_session.proofs.Prelude.{◌≡◌, ◌-◌, ℕ, Bool, true, false, List, Option, Some, None, Result, Ok, Err, inl, inr, refl, ap, ◌∙◌, if◌then◌else◌, Fault, of_file, last_end, is_first, Step, Shelf, Turn, CloseFile, Closing, PutFile, Putting, Saving, SyncFile, Syncing, TruncateFile, WriteFile, Writing, refusal_of, file_to_write, file_at, joined, by-step, ends_as, Pair, Deed, RemoveFile, Stat, Visit, Walk, WalkStep, FileMachine, Machine, NameMachine, PathMachine, file_of, slot_taken, begun_at, Starts, Resumes}
use Rattle.op_machines.specs.Openers.{placed}
use Rattle.world_model.specs.declared.answer.Answer.TheVariants as answers
use Rattle.client_shelf.specs.declared.step.Step.TheVariants as nexts
use Rattle.file_ops.specs.declared.close_file.Closing.TheVariants as closing
use Rattle.file_ops.specs.declared.put_file.Putting.TheVariants as putting
use Rattle.file_ops.specs.declared.sync_file.Syncing.TheVariants as syncing
use Rattle.file_ops.specs.declared.write_file.Writing.TheVariants as writing
use Rattle.file_ops.specs.Closes as closes
use Rattle.file_ops.specs.PutFile as puts
use Rattle.file_ops.specs.Saves as saves
use Rattle.file_ops.specs.Syncs as syncs
use Rattle.file_ops.specs.TruncateFile as truncates
use Rattle.file_ops.specs.WriteFile as writes
use Rattle.name_ops.specs.declared.walk.WalkStep.TheVariants as walks
use Rattle.name_ops.specs.Pairs as pairs
use Rattle.name_ops.specs.RemoveFile as removals
use Rattle.name_ops.specs.Stat as stats
use Rattle.name_ops.specs.Visiting as visiting
use Rattle.name_ops.specs.Walking as walking
use Rattle.op_machines.specs.declared.file_machine.FileMachine.TheVariants as files
use Rattle.op_machines.specs.declared.machine.Machine.TheVariants as machines
use Rattle.op_machines.specs.declared.name_machine.NameMachine.TheVariants as names
use Rattle.op_machines.specs.FileSteps as steps
use Rattle.op_machines.specs.NameSteps.{NameGoes}
use Rattle.op_machines.specs.PathSteps as paths

-- the same calls are made again
abbrev pub Same : Shelf → Shelf → Type 0
Same new old = new.repeats ≡ old.repeats

pub same : (new old : Shelf) → new ≡ old → Same new old
same new old is = ap (λ (s : Shelf). s.repeats) is

pub then-same : (new mid old : Shelf) → Same new mid → Same mid old → Same new old
then-same new mid old two one = two ∙ one

-- ---- names

if-same : (b : Bool) (x y s : Shelf) → Same x s → Same y s → Same (if b then x else y) s
if-same true x y s f g = f
if-same false x y s f g = g

walk-same : (w : Walk) (turn : Turn) (old : Shelf) → Same (walking.go_shelf w turn old) old
walk-same w turn old = refl

visit-same : (v : Visit) (turn : Turn) (old : Shelf) → Same (visiting.visit_shelf v turn old) old
visit-same v turn old = if-same v.asked old (walking.go_shelf v.walk turn old) old refl refl

stat-same : (m : Stat) (turn : Turn) (old : Shelf) → Same (stats.stat_shelf m turn old) old
stat-same m turn old = if-same m.asked old (walking.go_shelf m.walk turn old) old refl refl

first-same : (step : WalkStep) (p : Pair) (turn : Turn) (s : Shelf) → Same (pairs.first_shelf step p turn s) s
first-same (walks.Send call) p turn s = refl
first-same walks.Wait p turn s = refl
first-same (walks.At first) p turn s = refl
first-same (walks.Refused fault) p turn s = refl

pair-same : (p : Pair) (turn : Turn) (old : Shelf) → Same (pairs.pair_shelf p turn old) old
pair-same p turn old =
    if-same (pairs.waits p) old (pairs.on_shelf p turn old) old refl
    (first-same (walking.go_next p.first turn old) (pairs.walked_first p turn old) turn (walking.go_shelf p.first turn old))

goes-same : (deed : Option Deed) (m : RemoveFile) (turn : Turn) (old : Shelf) (next : Step) (new : RemoveFile) (after : Shelf) → removals.Goes deed m turn old next new after → Same after old
goes-same (Some deed) m turn old next new after g = same after old g.shelf_is
goes-same None m turn old next new after g = same after (walking.go_shelf m.walk turn old) g.shelf_is

remove-same : (asked : Bool) (m : RemoveFile) (turn : Turn) (old : Shelf) (next : Step) (new : RemoveFile) (after : Shelf) → removals.Resumes asked m turn old next new after → Same after old
remove-same true m turn old next new after r = same after old r.shelf_is
remove-same false m turn old next new after r = goes-same m.deed m turn old next new after r

name-same : (m : NameMachine) (turn : Turn) (old : Shelf) (next : Step) (new : NameMachine) (after : Shelf) → NameGoes m turn old next new after → Same after old
name-same (names.Change m) turn old next new after g = same after (visiting.visit_shelf m.visit turn old) g.shelf_is ∙ visit-same m.visit turn old
name-same (names.Stat m) turn old next new after g = same after (stats.stat_shelf m turn old) g.shelf_is ∙ stat-same m turn old
name-same (names.Access m) turn old next new after g = same after (visiting.visit_shelf m.visit turn old) g.shelf_is ∙ visit-same m.visit turn old
name-same (names.ReadLink m) turn old next new after g = same after (visiting.visit_shelf m.visit turn old) g.shelf_is ∙ visit-same m.visit turn old
name-same (names.Remove m) turn old next new after g = remove-same m.asked m turn old next g.machine after g.step
name-same (names.Rename m) turn old next new after g = same after (pairs.pair_shelf m.pair turn old) g.shelf_is ∙ pair-same m.pair turn old
name-same (names.Link m) turn old next new after g = same after (pairs.pair_shelf m.pair turn old) g.shelf_is ∙ pair-same m.pair turn old
name-same (names.SymLink m) turn old next new after g = same after (visiting.visit_shelf m.visit turn old) g.shelf_is ∙ visit-same m.visit turn old
name-same (names.List m) turn old next new after g = same after (visiting.visit_shelf m.visit turn old) g.shelf_is ∙ visit-same m.visit turn old

-- ---- writes

room-same : (told : _) (lane : ℕ) (shelf : Shelf) → Same (writes.room_shelf told lane shelf) shelf
room-same told lane shelf = by-step (λ g. Same (writes.room_shelf g lane shelf) shelf) (λ call. refl) refl ended told
  where
    ended : (result : Result (Unit {0}) Fault) → Same (writes.room_shelf (ends_as result) lane shelf) shelf
    ended (Ok nothing) = refl
    ended (Err fault) = refl

saves-same : (b : Bool) (wsize lane : ℕ) (file : List ℕ) (saving : Saving) (turn : Turn) (shelf : Shelf) (next : Step) (new : Writing) (after : Shelf)
    → writes.SavesIf b wsize lane file saving turn shelf next new after → Same after shelf
saves-same true wsize lane file saving turn shelf next new after s =
    same after (writes.room_shelf s.told lane (record shelf { back = s.back })) s.leads.shelf_is ∙ room-same s.told lane (record shelf { back = s.back })
saves-same false wsize lane file saving turn shelf next new after s = same after shelf s.shelf_is

pub writes-same : (b : Bool) (wsize lane : ℕ) (file : List ℕ) (offset : ℕ) (bytes : List ℕ) (turn : Turn) (shelf : Shelf) (next : Step) (new : Writing) (after : Shelf)
    → writes.WritesIf b wsize lane file offset bytes turn shelf next new after → Same after shelf
writes-same true wsize lane file offset bytes turn shelf next new after (inl s) =
    saves-same (is_first lane (joined lane s.of shelf).order) wsize lane file (saves.begun s.of shelf.seq) turn (joined lane s.of shelf) next new after s.saves
writes-same true wsize lane file offset bytes turn shelf next new after (inr s) = same after shelf s.1.shelf_is
writes-same false wsize lane file offset bytes turn shelf next new after (inl s) = ap (λ (k : Shelf). k.repeats) s.leads.shelf_is
writes-same false wsize lane file offset bytes turn shelf next new after (inr s) = same after shelf s.shelf_is

write-starts : (found : Result (List ℕ) Fault) (wsize : ℕ) (m : WriteFile) (turn : Turn) (shelf : Shelf) (next : Step) (new : WriteFile) (after : Shelf)
    → writes.StartsAt found wsize m turn shelf next new after → Same after shelf
write-starts (Err fault) wsize m turn shelf next new after s = same after shelf s.refuses.shelf_is
write-starts (Ok file) wsize m turn shelf next new after (inl s) = writes-same _ wsize m.lane file m.offset _ turn shelf next new.state after s.writes
write-starts (Ok file) wsize m turn shelf next new after (inr s) = same after shelf s.refuses.shelf_is

write-resumes : (at : Writing) (wsize lane : ℕ) (turn : Turn) (shelf : Shelf) (next : Step) (new : Writing) (after : Shelf)
    → writes.ResumesIn at wsize lane turn shelf next new after → Same after shelf
write-resumes writing.Idle wsize lane turn shelf next new after r = same after shelf r.shelf_is
write-resumes (writing.Room file saving) wsize lane turn shelf next new after r = saves-same (is_first lane shelf.order) wsize lane file saving turn shelf next new after r

-- ---- syncs

sync-queues : (b : Bool) (wsize lane : ℕ) (turn : Turn) (saving : Saving) (old : Shelf) (next : Step) (state : Syncing) (new : Shelf)
    → syncs.QueuesIf b wsize lane turn saving old next state new → Same new old
sync-queues true wsize lane turn saving old next state new q = ap (λ (s : Shelf). s.repeats) q.others
sync-queues false wsize lane turn saving old next state new q = same new old q.shelf_is

sync-starts : (found : Option (List ℕ)) (wsize : ℕ) (m : SyncFile) (turn : Turn) (old : Shelf) (next : Step) (state : Syncing) (new : Shelf)
    → syncs.StartsAt found wsize m turn old next state new → Same new old
sync-starts None wsize m turn old next state new s = same new old s.shelf_is
sync-starts (Some file) wsize m turn old next state new s =
    sync-queues (is_first m.lane (joined m.lane file old).order) wsize m.lane turn (saves.begun file old.seq) (joined m.lane file old) next state new s

sync-resumes : (at : Syncing) (wsize : ℕ) (m : SyncFile) (turn : Turn) (old : Shelf) (next : Step) (state : Syncing) (new : Shelf)
    → syncs.Resumes at wsize m turn old next state new → Same new old
sync-resumes syncing.Idle wsize m turn old next state new r = same new old r.shelf_is
sync-resumes (syncing.Saves saving) wsize m turn old next state new r = sync-queues (is_first m.lane old.order) wsize m.lane turn saving old next state new r

-- ---- closes

close-ends-at : (place : Option (List ℕ × List ℕ)) (lane : ℕ) (room : Bool) (file : List ℕ) (refusal : Option Fault) (old : Shelf) (next : Step) (state : Closing) (new : Shelf)
    → closes.EndsAt place lane room file refusal old next state new → Same new old
close-ends-at None lane room file refusal old next state new e = ap (λ (s : Shelf). s.repeats) e.others
close-ends-at (Some place) lane room file refusal old next state new e = same new old e.shelf_is

close-frees : (lane slot : ℕ) (room : Bool) (file : List ℕ) (refusal : Option Fault) (old : Shelf) (next : Step) (state : Closing) (new : Shelf)
    → closes.Frees lane slot room file refusal old next state new → Same new old
close-frees lane slot room file refusal old next state new f =
    close-ends-at f.place lane room file refusal f.freed next state new f.ends ∙ ap (λ (s : Shelf). s.repeats) f.slot_is

pub close-follows : (gives : _) (lane slot : ℕ) (room begun : Bool) (saving : Saving) (old : Shelf) (next : Step) (state : Closing) (new : Shelf)
    → closes.Follows gives lane slot room begun saving old next state new → Same new old
close-follows gives lane slot room begun saving old next state new f = by-step (λ g. closes.Follows g lane slot room begun saving old next state new → Same new old)
    (λ call l. same new old l.2) (λ l. same new old l.2) (λ result l. close-frees lane slot room saving.file (refusal_of result) old next state new l) gives f

close-goes : (wsize lane slot : ℕ) (turn : Turn) (begun : Bool) (saving : Saving) (old : Shelf) (next : Step) (state : Closing) (new : Shelf)
    → closes.GoesOn wsize lane slot turn begun saving old next state new → Same new old
close-goes wsize lane slot turn begun saving old next state new g =
    close-follows g.gives lane slot turn.room begun g.saved g.gone next state new g.follows ∙ ap (λ (s : Shelf). s.repeats) g.others

close-begins : (end : Option ℕ) (wsize lane slot : ℕ) (turn : Turn) (saving : Saving) (old : Shelf) (next : Step) (state : Closing) (new : Shelf)
    → closes.Begins end wsize lane slot turn saving old next state new → Same new old
close-begins None wsize lane slot turn saving old next state new b = close-frees lane slot turn.room saving.file None old next state new b
close-begins (Some end) wsize lane slot turn saving old next state new b = close-goes wsize lane slot turn false saving old next state new b

close-queues : (b : Bool) (wsize lane slot : ℕ) (turn : Turn) (saving : Saving) (old : Shelf) (next : Step) (state : Closing) (new : Shelf)
    → closes.QueuesIf b wsize lane slot turn saving old next state new → Same new old
close-queues true wsize lane slot turn saving old next state new q = close-begins (last_end (of_file saving.file old.back).segments) wsize lane slot turn saving old next state new q
close-queues false wsize lane slot turn saving old next state new q = same new old q.shelf_is

close-starts : (found : Option (List ℕ)) (wsize : ℕ) (m : CloseFile) (turn : Turn) (old : Shelf) (next : Step) (state : Closing) (new : Shelf)
    → closes.StartsAt found wsize m turn old next state new → Same new old
close-starts None wsize m turn old next state new s = same new old s.shelf_is
close-starts (Some file) wsize m turn old next state new s =
    close-queues (is_first m.lane (joined m.lane file old).order) wsize m.lane m.slot turn (saves.begun file old.seq) (joined m.lane file old) next state new s

close-resumes : (at : Closing) (wsize : ℕ) (m : CloseFile) (turn : Turn) (old : Shelf) (next : Step) (state : Closing) (new : Shelf) → closes.Resumes at wsize m turn old next state new
    → Same new old
close-resumes closing.Idle wsize m turn old next state new r = same new old r.shelf_is
close-resumes (closing.Queued saving) wsize m turn old next state new r = close-queues (is_first m.lane old.order) wsize m.lane m.slot turn saving old next state new r
close-resumes (closing.Saves saving) wsize m turn old next state new r = by (is_first m.lane old.order) r
  where
    by : (b : Bool) → closes.GoesOnIf b wsize m.lane m.slot turn saving old next state new → Same new old
    by true g = close-goes wsize m.lane m.slot turn true saving old next state new g
    by false g = same new old g.shelf_is
close-resumes (closing.ToRemove removal) wsize m turn old next state new r = same new old r.shelf_is
close-resumes (closing.Removing removal) wsize m turn old next state new r = same new old r.shelf_is

-- ---- truncates

truncate-starts : (found : Result (List ℕ) Fault) (m : TruncateFile) (old after : Shelf) → after ≡ truncates.begun_shelf found m old → Same after old
truncate-starts (Ok file) m old after is = ap (λ (s : Shelf). s.repeats) is
truncate-starts (Err fault) m old after is = same after old is

-- ---- puts

pub put-follows : (gives : _) (lane : ℕ) (saving : Saving) (old : Shelf) (next : Step) (state : Putting) (new : Shelf) → puts.Follows gives lane saving old next state new → Same new old
put-follows gives lane saving old next state new f = by-step (λ g. puts.Follows g lane saving old next state new → Same new old)
    (λ call l. same new old l.2) (λ l. same new old l.2) (λ result l. ap (λ (s : Shelf). s.repeats) l.others) gives f

put-queues : (b : Bool) (wsize lane : ℕ) (turn : Turn) (saving : Saving) (old : Shelf) (next : Step) (state : Putting) (new : Shelf)
    → puts.QueuesIf b wsize lane turn saving old next state new → Same new old
put-queues true wsize lane turn saving old next state new q =
    put-follows q.gives lane q.saved q.gone next state new q.follows ∙ ap (λ (s : Shelf). s.repeats) q.others
put-queues false wsize lane turn saving old next state new q = same new old q.shelf_is

after-write : (told : Step) (wsize lane : ℕ) (file : List ℕ) (turn : Turn) (old : Shelf) (next : Step) (state : Putting) (new : Shelf)
    → puts.AfterWrite told wsize lane file turn old next state new → Same new old
after-write (nexts.Send call) wsize lane file turn old next state new a = same new old a.2
after-write nexts.Wait wsize lane file turn old next state new a = same new old a.2
after-write (nexts.Done (answers.Done value)) wsize lane file turn old next state new a =
    put-queues (is_first lane (joined lane file old).order) wsize lane turn (saves.begun file old.seq) (joined lane file old) next state new a
after-write (nexts.Done (answers.Refused fault)) wsize lane file turn old next state new a = ap (λ (s : Shelf). s.repeats) a.others

pub writes-on : (wsize : ℕ) (m : PutFile) (file : List ℕ) (turn : Turn) (told : Step) (written : Writing) (mid : Shelf) (next : Step) (new : PutFile) (after : Shelf)
    → puts.WritesOn wsize m file turn told written mid next new after → Same after mid
writes-on wsize m file turn told written mid next new after w = after-write told wsize m.write.lane file turn mid next new.state after w.follows

pub adds-bytes : (wsize : ℕ) (m : PutFile) (file : List ℕ) (turn : Turn) (old : Shelf) (next : Step) (new : PutFile) (after : Shelf) → puts.AddsBytes wsize m file turn old next new after
    → Same after old
adds-bytes wsize m file turn old next new after a =
    writes-on wsize m file turn a.told a.written a.mid next new after a.goes
    ∙ writes-same _ wsize m.write.lane file m.write.offset (writes.made_bytes m.write.text) turn (puts.put_at m.write.lane file old) a.told a.written a.mid a.writes

put-resumes : (at : Putting) (wsize : ℕ) (m : PutFile) (turn : Turn) (old : Shelf) (next : Step) (new : PutFile) (after : Shelf) → puts.Resumes at wsize m turn old next new after → Same after old
put-resumes putting.Idle wsize m turn old next new after r = same after old r.shelf_is
put-resumes putting.Opens wsize m turn old next new after r = same after old r.2
put-resumes (putting.Adds file) wsize m turn old next new after r =
    writes-on wsize m file turn r.told r.written r.mid next new after r.goes ∙ write-resumes m.write.state wsize m.write.lane turn old r.told r.written r.mid r.resumes
put-resumes (putting.Saves saving) wsize m turn old next new after r = put-queues (is_first m.write.lane old.order) wsize m.write.lane turn saving old next new.state after r.0

-- ---- operations on files

file-starts : (m : FileMachine) (wsize : ℕ) (turn : Turn) (old : Shelf) (next : Step) (new : FileMachine) (after : Shelf) → steps.Starts wsize m turn old next new after → Same after old
file-starts (files.Open m) wsize turn old next new after s = same after old s.shelf_is
file-starts (files.Read m) wsize turn old next new after s = ap (λ (k : Shelf). k.repeats) s.others
file-starts (files.Write m) wsize turn old next new after s = write-starts (file_to_write m.lane m.slot old.opens) wsize m turn old next s.machine after s.step
file-starts (files.Sync m) wsize turn old next new after s = sync-starts (file_at m.lane m.slot old.opens) wsize m turn old next s.state after s.step
file-starts (files.Close m) wsize turn old next new after s = close-starts (file_at m.lane m.slot old.opens) wsize m turn old next s.state after s.step
file-starts (files.Truncate m) wsize turn old next new after s = truncate-starts (truncates.found_file m old) m old after s.shelf_is
file-starts (files.Put m) wsize turn old next new after s = same after old s.shelf_is

pub file-resumes : (m : FileMachine) (wsize : ℕ) (turn : Turn) (old : Shelf) (next : Step) (new : FileMachine) (after : Shelf) → steps.Resumes wsize m turn old next new after → Same after old
file-resumes (files.Open m) wsize turn old next new after s = same after old s.shelf_is
file-resumes (files.Read m) wsize turn old next new after s = ap (λ (k : Shelf). k.repeats) s.others
file-resumes (files.Write m) wsize turn old next new after s = write-resumes m.state wsize m.lane turn old next s.state after s.step
file-resumes (files.Sync m) wsize turn old next new after s = sync-resumes m.state wsize m turn old next s.state after s.step
file-resumes (files.Close m) wsize turn old next new after s = close-resumes m.state wsize m turn old next s.state after s.step
file-resumes (files.Truncate m) wsize turn old next new after s = same after old s.shelf_is
file-resumes (files.Put m) wsize turn old next new after s = put-resumes m.state wsize m turn old next s.machine after s.step

-- ---- on their way

pub follows-path : (step : WalkStep) (wsize : ℕ) (m : PathMachine) (turn : Turn) (old : Shelf) (next : Step) (new : PathMachine) (after : Shelf)
    → paths.Follows step wsize m turn old next new after → Same after old
follows-path (walks.Send call) wsize m turn old next new after f = same after old f.2
follows-path walks.Wait wsize m turn old next new after f = same after old f.2
follows-path (walks.At dir) wsize m turn old next new after f = file-resumes (file_of (placed dir m.opener)) wsize turn old next (file_of f.opener) after f.step
follows-path (walks.Refused fault) wsize m turn old next new after f = same after old f.2

path-resumes : (b : Bool) (wsize : ℕ) (m : PathMachine) (turn : Turn) (old : Shelf) (next : Step) (new : PathMachine) (after : Shelf) → paths.PathResumes b wsize m turn old next new after
    → Same after old
path-resumes true wsize m turn old next new after r = file-resumes (file_of m.opener) wsize turn old next (file_of r.opener) after r.step
path-resumes false wsize m turn old next new after r =
    follows-path (walking.go_next m.walk turn old) wsize (record m { walk = walking.go_after m.walk turn old }) turn (walking.go_shelf m.walk turn old) next new after r

path-starts : (taken : Bool) (wsize : ℕ) (m : PathMachine) (turn : Turn) (old : Shelf) (next : Step) (new : PathMachine) (after : Shelf) → paths.StartsIf taken wsize m turn old next new after
    → Same after old
path-starts true wsize m turn old next new after s = same after old s.2
path-starts false wsize m turn old next new after s = path-resumes m.arrived wsize (record m { opener = begun_at (turn.moment - 1) m.opener }) turn old next new after s

-- ---- any operation

pub starts-same : (m : Machine) (wsize : ℕ) (turn : Turn) (old : Shelf) (next : Step) (new : Machine) (after : Shelf) → Starts wsize m turn old next new after → Same after old
starts-same (machines.File m) wsize turn old next new after s = file-starts m wsize turn old next s.machine after s.step
starts-same (machines.Path m) wsize turn old next new after s = path-starts (slot_taken m.opener old.opens) wsize m turn old next s.machine after s.step
starts-same (machines.Name m) wsize turn old next new after s = name-same m turn old next s.machine after s.step

pub resumes-same : (m : Machine) (wsize : ℕ) (turn : Turn) (old : Shelf) (next : Step) (new : Machine) (after : Shelf) → Resumes wsize m turn old next new after → Same after old
resumes-same (machines.File m) wsize turn old next new after s = file-resumes m wsize turn old next s.machine after s.step
resumes-same (machines.Path m) wsize turn old next new after s = path-resumes m.arrived wsize m turn old next s.machine after s.step
resumes-same (machines.Name m) wsize turn old next new after s = name-same m turn old next s.machine after s.step
