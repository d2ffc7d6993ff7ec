-- Which calls set a size: the SETATTR of a truncate alone.
use Rattle.core_session.proofs.Prelude.{◌≡◌, ◌≤◌, ◌⊎◌, inl, inr, ℕ, Bool, true, false, List, Option, Some, None, refl, sym, ap, subst, arith, Mode, Call, look_up, Closing, Opening, OpeningPhase, Putting, Phase, Reading, Syncing, TruncateFile, Truncating, Writing, Pair, Deed, RemoveFile, Visit, Walk, deed_call, Machine, NameMachine, Opener, PathMachine, file_of, of_name, of_walk, removal_by, of_writing, of_putting, of_syncing, of_closing, of_truncating, path_by, in_flight, PathOr, WalkAwaits, OwnOr, RemoveAwaits, Expects, PathNames, SyncNames, WriteNames, CloseNames, StateNames, Saves}
use Rattle.core_facts.specs.InFlight.{of_visit, visit_by, of_pair, pair_by, own_or, of_reading, of_phase, of_file, of_names}
use Rattle.core_facts.proofs.AllAwaited.{OpeningAwaits, PutAwaits}
use Rattle.core_facts.proofs.Awaited.{VisitAwaits, PairOr, PairAwaits}
use Rattle.core_facts.proofs.NamesAwaited.{NameAwaits}
use Rattle.core_answers.proofs.asks.FilesAwaited.{CutNames}
use Rattle.nfs_types.specs.declared.mode.Mode.TheVariants as modes
use Rattle.nfs_dir_calls.specs.declared.call.DirCall.TheVariants as dirs
use Rattle.nfs_dir_calls.specs.declared.create.Making.TheVariants as makings
use Rattle.nfs_file_calls.specs.declared.call.FileCall.TheVariants as file_calls
use Rattle.world_model.specs.declared.message.Call.TheVariants as calls
use Rattle.file_ops.specs.declared.close_file.Closing.TheVariants as closing
use Rattle.file_ops.specs.declared.opening.OpeningPhase.TheVariants as opening_steps
use Rattle.file_ops.specs.declared.put_file.Putting.TheVariants as putting
use Rattle.file_ops.specs.declared.reading.Phase.TheVariants as phases
use Rattle.file_ops.specs.declared.sync_file.Syncing.TheVariants as syncing
use Rattle.file_ops.specs.declared.truncate_file.Truncating.TheVariants as truncating
use Rattle.file_ops.specs.declared.write_file.Writing.TheVariants as writing
use Rattle.file_ops.specs.Opening as opening
use Rattle.file_ops.specs.TruncateFile as truncates
use Rattle.name_ops.specs.declared.dir_change.DirDeed.{DirDeed}
use Rattle.name_ops.specs.declared.dir_change.DirDeed.TheVariants as deeds
use Rattle.name_ops.specs.declared.remove_file.Deed.TheVariants as removing
use Rattle.name_ops.specs.RemoveFile as removals
use Rattle.name_ops.specs.Walking as walking
use Rattle.op_machines.specs.declared.file_machine.FileMachine.TheVariants as files
use Rattle.op_machines.specs.declared.machine.Machine.TheVariants as machines
use Rattle.op_machines.specs.declared.name_machine.NameMachine.TheVariants as names
use Rattle.op_machines.specs.declared.opener.Opener.TheVariants as openers
use Rattle.core_answers.proofs.asks.ReadsAwaited.{PhaseNames, ReadNames}

-- it sets no size
abbrev pub Tame : Call → Type 0
Tame (calls.File (file_calls.SetAttr f set guard)) = ⊥
Tame (calls.Dir (dirs.Create d name (makings.Unchecked set))) = set.size ≡ None
Tame call = Unit {0}

as-call : (to call : Call) → call ≡ to → Tame to → Tame call
as-call to call is t = subst Tame (sym is) t

-- ---- walks and names

walk-tame : (w : Walk) (call : Call) → WalkAwaits w call → 1 ≤ of_walk w → Tame call
walk-tame w call e some = by (walking.waiting_name w) refl
  where
    by : (o : Option (List ℕ)) → walking.waiting_name w ≡ o → Tame call
    by None is = absurd (let none : of_walk w ≡ 0 = ap of_name is in omega (arith, some, none))
    by (Some name) is = as-call (look_up w.spot.dir name) call (e name is) tt

visit-tame : (own : List ℕ → Call) (v : Visit) (call : Call) → ((d : List ℕ) → Tame (own d)) → VisitAwaits own v call → 1 ≤ of_visit v → Tame call
visit-tame own v call tame e some = by v.asked e some
  where
    by : (b : Bool) → OwnOr b own v.walk call → 1 ≤ visit_by b (of_walk v.walk) → Tame call
    by true e some = as-call (own v.walk.spot.dir) call e (tame v.walk.spot.dir)
    by false e some = walk-tame v.walk call e some

own-tame : (b : Bool) (own : List ℕ → Call) (w : Walk) (call : Call) → ((d : List ℕ) → Tame (own d)) → OwnOr b own w call → 1 ≤ own_or b (of_walk w) → Tame call
own-tame true own w call tame e some = as-call (own w.spot.dir) call e (tame w.spot.dir)
own-tame false own w call tame e some = walk-tame w call e some

pair-tame : (own : List ℕ → List ℕ → Call) (p : Pair) (call : Call) → ((a b : List ℕ) → Tame (own a b)) → PairAwaits own p call → 1 ≤ of_pair p → Tame call
pair-tame own p call tame e some = by p.asked p.first.asked p.second.asked e some
  where
    by : (asked first second : Bool) → PairOr asked first own p call → 1 ≤ pair_by asked first second (of_walk p.first) (of_walk p.second) → Tame call
    by true first second e some = as-call (own p.first.spot.dir p.second.spot.dir) call e (tame p.first.spot.dir p.second.spot.dir)
    by false true true e some = absurd (omega (arith, some))
    by false true false e some = walk-tame p.first call e some
    by false false second e some = walk-tame p.second call e some

deed-tame : (deed : DirDeed) (name d : List ℕ) → Tame (deed_call deed name d)
deed-tame deeds.Make name d = tt
deed-tame deeds.Remove name d = tt

removal-call : (m : RemoveFile) (deed : Deed) → Tame (removals.call_of m deed)
removal-call m removing.Look = tt
removal-call m (removing.Seek file to) = tt
removal-call m (removing.Move file to) = tt
removal-call m removing.Remove = tt

remove-tame : (deed : Option Deed) (m : RemoveFile) (call : Call) → RemoveAwaits deed m call → 1 ≤ removal_by deed m.asked (of_walk m.walk) → Tame call
remove-tame (Some deed) m call e some = as-call (removals.call_of m deed) call e (removal-call m deed)
remove-tame None m call e some = walk-tame m.walk call e some

name-tame : (m : NameMachine) (call : Call) → NameAwaits m call → 1 ≤ of_names m → Tame call
name-tame (names.Change m) call e some = visit-tame _ m.visit call (λ d. deed-tame m.deed m.name d) e some
name-tame (names.Stat m) call e some = own-tame m.asked _ m.walk call (λ d. tt) e some
name-tame (names.Access m) call e some = visit-tame _ m.visit call (λ d. tt) e some
name-tame (names.ReadLink m) call e some = visit-tame _ m.visit call (λ d. tt) e some
name-tame (names.Remove m) call e some = remove-tame m.deed m call e some
name-tame (names.Rename m) call e some = pair-tame _ m.pair call (λ a b. tt) e some
name-tame (names.Link m) call e some = pair-tame _ m.pair call (λ a b. tt) e some
name-tame (names.SymLink m) call e some = visit-tame _ m.visit call (λ d. tt) e some
name-tame (names.List m) call e some = visit-tame _ m.visit call (λ d. tt) e some

-- ---- files

making-tame : (o : Opening) (m : Mode) → Tame (calls.Dir (dirs.Create o.dir o.name (opening.making_of m)))
making-tame o modes.R = refl
making-tame o modes.W = refl
making-tame o modes.RW = refl
making-tame o modes.C = refl
making-tame o modes.X = tt

opening-tame : (o : Opening) (call : Call) → OpeningAwaits o call → Tame call
opening-tame o call e = as-call (opening.call_of o o.step) call e (by o.step)
  where
    by : (step : OpeningPhase) → Tame (opening.call_of o step)
    by opening_steps.Look = tt
    by opening_steps.Make = making-tame o o.mode
    by opening_steps.Find = tt
    by (opening_steps.Ask file) = tt

saves-tame : (f : List ℕ) (call : Call) → Saves f call → Tame call
saves-tame f call (inl k) = as-call _ call k.1 tt
saves-tame f call (inr is) = as-call _ call is tt

phase-tame : (p : Phase) (r : Reading) (call : Call) → PhaseNames p r call → 1 ≤ of_phase p → Tame call
phase-tame phases.Attrs r call e some = absurd (omega (arith, some))
phase-tame phases.AskedAttrs r call e some = as-call _ call e tt
phase-tame phases.Pages r call e some = absurd (omega (arith, some))
phase-tame phases.Rest r call e some = absurd (omega (arith, some))
phase-tame (phases.Asked n) r call e some = as-call _ call e tt
phase-tame phases.Ended r call e some = absurd (omega (arith, some))

reading-tame : (o : Option Reading) (call : Call) → ReadNames o call → 1 ≤ of_reading o → Tame call
reading-tame None call e some = absurd (omega (arith, some))
reading-tame (Some r) call e some = phase-tame r.phase r call e some

writing-tame : (w : Writing) (call : Call) → WriteNames w call → 1 ≤ of_writing w → Tame call
writing-tame writing.Idle call e some = absurd (omega (arith, some))
writing-tame (writing.Room file saving) call e some = saves-tame saving.file call e

syncing-tame : (w : Syncing) (call : Call) → SyncNames w call → 1 ≤ of_syncing w → Tame call
syncing-tame syncing.Idle call e some = absurd (omega (arith, some))
syncing-tame (syncing.Saves s) call e some = saves-tame s.file call e

closing-tame : (w : Closing) (call : Call) → CloseNames w call → 1 ≤ of_closing w → Tame call
closing-tame closing.Idle call e some = absurd (omega (arith, some))
closing-tame (closing.Queued s) call e some = absurd (omega (arith, some))
closing-tame (closing.Saves s) call e some = saves-tame s.file call e
closing-tame (closing.ToRemove removal) call e some = absurd (omega (arith, some))
closing-tame (closing.Removing removal) call e some = as-call _ call e tt

putting-tame : (p : Putting) (o : Opening) (w : Writing) (call : Call) → PutAwaits p o call → StateNames p w call → 1 ≤ of_putting p o w → Tame call
putting-tame putting.Idle o w call a e some = absurd (omega (arith, some))
putting-tame putting.Opens o w call a e some = opening-tame o call a
putting-tame (putting.Adds file) o w call a e some = writing-tame w call e some
putting-tame (putting.Saves s) o w call a e some = saves-tame s.file call e

-- ---- any operation

-- it is a truncate that asked to set the size of a file
pub record IsCut (machine : Machine) (call : Call) : Type 0 where
  pub m : TruncateFile
  pub is : machine ≡ machines.File (files.Truncate m)
  pub file : List ℕ
  pub upto : ℕ
  pub state : m.state ≡ truncating.Asked file upto
  pub asks : call ≡ truncates.size_call file m.size

cut-tame : (m : TruncateFile) (call : Call) → CutNames m.size m.state call → 1 ≤ of_truncating m.state → IsCut (machines.File (files.Truncate m)) call
cut-tame m call e some = by m.state refl e some
  where
    by : (t : Truncating) → m.state ≡ t → CutNames m.size t call → 1 ≤ of_truncating t → IsCut (machines.File (files.Truncate m)) call
    by truncating.Idle is e some = absurd (omega (arith, some))
    by (truncating.Queued file upto) is e some = absurd (omega (arith, some))
    by (truncating.Asked file upto) is e some = record { m = m; is = refl; file = file; upto = upto; state = is; asks = e }

path-tame : (b : Bool) (m : PathMachine) (call : Call) → PathOr b m call → PathNames b m call → 1 ≤ path_by b (of_walk m.walk) (of_file (file_of m.opener)) → Tame call
path-tame false m call a e some = walk-tame m.walk call a some
path-tame true m call a e some = by m.opener a e some
  where
    by : (o : Opener) → PathOr true (record m { opener = o }) call → PathNames true (record m { opener = o }) call → 1 ≤ of_file (file_of o) → Tame call
    by (openers.Open k) a e some = opening-tame k.opening call a
    by (openers.Put k) a e some = putting-tame k.state k.opening k.write.state call a e some

-- A call that an operation waits for is the SETATTR of a truncate, or sets no size.
pub expects-tame : (machine : Machine) (call : Call) → Expects machine call → 1 ≤ in_flight machine → IsCut machine call ⊎ Tame call
expects-tame (machines.File (files.Open m)) call e some = inr (opening-tame m.opening call e.0)
expects-tame (machines.File (files.Read m)) call e some = inr (reading-tame m.reading call e.1 some)
expects-tame (machines.File (files.Write m)) call e some = inr (writing-tame m.state call e.1 some)
expects-tame (machines.File (files.Sync m)) call e some = inr (syncing-tame m.state call e.1 some)
expects-tame (machines.File (files.Close m)) call e some = inr (closing-tame m.state call e.1 some)
expects-tame (machines.File (files.Truncate m)) call e some = inl (cut-tame m call e.1 some)
expects-tame (machines.File (files.Put m)) call e some = inr (putting-tame m.state m.opening m.write.state call e.0 e.1 some)
expects-tame (machines.Path m) call e some = inr (path-tame m.arrived m call e.0 e.1 some)
expects-tame (machines.Name m) call e some = inr (name-tame m call e.0 some)
