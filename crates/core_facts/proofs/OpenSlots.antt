-- What each step of an operation makes of the table of opens: an open that went well is put into its slot, a close takes one out, and all
-- else leaves the table as it is.
use Rattle.core_facts.proofs.Prelude.{◌≡◌, ◌-◌, ℕ, Bool, true, false, List, Option, Some, None, Result, Ok, Err, inl, inr, refl, sym, ap, subst, ◌∙◌, if◌then◌else◌, Attr, Mode, Wcc, Opened, Place, Opens, Pages, Answer, Fault, Call, Reply, Step, Shelf, Turn, OpenFile, Led, Opening, OpeningStep, OpeningPhase, file_to_write, file_at, got_by, found_file, WalkStep, FileMachine, Machine, Opener, PathMachine, file_of, slot_taken, begun_at, placed, Starts, Resumes, Takes}
use Rattle.std.proofs.Common.{is_some}
use Rattle.page_cache.specs.Pages.{known_of}
use Rattle.file_ops.specs.Told.{found_by, made_by}
use Rattle.op_machines.specs.Openers.{opening_in}
use Rattle.std.specs.FinMap as finite
use Rattle.nfs_dir_calls.specs.declared.create.Making.{Making}
use Rattle.nfs_dir_calls.specs.declared.call.DirCall.TheVariants as dirs
use Rattle.nfs_dir_calls.specs.declared.keeping.DirKept.TheVariants as found
use Rattle.nfs_file_calls.specs.declared.call.FileCall.TheVariants as file_calls
use Rattle.nfs_file_calls.specs.declared.owned.FileKept.TheVariants as kept
use Rattle.attr_cache.specs.Attrs.{Attrs, looked}
use Rattle.nfs_types.specs.declared.wcc.Stamp.{Stamp}
use Rattle.world_model.specs.declared.answer.Answer.TheVariants as answers
use Rattle.world_model.specs.declared.answer.Fault.TheVariants as faults
use Rattle.world_model.specs.declared.message.Call.TheVariants as calls
use Rattle.world_model.specs.declared.message.Reply.TheVariants as replies
use Rattle.client_shelf.specs.declared.step.Step.TheVariants as nexts
use Rattle.file_ops.specs.declared.opening.Led.TheVariants as leads
use Rattle.file_ops.specs.declared.opening.OpeningStep.TheVariants as openings
use Rattle.file_ops.specs.declared.opening.OpeningPhase.TheVariants as opening_steps
use Rattle.file_ops.specs.OpenFile as opens
use Rattle.file_ops.specs.Opening as opening
use Rattle.name_ops.specs.declared.walk.WalkStep.TheVariants as walks
use Rattle.name_ops.specs.Walking as walking
use Rattle.op_machines.specs.declared.file_machine.FileMachine.TheVariants as files
use Rattle.op_machines.specs.declared.machine.Machine.TheVariants as machines
use Rattle.op_machines.specs.declared.opener.Opener.TheVariants as openers
use Rattle.op_machines.specs.FileSteps as steps
use Rattle.op_machines.specs.PathSteps as paths
use Rattle.core_facts.proofs.Expecting.{Expects, arrived-open, no-open, some-open}
use Rattle.core_facts.proofs.FileOpens as plain
use Rattle.core_facts.proofs.NameOpens.{walk-opens, name-goes, name-takes}
use Rattle.core_facts.proofs.Steps.{ThenOf}

-- ---- operations that neither open nor close

abbrev pub FilePlain : FileMachine → Type 0
FilePlain (files.Open m) = ⊥
FilePlain (files.Read m) = Unit {0}
FilePlain (files.Write m) = Unit {0}
FilePlain (files.Sync m) = Unit {0}
FilePlain (files.Close m) = ⊥
FilePlain (files.Truncate m) = Unit {0}
FilePlain (files.Put m) = Unit {0}

abbrev pub OpenerPlain : Opener → Type 0
OpenerPlain (openers.Open m) = ⊥
OpenerPlain (openers.Put m) = Unit {0}

abbrev pub IsPlain : Machine → Type 0
IsPlain (machines.File m) = FilePlain m
IsPlain (machines.Path m) = OpenerPlain m.opener
IsPlain (machines.Name m) = Unit {0}

-- it stays so, and the table too
abbrev LeavesFile : Shelf → FileMachine → Shelf → Type 0
LeavesFile old new after = FilePlain new × (after.opens ≡ old.opens)

abbrev LeavesPath : Shelf → PathMachine → Shelf → Type 0
LeavesPath old new after = OpenerPlain new.opener × (after.opens ≡ old.opens)

abbrev pub Leaves : Shelf → Machine → Shelf → Type 0
Leaves old new after = IsPlain new × (after.opens ≡ old.opens)

file-as : (to new : FileMachine) → new ≡ to → FilePlain to → FilePlain new
file-as to new is p = subst FilePlain (sym is) p

file-starts : (m : FileMachine) (wsize : ℕ) (turn : Turn) (old : Shelf) (next : Step) (new : FileMachine) (after : Shelf) → FilePlain m
    → steps.Starts wsize m turn old next new after → LeavesFile old new after
file-starts (files.Open m) wsize turn old next new after p s = absurd p
file-starts (files.Read m) wsize turn old next new after p s = (file-as (files.Read s.machine) new s.machine_is tt, ap (λ (k : Shelf). k.opens) s.others)
file-starts (files.Write m) wsize turn old next new after p s =
    (file-as (files.Write s.machine) new s.machine_is tt, plain.write-starts (file_to_write m.lane m.slot old.opens) wsize m turn old next s.machine after s.step)
file-starts (files.Sync m) wsize turn old next new after p s =
    (file-as _ new s.machine_is tt, plain.sync-starts (file_at m.lane m.slot old.opens) wsize m turn old next s.state after s.step)
file-starts (files.Close m) wsize turn old next new after p s = absurd p
file-starts (files.Truncate m) wsize turn old next new after p s = (file-as _ new s.machine_is tt, plain.truncate-starts (found_file m old) m old after s.shelf_is)
file-starts (files.Put m) wsize turn old next new after p s = (file-as _ new s.machine_is tt, ap (λ (k : Shelf). k.opens) s.shelf_is)

file-resumes : (m : FileMachine) (wsize : ℕ) (turn : Turn) (old : Shelf) (next : Step) (new : FileMachine) (after : Shelf) → FilePlain m
    → steps.Resumes wsize m turn old next new after → LeavesFile old new after
file-resumes (files.Open m) wsize turn old next new after p s = absurd p
file-resumes (files.Read m) wsize turn old next new after p s = (file-as (files.Read s.machine) new s.machine_is tt, ap (λ (k : Shelf). k.opens) s.others)
file-resumes (files.Write m) wsize turn old next new after p s =
    (file-as _ new s.machine_is tt, plain.write-resumes m.state wsize m.lane turn old next s.state after s.step)
file-resumes (files.Sync m) wsize turn old next new after p s = (file-as _ new s.machine_is tt, plain.sync-resumes m.state wsize m turn old next s.state after s.step)
file-resumes (files.Close m) wsize turn old next new after p s = absurd p
file-resumes (files.Truncate m) wsize turn old next new after p s = (file-as _ new s.machine_is tt, ap (λ (k : Shelf). k.opens) s.shelf_is)
file-resumes (files.Put m) wsize turn old next new after p s =
    (file-as (files.Put s.machine) new s.machine_is tt, plain.put-resumes m.state wsize m turn old next s.machine after s.step)

file-takes : (m : FileMachine) (wsize : ℕ) (sent turn : Turn) (came : Result Reply Fault) (old : Shelf) (next : Step) (new : FileMachine) (after : Shelf) → FilePlain m
    → steps.Takes wsize m sent turn came old next new after → LeavesFile old new after
file-takes (files.Open m) wsize sent turn came old next new after p s = absurd p
file-takes (files.Read m) wsize sent turn came old next new after p s = (file-as (files.Read s.machine) new s.machine_is tt, ap (λ (k : Shelf). k.opens) s.others)
file-takes (files.Write m) wsize sent turn came old next new after p s =
    (file-as _ new s.machine_is tt, plain.write-takes m.state wsize m sent turn came old next s.state after s.step)
file-takes (files.Sync m) wsize sent turn came old next new after p s =
    (file-as _ new s.machine_is tt, plain.sync-takes m.state wsize m sent turn came old next s.state after s.step)
file-takes (files.Close m) wsize sent turn came old next new after p s = absurd p
file-takes (files.Truncate m) wsize sent turn came old next new after p s =
    (file-as _ new s.machine_is tt, plain.truncate-takes m.state m came sent turn after.attrs after.back old after s.shelf_is)
file-takes (files.Put m) wsize sent turn came old next new after p s =
    (file-as (files.Put s.machine) new s.machine_is tt, plain.put-takes m.state wsize m sent turn came old next s.machine after s.step)

opener-plain : (o : Opener) → OpenerPlain o → FilePlain (file_of o)
opener-plain (openers.Open m) p = p
opener-plain (openers.Put m) p = tt

plain-opener : (o : Opener) → FilePlain (file_of o) → OpenerPlain o
plain-opener (openers.Open m) p = p
plain-opener (openers.Put m) p = tt

placed-plain : (dir : List ℕ) (o : Opener) → OpenerPlain o → OpenerPlain (placed dir o)
placed-plain dir (openers.Open m) p = p
placed-plain dir (openers.Put m) p = tt

begun-plain : (moment : ℕ) (o : Opener) → OpenerPlain o → OpenerPlain (begun_at moment o)
begun-plain moment (openers.Open m) p = p
begun-plain moment (openers.Put m) p = tt

path-as : (to new : PathMachine) → new ≡ to → OpenerPlain to.opener → OpenerPlain new.opener
path-as to new is p = subst (λ (m : PathMachine). OpenerPlain m.opener) (sym is) p

then-resumes : (wsize : ℕ) (m : PathMachine) (turn : Turn) (old : Shelf) (next : Step) (new : PathMachine) (after : Shelf) → OpenerPlain m.opener
    → paths.ThenResumes wsize m turn old next new after → LeavesPath old new after
then-resumes wsize m turn old next new after p t =
    let l = file-resumes (file_of m.opener) wsize turn old next (file_of t.opener) after (opener-plain m.opener p) t.step in
    (path-as (record m { opener = t.opener }) new t.machine_is (plain-opener t.opener l.0), l.1)

follows-path : (step : WalkStep) (wsize : ℕ) (m : PathMachine) (turn : Turn) (old : Shelf) (next : Step) (new : PathMachine) (after : Shelf) → OpenerPlain m.opener
    → paths.Follows step wsize m turn old next new after → LeavesPath old new after
follows-path (walks.Send call) wsize m turn old next new after p f = (path-as m new f.1 p, ap (λ (k : Shelf). k.opens) f.2)
follows-path walks.Wait wsize m turn old next new after p f = (path-as m new f.1 p, ap (λ (k : Shelf). k.opens) f.2)
follows-path (walks.At dir) wsize m turn old next new after p f =
    then-resumes wsize (record m { opener = placed dir m.opener; arrived = true }) turn old next new after (placed-plain dir m.opener p) f
follows-path (walks.Refused fault) wsize m turn old next new after p f = (path-as m new f.1 p, ap (λ (k : Shelf). k.opens) f.2)

path-resumes : (b : Bool) (wsize : ℕ) (m : PathMachine) (turn : Turn) (old : Shelf) (next : Step) (new : PathMachine) (after : Shelf) → OpenerPlain m.opener
    → paths.PathResumes b wsize m turn old next new after → LeavesPath old new after
path-resumes true wsize m turn old next new after p r = then-resumes wsize m turn old next new after p r
path-resumes false wsize m turn old next new after p r =
    follows-path (walking.go_next m.walk turn old) wsize (record m { walk = walking.go_after m.walk turn old }) turn (walking.go_shelf m.walk turn old) next new after p r

path-starts : (taken : Bool) (wsize : ℕ) (m : PathMachine) (turn : Turn) (old : Shelf) (next : Step) (new : PathMachine) (after : Shelf) → OpenerPlain m.opener
    → paths.StartsIf taken wsize m turn old next new after → LeavesPath old new after
path-starts true wsize m turn old next new after p s = (path-as m new s.1 p, ap (λ (k : Shelf). k.opens) s.2)
path-starts false wsize m turn old next new after p s =
    path-resumes m.arrived wsize (record m { opener = begun_at (turn.moment - 1) m.opener }) turn old next new after (begun-plain (turn.moment - 1) m.opener p) s

path-takes : (b : Bool) (wsize : ℕ) (m : PathMachine) (sent turn : Turn) (came : Result Reply Fault) (old : Shelf) (next : Step) (new : PathMachine) (after : Shelf)
    → OpenerPlain m.opener → paths.PathTakes b wsize m sent turn came old next new after → LeavesPath old new after
path-takes true wsize m sent turn came old next new after p t =
    let l = file-takes (file_of m.opener) wsize sent turn came old next (file_of t.opener) after (opener-plain m.opener p) t.step in
    (path-as (record m { opener = t.opener }) new t.machine_is (plain-opener t.opener l.0), l.1)
path-takes false wsize m sent turn came old next new after p t =
    let l = follows-path t.step wsize t.walked turn t.heard next new after (path-as (record m { walk = t.walked.walk }) t.walked t.walked_is p) t.follows in
    (l.0, l.1 ∙ walk-opens (walking.waiting_name m.walk) m.walk sent turn came old t.step t.walked.walk t.heard t.takes)

machine-as : (to new : Machine) → new ≡ to → IsPlain to → IsPlain new
machine-as to new is p = subst IsPlain (sym is) p

pub plain-starts : (m : Machine) (wsize : ℕ) (turn : Turn) (old : Shelf) (next : Step) (new : Machine) (after : Shelf) → IsPlain m → Starts wsize m turn old next new after
    → Leaves old new after
plain-starts (machines.File m) wsize turn old next new after p s =
    let l = file-starts m wsize turn old next s.machine after p s.step in (machine-as (machines.File s.machine) new s.machine_is l.0, l.1)
plain-starts (machines.Path m) wsize turn old next new after p s =
    let l = path-starts (slot_taken m.opener old.opens) wsize m turn old next s.machine after p s.step in (machine-as (machines.Path s.machine) new s.machine_is l.0, l.1)
plain-starts (machines.Name m) wsize turn old next new after p s =
    (machine-as (machines.Name s.machine) new s.machine_is tt, name-goes m turn old next s.machine after s.step)

pub plain-resumes : (m : Machine) (wsize : ℕ) (turn : Turn) (old : Shelf) (next : Step) (new : Machine) (after : Shelf) → IsPlain m → Resumes wsize m turn old next new after
    → Leaves old new after
plain-resumes (machines.File m) wsize turn old next new after p s =
    let l = file-resumes m wsize turn old next s.machine after p s.step in (machine-as (machines.File s.machine) new s.machine_is l.0, l.1)
plain-resumes (machines.Path m) wsize turn old next new after p s =
    let l = path-resumes m.arrived wsize m turn old next s.machine after p s.step in (machine-as (machines.Path s.machine) new s.machine_is l.0, l.1)
plain-resumes (machines.Name m) wsize turn old next new after p s =
    (machine-as (machines.Name s.machine) new s.machine_is tt, name-goes m turn old next s.machine after s.step)

pub plain-takes : (m : Machine) (wsize : ℕ) (sent turn : Turn) (came : Result Reply Fault) (old : Shelf) (next : Step) (new : Machine) (after : Shelf) → IsPlain m
    → Takes wsize m sent turn came old next new after → Leaves old new after
plain-takes (machines.File m) wsize sent turn came old next new after p s =
    let l = file-takes m wsize sent turn came old next s.machine after p s.step in (machine-as (machines.File s.machine) new s.machine_is l.0, l.1)
plain-takes (machines.Path m) wsize sent turn came old next new after p s =
    let l = path-takes m.arrived wsize m sent turn came old next s.machine after p s.step in (machine-as (machines.Path s.machine) new s.machine_is l.0, l.1)
plain-takes (machines.Name m) wsize sent turn came old next new after p s =
    (machine-as (machines.Name s.machine) new s.machine_is tt, name-takes m sent turn came old next s.machine after s.step)

-- ---- opens

-- an open of this slot of the lane, in this mode
pub record IsAt (nocto : Bool) (lane slot : ℕ) (mode : Mode) (o : OpenFile) : Type 0 where
  pub lane_is : o.lane ≡ lane
  pub slot_is : o.slot ≡ slot
  pub mode_is : o.opening.mode ≡ mode
  pub nocto_is : o.opening.nocto ≡ nocto

pub record IsOpener (nocto : Bool) (lane slot : ℕ) (mode : Mode) (machine : Machine) : Type 0 where
  pub m : PathMachine
  pub o : OpenFile
  pub is : machine ≡ machines.Path m
  pub opener : m.opener ≡ openers.Open o
  pub at : IsAt nocto lane slot mode o

abbrev pub IsRefusal : Answer → Type 0
IsRefusal (answers.Done value) = ⊥
IsRefusal (answers.Refused fault) = Unit {0}

-- The reply to this call gives the file.
pub data FindsBy (nocto : Bool) (call : Call) (came : Result Reply Fault) (f : List ℕ) : Type 0 where
  by_attrs : (attr : Attr) → call ≡ calls.File (file_calls.GetAttr f) → came ≡ Ok (replies.File (kept.GetAttr attr)) → FindsBy nocto call came f
  by_lookup : (d name : List ℕ) (attr dir : Option Attr) → nocto ≡ true → call ≡ calls.Dir (dirs.Lookup d name) → came ≡ Ok (replies.Dir (found.Lookup f attr dir))
      → FindsBy nocto call came f
  by_create : (d name : List ℕ) (making : Making) (attr : Option Attr) (wcc : Wcc) → nocto ≡ true → call ≡ calls.Dir (dirs.Create d name making)
      → came ≡ Ok (replies.Dir (found.Create (Some f) attr wcc)) → FindsBy nocto call came f

-- The step leaves the table as it is, or puts the open into its slot, which is empty.
pub data OpenTook (nocto : Bool) (lane slot : ℕ) (mode : Mode) (was : Machine) (came : Result Reply Fault) (old : Opens) (next : Step) (machine : Machine) (new : Opens) : Type 0 where
  table_stays : new ≡ old → ThenOf (IsOpener nocto lane slot mode) IsRefusal next machine → OpenTook nocto lane slot mode was came old next machine new
  puts_open : (of : Opened) (call : Call) → finite.get old (lane, slot) ≡ None → new ≡ finite.insert old (lane, slot) of → of.mode ≡ mode → next ≡ opens.well
      → ((k : Call) → Expects was k → k ≡ call) → FindsBy nocto call came of.file → OpenTook nocto lane slot mode was came old next machine new

-- ---- what an opening finds

-- its mode and the like stay as they are
pub record IsSame (o n : Opening) : Type 0 where
  pub mode_is : n.mode ≡ o.mode
  pub nocto_is : n.nocto ≡ o.nocto

waits-same : (b : Bool) (o : Opening) → IsSame o (if b then o else record o { asked = true })
waits-same true o = record { mode_is = refl; nocto_is = refl }
waits-same false o = record { mode_is = refl; nocto_is = refl }

go-same : (o : Opening) (turn : Turn) → IsSame o (opening.go_after o turn)
go-same o turn = waits-same (opening.waits o turn) o

led-same : (o : Opening) (turn : Turn) (led : Led) → IsSame o (opening.led_after o turn led)
led-same o turn (leads.Goes step) = let s = go-same (opening.at_step o step) turn in record { mode_is = s.mode_is; nocto_is = s.nocto_is }
led-same o turn (leads.Opens file attr) = record { mode_is = refl; nocto_is = refl }
led-same o turn (leads.Knows file stamp) = record { mode_is = refl; nocto_is = refl }
led-same o turn (leads.Ends fault) = record { mode_is = refl; nocto_is = refl }

after-same : (again : Bool) (o : Opening) (turn : Turn) (led : Led) → IsSame o (opening.opening_after again o turn led)
after-same true o turn led = record { mode_is = refl; nocto_is = refl }
after-same false o turn led = led-same o turn led

at-same : (nocto : Bool) (lane slot : ℕ) (mode : Mode) (o n : OpenFile) → n.lane ≡ o.lane → n.slot ≡ o.slot → IsSame o.opening n.opening → IsAt nocto lane slot mode o
    → IsAt nocto lane slot mode n
at-same nocto lane slot mode o n lanes slots s at = record {
  lane_is = lanes ∙ at.lane_is;
  slot_is = slots ∙ at.slot_is;
  mode_is = s.mode_is ∙ at.mode_is;
  nocto_is = s.nocto_is ∙ at.nocto_is;
}

-- what a reply has led to where the opening ends well
data ToldFile (nocto : Bool) (told : Led) (f : List ℕ) : Type 0 where
  tells_opened : (attr : Attr) → told ≡ leads.Opens f attr → ToldFile nocto told f
  tells_goes : nocto ≡ true → told ≡ leads.Goes (opening_steps.Ask f) → ToldFile nocto told f
  tells_knows : (stamp : Stamp) → told ≡ leads.Knows f stamp → ToldFile nocto told f

go-ends : (o : Opening) (turn : Turn) (result : Result (List ℕ) Fault) → openings.Ended result ≡ opening.go_next o turn → ⊥
go-ends o turn result is = by (opening.waits o turn) is
  where
    by : (b : Bool) → openings.Ended result ≡ (if b then openings.Wait else openings.Send (opening.call_of o o.step)) → ⊥
    by true e = cc
    by false e = cc

one-file : (a b : List ℕ) (attr : Attr) → a ≡ b → leads.Opens b attr ≡ leads.Opens a attr
one-file a b attr e = ap (λ (f : List ℕ). leads.Opens f attr) (sym e)

-- the file of attributes that are believed
known-file : (b : Bool) (o : Opening) (sent turn : Turn) (file : List ℕ) (stamp : Stamp) (f : List ℕ) (old new : Pages)
    → opening.LedTo o sent turn (if b then leads.Knows file stamp else leads.Goes (opening_steps.Ask file)) (openings.Ended (Ok f)) old new → f ≡ file
known-file true o sent turn file stamp f old new l = l.0
known-file false o sent turn file stamp f old new l = absurd (go-ends (opening.at_step o (opening_steps.Ask file)) turn (Ok f) l.0)

known-at : (attr : Option Attr) (known : Option Stamp) (o : Opening) (sent turn : Turn) (file f : List ℕ) (old new : Pages)
    → opening.LedTo o sent turn (opening.known_at file attr known) (openings.Ended (Ok f)) old new → f ≡ file
known-at None known o sent turn file f old new l = absurd (go-ends (opening.at_step o (opening_steps.Ask file)) turn (Ok f) l.0)
known-at (Some attr) None o sent turn file f old new l = absurd (go-ends (opening.at_step o (opening_steps.Ask file)) turn (Ok f) l.0)
known-at (Some attr) (Some stamp) o sent turn file f old new l = known-file _ o sent turn file stamp f old new l

known-step : (step : OpeningPhase) (now : ℕ) (attrs : Attrs) (pages : Pages) (o : Opening) (sent turn : Turn) (f : List ℕ) (old new : Pages)
    → opening.LedTo o sent turn (opening.known_step step now attrs pages) (openings.Ended (Ok f)) old new → step ≡ opening_steps.Ask f
known-step opening_steps.Look now attrs pages o sent turn f old new l = absurd (go-ends (opening.at_step o opening_steps.Look) turn (Ok f) l.0)
known-step opening_steps.Make now attrs pages o sent turn f old new l = absurd (go-ends (opening.at_step o opening_steps.Make) turn (Ok f) l.0)
known-step opening_steps.Find now attrs pages o sent turn f old new l = absurd (go-ends (opening.at_step o opening_steps.Find) turn (Ok f) l.0)
known-step (opening_steps.Ask file) now attrs pages o sent turn f old new l =
    ap opening_steps.Ask (sym (known-at (looked file now attrs) (known_of file pages) o sent turn file f old new l))

led-file : (nocto : Bool) (told : Led) (now : ℕ) (attrs : Attrs) (pages : Pages) (o : Opening) (sent turn : Turn) (f : List ℕ) (old new : Pages)
    → opening.LedTo o sent turn (opening.known_by nocto told now attrs pages) (openings.Ended (Ok f)) old new → ToldFile nocto told f
led-file true (leads.Goes step) now attrs pages o sent turn f old new l = tells_goes refl (ap leads.Goes (known-step step now attrs pages o sent turn f old new l))
led-file false (leads.Goes step) now attrs pages o sent turn f old new l = absurd (go-ends (opening.at_step o step) turn (Ok f) l.0)
led-file true (leads.Opens file attr) now attrs pages o sent turn f old new l = tells_opened attr (one-file f file attr l.0)
led-file false (leads.Opens file attr) now attrs pages o sent turn f old new l = tells_opened attr (one-file f file attr l.0)
led-file true (leads.Knows file stamp) now attrs pages o sent turn f old new l = tells_knows stamp (ap (λ (k : List ℕ). leads.Knows k stamp) (sym l.0))
led-file false (leads.Knows file stamp) now attrs pages o sent turn f old new l = tells_knows stamp (ap (λ (k : List ℕ). leads.Knows k stamp) (sym l.0))
led-file true (leads.Ends fault) now attrs pages o sent turn f old new l = absurd (let no_way : openings.Ended (Ok f) ≡ openings.Ended (Err fault) = l.0 in cc)
led-file false (leads.Ends fault) now attrs pages o sent turn f old new l = absurd (let no_way : openings.Ended (Ok f) ≡ openings.Ended (Err fault) = l.0 in cc)

-- ---- replies that give a file

pub record CameLookup (came : Result Reply Fault) (f : List ℕ) : Type 0 where
  pub attr : Option Attr
  pub dir : Option Attr
  pub is : came ≡ Ok (replies.Dir (found.Lookup f attr dir))

looked-by : (came : Result Reply Fault) (f : List ℕ) → found_by came ≡ Ok f → CameLookup came f
looked-by (Ok (replies.Dir (found.Lookup file attr dir))) f is =
    let same : file ≡ f = cc in record { attr = attr; dir = dir; is = ap (λ (k : List ℕ). Ok (replies.Dir (found.Lookup k attr dir))) same }
looked-by (Ok (replies.Dir (found.LookupFail status dir))) f is = absurd cc
looked-by (Ok (replies.Dir reply)) f is = absurd cc
looked-by (Ok (replies.File reply)) f is = absurd cc
looked-by (Ok (replies.Mount reply)) f is = absurd cc
looked-by (Err fault) f is = absurd cc

pub record CameCreate (came : Result Reply Fault) (f : List ℕ) : Type 0 where
  pub attr : Option Attr
  pub wcc : Wcc
  pub is : came ≡ Ok (replies.Dir (found.Create (Some f) attr wcc))

created-by : (came : Result Reply Fault) (f : List ℕ) → made_by came ≡ Ok (Some f) → CameCreate came f
created-by (Ok (replies.Dir (found.Create file attr wcc))) f is =
    let same : file ≡ Some f = cc in record { attr = attr; wcc = wcc; is = ap (λ (k : Option (List ℕ)). Ok (replies.Dir (found.Create k attr wcc))) same }
created-by (Ok (replies.Dir (found.CreateFail status wcc))) f is = absurd cc
created-by (Ok (replies.Dir reply)) f is = absurd cc
created-by (Ok (replies.File reply)) f is = absurd cc
created-by (Ok (replies.Mount reply)) f is = absurd cc
created-by (Err fault) f is = absurd cc

pub record CameAttrs (came : Result Reply Fault) : Type 0 where
  pub attr : Attr
  pub is : came ≡ Ok (replies.File (kept.GetAttr attr))

attrs-by : (came : Result Reply Fault) (attr : Attr) → got_by came ≡ Ok attr → CameAttrs came
attrs-by (Ok (replies.File (kept.GetAttr attr))) a is = record { attr = attr; is = refl }
attrs-by (Ok (replies.File (kept.GetAttrFail status))) a is = absurd cc
attrs-by (Ok (replies.File reply)) a is = absurd cc
attrs-by (Ok (replies.Dir reply)) a is = absurd cc
attrs-by (Ok (replies.Mount reply)) a is = absurd cc
attrs-by (Err fault) a is = absurd cc

-- after LOOKUP
found-opens : (r : Result (List ℕ) Fault) (f : List ℕ) (attr : Attr) → opening.found r ≡ leads.Opens f attr → ⊥
found-opens (Ok file) f attr e = cc
found-opens (Err fault) f attr e = cc

found-knows : (r : Result (List ℕ) Fault) (f : List ℕ) (stamp : Stamp) → opening.found r ≡ leads.Knows f stamp → ⊥
found-knows (Ok file) f stamp e = cc
found-knows (Err fault) f stamp e = cc

found-asks : (r : Result (List ℕ) Fault) (f : List ℕ) → opening.found r ≡ leads.Goes (opening_steps.Ask f) → r ≡ Ok f
found-asks (Ok file) f e = let same : file ≡ f = cc in ap Ok same
found-asks (Err fault) f e = absurd cc

-- after CREATE
made-opens : (r : Result (Option (List ℕ)) Fault) (f : List ℕ) (attr : Attr) → opening.made r ≡ leads.Opens f attr → ⊥
made-opens (Ok (Some file)) f attr e = cc
made-opens (Ok None) f attr e = cc
made-opens (Err fault) f attr e = cc

made-knows : (r : Result (Option (List ℕ)) Fault) (f : List ℕ) (stamp : Stamp) → opening.made r ≡ leads.Knows f stamp → ⊥
made-knows (Ok (Some file)) f stamp e = cc
made-knows (Ok None) f stamp e = cc
made-knows (Err fault) f stamp e = cc

made-asks : (r : Result (Option (List ℕ)) Fault) (f : List ℕ) → opening.made r ≡ leads.Goes (opening_steps.Ask f) → r ≡ Ok (Some f)
made-asks (Ok (Some file)) f e = let same : file ≡ f = cc in ap (λ (k : List ℕ). Ok (Some k)) same
made-asks (Ok None) f e = absurd cc
made-asks (Err fault) f e = absurd cc

-- after GETATTR
kind-opens : (b : Bool) (file f : List ℕ) (attr a : Attr) → (if b then leads.Opens file attr else leads.Ends faults.Kind) ≡ leads.Opens f a → file ≡ f
kind-opens true file f attr a e = cc
kind-opens false file f attr a e = absurd cc

kind-goes : (b : Bool) (file : List ℕ) (attr : Attr) (step : OpeningPhase) → (if b then leads.Opens file attr else leads.Ends faults.Kind) ≡ leads.Goes step → ⊥
kind-goes true file attr step e = cc
kind-goes false file attr step e = cc

kind-knows : (b : Bool) (file f : List ℕ) (attr : Attr) (stamp : Stamp) → (if b then leads.Opens file attr else leads.Ends faults.Kind) ≡ leads.Knows f stamp → ⊥
kind-knows true file f attr stamp e = cc
kind-knows false file f attr stamp e = cc

pub record GotFile (r : Result Attr Fault) (file f : List ℕ) : Type 0 where
  pub attr : Attr
  pub got : r ≡ Ok attr
  pub same : file ≡ f

got-opens : (r : Result Attr Fault) (file f : List ℕ) (a : Attr) → opening.got file r ≡ leads.Opens f a → GotFile r file f
got-opens (Ok attr) file f a e = record { attr = attr; got = refl; same = kind-opens _ file f attr a e }
got-opens (Err fault) file f a e = absurd cc

got-goes : (r : Result Attr Fault) (file : List ℕ) (step : OpeningPhase) → opening.got file r ≡ leads.Goes step → ⊥
got-goes (Ok attr) file step e = kind-goes _ file attr step e
got-goes (Err fault) file step e = cc

got-knows : (r : Result Attr Fault) (file f : List ℕ) (stamp : Stamp) → opening.got file r ≡ leads.Knows f stamp → ⊥
got-knows (Ok attr) file f stamp e = kind-knows _ file f attr stamp e
got-knows (Err fault) file f stamp e = cc

-- a LOOKUP that finds nothing leads to CREATE in one mode
missing-opens : (b : Bool) (r : Result (List ℕ) Fault) (f : List ℕ) (attr : Attr) → (if b then leads.Goes opening_steps.Make else opening.found r) ≡ leads.Opens f attr → ⊥
missing-opens true r f attr e = cc
missing-opens false r f attr e = found-opens r f attr e

missing-knows : (b : Bool) (r : Result (List ℕ) Fault) (f : List ℕ) (stamp : Stamp) → (if b then leads.Goes opening_steps.Make else opening.found r) ≡ leads.Knows f stamp → ⊥
missing-knows true r f stamp e = cc
missing-knows false r f stamp e = found-knows r f stamp e

make-asks : (f : List ℕ) → leads.Goes opening_steps.Make ≡ leads.Goes (opening_steps.Ask f) → ⊥
make-asks f e = let no_way : opening_steps.Make ≡ opening_steps.Ask f = cc in cc

missing-asks : (b : Bool) (r : Result (List ℕ) Fault) (f : List ℕ) → (if b then leads.Goes opening_steps.Make else opening.found r) ≡ leads.Goes (opening_steps.Ask f) → r ≡ Ok f
missing-asks true r f e = absurd (make-asks f e)
missing-asks false r f e = found-asks r f e

told-file : (step : OpeningPhase) (o : Opening) (came : Result Reply Fault) (f : List ℕ) → ToldFile o.nocto (opening.led_to o.mode step came) f
    → FindsBy o.nocto (opening.call_of o step) came f
told-file opening_steps.Look o came f (tells_opened attr e) = absurd (missing-opens (opening.makes o.mode came) (found_by came) f attr e)
told-file opening_steps.Look o came f (tells_knows stamp e) = absurd (missing-knows (opening.makes o.mode came) (found_by came) f stamp e)
told-file opening_steps.Look o came f (tells_goes nocto e) =
    let l = looked-by came f (missing-asks (opening.makes o.mode came) (found_by came) f e) in by_lookup o.dir o.name l.attr l.dir nocto refl l.is
told-file opening_steps.Make o came f (tells_opened attr e) = absurd (made-opens (made_by came) f attr e)
told-file opening_steps.Make o came f (tells_knows stamp e) = absurd (made-knows (made_by came) f stamp e)
told-file opening_steps.Make o came f (tells_goes nocto e) =
    let c = created-by came f (made-asks (made_by came) f e) in by_create o.dir o.name (opening.making_of o.mode) c.attr c.wcc nocto refl c.is
told-file opening_steps.Find o came f (tells_opened attr e) = absurd (found-opens (found_by came) f attr e)
told-file opening_steps.Find o came f (tells_knows stamp e) = absurd (found-knows (found_by came) f stamp e)
told-file opening_steps.Find o came f (tells_goes nocto e) = let l = looked-by came f (found-asks (found_by came) f e) in by_lookup o.dir o.name l.attr l.dir nocto refl l.is
told-file (opening_steps.Ask file) o came f (tells_opened attr e) =
    let g = got-opens (got_by came) file f attr e in
    let c = attrs-by came g.attr g.got in
    by_attrs c.attr (ap (λ (k : List ℕ). calls.File (file_calls.GetAttr k)) g.same) c.is
told-file (opening_steps.Ask file) o came f (tells_knows stamp e) = absurd (got-knows (got_by came) file f stamp e)
told-file (opening_steps.Ask file) o came f (tells_goes nocto e) = absurd (got-goes (got_by came) file (opening_steps.Ask f) e)

-- the file that an opening ends with
opening-file : (again : Bool) (o : Opening) (sent turn : Turn) (came : Result Reply Fault) (attrs : Attrs) (step : OpeningStep) (f : List ℕ) (pages later : Pages) → step ≡ openings.Ended (Ok f)
    → opening.LedIf again o sent turn (opening.led_on o turn.now came attrs pages) step pages later → FindsBy o.nocto (opening.call_of o o.step) came f
opening-file true o sent turn came attrs step f pages later is l =
    absurd (let no_way : openings.Ended (Ok f) ≡ openings.Send (opening.call_of o o.step) = sym is ∙ l.0 in cc)
opening-file false o sent turn came attrs step f pages later is l =
    told-file o.step o came f (led-file o.nocto (opening.told_led o came) turn.now attrs pages o sent turn f pages later
    (subst (λ (n : OpeningStep). opening.LedTo o sent turn (opening.led_on o turn.now came attrs pages) n pages later) is l))

-- ---- the steps of an open

module _ (nocto : Bool) (lane slot : ℕ) (mode : Mode) where
  abbrev Stays : Shelf → Step → Machine → Shelf → Type 0
  Stays old next new after = ThenOf (IsOpener nocto lane slot mode) IsRefusal next new × (after.opens ≡ old.opens)

  -- a step that doesn't end
  then-goes : (next : Step) (new : Machine) → IsOpener nocto lane slot mode new → ((answer : Answer) → next ≡ nexts.Done answer → ⊥) → ThenOf (IsOpener nocto lane slot mode) IsRefusal next new
  then-goes (nexts.Send call) new o goes = o
  then-goes nexts.Wait new o goes = o
  then-goes (nexts.Done answer) new o goes = absurd (goes answer refl)

  then-refused : (next : Step) (new : Machine) (fault : Fault) → next ≡ opens.refused fault → ThenOf (IsOpener nocto lane slot mode) IsRefusal next new
  then-refused next new fault is = subst (λ (n : Step). ThenOf (IsOpener nocto lane slot mode) IsRefusal n new) (sym is) tt

  send-not : (call : Call) (next : Step) → next ≡ nexts.Send call → (answer : Answer) → next ≡ nexts.Done answer → ⊥
  send-not call next is answer ends = let no_way : nexts.Send call ≡ nexts.Done answer = sym is ∙ ends in cc

  wait-not : (next : Step) → next ≡ nexts.Wait → (answer : Answer) → next ≡ nexts.Done answer → ⊥
  wait-not next is answer ends = let no_way : nexts.Wait ≡ nexts.Done answer = sym is ∙ ends in cc

  go-not : (b : Bool) (call : Call) (next : Step) → next ≡ opens.goes_as (if b then openings.Wait else openings.Send call) → (answer : Answer) → next ≡ nexts.Done answer → ⊥
  go-not true call next is answer ends = wait-not next is answer ends
  go-not false call next is answer ends = send-not call next is answer ends

  is-opener : (m new : PathMachine) (opener : Opener) (o : OpenFile) → new ≡ record m { opener = opener } → opener ≡ openers.Open o → IsAt nocto lane slot mode o
      → IsOpener nocto lane slot mode (machines.Path new)
  is-opener m new opener o is opens_it at = record {
    m = new;
    o = o;
    is = refl;
    opener = ap (λ (p : PathMachine). p.opener) is ∙ opens_it;
    at = at;
  }

  opener-same : (k : Opener) (o : OpenFile) → file_of k ≡ files.Open o → k ≡ openers.Open o
  opener-same (openers.Open m) o e = ap openers.Open (some-open o m (sym e))
  opener-same (openers.Put m) o e = absurd (no-open o m (sym e))

  open-resumes : (wsize : ℕ) (m : PathMachine) (o : OpenFile) (turn : Turn) (old : Shelf) (next : Step) (new : PathMachine) (after : Shelf) → m.opener ≡ openers.Open o
      → IsAt nocto lane slot mode o → paths.ThenResumes wsize m turn old next new after → Stays old next (machines.Path new) after
  open-resumes wsize m o turn old next new after at is t = by (subst (λ (k : Opener). steps.Resumes wsize (file_of k) turn old next (file_of t.opener) after) at t.step)
    where
      by : steps.Resumes wsize (files.Open o) turn old next (file_of t.opener) after → Stays old next (machines.Path new) after
      by s = (
        then-goes next (machines.Path new)
            (is-opener m new t.opener (opens.gone o turn) t.machine_is (opener-same t.opener (opens.gone o turn) s.machine_is)
            (at-same nocto lane slot mode o (opens.gone o turn) refl refl (go-same o.opening turn) is))
            (go-not (opening.waits o.opening turn) (opening.call_of o.opening o.opening.step) next s.next_is),
        ap (λ (k : Shelf). k.opens) s.shelf_is,
      )

  on-way : (m new : PathMachine) (o : OpenFile) → new ≡ m → m.opener ≡ openers.Open o → IsAt nocto lane slot mode o → IsOpener nocto lane slot mode (machines.Path new)
  on-way m new o same at is = record { m = new; o = o; is = refl; opener = ap (λ (p : PathMachine). p.opener) same ∙ at; at = is }

  open-follows : (step : WalkStep) (wsize : ℕ) (m : PathMachine) (o : OpenFile) (turn : Turn) (old : Shelf) (next : Step) (new : PathMachine) (after : Shelf) → m.opener ≡ openers.Open o
      → IsAt nocto lane slot mode o → paths.Follows step wsize m turn old next new after → Stays old next (machines.Path new) after
  open-follows (walks.Send call) wsize m o turn old next new after at is f =
      (then-goes next (machines.Path new) (on-way m new o f.1 at is) (send-not call next f.0), ap (λ (k : Shelf). k.opens) f.2)
  open-follows walks.Wait wsize m o turn old next new after at is f = (then-goes next (machines.Path new) (on-way m new o f.1 at is) (wait-not next f.0), ap (λ (k : Shelf). k.opens) f.2)
  open-follows (walks.At dir) wsize m o turn old next new after at is f =
      open-resumes wsize (record m { opener = placed dir m.opener; arrived = true }) (record o { opening = opening_in dir o.opening }) turn old next new after (ap (placed dir) at)
      (record { lane_is = is.lane_is; slot_is = is.slot_is; mode_is = is.mode_is; nocto_is = is.nocto_is }) f
  open-follows (walks.Refused fault) wsize m o turn old next new after at is f = (then-refused next (machines.Path new) fault f.0, ap (λ (k : Shelf). k.opens) f.2)

  path-goes : (b : Bool) (wsize : ℕ) (m : PathMachine) (o : OpenFile) (turn : Turn) (old : Shelf) (next : Step) (new : PathMachine) (after : Shelf) → m.opener ≡ openers.Open o
      → IsAt nocto lane slot mode o → paths.PathResumes b wsize m turn old next new after → Stays old next (machines.Path new) after
  path-goes true wsize m o turn old next new after at is r = open-resumes wsize m o turn old next new after at is r
  path-goes false wsize m o turn old next new after at is r =
      open-follows (walking.go_next m.walk turn old) wsize (record m { walk = walking.go_after m.walk turn old }) o turn (walking.go_shelf m.walk turn old) next new after at is r

  starts-if : (taken : Bool) (wsize : ℕ) (m : PathMachine) (o : OpenFile) (turn : Turn) (old : Shelf) (next : Step) (new : PathMachine) (after : Shelf) → m.opener ≡ openers.Open o
      → IsAt nocto lane slot mode o → paths.StartsIf taken wsize m turn old next new after → Stays old next (machines.Path new) after
  starts-if true wsize m o turn old next new after at is s = (then-refused next (machines.Path new) faults.Slot s.0, ap (λ (k : Shelf). k.opens) s.2)
  starts-if false wsize m o turn old next new after at is s =
      path-goes m.arrived wsize (record m { opener = begun_at (turn.moment - 1) m.opener }) (record o { opening = record o.opening { moment = turn.moment - 1 } }) turn old next new after
      (ap (begun_at (turn.moment - 1)) at) (record { lane_is = is.lane_is; slot_is = is.slot_is; mode_is = is.mode_is; nocto_is = is.nocto_is }) s

  stays-as : (old : Shelf) (next : Step) (to new : Machine) (after : Shelf) → new ≡ to → Stays old next to after → Stays old next new after
  stays-as old next to new after is s = subst (λ (m : Machine). Stays old next m after) (sym is) s

  pub opener-starts : (machine : Machine) (wsize : ℕ) (turn : Turn) (old : Shelf) (next : Step) (new : Machine) (after : Shelf) → IsOpener nocto lane slot mode machine
      → Starts wsize machine turn old next new after → Stays old next new after
  opener-starts machine wsize turn old next new after i s = by (subst (λ (n : Machine). Starts wsize n turn old next new after) i.is s)
    where
      by : Starts wsize (machines.Path i.m) turn old next new after → Stays old next new after
      by t = stays-as old next (machines.Path t.machine) new after t.machine_is
          (starts-if (slot_taken i.m.opener old.opens) wsize i.m i.o turn old next t.machine after i.opener i.at t.step)

  -- where its slot is taken as it begins
  taken-if : (b : Bool) (wsize : ℕ) (m : PathMachine) (turn : Turn) (old : Shelf) (next : Step) (new : PathMachine) (after : Shelf) → b ≡ true → paths.StartsIf b wsize m turn old next new after
      → (next ≡ opens.refused faults.Slot) × (after.opens ≡ old.opens)
  taken-if true wsize m turn old next new after is s = (s.0, ap (λ (k : Shelf). k.opens) s.2)
  taken-if false wsize m turn old next new after is s = absurd (let no_way : false ≡ true = is in cc)

  pub opener-taken : (machine : Machine) (other : Opened) (wsize : ℕ) (turn : Turn) (old : Shelf) (next : Step) (new : Machine) (after : Shelf) → IsOpener nocto lane slot mode machine
      → finite.get old.opens (lane, slot) ≡ Some other → Starts wsize machine turn old next new after → (next ≡ opens.refused faults.Slot) × (after.opens ≡ old.opens)
  opener-taken machine other wsize turn old next new after i there s = by (subst (λ (n : Machine). Starts wsize n turn old next new after) i.is s)
    where
      place : ◌≡◌ {A = Place} (i.o.lane, i.o.slot) (lane, slot)
      place = ap {B = Place} (λ (n : ℕ). (n, i.o.slot)) i.at.lane_is ∙ ap {B = Place} (λ (n : ℕ). (lane, n)) i.at.slot_is

      is_taken : slot_taken i.m.opener old.opens ≡ true
      is_taken = ap (λ (k : Opener). slot_taken k old.opens) i.opener ∙ ap (λ (o : Option Opened). is_some o) (ap (λ (q : Place). finite.get old.opens q) place ∙ there)

      by : Starts wsize (machines.Path i.m) turn old next new after → (next ≡ opens.refused faults.Slot) × (after.opens ≡ old.opens)
      by t = taken-if (slot_taken i.m.opener old.opens) wsize i.m turn old next t.machine after is_taken t.step

  pub opener-resumes : (machine : Machine) (wsize : ℕ) (turn : Turn) (old : Shelf) (next : Step) (new : Machine) (after : Shelf) → IsOpener nocto lane slot mode machine
      → Resumes wsize machine turn old next new after → Stays old next new after
  opener-resumes machine wsize turn old next new after i s = by (subst (λ (n : Machine). Resumes wsize n turn old next new after) i.is s)
    where
      by : Resumes wsize (machines.Path i.m) turn old next new after → Stays old next new after
      by t = stays-as old next (machines.Path t.machine) new after t.machine_is (path-goes i.m.arrived wsize i.m i.o turn old next t.machine after i.opener i.at t.step)

  -- ---- with what came of a call

  abbrev Took : Machine → Result Reply Fault → Shelf → Step → Machine → Shelf → Type 0
  Took was came old next new after = OpenTook nocto lane slot mode was came old.opens next new after.opens

  puts-over : (there : Option Opened) (was : Machine) (came : Result Reply Fault) (of : Opened) (call : Call) (old new : Opens) (next : Step) (machine : Machine)
      → finite.get old (lane, slot) ≡ there → of.mode ≡ mode → ((k : Call) → Expects was k → k ≡ call) → FindsBy nocto call came of.file
      → opens.PutsOver there (lane, slot) of next old new → OpenTook nocto lane slot mode was came old next machine new
  puts-over (Some other) was came of call old new next machine there mode_is expects finds p = table_stays p.1 (then-refused next machine faults.Slot p.0)
  puts-over None was came of call old new next machine there mode_is expects finds (inl p) = puts_open of call there p.1 mode_is p.0 expects finds
  puts-over None was came of call old new next machine there mode_is expects finds (inr p) = table_stays p.1 (then-refused next machine faults.Memory p.0)

  took-follows : (step : OpeningStep) (was : Machine) (came : Result Reply Fault) (o : OpenFile) (old new : Opens) (next : Step) (machine : Machine) → IsAt nocto lane slot mode o
      → IsOpener nocto lane slot mode machine → ((k : Call) → Expects was k → k ≡ opening.call_of o.opening o.opening.step)
      → ((f : List ℕ) → step ≡ openings.Ended (Ok f) → FindsBy nocto (opening.call_of o.opening o.opening.step) came f)
      → opens.Follows o step next old new → OpenTook nocto lane slot mode was came old next machine new
  took-follows (openings.Send call) was came o old new next machine is i expects finds f = table_stays f.1 (then-goes next machine i (send-not call next f.0))
  took-follows openings.Wait was came o old new next machine is i expects finds f = table_stays f.1 (then-goes next machine i (wait-not next f.0))
  took-follows (openings.Ended (Err fault)) was came o old new next machine is i expects finds f = table_stays f.1 (then-refused next machine fault f.0)
  took-follows (openings.Ended (Ok file)) was came o old new next machine is i expects finds f =
      puts-over (finite.get old (lane, slot)) was came (opens.opened_of o.opening file) (opening.call_of o.opening o.opening.step) old new next machine refl is.mode_is expects (finds file refl)
      (subst (λ (p : Place). opens.Puts p (opens.opened_of o.opening file) next old new) place f)
    where
      place : ◌≡◌ {A = Place} (o.lane, o.slot) (lane, slot)
      place = ap {B = Place} (λ (n : ℕ). (n, o.slot)) is.lane_is ∙ ap {B = Place} (λ (n : ℕ). (lane, n)) is.slot_is

  open-takes : (wsize : ℕ) (m : PathMachine) (o : OpenFile) (sent turn : Turn) (came : Result Reply Fault) (old : Shelf) (next : Step) (new : PathMachine) (after : Shelf) → m.arrived ≡ true
      → m.opener ≡ openers.Open o → IsAt nocto lane slot mode o → paths.ThenTakes wsize m sent turn came old next new after → Took (machines.Path m) came old next (machines.Path new) after
  open-takes wsize m o sent turn came old next new after there at is t =
      by (subst (λ (k : Opener). steps.Takes wsize (file_of k) sent turn came old next (file_of t.opener) after) at t.step)
    where
      by : steps.Takes wsize (files.Open o) sent turn came old next (file_of t.opener) after → Took (machines.Path m) came old next (machines.Path new) after
      by s =
          let again = opening.opening_again o.opening sent turn came old.repeats in
          let led = opening.led_on o.opening turn.now came after.attrs old.pages in
          let later : OpenFile = record o { opening = opening.opening_after again o.opening turn led } in
          took-follows s.steps.step (machines.Path m) came o old.opens after.opens next (machines.Path new) is
          (is-opener m new t.opener later t.machine_is (opener-same t.opener later s.machine_is)
          (at-same nocto lane slot mode o later refl refl (after-same again o.opening turn led) is))
          (arrived-open m there o at)
          (λ f e. subst (λ (b : Bool). FindsBy b (opening.call_of o.opening o.opening.step) came f) is.nocto_is
          (opening-file again o.opening sent turn came after.attrs s.steps.step f old.pages after.pages e s.steps.led))
          s.steps.follows

  path-takes-open : (b : Bool) (wsize : ℕ) (m : PathMachine) (o : OpenFile) (sent turn : Turn) (came : Result Reply Fault) (old : Shelf) (next : Step) (new : PathMachine) (after : Shelf)
      → m.arrived ≡ b → m.opener ≡ openers.Open o → IsAt nocto lane slot mode o → paths.PathTakes b wsize m sent turn came old next new after
      → Took (machines.Path m) came old next (machines.Path new) after
  path-takes-open true wsize m o sent turn came old next new after is at fits t = open-takes wsize m o sent turn came old next new after is at fits t
  path-takes-open false wsize m o sent turn came old next new after is at fits t =
      let f = open-follows t.step wsize t.walked o turn t.heard next new after (ap (λ (w : PathMachine). w.opener) t.walked_is ∙ at) fits t.follows in
      table_stays (f.1 ∙ walk-opens (walking.waiting_name m.walk) m.walk sent turn came old t.step t.walked.walk t.heard t.takes) f.0

  pub opener-takes : (machine : Machine) (wsize : ℕ) (sent turn : Turn) (came : Result Reply Fault) (old : Shelf) (next : Step) (new : Machine) (after : Shelf)
      → IsOpener nocto lane slot mode machine → Takes wsize machine sent turn came old next new after → Took machine came old next new after
  opener-takes machine wsize sent turn came old next new after i s = by (subst (λ (n : Machine). Takes wsize n sent turn came old next new after) i.is s)
    where
      by : Takes wsize (machines.Path i.m) sent turn came old next new after → Took machine came old next new after
      by t = subst (λ (n : Machine). Took n came old next new after) (sym i.is) (subst (λ (n : Machine). Took (machines.Path i.m) came old next n after) (sym t.machine_is)
          (path-takes-open i.m.arrived wsize i.m i.o sent turn came old next t.machine after refl i.opener i.at t.step))
