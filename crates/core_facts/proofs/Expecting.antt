-- For which calls the operations wait that open a file or make one stable.
use Rattle.core_facts.proofs.Prelude.{◌≡◌, ◌≤◌, ◌+◌, ◌-◌, ℕ, Bool, true, false, List, [], Option, Some, None, Result, Ok, refl, sym, ap, subst, ◌∙◌, arith, Verf, Answer, Fault, Call, Reply, is_first, Step, Shelf, Turn, OpenFile, PutFile, Putting, Saving, SyncFile, Syncing, commit_told, file_at, joined, by-step, WalkStep, FileMachine, Machine, Opener, PathMachine, file_of, slot_taken, begun_at, placed, Starts, Resumes, Takes, of_walk, of_opening, of_saving, of_syncing, in_flight}
use Rattle.core_facts.specs.InFlight.{of_file}
use Rattle.world_model.specs.declared.answer.Answer.TheVariants as answers
use Rattle.world_model.specs.declared.answer.Fault.TheVariants as faults
use Rattle.client_shelf.specs.declared.step.Step.TheVariants as nexts
use Rattle.file_ops.specs.declared.put_file.Putting.TheVariants as putting
use Rattle.file_ops.specs.declared.sync_file.Syncing.TheVariants as syncing
use Rattle.file_ops.specs.OpenFile as opens
use Rattle.file_ops.specs.Opening.{opening_again, led_on}
use Rattle.file_ops.specs.Saves as saves
use Rattle.file_ops.specs.Syncs as syncs
use Rattle.name_ops.specs.declared.walk.WalkStep.TheVariants as walks
use Rattle.name_ops.specs.Walking as walking
use Rattle.op_machines.specs.declared.file_machine.FileMachine.TheVariants as files
use Rattle.op_machines.specs.declared.machine.Machine.TheVariants as machines
use Rattle.op_machines.specs.declared.opener.Opener.TheVariants as openers
use Rattle.op_machines.specs.FileSteps as steps
use Rattle.op_machines.specs.PathSteps as paths
use Rattle.core_facts.proofs.AllCounts.{of_path, path-file, path-walk, placed-none}
use Rattle.core_facts.proofs.OpenSteps.{OpenExpects, OpenSteps, open-resumes, open-takes}
use Rattle.core_facts.proofs.NameCounts.{WalkCounts, walk-counts, walk-takes, took-counts}
use Rattle.core_facts.proofs.PutCounts.{of_put}
use Rattle.core_facts.proofs.Putting.{PutExpects, PutHas, PutSteps, put-resumes, put-takes}
use Rattle.core_facts.proofs.Steps.{AskedOf, KeptOf, ThenOf}
use Rattle.core_facts.proofs.SaveCommits.{SaveExpects, WellDone, SaveSteps, goes-steps, takes-steps}

-- ---- syncs

abbrev pub SyncExpects : Syncing → Call → Type 0
SyncExpects syncing.Idle call = Unit {0}
SyncExpects (syncing.Saves saving) call = SaveExpects saving call

-- It saves this file, and C holds where it sends again.
abbrev pub SyncHas : List ℕ → Type 0 → Syncing → Type 0
SyncHas f C syncing.Idle = Unit {0}
SyncHas f C (syncing.Saves saving) = (saving.file ≡ f) × (saves.is_again saving.phase ≡ true → C)

pub record SyncSteps (f : List ℕ) (C : Type 0) (others : ℕ) (old : Syncing) (next : Step) (new : Syncing) : Type 0 where
  pub asked : AskedOf SyncExpects next new
  pub kept : KeptOf SyncExpects others old next new
  pub then_ : ThenOf (SyncHas f C) (WellDone C) next new

module _ (f : List ℕ) (C : Type 0) where
  -- a step with this next and this state after it
  sync-to : (others : ℕ) (old : Syncing) (to : Step) (state : Syncing) (next : Step) (new : Syncing) → next ≡ to → new ≡ state → SyncSteps f C others old to state → SyncSteps f C others old next new
  sync-to others old to state next new is at c =
      subst (λ (n : Step). SyncSteps f C others old n new) (sym is) (subst (λ (s : Syncing). SyncSteps f C others old to s) (sym at) c)

  sync-done : (others : ℕ) (old : Syncing) (answer : Answer) (next : Step) (new : Syncing) → next ≡ nexts.Done answer → WellDone C answer → SyncSteps f C others old next new
  sync-done others old answer next new is well =
      subst (λ (n : Step). SyncSteps f C others old n new) (sym is) (record { asked = tt; kept = tt; then_ = well })

  sync-waits : (others : ℕ) (old : Syncing) (next : Step) (new : Syncing) → next ≡ nexts.Wait → new ≡ old → SyncHas f C old → SyncSteps f C others old next new
  sync-waits others old next new is same has =
      sync-to others old nexts.Wait old next new is same (record { asked = tt; kept = λ some c e. e; then_ = has })

  -- the same call, as long as the save stays in the same kind of phase
  keeps-call : (others : ℕ) (s saved : Saving) → saved.file ≡ s.file → (1 ≤ others → saves.is_sending saved.phase ≡ saves.is_sending s.phase) → 1 ≤ others
      → (c : Call) → SaveExpects s c → SaveExpects saved c
  keeps-call others s saved file stays some c e idle = e (sym (stays some) ∙ idle) ∙ ap saves.commit_of (sym file)

  sync-follows : (others : ℕ) (s : Saving) (gives : _) (saved : Saving) (next : Step) (new : Syncing) → s.file ≡ f → SaveSteps C others s (syncs.sync_next gives) saved
      → next ≡ syncs.sync_next gives → new ≡ syncs.sync_state gives saved → SyncSteps f C others (syncing.Saves s) next new
  sync-follows others s gives saved next new file c is at = by-step
      (λ g. SaveSteps C others s (syncs.sync_next g) saved → next ≡ syncs.sync_next g → new ≡ syncs.sync_state g saved → SyncSteps f C others (syncing.Saves s) next new)
      (λ call k n t. sync-to others (syncing.Saves s) (nexts.Send call) (syncing.Saves saved) next new n t
      (record { asked = k.asks; kept = keeps-call others s saved k.file k.stays; then_ = (k.file ∙ file, k.again) }))
      (λ k n t. sync-to others (syncing.Saves s) nexts.Wait (syncing.Saves saved) next new n t
      (record { asked = tt; kept = keeps-call others s saved k.file k.stays; then_ = (k.file ∙ file, k.again) }))
      (λ result k n t. sync-done others (syncing.Saves s) (syncs.answer_of result) next new n k.ended)
      gives c is at

  pub sync-queues : (b : Bool) (wsize lane : ℕ) (turn : Turn) (s : Saving) (old : Shelf) (next : Step) (new : Syncing) (after : Shelf) → SyncHas f C (syncing.Saves s)
      → syncs.QueuesIf b wsize lane turn s old next new after → SyncSteps f C (of_saving s) (syncing.Saves s) next new
  sync-queues true wsize lane turn s old next new after has q =
      sync-follows (of_saving s) s q.gives q.saved next new has.0 (goes-steps C wsize turn.xid turn.room false s old.back q.gives q.saved after.back has.1 q.goes) q.follows.next_is
      q.follows.state_is
  sync-queues false wsize lane turn s old next new after has q = sync-waits (of_saving s) (syncing.Saves s) next new q.next_is q.state_is has

  pub begun-has : (file : List ℕ) (upto : ℕ) → file ≡ f → SyncHas f C (syncing.Saves (saves.begun file upto))
  begun-has file upto same = (same, λ again. absurd cc)

  pub sync-resumes : (at : Syncing) (wsize : ℕ) (m : SyncFile) (turn : Turn) (old : Shelf) (next : Step) (new : Syncing) (after : Shelf) → SyncHas f C at
      → syncs.Resumes at wsize m turn old next new after → SyncSteps f C (of_syncing at) at next new
  sync-resumes syncing.Idle wsize m turn old next new after has r = sync-waits 0 syncing.Idle next new r.next_is r.state_is tt
  sync-resumes (syncing.Saves s) wsize m turn old next new after has r = sync-queues (is_first m.lane old.order) wsize m.lane turn s old next new after has r

  pub sync-takes : (at : Syncing) (wsize : ℕ) (m : SyncFile) (sent turn : Turn) (came : Result Reply Fault) (old : Shelf) (next : Step) (new : Syncing) (after : Shelf) (others : ℕ)
      → of_syncing at ≡ others + 1 → SyncHas f C at → ((s : Saving) → at ≡ syncing.Saves s → saves.is_sending s.phase ≡ false → (verf : Verf) → commit_told came ≡ Ok verf → C)
      → syncs.Takes at wsize m sent turn came old next new after → SyncSteps f C others at next new
  sync-takes syncing.Idle wsize m sent turn came old next new after others one has told t = absurd (omega (arith, one))
  sync-takes (syncing.Saves s) wsize m sent turn came old next new after others one has told t =
      sync-follows others s t.gives t.saved next new has.0
      (takes-steps C wsize sent turn came old.repeats s old.back t.gives t.saved after.back after.repeats others one has.1 (told s refl) t.takes)
      t.follows.next_is t.follows.state_is

-- at its start the file of its slot is known, or it is refused
pub record SyncStarts (C : List ℕ → Type 0) (next : Step) (new : Syncing) : Type 0 where
  pub f : List ℕ
  pub asked : AskedOf SyncExpects next new
  pub then_ : ThenOf (SyncHas f (C f)) (WellDone (C f)) next new

pub sync-starts : (C : List ℕ → Type 0) (found : Option (List ℕ)) (wsize : ℕ) (m : SyncFile) (turn : Turn) (old : Shelf) (next : Step) (new : Syncing) (after : Shelf)
    → syncs.StartsAt found wsize m turn old next new after → SyncStarts C next new
sync-starts C None wsize m turn old next new after s =
    let d = sync-done [] (C []) 0 syncing.Idle (answers.Refused faults.Slot) next new s.next_is tt in record { f = []; asked = d.asked; then_ = d.then_ }
sync-starts C (Some file) wsize m turn old next new after s =
    let q = sync-queues file (C file) (is_first m.lane (joined m.lane file old).order) wsize m.lane turn (saves.begun file old.seq) (joined m.lane file old) next new after
    (begun-has file (C file) file old.seq refl) s in
    record { f = file; asked = q.asked; then_ = q.then_ }

-- ---- any operation

abbrev pub FileExpects : FileMachine → Call → Type 0
FileExpects (files.Open m) call = Unit {0}
FileExpects (files.Read m) call = Unit {0}
FileExpects (files.Write m) call = Unit {0}
FileExpects (files.Sync m) call = SyncExpects m.state call
FileExpects (files.Close m) call = Unit {0}
FileExpects (files.Truncate m) call = Unit {0}
FileExpects (files.Put m) call = Unit {0}

-- an open or a put, by whether its directory is found
abbrev pub OpenerExpects : Bool → Opener → Call → Type 0
OpenerExpects true (openers.Open m) call = OpenExpects m call
OpenerExpects true (openers.Put m) call = PutExpects m.state call
OpenerExpects false opener call = Unit {0}

-- of the others nothing is said
abbrev pub Expects : Machine → Call → Type 0
Expects (machines.File m) call = FileExpects m call
Expects (machines.Path m) call = OpenerExpects m.arrived m.opener call
Expects (machines.Name m) call = Unit {0}

pub record Expected (others : ℕ) (old : Machine) (next : Step) (new : Machine) : Type 0 where
  pub asked : AskedOf Expects next new
  pub kept : KeptOf Expects others old next new

expected-as : (others : ℕ) (old to : Machine) (next : Step) (new : Machine) → new ≡ to → Expected others old next to → Expected others old next new
expected-as others old to next new is e = subst (λ (m : Machine). Expected others old next m) (sym is) e

-- a machine of which nothing is said
plain-expected : (others : ℕ) (old new : Machine) (next : Step) → ((call : Call) → Expects new call) → Expected others old next new
plain-expected others old new (nexts.Send call) any = record { asked = any call; kept = λ some c e. any c }
plain-expected others old new nexts.Wait any = record { asked = tt; kept = λ some c e. any c }
plain-expected others old new (nexts.Done answer) any = record { asked = tt; kept = tt }

sync-expected : (f : List ℕ) (C : Type 0) (others : ℕ) (m : SyncFile) (next : Step) (state : Syncing) → SyncSteps f C others m.state next state
    → Expected others (machines.File (files.Sync m)) next (machines.File (files.Sync (record m { state = state })))
sync-expected f C others m (nexts.Send call) state s = record { asked = s.asked; kept = s.kept }
sync-expected f C others m nexts.Wait state s = record { asked = tt; kept = s.kept }
sync-expected f C others m (nexts.Done answer) state s = record { asked = tt; kept = tt }

started-expected : (C : List ℕ → Type 0) (old : Machine) (m : SyncFile) (next : Step) (state : Syncing) → SyncStarts C next state
    → Expected 0 old next (machines.File (files.Sync (record m { state = state })))
started-expected C old m (nexts.Send call) state s = record { asked = s.asked; kept = λ some. absurd (omega (arith, some)) }
started-expected C old m nexts.Wait state s = record { asked = tt; kept = λ some. absurd (omega (arith, some)) }
started-expected C old m (nexts.Done answer) state s = record { asked = tt; kept = tt }

file-starts : (m : FileMachine) (wsize : ℕ) (turn : Turn) (old : Shelf) (next : Step) (new : FileMachine) (after : Shelf) → steps.Starts wsize m turn old next new after
    → Expected 0 (machines.File m) next (machines.File new)
file-starts (files.Open m) wsize turn old next new after s = subst (λ (n : FileMachine). Expected 0 (machines.File (files.Open m)) next (machines.File n)) (sym s.machine_is) (plain-expected 0 _ _ next (λ c. tt))
file-starts (files.Read m) wsize turn old next new after s = subst (λ (n : FileMachine). Expected 0 (machines.File (files.Read m)) next (machines.File n)) (sym s.machine_is) (plain-expected 0 _ _ next (λ c. tt))
file-starts (files.Write m) wsize turn old next new after s = subst (λ (n : FileMachine). Expected 0 (machines.File (files.Write m)) next (machines.File n)) (sym s.machine_is) (plain-expected 0 _ _ next (λ c. tt))
file-starts (files.Sync m) wsize turn old next new after s =
    subst (λ (n : FileMachine). Expected 0 (machines.File (files.Sync m)) next (machines.File n)) (sym s.machine_is)
    (started-expected (λ f. Unit {0}) (machines.File (files.Sync m)) m next s.state (sync-starts (λ f. Unit {0}) (file_at m.lane m.slot old.opens) wsize m turn old next s.state after s.step))
file-starts (files.Close m) wsize turn old next new after s = subst (λ (n : FileMachine). Expected 0 (machines.File (files.Close m)) next (machines.File n)) (sym s.machine_is) (plain-expected 0 _ _ next (λ c. tt))
file-starts (files.Truncate m) wsize turn old next new after s = subst (λ (n : FileMachine). Expected 0 (machines.File (files.Truncate m)) next (machines.File n)) (sym s.machine_is) (plain-expected 0 _ _ next (λ c. tt))
file-starts (files.Put m) wsize turn old next new after s = subst (λ (n : FileMachine). Expected 0 (machines.File (files.Put m)) next (machines.File n)) (sym s.machine_is) (plain-expected 0 _ _ next (λ c. tt))

-- the file of a save, for which nothing else is claimed
abbrev pub file-of : Syncing → List ℕ
file-of syncing.Idle = []
file-of (syncing.Saves s) = s.file

has-nothing : (at : Syncing) → SyncHas (file-of at) (Unit {0}) at
has-nothing syncing.Idle = tt
has-nothing (syncing.Saves s) = (refl, λ again. tt)

file-resumes : (m : FileMachine) (wsize : ℕ) (turn : Turn) (old : Shelf) (next : Step) (new : FileMachine) (after : Shelf) → steps.Resumes wsize m turn old next new after
    → Expected (of_file m) (machines.File m) next (machines.File new)
file-resumes (files.Open m) wsize turn old next new after s = subst (λ (n : FileMachine). Expected (of_file (files.Open m)) (machines.File (files.Open m)) next (machines.File n)) (sym s.machine_is) (plain-expected _ _ _ next (λ c. tt))
file-resumes (files.Read m) wsize turn old next new after s = subst (λ (n : FileMachine). Expected (of_file (files.Read m)) (machines.File (files.Read m)) next (machines.File n)) (sym s.machine_is) (plain-expected _ _ _ next (λ c. tt))
file-resumes (files.Write m) wsize turn old next new after s = subst (λ (n : FileMachine). Expected (of_file (files.Write m)) (machines.File (files.Write m)) next (machines.File n)) (sym s.machine_is) (plain-expected _ _ _ next (λ c. tt))
file-resumes (files.Sync m) wsize turn old next new after s =
    subst (λ (n : FileMachine). Expected (of_syncing m.state) (machines.File (files.Sync m)) next (machines.File n)) (sym s.machine_is)
    (sync-expected (file-of m.state) (Unit {0}) (of_syncing m.state) m next s.state
    (sync-resumes (file-of m.state) (Unit {0}) m.state wsize m turn old next s.state after (has-nothing m.state) s.step))
file-resumes (files.Close m) wsize turn old next new after s = subst (λ (n : FileMachine). Expected (of_file (files.Close m)) (machines.File (files.Close m)) next (machines.File n)) (sym s.machine_is) (plain-expected _ _ _ next (λ c. tt))
file-resumes (files.Truncate m) wsize turn old next new after s = subst (λ (n : FileMachine). Expected (of_file (files.Truncate m)) (machines.File (files.Truncate m)) next (machines.File n)) (sym s.machine_is) (plain-expected _ _ _ next (λ c. tt))
file-resumes (files.Put m) wsize turn old next new after s = subst (λ (n : FileMachine). Expected (of_file (files.Put m)) (machines.File (files.Put m)) next (machines.File n)) (sym s.machine_is) (plain-expected _ _ _ next (λ c. tt))

file-takes : (m : FileMachine) (wsize : ℕ) (sent turn : Turn) (came : Result Reply Fault) (old : Shelf) (next : Step) (new : FileMachine) (after : Shelf) (others : ℕ)
    → of_file m ≡ others + 1 → steps.Takes wsize m sent turn came old next new after → Expected others (machines.File m) next (machines.File new)
file-takes (files.Open m) wsize sent turn came old next new after others one s = subst (λ (n : FileMachine). Expected others (machines.File (files.Open m)) next (machines.File n)) (sym s.machine_is) (plain-expected others _ _ next (λ c. tt))
file-takes (files.Read m) wsize sent turn came old next new after others one s = subst (λ (n : FileMachine). Expected others (machines.File (files.Read m)) next (machines.File n)) (sym s.machine_is) (plain-expected others _ _ next (λ c. tt))
file-takes (files.Write m) wsize sent turn came old next new after others one s = subst (λ (n : FileMachine). Expected others (machines.File (files.Write m)) next (machines.File n)) (sym s.machine_is) (plain-expected others _ _ next (λ c. tt))
file-takes (files.Sync m) wsize sent turn came old next new after others one s =
    subst (λ (n : FileMachine). Expected others (machines.File (files.Sync m)) next (machines.File n)) (sym s.machine_is)
    (sync-expected (file-of m.state) (Unit {0}) others m next s.state
    (sync-takes (file-of m.state) (Unit {0}) m.state wsize m sent turn came old next s.state after others one (has-nothing m.state) (λ k at idle verf told. tt) s.step))
file-takes (files.Close m) wsize sent turn came old next new after others one s = subst (λ (n : FileMachine). Expected others (machines.File (files.Close m)) next (machines.File n)) (sym s.machine_is) (plain-expected others _ _ next (λ c. tt))
file-takes (files.Truncate m) wsize sent turn came old next new after others one s = subst (λ (n : FileMachine). Expected others (machines.File (files.Truncate m)) next (machines.File n)) (sym s.machine_is) (plain-expected others _ _ next (λ c. tt))
file-takes (files.Put m) wsize sent turn came old next new after others one s = subst (λ (n : FileMachine). Expected others (machines.File (files.Put m)) next (machines.File n)) (sym s.machine_is) (plain-expected others _ _ next (λ c. tt))

-- ---- opens and puts on their way

-- P is nothing here
none-put : (state : Putting) → PutHas (λ f. Unit {0}) state
none-put putting.Idle = tt
none-put putting.Opens = tt
none-put (putting.Adds file) = tt
none-put (putting.Saves s) = λ again. tt

pub some-put : (a b : PutFile) → files.Put a ≡ files.Put b → b ≡ a
some-put a b e = cc

pub some-open : (a b : OpenFile) → files.Open a ≡ files.Open b → b ≡ a
some-open a b e = cc

no-put : (m : OpenFile) (q : PutFile) → files.Put q ≡ files.Open m → ⊥
no-put m q e = cc

pub no-open : (m : OpenFile) (q : PutFile) → files.Open m ≡ files.Put q → ⊥
no-open m q e = cc

-- a put that has its directory
put-expected : (P : List ℕ → Type 0) (others : ℕ) (m : PathMachine) (p q : PutFile) (next : Step) (old : Machine) → m.arrived ≡ true → PutSteps P others p.state next q.state
    → ((c : Call) → Expects old c → PutExpects p.state c) → Expected others old next (machines.Path (record m { opener = openers.Put q }))
put-expected P others m p q next old there s was = by next s.asked s.kept
  where
    here : (c : Call) → PutExpects q.state c → OpenerExpects m.arrived (openers.Put q) c
    here c e = subst (λ (b : Bool). OpenerExpects b (openers.Put q) c) (sym there) e

    by : (n : Step) → AskedOf PutExpects n q.state → KeptOf PutExpects others p.state n q.state → Expected others old n (machines.Path (record m { opener = openers.Put q }))
    by (nexts.Send call) a k = record { asked = here call a; kept = λ some c e. here c (k some c (was c e)) }
    by nexts.Wait a k = record { asked = tt; kept = λ some c e. here c (k some c (was c e)) }
    by (nexts.Done answer) a k = record { asked = tt; kept = tt }

-- and an open that has it
open-expected : (others : ℕ) (m : PathMachine) (p o : OpenFile) (next : Step) (old : Machine) → m.arrived ≡ true → OpenSteps others p next o
    → (1 ≤ others → (c : Call) → Expects old c → OpenExpects p c) → Expected others old next (machines.Path (record m { opener = openers.Open o }))
open-expected others m p o next old there s was = by next s.asked s.kept
  where
    here : (c : Call) → OpenExpects o c → OpenerExpects m.arrived (openers.Open o) c
    here c e = subst (λ (b : Bool). OpenerExpects b (openers.Open o) c) (sym there) e

    by : (n : Step) → AskedOf OpenExpects n o → KeptOf OpenExpects others p n o → Expected others old n (machines.Path (record m { opener = openers.Open o }))
    by (nexts.Send call) a k = record { asked = here call a; kept = λ some c e. here c (k some c (was some c e)) }
    by nexts.Wait a k = record { asked = tt; kept = λ some c e. here c (k some c (was some c e)) }
    by (nexts.Done answer) a k = record { asked = tt; kept = tt }

-- with the opener that it has then
opener-as : (others : ℕ) (m : PathMachine) (opener to : Opener) (next : Step) (new : PathMachine) (old : Machine) → new ≡ record m { opener = opener } → opener ≡ to
    → Expected others old next (machines.Path (record m { opener = to })) → Expected others old next (machines.Path new)
opener-as others m opener to next new old is at e =
    subst (λ (n : PathMachine). Expected others old next (machines.Path n)) (sym is)
    (subst (λ (o : Opener). Expected others old next (machines.Path (record m { opener = o }))) (sym at) e)

then-expected : (wsize : ℕ) (m : PathMachine) (turn : Turn) (was : Shelf) (next : Step) (new : PathMachine) (after : Shelf) (old : Machine) → m.arrived ≡ true
    → ((p : PutFile) → m.opener ≡ openers.Put p → (c : Call) → Expects old c → PutExpects p.state c)
    → ((o : OpenFile) → m.opener ≡ openers.Open o → 1 ≤ of_opening o.opening → (c : Call) → Expects old c → OpenExpects o c) → paths.ThenResumes wsize m turn was next new after
    → Expected (of_file (file_of m.opener)) old next (machines.Path new)
then-expected wsize m turn was next new after old there expects expects-open t = by m.opener t.opener refl refl t.step
  where
    by : (o k : Opener) → m.opener ≡ o → t.opener ≡ k → steps.Resumes wsize (file_of o) turn was next (file_of k) after → Expected (of_file (file_of o)) old next (machines.Path new)
    by (openers.Open o) (openers.Open k) at to step = opener-as (of_opening o.opening) m t.opener (openers.Open k) next new old t.machine_is to
        (open-expected (of_opening o.opening) m o k next old there
        (subst (λ (n : OpenFile). OpenSteps (of_opening o.opening) o next n) (some-open k (opens.gone o turn) step.machine_is) (open-resumes (of_opening o.opening) o turn next step.next_is))
        (expects-open o at))
    by (openers.Open o) (openers.Put q) at to step = absurd (no-put _ q step.machine_is)
    by (openers.Put p) (openers.Open k) at to step = absurd (no-open k _ step.machine_is)
    by (openers.Put p) (openers.Put q) at to step =
        let s = put-resumes (λ f. Unit {0}) p.state wsize p turn was next step.machine after refl (none-put p.state) step.step in
        opener-as (of_put p) m t.opener (openers.Put q) next new old t.machine_is to
        (put-expected (λ f. Unit {0}) (of_put p) m p q next old there
        (subst (λ (k : PutFile). PutSteps (λ f. Unit {0}) (of_put p) p.state next k.state) (some-put q step.machine step.machine_is) s) (expects p at))

walking-expects : (m : PathMachine) → m.arrived ≡ false → (c : Call) → Expects (machines.Path m) c
walking-expects m on_way c = subst (λ (b : Bool). OpenerExpects b m.opener c) (sym on_way) tt

placed-opens : (dir : List ℕ) (o : Opener) (p : PutFile) → placed dir o ≡ openers.Put p → (c : Call) → PutExpects p.state c
placed-opens dir (openers.Open m) p is c = absurd (cc)
placed-opens dir (openers.Put m) p is c =
    let same : putting.Opens ≡ p.state = ap state_of is in subst (λ (s : Putting). PutExpects s c) same tt
  where
    state_of : Opener → Putting
    state_of (openers.Open m) = putting.Idle
    state_of (openers.Put m) = m.state

-- an open that has just found its directory waits for no call
placed-unasked : (dir : List ℕ) (o : Opener) (p : OpenFile) → placed dir o ≡ openers.Open p → 1 ≤ of_opening p.opening → ⊥
placed-unasked dir (openers.Put m) p is some = cc
placed-unasked dir (openers.Open m) p is some = let same : 0 ≡ of_opening p.opening = ap calls_of is in omega (arith, same, some)
  where
    calls_of : Opener → ℕ
    calls_of (openers.Open m) = of_opening m.opening
    calls_of (openers.Put m) = 0

follows-expected : (step : WalkStep) (wsize : ℕ) (m : PathMachine) (turn : Turn) (was : Shelf) (next : Step) (new : PathMachine) (after : Shelf) (others : ℕ) (old : Machine) → m.arrived ≡ false
    → WalkCounts step others (of_walk m.walk) → paths.Follows step wsize m turn was next new after → Expected others old next (machines.Path new)
follows-expected (walks.Send call) wsize m turn was next new after others old on_way c f =
    subst (λ (n : PathMachine). Expected others old next (machines.Path n)) (sym f.1) (plain-expected others old (machines.Path m) next (walking-expects m on_way))
follows-expected walks.Wait wsize m turn was next new after others old on_way c f =
    subst (λ (n : PathMachine). Expected others old next (machines.Path n)) (sym f.1) (plain-expected others old (machines.Path m) next (walking-expects m on_way))
follows-expected (walks.At dir) wsize m turn was next new after others old on_way c f =
    subst (λ (n : ℕ). Expected n old next (machines.Path new)) (placed-none dir m.opener ∙ sym c.0)
    (then-expected wsize (record m { opener = placed dir m.opener; arrived = true }) turn was next new after old refl (λ p is k e. placed-opens dir m.opener p is k)
    (λ o is some k e. absurd (placed-unasked dir m.opener o is some)) f)
follows-expected (walks.Refused fault) wsize m turn was next new after others old on_way c f =
    subst (λ (n : Step). Expected others old n (machines.Path new)) (sym f.0) (record { asked = tt; kept = tt })

-- what an arrived put expects is what its save does
pub arrived-expects : (m : PathMachine) → m.arrived ≡ true → (p : PutFile) → m.opener ≡ openers.Put p → (c : Call) → Expects (machines.Path m) c → PutExpects p.state c
arrived-expects m there p is c e = subst (λ (o : Opener). OpenerExpects true o c) is (subst (λ (b : Bool). OpenerExpects b m.opener c) there e)

-- and what an arrived open expects is the call of its step
pub arrived-open : (m : PathMachine) → m.arrived ≡ true → (o : OpenFile) → m.opener ≡ openers.Open o → (c : Call) → Expects (machines.Path m) c → OpenExpects o c
arrived-open m there o is c e = subst (λ (k : Opener). OpenerExpects true k c) is (subst (λ (b : Bool). OpenerExpects b m.opener c) there e)

path-resumes : (b : Bool) (wsize : ℕ) (m : PathMachine) (turn : Turn) (was : Shelf) (next : Step) (new : PathMachine) (after : Shelf) → m.arrived ≡ b
    → paths.PathResumes b wsize m turn was next new after → Expected (of_path m) (machines.Path m) next (machines.Path new)
path-resumes true wsize m turn was next new after is r =
    subst (λ (n : ℕ). Expected n (machines.Path m) next (machines.Path new)) (sym (path-file m is))
    (then-expected wsize m turn was next new after (machines.Path m) is (arrived-expects m is) (λ o at some. arrived-open m is o at) r)
path-resumes false wsize m turn was next new after is r =
    subst (λ (n : ℕ). Expected n (machines.Path m) next (machines.Path new)) (sym (path-walk m is))
    (follows-expected (walking.go_next m.walk turn was) wsize (record m { walk = walking.go_after m.walk turn was }) turn (walking.go_shelf m.walk turn was) next new after (of_walk m.walk)
    (machines.Path m) is (walk-counts m.walk turn was) r)

-- of a step before which none of its calls waits only the call that it asks for counts
none-expected : (others : ℕ) (was old : Machine) (next : Step) (new : Machine) → Expected others was next new → Expected 0 old next new
none-expected others was old (nexts.Send call) new e = record { asked = e.asked; kept = λ some. absurd (omega (arith, some)) }
none-expected others was old nexts.Wait new e = record { asked = tt; kept = λ some. absurd (omega (arith, some)) }
none-expected others was old (nexts.Done answer) new e = record { asked = tt; kept = tt }

path-starts : (taken : Bool) (wsize : ℕ) (m : PathMachine) (turn : Turn) (was : Shelf) (next : Step) (new : PathMachine) (after : Shelf)
    → paths.StartsIf taken wsize m turn was next new after → Expected 0 (machines.Path m) next (machines.Path new)
path-starts true wsize m turn was next new after s = subst (λ (n : Step). Expected 0 (machines.Path m) n (machines.Path new)) (sym s.0) (record { asked = tt; kept = tt })
path-starts false wsize m turn was next new after s =
    none-expected (of_path (record m { opener = begun_at (turn.moment - 1) m.opener })) (machines.Path (record m { opener = begun_at (turn.moment - 1) m.opener })) (machines.Path m) next (machines.Path new)
    (path-resumes m.arrived wsize (record m { opener = begun_at (turn.moment - 1) m.opener }) turn was next new after refl s)

path-takes : (b : Bool) (wsize : ℕ) (m : PathMachine) (sent turn : Turn) (came : Result Reply Fault) (was : Shelf) (next : Step) (new : PathMachine) (after : Shelf) (others : ℕ) → m.arrived ≡ b
    → of_path m ≡ others + 1 → paths.PathTakes b wsize m sent turn came was next new after → Expected others (machines.Path m) next (machines.Path new)
path-takes true wsize m sent turn came was next new after others is one t = by m.opener t.opener refl refl (sym (path-file m is) ∙ one) t.step
  where
    by : (o k : Opener) → m.opener ≡ o → t.opener ≡ k → of_file (file_of o) ≡ others + 1 → steps.Takes wsize (file_of o) sent turn came was next (file_of k) after
        → Expected others (machines.Path m) next (machines.Path new)
    by (openers.Open o) (openers.Open k) at to count step = opener-as others m t.opener (openers.Open k) next new (machines.Path m) t.machine_is to
        (open-expected others m o k next (machines.Path m) is
        (subst (λ (n : OpenFile). OpenSteps others o next n) (some-open k _ step.machine_is)
        (open-takes (opening_again o.opening sent turn came was.repeats) o sent turn (led_on o.opening turn.now came after.attrs was.pages) step.steps.step next was.pages after.pages was.opens
        after.opens others count step.steps.led step.steps.follows)) (λ some. arrived-open m is o at))
    by (openers.Open o) (openers.Put q) at to count step = absurd (no-put _ q step.machine_is)
    by (openers.Put p) (openers.Open k) at to count step = absurd (no-open k _ step.machine_is)
    by (openers.Put p) (openers.Put q) at to count step =
        let s = put-takes (λ f. Unit {0}) p.state wsize p sent turn came was next step.machine after others refl count (none-put p.state) (λ k at idle verf told. tt) step.step in
        opener-as others m t.opener (openers.Put q) next new (machines.Path m) t.machine_is to
        (put-expected (λ f. Unit {0}) others m p q next (machines.Path m) is
        (subst (λ (k : PutFile). PutSteps (λ f. Unit {0}) others p.state next k.state) (some-put q step.machine step.machine_is) s) (arrived-expects m is p at))
path-takes false wsize m sent turn came was next new after others is one t =
    let took = walk-takes m.walk sent turn came was t.step t.walked.walk t.heard others (sym (path-walk m is) ∙ one) t.takes in
    follows-expected t.step wsize t.walked turn t.heard next new after others (machines.Path m) (ap (λ (w : PathMachine). w.arrived) t.walked_is ∙ is)
    (took-counts others t.step t.walked.walk took) t.follows

-- ---- any operation

pub expects-starts : (m : Machine) (wsize : ℕ) (turn : Turn) (old : Shelf) (next : Step) (new : Machine) (after : Shelf) → Starts wsize m turn old next new after → Expected 0 m next new
expects-starts (machines.File m) wsize turn old next new after s = expected-as 0 (machines.File m) (machines.File s.machine) next new s.machine_is (file-starts m wsize turn old next s.machine after s.step)
expects-starts (machines.Path m) wsize turn old next new after s =
    expected-as 0 (machines.Path m) (machines.Path s.machine) next new s.machine_is (path-starts (slot_taken m.opener old.opens) wsize m turn old next s.machine after s.step)
expects-starts (machines.Name m) wsize turn old next new after s = expected-as 0 (machines.Name m) (machines.Name s.machine) next new s.machine_is (plain-expected 0 _ _ next (λ c. tt))

pub expects-resumes : (m : Machine) (wsize : ℕ) (turn : Turn) (old : Shelf) (next : Step) (new : Machine) (after : Shelf) → Resumes wsize m turn old next new after
    → Expected (in_flight m) m next new
expects-resumes (machines.File m) wsize turn old next new after s = expected-as _ (machines.File m) (machines.File s.machine) next new s.machine_is (file-resumes m wsize turn old next s.machine after s.step)
expects-resumes (machines.Path m) wsize turn old next new after s =
    expected-as (of_path m) (machines.Path m) (machines.Path s.machine) next new s.machine_is (path-resumes m.arrived wsize m turn old next s.machine after refl s.step)
expects-resumes (machines.Name m) wsize turn old next new after s = expected-as _ (machines.Name m) (machines.Name s.machine) next new s.machine_is (plain-expected _ _ _ next (λ c. tt))

pub expects-takes : (m : Machine) (wsize : ℕ) (sent turn : Turn) (came : Result Reply Fault) (old : Shelf) (next : Step) (new : Machine) (after : Shelf) (others : ℕ)
    → in_flight m ≡ others + 1 → Takes wsize m sent turn came old next new after → Expected others m next new
expects-takes (machines.File m) wsize sent turn came old next new after others one s =
    expected-as others (machines.File m) (machines.File s.machine) next new s.machine_is (file-takes m wsize sent turn came old next s.machine after others one s.step)
expects-takes (machines.Path m) wsize sent turn came old next new after others one s =
    expected-as others (machines.Path m) (machines.Path s.machine) next new s.machine_is (path-takes m.arrived wsize m sent turn came old next s.machine after others refl one s.step)
expects-takes (machines.Name m) wsize sent turn came old next new after others one s =
    expected-as others (machines.Name m) (machines.Name s.machine) next new s.machine_is (plain-expected others _ _ next (λ c. tt))
