-- A sync that went well: COMMIT of the file that its slot holds was answered 0 since it began.
use Rattle.core_facts.proofs.Prelude.{◌≡◌, ◌+◌, ℕ, List, [], ◌∷◌, ◌++◌, length, Option, Some, None, option_map, Result, refl, sym, ap, subst, ◌∙◌, Opened, Answer, Fault, Value, Entry, Began, Reply, Op, Modes, Ended, is_first, Step, Shelf, Turn, SyncFile, Syncing, joined, Mounted, Machine, machine_of, Starts, Resumes, Takes, State, Busy, Over, Setup, View, of_saving, of_syncing, in_flight, Reaches}
use Rattle.std.specs.FinMap as finite
use Rattle.world_model.specs.declared.answer.Answer.TheVariants as answers
use Rattle.world_model.specs.declared.answer.Fault.TheVariants as faults
use Rattle.world_model.specs.declared.op.Op.TheVariants as ops
use Rattle.world_model.specs.Commits.{Committed}
use Rattle.world_model.proofs.Growth.{Committed-grow}
use Rattle.client_shelf.specs.declared.step.Step.TheVariants as nexts
use Rattle.file_ops.specs.declared.sync_file.Syncing.TheVariants as syncing
use Rattle.file_ops.specs.Saves as saves
use Rattle.file_ops.specs.Syncs as syncs
use Rattle.op_machines.specs.declared.file_machine.FileMachine.TheVariants as files
use Rattle.op_machines.specs.declared.machine.Machine.TheVariants as machines
use Rattle.core_facts.proofs.AllCounts.{begins-unbegun}
use Rattle.core_facts.proofs.Expecting.{SyncHas, SyncSteps, sync-queues, begun-has, sync-resumes, sync-takes}
use Rattle.core_facts.proofs.HeldSlots.{Held, held-later, always-later, held-begins, Given, is-given}
use Rattle.core_facts.proofs.SaveCommits.{WellDone}
use Rattle.core_facts.proofs.Steps.{ThenOf}
use Rattle.core_facts.proofs.Stories.{IsTold, LawsOver, answered-over}
use Rattle.core_facts.proofs.Syncing.{commit-shown, committed-later, has-later}

-- it saves the file of its slot
pub record SyncRuns (m : Modes) (h : List Entry) (x : ℕ) (op : Op) (machine : Machine) : Type 0 where
  pub held : Held m h x op
  pub s : SyncFile
  pub is : machine ≡ machines.File (files.Sync s)
  pub has : SyncHas held.o.file (Committed h x (length h) held.o.file) s.state

pub record SyncEnds (m : Modes) (h : List Entry) (x : ℕ) (op : Op) : Type 0 where
  pub held : Held m h x op
  pub committed : Committed h x (length h) held.o.file

abbrev StateStory : Modes → List Entry → ℕ → Op → State → Type 0
StateStory m h x op (Busy machine) = SyncRuns m h x op machine
StateStory m h x op (Over (answers.Done value)) = SyncEnds m h x op
StateStory m h x op (Over (answers.Refused fault)) = Unit {0}

abbrev SyncStory : Modes → List Entry → ℕ → Op → State → Type 0
SyncStory m h x op state = (slot : ℕ) → op ≡ ops.Sync slot → StateStory m h x op state

abbrev Then : Modes → List Entry → ℕ → Op → Step → Machine → Type 0
Then m h x op next new = ThenOf (λ k. StateStory m h x op (Busy k)) (λ a. StateStory m h x op (Over a)) next new

-- of every operation that is a sync
for-slot : (m : Modes) (h : List Entry) (x : ℕ) (op : Op) (next : Step) (new : Machine) → ((slot : ℕ) → op ≡ ops.Sync slot → Then m h x op next new)
    → ThenOf (λ k. SyncStory m h x op (Busy k)) (λ a. SyncStory m h x op (Over a)) next new
for-slot m h x op (nexts.Send call) new t = t
for-slot m h x op nexts.Wait new t = t
for-slot m h x op (nexts.Done answer) new t = t

then-as : (m : Modes) (h : List Entry) (x : ℕ) (op : Op) (next : Step) (to new : Machine) → new ≡ to → Then m h x op next to → Then m h x op next new
then-as m h x op next to new is t = subst (Then m h x op next) (sym is) t

answer-ends : (m : Modes) (h : List Entry) (x : ℕ) (op : Op) (held : Held m h x op) (answer : Answer) → WellDone (Committed h x (length h) held.o.file) answer → StateStory m h x op (Over answer)
answer-ends m h x op held (answers.Done value) w = record { held = held; committed = w }
answer-ends m h x op held (answers.Refused fault) w = tt

-- what a step of its machine leads to
then-runs : (m : Modes) (h : List Entry) (x : ℕ) (op : Op) (held : Held m h x op) (s : SyncFile) (next : Step) (state : Syncing)
    → ThenOf (SyncHas held.o.file (Committed h x (length h) held.o.file)) (WellDone (Committed h x (length h) held.o.file)) next state
    → Then m h x op next (machines.File (files.Sync (record s { state = state })))
then-runs m h x op held s (nexts.Send call) state t = record { held = held; s = record s { state = state }; is = refl; has = t }
then-runs m h x op held s nexts.Wait state t = record { held = held; s = record s { state = state }; is = refl; has = t }
then-runs m h x op held s (nexts.Done answer) state t = answer-ends m h x op held answer t

refused-then : (m : Modes) (h : List Entry) (x : ℕ) (op : Op) (fault : Fault) (next : Step) (new : Machine) → next ≡ nexts.Done (answers.Refused fault) → Then m h x op next new
refused-then m h x op fault next new is = subst (λ (n : Step). Then m h x op n new) (sym is) tt

-- as it begins
begins-at : (m : Modes) (h : List Entry) (lane line slot : ℕ) (at : Option Opened) (wsize : ℕ) (s : SyncFile) (turn : Turn) (old : Shelf) (next : Step) (state : Syncing) (new : Machine) (after : Shelf)
    → Given m h lane old → finite.get old.opens (lane, slot) ≡ at → new ≡ machines.File (files.Sync (record s { state = state }))
    → syncs.StartsAt (option_map (λ (o : Opened). o.file) at) wsize s turn old next state after
    → Then m (h ++ Began lane line (ops.Sync slot) ∷ []) (length h) (ops.Sync slot) next new
begins-at m h lane line slot None wsize s turn old next state new after given there is t =
    refused-then m (h ++ Began lane line (ops.Sync slot) ∷ []) (length h) (ops.Sync slot) faults.Slot next new t.next_is
begins-at m h lane line slot (Some o) wsize s turn old next state new after given there is t =
    then-as m later (length h) (ops.Sync slot) next (machines.File (files.Sync (record s { state = state }))) new is
    (then-runs m later (length h) (ops.Sync slot) held s next state steps.then_)
  where
    later : List Entry
    later = h ++ Began lane line (ops.Sync slot) ∷ []

    held : Held m later (length h) (ops.Sync slot)
    held = held-begins m h lane line slot (ops.Sync slot) o old given refl there refl

    steps : SyncSteps o.file (Committed later (length h) (length later) o.file) (of_saving (saves.begun o.file old.seq)) (syncing.Saves (saves.begun o.file old.seq)) next state
    steps = sync-queues o.file (Committed later (length h) (length later) o.file) (is_first s.lane (joined s.lane o.file old).order) wsize s.lane turn (saves.begun o.file old.seq) (joined s.lane o.file old)
        next state after (begun-has o.file (Committed later (length h) (length later) o.file) o.file old.seq refl) t

sync-begins : (m : Modes) (mounted : Mounted) (h : List Entry) (lane line slot : ℕ) (wsize : ℕ) (turn : Turn) (old : Shelf) (next : Step) (new : Machine) (after : Shelf) → Given m h lane old
    → Starts wsize (machine_of mounted lane (ops.Sync slot)) turn old next new after → Then m (h ++ Began lane line (ops.Sync slot) ∷ []) (length h) (ops.Sync slot) next new
sync-begins m mounted h lane line slot wsize turn old next new after given s =
    begins-at m h lane line slot (finite.get old.opens (lane, slot)) wsize (record { lane = lane; slot = slot; state = syncing.Idle }) turn old next s.step.state new after given refl
    (s.machine_is ∙ ap machines.File s.step.machine_is) s.step.step

sync-goes-on : (m : Modes) (h : List Entry) (x : ℕ) (op : Op) (machine : Machine) (wsize : ℕ) (turn : Turn) (old : Shelf) (next : Step) (new : Machine) (after : Shelf) → SyncRuns m h x op machine
    → Resumes wsize machine turn old next new after → Then m h x op next new
sync-goes-on m h x op machine wsize turn old next new after k r = by (subst (λ (n : Machine). Resumes wsize n turn old next new after) k.is r)
  where
    by : Resumes wsize (machines.File (files.Sync k.s)) turn old next new after → Then m h x op next new
    by s =
        let t = sync-resumes k.held.o.file (Committed h x (length h) k.held.o.file) k.s.state wsize k.s turn old next s.step.state after k.has s.step.step in
        then-as m h x op next (machines.File (files.Sync (record k.s { state = s.step.state }))) new (s.machine_is ∙ ap machines.File s.step.machine_is)
        (then-runs m h x op k.held k.s next s.step.state t.then_)

sync-hears : (m : Modes) (h : List Entry) (x : ℕ) (op : Op) (machine : Machine) (wsize : ℕ) (sent turn : Turn) (came : Result Reply Fault) (old : Shelf) (next : Step) (new : Machine) (after : Shelf)
    (others : ℕ) → SyncRuns m h x op machine → in_flight machine ≡ others + 1 → IsTold h x machine came → Takes wsize machine sent turn came old next new after → Then m h x op next new
sync-hears m h x op machine wsize sent turn came old next new after others k one told t =
    by (sym (ap in_flight k.is) ∙ one) (subst (λ (n : Machine). IsTold h x n came) k.is told) (subst (λ (n : Machine). Takes wsize n sent turn came old next new after) k.is t)
  where
    by : of_syncing k.s.state ≡ others + 1 → IsTold h x (machines.File (files.Sync k.s)) came → Takes wsize (machines.File (files.Sync k.s)) sent turn came old next new after
        → Then m h x op next new
    by count heard s =
        let u = sync-takes k.held.o.file (Committed h x (length h) k.held.o.file) k.s.state wsize k.s sent turn came old next s.step.state after others count k.has
        (commit-shown h x k.s k.held.o.file came k.has heard) s.step.step in
        then-as m h x op next (machines.File (files.Sync (record k.s { state = s.step.state }))) new (s.machine_is ∙ ap machines.File s.step.machine_is)
        (then-runs m h x op k.held k.s next s.step.state u.then_)

state-later : (m : Modes) (h : List Entry) (e : Entry) (x : ℕ) (op : Op) (state : State) → StateStory m h x op state → StateStory m (h ++ e ∷ []) x op state
state-later m h e x op (Busy machine) s = record { held = held-later m h e x op s.held; s = s.s; is = s.is; has = has-later h e x s.held.o.file s.s.state s.has }
state-later m h e x op (Over (answers.Done value)) s = record { held = held-later m h e x op s.held; committed = committed-later h e x s.held.o.file s.committed }
state-later m h e x op (Over (answers.Refused fault)) s = tt

sync-laws : (m : Modes) (mounted : Mounted) → LawsOver (Given m) (machine_of mounted) (SyncStory m)
sync-laws m mounted = record {
  starts = λ h lane line op wsize turn old next new after given s.
      for-slot m (h ++ Began lane line op ∷ []) (length h) op next new (λ slot is.
      subst (λ (o : Op). Then m (h ++ Began lane line o ∷ []) (length h) o next new) (sym is)
      (sync-begins m mounted h lane line slot wsize turn old next new after given (subst (λ (o : Op). Starts wsize (machine_of mounted lane o) turn old next new after) is s)));
  resumes = λ h x op machine wsize turn old next new after story r.
      for-slot m h x op next new (λ slot is. sync-goes-on m h x op machine wsize turn old next new after (story slot is) r);
  takes = λ h x op machine wsize sent turn came old next new after others story one told t.
      for-slot m h x op next new (λ slot is. sync-hears m h x op machine wsize sent turn came old next new after others (story slot is) one told t);
  grows = λ h e x op state story slot is. state-later m h e x op state (story slot is);
  lost = λ h x op shown slot is. tt;
}

-- a sync that went well, in the history as it is later
pub record SyncedSlot (m : Modes) (h : List Entry) (x y slot : ℕ) : Type 0 where
  pub held : Held m h x (ops.Sync slot)
  pub committed : Committed h x y held.o.file

ends-later : (m : Modes) (h : List Entry) (e : Entry) (x y slot : ℕ) → SyncedSlot m h x y slot → SyncedSlot m (h ++ e ∷ []) x y slot
ends-later m h e x y slot s = record { held = held-later m h e x (ops.Sync slot) s.held; committed = Committed-grow h (e ∷ []) x y s.held.o.file s.committed }

pub synced-ended : (m : Modes) (mounted : Mounted) → mounted.nocto ≡ m.nocto → (setup : Setup) (h : List Entry) (v : View) → Reaches (machine_of mounted) setup h v
    → (lane x slot y : ℕ) (value : Value) → Ended h lane x (ops.Sync slot) y (answers.Done value) → SyncedSlot m h x y slot
synced-ended m mounted same setup h v r lane x slot y value ended =
    let s = answered-over (machine_of mounted) (begins-unbegun mounted) setup (Given m) (is-given m mounted same setup) (SyncStory m) (sync-laws m mounted) h v r lane x (ops.Sync slot) y
    (answers.Done value) ended in
    let k = s.story slot refl in
    subst (λ (g : List Entry). SyncedSlot m g x y slot) (sym s.is)
    (always-later (λ g. SyncedSlot m g x y slot) (λ g e t. ends-later m g e x y slot t) s.before s.after
    (record { held = k.held; committed = subst (λ (n : ℕ). Committed s.before x n k.held.o.file) s.there k.committed }))
