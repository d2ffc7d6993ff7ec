-- A sync, a close or a truncate works on the file that its slot holds as it begins.
use Rattle.core_answers.proofs.Prelude.{◌≡◌, ◌⊎◌, inl, inr, ℕ, Bool, true, false, List, [], ◌∷◌, ◌++◌, length, Option, Some, None, option_map, Result, Ok, refl, sym, ap, subst, ◌∙◌, if◌then◌else◌, Mode, Opened, of_file, last_end, Answer, Fault, Entry, Began, Reply, Op, Modes, goes_again, is_first, Step, Shelf, Turn, CloseFile, Closing, Removal, Saving, SyncFile, Syncing, TruncateFile, Truncating, refusal_of, remove_busy, of_open, in_mode, joined, by-step, Mounted, FileMachine, Machine, machine_of, Starts, Resumes, Takes, State, Busy, Over, Held, held-later, held-begins, Given, ThenOf}
use Rattle.std.specs.FinMap as finite
use Rattle.nfs_types.specs.declared.mode.Mode.TheVariants as modes
use Rattle.world_model.specs.declared.answer.Answer.TheVariants as answers
use Rattle.world_model.specs.declared.answer.Fault.TheVariants as faults
use Rattle.world_model.specs.declared.op.Op.TheVariants as ops
use Rattle.claims.specs.Rights.{can_write}
use Rattle.client_shelf.specs.declared.step.Step.TheVariants as nexts
use Rattle.file_ops.specs.declared.close_file.Closing.TheVariants as closing
use Rattle.file_ops.specs.declared.sync_file.Syncing.TheVariants as syncing
use Rattle.file_ops.specs.declared.truncate_file.Truncating.TheVariants as truncating
use Rattle.file_ops.specs.Closes as closes
use Rattle.file_ops.specs.Saves as saves
use Rattle.file_ops.specs.Syncs as syncs
use Rattle.file_ops.specs.TruncateFile as truncates
use Rattle.op_machines.specs.declared.file_machine.FileMachine.TheVariants as files
use Rattle.op_machines.specs.declared.machine.Machine.TheVariants as machines
use Rattle.op_machines.specs.FileSteps as steps
use Rattle.core_facts.proofs.Stories.{LawsOver}
use Rattle.core_answers.proofs.asks.SavedCalls.{SavesOn, goes-on, takes-on}

-- ---- which file it is

module _ (f : List ℕ) where
  abbrev pub SyncAt : Syncing → Type 0
  SyncAt syncing.Idle = Unit {0}
  SyncAt (syncing.Saves s) = s.file ≡ f

  abbrev pub CloseAt : Closing → Type 0
  CloseAt closing.Idle = Unit {0}
  CloseAt (closing.Queued s) = s.file ≡ f
  CloseAt (closing.Saves s) = s.file ≡ f
  CloseAt (closing.ToRemove removal) = removal.file ≡ f
  CloseAt (closing.Removing removal) = removal.file ≡ f

  abbrev pub CutAt : Truncating → Type 0
  CutAt truncating.Idle = Unit {0}
  CutAt (truncating.Queued file upto) = file ≡ f
  CutAt (truncating.Asked file upto) = file ≡ f

  -- ---- syncs

  sync-as : (to state : Syncing) → state ≡ to → SyncAt to → SyncAt state
  sync-as to state is k = subst SyncAt (sym is) k

  sync-follows : (gives : _) (saved : Saving) (state : Syncing) → SavesOn f (syncs.sync_next gives) saved → state ≡ syncs.sync_state gives saved → SyncAt state
  sync-follows gives saved state k is = by-step
      (λ g. SavesOn f (syncs.sync_next g) saved → state ≡ syncs.sync_state g saved → SyncAt state)
      (λ call j is. sync-as (syncing.Saves saved) state is j.file)
      (λ j is. sync-as (syncing.Saves saved) state is j.file)
      (λ result j is. sync-as syncing.Idle state is tt)
      gives k is

  sync-queues : (b : Bool) (wsize lane : ℕ) (turn : Turn) (s : Saving) (was : Shelf) (next : Step) (state : Syncing) (after : Shelf) → s.file ≡ f
      → syncs.QueuesIf b wsize lane turn s was next state after → SyncAt state
  sync-queues true wsize lane turn s was next state after is q =
      sync-follows q.gives q.saved state (goes-on f wsize turn.xid turn.room false s was.back q.gives q.saved after.back is q.goes) q.follows.state_is
  sync-queues false wsize lane turn s was next state after is q = sync-as (syncing.Saves s) state q.state_is is

  sync-resumes : (at : Syncing) (wsize : ℕ) (m : SyncFile) (turn : Turn) (old : Shelf) (next : Step) (state : Syncing) (after : Shelf) → SyncAt at
      → syncs.Resumes at wsize m turn old next state after → SyncAt state
  sync-resumes syncing.Idle wsize m turn old next state after k r = sync-as syncing.Idle state r.state_is tt
  sync-resumes (syncing.Saves s) wsize m turn old next state after k r = sync-queues (is_first m.lane old.order) wsize m.lane turn s old next state after k r

  sync-takes : (at : Syncing) (wsize : ℕ) (m : SyncFile) (sent turn : Turn) (came : Result Reply Fault) (old : Shelf) (next : Step) (state : Syncing) (after : Shelf) → SyncAt at
      → syncs.Takes at wsize m sent turn came old next state after → SyncAt state
  sync-takes syncing.Idle wsize m sent turn came old next state after k t = sync-as syncing.Idle state t.state_is tt
  sync-takes (syncing.Saves s) wsize m sent turn came old next state after k t =
      sync-follows t.gives t.saved state (takes-on f wsize sent turn came old.repeats s old.back t.gives t.saved after.back after.repeats k t.takes) t.follows.state_is

  -- ---- closes

  close-as : (to state : Closing) → state ≡ to → CloseAt to → CloseAt state
  close-as to state is k = subst CloseAt (sym is) k

  close-asks : (room : Bool) (removal : Removal) (state : Closing) → removal.file ≡ f → state ≡ closes.ask_state room removal → CloseAt state
  close-asks true removal state k is = close-as (closing.Removing removal) state is k
  close-asks false removal state k is = close-as (closing.ToRemove removal) state is k

  close-ends : (place : Option (List ℕ × List ℕ)) (lane : ℕ) (room : Bool) (file : List ℕ) (why : Option Fault) (was : Shelf) (next : Step) (state : Closing) (new : Shelf) → file ≡ f
      → closes.EndsAt place lane room file why was next state new → CloseAt state
  close-ends None lane room file why was next state new is e = close-as closing.Idle state e.state_is tt
  close-ends (Some place) lane room file why was next state new is e = close-asks room (record { file = file; dir = place.0; name = place.1; refusal = why }) state is e.state_is

  close-waits : (begun : Bool) (s : Saving) → s.file ≡ f → CloseAt (closes.waits_as begun s)
  close-waits true s is = is
  close-waits false s is = is

  close-follows : (gives : _) (lane slot : ℕ) (room begun : Bool) (saved : Saving) (was : Shelf) (next : Step) (state : Closing) (new : Shelf) → SavesOn f (syncs.sync_next gives) saved
      → closes.Follows gives lane slot room begun saved was next state new → CloseAt state
  close-follows gives lane slot room begun saved was next state new k e = by-step
      (λ g. SavesOn f (syncs.sync_next g) saved → closes.Follows g lane slot room begun saved was next state new → CloseAt state)
      (λ call j l. close-as (closing.Saves saved) state l.1 j.file)
      (λ j l. close-as (closes.waits_as begun saved) state l.1 (close-waits begun saved j.file))
      (λ result j l. close-ends l.place lane room saved.file (refusal_of result) l.freed next state new j.file l.ends)
      gives k e

  close-goes : (wsize lane slot : ℕ) (turn : Turn) (begun : Bool) (s : Saving) (was : Shelf) (next : Step) (state : Closing) (new : Shelf) → s.file ≡ f
      → closes.GoesOn wsize lane slot turn begun s was next state new → CloseAt state
  close-goes wsize lane slot turn begun s was next state new is g =
      close-follows g.gives lane slot turn.room begun g.saved g.gone next state new (goes-on f wsize turn.xid turn.room false s was.back g.gives g.saved g.gone.back is g.goes) g.follows

  close-begins : (end : Option ℕ) (wsize lane slot : ℕ) (turn : Turn) (s : Saving) (was : Shelf) (next : Step) (state : Closing) (new : Shelf) → s.file ≡ f
      → closes.Begins end wsize lane slot turn s was next state new → CloseAt state
  close-begins None wsize lane slot turn s was next state new is b = close-ends b.place lane turn.room s.file None b.freed next state new is b.ends
  close-begins (Some end) wsize lane slot turn s was next state new is b = close-goes wsize lane slot turn false s was next state new is b

  close-queues : (b : Bool) (wsize lane slot : ℕ) (turn : Turn) (s : Saving) (was : Shelf) (next : Step) (state : Closing) (new : Shelf) → s.file ≡ f
      → closes.QueuesIf b wsize lane slot turn s was next state new → CloseAt state
  close-queues true wsize lane slot turn s was next state new is q = close-begins (last_end (of_file s.file was.back).segments) wsize lane slot turn s was next state new is q
  close-queues false wsize lane slot turn s was next state new is q = close-as (closing.Queued s) state q.state_is is

  close-on : (b : Bool) (wsize lane slot : ℕ) (turn : Turn) (s : Saving) (was : Shelf) (next : Step) (state : Closing) (new : Shelf) → s.file ≡ f
      → closes.GoesOnIf b wsize lane slot turn s was next state new → CloseAt state
  close-on true wsize lane slot turn s was next state new is g = close-goes wsize lane slot turn true s was next state new is g
  close-on false wsize lane slot turn s was next state new is g = close-as (closing.Saves s) state g.state_is is

  close-resumes : (at : Closing) (wsize : ℕ) (m : CloseFile) (turn : Turn) (old : Shelf) (next : Step) (state : Closing) (after : Shelf) → CloseAt at
      → closes.Resumes at wsize m turn old next state after → CloseAt state
  close-resumes closing.Idle wsize m turn old next state after k r = close-as closing.Idle state r.state_is tt
  close-resumes (closing.Queued s) wsize m turn old next state after k r = close-queues (is_first m.lane old.order) wsize m.lane m.slot turn s old next state after k r
  close-resumes (closing.Saves s) wsize m turn old next state after k r = close-on (is_first m.lane old.order) wsize m.lane m.slot turn s old next state after k r
  close-resumes (closing.ToRemove removal) wsize m turn old next state after k r = close-asks turn.room removal state k r.state_is
  close-resumes (closing.Removing removal) wsize m turn old next state after k r = close-as (closing.Removing removal) state r.state_is k

  close-removed : (again : Bool) (lane : ℕ) (removal : Removal) (was : Shelf) (next : Step) (state : Closing) (new : Shelf) → removal.file ≡ f
      → closes.EndsIf again lane removal was next state new → CloseAt state
  close-removed true lane removal was next state new k e = close-as (closing.Removing removal) state e.state_is k
  close-removed false lane removal was next state new k e = close-as closing.Idle state e.state_is tt

  close-takes : (at : Closing) (wsize : ℕ) (m : CloseFile) (sent turn : Turn) (came : Result Reply Fault) (old : Shelf) (next : Step) (state : Closing) (after : Shelf) → CloseAt at
      → closes.Takes at wsize m sent turn came old next state after → CloseAt state
  close-takes closing.Idle wsize m sent turn came old next state after k t = close-as closing.Idle state t.state_is tt
  close-takes (closing.Queued s) wsize m sent turn came old next state after k t = close-as (closing.Queued s) state t.state_is k
  close-takes (closing.Saves s) wsize m sent turn came old next state after k t =
      close-follows t.gives m.lane m.slot turn.room true t.saved t.took next state after
      (takes-on f wsize sent turn came old.repeats s old.back t.gives t.saved t.took.back t.took.repeats k t.takes) t.follows
  close-takes (closing.ToRemove removal) wsize m sent turn came old next state after k t = close-as (closing.ToRemove removal) state t.state_is k
  close-takes (closing.Removing removal) wsize m sent turn came old next state after k t =
      close-removed (goes_again (remove_busy came) sent turn old.repeats) m.lane removal t.took next state after k t.ends

  -- ---- truncates

  cut-as : (to state : Truncating) → state ≡ to → CutAt to → CutAt state
  cut-as to state is k = subst CutAt (sym is) k

  cut-queued : (b : Bool) (file : List ℕ) (upto : ℕ) (state : Truncating) → file ≡ f → state ≡ (if b then truncating.Asked file upto else truncating.Queued file upto) → CutAt state
  cut-queued true file upto state k is = cut-as (truncating.Asked file upto) state is k
  cut-queued false file upto state k is = cut-as (truncating.Queued file upto) state is k

  cut-resumes : (at : Truncating) (m : TruncateFile) (turn : Turn) (old : Shelf) (state : Truncating) → CutAt at → state ≡ truncates.resumed_state at m turn old → CutAt state
  cut-resumes truncating.Idle m turn old state k is = cut-as truncating.Idle state is tt
  cut-resumes (truncating.Queued file upto) m turn old state k is = cut-queued (truncates.may_ask m.lane file turn old) file upto state k is
  cut-resumes (truncating.Asked file upto) m turn old state k is = cut-as (truncating.Asked file upto) state is k

  cut-takes : (at : Truncating) (came : Result Reply Fault) (sent turn : Turn) (repeats : _) (state : Truncating) → CutAt at → state ≡ truncates.took_state at came sent turn repeats → CutAt state
  cut-takes truncating.Idle came sent turn repeats state k is = cut-as truncating.Idle state is tt
  cut-takes (truncating.Queued file upto) came sent turn repeats state k is = cut-as (truncating.Queued file upto) state is k
  cut-takes (truncating.Asked file upto) came sent turn repeats state k is = by (truncates.size_again came sent turn repeats) is
    where
      by : (b : Bool) → state ≡ truncates.ended_state b (truncating.Asked file upto) → CutAt state
      by true same = cut-as (truncating.Asked file upto) state same k
      by false same = cut-as truncating.Idle state same tt

-- ---- any of them

-- the operation's machine, at that file
abbrev pub WorksAt : Op → List ℕ → FileMachine → Type 0
WorksAt (ops.Sync slot) f (files.Sync m) = SyncAt f m.state
WorksAt (ops.Close slot) f (files.Close m) = CloseAt f m.state
WorksAt (ops.Truncate slot size) f (files.Truncate m) = (m.size ≡ size) × CutAt f m.state
WorksAt op f machine = ⊥

file-goes : (op : Op) (f : List ℕ) (m : FileMachine) (wsize : ℕ) (turn : Turn) (old : Shelf) (next : Step) (new : FileMachine) (after : Shelf) → WorksAt op f m
    → steps.Resumes wsize m turn old next new after → WorksAt op f new
file-goes (ops.Sync slot) f (files.Sync m) wsize turn old next new after k r =
    subst (WorksAt (ops.Sync slot) f) (sym r.machine_is) (sync-resumes f m.state wsize m turn old next r.state after k r.step)
file-goes (ops.Close slot) f (files.Close m) wsize turn old next new after k r =
    subst (WorksAt (ops.Close slot) f) (sym r.machine_is) (close-resumes f m.state wsize m turn old next r.state after k r.step)
file-goes (ops.Truncate slot size) f (files.Truncate m) wsize turn old next new after k r =
    subst (WorksAt (ops.Truncate slot size) f) (sym r.machine_is) (k.0, cut-resumes f m.state m turn old (truncates.resumed_state m.state m turn old) k.1 refl)
file-goes op f m wsize turn old next new after k r = absurd k

file-hears : (op : Op) (f : List ℕ) (m : FileMachine) (wsize : ℕ) (sent turn : Turn) (came : Result Reply Fault) (old : Shelf) (next : Step) (new : FileMachine) (after : Shelf) → WorksAt op f m
    → steps.Takes wsize m sent turn came old next new after → WorksAt op f new
file-hears (ops.Sync slot) f (files.Sync m) wsize sent turn came old next new after k t =
    subst (WorksAt (ops.Sync slot) f) (sym t.machine_is) (sync-takes f m.state wsize m sent turn came old next t.state after k t.step)
file-hears (ops.Close slot) f (files.Close m) wsize sent turn came old next new after k t =
    subst (WorksAt (ops.Close slot) f) (sym t.machine_is) (close-takes f m.state wsize m sent turn came old next t.state after k t.step)
file-hears (ops.Truncate slot size) f (files.Truncate m) wsize sent turn came old next new after k t =
    subst (WorksAt (ops.Truncate slot size) f) (sym t.machine_is) (k.0, cut-takes f m.state came sent turn old.repeats (truncates.took_state m.state came sent turn old.repeats) k.1 refl)
file-hears op f m wsize sent turn came old next new after k t = absurd k

-- ---- the story

-- a sync, a close or a truncate
abbrev pub IsWorker : Op → Type 0
IsWorker (ops.Sync slot) = Unit {0}
IsWorker (ops.Close slot) = Unit {0}
IsWorker (ops.Truncate slot size) = Unit {0}
IsWorker op = ⊥

pub record SlotRuns (m : Modes) (h : List Entry) (x : ℕ) (op : Op) (machine : Machine) : Type 0 where
  pub held : Held m h x op
  pub of : FileMachine
  pub is : machine ≡ machines.File of
  pub works : WorksAt op held.o.file of

abbrev StateStory : Modes → List Entry → ℕ → Op → State → Type 0
StateStory m h x op (Busy machine) = SlotRuns m h x op machine
StateStory m h x op (Over answer) = Unit {0}

abbrev pub SlotStory : Modes → List Entry → ℕ → Op → State → Type 0
SlotStory m h x op state = IsWorker op → StateStory m h x op state

-- it runs so, or has its answer
abbrev RunsOr : Modes → List Entry → ℕ → Op → Step → Machine → Type 0
RunsOr m h x op next new = SlotRuns m h x op new ⊎ ((answer : Answer) × (next ≡ nexts.Done answer))

then-runs : (m : Modes) (h : List Entry) (x : ℕ) (op : Op) (next : Step) (new : Machine) → (IsWorker op → RunsOr m h x op next new)
    → ThenOf (λ k. SlotStory m h x op (Busy k)) (λ a. SlotStory m h x op (Over a)) next new
then-runs m h x op next new k = by next refl
  where
    by : (n : Step) → next ≡ n → ThenOf (λ k. SlotStory m h x op (Busy k)) (λ a. SlotStory m h x op (Over a)) n new
    by (nexts.Send call) is = λ works. elim (k works) [
      | inl runs ↦ runs
      | inr ends ↦ absurd (let no_way : nexts.Send call ≡ nexts.Done ends.0 = sym is ∙ ends.1 in cc)
    ]
    by nexts.Wait is = λ works. elim (k works) [
      | inl runs ↦ runs
      | inr ends ↦ absurd (let no_way : nexts.Wait ≡ nexts.Done ends.0 = sym is ∙ ends.1 in cc)
    ]
    by (nexts.Done answer) is = λ works. tt

module _ (m : Modes) (mounted : Mounted) (h : List Entry) (lane line : ℕ) (wsize : ℕ) (turn : Turn) (old : Shelf) (next : Step) (new : Machine) (after : Shelf) (given : Given m h lane old) where
  abbrev Later : Op → List Entry
  Later op = h ++ Began lane line op ∷ []

  sync-begins : (slot : ℕ) → Starts wsize (machine_of mounted lane (ops.Sync slot)) turn old next new after → RunsOr m (Later (ops.Sync slot)) (length h) (ops.Sync slot) next new
  sync-begins slot s = by (finite.get old.opens (lane, slot)) refl s.step.step
    where
      k : SyncFile
      k = record { lane = lane; slot = slot; state = syncing.Idle }

      by : (at : Option Opened) → finite.get old.opens (lane, slot) ≡ at → syncs.StartsAt (option_map (λ (o : Opened). o.file) at) wsize k turn old next s.step.state after
          → RunsOr m (Later (ops.Sync slot)) (length h) (ops.Sync slot) next new
      by None there t = inr (answers.Refused faults.Slot, t.next_is)
      by (Some o) there t = inl (record {
        held = held-begins m h lane line slot (ops.Sync slot) o old given refl there refl;
        of = files.Sync (record k { state = s.step.state });
        is = s.machine_is ∙ ap machines.File s.step.machine_is;
        works = sync-queues o.file (is_first lane (joined lane o.file old).order) wsize lane turn (saves.begun o.file old.seq) (joined lane o.file old) next s.step.state after refl t;
      })

  close-starts : (slot : ℕ) → Starts wsize (machine_of mounted lane (ops.Close slot)) turn old next new after → RunsOr m (Later (ops.Close slot)) (length h) (ops.Close slot) next new
  close-starts slot s = by (finite.get old.opens (lane, slot)) refl s.step.step
    where
      k : CloseFile
      k = record { lane = lane; slot = slot; state = closing.Idle }

      by : (at : Option Opened) → finite.get old.opens (lane, slot) ≡ at → closes.StartsAt (option_map (λ (o : Opened). o.file) at) wsize k turn old next s.step.state after
          → RunsOr m (Later (ops.Close slot)) (length h) (ops.Close slot) next new
      by None there t = inr (answers.Refused faults.Slot, t.next_is)
      by (Some o) there t = inl (record {
        held = held-begins m h lane line slot (ops.Close slot) o old given refl there refl;
        of = files.Close (record k { state = s.step.state });
        is = s.machine_is ∙ ap machines.File s.step.machine_is;
        works = close-queues o.file (is_first lane (joined lane o.file old).order) wsize lane slot turn (saves.begun o.file old.seq) (joined lane o.file old) next s.step.state after refl t;
      })

  cut-begins : (slot size : ℕ) → Starts wsize (machine_of mounted lane (ops.Truncate slot size)) turn old next new after
      → RunsOr m (Later (ops.Truncate slot size)) (length h) (ops.Truncate slot size) next new
  cut-begins slot size s = by (finite.get old.opens (lane, slot)) refl s.step.next_is (s.machine_is ∙ ap machines.File s.step.machine_is)
    where
      k : TruncateFile
      k = record { lane = lane; slot = slot; size = size; state = truncating.Idle }

      at-begin : Result (List ℕ) Fault → Machine
      at-begin found = machines.File (files.Truncate (record { lane = lane; slot = slot; size = size; state = truncates.begun_state found k turn old }))

      runs : (o : Opened) → finite.get old.opens (lane, slot) ≡ Some o → can_write o.mode ≡ true
          → new ≡ machines.File (files.Truncate (record { lane = lane; slot = slot; size = size; state = truncates.begun_state (Ok o.file) k turn old }))
          → RunsOr m (Later (ops.Truncate slot size)) (length h) (ops.Truncate slot size) next new
      runs o there right is = inl (record {
        held = held-begins m h lane line slot (ops.Truncate slot size) o old given refl there right;
        of = files.Truncate (record { lane = lane; slot = slot; size = size; state = truncates.begun_state (Ok o.file) k turn old });
        is = is;
        works = (refl, cut-queued o.file (truncates.may_ask lane o.file turn (joined lane o.file old)) o.file old.seq (truncates.begun_state (Ok o.file) k turn old) refl refl);
      })

      by : (at : Option Opened) → finite.get old.opens (lane, slot) ≡ at → next ≡ truncates.begun_next (of_open at) k turn old
          → new ≡ machines.File (files.Truncate (record { lane = lane; slot = slot; size = size; state = truncates.begun_state (of_open at) k turn old }))
          → RunsOr m (Later (ops.Truncate slot size)) (length h) (ops.Truncate slot size) next new
      by None there n is = inr (answers.Refused faults.Slot, n)
      by (Some o) there n is = of o.mode refl
        where
          found : (mode : Mode) → o.mode ≡ mode → of_open (Some o) ≡ in_mode mode o.file
          found mode same = ap (λ (q : Mode). in_mode q o.file) same

          of : (mode : Mode) → o.mode ≡ mode → RunsOr m (Later (ops.Truncate slot size)) (length h) (ops.Truncate slot size) next new
          of modes.R same = inr (answers.Refused faults.Mode, n ∙ ap (λ (r : Result (List ℕ) Fault). truncates.begun_next r k turn old) (found modes.R same))
          of modes.W same = runs o there (ap can_write same) (is ∙ ap (at-begin) (found modes.W same))
          of modes.RW same = runs o there (ap can_write same) (is ∙ ap (at-begin) (found modes.RW same))
          of modes.C same = runs o there (ap can_write same) (is ∙ ap (at-begin) (found modes.C same))
          of modes.X same = runs o there (ap can_write same) (is ∙ ap (at-begin) (found modes.X same))

-- at its first step
begins : (m : Modes) (mounted : Mounted) (h : List Entry) (lane line : ℕ) (op : Op) (wsize : ℕ) (turn : Turn) (old : Shelf) (next : Step) (new : Machine) (after : Shelf) → Given m h lane old
    → Starts wsize (machine_of mounted lane op) turn old next new after → IsWorker op → RunsOr m (h ++ Began lane line op ∷ []) (length h) op next new
begins m mounted h lane line (ops.Sync slot) wsize turn old next new after given s works = sync-begins m mounted h lane line wsize turn old next new after given slot s
begins m mounted h lane line (ops.Close slot) wsize turn old next new after given s works = close-starts m mounted h lane line wsize turn old next new after given slot s
begins m mounted h lane line (ops.Truncate slot size) wsize turn old next new after given s works = cut-begins m mounted h lane line wsize turn old next new after given slot size s
begins m mounted h lane line op wsize turn old next new after given s works = absurd works

goes : (m : Modes) (h : List Entry) (x : ℕ) (op : Op) (machine : Machine) (wsize : ℕ) (turn : Turn) (old : Shelf) (next : Step) (new : Machine) (after : Shelf) → SlotRuns m h x op machine
    → Resumes wsize machine turn old next new after → RunsOr m h x op next new
goes m h x op machine wsize turn old next new after k r =
    let g = subst (λ (n : Machine). Resumes wsize n turn old next new after) k.is r in
    inl (record { held = k.held; of = g.machine; is = g.machine_is; works = file-goes op k.held.o.file k.of wsize turn old next g.machine after k.works g.step })

hears : (m : Modes) (h : List Entry) (x : ℕ) (op : Op) (machine : Machine) (wsize : ℕ) (sent turn : Turn) (came : Result Reply Fault) (old : Shelf) (next : Step) (new : Machine) (after : Shelf)
    → SlotRuns m h x op machine → Takes wsize machine sent turn came old next new after → RunsOr m h x op next new
hears m h x op machine wsize sent turn came old next new after k t =
    let g = subst (λ (n : Machine). Takes wsize n sent turn came old next new after) k.is t in
    inl (record { held = k.held; of = g.machine; is = g.machine_is; works = file-hears op k.held.o.file k.of wsize sent turn came old next g.machine after k.works g.step })

state-later : (m : Modes) (h : List Entry) (e : Entry) (x : ℕ) (op : Op) (state : State) → StateStory m h x op state → StateStory m (h ++ e ∷ []) x op state
state-later m h e x op (Busy machine) k = record { held = held-later m h e x op k.held; of = k.of; is = k.is; works = k.works }
state-later m h e x op (Over answer) k = tt

pub slot-laws : (m : Modes) (mounted : Mounted) → LawsOver (Given m) (machine_of mounted) (SlotStory m)
slot-laws m mounted = record {
  starts = λ h lane line op wsize turn old next new after given s.
      then-runs m (h ++ Began lane line op ∷ []) (length h) op next new (begins m mounted h lane line op wsize turn old next new after given s);
  resumes = λ h x op machine wsize turn old next new after story r. then-runs m h x op next new (λ works. goes m h x op machine wsize turn old next new after (story works) r);
  takes = λ h x op machine wsize sent turn came old next new after others story one told t.
      then-runs m h x op next new (λ works. hears m h x op machine wsize sent turn came old next new after (story works) t);
  grows = λ h e x op state story works. state-later m h e x op state (story works);
  lost = λ h x op shown works. tt;
}
