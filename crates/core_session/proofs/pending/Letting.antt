-- Where a step of a lane lets go a guarded number, nothing older than it is pending any more: a close saved it, or was refused with no slot left, and dropped all.
use Rattle.core_session.proofs.Prelude.{◌≡◌, ◌≢◌, ◌≤◌, ◌⊎◌, inl, inr, ℕ, Bool, true, false, nat_eq, List, [], ◌∷◌, ◌++◌, length, Some, None, position, slice_get, refl, sym, ap, subst, ◌∙◌, arith, eqb-true, eqb-false, Waiting, waiting_at, IsOpen, Answer, Fault, Value, Entry, Began, Delivered, Op, Modes, said_of, Pending, of_file, HasNoPiece, FilePending, last_end, LaneFile, left, is_first, CloseFile, Closing, Removal, Saving, file_at, joined, Mounted, Machine, machine_of, Lane, Purpose, State, Busy, Over, Setup, is_busy, IsIdle, numbers_of, counted, Stirs, TakesAt, StartsLane, with_state, View, turn_at, AreApart, Reaches, taken_one, seat_close, Known, lanes-under-way, idle-numbers, number_of, at-set, at-push, to-map, Sits, seat_with, seat-own, seat-other, look-at, seat_state, seat_in, first-left, first-added, same-first, IsGuarded, save_in, removal_in, file_in, EachSound, IsUnderWay}
use Rattle.write_back.specs.Pieces.{Sent}
use Rattle.world_model.specs.declared.answer.Answer.TheVariants as answers
use Rattle.world_model.specs.declared.op.Op.TheVariants as ops
use Rattle.file_ops.specs.declared.close_file.Closing.TheVariants as closings
use Rattle.file_ops.specs.Saves as saves
use Rattle.op_machines.specs.declared.file_machine.FileMachine.TheVariants as files
use Rattle.op_machines.specs.declared.machine.Machine.TheVariants as machines
use Rattle.core_session.proofs.saves.WholeSteps.{Wholly}
use Rattle.core_session.proofs.drops.BeginSteps.{starts-step, StartOf, queued-sits}
use Rattle.core_session.proofs.drops.CloseGoes.{both-in}
use Rattle.core_session.proofs.drops.Guards.{Ranked, Stepping, CloserStep, OtherStep, LetGo, own-now}
use Rattle.core_session.proofs.drops.Guards as guards
use Rattle.core_session.proofs.drops.GuardLaws.{StepOf, guarded-step, stirs-step, takes-step}
use Rattle.core_session.proofs.drops.LaneIs.{state-is, number-is, busy-over}
use Rattle.core_session.proofs.drops.Laws.{DropsKnown}
use Rattle.core_session.proofs.syncs.AllJobs.{job_save}
use Rattle.core_session.proofs.syncs.Fates.{save-is}
use Rattle.core_session.proofs.syncs.Jobs.{closing_save}
use Rattle.core_session.proofs.syncs.Seen.{ButFor, Owned, free, taken, Sees, bases}
use Rattle.core_session.proofs.pending.Above.{Above, empty-above}
use Rattle.core_session.proofs.pending.Dropped.{Emptied, close-resumes, close-takes, close-starts, leads-emptied}
use Rattle.core_session.proofs.pending.LaneSettles.{stirs-good, takes-lane-good, starts-close-good, lane-ends}
use Rattle.core_session.proofs.pending.Newest.{OfNewest}
use Rattle.core_session.proofs.pending.Settles as settles
use Rattle.core_session.proofs.pending.Settles.{StateGood, PastClose, IsPast}

-- ---- nothing is in flight

no-length : (ps : List Sent) → length ps ≡ 0 → ps ≡ []
no-length [] is = refl
no-length (p ∷ ps) is = absurd (omega (arith, is))

module _ (f : List ℕ) where
  begun-quiet : (s : Saving) (b : Pending) → s ≡ saves.begun s.file s.upto → f ≡ s.file → IsUnderWay s b → HasNoPiece f b
  begun-quiet s b is here way =
      let w : IsUnderWay (saves.begun s.file s.upto) b = subst (λ (z : Saving). IsUnderWay z b) is way in
      subst (λ (z : List ℕ). HasNoPiece z b) (sym here) (no-length (of_file s.file b).pieces w.counts)

  -- of a file whose save was that of a lane that has its answer
  quiet-after : (lanes now : List Lane) (at number : ℕ) (answer : Answer) (q r : ℕ) (b c : Pending) (o l : List LaneFile) → ButFor f lanes now at (record { number = number; state = Over answer })
      → Owned f lanes q b o → Owned f now r c l
      → ((k n : ℕ) (m : Machine) (s : Saving) → slice_get lanes k ≡ Some (record { number = n; state = Busy m }) → job_save m ≡ Some s → f ≡ s.file → is_first n o ≡ true → k ≡ at) → HasNoPiece f c
  quiet-after lanes now at number answer q r b c o l but was (free quiet rest) first = quiet
  quiet-after lanes now at number answer q r b c o l but was (taken k n m s there holds here way one low rest) first = by was
    where
      off : k ≢ at
      off same = busy-over m answer (state-is (Busy m) (Over answer) n number (sym there ∙ ap (slice_get now) same ∙ but.here))

      before : slice_get lanes k ≡ Some (record { number = n; state = Busy m })
      before = but.was k (record { number = n; state = Busy m }) there off

      by : Owned f lanes q b o → HasNoPiece f c
      by (free quiet rest0) = begun-quiet s c (rest0 k (record { number = n; state = Busy m }) before s holds here).0 here way
      by (taken j n0 m0 s0 there0 holds0 here0 way0 one0 low0 rest0) =
          begun-quiet s c (rest0 k (record { number = n; state = Busy m }) before (λ same. off (same ∙ first j n0 m0 s0 there0 holds0 here0 one0)) s holds here).0 here way

-- ---- the state of a close

some-saving : (a b : Saving) → Some a ≡ Some b → a ≡ b
some-saving a b e = cc

close-save : (st : Closing) (save z : Saving) → save_in st ≡ Some save → closing_save st ≡ Some z → z ≡ save
close-save closings.Idle save z is e = absurd (let no_way : None ≡ Some save = is in cc)
close-save (closings.Queued s) save z is e = sym (some-saving s z e) ∙ some-saving s save is
close-save (closings.Saves s) save z is e = sym (some-saving s z e) ∙ some-saving s save is
close-save (closings.ToRemove r) save z is e = absurd (let no_way : None ≡ Some save = is in cc)
close-save (closings.Removing r) save z is e = absurd (let no_way : None ≡ Some save = is in cc)

save-file : (st : Closing) (save : Saving) → save_in st ≡ Some save → file_in st ≡ Some save.file
save-file closings.Idle save is = absurd (let no_way : None ≡ Some save = is in cc)
save-file (closings.Queued s) save is = ap (λ (z : Saving). Some z.file) (some-saving s save is)
save-file (closings.Saves s) save is = ap (λ (z : Saving). Some z.file) (some-saving s save is)
save-file (closings.ToRemove r) save is = absurd (let no_way : None ≡ Some save = is in cc)
save-file (closings.Removing r) save is = absurd (let no_way : None ≡ Some save = is in cc)

not-past : (st : Closing) (save : Saving) → save_in st ≡ Some save → PastClose st → ⊥
not-past closings.Idle save is p = p
not-past (closings.Queued s) save is p = p
not-past (closings.Saves s) save is p = p
not-past (closings.ToRemove r) save is p = absurd (let no_way : None ≡ Some save = is in cc)
not-past (closings.Removing r) save is p = absurd (let no_way : None ≡ Some save = is in cc)

some-removal : (a b : Removal) → Some a ≡ Some b → a ≡ b
some-removal a b e = cc

past-well : (st : Closing) (r : Removal) → removal_in st ≡ Some r → r.refusal ≡ None → PastClose st
past-well closings.Idle r is well = absurd (let no_way : None ≡ Some r = is in cc)
past-well (closings.Queued s) r is well = absurd (let no_way : None ≡ Some r = is in cc)
past-well (closings.Saves s) r is well = absurd (let no_way : None ≡ Some r = is in cc)
past-well (closings.ToRemove q) r is well = ap (λ (z : Removal). z.refusal) (some-removal q r is) ∙ well
past-well (closings.Removing q) r is well = ap (λ (z : Removal). z.refusal) (some-removal q r is) ∙ well

seat-file : (state : Closing) (f : List ℕ) → file_in state ≡ Some f → seat_close state ≡ Some f
seat-file closings.Idle f is = is
seat-file (closings.Queued saving) f is = is
seat-file (closings.Saves saving) f is = is
seat-file (closings.ToRemove removal) f is = is
seat-file (closings.Removing removal) f is = is

close-one : (a b : CloseFile) → Busy (machines.File (files.Close a)) ≡ Busy (machines.File (files.Close b)) → a ≡ b
close-one a b e = cc

busy-one : (a b : Machine) → Busy a ≡ Busy b → a ≡ b
busy-one a b e = cc

-- how a save of a close ended well
abbrev EndsSo : State → Type 0
EndsSo state = ((value : Value) × (state ≡ Over (answers.Done value))) ⊎ ((d : CloseFile) × (r : Removal) × (state ≡ Busy (machines.File (files.Close d))) × (removal_in d.state ≡ Some r) × (r.refusal ≡ None))

ends-good : (state : State) → EndsSo state → StateGood state
ends-good state (inl over) = subst StateGood (sym over.1) tt
ends-good state (inr (d, r, is, gone, well)) = subst StateGood (sym is) (past-well d.state r gone well)

ends-apart : (c : CloseFile) (save : Saving) (was state : State) → was ≡ Busy (machines.File (files.Close c)) → save_in c.state ≡ Some save → EndsSo state → was ≢ state
ends-apart c save was state is saves (inl over) same = busy-over (machines.File (files.Close c)) (answers.Done over.0) (sym is ∙ same ∙ over.1)
ends-apart c save was state is saves (inr (d, r, now, gone, well)) same =
    both-in c.state save r saves (ap (λ (z : CloseFile). removal_in z.state) (close-one c d (sym is ∙ same ∙ now)) ∙ gone)

-- ---- which lane made the step

module _ (old new : View) (s : Stepping old new) (at n : ℕ) (machine : Machine) (state : State) (there : slice_get old.lanes at ≡ Some (record { number = n; state = Busy machine })) (f : List ℕ)
    (but : ButFor f old.lanes new.lanes at (record { number = n; state = state })) where
  record IsIt : Type 0 where
    place : s.at ≡ at
    number_is : s.number ≡ n
    was_is : s.was ≡ Busy machine
    state_is : s.state ≡ state

  is-it : s.was ≢ s.state → IsIt
  is-it apart = by (nat_eq s.at at) refl
    where
      now : slice_get new.lanes s.at ≡ Some (record { number = s.number; state = s.state })
      now = own-now old new s

      by : (b : Bool) → nat_eq s.at at ≡ b → IsIt
      by true e =
          let same = eqb-true s.at at e in
          let one = sym s.there ∙ ap (slice_get old.lanes) same ∙ there in
          record {
            place = same;
            number_is = number-is s.was (Busy machine) s.number n one;
            was_is = state-is s.was (Busy machine) s.number n one;
            state_is = state-is s.state state s.number n (sym now ∙ ap (slice_get new.lanes) same ∙ but.here);
          }
      by false e =
          absurd (apart (state-is s.was s.state s.number s.number (sym s.there ∙ but.was s.at (record { number = s.number; state = s.state }) now (eqb-false s.at at e))))

-- a lane that isn't first in the order isn't the one whose save is under way
module _ (f : List ℕ) (lanes : List Lane) (order : List LaneFile) (apart : AreApart lanes) (at n : ℕ) (state : State) (there : slice_get lanes at ≡ Some (record { number = n; state = state }))
    (sits : Sits (λ k. seat_in k lanes) order) (seat : seat_in n lanes ≡ Some f) (first : is_first n order ≡ true) where
  only-one : (k m : ℕ) (machine : Machine) (s : Saving) → slice_get lanes k ≡ Some (record { number = m; state = Busy machine }) → job_save machine ≡ Some s → f ≡ s.file → is_first m order ≡ true → k ≡ at
  only-one k m machine s here holds file one =
      let its : seat_in m lanes ≡ Some f = look-at seat_state lanes k m (Busy machine) apart here ∙ (save-is machine s holds).seat_is ∙ ap Some (sym file) in
      let same : m ≡ n = same-first (λ j. seat_in j lanes) order sits.sound m n f its seat one first in
      apart k at (record { number = m; state = Busy machine }) (record { number = n; state = state }) here there same

emptied-above : (f : List ℕ) (i number : ℕ) (b : Pending) → EachSound b → HasNoPiece f b → Emptied f b → OfNewest (Above f i number) b
emptied-above f i number b sound quiet e = empty-above f i number b sound (ap (λ (of : FilePending). last_end of.segments) (e quiet))

-- ---- a step of a lane whose operation is under way

module _ (modes : Modes) (h h2 : List Entry) (old new : View) (f : List ℕ) (i number : ℕ) (s : StepOf old new) (d : DropsKnown modes h old) (d2 : DropsKnown modes h2 new) (ranked : Ranked old)
    (apart : AreApart old.lanes) (at n : ℕ) (machine : Machine) (state : State) (there : slice_get old.lanes at ≡ Some (record { number = n; state = Busy machine }))
    (but : ButFor f old.lanes new.lanes at (record { number = n; state = state })) (sound : EachSound new.shelf.back)
    (own : Owned f old.lanes old.shelf.seq old.shelf.back old.shelf.order) (own2 : Owned f new.lanes new.shelf.seq new.shelf.back new.shelf.order)
    (saves_ : (c : CloseFile) (save : Saving) → machine ≡ machines.File (files.Close c) → save_in c.state ≡ Some save → save.file ≡ f → number ≤ save.upto → StateGood state → OfNewest (Above f i number) new.shelf.back)
    (gives_ : (c : CloseFile) (fault : Fault) → machine ≡ machines.File (files.Close c) → file_in c.state ≡ Some f → state ≡ Over (answers.Refused fault) → (IsOpen new.shelf.opens f → ⊥) → Emptied f new.shelf.back) where
  let-go : LetGo number f old new s.step → OfNewest (Above f i number) new.shelf.back
  let-go (guards.saved c save was saves file enough ends) =
      let it = is-it old new s.step at n machine state there f but (ends-apart c save s.step.was s.step.state was saves ends) in
      saves_ c save (busy-one machine (machines.File (files.Close c)) (sym it.was_is ∙ was)) saves file enough (subst StateGood it.state_is (ends-good s.step.state ends))
  let-go (guards.gave c fault was is file shut) = emptied-above f i number new.shelf.back sound quiet (gives_ c fault machine_is file over shut)
    where
      it : IsIt old new s.step at n machine state there f but
      it = is-it old new s.step at n machine state there f but (λ same. busy-over (machines.File (files.Close c)) (answers.Refused fault) (sym was ∙ same ∙ is))

      machine_is : machine ≡ machines.File (files.Close c)
      machine_is = busy-one machine (machines.File (files.Close c)) (sym it.was_is ∙ was)

      over : state ≡ Over (answers.Refused fault)
      over = sym it.state_is ∙ is

      first-by : CloserStep old new s.step ⊎ OtherStep old new s.step → is_first s.step.number old.shelf.order ≡ true
      first-by (inl k) = k.first fault is
      first-by (inr o) = absurd (o.was_none c was)

      first : is_first n old.shelf.order ≡ true
      first = subst (λ (z : ℕ). is_first z old.shelf.order ≡ true) it.number_is (first-by s.kind)

      seat : seat_in n old.lanes ≡ Some f
      seat = look-at seat_state old.lanes at n (Busy machine) apart there ∙ ap (λ (z : Machine). seat_state (Busy z)) machine_is ∙ seat-file c.state f file

      quiet : HasNoPiece f new.shelf.back
      quiet =
          quiet-after f old.lanes new.lanes at n (answers.Refused fault) old.shelf.seq new.shelf.seq old.shelf.back new.shelf.back old.shelf.order new.shelf.order
          (subst (λ (st : State). ButFor f old.lanes new.lanes at (record { number = n; state = st })) over but) own own2
          (only-one f old.lanes old.shelf.order apart at n (Busy machine) there d.turned.placed.sits seat first)

  lets : IsGuarded number old f → IsGuarded number new f ⊎ OfNewest (Above f i number) new.shelf.back
  lets guard = by (guarded-step modes h h2 old new number f s d d2 ranked guard)
    where
      by : IsGuarded number new f ⊎ LetGo number f old new s.step → IsGuarded number new f ⊎ OfNewest (Above f i number) new.shelf.back
      by (inl g) = inl g
      by (inr l) = inr (let-go l)

saver-close : (machine : Machine) (c : CloseFile) → machine ≡ machines.File (files.Close c) → settles.IsSaver machine
saver-close machine c is = subst settles.IsSaver (sym is) tt

its-save : (machine : Machine) (c : CloseFile) (save z : Saving) → machine ≡ machines.File (files.Close c) → save_in c.state ≡ Some save → job_save machine ≡ Some z → z ≡ save
its-save machine c save z is saves e = close-save c.state save z saves (sym (ap job_save is) ∙ e)

its-past : (machine : Machine) (c : CloseFile) (save : Saving) → machine ≡ machines.File (files.Close c) → save_in c.state ≡ Some save → IsPast machine → ⊥
its-past machine c save is saves p = not-past c.state save saves (subst IsPast is p)

-- one that goes on
module _ (setup : Setup) (modes : Modes) (h : List Entry) (old new : View) (at : ℕ) (k : Known setup h old) (t : Stirs old at new) (d : DropsKnown modes h old) (d2 : DropsKnown modes h new) (ranked : Ranked old) (f : List ℕ)
    (i number : ℕ) (state : State) (but : ButFor f old.lanes new.lanes at (record { number = t.number; state = state })) (sound : EachSound old.shelf.back) (sound2 : EachSound new.shelf.back)
    (own : Owned f old.lanes old.shelf.seq old.shelf.back old.shelf.order) (own2 : Owned f new.lanes new.shelf.seq new.shelf.back new.shelf.order) where
  pub stirs-lets : IsGuarded number old f → IsGuarded number new f ⊎ OfNewest (Above f i number) new.shelf.back
  stirs-lets =
      lets modes h h old new f i number (stirs-step setup modes h old new k d at t) d d2 ranked (lanes-under-way h old k.lanes).apart at t.number t.machine state t.there but sound2 own own2
      (λ c save is saves file enough good.
      stirs-good f i number old new at t (saver-close t.machine c is) (λ z e. sym (ap (λ (y : Saving). y.file) (its-save t.machine c save z is saves e) ∙ file)) sound
      (λ p. absurd (its-past t.machine c save is saves p)) state but.here good)
      (λ c fault is file over shut.
      (leads-emptied f (with_state old at t.number (Busy t.after) t.shelf) new at t.number t.after t.next
      (at-set old.lanes at (record { number = t.number; state = Busy t.machine }) (record { number = t.number; state = Busy t.after }) t.there) t.leads
      (close-resumes f t.machine c is file old.wsize (turn_at old) old.shelf t.next t.after t.shelf t.resumes) state but.here fault over shut).0)

-- one that takes what came of its call
module _ (mt : Mounted) (setup : Setup) (modes : Modes) (h : List Entry) (old : View) (k : Known setup h old) (wholly : Wholly setup h old) (rec : List ℕ) (xid : ℕ) (call : Waiting Purpose) (at : ℕ)
    (r : Reaches (machine_of mt) setup h old) (found : old.lost ≡ false) (waits : waiting_at xid old.calls.calls ≡ Some call) (place : position (is_busy call.purpose.lane) old.lanes ≡ Some at) (new : View)
    (t : TakesAt (taken_one old xid) at call.purpose.sent (said_of call.purpose.proc rec) new) (d : DropsKnown modes h old) (d2 : DropsKnown modes (h ++ Delivered rec ∷ []) new) (ranked : Ranked old) (f : List ℕ)
    (i number : ℕ) (state : State) (but : ButFor f old.lanes new.lanes at (record { number = t.number; state = state })) (some : 1 ≤ old.wsize) (sound : EachSound old.shelf.back) (sound2 : EachSound new.shelf.back)
    (own : Owned f old.lanes old.shelf.seq old.shelf.back old.shelf.order) (own2 : Owned f new.lanes new.shelf.seq new.shelf.back new.shelf.order)
    (see : Sees f old.lanes at t.number (job_save t.machine) old.shelf.seq old.shelf.back old.shelf.order) where
  pub takes-lets : IsGuarded number old f → IsGuarded number new f ⊎ OfNewest (Above f i number) new.shelf.back
  takes-lets =
      lets modes h (h ++ Delivered rec ∷ []) old new f i number (takes-step setup modes h old new k d rec xid call at waits place t) d d2 ranked (lanes-under-way h old k.lanes).apart at t.number t.machine state t.there
      but sound2 own own2
      (λ c save is saves file enough good.
      takes-lane-good f i number old new xid at call.purpose.sent (said_of call.purpose.proc rec) t (saver-close t.machine c is)
      (λ z e.
      let one : z ≡ save = its-save t.machine c save z is saves e in
      lane-ends mt setup h old k wholly rec xid call at r found waits place new t f i number (bases f old.lanes) see.owner old.shelf.seq old.shelf.order some sound z e
      (sym (ap (λ (y : Saving). y.file) one ∙ file)) (subst (λ (y : Saving). number ≤ y.upto) (sym one) enough) (see.saves_ z e))
      (λ p. absurd (its-past t.machine c save is saves p)) state but.here good)
      (λ c fault is file over shut.
      (leads-emptied f (with_state (taken_one old xid) at t.number (Busy t.after) t.shelf) new at t.number t.after t.next
      (at-set old.lanes at (record { number = t.number; state = Busy t.machine }) (record { number = t.number; state = Busy t.after }) t.there) t.leads
      (close-takes f t.machine c is file old.wsize call.purpose.sent (turn_at (taken_one old xid)) (said_of call.purpose.proc rec) old.shelf t.next t.after t.shelf t.takes) state but.here fault over shut).0)

-- ---- one that begins

module _ (mt : Mounted) (modes : Modes) (same : mt.nocto ≡ modes.nocto) (setup : Setup) (h : List Entry) (old new : View) (lane line : ℕ) (op : Op) (now : ℕ) (r : Reaches (machine_of mt) setup h old)
    (found : old.lost ≡ false) (k : Known setup h old) (idle : IsIdle lane old.lanes) (t : StartsLane (counted old now) lane (machine_of mt lane op) new) (d : DropsKnown modes h old)
    (d2 : DropsKnown modes (h ++ Began lane line op ∷ []) new) (ranked : Ranked old) (f : List ℕ) (i number : ℕ) (few : number ≤ old.shelf.seq) (state : State)
    (but : ButFor f old.lanes new.lanes (length old.lanes) (record { number = lane; state = state })) (sound : EachSound old.shelf.back) (sound2 : EachSound new.shelf.back)
    (own : Owned f old.lanes old.shelf.seq old.shelf.back old.shelf.order) (own2 : Owned f new.lanes new.shelf.seq new.shelf.back new.shelf.order) where
  apart_ : AreApart old.lanes
  apart_ = (lanes-under-way h old k.lanes).apart

  st : StartOf mt modes same setup h old new lane line op now r found idle t apart_ d.turned (h ++ Began lane line op ∷ [])
  st = starts-step mt modes same setup h old new lane line op now r found idle t apart_ d.turned (h ++ Began lane line op ∷ [])

  state_of : state ≡ st.step.step.state
  state_of =
      state-is state st.step.step.state lane lane
      (sym but.here ∙ ap (λ (ls : List Lane). slice_get ls (length old.lanes)) st.lanes_are ∙ at-push old.lanes (record { number = lane; state = st.step.step.state }))

  at-close : (slot : ℕ) → op ≡ ops.Close slot → StartsLane (counted old now) lane (machine_of mt lane (ops.Close slot)) new
  at-close slot is = subst (λ (o : Op). StartsLane (counted old now) lane (machine_of mt lane o) new) is t

  one-file : (a b : List ℕ) → Some a ≡ Some b → a ≡ b
  one-file a b e = cc

  abbrev begun : (slot : ℕ) → StartsLane (counted old now) lane (machine_of mt lane (ops.Close slot)) new → View
  begun slot s = record (counted old now) { lanes = old.lanes ++ record { number = lane; state = Busy s.after } ∷ []; shelf = s.shelf }

  gives : (slot : ℕ) (c : CloseFile) → machine_of mt lane (ops.Close slot) ≡ machines.File (files.Close c) → c.lane ≡ lane → c.slot ≡ slot → StartsLane (counted old now) lane (machine_of mt lane (ops.Close slot)) new → (fault : Fault)
      → state ≡ Over (answers.Refused fault) → file_at lane slot old.shelf.opens ≡ Some f → (IsOpen new.shelf.opens f → ⊥) → Emptied f new.shelf.back × (is_first lane (joined lane f old.shelf).order ≡ true)
  gives slot c is of_lane of_slot s fault over held shut =
      let k = close-starts f (machine_of mt lane (ops.Close slot)) c is old.wsize (turn_at (counted old now)) old.shelf s.next s.after s.shelf
      (ap (λ (n : ℕ). file_at n c.slot old.shelf.opens) of_lane ∙ ap (λ (n : ℕ). file_at lane n old.shelf.opens) of_slot ∙ held) s.starts in
      let e = leads-emptied f (begun slot s) new (length old.lanes) lane s.after s.next (at-push old.lanes (record { number = lane; state = Busy s.after })) s.leads k.0 state but.here fault over shut in
      (e.0, subst (λ (n : ℕ). is_first n (joined n f old.shelf).order ≡ true) of_lane (k.1 e.1))

  let-go-start : LetGo number f st.mid new st.step.step → OfNewest (Above f i number) new.shelf.back
  let-go-start (guards.saved c save was saves file enough ends) =
      let of = st.closes c was in
      let held : file_at lane of.0 old.shelf.opens ≡ Some f = of.2 ∙ save-file c.state save saves ∙ ap Some file in
      starts-close-good f i number old new now lane _ (λ none. none) (at-close of.0 of.1) (λ its there. one-file f its (sym held ∙ there)) sound state but.here
      (subst StateGood (sym state_of) (ends-good st.step.step.state ends))
  let-go-start (guards.gave c fault was is file shut) =
      let of = st.closes c was in
      let held : file_at lane of.0 old.shelf.opens ≡ Some f = of.2 ∙ file in
      let k = gives of.0 _ refl refl refl (at-close of.0 of.1) fault (state_of ∙ is) held shut in
      emptied-above f i number new.shelf.back sound2 (quiet k.1) k.0
    where
      not-lane : (j m : ℕ) (s : State) → slice_get old.lanes j ≡ Some (record { number = m; state = s }) → m ≢ lane
      not-lane j m s there e = idle-numbers lane (numbers_of old.lanes) idle.other j (to-map number_of old.lanes j (record { number = m; state = s }) there ∙ ap Some e)

      q : CloseFile
      q = record { lane = lane; slot = 0; state = closings.Queued (saves.begun f old.shelf.seq) }

      sits : Sits (seat_with lane (Some f) (λ n. seat_in n old.lanes)) (joined lane f old.shelf).order
      sits = queued-sits old lane idle ranked number few f f q refl d.turned apart_

      none : is_first lane (joined lane f old.shelf).order ≡ true → (j m : ℕ) (machine : Machine) (s : Saving) → slice_get old.lanes j ≡ Some (record { number = m; state = Busy machine }) → job_save machine ≡ Some s
          → f ≡ s.file → is_first m old.shelf.order ≡ true → j ≡ length old.lanes
      none first j m machine s there holds here one =
          let off = not-lane j m (Busy machine) there in
          let its : seat_in m old.lanes ≡ Some f = look-at seat_state old.lanes j m (Busy machine) apart_ there ∙ (save-is machine s holds).seat_is ∙ ap Some (sym here) in
          let joined_first : is_first m (joined lane f old.shelf).order ≡ true =
          first-added m (record { lane = lane; file = f }) (left lane old.shelf.order) (first-left m lane old.shelf.order off one) in
          absurd (off (same-first (seat_with lane (Some f) (λ n. seat_in n old.lanes)) (joined lane f old.shelf).order sits.sound m lane f
          (seat-other lane m (Some f) (λ n. seat_in n old.lanes) off ∙ its) (seat-own lane (Some f) (λ n. seat_in n old.lanes)) joined_first first))

      quiet : is_first lane (joined lane f old.shelf).order ≡ true → HasNoPiece f new.shelf.back
      quiet first =
          quiet-after f old.lanes new.lanes (length old.lanes) lane (answers.Refused fault) old.shelf.seq new.shelf.seq old.shelf.back new.shelf.back old.shelf.order new.shelf.order
          (subst (λ (z : State). ButFor f old.lanes new.lanes (length old.lanes) (record { number = lane; state = z })) (state_of ∙ is) but) own own2 (none first)

  pub starts-lets : IsGuarded number old f → IsGuarded number new f ⊎ OfNewest (Above f i number) new.shelf.back
  starts-lets guard = by (st.guarded d2 ranked number few f guard)
    where
      by : IsGuarded number new f ⊎ LetGo number f st.mid new st.step.step → IsGuarded number new f ⊎ OfNewest (Above f i number) new.shelf.back
      by (inl g) = inl g
      by (inr l) = inr (let-go-start l)
