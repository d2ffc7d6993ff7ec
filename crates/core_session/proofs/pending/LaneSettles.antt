-- Where a lane's sync or close has saved its file, only later bytes are pending of it: a lane's whole step, also at a call that isn't made.
use Rattle.core_session.proofs.Prelude.{◌≡◌, ◌≤◌, inl, inr, ℕ, false, List, [], ◌∷◌, ◌++◌, length, Option, Some, None, position, Result, Err, slice_get, refl, sym, ap, subst, ◌∙◌, arith, Waiting, waiting_at, Fault, Entry, Reply, said_of, Pending, of_file, piece_under, LaneFile, Shelf, Turn, Step, CloseFile, Saving, SyncFile, file_at, Mounted, Machine, machine_of, Resumes, Takes, Purpose, State, Busy, Over, Setup, is_busy, with_state, IsRefused, Leads, Stirs, counted, StartsLane, TakesAt, View, turn_at, unmade_turn, in_flight, Reaches, taken_one, Known, taker-is, taker-one, at-set, at-push, unused-next, EachSound, IsAwaited}
use Rattle.write_back.specs.Pieces.{Sent}
use Rattle.core_facts.specs.InFlight.{of_saving}
use Rattle.std.specs.Prelude.{IsSome}
use Rattle.world_model.specs.declared.answer.Answer.TheVariants as answers
use Rattle.client_shelf.specs.declared.step.Step.TheVariants as nexts
use Rattle.file_ops.specs.Saves as saves
use Rattle.op_machines.specs.declared.file_machine.FileMachine.TheVariants as files
use Rattle.op_machines.specs.declared.machine.Machine.TheVariants as machines
use Rattle.core_session.proofs.saves.Taking.{sent-piece}
use Rattle.core_session.proofs.saves.WholeSteps.{Wholly}
use Rattle.core_session.proofs.drops.LaneIs.{state-is}
use Rattle.core_session.proofs.syncs.AllJobs.{job_save}
use Rattle.core_session.proofs.syncs.Fates.{save-is}
use Rattle.core_session.proofs.syncs.Levels.{Owner, SaveSo, queued, elsewhere, under}
use Rattle.core_session.proofs.pending.Settles.{IsGood, IsPast, PastClose, Good, StateGood, IsSaver, SavesFile, AboveIt, SaveEnds, resumes-good, starts-good-sync, starts-good-close, takes-good, unmade-ends, reply-ends}

-- ---- they stay what they are

pub resumes-saver : (m : Machine) → IsSaver m → (wsize : ℕ) (turn : Turn) (old : Shelf) (next : Step) (new : Machine) (after : Shelf) → Resumes wsize m turn old next new after → IsSaver new
resumes-saver (machines.File (files.Sync m)) saver wsize turn old next new after r = subst IsSaver (sym r.machine_is) (subst SavesFile (sym r.step.machine_is) tt)
resumes-saver (machines.File (files.Close m)) saver wsize turn old next new after r = subst IsSaver (sym r.machine_is) (subst SavesFile (sym r.step.machine_is) tt)
resumes-saver (machines.File (files.Open m)) saver wsize turn old next new after r = absurd saver
resumes-saver (machines.File (files.Read m)) saver wsize turn old next new after r = absurd saver
resumes-saver (machines.File (files.Write m)) saver wsize turn old next new after r = absurd saver
resumes-saver (machines.File (files.Truncate m)) saver wsize turn old next new after r = absurd saver
resumes-saver (machines.File (files.Put m)) saver wsize turn old next new after r = absurd saver
resumes-saver (machines.Path m) saver wsize turn old next new after r = absurd saver
resumes-saver (machines.Name m) saver wsize turn old next new after r = absurd saver

pub takes-saver : (m : Machine) → IsSaver m → (wsize : ℕ) (sent turn : Turn) (came : Result Reply Fault) (old : Shelf) (next : Step) (new : Machine) (after : Shelf) → Takes wsize m sent turn came old next new after → IsSaver new
takes-saver (machines.File (files.Sync m)) saver wsize sent turn came old next new after r = subst IsSaver (sym r.machine_is) (subst SavesFile (sym r.step.machine_is) tt)
takes-saver (machines.File (files.Close m)) saver wsize sent turn came old next new after r = subst IsSaver (sym r.machine_is) (subst SavesFile (sym r.step.machine_is) tt)
takes-saver (machines.File (files.Open m)) saver wsize sent turn came old next new after r = absurd saver
takes-saver (machines.File (files.Read m)) saver wsize sent turn came old next new after r = absurd saver
takes-saver (machines.File (files.Write m)) saver wsize sent turn came old next new after r = absurd saver
takes-saver (machines.File (files.Truncate m)) saver wsize sent turn came old next new after r = absurd saver
takes-saver (machines.File (files.Put m)) saver wsize sent turn came old next new after r = absurd saver
takes-saver (machines.Path m) saver wsize sent turn came old next new after r = absurd saver
takes-saver (machines.Name m) saver wsize sent turn came old next new after r = absurd saver

-- ---- the state of the lane

over-good : (answer : _) → StateGood (Over answer) → IsGood (nexts.Done answer)
over-good (answers.Done value) good = tt
over-good (answers.Refused fault) good = good

refused-good : (machine : Machine) (next : Step) (state : State) → IsRefused machine next state → StateGood state → Good next machine
refused-good machine (nexts.Send call) state is good = absurd is
refused-good machine nexts.Wait state is good = inr (subst StateGood is good)
refused-good machine (nexts.Done answer) state is good = inl (over-good answer (subst StateGood is good))

module _ (f : List ℕ) (i u : ℕ) where
  -- what a step leads to
  pub leads-good : (v new : View) (at number : ℕ) (machine : Machine) (next : Step) → slice_get v.lanes at ≡ Some (record { number = number; state = Busy machine }) → Leads v at number machine next new
      → IsSaver machine → (Good next machine → AboveIt f i u v.shelf.back) → (state : State) → slice_get new.lanes at ≡ Some (record { number = number; state = state }) → StateGood state
      → AboveIt f i u new.shelf.back
  leads-good v new at number machine (nexts.Send call) there (inl made) saver first state here good =
      let lanes : slice_get new.lanes at ≡ slice_get v.lanes at = ap (λ (z : View). slice_get z.lanes at) made.is in
      let is : state ≡ Busy machine = state-is state (Busy machine) number number (sym here ∙ lanes ∙ there) in
      subst (λ (z : View). AboveIt f i u z.shelf.back) (sym made.is) (first (inr (subst StateGood is good)))
  leads-good v new at number machine (nexts.Send call) there (inr r) saver first state here good =
      let lanes : slice_get new.lanes at ≡ Some (record { number = number; state = r.state }) =
      ap (λ (z : View). slice_get z.lanes at) r.is ∙ at-set v.lanes at (record { number = number; state = Busy machine }) (record { number = number; state = r.state }) there in
      let is : state ≡ r.state = state-is state r.state number number (sym here ∙ lanes) in
      subst (λ (z : View). AboveIt f i u z.shelf.back) (sym r.is)
      (takes-good f i u machine saver v.wsize (turn_at v) (unmade_turn v) (Err r.fault) v.shelf r.next r.after r.left r.takes
      (λ z saves_. unmade-ends f i u v.wsize (turn_at v) (unmade_turn v) r.fault v.shelf.back z) (λ p. first (inr p)) (refused-good r.after r.next r.state r.leads (subst StateGood is good)))
  leads-good v new at number machine nexts.Wait there same saver first state here good =
      let lanes : slice_get new.lanes at ≡ slice_get v.lanes at = ap (λ (z : View). slice_get z.lanes at) same in
      let is : state ≡ Busy machine = state-is state (Busy machine) number number (sym here ∙ lanes ∙ there) in
      subst (λ (z : View). AboveIt f i u z.shelf.back) (sym same) (first (inr (subst StateGood is good)))
  leads-good v new at number machine (nexts.Done answer) there same saver first state here good =
      let lanes : slice_get new.lanes at ≡ Some (record { number = number; state = Over answer }) =
      ap (λ (z : View). slice_get z.lanes at) same ∙ at-set v.lanes at (record { number = number; state = Busy machine }) (record { number = number; state = Over answer }) there in
      let is : state ≡ Over answer = state-is state (Over answer) number number (sym here ∙ lanes) in
      subst (λ (z : View). AboveIt f i u z.shelf.back) (sym same) (first (inl (over-good answer (subst StateGood is good))))

  -- ---- each way a step comes about

  pub stirs-good : (old new : View) (at : ℕ) (t : Stirs old at new) → IsSaver t.machine → ((z : Saving) → job_save t.machine ≡ Some z → f ≡ z.file) → EachSound old.shelf.back
      → (IsPast t.machine → AboveIt f i u old.shelf.back) → (state : State) → slice_get new.lanes at ≡ Some (record { number = t.number; state = state }) → StateGood state → AboveIt f i u new.shelf.back
  stirs-good old new at t saver of sound past state here good =
      leads-good (with_state old at t.number (Busy t.after) t.shelf) new at t.number t.after t.next
      (at-set old.lanes at (record { number = t.number; state = Busy t.machine }) (record { number = t.number; state = Busy t.after }) t.there) t.leads
      (resumes-saver t.machine saver old.wsize (turn_at old) old.shelf t.next t.after t.shelf t.resumes)
      (resumes-good f i u t.machine saver old.wsize (turn_at old) old.shelf t.next t.after t.shelf t.resumes of sound past) state here good

  pub takes-lane-good : (old new : View) (xid at : ℕ) (sent : Turn) (came : Result Reply Fault) (t : TakesAt (taken_one old xid) at sent came new) → IsSaver t.machine
      → ((z : Saving) → job_save t.machine ≡ Some z → SaveEnds f i u old.wsize sent (turn_at (taken_one old xid)) came old.shelf.back z) → (IsPast t.machine → AboveIt f i u old.shelf.back) → (state : State)
      → slice_get new.lanes at ≡ Some (record { number = t.number; state = state }) → StateGood state → AboveIt f i u new.shelf.back
  takes-lane-good old new xid at sent came t saver ends past state here good =
      leads-good (with_state (taken_one old xid) at t.number (Busy t.after) t.shelf) new at t.number t.after t.next
      (at-set old.lanes at (record { number = t.number; state = Busy t.machine }) (record { number = t.number; state = Busy t.after }) t.there) t.leads
      (takes-saver t.machine saver old.wsize sent (turn_at (taken_one old xid)) came old.shelf t.next t.after t.shelf t.takes)
      (takes-good f i u t.machine saver old.wsize sent (turn_at (taken_one old xid)) came old.shelf t.next t.after t.shelf t.takes ends past) state here good

  -- one that begins
  module _ (old new : View) (now lane : ℕ) where
    abbrev begun : Machine → Shelf → View
    begun after shelf = record (counted old now) { lanes = old.lanes ++ record { number = lane; state = Busy after } ∷ []; shelf = shelf }

    pub starts-sync-good : (m : SyncFile) (t : StartsLane (counted old now) lane (machines.File (files.Sync m)) new) → (state : State)
        → slice_get new.lanes (length old.lanes) ≡ Some (record { number = lane; state = state }) → StateGood state → AboveIt f i u new.shelf.back
    starts-sync-good m t state here good =
        leads-good (begun t.after t.shelf) new (length old.lanes) lane t.after t.next (at-push old.lanes (record { number = lane; state = Busy t.after })) t.leads
        (subst IsSaver (sym t.starts.machine_is) (subst SavesFile (sym t.starts.step.machine_is) tt))
        (starts-good-sync f i u m old.wsize (turn_at (counted old now)) old.shelf t.next t.after t.shelf t.starts) state here good

    pub starts-close-good : (m : CloseFile) → (PastClose m.state → ⊥) → (t : StartsLane (counted old now) lane (machines.File (files.Close m)) new)
        → ((file : List ℕ) → file_at m.lane m.slot old.shelf.opens ≡ Some file → f ≡ file) → EachSound old.shelf.back → (state : State)
        → slice_get new.lanes (length old.lanes) ≡ Some (record { number = lane; state = state }) → StateGood state → AboveIt f i u new.shelf.back
    starts-close-good m fresh t of sound state here good =
        leads-good (begun t.after t.shelf) new (length old.lanes) lane t.after t.next (at-push old.lanes (record { number = lane; state = Busy t.after })) t.leads
        (subst IsSaver (sym t.starts.machine_is) (subst SavesFile (sym t.starts.step.machine_is) tt))
        (starts-good-close f i u m fresh old.wsize (turn_at (counted old now)) old.shelf t.next t.after t.shelf t.starts of sound) state here good

-- ---- the save of a lane that takes what came of its call

awaited-as : (sent : Turn) (s : Saving) (b : Pending) (p : Sent) → piece_under sent.xid (of_file s.file b).pieces ≡ Some p → IsSome (piece_under sent.xid (of_file s.file b).pieces)
awaited-as sent s b p is = by (piece_under sent.xid (of_file s.file b).pieces) is
  where
    by : (o : Option Sent) → o ≡ Some p → IsSome o
    by None e = absurd (let no_way : None ≡ Some p = e in cc)
    by (Some q) e = refl

waits-not : (s : Saving) → s ≡ saves.begun s.file s.upto → 1 ≤ of_saving s → ⊥
waits-not s is some = let few : 1 ≤ of_saving (saves.begun s.file s.upto) = subst (λ (z : Saving). 1 ≤ of_saving z) is some in omega (arith, few)

module _ (mt : Mounted) (setup : Setup) (h : List Entry) (old : View) (k : Known setup h old) (wholly : Wholly setup h old) (rec : List ℕ) (xid : ℕ) (call : Waiting Purpose) (at : ℕ)
    (r : Reaches (machine_of mt) setup h old) (found : old.lost ≡ false) (waits : waiting_at xid old.calls.calls ≡ Some call) (place : position (is_busy call.purpose.lane) old.lanes ≡ Some at) (new : View)
    (t : TakesAt (taken_one old xid) at call.purpose.sent (said_of call.purpose.proc rec) new) where
  taker : call.purpose.lane ≡ t.number
  taker = sym (taker-is setup h old xid call at k waits place t.number t.machine t.there)

  some-wait : 1 ≤ in_flight t.machine
  some-wait = let one = taker-one setup h old xid call at k waits place t.number t.machine t.there in omega (arith, one)

  -- it ends well with only later bytes
  pub lane-ends : (f : List ℕ) (i u : ℕ) (base : ℕ → Option (List ℕ)) (owner : Option (Owner f t.number base)) (q : ℕ) (o : List LaneFile) → 1 ≤ old.wsize → EachSound old.shelf.back → (z : Saving)
      → job_save t.machine ≡ Some z → f ≡ z.file → u ≤ z.upto → SaveSo f t.number base owner z q old.shelf.back o
      → SaveEnds f i u old.wsize call.purpose.sent (turn_at (taken_one old xid)) (said_of call.purpose.proc rec) old.shelf.back z
  lane-ends f i u base owner q o some sound z saved here low so = by so
    where
      counts : 1 ≤ of_saving z
      counts = (save-is t.machine z saved).waits some-wait

      awaited : IsAwaited z call.purpose.sent.xid old.shelf.back
      awaited sends =
          let p = sent-piece mt setup h old r found xid call waits at t.number t.machine t.there taker wholly z.file ((save-is t.machine z saved).flies_is some-wait sends) in
          awaited-as call.purpose.sent z old.shelf.back p.piece p.there

      by : SaveSo f t.number base owner z q old.shelf.back o → SaveEnds f i u old.wsize call.purpose.sent (turn_at (taken_one old xid)) (said_of call.purpose.proc rec) old.shelf.back z
      by (queued is less other) = absurd (waits-not z is counts)
      by (elsewhere apart other) = absurd (apart here)
      by (under same alone less first way) =
          reply-ends f i u old.wsize some call.purpose.sent (turn_at (taken_one old xid)) (said_of call.purpose.proc rec) old.shelf.back z sound
          (unused-next setup h old k.rows wholly.flying.flown) here low way awaited
