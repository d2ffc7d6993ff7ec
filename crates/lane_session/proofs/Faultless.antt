-- As long as a session isn't lost, no answer is that it is.
use Rattle.std.proofs.Common.{◌≡◌, ◌≢◌, ◌⊎◌, inl, inr, ℕ, List, [], ◌∷◌, ◌++◌, length, map, Bool, true, false, Option, Some, None, MatchOption, position, remove, slice_get, slice_set, Result, Ok, Err, refl, sym, ap, subst, ◌∙◌}
use Rattle.nfs_dir_calls.specs.declared.keeping.DirKept.{DirKept}
use Rattle.nfs_dir_calls.specs.declared.keeping.DirKept.TheVariants as found
use Rattle.nfs_file_calls.specs.declared.owned.FileKept.{FileKept}
use Rattle.nfs_file_calls.specs.declared.owned.FileKept.TheVariants as kept
use Rattle.world_model.specs.declared.answer.Answer.{Answer}
use Rattle.world_model.specs.declared.answer.Answer.TheVariants.{Refused}
use Rattle.world_model.specs.declared.answer.Fault.{Fault}
use Rattle.world_model.specs.declared.answer.Fault.TheVariants as faults
use Rattle.world_model.specs.declared.entry.Entry.{Entry}
use Rattle.world_model.specs.declared.entry.Entry.TheVariants.{Began, Answered, Dialed, Sent, Executed, Foreign, Flushed, Reboot, Delivered, Failed, Clock}
use Rattle.world_model.specs.declared.message.Reply.{Reply}
use Rattle.world_model.specs.declared.message.Reply.TheVariants as replies
use Rattle.world_model.specs.declared.op.Op.{Op}
use Rattle.call_replies.specs.Says.{said_of}
use Rattle.client_shelf.specs.declared.step.Step.{Step}
use Rattle.client_shelf.specs.declared.step.Step.TheVariants.{Send, Wait, Done}
use Rattle.client_shelf.specs.declared.shelf.Shelf.{Shelf}
use Rattle.op_machines.specs.Begun.{machine_of}
use Rattle.op_machines.specs.declared.begun.Mounted.{Mounted}
use Rattle.op_machines.specs.declared.machine.Machine.{Machine}
use Rattle.client_core.specs.declared.lane.Lane.{Lane}
use Rattle.client_core.specs.declared.lane.Purpose.{Purpose}
use Rattle.client_core.specs.declared.lane.State.{State}
use Rattle.client_core.specs.declared.lane.State.TheVariants.{Busy, Over}
use Rattle.client_core.specs.declared.setup.Setup.{Setup}
use Rattle.client_core.specs.Lanes.{is_busy}
use Rattle.client_core.specs.Steps.{IsRefused, Leads, Stirs, Moves, moves_none, moves_more, with_state, BeginsIf, TakesAt, HearsFor}
use Rattle.client_core.specs.View.{View, turn_at, unmade_turn}
use Rattle.core_facts.specs.Reaches.{StepsTo, Reaches, begins, goes, loses, last_reading}
use Rattle.core_facts.proofs.AllFaults as steps
use Rattle.core_facts.proofs.Cases.{Heard, dropped, replied, heard, sent_now, FailedNow, goes_on, gives_up, failed_now, answered_now, taken_one}
use Rattle.core_facts.proofs.Faults.{NotLost, IsOuter, OwnFaults, OfReply, Came, FineResult, FineAnswer, FineNext}
use Rattle.core_facts.proofs.Lists.{at-set, at-push, get-push, get-remove, skip}
use Rattle.core_facts.proofs.SaidFaults.{said-fine, unmade-fine}
use Rattle.core_facts.proofs.Stories.{by-place, set-other}

-- ---- an operation doesn't give this fault by itself, and no reply does

pub own : OwnFaults NotLost
own = record { kind = tt; many = tt; memory = tt; bad = λ rule. tt }

dir-fine : (reply : DirKept) → OfReply NotLost (replies.Dir reply)
dir-fine (found.LookupFail status dir) = tt
dir-fine (found.ReadLinkFail status attr) = tt
dir-fine (found.CreateFail status wcc) = tt
dir-fine (found.MkDirFail status wcc) = tt
dir-fine (found.SymLinkFail status wcc) = tt
dir-fine (found.RemoveFail status wcc) = tt
dir-fine (found.RmDirFail status wcc) = tt
dir-fine (found.RenameFail status source target) = tt
dir-fine (found.LinkFail status attr wcc) = tt
dir-fine (found.ReadDirPlusFail status attr) = tt
dir-fine reply = tt

file-fine : (reply : FileKept) → OfReply NotLost (replies.File reply)
file-fine (kept.GetAttrFail status) = tt
file-fine (kept.SetAttrFail status wcc) = tt
file-fine (kept.AccessFail status attr) = tt
file-fine (kept.ReadFail status attr) = tt
file-fine (kept.WriteFail status wcc) = tt
file-fine (kept.CommitFail status wcc) = tt
file-fine reply = tt

outer-not-lost : (fault : Fault) → IsOuter fault → NotLost fault
outer-not-lost faults.Lost o = o
outer-not-lost (faults.Nfs status) o = tt
outer-not-lost (faults.Rpc n) o = tt
outer-not-lost (faults.Bad rule) o = tt
outer-not-lost faults.Spent o = tt
outer-not-lost faults.Slot o = tt
outer-not-lost faults.Mode o = tt
outer-not-lost faults.Kind o = tt
outer-not-lost faults.Many o = tt
outer-not-lost faults.Memory o = tt

came-fine : (came : Result Reply Fault) → FineResult IsOuter came → Came NotLost came
came-fine (Ok (replies.Dir reply)) f = dir-fine reply
came-fine (Ok (replies.File reply)) f = file-fine reply
came-fine (Ok (replies.Mount reply)) f = tt
came-fine (Err fault) f = outer-not-lost fault f

-- ---- lanes

abbrev FineState : State → Type 0
FineState (Busy machine) = steps.FineMachine NotLost own machine
FineState (Over answer) = FineAnswer NotLost answer

abbrev FineLane : Lane → Type 0
FineLane lane = FineState lane.state

abbrev pub AllFine : List Lane → Type 0
AllFine lanes = (k : ℕ) (lane : Lane) → slice_get lanes k ≡ Some lane → FineLane lane

set-fine : (lanes : List Lane) (at : ℕ) (was lane : Lane) → slice_get lanes at ≡ Some was → FineLane lane → AllFine lanes → AllFine (slice_set lanes at lane)
set-fine lanes at was lane there fine all =
    by-place FineLane (slice_set lanes at lane) at lane (at-set lanes at was lane there) fine
    (λ k other here apart. all k other (sym (set-other lanes at k lane apart) ∙ here))

push-fine : (lanes : List Lane) (lane : Lane) → FineLane lane → AllFine lanes → AllFine (lanes ++ lane ∷ [])
push-fine lanes lane fine all k other there = by (get-push lanes lane k other there)
  where
    by : (slice_get lanes k ≡ Some other) ⊎ ((k ≡ length lanes) × (other ≡ lane)) → FineLane other
    by (inl here) = all k other here
    by (inr new) = subst FineLane (sym new.1) fine

leads-fine : (v new : View) (at number : ℕ) (machine : Machine) (next : Step) → slice_get v.lanes at ≡ Some (record { number = number; state = Busy machine }) → FineNext NotLost next
    → Leads v at number machine next new → AllFine v.lanes → AllFine new.lanes
leads-fine v new at number machine (Send call) there fine (inl m) all = subst AllFine (sym (ap (λ (w : View). w.lanes) m.is)) all
leads-fine v new at number machine (Send call) there fine (inr f) all =
    subst AllFine (sym (ap (λ (w : View). w.lanes) f.is))
    (set-fine v.lanes at (record { number = number; state = Busy machine }) (record { number = number; state = f.state }) there (by f.next f.state f.leads took) all)
  where
    took : steps.MachineStep NotLost own f.next f.after
    took = steps.all-takes NotLost own machine v.wsize (turn_at v) (unmade_turn v) (Err f.fault) v.shelf f.next f.after f.left
        (steps.any-ends NotLost own tt machine v.shelf) (outer-not-lost f.fault (unmade-fine v f.fault f.unmade))
        (all at (record { number = number; state = Busy machine }) there) f.takes

    by : (next : Step) (state : State) → IsRefused f.after next state → steps.MachineStep NotLost own next f.after → FineState state
    by (Send again) state is s = absurd is
    by Wait state is s = subst FineState (sym is) s.1
    by (Done answer) state is s = subst FineState (sym is) s.0
leads-fine v new at number machine Wait there fine is all = subst AllFine (sym (ap (λ (w : View). w.lanes) is)) all
leads-fine v new at number machine (Done answer) there fine is all =
    subst AllFine (sym (ap (λ (w : View). w.lanes) is))
    (set-fine v.lanes at (record { number = number; state = Busy machine }) (record { number = number; state = Over answer }) there fine all)

-- the operation at a place made a step
step-fine : (v new : View) (at number : ℕ) (machine after : Machine) (shelf : Shelf) (next : Step) → slice_get v.lanes at ≡ Some (record { number = number; state = Busy machine })
    → steps.MachineStep NotLost own next after → Leads (with_state v at number (Busy after) shelf) at number after next new → AllFine v.lanes → AllFine new.lanes
step-fine v new at number machine after shelf next there s leads all =
    leads-fine (with_state v at number (Busy after) shelf) new at number after next
    (at-set v.lanes at (record { number = number; state = Busy machine }) (record { number = number; state = Busy after }) there) s.0 leads
    (set-fine v.lanes at (record { number = number; state = Busy machine }) (record { number = number; state = Busy after }) there s.1 all)

stirs-fine : (old new : View) (at : ℕ) → Stirs old at new → AllFine old.lanes → AllFine new.lanes
stirs-fine old new at t all =
    step-fine old new at t.number t.machine t.after t.shelf t.next t.there
    (steps.all-resumes NotLost own t.machine old.wsize (turn_at old) old.shelf t.next t.after t.shelf (all at (record { number = t.number; state = Busy t.machine }) t.there) t.resumes) t.leads all

moves-fine : (old new : View) → Moves old new → AllFine old.lanes → AllFine new.lanes
moves-fine _ _ (moves_none old new is) all = subst AllFine (sym (ap (λ (w : View). w.lanes) is)) all
moves-fine _ _ (moves_more old mid new at m room t first) all = stirs-fine mid new at t (moves-fine old mid m all)

pub begins-fine : (m : Mounted) (b : Bool) (old new : View) (lane : ℕ) (op : Op) (now : ℕ) → b ≡ false → BeginsIf b old lane (machine_of m lane op) now new → AllFine old.lanes → AllFine new.lanes
begins-fine m true old new lane op now found t all = absurd cc
begins-fine m false old new lane op now found t all =
    let own_step = t.own in
    let s = steps.all-starts NotLost own (machine_of m lane op) old.wsize _ old.shelf own_step.next own_step.after own_step.shelf
    (steps.any-begins NotLost own tt tt (machine_of m lane op) old.shelf) (steps.begins-fine NotLost own m lane op) own_step.starts in
    moves-fine t.first new t.rest (leads-fine _ t.first (length old.lanes) lane own_step.after own_step.next
    (at-push old.lanes (record { number = lane; state = Busy own_step.after })) s.0 own_step.leads (push-fine old.lanes (record { number = lane; state = Busy own_step.after }) s.1 all))

pub hears-fine : (old : View) (rec : List ℕ) (purpose : Purpose) (new : View) → HearsFor old rec purpose new → AllFine old.lanes → AllFine new.lanes
hears-fine old rec purpose new f all = moves-fine f.first new f.rest (by (position (is_busy purpose.lane) old.lanes) f.own)
  where
    by : (o : Option ℕ) → MatchOption o (f.first ≡ old) (λ at. TakesAt old at purpose.sent (said_of purpose.proc rec) f.first) → AllFine f.first.lanes
    by None is = subst AllFine (sym (ap (λ (w : View). w.lanes) is)) all
    by (Some at) t =
        step-fine old f.first at t.number t.machine t.after t.shelf t.next t.there
        (steps.all-takes NotLost own t.machine old.wsize purpose.sent (turn_at old) (said_of purpose.proc rec) old.shelf t.next t.after t.shelf
        (steps.any-ends NotLost own tt t.machine old.shelf) (came-fine (said_of purpose.proc rec) (said-fine purpose.proc rec))
        (all at (record { number = t.number; state = Busy t.machine }) t.there) t.takes) t.leads all
