-- As long as a further call may be made, no operation gives that none may.
use Rattle.core_answers.proofs.Prelude.{◌≡◌, ◌≢◌, ◌<◌, ◌≤◌, ◌⊎◌, inl, inr, ℕ, Bool, true, false, List, [], ◌∷◌, ◌++◌, length, map, Option, Some, None, MatchOption, position, slice_get, slice_set, Result, Ok, Err, refl, sym, ap, subst, ◌∙◌, arith, if◌then◌else◌, eqb-true, cases_lt, DirKept, FileKept, Answer, Fault, Entry, Began, Answered, Dialed, Executed, Foreign, Flushed, Reboot, Delivered, Failed, Clock, Reply, Op, At, At-cases, At-below, At-back, said_of, Step, Shelf, Mounted, Machine, machine_of, Lane, Purpose, State, Busy, Over, Setup, is_busy, with_state, IsRefused, Leads, Stirs, Moves, moves_none, moves_more, counted, StartsLane, BeginsIf, TakesAt, View, turn_at, unmade_turn, StepsTo, Reaches, begins, goes, loses, last_reading, Heard, dropped, replied, sent_now, FailedNow, goes_on, gives_up, failed_now, answered_now, taken_one, FineAnswer, FineResult, at-set, at-push, get-push, get-remove, skip, reached-rows, set-other, by-place, Stays, begins-stay, hears-for-stay}
use Rattle.std.proofs.Common.{nat_lt}
use Rattle.std.specs.Prelude.{◌==◌}
use Rattle.world_model.specs.declared.entry.Entry.TheVariants.{Sent}
use Rattle.call_replies.specs.Says.{said_by}
use Rattle.client_core.specs.Lanes.{lost_lane}
use Rattle.client_core.specs.Steps.{IsUnmade, HearsFor}
use Rattle.core_facts.proofs.Cases.{heard}
use Rattle.core_facts.proofs.Faults.{OwnFaults, OfReply, Came}
use Rattle.core_facts.proofs.Lists.{in-map}
use Rattle.core_facts.proofs.Stories.{some-answer}
use Rattle.xdr_codec.specs.declared.reader.XdrFault.{XdrFault}
use Rattle.rpc_message.specs.declared.reply.ReplyFault.{ReplyFault}
use Rattle.rpc_message.specs.Reply.{RpcReply, Accepted}
use Rattle.nfs_dir_calls.specs.declared.keeping.DirKept.TheVariants as found
use Rattle.nfs_dir_calls.specs.Calls.{is_dir_proc}
use Rattle.nfs_dir_calls.specs.Replies.{dir_reply_at}
use Rattle.nfs_file_calls.specs.declared.owned.FileKept.TheVariants as kept
use Rattle.nfs_file_calls.specs.Calls.{is_file_proc}
use Rattle.nfs_file_calls.specs.Replies.{file_reply_at}
use Rattle.rpc_message.specs.declared.reply.ReplyFault.TheVariants.{NotReply, Xdr}
use Rattle.rpc_message.specs.Reply.{Refused as RpcRefused, Denied, reply_at}
use Rattle.rpc_retry.specs.declared.answers.PutRefusal.{PutRefusal}
use Rattle.rpc_retry.specs.declared.answers.PutRefusal.TheVariants as refusals
use Rattle.rpc_retry.specs.Held.{Held}
use Rattle.world_model.specs.declared.answer.Answer.TheVariants as answers
use Rattle.world_model.specs.declared.answer.Fault.TheVariants as faults
use Rattle.world_model.specs.declared.message.Reply.TheVariants as replies
use Rattle.world_model.specs.Rules.{most_bytes}
use Rattle.call_replies.specs.Records.{results_by, results_read, results_in}
use Rattle.call_replies.specs.Results.{dir_said, file_said, said_in}
use Rattle.client_shelf.specs.declared.step.Step.TheVariants as nexts
use Rattle.core_facts.proofs.AllFaults as steps
use Rattle.core_facts.proofs.Sound.{reached-sound}
use Rattle.core_answers.specs.limits.Limited.{XidsWithin, AllMade}

-- that all calls were made is none of them
abbrev pub NotSpent : Fault → Type 0
NotSpent faults.Lost = Unit {0}
NotSpent (faults.Nfs status) = Unit {0}
NotSpent (faults.Rpc n) = Unit {0}
NotSpent (faults.Bad rule) = Unit {0}
NotSpent faults.Spent = ⊥
NotSpent faults.Slot = Unit {0}
NotSpent faults.Mode = Unit {0}
NotSpent faults.Kind = Unit {0}
NotSpent faults.Many = Unit {0}
NotSpent faults.Memory = Unit {0}

pub own_unspent : OwnFaults NotSpent
own_unspent = record { kind = tt; many = tt; memory = tt; bad = λ rule. tt }

-- ---- what a record says

either-fine : {T : Type 0} → (b : Bool) (one other : Result T Fault) → FineResult NotSpent one → FineResult NotSpent other → FineResult NotSpent (if b then one else other)
either-fine true one other f g = f
either-fine false one other f g = g

by-fine : (reply : RpcReply) → FineResult NotSpent (results_by reply)
by-fine (Accepted xid results) = tt
by-fine (RpcRefused xid stat low high) = tt
by-fine (Denied xid stat first second) = tt

read-fine : (reply : Result RpcReply ReplyFault) → FineResult NotSpent (results_read reply)
read-fine (Ok reply) = by-fine reply
read-fine (Err NotReply) = tt
read-fine (Err (Xdr fault)) = tt

results-fine : (rec : List ℕ) → FineResult NotSpent (results_in rec)
results-fine rec = either-fine (nat_lt most_bytes (length rec)) (Err (faults.Bad 7)) (results_read (reply_at rec)) tt (read-fine (reply_at rec))

dir-fine : (said : Result DirKept XdrFault) → FineResult NotSpent (dir_said said)
dir-fine (Ok reply) = tt
dir-fine (Err fault) = tt

file-fine : (said : Result FileKept XdrFault) → FineResult NotSpent (file_said said)
file-fine (Ok reply) = tt
file-fine (Err fault) = tt

in-fine : (proc : ℕ) (results : List ℕ) → FineResult NotSpent (said_in proc results)
in-fine proc results =
    either-fine (is_dir_proc proc) (dir_said (dir_reply_at proc results)) _ (dir-fine (dir_reply_at proc results))
    (either-fine (is_file_proc proc) (file_said (file_reply_at proc results)) (Err (faults.Bad 2)) (file-fine (file_reply_at proc results)) tt)

said-by-fine : (proc : ℕ) (results : Result (List ℕ) Fault) → FineResult NotSpent results → FineResult NotSpent (said_by proc results)
said-by-fine proc (Ok results) f = in-fine proc results
said-by-fine proc (Err fault) f = f

said-fine : (proc : ℕ) (rec : List ℕ) → FineResult NotSpent (said_of proc rec)
said-fine proc rec = said-by-fine proc (results_in rec) (results-fine rec)

dir-reply : (reply : DirKept) → OfReply NotSpent (replies.Dir reply)
dir-reply (found.LookupFail status dir) = tt
dir-reply (found.ReadLinkFail status attr) = tt
dir-reply (found.CreateFail status wcc) = tt
dir-reply (found.MkDirFail status wcc) = tt
dir-reply (found.SymLinkFail status wcc) = tt
dir-reply (found.RemoveFail status wcc) = tt
dir-reply (found.RmDirFail status wcc) = tt
dir-reply (found.RenameFail status source target) = tt
dir-reply (found.LinkFail status attr wcc) = tt
dir-reply (found.ReadDirPlusFail status attr) = tt
dir-reply reply = tt

file-reply : (reply : FileKept) → OfReply NotSpent (replies.File reply)
file-reply (kept.GetAttrFail status) = tt
file-reply (kept.SetAttrFail status wcc) = tt
file-reply (kept.AccessFail status attr) = tt
file-reply (kept.ReadFail status attr) = tt
file-reply (kept.WriteFail status wcc) = tt
file-reply (kept.CommitFail status wcc) = tt
file-reply reply = tt

came-fine : (came : Result Reply Fault) → FineResult NotSpent came → Came NotSpent came
came-fine (Ok (replies.Dir reply)) f = dir-reply reply
came-fine (Ok (replies.File reply)) f = file-reply reply
came-fine (Ok (replies.Mount reply)) f = tt
came-fine (Err fault) f = f

-- ---- lanes

abbrev StateFine : State → Type 0
StateFine (Busy machine) = steps.FineMachine NotSpent own_unspent machine
StateFine (Over answer) = FineAnswer NotSpent answer

abbrev LaneFine : Lane → Type 0
LaneFine lane = StateFine lane.state

abbrev LanesFine : List Lane → Type 0
LanesFine lanes = (k : ℕ) (lane : Lane) → slice_get lanes k ≡ Some lane → LaneFine lane

-- as long as a further call may be made
abbrev Fine : View → Type 0
Fine v = v.calls.made < v.calls.limit → LanesFine v.lanes

set-fine : (lanes : List Lane) (at number : ℕ) (was state : State) → slice_get lanes at ≡ Some (record { number = number; state = was })
    → ((k : ℕ) (lane : Lane) → slice_get lanes k ≡ Some lane → k ≢ at → LaneFine lane) → StateFine state
    → LanesFine (slice_set lanes at (record { number = number; state = state }))
set-fine lanes at number was state there rest fine =
    by-place LaneFine (slice_set lanes at (record { number = number; state = state })) at (record { number = number; state = state })
    (at-set lanes at (record { number = number; state = was }) (record { number = number; state = state }) there) fine
    (λ k lane here apart. rest k lane (sym (set-other lanes at k (record { number = number; state = state }) apart) ∙ here) apart)

lost-fine : (state : State) (number : ℕ) → StateFine state → LaneFine (lost_lane (record { number = number; state = state }))
lost-fine (Busy machine) number f = tt
lost-fine (Over answer) number f = f

all-lost : (lanes : List Lane) → LanesFine lanes → LanesFine (map lost_lane lanes)
all-lost lanes f k lane there = let j = in-map lost_lane lanes k lane there in subst LaneFine (sym j.2) (lost-fine j.0.state j.0.number (f k j.0 j.1))

-- ---- a step and what it leads to

check-is : (v : View) (fault : Fault) → IsUnmade v fault → v.calls.made < v.calls.limit → NotSpent fault
check-is v faults.Spent u less = absurd (by (v.calls.made == v.calls.limit) (length v.calls.calls == 32) refl u)
  where
    by : (b full : Bool) → (v.calls.made == v.calls.limit) ≡ b
        → ◌≡◌ {A = Result (Unit {0}) PutRefusal} (if b then Err refusals.Spent else (if full then Err refusals.Crowded else Ok tt)) (Err refusals.Spent) → ⊥
    by true full d e = let same = eqb-true v.calls.made v.calls.limit d in omega (arith, same, less)
    by false true d e = cc
    by false false d e = cc
check-is v faults.Memory u less = tt
check-is v faults.Lost u less = tt
check-is v (faults.Nfs status) u less = tt
check-is v (faults.Rpc n) u less = tt
check-is v (faults.Bad rule) u less = tt
check-is v faults.Slot u less = tt
check-is v faults.Mode u less = tt
check-is v faults.Kind u less = tt
check-is v faults.Many u less = tt

refused-fine : (after : Machine) (next : Step) (state : State) → IsRefused after next state → steps.MachineStep NotSpent own_unspent next after → StateFine state
refused-fine after (nexts.Send call) state is s = absurd is
refused-fine after nexts.Wait state is s = subst StateFine (sym is) s.1
refused-fine after (nexts.Done answer) state is s = subst StateFine (sym is) s.0

-- the lane at a place made a step
leads-fine : (v new : View) (at number : ℕ) (machine : Machine) (next : Step) → slice_get v.lanes at ≡ Some (record { number = number; state = Busy machine })
    → (v.calls.made < v.calls.limit → (k : ℕ) (lane : Lane) → slice_get v.lanes k ≡ Some lane → k ≢ at → LaneFine lane)
    → (v.calls.made < v.calls.limit → steps.MachineStep NotSpent own_unspent next machine) → Leads v at number machine next new → Fine new
leads-fine v new at number machine (nexts.Send call) there rest s (inl k) = subst Fine (sym k.is) (λ less.
    let before : v.calls.made < v.calls.limit = omega (arith, less) in
    by-place LaneFine v.lanes at (record { number = number; state = Busy machine }) there (s before).1 (rest before))
leads-fine v new at number machine (nexts.Send call) there rest s (inr f) = subst Fine (sym f.is) (λ less.
    set-fine v.lanes at number (Busy machine) f.state there (rest less)
    (refused-fine f.after f.next f.state f.leads
    (steps.all-takes NotSpent own_unspent machine v.wsize (turn_at v) (unmade_turn v) (Err f.fault) v.shelf f.next f.after f.left (steps.any-ends NotSpent own_unspent tt machine v.shelf)
    (check-is v f.fault f.unmade less) (s less).1 f.takes)))
leads-fine v new at number machine nexts.Wait there rest s is =
    subst Fine (sym is) (λ less. by-place LaneFine v.lanes at (record { number = number; state = Busy machine }) there (s less).1 (rest less))
leads-fine v new at number machine (nexts.Done answer) there rest s is =
    subst Fine (sym is) (λ less. set-fine v.lanes at number (Busy machine) (Over answer) there (rest less) (s less).0)

-- the machine at a place is another one
step-fine : (old new : View) (at number : ℕ) (machine after : Machine) (shelf : Shelf) (next : Step) → slice_get old.lanes at ≡ Some (record { number = number; state = Busy machine })
    → Fine old → (old.calls.made < old.calls.limit → steps.MachineStep NotSpent own_unspent next after) → Leads (with_state old at number (Busy after) shelf) at number after next new → Fine new
step-fine old new at number machine after shelf next there fine s l =
    leads-fine (with_state old at number (Busy after) shelf) new at number after next
    (at-set old.lanes at (record { number = number; state = Busy machine }) (record { number = number; state = Busy after }) there)
    (λ less k lane here apart. fine less k lane (sym (set-other old.lanes at k (record { number = number; state = Busy after }) apart) ∙ here)) s l

stirs-fine : (old new : View) (at : ℕ) → Stirs old at new → Fine old → Fine new
stirs-fine old new at t fine =
    step-fine old new at t.number t.machine t.after t.shelf t.next t.there fine
    (λ less. steps.all-resumes NotSpent own_unspent t.machine old.wsize (turn_at old) old.shelf t.next t.after t.shelf
    (fine less at (record { number = t.number; state = Busy t.machine }) t.there) t.resumes) t.leads

moves-fine : (old new : View) → Moves old new → Fine old → Fine new
moves-fine _ _ (moves_none old new is) fine = subst Fine (sym is) fine
moves-fine _ _ (moves_more old mid new at k room t first) fine = stirs-fine mid new at t (moves-fine old mid k fine)

module _ (m : Mounted) where
  starts-fine : (old new : View) (lane : ℕ) (op : Op) → StartsLane old lane (machine_of m lane op) new → Fine old → Fine new
  starts-fine old new lane op t fine =
      leads-fine (record old { lanes = old.lanes ++ record { number = lane; state = Busy t.after } ∷ []; shelf = t.shelf }) new (length old.lanes) lane t.after t.next
      (at-push old.lanes (record { number = lane; state = Busy t.after }))
      (λ less k l here apart. before less k l apart (get-push old.lanes (record { number = lane; state = Busy t.after }) k l here))
      (λ less. steps.all-starts NotSpent own_unspent (machine_of m lane op) old.wsize (turn_at old) old.shelf t.next t.after t.shelf
      (steps.any-begins NotSpent own_unspent tt tt (machine_of m lane op) old.shelf) (steps.begins-fine NotSpent own_unspent m lane op) t.starts) t.leads
    where
      before : old.calls.made < old.calls.limit → (k : ℕ) (l : Lane) → k ≢ length old.lanes
          → (slice_get old.lanes k ≡ Some l) ⊎ ((k ≡ length old.lanes) × (l ≡ record { number = lane; state = Busy t.after })) → LaneFine l
      before less k l apart (inl here) = fine less k l here
      before less k l apart (inr new_one) = absurd (apart new_one.0)

  begins-fine : (b : Bool) (old new : View) (lane : ℕ) (op : Op) (now : ℕ) → BeginsIf b old lane (machine_of m lane op) now new → Fine old → Fine new
  begins-fine true old new lane op now is fine = subst Fine (sym is) (λ less k l there. by less k l (get-push old.lanes (record { number = lane; state = Over (answers.Refused faults.Lost) }) k l there))
    where
      by : old.calls.made < old.calls.limit → (k : ℕ) (l : Lane)
          → (slice_get old.lanes k ≡ Some l) ⊎ ((k ≡ length old.lanes) × (l ≡ record { number = lane; state = Over (answers.Refused faults.Lost) })) → LaneFine l
      by less k l (inl here) = fine less k l here
      by less k l (inr new_one) = subst LaneFine (sym new_one.1) tt
  begins-fine false old new lane op now b fine = moves-fine b.first new b.rest (starts-fine (counted old now) b.first lane op b.own fine)

  hears-fine : (old new : View) (rec : List ℕ) (purpose : Purpose) → HearsFor old rec purpose new → Fine old → Fine new
  hears-fine old new rec purpose f fine = moves-fine f.first new f.rest (by (position (is_busy purpose.lane) old.lanes) f.own)
    where
      by : (o : Option ℕ) → MatchOption o (f.first ≡ old) (λ at. TakesAt old at purpose.sent (said_of purpose.proc rec) f.first) → Fine f.first
      by None is = subst Fine (sym is) fine
      by (Some at) o =
          step-fine old f.first at o.number o.machine o.after o.shelf o.next o.there fine
          (λ less. steps.all-takes NotSpent own_unspent o.machine old.wsize purpose.sent (turn_at old) (said_of purpose.proc rec) old.shelf o.next o.after o.shelf
          (steps.any-ends NotSpent own_unspent tt o.machine old.shelf) (came-fine (said_of purpose.proc rec) (said-fine purpose.proc rec))
          (fine less at (record { number = o.number; state = Busy o.machine }) o.there) o.takes) o.leads

  heard-fine : (old : View) (rec : List ℕ) (new : View) → Heard old rec new → Fine old → Fine new
  heard-fine old rec new (dropped none is) fine = subst Fine (sym is) fine
  heard-fine old rec new (replied xid call named waits f) fine = hears-fine (taken_one old xid) new rec call.purpose f fine

  failed-fine : (old new : View) → FailedNow old new → Fine old → Fine new
  failed-fine old new (goes_on none is) fine = subst Fine (sym is) fine
  failed-fine old new (gives_up xid up is) fine = subst Fine (sym is) (λ less. all-lost old.lanes (fine less))

  -- ---- along a history

  -- No operation that began was answered so.
  abbrev NoneSpent : List Entry → Type 0
  NoneSpent h = (x y lane line other : ℕ) (op : Op) → At h x (Began lane line op) → At h y (Answered lane other (answers.Refused faults.Spent)) → x < y → ⊥

  -- as long as a further call may be made no lane gives it, and none has
  pub record Unspent (h : List Entry) (v : View) : Type 0 where
    pub lanes : Fine v
    pub noted : v.calls.made < v.calls.limit → NoneSpent h

  -- another entry
  quiet-noted : (h : List Entry) (e : Entry) → ((lane line : ℕ) (answer : Answer) → e ≡ Answered lane line answer → ⊥) → NoneSpent h → NoneSpent (h ++ e ∷ [])
  quiet-noted h e other none x y lane line o op began answered early = by (At-cases h e y (Answered lane o (answers.Refused faults.Spent)) answered)
    where
      by : At h y (Answered lane o (answers.Refused faults.Spent)) ⊎ ((y ≡ length h) × (e ≡ Answered lane o (answers.Refused faults.Spent))) → ⊥
      by (inl there) =
          let low = At-below h y (Answered lane o (answers.Refused faults.Spent)) there in
          none x y lane line o op (At-back h (e ∷ []) x (Began lane line op) began (omega (arith, early, low))) there early
      by (inr now) = other lane o (answers.Refused faults.Spent) now.1

  -- an answer that a lane gave
  answer-noted : (h : List Entry) (lane line : ℕ) (given : Answer) → FineAnswer NotSpent given → NoneSpent h → NoneSpent (h ++ Answered lane line given ∷ [])
  answer-noted h lane line given fine none x y n l o op began answered early = by (At-cases h (Answered lane line given) y (Answered n o (answers.Refused faults.Spent)) answered)
    where
      same : (a b c d : ℕ) (p q : Answer) → Answered a b p ≡ Answered c d q → p ≡ q
      same a b c d p q e = cc

      by : At h y (Answered n o (answers.Refused faults.Spent)) ⊎ ((y ≡ length h) × (Answered lane line given ≡ Answered n o (answers.Refused faults.Spent))) → ⊥
      by (inl there) =
          let low = At-below h y (Answered n o (answers.Refused faults.Spent)) there in
          none x y n l o op (At-back h (Answered lane line given ∷ []) x (Began n l op) began (omega (arith, early, low))) there early
      by (inr now) = subst (FineAnswer NotSpent) (same lane line n o given (answers.Refused faults.Spent) now.1) fine

  -- as many calls were made at least
  abbrev pub IsGrown : View → View → Type 0
  IsGrown old new = (old.calls.made ≤ new.calls.made) × (new.calls.limit ≡ old.calls.limit)

  grown-stays : (old : View) → Stays (IsGrown old)
  grown-stays old = record {
    makes = λ v new number call k g. subst (IsGrown old) (sym k.is) (let more = g.0 in omega (arith, more), g.1);
    sets = λ v at number was state shelf there g. g;
  }

  same-grown : (old new : View) → new ≡ old → IsGrown old new
  same-grown old new is = subst (IsGrown old) (sym is) (omega arith, refl)

  heard-grown : (old : View) (rec : List ℕ) (new : View) → Heard old rec new → IsGrown old new
  heard-grown old rec new (dropped none is) = same-grown old new is
  heard-grown old rec new (replied xid call named waits f) = hears-for-stay (IsGrown old) (grown-stays old) (taken_one old xid) new rec call.purpose f (omega arith, refl)

  failed-grown : (old new : View) → FailedNow old new → IsGrown old new
  failed-grown old new (goes_on none is) = subst (IsGrown old) (sym is) (omega arith, refl)
  failed-grown old new (gives_up xid up is) = subst (IsGrown old) (sym is) (omega arith, refl)

  pub step-grown : (h : List Entry) (old : View) (e : Entry) (new : View) → StepsTo (machine_of m) h old e new → IsGrown old new
  step-grown h old (Began lane line op) new t =
      begins-stay (IsGrown old) (grown-stays old) old new lane (machine_of m lane op) (last_reading 0 h) (λ state shelf. (omega arith, refl)) t.step
  step-grown h old (Answered lane line given) new t = let a = answered_now old lane given new t.answers in subst (IsGrown old) (sym a.is.is) (omega arith, refl)
  step-grown h old (Sent bytes) new t = let n = sent_now old bytes new t in subst (IsGrown old) (sym n.is) (omega arith, refl)
  step-grown h old (Delivered bytes) new t = heard-grown old bytes new (heard old bytes t.result new t.hears)
  step-grown h old Failed new (inl t) = failed-grown old new (failed_now old t.0 new t.1)
  step-grown h old Failed new (inr t) = same-grown old new t
  step-grown h old (Dialed port) new t = same-grown old new t
  step-grown h old (Executed xid call reply) new t = same-grown old new t
  step-grown h old (Foreign call reply) new t = same-grown old new t
  step-grown h old (Flushed file from len) new t = same-grown old new t
  step-grown h old (Reboot verf) new t = same-grown old new t
  step-grown h old (Clock ms) new t = same-grown old new t

  unspent-as : (h : List Entry) (e : Entry) (old new : View) → IsGrown old new → ((lane line : ℕ) (answer : Answer) → e ≡ Answered lane line answer → ⊥) → Fine new → Unspent h old
      → Unspent (h ++ e ∷ []) new
  unspent-as h e old new g other fine u =
      record { lanes = fine; noted = λ less. quiet-noted h e other (u.noted (let more = g.0 in let same = g.1 in omega (arith, less, more, same))) }

  same-unspent : (h : List Entry) (e : Entry) (old new : View) → new ≡ old → ((lane line : ℕ) (answer : Answer) → e ≡ Answered lane line answer → ⊥) → Unspent h old → Unspent (h ++ e ∷ []) new
  same-unspent h e old new is other u = unspent-as h e old new (same-grown old new is) other (subst Fine (sym is) u.lanes) u

  unspent-step : (h : List Entry) (old : View) (e : Entry) (new : View) → StepsTo (machine_of m) h old e new → Unspent h old → Unspent (h ++ e ∷ []) new
  unspent-step h old (Began lane line op) new t u =
      unspent-as h (Began lane line op) old new (begins-stay (IsGrown old) (grown-stays old) old new lane (machine_of m lane op) (last_reading 0 h) (λ state shelf. (omega arith, refl)) t.step)
      (λ n l a e. cc) (begins-fine old.lost old new lane op (last_reading 0 h) t.step u.lanes) u
  unspent-step h old (Answered lane line given) new t u =
      let a = answered_now old lane given new t.answers in
      subst (Unspent (h ++ Answered lane line given ∷ [])) (sym a.is.is) (record {
        lanes = λ less k l there. u.lanes less (skip a.at k) l (get-remove old.lanes a.at k l there);
        noted = λ less.
            answer-noted h lane line given
            (subst (FineAnswer NotSpent) (sym (some-answer given a.is.answer a.is.gives)) (u.lanes less a.at (record { number = lane; state = Over a.is.answer }) a.is.there)) (u.noted less);
      })
  unspent-step h old (Sent bytes) new t u =
      let n = sent_now old bytes new t in
      unspent-as h (Sent bytes) old new (subst (IsGrown old) (sym n.is) (omega arith, refl)) (λ n l a e. cc) (subst Fine (sym n.is) u.lanes) u
  unspent-step h old (Delivered bytes) new t u =
      let d = heard old bytes t.result new t.hears in
      unspent-as h (Delivered bytes) old new (heard-grown old bytes new d) (λ n l a e. cc) (heard-fine old bytes new d u.lanes) u
  unspent-step h old Failed new (inl t) u =
      let f = failed_now old t.0 new t.1 in
      unspent-as h Failed old new (failed-grown old new f) (λ n l a e. cc) (failed-fine old new f u.lanes) u
  unspent-step h old Failed new (inr t) u = same-unspent h Failed old new t (λ n l a e. cc) u
  unspent-step h old (Dialed port) new t u = same-unspent h (Dialed port) old new t (λ n l a e. cc) u
  unspent-step h old (Executed xid call reply) new t u = same-unspent h (Executed xid call reply) old new t (λ n l a e. cc) u
  unspent-step h old (Foreign call reply) new t u = same-unspent h (Foreign call reply) old new t (λ n l a e. cc) u
  unspent-step h old (Flushed file from len) new t u = same-unspent h (Flushed file from len) old new t (λ n l a e. cc) u
  unspent-step h old (Reboot verf) new t u = same-unspent h (Reboot verf) old new t (λ n l a e. cc) u
  unspent-step h old (Clock ms) new t u = same-unspent h (Clock ms) old new t (λ n l a e. cc) u

  pub reached-unspent : (setup : Setup) (h : List Entry) (v : View) → Reaches (machine_of m) setup h v → Unspent h v
  reached-unspent setup _ _ (begins h v may up fresh) = record {
    lanes = λ less k l there. absurd (let no_way : None ≡ Some l = ap (λ (lanes : List Lane). slice_get lanes k) (sym fresh.lanes) ∙ there in cc);
    noted = λ less x y lane line other op began answered early. up.unbegun x lane line op began;
  }
  reached-unspent setup _ _ (goes h before v b e r is t) = subst (λ (k : List Entry). Unspent k v) (sym is) (unspent-step before b e v t (reached-unspent setup before b r))
  reached-unspent setup _ _ (loses h v b r shown is) =
      let u = reached-unspent setup h b r in
      subst (Unspent h) (sym is) (record { lanes = λ less. all-lost b.lanes (u.lanes less); noted = u.noted })

-- ---- the limit

same-limit : (m : Mounted) (setup : Setup) (h : List Entry) (v : View) → Reaches (machine_of m) setup h v → v.calls.limit ≡ setup.limit
same-limit m setup _ _ (begins h v may up fresh) = ap (λ (c : Held Purpose). c.limit) fresh.calls
same-limit m setup _ _ (goes h before v b e r is t) = (step-grown m before b e v t).1 ∙ same-limit m setup before b r
same-limit m setup _ _ (loses h v b r shown is) = ap (λ (w : View). w.calls.limit) is ∙ same-limit m setup h b r

pub made-by : (m : Mounted) (setup : Setup) (h : List Entry) (v : View) → Reaches (machine_of m) setup h v → (x y lane line other : ℕ) (op : Op) → At h x (Began lane line op)
    → At h y (Answered lane other (answers.Refused faults.Spent)) → x < y → v.calls.made ≡ setup.limit
made-by m setup h v r x y lane line other op began noted early = by (cases_lt v.calls.made v.calls.limit)
  where
    most : v.calls.made ≤ v.calls.limit
    most = (reached-sound (machine_of m) setup h v r).calls.within

    by : (v.calls.made < v.calls.limit) ⊎ (v.calls.limit ≤ v.calls.made) → v.calls.made ≡ setup.limit
    by (inl less) = absurd ((reached-unspent m setup h v r).noted less x y lane line other op began noted early)
    by (inr enough) = let low = most in let limit = same-limit m setup h v r in omega (arith, low, enough, limit)

pub all-made : AllMade
all-made m setup h v r lane x op y ended = made-by m setup h v r x y lane ended.line ended.line op ended.began ended.answered ended.later

pub xids-within : XidsWithin
xids-within m setup h v r i xid bytes at has =
    let rows = reached-rows (machine_of m) setup h v r in
    let used = rows.used i xid bytes at has in
    let within = rows.sound.calls.within in
    let first = rows.sound.first in
    let limit = same-limit m setup h v r in
    omega (arith, used, within, first, limit)
