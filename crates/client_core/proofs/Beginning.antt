-- An operation is counted, a lane is added, a call waits no more: what every step needs stays.
use Rattle.std.proofs.Common.{◌≡◌, ◌+◌, ◌*◌, ◌≤◌, ◌<◌, ◌^◌, ℕ, zero, suc, List, [], ◌∷◌, ◌++◌, length, Bool, true, false, cond, nat_eq, Option, Some, None, All, MatchOption, position, refl, sym, ap, subst, ◌∙◌, arith}
use Rattle.std.proofs.lemmas.List.{length_push}
use Rattle.std.proofs.lemmas.List.Elements.{All-push}
use Rattle.rpc_message.specs.Call.{xid_at}
use Rattle.rpc_retry.specs.declared.waiting.Waiting.{Waiting}
use Rattle.rpc_retry.specs.Waiting.{waiting_at, without}
use Rattle.rpc_retry.specs.Take.{awaited, after_taking}
use Rattle.world_model.specs.declared.answer.Answer.{Answer}
use Rattle.world_model.specs.declared.answer.Answer.TheVariants as answers
use Rattle.world_model.specs.declared.answer.Fault.TheVariants as faults
use Rattle.call_replies.specs.Says.{said_of}
use Rattle.client_shelf.specs.declared.step.Step.{Step}
use Rattle.client_shelf.specs.declared.shelf.Shelf.{Shelf}
use Rattle.op_machines.specs.declared.machine.Machine.{Machine}
use Rattle.op_machines.specs.Steps.{Starts}
use Rattle.client_core.specs.declared.lane.Lane.{Lane}
use Rattle.client_core.specs.declared.lane.Purpose.{Purpose}
use Rattle.client_core.specs.declared.lane.State.TheVariants.{Busy, Over}
use Rattle.client_core.specs.Lanes.{LaneFits, is_busy, is_busy_at}
use Rattle.client_core.specs.View.{View, turn_at, IsBound, IsSound}
use Rattle.client_core.specs.Steps.{IsBusyAt, Leads, StartsLane, TakesAt, Moves, Still, counted, taken, TakesOne, TakesCall, HearsOwn, HearsFor, Hears, BeginsIf, Begins}
use Rattle.client_core.specs.Numbers.{IsIdle}
use Rattle.client_core.proofs.Numbers.{pushed-lanes}
use Rattle.client_core.proofs.Places.{at-last, is-busy}

pub counted-sound : (v : View) (clock : ℕ) → v.begun < 2 ^ 32 → IsSound v → IsSound (record v { clock = clock; moments = v.moments + 1; begun = v.begun + 1 })
counted-sound v clock few s =
    let b = s.bound in
    record {
      bound = record {
        size = b.size;
        most = b.most;
        spells = b.spells;
        seq = let below = b.seq in omega (arith, below);
        moments = let all = b.moments in omega (arith, all);
        begun = omega (arith, few);
        lanes = b.lanes;
        fits = b.fits;
      };
      ready = s.ready;
    }

pub counted-seq : (v : View) (now : ℕ) → IsSound v → (counted v now).shelf.seq < (counted v now).moments
counted-seq v now s = let below = s.bound.seq in omega (arith, below)

pub pushed-sound : (v : View) (number : ℕ) (answer : Answer) → IsIdle number v.lanes → IsSound v → IsSound (record v { lanes = v.lanes ++ record { number = number; state = Over answer } ∷ [] })
pushed-sound v number answer idle s =
    let b = s.bound in
    let lane : Lane = record { number = number; state = Over answer } in
    record {
      bound = record {
        size = b.size;
        most = b.most;
        spells = b.spells;
        seq = b.seq;
        moments = b.moments;
        begun = b.begun;
        lanes = pushed-lanes v.lanes number (Over answer) idle b.lanes;
        fits = All-push LaneFits v.lanes lane b.fits tt;
      };
      ready = s.ready;
    }

-- ---- a call that waits no more

fewer-wait : (xid : ℕ) (calls : List (ℕ × Waiting Purpose)) (call : Waiting Purpose) → waiting_at xid calls ≡ Some call → length (without xid calls) + 1 ≡ length calls
fewer-wait xid [] call waits = absurd (cc)
fewer-wait xid (e ∷ es) call waits =
    elim (nat_eq xid e.0) as (λ b. cond b (Some e.1) (waiting_at xid es) ≡ Some call → length (cond b es (e ∷ without xid es)) + 1 ≡ suc (length es)) [
      | true ↦ λ h. omega arith
      | false ↦ λ h. let rest = fewer-wait xid es call h in omega (arith, rest)
    ] waits

fewer-after : (first : Option ℕ) (calls : List (ℕ × Waiting Purpose)) (call : Waiting Purpose) → awaited first calls ≡ Some call → length (after_taking first calls) + 1 ≡ length calls
fewer-after None calls call waits = absurd (cc)
fewer-after (Some xid) calls call waits = fewer-wait xid calls call waits

pub taken-sound : (v : View) (rec : List ℕ) (call : Waiting Purpose) → awaited (xid_at rec) v.calls.calls ≡ Some call → IsSound v → IsSound (taken v rec)
taken-sound v rec call waits s =
    let b = s.bound in
    let less = fewer-after (xid_at rec) v.calls.calls call waits in
    record {
      bound = record {
        size = b.size;
        most = b.most;
        spells = b.spells;
        seq = let below = b.seq in omega (arith, below);
        moments = let all = b.moments in omega (arith, all, less);
        begun = b.begun;
        lanes = b.lanes;
        fits = b.fits;
      };
      ready = s.ready;
    }

pub takes-sound : (old new : View) (rec : List ℕ) (purpose : Purpose) → TakesOne old rec purpose new → IsSound old → IsSound new
takes-sound old new rec purpose t s = subst IsSound (sym t.is) (taken-sound old rec t.call t.waits s)

pub takes-seq : (old new : View) (rec : List ℕ) (purpose : Purpose) → TakesOne old rec purpose new → IsSound old → new.shelf.seq < new.moments
takes-seq old new rec purpose t s = subst (λ (v : View). v.shelf.seq < v.moments) (sym t.is) (let below = s.bound.seq in omega (arith, below))

-- ---- a record that came

pub heard-none : (old new : View) (rec : List ℕ) (result : Bool) → result ≡ false → TakesCall old rec None new → Hears old rec result new
heard-none old new rec result is t = by (awaited (xid_at rec) old.calls.calls) t.0
  where
    by : (o : Option (Waiting Purpose)) → o ≡ None → MatchOption o ((result ≡ false) × (new ≡ old)) (λ call. (result ≡ true) × HearsFor (taken old rec) rec call.purpose new)
    by None e = (is, t.1)
    by (Some call) e = absurd (cc)

pub heard-one : (old mid new : View) (rec : List ℕ) (result : Bool) (purpose : Purpose) → result ≡ true → TakesCall old rec (Some purpose) mid → HearsFor mid rec purpose new → Hears old rec result new
heard-one old mid new rec result purpose is t hears = by (awaited (xid_at rec) old.calls.calls) t.waits
  where
    own : HearsFor (taken old rec) rec t.call.purpose new
    own = subst (λ (p : Purpose). HearsFor (taken old rec) rec p new) t.purpose_is (subst (λ (v : View). HearsFor v rec purpose new) t.is hears)

    by : (o : Option (Waiting Purpose)) → o ≡ Some t.call → MatchOption o ((result ≡ false) × (new ≡ old)) (λ call. (result ≡ true) × HearsFor (taken old rec) rec call.purpose new)
    by None e = absurd (cc)
    by (Some call) e = let same : t.call ≡ call = cc in (is, subst (λ (w : Waiting Purpose). HearsFor (taken old rec) rec w.purpose new) same own)

-- the operation that made the call has its answer
pub delivers-none : (old : View) (rec : List ℕ) (purpose : Purpose) → position (is_busy purpose.lane) old.lanes ≡ None → HearsOwn old rec purpose old
delivers-none old rec purpose found = rw found refl

pub delivers-at : (old new : View) (rec : List ℕ) (purpose : Purpose) (at : ℕ) → position (is_busy purpose.lane) old.lanes ≡ Some at → TakesAt old at purpose.sent (said_of purpose.proc rec) new → HearsOwn old rec purpose new
delivers-at old new rec purpose at found own = rw found own

-- ---- an operation that begins

pub begins-now : (old mid first new : View) (number : ℕ) (machine : Machine) (now : ℕ) → mid ≡ counted old now → mid.lost ≡ false → StartsLane mid number machine first → Moves first new → Still new → Begins old number machine now new
begins-now old mid first new number machine now is alive own rest still =
    let lost : old.lost ≡ false = sym (ap (λ (v : View). v.lost) is) ∙ alive in
    subst (λ (b : Bool). BeginsIf b old number machine now new) (sym lost) (record { first = first; own = subst (λ (v : View). StartsLane v number machine first) is own; rest = rest; still = still })

pub begins-lost : (old mid new : View) (number : ℕ) (machine : Machine) (now : ℕ) → mid ≡ counted old now → mid.lost ≡ true
    → new ≡ record mid { lanes = mid.lanes ++ record { number = number; state = Over (answers.Refused faults.Lost) } ∷ [] } → Begins old number machine now new
begins-lost old mid new number machine now is gone pushed =
    let lost : old.lost ≡ true = sym (ap (λ (v : View). v.lost) is) ∙ gone in
    subst (λ (b : Bool). BeginsIf b old number machine now new) (sym lost) (pushed ∙ ap (λ (v : View). record v { lanes = v.lanes ++ record { number = number; state = Over (answers.Refused faults.Lost) } ∷ [] }) is)

-- the operation of a new lane
pub started-busy : (lanes : List Lane) (number : ℕ) (after : Machine) → is_busy_at (length lanes) (lanes ++ record { number = number; state = Busy after } ∷ []) ≡ true
started-busy lanes number after = is-busy (lanes ++ record { number = number; state = Busy after } ∷ []) (length lanes) number after (at-last lanes (record { number = number; state = Busy after }))

pub started-within : (lanes : List Lane) (lane : Lane) → length lanes < length (lanes ++ lane ∷ [])
started-within lanes lane = let more = length_push lanes lane in omega (arith, more)

pub starts-lane : (v : View) (number : ℕ) (machine after : Machine) (next : Step) (shelf : Shelf) (new : View) → Starts v.wsize machine (turn_at v) v.shelf next after shelf
    → ((other : ℕ) (another : Machine) → IsBusyAt (record v { lanes = v.lanes ++ record { number = number; state = Busy after } ∷ []; shelf = shelf }) (length v.lanes) other another
    → Leads (record v { lanes = v.lanes ++ record { number = number; state = Busy after } ∷ []; shelf = shelf }) (length v.lanes) other another next new)
    → StartsLane v number machine new
starts-lane v number machine after next shelf new starts leads = record {
  next = next;
  after = after;
  shelf = shelf;
  starts = starts;
  leads = leads number after (at-last v.lanes (record { number = number; state = Busy after }));
}
