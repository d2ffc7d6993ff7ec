-- What each call of the core leaves as it is: numbers of lanes, how many operations began, a lost session, and how much is left of the calls.
use Rattle.std.proofs.Common.{◌≡◌, ◌≢◌, ◌≤◌, ◌+◌, ◌-◌, ◌*◌, ℕ, zero, suc, List, [], ◌∷◌, ◌++◌, length, map, slice_get, remove, Bool, true, false, nat_eq, Option, Some, None, Ok, Err, MatchOption, refl, sym, ap, subst, ◌∙◌, arith}
use Rattle.std.proofs.lemmas.List.{length-append}
use Rattle.std.proofs.lemmas.Bool.{eq-eqb}
use Rattle.rpc_retry.specs.declared.answers.PutRefusal.TheVariants as refusals
use Rattle.rpc_retry.specs.Held.{Held}
use Rattle.rpc_message.specs.Call.{xid_at}
use Rattle.rpc_retry.specs.Take.{awaited, after_taking}
use Rattle.rpc_retry.specs.Put.{check_of}
use Rattle.rpc_retry.specs.Waiting.{waiting_at, without, first_given_up}
use Rattle.rpc_retry.specs.Fail.{after_failure, failed_after}
use Rattle.rpc_retry.specs.declared.waiting.Waiting.{Waiting}
use Rattle.rpc_retry.proofs.Dues.{length-sent, if_true, if_false}
use Rattle.rpc_retry.proofs.Failing.{length-failed}
use Rattle.world_model.specs.declared.message.Call.{Call}
use Rattle.op_machines.specs.declared.machine.Machine.{Machine}
use Rattle.client_core.specs.declared.lane.Lane.{Lane}
use Rattle.client_core.specs.declared.lane.Purpose.{Purpose}
use Rattle.client_core.specs.Lanes.{lost_lane}
use Rattle.client_core.specs.Numbers.{numbers_of, IsOther, AreOnce}
use Rattle.client_core.specs.View.{View}
use Rattle.client_core.specs.Steps.{Makes, Begins, taken, Hears, HearsFor, SendsIf, FailsAs, SendsBy, FailsBy, failed_view, lost}
use Rattle.core_facts.proofs.Lists.{map-set, map-push}
use Rattle.core_facts.proofs.Walks.{Stays, begins-stay, hears-for-stay}
use Rattle.lane_session.specs.Holding.{calls_left}

number_of : Lane → ℕ
number_of lane = lane.number

-- the numbers, how many began, whether it is lost, and what is left at most
pub record Keeps (numbers : List ℕ) (begun : ℕ) (is_lost : Bool) (left : ℕ) (v : View) : Type 0 where
  pub numbers_are : numbers_of v.lanes ≡ numbers
  pub begun_is : v.begun ≡ begun
  pub lost_is : v.lost ≡ is_lost
  pub left_is : calls_left v ≤ left
  pub within : v.calls.made ≤ v.calls.limit

one-less : (limit made n : ℕ) → made ≤ limit → made ≢ limit → 2 * (limit - (made + 1)) + (n + 1) ≤ 2 * (limit - made) + n
one-less limit made n le other = omega (arith, le, other)

may-differ : (h : Held Purpose) → check_of h ≡ Ok tt → h.made ≢ h.limit
may-differ h may is = absurd (let no_way : check_of h ≡ Err refusals.Spent = if_true (nat_eq h.made h.limit) _ _ (eq-eqb h.made h.limit is) in let both = sym may ∙ no_way in cc)

keeps-makes : (ns : List ℕ) (n : ℕ) (b : Bool) (m : ℕ) (old new : View) (number : ℕ) (call : Call) → Makes old number call new → Keeps ns n b m old → Keeps ns n b m new
keeps-makes ns n b m old new number call made k =
    let other : old.calls.made ≢ old.calls.limit = may-differ old.calls made.may in
    subst (Keeps ns n b m) (sym made.is) (record {
      numbers_are = k.numbers_are;
      begun_is = k.begun_is;
      lost_is = k.lost_is;
      left_is = rw (length-append old.calls.calls _)
          (let l = one-less old.calls.limit old.calls.made (length old.calls.calls) k.within other in let was = k.left_is in omega (arith, l, was));
      within = let w = k.within in omega (arith, w, other);
    })

keeps-stays : (ns : List ℕ) (n : ℕ) (b : Bool) (m : ℕ) → Stays (Keeps ns n b m)
keeps-stays ns n b m = record {
  makes = keeps-makes ns n b m;
  sets = λ old at number was state shelf there k. record {
    numbers_are = map-set (λ (l : Lane). l.number) old.lanes at (record { number = number; state = was }) (record { number = number; state = state }) there refl ∙ k.numbers_are;
    begun_is = k.begun_is;
    lost_is = k.lost_is;
    left_is = k.left_is;
    within = k.within;
  };
}

-- ---- a reply that is taken

shorter-without : (calls : List (ℕ × Waiting Purpose)) (xid : ℕ) (call : Waiting Purpose) → waiting_at xid calls ≡ Some call → suc (length (without xid calls)) ≡ length calls
shorter-without [] xid call w = absurd (cc)
shorter-without (e ∷ es) xid call w = (elim (nat_eq xid e.0) as (λ b. nat_eq xid e.0 ≡ b → suc (length (without xid (e ∷ es))) ≡ suc (length es)) [
  | true ↦ λ d. ap (λ (l : List (ℕ × Waiting Purpose)). suc (length l)) (if_true (nat_eq xid e.0) es (e ∷ without xid es) d)
  | false ↦ λ d. ap (λ (l : List (ℕ × Waiting Purpose)). suc (length l)) (if_false (nat_eq xid e.0) es (e ∷ without xid es) d)
      ∙ ap suc (shorter-without es xid call (sym (if_false (nat_eq xid e.0) (Some e.1) (waiting_at xid es) d) ∙ w))
]) refl

-- what a record leaves: nothing is changed, or less is left of the calls
pub data HeardSo (old : View) (result : Bool) (new : View) : Type 0 where
  heard_none : result ≡ false → new ≡ old → HeardSo old result new
  heard_one : result ≡ true → Keeps (numbers_of old.lanes) old.begun old.lost (calls_left old - 1) new → suc zero ≤ calls_left old → HeardSo old result new

pub heard-so : (old : View) (rec : List ℕ) (b : Bool) (new : View) → old.calls.made ≤ old.calls.limit → Hears old rec b new → HeardSo old b new
heard-so old rec b new within h = by (awaited (xid_at rec) old.calls.calls) refl h
  where
    left : (call : Waiting Purpose) (x : Option ℕ) → awaited x old.calls.calls ≡ Some call → suc (length (after_taking x old.calls.calls)) ≡ length old.calls.calls
    left call None is = absurd (cc)
    left call (Some xid) is = shorter-without old.calls.calls xid call is

    by : (o : Option (Waiting Purpose)) → awaited (xid_at rec) old.calls.calls ≡ o
        → MatchOption o ((b ≡ false) × (new ≡ old)) (λ call. (b ≡ true) × HearsFor (taken old rec) rec call.purpose new) → HeardSo old b new
    by None is t = heard_none t.0 t.1
    by (Some call) is t =
        let l : suc (length (after_taking (xid_at rec) old.calls.calls)) ≡ length old.calls.calls = left call (xid_at rec) is in
        heard_one t.0
        (hears-for-stay (Keeps (numbers_of old.lanes) old.begun old.lost (calls_left old - 1)) (keeps-stays (numbers_of old.lanes) old.begun old.lost (calls_left old - 1)) (taken old rec) new rec call.purpose t.1
        (record { numbers_are = refl; begun_is = refl; lost_is = refl; left_is = omega (arith, l); within = within }))
        (omega (arith, l))

-- ---- the other calls

-- what an operation leaves that begins
pub begins-so : (old : View) (number : ℕ) (machine : Machine) (now : ℕ) (new : View) → old.calls.made ≤ old.calls.limit → Begins old number machine now new
    → Keeps (numbers_of old.lanes ++ number ∷ []) (old.begun + 1) old.lost (calls_left old) new
begins-so old number machine now new within b =
    begins-stay (Keeps (numbers_of old.lanes ++ number ∷ []) (old.begun + 1) old.lost (calls_left old)) (keeps-stays (numbers_of old.lanes ++ number ∷ []) (old.begun + 1) old.lost (calls_left old))
    old new number machine now (λ state shelf. record {
      numbers_are = map-push (λ (l : Lane). l.number) old.lanes (record { number = number; state = state });
      begun_is = refl;
      lost_is = refl;
      left_is = omega arith;
      within = within;
    }) b

-- what sending leaves
pub record SentSo (old new : View) : Type 0 where
  pub lanes : new.lanes ≡ old.lanes
  pub begun : new.begun ≡ old.begun
  pub lost_is : new.lost ≡ old.lost
  pub left : calls_left new ≡ calls_left old

pub sends-so : (old : View) (result : Option (List ℕ)) (new : View) → SendsBy old result new → SentSo old new
sends-so old result new s = by old.lost s
  where
    same : (v : View) → v ≡ old → SentSo old v
    same v is = record { lanes = ap (λ (w : View). w.lanes) is; begun = ap (λ (w : View). w.begun) is; lost_is = ap (λ (w : View). w.lost) is; left = ap calls_left is }

    by : (b : Bool) → SendsIf b old result new → SentSo old new
    by true t = same new t.1
    by false t = subst (SentSo old) (sym t.is) (record { lanes = refl; begun = refl; lost_is = refl; left = ap (λ (n : ℕ). 2 * (old.calls.limit - old.calls.made) + n) (length-sent old.calls.calls) })

-- a session that is given up
lost-numbers : (lanes : List Lane) → numbers_of (map lost_lane lanes) ≡ numbers_of lanes
lost-numbers [] = refl
lost-numbers (lane ∷ lanes) = ap (λ (t : List ℕ). lane.number ∷ t) (lost-numbers lanes)

pub record FailedSo (old : View) (result : Bool) (new : View) : Type 0 where
  pub numbers_are : numbers_of new.lanes ≡ numbers_of old.lanes
  pub begun_is : new.begun ≡ old.begun
  pub left_is : calls_left new ≡ calls_left old
  pub lost_is : result ≡ true → new.lost ≡ old.lost

pub lost-so : (old : View) → FailedSo old false (lost old)
lost-so old = record { numbers_are = lost-numbers old.lanes; begun_is = refl; left_is = refl; lost_is = λ e. absurd cc }

failure-length : (calls : List (ℕ × Waiting Purpose)) → length (after_failure calls) ≡ length calls
failure-length calls = by (first_given_up calls)
  where
    by : (o : Option ℕ) → length (failed_after o calls) ≡ length calls
    by None = length-failed true calls
    by (Some xid) = length-failed false calls

pub fails-so : (old : View) (b : Bool) (new : View) → FailsBy old b new → FailedSo old b new
fails-so old b new f = by (first_given_up old.calls.calls) f
  where
    left : calls_left (failed_view old) ≡ calls_left old
    left = ap (λ (n : ℕ). 2 * (old.calls.limit - old.calls.made) + n) (failure-length old.calls.calls)

    by : (o : Option ℕ) → FailsAs o old b new → FailedSo old b new
    by None t = subst (FailedSo old b) (sym t.1) (record { numbers_are = refl; begun_is = refl; left_is = left; lost_is = λ e. refl })
    by (Some xid) t = subst (FailedSo old b) (sym t.1) (record { numbers_are = lost-numbers old.lanes; begun_is = refl; left_is = left; lost_is = λ e. absurd (let no_way : true ≡ false = sym e ∙ t.0 in cc) })

-- ---- answers

pub other-push : (n m : ℕ) (ns : List ℕ) → m ≢ n → IsOther n ns → IsOther n (ns ++ m ∷ [])
other-push n m [] differs o = (differs, tt)
other-push n m (x ∷ xs) differs o = (o.0, other-push n m xs differs o.1)

pub other-remove : (n : ℕ) (ns : List ℕ) (at : ℕ) → IsOther n ns → IsOther n (remove ns at)
other-remove n [] zero o = o
other-remove n [] (suc at) o = o
other-remove n (x ∷ xs) zero o = o.1
other-remove n (x ∷ xs) (suc at) o = (o.0, other-remove n xs at o.1)

other-at : (n m : ℕ) (ns : List ℕ) (at : ℕ) → IsOther m ns → slice_get ns at ≡ Some n → m ≢ n
other-at n m [] at o there = absurd (cc)
other-at n m (x ∷ xs) zero o there = λ same. o.0 (let is : x ≡ n = cc in is ∙ sym same)
other-at n m (x ∷ xs) (suc at) o there = other-at n m xs at o.1 there

pub once-remove : (n : ℕ) (ns : List ℕ) (at : ℕ) → AreOnce ns → slice_get ns at ≡ Some n → IsOther n (remove ns at)
once-remove n [] at once there = absurd (cc)
once-remove n (x ∷ xs) zero once there = let is : x ≡ n = cc in subst (λ (m : ℕ). IsOther m xs) is once.0
once-remove n (x ∷ xs) (suc at) once there = (other-at n x xs at once.0 there, once-remove n xs at once.1 there)
