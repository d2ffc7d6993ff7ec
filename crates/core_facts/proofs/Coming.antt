-- What a lane without an answer waits for, and that where no call waits each has its answer.
use Rattle.core_facts.proofs.Prelude.{◌≡◌, ◌≢◌, ◌<◌, ◌≤◌, ◌+◌, ◌⊎◌, inl, inr, ℕ, zero, suc, List, [], ◌∷◌, length, Bool, true, false, nat_eq, Option, Some, None, slice_get, refl, sym, ap, subst, ◌∙◌, arith, eqb-true, eq-eqb, Waiting, Entry, of_file, is_first, Wait, IsUnused, Mounted, Machine, machine_of, Resumes, Purpose, Busy, Setup, IsBusyAt, View, turn_at, where_, calls_for, in_flight, Reaches, NoneBusy}
use Rattle.std.proofs.Common.{nat_lt}
use Rattle.client_core.specs.Steps.{Rests}
use Rattle.client_core.specs.View.{has_room}
use Rattle.write_back.specs.Pieces.{Sent, piece_under}
use Rattle.file_ops.specs.Quiet.{are_none, is_quiet}
use Rattle.core_facts.specs.Progress.{WaitsFor, own_call, crowded, behind, bytes}
use Rattle.core_facts.proofs.AllCounts.{begins-unbegun}
use Rattle.core_facts.proofs.AllSeats.{seat_of, all-on}
use Rattle.core_facts.proofs.FileOns.{HeldUp, OnOr}
use Rattle.core_facts.proofs.Flights.{Flies}
use Rattle.core_facts.proofs.Flown.{Flown, sender, look_at, keeps-flown}
use Rattle.core_facts.proofs.Keeping.{Known, purpose_at, lane-count, reached-kept, reached-all}
use Rattle.core_facts.proofs.Looks.{look-at}
use Rattle.core_facts.proofs.Orders.{has-turn}
use Rattle.core_facts.proofs.Placing.{seat_state, seat_in, seated, Placed, keeps-placed}
use Rattle.core_facts.proofs.Resting.{comes-to-rest}
use Rattle.core_facts.proofs.LaneMarks.{lanes-under-way}

-- ---- a call of the lane

record CallAt (es : List (ℕ × Waiting Purpose)) (number : ℕ) : Type 0 where
  at : ℕ
  xid : ℕ
  call : Waiting Purpose
  there : slice_get es at ≡ Some (xid, call)
  own : call.purpose.lane ≡ number

call-next : (number : ℕ) (e : ℕ × Waiting Purpose) (es : List (ℕ × Waiting Purpose)) → 1 ≤ calls_for number (e ∷ es) → (1 ≤ calls_for number es → CallAt es number)
    → (b : Bool) → nat_eq e.1.purpose.lane number ≡ b → CallAt (e ∷ es) number
call-next number e es some rest true d = record { at = zero; xid = e.0; call = e.1; there = refl; own = eqb-true e.1.purpose.lane number d }
call-next number e es some rest false d =
    let none : where_ (nat_eq e.1.purpose.lane number) 1 ≡ 0 = ap (λ (b : Bool). where_ b 1) d in
    let r = rest (omega (arith, some, none)) in
    record { at = suc r.at; xid = r.xid; call = r.call; there = r.there; own = r.own }

call-at : (number : ℕ) (es : List (ℕ × Waiting Purpose)) → 1 ≤ calls_for number es → CallAt es number
call-at number [] some = absurd (omega (arith, some))
call-at number (e ∷ es) some = call-next number e es some (call-at number es) (nat_eq e.1.purpose.lane number) refl

-- ---- nothing is in flight where no call waits

no-pieces : (pieces : List Sent) → ((xid : ℕ) → piece_under xid pieces ≡ None) → are_none pieces ≡ true
no-pieces [] none = refl
no-pieces (p ∷ pieces) none =
    let own : nat_eq p.xid p.xid ≡ true = eq-eqb p.xid p.xid refl in
    let no_way : Some p ≡ None = (rw own at (none p.xid)) in absurd cc

quiet-all : (v : View) → Flown v → v.calls.calls ≡ [] → (file : List ℕ) → is_quiet file v.shelf.back ≡ true
quiet-all v f none file = no-pieces (of_file file v.shelf.back).pieces (λ xid. unused xid file)
  where
    unused : (xid : ℕ) → IsUnused xid v.shelf.back
    unused xid = subst (λ (q : Option Purpose). Flies xid (sender (look_at v.lanes) q) v.shelf.back)
        (ap (λ (es : List (ℕ × Waiting Purpose)). purpose_at xid es) none) (f.flies xid)

-- ---- a lane that has no answer yet

module _ (m : Mounted) (setup : Setup) (h : List Entry) (v : View) (r : Reaches (machine_of m) setup h v) (found : v.lost ≡ false) where
  known : Known setup h v
  known = reached-all (machine_of m) (begins-unbegun m) setup h v r found

  placed : Placed v
  placed = reached-kept (machine_of m) (begins-unbegun m) setup Placed (keeps-placed m setup) h v r found

  flown : Flown v
  flown = reached-kept (machine_of m) (begins-unbegun m) setup Flown (keeps-flown m setup) h v r found

  -- one with no call of its own that waits though a call may be made
  held-up : (at number : ℕ) (machine : Machine) → IsBusyAt v at number machine → in_flight machine ≡ 0 → has_room v ≡ true
      → Resumes v.wsize machine (turn_at v) v.shelf Wait machine v.shelf → HeldUp number (seat_of machine) v.shelf
  held-up at number machine busy none room rests =
      by (all-on machine number v.wsize (turn_at v) v.shelf Wait machine v.shelf room (placed.live at (record { number = number; state = Busy machine }) busy).live
      (known.known.right at (record { number = number; state = Busy machine }) busy) none rests)
    where
      by : OnOr number (seat_of machine) v.shelf Wait → HeldUp number (seat_of machine) v.shelf
      by (inl on) = absurd on
      by (inr held) = held

  seat-is : (at number : ℕ) (machine : Machine) → IsBusyAt v at number machine → seat_in number v.lanes ≡ seat_of machine
  seat-is at number machine busy = look-at seat_state v.lanes at number (Busy machine) (lanes-under-way h v known.lanes).apart busy

  -- another stands first in the order of its file
  is-behind : (number : ℕ) (file : List ℕ) → seat_in number v.lanes ≡ Some file → is_first number v.shelf.order ≡ false → WaitsFor v number
  is-behind number file seat waits =
      let t = has-turn (λ n. seat_in n v.lanes) v.shelf.order placed.sits number file seat waits in
      let s = seated t.other v.lanes file t.seat in
      behind (record {
        file = file;
        own = placed.sits.has number file seat;
        first = t.other;
        other = t.apart;
        place = placed.sits.has t.other file t.seat;
        leads = t.first;
        at = s.at;
        machine = s.machine;
        busy = s.there;
      })

  not-quiet : (number : ℕ) (file : List ℕ) (first : Bool) → seat_in number v.lanes ≡ Some file → is_first number v.shelf.order ≡ first → is_quiet file v.shelf.back ≡ false
      → WaitsFor v number
  not-quiet number file false seat waits flies = is-behind number file seat waits
  not-quiet number file true seat leads flies = bytes (record {
    file = file;
    own = placed.sits.has number file seat;
    leads = leads;
    flies = flies;
    some = λ none. absurd (let no_way : true ≡ false = sym (quiet-all v flown none file) ∙ flies in cc);
  })

  by-seat : (number : ℕ) (seat : Option (List ℕ)) → seat_in number v.lanes ≡ seat → HeldUp number seat v.shelf → WaitsFor v number
  by-seat number None is held = absurd held
  by-seat number (Some file) is (inl waits) = is-behind number file is waits
  by-seat number (Some file) is (inr flies) = not-quiet number file (is_first number v.shelf.order) is refl flies

  lane-waits : (at number : ℕ) (machine : Machine) → IsBusyAt v at number machine → WaitsFor v number
  lane-waits at number machine busy = by-room (has_room v) refl (comes-to-rest (machine_of m) setup h v r).still
    where
      by-count : (n : ℕ) → in_flight machine ≡ n → has_room v ≡ true → Rests v at → WaitsFor v number
      by-count zero is room rests = by-seat number (seat_of machine) (seat-is at number machine busy) (held-up at number machine busy is room (rests number machine busy))
      by-count (suc n) is room rests =
          let count = lane-count setup h v at number machine known busy in
          let c = call-at number v.calls.calls (omega (arith, count, is)) in
          own_call (record { at = c.at; xid = c.xid; call = c.call; there = c.there; own = c.own })

      by-room : (b : Bool) → has_room v ≡ b → ((has_room v ≡ false) ⊎ ((k : ℕ) → Rests v k)) → WaitsFor v number
      by-room false full still = crowded full
      by-room true room (inl full) = crowded full
      by-room true room (inr rests) = by-count (in_flight machine) refl room (rests at)

  -- ---- where no call waits

  module _ (none : v.calls.calls ≡ []) where
    roomy : has_room v ≡ true
    roomy = ap (λ (es : List (ℕ × Waiting Purpose)). nat_lt (length es) 32) none

    all-rest : (k : ℕ) → Rests v k
    all-rest = by (comes-to-rest (machine_of m) setup h v r).still
      where
        by : ((has_room v ≡ false) ⊎ ((k : ℕ) → Rests v k)) → (k : ℕ) → Rests v k
        by (inl full) = absurd (let no_way : true ≡ false = sym roomy ∙ full in cc)
        by (inr rests) = rests

    idle-call : (at number : ℕ) (machine : Machine) → IsBusyAt v at number machine → in_flight machine ≡ 0
    idle-call at number machine busy = sym (lane-count setup h v at number machine known busy) ∙ ap (calls_for number) none

    must-wait : (at number : ℕ) (machine : Machine) → IsBusyAt v at number machine → HeldUp number (seat_of machine) v.shelf
    must-wait at number machine busy = held-up at number machine busy (idle-call at number machine busy) roomy (all-rest at number machine busy)

    -- not the first of its file
    not-first : (number : ℕ) (file : List ℕ) → HeldUp number (Some file) v.shelf → is_first number v.shelf.order ≡ false
    not-first number file (inl waits) = waits
    not-first number file (inr flies) = absurd (let no_way : true ≡ false = sym (quiet-all v flown none file) ∙ flies in cc)

    by-first : (number : ℕ) (seat : Option (List ℕ)) → seat_in number v.lanes ≡ seat → HeldUp number seat v.shelf → ⊥
    by-first number None is held = held
    by-first number (Some file) is held =
        let t = has-turn (λ n. seat_in n v.lanes) v.shelf.order placed.sits number file is (not-first number file held) in
        let s = seated t.other v.lanes file t.seat in
        let held_ = subst (λ (seat : Option (List ℕ)). HeldUp t.other seat v.shelf) s.seat (must-wait s.at t.other s.machine s.there) in
        let no_way : true ≡ false = sym t.first ∙ not-first t.other file held_ in
        absurd cc

    none-busy : NoneBusy v
    none-busy at number machine busy = by-first number (seat_of machine) (seat-is at number machine busy) (must-wait at number machine busy)

pub lanes-wait : (m : Mounted) (setup : Setup) (h : List Entry) (v : View) → Reaches (machine_of m) setup h v → v.lost ≡ false → (at number : ℕ) (machine : Machine)
    → IsBusyAt v at number machine → WaitsFor v number
lanes-wait = lane-waits

pub none-unanswered : (m : Mounted) (setup : Setup) (h : List Entry) (v : View) → Reaches (machine_of m) setup h v → v.calls.calls ≡ [] → NoneBusy v
none-unanswered m setup h v r none = by v.lost refl
  where
    by : (b : Bool) → v.lost ≡ b → NoneBusy v
    by true lost = (comes-to-rest (machine_of m) setup h v r).over lost
    by false found = none-busy m setup h v r found none
