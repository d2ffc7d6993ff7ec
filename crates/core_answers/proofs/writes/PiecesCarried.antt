-- Along a history each piece in flight is what a WRITE that waits carries.
use Rattle.core_answers.proofs.Prelude.{◌≡◌, ◌≢◌, ◌≤◌, ◌<◌, ◌+◌, inl, inr, ℕ, List, [], ◌∷◌, ◌++◌, length, Bool, true, false, cond, nat_eq, Option, Some, None, option_map, position, Result, Err, refl, sym, ap, subst, ◌∙◌, arith, eqb-true, eqb-false, Waiting, next_xid, made_call, waiting_at, without, waits_early, at_made, others_made, others_taken, gone, Pending, of_file, Sent, piece_under, Fault, Entry, Began, Delivered, Call, Reply, Op, SpellsCallBy, proc_of, said_of, Step, Send, Wait, Done, Shelf, Turn, IsUnused, Mounted, Machine, machine_of, Starts, Resumes, Takes, Purpose, Busy, Setup, is_busy, IsIdle, with_state, record_of, Makes, Leads, Stirs, counted, StartsLane, TakesAt, View, turn_at, unmade_turn, Reaches, begins-unbegun, taken_one, Flies, Flown, sender, look_at, keeps-flown, Known, purpose_at, Rows, same-rows, taken-rows, made-known, made-asked}
use Rattle.rpc_message.specs.declared.cred.Cred.{Cred}
use Rattle.rpc_retry.specs.Sound.{AreSound}
use Rattle.core_answers.specs.writes.Carried.{IsCarried}
use Rattle.core_answers.proofs.writes.AllBacks.{all-starts, all-resumes, all-takes}
use Rattle.core_answers.proofs.writes.Along.{KeepsAlong, reached-along}
use Rattle.core_answers.proofs.writes.Backs.{After}
use Rattle.core_answers.proofs.writes.Mapped.{any-asks, any-saves, any-brings, any-starts}
use Rattle.core_answers.proofs.writes.OwnPieces.{CarriesAll, Free, Own, Same, carries-own, replies-own, carries-same, replies-same, after-same}
use Rattle.core_answers.proofs.writes.Under.{SameUnder}

some-waiting : (a b : Waiting Purpose) → Some a ≡ Some b → a ≡ b
some-waiting a b e = cc

pub waits-late : (cred : Cred) (low next xid : ℕ) (es : List (ℕ × Waiting Purpose)) (call : Waiting Purpose) → AreSound cred low next es → waiting_at xid es ≡ Some call → low ≤ xid
waits-late cred low next xid [] call s w = absurd (cc)
waits-late cred low next xid (e ∷ es) call s w =
    let from : low ≤ e.0 = s.0 in
    let rest : waiting_at xid es ≡ Some call → e.0 + 1 ≤ xid = waits-late cred (e.0 + 1) next xid es call s.2 in
    elim (nat_eq xid e.0) as (λ b. nat_eq xid e.0 ≡ b → cond b (Some e.1) (waiting_at xid es) ≡ Some call → low ≤ xid) [
      | true ↦ λ d h. let same : xid ≡ e.0 = eqb-true xid e.0 d in omega arith
      | false ↦ λ d h. let more = rest h in omega (arith, from, more)
    ] refl w

-- ---- of each call that waits

-- its record spells a call, which is the WRITE of each piece in flight under the xid
pub record Spelled (setup : Setup) (back : Pending) (xid : ℕ) (bytes : List ℕ) : Type 0 where
  pub call : Call
  pub spells : SpellsCallBy setup.cred xid call bytes
  pub carries : CarriesAll xid call back

abbrev pub AllSpelled : Setup → View → Type 0
AllSpelled setup v = (xid : ℕ) (w : Waiting Purpose) → waiting_at xid v.calls.calls ≡ Some w → Spelled setup v.shelf.back xid w.bytes

pub record Flying (setup : Setup) (h : List Entry) (v : View) : Type 0 where
  pub flown : Flown v
  pub all : AllSpelled setup v

spelled-same : (setup : Setup) (xid : ℕ) (bytes : List ℕ) (old new : Pending) → SameUnder xid old new → Spelled setup old xid bytes → Spelled setup new xid bytes
spelled-same setup xid bytes old new same s = record { call = s.call; spells = s.spells; carries = λ f piece is. s.carries f piece (sym (same f) ∙ is) }

-- nothing is in flight under the next xid
pub unused-next : (setup : Setup) (h : List Entry) (v : View) → Rows setup h v → Flown v → IsUnused (next_xid v.calls) v.shelf.back
unused-next setup h v r f =
    subst (λ (q : Option Purpose). Flies (next_xid v.calls) (sender (look_at v.lanes) q) v.shelf.back) (none (waiting_at (next_xid v.calls) v.calls.calls) refl) (f.flies (next_xid v.calls))
  where
    none : (o : Option (Waiting Purpose)) → waiting_at (next_xid v.calls) v.calls.calls ≡ o → purpose_at (next_xid v.calls) v.calls.calls ≡ None
    none None is = ap (option_map (λ (w : Waiting Purpose). w.purpose)) is
    none (Some w) is = absurd (
        let low = waits_early v.calls.cred v.calls.first_xid (next_xid v.calls) (next_xid v.calls) v.calls.calls w r.sound.calls.each is in omega (arith, low))

-- ---- what a step leads to

module _ (setup : Setup) (h : List Entry) (v : View) (r : Rows setup h v) (all : AllSpelled setup v) where
  early : (xid : ℕ) (w : Waiting Purpose) → waiting_at xid v.calls.calls ≡ Some w → xid < next_xid v.calls
  early xid w is = waits_early v.calls.cred v.calls.first_xid (next_xid v.calls) xid v.calls.calls w r.sound.calls.each is

  late : (xid : ℕ) (w : Waiting Purpose) → waiting_at xid v.calls.calls ≡ Some w → 1 ≤ xid
  late xid w is =
      let low = waits-late v.calls.cred v.calls.first_xid (next_xid v.calls) xid v.calls.calls w r.sound.calls.each is in
      let first = r.sound.calls.first in
      omega (arith, low, first)

  made-spelled : (number : ℕ) (call : Call) (new : View) (m : Makes v number call new) → CarriesAll (next_xid v.calls) call v.shelf.back → (xid : ℕ) (w : Waiting Purpose)
      → waiting_at xid (v.calls.calls ++ (next_xid v.calls, made_call (record_of v call m.args) (record { lane = number; proc = proc_of call; sent = turn_at v })) ∷ []) ≡ Some w
      → Spelled setup v.shelf.back xid w.bytes
  made-spelled number call new m own xid w is = by (nat_eq xid (next_xid v.calls)) refl
    where
      row : Waiting Purpose
      row = made_call (record_of v call m.args) (record { lane = number; proc = proc_of call; sent = turn_at v })

      by : (b : Bool) → nat_eq xid (next_xid v.calls) ≡ b → Spelled setup v.shelf.back xid w.bytes
      by true d =
          let here : xid ≡ next_xid v.calls = eqb-true xid (next_xid v.calls) d in
          let which : row ≡ w =
          some-waiting row w (sym (at_made v.calls.cred v.calls.first_xid (next_xid v.calls) xid (next_xid v.calls) v.calls.calls row r.sound.calls.each here refl) ∙ is) in
          let k = made-known setup h v number call new m r in
          subst (λ (n : ℕ). Spelled setup v.shelf.back n w.bytes) (sym here)
          (subst (λ (c : Waiting Purpose). Spelled setup v.shelf.back (next_xid v.calls) c.bytes) which (record {
            call = call;
            spells = subst (λ (c : Call). SpellsCallBy setup.cred (next_xid v.calls) c row.bytes) (made-asked setup h v number call new m r) k.made.spells;
            carries = own;
          }))
      by false d = all xid w (sym (others_made xid (next_xid v.calls) v.calls.calls row d) ∙ is)

  leads-spelled : (new : View) (at number : ℕ) (machine : Machine) (next : Step) → After (Free (next_xid v.calls)) (Own (next_xid v.calls)) next v.shelf.back
      → ((fault : Fault) (step : Step) (after : Machine) (left : Shelf) → Takes v.wsize machine (turn_at v) (unmade_turn v) (Err fault) v.shelf step after left
      → (xid : ℕ) → next_xid v.calls ≢ xid → 0 ≢ xid → SameUnder xid v.shelf.back left.back)
      → Leads v at number machine next new → AllSpelled setup new
  leads-spelled new at number machine (Send call) own unmade (inl m) = subst (AllSpelled setup) (sym m.is) (made-spelled number call new m own)
  leads-spelled new at number machine (Send call) own unmade (inr f) = subst (AllSpelled setup) (sym f.is) (λ xid w is.
      let low = late xid w is in
      let high = early xid w is in
      spelled-same setup xid w.bytes v.shelf.back f.left.back
      (unmade f.fault f.next f.after f.left f.takes xid (λ same. absurd (omega (arith, high, same))) (λ same. absurd (omega (arith, low, same)))) (all xid w is))
  leads-spelled new at number machine Wait own unmade is = subst (AllSpelled setup) (sym is) all
  leads-spelled new at number machine (Done answer) own unmade is = subst (AllSpelled setup) (sym is) all

-- ---- each step of an operation

module _ (wsize : ℕ) (turn : Turn) where
  pub starts-under : (y : ℕ) → turn.xid ≢ y → (machine : Machine) (old : Shelf) (next : Step) (new : Machine) (after : Shelf) → Starts wsize machine turn old next new after
      → SameUnder y old.back after.back
  starts-under y other machine old next new after s =
      after-same y old.back next after.back
      (all-starts wsize turn (λ f o b n. Unit {0}) (λ c. Unit {0}) (λ call o. tt) (Same y old.back) (λ call. Same y old.back) (carries-same y old.back wsize turn other)
      machine old next new after (any-asks next new) (any-starts machine old.opens) (λ f. refl) s)

  starts-own : (machine : Machine) (old : Shelf) (next : Step) (new : Machine) (after : Shelf) → Starts wsize machine turn old next new after → IsUnused turn.xid old.back
      → After (Free turn.xid) (Own turn.xid) next after.back
  starts-own machine old next new after s free =
      all-starts wsize turn (λ f o b n. Unit {0}) (λ c. Unit {0}) (λ call o. tt) (Free turn.xid) (Own turn.xid) (carries-own wsize turn)
      machine old next new after (any-asks next new) (any-starts machine old.opens) free s

  pub resumes-under : (y : ℕ) → turn.xid ≢ y → (machine : Machine) (old : Shelf) (next : Step) (new : Machine) (after : Shelf) → Resumes wsize machine turn old next new after
      → SameUnder y old.back after.back
  resumes-under y other machine old next new after s =
      after-same y old.back next after.back
      (all-resumes wsize turn (λ f o b n. Unit {0}) (λ c. Unit {0}) (λ call o. tt) (Same y old.back) (λ call. Same y old.back) (carries-same y old.back wsize turn other)
      machine old next new after (any-asks next new) (λ f. refl) s)

  resumes-own : (machine : Machine) (old : Shelf) (next : Step) (new : Machine) (after : Shelf) → Resumes wsize machine turn old next new after → IsUnused turn.xid old.back
      → After (Free turn.xid) (Own turn.xid) next after.back
  resumes-own machine old next new after s free =
      all-resumes wsize turn (λ f o b n. Unit {0}) (λ c. Unit {0}) (λ call o. tt) (Free turn.xid) (Own turn.xid) (carries-own wsize turn)
      machine old next new after (any-asks next new) free s

  pub takes-under : (sent : Turn) (came : Result Reply Fault) (y : ℕ) → sent.xid ≢ y → turn.xid ≢ y → (machine : Machine) (old : Shelf) (next : Step) (new : Machine) (after : Shelf)
      → Takes wsize machine sent turn came old next new after → SameUnder y old.back after.back
  takes-under sent came y apart other machine old next new after s =
      after-same y old.back next after.back
      (all-takes wsize turn (λ f o b n. Unit {0}) (λ c. Unit {0}) (λ call o. tt) (Same y old.back) (λ call. Same y old.back) (carries-same y old.back wsize turn other)
      sent came (λ s b. Unit {0}) (replies-same y old.back wsize sent turn came apart other) machine old next new after (any-asks next new) (any-brings machine) (any-saves machine)
      (λ f. refl) s)

  takes-own : (sent : Turn) (came : Result Reply Fault) (machine : Machine) (old : Shelf) (next : Step) (new : Machine) (after : Shelf)
      → Takes wsize machine sent turn came old next new after → IsUnused turn.xid old.back → After (Free turn.xid) (Own turn.xid) next after.back
  takes-own sent came machine old next new after s free =
      all-takes wsize turn (λ f o b n. Unit {0}) (λ c. Unit {0}) (λ call o. tt) (Free turn.xid) (Own turn.xid) (carries-own wsize turn)
      sent came (λ s b. Unit {0}) (replies-own wsize sent turn came) machine old next new after (any-asks next new) (any-brings machine) (any-saves machine) free s

-- ---- along a history

module _ (m : Mounted) (setup : Setup) where
  pub unmade-under : (v : View) (machine : Machine) (fault : Fault) (step : Step) (after : Machine) (left : Shelf)
      → Takes v.wsize machine (turn_at v) (unmade_turn v) (Err fault) v.shelf step after left
      → (xid : ℕ) → next_xid v.calls ≢ xid → 0 ≢ xid → SameUnder xid v.shelf.back left.back
  unmade-under v machine fault step after left t xid apart zero_ = takes-under v.wsize (unmade_turn v) (turn_at v) (Err fault) xid apart zero_ machine v.shelf step after left t

  stirs-flying : (h : List Entry) (old new : View) (at : ℕ) → Known setup h old → Stirs old at new → Flying setup h old → Flying setup h new
  stirs-flying h old new at k t i = record {
    flown = (keeps-flown m setup).stirs h old new at k t i.flown;
    all = leads-spelled setup h v (same-rows setup h old v refl k.rows)
        (λ xid w is.
        let high = waits_early old.calls.cred old.calls.first_xid (next_xid old.calls) xid old.calls.calls w k.rows.sound.calls.each is in
        spelled-same setup xid w.bytes old.shelf.back t.shelf.back
        (resumes-under old.wsize (turn_at old) xid (λ same. absurd (omega (arith, high, same))) t.machine old.shelf t.next t.after t.shelf t.resumes) (i.all xid w is))
        new at t.number t.after t.next
        (resumes-own old.wsize (turn_at old) t.machine old.shelf t.next t.after t.shelf t.resumes (unused-next setup h old k.rows i.flown))
        (unmade-under v t.after) t.leads;
  }
    where
      v : View
      v = with_state old at t.number (Busy t.after) t.shelf

  starts-flying : (h : List Entry) (old new : View) (lane line : ℕ) (op : Op) (now : ℕ) → Reaches (machine_of m) setup h old → old.lost ≡ false → Known setup h old
      → IsIdle lane old.lanes → StartsLane (counted old now) lane (machine_of m lane op) new → Flying setup h old → Flying setup (h ++ Began lane line op ∷ []) new
  starts-flying h old new lane line op now r found k idle t i = record {
    flown = (keeps-flown m setup).starts h old new lane op now k idle t i.flown;
    all = leads-spelled setup h v (same-rows setup h old v refl k.rows)
        (λ xid w is.
        let high = waits_early old.calls.cred old.calls.first_xid (next_xid old.calls) xid old.calls.calls w k.rows.sound.calls.each is in
        spelled-same setup xid w.bytes old.shelf.back t.shelf.back
        (starts-under old.wsize (turn_at (counted old now)) xid (λ same. absurd (omega (arith, high, same))) (machine_of m lane op) old.shelf t.next t.after t.shelf t.starts) (i.all xid w is))
        new (length old.lanes) lane t.after t.next
        (starts-own old.wsize (turn_at (counted old now)) (machine_of m lane op) old.shelf t.next t.after t.shelf t.starts (unused-next setup h old k.rows i.flown))
        (unmade-under v t.after) t.leads;
  }
    where
      v : View
      v = record (counted old now) { lanes = old.lanes ++ record { number = lane; state = Busy t.after } ∷ []; shelf = t.shelf }

  takes-flying : (h : List Entry) (old new : View) (rec : List ℕ) (xid : ℕ) (call : Waiting Purpose) (at : ℕ) → Reaches (machine_of m) setup h old → old.lost ≡ false
      → Known setup h old → waiting_at xid old.calls.calls ≡ Some call → position (is_busy call.purpose.lane) old.lanes ≡ Some at
      → TakesAt (taken_one old xid) at call.purpose.sent (said_of call.purpose.proc rec) new → Flying setup h old → Flying setup (h ++ Delivered rec ∷ []) new
  takes-flying h old new rec xid call at r found k waits there t i = record {
    flown = (keeps-flown m setup).takes h old new rec xid call at k waits there t i.flown;
    all = leads-spelled setup h v (same-rows setup h (taken_one old xid) v refl (taken-rows setup h old xid k.rows)) left
        new at t.number t.after t.next
        (takes-own old.wsize (turn_at (taken_one old xid)) call.purpose.sent (said_of call.purpose.proc rec) t.machine old.shelf t.next t.after t.shelf t.takes
        (unused-next setup h old k.rows i.flown))
        (unmade-under v t.after) t.leads;
  }
    where
      v : View
      v = with_state (taken_one old xid) at t.number (Busy t.after) t.shelf

      sent-is : call.purpose.sent.xid ≡ xid
      sent-is = i.flown.sents xid call.purpose (ap (option_map (λ (w : Waiting Purpose). w.purpose)) waits)

      left : (y : ℕ) (w : Waiting Purpose) → waiting_at y (without xid old.calls.calls) ≡ Some w → Spelled setup t.shelf.back y w.bytes
      left y w is = by (nat_eq y xid) refl
        where
          by : (b : Bool) → nat_eq y xid ≡ b → Spelled setup t.shelf.back y w.bytes
          by true d = absurd (
              let none : waiting_at xid (without xid old.calls.calls) ≡ None = gone old.calls.cred old.calls.first_xid (next_xid old.calls) xid old.calls.calls k.rows.sound.calls.each in
              let here : waiting_at xid (without xid old.calls.calls) ≡ Some w = ap (λ (n : ℕ). waiting_at n (without xid old.calls.calls)) (sym (eqb-true y xid d)) ∙ is in
              let no_way : None ≡ Some w = sym none ∙ here in cc)
          by false d =
              let was : waiting_at y old.calls.calls ≡ Some w = sym (others_taken y xid old.calls.calls d) ∙ is in
              let apart : y ≢ xid = eqb-false y xid d in
              let high = waits_early old.calls.cred old.calls.first_xid (next_xid old.calls) y old.calls.calls w k.rows.sound.calls.each was in
              spelled-same setup y w.bytes old.shelf.back t.shelf.back
              (takes-under old.wsize (turn_at (taken_one old xid)) call.purpose.sent (said_of call.purpose.proc rec) y (λ same. apart (sym same ∙ sent-is))
              (λ same. absurd (omega (arith, high, same))) t.machine old.shelf t.next t.after t.shelf t.takes) (i.all y w was)

  pub keeps-flying : KeepsAlong (machine_of m) setup (Flying setup)
  keeps-flying = record {
    fresh = λ h v fresh. record {
      flown = (keeps-flown m setup).fresh v fresh;
      all = λ xid w is. absurd (let no_way : None ≡ Some w = ap (λ c. waiting_at xid c.calls) (sym fresh.calls) ∙ is in cc);
    };
    stirs = stirs-flying;
    starts = starts-flying;
    takes = takes-flying;
    answers = λ h old new at lane line answer k a i. record {
      flown = (keeps-flown m setup).answers h old new at lane answer k a i.flown;
      all = subst (AllSpelled setup) (sym a.is) i.all;
    };
    same = λ h e old new lanes shelf calls i. record {
      flown = (keeps-flown m setup).same old new lanes shelf calls.purposes i.flown;
      all = λ xid w is.
          let k = calls.waited xid w is in
          subst (λ (s : Shelf). Spelled setup s.back xid w.bytes) (sym shelf) (subst (Spelled setup old.shelf.back xid) (sym k.bytes) (i.all xid k.was k.waited));
    };
  }

pub flying-reached : (m : Mounted) (setup : Setup) (h : List Entry) (v : View) → Reaches (machine_of m) setup h v → v.lost ≡ false → Flying setup h v
flying-reached m setup h v r found = reached-along (machine_of m) (begins-unbegun m) setup (Flying setup) (keeps-flying m setup) h v r found

pub pieces-carried : (m : Mounted) (setup : Setup) (h : List Entry) (v : View) → Reaches (machine_of m) setup h v → v.lost ≡ false
    → (f : List ℕ) (xid : ℕ) (piece : Sent) → piece_under xid (of_file f v.shelf.back).pieces ≡ Some piece → IsCarried setup v f xid piece
pieces-carried m setup h v r found f xid piece is = by (waiting_at xid v.calls.calls) refl
  where
    i : Flying setup h v
    i = flying-reached m setup h v r found

    by : (o : Option (Waiting Purpose)) → waiting_at xid v.calls.calls ≡ o → IsCarried setup v f xid piece
    by None none = absurd (
        let free : IsUnused xid v.shelf.back =
        subst (λ (q : Option Purpose). Flies xid (sender (look_at v.lanes) q) v.shelf.back) (ap (option_map (λ (w : Waiting Purpose). w.purpose)) none) (i.flown.flies xid) in
        let no_way : None ≡ Some piece = sym (free f) ∙ is in cc)
    by (Some w) waits =
        let s = i.all xid w waits in
        record { waiting = w; waits = waits; spells = subst (λ (c : Call). SpellsCallBy setup.cred xid c w.bytes) (s.carries f piece is) s.spells }
