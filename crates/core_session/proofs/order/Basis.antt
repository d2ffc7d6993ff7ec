-- Along a history what is pending of each file is sound, and numbered below the next write.
use Rattle.core_session.proofs.Prelude.{◌≡◌, ◌≤◌, ◌+◌, ◌⊎◌, inl, inr, ℕ, List, [], ◌∷◌, ◌++◌, length, false, Option, Some, None, option_map, position, slice_get, Err, refl, sym, ap, subst, ◌∙◌, arith, Waiting, next_xid, waiting_at, waits_early, Entry, Began, Delivered, Call, Op, said_of, Step, Shelf, IsUnused, Mounted, Machine, machine_of, Fits, Starts, Resumes, Takes, EachSound, nothing-sound, Lane, Purpose, Busy, Over, Setup, is_busy, IsIdle, with_state, IsRefused, Leads, Stirs, counted, StartsLane, TakesAt, View, turn_at, unmade_turn, Reaches, begins-unbegun, taken_one, Known, purpose_at, at-push, at-set, Rows, waits-late}
use Rattle.core_answers.proofs.writes.PiecesCarried.{Flying, keeps-flying}
use Rattle.write_back.specs.Files.{IsNewest}
use Rattle.client_shelf.specs.declared.step.Step.TheVariants as nexts
use Rattle.file_ops.specs.Ready.{IsReady}
use Rattle.file_ops.proofs.Nothing.{none_newest}
use Rattle.op_machines.specs.Laws.{LeavesNothing}
use Rattle.op_machines.proofs.AllLaws as laws
use Rattle.core_facts.proofs.Flights.{Flies}
use Rattle.core_facts.proofs.Flown.{Flown, sender, look_at}
use Rattle.core_answers.proofs.writes.Holding.{LanesHave, StateHas, lanes-without, lanes-push, lanes-set}
use Rattle.core_session.proofs.saves.HearingAlong.{KeepsHearing, reached-hearing}
use Rattle.core_session.proofs.order.Sounds.{starts-sound, resumes-sound, takes-sounds}

-- What is pending is what WRITEs that wait carry; the bytes of each operation end within all places; and what is pending is sound, and numbered.
pub record Basis (setup : Setup) (h : List Entry) (v : View) : Type 0 where
  pub flying : Flying setup h v
  pub fits : LanesHave Fits v.lanes
  pub sound : EachSound v.shelf.back
  pub newest : IsNewest (v.shelf.seq + 1) v.shelf.back

-- ---- what is in flight under an xid that doesn't wait

pub unused-idle : (setup : Setup) (h : List Entry) (v : View) → Rows setup h v → Flown v → (xid : ℕ) → (xid ≡ 0) ⊎ (next_xid v.calls ≤ xid) → IsUnused xid v.shelf.back
unused-idle setup h v r f xid idle =
    subst (λ (q : Option Purpose). Flies xid (sender (look_at v.lanes) q) v.shelf.back) (none (waiting_at xid v.calls.calls) refl idle) (f.flies xid)
  where
    none : (o : Option (Waiting Purpose)) → waiting_at xid v.calls.calls ≡ o → (xid ≡ 0) ⊎ (next_xid v.calls ≤ xid) → purpose_at xid v.calls.calls ≡ None
    none None is idle = ap (option_map (λ (w : Waiting Purpose). w.purpose)) is
    none (Some w) is (inl zero_) = absurd (
        let low = waits-late v.calls.cred v.calls.first_xid (next_xid v.calls) xid v.calls.calls w r.sound.calls.each is in
        let first = r.sound.calls.first in
        omega (arith, low, first, zero_))
    none (Some w) is (inr above) = absurd (let low = waits_early v.calls.cred v.calls.first_xid (next_xid v.calls) xid v.calls.calls w r.sound.calls.each is in omega (arith, low, above))

pub basis-ready : (setup : Setup) (h : List Entry) (v : View) → Rows setup h v → Basis setup h v → IsReady (next_xid v.calls) v.shelf.seq v.shelf.back
basis-ready setup h v r b = record {
  first = let first = r.sound.calls.first in omega (arith, first);
  numbers = b.newest;
  xids = λ other idle. unused-idle setup h v r b.flying.flown other idle;
}

-- ---- what a step leads to

-- after the step of a machine
record Stepped (v : View) (machine : Machine) (next : Step) : Type 0 where
  pub fits : LanesHave Fits v.lanes
  pub own : Fits machine
  pub sound : EachSound v.shelf.back
  pub ready : IsReady (next_xid v.calls + 1) v.shelf.seq v.shelf.back
  pub unmade : (call : Call) → next ≡ nexts.Send call → LeavesNothing v.wsize (turn_at v) machine v.shelf

-- what is known of the view that it leads to
record Rest (v : View) : Type 0 where
  pub fits : LanesHave Fits v.lanes
  pub sound : EachSound v.shelf.back
  pub newest : IsNewest (v.shelf.seq + 1) v.shelf.back

leads-rest : (v new : View) (at number : ℕ) (machine : Machine) (next : Step) → slice_get v.lanes at ≡ Some (record { number = number; state = Busy machine }) → Stepped v machine next
    → Leads v at number machine next new → Rest new
leads-rest v new at number machine (nexts.Send call) there s (inl m) = subst Rest (sym m.is) (record { fits = s.fits; sound = s.sound; newest = s.ready.numbers })
leads-rest v new at number machine (nexts.Send call) there s (inr f) = subst Rest (sym f.is) (record {
  fits = lanes-set Fits v.lanes at number (Busy machine) f.state there s.fits (by f.next f.leads);
  sound = takes-sounds v.wsize (unmade_turn v) (turn_at v) (Err f.fault) machine v.shelf f.next f.after f.left s.own s.sound (s.ready.xids 0 (inl refl)) s.ready.numbers f.takes;
  newest = (s.unmade call refl (unmade_turn v) f.fault f.next f.after f.left refl f.takes).numbers;
})
  where
    after : Fits f.after
    after = laws.takes-fit v.wsize machine (turn_at v) (unmade_turn v) (Err f.fault) v.shelf f.next f.after f.left f.takes s.own

    by : (next : Step) → IsRefused f.after next f.state → StateHas Fits f.state
    by (nexts.Send again) is = absurd is
    by nexts.Wait is = subst (StateHas Fits) (sym is) after
    by (nexts.Done answer) is = subst (StateHas Fits) (sym is) tt
leads-rest v new at number machine nexts.Wait there s is = subst Rest (sym is) (record { fits = s.fits; sound = s.sound; newest = s.ready.numbers })
leads-rest v new at number machine (nexts.Done answer) there s is =
    subst Rest (sym is) (record { fits = lanes-set Fits v.lanes at number (Busy machine) (Over answer) there s.fits tt; sound = s.sound; newest = s.ready.numbers })

-- ---- along a history

module _ (m : Mounted) (setup : Setup) where
  pub stirs-basis : (h : List Entry) (old new : View) (at : ℕ) → Known setup h old → Stirs old at new → Basis setup h old → Basis setup h new
  stirs-basis h old new at k t i = record { flying = (keeps-flying m setup).stirs h old new at k t i.flying; fits = rest.fits; sound = rest.sound; newest = rest.newest }
    where
      v : View
      v = with_state old at t.number (Busy t.after) t.shelf

      ready : IsReady (next_xid old.calls) old.shelf.seq old.shelf.back
      ready = basis-ready setup h old k.rows i

      own : Fits t.after
      own = laws.resumes-fit old.wsize t.machine (turn_at old) old.shelf t.next t.after t.shelf t.resumes (i.fits at (record { number = t.number; state = Busy t.machine }) t.there)

      rest : Rest new
      rest = leads-rest v new at t.number t.after t.next
          (at-set old.lanes at (record { number = t.number; state = Busy t.machine }) (record { number = t.number; state = Busy t.after }) t.there)
          (record {
            fits = lanes-set Fits old.lanes at t.number (Busy t.machine) (Busy t.after) t.there i.fits own;
            own = own;
            sound = resumes-sound old.wsize (turn_at old) t.machine old.shelf t.next t.after t.shelf i.sound (ready.xids (next_xid old.calls) (inr (omega arith))) t.resumes;
            ready = laws.resumes-ready old.wsize t.machine (turn_at old) old.shelf t.next t.after t.shelf t.resumes ready;
            unmade = λ call is. laws.resumes-unmade old.wsize t.machine (turn_at old) old.shelf call t.after t.shelf
                (subst (λ (n : Step). Resumes old.wsize t.machine (turn_at old) old.shelf n t.after t.shelf) is t.resumes) ready;
          }) t.leads

  pub starts-basis : (h : List Entry) (old new : View) (lane line : ℕ) (op : Op) (now : ℕ) → Reaches (machine_of m) setup h old → old.lost ≡ false → Known setup h old
      → IsIdle lane old.lanes → Fits (machine_of m lane op) → StartsLane (counted old now) lane (machine_of m lane op) new → Basis setup h old → Basis setup (h ++ Began lane line op ∷ []) new
  starts-basis h old new lane line op now r found k idle fits t i =
      record { flying = (keeps-flying m setup).starts h old new lane line op now r found k idle t i.flying; fits = rest.fits; sound = rest.sound; newest = rest.newest }
    where
      v : View
      v = record (counted old now) { lanes = old.lanes ++ record { number = lane; state = Busy t.after } ∷ []; shelf = t.shelf }

      ready : IsReady (next_xid old.calls) old.shelf.seq old.shelf.back
      ready = basis-ready setup h old k.rows i

      own : Fits t.after
      own = laws.starts-fit old.wsize (machine_of m lane op) (turn_at (counted old now)) old.shelf t.next t.after t.shelf t.starts fits

      rest : Rest new
      rest = leads-rest v new (length old.lanes) lane t.after t.next (at-push old.lanes (record { number = lane; state = Busy t.after }))
          (record {
            fits = lanes-push Fits old.lanes lane (Busy t.after) i.fits own;
            own = own;
            sound = starts-sound old.wsize (turn_at (counted old now)) (machine_of m lane op) old.shelf t.next t.after t.shelf fits i.sound (ready.xids (next_xid old.calls) (inr (omega arith))) i.newest
                t.starts;
            ready = laws.starts-ready old.wsize (machine_of m lane op) (turn_at (counted old now)) old.shelf t.next t.after t.shelf t.starts ready;
            unmade = λ call is. laws.starts-unmade old.wsize (machine_of m lane op) (turn_at (counted old now)) old.shelf call t.after t.shelf
                (subst (λ (n : Step). Starts old.wsize (machine_of m lane op) (turn_at (counted old now)) old.shelf n t.after t.shelf) is t.starts) ready;
          }) t.leads

  pub takes-basis : (h : List Entry) (old new : View) (rec : List ℕ) (xid : ℕ) (call : Waiting Purpose) (at : ℕ) → Reaches (machine_of m) setup h old → old.lost ≡ false
      → Known setup h old → waiting_at xid old.calls.calls ≡ Some call → position (is_busy call.purpose.lane) old.lanes ≡ Some at
      → TakesAt (taken_one old xid) at call.purpose.sent (said_of call.purpose.proc rec) new → Basis setup h old → Basis setup (h ++ Delivered rec ∷ []) new
  takes-basis h old new rec xid call at r found k waits there t i =
      record { flying = (keeps-flying m setup).takes h old new rec xid call at r found k waits there t i.flying; fits = rest.fits; sound = rest.sound; newest = rest.newest }
    where
      v : View
      v = with_state (taken_one old xid) at t.number (Busy t.after) t.shelf

      ready : IsReady (next_xid old.calls) old.shelf.seq old.shelf.back
      ready = basis-ready setup h old k.rows i

      was : Fits t.machine
      was = i.fits at (record { number = t.number; state = Busy t.machine }) t.there

      own : Fits t.after
      own = laws.takes-fit old.wsize t.machine call.purpose.sent (turn_at (taken_one old xid)) (said_of call.purpose.proc rec) old.shelf t.next t.after t.shelf t.takes was

      rest : Rest new
      rest = leads-rest v new at t.number t.after t.next
          (at-set old.lanes at (record { number = t.number; state = Busy t.machine }) (record { number = t.number; state = Busy t.after }) t.there)
          (record {
            fits = lanes-set Fits old.lanes at t.number (Busy t.machine) (Busy t.after) t.there i.fits own;
            own = own;
            sound = takes-sounds old.wsize (turn_at (taken_one old xid)) call.purpose.sent (said_of call.purpose.proc rec) t.machine old.shelf t.next t.after t.shelf was i.sound
                (ready.xids (next_xid old.calls) (inr (omega arith))) i.newest t.takes;
            ready = laws.takes-ready old.wsize t.machine call.purpose.sent (turn_at (taken_one old xid)) (said_of call.purpose.proc rec) old.shelf t.next t.after t.shelf t.takes ready;
            unmade = λ c is. laws.takes-unmade old.wsize t.machine call.purpose.sent (turn_at (taken_one old xid)) (said_of call.purpose.proc rec) old.shelf c t.after t.shelf
                (subst (λ (n : Step). Takes old.wsize t.machine call.purpose.sent (turn_at (taken_one old xid)) (said_of call.purpose.proc rec) old.shelf n t.after t.shelf) is t.takes) ready;
          }) t.leads

  pub keeps-basis : KeepsHearing (machine_of m) setup (Basis setup)
  keeps-basis = record {
    fresh = λ h v may up fresh. record {
      flying = (keeps-flying m setup).fresh h v fresh;
      fits = λ k lane there. absurd (let no_way : None ≡ Some lane = ap (λ (lanes : List Lane). slice_get lanes k) (sym fresh.lanes) ∙ there in cc);
      sound = subst EachSound (sym fresh.back) nothing-sound;
      newest = subst (IsNewest (v.shelf.seq + 1)) (sym fresh.back) (none_newest (v.shelf.seq + 1));
    };
    stirs = stirs-basis;
    starts = starts-basis;
    takes = λ h old new rec xid call at r found k fin hears named waits there t i. takes-basis h old new rec xid call at r found k waits there t i;
    answers = λ h old new at lane line answer k a i. record {
      flying = (keeps-flying m setup).answers h old new at lane line answer k a i.flying;
      fits = subst (λ (u : View). LanesHave Fits u.lanes) (sym a.is) (lanes-without Fits old.lanes at i.fits);
      sound = subst (λ (u : View). EachSound u.shelf.back) (sym a.is) i.sound;
      newest = subst (λ (u : View). IsNewest (u.shelf.seq + 1) u.shelf.back) (sym a.is) i.newest;
    };
    same = λ h e old new plain lanes shelf wsize calls i. record {
      flying = (keeps-flying m setup).same h e old new lanes shelf calls i.flying;
      fits = subst (LanesHave Fits) (sym lanes) i.fits;
      sound = subst (λ (s : Shelf). EachSound s.back) (sym shelf) i.sound;
      newest = subst (λ (s : Shelf). IsNewest (s.seq + 1) s.back) (sym shelf) i.newest;
    };
  }

pub reached-basis : (m : Mounted) (setup : Setup) (h : List Entry) (v : View) → Reaches (machine_of m) setup h v → v.lost ≡ false → Basis setup h v
reached-basis m setup h v r found = reached-hearing (machine_of m) (begins-unbegun m) setup (Basis setup) (keeps-basis m setup) h v r found
