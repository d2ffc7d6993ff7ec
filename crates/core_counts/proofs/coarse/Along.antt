-- Along a history the machine goes with the core.
use Rattle.core_counts.proofs.Prelude.{arith, ◌≡◌, ◌⊎◌, inl, inr, ◌+◌, ℕ, Bool, List, [], ◌∷◌, ◌++◌, true, false, Option, Some, None, option_map, position, length, refl, sym, ap, subst, ◌∙◌, xid_at, Waiting, Held, next_xid, awaited, waiting_at, Answer, Entry, Began, Answered, Sent, Delivered, Op, SpellsCallBy, said_of, Shelf, Mounted, machine_of, Fits, Purpose, Busy, Setup, IsFresh, is_busy, IsIdle, with_state, Stirs, counted, StartsLane, TakesAt, AnswersAt, View, turn_at, StepsTo, HearsRecord, Reaches, begins, goes, loses, last_reading, begins-unbegun, taken_one, Known, same-rows, SameCalls, unused-next, Basis, basis-ready, stirs-basis, starts-basis, takes-basis, keeps-basis, Wholly, starts-has, resumes-has, stirs-wholly, starts-wholly, takes-wholly, keeps-wholly, Shows, MakesLong, Moves, ShownCall, ShownCalls, Shown, IsPlain}
use Rattle.rpc_retry.specs.Take.{after_taking}
use Rattle.client_core.specs.Steps.{taken}
use Rattle.core_counts.specs.coarse.Runs.{RestsAt, heard_as, Runs, CoreIsCoarse}
use Rattle.op_machines.proofs.AllLaws as laws
use Rattle.core_answers.proofs.writes.AllFits as fitting
use Rattle.model_writes.specs.Machine as coarse
use Rattle.step_pending.proofs.Cutting.{nothing-shown}
use Rattle.core_counts.specs.coarse.Moves as machine
use Rattle.core_counts.specs.coarse.Runs as runs
use Rattle.core_counts.specs.coarse.WereLong.{WritesWereLong}
use Rattle.core_counts.proofs.coarse.WereLong.{Longs, Sents, longs-then, longs-moved, longs-stirred, longs-taken, sents-then, sents-other, lost-unsent, sents-first}
use Rattle.model_writes.specs.Story as story
use Rattle.core_counts.proofs.coarse.Bearing.{none-stays, starts-led, resumes-led}
use Rattle.core_counts.proofs.coarse.Going.{IsSeen, KeepsGoing, reached-going}
use Rattle.core_counts.proofs.coarse.Lost.{lost-shelf}
use Rattle.core_counts.proofs.coarse.Making.{Final, finish}
use Rattle.core_counts.proofs.coarse.Onward.{Ahead}
use Rattle.core_counts.proofs.coarse.Replies.{HeardSo, heard-so}

-- What holds along a history.
pub record Coarsely (m : Mounted) (setup : Setup) (h : List Entry) (v : View) : Type 0 where
  pub basis : Basis setup h v
  pub wholly : Wholly setup h v
  pub c : coarse.View
  pub shown : Shown setup v c
  pub run : Runs m setup h v c
  pub size : v.wsize ≡ setup.wsize
  pub longs : Longs m setup h c
  pub sents : Sents m setup h

-- moves from a view are moves from an equal one
from-same : (b c d : coarse.View) → b ≡ c → Moves b d → Moves c d
from-same b c d is led = subst (λ (z : coarse.View). Moves z d) is led

only-long : (A : Type 0) → ⊥ ⊎ A → A
only-long A (inl never) = absurd never
only-long A (inr a) = a

-- ---- calls that are only sent, or fail

same-calls : (setup : Setup) (old new : View) (c : coarse.View) → next_xid new.calls ≡ next_xid old.calls → SameCalls old.calls.calls new.calls.calls → ShownCalls setup old.calls c
    → ShownCalls setup new.calls c
same-calls setup old new c next same shown = record { next = shown.next ∙ sym next; calls = λ x. by x (waiting_at x new.calls.calls) refl }
  where
    none-then : (x : ℕ) (o : Option (Waiting Purpose)) → waiting_at x old.calls.calls ≡ o → waiting_at x new.calls.calls ≡ None → ShownCall setup x None (c.wait x)
    none-then x None was is = subst (λ (o : Option (Waiting Purpose)). ShownCall setup x o (c.wait x)) was (shown.calls x)
    none-then x (Some w) was is =
        let no_way : Some w.purpose ≡ None =
        sym (ap (option_map (λ (u : Waiting Purpose). u.purpose)) was) ∙ sym (same.purposes x) ∙ ap (option_map (λ (u : Waiting Purpose). u.purpose)) is in
        absurd cc

    by : (x : ℕ) (o : Option (Waiting Purpose)) → waiting_at x new.calls.calls ≡ o → ShownCall setup x (waiting_at x new.calls.calls) (c.wait x)
    by x None is = subst (λ (o : Option (Waiting Purpose)). ShownCall setup x o (c.wait x)) (sym is) (none-then x (waiting_at x old.calls.calls) refl is)
    by x (Some w) is =
        let k = same.waited x w is in
        let was : ShownCall setup x (Some k.was) (c.wait x) = subst (λ (o : Option (Waiting Purpose)). ShownCall setup x o (c.wait x)) k.waited (shown.calls x) in
        subst (λ (o : Option (Waiting Purpose)). ShownCall setup x o (c.wait x)) (sym is) (was.0, subst (λ (bs : List ℕ). SpellsCallBy setup.cred x was.0 bs) (sym k.bytes) was.1, was.2)

module _ (m : Mounted) (setup : Setup) where
  fresh-run : (v : View) → IsFresh setup v → (c : coarse.View) × Shown setup v c
  fresh-run v fresh = (
    begin,
    record {
      places = subst (λ b. Shows b begin) (sym fresh.back) (nothing-shown begin (λ i. refl) (λ i. refl));
      calls = record {
        next = refl;
        calls = λ x. subst (λ (k : Held Purpose). ShownCall setup x (waiting_at x k.calls) None) (sym fresh.calls) refl;
      };
    },
  )
    where
      begin : coarse.View
      begin = record {
        next_xid = next_xid v.calls;
        seq = 0;
        rest = λ i. None;
        fly = λ i. None;
        wait = λ x. None;
        lane = λ l. coarse.idle;
        added = λ w. None;
        opens = λ l slot. None;
        gave = λ f. false;
        lost = false;
      }

  stirs-coarse : (h : List Entry) (old new : View) (at : ℕ) → Known setup h old → Ahead (machine_of m) setup h new → Stirs old at new → Coarsely m setup h old → Coarsely m setup h new
  stirs-coarse h old new at k ahead t i = record {
    basis = basis;
    wholly = stirs-wholly m setup h old new at k t i.wholly;
    c = final.d;
    shown = final.shown;
    run = run_;
    size = final.size ∙ i.size;
    longs = longs-stirred m setup h i.c final.d (next_xid old.calls) new (final.size ∙ i.size) i.longs led run_ final.shown long shown.calls.next;
    sents = i.sents;
  }
    where
      shown : Shown setup old i.c
      shown = i.shown

      basis : Basis setup h new
      basis = stirs-basis m setup h old new at k t i.basis

      v : View
      v = with_state old at t.number (Busy t.after) t.shelf

      final : Final setup (λ b. b ≡ i.c) (λ b d. ⊥) v new
      final =
          finish setup h v (same-rows setup h old v refl k.rows) (λ b. b ≡ i.c) (λ b d. ⊥) at t.number t.after t.next new
          (fitting.all-resumes old.wsize (turn_at old) t.machine old.shelf t.next t.after t.shelf t.resumes)
          (laws.resumes-ready old.wsize t.machine (turn_at old) old.shelf t.next t.after t.shelf t.resumes (basis-ready setup h old k.rows i.basis)) basis.flying.flown
          (resumes-has old.wsize (turn_at old) t.machine old.shelf t.next t.after t.shelf t.resumes (unused-next setup h old k.rows i.basis.flying.flown)) t.leads
          m h ahead (λ b. ⊥) (λ call b. ⊥) (turn_at old) refl (none-stays old.wsize (turn_at old)) (λ never. never) (λ call is never sound. absurd never)
          (resumes-led setup old.calls (λ b. b ≡ i.c) old.wsize (turn_at old) (λ b. ⊥) (λ call b. ⊥) (none-stays old.wsize (turn_at old)) t.machine old.shelf t.next t.after t.shelf
          (inr (record { b = i.c; from = refl; c = i.c; moves = machine.stays i.c; calls = shown.calls; shows = shown.places })) i.basis.sound
          (unused-next setup h old k.rows i.basis.flying.flown) t.resumes)

      led : Moves i.c final.d
      led = from-same final.b i.c final.d final.from final.moves

      long : MakesLong setup (next_xid old.calls) new
      long = only-long (MakesLong setup (next_xid old.calls) new) final.long

      run_ : Runs m setup h new final.d
      run_ = runs.stirs h old new at i.c final.d i.run t led final.shown long

  starts-coarse : (h : List Entry) (old new : View) (lane line : ℕ) (op : Op) → Reaches (machine_of m) setup h old → old.lost ≡ false → Known setup h old → IsIdle lane old.lanes
      → Fits (machine_of m lane op) → StartsLane (counted old (last_reading 0 h)) lane (machine_of m lane op) new → Ahead (machine_of m) setup (h ++ Began lane line op ∷ []) new
      → Coarsely m setup h old → Coarsely m setup (h ++ Began lane line op ∷ []) new
  starts-coarse h old new lane line op r found k idle fits t ahead i = record {
    basis = basis;
    wholly = starts-wholly m setup h old new lane line op (last_reading 0 h) r found k idle t i.wholly;
    c = final.d;
    shown = final.shown;
    run = run_;
    size = final.size ∙ i.size;
    longs = longs-moved m setup h (Began lane line op ∷ []) i.c final.d (next_xid old.calls) new (final.size ∙ i.size) i.longs led run_ final.shown long (let n = shown.calls.next in omega (arith, n));
    sents = sents-then m setup h (Began lane line op) i.c i.sents i.longs (λ rec is. absurd cc);
  }
    where
      shown : Shown setup old i.c
      shown = i.shown

      basis : Basis setup (h ++ Began lane line op ∷ []) new
      basis = starts-basis m setup h old new lane line op (last_reading 0 h) r found k idle fits t i.basis

      v : View
      v = record (counted old (last_reading 0 h)) { lanes = old.lanes ++ record { number = lane; state = Busy t.after } ∷ []; shelf = t.shelf }

      final : Final setup (λ b. b ≡ i.c) (λ b d. ⊥) v new
      final =
          finish setup h v (same-rows setup h old v refl k.rows) (λ b. b ≡ i.c) (λ b d. ⊥) (length old.lanes) lane t.after t.next new
          (fitting.all-starts old.wsize (turn_at (counted old (last_reading 0 h))) (machine_of m lane op) old.shelf t.next t.after t.shelf t.starts)
          (laws.starts-ready old.wsize (machine_of m lane op) (turn_at (counted old (last_reading 0 h))) old.shelf t.next t.after t.shelf t.starts (basis-ready setup h old k.rows i.basis)) basis.flying.flown
          (starts-has old.wsize (turn_at (counted old (last_reading 0 h))) (machine_of m lane op) old.shelf t.next t.after t.shelf t.starts (unused-next setup h old k.rows i.basis.flying.flown)) t.leads
          m (h ++ Began lane line op ∷ []) ahead (λ b. ⊥) (λ call b. ⊥) (turn_at (counted old (last_reading 0 h))) refl (none-stays old.wsize (turn_at (counted old (last_reading 0 h)))) (λ never. never) (λ call is never sound. absurd never)
          (starts-led setup old.calls (λ b. b ≡ i.c) old.wsize (turn_at (counted old (last_reading 0 h))) (λ b. ⊥) (λ call b. ⊥) (none-stays old.wsize (turn_at (counted old (last_reading 0 h)))) (machine_of m lane op) old.shelf t.next
          t.after t.shelf fits (inr (record { b = i.c; from = refl; c = i.c; moves = machine.stays i.c; calls = shown.calls; shows = shown.places })) i.basis.sound
          (unused-next setup h old k.rows i.basis.flying.flown) i.basis.newest t.starts)

      led : Moves i.c final.d
      led = from-same final.b i.c final.d final.from final.moves

      long : MakesLong setup (next_xid old.calls) new
      long = only-long (MakesLong setup (next_xid old.calls) new) final.long

      run_ : Runs m setup (h ++ Began lane line op ∷ []) new final.d
      run_ = runs.starts h old new lane line op i.c final.d i.run idle t led final.shown long

  takes-coarse : (h : List Entry) (old new : View) (rec : List ℕ) (xid : ℕ) (call : Waiting Purpose) (at : ℕ) → Reaches (machine_of m) setup h old → old.lost ≡ false → Known setup h old
      → (fin : View) → HearsRecord old rec fin → xid_at rec ≡ Some xid → waiting_at xid old.calls.calls ≡ Some call → position (is_busy call.purpose.lane) old.lanes ≡ Some at
      → TakesAt (taken_one old xid) at call.purpose.sent (said_of call.purpose.proc rec) new
      → Ahead (machine_of m) setup (h ++ Delivered rec ∷ []) new → Coarsely m setup h old → Coarsely m setup (h ++ Delivered rec ∷ []) new
  takes-coarse h old new rec xid call at r found k fin hears named waits place t ahead i = record {
    basis = basis;
    wholly = takes-wholly m setup h old new rec xid call at r found k waits place t i.wholly;
    c = so.d;
    shown = so.shows;
    run = run_;
    size = so.size ∙ i.size;
    longs = longs-taken m setup h (Delivered rec ∷ []) i.c so.b so.d xid (heard_as so.asked (said_of call.purpose.proc rec)) (next_xid old.calls) new (so.size ∙ i.size) i.longs so.hears so.moves run_ so.shows so.long
        shown.calls.next;
    sents = sents-then m setup h (Delivered rec) i.c i.sents i.longs (λ r_ is. absurd cc);
  }
    where
      shown : Shown setup old i.c
      shown = i.shown

      basis : Basis setup (h ++ Delivered rec ∷ []) new
      basis = takes-basis m setup h old new rec xid call at r found k waits place t i.basis

      taken_so : TakesAt (taken old rec) at call.purpose.sent (said_of call.purpose.proc rec) new
      taken_so = subst (λ (o : Option ℕ). TakesAt (record old { calls = record old.calls { calls = after_taking o old.calls.calls }; moments = old.moments + 1 }) at call.purpose.sent
          (said_of call.purpose.proc rec) new) (sym named) t

      so : HeardSo m setup h old r found k i.basis i.wholly i.c shown rec xid call at waits place new t basis.flying.flown (h ++ Delivered rec ∷ []) ahead
      so = heard-so m setup h old r found k i.basis i.wholly i.c shown rec xid call at waits place new t basis.flying.flown (h ++ Delivered rec ∷ []) ahead

      run_ : Runs m setup (h ++ Delivered rec ∷ []) new so.d
      run_ = runs.takes h old new rec xid call at i.c so.b so.d so.asked i.run hears.may named waits place taken_so so.waited so.hears so.moves so.shows so.long

  answers-coarse : (h : List Entry) (old new : View) (at lane line : ℕ) (answer : Answer) → StepsTo (machine_of m) h old (Answered lane line answer) new → Known setup h old → AnswersAt old at lane (Some answer) new → Coarsely m setup h old
      → Coarsely m setup (h ++ Answered lane line answer ∷ []) new
  answers-coarse h old new at lane line answer t k a i = record {
    basis = (keeps-basis m setup).answers h old new at lane line answer k a i.basis;
    wholly = (keeps-wholly m setup).answers h old new at lane line answer k a i.wholly;
    c = i.c;
    shown = later;
    run = runs.rests h (Answered lane line answer) old new i.c i.run t (ap (λ (v : View). v.shelf) a.is) tt later;
    size = ap (λ (w : View). w.wsize) a.is ∙ i.size;
    longs = longs-then m setup h (Answered lane line answer ∷ []) i.c i.longs;
    sents = sents-then m setup h (Answered lane line answer) i.c i.sents i.longs (λ rec is. absurd cc);
  }
    where
      later : Shown setup new i.c
      later = subst (λ (v : View). Shown setup v i.c) (sym a.is) (record { places = i.shown.places; calls = i.shown.calls })

  same-coarse : (h : List Entry) (e : Entry) (old new : View) → StepsTo (machine_of m) h old e new → IsPlain e → IsSeen e old → new.lanes ≡ old.lanes → new.shelf ≡ old.shelf → new.wsize ≡ old.wsize
      → next_xid new.calls ≡ next_xid old.calls → SameCalls old.calls.calls new.calls.calls → Coarsely m setup h old → Coarsely m setup (h ++ e ∷ []) new
  same-coarse h e old new t plain seen lanes shelf wsize next calls i = record {
    basis = (keeps-basis m setup).same h e old new plain lanes shelf wsize calls i.basis;
    wholly = (keeps-wholly m setup).same h e old new lanes shelf calls i.wholly;
    c = i.c;
    shown = later;
    run = runs.rests h e old new i.c i.run t shelf (rests-at e seen) later;
    size = wsize ∙ i.size;
    longs = longs-then m setup h (e ∷ []) i.c i.longs;
    sents = sents-then m setup h e i.c i.sents i.longs (λ rec is. subst (λ (z : Entry). RestsAt setup z i.c) is (rests-at e seen));
  }
    where
      later : Shown setup new i.c
      later = record { places = subst (λ (s : Shelf). Shows s.back i.c) (sym shelf) i.shown.places; calls = same-calls setup old new i.c next calls i.shown.calls }

      rests-at : (d : Entry) → IsSeen d old → RestsAt setup d i.c
      rests-at (Sent bytes) s =
          let k = s.sent_ bytes refl in
          let w : ShownCall setup k.0 (Some k.1) (i.c.wait k.0) = subst (λ (o : Option (Waiting Purpose)). ShownCall setup k.0 o (i.c.wait k.0)) k.2 (i.shown.calls.calls k.0) in
          (k.0, w.0, subst (λ (bs : List ℕ). SpellsCallBy setup.cred k.0 w.0 bs) k.3 w.1, w.2)
      rests-at (Delivered rec) s = λ x named.
          let none : waiting_at x old.calls.calls ≡ None = sym (ap (λ (o : Option ℕ). awaited o old.calls.calls) named) ∙ s.came rec refl in
          subst (λ (o : Option (Waiting Purpose)). ShownCall setup x o (i.c.wait x)) none (i.shown.calls.calls x)
      rests-at d s = tt

  keeps-coarse : KeepsGoing (machine_of m) setup (Coarsely m setup)
  keeps-coarse = record {
    fresh = λ h v may up fresh.
        let run = fresh-run v fresh in
        record {
          basis = (keeps-basis m setup).fresh h v may up fresh;
          wholly = (keeps-wholly m setup).fresh h v fresh;
          c = run.0;
          shown = run.1;
          run = runs.fresh h v run.0 may up fresh run.1;
          size = fresh.wsize;
          longs = λ x f offset how bytes waits.
              let none : run.0.wait x ≡ None = subst (λ (k : Held Purpose). ShownCall setup x (waiting_at x k.calls) (run.0.wait x)) fresh.calls (run.1.calls.calls x) in
              let no_way : None ≡ Some (story.write f offset bytes how) = sym none ∙ waits in absurd cc;
          sents = sents-first m setup h up;
        };
    stirs = stirs-coarse;
    starts = starts-coarse;
    takes = takes-coarse;
    answers = answers-coarse;
    same = same-coarse;
  }

-- as long as the session isn't lost
found-coarse : (m : Mounted) (setup : Setup) (h : List Entry) (v : View) → Reaches (machine_of m) setup h v → v.lost ≡ false → (c : coarse.View) × Runs m setup h v c
found-coarse m setup h v r found =
    let i = reached-going (machine_of m) (begins-unbegun m) setup (Coarsely m setup) (keeps-coarse m setup) h v r found in
    (i.c, i.run)

-- and each WRITE that was sent was long
pub writes-were-long : WritesWereLong
writes-were-long m setup _ _ (begins h v may up fresh) = sents-first m setup h up
writes-were-long m setup _ _ (goes h before v b e r is t) = by v.lost refl (writes-were-long m setup before b r)
  where
    by : (lost : Bool) → v.lost ≡ lost → Sents m setup before → Sents m setup h
    by false found sents =
        (reached-going (machine_of m) (begins-unbegun m) setup (Coarsely m setup) (keeps-coarse m setup) h v (goes h before v b e r is t) found).sents
    by true lost sents =
        subst (λ (k : List Entry). Sents m setup k) (sym is)
        (sents-other m setup before e sents (λ rec sends. lost-unsent m setup b v rec (subst (λ (d : Entry). StepsTo (machine_of m) before b d v) sends t) lost))
writes-were-long m setup _ _ (loses h v b r shown is) = writes-were-long m setup h b r

-- and with each history
pub core-coarse : CoreIsCoarse
core-coarse m setup _ _ (begins h v may up fresh) = found-coarse m setup h v (begins h v may up fresh) fresh.lost
core-coarse m setup _ _ (goes h before v b e r is t) = by v.lost refl (core-coarse m setup before b r)
  where
    by : (lost : Bool) → v.lost ≡ lost → (c : coarse.View) × Runs m setup before b c → (c : coarse.View) × Runs m setup h v c
    by false found run = found-coarse m setup h v (goes h before v b e r is t) found
    by true lost run = (
      run.0,
      subst (λ (k : List Entry). Runs m setup k v run.0) (sym is)
          (runs.stops before e b v run.0 run.1 t lost (lost-shelf (machine_of m) setup before b e v t r lost)),
    )
core-coarse m setup _ _ (loses h v b r shown is) =
    let run = core-coarse m setup h b r in
    (run.0, runs.given_up h b v run.0 run.1 shown is)
