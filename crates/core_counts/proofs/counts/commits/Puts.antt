-- A put asks for two COMMITs at most, where it finds room for its bytes.
use Rattle.core_counts.proofs.Prelude.{◌≡◌, ◌≤◌, ◌⊎◌, inl, inr, ℕ, Bool, true, false, List, Result, Ok, Err, refl, sym, ap, subst, ◌∙◌, arith, Mode, Attrs, Pages, Pending, Answer, Fault, Reply, is_first, Step, Shelf, Turn, is_full, joined, Led, Opening, OpeningStep, OpeningPhase, PutFile, Putting, Saving, by-step}
use Rattle.nfs_types.specs.declared.mode.Mode.TheVariants as modes
use Rattle.world_model.specs.declared.answer.Answer.TheVariants as answers
use Rattle.client_shelf.specs.Repeats.{answered}
use Rattle.client_shelf.specs.declared.step.Step.TheVariants as nexts
use Rattle.file_ops.specs.OpenFile as opens
use Rattle.file_ops.specs.Opening as opening
use Rattle.file_ops.specs.PutFile as puts
use Rattle.file_ops.specs.Saves as saves
use Rattle.file_ops.specs.Syncs as syncs
use Rattle.file_ops.specs.WriteFile as writes
use Rattle.file_ops.specs.WriteFile.{made_bytes}
use Rattle.file_ops.specs.declared.opening.Led.TheVariants as leads
use Rattle.file_ops.specs.declared.opening.OpeningStep.TheVariants as steps
use Rattle.file_ops.specs.declared.opening.OpeningPhase.TheVariants.{Look, Make, Find, Ask}
use Rattle.file_ops.specs.declared.put_file.Putting.TheVariants as putting
use Rattle.core_answers.proofs.writes.Plain.{go-asks, took-asks, opening-plain}
use Rattle.core_counts.proofs.counts.commits.Machines.{StepIs, Taken, repeats, goes, done-step, wait-step, plain-step, spent-step, step-as}
use Rattle.core_counts.proofs.counts.commits.Saves.{left_to, Spent, Took, again, on, goes-spent, takes-took}

-- ---- an opening whose call wasn't made

-- it ends with a fault
failed-led : (mode : Mode) (step : OpeningPhase) (fault : Fault) → opening.led_to mode step (Err fault) ≡ leads.Ends fault
failed-led modes.R Look fault = refl
failed-led modes.W Look fault = refl
failed-led modes.RW Look fault = refl
failed-led modes.C Look fault = refl
failed-led modes.X Look fault = refl
failed-led mode Make fault = refl
failed-led mode Find fault = refl
failed-led mode (Ask file) fault = refl

known-ends : (nocto : Bool) (fault : Fault) (now : ℕ) (attrs : Attrs) (pages : Pages) → opening.known_by nocto (leads.Ends fault) now attrs pages ≡ leads.Ends fault
known-ends true fault now attrs pages = refl
known-ends false fault now attrs pages = refl

led-ends : (o : Opening) (now : ℕ) (fault : Fault) (attrs : Attrs) (pages : Pages) → opening.led_on o now (Err fault) attrs pages ≡ leads.Ends fault
led-ends o now fault attrs pages = ap (λ (l : Led). opening.known_by o.nocto l now attrs pages) (failed-led o.mode o.step fault) ∙ known-ends o.nocto fault now attrs pages

never-found : (again : Bool) (o : Opening) (sent turn : Turn) (led : Led) (fault : Fault) (file : List ℕ) (old new : Pages) → led ≡ leads.Ends fault
    → opening.LedIf again o sent turn led (steps.Ended (Ok file)) old new → ⊥
never-found true o sent turn led fault file old new is l = absurd (let e = l.0 in cc)
never-found false o sent turn led fault file old new is l = absurd (let e = (subst (λ (k : Led). opening.LedTo o sent turn k (steps.Ended (Ok file)) old new) is l).0 in cc)

module _ (f : List ℕ) where
  -- what is left to a put: in a session that has room it makes none
  abbrev pub PutLeft : Putting → ℕ → Type 0
  PutLeft putting.Idle left = Unit {0}
  PutLeft putting.Opens left = 2 ≤ left
  PutLeft (putting.Adds file) left = ⊥
  PutLeft (putting.Saves s) left = left_to s ≤ left

  put-as : (to state : Putting) (left : ℕ) → state ≡ to → PutLeft to left → PutLeft state left
  put-as to state left is k = subst (λ (z : Putting). PutLeft z left) (sym is) k

  -- ---- its save

  put-follows : (gives : _) (lane : ℕ) (saved : Saving) (was : Shelf) (next : Step) (state : Putting) (new : Shelf) (had many : ℕ) → many ≤ had → Spent f many (syncs.sync_next gives) saved
      → puts.Follows gives lane saved was next state new → StepIs f had next (PutLeft state)
  put-follows gives lane saved was next state new had many le s k = by-step
      (λ g. Spent f many (syncs.sync_next g) saved → puts.Follows g lane saved was next state new → StepIs f had next (PutLeft state))
      (λ call z l. step-as f had next (nexts.Send call) (PutLeft state) l.0 (spent-step f had many (nexts.Send call) saved (PutLeft state) le z (put-as (putting.Saves saved) state (left_to saved) l.1 (omega arith))))
      (λ z l. step-as f had next nexts.Wait (PutLeft state) l.0 (spent-step f had many nexts.Wait saved (PutLeft state) le z (put-as (putting.Saves saved) state (left_to saved) l.1 (omega arith))))
      (λ result z l. done-step f had next _ (PutLeft state) l.next_is)
      gives s k

  left-of : (gives : _) (lane : ℕ) (saved : Saving) (was : Shelf) (next : Step) (state : Putting) (new : Shelf) (many : ℕ) → left_to saved ≤ many → puts.Follows gives lane saved was next state new
      → PutLeft state many
  left-of gives lane saved was next state new many few l = by-step (λ g. puts.Follows g lane saved was next state new → PutLeft state many)
      (λ call k. put-as (putting.Saves saved) state many k.1 few)
      (λ k. put-as (putting.Saves saved) state many k.1 few)
      (λ result k. put-as putting.Idle state many k.state_is tt)
      gives l

  same-table : (gives : _) (lane : ℕ) (saved : Saving) (was : Shelf) (next : Step) (state : Putting) (new : Shelf) → puts.Follows gives lane saved was next state new → new.repeats ≡ was.repeats
  same-table gives lane saved was next state new l = by-step (λ g. puts.Follows g lane saved was next state new → new.repeats ≡ was.repeats)
      (λ call k. ap (λ (z : Shelf). z.repeats) k.2)
      (λ k. ap (λ (z : Shelf). z.repeats) k.2)
      (λ result k. ap (λ (z : Shelf). z.repeats) k.others)
      gives l

  put-queues : (b : Bool) (wsize lane : ℕ) (turn : Turn) (s : Saving) (was : Shelf) (next : Step) (state : Putting) (new : Shelf) (had : ℕ) → left_to s ≤ had
      → puts.QueuesIf b wsize lane turn s was next state new → StepIs f had next (PutLeft state)
  put-queues true wsize lane turn s was next state new had le q =
      put-follows q.gives lane q.saved q.gone next state new had (left_to s) le (goes-spent f wsize turn.xid turn.room false s was.back q.gives q.saved q.gone.back q.goes) q.follows
  put-queues false wsize lane turn s was next state new had le q = wait-step f had next (PutLeft state) q.next_is (put-as (putting.Saves s) state had q.state_is le)

  queues-table : (b : Bool) (wsize lane : ℕ) (turn : Turn) (s : Saving) (was : Shelf) (next : Step) (state : Putting) (new : Shelf) → puts.QueuesIf b wsize lane turn s was next state new
      → new.repeats ≡ was.repeats
  queues-table true wsize lane turn s was next state new q = same-table q.gives lane q.saved q.gone next state new q.follows ∙ ap (λ (z : Shelf). z.repeats) q.others
  queues-table false wsize lane turn s was next state new q = ap (λ (z : Shelf). z.repeats) q.shelf_is

  -- ---- its bytes

  pub record Adds (had : ℕ) (was : Shelf) (next : Step) (state : Putting) (new : Shelf) : Type 0 where
    pub step : StepIs f had next (PutLeft state)
    pub table : new.repeats ≡ was.repeats

  after-write : (told : Step) (answer : Answer) (wsize lane : ℕ) (file : List ℕ) (turn : Turn) (was : Shelf) (next : Step) (state : Putting) (new : Shelf) (had : ℕ) → 2 ≤ had → told ≡ nexts.Done answer
      → puts.AfterWrite told wsize lane file turn was next state new → Adds had was next state new
  after-write told answer wsize lane file turn was next state new had le is k =
      by answer (subst (λ (n : Step). puts.AfterWrite n wsize lane file turn was next state new) is k)
    where
      by : (a : Answer) → puts.AfterWrite (nexts.Done a) wsize lane file turn was next state new → Adds had was next state new
      by (answers.Done value) q = record {
        step = put-queues (is_first lane (joined lane file was).order) wsize lane turn (saves.begun file was.seq) (joined lane file was) next state new had le q;
        table = queues-table (is_first lane (joined lane file was).order) wsize lane turn (saves.begun file was.seq) (joined lane file was) next state new q;
      }
      by (answers.Refused fault) e = record { step = done-step f had next _ (PutLeft state) e.next_is; table = ap (λ (z : Shelf). z.repeats) e.others }

  adds-bytes : (wsize : ℕ) (machine : PutFile) (file : List ℕ) (turn : Turn) (old : Shelf) (next : Step) (new : PutFile) (after : Shelf) (had : ℕ) → 2 ≤ had
      → is_full (made_bytes machine.write.text) old.back ≡ false → puts.AddsBytes wsize machine file turn old next new after → Adds had old next new.state after
  adds-bytes wsize machine file turn old next new after had le room a =
      by (is_full (made_bytes machine.write.text) old.back) room a.writes
    where
      by : (b : Bool) → b ≡ false
          → writes.WritesIf b wsize machine.write.lane file machine.write.offset (made_bytes machine.write.text) turn (puts.put_at machine.write.lane file old) a.told a.written a.mid
          → Adds had old next new.state after
      by true no_room w = absurd (cc)
      by false has (inl adds) =
          let k = after-write a.told _ wsize machine.write.lane file turn a.mid next new.state after had le adds.leads.gives_next a.goes.follows in
          record { step = k.step; table = k.table ∙ ap (λ (z : Shelf). z.repeats) adds.leads.shelf_is }
      by false has (inr refuses) =
          let k = after-write a.told _ wsize machine.write.lane file turn a.mid next new.state after had le refuses.gives_next a.goes.follows in
          record { step = k.step; table = k.table ∙ ap (λ (z : Shelf). z.repeats) refuses.shelf_is }

  -- ---- a step without a reply

  pub put-resumes : (at : Putting) (wsize : ℕ) (machine : PutFile) (turn : Turn) (old : Shelf) (next : Step) (new : PutFile) (after : Shelf) (had : ℕ) → machine.state ≡ at → PutLeft at had
      → puts.Resumes at wsize machine turn old next new after → StepIs f had next (PutLeft new.state)
  put-resumes putting.Idle wsize machine turn old next new after had is le r =
      wait-step f had next (PutLeft new.state) r.next_is (put-as putting.Idle new.state had (ap (λ (z : PutFile). z.state) r.machine_is ∙ is) tt)
  put-resumes putting.Opens wsize machine turn old next new after had is le r =
      plain-step f had next (PutLeft new.state)
      (opening-plain (opening.go_next machine.opening turn) next r.0 (go-asks machine.opening turn (opening.go_next machine.opening turn) refl))
      (put-as putting.Opens new.state had (ap (λ (z : PutFile). z.state) r.1 ∙ is) le)
  put-resumes (putting.Adds file) wsize machine turn old next new after had is le r = absurd le
  put-resumes (putting.Saves s) wsize machine turn old next new after had is le r =
      put-queues (is_first machine.write.lane old.order) wsize machine.write.lane turn s old next new.state after had le r.0

  pub put-starts : (machine : PutFile) (turn : Turn) (next : Step) (state : Putting) (had : ℕ) → 2 ≤ had → next ≡ opens.goes_as (opening.go_next (puts.opening_at turn machine) turn) → state ≡ putting.Opens
      → StepIs f had next (PutLeft state)
  put-starts machine turn next state had le is opens_ =
      plain-step f had next (PutLeft state)
      (opening-plain (opening.go_next (puts.opening_at turn machine) turn) next is (go-asks (puts.opening_at turn machine) turn (opening.go_next (puts.opening_at turn machine) turn) refl))
      (put-as putting.Opens state had opens_ le)

  -- ---- what came

  -- its call wasn't made, or there is room for its bytes
  abbrev pub HasRoom : PutFile → Result Reply Fault → Shelf → Type 0
  HasRoom machine came old = ((fault : Fault) × (came ≡ Err fault)) ⊎ (is_full (made_bytes machine.write.text) old.back ≡ false)

  -- that is asked of a put whose file is being found
  abbrev pub PutRoom : Putting → PutFile → Result Reply Fault → Shelf → Type 0
  PutRoom putting.Idle machine came old = Unit {0}
  PutRoom putting.Opens machine came old = HasRoom machine came old
  PutRoom (putting.Adds file) machine came old = Unit {0}
  PutRoom (putting.Saves s) machine came old = Unit {0}

  abbrev pub PutWaits : Putting → Type 0
  PutWaits putting.Idle = ⊥
  PutWaits putting.Opens = Unit {0}
  PutWaits (putting.Adds file) = Unit {0}
  PutWaits (putting.Saves s) = Unit {0}

  module _ (wsize : ℕ) (machine : PutFile) (sent turn : Turn) (came : Result Reply Fault) (old : Shelf) (next : Step) (new : PutFile) (after : Shelf) (had : ℕ) (le : 2 ≤ had)
      (is : machine.state ≡ putting.Opens) (room : HasRoom machine came old) (t : puts.TakesOpening wsize machine sent turn came old next new after) where
    abbrev led_put : PutFile
    led_put = puts.led (opening.opening_again machine.opening sent turn came old.repeats) machine turn came t.took.attrs old.pages

    TakenSo : Type 0
    TakenSo = Taken f had sent turn old.repeats after.repeats next (PutLeft new.state)

    table-as : (b : Bool) → opening.opening_again machine.opening sent turn came old.repeats ≡ b → t.took.repeats ≡ answered b sent.xid turn.xid old.repeats
    table-as b goes_ = t.repeats ∙ ap (λ (c : Bool). answered c sent.xid turn.xid old.repeats) goes_

    opening-of : (step : OpeningStep) → t.step ≡ step → (b : Bool) → opening.opening_again machine.opening sent turn came old.repeats ≡ b
        → opening.LedIf b machine.opening sent turn (opening.led_on machine.opening turn.now came t.took.attrs old.pages) step old.pages t.took.pages
        → puts.AfterOpening step wsize led_put turn t.took next new after → Taken f had sent turn old.repeats after.repeats next (PutLeft new.state)
    opening-of (steps.Send call) step_is true goes_ l k =
        repeats (ap (λ (z : Shelf). z.repeats) k.2 ∙ table-as true goes_) (put-as putting.Opens new.state had (ap (λ (z : PutFile). z.state) k.1 ∙ is) le)
    opening-of (steps.Send call) step_is false goes_ l k =
        goes (ap (λ (z : Shelf). z.repeats) k.2 ∙ table-as false goes_)
        (plain-step f had next (PutLeft new.state) (opening-plain (steps.Send call) next k.0
        (took-asks (opening.may_again machine.opening (opening.told_led machine.opening came)) false old.repeats machine.opening sent turn (opening.led_on machine.opening turn.now came t.took.attrs old.pages) (steps.Send call) old.pages
        t.took.pages goes_ l))
        (put-as putting.Opens new.state had (ap (λ (z : PutFile). z.state) k.1 ∙ is) le))
    opening-of steps.Wait step_is true goes_ l k = absurd (let e = l.0 in cc)
    opening-of steps.Wait step_is false goes_ l k =
        goes (ap (λ (z : Shelf). z.repeats) k.shelf_is ∙ table-as false goes_)
        (wait-step f had next (PutLeft new.state) k.next_is (put-as putting.Opens new.state had (ap (λ (z : PutFile). z.state) k.machine_is ∙ is) le))
    opening-of (steps.Ended (Ok file)) step_is true goes_ l k = absurd (let e = l.0 in cc)
    opening-of (steps.Ended (Ok file)) step_is false goes_ l k = by room
      where
        back_is : t.took.back ≡ old.back
        back_is = ap (λ (z : Shelf). z.back) t.others

        by : HasRoom machine came old → Taken f had sent turn old.repeats after.repeats next (PutLeft new.state)
        by (inl unmade) =
            absurd (never-found false machine.opening sent turn (opening.led_on machine.opening turn.now came t.took.attrs old.pages) unmade.0 file old.pages t.took.pages
            (ap (λ (c : Result Reply Fault). opening.led_on machine.opening turn.now c t.took.attrs old.pages) unmade.1 ∙ led-ends machine.opening turn.now unmade.0 t.took.attrs old.pages) l)
        by (inr has) =
            let a = adds-bytes wsize led_put file turn t.took next new after had le (ap (λ (b : Pending). is_full (made_bytes machine.write.text) b) back_is ∙ has) k in
            goes (a.table ∙ table-as false goes_) a.step
    opening-of (steps.Ended (Err fault)) step_is true goes_ l k = absurd (let e = l.0 in cc)
    opening-of (steps.Ended (Err fault)) step_is false goes_ l k =
        goes (ap (λ (z : Shelf). z.repeats) k.2 ∙ table-as false goes_) (done-step f had next _ (PutLeft new.state) k.0)

    pub opening-took : Taken f had sent turn old.repeats after.repeats next (PutLeft new.state)
    opening-took = opening-of t.step refl (opening.opening_again machine.opening sent turn came old.repeats) refl t.leads t.follows

  pub put-takes : (at : Putting) (wsize : ℕ) (machine : PutFile) (sent turn : Turn) (came : Result Reply Fault) (old : Shelf) (next : Step) (new : PutFile) (after : Shelf) (had : ℕ) → machine.state ≡ at
      → PutWaits at → PutLeft at had → PutRoom at machine came old → puts.Takes at wsize machine sent turn came old next new after
      → Taken f had sent turn old.repeats after.repeats next (PutLeft new.state)
  put-takes putting.Idle wsize machine sent turn came old next new after had is waits le room t = absurd waits
  put-takes putting.Opens wsize machine sent turn came old next new after had is waits le room t = opening-took wsize machine sent turn came old next new after had le is room t
  put-takes (putting.Adds file) wsize machine sent turn came old next new after had is waits le room t = absurd le
  put-takes (putting.Saves s) wsize machine sent turn came old next new after had is waits le room t =
      by (takes-took f wsize sent turn came old.repeats s old.back t.0.gives t.0.saved t.0.took.back t.0.took.repeats t.0.takes)
    where
      by : Took f sent turn old.repeats t.0.took.repeats s (syncs.sync_next t.0.gives) t.0.saved → Taken f had sent turn old.repeats after.repeats next (PutLeft new.state)
      by (again table few) =
          repeats (same-table t.0.gives machine.write.lane t.0.saved t.0.took next new.state after t.0.follows ∙ table)
          (left-of t.0.gives machine.write.lane t.0.saved t.0.took next new.state after had (omega (arith, few, le)) t.0.follows)
      by (on table k) =
          goes (same-table t.0.gives machine.write.lane t.0.saved t.0.took next new.state after t.0.follows ∙ table)
          (put-follows t.0.gives machine.write.lane t.0.saved t.0.took next new.state after had (left_to s) le k t.0.follows)
