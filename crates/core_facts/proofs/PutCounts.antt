-- How many calls of a put wait after each of its steps.
use Rattle.core_facts.proofs.Prelude.{◌≡◌, ◌+◌, ℕ, Bool, true, false, List, Some, Result, Ok, Err, refl, sym, ap, subst, ◌∙◌, arith, Fault, Reply, is_first, Step, Shelf, Turn, Opening, OpeningStep, PutFile, Putting, Saving, Writing, closed_answer, refusal_of, joined, one_if, of_opening, of_saving, of_writing, of_putting, by-step}
use Rattle.file_ops.proofs.SaveCounts.{SaveCounts, save-goes, save-takes}
use Rattle.world_model.specs.declared.answer.Answer.TheVariants as answers
use Rattle.client_shelf.specs.declared.step.Step.TheVariants as nexts
use Rattle.file_ops.specs.declared.opening.OpeningStep.TheVariants as openings
use Rattle.file_ops.specs.declared.put_file.Putting.TheVariants as putting
use Rattle.file_ops.specs.OpenFile as opens
use Rattle.file_ops.specs.Opening as opening
use Rattle.file_ops.specs.PutFile as puts
use Rattle.file_ops.specs.Saves as saves
use Rattle.file_ops.specs.WriteFile.{made_bytes}
use Rattle.core_facts.proofs.FileCounts.{OpeningCounts, opening-goes, opening-leaves, opening-took, writes-leave, write-resumes, write-takes}
use Rattle.core_facts.proofs.NameCounts.{sends-leaves, waits-leaves, done-leaves, Plain, from-none, leaves-after}

-- how many calls of the put wait
abbrev pub of_put : PutFile → ℕ
of_put m = of_putting m.state m.opening m.write.state

module _ (opening_is : Opening) (write : Writing) where
  abbrev pub PutLeaves : Step → ℕ → Putting → Type 0
  PutLeaves next before state = Plain next before (of_putting state opening_is write)

  put-as : (to : Putting) (next : Step) (before : ℕ) (state : Putting) → state ≡ to → PutLeaves next before to → PutLeaves next before state
  put-as to next before state is l = subst (λ (s : Putting). PutLeaves next before s) (sym is) l

  put-follows : (gives : _) (lane : ℕ) (saving : Saving) (old : Shelf) (next : Step) (state : Putting) (new : Shelf) (before : ℕ)
      → SaveCounts gives before (of_saving saving) → puts.Follows gives lane saving old next state new → PutLeaves next before state
  put-follows gives lane saving old next state new before c f = by-step
      (λ g. SaveCounts g before (of_saving saving) → puts.Follows g lane saving old next state new → PutLeaves next before state)
      (λ call k l. put-as (putting.Saves saving) next before state l.1 (sends-leaves call next before (of_saving saving) (Unit {0}) l.0 k tt))
      (λ k l. put-as (putting.Saves saving) next before state l.1 (waits-leaves next before (of_saving saving) (Unit {0}) l.0 k tt))
      (λ result k l. done-leaves (closed_answer (refusal_of result)) next before (of_putting state opening_is write) (Unit {0}) l.next_is k.0) gives c f

  put-queues : (b : Bool) (wsize lane : ℕ) (turn : Turn) (saving : Saving) (old : Shelf) (next : Step) (state : Putting) (new : Shelf)
      → puts.QueuesIf b wsize lane turn saving old next state new → PutLeaves next (of_saving saving) state
  put-queues true wsize lane turn saving old next state new q =
      put-follows q.gives lane q.saved q.gone next state new (of_saving saving) (save-goes wsize turn.xid turn.room false saving old.back q.gives q.saved q.gone.back q.goes) q.follows
  put-queues false wsize lane turn saving old next state new q =
      put-as (putting.Saves saving) next (of_saving saving) state q.state_is (waits-leaves next (of_saving saving) (of_saving saving) (Unit {0}) q.next_is refl tt)

  -- a step of its write
  after-write : (told : Step) (wsize lane : ℕ) (file : List ℕ) (turn : Turn) (old : Shelf) (next : Step) (state : Putting) (new : Shelf) (before : ℕ)
      → Plain told before (of_writing write) → puts.AfterWrite told wsize lane file turn old next state new → PutLeaves next before state
  after-write (nexts.Send call) wsize lane file turn old next state new before c a =
      put-as (putting.Adds file) next before state a.1 (sends-leaves call next before (of_writing write) (Unit {0}) a.0 c.0 tt)
  after-write nexts.Wait wsize lane file turn old next state new before c a =
      put-as (putting.Adds file) next before state a.1 (waits-leaves next before (of_writing write) (Unit {0}) a.0 c.0 tt)
  after-write (nexts.Done (answers.Done value)) wsize lane file turn old next state new before c a =
      from-none next before (of_putting state opening_is write) (Unit {0}) c
      (put-queues (is_first lane (joined lane file old).order) wsize lane turn (saves.begun file old.seq) (joined lane file old) next state new a)
  after-write (nexts.Done (answers.Refused fault)) wsize lane file turn old next state new before c a =
      done-leaves (closed_answer (Some fault)) next before (of_putting state opening_is write) (Unit {0}) a.next_is c

writes-on : (wsize : ℕ) (m : PutFile) (file : List ℕ) (turn : Turn) (told : Step) (written : Writing) (mid : Shelf) (next : Step) (new : PutFile) (after : Shelf) (before : ℕ)
    → Plain told before (of_writing written) → puts.WritesOn wsize m file turn told written mid next new after → Plain next before (of_put new)
writes-on wsize m file turn told written mid next new after before c w =
    leaves-after next before (of_put new) (of_putting new.state m.opening written) (Unit {0}) (ap (λ (p : PutFile). of_putting new.state p.opening p.write.state) w.machine_is)
    (after-write m.opening written told wsize m.write.lane file turn mid next new.state after before c w.follows)

-- the put before its bytes are pending
stays-put : (m : PutFile) (old : Shelf) (next : Step) (new : PutFile) (after : Shelf) (before : ℕ) → of_put m ≡ before → puts.Stays m old next new after → Plain next before (of_put new)
stays-put m old next new after before is s = waits-leaves next before (of_put new) (Unit {0}) s.next_is (ap of_put s.machine_is ∙ is) tt

pub put-starts : (m : PutFile) (turn : Turn) (next : Step) → m.opening.asked ≡ false → next ≡ opens.goes_as (opening.go_next (puts.opening_at turn m) turn)
    → Plain next 0 (of_opening (opening.go_after (puts.opening_at turn m) turn))
put-starts m turn next idle is =
    opening-leaves (opening.go_next (puts.opening_at turn m) turn) next 0 (of_opening (opening.go_after (puts.opening_at turn m) turn)) is
    (subst (λ (n : ℕ). OpeningCounts (opening.go_next (puts.opening_at turn m) turn) n (of_opening (opening.go_after (puts.opening_at turn m) turn))) (ap one_if idle)
    (opening-goes (puts.opening_at turn m) turn))

pub put-resumes : (at : Putting) (wsize : ℕ) (m : PutFile) (turn : Turn) (old : Shelf) (next : Step) (new : PutFile) (after : Shelf) → m.state ≡ at
    → puts.Resumes at wsize m turn old next new after → Plain next (of_putting at m.opening m.write.state) (of_put new)
put-resumes putting.Idle wsize m turn old next new after is r = stays-put m old next new after 0 (ap (λ (s : Putting). of_putting s m.opening m.write.state) is) r
put-resumes putting.Opens wsize m turn old next new after is r =
    let gone : PutFile = record m { opening = opening.go_after m.opening turn } in
    leaves-after next (of_opening m.opening) (of_put new) (of_opening (opening.go_after m.opening turn)) (Unit {0})
    (ap of_put r.1 ∙ ap (λ (s : Putting). of_putting s (opening.go_after m.opening turn) m.write.state) is)
    (opening-leaves (opening.go_next m.opening turn) next (of_opening m.opening) (of_opening (opening.go_after m.opening turn)) r.0 (opening-goes m.opening turn))
put-resumes (putting.Adds file) wsize m turn old next new after is r =
    writes-on wsize m file turn r.told r.written r.mid next new after (of_writing m.write.state)
    (write-resumes m.write.state wsize m.write.lane turn old r.told r.written r.mid r.resumes) r.goes
put-resumes (putting.Saves saving) wsize m turn old next new after is r =
    leaves-after next (of_saving saving) (of_put new) (of_putting new.state m.opening m.write.state) (Unit {0})
    (ap (λ (p : PutFile). of_putting new.state p.opening p.write.state) r.1)
    (put-queues m.opening m.write.state (is_first m.write.lane old.order) wsize m.write.lane turn saving old next new.state after r.0)

after-opening : (step : OpeningStep) (wsize : ℕ) (m : PutFile) (turn : Turn) (old : Shelf) (next : Step) (new : PutFile) (after : Shelf) (others : ℕ) → m.state ≡ putting.Opens
    → OpeningCounts step others (of_opening m.opening) → puts.AfterOpening step wsize m turn old next new after → Plain next others (of_put new)
after-opening (openings.Send call) wsize m turn old next new after others is c a =
    sends-leaves call next others (of_put new) (Unit {0}) a.0 (ap of_put a.1 ∙ ap (λ (s : Putting). of_putting s m.opening m.write.state) is ∙ c) tt
after-opening openings.Wait wsize m turn old next new after others is c a =
    stays-put m old next new after others (ap (λ (s : Putting). of_putting s m.opening m.write.state) is ∙ c) a
after-opening (openings.Ended (Ok file)) wsize m turn old next new after others is c a =
    from-none next others (of_put new) (Unit {0}) c
    (writes-on wsize m file turn a.told a.written a.mid next new after 0 (writes-leave wsize m.write.lane file m.write.offset (made_bytes m.write.text) turn (puts.put_at m.write.lane file old) a.told a.written a.mid a.writes) a.goes)
after-opening (openings.Ended (Err fault)) wsize m turn old next new after others is c a = done-leaves (answers.Refused fault) next others (of_put new) (Unit {0}) a.0 c

pub put-takes : (at : Putting) (wsize : ℕ) (m : PutFile) (sent turn : Turn) (came : Result Reply Fault) (old : Shelf) (next : Step) (new : PutFile) (after : Shelf) (others : ℕ)
    → m.state ≡ at → of_putting at m.opening m.write.state ≡ others + 1 → puts.Takes at wsize m sent turn came old next new after → Plain next others (of_put new)
put-takes putting.Idle wsize m sent turn came old next new after others is one t = absurd (omega (arith, one))
put-takes putting.Opens wsize m sent turn came old next new after others is one t =
    let again = opening.opening_again m.opening sent turn came old.repeats in
    after-opening t.step wsize (puts.led again m turn came t.took.attrs old.pages) turn t.took next new after others is
    (opening-took again m.opening sent turn (opening.led_on m.opening turn.now came t.took.attrs old.pages) t.step old.pages t.took.pages others one t.leads) t.follows
put-takes (putting.Adds file) wsize m sent turn came old next new after others is one t =
    writes-on wsize m file turn t.told t.written t.mid next new after others
    (write-takes m.write.state wsize m.write sent turn came old t.told t.written t.mid others one t.takes) t.goes
put-takes (putting.Saves saving) wsize m sent turn came old next new after others is one t =
    leaves-after next others (of_put new) (of_putting new.state m.opening m.write.state) (Unit {0})
    (ap (λ (p : PutFile). of_putting new.state p.opening p.write.state) t.1)
    (put-follows m.opening m.write.state t.0.gives m.write.lane t.0.saved t.0.took next new.state after others
    (save-takes wsize sent turn came old.repeats saving old.back t.0.gives t.0.saved t.0.took.back t.0.took.repeats others one t.0.takes) t.0.follows)
