-- For which calls a put waits, and what came before its save sends again or it ends well.
use Rattle.core_facts.proofs.Prelude.{◌≡◌, ◌≤◌, ◌+◌, ℕ, Bool, true, false, List, Some, Result, Ok, Err, refl, sym, ap, subst, ◌∙◌, arith, if◌then◌else◌, Verf, Answer, Fault, Call, Reply, is_first, Step, Shelf, Turn, Opening, OpeningStep, PutFile, Putting, Saving, Writing, closed_answer, refusal_of, commit_told, joined, by-step, of_opening, of_saving, of_writing, of_putting}
use Rattle.world_model.specs.declared.answer.Answer.TheVariants as answers
use Rattle.client_shelf.specs.declared.step.Step.TheVariants as nexts
use Rattle.file_ops.specs.declared.opening.OpeningStep.TheVariants as openings
use Rattle.file_ops.specs.declared.put_file.Putting.TheVariants as putting
use Rattle.file_ops.specs.OpenFile as opens
use Rattle.file_ops.specs.Opening as opening
use Rattle.file_ops.specs.PutFile as puts
use Rattle.file_ops.specs.Saves as saves
use Rattle.file_ops.specs.Syncs as syncs
use Rattle.file_ops.specs.WriteFile.{made_bytes}
use Rattle.core_facts.proofs.FileCounts.{OpeningCounts, opening-took, writes-leave, write-resumes, write-takes}
use Rattle.core_facts.proofs.NameCounts.{Plain}
use Rattle.core_facts.proofs.SaveCommits.{SaveExpects, WellDone, SaveSteps, goes-steps, takes-steps}
use Rattle.core_facts.proofs.Steps.{AskedOf, KeptOf, ThenOf}

abbrev pub PutExpects : Putting → Call → Type 0
PutExpects putting.Idle call = Unit {0}
PutExpects putting.Opens call = Unit {0}
PutExpects (putting.Adds file) call = Unit {0}
PutExpects (putting.Saves saving) call = SaveExpects saving call

-- P holds of the file of its save where that sends again
abbrev pub PutHas : (List ℕ → Type 0) → Putting → Type 0
PutHas P putting.Idle = Unit {0}
PutHas P putting.Opens = Unit {0}
PutHas P (putting.Adds file) = Unit {0}
PutHas P (putting.Saves saving) = saves.is_again saving.phase ≡ true → P saving.file

-- and of a file where it went well
abbrev pub PutWell : (List ℕ → Type 0) → Answer → Type 0
PutWell P (answers.Done value) = (f : List ℕ) × P f
PutWell P (answers.Refused fault) = Unit {0}

pub record PutSteps (P : List ℕ → Type 0) (others : ℕ) (old : Putting) (next : Step) (new : Putting) : Type 0 where
  pub asked : AskedOf PutExpects next new
  pub kept : KeptOf PutExpects others old next new
  pub then_ : ThenOf (PutHas P) (PutWell P) next new

module _ (P : List ℕ → Type 0) where
  put-to : (others : ℕ) (old : Putting) (to : Step) (state : Putting) (next : Step) (new : Putting) → next ≡ to → new ≡ state → PutSteps P others old to state → PutSteps P others old next new
  put-to others old to state next new is at c = subst (λ (n : Step). PutSteps P others old n new) (sym is) (subst (λ (s : Putting). PutSteps P others old to s) (sym at) c)

  put-done : (others : ℕ) (old : Putting) (answer : Answer) (next : Step) (new : Putting) → next ≡ nexts.Done answer → PutWell P answer → PutSteps P others old next new
  put-done others old answer next new is well = subst (λ (n : Step). PutSteps P others old n new) (sym is) (record { asked = tt; kept = tt; then_ = well })

  put-waits : (others : ℕ) (old : Putting) (next : Step) (new : Putting) → next ≡ nexts.Wait → new ≡ old → PutHas P old → PutSteps P others old next new
  put-waits others old next new is same has = put-to others old nexts.Wait old next new is same (record { asked = tt; kept = λ some c e. e; then_ = has })

  closed-well : (f : List ℕ) (result : Result (Unit {0}) Fault) → WellDone (P f) (syncs.answer_of result) → PutWell P (closed_answer (refusal_of result))
  closed-well f (Ok done) w = (f, w)
  closed-well f (Err fault) w = tt

  -- what it expects of its save, where it was at that before, or else where no other call waits
  pub record FromSave (others : ℕ) (old : Putting) (s : Saving) : Type 0 where
    pub expects : 1 ≤ others → (c : Call) → PutExpects old c → SaveExpects s c

  keeps-call : (others : ℕ) (old : Putting) (s saved : Saving) → FromSave others old s → saved.file ≡ s.file
      → (1 ≤ others → saves.is_sending saved.phase ≡ saves.is_sending s.phase) → 1 ≤ others → (c : Call) → PutExpects old c → SaveExpects saved c
  keeps-call others old s saved from file stays some c e idle = from.expects some c e (sym (stays some) ∙ idle) ∙ ap saves.commit_of (sym file)

  put-follows : (others : ℕ) (old : Putting) (s : Saving) (gives : _) (saved : Saving) (lane : ℕ) (was : Shelf) (next : Step) (new : Putting) (after : Shelf) → FromSave others old s
      → SaveSteps (P s.file) others s (syncs.sync_next gives) saved → puts.Follows gives lane saved was next new after → PutSteps P others old next new
  put-follows others old s gives saved lane was next new after from c f = by-step
      (λ g. SaveSteps (P s.file) others s (syncs.sync_next g) saved → puts.Follows g lane saved was next new after → PutSteps P others old next new)
      (λ call k l. put-to others old (nexts.Send call) (putting.Saves saved) next new l.0 l.1
      (record { asked = k.asks; kept = keeps-call others old s saved from k.file k.stays; then_ = λ again. subst P (sym k.file) (k.again again) }))
      (λ k l. put-to others old nexts.Wait (putting.Saves saved) next new l.0 l.1
      (record { asked = tt; kept = keeps-call others old s saved from k.file k.stays; then_ = λ again. subst P (sym k.file) (k.again again) }))
      (λ result k l. put-done others old (closed_answer (refusal_of result)) next new l.next_is (closed-well s.file result k.ended))
      gives c f

  put-queues : (b : Bool) (old : Putting) (wsize lane : ℕ) (turn : Turn) (s : Saving) (was : Shelf) (next : Step) (new : Putting) (after : Shelf) → FromSave (of_saving s) old s
      → (saves.is_again s.phase ≡ true → P s.file) → puts.QueuesIf b wsize lane turn s was next new after → PutSteps P (of_saving s) old next new
  put-queues true old wsize lane turn s was next new after from again q =
      put-follows (of_saving s) old s q.gives q.saved lane q.gone next new after from
      (goes-steps (P s.file) wsize turn.xid turn.room false s was.back q.gives q.saved q.gone.back again q.goes) q.follows
  put-queues false old wsize lane turn s was next new after from again q =
      put-to (of_saving s) old nexts.Wait (putting.Saves s) next new q.next_is q.state_is (record { asked = tt; kept = from.expects; then_ = again })

  begins-save : (old : Putting) (wsize lane : ℕ) (file : List ℕ) (turn : Turn) (was : Shelf) (next : Step) (new : Putting) (after : Shelf)
      → puts.SavesFile wsize lane file turn was next new after → PutSteps P 0 old next new
  begins-save old wsize lane file turn was next new after q =
      put-queues (is_first lane (joined lane file was).order) old wsize lane turn (saves.begun file was.seq) (joined lane file was) next new after
      (record { expects = λ some. absurd (omega (arith, some)) }) (λ again. absurd cc) q

  -- a state of which nothing is said
  plain-put : (others : ℕ) (old : Putting) (next : Step) (new state : Putting) → new ≡ state → ((c : Call) → PutExpects state c) → PutHas P state → ((answer : Answer) → next ≡ nexts.Done answer → ⊥)
      → PutSteps P others old next new
  plain-put others old (nexts.Send call) new state is any has goes =
      subst (λ (s : Putting). PutSteps P others old (nexts.Send call) s) (sym is) (record { asked = any call; kept = λ some c e. any c; then_ = has })
  plain-put others old nexts.Wait new state is any has goes =
      subst (λ (s : Putting). PutSteps P others old nexts.Wait s) (sym is) (record { asked = tt; kept = λ some c e. any c; then_ = has })
  plain-put others old (nexts.Done answer) new state is any has goes = absurd (goes answer refl)

  send-not : (call : Call) (next : Step) → next ≡ nexts.Send call → (answer : Answer) → next ≡ nexts.Done answer → ⊥
  send-not call next is answer ends = let no_way : nexts.Send call ≡ nexts.Done answer = sym is ∙ ends in cc

  wait-not : (next : Step) → next ≡ nexts.Wait → (answer : Answer) → next ≡ nexts.Done answer → ⊥
  wait-not next is answer ends = let no_way : nexts.Wait ≡ nexts.Done answer = sym is ∙ ends in cc

  after-write : (told : Step) (others : ℕ) (old : Putting) (written : Writing) (wsize lane : ℕ) (file : List ℕ) (turn : Turn) (was : Shelf) (next : Step) (new : Putting) (after : Shelf)
      → Plain told others (of_writing written) → puts.AfterWrite told wsize lane file turn was next new after → PutSteps P others old next new
  after-write (nexts.Send call) others old written wsize lane file turn was next new after c a =
      plain-put others old next new (putting.Adds file) a.1 (λ k. tt) tt (send-not call next a.0)
  after-write nexts.Wait others old written wsize lane file turn was next new after c a = plain-put others old next new (putting.Adds file) a.1 (λ k. tt) tt (wait-not next a.0)
  after-write (nexts.Done (answers.Done value)) others old written wsize lane file turn was next new after c a =
      subst (λ (n : ℕ). PutSteps P n old next new) (sym c) (begins-save old wsize lane file turn was next new after a)
  after-write (nexts.Done (answers.Refused fault)) others old written wsize lane file turn was next new after c a =
      put-done others old (closed_answer (Some fault)) next new a.next_is tt

  writes-on : (wsize : ℕ) (m : PutFile) (file : List ℕ) (turn : Turn) (told : Step) (written : Writing) (mid : Shelf) (next : Step) (new : PutFile) (after : Shelf) (others : ℕ) (old : Putting)
      → Plain told others (of_writing written) → puts.WritesOn wsize m file turn told written mid next new after → PutSteps P others old next new.state
  writes-on wsize m file turn told written mid next new after others old c w =
      after-write told others old written wsize m.write.lane file turn mid next new.state after c w.follows

  -- an opening that goes on asks or waits
  opening-step : (b : Bool) (o : Opening) (next : Step) → next ≡ opens.goes_as (if b then openings.Wait else openings.Send (opening.call_of o o.step)) → (answer : Answer)
      → next ≡ nexts.Done answer → ⊥
  opening-step true o next is answer ends = wait-not next is answer ends
  opening-step false o next is answer ends = send-not (opening.call_of o o.step) next is answer ends

  goes-opening : (o : Opening) (turn : Turn) (next : Step) → next ≡ opens.goes_as (opening.go_next o turn) → (answer : Answer) → next ≡ nexts.Done answer → ⊥
  goes-opening o turn next is answer ends = opening-step (opening.waits o turn) o next is answer ends

  pub put-starts : (m : PutFile) (turn : Turn) (next : Step) (new : PutFile) → next ≡ opens.goes_as (opening.go_next (puts.opening_at turn m) turn) → new.state ≡ putting.Opens
      → (old : Putting) (others : ℕ) → PutSteps P others old next new.state
  put-starts m turn next new is at old others = plain-put others old next new.state putting.Opens at (λ c. tt) tt (goes-opening (puts.opening_at turn m) turn next is)

  pub put-resumes : (at : Putting) (wsize : ℕ) (m : PutFile) (turn : Turn) (was : Shelf) (next : Step) (new : PutFile) (after : Shelf) → m.state ≡ at → PutHas P at
      → puts.Resumes at wsize m turn was next new after → PutSteps P (of_putting at m.opening m.write.state) at next new.state
  put-resumes putting.Idle wsize m turn was next new after is has r = put-waits 0 putting.Idle next new.state r.next_is (ap (λ (p : PutFile). p.state) r.machine_is ∙ is) tt
  put-resumes putting.Opens wsize m turn was next new after is has r =
      plain-put (of_opening m.opening) putting.Opens next new.state putting.Opens (ap (λ (p : PutFile). p.state) r.1 ∙ is) (λ c. tt) tt (goes-opening m.opening turn next r.0)
  put-resumes (putting.Adds file) wsize m turn was next new after is has r =
      writes-on wsize m file turn r.told r.written r.mid next new after (of_writing m.write.state) (putting.Adds file)
      (write-resumes m.write.state wsize m.write.lane turn was r.told r.written r.mid r.resumes) r.goes
  put-resumes (putting.Saves s) wsize m turn was next new after is has r =
      put-queues (is_first m.write.lane was.order) (putting.Saves s) wsize m.write.lane turn s was next new.state after (record { expects = λ some c e. e }) has r.0

  after-opening : (step : OpeningStep) (wsize : ℕ) (m : PutFile) (turn : Turn) (was : Shelf) (next : Step) (new : PutFile) (after : Shelf) (others : ℕ) (old : Putting) → m.state ≡ putting.Opens
      → OpeningCounts step others (of_opening m.opening) → puts.AfterOpening step wsize m turn was next new after → PutSteps P others old next new.state
  after-opening (openings.Send call) wsize m turn was next new after others old is c a =
      plain-put others old next new.state putting.Opens (ap (λ (p : PutFile). p.state) a.1 ∙ is) (λ k. tt) tt (send-not call next a.0)
  after-opening openings.Wait wsize m turn was next new after others old is c a =
      plain-put others old next new.state putting.Opens (ap (λ (p : PutFile). p.state) a.machine_is ∙ is) (λ k. tt) tt (wait-not next a.next_is)
  after-opening (openings.Ended (Ok file)) wsize m turn was next new after others old is c a =
      subst (λ (n : ℕ). PutSteps P n old next new.state) (sym c)
      (writes-on wsize m file turn a.told a.written a.mid next new after 0 old
      (writes-leave wsize m.write.lane file m.write.offset (made_bytes m.write.text) turn (puts.put_at m.write.lane file was) a.told a.written a.mid a.writes) a.goes)
  after-opening (openings.Ended (Err fault)) wsize m turn was next new after others old is c a = put-done others old (answers.Refused fault) next new.state a.0 tt

  pub put-takes : (at : Putting) (wsize : ℕ) (m : PutFile) (sent turn : Turn) (came : Result Reply Fault) (was : Shelf) (next : Step) (new : PutFile) (after : Shelf) (others : ℕ)
      → m.state ≡ at → of_putting at m.opening m.write.state ≡ others + 1 → PutHas P at
      → ((s : Saving) → at ≡ putting.Saves s → saves.is_sending s.phase ≡ false → (verf : Verf) → commit_told came ≡ Ok verf → P s.file)
      → puts.Takes at wsize m sent turn came was next new after → PutSteps P others at next new.state
  put-takes putting.Idle wsize m sent turn came was next new after others is one has told t = absurd (omega (arith, one))
  put-takes putting.Opens wsize m sent turn came was next new after others is one has told t =
      let again = opening.opening_again m.opening sent turn came was.repeats in
      after-opening t.step wsize (puts.led again m turn came t.took.attrs was.pages) turn t.took next new after others putting.Opens is
      (opening-took again m.opening sent turn (opening.led_on m.opening turn.now came t.took.attrs was.pages) t.step was.pages t.took.pages others one t.leads) t.follows
  put-takes (putting.Adds file) wsize m sent turn came was next new after others is one has told t =
      writes-on wsize m file turn t.told t.written t.mid next new after others (putting.Adds file)
      (write-takes m.write.state wsize m.write sent turn came was t.told t.written t.mid others one t.takes) t.goes
  put-takes (putting.Saves s) wsize m sent turn came was next new after others is one has told t =
      put-follows others (putting.Saves s) s t.0.gives t.0.saved m.write.lane t.0.took next new.state after (record { expects = λ some c e. e })
      (takes-steps (P s.file) wsize sent turn came was.repeats s was.back t.0.gives t.0.saved t.0.took.back t.0.took.repeats others one has (told s refl) t.0.takes) t.0.follows
