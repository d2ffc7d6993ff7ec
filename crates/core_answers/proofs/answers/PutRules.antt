-- A put that is refused for a rule: its last fault, and the one that its save keeps, is that of a record that came for one of its calls.
use Rattle.core_answers.proofs.Prelude.{◌≡◌, ◌+◌, ℕ, Bool, true, false, List, length, Result, Ok, Err, refl, sym, ap, subst, arith, ◌-◌, [], ◌∷◌, ◌++◌, ◌∙◌, Option, Some, None, option_map, if◌then◌else◌, Answer, Fault, Entry, Call, Reply, Ended, is_first, Step, Shelf, Turn, OpeningStep, PutFile, Putting, Saving, Writing, joined, made_bytes, by-step, ends_as, IsNamed, last_of, front_of, machine_of, of_putting, in_flight, FineOption, FineResult, then-as, ThenOf, Began, Op, OpenFile, Walk, WalkStep, walk_of, Mounted, Machine, Opener, PathMachine, file_of, Starts, Resumes, Takes, State, Busy, Over, Setup, begins-unbegun, of_path, AsksFor, PutAwaits, PathOr, Awaits, awaits-laws, program_of, Waiting, Purpose, View, Reaches, look_up, length_last}
use Rattle.op_machines.specs.Openers.{opening_in}
use Rattle.world_model.specs.declared.answer.Answer.TheVariants as answers
use Rattle.world_model.specs.declared.answer.Fault.TheVariants as faults
use Rattle.world_model.specs.declared.answer.Value.TheVariants as values
use Rattle.world_model.specs.declared.message.Call.TheVariants as calls
use Rattle.world_model.specs.Heard.{Refused}
use Rattle.client_shelf.specs.declared.step.Step.TheVariants as nexts
use Rattle.file_ops.specs.declared.opening.OpeningStep.TheVariants as openings
use Rattle.file_ops.specs.declared.put_file.Putting.TheVariants as putting
use Rattle.file_ops.specs.declared.write_file.Writing.TheVariants as writings
use Rattle.file_ops.specs.OpenFile as opens
use Rattle.file_ops.specs.Opening as opening
use Rattle.file_ops.specs.PutFile as puts
use Rattle.file_ops.specs.Saves as saves
use Rattle.file_ops.specs.Syncs as syncs
use Rattle.world_model.specs.declared.op.Op.TheVariants as ops
use Rattle.world_model.proofs.Growth.{Refused-grow, Refused-wide}
use Rattle.name_ops.specs.declared.walk.WalkStep.TheVariants as walks
use Rattle.name_ops.specs.Walking as walking
use Rattle.op_machines.specs.declared.file_machine.FileMachine.TheVariants as files
use Rattle.op_machines.specs.declared.machine.Machine.TheVariants as machines
use Rattle.op_machines.specs.declared.opener.Opener.TheVariants as openers
use Rattle.op_machines.specs.PathSteps as paths
use Rattle.core_answers.specs.answers.PutRules.{PutRulesShown, MayRefusePut, PutFaultsFew}
use Rattle.core_answers.proofs.answers.Both.{Both, both-laws}
use Rattle.core_answers.proofs.answers.PieceSteps.{IsPiece}
use Rattle.core_answers.proofs.answers.PutCalls.{StateCalls, OpenerCalls, Calls, calls-laws}
use Rattle.core_answers.proofs.answers.ReplyRules.{IsRule, RuleTold, own, found-rule, NextRule, led-rule, next-rule, save-rule}
use Rattle.core_answers.proofs.answers.SaveFaults.{SaveFine, goes-fine, takes-fine}
use Rattle.core_answers.proofs.answers.SlotTales.{IsSeen, SlotLaws, reached-answered}
use Rattle.core_answers.proofs.bonds.OneCall.{IsNfs, one-call}
use Rattle.nfs_types.specs.declared.program.TheConstants.{NFS_PROGRAM}
use Rattle.core_facts.specs.Refusing.{IsRefusedSo}
use Rattle.core_answers.proofs.answers.WalkFaults.{FineWalk, FineLook, go-walk-fine, took-walk-by}
use Rattle.core_answers.proofs.answers.WriteCalls.{WriteCalls}
use Rattle.core_answers.proofs.answers.WriteFaults.{FineWriting, WriteFine, FitsWrite, writes-fine, write-resumes, write-takes}
use Rattle.core_answers.proofs.answers.Writing.{written-reached}

-- for which calls a put waits
abbrev Waited : Machine → Call → Type 0
Waited = Both Awaits Calls

abbrev WaitedPath : Bool → PathMachine → Call → Type 0
WaitedPath b m call = PathOr b m call × OpenerCalls b m.opener call

put-of : (k : Opener) (p : PutFile) → file_of k ≡ files.Put p → k ≡ openers.Put p
put-of (openers.Put a) p is = ap openers.Put (same a p is)
  where
    same : (a b : PutFile) → files.Put a ≡ files.Put b → a ≡ b
    same a b e = cc
put-of (openers.Open a) p is = absurd (no_put a p is)
  where
    no_put : (a : OpenFile) (b : PutFile) → files.Open a ≡ files.Put b → ⊥
    no_put a b e = cc

module _ (h : List Entry) (x : ℕ) where
  abbrev pub PutAnswer : Answer → Type 0
  PutAnswer (answers.Done value) = Unit {0}
  PutAnswer (answers.Refused fault) = IsRule h x fault

  -- ---- a put that has its directory: of the fault that its save keeps

  abbrev StateAt : Putting → Writing → Type 0
  StateAt putting.Idle w = Unit {0}
  StateAt putting.Opens w = Unit {0}
  StateAt (putting.Adds file) w = FineWriting (IsRule h x) (own h x) w
  StateAt (putting.Saves s) w = FineOption (IsRule h x) s.refusal

  abbrev pub PutAt : PutFile → Type 0
  PutAt p = StateAt p.state p.write.state

  abbrev FileThen : Writing → Step → Putting → Type 0
  FileThen w next state = ThenOf (λ (s : Putting). StateAt s w) PutAnswer next state

  file-then : (w : Writing) (to : Step) (at : Putting) (next : Step) (state : Putting) → next ≡ to → state ≡ at → FileThen w to at → FileThen w next state
  file-then w to at next state is same t = subst (λ (n : Step). FileThen w n state) (sym is) (subst (λ (s : Putting). FileThen w to s) (sym same) t)

  file-done : (w : Writing) (answer : Answer) (next : Step) (state : Putting) → next ≡ nexts.Done answer → PutAnswer answer → FileThen w next state
  file-done w answer next state is a = subst (λ (n : Step). FileThen w n state) (sym is) a

  put-follows : (w : Writing) (gives : _) (saved : Saving) (lane : ℕ) (was : Shelf) (next : Step) (state : Putting) (after : Shelf)
      → SaveFine (IsRule h x) (own h x) (syncs.sync_next gives) saved → puts.Follows gives lane saved was next state after → FileThen w next state
  put-follows w gives saved lane was next state after fine goes = by-step
      (λ g. SaveFine (IsRule h x) (own h x) (syncs.sync_next g) saved → puts.Follows g lane saved was next state after → FileThen w next state)
      (λ call f g. file-then w (nexts.Send call) (putting.Saves saved) next state g.0 g.1 f.1)
      (λ f g. file-then w nexts.Wait (putting.Saves saved) next state g.0 g.1 f.1)
      ended gives fine goes
    where
      ended : (result : Result (Unit {0}) Fault) → SaveFine (IsRule h x) (own h x) (syncs.sync_next (ends_as result)) saved
          → puts.Follows (ends_as result) lane saved was next state after → FileThen w next state
      ended (Ok done) f g = file-done w (answers.Done values.Nothing) next state g.next_is tt
      ended (Err fault) f g = file-done w (answers.Refused fault) next state g.next_is f.0

  put-queues : (b : Bool) (w : Writing) (wsize lane : ℕ) (turn : Turn) (s : Saving) (was : Shelf) (next : Step) (state : Putting) (after : Shelf) → FineOption (IsRule h x) s.refusal
      → puts.QueuesIf b wsize lane turn s was next state after → FileThen w next state
  put-queues true w wsize lane turn s was next state after at q =
      put-follows w q.gives q.saved lane q.gone next state after
      (goes-fine (IsRule h x) (own h x) wsize turn.xid turn.room false s was.back q.gives q.saved q.gone.back at q.goes) q.follows
  put-queues false w wsize lane turn s was next state after at q = file-then w nexts.Wait (putting.Saves s) next state q.next_is q.state_is at

  after-write : (told : Step) (w : Writing) (wsize lane : ℕ) (file : List ℕ) (turn : Turn) (was : Shelf) (next : Step) (state : Putting) (after : Shelf)
      → WriteFine (IsRule h x) (own h x) told w → puts.AfterWrite told wsize lane file turn was next state after → FileThen w next state
  after-write (nexts.Send call) w wsize lane file turn was next state after f a = file-then w (nexts.Send call) (putting.Adds file) next state a.0 a.1 f.1
  after-write nexts.Wait w wsize lane file turn was next state after f a = file-then w nexts.Wait (putting.Adds file) next state a.0 a.1 f.1
  after-write (nexts.Done (answers.Done value)) w wsize lane file turn was next state after f a =
      put-queues (is_first lane (joined lane file was).order) w wsize lane turn (saves.begun file was.seq) (joined lane file was) next state after tt a
  after-write (nexts.Done (answers.Refused fault)) w wsize lane file turn was next state after f a = file-done w (answers.Refused fault) next state a.next_is f.0

  to-put : (next : Step) (w : Writing) (new : PutFile) → new.write.state ≡ w → FileThen w next new.state → ThenOf PutAt PutAnswer next new
  to-put next w new is t = by next t
    where
      at : StateAt new.state w → PutAt new
      at f = subst (λ (k : Writing). StateAt new.state k) (sym is) f

      by : (n : Step) → FileThen w n new.state → ThenOf PutAt PutAnswer n new
      by (nexts.Send call) f = at f
      by nexts.Wait f = at f
      by (nexts.Done answer) f = f

  writes-on : (wsize : ℕ) (m : PutFile) (file : List ℕ) (turn : Turn) (told : Step) (written : Writing) (mid : Shelf) (next : Step) (new : PutFile) (after : Shelf)
      → WriteFine (IsRule h x) (own h x) told written → puts.WritesOn wsize m file turn told written mid next new after → ThenOf PutAt PutAnswer next new
  writes-on wsize m file turn told written mid next new after f w =
      to-put next written new (ap (λ (p : PutFile). p.write.state) w.machine_is) (after-write told written wsize m.write.lane file turn mid next new.state after f w.follows)

  at-state : (state to : Putting) (w : Writing) → state ≡ to → StateAt to w → StateAt state w
  at-state state to w is s = subst (λ (k : Putting). StateAt k w) (sym is) s

  after-opening : (step : OpeningStep) (wsize : ℕ) (m : PutFile) (turn : Turn) (was : Shelf) (next : Step) (new : PutFile) (after : Shelf) → m.state ≡ putting.Opens
      → NextRule h x step → puts.AfterOpening step wsize m turn was next new after → ThenOf PutAt PutAnswer next new
  after-opening (openings.Send call) wsize m turn was next new after is n a =
      then-as PutAt PutAnswer (nexts.Send call) next new a.0 (subst PutAt (sym a.1) (at-state m.state putting.Opens m.write.state is tt))
  after-opening openings.Wait wsize m turn was next new after is n a =
      then-as PutAt PutAnswer nexts.Wait next new a.next_is (subst PutAt (sym a.machine_is) (at-state m.state putting.Opens m.write.state is tt))
  after-opening (openings.Ended (Ok file)) wsize m turn was next new after is n a =
      writes-on wsize m file turn a.told a.written a.mid next new after
      (writes-fine (IsRule h x) (own h x) wsize m.write.lane file m.write.offset (made_bytes m.write.text) turn (puts.put_at m.write.lane file was) a.told a.written a.mid a.writes) a.goes
  after-opening (openings.Ended (Err fault)) wsize m turn was next new after is n a = then-as PutAt PutAnswer (nexts.Done (answers.Refused fault)) next new a.0 n

  pub put-resumes : (at : Putting) (wsize : ℕ) (m : PutFile) (turn : Turn) (was : Shelf) (next : Step) (new : PutFile) (after : Shelf) → m.state ≡ at → StateAt at m.write.state
      → puts.Resumes at wsize m turn was next new after → ThenOf PutAt PutAnswer next new
  put-resumes putting.Idle wsize m turn was next new after is s r =
      then-as PutAt PutAnswer nexts.Wait next new r.next_is (subst PutAt (sym r.machine_is) (at-state m.state putting.Idle m.write.state is tt))
  put-resumes putting.Opens wsize m turn was next new after is s r = by (opening.waits m.opening turn) r.0
    where
      here : PutAt new
      here = subst PutAt (sym r.1) (at-state m.state putting.Opens m.write.state is tt)

      by : (b : Bool) → next ≡ opens.goes_as (if b then openings.Wait else openings.Send (opening.call_of m.opening m.opening.step)) → ThenOf PutAt PutAnswer next new
      by true n = then-as PutAt PutAnswer nexts.Wait next new n here
      by false n = then-as PutAt PutAnswer (nexts.Send (opening.call_of m.opening m.opening.step)) next new n here
  put-resumes (putting.Adds file) wsize m turn was next new after is s r =
      writes-on wsize m file turn r.told r.written r.mid next new after
      (write-resumes (IsRule h x) (own h x) m.write.state wsize m.write.lane turn was r.told r.written r.mid s r.resumes) r.goes
  put-resumes (putting.Saves saving) wsize m turn was next new after is s r =
      to-put next m.write.state new (ap (λ (p : PutFile). p.write.state) r.1)
      (put-queues (is_first m.write.lane was.order) m.write.state wsize m.write.lane turn saving was next new.state after s r.0)

  -- ---- steps with what came of a call

  module _ (came : Result Reply Fault) (call : Call) (sent : Turn) (told : RuleTold h x came call) where
    abbrev pub Seen : Shelf → Type 0
    Seen was = (reply : Reply) → came ≡ Ok reply → IsPiece sent.xid call was.back

    fits-write : (at : Writing) (was : Shelf) → Seen was → WriteCalls at call → FitsWrite (IsRule h x) (own h x) sent came at was.back
    fits-write writings.Idle was seen calls_ = tt
    fits-write (writings.Room file saving) was seen calls_ = save-rule h x call sent came saving was.back calls_ told seen

    pub put-takes : (at : Putting) (wsize : ℕ) (m : PutFile) (turn : Turn) (was : Shelf) (next : Step) (new : PutFile) (after : Shelf) (others : ℕ) → m.state ≡ at
        → of_putting at m.opening m.write.state ≡ others + 1 → StateAt at m.write.state → PutAwaits at m.opening call → StateCalls at m.write.state call → Seen was
        → puts.Takes at wsize m sent turn came was next new after → ThenOf PutAt PutAnswer next new
    put-takes putting.Idle wsize m turn was next new after others is one s awaits mine seen t = absurd (omega (arith, one))
    put-takes putting.Opens wsize m turn was next new after others is one s awaits mine seen t =
        let again = opening.opening_again m.opening sent turn came was.repeats in
        let led = opening.led_on m.opening turn.now came t.took.attrs was.pages in
        let here : RuleTold h x came (opening.call_of m.opening m.opening.step) = subst (RuleTold h x came) awaits told in
        after-opening t.step wsize (puts.led again m turn came t.took.attrs was.pages) turn t.took next new after is
        (next-rule h x again m.opening sent turn led t.step was.pages t.took.pages (led-rule h x m.opening turn.now came t.took.attrs was.pages here) t.leads) t.follows
    put-takes (putting.Adds file) wsize m turn was next new after others is one s awaits mine seen t =
        writes-on wsize m file turn t.told t.written t.mid next new after
        (write-takes (IsRule h x) (own h x) m.write.state wsize m.write sent turn came was t.told t.written t.mid (fits-write m.write.state was seen mine) s t.takes) t.goes
    put-takes (putting.Saves saving) wsize m turn was next new after others is one s awaits mine seen t =
        to-put next m.write.state new (ap (λ (p : PutFile). p.write.state) t.1)
        (put-follows m.write.state t.0.gives t.0.saved m.write.lane t.0.took next new.state after
        (takes-fine (IsRule h x) (own h x) wsize sent turn came was.repeats saving was.back t.0.gives t.0.saved t.0.took.back t.0.took.repeats
        (save-rule h x call sent came saving was.back mine told seen) s t.0.takes) t.0.follows)

  -- ---- on its way

  pub record PutRuns (machine : Machine) : Type 0 where
    pub walk : Walk
    pub opener : PutFile
    pub arrived : Bool
    pub is : machine ≡ machines.Path (record { walk = walk; opener = openers.Put opener; arrived = arrived })
    pub there : arrived ≡ true → PutAt opener

  abbrev pub StepIs : Step → Machine → Type 0
  StepIs next new = ThenOf PutRuns PutAnswer next new

  path-then : (next : Step) (p : PutFile) (walk : Walk) (new : Machine) → new ≡ machines.Path (record { walk = walk; opener = openers.Put p; arrived = true })
      → ThenOf PutAt PutAnswer next p → StepIs next new
  path-then next p walk new is t = by next t
    where
      runs : PutAt p → PutRuns new
      runs at = record { walk = walk; opener = p; arrived = true; is = is; there = λ yes_is. at }

      by : (k : Step) → ThenOf PutAt PutAnswer k p → StepIs k new
      by (nexts.Send call) at = runs at
      by nexts.Wait at = runs at
      by (nexts.Done answer) a = a

  then-put : (wsize : ℕ) (walk : Walk) (p : PutFile) (turn : Turn) (old : Shelf) (next : Step) (new : PathMachine) (after : Shelf) → PutAt p
      → paths.ThenResumes wsize (record { walk = walk; opener = openers.Put p; arrived = true }) turn old next new after → StepIs next (machines.Path new)
  then-put wsize walk p turn old next new after at t =
      path-then next t.step.machine walk (machines.Path new)
      (ap machines.Path (t.machine_is ∙ ap (λ (k : Opener). record { walk = walk; opener = k; arrived = true }) (put-of t.opener t.step.machine t.step.machine_is)))
      (put-resumes p.state wsize p turn old next t.step.machine after refl at t.step.step)

  follows-put : (step : WalkStep) (wsize : ℕ) (walk : Walk) (p : PutFile) (turn : Turn) (old : Shelf) (next : Step) (new : PathMachine) (after : Shelf)
      → FineWalk (IsRule h x) step → paths.Follows step wsize (record { walk = walk; opener = openers.Put p; arrived = false }) turn old next new after → StepIs next (machines.Path new)
  follows-put step wsize walk p turn old next new after none f = by step none f
    where
      runs : new ≡ record { walk = walk; opener = openers.Put p; arrived = false } → PutRuns (machines.Path new)
      runs is = record { walk = walk; opener = p; arrived = false; is = ap machines.Path is; there = λ no_way. absurd (cc) }

      by : (k : WalkStep) → FineWalk (IsRule h x) k → paths.Follows k wsize (record { walk = walk; opener = openers.Put p; arrived = false }) turn old next new after → StepIs next (machines.Path new)
      by (walks.Send call) z g = then-as PutRuns PutAnswer (nexts.Send call) next (machines.Path new) g.0 (runs g.1)
      by walks.Wait z g = then-as PutRuns PutAnswer nexts.Wait next (machines.Path new) g.0 (runs g.1)
      by (walks.At dir) z g = then-put wsize walk (record p { opening = opening_in dir p.opening; state = putting.Opens }) turn old next new after tt g
      by (walks.Refused fault) z g = then-as PutRuns PutAnswer (nexts.Done (answers.Refused fault)) next (machines.Path new) g.0 z

  pub put-goes : (b : Bool) (wsize : ℕ) (walk : Walk) (p : PutFile) (turn : Turn) (old : Shelf) (next : Step) (new : PathMachine) (after : Shelf) → (b ≡ true → PutAt p)
      → paths.PathResumes b wsize (record { walk = walk; opener = openers.Put p; arrived = b }) turn old next new after → StepIs next (machines.Path new)
  put-goes true wsize walk p turn old next new after at r = then-put wsize walk p turn old next new after (at refl) r
  put-goes false wsize walk p turn old next new after at r =
      follows-put (walking.go_next walk turn old) wsize (walking.go_after walk turn old) p turn (walking.go_shelf walk turn old) next new after (go-walk-fine (IsRule h x) walk turn old) r

  -- a walk that waits for a LOOKUP
  look-fine : (name : Option (List ℕ)) (walk : Walk) (came : Result Reply Fault) (call : Call) → walking.waiting_name walk ≡ name
      → ((n : List ℕ) → walking.waiting_name walk ≡ Some n → call ≡ look_up walk.spot.dir n) → RuleTold h x came call → FineLook (IsRule h x) name came
  look-fine None walk came call is awaits told = tt
  look-fine (Some n) walk came call is awaits told = λ fault failed.
      subst (FineErr) failed (found-rule h x walk.spot.dir n came (subst (RuleTold h x came) (awaits n is) told))
    where
      FineErr : Result (List ℕ) Fault → Type 0
      FineErr r = FineResult (IsRule h x) r

  pub put-hears : (b : Bool) (wsize : ℕ) (walk : Walk) (p : PutFile) (sent turn : Turn) (came : Result Reply Fault) (old : Shelf) (next : Step) (new : PathMachine) (after : Shelf)
      (call : Call) (others : ℕ) → (b ≡ true → PutAt p) → of_path (record { walk = walk; opener = openers.Put p; arrived = b }) ≡ others + 1
      → WaitedPath b (record { walk = walk; opener = openers.Put p; arrived = b }) call → RuleTold h x came call
      → ((reply : Reply) → came ≡ Ok reply → IsPiece sent.xid call old.back)
      → paths.PathTakes b wsize (record { walk = walk; opener = openers.Put p; arrived = b }) sent turn came old next new after → StepIs next (machines.Path new)
  put-hears true wsize walk p sent turn came old next new after call others at one e told seen k =
      path-then next k.step.machine walk (machines.Path new)
      (ap machines.Path (k.machine_is ∙ ap (λ (q : Opener). record { walk = walk; opener = q; arrived = true }) (put-of k.opener k.step.machine k.step.machine_is)))
      (put-takes came call sent told p.state wsize p turn old next k.step.machine after others refl one (at refl) e.0 e.1 seen k.step.step)
  put-hears false wsize walk p sent turn came old next new after call others at one e told seen k =
      let same : k.walked ≡ record { walk = k.walked.walk; opener = openers.Put p; arrived = false } = k.walked_is in
      follows-put k.step wsize k.walked.walk p turn k.heard next new after
      (took-walk-by (IsRule h x) (walking.waiting_name walk) walk sent turn came old k.step k.walked.walk k.heard (look-fine (walking.waiting_name walk) walk came call refl e.0 told) k.takes)
      (subst (λ (m : PathMachine). paths.Follows k.step wsize m turn k.heard next new after) same k.follows)

-- ---- one entry more

module _ (h : List Entry) (e : Entry) (x : ℕ) where
  rule-later : (fault : Fault) → IsRule h x fault → IsRule (h ++ e ∷ []) x fault
  rule-later (faults.Bad n) r =
      let more = length_last h e in
      record {
        call = r.call;
        refused = Refused-wide (h ++ e ∷ []) x (length h) x (length (h ++ e ∷ [])) r.call (faults.Bad n) (omega arith) (omega (arith, more)) (Refused-grow h (e ∷ []) x (length h) r.call (faults.Bad n) r.refused);
      }
  rule-later (faults.Rpc n) r = tt
  rule-later faults.Lost r = tt
  rule-later (faults.Nfs status) r = tt
  rule-later faults.Spent r = tt
  rule-later faults.Slot r = r
  rule-later faults.Mode r = r
  rule-later faults.Kind r = tt
  rule-later faults.Many r = r
  rule-later faults.Memory r = tt

  kept-later : (o : Option Fault) → FineOption (IsRule h x) o → FineOption (IsRule (h ++ e ∷ []) x) o
  kept-later None f = tt
  kept-later (Some fault) f = rule-later fault f

  write-later : (w : Writing) → FineWriting (IsRule h x) (own h x) w → FineWriting (IsRule (h ++ e ∷ []) x) (own (h ++ e ∷ []) x) w
  write-later writings.Idle f = tt
  write-later (writings.Room file saving) f = kept-later saving.refusal f

  state-later : (state : Putting) (w : Writing) → StateAt h x state w → StateAt (h ++ e ∷ []) x state w
  state-later putting.Idle w s = tt
  state-later putting.Opens w s = tt
  state-later (putting.Adds file) w s = write-later w s
  state-later (putting.Saves saving) w s = kept-later saving.refusal s

  runs-later : (machine : Machine) → PutRuns h x machine → PutRuns (h ++ e ∷ []) x machine
  runs-later machine k = record { walk = k.walk; opener = k.opener; arrived = k.arrived; is = k.is; there = λ is. state-later k.opener.state k.opener.write.state (k.there is) }

  answer-later : (answer : Answer) → PutAnswer h x answer → PutAnswer (h ++ e ∷ []) x answer
  answer-later (answers.Done value) a = tt
  answer-later (answers.Refused fault) a = rule-later fault a

-- ---- the story

abbrev StateStory : List Entry → ℕ → State → Type 0
StateStory h x (Busy machine) = PutRuns h x machine
StateStory h x (Over answer) = PutAnswer h x answer

abbrev Story : List Entry → ℕ → Op → State → Type 0
Story h x op state = (path : List (List ℕ)) (offset : ℕ) (bytes : List ℕ) → op ≡ ops.Put path offset bytes → IsNamed path → StateStory h x state

abbrev NoWait : List Entry → ℕ → Op → Call → Type 0
NoWait h x op call = Unit {0}

abbrev NoShelf : List Entry → Shelf → Type 0
NoShelf h shelf = Unit {0}

abbrev NoLane : List Entry → ℕ → Shelf → Type 0
NoLane h lane shelf = Unit {0}

-- the WRITE that waits is that of its piece
abbrev IsOwn : List Entry → Turn → Call → Shelf → Type 0
IsOwn h sent call shelf = IsPiece sent.xid call shelf.back

asks-none : (h : List Entry) (x : ℕ) (op : Op) (next : Step) → AsksFor (NoWait h x op) next
asks-none h x op (nexts.Send call) = tt
asks-none h x op nexts.Wait = tt
asks-none h x op (nexts.Done answer) = tt

for-put : (h : List Entry) (x : ℕ) (op : Op) (next : Step) (new : Machine)
    → ((path : List (List ℕ)) (offset : ℕ) (bytes : List ℕ) → op ≡ ops.Put path offset bytes → IsNamed path → StepIs h x next new)
    → ThenOf (λ k. Story h x op (Busy k)) (λ a. Story h x op (Over a)) next new
for-put h x op (nexts.Send call) new t = t
for-put h x op nexts.Wait new t = t
for-put h x op (nexts.Done answer) new t = t

step-as : (h : List Entry) (x : ℕ) (next : Step) (to new : Machine) → new ≡ to → StepIs h x next to → StepIs h x next new
step-as h x next to new is t = subst (λ (k : Machine). StepIs h x next k) (sym is) t

state-grows : (h : List Entry) (e : Entry) (x : ℕ) (state : State) → StateStory h x state → StateStory (h ++ e ∷ []) x state
state-grows h e x (Busy machine) k = runs-later h e x machine k
state-grows h e x (Over answer) k = answer-later h e x answer k

nfs-of : (call : Call) → program_of call ≡ NFS_PROGRAM → IsNfs call
nfs-of (calls.File call) is = tt
nfs-of (calls.Dir call) is = tt
nfs-of (calls.Mount call) is = absurd (omega (arith, is))

module _ (m : Mounted) where
  begins : (h : List Entry) (x lane : ℕ) (path : List (List ℕ)) (offset : ℕ) (bytes : List ℕ) (wsize : ℕ) (turn : Turn) (old : Shelf) (next : Step) (new : PathMachine) (after : Shelf)
      → paths.StartsIf false wsize (record {
        walk = walk_of m.root (front_of path);
        opener = openers.Put (puts.not_begun lane m.nocto m.root (last_of path) offset bytes);
        arrived = false;
      }) turn old next new after → StepIs h x next (machines.Path new)
  begins h x lane path offset bytes wsize turn old next new after s =
      let p : PutFile = puts.not_begun lane m.nocto m.root (last_of path) offset bytes in
      put-goes h x false wsize (walk_of m.root (front_of path)) (record p { opening = record p.opening { moment = turn.moment - 1 } }) turn old next new after
      (λ is. absurd (let no_way : false ≡ true = is in cc)) s

  rule-laws : (setup : Setup) → SlotLaws NoLane IsOwn (machine_of m) setup Waited NoWait NoShelf Story
  rule-laws setup = record {
    fresh = λ h v up fresh. tt;
    starts = λ h lane line op wsize turn old next new after given kept s. record {
      shelf = tt;
      asks = asks-none (h ++ Began lane line op ∷ []) (length h) op next;
      then_ = for-put (h ++ Began lane line op ∷ []) (length h) op next new (λ path offset bytes is named.
          let k = subst (λ (o : Op). Starts wsize (machine_of m lane o) turn old next new after) is s in
          step-as (h ++ Began lane line op ∷ []) (length h) next (machines.Path k.machine) new k.machine_is
          (begins (h ++ Began lane line op ∷ []) (length h) lane path offset bytes wsize turn old next k.machine after k.step));
    };
    resumes = λ h x op machine wsize turn old next new after kept story r. record {
      shelf = tt;
      asks = asks-none h x op next;
      then_ = for-put h x op next new (λ path offset bytes is named.
          let k = story path offset bytes is named in
          let g = subst (λ (n : Machine). Resumes wsize n turn old next new after) k.is r in
          step-as h x next (machines.Path g.machine) new g.machine_is (put-goes h x k.arrived wsize k.walk k.opener turn old next g.machine after k.there g.step));
    };
    takes = λ h x op machine wsize sent turn came old next new after others kept story one of t. record {
      shelf = tt;
      asks = asks-none h x op next;
      then_ = for-put h x op next new (λ path offset bytes is named.
          let k = story path offset bytes is named in
          let g = subst (λ (n : Machine). Takes wsize n sent turn came old next new after) k.is t in
          let e = subst (λ (n : Machine). Waited n of.told.call) k.is of.told.expects in
          step-as h x next (machines.Path g.machine) new g.machine_is
          (put-hears h x k.arrived wsize k.walk k.opener sent turn came old next g.machine after of.told.call others k.there (sym (ap in_flight k.is) ∙ one) e
          (record { heard = λ reply came_is. (of.told.heard reply came_is).asked; refused = of.told.refused }) of.seen g.step));
    };
    seen = λ h e sent call shelf own_piece. own_piece;
    still = λ h e shelf kept. tt;
    waits = λ h e x op call w. tt;
    grows = λ h e x op state quiet story path offset bytes is named. state-grows h e x state (story path offset bytes is named);
    lost = λ h x op shown path offset bytes is named. tt;
  }

  -- of each call that waits
  sees : (setup : Setup) → IsSeen (machine_of m) setup IsOwn
  sees setup h v r found may xid w waits made =
      let k = written-reached m setup h v r found in
      let s = k.all xid w waits in
      let same : made.asked ≡ s.call = one-call xid xid made.asked s.call w.bytes (nfs-of made.asked made.nfs) made.spells.spells s.spells.spells in
      subst (λ (n : ℕ). IsPiece n made.asked v.shelf.back) (sym (k.flown.sents xid w.purpose (ap (option_map (λ (c : Waiting Purpose). c.purpose)) waits)))
      (subst (λ (c : Call). IsPiece xid c v.shelf.back) (sym same) s.piece)

-- what was known as the put was answered
put-story : (m : Mounted) (setup : Setup) (h : List Entry) (v : View) → Reaches (machine_of m) setup h v → (lane x : ℕ) (path : List (List ℕ)) (offset : ℕ) (bytes : List ℕ) (y : ℕ)
    (fault : Fault) → IsNamed path → Ended h lane x (ops.Put path offset bytes) y (answers.Refused fault)
    → (before : List Entry) × ((after : List Entry) × (h ≡ before ++ after) × (length before ≡ y) × IsRule before x fault)
put-story m setup h v r lane x path offset bytes y fault named ended =
    let s = reached-answered (machine_of m) (begins-unbegun m) setup NoLane (λ k w q found number idle. tt) IsOwn (sees m setup) Waited (both-laws Awaits Calls awaits-laws calls-laws) NoWait NoShelf Story
    (rule-laws m setup) h v r lane x (ops.Put path offset bytes) y (answers.Refused fault) ended in
    (s.before, (s.after, s.is, s.there, s.story path offset bytes refl named))

pub put-rules-shown : PutRulesShown
put-rules-shown m setup h v r lane x path offset bytes y n named ended =
    let s = put-story m setup h v r lane x path offset bytes y (faults.Bad n) named ended in
    subst (λ (k : List Entry). IsRefusedSo k x y (faults.Bad n)) (sym s.1.1) (by s.0 s.1.0 s.1.2 s.1.3)
  where
    by : (before after : List Entry) → length before ≡ y → IsRule before x (faults.Bad n) → IsRefusedSo (before ++ after) x y (faults.Bad n)
    by before after there a = record {
      call = a.call;
      refused = subst (λ (k : ℕ). Refused (before ++ after) x k a.call (faults.Bad n)) there (Refused-grow before after x (length before) a.call (faults.Bad n) a.refused);
    }

pub put-faults-few : PutFaultsFew
put-faults-few m setup h v r lane x path offset bytes y fault named ended = by fault (put-story m setup h v r lane x path offset bytes y fault named ended)
  where
    by : (f : Fault) → (before : List Entry) × ((after : List Entry) × (h ≡ before ++ after) × (length before ≡ y) × IsRule before x f) → MayRefusePut f
    by faults.Slot s = s.1.3
    by faults.Mode s = s.1.3
    by faults.Many s = s.1.3
    by faults.Kind s = tt
    by faults.Lost s = tt
    by (faults.Nfs status) s = tt
    by (faults.Rpc n) s = tt
    by (faults.Bad rule) s = tt
    by faults.Spent s = tt
    by faults.Memory s = tt
