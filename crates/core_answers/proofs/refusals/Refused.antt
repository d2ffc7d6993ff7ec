-- An operation is answered with a status of a server, a refusal by RPC or for a rule only where a record refused so a call that was sent for this very operation,
-- and isn't the REMOVE of a last close.
use Rattle.core_answers.proofs.Prelude.{◌≡◌, ◌≤◌, ◌+◌, ℕ, List, [], ◌∷◌, ◌++◌, length, option_map, Result, Ok, Err, inl, inr, refl, sym, ap, subst, ◌∙◌, arith, Waiting, Answer, Fault, Entry, Began, Delivered, Call, Reply, Op, Modes, Ended, UnderWay, length_last, Step, Shelf, Turn, CloseFile, Closing, Removal, Mounted, FileMachine, Machine, machine_of, Takes, Purpose, State, Busy, Over, Setup, View, of_closing, in_flight, Reaches, begins-unbegun, FineAnswer, is-given, good-over, ThenOf, AsksFor, Did, forget, Anything, passes-any}
use Rattle.core_facts.proofs.Telling.{IsHeardNow, IsUnmadeFault}
use Rattle.core_facts.proofs.Passing.{Passes}
use Rattle.world_model.proofs.Growth.{FirstSent-grow, Answers-grow}
use Rattle.call_replies.specs.Says.{Says}
use Rattle.world_model.specs.declared.answer.Answer.TheVariants as answers
use Rattle.world_model.specs.declared.answer.Fault.TheVariants as faults
use Rattle.world_model.specs.declared.op.Op.TheVariants as ops
use Rattle.claims.specs.PageRules.{RefusedSo, RefusesSo, refuses}
use Rattle.client_shelf.specs.declared.step.Step.TheVariants as nexts
use Rattle.file_ops.specs.declared.close_file.Closing.TheVariants as closing
use Rattle.op_machines.specs.declared.file_machine.FileMachine.TheVariants as files
use Rattle.op_machines.specs.declared.machine.Machine.TheVariants as machines
use Rattle.core_facts.proofs.HeldSlots as held
use Rattle.core_answers.specs.asks.SlotCalls.{IsRemoval}
use Rattle.core_answers.proofs.asks.CallsAwaited.{Expects, expects-laws}
use Rattle.core_answers.proofs.asks.FilesAwaited.{CloseNames}
use Rattle.core_answers.proofs.asks.SavedCalls.{Saves}
use Rattle.core_answers.proofs.asks.SlotFiles.{WorksAt, SlotRuns, SlotStory, slot-laws}
use Rattle.core_answers.proofs.answers.Both.{both-laws}
use Rattle.core_answers.proofs.answers.PieceSteps.{IsPiece}
use Rattle.core_answers.proofs.answers.SaveFaults.{CallFaults}
use Rattle.core_answers.proofs.answers.Writing.{written-reached}
use Rattle.core_answers.proofs.bonds.OneCall.{one-call}
use Rattle.core_answers.proofs.writes.AllFits.{CallFits, fits-laws}
use Rattle.core_answers.proofs.refusals.FitAll as steps
use Rattle.core_answers.proofs.refusals.FitFiles.{FitsClose}
use Rattle.core_answers.proofs.refusals.Fitting.{machine-fits}
use Rattle.core_answers.proofs.refusals.Replied.{Given}
use Rattle.core_answers.proofs.refusals.Answering.{IsSeen, IsSeenBy, IsToldOf, CameOf, heard_of, unmade, SlotLaws, reached-answered-by}
use Rattle.core_answers.proofs.refusals.SentCalls.{SentCall, SentBy, nfs-of, sent-later, sent-by-later, reached-call-by}

-- a close runs as the machine of one
pub record IsClose (machine : Machine) : Type 0 where
  pub of : CloseFile
  pub is : machine ≡ machines.File (files.Close of)

-- the call isn't the REMOVE of a close
abbrev pub NoRemoval : Op → Call → Type 0
NoRemoval op call = (slot : ℕ) → op ≡ ops.Close slot → IsRemoval call → ⊥

module _ (m : Mounted) (setup : Setup) (G : List Entry → View → Type 0) where
  abbrev pub SentSo : List Entry → ℕ → ℕ → Op → Call → Type 0
  SentSo h i x op call = SentBy (machine_of m) (begins-unbegun m) setup G h i x op call

  -- A record refused so a call of the operation.
  pub record OwnRefusalBy (h : List Entry) (x y : ℕ) (op : Op) (fault : Fault) : Type 0 where
    pub call : Call
    pub refused : RefusedSo h x y call fault
    pub sent : SentSo h refused.heard.sent_at x op call
    pub stays : NoRemoval op call

  abbrev pub ShownBy : List Entry → ℕ → Op → Fault → Type 0
  ShownBy h x op (faults.Nfs status) = OwnRefusalBy h x (length h) op (faults.Nfs status)
  ShownBy h x op (faults.Rpc n) = OwnRefusalBy h x (length h) op (faults.Rpc n)
  ShownBy h x op (faults.Bad n) = OwnRefusalBy h x (length h) op (faults.Bad n)
  ShownBy h x op fault = Unit {0}

  -- of each call that waits
  pub record SeenBy (h : List Entry) (x : ℕ) (op : Op) (machine : Machine) (from : ℕ) (sent : Turn) (call : Call) (shelf : Shelf) : Type 0 where
    pub was : SentSo h from x op call
    pub runs : (slot : ℕ) → op ≡ ops.Close slot → IsClose machine
    pub piece : IsPiece sent.xid call shelf.back

  own : (h : List Entry) (x : ℕ) (op : Op) → CallFaults (ShownBy h x op)
  own h x op = record { memory = tt }

  module _ (h : List Entry) (x : ℕ) (op : Op) (call : Call) (came : Result Reply Fault) (now : IsHeardNow h x call came) (was : SentSo h now.heard.sent_at x op call)
      (stays : NoRemoval op call) where
    refused-so : (fault : Fault) → RefusesSo now.xid call now.rec fault → OwnRefusalBy h x (length h) op fault
    refused-so fault r = record { call = call; refused = record { xid = now.xid; bytes = now.rec; heard = now.heard; refuses = r }; sent = was; stays = stays }

    give : (fault : Fault) → RefusesSo now.xid call now.rec fault → ShownBy h x op fault
    give (faults.Nfs status) r = refused-so (faults.Nfs status) r
    give (faults.Rpc n) r = refused-so (faults.Rpc n) r
    give (faults.Bad rule) r = refused-so (faults.Bad rule) r
    give faults.Spent r = tt
    give faults.Memory r = tt
    give faults.Lost r = tt
    give faults.Slot r = tt
    give faults.Mode r = tt
    give faults.Kind r = tt
    give faults.Many r = tt

    given : Given (ShownBy h x op) (own h x op) now.xid now.rec call came
    given = record {
      ok = λ reply is. (subst (Says now.xid call now.rec) is now.says).is;
      err = λ fault is. give fault (refuses (subst (Says now.xid call now.rec) is now.says));
      give = λ reply is. give;
    }

  -- ---- the story

  -- for which calls it waits
  abbrev Calls : Machine → Call → Type 0
  Calls machine call = Expects machine call × CallFits machine call

  abbrev NoWait : List Entry → ℕ → Op → Call → Type 0
  NoWait h x op call = Unit {0}

  abbrev NoShelf : List Entry → Shelf → Type 0
  NoShelf h shelf = Unit {0}

  abbrev NoLane : List Entry → ℕ → Shelf → Type 0
  NoLane h lane shelf = Unit {0}

  abbrev AnswerStory : List Entry → ℕ → Op → Answer → Type 0
  AnswerStory h x op (answers.Done value) = Unit {0}
  AnswerStory h x op (answers.Refused fault) = ShownBy h x op fault

  abbrev StateStory : List Entry → ℕ → Op → State → Type 0
  StateStory h x op (Busy machine) = steps.FineMachine (ShownBy h x op) (own h x op) machine
  StateStory h x op (Over answer) = AnswerStory h x op answer

  abbrev Story : List Entry → ℕ → Op → State → Type 0
  Story h x op state = StateStory h x op state

  asks-none : (h : List Entry) (x : ℕ) (op : Op) (next : Step) → AsksFor (NoWait h x op) next
  asks-none h x op (nexts.Send call) = tt
  asks-none h x op nexts.Wait = tt
  asks-none h x op (nexts.Done answer) = tt

  answer-story : (h : List Entry) (x : ℕ) (op : Op) (answer : Answer) → FineAnswer (ShownBy h x op) answer → AnswerStory h x op answer
  answer-story h x op (answers.Done value) f = tt
  answer-story h x op (answers.Refused fault) f = f

  abbrev StepsSo : List Entry → ℕ → Op → Step → Machine → Type 0
  StepsSo h x op next new = steps.MachineStep (ShownBy h x op) (own h x op) next new

  did : (h : List Entry) (x : ℕ) (op : Op) (next : Step) (new : Machine) (after : Shelf) → StepsSo h x op next new → Did NoWait NoShelf Story h x op next new after
  did h x op next new after s = record { shelf = tt; asks = asks-none h x op next; then_ = by next s }
    where
      by : (n : Step) → StepsSo h x op n new → ThenOf (λ k. Story h x op (Busy k)) (λ a. Story h x op (Over a)) n new
      by (nexts.Send call) k = k.1
      by nexts.Wait k = k.1
      by (nexts.Done answer) k = answer-story h x op answer k.0

  -- ---- a record comes

  saved-not : (f : List ℕ) (call : Call) → Saves f call → IsRemoval call → ⊥
  saved-not f call (inl k) r = let a = k.1 in let b = r.is in absurd (cc)
  saved-not f call (inr k) r = let b = r.is in absurd (cc)

  -- a close waits for what its save asks for, or removes
  close-case : (h : List Entry) (x slot : ℕ) (k : CloseFile) (call : Call) (others : ℕ) (R : Type 0) → CloseNames k.state call → of_closing k.state ≡ others + 1
      → ((removal : Removal) → k.state ≡ closing.Removing removal → R) → ((IsRemoval call → ⊥) → R) → R
  close-case h x slot k call others R e one removes saves = by k.state refl e one
    where
      by : (c : Closing) → k.state ≡ c → CloseNames c call → of_closing c ≡ others + 1 → R
      by closing.Idle is e one = absurd (omega (arith, one))
      by (closing.Queued s) is e one = absurd (omega (arith, one))
      by (closing.Saves s) is e one = saves (saved-not s.file call e)
      by (closing.ToRemove removal) is e one = absurd (omega (arith, one))
      by (closing.Removing removal) is e one = removes removal is

  close-op : (op : Op) (R : Type 0) → ((slot : ℕ) → op ≡ ops.Close slot → R) → (((slot : ℕ) → op ≡ ops.Close slot → ⊥) → R) → R
  close-op (ops.Close slot) R a b = a slot refl
  close-op (ops.OpenFile slot mode path) R a b = b (λ n is. absurd (cc))
  close-op (ops.Read slot offset count) R a b = b (λ n is. absurd (cc))
  close-op (ops.Write slot offset bytes) R a b = b (λ n is. absurd (cc))
  close-op (ops.Fill slot offset count byte) R a b = b (λ n is. absurd (cc))
  close-op (ops.Put path offset bytes) R a b = b (λ n is. absurd (cc))
  close-op (ops.Sync slot) R a b = b (λ n is. absurd (cc))
  close-op (ops.Truncate slot size) R a b = b (λ n is. absurd (cc))
  close-op (ops.Stat path) R a b = b (λ n is. absurd (cc))
  close-op (ops.Access path bits) R a b = b (λ n is. absurd (cc))
  close-op (ops.MakeDir path) R a b = b (λ n is. absurd (cc))
  close-op (ops.RemoveDir path) R a b = b (λ n is. absurd (cc))
  close-op (ops.Remove path) R a b = b (λ n is. absurd (cc))
  close-op (ops.Rename from to) R a b = b (λ n is. absurd (cc))
  close-op (ops.Link from to) R a b = b (λ n is. absurd (cc))
  close-op (ops.SymLink path target) R a b = b (λ n is. absurd (cc))
  close-op (ops.ReadLink path) R a b = b (λ n is. absurd (cc))
  close-op (ops.List path) R a b = b (λ n is. absurd (cc))

  module _ (h : List Entry) (x : ℕ) (op : Op) (machine : Machine) (wsize : ℕ) (sent turn : Turn) (came : Result Reply Fault) (old : Shelf) (next : Step) (new : Machine) (after : Shelf)
      (others : ℕ) (story : steps.FineMachine (ShownBy h x op) (own h x op) machine) (one : in_flight machine ≡ others + 1) (t : Takes wsize machine sent turn came old next new after) where
    any-step : steps.FitsMachine (ShownBy h x op) (own h x op) sent came machine old.back → StepsSo h x op next new
    any-step n = steps.all-takes (ShownBy h x op) (own h x op) machine wsize sent turn came old next new after (steps.any-ends (ShownBy h x op) (own h x op) tt machine old) n story t

    -- it waits for such a call
    call-step : (call : Call) (xid : ℕ) (rec : List ℕ) → Calls machine call → ((reply : Reply) → came ≡ Ok reply → IsPiece sent.xid call old.back) → Given (ShownBy h x op) (own h x op) xid rec call came → StepsSo h x op next new
    call-step call xid rec e piece g =
        any-step (machine-fits (ShownBy h x op) (own h x op) xid rec call came g sent old.back piece machine e.0 e.1 (λ opens. tt) (λ lists. tt))

    told-step : IsToldOf SeenBy Calls NoWait h x op machine sent came old → StepsSo h x op next new
    told-step k = close-op op (StepsSo h x op next new)
        (λ slot is.
        let c = k.seen.runs slot is in
        let e = subst (λ (n : Machine). Calls n k.call) c.is k.expects in
        let count = subst (λ (n : Machine). in_flight n ≡ others + 1) c.is one in
        close-case h x slot c.of k.call others (StepsSo h x op next new) e.0.1 count
        (λ removal at. any-step (subst (λ (n : Machine). steps.FitsMachine (ShownBy h x op) (own h x op) sent came n old.back) (sym c.is)
        (subst (λ (s : Closing). FitsClose (ShownBy h x op) (own h x op) sent came s old.back) (sym at) tt)))
        (λ other. call-step k.call k.now.xid k.now.rec k.expects (λ reply is. k.seen.piece) (given h x op k.call came k.now k.seen.was (λ n same r. other r))))
        (λ not. call-step k.call k.now.xid k.now.rec k.expects (λ reply is. k.seen.piece) (given h x op k.call came k.now k.seen.was (λ n same r. not n same)))

    one-fault : (a b : Fault) → ◌≡◌ {A = Result Reply Fault} (Err a) (Err b) → a ≡ b
    one-fault a b e = cc

    unmade-shown : (fault : Fault) → IsUnmadeFault fault → ShownBy h x op fault
    unmade-shown faults.Spent u = tt
    unmade-shown faults.Memory u = tt
    unmade-shown faults.Lost u = tt
    unmade-shown (faults.Nfs status) u = absurd u
    unmade-shown (faults.Rpc n) u = absurd u
    unmade-shown (faults.Bad rule) u = absurd u
    unmade-shown faults.Slot u = tt
    unmade-shown faults.Mode u = tt
    unmade-shown faults.Kind u = tt
    unmade-shown faults.Many u = tt

    took-step : CameOf SeenBy Calls NoWait h x op machine sent came old → StepsSo h x op next new
    took-step (heard_of k) = told-step k
    took-step (unmade call e fault is u) = call-step call 0 [] e (λ reply ok. absurd (let no_way : ◌≡◌ {A = Result Reply Fault} (Err fault) (Ok reply) = sym is ∙ ok in cc)) (record {
      ok = λ reply ok. absurd (let no_way : ◌≡◌ {A = Result Reply Fault} (Err fault) (Ok reply) = sym is ∙ ok in cc);
      err = λ other same. let which : fault ≡ other = one-fault fault other (sym is ∙ same) in subst (ShownBy h x op) which (unmade-shown fault u);
      give = λ reply ok. absurd (let no_way : ◌≡◌ {A = Result Reply Fault} (Err fault) (Ok reply) = sym is ∙ ok in cc);
    })

  -- ---- one entry more

  pub own-later-by : (h more : List Entry) (x y z : ℕ) (op : Op) (fault : Fault) → y ≤ z → OwnRefusalBy h x y op fault → OwnRefusalBy (h ++ more) x z op fault
  own-later-by h more x y z op fault wide s =
      let d = s.refused.heard in
      record {
        call = s.call;
        refused = record {
          xid = s.refused.xid;
          bytes = s.refused.bytes;
          heard = record {
            sent_at = d.sent_at;
            record_sent = d.record_sent;
            got_at = d.got_at;
            sent = FirstSent-grow h more d.sent_at s.refused.xid d.record_sent d.sent;
            spells = d.spells;
            got = Answers-grow h more d.got_at s.refused.xid s.refused.bytes d.got;
            after = d.after;
            later = d.later;
            before = let low = d.before in omega (arith, low, wide);
          };
          refuses = s.refused.refuses;
        };
        sent = sent-by-later (machine_of m) (begins-unbegun m) setup G h more d.sent_at x op s.call s.sent;
        stays = s.stays;
      }

  last-wide : (h : List Entry) (e : Entry) → length h ≤ length (h ++ e ∷ [])
  last-wide h e = let more = length_last h e in omega (arith, more)

  shown-later : (h : List Entry) (e : Entry) (x : ℕ) (op : Op) (fault : Fault) → ShownBy h x op fault → ShownBy (h ++ e ∷ []) x op fault
  shown-later h e x op (faults.Nfs status) s = own-later-by h (e ∷ []) x (length h) (length (h ++ e ∷ [])) op (faults.Nfs status) (last-wide h e) s
  shown-later h e x op (faults.Rpc n) s = own-later-by h (e ∷ []) x (length h) (length (h ++ e ∷ [])) op (faults.Rpc n) (last-wide h e) s
  shown-later h e x op (faults.Bad rule) s = own-later-by h (e ∷ []) x (length h) (length (h ++ e ∷ [])) op (faults.Bad rule) (last-wide h e) s
  shown-later h e x op faults.Spent s = tt
  shown-later h e x op faults.Memory s = tt
  shown-later h e x op faults.Lost s = tt
  shown-later h e x op faults.Slot s = tt
  shown-later h e x op faults.Mode s = tt
  shown-later h e x op faults.Kind s = tt
  shown-later h e x op faults.Many s = tt

  state-later : (h : List Entry) (e : Entry) (x : ℕ) (op : Op) (state : State) → StateStory h x op state → StateStory (h ++ e ∷ []) x op state
  state-later h e x op (Busy machine) s =
      steps.fine-more (ShownBy h x op) (own h x op) (ShownBy (h ++ e ∷ []) x op) (own (h ++ e ∷ []) x op) (shown-later h e x op) machine s
  state-later h e x op (Over (answers.Done value)) s = tt
  state-later h e x op (Over (answers.Refused fault)) s = shown-later h e x op fault s

  refusal-laws : SlotLaws NoLane SeenBy (machine_of m) setup Calls NoWait NoShelf Story
  refusal-laws = record {
    fresh = λ h v up fresh. tt;
    starts = λ h lane line op wsize turn old next new after given kept s.
        let later = h ++ Began lane line op ∷ [] in
        did later (length h) op next new after (steps.all-starts (ShownBy later (length h) op) (own later (length h) op) (machine_of m lane op) wsize turn old next new after
        (steps.any-begins (ShownBy later (length h) op) (own later (length h) op) tt tt (machine_of m lane op) old)
        (steps.begins-fine (ShownBy later (length h) op) (own later (length h) op) m lane op) s);
    resumes = λ h x op machine wsize turn old next new after kept story r.
        did h x op next new after (steps.all-resumes (ShownBy h x op) (own h x op) machine wsize turn old next new after story r);
    takes = λ h x op machine wsize sent turn came old next new after others kept story one k t.
        did h x op next new after (took-step h x op machine wsize sent turn came old next new after others story one t k);
    still = λ h e shelf kept. tt;
    waits = λ h e x op call w. tt;
    grows = λ h e x op state quiet story. state-later h e x op state story;
    lost = λ h x op shown. tt;
  }

  -- ---- of each call that waits

  closes-so : (modes : Modes) (h : List Entry) (x slot : ℕ) (machine : Machine) → SlotRuns modes h x (ops.Close slot) machine → IsClose machine
  closes-so modes h x slot machine k = by k.of refl k.works
    where
      by : (f : FileMachine) → k.of ≡ f → WorksAt (ops.Close slot) k.held.o.file f → IsClose machine
      by (files.Close c) is w = record { of = c; is = subst (λ (n : FileMachine). machine ≡ machines.File n) is k.is }
      by (files.Open c) is w = absurd w
      by (files.Read c) is w = absurd w
      by (files.Write c) is w = absurd w
      by (files.Sync c) is w = absurd w
      by (files.Truncate c) is w = absurd w
      by (files.Put c) is w = absurd w

  pub sees-by : (modes : Modes) → m.nocto ≡ modes.nocto → IsSeenBy (machine_of m) setup G SeenBy
  sees-by modes same h v p found may xid w waits made at machine there x op u from o rec = record {
    was = sent-by-later (machine_of m) (begins-unbegun m) setup G h (Delivered rec ∷ []) from x op made.asked
        (reached-call-by (machine_of m) (begins-unbegun m) setup G h v p found xid w waits made x op u from o);
    runs = λ slot is. closes-so modes h x slot machine
        ((good-over (machine_of m) (begins-unbegun m) setup (held.Given modes) (is-given modes m same setup) (SlotStory modes) (slot-laws modes m) h v (forget (machine_of m) setup G h v p) at
        (record { number = w.purpose.lane; state = Busy machine }) there).1 x (ops.Close slot) (subst (λ (o : Op). UnderWay h w.purpose.lane x (length h) o) is u) tt);
    piece =
        let k = written-reached m setup h v (forget (machine_of m) setup G h v p) found in
        let s = k.all xid w waits in
        let same : made.asked ≡ s.call = one-call xid xid made.asked s.call w.bytes (nfs-of made.asked made.nfs) made.spells.spells s.spells.spells in
        subst (λ (n : ℕ). IsPiece n made.asked v.shelf.back) (sym (k.flown.sents xid w.purpose (ap (option_map (λ (c : Waiting Purpose). c.purpose)) waits)))
        (subst (λ (c : Call). IsPiece xid c v.shelf.back) (sym same) s.piece);
  }

  -- ---- answers

  -- what was known as the operation was answered
  pub own-refused-by : (modes : Modes) → m.nocto ≡ modes.nocto → (h : List Entry) (v : View) → Passes (machine_of m) setup G h v → (lane x : ℕ) (op : Op) (y : ℕ) (fault : Fault)
      → Ended h lane x op y (answers.Refused fault) → (before : List Entry) × ((after : List Entry) × (h ≡ before ++ after) × (length before ≡ y) × ShownBy before x op fault)
  own-refused-by modes same h v p lane x op y fault ended =
      let s = reached-answered-by (machine_of m) (begins-unbegun m) setup G NoLane (λ k w q found number idle. tt) SeenBy (sees-by modes same) Calls
      (both-laws Expects CallFits expects-laws fits-laws) NoWait NoShelf Story refusal-laws h v p lane x op y (answers.Refused fault) ended in
      (s.before, (s.after, s.is, s.there, s.story))

-- ---- where nothing is said of the views

module _ (m : Mounted) (setup : Setup) where
  abbrev pub Sent : List Entry → ℕ → ℕ → Op → Call → Type 0
  Sent h i x op call = SentCall (machine_of m) (begins-unbegun m) setup h i x op call

  -- A record refused so a call of the operation.
  pub record OwnRefusal (h : List Entry) (x y : ℕ) (op : Op) (fault : Fault) : Type 0 where
    pub call : Call
    pub refused : RefusedSo h x y call fault
    pub sent : Sent h refused.heard.sent_at x op call
    pub stays : NoRemoval op call

  abbrev pub Shown : List Entry → ℕ → Op → Fault → Type 0
  Shown h x op (faults.Nfs status) = OwnRefusal h x (length h) op (faults.Nfs status)
  Shown h x op (faults.Rpc n) = OwnRefusal h x (length h) op (faults.Rpc n)
  Shown h x op (faults.Bad n) = OwnRefusal h x (length h) op (faults.Bad n)
  Shown h x op fault = Unit {0}

  -- of each call that waits
  pub record Seen (h : List Entry) (x : ℕ) (op : Op) (machine : Machine) (from : ℕ) (sent : Turn) (call : Call) (shelf : Shelf) : Type 0 where
    pub was : Sent h from x op call
    pub runs : (slot : ℕ) → op ≡ ops.Close slot → IsClose machine
    pub piece : IsPiece sent.xid call shelf.back

  pub sees : (modes : Modes) → m.nocto ≡ modes.nocto → IsSeen (machine_of m) setup Seen
  sees modes same h v r found may xid w waits made at machine there x op u from o rec =
      let k = sees-by m setup Anything modes same h v (passes-any (machine_of m) setup h v r) found may xid w waits made at machine there x op u from o rec in
      record { was = k.was.sent; runs = k.runs; piece = k.piece }

  pub own-later : (h more : List Entry) (x y z : ℕ) (op : Op) (fault : Fault) → y ≤ z → OwnRefusal h x y op fault → OwnRefusal (h ++ more) x z op fault
  own-later h more x y z op fault wide s =
      let d = s.refused.heard in
      record {
        call = s.call;
        refused = record {
          xid = s.refused.xid;
          bytes = s.refused.bytes;
          heard = record {
            sent_at = d.sent_at;
            record_sent = d.record_sent;
            got_at = d.got_at;
            sent = FirstSent-grow h more d.sent_at s.refused.xid d.record_sent d.sent;
            spells = d.spells;
            got = Answers-grow h more d.got_at s.refused.xid s.refused.bytes d.got;
            after = d.after;
            later = d.later;
            before = let low = d.before in omega (arith, low, wide);
          };
          refuses = s.refused.refuses;
        };
        sent = sent-later (machine_of m) (begins-unbegun m) setup h more d.sent_at x op s.call s.sent;
        stays = s.stays;
      }

  own-plain : (h : List Entry) (x y : ℕ) (op : Op) (fault : Fault) → OwnRefusalBy m setup Anything h x y op fault → OwnRefusal h x y op fault
  own-plain h x y op fault k = record { call = k.call; refused = k.refused; sent = k.sent.sent; stays = k.stays }

  shown-plain : (h : List Entry) (x : ℕ) (op : Op) (fault : Fault) → ShownBy m setup Anything h x op fault → Shown h x op fault
  shown-plain h x op (faults.Nfs status) k = own-plain h x (length h) op (faults.Nfs status) k
  shown-plain h x op (faults.Rpc n) k = own-plain h x (length h) op (faults.Rpc n) k
  shown-plain h x op (faults.Bad n) k = own-plain h x (length h) op (faults.Bad n) k
  shown-plain h x op faults.Spent k = tt
  shown-plain h x op faults.Memory k = tt
  shown-plain h x op faults.Lost k = tt
  shown-plain h x op faults.Slot k = tt
  shown-plain h x op faults.Mode k = tt
  shown-plain h x op faults.Kind k = tt
  shown-plain h x op faults.Many k = tt

  pub own-refused : (modes : Modes) → m.nocto ≡ modes.nocto → (h : List Entry) (v : View) → Reaches (machine_of m) setup h v → (lane x : ℕ) (op : Op) (y : ℕ) (fault : Fault)
      → Ended h lane x op y (answers.Refused fault) → (before : List Entry) × ((after : List Entry) × (h ≡ before ++ after) × (length before ≡ y) × Shown before x op fault)
  own-refused modes same h v r lane x op y fault ended =
      let s = own-refused-by m setup Anything modes same h v (passes-any (machine_of m) setup h v r) lane x op y fault ended in
      (s.0, (s.1.0, s.1.1, s.1.2, shown-plain s.0 x op fault s.1.3))
