-- An operation is refused for the kind of a file only if it wants one, and for too many names only if it lists them.
use Rattle.core_session.proofs.Prelude.{◌≡◌, ◌+◌, ℕ, List, [], ◌∷◌, ◌++◌, length, option_map, Result, Ok, Err, sym, ap, subst, ◌∙◌, Waiting, Answer, Fault, Entry, Began, Call, Reply, Op, RefusesSo, Says, Step, Shelf, Turn, Mounted, Machine, machine_of, Takes, Purpose, State, Busy, Over, Setup, in_flight, begins-unbegun, FineAnswer, ThenOf, AsksFor, Did, IsUnmadeFault, Expects, expects-laws, IsPiece, CallFaults, one-call, CallFits, fits-laws, machine-fits, CameOf, heard_of, unmade, SlotLaws, reached-answered}
use Rattle.core_answers.proofs.refusals.Answering.{IsSeen}
use Rattle.world_model.specs.declared.answer.Answer.TheVariants as answers
use Rattle.world_model.specs.declared.answer.Fault.TheVariants as faults
use Rattle.world_model.specs.Heard.{Refuses}
use Rattle.claims.specs.PageRules as page_rules
use Rattle.client_shelf.specs.declared.step.Step.TheVariants as nexts
use Rattle.core_answers.proofs.answers.Both.{both-laws}
use Rattle.core_answers.proofs.answers.Writing.{written-reached}
use Rattle.core_answers.proofs.refusals.FitAll as steps
use Rattle.core_answers.proofs.refusals.Replied.{Given}
use Rattle.core_answers.proofs.refusals.SentCalls.{nfs-of}
use Rattle.core_session.specs.outcomes.Refusals.{IsItsOwn, FaultsTheirOwn}
use Rattle.core_session.proofs.outcomes.Sorts.{IsSort, sort-on, begins-sort, starts-so, resumes-so, takes-so}

one-fault : (a b : Fault) → ◌≡◌ {A = Result Reply Fault} (Err a) (Err b) → a ≡ b
one-fault a b e = cc

-- no record refuses a call for one of these
refuses-own : (op : Op) (xid : ℕ) (call : Call) (rec : List ℕ) (fault : Fault) → Refuses xid call rec fault → IsItsOwn op fault
refuses-own op xid call rec (faults.Nfs status) r = tt
refuses-own op xid call rec (faults.Rpc n) r = tt
refuses-own op xid call rec (faults.Bad rule) r = tt
refuses-own op xid call rec faults.Spent r = tt
refuses-own op xid call rec faults.Memory r = tt
refuses-own op xid call rec faults.Lost r = tt
refuses-own op xid call rec faults.Slot r = tt
refuses-own op xid call rec faults.Mode r = tt
refuses-own op xid call rec faults.Kind r = absurd r
refuses-own op xid call rec faults.Many r = absurd r

gives-own : (op : Op) (xid : ℕ) (call : Call) (rec : List ℕ) (fault : Fault) → RefusesSo xid call rec fault → IsItsOwn op fault
gives-own op xid call rec fault (page_rules.refuses r) = refuses-own op xid call rec fault r
gives-own op xid call rec fault (page_rules.breaks n is b) = subst (IsItsOwn op) (sym is) tt

unmade-own : (op : Op) (fault : Fault) → IsUnmadeFault fault → IsItsOwn op fault
unmade-own op faults.Spent u = tt
unmade-own op faults.Memory u = tt
unmade-own op faults.Lost u = tt
unmade-own op (faults.Nfs status) u = tt
unmade-own op (faults.Rpc n) u = tt
unmade-own op (faults.Bad rule) u = tt
unmade-own op faults.Slot u = tt
unmade-own op faults.Mode u = tt
unmade-own op faults.Kind u = absurd u
unmade-own op faults.Many u = absurd u

own : (op : Op) → CallFaults (IsItsOwn op)
own op = record { memory = tt }

-- ---- the story

abbrev Calls : Machine → Call → Type 0
Calls machine call = Expects machine call × CallFits machine call

abbrev NoWait : List Entry → ℕ → Op → Call → Type 0
NoWait h x op call = Unit {0}

abbrev NoShelf : List Entry → Shelf → Type 0
NoShelf h shelf = Unit {0}

abbrev NoLane : List Entry → ℕ → Shelf → Type 0
NoLane h lane shelf = Unit {0}

-- a WRITE that waits is that of the piece under its xid
abbrev Seen : List Entry → ℕ → Op → Machine → ℕ → Turn → Call → Shelf → Type 0
Seen h x op machine from sent call shelf = IsPiece sent.xid call shelf.back

abbrev AnswerStory : Op → Answer → Type 0
AnswerStory op (answers.Done value) = Unit {0}
AnswerStory op (answers.Refused fault) = IsItsOwn op fault

abbrev StateStory : Op → State → Type 0
StateStory op (Busy machine) = steps.FineMachine (IsItsOwn op) (own op) machine × IsSort op machine
StateStory op (Over answer) = AnswerStory op answer

abbrev Story : List Entry → ℕ → Op → State → Type 0
Story h x op state = StateStory op state

asks-none : (h : List Entry) (x : ℕ) (op : Op) (next : Step) → AsksFor (NoWait h x op) next
asks-none h x op (nexts.Send call) = tt
asks-none h x op nexts.Wait = tt
asks-none h x op (nexts.Done answer) = tt

answer-story : (op : Op) (answer : Answer) → FineAnswer (IsItsOwn op) answer → AnswerStory op answer
answer-story op (answers.Done value) f = tt
answer-story op (answers.Refused fault) f = f

abbrev StepsSo : Op → Step → Machine → Type 0
StepsSo op next new = steps.MachineStep (IsItsOwn op) (own op) next new

did : (h : List Entry) (x : ℕ) (op : Op) (next : Step) (new : Machine) (after : Shelf) → IsSort op new → StepsSo op next new → Did NoWait NoShelf Story h x op next new after
did h x op next new after sort s = record { shelf = tt; asks = asks-none h x op next; then_ = by next s }
  where
    by : (n : Step) → StepsSo op n new → ThenOf (λ k. Story h x op (Busy k)) (λ a. Story h x op (Over a)) n new
    by (nexts.Send call) k = (k.1, sort)
    by nexts.Wait k = (k.1, sort)
    by (nexts.Done answer) k = answer-story op answer k.0

-- ---- a reply comes

module _ (h : List Entry) (x : ℕ) (op : Op) (machine : Machine) (wsize : ℕ) (sent turn : Turn) (came : Result Reply Fault) (old : Shelf) (next : Step) (new : Machine) (after : Shelf)
    (others : ℕ) (story : Story h x op (Busy machine)) (one : in_flight machine ≡ others + 1) (t : Takes wsize machine sent turn came old next new after) where
  call-step : (call : Call) (xid : ℕ) (rec : List ℕ) → Calls machine call → ((reply : Reply) → came ≡ Ok reply → IsPiece sent.xid call old.back)
      → Given (IsItsOwn op) (own op) xid rec call came → StepsSo op next new
  call-step call xid rec e piece g =
      steps.all-takes (IsItsOwn op) (own op) machine wsize sent turn came old next new after (steps.any-ends (IsItsOwn op) (own op) tt machine old)
      (machine-fits (IsItsOwn op) (own op) xid rec call came g sent old.back piece machine e.0 e.1 story.1.opener story.1.lister) story.0 t

  took-step : CameOf Seen Calls NoWait h x op machine sent came old → StepsSo op next new
  took-step (heard_of k) = call-step k.call k.now.xid k.now.rec k.expects (λ reply is. k.seen) (record {
    ok = λ reply is. (subst (Says k.now.xid k.call k.now.rec) is k.now.says).is;
    err = λ fault is. refuses-own op k.now.xid k.call k.now.rec fault (subst (Says k.now.xid k.call k.now.rec) is k.now.says);
    give = λ reply is fault r. gives-own op k.now.xid k.call k.now.rec fault r;
  })
  took-step (unmade call e fault is u) = call-step call 0 [] e (λ reply ok. absurd (let no_way : ◌≡◌ {A = Result Reply Fault} (Err fault) (Ok reply) = sym is ∙ ok in cc)) (record {
    ok = λ reply ok. absurd (let no_way : ◌≡◌ {A = Result Reply Fault} (Err fault) (Ok reply) = sym is ∙ ok in cc);
    err = λ other same. subst (IsItsOwn op) (one-fault fault other (sym is ∙ same)) (unmade-own op fault u);
    give = λ reply ok. absurd (let no_way : ◌≡◌ {A = Result Reply Fault} (Err fault) (Ok reply) = sym is ∙ ok in cc);
  })

module _ (m : Mounted) (setup : Setup) where
  own-laws : SlotLaws NoLane Seen (machine_of m) setup Calls NoWait NoShelf Story
  own-laws = record {
    fresh = λ h v up fresh. tt;
    starts = λ h lane line op wsize turn old next new after given kept s.
        did (h ++ Began lane line op ∷ []) (length h) op next new after
        (sort-on op (machine_of m lane op) new (starts-so (machine_of m lane op) wsize turn old next new after s) (begins-sort m lane op))
        (steps.all-starts (IsItsOwn op) (own op) (machine_of m lane op) wsize turn old next new after (steps.any-begins (IsItsOwn op) (own op) tt tt (machine_of m lane op) old)
        (steps.begins-fine (IsItsOwn op) (own op) m lane op) s);
    resumes = λ h x op machine wsize turn old next new after kept story r.
        did h x op next new after (sort-on op machine new (resumes-so machine wsize turn old next new after r) story.1)
        (steps.all-resumes (IsItsOwn op) (own op) machine wsize turn old next new after story.0 r);
    takes = λ h x op machine wsize sent turn came old next new after others kept story one k t.
        did h x op next new after (sort-on op machine new (takes-so machine wsize sent turn came old next new after t) story.1)
        (took-step h x op machine wsize sent turn came old next new after others story one t k);
    still = λ h e shelf kept. tt;
    waits = λ h e x op call w. tt;
    grows = λ h e x op state quiet story. state-same op state story;
    lost = λ h x op shown. tt;
  }
    where
      state-same : (op : Op) (state : State) → StateStory op state → StateStory op state
      state-same op state story = story

  sees : IsSeen (machine_of m) setup Seen
  sees h v r found may xid w waits made at machine there x op u from o rec =
      let k = written-reached m setup h v r found in
      let s = k.all xid w waits in
      let same : made.asked ≡ s.call = one-call xid xid made.asked s.call w.bytes (nfs-of made.asked made.nfs) made.spells.spells s.spells.spells in
      subst (λ (n : ℕ). IsPiece n made.asked v.shelf.back) (sym (k.flown.sents xid w.purpose (ap (option_map (λ (c : Waiting Purpose). c.purpose)) waits)))
      (subst (λ (c : Call). IsPiece xid c v.shelf.back) (sym same) s.piece)

pub faults-own : FaultsTheirOwn
faults-own m terms setup h v g lane x y op fault ended =
    let s = reached-answered (machine_of m) (begins-unbegun m) setup NoLane (λ k w q found number idle. tt) Seen (sees m setup) Calls (both-laws Expects CallFits expects-laws fits-laws) NoWait NoShelf Story (own-laws m setup)
    h v g.goes.reaches lane x op y (answers.Refused fault) ended in
    s.story
