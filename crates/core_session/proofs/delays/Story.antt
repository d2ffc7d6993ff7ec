-- An operation is answered with NFS3ERR_JUKEBOX (RFC 1813, section 2.6) only where a record refused so a call that was sent for this very operation, which had been put
-- off at three places of it before, and isn't the REMOVE of a last close.
use Rattle.core_session.proofs.Prelude.{◌≡◌, ◌≤◌, ◌<◌, ◌+◌, ◌&&◌, ℕ, List, [], ◌∷◌, ◌++◌, length, Bool, true, false, option_map, Result, Ok, Err, inl, inr, refl, sym, ap, subst, ◌∙◌, arith, nat_lt, lt-ltb, ltb-false, Waiting, without, Answer, Fault, Entry, Began, Delivered, Call, Reply, Op, Modes, RefusesSo, Ended, jukebox, FirstSent-grow, Answers-grow, length_last, Says, Step, Shelf, Turn, goes_again, CloseFile, Closing, Removal, Mounted, Machine, machine_of, Takes, Purpose, State, Busy, Over, Setup, View, of_closing, in_flight, Reaches, begins-unbegun, FineAnswer, reached-rows, ThenOf, AsksFor, Did, IsUnmadeFault, CloseNames, Saves, IsPiece, CallFaults, machine-fits}
use Rattle.std.proofs.lemmas.Bool.{eq-eqb}
use Rattle.claims.specs.PageRules.{RefusedSo, refuses}
use Rattle.client_shelf.specs.Busy.{is_busy}
use Rattle.claims.specs.GoesOn.{PutOff}
use Rattle.world_model.specs.Heard.{Refuses}
use Rattle.core_facts.proofs.Telling.{IsHeardNow, IsSeenBy, IsToldOf, CameOf, heard_of, unmade, TellLaws, reached-answered-by}
use Rattle.core_facts.proofs.Passing.{Passes, forget}
use Rattle.world_model.specs.declared.answer.Answer.TheVariants as answers
use Rattle.world_model.specs.declared.answer.Fault.TheVariants as faults
use Rattle.world_model.specs.declared.op.Op.TheVariants as ops
use Rattle.client_shelf.specs.declared.step.Step.TheVariants as nexts
use Rattle.client_shelf.specs.Repeats.{times_of, ended}
use Rattle.file_ops.specs.declared.close_file.Closing.TheVariants as closing
use Rattle.core_answers.specs.asks.SlotCalls.{IsRemoval}
use Rattle.core_answers.proofs.answers.Writing.{written-reached}
use Rattle.core_answers.proofs.refusals.FitAll as one
use Rattle.core_answers.proofs.refusals.FitFiles.{FitsClose}
use Rattle.core_answers.proofs.refusals.Refused as refused
use Rattle.core_answers.proofs.refusals.Refused.{IsClose, NoRemoval, SentSo}
use Rattle.core_answers.proofs.refusals.Replied.{Given}
use Rattle.core_answers.proofs.refusals.SentCalls.{sent-by-later}
use Rattle.file_ops.specs.Saves as saves
use Rattle.core_session.proofs.delays.Again.{Any, any-own, look_up, Often, machine-again, machine-often}
use Rattle.core_session.proofs.delays.AllSteps as steps
use Rattle.core_session.proofs.delays.Delays.{Delayed, Calls, calls-laws, Off, off-own, off-given, off-evident, reached-delayed}
use Rattle.core_session.proofs.delays.Limits.{any-fits, calm-takes}
use Rattle.core_session.proofs.delays.Puts.{Puts, puts-later, puts-none, puts-one}
use Rattle.core_session.proofs.delays.Tables.{left, count, ended-is, times-is, IsWaiting, left-apart, left-each, few-repeats, fewer, without-waits}
use Rattle.core_session.proofs.delays.Times.{Times, AgainMachine, is_full}
use Rattle.core_session.proofs.delays.Took.{too-often}
use Rattle.core_session.proofs.delays.TookFiles.{took-any}

module _ (m : Mounted) (setup : Setup) (G : List Entry → View → Type 0) where
  -- A record refused so a call of the operation, which was put off three times before.
  pub record OffRefusal (h : List Entry) (x y : ℕ) (op : Op) : Type 0 where
    pub call : Call
    pub refused : RefusedSo h x y call (faults.Nfs jukebox)
    pub sent : SentSo m setup G h refused.heard.sent_at x op call
    pub stays : NoRemoval op call
    pub many : ℕ
    pub enough : 3 ≤ many
    pub puts : Puts h x refused.heard.got_at call many

  abbrev pub Shown : List Entry → ℕ → Op → Fault → Type 0
  Shown h x op fault = fault ≡ faults.Nfs jukebox → OffRefusal h x (length h) op

  -- how often a LOOKUP of a name, and a COMMIT of a file, were put off within the operation, before the place n
  abbrev pub counts : List Entry → ℕ → ℕ → Times
  counts h x n = record {
    looks = λ dir name k. Puts h x n (look_up dir name) k;
    commits = λ file k. Puts h x n (saves.commit_of file) k;
    no_looks = λ dir name. puts-none h x n (look_up dir name) 0 refl;
    no_commits = λ file. puts-none h x n (saves.commit_of file) 0 refl;
  }

  -- of each call that waits
  pub record Seen (h : List Entry) (x : ℕ) (op : Op) (machine : Machine) (from : ℕ) (sent turn : Turn) (call : Call) (shelf : Shelf) : Type 0 where
    pub was : SentSo m setup G h from x op call
    pub runs : (slot : ℕ) → op ≡ ops.Close slot → IsClose machine
    pub piece : IsPiece sent.xid call shelf.back
    pub at : ℕ
    pub end : at + 1 ≡ length h
    pub puts : Puts h x at call (times_of sent.xid shelf.repeats)
    pub counted : steps.FineMachine Any any-own (counts h x at) machine
    pub room : turn.room ≡ true
    pub few : nat_lt (length (ended sent.xid shelf.repeats)) 32 ≡ true

  own : (h : List Entry) (x : ℕ) (op : Op) → CallFaults (Shown h x op)
  own h x op = record { memory = λ is. absurd (cc) }

  jukebox-busy : is_busy (faults.Nfs jukebox) ≡ true
  jukebox-busy = eq-eqb jukebox jukebox refl

  -- another fault
  other : (h : List Entry) (x : ℕ) (op : Op) (fault : Fault) → is_busy fault ≡ false → Shown h x op fault
  other h x op fault none is = absurd (let wrong : true ≡ false = sym jukebox-busy ∙ ap is_busy (sym is) ∙ none in cc)

  module _ (h : List Entry) (x : ℕ) (op : Op) (call : Call) (came : Result Reply Fault) (now : IsHeardNow h x call came) (was : SentSo m setup G h now.heard.sent_at x op call)
      (stays : NoRemoval op call) (many : ℕ) (enough : 3 ≤ many) (puts : Puts h x now.heard.got_at call many) where
    give : (fault : Fault) → RefusesSo now.xid call now.rec fault → Shown h x op fault
    give fault r is = record {
      call = call;
      refused = record { xid = now.xid; bytes = now.rec; heard = now.heard; refuses = subst (RefusesSo now.xid call now.rec) is r };
      sent = was;
      stays = stays;
      many = many;
      enough = enough;
      puts = puts;
    }

    given : Given (Shown h x op) (own h x op) now.xid now.rec call came
    given = record {
      ok = λ reply is. (subst (Says now.xid call now.rec) is now.says).is;
      err = λ fault is. give fault (refuses (subst (Says now.xid call now.rec) is now.says));
      give = λ reply is. give;
    }

  -- ---- the story

  abbrev NoWait : List Entry → ℕ → Op → Call → Type 0
  NoWait h x op call = Unit {0}

  abbrev NoShelf : List Entry → Shelf → Type 0
  NoShelf h shelf = Unit {0}

  abbrev NoLane : List Entry → ℕ → Shelf → Type 0
  NoLane h lane shelf = Unit {0}

  abbrev AnswerStory : List Entry → ℕ → Op → Answer → Type 0
  AnswerStory h x op (answers.Done value) = Unit {0}
  AnswerStory h x op (answers.Refused fault) = Shown h x op fault

  abbrev StateStory : List Entry → ℕ → Op → State → Type 0
  StateStory h x op (Busy machine) = steps.FineMachine (Shown h x op) (own h x op) (counts h x (length h)) machine
  StateStory h x op (Over answer) = AnswerStory h x op answer

  abbrev Story : List Entry → ℕ → Op → State → Type 0
  Story h x op state = StateStory h x op state

  asks-none : (h : List Entry) (x : ℕ) (op : Op) (next : Step) → AsksFor (NoWait h x op) next
  asks-none h x op (nexts.Send call) = tt
  asks-none h x op nexts.Wait = tt
  asks-none h x op (nexts.Done answer) = tt

  answer-story : (h : List Entry) (x : ℕ) (op : Op) (answer : Answer) → FineAnswer (Shown h x op) answer → AnswerStory h x op answer
  answer-story h x op (answers.Done value) f = tt
  answer-story h x op (answers.Refused fault) f = f

  abbrev StepsSo : List Entry → ℕ → Op → Step → Machine → Type 0
  StepsSo h x op next new = steps.MachineStep (Shown h x op) (own h x op) (counts h x (length h)) next new

  did : (h : List Entry) (x : ℕ) (op : Op) (next : Step) (new : Machine) (after : Shelf) → StepsSo h x op next new → Did NoWait NoShelf Story h x op next new after
  did h x op next new after s = record { shelf = tt; asks = asks-none h x op next; then_ = by next s }
    where
      by : (n : Step) → StepsSo h x op n new → ThenOf (λ k. Story h x op (Busy k)) (λ a. Story h x op (Over a)) n new
      by (nexts.Send call) k = k.1
      by nexts.Wait k = k.1
      by (nexts.Done answer) k = answer-story h x op answer k.0

  -- ---- a record comes

  saved-not : (f : List ℕ) (call : Call) → Saves f call → IsRemoval call → ⊥
  saved-not f call (inl k) r = let a = k.1 in let b = r.is in absurd (cc)
  saved-not f call (inr k) r = let b = r.is in absurd (cc)

  -- a close waits for what its save asks for, or removes
  close-case : (k : CloseFile) (call : Call) (others : ℕ) (R : Type 0) → CloseNames k.state call → of_closing k.state ≡ others + 1
      → ((removal : Removal) → k.state ≡ closing.Removing removal → R) → ((IsRemoval call → ⊥) → R) → R
  close-case k call others R e one_more removes saves = by k.state refl e one_more
    where
      by : (c : Closing) → k.state ≡ c → CloseNames c call → of_closing c ≡ others + 1 → R
      by closing.Idle is e one_more = absurd (omega (arith, one_more))
      by (closing.Queued s) is e one_more = absurd (omega (arith, one_more))
      by (closing.Saves s) is e one_more = saves (saved-not s.file call e)
      by (closing.ToRemove removal) is e one_more = absurd (omega (arith, one_more))
      by (closing.Removing removal) is e one_more = removes removal is

  close-op : (op : Op) (R : Type 0) → ((slot : ℕ) → op ≡ ops.Close slot → R) → (((slot : ℕ) → op ≡ ops.Close slot → ⊥) → R) → R
  close-op (ops.Close slot) R a b = a slot refl
  close-op (ops.OpenFile slot mode path) R a b = b (λ n is. absurd (cc))
  close-op (ops.Read slot offset count) R a b = b (λ n is. absurd (cc))
  close-op (ops.Write slot offset bytes) R a b = b (λ n is. absurd (cc))
  close-op (ops.Fill slot offset count byte) R a b = b (λ n is. absurd (cc))
  close-op (ops.Put path offset bytes) R a b = b (λ n is. absurd (cc))
  close-op (ops.Sync slot) R a b = b (λ n is. absurd (cc))
  close-op (ops.Truncate slot size) R a b = b (λ n is. absurd (cc))
  close-op (ops.Stat path) R a b = b (λ n is. absurd (cc))
  close-op (ops.Access path bits) R a b = b (λ n is. absurd (cc))
  close-op (ops.MakeDir path) R a b = b (λ n is. absurd (cc))
  close-op (ops.RemoveDir path) R a b = b (λ n is. absurd (cc))
  close-op (ops.Remove path) R a b = b (λ n is. absurd (cc))
  close-op (ops.Rename from to) R a b = b (λ n is. absurd (cc))
  close-op (ops.Link from to) R a b = b (λ n is. absurd (cc))
  close-op (ops.SymLink path target) R a b = b (λ n is. absurd (cc))
  close-op (ops.ReadLink path) R a b = b (λ n is. absurd (cc))
  close-op (ops.List path) R a b = b (λ n is. absurd (cc))

  module _ (h : List Entry) (x : ℕ) (op : Op) (machine : Machine) (wsize : ℕ) (sent turn : Turn) (came : Result Reply Fault) (old : Shelf) (next : Step) (new : Machine) (after : Shelf)
      (others : ℕ) (story : steps.FineMachine (Shown h x op) (own h x op) (counts h x (length h)) machine) (flight : in_flight machine ≡ others + 1) (t : Takes wsize machine sent turn came old next new after) where
    slots-fine : steps.Ends (Shown h x op) (own h x op) (counts h x (length h)) machine old
    slots-fine = steps.any-ends (Shown h x op) (own h x op) (counts h x (length h)) (λ is. absurd (cc)) machine old

    -- what is made again was put off once more
    abbrev CountsOn : Type 0
    CountsOn = AgainMachine (counts h x (length h)) sent turn came old.repeats machine

    any-step : CountsOn → one.FitsMachine (Shown h x op) (own h x op) sent came machine old.back → StepsSo h x op next new
    any-step again n =
        steps.all-takes (Shown h x op) (own h x op) (counts h x (length h)) machine wsize sent turn came old next new after slots-fine
        (any-fits (Shown h x op) (own h x op) (counts h x (length h)) next sent turn came old.repeats machine old.back n) story again t

    -- it waits for such a call
    call-step : CountsOn → (call : Call) (xid : ℕ) (rec : List ℕ) → Calls machine call → ((reply : Reply) → came ≡ Ok reply → IsPiece sent.xid call old.back) → Given (Shown h x op) (own h x op) xid rec call came
        → StepsSo h x op next new
    call-step again call xid rec e piece g =
        any-step again (machine-fits (Shown h x op) (own h x op) xid rec call came g sent old.back piece machine e.0 e.1 (λ opens is. absurd (cc)) (λ lists is. absurd (cc)))

    -- what came, as it puts the call off
    off-fits : (k : IsToldOf Seen Calls NoWait h x op machine sent turn came old) → one.FitsMachine (Off k.now.xid k.call k.now.rec) (off-own k.now.xid k.call k.now.rec) sent came machine old.back
    off-fits k =
        machine-fits (Off k.now.xid k.call k.now.rec) (off-own k.now.xid k.call k.now.rec) k.now.xid k.now.rec k.call came (off-given k.now.xid k.call k.now.rec came k.now.says) sent old.back
        (λ reply ok. k.seen.piece) machine k.expects.0 k.expects.1 (λ opens is. absurd (cc)) (λ lists is. absurd (cc))

    seen-here : (k : IsToldOf Seen Calls NoWait h x op machine sent turn came old) → k.seen.at ≡ k.now.heard.got_at
    seen-here k = let a = k.seen.end in let b = k.now.end in omega (arith, a, b)

    put-off : (k : IsToldOf Seen Calls NoWait h x op machine sent turn came old) → Refuses k.now.xid k.call k.now.rec (faults.Nfs jukebox) → PutOff h x (length h) k.call k.now.heard.got_at
    put-off k r = record { refused = record { xid = k.now.xid; bytes = k.now.rec; heard = k.now.heard; refuses = r }; here = refl }

    told-again : IsToldOf Seen Calls NoWait h x op machine sent turn came old → CountsOn
    told-again k =
        machine-again (Off k.now.xid k.call k.now.rec) (off-own k.now.xid k.call k.now.rec) (counts h x k.seen.at) (counts h x (length h)) sent turn came old.repeats k.call
        (λ dir name many is off puts. once_more (look_up dir name) many is off puts) (λ file many is off puts. once_more (saves.commit_of file) many is off puts)
        machine old.back k.expects.0 k.expects.1 (off-fits k) k.seen.counted
      where
        once_more : (call : Call) (many : ℕ) → k.call ≡ call → Off k.now.xid k.call k.now.rec (faults.Nfs jukebox) → Puts h x k.seen.at call many → Puts h x (length h) call (many + 1)
        once_more call many is off puts =
            let same = seen-here k in
            let end = k.seen.end in
            puts-one h x k.seen.at (length h) call many k.now.heard.got_at (omega (arith, end)) (omega (arith, same))
            (subst (λ (c : Call). PutOff h x (length h) c k.now.heard.got_at) is (put-off k (off refl))) puts

    -- as often as may be
    limit-step : (k : IsToldOf Seen Calls NoWait h x op machine sent turn came old) (many : ℕ) → 3 ≤ many → Puts h x k.seen.at k.call many → StepsSo h x op next new
    limit-step k many enough puts = close-op op (StepsSo h x op next new)
        (λ slot is.
        let c = k.seen.runs slot is in
        let e = subst (λ (n : Machine). Calls n k.call) c.is k.expects in
        let count_ = subst (λ (n : Machine). in_flight n ≡ others + 1) c.is flight in
        close-case c.of k.call others (StepsSo h x op next new) e.0.1 count_
        (λ removal at. any-step (told-again k) (subst (λ (n : Machine). one.FitsMachine (Shown h x op) (own h x op) sent came n old.back) (sym c.is)
        (subst (λ (s : Closing). FitsClose (Shown h x op) (own h x op) sent came s old.back) (sym at) tt)))
        (λ no_removal. call-step (told-again k) k.call k.now.xid k.now.rec k.expects (λ reply ok. k.seen.piece) (gave (λ n same r. no_removal r))))
        (λ not. call-step (told-again k) k.call k.now.xid k.now.rec k.expects (λ reply ok. k.seen.piece) (gave (λ n same r. not n same)))
      where
        gave : NoRemoval op k.call → Given (Shown h x op) (own h x op) k.now.xid k.now.rec k.call came
        gave stays = given h x op k.call came k.now k.seen.was stays many enough (subst (λ (n : ℕ). Puts h x n k.call many) (seen-here k) puts)

    -- it may be made again
    again-step : IsToldOf Seen Calls NoWait h x op machine sent turn came old → goes_again true sent turn old.repeats ≡ true → is_full machine ≡ false → StepsSo h x op next new
    again-step k may low =
        calm-takes (Shown h x op) (own h x op) (counts h x (length h)) next sent turn came old.repeats (other h x op) outer may (Off k.now.xid k.call k.now.rec) after.repeats k.call machine wsize old new after refl slots-fine story (told-again k) low
        (took-any (Off k.now.xid k.call k.now.rec) (off-own k.now.xid k.call k.now.rec) sent turn came k.call (off-evident k.now.xid k.call k.now.rec came k.now.says) (Shown h x op) (own h x op) (other h x op)
        machine wsize old next new after (omega (arith, flight)) k.expects.0 k.expects.1 (λ reply ok. k.seen.piece) (off-fits k) t) t
      where
        outer : (fault : Fault) → came ≡ Err fault → Shown h x op fault
        outer fault is same = absurd (k.read jukebox (subst (λ (f : Fault). came ≡ Err f) same is))

    told-step : IsToldOf Seen Calls NoWait h x op machine sent turn came old → StepsSo h x op next new
    told-step k = by (goes_again true sent turn old.repeats) refl (is_full machine) refl
      where
        -- it was put off three times, one after another or in two of its steps
        as-call : (call : Call) (many : ℕ) → k.call ≡ call → Puts h x k.seen.at call many → Puts h x k.seen.at k.call many
        as-call call many is puts = subst (λ (c : Call). Puts h x k.seen.at c many) (sym is) puts

        in_steps : is_full machine ≡ true → Often (Puts h x k.seen.at k.call)
        in_steps high =
            machine-often (counts h x k.seen.at) k.call (Puts h x k.seen.at k.call) (λ dir name many is puts. as-call (look_up dir name) many is puts)
            (λ file many is puts. as-call (saves.commit_of file) many is puts) machine k.expects.0 k.expects.1 k.seen.counted high

        by : (b : Bool) → goes_again true sent turn old.repeats ≡ b → (c : Bool) → is_full machine ≡ c → StepsSo h x op next new
        by true may false low = again-step k may low
        by true may true high = let o = in_steps high in limit-step k o.many o.enough o.so
        by false ends c is = limit-step k (times_of sent.xid old.repeats)
            (ltb-false (times_of sent.xid old.repeats) 3 (too-often (true && turn.room) (times_of sent.xid old.repeats) (length (ended sent.xid old.repeats)) ends k.seen.room k.seen.few)) k.seen.puts

    one-fault : (a b : Fault) → ◌≡◌ {A = Result Reply Fault} (Err a) (Err b) → a ≡ b
    one-fault a b e = cc

    unmade-shown : (fault : Fault) → IsUnmadeFault fault → Shown h x op fault
    unmade-shown faults.Spent u is = absurd (cc)
    unmade-shown faults.Memory u is = absurd (cc)
    unmade-shown faults.Lost u is = absurd (cc)
    unmade-shown (faults.Nfs status) u is = absurd u
    unmade-shown (faults.Rpc n) u is = absurd (cc)
    unmade-shown (faults.Bad rule) u is = absurd (cc)
    unmade-shown faults.Slot u is = absurd (cc)
    unmade-shown faults.Mode u is = absurd (cc)
    unmade-shown faults.Kind u is = absurd (cc)
    unmade-shown faults.Many u is = absurd (cc)

    -- a call that isn't made wasn't put off
    abbrev NotOff : Fault → Type 0
    NotOff fault = fault ≡ faults.Nfs jukebox → ⊥

    not-own : CallFaults NotOff
    not-own = record { memory = λ is. absurd (cc) }

    unmade-not : (fault : Fault) → IsUnmadeFault fault → NotOff fault
    unmade-not faults.Spent u is = absurd (cc)
    unmade-not faults.Memory u is = absurd (cc)
    unmade-not faults.Lost u is = absurd (cc)
    unmade-not (faults.Nfs status) u is = absurd u
    unmade-not (faults.Rpc n) u is = absurd (cc)
    unmade-not (faults.Bad rule) u is = absurd (cc)
    unmade-not faults.Slot u is = absurd (cc)
    unmade-not faults.Mode u is = absurd (cc)
    unmade-not faults.Kind u is = absurd (cc)
    unmade-not faults.Many u is = absurd (cc)

    unmade-again : (call : Call) → Calls machine call → (fault : Fault) → came ≡ Err fault → IsUnmadeFault fault → CountsOn
    unmade-again call e fault is u =
        machine-again NotOff not-own (counts h x (length h)) (counts h x (length h)) sent turn came old.repeats call
        (λ dir name many same off puts. absurd (off refl)) (λ file many same off puts. absurd (off refl)) machine old.back e.0 e.1
        (machine-fits NotOff not-own 0 [] call came (record {
          ok = λ reply ok. absurd (let no_way : ◌≡◌ {A = Result Reply Fault} (Err fault) (Ok reply) = sym is ∙ ok in cc);
          err = λ made same. let which : fault ≡ made = one-fault fault made (sym is ∙ same) in subst NotOff which (unmade-not fault u);
          give = λ reply ok. absurd (let no_way : ◌≡◌ {A = Result Reply Fault} (Err fault) (Ok reply) = sym is ∙ ok in cc);
        }) sent old.back (λ reply ok. absurd (let no_way : ◌≡◌ {A = Result Reply Fault} (Err fault) (Ok reply) = sym is ∙ ok in cc)) machine e.0 e.1 (λ opens same. absurd (cc)) (λ lists same. absurd (cc)))
        (steps.fine-more (Shown h x op) (own h x op) (counts h x (length h)) Any any-own (counts h x (length h)) (λ made p. tt) (λ dir name many p. p) (λ file many p. p) machine story)

    took-step : CameOf Seen Calls NoWait h x op machine sent turn came old → StepsSo h x op next new
    took-step (heard_of k) = told-step k
    took-step (unmade call e fault is u asked_) = call-step (unmade-again call e fault is u) call 0 [] e (λ reply ok. absurd (let no_way : ◌≡◌ {A = Result Reply Fault} (Err fault) (Ok reply) = sym is ∙ ok in cc)) (record {
      ok = λ reply ok. absurd (let no_way : ◌≡◌ {A = Result Reply Fault} (Err fault) (Ok reply) = sym is ∙ ok in cc);
      err = λ made same. let which : fault ≡ made = one-fault fault made (sym is ∙ same) in subst (Shown h x op) which (unmade-shown fault u);
      give = λ reply ok. absurd (let no_way : ◌≡◌ {A = Result Reply Fault} (Err fault) (Ok reply) = sym is ∙ ok in cc);
    })

  -- ---- one entry more

  pub off-later : (h more : List Entry) (x y z : ℕ) (op : Op) → y ≤ z → OffRefusal h x y op → OffRefusal (h ++ more) x z op
  off-later h more x y z op wide s =
      let d = s.refused.heard in
      record {
        call = s.call;
        refused = record {
          xid = s.refused.xid;
          bytes = s.refused.bytes;
          heard = record {
            sent_at = d.sent_at;
            record_sent = d.record_sent;
            got_at = d.got_at;
            sent = FirstSent-grow h more d.sent_at s.refused.xid d.record_sent d.sent;
            spells = d.spells;
            got = Answers-grow h more d.got_at s.refused.xid s.refused.bytes d.got;
            after = d.after;
            later = d.later;
            before = let low = d.before in omega (arith, low, wide);
          };
          refuses = s.refused.refuses;
        };
        sent = sent-by-later (machine_of m) (begins-unbegun m) setup G h more d.sent_at x op s.call s.sent;
        stays = s.stays;
        many = s.many;
        enough = s.enough;
        puts = puts-later h more x d.got_at d.got_at s.call s.many (omega arith) s.puts;
      }

  last-wide : (h : List Entry) (e : Entry) → length h ≤ length (h ++ e ∷ [])
  last-wide h e = let more = length_last h e in omega (arith, more)

  shown-later : (h : List Entry) (e : Entry) (x : ℕ) (op : Op) (fault : Fault) → Shown h x op fault → Shown (h ++ e ∷ []) x op fault
  shown-later h e x op fault s is = off-later h (e ∷ []) x (length h) (length (h ++ e ∷ [])) op (last-wide h e) (s is)

  state-later : (h : List Entry) (e : Entry) (x : ℕ) (op : Op) (state : State) → StateStory h x op state → StateStory (h ++ e ∷ []) x op state
  state-later h e x op (Busy machine) s =
      steps.fine-more (Shown h x op) (own h x op) (counts h x (length h)) (Shown (h ++ e ∷ []) x op) (own (h ++ e ∷ []) x op) (counts (h ++ e ∷ []) x (length (h ++ e ∷ []))) (shown-later h e x op)
      (λ dir name k p. puts-later h (e ∷ []) x (length h) (length (h ++ e ∷ [])) (look_up dir name) k (last-wide h e) p)
      (λ file k p. puts-later h (e ∷ []) x (length h) (length (h ++ e ∷ [])) (saves.commit_of file) k (last-wide h e) p) machine s
  state-later h e x op (Over (answers.Done value)) s = tt
  state-later h e x op (Over (answers.Refused fault)) s = shown-later h e x op fault s

  off-laws : TellLaws NoLane Seen (machine_of m) setup Calls NoWait NoShelf Story
  off-laws = record {
    fresh = λ h v up fresh. tt;
    starts = λ h lane line op wsize turn old next new after given_ kept s.
        let later = h ++ Began lane line op ∷ [] in
        did later (length h) op next new after (steps.all-starts (Shown later (length h) op) (own later (length h) op) (counts later (length h) (length later)) (machine_of m lane op) wsize turn old next new after
        (steps.any-begins (Shown later (length h) op) (own later (length h) op) (counts later (length h) (length later)) (λ is. absurd (cc)) (λ is. absurd (cc)) (machine_of m lane op) old)
        (steps.begins-fine (Shown later (length h) op) (own later (length h) op) (counts later (length h) (length later)) m lane op) s);
    resumes = λ h x op machine wsize turn old next new after kept story r.
        did h x op next new after (steps.all-resumes (Shown h x op) (own h x op) (counts h x (length h)) machine wsize turn old next new after story r);
    takes = λ h x op machine wsize sent turn came old next new after others kept story flight k t.
        did h x op next new after (took-step h x op machine wsize sent turn came old next new after others story flight t k);
    still = λ h e shelf kept. tt;
    waits = λ h e x op call w. tt;
    grows = λ h e x op state quiet story. state-later h e x op state story;
    lost = λ h x op shown is. absurd (cc);
  }

  -- ---- of each call that waits

  sees : (modes : Modes) → m.nocto ≡ modes.nocto → IsSeenBy (machine_of m) setup G Story Seen
  sees modes same h v p found may xid w waits made at machine there x op u from o story rec = record {
    was = known.was;
    runs = known.runs;
    piece = known.piece;
    at = length h;
    end = let more = length_last h (Delivered rec) in omega (arith, more);
    puts =
        subst (λ (n : ℕ). Puts (h ++ Delivered rec ∷ []) x (length h) made.asked (times_of n v.shelf.repeats)) (sym sent_xid)
        (subst (λ (n : ℕ). Puts (h ++ Delivered rec ∷ []) x (length h) made.asked n) (sym (times-is xid v.shelf.repeats))
        (puts-later h (Delivered rec ∷ []) x (length h) (length h) made.asked (count xid v.shelf.repeats) (omega arith) (delayed.counted xid w waits made x op u)));
    counted =
        steps.fine-more (Shown h x op) (own h x op) (counts h x (length h)) Any any-own (counts (h ++ Delivered rec ∷ []) x (length h)) (λ fault q. tt)
        (λ dir name many q. puts-later h (Delivered rec ∷ []) x (length h) (length h) (look_up dir name) many (omega arith) q)
        (λ file many q. puts-later h (Delivered rec ∷ []) x (length h) (length h) (saves.commit_of file) many (omega arith) q) machine story;
    room = lt-ltb (length (without xid v.calls.calls)) 32 less;
    few = lt-ltb (length (ended w.purpose.sent.xid v.shelf.repeats)) 32 (let same_length = ap length table in omega (arith, same_length, no_more, less));
  }
    where
      r : Reaches (machine_of m) setup h v
      r = forget (machine_of m) setup G h v p

      known : refused.SeenBy m setup G (h ++ Delivered rec ∷ []) x op machine from w.purpose.sent made.asked v.shelf
      known = refused.sees-by m setup G modes same h v p found may xid w waits made at machine there x op u from o rec

      delayed : Delayed m setup h v
      delayed = reached-delayed m setup h v r found

      sent_xid : w.purpose.sent.xid ≡ xid
      sent_xid = (written-reached m setup h v r found).flown.sents xid w.purpose (ap (option_map (λ (c : Waiting Purpose). c.purpose)) waits)

      less : length (without xid v.calls.calls) < 32
      less = let all = (reached-rows (machine_of m) setup h v r).sound.calls.few in let fewer_one = fewer xid v.calls.calls w waits in omega (arith, all, fewer_one)

      table : ended w.purpose.sent.xid v.shelf.repeats ≡ left xid v.shelf.repeats
      table = ap (λ (n : ℕ). ended n v.shelf.repeats) sent_xid ∙ ended-is xid v.shelf.repeats

      no_more : length (left xid v.shelf.repeats) ≤ length (without xid v.calls.calls)
      no_more =
          let k = left-apart xid v.shelf.repeats delayed.apart in
          few-repeats (without xid v.calls.calls) (left xid v.shelf.repeats) k.0
          (without-waits xid v.calls.calls (left xid v.shelf.repeats) k.1 (left-each (IsWaiting v.calls.calls) xid v.shelf.repeats delayed.waits))

  -- ---- answers

  -- what was known as the operation was answered
  pub off-refused : (modes : Modes) → m.nocto ≡ modes.nocto → (h : List Entry) (v : View) → Passes (machine_of m) setup G h v → (lane x y : ℕ) (op : Op)
      → Ended h lane x op y (answers.Refused (faults.Nfs jukebox)) → OffRefusal h x y op
  off-refused modes same h v r lane x y op ended_ =
      let s = reached-answered-by (machine_of m) (begins-unbegun m) setup G NoLane (λ k w q found number idle. tt) Seen Story (sees modes same) Calls calls-laws NoWait NoShelf off-laws
      h v r lane x op y (answers.Refused (faults.Nfs jukebox)) ended_ in
      let there = s.there in
      subst (λ (k : List Entry). OffRefusal k x y op) (sym s.is) (off-later s.before s.after x (length s.before) y op (omega (arith, there)) (s.story refl))
