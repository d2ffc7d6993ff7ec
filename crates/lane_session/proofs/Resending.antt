-- Each call that waits is sent again after a failure.
use Rattle.std.proofs.Common.{inl, inr, ◌⊎◌, ◌≡◌, ◌≤◌, ◌<◌, ◌+◌, ℕ, zero, suc, List, [], ◌∷◌, ◌++◌, length, Bool, true, false, cond, nat_eq, Option, Some, None, map, refl, sym, ap, subst, ◌∙◌, arith}
use Rattle.std.proofs.lemmas.Bool.{cases_lt, eqb-true}
use Rattle.std.proofs.lemmas.List.{append-nil, length-append}
use Rattle.rpc_message.specs.declared.cred.Cred.{Cred}
use Rattle.rpc_retry.specs.declared.waiting.Waiting.{Waiting}
use Rattle.rpc_retry.specs.Fail.{failed_after}
use Rattle.rpc_retry.specs.Sound.{AreSound}
use Rattle.rpc_retry.specs.Waiting.{waiting_at, without, sent, sent_call, failed, first_due, made_call}
use Rattle.rpc_retry.proofs.Dues.{if_true, if_false}
use Rattle.rpc_retry.proofs.Records.{waits_late}
use Rattle.world_model.specs.declared.entry.Entry.{Entry}
use Rattle.world_model.specs.declared.entry.Entry.TheVariants.{Began, Answered, Dialed, Sent, Executed, Foreign, Flushed, Reboot, Delivered, Failed, Clock}
use Rattle.world_model.specs.declared.message.Call.{Call}
use Rattle.world_model.specs.declared.op.Op.{Op}
use Rattle.world_model.specs.Entries.{At, ours}
use Rattle.world_model.specs.LanesTogether.{HasBegun}
use Rattle.world_model.specs.Messages.{HasXid}
use Rattle.world_model.specs.Waiting.{Waits}
use Rattle.world_model.proofs.Histories.{IsQuiet, quiet_by}
use Rattle.world_model.proofs.Places.{At-grow, At-below, At-last, At-cases, At-back, length_last}
use Rattle.link_dials.specs.Sendings.{LatestIs, FailsBefore, dialing, sending, SentAgain, Resends}
use Rattle.op_machines.specs.declared.machine.Machine.{Machine}
use Rattle.client_core.specs.declared.lane.Purpose.{Purpose}
use Rattle.client_core.specs.declared.lane.State.{State}
use Rattle.client_core.specs.declared.setup.Setup.{Setup}
use Rattle.client_core.specs.Steps.{Makes, HearsFor, SendsBy, SendsIf, FailsBy, lost}
use Rattle.client_core.specs.View.{View}
use Rattle.core_facts.specs.Reaches.{StepsTo, last_reading}
use Rattle.core_facts.proofs.Cases.{Heard, dropped, replied, heard, sent_now, FailedNow, goes_on, gives_up, failed_now, answered_now, taken_one}
use Rattle.core_facts.proofs.Rows.{under}
use Rattle.core_facts.proofs.Sound.{Sound}
use Rattle.core_facts.proofs.Walks.{Stays, begins-stay, hears-for-stay}
use Rattle.rpc_retry.proofs.Lookups.{at_sent}
use Rattle.rpc_retry.specs.Held.{next_xid}
use Rattle.lane_session.specs.Bonds.{IsAwaited}
use Rattle.lane_session.specs.Resending.{SentLate, AllLate, AllDue, DueAgain, SendsAgain}

abbrev one : Entry → List Entry
one e = e ∷ []

abbrev Calls : Type 0
Calls = List (ℕ × Waiting Purpose)

-- ---- the client's latest entry

latest-grow : (h more : List Entry) (place : ℕ) (e : Entry) → place ≤ length h → LatestIs h place e → LatestIs (h ++ more) place e
latest-grow h more place e le l = record {
  at = l.at;
  earlier = l.earlier;
  is = At-grow h more l.at e l.is;
  none = λ j d at after before. l.none j d (At-back h more j d at (omega (arith, le, before))) after before;
}

pub latest-now : (h : List Entry) (e : Entry) → LatestIs (h ++ one e) (length (h ++ one e)) e
latest-now h e = record {
  at = length h;
  earlier = let l = length_last h e in omega (arith, l);
  is = At-last h e;
  none = λ j d at after before. let l = length_last h e in absurd (omega (arith, l, after, before));
}

pub latest-quiet : (e : Entry) → IsQuiet (λ h. LatestIs h (length h) e)
latest-quiet e = quiet_by (λ h. LatestIs h (length h) e) (λ h d q l. record {
  at = l.at;
  earlier = let k = length_last h d in let b = l.earlier in omega (arith, k, b);
  is = At-grow h (one d) l.at e l.is;
  none = λ j f at after before. elim (At-cases h d j f at) [
    | inl there ↦ l.none j f there after (At-below h j f there)
    | inr now ↦ subst (λ (x : Entry). ours (x ∷ []) ≡ []) now.1 q
  ];
})

fails-grow : (h more : List Entry) (place xid : ℕ) → place ≤ length h → FailsBefore h place xid → FailsBefore (h ++ more) place xid
fails-grow h more place xid le (dialing port l) = dialing port (latest-grow h more place (Dialed port) le l)
fails-grow h more place xid le (sending other bytes l has less) = sending other bytes (latest-grow h more place (Sent bytes) le l) has less

again-grow : (h more : List Entry) (from to xid : ℕ) → SentAgain h from to xid → SentAgain (h ++ more) from to xid
again-grow h more from to xid s = record { at = s.at; bytes = s.bytes; sent = At-grow h more s.at (Sent s.bytes) s.sent; under = s.under; after = s.after; before = s.before }

-- ---- failures

abbrev pub Excused : List Entry → ℕ → Type 0
Excused h xid = SentLate h xid ⊎ FailsBefore h (length h) xid

-- of failures that a history had before it went on
pub resends-back : (h more : List Entry) (i j xid : ℕ) (w : Waits (h ++ more) xid j) → Resends h → HasBegun (h ++ more) i → At (h ++ more) i Failed → At (h ++ more) j Failed → w.at < i → i < j → j < length h
    → SentAgain (h ++ more) i j xid ⊎ FailsBefore (h ++ more) j xid
resends-back h more i j xid w r begun fi fj early less within =
    elim (r i j xid waits (record {
      at = begun.at;
      lane = begun.lane;
      line = begun.line;
      op = begun.op;
      began = At-back h more begun.at (Began begun.lane begun.line begun.op) begun.began (let b = begun.before in omega (arith, b, less, within));
      before = begun.before;
    })
    (At-back h more i Failed fi (omega (arith, less, within))) (At-back h more j Failed fj within) early less) [
      | inl again ↦ inl (again-grow h more i j xid again)
      | inr stops ↦ inr (fails-grow h more j xid (omega (arith, within)) stops)
    ]
  where
    waits : Waits h xid j
    waits = record {
      at = w.at;
      bytes = w.bytes;
      sent = At-back h more w.at (Sent w.bytes) w.sent (let b = w.before in omega (arith, b, within));
      under = w.under;
      before = w.before;
      unanswered = λ k b there has after before. w.unanswered k b (At-grow h more k (Delivered b) there) has after before;
    }

-- an entry that is no failure
pub resends-on : (h : List Entry) (e : Entry) → (e ≡ Failed → ⊥) → Resends h → Resends (h ++ one e)
resends-on h e other r i j xid w begun fi fj early less = elim (At-cases h e j Failed fj) [
  | inl there ↦ resends-back h (one e) i j xid w r begun fi fj early less (At-below h j Failed there)
  | inr now ↦ absurd (other now.1)
]

-- a failure
pub resends-failed : (h : List Entry) → Resends h → ((xid : ℕ) → Waits h xid (length h) → Excused h xid) → Resends (h ++ one Failed)
resends-failed h r excused i j xid w begun fi fj early less = elim (At-cases h Failed j Failed fj) [
  | inl there ↦ resends-back h (one Failed) i j xid w r begun fi fj early less (At-below h j Failed there)
  | inr now ↦ last now.0 (excused xid (waits now.0))
]
  where
    waits : j ≡ length h → Waits h xid (length h)
    waits is = record {
      at = w.at;
      bytes = w.bytes;
      sent = At-back h (one Failed) w.at (Sent w.bytes) w.sent (let b = w.before in omega (arith, b, is));
      under = w.under;
      before = let b = w.before in omega (arith, b, is);
      unanswered = λ k b there has after before. w.unanswered k b (At-grow h (one Failed) k (Delivered b) there) has after (omega (arith, before, is));
    }

    last : j ≡ length h → Excused h xid → SentAgain (h ++ one Failed) i j xid ⊎ FailsBefore (h ++ one Failed) j xid
    last is (inl late) = inl (record {
      at = late.at;
      bytes = late.bytes;
      sent = At-grow h (one Failed) late.at (Sent late.bytes) late.sent;
      under = late.under;
      after = late.late i (At-back h (one Failed) i Failed fi (omega (arith, less, is)));
      before = let b = At-below h late.at (Sent late.bytes) late.sent in omega (arith, b, is);
    })
    last is (inr stops) = inr (subst (λ (n : ℕ). FailsBefore (h ++ one Failed) n xid) (sym is) (fails-grow h (one Failed) (length h) xid (omega arith) stops))

-- dials that fail
pub resends-dials : (h k more : List Entry) → k ≡ h ++ more → ((j : ℕ) → At k j Failed → length h ≤ j → (port : ℕ) × LatestIs k j (Dialed port)) → Resends h → Resends k
resends-dials h k more is each r = subst Resends (sym is) (λ i j xid w begun fi fj early less. elim (cases_lt j (length h)) [
  | inl within ↦ resends-back h more i j xid w r begun fi fj early less within
  | inr new ↦ (let l = each j (subst (λ (t : List Entry). At t j Failed) (sym is) fj) new in inr (dialing l.0 (subst (λ (t : List Entry). LatestIs t j (Dialed l.0)) is l.1)))
])

-- no operation had begun
pub resends-none : (h : List Entry) → ((i lane line : ℕ) (op : Op) → At h i (Began lane line op) → ⊥) → Resends h
resends-none h none i j xid w begun fi fj early less = absurd (none begun.at begun.lane begun.line begun.op begun.began)

-- ---- calls that were sent since

late-on : (h : List Entry) (e : Entry) (xid : ℕ) → (e ≡ Failed → ⊥) → SentLate h xid → SentLate (h ++ one e) xid
late-on h e xid other s = record {
  at = s.at;
  bytes = s.bytes;
  sent = At-grow h (one e) s.at (Sent s.bytes) s.sent;
  under = s.under;
  late = λ j at. elim (At-cases h e j Failed at) [ inl there ↦ s.late j there | inr now ↦ absurd (other now.1) ];
}

all-on : (h : List Entry) (e : Entry) (es : Calls) → (e ≡ Failed → ⊥) → AllLate h es → AllLate (h ++ one e) es
all-on h e [] other a = tt
all-on h e (c ∷ es) other a = (λ d. late-on h e c.0 other (a.0 d), all-on h e es other a.1)

-- a call more, which is due
all-made : (h : List Entry) (es : Calls) (c : ℕ × Waiting Purpose) → c.1.due ≡ true → AllLate h es → AllLate h (es ++ c ∷ [])
all-made h [] c due a = (λ d. absurd (let no_way : true ≡ false = sym due ∙ d in cc), tt)
all-made h (e ∷ es) c due a = (a.0, all-made h es c due a.1)

-- a call less
all-without : (h : List Entry) (xid : ℕ) (es : Calls) → AllLate h es → AllLate h (without xid es)
all-without h xid [] a = a
all-without h xid (e ∷ es) a = (elim (nat_eq xid e.0) as (λ b. nat_eq xid e.0 ≡ b → AllLate h (without xid (e ∷ es))) [
  | true ↦ λ d. subst (AllLate h) (sym (if_true (nat_eq xid e.0) es (e ∷ without xid es) d)) a.1
  | false ↦ λ d. subst (AllLate h) (sym (if_false (nat_eq xid e.0) es (e ∷ without xid es) d)) (a.0, all-without h xid es a.1)
]) refl

sent-now : (h : List Entry) (bytes : List ℕ) (xid : ℕ) → HasXid bytes xid → SentLate (h ++ one (Sent bytes)) xid
sent-now h bytes xid has = record {
  at = length h;
  bytes = bytes;
  sent = At-last h (Sent bytes);
  under = has;
  late = λ j at. elim (At-cases h (Sent bytes) j Failed at) [ inl there ↦ At-below h j Failed there | inr now ↦ absurd (let no_way : Sent bytes ≡ Failed = now.1 in cc) ];
}

-- the oldest call that was due is sent
all-sent : (h : List Entry) (bytes : List ℕ) (xid : ℕ) (call : Waiting Purpose) (es : Calls) → first_due es ≡ Some (xid, call) → HasXid bytes xid → AllLate h es
    → AllLate (h ++ one (Sent bytes)) (sent es)
all-sent h bytes xid call [] due has a = tt
all-sent h bytes xid call (e ∷ es) due has a =
    let rest : first_due es ≡ Some (xid, call) → AllLate (h ++ one (Sent bytes)) (sent es) = λ f. all-sent h bytes xid call es f has a.1 in
    (elim e.1.due as (λ b. e.1.due ≡ b → AllLate (h ++ one (Sent bytes)) (sent (e ∷ es))) [
      | true ↦ λ d.
          let first : Some e ≡ Some (xid, call) = sym (if_true e.1.due (Some e) (first_due es) d) ∙ due in
          let same : xid ≡ e.0 = cc in
          subst (AllLate (h ++ one (Sent bytes))) (sym (if_true e.1.due ((e.0, sent_call e.1) ∷ es) (e ∷ sent es) d))
          (λ u. sent-now h bytes e.0 (subst (HasXid bytes) same has), all-on h (Sent bytes) es (λ f. cc) a.1)
      | false ↦ λ d.
          subst (AllLate (h ++ one (Sent bytes))) (sym (if_false e.1.due ((e.0, sent_call e.1) ∷ es) (e ∷ sent es) d))
          (λ u. late-on h (Sent bytes) e.0 (λ f. cc) (a.0 u), rest (sym (if_false e.1.due (Some e) (first_due es) d) ∙ due))
    ]) refl

-- ---- after a failure each is due

all-due : (es : Calls) → AllDue (failed true es)
all-due [] = tt
all-due (e ∷ es) = (refl, all-due es)

due-late : (h : List Entry) (es : Calls) → AllDue es → AllLate h es
due-late h [] a = tt
due-late h (e ∷ es) a = (λ d. absurd (let no_way : true ≡ false = sym a.0 ∙ d in cc), due-late h es a.1)

due-after : (old new : View) → FailedNow old new → DueAgain new
due-after old new (goes_on none is) live =
    subst AllDue (sym (ap (λ (v : View). v.calls.calls) is ∙ ap (λ (o : Option ℕ). failed_after o old.calls.calls) none)) (all-due old.calls.calls)
due-after old new (gives_up xid up is) live = absurd (let over : new.lost ≡ true = ap (λ (v : View). v.lost) is in let no_way : true ≡ false = sym over ∙ live in cc)

pub fails-due : (old : View) (result : Bool) (new : View) → FailsBy old result new → DueAgain new
fails-due old result new f = due-after old new (failed_now old result new f)

-- ---- steps of the core

abbrev Late : List Entry → View → Type 0
Late h v = v.lost ≡ false → AllLate h v.calls.calls

late-stays : (h : List Entry) → Stays (Late h)
late-stays h = record {
  makes = λ old new number call m a. subst (Late h) (sym m.is) (λ live. all-made h old.calls.calls _ refl (a live));
  sets = λ old at number was state shelf there a. a;
}

late-like : (h : List Entry) (e : Entry) (old new : View) → (e ≡ Failed → ⊥) → new.calls.calls ≡ old.calls.calls → new.lost ≡ old.lost → Late h old → Late (h ++ one e) new
late-like h e old new other calls over a live = subst (AllLate (h ++ one e)) (sym calls) (all-on h e old.calls.calls other (a (sym over ∙ live)))

late-same : (h : List Entry) (e : Entry) (old new : View) → (e ≡ Failed → ⊥) → new ≡ old → Late h old → Late (h ++ one e) new
late-same h e old new other is a = late-like h e old new other (ap (λ (v : View). v.calls.calls) is) (ap (λ (v : View). v.lost) is) a

late-heard : (h : List Entry) (old : View) (rec : List ℕ) (new : View) → Heard old rec new → Late h old → Late (h ++ one (Delivered rec)) new
late-heard h old rec new (dropped none is) a = late-same h (Delivered rec) old new (λ f. cc) is a
late-heard h old rec new (replied xid call named waits t) a =
    hears-for-stay (Late (h ++ one (Delivered rec))) (late-stays (h ++ one (Delivered rec))) (taken_one old xid) new rec call.purpose t
    (λ live. all-on h (Delivered rec) (without xid old.calls.calls) (λ f. cc) (all-without h xid old.calls.calls (a live)))

pub late-step : (machine : ℕ → Op → Machine) (setup : Setup) (h : List Entry) (old : View) (e : Entry) (new : View) → StepsTo machine h old e new → (e ≡ Failed → ⊥) → Sound setup old → Late h old
    → Late (h ++ one e) new
late-step machine setup h old (Began lane line op) new t other s a =
    begins-stay (Late (h ++ one (Began lane line op))) (late-stays (h ++ one (Began lane line op))) old new lane (machine lane op) (last_reading 0 h)
    (λ state shelf live. all-on h (Began lane line op) old.calls.calls other (a live)) t.step
late-step machine setup h old (Answered lane line answer) new t other s a =
    let is = (answered_now old lane answer new t.answers).is.is in
    late-like h (Answered lane line answer) old new other (ap (λ (v : View). v.calls.calls) is) (ap (λ (v : View). v.lost) is) a
late-step machine setup h old (Sent bytes) new t other s a =
    let n = sent_now old bytes new t in
    let waits = at_sent old.calls.cred old.calls.first_xid (next_xid old.calls) n.xid old.calls.calls n.call s.calls.each n.due in
    let has : HasXid bytes n.xid = subst (λ (b : List ℕ). HasXid b n.xid) (sym n.bytes_is) (under setup old n.xid n.call s waits.before) in
    subst (Late (h ++ one (Sent bytes))) (sym n.is) (λ live. all-sent h bytes n.xid n.call old.calls.calls n.due has (a live))
late-step machine setup h old (Delivered bytes) new t other s a = late-heard h old bytes new (heard old bytes t.result new t.hears) a
late-step machine setup h old Failed new t other s a = absurd (other refl)
late-step machine setup h old (Dialed port) new is other s a = late-same h (Dialed port) old new other is a
late-step machine setup h old (Executed xid call reply) new is other s a = late-same h (Executed xid call reply) old new other is a
late-step machine setup h old (Foreign call reply) new is other s a = late-same h (Foreign call reply) old new other is a
late-step machine setup h old (Flushed file from len) new is other s a = late-same h (Flushed file from len) old new other is a
late-step machine setup h old (Reboot verf) new is other s a = late-same h (Reboot verf) old new other is a
late-step machine setup h old (Clock ms) new is other s a = late-same h (Clock ms) old new other is a

pub again-step : (machine : ℕ → Op → Machine) (setup : Setup) (h : List Entry) (old : View) (e : Entry) (new : View) → StepsTo machine h old e new → (e ≡ Failed → ⊥) → Sound setup old → SendsAgain h old
    → SendsAgain (h ++ one e) new
again-step machine setup h old e new t other s a = record { resends = resends-on h e other a.resends; late = late-step machine setup h old e new t other s a.late }

-- the attempts that run have ended
pub again-fails : (h : List Entry) (old : View) (result : Bool) (new : View) → FailsBy old result new → ((xid : ℕ) → Waits h xid (length h) → Excused h xid) → SendsAgain h old → SendsAgain (h ++ one Failed) new
again-fails h old result new f excused a = record {
  resends = resends-failed h a.resends excused;
  late = λ live. due-late (h ++ one Failed) new.calls.calls (fails-due old result new f live);
}

-- dials were made, after a failure
pub again-dials : (h k more : List Entry) (v : View) → k ≡ h ++ more → ((j : ℕ) → At k j Failed → length h ≤ j → (port : ℕ) × LatestIs k j (Dialed port)) → DueAgain v → SendsAgain h v → SendsAgain k v
again-dials h k more v is each due a = record { resends = resends-dials h k more is each a.resends; late = λ live. due-late k v.calls.calls (due live) }

-- the session is given up
pub again-lost : (h : List Entry) (v : View) → SendsAgain h v → SendsAgain h (lost v)
again-lost h v a = record { resends = a.resends; late = λ live. absurd (let no_way : true ≡ false = live in cc) }

-- ---- which calls a failure finds sent

-- where none is due each was
sent-all : (h : List Entry) (xid : ℕ) (call : Waiting Purpose) (es : Calls) → first_due es ≡ None → waiting_at xid es ≡ Some call → AllLate h es → SentLate h xid
sent-all h xid call [] none w a = absurd (cc)
sent-all h xid call (e ∷ es) none w a =
    let rest : first_due es ≡ None → waiting_at xid es ≡ Some call → SentLate h xid = λ n x. sent-all h xid call es n x a.1 in
    (elim e.1.due as (λ b. e.1.due ≡ b → SentLate h xid) [
      | true ↦ λ d. absurd (let no_way : Some e ≡ None = sym (if_true e.1.due (Some e) (first_due es) d) ∙ none in cc)
      | false ↦ λ d.
          (elim (nat_eq xid e.0) as (λ b. nat_eq xid e.0 ≡ b → SentLate h xid) [
            | true ↦ λ same. subst (SentLate h) (sym (eqb-true xid e.0 same)) (a.0 d)
            | false ↦ λ other. rest (sym (if_false e.1.due (Some e) (first_due es) d) ∙ none) (sym (if_false (nat_eq xid e.0) (Some e.1) (waiting_at xid es) other) ∙ w)
          ]) refl
    ]) refl

pub heard-excused : (h : List Entry) (v : View) → first_due v.calls.calls ≡ None → v.lost ≡ false → ((xid : ℕ) → Waits h xid (length h) → IsAwaited xid v) → Late h v
    → (xid : ℕ) → Waits h xid (length h) → Excused h xid
heard-excused h v none live known a xid w = let c = known xid w in inl (sent-all h xid c.0 v.calls.calls none c.1 (a live))

-- where one is sent each is that isn't made after it
sent-or-later : (h : List Entry) (cred : Cred) (low next other xid : ℕ) (first call : Waiting Purpose) (es : Calls) → AreSound cred low next es → first_due es ≡ Some (other, first)
    → waiting_at xid (sent es) ≡ Some call → AllLate h (sent es) → SentLate h xid ⊎ (other < xid)
sent-or-later h cred low next other xid first call [] s due w a = absurd (cc)
sent-or-later h cred low next other xid first call (e ∷ es) s due w a =
    let rest : first_due es ≡ Some (other, first) → waiting_at xid (sent es) ≡ Some call → AllLate h (sent es) → SentLate h xid ⊎ (other < xid) = sent-or-later h cred (e.0 + 1) next other xid first call es s.2 in
    (elim e.1.due as (λ b. e.1.due ≡ b → SentLate h xid ⊎ (other < xid)) [
      | true ↦ λ d.
          let is = if_true e.1.due ((e.0, sent_call e.1) ∷ es) (e ∷ sent es) d in
          let all : AllLate h ((e.0, sent_call e.1) ∷ es) = subst (AllLate h) is a in
          let waits : waiting_at xid ((e.0, sent_call e.1) ∷ es) ≡ Some call = sym (ap (waiting_at xid) is) ∙ w in
          let found : Some e ≡ Some (other, first) = sym (if_true e.1.due (Some e) (first_due es) d) ∙ due in
          let that : other ≡ e.0 = cc in
          (elim (nat_eq xid e.0) as (λ b. nat_eq xid e.0 ≡ b → SentLate h xid ⊎ (other < xid)) [
            | true ↦ λ same. inl (subst (SentLate h) (sym (eqb-true xid e.0 same)) (all.0 refl))
            | false ↦ λ differs.
                let late : e.0 + 1 ≤ xid = waits_late cred (e.0 + 1) next xid es call s.2 (sym (if_false (nat_eq xid e.0) (Some (sent_call e.1)) (waiting_at xid es) differs) ∙ waits) in
                inr (omega (arith, late, that))
          ]) refl
      | false ↦ λ d.
          let is = if_false e.1.due ((e.0, sent_call e.1) ∷ es) (e ∷ sent es) d in
          let all : AllLate h (e ∷ sent es) = subst (AllLate h) is a in
          let waits : waiting_at xid (e ∷ sent es) ≡ Some call = sym (ap (waiting_at xid) is) ∙ w in
          (elim (nat_eq xid e.0) as (λ b. nat_eq xid e.0 ≡ b → SentLate h xid ⊎ (other < xid)) [
            | true ↦ λ same. inl (subst (SentLate h) (sym (eqb-true xid e.0 same)) (all.0 d))
            | false ↦ λ differs. rest (sym (if_false e.1.due (Some e) (first_due es) d) ∙ due) (sym (if_false (nat_eq xid e.0) (Some e.1) (waiting_at xid (sent es)) differs) ∙ waits) all.1
          ]) refl
    ]) refl

-- the oldest call that was due is sent, in a session that isn't lost
sends-live : (old : View) (rec : List ℕ) (new : View) → SendsBy old (Some rec) new → old.lost ≡ false
sends-live old rec new t = by old.lost refl t
  where
    by : (b : Bool) → old.lost ≡ b → SendsIf b old (Some rec) new → old.lost ≡ false
    by true is s = absurd (let no_way : Some rec ≡ None = s.0 in cc)
    by false is s = is

pub sent-excused : (h : List Entry) (cred : Cred) (low next : ℕ) (old : View) (rec : List ℕ) (new : View) → SendsBy old (Some rec) new → AreSound cred low next old.calls.calls
    → ((xid : ℕ) (call : Waiting Purpose) → first_due old.calls.calls ≡ Some (xid, call) → rec ≡ call.bytes → HasXid rec xid)
    → LatestIs h (length h) (Sent rec) → ((xid : ℕ) → Waits h xid (length h) → IsAwaited xid new) → Late h new → (xid : ℕ) → Waits h xid (length h) → Excused h xid
sent-excused h cred low next old rec new t sound has latest known a xid w =
    let n = sent_now old rec new t in
    let c = known xid w in
    let calls : new.calls.calls ≡ sent old.calls.calls = ap (λ (v : View). v.calls.calls) n.is in
    let live : new.lost ≡ false = ap (λ (v : View). v.lost) n.is ∙ sends-live old rec new t in
    elim (sent-or-later h cred low next n.xid xid n.call c.0 old.calls.calls sound n.due (sym (ap (waiting_at xid) calls) ∙ c.1) (subst (AllLate h) calls (a live))) [
      | inl late ↦ inl late
      | inr later ↦ inr (sending n.xid rec latest (has n.xid n.call n.due n.bytes_is) later)
    ]
