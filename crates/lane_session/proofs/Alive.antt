-- As long as a line is under way attempts are left, and a call waits.
use Rattle.std.proofs.Common.{◌≡◌, ◌≢◌, ◌≤◌, ◌<◌, ◌+◌, ◌-◌, ◌^◌, inl, inr, ℕ, zero, suc, List, [], ◌∷◌, ◌++◌, length, map, position, remove, slice_get, slice_set, Bool, true, false, nat_eq, Option, Some, None, refl, sym, ap, subst, ◌∙◌, arith, append-nil}
use Rattle.std.proofs.lemmas.Bool.{eq-eqb}
use Rattle.std.proofs.lemmas.Option.{get_or_from_slice_get, slice_get_within}
use Rattle.rpc_message.specs.declared.cred.Cred.{Cred}
use Rattle.rpc_retry.specs.Sound.{IsSound, AreSound}
use Rattle.rpc_retry.specs.Held.{next_xid}
use Rattle.rpc_retry.specs.Waiting.{first_due, first_given_up, is_given_up, failed, made_call, sent, sent_call}
use Rattle.rpc_retry.specs.Fail.{failed_after}
use Rattle.rpc_retry.specs.declared.waiting.Waiting.{Waiting}
use Rattle.rpc_retry.proofs.Dues.{if_true, if_false, fails_everywhere}
use Rattle.world_model.specs.declared.answer.Answer.{Answer}
use Rattle.world_model.specs.declared.answer.Answer.TheVariants as answers
use Rattle.world_model.specs.declared.answer.Fault.TheVariants as faults
use Rattle.world_model.specs.declared.entry.Entry.{Entry}
use Rattle.world_model.specs.declared.entry.Entry.TheVariants.{Began, Answered, Sent, Delivered, Failed, Clock}
use Rattle.world_model.specs.declared.op.Op.{Op}
use Rattle.world_model.specs.Follows.{marks_of}
use Rattle.world_model.specs.Messages.{proc_of}
use Rattle.op_machines.specs.Begun.{machine_of}
use Rattle.op_machines.specs.Fits.{Fits}
use Rattle.op_machines.specs.declared.begun.Mounted.{Mounted}
use Rattle.op_machines.specs.declared.machine.Machine.{Machine}
use Rattle.client_core.specs.declared.lane.Lane.{Lane}
use Rattle.client_core.specs.declared.lane.Purpose.{Purpose}
use Rattle.client_core.specs.declared.lane.State.{State}
use Rattle.client_core.specs.declared.lane.State.TheVariants.{Busy, Over}
use Rattle.client_core.specs.Lanes.{busy_in, is_over, lost_lane, lost_state}
use Rattle.client_core.specs.Numbers.{IsIdle, IsOther, numbers_of}
use Rattle.client_core.specs.Steps.{AnswersBy, Begins, BeginsIf, FailsAs, SendsBy, WereSent, failed_view, lost, record_of}
use Rattle.client_core.specs.View.{View, turn_at}
use Rattle.core_facts.specs.Reaches.{IsOpenLine, MayHear, Reaches, StepsTo, goes, last_reading}
use Rattle.core_facts.specs.Resting.{NoneBusy}
use Rattle.core_facts.proofs.Cases.{answered_now, AnsweredNow, sent_now}
use Rattle.core_facts.proofs.Coming.{none-unanswered}
use Rattle.core_facts.proofs.Lists.{get-push, get-remove, skip, to-map, map-remove}
use Rattle.core_facts.proofs.Marks.{marks-push, began-own, began-other, answered-other}
use Rattle.core_facts.proofs.Walks.{Stays, begins-stay}
use Rattle.nfs_script.specs.declared.script.ScriptLine.{ScriptLine}
use Rattle.lane_session.specs.declared.lanes.Place.{Place}
use Rattle.lane_session.specs.declared.running.Session.{Session}
use Rattle.lane_session.specs.Holding.{AreQuiet, HasStory, HeadSent, IsAlive, IsHeld, IsLive, TriedSo, calls_left, to_come}
use Rattle.lane_session.specs.Places.{AreIdle, Ends, Seeks}
use Rattle.lane_session.specs.Running.{Fails, NoneOver, Takes, TakesBy, attempts_after, given_up}
use Rattle.lane_session.proofs.Cores.{Keeps, HeardSo, heard_none, heard_one, heard-so, sends-so, begins-so, lost-so}
use Rattle.lane_session.proofs.LaneNumbers.{may-hear}
use Rattle.lane_session.proofs.Placing.{get-set}
use Rattle.lane_session.proofs.Reaching.{now-read, sends-nothing}
use Rattle.lane_session.proofs.Sounds.{sound-hears}

-- ---- the oldest call that waits

pub head-sent : (es : List (ℕ × Waiting Purpose)) → es ≢ [] → first_due es ≡ None → HeadSent es
head-sent [] some none = some refl
head-sent (e ∷ es) some none = by e.1.due refl
  where
    by : (b : Bool) → e.1.due ≡ b → e.1.due ≡ false
    by true d = absurd (let no_way : Some e ≡ None = sym (if_true e.1.due (Some e) (first_due es) d) ∙ none in cc)
    by false d = d

-- where one was sent the oldest isn't due
pub head-of-sent : (es : List (ℕ × Waiting Purpose)) (e : ℕ × Waiting Purpose) → first_due es ≡ Some e → HeadSent (sent es)
head-of-sent [] e due = absurd (cc)
head-of-sent (x ∷ xs) e due = by x.1.due refl
  where
    by : (b : Bool) → x.1.due ≡ b → HeadSent (sent (x ∷ xs))
    by true d = subst HeadSent (sym (if_true x.1.due ((x.0, sent_call x.1) ∷ xs) (x ∷ sent xs) d)) refl
    by false d = subst HeadSent (sym (if_false x.1.due ((x.0, sent_call x.1) ∷ xs) (x ∷ sent xs) d)) d

tried-sent : (k : ℕ) (es : List (ℕ × Waiting Purpose)) → TriedSo k es → TriedSo k (sent es)
tried-sent k [] t = t
tried-sent k (e ∷ es) t = by e.1.due refl t
  where
    by : (b : Bool) → e.1.due ≡ b → 5 ≤ e.1.attempts + k + to_come b → TriedSo k (sent (e ∷ es))
    by true d u = subst (TriedSo k) (sym (if_true e.1.due ((e.0, sent_call e.1) ∷ es) (e ∷ sent es) d)) (let one : 5 ≤ e.1.attempts + k + 1 = u in omega (arith, one))
    by false d u = subst (TriedSo k) (sym (if_false e.1.due ((e.0, sent_call e.1) ∷ es) (e ∷ sent es) d)) t

still-running : (k : ℕ) (e : ℕ × Waiting Purpose) (es : List (ℕ × Waiting Purpose)) → e.1.due ≡ false → TriedSo k (e ∷ es) → 5 ≤ e.1.attempts + k
still-running k e es d t = let was : 5 ≤ e.1.attempts + k + 0 = subst (λ (b : Bool). 5 ≤ e.1.attempts + k + to_come b) d t in omega (arith, was)

tried-failed : (k : ℕ) (es : List (ℕ × Waiting Purpose)) → HeadSent es → 1 ≤ k → TriedSo k es → TriedSo (k - 1) (failed true es)
tried-failed k [] h some t = absurd h
tried-failed k (e ∷ es) h some t = let was = still-running k e es h t in omega (arith, was, some)

-- the last attempt of all has ended, so the oldest call is given up
tried-last : (cred : Cred) (low next : ℕ) (es : List (ℕ × Waiting Purpose)) → HeadSent es → AreSound cred low next es → TriedSo 1 es → first_given_up es ≡ None → ⊥
tried-last cred low next [] h s t none = h
tried-last cred low next (e ∷ es) h s t none =
    let was = still-running 1 e es h t in
    let most = s.1.tried in
    let four : e.1.attempts ≡ 4 = omega (arith, was, most) in
    let up : is_given_up e.1 ≡ true = eq-eqb e.1.attempts 4 four in
    absurd (let no_way : Some e.0 ≡ None = sym (if_true (is_given_up e.1) (Some e.0) (first_given_up es) up) ∙ none in cc)

-- once a reply came
pub tried-anew : (cred : Cred) (low next : ℕ) (es : List (ℕ × Waiting Purpose)) → AreSound cred low next es → TriedSo 4 es
tried-anew cred low next [] s = refl
tried-anew cred low next (e ∷ es) s = by e.1.due refl
  where
    by : (b : Bool) → e.1.due ≡ b → 5 ≤ e.1.attempts + 4 + to_come e.1.due
    by true d = subst (λ (b : Bool). 5 ≤ e.1.attempts + 4 + to_come b) (sym d) (omega arith)
    by false d = let one = s.1.given d in subst (λ (b : Bool). 5 ≤ e.1.attempts + 4 + to_come b) (sym d) (omega (arith, one))

tried-push : (k : ℕ) (es : List (ℕ × Waiting Purpose)) (xid : ℕ) (bytes : List ℕ) (purpose : Purpose) → TriedSo k es → TriedSo k (es ++ (xid, made_call bytes purpose) ∷ [])
tried-push k [] xid bytes purpose t = let four : k ≡ 4 = t in omega (arith, four)
tried-push k (e ∷ es) xid bytes purpose t = t

abbrev Tried : ℕ → View → Type 0
Tried k v = TriedSo k v.calls.calls

tried-stays : (k : ℕ) → Stays (Tried k)
tried-stays k = record {
  makes = λ old new number call m t. subst (Tried k) (sym m.is)
      (tried-push k old.calls.calls (next_xid old.calls) (record_of old call m.args) (record { lane = number; proc = proc_of call; sent = turn_at old }) t);
  sets = λ old at number was state shelf there t. t;
}

-- ---- operations that are under way

busy-lost : (state : State) (number : ℕ) → busy_in (Some (record { number = number; state = lost_state state })) ≡ false
busy-lost (Busy machine) number = refl
busy-lost (Over answer) number = refl

lost-not : (lanes : List Lane) (at number : ℕ) (machine : Machine) → slice_get (map lost_lane lanes) at ≡ Some (record { number = number; state = Busy machine }) → ⊥
lost-not [] at number machine there = absurd (cc)
lost-not (lane ∷ lanes) zero number machine there = let no_way : false ≡ true = sym (busy-lost lane.state lane.number) ∙ ap busy_in there in absurd cc
lost-not (lane ∷ lanes) (suc at) number machine there = lost-not lanes at number machine there

abbrev busy_lane : ℕ → Machine → Lane
busy_lane number machine = record { number = number; state = Busy machine }

abbrev over_lane : ℕ → Answer → Lane
over_lane number answer = record { number = number; state = Over answer }

busy-is : (number : ℕ) (machine : Machine) (own : ℕ) (answer : Answer) → busy_lane number machine ≡ over_lane own answer → ⊥
busy-is number machine own answer is =
    let no_way : true ≡ false = ap (λ (l : Lane). busy_in (Some l)) is in cc

-- the lane has no number that it isn't seen to have
other-all : (lanes : List Lane) (n : ℕ) → ((k : ℕ) (x : Lane) → slice_get lanes k ≡ Some x → x.number ≡ n → ⊥) → IsOther n (numbers_of lanes)
other-all [] n none = tt
other-all (x ∷ xs) n none = ((λ same. none zero x refl same), other-all xs n (λ k y there same. none (suc k) y there same))

-- where none is under way, and none has an answer, no lane has the number
none-other : (v : View) (n : ℕ) → NoneBusy v → position (is_over n) v.lanes ≡ None → IsOther n (numbers_of v.lanes)
none-other v n none told = other-all v.lanes n (λ k x there same. by k x there same x.state refl)
  where
    by : (k : ℕ) (x : Lane) → slice_get v.lanes k ≡ Some x → x.number ≡ n → (state : State) → x.state ≡ state → ⊥
    by k x there same (Busy machine) is = none k x.number machine (there ∙ ap (λ (t : State). Some (record { number = x.number; state = t })) is)
    by k x there same (Over answer) is =
        let lane : Lane = record { number = n; state = Over answer } in
        let here : slice_get v.lanes k ≡ Some lane = there ∙ ap (λ (t : State). Some (record { number = x.number; state = t })) is ∙ ap (λ (m : ℕ). Some (record { number = m; state = Over answer })) same in
        let fails = fails_everywhere (is_over n) v.lanes told lane k (slice_get_within v.lanes k lane here) in
        let not_over : is_over n lane ≡ false = subst (λ (l : Lane). is_over n l ≡ false) (get_or_from_slice_get v.lanes k lane lane here) fails in
        let own : nat_eq n n ≡ true = eq-eqb n n refl in
        let no_way : true ≡ false = sym own ∙ not_over in
        cc

-- ---- lines that are under way

open-on : (h : List Entry) (e : Entry) (lane line : ℕ) → marks_of lane (e ∷ []) ≡ [] → IsOpenLine h lane line → IsOpenLine (h ++ e ∷ []) lane line
open-on h e lane line silent o = record {
  op = o.op;
  before = o.before;
  is = marks-push lane h e ∙ ap (λ (t : List Entry). marks_of lane h ++ t) silent ∙ append-nil (marks_of lane h) ∙ o.is;
}

-- the story with one entry more, of no lane
story-on : (s t : Session) (e : Entry) → ((lane : ℕ) → marks_of lane (e ∷ []) ≡ []) → t.mounted ≡ s.mounted → t.lanes ≡ s.lanes → (st : HasStory s)
    → StepsTo (machine_of s.mounted) st.h s.core e t.core → HasStory t
story-on s t e silent mounted lanes st step = record {
  setup = st.setup;
  h = st.h ++ e ∷ [];
  reaches = subst (λ (m : Mounted). Reaches (machine_of m) st.setup (st.h ++ e ∷ []) t.core) (sym mounted) (goes (st.h ++ e ∷ []) st.h t.core s.core e st.reaches refl step);
  lines = λ n line p there own. open-on st.h e (suc n) line (silent (suc n)) (st.lines n line p (subst (λ (ps : List Place). slice_get ps n ≡ Some p) lanes there) own);
}

-- only these count
pub alive-like : (s t : Session) → t.mounted ≡ s.mounted → t.core ≡ s.core → t.lanes ≡ s.lanes → t.attempts ≡ s.attempts → IsAlive s → IsAlive t
alive-like s t mounted core lanes attempts a = record {
  story = λ found.
      let st = a.story (ap (λ (v : View). v.lost) (sym core) ∙ found) in
      record {
        setup = st.setup;
        h = st.h;
        reaches = subst (λ (v : View). Reaches (machine_of t.mounted) st.setup st.h v) (sym core)
            (subst (λ (m : Mounted). Reaches (machine_of m) st.setup st.h s.core) (sym mounted) st.reaches);
        lines = λ n line p there own. st.lines n line p (subst (λ (ps : List Place). slice_get ps n ≡ Some p) lanes there) own;
      };
  tried = λ found.
      subst (λ (v : View). TriedSo t.attempts v.calls.calls) (sym core)
      (subst (λ (k : ℕ). TriedSo k s.core.calls.calls) (sym attempts) (a.tried (ap (λ (v : View). v.lost) (sym core) ∙ found)));
  none = λ zero_is. ap (λ (v : View). v.lost) core ∙ a.none (sym attempts ∙ zero_is);
  over = λ gone. subst NoneBusy (sym core) (a.over (ap (λ (v : View). v.lost) (sym core) ∙ gone));
  busy = λ n line p there own other.
      a.busy n line p (subst (λ (ps : List Place). slice_get ps n ≡ Some p) lanes there) own (subst (λ (v : View). IsOther (suc n) (numbers_of v.lanes)) core other);
}

-- ---- the exchange with the server

pub alive-given-up : (s : Session) → IsAlive s → IsAlive (given_up s)
alive-given-up s a = record {
  story = λ found. absurd (let no_way : true ≡ false = found in cc);
  tried = λ found. absurd (let no_way : true ≡ false = found in cc);
  none = λ zero_is. refl;
  over = λ gone at number machine there. lost-not s.core.lanes at number machine there;
  busy = λ n line p there own other. a.busy n line p there own (subst (IsOther (suc n)) (lost-so s.core).numbers_are other);
}

-- the attempts that run have ended
pub alive-fails : (old new : Session) → 1 ≤ old.attempts → IsLive old → HeadSent old.core.calls.calls → Fails old new → IsAlive old → IsAlive new
alive-fails old new some live head f a = subst IsAlive (sym f.is) (by (first_given_up old.core.calls.calls) refl f.core)
  where
    was : old.core.lost ≡ false
    was = live.some some

    after : Bool → Session
    after b = record old { core = new.core; attempts = attempts_after b old.attempts }

    goes-on : first_given_up old.core.calls.calls ≡ None → new.core ≡ failed_view old.core → IsAlive (after true)
    goes-on none is =
        let calls : new.core.calls.calls ≡ failed true old.core.calls.calls =
        ap (λ (v : View). v.calls.calls) is ∙ ap (λ (o : Option ℕ). failed_after o old.core.calls.calls) none in
        let found_now : new.core.lost ≡ false = ap (λ (v : View). v.lost) is ∙ was in
        let fails : FailsAs (first_given_up old.core.calls.calls) old.core true new.core = subst (λ (o : Option ℕ). FailsAs o old.core true new.core) (sym none) (refl, is) in
        record {
          story = λ found. story-on old (after true) Failed (λ lane. refl) refl refl (a.story was) (inl (true, fails));
          tried = λ found. subst (TriedSo (old.attempts - 1)) (sym calls) (tried-failed old.attempts old.core.calls.calls head some (a.tried was));
          none = λ zero_is.
              let gone : old.attempts - 1 ≡ 0 = zero_is in
              let one : old.attempts ≡ 1 = omega (arith, gone, some) in
              absurd (tried-last old.core.calls.cred old.core.calls.first_xid (next_xid old.core.calls) old.core.calls.calls head live.calls.each
              (subst (λ (k : ℕ). TriedSo k old.core.calls.calls) one (a.tried was)) none);
          over = λ gone. absurd (let no_way : true ≡ false = sym gone ∙ found_now in cc);
          busy = λ n line p there own other. a.busy n line p there own (subst (λ (v : View). IsOther (suc n) (numbers_of v.lanes)) is other);
        }

    gives-up : new.core ≡ lost (failed_view old.core) → IsAlive (after false)
    gives-up is =
        let gone_now : new.core.lost ≡ true = ap (λ (v : View). v.lost) is in
        record {
          story = λ found. absurd (let no_way : true ≡ false = sym gone_now ∙ found in cc);
          tried = λ found. absurd (let no_way : true ≡ false = sym gone_now ∙ found in cc);
          none = λ zero_is. gone_now;
          over = λ gone. subst NoneBusy (sym is) (λ at number machine there. lost-not old.core.lanes at number machine there);
          busy = λ n line p there own other.
              a.busy n line p there own (subst (IsOther (suc n)) (lost-so (failed_view old.core)).numbers_are (subst (λ (v : View). IsOther (suc n) (numbers_of v.lanes)) is other));
        }

    by : (o : Option ℕ) → first_given_up old.core.calls.calls ≡ o → FailsAs o old.core f.result new.core → IsAlive (after f.result)
    by None none t = subst (λ (b : Bool). IsAlive (after b)) (sym t.0) (goes-on none t.1)
    by (Some xid) up t = subst (λ (b : Bool). IsAlive (after b)) (sym t.0) (gives-up t.1)

-- a record was sent, or none is due
pub alive-sends : (old new : Session) (result : Option (List ℕ)) → SendsBy old.core result new.core → new.mounted ≡ old.mounted → new.lanes ≡ old.lanes → new.attempts ≡ old.attempts → IsAlive old → IsAlive new
alive-sends old new None t mounted lanes attempts a = alive-like old new mounted (sends-nothing old.core new.core t) lanes attempts a
alive-sends old new (Some rec) t mounted lanes attempts a =
    let k = sends-so old.core (Some rec) new.core t in
    let n = sent_now old.core rec new.core t in
    record {
      story = λ found. story-on old new (Sent rec) (λ lane. refl) mounted lanes (a.story (sym k.lost_is ∙ found)) t;
      tried = λ found.
          subst (λ (v : View). TriedSo new.attempts v.calls.calls) (sym n.is)
          (subst (λ (m : ℕ). TriedSo m (sent old.core.calls.calls)) (sym attempts) (tried-sent old.attempts old.core.calls.calls (a.tried (sym k.lost_is ∙ found))));
      none = λ zero_is. k.lost_is ∙ a.none (sym attempts ∙ zero_is);
      over = λ gone at number machine there.
          a.over (sym k.lost_is ∙ gone) at number machine (subst (λ (ls : List Lane). slice_get ls at ≡ Some (record { number = number; state = Busy machine })) k.lanes there);
      busy = λ m line p there own other.
          a.busy m line p (subst (λ (ps : List Place). slice_get ps m ≡ Some p) lanes there) own (subst (λ (ls : List Lane). IsOther (suc m) (numbers_of ls)) k.lanes other);
    }

-- those that wait go on waiting
pub sends-wait : (old : View) (result : Option (List ℕ)) (new : View) → SendsBy old result new → old.calls.calls ≢ [] → new.calls.calls ≢ []
sends-wait old None new t some = subst (λ (v : View). v.calls.calls ≢ []) (sym (sends-nothing old new t)) some
sends-wait old (Some rec) new t some = subst (λ (v : View). v.calls.calls ≢ []) (sym (sent_now old rec new t).is) (sent-some old.calls.calls some)
  where
    sent-some : (es : List (ℕ × Waiting Purpose)) → es ≢ [] → sent es ≢ []
    sent-some [] some none = some refl
    sent-some (e ∷ es) some none = by e.1.due refl none
      where
        by : (b : Bool) → e.1.due ≡ b → sent (e ∷ es) ≡ [] → ⊥
        by true d none = absurd (let no_way : (e.0, sent_call e.1) ∷ es ≡ [] = sym (if_true e.1.due ((e.0, sent_call e.1) ∷ es) (e ∷ sent es) d) ∙ none in cc)
        by false d none = absurd (let no_way : e ∷ sent es ≡ [] = sym (if_false e.1.due ((e.0, sent_call e.1) ∷ es) (e ∷ sent es) d) ∙ none in cc)

-- a record came
pub alive-takes : (old new : Session) (rec : List ℕ) → 1 ≤ old.attempts → IsLive old → WereSent old.core.calls.calls → NoneOver old.core → Takes old rec new → IsAlive old → IsAlive new
alive-takes old new rec some live all_sent told t a = by t.result refl t.is (heard-so old.core rec t.result t.core live.calls.within t.hears)
  where
    was : old.core.lost ≡ false
    was = live.some some

    took : Session
    took = record old { core = t.core; attempts = 4; dropped = 0 }

    heard-one : Keeps (numbers_of old.core.lanes) old.core.begun old.core.lost (calls_left old.core - 1) t.core → IsAlive took
    heard-one k =
        let sound : IsSound t.core.calls = sound-hears old.core rec t.result t.core t.hears live.calls in
        let found_now : t.core.lost ≡ false = k.lost_is ∙ was in
        let st = a.story was in
        let may : MayHear old.core = may-hear (machine_of old.mounted) st.setup st.h old.core st.reaches all_sent told in
        record {
          story = λ found. story-on old took (Delivered rec) (λ lane. refl) refl refl st (record { may = may; result = t.result; hears = t.hears });
          tried = λ found. tried-anew t.core.calls.cred t.core.calls.first_xid (next_xid t.core.calls) t.core.calls.calls sound.each;
          none = λ zero_is. absurd (omega (arith, zero_is));
          over = λ gone. absurd (let no_way : true ≡ false = sym gone ∙ found_now in cc);
          busy = λ n line p there own other. a.busy n line p there own (subst (IsOther (suc n)) k.numbers_are other);
        }

    dropped-one : t.core ≡ old.core → IsAlive (record old { core = t.core; dropped = old.dropped + 1 })
    dropped-one is = alive-like old (record old { core = t.core; dropped = old.dropped + 1 }) refl is refl refl a

    by : (b : Bool) → t.result ≡ b → TakesBy old b t.core new → HeardSo old.core b t.core → IsAlive new
    by true r is (heard_none no_way same) = absurd (cc)
    by true r is (heard_one yes_way k one) = subst IsAlive (sym is) (heard-one k)
    by false r (inl p) (heard_none no_way same) = subst IsAlive (sym p.1) (dropped-one same)
    by false r (inr p) (heard_none no_way same) = subst IsAlive (sym p.1) (alive-given-up (record old { core = t.core; dropped = old.dropped + 1 }) (dropped-one same))
    by false r is (heard_one no_way k one) = absurd (cc)

-- ---- a line begins

other-front : (n : ℕ) (ns : List ℕ) (m : ℕ) → IsOther n (ns ++ m ∷ []) → IsOther n ns
other-front n [] m o = tt
other-front n (x ∷ xs) m o = (o.0, other-front n xs m o.1)

other-own : (n : ℕ) (ns : List ℕ) → IsOther n (ns ++ n ∷ []) → ⊥
other-own n [] o = o.0 refl
other-own n (x ∷ xs) o = other-own n xs o.1

begun-over : (b : Bool) (old : View) (lane : ℕ) (machine : Machine) (now : ℕ) (new : View) → old.lost ≡ b → BeginsIf b old lane machine now new → NoneBusy old → old.lost ≡ true → NoneBusy new
begun-over true old lane machine now new was t none gone at number busy there =
    elim (get-push old.lanes (record { number = lane; state = Over (answers.Refused faults.Lost) }) at (record { number = number; state = Busy busy }) (subst (λ (v : View). slice_get v.lanes at ≡ Some (record { number = number; state = Busy busy })) t there)) [
      | inl before ↦ none at number busy before
      | inr own ↦ busy-is number busy lane (answers.Refused faults.Lost) own.1
    ]
begun-over false old lane machine now new was t none gone at number busy there = absurd (let no_way : true ≡ false = sym gone ∙ was in cc)

module _ (lane line : ℕ) (op : Op) (old : Session) (ms : ℕ) (core : View) (lanes : List Place) (q : Place) (least : 1 ≤ lane) (idle : IsIdle lane old.core.lanes) (few : old.core.begun < 2 ^ 32)
    (fits : Fits (machine_of old.mounted lane op)) (within : old.core.calls.made ≤ old.core.calls.limit) (begun : Begins old.core lane (machine_of old.mounted lane op) ms core)
    (line_is : q.line ≡ Some line) (set : lanes ≡ slice_set old.lanes (lane - 1) q) where
  abbrev now : Session
  now = record old { core = core; lanes = lanes }

  opened : (h : List Entry) → IsOpenLine (h ++ Began lane line op ∷ []) lane line
  opened h = record { op = op; before = marks_of lane h; is = marks-push lane h (Began lane line op) ∙ ap (λ (t : List Entry). marks_of lane h ++ t) (began-own lane line op) }

  one-line : (p : Place) (other : ℕ) → p ≡ q → p.line ≡ Some other → other ≡ line
  one-line p other is own = let both : Some line ≡ Some other = sym line_is ∙ ap (λ (r : Place). r.line) (sym is) ∙ own in cc

  begun-story : HasStory old → HasStory now
  begun-story st =
      let h1 : List Entry = st.h ++ Clock ms ∷ [] in
      let step : Begins old.core lane (machine_of old.mounted lane op) (last_reading 0 h1) core =
      subst (λ (n : ℕ). Begins old.core lane (machine_of old.mounted lane op) n core) (sym (now-read st.h 0 ms)) begun in
      let read : Reaches (machine_of old.mounted) st.setup h1 old.core = goes h1 st.h old.core old.core (Clock ms) st.reaches refl refl in
      record {
        setup = st.setup;
        h = h1 ++ Began lane line op ∷ [];
        reaches = goes (h1 ++ Began lane line op ∷ []) h1 core old.core (Began lane line op) read refl (record { idle = idle; few = few; fits = fits; step = step });
        lines = λ n other p there own. elim (get-set old.lanes (lane - 1) n q p (subst (λ (ps : List Place). slice_get ps n ≡ Some p) set there)) [
          | inl is ↦ subst (λ (m : ℕ). IsOpenLine (h1 ++ Began lane line op ∷ []) m other) (let i = is.0 in omega (arith, i, least))
              (subst (λ (l : ℕ). IsOpenLine (h1 ++ Began lane line op ∷ []) lane l) (sym (one-line p other is.1 own)) (opened h1))
          | inr is ↦ open-on h1 (Began lane line op) (suc n) other (began-other (suc n) lane line op (λ same. is.0 (omega (arith, same))))
              (open-on st.h (Clock ms) (suc n) other refl (st.lines n other p is.1 own))
        ];
      }

  pub alive-begins : IsAlive old → IsAlive now
  alive-begins a =
      let k = begins-so old.core lane (machine_of old.mounted lane op) ms core within begun in
      record {
        story = λ found. begun-story (a.story (sym k.lost_is ∙ found));
        tried = λ found.
            let t = a.tried (sym k.lost_is ∙ found) in
            begins-stay (Tried old.attempts) (tried-stays old.attempts) old.core core lane (machine_of old.mounted lane op) ms (λ state shelf. t) begun;
        none = λ zero_is. k.lost_is ∙ a.none zero_is;
        over = λ gone. let was = sym k.lost_is ∙ gone in begun-over old.core.lost old.core lane (machine_of old.mounted lane op) ms core refl begun (a.over was) was;
        busy = λ n other p there own none. elim (get-set old.lanes (lane - 1) n q p (subst (λ (ps : List Place). slice_get ps n ≡ Some p) set there)) [
          | inl is ↦ other-own lane (numbers_of old.core.lanes) (subst (λ (m : ℕ). IsOther m (numbers_of old.core.lanes ++ lane ∷ [])) (let i = is.0 in omega (arith, i, least))
              (subst (IsOther (suc n)) k.numbers_are none))
          | inr is ↦ a.busy n other p is.1 own (other-front (suc n) (numbers_of old.core.lanes) lane (subst (IsOther (suc n)) k.numbers_are none))
        ];
      }

-- ---- an answer is told

other-back : (n : ℕ) (ns : List ℕ) (at m : ℕ) → slice_get ns at ≡ Some m → m ≢ n → IsOther n (remove ns at) → IsOther n ns
other-back n [] at m there differs o = tt
other-back n (x ∷ xs) zero m there differs o = let is : x ≡ m = cc in ((λ same. differs (sym is ∙ same)), o)
other-back n (x ∷ xs) (suc at) m there differs o = (o.0, other-back n xs at m there differs o.1)

pub alive-answers : (lane line : ℕ) (answer : Answer) (old : Session) (core : View) (lanes : List Place) (status : ℕ) → 1 ≤ lane → (before : Place) → slice_get old.lanes (lane - 1) ≡ Some before → before.line ≡ Some line
    → AnswersBy old.core lane (Some answer) core → Ends lane old.lanes lanes → IsAlive old → IsAlive (record old { core = core; lanes = lanes; status = status })
alive-answers lane line answer old core lanes status least before there line_is told ends a = record {
  story = λ found. story (a.story (sym lost_is ∙ found));
  tried = λ found. subst (λ (v : View). TriedSo old.attempts v.calls.calls) (sym core_is) (a.tried (sym lost_is ∙ found));
  none = λ zero_is. lost_is ∙ a.none zero_is;
  over = λ gone at number machine here.
      a.over (sym lost_is ∙ gone) (skip n.at at) number machine
      (get-remove old.core.lanes n.at at (record { number = number; state = Busy machine }) (subst (λ (v : View). slice_get v.lanes at ≡ Some (record { number = number; state = Busy machine })) core_is here));
  busy = λ m other p here own none. elim (get-set old.lanes (lane - 1) m q p (subst (λ (ps : List Place). slice_get ps m ≡ Some p) ends.is here)) [
    | inl is ↦ ended p other is.1 own
    | inr is ↦ a.busy m other p is.1 own (other-back (suc m) (numbers_of old.core.lanes) n.at lane own_number (λ same. is.0 (omega (arith, same)))
        (subst (IsOther (suc m)) numbers_are none))
  ];
}
  where
    q : Place
    q = record { next = ends.before.next; line = None }

    n : AnsweredNow old.core lane answer core
    n = answered_now old.core lane answer core told

    core_is : core ≡ record old.core { lanes = remove old.core.lanes n.at }
    core_is = n.is.is

    lost_is : core.lost ≡ old.core.lost
    lost_is = ap (λ (v : View). v.lost) core_is

    own_number : slice_get (numbers_of old.core.lanes) n.at ≡ Some lane
    own_number = to-map (λ (l : Lane). l.number) old.core.lanes n.at (record { number = lane; state = Over n.is.answer }) n.is.there

    numbers_are : numbers_of core.lanes ≡ remove (numbers_of old.core.lanes) n.at
    numbers_are = ap (λ (v : View). numbers_of v.lanes) core_is ∙ map-remove (λ (l : Lane). l.number) old.core.lanes n.at

    ended : (p : Place) (other : ℕ) → p ≡ q → p.line ≡ Some other → ⊥
    ended p other is own = absurd (let no_way : Some other ≡ None = sym own ∙ ap (λ (r : Place). r.line) is in cc)

    story : HasStory old → HasStory (record old { core = core; lanes = lanes; status = status })
    story st =
        let e : Entry = Answered lane line answer in
        let open_line : IsOpenLine st.h lane line = subst (λ (m : ℕ). IsOpenLine st.h m line) (omega (arith, least)) (st.lines (lane - 1) line before there line_is) in
        record {
          setup = st.setup;
          h = st.h ++ e ∷ [];
          reaches = goes (st.h ++ e ∷ []) st.h core old.core e st.reaches refl (record { line_is = open_line; answers = told });
          lines = λ m other p here own. elim (get-set old.lanes (lane - 1) m q p (subst (λ (ps : List Place). slice_get ps m ≡ Some p) ends.is here)) [
            | inl is ↦ absurd (ended p other is.1 own)
            | inr is ↦ open-on st.h e (suc m) other (answered-other (suc m) lane line answer (λ same. is.0 (omega (arith, same)))) (st.lines m other p is.1 own)
          ];
        }

-- ---- no line is left

pub alive-rests : (script : List ScriptLine) (lane : ℕ) (old : Session) (lanes : List Place) → Seeks script lane old.lanes None lanes → IsAlive old → IsAlive (record old { lanes = lanes })
alive-rests script lane old lanes seeks a = record {
  story = λ found. let st = a.story found in record { setup = st.setup; h = st.h; reaches = st.reaches; lines = λ n line p there own. let b = before n line p there own in st.lines n line b.0 b.1 b.2 };
  tried = a.tried;
  none = a.none;
  over = a.over;
  busy = λ n line p there own none. let b = before n line p there own in a.busy n line b.0 b.1 b.2 none;
}
  where
    q : Place
    q = record { next = seeks.at; line = seeks.before.line }

    before : (n line : ℕ) (p : Place) → slice_get lanes n ≡ Some p → p.line ≡ Some line → (b : Place) × (slice_get old.lanes n ≡ Some b) × (b.line ≡ Some line)
    before n line p there own = elim (get-set old.lanes (lane - 1) n q p (subst (λ (ps : List Place). slice_get ps n ≡ Some p) seeks.is there)) [
      | inl is ↦ (seeks.before, subst (λ (m : ℕ). slice_get old.lanes m ≡ Some seeks.before) (sym is.0) seeks.there, ap (λ (r : Place). r.line) (sym is.1) ∙ own)
      | inr is ↦ (p, is.1, own)
    ]

-- ---- what that comes to

-- where no operation is under way, and each answer was told, no line is
none-lines : (script : List ScriptLine) (s : Session) → IsHeld script s → AreQuiet script s → NoneBusy s.core → AreIdle s.lanes
none-lines script s held quiet none n p there = by p.line refl
  where
    by : (o : Option ℕ) → p.line ≡ o → p.line ≡ None
    by None e = e
    by (Some line) e =
        let long = held.seated.sixteen in
        let low : n < length s.lanes = slice_get_within s.lanes n p there in
        absurd (held.alive.busy n line p there e (none-other s.core (suc n) none (quiet n (omega (arith, low, long))).told))

-- a line is under way: attempts are left, and a call waits
pub may-exchange : (script : List ScriptLine) (s : Session) → IsHeld script s → AreQuiet script s → (AreIdle s.lanes → ⊥) → (1 ≤ s.attempts) × (s.core.calls.calls ≢ [])
may-exchange script s held quiet busy = (some s.attempts refl, waits)
  where
    a : IsAlive s
    a = held.alive

    some : (k : ℕ) → s.attempts ≡ k → 1 ≤ s.attempts
    some zero is = absurd (busy (none-lines script s held quiet (a.over (a.none is))))
    some (suc k) is = omega (arith, is)

    none-busy : s.core.calls.calls ≡ [] → (b : Bool) → s.core.lost ≡ b → NoneBusy s.core
    none-busy empty true gone = a.over gone
    none-busy empty false found = let st = a.story found in none-unanswered s.mounted st.setup st.h s.core st.reaches empty

    waits : s.core.calls.calls ≢ []
    waits empty = busy (none-lines script s held quiet (none-busy empty s.core.lost refl))
