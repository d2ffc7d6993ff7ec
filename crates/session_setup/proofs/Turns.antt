-- What each function of an exchange leads to.
use Rattle.std.proofs.Common.{◌≡◌, ◌≤◌, ◌<◌, ◌+◌, ℕ, suc, true, false, eqb, List, [], ◌∷◌, ◌++◌, length, Some, None, Result, Ok, Err, refl, sym, ap, subst, ◌∙◌, arith}
use Rattle.std.specs.Prelude.{option_map}
use Rattle.std.proofs.lemmas.Bool.{eqb-true, eqb-false}
use Rattle.rpc_message.specs.Call.{xid_at}
use Rattle.rpc_retry.specs.declared.answers.AfterFailure.{AfterFailure}
use Rattle.rpc_retry.specs.declared.answers.AfterFailure.TheVariants.{GivenUp, Resend}
use Rattle.rpc_retry.specs.declared.waiting.Waiting.{Waiting}
use Rattle.rpc_retry.specs.Held.{Held}
use Rattle.rpc_retry.specs.Waiting.{first_due, sent, first_given_up, waiting_at}
use Rattle.rpc_retry.specs.Take.{awaited}
use Rattle.rpc_retry.specs.Fail.{answer_after, after_failure}
use Rattle.outside.specs.declared.link.LinkFault.{LinkFault}
use Rattle.outside.specs.declared.link.LinkFault.TheVariants as faults
use Rattle.outside.specs.Link.{sent_as}
use Rattle.world_model.specs.declared.entry.Entry.{Entry}
use Rattle.world_model.specs.declared.entry.Entry.TheVariants.{Sent, Delivered, Failed}
use Rattle.world_model.specs.History.{History}
use Rattle.world_model.specs.Lost.{dropped as dropped_many}
use Rattle.world_model.specs.Messages.{HasXid}
use Rattle.world_model.specs.Mounts.{Origin}
use Rattle.world_model.specs.Rows.{DropRun}
use Rattle.world_model.specs.Told.{Adds}
use Rattle.world_model.proofs.Histories.{quietly, steps_on, steps_on_twice}
use Rattle.session_setup.specs.declared.exchange.Heard.{Heard as Outcome}
use Rattle.session_setup.specs.declared.exchange.Heard.TheVariants as heard
use Rattle.session_setup.specs.declared.stop.Stop.{Stop}
use Rattle.session_setup.specs.declared.stop.Stop.TheVariants as stops
use Rattle.session_setup.specs.Exchanges.{IsStill, IsBase, IsIdle, Asks, Tried, Runs, IsDue, IsRunning, IsEnded, IsAnswered, IsLostCall, KeepsCalls, Connects, one_call, Transmits, HearsTo, HearsOneTo, HearsOne, Awaits, Attempts, GoesOnTo, EndsAttempt, GoesOn, TriesTo, Tries, ExchangesTo, Exchanges}
use Rattle.session_setup.specs.Takings.{AnswersSo}
use Rattle.session_setup.proofs.Stills.{StepsStill, still_by, quiet_of, plain_still, deaf_still}
use Rattle.session_setup.proofs.Bases.{base_plain, base_keeps}
use Rattle.session_setup.proofs.Attempts.{asks_still, asks_sent, asks_drop, tried_still, tried_sent, tried_unanswered, tried_lost, tried_was, runs_still, runs_failed, runs_was, runs_unanswered, runs_taken, IsTaken, taken_still}

-- ---- states of a call, over one history

module _ (o : Origin) (x : ℕ) (r : List ℕ) (n d : ℕ) (c : Held (Unit {0})) where
  abbrev pub Due : List Entry → Type 0
  Due h = Asks o x r n d c h × Tried h x r n

  abbrev pub Running : List Entry → Type 0
  Running h = Asks o x r (n + 1) d c h × Runs h x r n

  abbrev pub Ended : List Entry → Type 0
  Ended h = Asks o x r (n + 1) d c h × Tried h x r (n + 1)

  pub due_still : StepsStill Due
  due_still h e s p = (asks_still o x r n d c h e s p.0, tried_still x r n h e s p.1)

  pub running_still : StepsStill Running
  running_still h e s p = (asks_still o x r (n + 1) d c h e s p.0, runs_still x r n h e (λ b is has. deaf_still e s b is) p.1)

  pub ended_still : StepsStill Ended
  ended_still h e s p = (asks_still o x r (n + 1) d c h e s p.0, tried_still x r (n + 1) h e s p.1)

  pub base_still : StepsStill (IsBase o c)
  base_still h e s p = base_plain o c h e (plain_still e s) p

  due_sent : n < 4 → (h : List Entry) → Due h → Running (h ++ Sent r ∷ [])
  due_sent few h p = (asks_sent o x r n d c h few (λ g reply a. tried_unanswered h x r n g reply p.1 a) p.0, tried_sent h x r n p.0.under p.1)

  running_failed : (h : List Entry) → Running h → Ended (h ++ Failed ∷ [])
  running_failed h p = (asks_still o x r (n + 1) d c h Failed tt p.0, runs_failed h x r n p.0.under p.1)

  pub transmitted : (a b : History) → n < 4 → Adds a b (Sent r ∷ []) → Due a.entries → Running b.entries
  transmitted a b few p due = steps_on Due Running a b (Sent r) (quiet_of Due due_still) (quiet_of Running running_still) (due_sent few) p due

  pub transmit_failed : (a b : History) → n < 4 → Adds a b (Sent r ∷ Failed ∷ []) → Due a.entries → Ended b.entries
  transmit_failed a b few p due =
      steps_on_twice Due Running Ended a b (Sent r) Failed (quiet_of Due due_still) (quiet_of Running running_still) (quiet_of Ended ended_still) (due_sent few) running_failed p due

  pub came_none : (a b : History) → Adds a b [] → IsBase o c a.entries → IsBase o c b.entries
  came_none a b p base = quietly (IsBase o c) a b (quiet_of (IsBase o c) base_still) p base

  pub came_failed : (a b : History) → Adds a b (Failed ∷ []) → Running a.entries → Ended b.entries
  came_failed a b p running = steps_on Running Ended a b Failed (quiet_of Running running_still) (quiet_of Ended ended_still) running_failed p running

  pub came_taken : (a b : History) (bytes : List ℕ) → HasXid bytes x → Adds a b (Delivered bytes ∷ []) → Running a.entries → IsTaken o x r bytes c b.entries
  came_taken a b bytes has p running =
      steps_on Running (IsTaken o x r bytes c) a b (Delivered bytes) (quiet_of Running running_still) (quiet_of (IsTaken o x r bytes c) (taken_still o x r bytes c))
      (λ h q. runs_taken o x r bytes n (n + 1) d c h has q.0 q.1) p running

-- another record came
pub came_other : (o : Origin) (x : ℕ) (r : List ℕ) (n d : ℕ) (c : Held (Unit {0})) (a b : History) (bytes : List ℕ) → (HasXid bytes x → ⊥) → Adds a b (Delivered bytes ∷ []) → Running o x r n d c a.entries → Running o x r n (suc d) c b.entries
came_other o x r n d c a b bytes lacks p running =
    steps_on (Running o x r n d c) (Running o x r n (suc d) c) a b (Delivered bytes) (quiet_of (Running o x r n d c) (running_still o x r n d c)) (quiet_of (Running o x r n (suc d) c) (running_still o x r n (suc d) c))
    (λ h q. (asks_drop o x r (n + 1) d c h bytes lacks q.0, runs_still x r n h (Delivered bytes) (λ k is has. lacks (subst (λ (t : List ℕ). HasXid t x) (delivered_is k bytes (sym is)) has)) q.1)) p running
  where
    delivered_is : (k l : List ℕ) → Delivered k ≡ Delivered l → k ≡ l
    delivered_is k l e = cc

-- ---- as the waiting calls go on

pub asks_keeps : (o : Origin) (x : ℕ) (r : List ℕ) (t d : ℕ) (c k : Held (Unit {0})) (h : List Entry) → KeepsCalls c k → Asks o x r t d c h → Asks o x r t d k h
asks_keeps o x r t d c k h s a = record {
  base = base_keeps o c k h s a.base;
  may = rw (s.cred, s.first_xid) a.may;
  under = a.under;
  low = rw s.first_xid a.low;
  high = rw (s.first_xid, s.made) a.high;
  mine = a.mine;
  others = a.others;
  each = rw (s.first_xid, s.made) a.each;
  times_is = a.times_is;
  drops = a.drops;
}

-- ---- sending

some_is : (a b : List ℕ) → Some a ≡ Some b → a ≡ b
some_is a b e = cc

pub transmits_by : (old new : Held (Unit {0})) (result : Result (Unit {0}) LinkFault) (rec : List ℕ) (a b : History) → KeepsCalls old new → new.calls ≡ sent old.calls
    → Some rec ≡ option_map (λ e. e.1.bytes) (first_due old.calls) → Adds a b (sent_as rec result) → Transmits old new result a.entries b.entries
transmits_by old new result rec a b keeps left gives p o x r n d due = by_result result p
  where
    is : rec ≡ r
    is = some_is rec r (gives ∙ rw due.calls refl)

    calls : new.calls ≡ one_call x r false (n + 1) true
    calls = left ∙ rw due.calls refl

    state : Due o x r n d old a.entries
    state = (due.asks, due.tried)

    by_result : (result : Result (Unit {0}) LinkFault) → Adds a b (sent_as rec result) → Rattle.session_setup.specs.Exchanges.TransmitsTo o x r n d new result b.entries
    by_result (Ok u) p =
        let s = transmitted o x r n d old a b due.few (subst (λ (t : List ℕ). Adds a b (Sent t ∷ [])) is p) state in
        record { calls = calls; few = due.few; asks = asks_keeps o x r (n + 1) d old new b.entries keeps s.0; runs = s.1 }
    by_result (Err faults.Failed) p =
        let s = transmit_failed o x r n d old a b due.few (subst (λ (t : List ℕ). Adds a b (Sent t ∷ Failed ∷ [])) is p) state in
        record { calls = calls; few = due.few; asks = asks_keeps o x r (n + 1) d old new b.entries keeps s.0; tried = s.1 }
    by_result (Err faults.Memory) p = base_keeps o old new b.entries keeps (came_none o x r n d old a b p due.asks.base)

-- none is due only where the call isn't
pub transmits_none : (old : Held (Unit {0})) (h k : List Entry) → first_due old.calls ≡ None → Transmits old old (Ok tt) h k
transmits_none old h k none o x r n d due = absurd (differs (x, record { bytes = r; purpose = tt; due = true; attempts = n; running = false }) (rw due.calls at none))
  where
    differs : (e : ℕ × Waiting (Unit {0})) → Some e ≡ None → ⊥
    differs e s = absurd cc

-- ---- receiving

-- the xid of a call that waits is its own
only_xid : (x y : ℕ) (w v : Waiting (Unit {0})) → waiting_at y ((x, w) ∷ []) ≡ Some v → y ≡ x
only_xid x y w v e =
    elim (eqb y x) as (λ t. eqb y x ≡ t → y ≡ x) [
      | true ↦ λ s. eqb-true y x s
      | false ↦ λ s. absurd (nothing v (rw s at e))
    ] refl
  where
    nothing : (v : Waiting (Unit {0})) → None ≡ Some v → ⊥
    nothing v e = absurd cc

same_eqb : (x : ℕ) → eqb x x ≡ true
same_eqb x = elim (eqb x x) as (λ t. eqb x x ≡ t → eqb x x ≡ true) [ true ↦ λ e. e | false ↦ λ e. absurd (eqb-false x x e refl) ] refl

-- a record that isn't taken lacks the xid that waits
pub lacks_xid : (x : ℕ) (w : Waiting (Unit {0})) (bytes : List ℕ) → awaited (xid_at bytes) ((x, w) ∷ []) ≡ None → HasXid bytes x → ⊥
lacks_xid x w bytes none has = nothing w (rw (has, same_eqb x) at none)
  where
    nothing : (v : Waiting (Unit {0})) → Some v ≡ None → ⊥
    nothing v e = absurd cc

-- the record answers the call
pub hears_reply : (old new : Held (Unit {0})) (bytes : List ℕ) (a b : History) → KeepsCalls old new → AnswersSo old bytes true new → Adds a b (Delivered bytes ∷ []) → HearsOne old new (Some (heard.Reply bytes)) a.entries b.entries
hears_reply old new bytes a b keeps t p o x r n d running = record {
  idle = record { base = base_keeps o old new b.entries keeps s.base; none = none; idle = s.idle; each = rw (keeps.first_xid, keeps.made) s.each };
  under = has;
  heard = s.heard;
}
  where
    same : t.xid ≡ x
    same = only_xid x t.xid (record { bytes = r; purpose = tt; due = false; attempts = n + 1; running = true }) t.call (rw running.calls at t.waited)

    has : HasXid bytes x
    has = subst (λ (m : ℕ). HasXid bytes m) same t.under

    none : new.calls ≡ []
    none = t.left ∙ rw (running.calls, same, same_eqb x) refl

    s : IsTaken o x r bytes old b.entries
    s = came_taken o x r n d old a b bytes has p (running.asks, running.runs)

-- it doesn't
pub hears_other : (old new : Held (Unit {0})) (bytes : List ℕ) (a b : History) → KeepsCalls old new → AnswersSo old bytes false new → Adds a b (Delivered bytes ∷ []) → HearsOne old new None a.entries b.entries
hears_other old new bytes a b keeps t p o x r n d running =
    let lacks = lacks_xid x (record { bytes = r; purpose = tt; due = false; attempts = n + 1; running = true }) bytes (rw running.calls at t.0) in
    let s = came_other o x r n d old a b bytes lacks p (running.asks, running.runs) in
    record { calls = ap (λ (k : Held (Unit {0})). k.calls) t.1 ∙ running.calls; few = running.few; asks = asks_keeps o x r (n + 1) (suc d) old new b.entries keeps s.0; runs = s.1 }

pub hears_failed : (old : Held (Unit {0})) (a b : History) → Adds a b (Failed ∷ []) → (o : Origin) (x : ℕ) (r : List ℕ) (n d : ℕ) → IsRunning o x r n d old a.entries → IsEnded o x r n d old b.entries
hears_failed old a b p o x r n d running =
    let s = came_failed o x r n d old a b p (running.asks, running.runs) in
    record { calls = running.calls; few = running.few; asks = s.0; tried = s.1 }

pub hears_memory : (old : Held (Unit {0})) (a b : History) → Adds a b [] → (o : Origin) (x : ℕ) (r : List ℕ) (n d : ℕ) → IsRunning o x r n d old a.entries → IsBase o old b.entries
hears_memory old a b p o x r n d running = came_none o x r n d old a b p running.asks.base

-- ---- waiting

-- the call waits on, while records are dropped
abbrev pub WaitsOn : Held (Unit {0}) → Held (Unit {0}) → ℕ → ℕ → List Entry → List Entry → Type 0
WaitsOn old new before after h k = (o : Origin) (x : ℕ) (r : List ℕ) (n : ℕ) → IsRunning o x r n before old h → IsRunning o x r n after new k

pub waits_none : (old : Held (Unit {0})) (d : ℕ) (h : List Entry) → WaitsOn old old d d h h
waits_none old d h o x r n running = running

pub waits_then : (old mid new : Held (Unit {0})) (before d : ℕ) (h k l : List Entry) → WaitsOn old mid before d h k → HearsOne mid new None k l → WaitsOn old new before (d + 1) h l
waits_then old mid new before d h k l w hears o x r n running = subst (λ (m : ℕ). IsRunning o x r n m new l) (let e : suc d ≡ d + 1 = omega arith in e) (hears o x r n d (w o x r n running))

pub awaits_heard : (old mid new : Held (Unit {0})) (before d : ℕ) (outcome : Outcome) (h k l : List Entry) → WaitsOn old mid before d h k → HearsOne mid new (Some outcome) k l → Awaits old new before d outcome h l
awaits_heard old mid new before d outcome h k l w hears o x r n running = hears o x r n d (w o x r n running)

-- so many were dropped that the session is lost
pub lost_by_drops : (old : Held (Unit {0})) (h : List Entry) (o : Origin) (x : ℕ) (r : List ℕ) (n d : ℕ) → d ≡ 65536 → IsRunning o x r n d old h → IsLostCall o x old h
lost_by_drops old h o x r n d many running = record {
  base = running.asks.base;
  loses = dropped_many (subst (λ (m : ℕ). DropRun h m (length h)) many running.asks.drops);
  unanswered = λ g reply a. runs_unanswered h x r n g reply running.runs a;
  was_sent = runs_was h x r n running.runs;
}

pub awaits_lost : (old new : Held (Unit {0})) (before d : ℕ) (h k : List Entry) → d ≡ 65536 → WaitsOn old new before d h k → Awaits old new before d heard.Lost h k
awaits_lost old new before d h k many w o x r n running = lost_by_drops new k o x r n d many (w o x r n running)

-- ---- after a failure

-- the waiting calls after the failure
pub ends_by : (old new : Held (Unit {0})) (h : List Entry) → KeepsCalls old new → new.calls ≡ after_failure old.calls → (answer : AfterFailure) → answer ≡ answer_after (first_given_up old.calls)
    → (result : Result (Unit {0}) Stop) → ((xid : ℕ) → answer ≡ GivenUp xid → result ≡ Err stops.Lost) → (answer ≡ Resend → result ≡ Ok tt) → EndsAttempt old new result h
ends_by old new h keeps left answer is result lost goes o x r n d ended =
    elim (eqb (n + 1) 4) as (λ t. eqb (n + 1) 4 ≡ t → GoesOnTo o x r n d new result h) [
      | true ↦ λ e.
          let four = eqb-true (n + 1) 4 e in
          let given : answer ≡ GivenUp x = is ∙ rw (ended.calls, e) refl in
          subst (λ (t : Result (Unit {0}) Stop). GoesOnTo o x r n d new t h) (sym (lost x given)) (record {
            base = base_keeps o old new h keeps ended.asks.base;
            loses = tried_lost h x r (n + 1) four ended.tried;
            unanswered = λ g reply a. tried_unanswered h x r (n + 1) g reply ended.tried a;
            was_sent = tried_was h x r n ended.tried;
          })
      | false ↦ λ e.
          let again : answer ≡ Resend = is ∙ rw (ended.calls, e) refl in
          let differs = eqb-false (n + 1) 4 e in
          subst (λ (t : Result (Unit {0}) Stop). GoesOnTo o x r n d new t h) (sym (goes again)) (record {
            calls = left ∙ rw (ended.calls, e) refl;
            few = omega (arith, differs, ended.few);
            asks = asks_keeps o x r (n + 1) d old new h keeps ended.asks;
            tried = ended.tried;
          })
    ] refl

-- and then connecting
pub goes_on_connected : (old new : Held (Unit {0})) (result : Result (Unit {0}) Stop) (h k : List Entry) → EndsAttempt old new (Ok tt) h → Connects result h k → GoesOn old new result h k
goes_on_connected old new result h k ends con o x r n d ended = by_result result con
  where
    due : IsDue o x r (n + 1) d new h
    due = ends o x r n d ended

    by_result : (result : Result (Unit {0}) Stop) → Connects result h k → GoesOnTo o x r n d new result k
    by_result (Ok u) con =
        let s = still_by (Due o x r (n + 1) d new) (due_still o x r (n + 1) d new) h con.more con.still (due.asks, due.tried) in
        let t : Due o x r (n + 1) d new k = subst (Due o x r (n + 1) d new) (sym con.is) s in
        record { calls = due.calls; few = due.few; asks = t.0; tried = t.1 }
    by_result (Err stops.Lost) con =
        let s = still_by (Due o x r (n + 1) d new) (due_still o x r (n + 1) d new) h con.more con.still (due.asks, due.tried) in
        let t : Due o x r (n + 1) d new k = subst (Due o x r (n + 1) d new) (sym con.is) s in
        record {
          base = t.0.base;
          loses = con.lost;
          unanswered = λ g reply a. tried_unanswered k x r (n + 1) g reply t.1 a;
          was_sent = tried_was k x r n t.1;
        }
    by_result (Err stops.Memory) con =
        subst (IsBase o new) (sym con.is) (still_by (IsBase o new) (base_still o x r n d new) h con.more con.still due.asks.base)

-- ---- attempts one after the other

-- the call is due again, after so many attempts
abbrev pub DueAfter : Held (Unit {0}) → Held (Unit {0}) → ℕ → ℕ → List Entry → List Entry → Type 0
DueAfter old new n dropped h k = (o : Origin) (x : ℕ) (r : List ℕ) → IsDue o x r 0 0 old h → IsDue o x r n dropped new k

pub due_none : (old : Held (Unit {0})) (h : List Entry) → DueAfter old old 0 0 h h
due_none old h o x r due = due

pub due_then : (old mid new : Held (Unit {0})) (n before after : ℕ) (h k l : List Entry) → DueAfter old mid n before h k → Tries mid new before after (Ok None) k l → DueAfter old new (n + 1) after h l
due_then old mid new n before after h k l d t o x r due = t o x r n (d o x r due)

pub exchanges_reply : (old mid new : Held (Unit {0})) (n before after : ℕ) (bytes : List ℕ) (h k l : List Entry) → DueAfter old mid n before h k → Tries mid new before after (Ok (Some bytes)) k l → Exchanges old new (Ok bytes) h l
exchanges_reply old mid new n before after bytes h k l d t o x r due = t o x r n (d o x r due)

pub exchanges_stop : (old mid new : Held (Unit {0})) (n before after : ℕ) (stop : Stop) (h k l : List Entry) → DueAfter old mid n before h k → Tries mid new before after (Err stop) k l → Exchanges old new (Err stop) h l
exchanges_stop old mid new n before after stops.Lost h k l d t o x r due = t o x r n (d o x r due)
exchanges_stop old mid new n before after stops.Memory h k l d t o x r due = t o x r n (d o x r due)

-- there is no fifth attempt
pub exchanges_end : (old new : Held (Unit {0})) (n dropped : ℕ) (h k : List Entry) → 4 ≤ n → DueAfter old new n dropped h k → Exchanges old new (Err stops.Lost) h k
exchanges_end old new n dropped h k four d o x r due = let w = d o x r due in absurd (omega (arith, four, w.few))

-- the session is lost, or memory ran out, after an attempt
pub tries_stop : (o : Origin) (x : ℕ) (r : List ℕ) (n dropped : ℕ) (c : Held (Unit {0})) (stop : Stop) (k : List Entry) → GoesOnTo o x r n dropped c (Err stop) k → TriesTo o x r n dropped c (Err stop) k
tries_stop o x r n dropped c stops.Lost k g = g
tries_stop o x r n dropped c stops.Memory k g = g

pub keeps_then : (a b c : Held (Unit {0})) → KeepsCalls a b → KeepsCalls b c → KeepsCalls a c
keeps_then a b c p q = record { first_xid = q.first_xid ∙ p.first_xid; limit = q.limit ∙ p.limit; cred = q.cred ∙ p.cred; made = q.made ∙ p.made }
