-- The calls of the core by what they may be: nothing, or one kind of change.
use Rattle.core_facts.proofs.Prelude.{◌≡◌, ◌+◌, ℕ, List, Bool, true, false, Option, Some, None, MatchOption, option_map, position, refl, ap, subst, xid_at, awaited, waiting_at, without, Waiting, Answer, Purpose, View, HearsFor, failed_view, lost, AnswersAt}
use Rattle.rpc_retry.specs.Take.{after_taking}
use Rattle.rpc_retry.specs.Waiting.{first_due, first_given_up, sent}
use Rattle.client_core.specs.Steps.{taken, Hears, SendsIf, SendsBy, FailsAs, FailsBy, AnswersBy}
use Rattle.client_core.specs.Lanes.{is_over}

-- the call under the xid waits no more
abbrev pub taken_one : View → ℕ → View
taken_one v xid = record v { calls = record v.calls { calls = without xid v.calls.calls }; moments = v.moments + 1 }

-- no call waits for the record, or it replies to one
pub data Heard (old : View) (rec : List ℕ) (new : View) : Type 0 where
  dropped : awaited (xid_at rec) old.calls.calls ≡ None → new ≡ old → Heard old rec new
  replied : (xid : ℕ) (call : Waiting Purpose) → xid_at rec ≡ Some xid → waiting_at xid old.calls.calls ≡ Some call → HearsFor (taken_one old xid) rec call.purpose new → Heard old rec new

pub heard : (old : View) (rec : List ℕ) (b : Bool) (new : View) → Hears old rec b new → Heard old rec new
heard old rec b new h = by (awaited (xid_at rec) old.calls.calls) refl h
  where
    named : (call : Waiting Purpose) (x : Option ℕ) → xid_at rec ≡ x → awaited x old.calls.calls ≡ Some call → HearsFor (taken old rec) rec call.purpose new → Heard old rec new
    named call None is waits t = absurd (cc)
    named call (Some xid) is waits t =
        let after : View → Type 0 = λ v. HearsFor v rec call.purpose new in
        replied xid call is waits (subst after (ap (λ o. record old { calls = record old.calls { calls = after_taking o old.calls.calls }; moments = old.moments + 1 }) is) t)

    by : (o : Option (Waiting Purpose)) → awaited (xid_at rec) old.calls.calls ≡ o
        → MatchOption o ((b ≡ false) × (new ≡ old)) (λ call. (b ≡ true) × HearsFor (taken old rec) rec call.purpose new) → Heard old rec new
    by None is t = dropped is t.1
    by (Some call) is t = named call (xid_at rec) refl is t.1

-- the call that was sent, which was the oldest due
pub record SentNow (old : View) (bytes : List ℕ) (new : View) : Type 0 where
  pub xid : ℕ
  pub call : Waiting Purpose
  pub due : first_due old.calls.calls ≡ Some (xid, call)
  pub bytes_is : bytes ≡ call.bytes
  pub is : new ≡ record old { calls = record old.calls { calls = sent old.calls.calls } }

pub sent_now : (old : View) (bytes : List ℕ) (new : View) → SendsBy old (Some bytes) new → SentNow old bytes new
sent_now old bytes new s = by old.lost s
  where
    of : (o : Option (ℕ × Waiting Purpose)) → first_due old.calls.calls ≡ o → Some bytes ≡ option_map (λ (e : ℕ × Waiting Purpose). e.1.bytes) o
        → new ≡ record old { calls = record old.calls { calls = sent old.calls.calls } } → SentNow old bytes new
    of None due gives is = absurd (cc)
    of (Some e) due gives is = record { xid = e.0; call = e.1; due = due; bytes_is = cc; is = is }

    by : (b : Bool) → SendsIf b old (Some bytes) new → SentNow old bytes new
    by true t = absurd (let no_way : Some bytes ≡ None = t.0 in cc)
    by false t = of (first_due old.calls.calls) refl t.gives t.is

-- the attempts have ended, and where a call is given up the session is lost
pub data FailedNow (old new : View) : Type 0 where
  goes_on : first_given_up old.calls.calls ≡ None → new ≡ failed_view old → FailedNow old new
  gives_up : (xid : ℕ) → first_given_up old.calls.calls ≡ Some xid → new ≡ lost (failed_view old) → FailedNow old new

pub failed_now : (old : View) (b : Bool) (new : View) → FailsBy old b new → FailedNow old new
failed_now old b new f = by (first_given_up old.calls.calls) refl f
  where
    by : (o : Option ℕ) → first_given_up old.calls.calls ≡ o → FailsAs o old b new → FailedNow old new
    by None is t = goes_on is t.1
    by (Some xid) is t = gives_up xid is t.1

-- the lane that gave its answer
pub record AnsweredNow (old : View) (number : ℕ) (answer : Answer) (new : View) : Type 0 where
  pub at : ℕ
  pub is : AnswersAt old at number (Some answer) new

pub answered_now : (old : View) (number : ℕ) (answer : Answer) (new : View) → AnswersBy old number (Some answer) new → AnsweredNow old number answer new
answered_now old number answer new a = by (position (is_over number) old.lanes) a
  where
    by : (o : Option ℕ) → MatchOption o ((Some answer ≡ None) × (new ≡ old)) (λ at. AnswersAt old at number (Some answer) new) → AnsweredNow old number answer new
    by None t = absurd (let no_way : Some answer ≡ None = t.0 in cc)
    by (Some at) t = record { at = at; is = t }
