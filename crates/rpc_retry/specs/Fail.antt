-- The end of the attempts that run, after which calls are sent again (RFC 5531, section 5).
use Rattle.std.specs.Prelude.{◌≡◌, ◌<◌, ℕ, List, Option, Some, None, true, false}
use Rattle.rpc_retry.specs.declared.answers.AfterFailure.{AfterFailure}
use Rattle.rpc_retry.specs.declared.answers.AfterFailure.TheVariants.{GivenUp, Resend}
use Rattle.rpc_retry.specs.declared.waiting.Waiting.{Waiting}
use Rattle.rpc_retry.specs.Waiting.{first_given_up, failed, waiting_at}

-- what is answered, by the oldest call whose fourth attempt ended
abbrev pub answer_after : Option ℕ → AfterFailure
answer_after None = Resend
answer_after (Some xid) = GivenUp xid

module _ {P : Type 0} where
  -- if none is given up all are due, and else none becomes due
  abbrev pub failed_after : Option ℕ → List (ℕ × Waiting P) → List (ℕ × Waiting P)
  failed_after None calls = failed true calls
  failed_after (Some xid) calls = failed false calls

  -- what the failure of all running attempts leaves
  abbrev pub after_failure : List (ℕ × Waiting P) → List (ℕ × Waiting P)
  after_failure calls = failed_after (first_given_up calls) calls

  -- the call waits and was sent four times, and each older one that waits was sent less often
  pub record IsOldestGivenUp (calls : List (ℕ × Waiting P)) (xid : ℕ) : Type 0 where
    pub call : Waiting P
    pub waits : waiting_at xid calls ≡ Some call
    pub attempts : call.attempts ≡ 4
    pub oldest : (other : ℕ) (older : Waiting P) → other < xid → waiting_at other calls ≡ Some older → older.attempts < 4

  -- none that waits was sent four times
  abbrev pub NoneGivenUp : List (ℕ × Waiting P) → Type 0
  NoneGivenUp calls = (xid : ℕ) (call : Waiting P) → waiting_at xid calls ≡ Some call → call.attempts < 4

  -- what the answer shows of the attempts, all of which have ended
  abbrev pub ShowsAttempts : List (ℕ × Waiting P) → AfterFailure → Type 0
  ShowsAttempts calls Resend = NoneGivenUp calls
  ShowsAttempts calls (GivenUp xid) = IsOldestGivenUp calls xid
