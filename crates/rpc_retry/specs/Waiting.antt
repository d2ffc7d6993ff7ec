-- A call that waits, and what sending and failing do to the calls that wait (RFC 5531, section 5: a client may send a call
-- again under its xid).
use Rattle.std.specs.Prelude.{◌+◌, ℕ, List, [], ◌∷◌, map, Bool, true, false, Option, Some, None, ◌==◌, if◌then◌else◌, nat_eq}
use Rattle.std.specs.Map.{lookup, remove_entry}
use Rattle.rpc_retry.specs.declared.waiting.Waiting.{Waiting}

module _ {P : Type 0} where
  -- a call that was just made: it is due, and wasn't tried
  abbrev pub made_call : List ℕ → P → Waiting P
  made_call bytes purpose = record { bytes = bytes; purpose = purpose; due = true; attempts = 0; running = false }

  -- the same call, of which one more attempt runs
  abbrev pub sent_call : Waiting P → Waiting P
  sent_call w = record w { due = false; attempts = w.attempts + 1; running = true }

  -- the same call, of which no attempt runs
  abbrev pub ended_call : Waiting P → Waiting P
  ended_call w = record w { running = false }

  -- the same call, which is due again
  abbrev pub due_call : Waiting P → Waiting P
  due_call w = record w { due = true; running = false }

  -- the same call after its attempt has failed
  abbrev pub failed_call : Bool → Waiting P → Waiting P
  failed_call again w = if again then due_call w else ended_call w

  -- no fifth attempt is made of it
  abbrev pub is_given_up : Waiting P → Bool
  is_given_up w = w.attempts == 4

  -- the call that waits under an xid
  abbrev pub waiting_at : ℕ → List (ℕ × Waiting P) → Option (Waiting P)
  waiting_at xid calls = lookup (nat_eq xid) calls

  -- the others, if a call waits under an xid
  abbrev pub without : ℕ → List (ℕ × Waiting P) → List (ℕ × Waiting P)
  without xid calls = remove_entry (nat_eq xid) calls

  -- the oldest call that is due
  abbrev pub first_due : List (ℕ × Waiting P) → Option (ℕ × Waiting P)
  first_due [] = None
  first_due (e ∷ es) = if e.1.due then Some e else first_due es

  -- one more attempt of that call runs
  abbrev pub sent : List (ℕ × Waiting P) → List (ℕ × Waiting P)
  sent [] = []
  sent (e ∷ es) = if e.1.due then (e.0, sent_call e.1) ∷ es else e ∷ sent es

  -- the oldest call of which no fifth attempt is made
  abbrev pub first_given_up : List (ℕ × Waiting P) → Option ℕ
  first_given_up [] = None
  first_given_up (e ∷ es) = if is_given_up e.1 then Some e.0 else first_given_up es

  -- no attempt runs, and all are due if they are tried again
  abbrev pub failed : Bool → List (ℕ × Waiting P) → List (ℕ × Waiting P)
  failed again calls = map (λ e. (e.0, failed_call again e.1)) calls

  -- whether it is due
  abbrev pub is_due : Waiting P → Bool
  is_due w = w.due
