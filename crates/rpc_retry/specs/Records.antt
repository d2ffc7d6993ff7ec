-- What stays of the calls that wait: a server tells a repeated call by its xid (RFC 5531, sections 5 and 9).
use Rattle.std.specs.Prelude.{◌≡◌, ◌<◌, ℕ, List, Some, None}
use Rattle.rpc_retry.specs.declared.waiting.Waiting.{Waiting}
use Rattle.rpc_retry.specs.declared.answers.Taken.{Taken}
use Rattle.rpc_retry.specs.declared.answers.Taken.TheVariants.{Dropped, Took}
use Rattle.rpc_retry.specs.Held.{Held, next_xid}
use Rattle.rpc_retry.specs.Waiting.{waiting_at}

module _ {P : Type 0} where
  -- the call waited among these, with the same record and for the same purpose
  pub record WaitedAs (calls : List (ℕ × Waiting P)) (xid : ℕ) (call : Waiting P) : Type 0 where
    pub was : Waiting P
    pub waited : waiting_at xid calls ≡ Some was
    pub bytes : call.bytes ≡ was.bytes
    pub purpose : call.purpose ≡ was.purpose

  -- A call that had been made and waits now waited before, with the same record: so the bytes of an xid never change, and
  -- an xid that waits no more never waits again.
  abbrev pub KeepsRecords : Held P → List (ℕ × Waiting P) → Type 0
  KeepsRecords old new = (xid : ℕ) (call : Waiting P) → xid < next_xid old → waiting_at xid new ≡ Some call → WaitedAs old.calls xid call

  -- an xid whose reply was taken waits no more
  abbrev pub IsGone : Taken P → List (ℕ × Waiting P) → Type 0
  IsGone Dropped calls = Unit {0}
  IsGone (Took xid purpose body) calls = waiting_at xid calls ≡ None
