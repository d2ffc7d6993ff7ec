-- Whether a record answers the call that waits (RFC 5531, section 9).
use Rattle.std.specs.Prelude.{◌≡◌, ℕ, List, Bool, true, false, Some, None}
use Rattle.rpc_message.specs.Call.{xid_at}
use Rattle.rpc_retry.specs.declared.waiting.Waiting.{Waiting}
use Rattle.rpc_retry.specs.Held.{Held}
use Rattle.rpc_retry.specs.Waiting.{waiting_at, without}
use Rattle.rpc_retry.specs.Take.{awaited}
use Rattle.world_model.specs.Messages.{HasXid}

-- the record has the xid of a call that waits, which waits no more
pub record Takes (old : Held (Unit {0})) (bytes : List ℕ) (new : Held (Unit {0})) : Type 0 where
  pub xid : ℕ
  pub call : Waiting (Unit {0})
  pub under : HasXid bytes xid
  pub waited : waiting_at xid old.calls ≡ Some call
  pub left : new.calls ≡ without xid old.calls

abbrev pub AnswersSo : Held (Unit {0}) → List ℕ → Bool → Held (Unit {0}) → Type 0
AnswersSo old bytes true new = Takes old bytes new
AnswersSo old bytes false new = (awaited (xid_at bytes) old.calls ≡ None) × (new ≡ old)
