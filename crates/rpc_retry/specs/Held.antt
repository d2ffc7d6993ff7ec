-- What contracts see of the calls that wait, each by its xid (RFC 5531, section 9).
use Rattle.std.specs.Prelude.{◌≡◌, ℕ, List, ◌+◌}
use Rattle.rpc_message.specs.declared.cred.Cred.{Cred}
use Rattle.rpc_retry.specs.declared.waiting.Waiting.{Waiting}

-- The first xid, how many calls may be made, and as whom they are made; how many were made, and those that wait by
-- xid, in order of making.
pub record Held (P : Type 0) : Type 0 where
  pub first_xid : ℕ
  pub limit : ℕ
  pub cred : Cred
  pub made : ℕ
  pub calls : List (ℕ × Waiting P)

-- the xid of the call that is made next
abbrev pub next_xid : {P : Type 0} → Held P → ℕ
next_xid h = h.first_xid + h.made

-- the first xid, the limit and the credential stay
pub record KeepsSettings {P : Type 0} (old new : Held P) : Type 0 where
  pub first_xid : new.first_xid ≡ old.first_xid
  pub limit : new.limit ≡ old.limit
  pub cred : new.cred ≡ old.cred
