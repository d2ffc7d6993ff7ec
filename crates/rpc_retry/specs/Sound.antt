-- What holds of the calls that wait at any time.
use Rattle.std.specs.Prelude.{◌≡◌, ◌+◌, ◌-◌, ◌<◌, ◌≤◌, ◌^◌, ℕ, List, [], ◌∷◌, length, true, false}
use Rattle.rpc_message.specs.declared.cred.Cred.{Cred}
use Rattle.rpc_message.specs.Call.{SpellsCallHead}
use Rattle.rpc_retry.specs.declared.waiting.Waiting.{Waiting}
use Rattle.rpc_retry.specs.Held.{Held, next_xid}
use Rattle.rpc_retry.specs.Put.{call_head, call_bytes}

-- the record of a call of version 3 under this xid (RFC 5531, section 9)
pub record IsRecord (cred : Cred) (xid : ℕ) (bytes : List ℕ) : Type 0 where
  pub prog : ℕ
  pub proc : ℕ
  pub args : List ℕ
  pub is : bytes ≡ call_bytes cred xid prog proc args
  pub spells : SpellsCallHead (call_head xid prog proc) args bytes

-- At most four attempts were made of a call. It is due only before the fourth and while none runs. One that isn't due was sent.
pub record IsSoundCall {P : Type 0} (cred : Cred) (xid : ℕ) (call : Waiting P) : Type 0 where
  pub spelled : IsRecord cred xid call.bytes
  pub tried : call.attempts ≤ 4
  pub again : call.due ≡ true → call.attempts < 4
  pub idle : call.due ≡ true → call.running ≡ false
  pub given : call.due ≡ false → 1 ≤ call.attempts

-- the xids rise from one number on and lie below another
abbrev pub AreSound : {P : Type 0} → Cred → ℕ → ℕ → List (ℕ × Waiting P) → Type 0
AreSound cred low next [] = low ≤ next
AreSound cred low next (e ∷ es) = (low ≤ e.0) × IsSoundCall cred e.0 e.1 × AreSound cred (e.0 + 1) next es

-- xids of 32 bits from 1 on, no more calls made than may be, and at most 32 of them waiting, in order of making
pub record IsSound {P : Type 0} (h : Held P) : Type 0 where
  pub first : 1 ≤ h.first_xid
  pub last : h.first_xid + h.limit ≤ 2 ^ 32 - 1
  pub within : h.made ≤ h.limit
  pub few : length h.calls ≤ 32
  pub each : AreSound h.cred h.first_xid (next_xid h) h.calls
