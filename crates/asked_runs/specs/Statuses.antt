-- The statuses with which a session of scripts that are asked for ends.
use Rattle.std.specs.Prelude.{◌≡◌, ◌≢◌, ◌≤◌, ◌⊎◌, ℕ, Result, Ok, Err}
use Rattle.xdr_codec.specs.declared.blob.Memory.{Memory}

-- the status of a run: 7 if memory runs out
abbrev pub ended_with : Result ℕ Memory → ℕ
ended_with (Ok status) = status
ended_with (Err e) = 7

-- a session whose scripts were run ends by itself with one of these
abbrev pub IsOwn : ℕ → Type 0
IsOwn status = (status ≤ 1) ⊎ (status ≡ 6)

-- a session that was set up ends with one of these
abbrev pub IsEnding : ℕ → Type 0
IsEnding status = IsOwn status ⊎ (status ≡ 7)

-- any session ends with one of these, unless memory runs out
abbrev pub IsOutcome : ℕ → Type 0
IsOutcome status = IsOwn status ⊎ (status ≡ 8)

-- The last script was answered so that the session is lost, and the status is 6; or it wasn't, and the status is 0 or 1.
pub data EndsBy (own status : ℕ) : Type 0 where
  is_lost : own ≡ 6 → status ≡ 6 → EndsBy own status
  is_kept : own ≢ 6 → status ≤ 1 → EndsBy own status
