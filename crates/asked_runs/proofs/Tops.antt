-- The statuses with which a session ends.
use Rattle.std.proofs.Common.{◌≡◌, ◌≤◌, ◌⊎◌, inl, inr, ℕ, IfOk, Result, Ok, Err, refl, arith}
use Rattle.xdr_codec.specs.declared.blob.Memory.{Memory}
use Rattle.asked_runs.specs.Statuses.{EndsBy, IsOutcome, IsOwn, ended_with, is_kept, is_lost}

pub ends-own : (own status : ℕ) → EndsBy own status → IsOwn status
ends-own own status (is_lost was six) = inr six
ends-own own status (is_kept other few) = inl few

pub own-outcome : (result : Result ℕ Memory) → IfOk result IsOwn → IfOk result IsOutcome
own-outcome (Ok status) own = inl own
own-outcome (Err e) own = tt

pub refused-outcome : (result : Result ℕ Memory) → IfOk result (λ status. status ≡ 8) → IfOk result IsOutcome
refused-outcome (Ok status) eight = inr eight
refused-outcome (Err e) eight = tt

pub outcome-most : (status : ℕ) → IsOutcome status → status ≤ 8
outcome-most status (inl (inl few)) = omega (arith, few)
outcome-most status (inl (inr six)) = omega (arith, six)
outcome-most status (inr eight) = omega (arith, eight)

pub outcome-taken : (status : ℕ) → IsOutcome status → 2 ≤ status → 6 ≤ status
outcome-taken status (inl (inl few)) two = absurd (omega (arith, few, two))
outcome-taken status (inl (inr six)) two = omega (arith, six)
outcome-taken status (inr eight) two = omega (arith, eight)

-- the status of a mount that is refused isn't the asker's
pub refused-above : (P : ℕ → Type 0) (result : Result ℕ Memory) → IfOk result (λ status. status ≡ 8) → IfOk result (λ status. status ≤ 1 → P status)
refused-above P (Ok status) eight = λ few. absurd (omega (arith, eight, few))
refused-above P (Err e) eight = tt

-- the mount was refused
pub refuse-ends : (result : Result ℕ Memory) → IfOk result (λ status. status ≡ 8) → (ended_with result ≡ 8) ⊎ (ended_with result ≡ 7)
refuse-ends (Ok status) eight = inl eight
refuse-ends (Err e) eight = inr refl
