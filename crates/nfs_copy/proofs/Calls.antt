-- What the status of a copy says.
use Rattle.std.proofs.Common.{◌≡◌, ℕ, Bool, true, false, refl, arith}
use Rattle.nfs_copy.specs.Calls.{TellsWrong}

pub tells-right : (wrong : Bool) (status : ℕ) → TellsWrong wrong status → status ≡ 0 → wrong ≡ false
tells-right false status is zero_is = refl
tells-right true status is zero_is = absurd (omega (arith, is, zero_is))

pub tells-wrong : (wrong : Bool) (status : ℕ) → TellsWrong wrong status → status ≡ 1 → wrong ≡ true
tells-wrong true status is one = refl
tells-wrong false status is one = absurd (omega (arith, is, one))
