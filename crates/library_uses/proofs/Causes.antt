-- A failure that has a cause since a later moment has one since an earlier moment.
use Rattle.std.proofs.Common.{◌≤◌, ℕ, arith}
use Rattle.outside.specs.declared.link.Received.{Received}
use Rattle.outside.specs.declared.link.Received.TheVariants as received
use Rattle.outside.specs.Causes.{Rose, HasCauseReceived, IfNotReceived}

pub rose-since : (before middle now : ℕ) → before ≤ middle → Rose middle now → Rose before now
rose-since before middle now earlier rose = omega (arith, earlier, rose)

pub failed-since : (before middle now : ℕ) (result : Received) → before ≤ middle → IfNotReceived result (Rose middle now)
    → IfNotReceived result (Rose before now)
failed-since before middle now received.Whole earlier failed = tt
failed-since before middle now received.Silent earlier failed = rose-since before middle now earlier failed
failed-since before middle now received.Failed earlier failed = rose-since before middle now earlier failed
failed-since before middle now received.Memory earlier failed = tt

pub cause_since : (before middle now : ℕ) (result : Received) → before ≤ middle → HasCauseReceived middle now result
    → HasCauseReceived before now result
cause_since before middle now result earlier cause =
    let after = cause.later in
    record { later = omega (arith, earlier, after); failed = failed-since before middle now result earlier cause.failed }
