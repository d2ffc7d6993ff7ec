-- When a call of the outside may fail: only if the count of faults rose in that call.
use Rattle.std.specs.Prelude.{◌≤◌, ◌+◌, ◌-◌, ◌^◌, min, ℕ, Result, Ok, Err}
use Rattle.outside.specs.declared.source.Failed.{Failed}
use Rattle.outside.specs.declared.link.LinkFault.{LinkFault}
use Rattle.outside.specs.declared.link.LinkFault.TheVariants as faults
use Rattle.outside.specs.declared.link.Received.{Received}
use Rattle.outside.specs.declared.link.Received.TheVariants as received

-- a count is greater than before, or the counter behind it stands at its last value
abbrev pub Rose : ℕ → ℕ → Type 0
Rose before now = min (before + 1) (2 ^ 64 - 1) ≤ now

abbrev pub IfErr : {T E : Type 0} → Result T E → Type 0 → Type 0
IfErr (Ok x) P = Unit {0}
IfErr (Err e) P = P

-- The count of a source: it never falls, and it rose if the call failed.
pub record HasCauseFailed {T : Type 0} (before now : ℕ) (result : Result T Failed) : Type 0 where
  pub later : before ≤ now
  pub failed : IfErr result (Rose before now)

abbrev pub IfFailed : {T : Type 0} → Result T LinkFault → Type 0 → Type 0
IfFailed (Ok x) P = Unit {0}
IfFailed (Err faults.Failed) P = P
IfFailed (Err faults.Memory) P = Unit {0}

-- The count of a sink or a link: it never falls, and it rose if the call failed. Out of memory has no cause.
pub record HasCause {T : Type 0} (before now : ℕ) (result : Result T LinkFault) : Type 0 where
  pub later : before ≤ now
  pub failed : IfFailed result (Rose before now)

abbrev pub IfNotReceived : Received → Type 0 → Type 0
IfNotReceived received.Whole P = Unit {0}
IfNotReceived received.Silent P = P
IfNotReceived received.Failed P = P
IfNotReceived received.Memory P = Unit {0}

-- The same of waiting for a record: it rose if none came in time, too.
pub record HasCauseReceived (before now : ℕ) (result : Received) : Type 0 where
  pub later : before ≤ now
  pub failed : IfNotReceived result (Rose before now)
