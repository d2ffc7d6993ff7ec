-- When a store may fail: only if the disk's count of faults rose, or for lack of memory.
use Rattle.std.specs.Prelude.{◌≤◌, ℕ, Result, Ok, Err}
use Rattle.outside.specs.Causes.{Rose}
use Rattle.outside.specs.declared.link.LinkFault.{LinkFault}
use Rattle.outside.specs.declared.link.LinkFault.TheVariants as links
use Rattle.page_store.specs.declared.fault.StoreFault.{StoreFault}
use Rattle.page_store.specs.declared.fault.StoreFault.TheVariants as faults

abbrev pub fault_for : LinkFault → StoreFault
fault_for links.Failed = faults.Fault
fault_for links.Memory = faults.Memory

abbrev pub IfFault : StoreFault → Type 0 → Type 0
IfFault faults.Fault P = P
IfFault faults.Memory P = Unit {0}

-- a fault between two counts: the count never falls, and it rose unless memory ran out
pub record IsFault (before now : ℕ) (fault : StoreFault) : Type 0 where
  pub later : before ≤ now
  pub rose : IfFault fault (Rose before now)

abbrev pub IfStoreFault : {T : Type 0} → Result T StoreFault → Type 0 → Type 0
IfStoreFault (Ok x) P = Unit {0}
IfStoreFault (Err why) P = IfFault why P

-- The count never falls, and it rose if the disk failed. Out of memory has no cause.
pub record HasStoreCause {T : Type 0} (before now : ℕ) (result : Result T StoreFault) : Type 0 where
  pub later : before ≤ now
  pub failed : IfStoreFault result (Rose before now)
