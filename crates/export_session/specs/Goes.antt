-- How it goes on after a record.
use Rattle.std.specs.Prelude.{◌≡◌}
use Rattle.export_session.specs.declared.next.End.TheVariants.{Served, Lost, Memory}
use Rattle.export_session.specs.declared.next.Next.{Next}
use Rattle.export_session.specs.declared.next.Next.TheVariants.{Wait, Close, Stop}

-- memory did not run out
abbrev pub IsCalm : Next → Type 0
IsCalm Wait = Unit {0}
IsCalm Close = Unit {0}
IsCalm (Stop Served) = Unit {0}
IsCalm (Stop Lost) = Unit {0}
IsCalm (Stop Memory) = ⊥

-- a call was counted: the next record is waited for, or all calls were answered
abbrev pub IsCounted : Next → Type 0
IsCounted Wait = Unit {0}
IsCounted Close = ⊥
IsCounted (Stop Served) = Unit {0}
IsCounted (Stop Lost) = ⊥
IsCounted (Stop Memory) = ⊥

-- it goes on so, but that no more may be waited for
abbrev pub GoesOnAs : Next → Next → Type 0
GoesOnAs Wait Wait = Unit {0}
GoesOnAs Wait Close = Unit {0}
GoesOnAs Wait (Stop end) = ⊥
GoesOnAs Close next = next ≡ Close
GoesOnAs (Stop end) next = next ≡ Stop end
