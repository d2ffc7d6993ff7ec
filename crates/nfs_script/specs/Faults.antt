-- What is wrong with a script.
use Rattle.std.specs.Prelude.{◌≡◌, ℕ, Result, Ok, Err}
use Rattle.nfs_script.specs.declared.fault.Cause.{Cause}
use Rattle.nfs_script.specs.declared.fault.Cause.TheVariants as causes
use Rattle.nfs_script.specs.declared.fault.LineFault.{LineFault}
use Rattle.nfs_script.specs.declared.fault.LineFault.TheVariants as faults
use Rattle.nfs_script.specs.declared.fault.ScriptFault.{ScriptFault}

-- the number of a cause
abbrev pub kind_of : Cause → ℕ
kind_of causes.Utf8 = 1
kind_of causes.Long = 2
kind_of causes.ManyLines = 3
kind_of causes.Lane = 4
kind_of causes.Command = 5
kind_of causes.Number = 6
kind_of causes.Hex = 7
kind_of causes.Path = 8
kind_of causes.Slot = 9

-- a script is refused for that line
abbrev pub fault_at : ℕ → Cause → ScriptFault
fault_at line cause = record { line = line; kind = kind_of cause }

-- what follows if there was no fault
infixl 10 ◌>>=◌
abbrev pub ◌>>=◌ : {E A B : Type 0} → Result A E → (A → Result B E) → Result B E
(Ok x) >>= f = f x
(Err e) >>= f = Err e

-- a reader failed as reading does; out of memory may come at any text
abbrev pub Fails : {Y : Type 0} → LineFault → Result Y Cause → Type 0
Fails (faults.Refused cause) read = read ≡ Err cause
Fails faults.Memory read = Unit {0}

-- what a reader gave, seen by view, is what reading gives
abbrev pub Gives : {X Y : Type 0} → (X → Y) → Result X LineFault → Result Y Cause → Type 0
Gives view (Ok x) read = read ≡ Ok (view x)
Gives view (Err e) read = Fails e read
