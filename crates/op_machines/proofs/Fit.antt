-- The bytes that an operation has to write stay the same.
use Rattle.std.proofs.Common.{◌≡◌, ◌≤◌, ◌+◌, ◌-◌, ◌^◌, ℕ, List, length, Result, Ok, Err, sym, subst, inl, inr, arith}
use Rattle.world_model.specs.declared.answer.Fault.{Fault}
use Rattle.world_model.specs.declared.message.Reply.{Reply}
use Rattle.client_shelf.specs.declared.shelf.Shelf.{Shelf}
use Rattle.client_shelf.specs.declared.turn.Turn.{Turn}
use Rattle.client_shelf.specs.declared.step.Step.{Step}
use Rattle.file_ops.specs.declared.opening.OpeningStep.{OpeningStep}
use Rattle.file_ops.specs.declared.opening.OpeningStep.TheVariants.{Send, Wait, Ended}
use Rattle.file_ops.specs.declared.put_file.PutFile.{PutFile}
use Rattle.file_ops.specs.declared.put_file.Putting.{Putting}
use Rattle.file_ops.specs.declared.put_file.Putting.TheVariants.{Idle, Opens, Adds, Saves}
use Rattle.file_ops.specs.declared.write_file.Text.{Text}
use Rattle.file_ops.specs.declared.write_file.Text.TheVariants.{Given, Fill}
use Rattle.file_ops.specs.declared.write_file.WriteFile.{WriteFile}
use Rattle.file_ops.specs.Opens.{file_to_write}
use Rattle.file_ops.specs.Opening.{opening_again}
use Rattle.file_ops.specs.PutFile as puts
use Rattle.file_ops.specs.WriteFile as writes
use Rattle.op_machines.specs.declared.file_machine.FileMachine.{FileMachine as Machine}
use Rattle.op_machines.specs.declared.file_machine.FileMachine.TheVariants as machines
use Rattle.op_machines.specs.FileFits.{FileFits as Fits, FitsIn}
use Rattle.op_machines.specs.FileSteps.{Starts, Resumes, Takes}

-- the bytes that were made are no more than those that are to be written
made-in : (text : Text) → length (writes.made_bytes text) ≤ length (writes.text_bytes text)
made-in (Given bytes) = omega arith
made-in (Fill count byte) = omega arith

pub made-fits : (m : WriteFile) → FitsIn m → m.offset + length (writes.made_bytes m.text) ≤ 2 ^ 63 - 1
made-fits m fits = let less = made-in m.text in omega (arith, fits, less)

as-it-is : (new to : Machine) → new ≡ to → Fits to → Fits new
as-it-is new to is fits = subst Fits (sym is) fits

-- ---- writes

write-starts : (m : WriteFile) (wsize : ℕ) (turn : Turn) (old : Shelf) (next : Step) (new : WriteFile) (after : Shelf) → writes.Starts wsize m turn old next new after → FitsIn m → FitsIn new
write-starts m wsize turn old next new after s fits = by (file_to_write m.lane m.slot old.opens) s
  where
    by : (found : Result (List ℕ) Fault) → writes.StartsAt found wsize m turn old next new after → FitsIn new
    by (Err fault) u = subst FitsIn (sym u.text) fits
    by (Ok file) (inl w) = subst FitsIn (sym w.text) fits
    by (Ok file) (inr u) = subst FitsIn (sym u.text) fits

-- ---- puts

abbrev PutFits : PutFile → Type 0
PutFits m = FitsIn m.write

put-resumes : (at : Putting) (wsize : ℕ) (m : PutFile) (turn : Turn) (old : Shelf) (next : Step) (new : PutFile) (after : Shelf) → puts.Resumes at wsize m turn old next new after → PutFits m → PutFits new
put-resumes Idle wsize m turn old next new after r fits = subst PutFits (sym r.machine_is) fits
put-resumes Opens wsize m turn old next new after r fits = subst PutFits (sym r.1) fits
put-resumes (Adds file) wsize m turn old next new after r fits = subst PutFits (sym r.goes.machine_is) fits
put-resumes (Saves saving) wsize m turn old next new after r fits = subst PutFits (sym r.1) fits

put-opened : (step : OpeningStep) (wsize : ℕ) (m : PutFile) (turn : Turn) (old : Shelf) (next : Step) (new : PutFile) (after : Shelf) → puts.AfterOpening step wsize m turn old next new after → PutFits m → PutFits new
put-opened (Send call) wsize m turn old next new after f fits = subst PutFits (sym f.1) fits
put-opened Wait wsize m turn old next new after f fits = subst PutFits (sym f.machine_is) fits
put-opened (Ended (Ok file)) wsize m turn old next new after f fits = subst PutFits (sym f.goes.machine_is) fits
put-opened (Ended (Err fault)) wsize m turn old next new after f fits = subst PutFits (sym f.1) fits

put-takes : (at : Putting) (wsize : ℕ) (m : PutFile) (sent turn : Turn) (came : Result Reply Fault) (old : Shelf) (next : Step) (new : PutFile) (after : Shelf)
    → puts.Takes at wsize m sent turn came old next new after → PutFits m → PutFits new
put-takes Idle wsize m sent turn came old next new after t fits = subst PutFits (sym t.machine_is) fits
put-takes Opens wsize m sent turn came old next new after t fits =
    put-opened t.step wsize (puts.led (opening_again m.opening sent turn came old.repeats) m turn came t.took.attrs old.pages) turn t.took next new after t.follows fits
put-takes (Adds file) wsize m sent turn came old next new after t fits = subst PutFits (sym t.goes.machine_is) fits
put-takes (Saves saving) wsize m sent turn came old next new after t fits = subst PutFits (sym t.1) fits

-- ---- any operation

pub starts-fit : (wsize : ℕ) (machine : Machine) (turn : Turn) (old : Shelf) (next : Step) (new : Machine) (after : Shelf) → Starts wsize machine turn old next new after → Fits machine → Fits new
starts-fit wsize (machines.Open m) turn old next new after r fits = as-it-is new _ r.machine_is tt
starts-fit wsize (machines.Read m) turn old next new after r fits = as-it-is new _ r.machine_is tt
starts-fit wsize (machines.Write m) turn old next new after r fits = as-it-is new _ r.machine_is (write-starts m wsize turn old next r.machine after r.step fits)
starts-fit wsize (machines.Sync m) turn old next new after r fits = as-it-is new _ r.machine_is tt
starts-fit wsize (machines.Close m) turn old next new after r fits = as-it-is new _ r.machine_is tt
starts-fit wsize (machines.Truncate m) turn old next new after r fits = as-it-is new _ r.machine_is tt
starts-fit wsize (machines.Put m) turn old next new after r fits = as-it-is new _ r.machine_is fits

pub resumes-fit : (wsize : ℕ) (machine : Machine) (turn : Turn) (old : Shelf) (next : Step) (new : Machine) (after : Shelf) → Resumes wsize machine turn old next new after → Fits machine → Fits new
resumes-fit wsize (machines.Open m) turn old next new after r fits = as-it-is new _ r.machine_is tt
resumes-fit wsize (machines.Read m) turn old next new after r fits = as-it-is new _ r.machine_is tt
resumes-fit wsize (machines.Write m) turn old next new after r fits = as-it-is new _ r.machine_is fits
resumes-fit wsize (machines.Sync m) turn old next new after r fits = as-it-is new _ r.machine_is tt
resumes-fit wsize (machines.Close m) turn old next new after r fits = as-it-is new _ r.machine_is tt
resumes-fit wsize (machines.Truncate m) turn old next new after r fits = as-it-is new _ r.machine_is tt
resumes-fit wsize (machines.Put m) turn old next new after r fits = as-it-is new _ r.machine_is (put-resumes m.state wsize m turn old next r.machine after r.step fits)

pub takes-fit : (wsize : ℕ) (machine : Machine) (sent turn : Turn) (came : Result Reply Fault) (old : Shelf) (next : Step) (new : Machine) (after : Shelf)
    → Takes wsize machine sent turn came old next new after → Fits machine → Fits new
takes-fit wsize (machines.Open m) sent turn came old next new after r fits = as-it-is new _ r.machine_is tt
takes-fit wsize (machines.Read m) sent turn came old next new after r fits = as-it-is new _ r.machine_is tt
takes-fit wsize (machines.Write m) sent turn came old next new after r fits = as-it-is new _ r.machine_is fits
takes-fit wsize (machines.Sync m) sent turn came old next new after r fits = as-it-is new _ r.machine_is tt
takes-fit wsize (machines.Close m) sent turn came old next new after r fits = as-it-is new _ r.machine_is tt
takes-fit wsize (machines.Truncate m) sent turn came old next new after r fits = as-it-is new _ r.machine_is tt
takes-fit wsize (machines.Put m) sent turn came old next new after r fits = as-it-is new _ r.machine_is (put-takes m.state wsize m sent turn came old next r.machine after r.step fits)
