-- An open or a put before its directory is found, and as it starts from there.
use Rattle.std.specs.Prelude.{ℕ, Bool, false, List}
use Rattle.open_files.specs.Slots.{Opens}
use Rattle.file_ops.specs.declared.opening.Opening.{Opening}
use Rattle.file_ops.specs.declared.put_file.Putting.TheVariants as puttings
use Rattle.file_ops.specs.Opening.{first_step}
use Rattle.file_ops.specs.OpenFile.{is_taken}
use Rattle.op_machines.specs.declared.file_machine.FileMachine.{FileMachine}
use Rattle.op_machines.specs.declared.file_machine.FileMachine.TheVariants as files
use Rattle.op_machines.specs.declared.opener.Opener.{Opener}
use Rattle.op_machines.specs.declared.opener.Opener.TheVariants as openers

-- it as any operation on a file
abbrev pub file_of : Opener → FileMachine
file_of (openers.Open m) = files.Open m
file_of (openers.Put m) = files.Put m

-- whether it is an open whose slot holds an open
abbrev pub slot_taken : Opener → Opens → Bool
slot_taken (openers.Open m) opens = is_taken m opens
slot_taken (openers.Put m) opens = false

-- its own moment is the last one that was given out
abbrev pub begun_at : ℕ → Opener → Opener
begun_at moment (openers.Open m) = openers.Open (record m { opening = record m.opening { moment = moment } })
begun_at moment (openers.Put m) = openers.Put (record m { opening = record m.opening { moment = moment } })

-- It starts from a directory, and made no call yet.
abbrev pub opening_in : List ℕ → Opening → Opening
opening_in dir o = record { dir = dir; name = o.name; mode = o.mode; nocto = o.nocto; moment = o.moment; step = first_step o.mode; asked = false; put_off = 0 }

abbrev pub placed : List ℕ → Opener → Opener
placed dir (openers.Open m) = openers.Open (record m { opening = opening_in dir m.opening })
placed dir (openers.Put m) = openers.Put (record m { opening = opening_in dir m.opening; state = puttings.Opens })
