-- Which machine an operation of a script begins as. An operation on a name takes the path of its directory and the name apart.
use Rattle.std.specs.Prelude.{◌≤◌, ◌+◌, ◌-◌, ◌^◌, ℕ, List, [], length, take, slice_get, unwrap_or, None, false}
use Rattle.nfs_types.specs.declared.mode.Mode.{Mode}
use Rattle.world_model.specs.declared.op.Op.{Op}
use Rattle.world_model.specs.declared.op.Op.TheVariants as ops
use Rattle.file_ops.specs.declared.write_file.Text.{Text}
use Rattle.file_ops.specs.declared.write_file.Text.TheVariants as texts
use Rattle.file_ops.specs.declared.write_file.Writing.TheVariants as writings
use Rattle.file_ops.specs.declared.sync_file.Syncing.TheVariants as syncings
use Rattle.file_ops.specs.declared.close_file.Closing.TheVariants as closings
use Rattle.file_ops.specs.declared.truncate_file.Truncating.TheVariants as truncatings
use Rattle.file_ops.specs.Opening.{first_step}
use Rattle.file_ops.specs.PutFile.{not_begun}
use Rattle.name_ops.specs.declared.dir_change.DirDeed.{DirDeed}
use Rattle.name_ops.specs.declared.dir_change.DirDeed.TheVariants as deeds
use Rattle.name_ops.specs.ListDir.{list_of}
use Rattle.name_ops.specs.Pairs.{walk_of, pair_of}
use Rattle.name_ops.specs.Visiting.{visit_of}
use Rattle.op_machines.specs.declared.begun.Mounted.{Mounted}
use Rattle.op_machines.specs.declared.file_machine.FileMachine.TheVariants as files
use Rattle.op_machines.specs.declared.opener.Opener.{Opener}
use Rattle.op_machines.specs.declared.opener.Opener.TheVariants as openers
use Rattle.op_machines.specs.declared.machine.Machine.{Machine}
use Rattle.op_machines.specs.declared.machine.Machine.TheVariants as machines
use Rattle.op_machines.specs.declared.name_machine.NameMachine.TheVariants as names

-- ---- what may begin

-- it isn't that of the root
abbrev pub IsNamed : List (List ℕ) → Type 0
IsNamed path = 1 ≤ length path

-- What holds of every operation of a script: a path has a last name if it needs one; the bytes that are to be written end within all
-- places of a file; and the target of a symbolic link isn't too long.
abbrev pub IsAsked : Op → Type 0
IsAsked (ops.OpenFile slot mode path) = IsNamed path
IsAsked (ops.Write slot offset bytes) = offset + length bytes ≤ 2 ^ 63 - 1
IsAsked (ops.Fill slot offset count byte) = offset + count ≤ 2 ^ 63 - 1
IsAsked (ops.Put path offset bytes) = IsNamed path × (offset + length bytes ≤ 2 ^ 63 - 1)
IsAsked (ops.MakeDir path) = IsNamed path
IsAsked (ops.RemoveDir path) = IsNamed path
IsAsked (ops.Remove path) = IsNamed path
IsAsked (ops.Rename from to) = IsNamed from × IsNamed to
IsAsked (ops.Link from to) = IsNamed to
IsAsked (ops.SymLink path target) = IsNamed path × (length target ≤ 1024)
IsAsked op = Unit {0}

-- ---- a path, apart

-- the names but for the last
abbrev pub front_of : List (List ℕ) → List (List ℕ)
front_of path = take (length path - 1) path

-- the last name
abbrev pub last_of : List (List ℕ) → List ℕ
last_of path = unwrap_or (slice_get path (length path - 1)) []

-- ---- machines

-- an open of a name, which gets its directory when that is found
abbrev pub open_of : Mounted → ℕ → ℕ → Mode → List ℕ → Opener
open_of m lane slot mode name = openers.Open (record {
  lane = lane;
  slot = slot;
  opening = record { dir = m.root; name = name; mode = mode; nocto = m.nocto; moment = 0; step = first_step mode; asked = false; put_off = 0 };
})

abbrev pub put_of : Mounted → ℕ → List ℕ → ℕ → List ℕ → Opener
put_of m lane name offset bytes = openers.Put (not_begun lane m.nocto m.root name offset bytes)

-- a walk leads to the directory first
abbrev pub on_way : List ℕ → List (List ℕ) → Opener → Machine
on_way root dir opener = machines.Path (record { walk = walk_of root dir; opener = opener; arrived = false })

abbrev pub path_of : Mounted → List (List ℕ) → Opener → Machine
path_of m path opener = on_way m.root (front_of path) opener

abbrev pub write_of : ℕ → ℕ → ℕ → Text → Machine
write_of lane slot offset text = machines.File (files.Write (record { lane = lane; slot = slot; offset = offset; text = text; state = writings.Idle }))

abbrev pub change_of : List ℕ → List (List ℕ) → DirDeed → Machine
change_of root path deed = machines.Name (names.Change (record { visit = visit_of root (front_of path); name = last_of path; deed = deed }))

abbrev pub remove_of : List ℕ → List (List ℕ) → Machine
remove_of root path =
    machines.Name (names.Remove (record { walk = walk_of root (front_of path); name = last_of path; deed = None; asked = false }))

abbrev pub rename_of : List ℕ → List (List ℕ) → List (List ℕ) → Machine
rename_of root from to =
    machines.Name (names.Rename (record { pair = pair_of root (front_of from) (front_of to); from = last_of from; to = last_of to }))

abbrev pub link_of : List ℕ → List (List ℕ) → List (List ℕ) → Machine
link_of root file to = machines.Name (names.Link (record { pair = pair_of root file (front_of to); name = last_of to }))

abbrev pub sym_link_of : List ℕ → List (List ℕ) → List ℕ → Machine
sym_link_of root path target =
    machines.Name (names.SymLink (record { visit = visit_of root (front_of path); name = last_of path; target = target }))

abbrev pub machine_of : Mounted → ℕ → Op → Machine
machine_of m lane (ops.OpenFile slot mode path) = path_of m path (open_of m lane slot mode (last_of path))
machine_of m lane (ops.Read slot offset count) =
    machines.File (files.Read (record { lane = lane; slot = slot; offset = offset; count = count; rsize = m.rsize; noac = m.noac; reading = None }))
machine_of m lane (ops.Write slot offset bytes) = write_of lane slot offset (texts.Given bytes)
machine_of m lane (ops.Fill slot offset count byte) = write_of lane slot offset (texts.Fill count byte)
machine_of m lane (ops.Put path offset bytes) = path_of m path (put_of m lane (last_of path) offset bytes)
machine_of m lane (ops.Sync slot) = machines.File (files.Sync (record { lane = lane; slot = slot; state = syncings.Idle }))
machine_of m lane (ops.Close slot) = machines.File (files.Close (record { lane = lane; slot = slot; state = closings.Idle }))
machine_of m lane (ops.Truncate slot size) =
    machines.File (files.Truncate (record { lane = lane; slot = slot; size = size; state = truncatings.Idle }))
machine_of m lane (ops.Stat path) = machines.Name (names.Stat (record { walk = walk_of m.root path; asked = false }))
machine_of m lane (ops.Access path bits) = machines.Name (names.Access (record { visit = visit_of m.root path; bits = bits }))
machine_of m lane (ops.MakeDir path) = change_of m.root path deeds.Make
machine_of m lane (ops.RemoveDir path) = change_of m.root path deeds.Remove
machine_of m lane (ops.Remove path) = remove_of m.root path
machine_of m lane (ops.Rename from to) = rename_of m.root from to
machine_of m lane (ops.Link from to) = link_of m.root from to
machine_of m lane (ops.SymLink path target) = sym_link_of m.root path target
machine_of m lane (ops.ReadLink path) = machines.Name (names.ReadLink (record { visit = visit_of m.root path }))
machine_of m lane (ops.List path) = machines.Name (names.List (list_of m.root path))
