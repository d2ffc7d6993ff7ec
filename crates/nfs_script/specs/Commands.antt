-- The commands of a script. Words are read from left to right, and the first faulty one decides.
use Rattle.std.specs.Prelude.{ℕ, List, [], ◌∷◌, codes, Option, Some, None, Result, Ok, Err, ok_or, if◌then◌else◌}
use Rattle.std.specs.Str.{bytes_eq}
use Rattle.nfs_types.specs.declared.mode.Mode.{Mode}
use Rattle.nfs_types.specs.declared.mode.Mode.TheVariants as modes
use Rattle.script_text.specs.Lines.{one, two, three, four}
use Rattle.script_text.specs.Numbers.{number_of}
use Rattle.script_text.specs.Payloads.{payload_of, byte_of}
use Rattle.script_text.specs.Paths.{path_of, target_of}
use Rattle.world_model.specs.declared.op.Op.{Op}
use Rattle.world_model.specs.declared.op.Op.TheVariants as ops
use Rattle.nfs_script.specs.declared.fault.Cause.{Cause}
use Rattle.nfs_script.specs.declared.fault.Cause.TheVariants as causes
use Rattle.nfs_script.specs.Faults.{◌>>=◌}

-- ---- words

-- so many words as the command has
abbrev pub wanted : {X : Type 0} → Option X → Result X Cause
wanted words = ok_or words causes.Command

abbrev pub slot_of : List ℕ → Result ℕ Cause
slot_of word = ok_or (number_of 1 16 word) causes.Slot

-- an offset or a size, up to 2 ^ 62
abbrev pub offset_of : List ℕ → Result ℕ Cause
offset_of word = ok_or (number_of 0 4611686018427387904 word) causes.Number

-- how many bytes are read
abbrev pub read_count_of : List ℕ → Result ℕ Cause
read_count_of word = ok_or (number_of 0 65536 word) causes.Number

-- how many bytes are filled
abbrev pub fill_count_of : List ℕ → Result ℕ Cause
fill_count_of word = ok_or (number_of 1 1048576 word) causes.Number

-- the six bits of ACCESS (RFC 1813, section 3.3.4), of which one is asked for
abbrev pub bits_of : List ℕ → Result ℕ Cause
bits_of word = ok_or (number_of 1 63 word) causes.Number

abbrev pub mode_of : List ℕ → Result Mode Cause
mode_of word =
    if bytes_eq word (codes "r") then Ok modes.R else
    (if bytes_eq word (codes "w") then Ok modes.W else
    (if bytes_eq word (codes "rw") then Ok modes.RW else
    (if bytes_eq word (codes "c") then Ok modes.C else
    (if bytes_eq word (codes "x") then Ok modes.X else Err causes.Command))))

-- the root, or what has a name
abbrev pub any_path_of : List ℕ → Result (List (List ℕ)) Cause
any_path_of word = ok_or (path_of word) causes.Path

abbrev pub named : List (List ℕ) → Result (List (List ℕ)) Cause
named [] = Err causes.Path
named (name ∷ names) = Ok (name ∷ names)

-- what has a name
abbrev pub named_path_of : List ℕ → Result (List (List ℕ)) Cause
named_path_of word = any_path_of word >>= named

abbrev pub link_target_of : List ℕ → Result (List ℕ) Cause
link_target_of word = ok_or (target_of word) causes.Path

abbrev pub bytes_of : List ℕ → Result (List ℕ) Cause
bytes_of word = ok_or (payload_of word) causes.Hex

abbrev pub one_byte_of : List ℕ → Result ℕ Cause
one_byte_of word = ok_or (byte_of word) causes.Hex

-- ---- commands on an open file

unfoldable pub open_of : List (List ℕ) → Result Op Cause
open_of words = do
  w ← wanted (three words)
  slot ← slot_of w.0
  mode ← mode_of w.1
  path ← named_path_of w.2
  Ok (ops.OpenFile slot mode path)

unfoldable pub read_of : List (List ℕ) → Result Op Cause
read_of words = do
  w ← wanted (three words)
  slot ← slot_of w.0
  offset ← offset_of w.1
  count ← read_count_of w.2
  Ok (ops.Read slot offset count)

unfoldable pub write_of : List (List ℕ) → Result Op Cause
write_of words = do
  w ← wanted (three words)
  slot ← slot_of w.0
  offset ← offset_of w.1
  bytes ← bytes_of w.2
  Ok (ops.Write slot offset bytes)

-- a write of these bytes, of the words of its slot and its offset
abbrev pub write_at : List ℕ → List ℕ → List ℕ → Result Op Cause
write_at slot_word offset_word bytes = do
  slot ← slot_of slot_word
  offset ← offset_of offset_word
  Ok (ops.Write slot offset bytes)

unfoldable pub fill_of : List (List ℕ) → Result Op Cause
fill_of words = do
  w ← wanted (four words)
  slot ← slot_of w.0
  offset ← offset_of w.1
  count ← fill_count_of w.2
  byte ← one_byte_of w.3
  Ok (ops.Fill slot offset count byte)

unfoldable pub sync_of : List (List ℕ) → Result Op Cause
sync_of words = do
  w ← wanted (one words)
  slot ← slot_of w
  Ok (ops.Sync slot)

unfoldable pub close_of : List (List ℕ) → Result Op Cause
close_of words = do
  w ← wanted (one words)
  slot ← slot_of w
  Ok (ops.Close slot)

unfoldable pub truncate_of : List (List ℕ) → Result Op Cause
truncate_of words = do
  w ← wanted (two words)
  slot ← slot_of w.0
  size ← offset_of w.1
  Ok (ops.Truncate slot size)

-- ---- commands on a path

unfoldable pub put_of : List (List ℕ) → Result Op Cause
put_of words = do
  w ← wanted (three words)
  path ← named_path_of w.0
  offset ← offset_of w.1
  bytes ← bytes_of w.2
  Ok (ops.Put path offset bytes)

unfoldable pub stat_of : List (List ℕ) → Result Op Cause
stat_of words = do
  w ← wanted (one words)
  path ← any_path_of w
  Ok (ops.Stat path)

unfoldable pub access_of : List (List ℕ) → Result Op Cause
access_of words = do
  w ← wanted (two words)
  path ← any_path_of w.0
  bits ← bits_of w.1
  Ok (ops.Access path bits)

unfoldable pub make_dir_of : List (List ℕ) → Result Op Cause
make_dir_of words = do
  w ← wanted (one words)
  path ← named_path_of w
  Ok (ops.MakeDir path)

unfoldable pub remove_dir_of : List (List ℕ) → Result Op Cause
remove_dir_of words = do
  w ← wanted (one words)
  path ← named_path_of w
  Ok (ops.RemoveDir path)

unfoldable pub remove_of : List (List ℕ) → Result Op Cause
remove_of words = do
  w ← wanted (one words)
  path ← named_path_of w
  Ok (ops.Remove path)

unfoldable pub rename_of : List (List ℕ) → Result Op Cause
rename_of words = do
  w ← wanted (two words)
  from ← named_path_of w.0
  to ← named_path_of w.1
  Ok (ops.Rename from to)

unfoldable pub link_of : List (List ℕ) → Result Op Cause
link_of words = do
  w ← wanted (two words)
  from ← named_path_of w.0
  to ← named_path_of w.1
  Ok (ops.Link from to)

unfoldable pub sym_link_of : List (List ℕ) → Result Op Cause
sym_link_of words = do
  w ← wanted (two words)
  path ← named_path_of w.0
  target ← link_target_of w.1
  Ok (ops.SymLink path target)

unfoldable pub read_link_of : List (List ℕ) → Result Op Cause
read_link_of words = do
  w ← wanted (one words)
  path ← named_path_of w
  Ok (ops.ReadLink path)

unfoldable pub list_of : List (List ℕ) → Result Op Cause
list_of words = do
  w ← wanted (one words)
  path ← any_path_of w
  Ok (ops.List path)

-- ---- which command

abbrev pub path_op_of : List ℕ → List (List ℕ) → Result Op Cause
path_op_of command words =
    if bytes_eq command (codes "put") then put_of words else
    (if bytes_eq command (codes "stat") then stat_of words else
    (if bytes_eq command (codes "access") then access_of words else
    (if bytes_eq command (codes "mkdir") then make_dir_of words else
    (if bytes_eq command (codes "rmdir") then remove_dir_of words else
    (if bytes_eq command (codes "remove") then remove_of words else
    (if bytes_eq command (codes "rename") then rename_of words else
    (if bytes_eq command (codes "link") then link_of words else
    (if bytes_eq command (codes "symlink") then sym_link_of words else
    (if bytes_eq command (codes "readlink") then read_link_of words else
    (if bytes_eq command (codes "list") then list_of words else Err causes.Command))))))))))

-- the operation of a command and the words after it
abbrev pub op_of : List ℕ → List (List ℕ) → Result Op Cause
op_of command words =
    if bytes_eq command (codes "open") then open_of words else
    (if bytes_eq command (codes "read") then read_of words else
    (if bytes_eq command (codes "write") then write_of words else
    (if bytes_eq command (codes "fill") then fill_of words else
    (if bytes_eq command (codes "sync") then sync_of words else
    (if bytes_eq command (codes "close") then close_of words else
    (if bytes_eq command (codes "truncate") then truncate_of words else path_op_of command words))))))

abbrev pub asked_for : Result Op Cause → Option Op
asked_for (Ok op) = Some op
asked_for (Err cause) = None

-- the operation of words of which the first is the command, if they ask for one
abbrev pub operation_of : List (List ℕ) → Option Op
operation_of [] = None
operation_of (command ∷ words) = asked_for (op_of command words)
