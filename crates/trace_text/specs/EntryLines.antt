-- Lines that are entries of the history.
use Rattle.std.specs.Prelude.{ℕ, zero, suc, List, [], ◌∷◌, length, Bool, ◌==◌, ◌&&◌, Option, Some, None, slice_get, if◌then◌else◌}
use Rattle.std.specs.Option.{option_map}
use Rattle.export_serve.specs.declared.request.Asked.{Asked}
use Rattle.export_serve.specs.declared.request.Asked.TheVariants as askings
use Rattle.export_serve.specs.Asking.{asked_at}
use Rattle.nfs_script.specs.Commands.{operation_of}
use Rattle.script_text.specs.Lines.{one, two, three}
use Rattle.script_text.specs.Numbers.{number_of}
use Rattle.trace_calls.specs.ReplyReading.{reply_by}
use Rattle.world_model.specs.declared.entry.Entry.{Entry}
use Rattle.world_model.specs.declared.entry.Entry.TheVariants as entries
use Rattle.world_model.specs.declared.message.Call.{Call}
use Rattle.world_model.specs.declared.message.Reply.{Reply}
use Rattle.trace_text.specs.declared.answers.Shape.{Shape}
use Rattle.trace_text.specs.declared.answers.Shape.TheVariants as shapes
use Rattle.trace_text.specs.Answers.{shape_in, answer_of}
use Rattle.trace_text.specs.Told.{Told, entered}
use Rattle.trace_text.specs.Words.{◌>>=◌, bytes_of, first_of, handle_of, long_of, none_of, verf_of}

-- ---- operations

-- a lane, 1 to 16
abbrev pub lane_of : List ℕ → Option ℕ
lane_of word = number_of 1 16 word

-- the number of a script's line
abbrev pub line_of : List ℕ → Option ℕ
line_of word = number_of 1 4294967295 word

unfoldable pub began_line : Told → List (List ℕ) → Option Told
began_line told words = do
  lane_word ← first_of words
  line_word ← first_of lane_word.1
  op ← operation_of line_word.1
  lane ← lane_of lane_word.0
  line ← line_of line_word.0
  entered (entries.Began lane line op) told

-- what the operation shows that an entry begins in this lane and line
abbrev pub shape_begun : ℕ → ℕ → Entry → Option Shape
shape_begun lane line (entries.Began of at op) = if (of == lane) && (at == line) then Some (shape_in op) else None
shape_begun lane line entry = None

abbrev pub shape_at : ℕ → ℕ → Option Entry → Option Shape
shape_at lane line None = None
shape_at lane line (Some entry) = shape_begun lane line entry

abbrev pub or_shape : Option Shape → Shape → Shape
or_shape None before = before
or_shape (Some shape) before = shape

-- what the operation shows that began last in this lane and line; nothing if none did
abbrev pub last_shape : ℕ → ℕ → List Entry → ℕ → Shape
last_shape lane line es zero = shapes.Nothing
last_shape lane line es (suc n) = or_shape (shape_at lane line (slice_get es n)) (last_shape lane line es n)

unfoldable pub answered_line : Told → List (List ℕ) → Option Told
answered_line told words = do
  lane_word ← first_of words
  line_word ← first_of lane_word.1
  lane ← lane_of lane_word.0
  line ← line_of line_word.0
  answer ← answer_of (last_shape lane line told.history.entries (length told.history.entries)) line_word.1
  entered (entries.Answered lane line answer) told

-- ---- the link and the clock

unfoldable pub dialed_line : Told → List (List ℕ) → Option Told
dialed_line told words = do
  word ← one words
  port ← number_of 0 65535 word
  entered (entries.Dialed port) told

unfoldable pub sent_line : Told → List (List ℕ) → Option Told
sent_line told words = do
  word ← one words
  bytes ← bytes_of word
  entered (entries.Sent bytes) told

unfoldable pub delivered_line : Told → List (List ℕ) → Option Told
delivered_line told words = do
  word ← one words
  bytes ← bytes_of word
  entered (entries.Delivered bytes) told

unfoldable pub failed_line : Told → List (List ℕ) → Option Told
failed_line told words = none_of words >>= λ nothing. entered entries.Failed told

unfoldable pub clock_line : Told → List (List ℕ) → Option Told
clock_line told words = do
  word ← one words
  ms ← long_of word
  entered (entries.Clock ms) told

-- ---- the server

unfoldable pub flushed_line : Told → List (List ℕ) → Option Told
flushed_line told words = do
  w ← three words
  file ← handle_of w.0
  from ← long_of w.1
  len ← long_of w.2
  entered (entries.Flushed file from len) told

unfoldable pub reboot_line : Told → List (List ℕ) → Option Told
reboot_line told words = do
  word ← one words
  verf ← verf_of word
  entered (entries.Reboot verf) told

abbrev pub replied_by : ℕ → Call → Option Reply → Option (ℕ × Call × Reply)
replied_by xid call None = None
replied_by xid call (Some reply) = Some (xid, call, reply)

abbrev pub replied : List ℕ → Asked → Option (ℕ × Call × Reply)
replied reply askings.NoCall = None
replied reply (askings.Refuse xid bytes) = None
replied reply (askings.Serve xid call) = replied_by xid call (reply_by xid call reply)

-- a record that is a call of NFS or MOUNT, and one that is the reply to it, with the xid of both
unfoldable pub answered_call_of : List (List ℕ) → Option (ℕ × Call × Reply)
answered_call_of words = do
  w ← two words
  call ← bytes_of w.0
  reply ← bytes_of w.1
  replied reply (asked_at call)

unfoldable pub executed_line : Told → List (List ℕ) → Option Told
executed_line told words = answered_call_of words >>= λ c. entered (entries.Executed c.0 c.1 c.2) told

-- the xid is 0
abbrev pub foreign_entry_of : ℕ → Call → Reply → Option Entry
foreign_entry_of xid call reply = if xid == 0 then Some (entries.Foreign call reply) else None

unfoldable pub foreign_line : Told → List (List ℕ) → Option Told
foreign_line told words = do
  c ← answered_call_of words
  entry ← foreign_entry_of c.0 c.1 c.2
  entered entry told
