-- The text of a trace, line by line.
use Rattle.std.specs.Prelude.{ℕ, zero, suc, List, [], ◌∷◌, ◌++◌, length, take, codes, decimal, Bool, true, false, not, ◌&&◌, ◌==◌, nat_lt, Option, Some, None, is_some, slice_get, if◌then◌else◌}
use Rattle.std.specs.List.{flat_map, list_any}
use Rattle.std.specs.Str.{bytes_eq}
use Rattle.hex.specs.Hex.{encode_lower}
use Rattle.export_fs.specs.Spelling.{HasSpellingCall, HasSpellingReply}
use Rattle.export_serve.specs.Spelling.{reply_bytes}
use Rattle.nfs_types.specs.declared.mode.Mode.{Mode}
use Rattle.nfs_types.specs.declared.mode.Mode.TheVariants as modes
use Rattle.nfs_types.specs.declared.verf.Verf.{Verf}
use Rattle.nfs_types.specs.Fields.{attr_bytes}
use Rattle.trace_calls.specs.Sending.{call_bytes}
use Rattle.trace_data.specs.declared.trace.Contents.{Contents}
use Rattle.trace_data.specs.declared.trace.Contents.TheVariants as holds
use Rattle.trace_data.specs.declared.trace.DirEntry.{DirEntry}
use Rattle.trace_data.specs.declared.trace.Object.{Object}
use Rattle.trace_data.specs.declared.trace.Trace.{Trace}
use Rattle.trace_data.specs.declared.trace.Updated.{Updated}
use Rattle.trace_data.specs.Histories.{named, objects_after, object_at, verf_at}
use Rattle.trace_rules.specs.Keeping.{same_attr}
use Rattle.trace_rules.specs.Restarting.{same_verf}
use Rattle.world_model.specs.declared.entry.Entry.{Entry}
use Rattle.world_model.specs.declared.entry.Entry.TheVariants as entries
use Rattle.world_model.specs.declared.message.Call.{Call}
use Rattle.world_model.specs.declared.message.Reply.{Reply}
use Rattle.world_model.specs.declared.op.Op.{Op}
use Rattle.world_model.specs.declared.op.Op.TheVariants as ops
use Rattle.world_model.specs.History.{no_server}
use Rattle.world_model.specs.Transcript.{line_text, shown}
use Rattle.trace_text.specs.declared.object_texts.Part.{Part}
use Rattle.trace_text.specs.declared.object_texts.Part.TheVariants as parts
use Rattle.trace_text.specs.Pages.{within}

-- ---- words

-- bytes as lower-case hex digits, and `-` if there are none
abbrev pub hex_word : List ℕ → List ℕ
hex_word [] = codes "-"
hex_word (b ∷ bytes) = encode_lower (b ∷ bytes)

-- each name after a slash, as answers show it
unfoldable pub slashed : List (List ℕ) → List ℕ
slashed [] = []
slashed (name ∷ names) = codes "/" ++ shown name ++ slashed names

-- a path; that of no names is `/`
abbrev pub path_word : List (List ℕ) → List ℕ
path_word [] = codes "/"
path_word (name ∷ names) = slashed (name ∷ names)

abbrev pub mode_word : Mode → List ℕ
mode_word modes.R = codes "r"
mode_word modes.W = codes "w"
mode_word modes.RW = codes "rw"
mode_word modes.C = codes "c"
mode_word modes.X = codes "x"

-- ---- lines

-- each word after a space
abbrev pub spread : List (List ℕ) → List ℕ
spread [] = []
spread (word ∷ []) = codes " " ++ word
spread (word ∷ next ∷ words) = codes " " ++ word ++ spread (next ∷ words)

-- words parted by single spaces, and a line feed
abbrev pub line_of : List ℕ → List (List ℕ) → List ℕ
line_of word words = word ++ spread words ++ codes "\n"

-- a line that stands only if something is so
abbrev pub line_if : Bool → List ℕ → List ℕ
line_if true line = line
line_if false line = []

-- ---- how the session was asked for

abbrev pub root_text : Option (List ℕ) → List ℕ
root_text None = []
root_text (Some root) = line_of (codes "root") (hex_word root ∷ [])

-- a lifetime that isn't the usual one
abbrev pub lives_text : ℕ → List ℕ
lives_text lives = if lives == 60000 then [] else line_of (codes "lives") (decimal lives ∷ [])

abbrev pub head_text : Trace → List ℕ
head_text trace = root_text trace.root ++ lives_text trace.lives ++ line_if trace.noac (codes "noac\n") ++ line_if trace.nocto (codes "nocto\n")

-- ---- operations

-- a command and its words
abbrev pub op_words : Op → List (List ℕ)
op_words (ops.OpenFile slot mode path) = codes "open" ∷ decimal slot ∷ mode_word mode ∷ path_word path ∷ []
op_words (ops.Read slot offset count) = codes "read" ∷ decimal slot ∷ decimal offset ∷ decimal count ∷ []
op_words (ops.Write slot offset bytes) = codes "write" ∷ decimal slot ∷ decimal offset ∷ hex_word bytes ∷ []
op_words (ops.Fill slot offset count byte) = codes "fill" ∷ decimal slot ∷ decimal offset ∷ decimal count ∷ hex_word (byte ∷ []) ∷ []
op_words (ops.Put path offset bytes) = codes "put" ∷ path_word path ∷ decimal offset ∷ hex_word bytes ∷ []
op_words (ops.Sync slot) = codes "sync" ∷ decimal slot ∷ []
op_words (ops.Close slot) = codes "close" ∷ decimal slot ∷ []
op_words (ops.Truncate slot size) = codes "truncate" ∷ decimal slot ∷ decimal size ∷ []
op_words (ops.Stat path) = codes "stat" ∷ path_word path ∷ []
op_words (ops.Access path bits) = codes "access" ∷ path_word path ∷ decimal bits ∷ []
op_words (ops.MakeDir path) = codes "mkdir" ∷ path_word path ∷ []
op_words (ops.RemoveDir path) = codes "rmdir" ∷ path_word path ∷ []
op_words (ops.Remove path) = codes "remove" ∷ path_word path ∷ []
op_words (ops.Rename from to) = codes "rename" ∷ path_word from ∷ path_word to ∷ []
op_words (ops.Link from to) = codes "link" ∷ path_word from ∷ path_word to ∷ []
op_words (ops.SymLink path target) = codes "symlink" ∷ path_word path ∷ shown target ∷ []
op_words (ops.ReadLink path) = codes "readlink" ∷ path_word path ∷ []
op_words (ops.List path) = codes "list" ∷ path_word path ∷ []

-- ---- entries

-- a call and its reply, each as it is written under the xid
abbrev pub call_words : ℕ → Call → Reply → List (List ℕ)
call_words xid call reply = hex_word (call_bytes xid call) ∷ hex_word (reply_bytes xid reply) ∷ []

abbrev pub entry_text : Entry → List ℕ
entry_text (entries.Began lane line op) = codes "began" ++ spread (decimal lane ∷ decimal line ∷ []) ++ spread (op_words op) ++ codes "\n"
entry_text (entries.Answered lane line answer) = codes "answered " ++ line_text lane line answer
entry_text (entries.Dialed port) = line_of (codes "dialed") (decimal port ∷ [])
entry_text (entries.Sent bytes) = line_of (codes "sent") (hex_word bytes ∷ [])
entry_text (entries.Executed xid call reply) = line_of (codes "executed") (call_words xid call reply)
entry_text (entries.Foreign call reply) = line_of (codes "foreign") (call_words 0 call reply)
entry_text (entries.Flushed file from len) = line_of (codes "flushed") (hex_word file ∷ decimal from ∷ decimal len ∷ [])
entry_text (entries.Reboot verf) = line_of (codes "reboot") (hex_word verf.0 ∷ [])
entry_text (entries.Delivered bytes) = line_of (codes "delivered") (hex_word bytes ∷ [])
entry_text entries.Failed = codes "failed\n"
entry_text (entries.Clock ms) = line_of (codes "clock") (decimal ms ∷ [])

-- bytes can spell the call and the reply of an entry
abbrev pub IsSpelled : Entry → Type 0
IsSpelled (entries.Began lane line op) = Unit {0}
IsSpelled (entries.Answered lane line answer) = Unit {0}
IsSpelled (entries.Dialed port) = Unit {0}
IsSpelled (entries.Sent bytes) = Unit {0}
IsSpelled (entries.Executed xid call reply) = HasSpellingCall call × HasSpellingReply reply
IsSpelled (entries.Foreign call reply) = HasSpellingCall call × HasSpellingReply reply
IsSpelled (entries.Flushed file from len) = Unit {0}
IsSpelled (entries.Reboot verf) = Unit {0}
IsSpelled (entries.Delivered bytes) = Unit {0}
IsSpelled entries.Failed = Unit {0}
IsSpelled (entries.Clock ms) = Unit {0}

-- ---- the server

-- a write verifier that is another than before
abbrev pub verf_text : Verf → Verf → List ℕ
verf_text before after = if same_verf before after then [] else line_of (codes "verf") (hex_word after.0 ∷ [])

-- the bytes that an object's line shows: those of a file and the stable ones, or a text
abbrev pub contents_words : Contents → List (List ℕ)
contents_words (holds.File now stable) = hex_word now ∷ hex_word stable ∷ []
contents_words (holds.Directory list) = codes "-" ∷ codes "-" ∷ []
contents_words (holds.Other text) = hex_word text ∷ codes "-" ∷ []

abbrev pub obj_line : Updated → List ℕ
obj_line updated = line_of (codes "obj") (hex_word updated.handle ∷ hex_word (attr_bytes updated.object.attr) ∷ contents_words updated.object.contents)

abbrev pub is_file : List ℕ → List ℕ → Contents → Bool
is_file now stable (holds.File later steady) = bytes_eq now later && bytes_eq stable steady
is_file now stable (holds.Directory list) = false
is_file now stable (holds.Other text) = false

abbrev pub is_directory : Contents → Bool
is_directory (holds.File now stable) = false
is_directory (holds.Directory list) = true
is_directory (holds.Other text) = false

abbrev pub is_other : List ℕ → Contents → Bool
is_other text (holds.File now stable) = false
is_other text (holds.Directory list) = false
is_other text (holds.Other later) = bytes_eq text later

-- files of the same bytes, directories, or others of the same text
abbrev pub holds_same : Contents → Contents → Bool
holds_same (holds.File now stable) new = is_file now stable new
holds_same (holds.Directory list) new = is_directory new
holds_same (holds.Other text) new = is_other text new

abbrev pub looks_same : Object → Object → Bool
looks_same old new = same_attr old.attr new.attr && holds_same old.contents new.contents

-- an object's attributes and bytes, if they aren't those of before
abbrev pub obj_text : Option Object → Updated → List ℕ
obj_text None updated = obj_line updated
obj_text (Some old) updated = line_if (not (looks_same old updated.object)) (obj_line updated)

abbrev pub was_gone : Option Object → Bool
was_gone None = false
was_gone (Some old) = old.gone

-- an object whose last name was removed, and wasn't before
abbrev pub gone_text : Option Object → Updated → List ℕ
gone_text was updated = line_if (updated.object.gone && not (was_gone was)) (line_of (codes "gone") (hex_word updated.handle ∷ []))

abbrev pub has_name : List ℕ → DirEntry → Bool
has_name name entry = bytes_eq entry.name name

-- a name that is in no new entry
abbrev pub unname_text : List ℕ → List DirEntry → DirEntry → List ℕ
unname_text dir new entry = line_if (not (list_any (has_name entry.name) new)) (line_of (codes "unname") (hex_word dir ∷ hex_word entry.name ∷ []))

abbrev pub same_entry : DirEntry → DirEntry → Bool
same_entry entry other = bytes_eq other.name entry.name && bytes_eq other.object entry.object && (other.cookie == entry.cookie)

-- an entry that wasn't there before
abbrev pub name_text : List ℕ → List DirEntry → DirEntry → List ℕ
name_text dir old entry =
    line_if (not (list_any (same_entry entry) old))
    (line_of (codes "name") (hex_word dir ∷ hex_word entry.name ∷ hex_word entry.object ∷ decimal entry.cookie ∷ []))

-- the names that left a directory, and then those that entered it
abbrev pub list_text : List ℕ → List DirEntry → List DirEntry → List ℕ
list_text dir old new = flat_map (unname_text dir new) old ++ flat_map (name_text dir old) new

abbrev pub entries_in : Contents → List DirEntry
entries_in (holds.File now stable) = []
entries_in (holds.Directory list) = list.items
entries_in (holds.Other text) = []

abbrev pub entries_of : Option Object → List DirEntry
entries_of None = []
entries_of (Some object) = entries_in object.contents

abbrev pub names_in : List ℕ → List DirEntry → Contents → List ℕ
names_in dir old (holds.File now stable) = []
names_in dir old (holds.Directory list) = list_text dir old list.items
names_in dir old (holds.Other text) = []

abbrev pub names_text : Option Object → Updated → List ℕ
names_text was updated = names_in updated.handle (entries_of was) updated.object.contents

-- which lines of an object are written
abbrev pub part_text : Part → Option Object → Updated → List ℕ
part_text parts.Attributes was updated = obj_text was updated
part_text parts.Removals was updated = gone_text was updated
part_text parts.Names was updated = names_text was updated

-- one of these has the file handle
abbrev pub again_in : List Updated → Option Updated → Bool
again_in before None = false
again_in before (Some updated) = is_some (named before updated.handle)

-- an object before the place has the file handle of the one there
abbrev pub is_again : List Updated → ℕ → Bool
is_again objects n = again_in (take n objects) (slice_get objects n)

-- the object at a place, unless one before it has its file handle
abbrev pub first_of : List Updated → Option Updated → List Updated
first_of before None = []
first_of before (Some updated) = if is_some (named before updated.handle) then [] else updated ∷ []

-- of the first n objects those that have no other before them
abbrev pub firsts : List Updated → ℕ → List Updated
firsts objects zero = []
firsts objects (suc n) = firsts objects n ++ first_of (take n objects) (slice_get objects n)

abbrev pub changed_text : (List ℕ → Option Object) → Part → Updated → List ℕ
changed_text was part updated = part_text part (was updated.handle) updated

-- the lines of the object at a place
abbrev pub place_text : (List ℕ → Option Object) → Part → List Updated → ℕ → List ℕ
place_text was part objects n = flat_map (changed_text was part) (first_of (take n objects) (slice_get objects n))

-- the same of all objects
abbrev pub lines_text : (List ℕ → Option Object) → Part → List Updated → List ℕ
lines_text was part objects = flat_map (changed_text was part) (firsts objects (length objects))

-- objects that were others before: attributes and bytes of each, then which are gone, then names
abbrev pub objects_text : (List ℕ → Option Object) → List Updated → List ℕ
objects_text was objects = lines_text was parts.Attributes objects ++ lines_text was parts.Removals objects ++ lines_text was parts.Names objects

-- the objects of the start, or those that an entry may have changed
abbrev pub objects_in : Trace → Option ℕ → List Updated
objects_in trace None = trace.start.objects.items
objects_in trace (Some n) = objects_after trace.updates.items n

-- what there was before an entry; nothing before the start
abbrev pub object_before : Trace → Option ℕ → List ℕ → Option Object
object_before trace None h = None
object_before trace (Some n) h = object_at trace.start.objects.items trace.updates.items n h

-- ---- the whole

-- the server before the first entry
abbrev pub start_text : Trace → List ℕ
start_text trace = verf_text no_server.verf trace.start.verf ++ objects_text (object_before trace None) (objects_in trace None)

-- the write verifier after entry n, if it is another one than before
abbrev pub restart_text : Trace → ℕ → List ℕ
restart_text trace n = verf_text (verf_at trace.start.verf trace.updates.items n) (verf_at trace.start.verf trace.updates.items (suc n))

-- what entry n changed of the server
abbrev pub changes_text : Trace → ℕ → List ℕ
changes_text trace n =
    restart_text trace n
    ++ objects_text (object_before trace (Some n)) (objects_in trace (Some n))

abbrev pub entry_text_of : Option Entry → List ℕ
entry_text_of None = []
entry_text_of (Some entry) = entry_text entry

-- entry n, and what it changed
unfoldable pub step_text : Trace → ℕ → List ℕ
step_text trace n = entry_text_of (slice_get trace.entries.items n) ++ changes_text trace n

-- the first n entries, each with what it changed
abbrev pub steps_text : Trace → ℕ → List ℕ
steps_text trace zero = []
steps_text trace (suc n) = steps_text trace n ++ step_text trace n

unfoldable pub text_of : Trace → List ℕ
text_of trace = head_text trace ++ start_text trace ++ steps_text trace (length trace.entries.items)

-- That text, if there are 4,096 entries at most and 1,048,576 bytes at most.
abbrev pub printed : Trace → Option (List ℕ)
printed trace = if nat_lt 4096 (length trace.entries.items) then None else within (text_of trace)
