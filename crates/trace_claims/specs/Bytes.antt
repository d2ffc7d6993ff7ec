-- The bytes that operations leave, place by place.
use Rattle.std.specs.Prelude.{◌+◌, ◌-◌, ◌==◌, ◌&&◌, nat_le, nat_lt, ℕ, Bool, false, List, Option, Some, None, slice_get, if◌then◌else◌}
use Rattle.world_model.specs.declared.entry.Entry.{Entry}
use Rattle.world_model.specs.declared.entry.Entry.TheVariants.{Began, Answered, Dialed, Sent, Executed, Foreign, Flushed, Reboot, Delivered, Failed, Clock}
use Rattle.world_model.specs.declared.op.Op.{Op}
use Rattle.world_model.specs.declared.op.Op.TheVariants as ops

-- the byte at a place of bytes that begin at an offset
unfoldable pub byte_from : List ℕ → (offset i : ℕ) → Option ℕ
byte_from bytes offset i = if nat_le offset i then slice_get bytes (i - offset) else None

-- the byte at a place of so many equal ones
abbrev pub filled : (offset count byte i : ℕ) → Option ℕ
filled offset count byte i = if nat_le offset i && nat_lt i (offset + count) then Some byte else None

-- a zero from a size on
abbrev pub cut : (size i : ℕ) → Option ℕ
cut size i = if nat_le size i then Some 0 else None

abbrev pub byte_of_op : Op → ℕ → Option ℕ
byte_of_op (ops.Write slot offset bytes) i = byte_from bytes offset i
byte_of_op (ops.Put path offset bytes) i = byte_from bytes offset i
byte_of_op (ops.Fill slot offset count byte) i = filled offset count byte i
byte_of_op (ops.Truncate slot size) i = cut size i
byte_of_op op i = None

abbrev pub byte_by : Entry → ℕ → Option ℕ
byte_by (Began lane line op) i = byte_of_op op i
byte_by (Answered lane line answer) i = None
byte_by (Dialed port) i = None
byte_by (Sent bytes) i = None
byte_by (Executed xid call reply) i = None
byte_by (Foreign call reply) i = None
byte_by (Flushed file from len) i = None
byte_by (Reboot verf) i = None
byte_by (Delivered bytes) i = None
byte_by Failed i = None
byte_by (Clock ms) i = None

abbrev pub byte_there : Option Entry → ℕ → Option ℕ
byte_there None i = None
byte_there (Some e) i = byte_by e i

-- the byte that the operation which began there leaves at the place i
unfoldable pub byte_of : List Entry → (began i : ℕ) → Option ℕ
byte_of h x i = byte_there (slice_get h x) i

-- both are there and the same
abbrev pub same_byte : Option ℕ → Option ℕ → Bool
same_byte None b = false
same_byte (Some a) None = false
same_byte (Some a) (Some b) = a == b

-- both lists, which begin at an offset, have that byte there
abbrev pub shows : List Entry → ℕ → (now stable : List ℕ) → (offset i : ℕ) → Bool
shows h x now stable offset i = same_byte (byte_from now offset i) (byte_of h x i) && same_byte (byte_from stable offset i) (byte_of h x i)
