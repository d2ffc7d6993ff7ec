-- Tests on single entries, and the first of some places that passes.
use Rattle.std.specs.Prelude.{◌≡◌, ◌<◌, ◌==◌, ◌&&◌, ℕ, Bool, true, false, List, [], Option, Some, None, slice_get}
use Rattle.rpc_message.specs.Call.{xid_at}
use Rattle.world_model.specs.declared.entry.Entry.{Entry}
use Rattle.world_model.specs.declared.entry.Entry.TheVariants.{Began, Answered, Dialed, Sent, Executed, Foreign, Flushed, Reboot, Delivered, Failed, Clock}

-- ---- what an entry is

-- the lane and the line of an operation that begins
abbrev pub begins : Entry → Option (ℕ × ℕ)
begins (Began lane line op) = Some (lane, line)
begins (Answered lane line answer) = None
begins (Dialed port) = None
begins (Sent bytes) = None
begins (Executed xid call reply) = None
begins (Foreign call reply) = None
begins (Flushed file from len) = None
begins (Reboot verf) = None
begins (Delivered bytes) = None
begins Failed = None
begins (Clock ms) = None

abbrev pub begins_there : Option Entry → Option (ℕ × ℕ)
begins_there None = None
begins_there (Some e) = begins e

unfoldable pub began_at : List Entry → ℕ → Option (ℕ × ℕ)
began_at h i = begins_there (slice_get h i)

-- an answer of this lane and line
abbrev pub answers : ℕ → ℕ → Entry → Bool
answers lane line (Began of at op) = false
answers lane line (Answered of at answer) = (of == lane) && (at == line)
answers lane line (Dialed port) = false
answers lane line (Sent bytes) = false
answers lane line (Executed xid call reply) = false
answers lane line (Foreign call reply) = false
answers lane line (Flushed file from len) = false
answers lane line (Reboot verf) = false
answers lane line (Delivered bytes) = false
answers lane line Failed = false
answers lane line (Clock ms) = false

abbrev pub answers_there : ℕ → ℕ → Option Entry → Bool
answers_there lane line None = false
answers_there lane line (Some e) = answers lane line e

unfoldable pub answers_at : List Entry → ℕ → ℕ → ℕ → Bool
answers_at h lane line i = answers_there lane line (slice_get h i)

abbrev pub is_some_of : ℕ → Option ℕ → Bool
is_some_of x None = false
is_some_of x (Some y) = y == x

-- the record's first word is x
unfoldable pub has_xid : List ℕ → ℕ → Bool
has_xid bytes x = is_some_of x (xid_at bytes)

-- a record under the xid that was sent
abbrev pub sends : ℕ → Entry → Bool
sends x (Began lane line op) = false
sends x (Answered lane line answer) = false
sends x (Dialed port) = false
sends x (Sent bytes) = has_xid bytes x
sends x (Executed xid call reply) = false
sends x (Foreign call reply) = false
sends x (Flushed file from len) = false
sends x (Reboot verf) = false
sends x (Delivered bytes) = false
sends x Failed = false
sends x (Clock ms) = false

abbrev pub sends_there : ℕ → Option Entry → Bool
sends_there x None = false
sends_there x (Some e) = sends x e

unfoldable pub sends_at : List Entry → ℕ → ℕ → Bool
sends_at h x i = sends_there x (slice_get h i)

-- a record under the xid that came
abbrev pub delivers : ℕ → Entry → Bool
delivers x (Began lane line op) = false
delivers x (Answered lane line answer) = false
delivers x (Dialed port) = false
delivers x (Sent bytes) = false
delivers x (Executed xid call reply) = false
delivers x (Foreign call reply) = false
delivers x (Flushed file from len) = false
delivers x (Reboot verf) = false
delivers x (Delivered bytes) = has_xid bytes x
delivers x Failed = false
delivers x (Clock ms) = false

abbrev pub delivers_there : ℕ → Option Entry → Bool
delivers_there x None = false
delivers_there x (Some e) = delivers x e

unfoldable pub delivers_at : List Entry → ℕ → ℕ → Bool
delivers_at h x i = delivers_there x (slice_get h i)

-- a record that came
abbrev pub brings : Entry → Bool
brings (Began lane line op) = false
brings (Answered lane line answer) = false
brings (Dialed port) = false
brings (Sent bytes) = false
brings (Executed xid call reply) = false
brings (Foreign call reply) = false
brings (Flushed file from len) = false
brings (Reboot verf) = false
brings (Delivered bytes) = true
brings Failed = false
brings (Clock ms) = false

abbrev pub brings_there : Option Entry → Bool
brings_there None = false
brings_there (Some e) = brings e

unfoldable pub brings_at : List Entry → ℕ → Bool
brings_at h i = brings_there (slice_get h i)

-- ---- the bytes of a record

abbrev pub bytes_sent : Entry → List ℕ
bytes_sent (Began lane line op) = []
bytes_sent (Answered lane line answer) = []
bytes_sent (Dialed port) = []
bytes_sent (Sent bytes) = bytes
bytes_sent (Executed xid call reply) = []
bytes_sent (Foreign call reply) = []
bytes_sent (Flushed file from len) = []
bytes_sent (Reboot verf) = []
bytes_sent (Delivered bytes) = []
bytes_sent Failed = []
bytes_sent (Clock ms) = []

abbrev pub bytes_sent_there : Option Entry → List ℕ
bytes_sent_there None = []
bytes_sent_there (Some e) = bytes_sent e

-- the record that was sent at a place, and no bytes if none was
unfoldable pub sent_bytes : List Entry → ℕ → List ℕ
sent_bytes h i = bytes_sent_there (slice_get h i)

abbrev pub bytes_came : Entry → List ℕ
bytes_came (Began lane line op) = []
bytes_came (Answered lane line answer) = []
bytes_came (Dialed port) = []
bytes_came (Sent bytes) = []
bytes_came (Executed xid call reply) = []
bytes_came (Foreign call reply) = []
bytes_came (Flushed file from len) = []
bytes_came (Reboot verf) = []
bytes_came (Delivered bytes) = bytes
bytes_came Failed = []
bytes_came (Clock ms) = []

abbrev pub bytes_came_there : Option Entry → List ℕ
bytes_came_there None = []
bytes_came_there (Some e) = bytes_came e

-- the record that came at a place, and no bytes if none did
unfoldable pub came_bytes : List Entry → ℕ → List ℕ
came_bytes h i = bytes_came_there (slice_get h i)

-- ---- the first place that passes

-- the test fails between x and n
abbrev pub NonePast : (ℕ → Bool) → ℕ → ℕ → Type 0
NonePast f x n = (j : ℕ) → x < j → j < n → f j ≡ false

-- y is the first past x and below n that passes
pub record IsFirst (f : ℕ → Bool) (x n y : ℕ) : Type 0 where
  pub later : x < y
  pub below : y < n
  pub passes : f y ≡ true
  pub none : NonePast f x y

-- the test fails below n
abbrev pub NoneBelow : (ℕ → Bool) → ℕ → Type 0
NoneBelow f n = (j : ℕ) → j < n → f j ≡ false

-- y is the least below n that passes
pub record IsLeast (f : ℕ → Bool) (n y : ℕ) : Type 0 where
  pub below : y < n
  pub passes : f y ≡ true
  pub none : NoneBelow f y
