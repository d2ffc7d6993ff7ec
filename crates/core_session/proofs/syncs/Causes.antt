-- What the operation that began at a place of a history may do to a byte of a file, by what it began as.
use Rattle.core_session.proofs.Prelude.{◌≡◌, ◌≢◌, ◌≤◌, ◌^◌, ◌+◌, ◌-◌, ℕ, true, List, length, refl, slice_index, Entry, Began, Op, At, Modes, Origin, IsOf, WritesByte, Cuts, covers}
use Rattle.world_model.specs.declared.op.Op.TheVariants as ops

-- a write or a fill; a sync or a close
abbrev pub IsWriter : Op → Type 0
IsWriter (ops.Write slot offset bytes) = Unit {0}
IsWriter (ops.Fill slot offset count byte) = Unit {0}
IsWriter op = ⊥

abbrev pub IsSaver : Op → Type 0
IsSaver (ops.Sync slot) = Unit {0}
IsSaver (ops.Close slot) = Unit {0}
IsSaver op = ⊥

abbrev pub IsPut : Op → Type 0
IsPut (ops.Put path offset bytes) = Unit {0}
IsPut op = ⊥

pub writer-no-saver : (op : Op) → IsWriter op → IsSaver op → ⊥
writer-no-saver (ops.Write slot offset bytes) a b = b
writer-no-saver (ops.Fill slot offset count v) a b = b
writer-no-saver (ops.Sync slot) a b = a
writer-no-saver (ops.Close slot) a b = a
writer-no-saver (ops.OpenFile slot mode path) a b = a
writer-no-saver (ops.Read slot offset count) a b = a
writer-no-saver (ops.Truncate slot size) a b = a
writer-no-saver (ops.Put path offset bytes) a b = a
writer-no-saver (ops.Stat path) a b = a
writer-no-saver (ops.Access path bits) a b = a
writer-no-saver (ops.MakeDir path) a b = a
writer-no-saver (ops.RemoveDir path) a b = a
writer-no-saver (ops.Remove path) a b = a
writer-no-saver (ops.Rename from to) a b = a
writer-no-saver (ops.Link from to) a b = a
writer-no-saver (ops.SymLink path target) a b = a
writer-no-saver (ops.ReadLink path) a b = a
writer-no-saver (ops.List path) a b = a

pub put-no-saver : (op : Op) → IsPut op → IsSaver op → ⊥
put-no-saver (ops.Write slot offset bytes) a b = a
put-no-saver (ops.Fill slot offset count v) a b = a
put-no-saver (ops.Sync slot) a b = a
put-no-saver (ops.Close slot) a b = a
put-no-saver (ops.OpenFile slot mode path) a b = a
put-no-saver (ops.Read slot offset count) a b = a
put-no-saver (ops.Truncate slot size) a b = a
put-no-saver (ops.Put path offset bytes) a b = b
put-no-saver (ops.Stat path) a b = a
put-no-saver (ops.Access path bits) a b = a
put-no-saver (ops.MakeDir path) a b = a
put-no-saver (ops.RemoveDir path) a b = a
put-no-saver (ops.Remove path) a b = a
put-no-saver (ops.Rename from to) a b = a
put-no-saver (ops.Link from to) a b = a
put-no-saver (ops.SymLink path target) a b = a
put-no-saver (ops.ReadLink path) a b = a
put-no-saver (ops.List path) a b = a

pub put-no-writer : (op : Op) → IsPut op → IsWriter op → ⊥
put-no-writer (ops.Put path offset bytes) a b = b
put-no-writer (ops.Write slot offset bytes) a b = a
put-no-writer (ops.Fill slot offset count v) a b = a
put-no-writer (ops.Sync slot) a b = a
put-no-writer (ops.Close slot) a b = a
put-no-writer (ops.OpenFile slot mode path) a b = a
put-no-writer (ops.Read slot offset count) a b = a
put-no-writer (ops.Truncate slot size) a b = a
put-no-writer (ops.Stat path) a b = a
put-no-writer (ops.Access path bits) a b = a
put-no-writer (ops.MakeDir path) a b = a
put-no-writer (ops.RemoveDir path) a b = a
put-no-writer (ops.Remove path) a b = a
put-no-writer (ops.Rename from to) a b = a
put-no-writer (ops.Link from to) a b = a
put-no-writer (ops.SymLink path target) a b = a
put-no-writer (ops.ReadLink path) a b = a
put-no-writer (ops.List path) a b = a

pub put-is : (op : Op) → IsPut op → (path : List (List ℕ)) × (offset : ℕ) × (bytes : List ℕ) × (op ≡ ops.Put path offset bytes)
put-is (ops.Put path offset bytes) is = (path, offset, bytes, refl)
put-is (ops.Write slot offset bytes) is = absurd is
put-is (ops.Fill slot offset count v) is = absurd is
put-is (ops.Sync slot) is = absurd is
put-is (ops.Close slot) is = absurd is
put-is (ops.OpenFile slot mode path) is = absurd is
put-is (ops.Read slot offset count) is = absurd is
put-is (ops.Truncate slot size) is = absurd is
put-is (ops.Stat path) is = absurd is
put-is (ops.Access path bits) is = absurd is
put-is (ops.MakeDir path) is = absurd is
put-is (ops.RemoveDir path) is = absurd is
put-is (ops.Remove path) is = absurd is
put-is (ops.Rename from to) is = absurd is
put-is (ops.Link from to) is = absurd is
put-is (ops.SymLink path target) is = absurd is
put-is (ops.ReadLink path) is = absurd is
put-is (ops.List path) is = absurd is

-- of the operation at a place
abbrev pub OfOp : List Entry → ℕ → (Op → Type 0) → Type 0
OfOp h x Is = (lane line : ℕ) (op : Op) → At h x (Began lane line op) → Is op

-- a byte of the place comes in
pub data Comes (m : Modes) (origin : Origin) (h : List Entry) (x : ℕ) (f : List ℕ) (i : ℕ) : Type 0 where
  by_write : (v : ℕ) → WritesByte m origin h x f i v → OfOp h x IsWriter → Comes m origin h x f i
  by_put : (v : ℕ) → WritesByte m origin h x f i v → OfOp h x IsPut → Comes m origin h x f i

-- Its bytes come in so: the write or put at the place w has this byte for the place; a write is of the file.
pub record Adding (m : Modes) (origin : Origin) (h : List Entry) (w : ℕ) (f : List ℕ) (i byte x : ℕ) (file : List ℕ) (offset : ℕ) (bytes : List ℕ) : Type 0 where
  pub fits : offset + length bytes ≤ 2 ^ 63 - 1
  pub no_saver : (lane line : ℕ) (op : Op) → At h x (Began lane line op) → IsSaver op → ⊥
  pub over : x ≢ w → file ≡ f → covers offset (length bytes) i ≡ true → Comes m origin h x f i
  pub own : x ≡ w → file ≡ f → (covers offset (length bytes) i ≡ true) × (slice_index bytes (i - offset) ≡ byte)
  pub its : x ≡ w → OfOp h x IsWriter → file ≡ f

-- it saves this file, where it is a sync or a close
abbrev pub Saving_ : Modes → List Entry → ℕ → List ℕ → Type 0
Saving_ m h x file = (lane line : ℕ) (op : Op) → At h x (Began lane line op) → IsSaver op → IsOf m h x op file

-- it cuts this file
abbrev pub Cutting : Modes → List Entry → List ℕ → ℕ → ℕ → List ℕ → ℕ → ℕ → Type 0
Cutting m h f i x file size upto = file ≡ f → size ≤ i → Cuts m h x f i
