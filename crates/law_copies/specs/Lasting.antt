-- Where the bytes of a copy are afterwards.
use Rattle.std.specs.Prelude.{◌≡◌, ◌<◌, ◌≤◌, ℕ, List, length, Some, slice_get}
use Rattle.nfs_types.specs.declared.mode.Mode.{Mode}
use Rattle.nfs_types.specs.declared.mode.Mode.TheVariants as modes
use Rattle.world_model.specs.declared.answer.Answer.TheVariants as answers
use Rattle.world_model.specs.declared.answer.Value.{Value}
use Rattle.world_model.specs.declared.entry.Entry.{Entry}
use Rattle.world_model.specs.declared.op.Op.{Op}
use Rattle.world_model.specs.declared.op.Op.TheVariants as ops
use Rattle.world_model.specs.History.{History}
use Rattle.world_model.specs.Mounts.{Origin}
use Rattle.world_model.specs.Operations.{Ended}
use Rattle.claims.specs.Modes.{Modes}
use Rattle.claims.specs.OkRows.{OkRow}
use Rattle.claims.specs.Settled.{HoldsStable, Settled}
use Rattle.claims.specs.Slots.{Opens}
use Rattle.claims.specs.Terms.{Terms}
use Rattle.claims.specs.Touched.{Touched}
use Rattle.law_copies.specs.Copied.{Copied}

-- each open that succeeded is of a file
abbrev pub OpensFind : Modes → List Entry → Type 0
OpensFind m h = (lane slot x y : ℕ) (mode : Mode) (path : List (List ℕ)) (value : Value) → Ended h lane x (ops.OpenFile slot mode path) y (answers.Done value)
    → (f : List ℕ) × Opens m h lane slot x y f

-- A byte of a file was written after one place and before another. At each later moment the file holds it on stable storage, unless it was touched since.
pub record ByteStays (m : Modes) (origin : Origin) (t : History) (f : List ℕ) (from to i v : ℕ) : Type 0 where
  pub write : ℕ
  pub after : from < write
  pub before : write < to
  pub stays : (p : ℕ) → to < p → p ≤ length t.entries → (Touched m origin t write p f i → ⊥) → HoldsStable (t.at p) f i v

-- The path was opened, and led to a file; each of the bytes was written to it then, and stays there from its close on.
pub record CopyStays (m : Modes) (origin : Origin) (t : History) (path : List (List ℕ)) (bytes : List ℕ) : Type 0 where
  pub lane : ℕ
  pub open_at : ℕ
  pub opened : ℕ
  pub value : Value
  pub its_open : Ended t.entries lane open_at (ops.OpenFile 1 modes.C path) opened (answers.Done value)
  pub f : List ℕ
  pub opens : Opens m t.entries lane 1 open_at opened f
  pub closed : ℕ
  pub bytes_stay : (i v : ℕ) → slice_get bytes i ≡ Some v → ByteStays m origin t f opened closed i v

-- The law. The bytes that a session made stable stay, and each open that succeeded is of a file.
abbrev pub CopiesStay : Type 0
CopiesStay = (m : Modes) (origin : Origin) (t : History) → OpensFind m t.entries → Settled m origin t → (path : List (List ℕ)) (bytes : List ℕ)
    → Copied t.entries path bytes → CopyStays m origin t path bytes

-- The law. If each operation that succeeded has its row, each open that succeeded is of a file.
abbrev pub RowsFind : Type 0
RowsFind = (terms : Terms) (h : List Entry)
    → ((lane x y : ℕ) (op : Op) (value : Value) → Ended h lane x op y (answers.Done value) → OkRow terms h lane x y op value) → OpensFind terms.modes h
