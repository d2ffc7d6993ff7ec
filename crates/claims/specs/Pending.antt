-- Which bytes of the client may still be dirty: a wide set, in which those lie that really are.
use Rattle.std.specs.Prelude.{◌<◌, ◌≤◌, ℕ, List}
use Rattle.world_model.specs.declared.answer.Answer.TheVariants.{Done, Refused}
use Rattle.world_model.specs.declared.answer.Fault.{Fault}
use Rattle.world_model.specs.declared.answer.Value.{Value}
use Rattle.world_model.specs.declared.entry.Entry.{Entry}
use Rattle.world_model.specs.declared.entry.Entry.TheVariants.{Began}
use Rattle.world_model.specs.declared.op.Op.TheVariants as ops
use Rattle.world_model.specs.Entries.{At}
use Rattle.claims.specs.Modes.{Modes}
use Rattle.world_model.specs.Mounts.{Origin}
use Rattle.world_model.specs.Operations.{AnsweredBefore, Ended, NoneCame}
use Rattle.claims.specs.Slots.{Opens}
use Rattle.claims.specs.Touched.{WritesByte, RefusedWrite, Wrote, Truncated, MadeStable, Left}

-- no put is under way at the place k
abbrev pub NoPutAt : List Entry → ℕ → Type 0
NoPutAt h k = (x lane line offset : ℕ) (path : List (List ℕ)) (bytes : List ℕ) → At h x (Began lane line (ops.Put path offset bytes)) → x < k
    → AnsweredBefore h x k

-- the operation at the place w is a put that succeeded before the moment n
pub record PutSucceeded (h : List Entry) (w n : ℕ) : Type 0 where
  pub lane : ℕ
  pub path : List (List ℕ)
  pub offset : ℕ
  pub bytes : List ℕ
  pub y : ℕ
  pub value : Value
  pub ended : Ended h lane w (ops.Put path offset bytes) y (Done value)
  pub before : y < n

-- the operation at the place w is a put that was refused
pub record PutRefused (h : List Entry) (w : ℕ) : Type 0 where
  pub lane : ℕ
  pub path : List (List ℕ)
  pub offset : ℕ
  pub bytes : List ℕ
  pub y : ℕ
  pub fault : Fault
  pub ended : Ended h lane w (ops.Put path offset bytes) y (Refused fault)

-- After the place k no open of the file succeeds before the next record comes.
abbrev pub NoneOpens : Modes → List Entry → ℕ → List ℕ → Type 0
NoneOpens m h k f = (lane slot x y : ℕ) → Opens m h lane slot x y f → k < y → NoneCame h k y → ⊥

-- a last close after which the client holds nothing of the file back
pub record LeftAlone (m : Modes) (h : List Entry) (k : ℕ) (f : List ℕ) : Type 0 where
  pub left : Left m h k f
  pub no_put : NoPutAt h k
  pub unopened : NoneOpens m h k f

-- The byte may be pending at the moment n: an operation that began before writes it there, and it is no put that succeeded by then;
-- since it was answered no later one that succeeded covers, cuts or settles the byte, and no last close left the file alone. What a
-- put that was refused leaves behind may outlast a last close.
pub record Pending (m : Modes) (origin : Origin) (h : List Entry) (f : List ℕ) (i n v : ℕ) : Type 0 where
  pub w : ℕ
  pub before : w < n
  pub writes : WritesByte m origin h w f i v
  pub unrefused : RefusedWrite h w → ⊥
  pub unput : PutSucceeded h w n → ⊥
  pub uncovered : (x y u : ℕ) → AnsweredBefore h w x → Wrote m h x y f i u → y < n → ⊥
  pub uncut : (x y size : ℕ) → AnsweredBefore h w x → Truncated m h x y f size → size ≤ i → y < n → ⊥
  pub unsettled : (x y : ℕ) → AnsweredBefore h w x → MadeStable m h x y f → y < n → ⊥
  pub unleft : (PutRefused h w → ⊥) → (k : ℕ) → AnsweredBefore h w k → LeftAlone m h k f → k < n → ⊥
