-- The machine of written bytes (`model_writes`), as far as it speaks of bytes and calls (RFC 1813, sections 3.3.7, 3.3.21 and 4.8). It has of each
-- place the pending byte and the one in flight, and the calls that wait under their xids. Its lanes and slots aren't looked at.
use Rattle.std.specs.Prelude.{◌≡◌, ◌<◌, ◌⊎◌, ℕ, List, Some, None}
use Rattle.model_writes.specs.Machine.{Cell, Flight, View, SameCalls, SamePlaces, NewCall, Took, Renews}
use Rattle.model_writes.specs.Story.{File, Spot, Call, write, commit, resize, plain, Reply}
use Rattle.step_pending.specs.Steps.{Lays, TakesOff, CutsFrom, GivesAll}

-- a call that is neither a WRITE nor a COMMIT of a whole file
abbrev pub IsOther : Call → Type 0
IsOther (write file offset bytes how) = ⊥
IsOther (commit file) = ⊥
IsOther (resize file size) = Unit {0}
IsOther (plain what) = Unit {0}

-- the number of each byte that is pending or in flight is below this one
pub record AreBelow (number : ℕ) (c : View) : Type 0 where
  pub rest : (i : Spot) (cell : Cell) → c.rest i ≡ Some cell → cell.number < number
  pub fly : (i : Spot) (f : Flight) → c.fly i ≡ Some f → f.number < number

-- What the client does by itself: a WRITE of pending bytes, which take off, while no COMMIT of their file waits; a COMMIT, while nothing of its file
-- is in flight; or another call, each under the next xid. Bytes come in under a new number, over what was pending; a truncate drops some at its end; or
-- all of a file is given up, while nothing of it is in flight.
pub data Move (old new : View) : Type 0 where
  makes_write : (x : ℕ) (file : File) (offset : ℕ) (bytes : List ℕ) (how : ℕ) → NewCall old new x (write file offset bytes how)
      → ((z : ℕ) → old.wait z ≡ Some (commit file) → ⊥) → TakesOff x file offset bytes old new → Move old new
  makes_commit : (x : ℕ) (file : File) → NewCall old new x (commit file) → ((i : Spot) → i.file ≡ file → old.fly i ≡ None) → SamePlaces old new
      → Move old new
  makes_call : (x : ℕ) (call : Call) → IsOther call → NewCall old new x call → SamePlaces old new → Move old new
  adds : (file : File) (offset : ℕ) (bytes : List ℕ) (number : ℕ) → SameCalls old new → AreBelow number old
      → Lays file offset bytes number old new → Move old new
  cuts : (file : File) (size : ℕ) → SameCalls old new → CutsFrom file size old new → Move old new
  gives_up : (file : File) → SameCalls old new → GivesAll file old new → Move old new

-- moves, one after the other
pub data Moves : View → View → Type 0 where
  stays : (c : View) → Moves c c
  moves : (c b d : View) → Moves c b → Move b d → Moves c d

-- The reply to the call that waits under an xid is taken, or the call is made again under a new one.
abbrev pub Hears : View → ℕ → Reply → View → Type 0
Hears old x r new = Took old new x r ⊎ Renews old new x r

-- nothing is pending, and no call waits
pub record IsBegun (c : View) : Type 0 where
  pub rest : (i : Spot) → c.rest i ≡ None
  pub fly : (i : Spot) → c.fly i ≡ None
  pub wait : (x : ℕ) → c.wait x ≡ None

-- what the machine comes to from there, by moves and by replies
pub data IsReached : View → Type 0 where
  begun : (c : View) → IsBegun c → IsReached c
  moved : (b c : View) → IsReached b → Move b c → IsReached c
  heard : (b c : View) (x : ℕ) (r : Reply) → IsReached b → Hears b x r c → IsReached c
