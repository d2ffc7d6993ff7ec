-- The entries that dials, attempts and waits add (RFC 5531, section 9: the xid of a reply is that of its call).
use Rattle.std.specs.Prelude.{◌≡◌, ◌<◌, ◌⊎◌, ℕ, zero, suc, List, [], ◌∷◌, ◌++◌, length, Option, Some, None, Result, Ok, Err}
use Rattle.world_model.specs.declared.entry.Entry.{Entry}
use Rattle.world_model.specs.declared.entry.Entry.TheVariants.{Dialed, Sent, Delivered, Failed}
use Rattle.world_model.specs.Messages.{HasXid}
use Rattle.world_model.specs.Rows.{most_dropped}
use Rattle.port_finder.specs.declared.halt.Halt.{Halt}
use Rattle.port_finder.specs.declared.halt.Halt.TheVariants as halts
use Rattle.port_finder.specs.declared.halt.Miss.{Miss}
use Rattle.port_finder.specs.declared.halt.Miss.TheVariants as misses

-- so many dials that failed
abbrev pub failed_dials : ℕ → ℕ → List Entry
failed_dials port zero = []
failed_dials port (suc n) = Dialed port ∷ Failed ∷ failed_dials port n

-- records that came
abbrev pub came : List (List ℕ) → List Entry
came [] = []
came (rec ∷ recs) = Delivered rec ∷ came recs

-- none of the records is under the xid
abbrev pub AreOthers : ℕ → List (List ℕ) → Type 0
AreOthers xid [] = Unit {0}
AreOthers xid (rec ∷ recs) = (HasXid rec xid → ⊥) × AreOthers xid recs

-- A dial: at most four, the last of which succeeded or none.
pub record Connects (port : ℕ) (es : List Entry) : Type 0 where
  pub failed : ℕ
  pub few : failed < 4
  pub is : es ≡ failed_dials port failed ++ Dialed port ∷ []

abbrev pub Dials : ℕ → Result (Unit {0}) Halt → List Entry → Type 0
Dials port (Ok u) es = Connects port es
Dials port (Err halts.Lost) es = es ≡ failed_dials port 4
Dials port (Err halts.Memory) es = (n : ℕ) × (n < 4) × (es ≡ failed_dials port n)

abbrev pub Receives : Result (List ℕ) Miss → List Entry → Type 0
Receives (Ok rec) es = es ≡ Delivered rec ∷ []
Receives (Err misses.Failed) es = es ≡ Failed ∷ []
Receives (Err misses.Silent) es = es ≡ Failed ∷ []
Receives (Err misses.Flooded) es = ⊥
Receives (Err misses.Memory) es = es ≡ []

-- Records that don't answer the call came, and then these entries.
pub record Drops (xid : ℕ) (es last : List Entry) : Type 0 where
  pub dropped : List (List ℕ)
  pub others : AreOthers xid dropped
  pub is : es ≡ came dropped ++ last

-- the same of so many
pub record DropsMany (xid n : ℕ) (es : List Entry) : Type 0 where
  pub dropped : List (List ℕ)
  pub others : AreOthers xid dropped
  pub is : es ≡ came dropped
  pub many : length dropped ≡ n

-- waiting for the record under the xid
abbrev pub Listens : ℕ → Result (List ℕ) Miss → List Entry → Type 0
Listens xid (Ok rec) es = HasXid rec xid × Drops xid es (Delivered rec ∷ [])
Listens xid (Err misses.Failed) es = Drops xid es (Failed ∷ [])
Listens xid (Err misses.Silent) es = Drops xid es (Failed ∷ [])
Listens xid (Err misses.Flooded) es = DropsMany xid most_dropped es
Listens xid (Err misses.Memory) es = Drops xid es []

-- what came after the record that was sent
pub record After (call : List ℕ) (P : List Entry → Type 0) (es : List Entry) : Type 0 where
  pub more : List Entry
  pub is : es ≡ Sent call ∷ more
  pub so : P more

-- One attempt: the record went out, and what came; or memory ran out before.
abbrev pub Attempts : ℕ → List ℕ → Result (List ℕ) Miss → List Entry → Type 0
Attempts xid call (Ok rec) es = After call (Listens xid (Ok rec)) es
Attempts xid call (Err misses.Failed) es = After call (Listens xid (Err misses.Failed)) es
Attempts xid call (Err misses.Silent) es = After call (Listens xid (Err misses.Failed)) es
Attempts xid call (Err misses.Flooded) es = After call (Listens xid (Err misses.Flooded)) es
Attempts xid call (Err misses.Memory) es = (es ≡ []) ⊎ After call (Listens xid (Err misses.Memory)) es

-- no dial, as after silence, or one that succeeded
abbrev pub Redials : ℕ → List Entry → Type 0
Redials port es = (es ≡ []) ⊎ Connects port es

-- An attempt that failed, and then a dial that succeeded, or none.
pub record Retries (port xid : ℕ) (call : List ℕ) (es : List Entry) : Type 0 where
  pub first : List Entry
  pub second : List Entry
  pub is : es ≡ first ++ second
  pub attempt : Attempts xid call (Err misses.Failed) first
  pub dial : Redials port second

-- An attempt that failed, and then dials that came to no connection.
pub record FailsToDial (port xid : ℕ) (call : List ℕ) (halt : Halt) (es : List Entry) : Type 0 where
  pub first : List Entry
  pub second : List Entry
  pub is : es ≡ first ++ second
  pub attempt : Attempts xid call (Err misses.Failed) first
  pub dial : Dials port (Err halt) second

-- an attempt that isn't the last, and the dial after it
abbrev pub Tries : ℕ → ℕ → List ℕ → Result (Option (List ℕ)) Halt → List Entry → Type 0
Tries port xid call (Ok (Some rec)) es = Attempts xid call (Ok rec) es
Tries port xid call (Ok None) es = Retries port xid call es
Tries port xid call (Err halts.Lost) es = Attempts xid call (Err misses.Flooded) es ⊎ FailsToDial port xid call halts.Lost es
Tries port xid call (Err halts.Memory) es = Attempts xid call (Err misses.Memory) es ⊎ FailsToDial port xid call halts.Memory es

-- so many of these, one after another
pub data Retried (port xid : ℕ) (call : List ℕ) : ℕ → List Entry → Type 0 where
  unretried : (n : ℕ) (es : List Entry) → n ≡ 0 → es ≡ [] → Retried port xid call n es
  retried_once : (n m : ℕ) (es before last : List Entry) → n ≡ suc m → es ≡ before ++ last → Retried port xid call m before → Retries port xid call last
      → Retried port xid call n es

-- After so many attempts that failed: the last one, or the dial after it.
pub record LastlyAttempts (port xid : ℕ) (call : List ℕ) (result : Result (List ℕ) Miss) (n : ℕ) (es : List Entry) : Type 0 where
  pub before : List Entry
  pub last : List Entry
  pub is : es ≡ before ++ last
  pub retried : Retried port xid call n before
  pub attempt : Attempts xid call result last

pub record LastlyDials (port xid : ℕ) (call : List ℕ) (halt : Halt) (n : ℕ) (es : List Entry) : Type 0 where
  pub before : List Entry
  pub last : List Entry
  pub is : es ≡ before ++ last
  pub attempts : LastlyAttempts port xid call (Err misses.Failed) n before
  pub dial : Dials port (Err halt) last

-- No reply came: the fourth attempt failed; or four dials in a row; or too many other records came.
pub data Loses (port xid : ℕ) (call : List ℕ) (es : List Entry) : Type 0 where
  given_up : LastlyAttempts port xid call (Err misses.Failed) 3 es → Loses port xid call es
  undialed : (n : ℕ) → n < 3 → LastlyDials port xid call halts.Lost n es → Loses port xid call es
  flooded : (n : ℕ) → n < 4 → LastlyAttempts port xid call (Err misses.Flooded) n es → Loses port xid call es

-- Memory ran out at an attempt, or at a dial.
pub data Wants (port xid : ℕ) (call : List ℕ) (es : List Entry) : Type 0 where
  attempting : (n : ℕ) → n < 4 → LastlyAttempts port xid call (Err misses.Memory) n es → Wants port xid call es
  dialing : (n : ℕ) → n < 3 → LastlyDials port xid call halts.Memory n es → Wants port xid call es

-- a call, of at most four attempts
abbrev pub Exchanges : ℕ → ℕ → List ℕ → Result (List ℕ) Halt → List Entry → Type 0
Exchanges port xid call (Ok rec) es = (n : ℕ) × (n < 4) × LastlyAttempts port xid call (Ok rec) n es
Exchanges port xid call (Err halts.Lost) es = Loses port xid call es
Exchanges port xid call (Err halts.Memory) es = Wants port xid call es
