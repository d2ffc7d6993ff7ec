-- What the calls of a disk do to its bytes, and what a crash may do between two syncs. Bytes that it doesn't have count as zeros.
use Rattle.std.specs.Prelude.{◌<◌, ◌≡◌, ◌⊎◌, ℕ, ◌+◌, ◌-◌, ◌≤◌, min, max, List, length, get_or}

-- the byte at a place
abbrev pub byte_at : List ℕ → ℕ → ℕ
byte_at image i = get_or image i 0

-- as many bytes as fit and are there came into the front of a buffer, and its rest stayed
pub record Gives (image : List ℕ) (at : ℕ) (old new : List ℕ) (n : ℕ) : Type 0 where
  pub all : n ≡ min (length old) (length image - at)
  pub front : (i : ℕ) → i < n → byte_at new i ≡ byte_at image (at + i)
  pub rest : (i : ℕ) → n ≤ i → byte_at new i ≡ byte_at old i

-- after a write
pub record Holds (at : ℕ) (bytes old new : List ℕ) : Type 0 where
  pub written : (i : ℕ) → i < length bytes → byte_at new (at + i) ≡ byte_at bytes i
  pub below : (i : ℕ) → i < at → byte_at new i ≡ byte_at old i
  pub above : (i : ℕ) → at + length bytes ≤ i → byte_at new i ≡ byte_at old i
  pub long : length new ≡ max (length old) (at + length bytes)

-- after a write of n bytes that a crash cuts short: any bytes in the range and past the old end, the same elsewhere
pub record Torn (at n : ℕ) (old new : List ℕ) : Type 0 where
  pub below : (i : ℕ) → i < at → i < length old → byte_at new i ≡ byte_at old i
  pub above : (i : ℕ) → at + n ≤ i → i < length old → byte_at new i ≡ byte_at old i
  pub long : length old ≤ length new

-- each new outcome of a crash is an old outcome after a step
abbrev pub Follows : (List ℕ → List ℕ → Type 0) → (List ℕ → Type 0) → (List ℕ → Type 0) → Type 0
Follows step old new = (c : List ℕ) → new c → (d : List ℕ) × old d × step d c

-- a crash leaves this and nothing else
abbrev pub Only : List ℕ → (List ℕ → Type 0) → Type 0
Only image outcomes = (c : List ℕ) → outcomes c → c ≡ image

-- each outcome of a crash has P
abbrev pub Every : (List ℕ → Type 0) → (List ℕ → Type 0) → Type 0
Every outcomes P = (c : List ℕ) → outcomes c → P c

-- Time goes on: a crash since t might have left what it might have left before, or what it may leave now.
pub record Elapses (before now : ℕ) (past since : ℕ → List ℕ → Type 0) (may_leave : List ℕ → Type 0) : Type 0 where
  pub later : before ≤ now
  pub nothing_else : (t : ℕ) (c : List ℕ) → t ≤ before → since t c → past t c ⊎ may_leave c
  pub keeps : (t : ℕ) (c : List ℕ) → t ≤ before → past t c → since t c

-- A crash at any moment since old leaves an image that has P.
pub record LeavesOnly {D : Type 0} (moment : D → ℕ) (left_since : D → ℕ → List ℕ → Type 0) (old new : D) (P : List ℕ → Type 0) : Type 0 where
  pub later : moment old ≤ moment new
  pub each : (c : List ℕ) → left_since new (moment old) c → P c
  -- for a run that began earlier
  pub before : (t : ℕ) (c : List ℕ) → t ≤ moment old → left_since new t c → left_since old t c ⊎ P c
