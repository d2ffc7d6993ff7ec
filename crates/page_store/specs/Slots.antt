-- Slots of 4,224 bytes: a gate of four bytes, open if it is the number 1, and a body of 4,220 bytes.
use Rattle.std.specs.Prelude.{◌<◌, ◌≡◌, ◌⊎◌, ℕ, ◌+◌, ◌*◌, ◌≤◌, List, [], ◌∷◌, length}
use Rattle.page_store.specs.Disk.{byte_at}

abbrev pub gate_at : ℕ → ℕ
gate_at k = 4224 * k

-- the gate of a slot is open
abbrev pub IsOpen : List ℕ → ℕ → Type 0
IsOpen image k = (i : ℕ) → i < 4 → byte_at image (gate_at k + i) ≡ byte_at (0 ∷ 0 ∷ 0 ∷ 1 ∷ []) i

-- two images have the same body in a slot
abbrev pub SameBody : ℕ → List ℕ → List ℕ → Type 0
SameBody k a b = (i : ℕ) → i < 4220 → byte_at a (gate_at k + 4 + i) ≡ byte_at b (gate_at k + 4 + i)

-- two images have the same gate and body in a slot
abbrev pub SameSlot : ℕ → List ℕ → List ℕ → Type 0
SameSlot k a b = (i : ℕ) → i < 4224 → byte_at a (gate_at k + i) ≡ byte_at b (gate_at k + i)

-- a slot has this body
abbrev pub HasBody : List ℕ → ℕ → List ℕ → Type 0
HasBody image k body = (i : ℕ) → i < 4220 → byte_at image (gate_at k + 4 + i) ≡ byte_at body i

-- each image has the first n slots
abbrev pub AreLong : ℕ → (List ℕ → Type 0) → Type 0
AreLong n may_leave = (c : List ℕ) → may_leave c → 4224 * n ≤ length c

-- Each image that a crash may leave has the first n slots; and if one of these is open in an image, all have its body.
pub record IsSound (n : ℕ) (may_leave : List ℕ → Type 0) : Type 0 where
  pub long : AreLong n may_leave
  pub same : (k : ℕ) (d c : List ℕ) → k < n → may_leave d → IsOpen d k → may_leave c → SameBody k c d

-- the body that an image has in a slot stood there in an open slot of one of these images
abbrev pub Stood : (List ℕ → Type 0) → ℕ → List ℕ → Type 0
Stood old k image = (d : List ℕ) × old d × IsOpen d k × SameBody k image d

-- each body of an open slot, of the first n, stood there
abbrev pub IsFrom : ℕ → (List ℕ → Type 0) → List ℕ → Type 0
IsFrom n old image = (k : ℕ) → k < n → IsOpen image k → Stood old k image

-- the same, or it is this one, in its slot
abbrev pub IsFromOr : ℕ → ℕ → List ℕ → (List ℕ → Type 0) → List ℕ → Type 0
IsFromOr n slot body old image = (k : ℕ) → k < n → IsOpen image k → Stood old k image ⊎ ((k ≡ slot) × HasBody image k body)

-- all of the first n slots but one are those of one of these images
abbrev pub IsBeside : ℕ → ℕ → (List ℕ → Type 0) → List ℕ → Type 0
IsBeside n slot old image = (d : List ℕ) × old d × ((k : ℕ) → k < n → (k ≡ slot → ⊥) → SameSlot k image d)

-- a slot is closed in each image
abbrev pub IsShut : (List ℕ → Type 0) → ℕ → Type 0
IsShut may_leave k = (c : List ℕ) → may_leave c → IsOpen c k → ⊥

-- it has this body in each
abbrev pub HasWhole : (List ℕ → Type 0) → ℕ → List ℕ → Type 0
HasWhole may_leave k body = (c : List ℕ) → may_leave c → HasBody c k body

-- all images have the same body in a slot
abbrev pub IsAlike : (List ℕ → Type 0) → ℕ → Type 0
IsAlike may_leave k = (c d : List ℕ) → may_leave c → may_leave d → SameBody k c d

-- the first n slots of an image are like those of one of these, but for the gate of a slot
abbrev pub IsBut : ℕ → ℕ → (List ℕ → Type 0) → List ℕ → Type 0
IsBut n slot old image = (d : List ℕ) × old d × ((k : ℕ) → k < n → SameBody k image d × ((k ≡ slot) ⊎ (IsOpen image k → IsOpen d k)))

-- the gate of a slot has these bytes
abbrev pub HasGate : List ℕ → ℕ → List ℕ → Type 0
HasGate image k gate = (i : ℕ) → i < 4 → byte_at image (gate_at k + i) ≡ byte_at gate i
