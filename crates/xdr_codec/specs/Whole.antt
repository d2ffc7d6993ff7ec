-- Reading a value from all of the bytes: nothing may be left.
use Rattle.std.specs.Prelude.{◌≡◌, ◌⊎◌, List, ℕ, Result, Ok, Err, IfOk, IsOk}
use Rattle.xdr_codec.specs.declared.reader.XdrFault.{XdrFault}
use Rattle.xdr_codec.specs.declared.codec_fault.CodecFault.{CodecFault}
use Rattle.xdr_codec.specs.declared.codec_fault.CodecFault.TheVariants as faults
use Rattle.xdr_codec.specs.Reading.{◌>>=◌, end_at}

-- the value, if no bytes are left after it
abbrev pub ended : {A : Type 0} → A → List ℕ → Result A XdrFault
ended x bytes = end_at bytes >>= λ u. Ok x

-- a value and nothing after it
abbrev pub whole_at : {A : Type 0} → (List ℕ → Result (A × List ℕ) XdrFault) → List ℕ → Result A XdrFault
whole_at read bytes = read bytes >>= λ x. ended x.0 x.1

-- What a function gave, seen by view, is what reading gives.
abbrev pub Gives : {X Y : Type 0} → (X → Y) → Result X XdrFault → Result Y XdrFault → Type 0
Gives view (Ok x) read = read ≡ Ok (view x)
Gives view (Err f) read = read ≡ Err f

-- The same of a value with data of its own: out of memory is free.
abbrev pub GivesOwned : {X : Type 0} → Result X CodecFault → Result X XdrFault → Type 0
GivesOwned (Ok x) read = read ≡ Ok x
GivesOwned (Err faults.Memory) read = Unit {0}
GivesOwned (Err (faults.Xdr f)) read = read ≡ Err f

-- What was read is what all of the bytes spell, and what they spell is read.
pub record FindsWhole {X A : Type 0} (view : X → A) (Spells : A → List ℕ → Type 0) (bytes : List ℕ) (result : Result X XdrFault) : Type 0 where
  pub found : IfOk result (λ x. Spells (view x) bytes)
  pub only : (v : A) → Spells v bytes → IfOk result (λ x. view x ≡ v) × IsOk result

-- not a fault of spelling: the value, or out of memory
abbrev pub IsOwned : {X : Type 0} → Result X CodecFault → X → Type 0
IsOwned (Ok x) v = x ≡ v
IsOwned (Err faults.Memory) v = Unit {0}
IsOwned (Err (faults.Xdr f)) v = ⊥

-- The same of a value with data of its own: if the bytes spell a value, it is read or memory runs out.
pub record FindsOwned {X : Type 0} (Spells : X → List ℕ → Type 0) (bytes : List ℕ) (result : Result X CodecFault) : Type 0 where
  pub found : IfOk result (λ x. Spells x bytes)
  pub only : (v : X) → Spells v bytes → IsOwned result v
