-- The written spelling of words and opaques.
use Rattle.std.specs.Prelude.{◌≡◌, ℕ, List, ◌++◌, length, replicate, Bool, true, false, Option, Some, None}
use Rattle.byteorder.specs.Endian.{big_bytes}
use Rattle.xdr_codec.specs.Reading.{padding}

unfoldable pub u32_bytes : ℕ → List ℕ
u32_bytes v = big_bytes 4 v

unfoldable pub u64_bytes : ℕ → List ℕ
u64_bytes v = big_bytes 8 v

unfoldable pub flag_bytes : Bool → List ℕ
flag_bytes true = u32_bytes 1
flag_bytes false = u32_bytes 0

unfoldable pub fixed_bytes : List ℕ → List ℕ
fixed_bytes bytes = bytes ++ replicate (padding (length bytes)) 0

unfoldable pub opaque_bytes : List ℕ → List ℕ
opaque_bytes bytes = u32_bytes (length bytes) ++ fixed_bytes bytes

-- an optional item, by how an item is written
abbrev pub opt_bytes : {A : Type 0} → (A → List ℕ) → Option A → List ℕ
opt_bytes write None = flag_bytes false
opt_bytes write (Some v) = flag_bytes true ++ write v

-- the new bytes are the old ones and perhaps more
pub record BeginsWith (old new : List ℕ) : Type 0 where
  pub more : List ℕ
  pub is : new ≡ old ++ more
