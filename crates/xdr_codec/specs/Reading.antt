-- Reading from the front of bytes, with the first fault that is met.
use Rattle.std.specs.Prelude.{◌≡◌, ℕ, ◌-◌, ◌%◌, List, [], ◌∷◌, length, take, drop, Bool, Result, Ok, Err, nat_lt, ◌==◌, if◌then◌else◌}
use Rattle.byteorder.specs.Endian.{big_number}
use Rattle.xdr_codec.specs.declared.reader.XdrFault.{XdrFault}
use Rattle.xdr_codec.specs.declared.reader.XdrFault.TheVariants.{Short, TooLong, BadBool, Trailing}

infixl 10 ◌>>=◌
abbrev pub ◌>>=◌ : {A B : Type 0} → Result A XdrFault → (A → Result B XdrFault) → Result B XdrFault
(Ok x) >>= f = f x
(Err e) >>= f = Err e

-- What a read gave, seen by view, and left, is what reading gives. A read that was refused leaves all.
abbrev pub Reads : {X Y : Type 0} → (X → Y) → List ℕ → Result X XdrFault → List ℕ → Result (Y × List ℕ) XdrFault → Type 0
Reads view old (Ok x) new read = read ≡ Ok (view x, new)
Reads view old (Err f) new read = (read ≡ Err f) × (new ≡ old)

abbrev pub u32_at : List ℕ → Result (ℕ × List ℕ) XdrFault
u32_at bytes = if nat_lt (length bytes) 4 then Err Short else Ok (big_number 4 bytes, drop 4 bytes)

abbrev pub u64_at : List ℕ → Result (ℕ × List ℕ) XdrFault
u64_at bytes = if nat_lt (length bytes) 8 then Err Short else Ok (big_number 8 bytes, drop 8 bytes)

unfoldable pub flag_at : List ℕ → Result (Bool × List ℕ) XdrFault
flag_at bytes = do
  n ← u32_at bytes
  if nat_lt 1 n.0 then Err BadBool else Ok (n.0 == 1, n.1)

abbrev pub padding : ℕ → ℕ
padding n = (4 - n % 4) % 4

unfoldable pub fixed_at : ℕ → List ℕ → Result (List ℕ × List ℕ) XdrFault
fixed_at n bytes =
    if nat_lt (length bytes) n then Err Short else
    (if nat_lt (length (drop n bytes)) (padding n) then Err Short else Ok (take n bytes, drop (padding n) (drop n bytes)))

unfoldable pub opaque_at : ℕ → List ℕ → Result (List ℕ × List ℕ) XdrFault
opaque_at max bytes = do
  n ← u32_at bytes
  if nat_lt max n.0 then Err TooLong else fixed_at n.0 n.1

abbrev pub end_at : List ℕ → Result (Unit {0}) XdrFault
end_at [] = Ok tt
end_at (b ∷ bytes) = Err Trailing
