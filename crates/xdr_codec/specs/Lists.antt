-- Optional items, and lists that end with the word 0 (RFC 4506, section 4.19).
use Rattle.std.specs.Prelude.{ℕ, zero, suc, List, [], ◌∷◌, length, Option, Some, None, Result, Ok, Err, if◌then◌else◌}
use Rattle.xdr_codec.specs.declared.reader.XdrFault.{XdrFault}
use Rattle.xdr_codec.specs.declared.reader.XdrFault.TheVariants.{Short}
use Rattle.xdr_codec.specs.Reading.{◌>>=◌, flag_at}

-- an optional item: a bool, and after 1 the item
abbrev pub opt_at : {A : Type 0} → (List ℕ → Result (A × List ℕ) XdrFault) → List ℕ → Result (Option A × List ℕ) XdrFault
opt_at read bytes = do
  there ← flag_at bytes
  if there.0 then (read there.1 >>= λ v. Ok (Some v.0, v.1)) else Ok (None, there.1)

-- at most so many items, each after the word 1, and the word 0
abbrev pub items_at : {A : Type 0} → (List ℕ → Result (A × List ℕ) XdrFault) → ℕ → List ℕ → Result (List A × List ℕ) XdrFault
items_at read zero bytes = Err Short
items_at read (suc n) bytes = do
  there ← flag_at bytes
  if there.0 then (read there.1 >>= λ v. items_at read n v.1 >>= λ vs. Ok (v.0 ∷ vs.0, vs.1)) else Ok ([], there.1)

-- each item takes at least the word before it
abbrev pub list_at : {A : Type 0} → (List ℕ → Result (A × List ℕ) XdrFault) → List ℕ → Result (List A × List ℕ) XdrFault
list_at read bytes = items_at read (length bytes) bytes
