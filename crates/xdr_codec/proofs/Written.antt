-- The written spelling is a spelling.
use Rattle.std.proofs.Common.{replicate, ◌≡◌, ◌≤◌, ◌<◌, ◌^◌, ℕ, Bool, true, false, List, ◌++◌, length, Option, Some, None, Result, Ok, Err, OnOk, IfOk, refl, sym, subst, ◌∙◌}
use Rattle.std.proofs.lemmas.List.{length-replicate}
use Rattle.xdr_codec.specs.Reading.{padding}
use Rattle.xdr_codec.specs.Spelling.{u32_bytes, u64_bytes, flag_bytes, fixed_bytes, opaque_bytes, opt_bytes}
use Rattle.xdr_codec.specs.Spells.{SpellsU32, SpellsU64, SpellsFlag, SpellsFixed, SpellsPadded, SpellsOpaque, SpellsOpt, ◌⨾◌, Then, Wrote}

pub u32_written : (v : ℕ) → v < 2 ^ 32 → SpellsU32 v (u32_bytes v)
u32_written v fits = record { fits = fits; is = refl }

pub u64_written : (v : ℕ) → v < 2 ^ 64 → SpellsU64 v (u64_bytes v)
u64_written v fits = record { fits = fits; is = refl }

pub flag_written : (v : Bool) → SpellsFlag v (flag_bytes v)
flag_written v = record { is = refl }

pub fixed_written : (v : List ℕ) → SpellsFixed (length v) v (fixed_bytes v)
unfolding fixed_bytes
fixed_written v = record { size = refl; pad = replicate (padding (length v)) 0; long = length-replicate (padding (length v)) 0; is = refl }

pub padded_written : (max : ℕ) (v : List ℕ) → length v ≤ max → SpellsPadded max v (fixed_bytes v)
unfolding fixed_bytes
padded_written max v le = record { bound = le; pad = replicate (padding (length v)) 0; long = length-replicate (padding (length v)) 0; is = refl }

-- one after another
pub then_written : (S T : List ℕ → Type 0) (front back : List ℕ) → S front → T back → (S ⨾ T) (front ++ back)
then_written S T front back s t = record { front = front; back = back; is = refl; one = s; two = t }

-- one after another, where the spellings are known
pub joined : {S T : List ℕ → Type 0} (front back : List ℕ) → S front → T back → Then S T (front ++ back)
joined front back s t = record { front = front; back = back; is = refl; one = s; two = t }

pub opaque_within : (max : ℕ) (v : List ℕ) → length v ≤ max → length v < 2 ^ 32 → SpellsOpaque max v (opaque_bytes v)
unfolding opaque_bytes
opaque_within max v le fits = then_written (SpellsU32 (length v)) (SpellsPadded max v) (u32_bytes (length v)) (fixed_bytes v) (u32_written (length v) fits) (padded_written max v le)

pub opt_written : {A : Type 0} (S : A → List ℕ → Type 0) (write : A → List ℕ) (v : Option A) → ((x : A) → v ≡ Some x → S x (write x)) → SpellsOpt S v (opt_bytes write v)
opt_written S write None each = flag_written false
opt_written S write (Some x) each = then_written (SpellsFlag true) (S x) (flag_bytes true) (write x) (flag_written true) (each x refl)

-- ---- what a call wrote

pub wrote : (S : List ℕ → Type 0) (text old new : List ℕ) → S text → new ≡ old ++ text → Wrote S old new
wrote S text old new s is = record { text = text; is = is; spells = s }

-- what a law says of a call that writes
pub wrote_by : {X E : Type 0} (S : List ℕ → Type 0) (text old new : List ℕ) (result : Result X E) → S text → OnOk result (new ≡ old ++ text) → OnOk result (Wrote S old new)
wrote_by S text old new (Ok x) s is = wrote S text old new s is
wrote_by S text old new (Err e) s is = tt

-- what was written stays as it is where it was written whole
pub kept_by : {X E : Type 0} (text old mid new : List ℕ) (first result : Result X E)
    → result ≡ first → OnOk first (mid ≡ old ++ text) → OnOk result (new ≡ mid) → OnOk result (new ≡ old ++ text)
kept_by text old mid new first (Ok y) same m k = k ∙ (rw (← same) at m)
kept_by text old mid new first (Err e) same m k = tt

pub wrote_u32 : (v : ℕ) (old new : List ℕ) → v < 2 ^ 32 → new ≡ old ++ u32_bytes v → Wrote (SpellsU32 v) old new
wrote_u32 v old new fits is = wrote (SpellsU32 v) (u32_bytes v) old new (u32_written v fits) is

pub wrote_u64 : (v : ℕ) (old new : List ℕ) → v < 2 ^ 64 → new ≡ old ++ u64_bytes v → Wrote (SpellsU64 v) old new
wrote_u64 v old new fits is = wrote (SpellsU64 v) (u64_bytes v) old new (u64_written v fits) is

pub wrote_flag : (v : Bool) (old new : List ℕ) → new ≡ old ++ flag_bytes v → Wrote (SpellsFlag v) old new
wrote_flag v old new is = wrote (SpellsFlag v) (flag_bytes v) old new (flag_written v) is

-- what is so of the bytes that were written is so of the record that they become
pub finished : {E : Type 0} (P : List ℕ → Type 0) (out : List ℕ) (result : Result (List ℕ) E) → IfOk result (λ (rec : List ℕ). rec ≡ out) → P out → IfOk result P
finished P out (Ok rec) is p = subst P (sym is) p
finished P out (Err e) is p = tt
