-- Which bytes spell a value (RFC 4506). Padding may have any value.
use Rattle.std.specs.Prelude.{◌≡◌, ◌<◌, ◌≤◌, ◌^◌, ℕ, List, [], ◌∷◌, ◌++◌, length, Bool, true, false, Option, Some, None, Result, IfOk, IsOk}
use Rattle.xdr_codec.specs.declared.reader.XdrFault.{XdrFault}
use Rattle.xdr_codec.specs.Reading.{padding}
use Rattle.xdr_codec.specs.Spelling.{u32_bytes, u64_bytes, flag_bytes}

pub record SpellsU32 (v : ℕ) (bytes : List ℕ) : Type 0 where
  pub fits : v < 2 ^ 32
  pub is : bytes ≡ u32_bytes v

pub record SpellsU64 (v : ℕ) (bytes : List ℕ) : Type 0 where
  pub fits : v < 2 ^ 64
  pub is : bytes ≡ u64_bytes v

-- one spelling after another
pub record Then (first second : List ℕ → Type 0) (bytes : List ℕ) : Type 0 where
  pub front : List ℕ
  pub back : List ℕ
  pub is : bytes ≡ front ++ back
  pub one : first front
  pub two : second back

infixr 9 ◌⨾◌
abbrev pub ◌⨾◌ : (List ℕ → Type 0) → (List ℕ → Type 0) → List ℕ → Type 0
(first ⨾ second) bytes = Then first second bytes

pub record SpellsFlag (v : Bool) (bytes : List ℕ) : Type 0 where
  pub is : bytes ≡ flag_bytes v

-- exactly n bytes, and padding of any value (RFC 4506, section 4.9)
pub record SpellsFixed (n : ℕ) (v bytes : List ℕ) : Type 0 where
  pub size : length v ≡ n
  pub pad : List ℕ
  pub long : length pad ≡ padding n
  pub is : bytes ≡ v ++ pad

-- at most so many bytes, and padding of any value
pub record SpellsPadded (max : ℕ) (v bytes : List ℕ) : Type 0 where
  pub bound : length v ≤ max
  pub pad : List ℕ
  pub long : length pad ≡ padding (length v)
  pub is : bytes ≡ v ++ pad

abbrev pub SpellsOpaque : ℕ → List ℕ → List ℕ → Type 0
SpellsOpaque max v = SpellsU32 (length v) ⨾ SpellsPadded max v

abbrev pub SpellsOpt : {A : Type 0} → (A → List ℕ → Type 0) → Option A → List ℕ → Type 0
SpellsOpt S None = SpellsFlag false
SpellsOpt S (Some v) = SpellsFlag true ⨾ S v

abbrev pub SpellsList : {A : Type 0} → (A → List ℕ → Type 0) → List A → List ℕ → Type 0
SpellsList S [] = SpellsFlag false
SpellsList S (v ∷ vs) = SpellsFlag true ⨾ (S v ⨾ SpellsList S vs)

-- What was read is spelled by what was taken, and what is spelled there is read.
pub record Finds {X A : Type 0} (view : X → A) (Spells : A → List ℕ → Type 0) (old : List ℕ) (result : Result X XdrFault) (new : List ℕ) : Type 0 where
  pub found : IfOk result (λ x. (text : List ℕ) × (old ≡ text ++ new) × Spells (view x) text)
  pub only : (v : A) (text rest : List ℕ) → Spells v text → old ≡ text ++ rest → IfOk result (λ x. (view x ≡ v) × (new ≡ rest)) × IsOk result

-- What was written after the old bytes spells a value.
pub record Wrote (S : List ℕ → Type 0) (old new : List ℕ) : Type 0 where
  pub text : List ℕ
  pub is : new ≡ old ++ text
  pub spells : S text
