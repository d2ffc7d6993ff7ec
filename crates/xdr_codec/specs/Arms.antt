-- A reply that begins with a status: one arm for status 0, another for any other (an XDR union, RFC 4506 section 4.15).
use Rattle.std.specs.Prelude.{ℕ, zero, suc, ◌<◌, List, Result, Ok}
use Rattle.xdr_codec.specs.declared.reader.XdrFault.{XdrFault}
use Rattle.xdr_codec.specs.Reading.{◌>>=◌, u32_at}
use Rattle.xdr_codec.specs.Spells.{◌⨾◌, SpellsU32}

-- a reply: what was asked, or the status and what comes with a failure
pub data Arms (A B : Type 0) : Type 0 where
  Done : A → Arms A B
  Failure : ℕ → B → Arms A B

abbrev pub arm_at : {A B : Type 0} → (List ℕ → Result (A × List ℕ) XdrFault) → (List ℕ → Result (B × List ℕ) XdrFault) → ℕ → List ℕ
    → Result (Arms A B × List ℕ) XdrFault
arm_at done failed zero bytes = done bytes >>= λ v. Ok (Done v.0, v.1)
arm_at done failed (suc n) bytes = failed bytes >>= λ v. Ok (Failure (suc n) v.0, v.1)

abbrev pub arms_at : {A B : Type 0} → (List ℕ → Result (A × List ℕ) XdrFault) → (List ℕ → Result (B × List ℕ) XdrFault) → List ℕ
    → Result (Arms A B × List ℕ) XdrFault
arms_at done failed bytes = u32_at bytes >>= λ s. arm_at done failed s.0 s.1

-- a status of 0 with the one arm, and another with the other
pub record SpellsStatus {B : Type 0} (S : B → List ℕ → Type 0) (status : ℕ) (v : B) (bytes : List ℕ) : Type 0 where
  pub failed : 0 < status
  pub is : (SpellsU32 status ⨾ S v) bytes

abbrev pub SpellsArms : {A B : Type 0} → (A → List ℕ → Type 0) → (B → List ℕ → Type 0) → Arms A B → List ℕ → Type 0
SpellsArms S T (Done v) = SpellsU32 0 ⨾ S v
SpellsArms S T (Failure status v) = SpellsStatus T status v
