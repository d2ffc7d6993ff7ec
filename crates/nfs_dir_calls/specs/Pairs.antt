-- Two values, one after the other.
use Rattle.std.specs.Prelude.{ℕ, List, Result, Ok}
use Rattle.xdr_codec.specs.declared.reader.XdrFault.{XdrFault}
use Rattle.xdr_codec.specs.Reading.{◌>>=◌}

infixr 9 ◌▸◌
-- the first and then the second
abbrev pub ◌▸◌ : {A B : Type 0} → (List ℕ → Result (A × List ℕ) XdrFault) → (List ℕ → Result (B × List ℕ) XdrFault) → List ℕ
    → Result ((A × B) × List ℕ) XdrFault
(first ▸ second) bytes = first bytes >>= λ x. second x.1 >>= λ y. Ok ((x.0, y.0), y.1)
