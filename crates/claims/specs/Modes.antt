-- The ways in which a session may keep what it was told (nfs(5): actimeo, noac and nocto).
use Rattle.std.specs.Prelude.{◌≡◌, ◌&&◌, ℕ, Bool, true, false, not}
use Rattle.std.proofs.Common.{refl}

-- The longest that a name or an attribute is kept, in milliseconds; whether each read asks for its file's attributes again;
-- and whether an open may go by attributes that are kept. Never both: if each read asks again nothing is kept for an open.
pub record Modes : Type 0 where
  pub longest : ℕ
  pub noac : Bool
  pub nocto : Bool
  pub apart : nocto ≡ true → noac ≡ false

-- a session that is told nothing else keeps them a minute at most, and each open asks anew
abbrev pub usual_modes : Modes
usual_modes = record { longest = 60000; noac = false; nocto = false; apart = λ on. refl }

-- `nocto` has no effect with `noac`
pub either_on : (noac nocto : Bool) → (not noac && nocto) ≡ true → noac ≡ false
either_on false nocto on = refl
either_on true nocto on = absurd (let no_way : false ≡ true = on in cc)

-- what a session is told may have both
abbrev pub modes_with : ℕ → Bool → Bool → Modes
modes_with longest noac nocto = record { longest = longest; noac = noac; nocto = not noac && nocto; apart = either_on noac nocto }
