-- How a list of places changes at its end.
use Rattle.std.proofs.Common.{◌≡◌, List, [], ◌∷◌, ◌++◌, length, slice_set, refl, ap}
use Rattle.outside.specs.Places.{PutsLast, TakesLast}

pub set_last : {P : Type 0} (ps : List P) (p place : P) → slice_set (ps ++ p ∷ []) (length ps) place ≡ ps ++ place ∷ []
set_last [] p place = refl
set_last (x ∷ ps) p place = ap (λ t. x ∷ t) (set_last ps p place)

no_last : {P : Type 0} (ps : List P) (p : P) → [] ≡ ps ++ p ∷ [] → ⊥
no_last [] p e = cc
no_last (x ∷ ps) p e = cc

-- where nothing is kept, nothing is put
pub puts_none : {P : Type 0} (place : P) → PutsLast [] [] place
puts_none place = record { last = λ ps p e. absurd (no_last ps p e); none = λ e. e }

pub takes_none : {P : Type 0} → TakesLast {P = P} [] []
takes_none = record { last = λ ps p e. absurd (no_last ps p e); none = λ e. e }
