-- Readings of the clock one after the other.
use Rattle.std.proofs.Common.{ℕ, List, [], ◌∷◌, ◌++◌, Option, Some, None, refl, sym, ap, subst, ◌∙◌, append_assoc}
use Rattle.std.proofs.lemmas.List.{append-nil}
use Rattle.outside.specs.Clock.{ReadsClock}
use Rattle.script_runs.specs.Readings.{ReadsAll}

pub reads_none : (a : Option (List ℕ)) → ReadsAll a a []
reads_none None = refl
reads_none (Some x) = sym (append-nil x)

-- one reading, and others after it
pub reads_more : (a b c : Option (List ℕ)) (ms : ℕ) (given : List ℕ) → ReadsClock a b ms → ReadsAll b c given → ReadsAll a c (ms ∷ given)
reads_more None b c ms given r q = subst (λ (t : Option (List ℕ)). ReadsAll t c given) r q
reads_more (Some x) None c ms given r q = rw q tt
reads_more (Some x) (Some y) None ms given r q = tt
reads_more (Some x) (Some y) (Some z) ms given r q = q ∙ ap (λ (t : List ℕ). t ++ given) r ∙ append_assoc x (ms ∷ []) given
