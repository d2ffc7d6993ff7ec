-- A word, and the words after it.
use Rattle.std.proofs.Common.{◌≡◌, ℕ, List, [], ◌∷◌, Option, Some, None, ap}
use Rattle.script_text.specs.Lines.{three, four}

pub four_from : (a b c d : List ℕ) (ws rest : List (List ℕ)) → ws ≡ a ∷ rest → Some (b, c, d) ≡ three rest → Some (a, b, c, d) ≡ four ws
four_from a b c d ws [] e h = absurd cc
four_from a b c d ws (x ∷ []) e h = absurd cc
four_from a b c d ws (x ∷ y ∷ []) e h = absurd cc
four_from a b c d ws (x ∷ y ∷ z ∷ []) e h = rw e (ap (λ (o : Option (List ℕ × List ℕ × List ℕ)). with_first a o) h)
  where
    with_first : List ℕ → Option (List ℕ × List ℕ × List ℕ) → Option (List ℕ × List ℕ × List ℕ × List ℕ)
    with_first a None = None
    with_first a (Some p) = Some (a, p.0, p.1, p.2)
four_from a b c d ws (x ∷ y ∷ z ∷ w ∷ more) e h = absurd cc
