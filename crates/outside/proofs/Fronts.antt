-- What is read from the front of bytes.
use Rattle.std.proofs.Common.{◌≡◌, ◌<◌, ℕ, List, [], ◌∷◌, ◌++◌, length, take, drop, min, refl, sym, ap, ◌∙◌, arith}
use Rattle.std.proofs.lemmas.List.{take-append-drop}
use Rattle.outside.specs.Source.{ReadsFrom}

-- a copied front, and the rest
pub reads_front : (left buf : List ℕ) (n size : ℕ) → n ≡ min (length left) size → take n buf ≡ take n left → 0 < size → ReadsFrom left (drop n left) buf n
reads_front left buf n size count front room = record {
  is = sym (take-append-drop n left) ∙ ap (λ (t : List ℕ). t ++ drop n left) (sym front);
  ends = λ none. empty left (omega (arith, count, none, room));
}
  where
    empty : (bytes : List ℕ) → length bytes ≡ 0 → bytes ≡ []
    empty [] e = refl
    empty (b ∷ bytes) e = absurd (omega (arith, e))
