-- A list of bytes by its parts: what is put, what is cut, and which zeros stand between.
use Rattle.std.proofs.Common.{◌≡◌, ◌≢◌, ◌≤◌, inl, inr, ◌==◌, ◌+◌, ◌-◌, ℕ, Bool, true, false, true≢false, List, [], ◌∷◌, ◌++◌, length, take, drop, replicate, refl, sym, ◌∙◌, ap, arith, append_assoc}
use Rattle.std.specs.Prelude.{Decides, ◌&&◌}
use Rattle.std.specs.Str.{bytes_eq}
use Rattle.std.proofs.lemmas.Bool.{cases_lt}
use Rattle.std.proofs.lemmas.Bool.Decides.{Decides-like, Decides-and, Decides-eqb, same_from_decides, not_from_Decides}
use Rattle.std.proofs.lemmas.List.{append-nil, take_all, take_at, length-replicate, length-append, length-take-le, take-append-le, take-append-drop, drop-drop}
use Rattle.std.proofs.lemmas.Slice.Eq.{bytes_eq-Decides}
use Rattle.world_model.specs.Bytes.{resized, put_at}
use Rattle.trace_steps.specs.RangeTests.{is_put, is_resized, are_zeros}
use Rattle.trace_rules.proofs.Combining.{always}

-- ---- zeros

pub zeros-decide : (bytes : List ℕ) → Decides (are_zeros bytes) (bytes ≡ replicate (length bytes) 0)
zeros-decide [] = always refl
zeros-decide (b ∷ bytes) = Decides-like ((b == 0) && are_zeros bytes) (λ w i. w.0 i ∷ w.1 i) (λ e. (heads b bytes e, tails b bytes e)) (Decides-and (b == 0) (are_zeros bytes) (Decides-eqb b 0) (zeros-decide bytes))
  where
    heads : (b : ℕ) (bytes : List ℕ) → b ∷ bytes ≡ 0 ∷ replicate (length bytes) 0 → b ≡ 0
    heads b bytes e = cc

    tails : (b : ℕ) (bytes : List ℕ) → b ∷ bytes ≡ 0 ∷ replicate (length bytes) 0 → bytes ≡ replicate (length bytes) 0
    tails b bytes e = cc

-- ---- the parts of a list that was cut or grown

within : (size : ℕ) (old : List ℕ) → size ≤ length old → resized size old ≡ take size old ++ replicate (size - length old) 0
within size old le =
    let none : size - length old ≡ 0 = omega (arith, le) in
    take-append-le size old (replicate (size - length old) 0) le ∙ sym (append-nil (take size old)) ∙ ap (λ (n : ℕ). take size old ++ replicate n 0) (sym none)

beyond : (size : ℕ) (old : List ℕ) → length old ≤ size → resized size old ≡ take size old ++ replicate (size - length old) 0
beyond size old le =
    let long : length (old ++ replicate (size - length old) 0) ≡ length old + (size - length old) = length-append old (replicate (size - length old) 0) ∙ ap (λ (n : ℕ). length old + n) (length-replicate (size - length old) 0) in
    take_all size (old ++ replicate (size - length old) 0) (omega (arith, long, le)) ∙ ap (λ (z : List ℕ). z ++ replicate (size - length old) 0) (sym (take_all size old le))

pub resized-parts : (size : ℕ) (old : List ℕ) → resized size old ≡ take size old ++ replicate (size - length old) 0
resized-parts size old = elim (cases_lt size (length old)) [
  | inl lt ↦ within size old (omega (arith, lt))
  | inr le ↦ beyond size old le
]

-- with the parts that a change of a range leaves
pub put-parts : (offset : ℕ) (bytes old : List ℕ) → bytes ≢ [] → put_at offset bytes old ≡ take offset old ++ (replicate (offset - length old) 0 ++ (bytes ++ drop (length bytes) (drop offset old)))
put-parts offset [] old other = absurd (other refl)
put-parts offset (b ∷ bytes) old other =
    append_assoc (resized offset old) (b ∷ bytes) (drop (offset + length (b ∷ bytes)) old)
    ∙ ap (λ (z : List ℕ). z ++ ((b ∷ bytes) ++ drop (offset + length (b ∷ bytes)) old)) (resized-parts offset old)
    ∙ append_assoc (take offset old) (replicate (offset - length old) 0) ((b ∷ bytes) ++ drop (offset + length (b ∷ bytes)) old)
    ∙ ap (λ (z : List ℕ). take offset old ++ (replicate (offset - length old) 0 ++ ((b ∷ bytes) ++ z))) (sym (drop-drop (length (b ∷ bytes)) offset old))

-- ---- the tests

-- a list that isn't that one
pub differ : (a b : List ℕ) → a ≢ b → false ≡ bytes_eq a b
differ a b other = same_from_decides false (bytes_eq a b) ((λ t. absurd (true≢false (sym t))), λ e. absurd (other e)) (bytes_eq-Decides a b)

-- both begin alike
pub rest-eq : (whole first rest tail : List ℕ) → whole ≡ first ++ rest → bytes_eq rest tail ≡ bytes_eq whole (first ++ tail)
rest-eq whole first rest tail e = same_from_decides (bytes_eq rest tail) (bytes_eq whole (first ++ tail)) (bytes_eq-Decides rest tail) (Decides-like (bytes_eq whole (first ++ tail)) (λ q. cancel first rest tail (sym e ∙ q)) (λ q. e ∙ ap (λ (z : List ℕ). first ++ z) q) (bytes_eq-Decides whole (first ++ tail)))
  where
    cancel : (first a b : List ℕ) → first ++ a ≡ first ++ b → a ≡ b
    cancel [] a b q = q
    cancel (x ∷ first) a b q = cancel first a b (tails x first a b q)
      where
        tails : (x : ℕ) (first a b : List ℕ) → x ∷ (first ++ a) ≡ x ∷ (first ++ b) → first ++ a ≡ first ++ b
        tails x first a b q = cc

-- ---- what the functions give

-- no bytes change nothing
pub put-none : (offset : ℕ) (bytes old later : List ℕ) → length bytes ≡ 0 → bytes_eq later old ≡ is_put offset bytes old later
unfolding is_put
put-none offset [] old later e = refl
put-none offset (b ∷ bytes) old later e = absurd (omega (arith, e))

pub put-is : (offset : ℕ) (bytes old later : List ℕ) → (length bytes ≡ 0 → ⊥) → bytes_eq later (take offset old ++ (replicate (offset - length old) 0 ++ (bytes ++ drop (length bytes) (drop offset old)))) ≡ is_put offset bytes old later
unfolding is_put
put-is offset bytes old later other = ap (λ (z : List ℕ). bytes_eq later z) (sym (put-parts offset bytes old (λ e. other (ap (λ (z : List ℕ). length z) e))))

pub resized-is : (size : ℕ) (old later : List ℕ) → bytes_eq later (take size old ++ (replicate (size - length old) 0 ++ ([] ++ []))) ≡ is_resized size old later
unfolding is_resized
resized-is size old later = ap (λ (z : List ℕ). bytes_eq later z) (ap (λ (z : List ℕ). take size old ++ z) (append-nil (replicate (size - length old) 0)) ∙ sym (resized-parts size old))

-- a whole that doesn't begin so
pub joined-not : (whole first rest : List ℕ) → ((more : List ℕ) → whole ≢ first ++ more) → false ≡ bytes_eq whole (first ++ rest)
joined-not whole first rest other = differ whole (first ++ rest) (other rest)

-- what follows the first part, if the whole begins with it
pub after-some : (whole first rest : List ℕ) → rest ≡ drop (length first) whole → bytes_eq (take (length first) whole) first ≡ true → whole ≡ first ++ rest
after-some whole first rest e t = sym (take-append-drop (length first) whole) ∙ ap (λ (z : List ℕ). z ++ drop (length first) whole) ((bytes_eq-Decides (take (length first) whole) first).0 t) ∙ ap (λ (z : List ℕ). first ++ z) (sym e)

pub after-none : (whole first : List ℕ) → bytes_eq (take (length first) whole) first ≡ false → (rest : List ℕ) → whole ≢ first ++ rest
after-none whole first f rest e = not_from_Decides (bytes_eq (take (length first) whole) first) (bytes_eq-Decides (take (length first) whole) first) f (ap (λ (z : List ℕ). take (length first) z) e ∙ take_at first rest (length first) refl)

pub zeros-some : (whole rest : List ℕ) (count : ℕ) → rest ≡ drop count whole → count ≤ length whole → are_zeros (take count whole) ≡ true → whole ≡ replicate count 0 ++ rest
zeros-some whole rest count e le zeros =
    sym (take-append-drop count whole)
    ∙ ap (λ (z : List ℕ). z ++ drop count whole) ((zeros-decide (take count whole)).0 zeros ∙ ap (λ (n : ℕ). replicate n 0) (length-take-le count whole le))
    ∙ ap (λ (z : List ℕ). replicate count 0 ++ z) (sym e)

pub zeros-none : (whole : List ℕ) (count : ℕ) → count ≤ length whole → are_zeros (take count whole) ≡ false → (more : List ℕ) → whole ≢ replicate count 0 ++ more
zeros-none whole count le other more e = not_from_Decides (are_zeros (take count whole)) (zeros-decide (take count whole)) other (ap (λ (z : List ℕ). take count z) e ∙ take_at (replicate count 0) more count (length-replicate count 0) ∙ ap (λ (n : ℕ). replicate n 0) (sym (length-take-le count whole le)))

-- so many zeros
pub so-many : (count : ℕ) (bytes : List ℕ) → length bytes ≡ count → are_zeros bytes ≡ bytes_eq bytes (replicate count 0)
so-many count bytes long =
    same_from_decides (are_zeros bytes) (bytes_eq bytes (replicate count 0))
    (Decides-like (are_zeros bytes) (λ e. e ∙ ap (λ (n : ℕ). replicate n 0) long) (λ e. e ∙ ap (λ (n : ℕ). replicate n 0) (sym long)) (zeros-decide bytes))
    (bytes_eq-Decides bytes (replicate count 0))

pub not-so-many : (count : ℕ) (bytes : List ℕ) → length bytes ≢ count → false ≡ bytes_eq bytes (replicate count 0)
not-so-many count bytes other = differ bytes (replicate count 0) (λ e. other (ap (λ (z : List ℕ). length z) e ∙ length-replicate count 0))

pub by-way-of : (x y z : Bool) → x ≡ y → y ≡ z → x ≡ z
by-way-of x y z p q = p ∙ q
