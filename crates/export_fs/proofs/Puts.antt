-- Bytes that are put into a list which is long enough, or was filled with zeros first.
use Rattle.std.proofs.Common.{◌≡◌, ◌≤◌, ◌<◌, ◌+◌, ◌-◌, ℕ, List, [], ◌∷◌, ◌++◌, length, take, drop, replicate, sym, ap, subst, ◌∙◌, arith}
use Rattle.std.proofs.lemmas.Bool.{cases_lt}
use Rattle.std.proofs.lemmas.List.{take-append-le, take-replicate, length-replicate, drop_all}
use Rattle.std.proofs.Math.Seq.{take-append-add}
use Rattle.std.proofs.Common.{length-append, append-nil, ⊎_elim}
use Rattle.world_model.specs.Bytes.{filled, resized, put_at}

-- of a list that is long enough nothing is filled
pub filled_long : (size : ℕ) (old : List ℕ) → size ≤ length old → filled size old ≡ old
filled_long size old h = ap (λ n. old ++ replicate n 0) (zero_left size (length old) h) ∙ append-nil old where
  zero_left : (a b : ℕ) → a ≤ b → a - b ≡ 0
  zero_left a b h = omega arith

pub length_filled : (size : ℕ) (old : List ℕ) → size ≤ length (filled size old)
length_filled size old = omega (arith, length-append old (replicate (size - length old) 0), length-replicate {A = ℕ} (size - length old) 0)

-- the front of a list that was filled further, where it goes past the list
past_end : (offset end : ℕ) (old : List ℕ) → length old ≤ offset → offset ≤ end → take offset (filled end old) ≡ old ++ replicate (offset - length old) 0
past_end offset end old h g =
    let split : offset ≡ length old + (offset - length old) = omega arith in
    let P : ℕ → Type 0 = λ n. take n (filled end old) ≡ old ++ replicate (offset - length old) 0 in
    let short : offset - length old ≤ end - length old = omega arith in
    subst P (sym split) (take-append-add old (replicate (end - length old) 0) (offset - length old) ∙ ap (λ z. old ++ z) (take-replicate (offset - length old) (end - length old) 0 short))

pub take_filled : (offset end : ℕ) (old : List ℕ) → offset ≤ end → take offset (filled end old) ≡ resized offset old
take_filled offset end old g =
    ⊎_elim (λ (h : offset < length old). take-append-le offset old (replicate (end - length old) 0) (omega arith) ∙ sym (take-append-le offset old (replicate (offset - length old) 0) (omega arith)))
    (λ (h : length old ≤ offset). past_end offset end old h g ∙ sym (past_end offset offset old h (omega arith)))
    (cases_lt offset (length old))

pub drop_filled : (end : ℕ) (old : List ℕ) → drop end (filled end old) ≡ drop end old
drop_filled end old =
    ⊎_elim (λ (h : end < length old). ap (drop end) (filled_long end old (omega arith)))
    (λ (h : length old ≤ end). drop_all end (filled end old) (omega (arith, length-append old (replicate (end - length old) 0), length-replicate {A = ℕ} (end - length old) 0)) ∙ sym (drop_all end old h))
    (cases_lt end (length old))

-- a list that is long enough takes the bytes in place
pub put_within : (offset : ℕ) (bytes old : List ℕ) → offset + length bytes ≤ length old → 0 < length bytes → put_at offset bytes old ≡ take offset old ++ bytes ++ drop (offset + length bytes) old
put_within offset [] old h g = absurd (omega arith)
put_within offset (b ∷ bytes) old h g = ap (λ (z : List ℕ). z ++ (b ∷ bytes) ++ drop (offset + length (b ∷ bytes)) old) (ap (take offset) (filled_long offset old (omega arith)))

-- a list that was filled first takes them as it does without
pub put_filled : (offset : ℕ) (bytes old : List ℕ) → 0 < length bytes → put_at offset bytes (filled (offset + length bytes) old) ≡ put_at offset bytes old
put_filled offset [] old g = absurd (omega arith)
put_filled offset (b ∷ bytes) old g =
    let end : ℕ = offset + length (b ∷ bytes) in
    let long : offset ≤ length (filled end old) = omega (arith, length_filled end old) in
    let front : resized offset (filled end old) ≡ resized offset old = ap (take offset) (filled_long offset (filled end old) long) ∙ take_filled offset end old (omega arith) in
    ap (λ (z : List ℕ). z ++ (b ∷ bytes) ++ drop end (filled end old)) front ∙ ap (λ (z : List ℕ). resized offset old ++ (b ∷ bytes) ++ z) (drop_filled end old)

pub laid : (offset end : ℕ) (bytes old mid new : List ℕ) → mid ≡ filled end old → end ≡ offset + length bytes → 0 < length bytes → new ≡ put_at offset bytes mid → new ≡ put_at offset bytes old
laid offset end bytes old mid new e f g h = h ∙ ap (put_at offset bytes) (e ∙ ap (λ (n : ℕ). filled n old) f) ∙ put_filled offset bytes old g
