-- The bytes of one segment written over others.
use Rattle.std.proofs.Common.{◌≡◌, ◌<◌, ◌≤◌, ℕ, ◌+◌, ◌-◌, ◌&&◌, Bool, true, false, List, [], ◌∷◌, ◌++◌, length, take, drop, min, get_or, zero, suc, refl, sym, ap, ◌∙◌, ◌⊎◌, inl, inr, arith, add-one, append_assoc, append-nil, drop-cons, length-drop, length-take, take-append-drop}
use Rattle.std.specs.Prelude.{nat_le, nat_lt}
use Rattle.std.proofs.lemmas.Bool.{le-leb, lt-leb, lt-ltb, le-ltb, cases_lt}
use Rattle.std.proofs.lemmas.List.{drop-drop}
use Rattle.write_back.specs.Segments.{Segment, covers, shown}

outside-past : (at size place : ℕ) → at + size ≤ place → covers at size place ≡ false
outside-past at size place past = by (nat_le at place) refl
  where
    by : (b : Bool) → nat_le at place ≡ b → (nat_le at place && nat_lt place (at + size)) ≡ false
    by true h = rw (h, le-ltb place (at + size) past) refl
    by false h = rw h refl

outside-first : (at size place : ℕ) → place < at → covers at size place ≡ false
outside-first at size place first = rw (lt-leb at place first) refl

inside : (at size place : ℕ) → at ≤ place → place < at + size → covers at size place ≡ true
inside at size place first last = rw (le-leb at place first, lt-ltb place (at + size) last) refl

-- all of it ends before
pub shown-past : (at : ℕ) (s : Segment) (offset : ℕ) (buf : List ℕ) → at + length s.bytes ≤ offset → shown ((at, s) ∷ []) offset buf ≡ buf
shown-past at s offset [] past = refl
shown-past at s offset (b ∷ bs) past = rw (outside-past at (length s.bytes) offset past) (ap (λ z. b ∷ z) (shown-past at s (offset + 1) bs (omega (arith, past))))

-- all of it begins after
pub shown-later : (at : ℕ) (s : Segment) (offset : ℕ) (buf : List ℕ) → offset + length buf ≤ at → shown ((at, s) ∷ []) offset buf ≡ buf
shown-later at s offset [] later = refl
shown-later at s offset (b ∷ bs) later = rw (outside-first at (length s.bytes) offset (omega (arith, later))) (ap (λ z. b ∷ z) (shown-later at s (offset + 1) bs (omega (arith, later))))

-- it begins with the first place or before it
shown-inside : (at : ℕ) (s : Segment) (offset skip size : ℕ) (buf : List ℕ) → at + skip ≡ offset → size ≡ min (length s.bytes - skip) (length buf)
    → shown ((at, s) ∷ []) offset buf ≡ take size (drop skip s.bytes) ++ drop size buf
shown-inside at s offset skip size [] is fits = let none : size ≡ 0 = omega (arith, fits) in rw none refl
shown-inside at s offset skip size (b ∷ bs) is fits = by (cases_lt skip (length s.bytes)) (shown-inside at s (offset + 1) (skip + 1) (min (length s.bytes - (skip + 1)) (length bs)) bs (omega (arith, is)) refl)
  where
    by : (skip < length s.bytes) ⊎ (length s.bytes ≤ skip)
        → shown ((at, s) ∷ []) (offset + 1) bs ≡ take (min (length s.bytes - (skip + 1)) (length bs)) (drop (skip + 1) s.bytes) ++ drop (min (length s.bytes - (skip + 1)) (length bs)) bs
        → shown ((at, s) ∷ []) offset (b ∷ bs) ≡ take size (drop skip s.bytes) ++ drop size (b ∷ bs)
    by (inl more) rest =
        let less : size ≡ suc (min (length s.bytes - (skip + 1)) (length bs)) = omega (arith, fits, more) in
        let here : covers at (length s.bytes) offset ≡ true = inside at (length s.bytes) offset (omega (arith, is)) (omega (arith, is, more)) in
        let first : offset - at ≡ skip = omega (arith, is) in
        let cons : drop skip s.bytes ≡ get_or s.bytes skip 0 ∷ drop (skip + 1) s.bytes = drop-cons s.bytes skip 0 more ∙ ap (λ (k : ℕ). get_or s.bytes skip 0 ∷ drop k s.bytes) (sym (add-one skip)) in
        rw (less, cons, here, first) (ap (λ z. get_or s.bytes skip 0 ∷ z) rest)
    by (inr most) rest =
        let none : size ≡ 0 = omega (arith, fits, most) in
        rw none (shown-past at s offset (b ∷ bs) (omega (arith, is, most)))

-- it begins after the first place
shown-after : (at : ℕ) (s : Segment) (offset start : ℕ) (buf : List ℕ) → offset + start ≡ at → start ≤ length buf → shown ((at, s) ∷ []) offset buf ≡ take start buf ++ shown ((at, s) ∷ []) at (drop start buf)
shown-after at s offset zero buf is fits = let same : offset ≡ at = omega (arith, is) in ap (λ o. shown ((at, s) ∷ []) o buf) same
shown-after at s offset (suc start) [] is fits = absurd (omega (arith, fits))
shown-after at s offset (suc start) (b ∷ bs) is fits =
    rw (outside-first at (length s.bytes) offset (omega (arith, is))) (ap (λ z. b ∷ z) (shown-after at s (offset + 1) start bs (omega (arith, is)) (omega (arith, fits))))

-- all of it
pub shown-one : (at : ℕ) (s : Segment) (offset skip start size : ℕ) (buf : List ℕ) → skip ≡ offset - at → start ≡ at - offset → start < length buf → size ≡ min (length s.bytes - skip) (length buf - start)
    → shown ((at, s) ∷ []) offset buf ≡ take start buf ++ take size (drop skip s.bytes) ++ drop (start + size) buf
shown-one at s offset skip start size buf is begins fits most = by (cases_lt offset at)
  where
    by : (offset < at) ⊎ (at ≤ offset) → shown ((at, s) ∷ []) offset buf ≡ take start buf ++ take size (drop skip s.bytes) ++ drop (start + size) buf
    by (inl first) =
        let none : skip ≡ 0 = omega (arith, is, first) in
        let rest : shown ((at, s) ∷ []) at (drop start buf) ≡ take size (drop skip s.bytes) ++ drop size (drop start buf) =
        shown-inside at s at skip size (drop start buf) (omega (arith, none)) (rw (length-drop start buf) most) in
        shown-after at s offset start buf (omega (arith, begins, first)) (omega (arith, fits)) ∙ ap (λ z. take start buf ++ z) (rest ∙ ap (λ z. take size (drop skip s.bytes) ++ z) (drop-drop size start buf)) ∙ sym (append_assoc (take start buf) (take size (drop skip s.bytes)) (drop (start + size) buf))
    by (inr later) =
        let none : start ≡ 0 = omega (arith, begins, later) in
        let plus : start + size ≡ size = omega (arith, none) in
        let fit : size ≡ min (length s.bytes - skip) (length buf) = omega (arith, most, none) in
        rw (plus, none) (shown-inside at s offset skip size buf (omega (arith, is, later)) fit)

-- nothing of it stands at these places
pub shown-out : (at : ℕ) (s : Segment) (offset skip start : ℕ) (buf : List ℕ) → skip ≡ offset - at → start ≡ at - offset → (length s.bytes ≤ skip) ⊎ (length buf ≤ start) → shown ((at, s) ∷ []) offset buf ≡ buf
shown-out at s offset skip start [] is begins out = refl
shown-out at s offset skip start (b ∷ bs) is begins (inr later) = shown-later at s offset (b ∷ bs) (omega (arith, begins, later))
shown-out at s offset skip start (b ∷ bs) is begins (inl past) = by (cases_lt start (length (b ∷ bs)))
  where
    by : (start < length (b ∷ bs)) ⊎ (length (b ∷ bs) ≤ start) → shown ((at, s) ∷ []) offset (b ∷ bs) ≡ b ∷ bs
    by (inl lt) =
        let same : start + 0 ≡ start = omega arith in
        shown-one at s offset skip start 0 (b ∷ bs) is begins lt (omega (arith, past))
        ∙ ap (λ n. take start (b ∷ bs) ++ [] ++ drop n (b ∷ bs)) same ∙ ap (λ z. z ++ drop start (b ∷ bs)) (append-nil (take start (b ∷ bs))) ∙ take-append-drop start (b ∷ bs)
    by (inr later) = shown-later at s offset (b ∷ bs) (omega (arith, begins, later))

pub shown-zero : (at : ℕ) (s : Segment) (offset skip start size : ℕ) (buf : List ℕ) → skip ≡ offset - at → start ≡ at - offset → size ≡ min (length s.bytes - skip) (length buf - start) → size ≡ 0 → shown ((at, s) ∷ []) offset buf ≡ buf
shown-zero at s offset skip start size buf is begins fits none = shown-out at s offset skip start buf is begins (out (cases_lt skip (length s.bytes)))
  where
    out : (skip < length s.bytes) ⊎ (length s.bytes ≤ skip) → (length s.bytes ≤ skip) ⊎ (length buf ≤ start)
    out (inl some) = inr (omega (arith, some, fits, none))
    out (inr past) = inl past

-- the bytes that stand at these places, over others
pub shown-part : (at : ℕ) (s : Segment) (offset skip start size : ℕ) (buf part : List ℕ) → skip ≡ offset - at → start ≡ at - offset → size ≡ min (length s.bytes - skip) (length buf - start) → 0 < size
    → part ≡ take size (drop skip s.bytes) → take start buf ++ part ++ drop (start + length part) buf ≡ shown ((at, s) ∷ []) offset buf
shown-part at s offset skip start size buf part is begins fits some same =
    let long : length part ≡ size = ap length same ∙ omega (arith, length-take size (drop skip s.bytes), length-drop skip s.bytes, fits) in
    rw (long, same) (sym (shown-one at s offset skip start size buf is begins (omega (arith, fits, some)) fits))
