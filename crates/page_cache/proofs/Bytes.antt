-- A page of a file after a change of the file.
use Rattle.std.proofs.Common.{◌≡◌, ◌<◌, ◌≤◌, ℕ, ◌+◌, ◌-◌, min, max, Bool, true, false, nat_lt, List, [], ◌∷◌, ◌++◌, length, take, drop, replicate, get_or, if◌then◌else◌, refl, sym, ap, ◌∙◌, arith, inl, inr, length-append, length-drop}
use Rattle.std.proofs.lemmas.List.{length-take, length-replicate, get_or-take, get_or-drop, get_or_append_left, get_or-append_right, get_or-replicate, get_or_past}
use Rattle.std.proofs.lemmas.Grind.{same_number_lists}
use Rattle.std.proofs.lemmas.Bool.{cases_lt}
use Rattle.std.proofs.lemmas.Bool.Decides.{nat_tests}
use Rattle.page_cache.specs.Bytes.{resized, over, put_at, start_of, page_at, misses, put_page, cut_page}

pub length-resized : (z : ℕ) (b : List ℕ) → length (resized z b) ≡ z
length-resized z b = omega (arith, length-take z (b ++ replicate (z - length b) 0), length-append b (replicate (z - length b) 0), length-replicate {A = ℕ} (z - length b) 0)

pub at-resized : (z : ℕ) (b : List ℕ) (k : ℕ) → k < z → get_or (resized z b) k 0 ≡ get_or b k 0
at-resized z b k within = get_or-take z (b ++ replicate (z - length b) 0) k 0 within ∙ (elim (cases_lt k (length b)) [
  | inl low ↦ get_or_append_left b (replicate (z - length b) 0) 0 k low
  | inr high ↦ get_or-append_right b (replicate (z - length b) 0) (length b) k 0 refl high
      ∙ get_or-replicate {A = ℕ} (z - length b) (k - length b) 0 0 (omega arith) ∙ sym (get_or_past b k 0 high)
])

module _ (offset : ℕ) (bytes old : List ℕ) where
  pub length-over : length (over offset bytes old) ≡ max (length old) (offset + length bytes)
  length-over = omega (
    arith,
    length-append (resized offset old ++ bytes) (drop (offset + length bytes) old),
    length-append (resized offset old) bytes,
    length-resized offset old,
    length-drop (offset + length bytes) old,
  )

  front : length (resized offset old ++ bytes) ≡ offset + length bytes
  front = omega (arith, length-append (resized offset old) bytes, length-resized offset old)

  pub below-over : (k : ℕ) → k < offset → get_or (over offset bytes old) k 0 ≡ get_or old k 0
  below-over k low =
      get_or_append_left (resized offset old ++ bytes) (drop (offset + length bytes) old) 0 k (omega (arith, front))
      ∙ get_or_append_left (resized offset old) bytes 0 k (omega (arith, length-resized offset old)) ∙ at-resized offset old k low

  in-over : (k : ℕ) → offset ≤ k → k < offset + length bytes → get_or (over offset bytes old) k 0 ≡ get_or bytes (k - offset) 0
  in-over k low high =
      get_or_append_left (resized offset old ++ bytes) (drop (offset + length bytes) old) 0 k (omega (arith, front))
      ∙ get_or-append_right (resized offset old) bytes offset k 0 (length-resized offset old) low

  past-over : (k : ℕ) → offset + length bytes ≤ k → get_or (over offset bytes old) k 0 ≡ get_or old k 0
  past-over k high =
      get_or-append_right (resized offset old ++ bytes) (drop (offset + length bytes) old) (offset + length bytes) k 0 front high
      ∙ get_or-drop (offset + length bytes) old (k - (offset + length bytes)) 0 ∙ ap (λ n. get_or old n 0) (omega arith)

-- a part of a list: at most so many from a place on
abbrev part : ℕ → ℕ → List ℕ → List ℕ
part size start b = take size (drop start b)

pub length-part : (size start : ℕ) (b : List ℕ) → length (part size start b) ≡ min size (length b - start)
length-part size start b = omega (arith, length-take size (drop start b), length-drop start b)

at-part : (size start : ℕ) (b : List ℕ) (k : ℕ) → k < size → get_or (part size start b) k 0 ≡ get_or b (start + k) 0
at-part size start b k within = get_or-take size (drop start b) k 0 within ∙ get_or-drop start b k 0

-- a part of the list that is cut or grown
part-resized : (size start z : ℕ) (b : List ℕ) → resized (min (z - start) size) (part size start b) ≡ part size start (resized z b)
part-resized size start z b = same_number_lists _ _
    (omega (arith, length-resized (min (z - start) size) (part size start b), length-part size start (resized z b), length-resized z b))
    (λ k within.
    let below : k < min (z - start) size = omega (arith, length-resized (min (z - start) size) (part size start b)) in
    at-resized (min (z - start) size) (part size start b) k below ∙ at-part size start b k (omega arith)
    ∙ sym (at-part size start (resized z b) k (omega arith) ∙ at-resized z b (start + k) (omega arith)))

-- a part of the list over which bytes were put that reach it
module _ (size start offset : ℕ) (bytes b : List ℕ) (some : 0 < length bytes) (reach : start < offset + length bytes) where
  abbrev at : ℕ
  at = min (offset - start) size

  abbrev share : List ℕ
  share = take (size - at) (drop (start - offset) bytes)

  length-share : length share ≡ min (size - at) (length bytes - (start - offset))
  length-share = length-part (size - at) (start - offset) bytes

  length-both : length (over at share (part size start b)) ≡ length (part size start (over offset bytes b))
  length-both = omega (
    arith,
    length-over at share (part size start b),
    length-share,
    length-part size start b,
    length-part size start (over offset bytes b),
    length-over offset bytes b,
  )

  within-size : (k : ℕ) → k < length (over at share (part size start b)) → k < size
  within-size k h = omega (arith, length-both, length-part size start (over offset bytes b))

  part-over-at : (k : ℕ) → k < size → get_or (over at share (part size start b)) k 0 ≡ get_or (over offset bytes b) (start + k) 0
  part-over-at k small = elim (cases_lt k at) [
    | inl low ↦ below-over at share (part size start b) k low ∙ at-part size start b k small ∙ sym (below-over offset bytes b (start + k) (omega arith))
    | inr from ↦ elim (cases_lt k (at + length share)) [
      | inl inside ↦ in-over at share (part size start b) k from inside
          ∙ at-part (size - at) (start - offset) bytes (k - at) (omega arith)
          ∙ ap (λ n. get_or bytes n 0) (omega (arith, length-share))
          ∙ sym (in-over offset bytes b (start + k) (omega (arith, length-share)) (omega (arith, length-share)))
      | inr past ↦ past-over at share (part size start b) k past ∙ at-part size start b k small
          ∙ sym (past-over offset bytes b (start + k) (omega (arith, length-share)))
    ]
  ]

  part-over : over at share (part size start b) ≡ part size start (over offset bytes b)
  part-over = same_number_lists _ _ length-both (λ k h.
      let small = within-size k h in part-over-at k small ∙ sym (at-part size start (over offset bytes b) k small))

-- a part of the list that ends before the bytes' end stays
part-kept : (size start offset : ℕ) (bytes b : List ℕ) → offset + length bytes ≤ start → part size start b ≡ part size start (over offset bytes b)
part-kept size start offset bytes b before = same_number_lists _ _
    (omega (arith, length-part size start b, length-part size start (over offset bytes b), length-over offset bytes b))
    (λ k h.
    let small : k < size = omega (arith, length-part size start b) in
    at-part size start b k small ∙ sym (at-part size start (over offset bytes b) k small ∙ past-over offset bytes b (start + k) (omega arith)))

pub page-cut : (index size : ℕ) (b : List ℕ) → cut_page index size (page_at index b) ≡ page_at index (resized size b)
page-cut index size b = part-resized 4096 (start_of index) size b

page-put-some : (index offset : ℕ) (bytes b : List ℕ) → 0 < length bytes → put_page index offset bytes (page_at index b) ≡ page_at index (over offset bytes b)
page-put-some index offset bytes b some = elim (cases_lt (start_of index) (offset + length bytes)) [
  | inl reach ↦ rw (misses-not reach) (part-over 4096 (start_of index) offset bytes b some reach)
  | inr before ↦ rw (misses-yes before) (part-kept 4096 (start_of index) offset bytes b before)
]
  where
    misses-not : start_of index < offset + length bytes → misses index offset bytes ≡ false
    misses-not reach = grind (arith, nat_tests)

    misses-yes : offset + length bytes ≤ start_of index → misses index offset bytes ≡ true
    misses-yes before = grind (arith, nat_tests)

pub page-put : (index offset : ℕ) (bytes b : List ℕ) → put_page index offset bytes (page_at index b) ≡ page_at index (put_at offset bytes b)
page-put index offset [] b = refl
page-put index offset (x ∷ bytes) b = page-put-some index offset (x ∷ bytes) b (omega arith)

-- bytes laid into an array of which so many bytes count
pub laid : (array bytes : List ℕ) (len at : ℕ) → at ≤ len → len ≤ length array → at + length bytes ≤ length array
    → take (max len (at + length bytes)) (take at array ++ (bytes ++ drop (length bytes) (drop at array))) ≡ over at bytes (take len array)
laid array bytes len at inside counts fits = same_number_lists _ _ (omega (arith, size, length-over at bytes (take len array), old)) (λ k h. same k (omega (arith, size, h)))
  where
    old : length (take len array) ≡ len
    old = omega (arith, length-take len array)

    first : length (take at array) ≡ at
    first = omega (arith, length-take at array)

    tail : length (drop (length bytes) (drop at array)) ≡ length array - (at + length bytes)
    tail = omega (arith, length-drop (length bytes) (drop at array), length-drop at array)

    size : length (take (max len (at + length bytes)) (take at array ++ (bytes ++ drop (length bytes) (drop at array)))) ≡ max len (at + length bytes)
    size = omega (
      arith,
      length-take (max len (at + length bytes)) (take at array ++ (bytes ++ drop (length bytes) (drop at array))),
      length-append (take at array) (bytes ++ drop (length bytes) (drop at array)),
      length-append bytes (drop (length bytes) (drop at array)),
      length-take at array,
      length-drop (length bytes) (drop at array),
      length-drop at array,
    )

    whole : (k : ℕ) → k < max len (at + length bytes)
        → get_or (take (max len (at + length bytes)) (take at array ++ (bytes ++ drop (length bytes) (drop at array)))) k 0 ≡ get_or (take at array ++ (bytes ++ drop (length bytes) (drop at array))) k 0
    whole k h = get_or-take (max len (at + length bytes)) (take at array ++ (bytes ++ drop (length bytes) (drop at array))) k 0 h

    same : (k : ℕ) → k < max len (at + length bytes)
        → get_or (take (max len (at + length bytes)) (take at array ++ (bytes ++ drop (length bytes) (drop at array)))) k 0 ≡ get_or (over at bytes (take len array)) k 0
    same k h = whole k h ∙ (elim (cases_lt k at) [
      | inl low ↦ get_or_append_left (take at array) (bytes ++ drop (length bytes) (drop at array)) 0 k (omega (arith, length-take at array)) ∙ get_or-take at array k 0 low
          ∙ sym (below-over at bytes (take len array) k low ∙ get_or-take len array k 0 (omega arith))
      | inr from ↦ get_or-append_right (take at array) (bytes ++ drop (length bytes) (drop at array)) at k 0 (omega (arith, length-take at array)) from
          ∙ (elim (cases_lt k (at + length bytes)) [
            | inl low ↦ get_or_append_left bytes (drop (length bytes) (drop at array)) 0 (k - at) (omega arith) ∙ sym (in-over at bytes (take len array) k from low)
            | inr past ↦ get_or-append_right bytes (drop (length bytes) (drop at array)) (length bytes) (k - at) 0 refl (omega arith)
                ∙ get_or-drop (length bytes) (drop at array) (k - at - length bytes) 0 ∙ get_or-drop at array (length bytes + (k - at - length bytes)) 0
                ∙ ap (λ n. get_or array n 0) (omega arith)
                ∙ sym (past-over at bytes (take len array) k past ∙ get_or-take len array k 0 (omega arith))
          ])
    ])

-- zeros up to the place first
pub filled-first : (at : ℕ) (bytes old : List ℕ) → length old < at → over at bytes (resized at old) ≡ over at bytes old
filled-first at bytes old short = same_number_lists _ _
    (omega (arith, length-over at bytes (resized at old), length-over at bytes old, length-resized at old))
    (λ k h. elim (cases_lt k at) [
      | inl low ↦ below-over at bytes (resized at old) k low ∙ at-resized at old k low ∙ sym (below-over at bytes old k low)
      | inr from ↦ elim (cases_lt k (at + length bytes)) [
        | inl low ↦ in-over at bytes (resized at old) k from low ∙ sym (in-over at bytes old k from low)
        | inr past ↦ past-over at bytes (resized at old) k past ∙ get_or_past (resized at old) k 0 (omega (arith, length-resized at old))
            ∙ sym (past-over at bytes old k past ∙ get_or_past old k 0 (omega arith))
      ]
    ])

pub filled-over : (at : ℕ) (bytes old : List ℕ) → over at bytes (if nat_lt (length old) at then resized at old else old) ≡ over at bytes old
filled-over at bytes old = by (nat_lt (length old) at) refl
  where
    by : (b : Bool) → nat_lt (length old) at ≡ b → over at bytes (if b then resized at old else old) ≡ over at bytes old
    by true t = filled-first at bytes old (grind (arith, nat_tests))
    by false t = refl

pub length-filled : (at : ℕ) (old : List ℕ) → at ≤ length (if nat_lt (length old) at then resized at old else old)
length-filled at old = by (nat_lt (length old) at) refl
  where
    by : (b : Bool) → nat_lt (length old) at ≡ b → at ≤ length (if b then resized at old else old)
    by true t = omega (arith, length-resized at old)
    by false t = grind (arith, nat_tests)
