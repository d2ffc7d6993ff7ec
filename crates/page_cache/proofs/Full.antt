-- What a change of a file makes of a page: of a whole one before it, of one after it, and how long any page is then.
use Rattle.std.proofs.Common.{◌≡◌, ◌<◌, ◌≤◌, ℕ, ◌+◌, ◌-◌, ◌/◌, min, Bool, true, false, List, length, if◌then◌else◌, refl, arith}
use Rattle.std.proofs.lemmas.Grind.{same_number_lists, div_ceil_times}
use Rattle.std.proofs.lemmas.Bool.Decides.{nat_tests}
use Rattle.std.specs.Int.{div_ceil}
use Rattle.page_cache.specs.Bytes.{resized, over, start_of, misses, begins_in, share_of, put_page, cut_page}
use Rattle.page_cache.proofs.Bytes.{length-resized, at-resized, length-over, below-over, length-part}

-- the pages before an offset's page end before the offset
pub below-first : (index offset : ℕ) → index < offset / 4096 → start_of index + 4096 ≤ offset
below-first index offset low = omega (arith, low)

-- the pages from the next one on begin past the end
pub above-last : (index end : ℕ) → div_ceil end 4096 ≤ index → end ≤ start_of index
above-last index end high = let d = div_ceil_times end 4096 (omega arith) in omega (arith, d.0, high)

-- the first page comes before the one past the last
pub first-last : (below offset count : ℕ) → min below (offset / 4096) ≤ div_ceil (offset + count) 4096
first-last below offset count = let d = div_ceil_times (offset + count) 4096 (omega arith) in omega (arith, d.0)

-- no bytes at the end of a list leave it
over-end : (size at : ℕ) (share old : List ℕ) → at ≡ size → length share ≡ 0 → length old ≡ size → over at share old ≡ old
over-end size at share old is none whole = same_number_lists _ _ (omega (arith, length-over at share old))
    (λ k within. below-over at share old k (omega (arith, length-over at share old)))

-- bytes put at a list's end or before it
resized-same : (size : ℕ) (old : List ℕ) → length old ≡ size → resized size old ≡ old
resized-same size old whole = same_number_lists _ _ (omega (arith, length-resized size old)) (λ k within. at-resized size old k (omega (arith, length-resized size old)))

module _ (index offset : ℕ) (bytes old : List ℕ) where
  length-share : length (share_of index offset bytes) ≡ min (4096 - begins_in index offset) (length bytes - (start_of index - offset))
  length-share = length-part (4096 - begins_in index offset) (start_of index - offset) bytes

  abbrev changed : Bool → List ℕ
  changed missed = if missed then old else over (begins_in index offset) (share_of index offset bytes) old

  -- a whole page before the bytes stays
  pub put-before : start_of index + 4096 ≤ offset → length old ≡ 4096 → put_page index offset bytes old ≡ old
  put-before early whole = by (misses index offset bytes)
    where
      by : (b : Bool) → changed b ≡ old
      by true = refl
      by false = over-end 4096 (begins_in index offset) (share_of index offset bytes) old (omega arith) (omega (arith, length-share)) whole

  -- a page past the bytes stays
  pub put-after : offset + length bytes ≤ start_of index → put_page index offset bytes old ≡ old
  put-after past = let t : misses index offset bytes ≡ true = grind (arith, nat_tests) in rw t refl

  pub put-nothing : length bytes ≡ 0 → put_page index offset bytes old ≡ old
  put-nothing none = let t : misses index offset bytes ≡ true = grind (arith, nat_tests) in rw t refl

  -- no page grows past its size, or shrinks
  pub put-fits : length old ≤ 4096 → length (put_page index offset bytes old) ≤ 4096
  put-fits fits = by (misses index offset bytes)
    where
      by : (b : Bool) → length (changed b) ≤ 4096
      by true = fits
      by false = omega (arith, length-share, length-over (begins_in index offset) (share_of index offset bytes) old)

  pub put-grows : length old ≤ length (put_page index offset bytes old)
  put-grows = by (misses index offset bytes)
    where
      by : (b : Bool) → length old ≤ length (changed b)
      by true = omega arith
      by false = omega (arith, length-over (begins_in index offset) (share_of index offset bytes) old)

  -- a page before some bytes is whole after them
  pub put-whole : start_of index + 4096 ≤ offset → 0 < length bytes → length old ≤ 4096 → length (put_page index offset bytes old) ≡ 4096
  put-whole early some fits =
      let t : misses index offset bytes ≡ false = grind (arith, nat_tests) in
      rw t (omega (arith, length-share, length-over (begins_in index offset) (share_of index offset bytes) old))

module _ (index size : ℕ) (old : List ℕ) where
  pub length-cut : length (cut_page index size old) ≡ min (size - start_of index) 4096
  length-cut = length-resized (min (size - start_of index) 4096) old

  -- a whole page before the new end stays
  pub cut-before : start_of index + 4096 ≤ size → length old ≡ 4096 → cut_page index size old ≡ old
  cut-before early whole = resized-same (min (size - start_of index) 4096) old (omega (arith, whole))
