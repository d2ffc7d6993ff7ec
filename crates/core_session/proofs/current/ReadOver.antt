-- Bytes by their places in what a read shows, where nothing is pending at a place of the server's.
use Rattle.core_session.proofs.Prelude.{◌≡◌, ◌<◌, ◌≤◌, ◌+◌, ◌⊎◌, inl, inr, ℕ, zero, suc, List, [], ◌∷◌, length, length-append, slice_get, Option, Some, None, option_map, refl, sym, ap, ◌∙◌, arith, cases_lt, slice_get_within, slice_get-get_or, Pending, of_file, newest_at, last_end, shown_over, was_pending, FilePending, IsSound, end-some, HasOr}
use Rattle.std.proofs.Common.{slice_index, unwrap_or}
use Rattle.write_back.specs.Segments.{shown}
use Rattle.file_ops.specs.Overlaid.{byte_or, byte_shown, listed, size_to, size_shown}
use Rattle.write_back.proofs.EndAndBytes.{newest-is, end-none, shown-length}
use Rattle.std.proofs.lemmas.List.{get_or_append_left, get_or_push}
use Rattle.file_ops.proofs.Overlays.{shown-at, byte-shown}
use Rattle.write_back.specs.Waits.{IsClear, byte_pending}

length-listed : (f : ℕ → ℕ) (n : ℕ) → length (listed f n) ≡ n
length-listed f zero = refl
length-listed f (suc n) = omega (arith, length-append (listed f n) (f n ∷ []), length-listed f n)

-- the byte at each place of a list of bytes by place
listed-at : (f : ℕ → ℕ) (n i : ℕ) → i < n → slice_index (listed f n) i ≡ f i
listed-at f zero i low = absurd (omega (low, arith))
listed-at f (suc n) i low = elim (cases_lt i n) [
  | inl lt ↦ get_or_append_left (listed f n) (f n ∷ []) 0 i (omega (arith, lt, length-listed f n)) ∙ listed-at f n i lt
  | inr le ↦
      let e : i ≡ n = omega (arith, low, le) in
      rw e (get_or_push (listed f n) (f n) 0 n (length-listed f n))
]

some-is : (a b : ℕ) → Some a ≡ Some b → a ≡ b
some-is a b e = cc

or-has : (bytes : List ℕ) (k v : ℕ) → byte_or bytes k 0 ≡ v → HasOr bytes k v
or-has bytes k v is = by (slice_get bytes k) refl
  where
    by : (o : Option ℕ) → slice_get bytes k ≡ o → HasOr bytes k v
    by None e = inr (sym (ap (λ o. unwrap_or o 0) (sym e) ∙ is), e)
    by (Some b) e = inl (e ∙ ap Some (ap (λ o. unwrap_or o 0) (sym e) ∙ is))

-- what a read shows at a place: what is pending now, or was then, or the server's
pub data IsOver (file : List ℕ) (then_ now : Pending) (base : List ℕ) (k place v : ℕ) : Type 0 where
  pending_now : newest_at (of_file file now).segments place ≡ Some v → IsOver file then_ now base k place v
  pending_then : newest_at (of_file file then_).segments place ≡ Some v → IsOver file then_ now base k place v
  below : newest_at (of_file file then_).segments place ≡ None → newest_at (of_file file now).segments place ≡ None → HasOr base k v → IsOver file then_ now base k place v

module _ (file : List ℕ) (offset count : ℕ) (base : List ℕ) (then_ now : Pending) where
  under : (k v : ℕ) → k < count → newest_at (of_file file now).segments (offset + k) ≡ None → byte_shown base (was_pending file offset count then_) k ≡ v → IsOver file then_ now base k (offset + k) v
  under k v low none is = by (newest_at (of_file file then_).segments (offset + k)) refl (sym (byte-shown file offset count then_ base k low) ∙ is)
    where
      by : (o : Option ℕ) → newest_at (of_file file then_).segments (offset + k) ≡ o → unwrap_or (newest_at (of_file file then_).segments (offset + k)) (byte_or base k 0) ≡ v
          → IsOver file then_ now base k (offset + k) v
      by None e j = below e none (or-has base k v (ap (λ o. unwrap_or o (byte_or base k 0)) (sym e) ∙ j))
      by (Some b) e j = pending_then (e ∙ ap Some (ap (λ o. unwrap_or o (byte_or base k 0)) (sym e) ∙ j))

  over : (size k v : ℕ) → size ≤ count → slice_get (shown (of_file file now).segments offset (listed (byte_shown base (was_pending file offset count then_)) size)) k ≡ Some v
      → IsOver file then_ now base k (offset + k) v
  over size k v fits is = by (slice_get list k) refl (sym (shown-at (of_file file now).segments offset list k) ∙ is)
    where
      list : List ℕ
      list = listed (byte_shown base (was_pending file offset count then_)) size

      top : (b : ℕ) → byte_shown base (was_pending file offset count then_) k ≡ b → k < count → (o : Option ℕ) → newest_at (of_file file now).segments (offset + k) ≡ o
          → unwrap_or o b ≡ v → IsOver file then_ now base k (offset + k) v
      top b at low None e j = under k v low e (at ∙ j)
      top b at low (Some c) e j = pending_now (e ∙ ap Some j)

      by : (o : Option ℕ) → slice_get list k ≡ o → option_map (λ b. unwrap_or (newest_at (of_file file now).segments (offset + k)) b) o ≡ Some v
          → IsOver file then_ now base k (offset + k) v
      by None e j = absurd (let no_way : None ≡ Some v = j in cc)
      by (Some b) e j =
          let within = slice_get_within list k b e in
          let long = length-listed (byte_shown base (was_pending file offset count then_)) size in
          let low : k < size = omega (arith, within, long) in
          let at : b ≡ byte_shown base (was_pending file offset count then_) k =
          some-is b _ (sym e ∙ slice_get-get_or list k 0 within) ∙ listed-at (byte_shown base (was_pending file offset count then_)) size k low in
          top b (sym at) (omega (arith, low, fits)) (newest_at (of_file file now).segments (offset + k)) refl (some-is _ v j)

  pub over-all : (k v : ℕ) → slice_get (shown_over file offset count base (was_pending file offset count then_) now) k ≡ Some v → IsOver file then_ now base k (offset + k) v
  over-all k v is = over size k v (omega arith) is
    where
      size : ℕ
      size = size_shown offset count base (was_pending file offset count then_).end (last_end (of_file file now).segments)

  -- how long it is: as long as was asked for, or no shorter than the server's bytes
  pub over-long : (length (shown_over file offset count base (was_pending file offset count then_) now) ≡ count)
      ⊎ (length base ≤ length (shown_over file offset count base (was_pending file offset count then_) now))
  over-long = by (cases_lt size count)
    where
      size : ℕ
      size = size_shown offset count base (was_pending file offset count then_).end (last_end (of_file file now).segments)

      long : length (shown_over file offset count base (was_pending file offset count then_) now) ≡ size
      long = shown-length (of_file file now).segments offset (listed (byte_shown base (was_pending file offset count then_)) size)
          ∙ length-listed (byte_shown base (was_pending file offset count then_)) size

      by : (size < count) ⊎ (count ≤ size) → (length (shown_over file offset count base (was_pending file offset count then_) now) ≡ count)
          ⊎ (length base ≤ length (shown_over file offset count base (was_pending file offset count then_) now))
      by (inl less) = inr (omega (arith, long, less))
      by (inr most) = inl (omega (arith, long, most))

  -- and no longer than was asked for
  pub over-most : length (shown_over file offset count base (was_pending file offset count then_) now) ≤ count
  over-most =
      let long = shown-length (of_file file now).segments offset
      (listed (byte_shown base (was_pending file offset count then_)) (size_shown offset count base (was_pending file offset count then_).end (last_end (of_file file now).segments)))
      ∙ length-listed (byte_shown base (was_pending file offset count then_)) (size_shown offset count base (was_pending file offset count then_).end (last_end (of_file file now).segments)) in
      omega (arith, long)

  -- a byte past the server's is before the end of what is pending, or was
  pub over-past : (k : ℕ) → k < length (shown_over file offset count base (was_pending file offset count then_) now) → length base ≤ k
      → ((e : ℕ) × (last_end (of_file file then_).segments ≡ Some e) × (offset + k < e)) ⊎ ((e : ℕ) × (last_end (of_file file now).segments ≡ Some e) × (offset + k < e))
  over-past k low past = by (cases_lt k (size_to offset (last_end (of_file file then_).segments)))
    where
      long : length (shown_over file offset count base (was_pending file offset count then_) now)
          ≡ size_shown offset count base (was_pending file offset count then_).end (last_end (of_file file now).segments)
      long = shown-length (of_file file now).segments offset
          (listed (byte_shown base (was_pending file offset count then_)) (size_shown offset count base (was_pending file offset count then_).end (last_end (of_file file now).segments)))
          ∙ length-listed (byte_shown base (was_pending file offset count then_)) (size_shown offset count base (was_pending file offset count then_).end (last_end (of_file file now).segments))

      some : (o : Option ℕ) → k < size_to offset o → (e : ℕ) × (o ≡ Some e) × (offset + k < e)
      some None lt = absurd (omega (arith, lt))
      some (Some e) lt = (e, refl, omega (arith, lt))

      by : (k < size_to offset (last_end (of_file file then_).segments)) ⊎ (size_to offset (last_end (of_file file then_).segments) ≤ k)
          → ((e : ℕ) × (last_end (of_file file then_).segments ≡ Some e) × (offset + k < e)) ⊎ ((e : ℕ) × (last_end (of_file file now).segments ≡ Some e) × (offset + k < e))
      by (inl lt) = inl (some (last_end (of_file file then_).segments) lt)
      by (inr ge) = inr (some (last_end (of_file file now).segments) (omega (arith, ge, past, low, long)))

  -- ---- what is pending is shown

  module _ (sound_then : IsSound (of_file file then_)) (sound_now : IsSound (of_file file now)) where
    clear-newest : (of : FilePending) (place : ℕ) → IsSound of → IsClear of place → newest_at of.segments place ≡ None
    clear-newest of place sound clear = newest-is of place sound ∙ (λ i. byte_pending (clear.rest i) (clear.fly i))

    -- it is before the end of what is pending
    some-before : (of : FilePending) (k v : ℕ) → IsSound of → newest_at of.segments (offset + k) ≡ Some v → (o : Option ℕ) → last_end of.segments ≡ o → k < size_to offset o
    some-before of k v sound is None e = absurd (let no_way : None ≡ Some v = sym (clear-newest of (offset + k) sound (end-none of (offset + k) sound e)) ∙ is in cc)
    some-before of k v sound is (Some q) e = by (cases_lt (offset + k) q)
      where
        by : (offset + k < q) ⊎ (q ≤ offset + k) → k < size_to offset (Some q)
        by (inl less) = omega (arith, less)
        by (inr most) = absurd (let no_way : None ≡ Some v = sym (clear-newest of (offset + k) sound ((end-some of q sound e).past (offset + k) most)) ∙ is in cc)

    abbrev size : ℕ
    size = size_shown offset count base (was_pending file offset count then_).end (last_end (of_file file now).segments)

    abbrev list : List ℕ
    list = listed (byte_shown base (was_pending file offset count then_)) size

    at-place : (k : ℕ) → k < size
        → slice_get (shown_over file offset count base (was_pending file offset count then_) now) k
        ≡ Some (unwrap_or (newest_at (of_file file now).segments (offset + k)) (byte_shown base (was_pending file offset count then_) k))
    at-place k low =
        let long = length-listed (byte_shown base (was_pending file offset count then_)) size in
        shown-at (of_file file now).segments offset list k
        ∙ ap (option_map (λ b. unwrap_or (newest_at (of_file file now).segments (offset + k)) b))
        (slice_get-get_or list k 0 (omega (arith, long, low)) ∙ ap Some (listed-at (byte_shown base (was_pending file offset count then_)) size k low))

    pub over-now : (k v : ℕ) → k < count → newest_at (of_file file now).segments (offset + k) ≡ Some v → slice_get (shown_over file offset count base (was_pending file offset count then_) now) k ≡ Some v
    over-now k v low is =
        let end = some-before (of_file file now) k v sound_now is (last_end (of_file file now).segments) refl in
        at-place k (omega (arith, low, end)) ∙ ap (λ (o : Option ℕ). Some (unwrap_or o (byte_shown base (was_pending file offset count then_) k))) is

    pub over-then : (k v : ℕ) → k < count → newest_at (of_file file now).segments (offset + k) ≡ None → newest_at (of_file file then_).segments (offset + k) ≡ Some v
        → slice_get (shown_over file offset count base (was_pending file offset count then_) now) k ≡ Some v
    over-then k v low none is =
        let end = some-before (of_file file then_) k v sound_then is (last_end (of_file file then_).segments) refl in
        at-place k (omega (arith, low, end)) ∙ ap (λ (o : Option ℕ). Some (unwrap_or o (byte_shown base (was_pending file offset count then_) k))) none
        ∙ ap Some (byte-shown file offset count then_ base k low ∙ ap (λ (o : Option ℕ). unwrap_or o (byte_or base k 0)) is)
