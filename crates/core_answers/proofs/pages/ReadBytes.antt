-- Bytes by their places: in a part of a list, in two lists that are joined, and in what a read shows.
use Rattle.core_answers.proofs.Prelude.{◌≡◌, ◌<◌, ◌≤◌, ◌+◌, ◌⊎◌, inl, inr, ℕ, zero, suc, List, [], ◌∷◌, ◌++◌, length, take, drop, slice_get, Option, Some, None, option_map, refl, sym, ap, ◌∙◌, arith, cases_lt, Pending, of_file, last_end}
use Rattle.std.proofs.Common.{length-append, slice_index, unwrap_or}
use Rattle.write_back.specs.Segments.{newest_at, shown}
use Rattle.std.proofs.lemmas.List.{get_or_append_left, get_or_push}
use Rattle.std.proofs.lemmas.Option.{slice_get_within, slice_get-get_or}
use Rattle.file_ops.specs.Overlaid.{byte_or, byte_shown, listed, shown_over, size_shown, was_pending}
use Rattle.file_ops.proofs.Overlays.{shown-at, byte-shown}

length-listed : (f : ℕ → ℕ) (n : ℕ) → length (listed f n) ≡ n
length-listed f zero = refl
length-listed f (suc n) = omega (arith, length-append (listed f n) (f n ∷ []), length-listed f n)

-- the byte at each place of a list of bytes by place
listed-at : (f : ℕ → ℕ) (n i : ℕ) → i < n → slice_index (listed f n) i ≡ f i
listed-at f zero i low = absurd (omega (low, arith))
listed-at f (suc n) i low = elim (cases_lt i n) [
  | inl lt ↦ get_or_append_left (listed f n) (f n ∷ []) 0 i (omega (arith, lt, length-listed f n)) ∙ listed-at f n i lt
  | inr le ↦
      let e : i ≡ n = omega (arith, low, le) in
      rw e (get_or_push (listed f n) (f n) 0 n (length-listed f n))
]

pub get-drop : (n : ℕ) (xs : List ℕ) (k : ℕ) → slice_get (drop n xs) k ≡ slice_get xs (n + k)
get-drop zero xs k = ap (slice_get xs) (omega arith)
get-drop (suc n) [] k = refl
get-drop (suc n) (x ∷ xs) k = let same : suc (n + k) ≡ suc n + k = omega arith in get-drop n xs k ∙ ap (slice_get (x ∷ xs)) same

pub get-taken : (n : ℕ) (xs : List ℕ) (k v : ℕ) → slice_get (take n xs) k ≡ Some v → slice_get xs k ≡ Some v
get-taken zero xs k v is = absurd (let no_way : None ≡ Some v = is in cc)
get-taken (suc n) [] k v is = is
get-taken (suc n) (x ∷ xs) zero v is = is
get-taken (suc n) (x ∷ xs) (suc k) v is = get-taken n xs k v is

-- in which of two lists that are joined
abbrev pub InPart : List ℕ → List ℕ → ℕ → ℕ → Type 0
InPart xs ys k v = (slice_get xs k ≡ Some v) ⊎ ((at : ℕ) × (k ≡ length xs + at) × (slice_get ys at ≡ Some v))

pub get-joined : (xs ys : List ℕ) (k v : ℕ) → slice_get (xs ++ ys) k ≡ Some v → InPart xs ys k v
get-joined [] ys k v is = inr (k, omega arith, is)
get-joined (x ∷ xs) ys zero v is = inl is
get-joined (x ∷ xs) ys (suc k) v is = further (get-joined xs ys k v is)
  where
    further : InPart xs ys k v → InPart (x ∷ xs) ys (suc k) v
    further (inl e) = inl e
    further (inr e) = let at = e.1 in inr (e.0, omega (arith, at), e.2)

some-is : (a b : ℕ) → Some a ≡ Some b → a ≡ b
some-is a b e = cc

-- the byte of a list at a place, or zero past its end
abbrev pub HasOr : List ℕ → ℕ → ℕ → Type 0
HasOr bytes k v = (slice_get bytes k ≡ Some v) ⊎ ((v ≡ 0) × (slice_get bytes k ≡ None))

or-has : (bytes : List ℕ) (k v : ℕ) → byte_or bytes k 0 ≡ v → HasOr bytes k v
or-has bytes k v is = by (slice_get bytes k) refl
  where
    by : (o : Option ℕ) → slice_get bytes k ≡ o → HasOr bytes k v
    by None e = inr (sym (ap (λ o. unwrap_or o 0) (sym e) ∙ is), e)
    by (Some b) e = inl (e ∙ ap Some (ap (λ o. unwrap_or o 0) (sym e) ∙ is))

-- what a read shows at a place: what is pending now, or was then, or the server's
pub data IsOver (file : List ℕ) (then_ now : Pending) (base : List ℕ) (k place v : ℕ) : Type 0 where
  pending_now : newest_at (of_file file now).segments place ≡ Some v → IsOver file then_ now base k place v
  pending_then : newest_at (of_file file then_).segments place ≡ Some v → IsOver file then_ now base k place v
  below : HasOr base k v → IsOver file then_ now base k place v

module _ (file : List ℕ) (offset count : ℕ) (base : List ℕ) (then_ now : Pending) where
  under : (k v : ℕ) → k < count → byte_shown base (was_pending file offset count then_) k ≡ v → IsOver file then_ now base k (offset + k) v
  under k v low is = by (newest_at (of_file file then_).segments (offset + k)) refl (sym (byte-shown file offset count then_ base k low) ∙ is)
    where
      by : (o : Option ℕ) → newest_at (of_file file then_).segments (offset + k) ≡ o → unwrap_or (newest_at (of_file file then_).segments (offset + k)) (byte_or base k 0) ≡ v
          → IsOver file then_ now base k (offset + k) v
      by None e j = below (or-has base k v (ap (λ o. unwrap_or o (byte_or base k 0)) (sym e) ∙ j))
      by (Some b) e j = pending_then (e ∙ ap Some (ap (λ o. unwrap_or o (byte_or base k 0)) (sym e) ∙ j))

  over : (size k v : ℕ) → size ≤ count → slice_get (shown (of_file file now).segments offset (listed (byte_shown base (was_pending file offset count then_)) size)) k ≡ Some v
      → IsOver file then_ now base k (offset + k) v
  over size k v fits is = by (slice_get list k) refl (sym (shown-at (of_file file now).segments offset list k) ∙ is)
    where
      list : List ℕ
      list = listed (byte_shown base (was_pending file offset count then_)) size

      top : (b : ℕ) → byte_shown base (was_pending file offset count then_) k ≡ b → k < count → (o : Option ℕ) → newest_at (of_file file now).segments (offset + k) ≡ o
          → unwrap_or o b ≡ v → IsOver file then_ now base k (offset + k) v
      top b at low None e j = under k v low (at ∙ j)
      top b at low (Some c) e j = pending_now (e ∙ ap Some j)

      by : (o : Option ℕ) → slice_get list k ≡ o → option_map (λ b. unwrap_or (newest_at (of_file file now).segments (offset + k)) b) o ≡ Some v
          → IsOver file then_ now base k (offset + k) v
      by None e j = absurd (let no_way : None ≡ Some v = j in cc)
      by (Some b) e j =
          let within = slice_get_within list k b e in
          let long = length-listed (byte_shown base (was_pending file offset count then_)) size in
          let low : k < size = omega (arith, within, long) in
          let at : b ≡ byte_shown base (was_pending file offset count then_) k =
          some-is b _ (sym e ∙ slice_get-get_or list k 0 within) ∙ listed-at (byte_shown base (was_pending file offset count then_)) size k low in
          top b (sym at) (omega (arith, low, fits)) (newest_at (of_file file now).segments (offset + k)) refl (some-is _ v j)

  pub over-all : (k v : ℕ) → slice_get (shown_over file offset count base (was_pending file offset count then_) now) k ≡ Some v → IsOver file then_ now base k (offset + k) v
  over-all k v is = over size k v (omega arith) is
    where
      size : ℕ
      size = size_shown offset count base (was_pending file offset count then_).end (last_end (of_file file now).segments)
