-- A short answer of a read ends where nothing is pending any more.
use Rattle.core_session.proofs.Prelude.{◌≡◌, ◌<◌, ◌≤◌, ◌+◌, inl, inr, ℕ, zero, suc, List, [], ◌∷◌, length, length-append, Option, Some, None, refl, ◌∙◌, arith, cases_lt, Pending, of_file, FilePending, newest_at, last_end, IsSound, end-some, shown_over, was_pending}
use Rattle.write_back.proofs.EndAndBytes.{newest-is, end-none, shown-length}
use Rattle.file_ops.specs.Overlaid.{byte_shown, listed, size_to, size_shown}
use Rattle.write_back.specs.Waits.{IsClear, byte_pending}

length-listed : (f : ℕ → ℕ) (n : ℕ) → length (listed f n) ≡ n
length-listed f zero = refl
length-listed f (suc n) = omega (arith, length-append (listed f n) (f n ∷ []), length-listed f n)

clear-newest : (of : FilePending) (place : ℕ) → IsSound of → IsClear of place → newest_at of.segments place ≡ None
clear-newest of place sound clear = newest-is of place sound ∙ (λ i. byte_pending (clear.rest i) (clear.fly i))

-- no byte is pending from the end of those on
none-past : (of : FilePending) → IsSound of → (offset n place : ℕ) → size_to offset (last_end of.segments) ≤ n → offset + n ≤ place → newest_at of.segments place ≡ None
none-past of sound offset n place less past = by (last_end of.segments) refl less
  where
    by : (o : Option ℕ) → last_end of.segments ≡ o → size_to offset o ≤ n → newest_at of.segments place ≡ None
    by None e le = clear-newest of place sound (end-none of place sound e)
    by (Some q) e le = elim (cases_lt place q) [
      | inr most ↦ clear-newest of place sound ((end-some of q sound e).past place most)
      | inl lt ↦ absurd (omega (arith, le, past, lt))
    ]

module _ (file : List ℕ) (offset count : ℕ) (base : List ℕ) (then_ now : Pending) where
  abbrev answer : List ℕ
  answer = shown_over file offset count base (was_pending file offset count then_) now

  long : length answer ≡ size_shown offset count base (was_pending file offset count then_).end (last_end (of_file file now).segments)
  long =
      shown-length (of_file file now).segments offset
      (listed (byte_shown base (was_pending file offset count then_)) (size_shown offset count base (was_pending file offset count then_).end (last_end (of_file file now).segments)))
      ∙ length-listed (byte_shown base (was_pending file offset count then_)) (size_shown offset count base (was_pending file offset count then_).end (last_end (of_file file now).segments))

  pub beyond-now : IsSound (of_file file now) → length answer < count → (place : ℕ) → offset + length answer ≤ place → newest_at (of_file file now).segments place ≡ None
  beyond-now sound short place past = none-past (of_file file now) sound offset (length answer) place (let all = long in omega (arith, all, short)) past

  pub beyond-then : IsSound (of_file file then_) → length answer < count → (place : ℕ) → offset + length answer ≤ place → newest_at (of_file file then_).segments place ≡ None
  beyond-then sound short place past = none-past (of_file file then_) sound offset (length answer) place (let all = long in omega (arith, all, short)) past
