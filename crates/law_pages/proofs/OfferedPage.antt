-- The bytes that a READ gives of a page are that page of the file.
use Rattle.std.proofs.Common.{◌≡◌, ◌≤◌, ◌<◌, ◌+◌, ◌-◌, ◌⊎◌, inl, inr, ℕ, List, length, take, drop, min, get_or, sym, ap, ◌∙◌, arith}
use Rattle.std.proofs.lemmas.List.{length-take, length-drop, get_or-take, get_or-drop}
use Rattle.std.proofs.lemmas.Grind.{same_number_lists}

module _ (offset counted start : ℕ) (now : List ℕ) (before : offset ≤ start) where
  abbrev given : List ℕ
  given = take counted (drop offset now)

  abbrev bytes : List ℕ
  bytes = take 4096 (drop (start - offset) given)

  long : length bytes ≡ min 4096 (min counted (length now - offset) - (start - offset))
  long = omega (arith, length-take 4096 (drop (start - offset) given), length-drop (start - offset) given, length-take counted (drop offset now), length-drop offset now)

  long_page : length (take 4096 (drop start now)) ≡ min 4096 (length now - start)
  long_page = omega (arith, length-take 4096 (drop start now), length-drop start now)

  as_long : (length bytes ≡ 4096) ⊎ (length now ≤ offset + counted) → length bytes ≡ length (take 4096 (drop start now))
  as_long (inl full) = omega (arith, long, long_page, full, before)
  as_long (inr ends) = omega (arith, long, long_page, ends, before)

  at : (k : ℕ) → k < length bytes → get_or bytes k 0 ≡ get_or (take 4096 (drop start now)) k 0
  at k lt =
      get_or-take 4096 (drop (start - offset) given) k 0 (omega (arith, lt, long))
      ∙ get_or-drop (start - offset) given k 0
      ∙ get_or-take counted (drop offset now) (start - offset + k) 0 (omega (arith, lt, long))
      ∙ get_or-drop offset now (start - offset + k) 0
      ∙ ap (λ n. get_or now n 0) (omega (arith, before))
      ∙ sym (get_or-take 4096 (drop start now) k 0 (omega (arith, lt, long)) ∙ get_or-drop start now k 0)

  pub offered_bytes : (length bytes ≡ 4096) ⊎ (length now ≤ offset + counted) → bytes ≡ take 4096 (drop start now)
  offered_bytes whole = same_number_lists bytes (take 4096 (drop start now)) (as_long whole) at
