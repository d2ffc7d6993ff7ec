-- The records that wait for their turns, with their ends and without.
use Rattle.std.proofs.Common.{◌≡◌, ◌<◌, ℕ, zero, suc, List, [], ◌∷◌, length, map, drop, get_or, Some, slice_get, refl, sym, ap, subst, ◌∙◌, arith}
use Rattle.std.proofs.lemmas.List.{length-map, get_or-map, drop-map}
use Rattle.world_link.specs.declared.routed.Routed.{Routed}
use Rattle.world_link.specs.declared.waiting.Queued.{Queued}
use Rattle.world_link.specs.declared.waiting.Waiting.{Waiting}
use Rattle.world_link.specs.Ends.{record_in}
use Rattle.world_link.specs.Honest.{Every}
use Rattle.world_link.specs.Steps.{TurnsFirst}
use Rattle.world_link.specs.Turning.{turned}
use Rattle.world_link.specs.View.{WorldView, waiting_in}
use Rattle.world_link.proofs.EntriesKeepHonest.{every_rest}

pub some_waits : (items : List Queued) → 0 < length items → 0 < length (map waiting_in items)
some_waits items lt = omega (arith, lt, length-map items waiting_in)

pub first_waits : (items : List Queued) (q : Queued) → 0 < length items → q ≡ get_or items 0 q → q.waiting ≡ get_or (map waiting_in items) 0 q.waiting
first_waits items q lt is = ap waiting_in is ∙ sym (get_or-map waiting_in items 0 q q.waiting lt)

pub rest_waits : (items rest : List Queued) → rest ≡ drop 1 items → map waiting_in rest ≡ drop 1 (map waiting_in items)
rest_waits items rest is = ap (map waiting_in) is ∙ sym (drop-map waiting_in 1 items)

-- the record of the first one, with its end
pub first_record : (items : List Queued) (q : Queued) → 0 < length items → q ≡ get_or items 0 q → slice_get (map record_in items) 0 ≡ Some (record_in q)
first_record [] q lt is = absurd (omega (arith, lt))
first_record (x ∷ items) q lt is = ap (λ (z : Queued). Some (record_in z)) (sym is)

pub rest_records : (P : Routed → Type 0) (items rest : List Queued) → rest ≡ drop 1 items → Every P (map record_in items) → Every P (map record_in rest)
rest_records P items rest is e = subst (Every P) (drop-map record_in 1 items ∙ ap (map record_in) (sym is)) (every_rest P 1 (map record_in items) e)

-- the first one had its turn
pub turns_first : (old new : WorldView) (items : List Queued) (q : Queued) → old.waiting ≡ map waiting_in items → 0 < length items → q ≡ get_or items 0 q → new ≡ turned old q.waiting (map waiting_in (drop 1 items)) → TurnsFirst old new old.waiting
turns_first old new items q waits lt is e = subst (TurnsFirst old new) (sym waits) (by items lt is e)
  where
    by : (xs : List Queued) → 0 < length xs → q ≡ get_or xs 0 q → new ≡ turned old q.waiting (map waiting_in (drop 1 xs)) → TurnsFirst old new (map waiting_in xs)
    by [] lt is e = absurd (omega (arith, lt))
    by (x ∷ xs) lt is e = e ∙ ap (λ (z : Queued). turned old z.waiting (map waiting_in xs)) is

pub none_waits : (old new : WorldView) (items : List Queued) → old.waiting ≡ map waiting_in items → length items ≡ 0 → new ≡ old → TurnsFirst old new old.waiting
none_waits old new items waits none e = subst (TurnsFirst old new) (sym waits) (by items none)
  where
    by : (xs : List Queued) → length xs ≡ 0 → TurnsFirst old new (map waiting_in xs)
    by [] none = e
    by (x ∷ xs) none = absurd (omega (arith, none))

pub none_left : (items : List Queued) → length items ≡ 0 → map waiting_in items ≡ []
none_left [] is = refl
none_left (q ∷ items) is = absurd (omega (arith, is))
