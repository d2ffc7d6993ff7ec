-- What an open that is put, or one that is closed, leaves at each place: for callers.
use Rattle.std.proofs.Common.{◌≡◌, ◌≢◌, ℕ, Bool, true, false, cond, Some, None, refl, ap, ◌∙◌}
use Rattle.std.specs.Ordering.{eq_by_cmp}
use Rattle.std.specs.FinMap as map
use Rattle.open_files.specs.declared.opened.Opened.{Opened}
use Rattle.open_files.specs.Slots.{Place, Opens, place_cmp}
use Rattle.open_files.proofs.Places.{place_cmp-total, own_place, other_place}

pub get-put_same : (opens : Opens) (place : Place) (of : Opened) → map.get (map.insert opens place of) place ≡ Some of
get-put_same opens place of = map.get-insert place_cmp-total opens place of place ∙ ap (λ b. cond b (Some of) (map.get opens place)) (own_place place place refl)

pub get-put_other : (opens : Opens) (place q : Place) (of : Opened) → q ≢ place → map.get (map.insert opens place of) q ≡ map.get opens q
get-put_other opens place q of differs = map.get-insert place_cmp-total opens place of q ∙ ap (λ b. cond b (Some of) (map.get opens q)) (other_place q place differs)

pub get-close_same : (opens : Opens) (place : Place) → map.get (map.remove opens place) place ≡ None
get-close_same opens place = map.get-remove place_cmp-total opens place place ∙ ap (λ b. cond b None (map.get opens place)) (own_place place place refl)

pub get-close_other : (opens : Opens) (place q : Place) → q ≢ place → map.get (map.remove opens place) q ≡ map.get opens q
get-close_other opens place q differs = map.get-remove place_cmp-total opens place q ∙ ap (λ b. cond b None (map.get opens q)) (other_place q place differs)
