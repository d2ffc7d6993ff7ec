-- How many entries there are after one moves, goes or comes.
use Rattle.std.proofs.Common.{◌≡◌, ◌+◌, Bool, true, false, List, [], ◌∷◌, ◌++◌, length, Option, Some, None, refl, ap, arith, length-append}
use Rattle.std.specs.Option.{option_map_or}
use Rattle.std.specs.Map.{lookup_entry, remove_entry}
use Rattle.lru.specs.LruCache.{promoted, demoted}

module _ {K V : Type 0} (test : K → Bool) where
  -- an entry that is found is removed
  pub length-remove_entry : (es : List (K × V)) (e : K × V) → lookup_entry test es ≡ Some e → length (remove_entry test es) + 1 ≡ length es
  length-remove_entry [] e found = cc
  length-remove_entry (f ∷ es) e found = (elim (test f.0) as (λ y. test f.0 ≡ y → length (remove_entry test (f ∷ es)) + 1 ≡ length (f ∷ es)) [
    | true ↦ λ t. rw t (omega arith)
    | false ↦ λ t. let below = length-remove_entry es e (rw t at found) in rw t (omega arith)
  ]) refl

  -- where none is found nothing is removed
  pub remove_entry-absent : (es : List (K × V)) → lookup_entry test es ≡ None → remove_entry test es ≡ es
  remove_entry-absent [] none = refl
  remove_entry-absent (f ∷ es) none = (elim (test f.0) as (λ y. test f.0 ≡ y → remove_entry test (f ∷ es) ≡ f ∷ es) [
    | true ↦ λ t. absurd (let h = rw t at none in cc)
    | false ↦ λ t. rw t (ap (λ l. f ∷ l) (remove_entry-absent es (rw t at none)))
  ]) refl

  pub length-promoted : (es : List (K × V)) → length (promoted test es) ≡ length es
  length-promoted es = by (lookup_entry test es) refl
    where
      by : (o : Option (K × V)) → lookup_entry test es ≡ o → length (option_map_or (λ e. e ∷ remove_entry test es) o es) ≡ length es
      by None found = refl
      by (Some e) found = omega (arith, length-remove_entry es e found)

  pub length-demoted : (es : List (K × V)) → length (demoted test es) ≡ length es
  length-demoted es = by (lookup_entry test es) refl
    where
      by : (o : Option (K × V)) → lookup_entry test es ≡ o → length (option_map_or (λ e. remove_entry test es ++ e ∷ []) o es) ≡ length es
      by None found = refl
      by (Some e) found = omega (arith, length-append (remove_entry test es) (e ∷ []), length-remove_entry es e found)
