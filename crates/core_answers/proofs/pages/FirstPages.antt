-- A page that is kept is found at its place.
use Rattle.core_answers.proofs.Prelude.{◌≡◌, ℕ, Bool, true, false, List, Some, refl, sym, ap, ◌∙◌, Pages, page_of}
use Rattle.std.proofs.Common.{◌==◌, ◌&&◌, nat_eq, slice_get}
use Rattle.std.specs.Cmp.{IsEquivalence}
use Rattle.std.specs.Cmp.Lexicographic.{pointwise}
use Rattle.std.specs.List.{IsDistinct}
use Rattle.std.specs.Map.{keys_of}
use Rattle.std.proofs.lemmas.Cmp.{nat_eq_equiv, nat_list_eq_equiv}
use Rattle.std.proofs.lemmas.Map.Entries.{lookup_from_place}
use Rattle.page_cache.specs.declared.place.PagePlace.{PagePlace}
use Rattle.page_cache.specs.Sound.{same_place}

same-equivalence : IsEquivalence same_place
same-equivalence = record {
  refl = λ p. ap (λ (b : Bool). b && pointwise nat_eq p.file p.file) (nat_eq_equiv.refl p.index) ∙ nat_list_eq_equiv.refl p.file;
  symm = λ p q. ap (λ (b : Bool). b && pointwise nat_eq q.file p.file) (nat_eq_equiv.symm q.index p.index) ∙ ap (λ (b : Bool). (p.index == q.index) && b) (nat_list_eq_equiv.symm q.file p.file);
  congr = λ p q r e. congruent p q r (q.index == p.index) refl (pointwise nat_eq q.file p.file) refl e;
}
  where
    congruent : (p q r : PagePlace) (a : Bool) → (q.index == p.index) ≡ a → (b : Bool) → pointwise nat_eq q.file p.file ≡ b → (a && b) ≡ true → same_place p r ≡ same_place q r
    congruent p q r true i true f e =
        ap (λ (b : Bool). b && pointwise nat_eq r.file p.file) (nat_eq_equiv.symm r.index p.index ∙ sym (nat_eq_equiv.congr q.index p.index r.index i) ∙ nat_eq_equiv.symm q.index r.index)
        ∙ ap (λ (b : Bool). (r.index == q.index) && b)
        (nat_list_eq_equiv.symm r.file p.file ∙ sym (nat_list_eq_equiv.congr q.file p.file r.file f) ∙ nat_list_eq_equiv.symm q.file r.file)
    congruent p q r true i false f e = absurd cc
    congruent p q r false i b f e = absurd cc

pub found-at : (c : Pages) → IsDistinct same_place (keys_of c.pages) → (k : ℕ) (p : PagePlace × List ℕ) → slice_get c.pages k ≡ Some p → page_of p.0.file p.0.index c ≡ Some p.1
found-at c apart k p here = lookup_from_place same-equivalence c.pages k p.0 p.1 apart here
