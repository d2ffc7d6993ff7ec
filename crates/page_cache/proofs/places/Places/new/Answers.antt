use Rattle.std.proofs.Common.{◌≡◌, ℕ, zero, suc, ◌-◌, List, [], ◌++◌, length, take, replicate, Option, None, refl, ap, ◌∙◌, arith}
use Rattle.std.proofs.lemmas.List.{length-replicate}
use Rattle.page_cache.specs.declared.place.PagePlace.{PagePlace}
use Rattle.page_cache.proofs.SortedSlots.{sorted-none}
use Rattle.page_cache.proofs.places.Places.new.Goals as goal

nothing : (n : ℕ) → take {A = Option PagePlace} n [] ≡ []
nothing zero = refl
nothing (suc n) = refl

filled : (n m : ℕ) (old now : List (Option PagePlace)) → old ≡ [] → m ≡ 0 → now ≡ take n old ++ replicate (n - m) None → now ≡ replicate n None
filled n m old now none zero_long is =
    is ∙ ap (λ l. take n l ++ replicate (n - m) None) none ∙ ap (λ l. l ++ replicate (n - m) None) (nothing n) ∙ ap (λ k. replicate k None) (omega arith)

pub returns : goal.returns
returns c = filled c.args.count _ c.new-by_slot.result.items c.resize.new.self.items c.new-by_slot.ensures.items c.new-by_slot.ensures.len c.in_ok-resize.ensures.items

pub invariant_of-result : goal.invariant_of-result
invariant_of-result c =
    let none = filled c.args.count _ c.new-by_slot.result.items c.resize.new.self.items c.new-by_slot.ensures.items c.new-by_slot.ensures.len c.in_ok-resize.ensures.items in
    let long : length c.resize.new.self.items ≡ c.args.count = ap length none ∙ length-replicate c.args.count None in
    rw long (rw c.in_ok-with_capacity.ensures.items (sorted-none c.args.count c.resize.new.self.items none), omega (arith, c.in_ok-with_capacity.ensures.capacity), c.requires)
