use Rattle.std.proofs.Common.{ℕ, List, [], length, Option, None, ap, ◌∙◌}
use Rattle.std.proofs.lemmas.List.{length-replicate}
use Rattle.page_cache.specs.declared.place.PagePlace.{PagePlace}
use Rattle.page_cache.proofs.Fresh.{sound-free, nothing-shown}
use Rattle.page_cache.proofs.slots.Slots.new.Goals as goal

pub invariant_of-result : goal.invariant_of-result
invariant_of-result c = rw (c.in_ok-new.ensures, length-replicate {A = Option PagePlace} c.args.room None) ((sound-free c.args.room c.in_ok-all_slots.field-0.entries c.in_ok-for_pages.field-0 c.in_ok-all_slots.ensures (ap length c.in_ok-for_pages.ensures ∙ length-replicate {A = List ℕ} c.args.room [])), c.requires.least)

pub returns : goal.returns
returns c = rw (c.in_ok-new.ensures, length-replicate {A = Option PagePlace} c.args.room None)
    (ap (λ pages. record { room = c.args.room; pages = pages }) (nothing-shown c.args.room c.in_ok-all_slots.field-0.entries c.in_ok-for_pages.field-0 c.in_ok-all_slots.ensures))
