use Rattle.std.proofs.Common.{◌≤◌, ◌∙◌, refl, sym, ap, subst}
use Rattle.std.specs.Option.{option_map_or}
use Rattle.page_cache.specs.Full.{states_of, full_below_of}
use Rattle.page_cache.proofs.Bounds.{full-kept}
use Rattle.page_cache.proofs.Known.{known-fronted}
use Rattle.page_cache.proofs.cache.PageCache.keep.Goals as goal

pub invariant_of-self : goal.invariant_of-self
invariant_of-self c = rw c.put_in_front.ensures (
  full-kept (full_below_of c.self.inside.files) (full_below_of c.learn.new.self) c.args.file.now c.full_with-full_below.result c.learn.ensures.bound c.self.inside.slots.room c.args.index c.args.bytes.now c.self.inside.slots.pages
      (subst (λ k. c.full_with-full_below.result ≤ k) (ap (λ o. option_map_or (λ r. r.full_below) o 0) (sym c.in-Some.is ∙ c.look_up.ensures.found)) c.full_with-full_below.ensures.bound)
      c.requires c.full_with-full_below.ensures.page c.self.invariant.0,
  known-fronted (states_of c.self.inside.files) (states_of c.learn.new.self) c.args.file.now _ c.learn.ensures.known c.args.stamp.now refl c.self.inside.slots.room c.args.index c.args.bytes.now c.self.inside.slots.pages c.self.invariant.1,
)
