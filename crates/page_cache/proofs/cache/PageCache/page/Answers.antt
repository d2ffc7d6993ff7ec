use Rattle.page_cache.specs.Pages.{is_place}
use Rattle.page_cache.specs.Full.{states_of, full_below_of}
use Rattle.page_cache.proofs.Bounds.{full-promoted}
use Rattle.page_cache.proofs.Entries.{All-promoted}
use Rattle.page_cache.proofs.Known.{Known}
use Rattle.page_cache.proofs.cache.PageCache.page.Goals as goal

pub invariant_of-self : goal.invariant_of-self
invariant_of-self c = rw c.show.follows.holds-at-none (
  full-promoted (full_below_of c.self.inside.files) (is_place c.args.file.now c.args.index) c.self.inside.slots.pages c.self.invariant.0,
  All-promoted (Known (states_of c.self.inside.files)) (is_place c.args.file.now c.args.index) c.self.inside.slots.pages c.self.invariant.1,
)
