use Rattle.std.proofs.Common.{◌∙◌, ap, sym, subst}
use Rattle.page_cache.specs.Pages.{Pages}
use Rattle.page_cache.proofs.Room.{room-kept}
use Rattle.kept_pages.specs.Comes.{ArePages}
use Rattle.kept_pages.proofs.Offers.{keeps}
use Rattle.kept_pages.proofs.filling.keep.Goals as goal

pub returns-clause-pages : goal.returns-clause-pages
returns-clause-pages c = λ slots told all.
    subst (λ (p : Pages). ArePages slots p) (sym c.keep.ensures.after)
    (keeps slots c.args.page.now.file c.args.page.now.stamp 1 c.args.page.now.index c.args.page.now.bytes.now c.args.cache.now c.keep.result c.keep.ensures.answer c.is_sound.ensures.known told all)

pub returns-clause-room : goal.returns-clause-room
returns-clause-room c = ap (λ (p : Pages). p.room) c.keep.ensures.after
    ∙ room-kept c.keep.result c.args.page.now.stamp (record { file = c.args.page.now.file; index = c.args.page.now.index }) c.args.page.now.bytes.now c.args.cache.now
