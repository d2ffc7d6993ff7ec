use Rattle.std.proofs.Common.{sym}
use Rattle.kept_pages.proofs.filling.offer_slot.Goals as goal

pub returns-in-Some-clause-pages : goal.returns-in-Some-clause-pages
returns-in-Some-clause-pages g c = λ all. c.offer.ensures.pages c.args.store.now.pages c.args.slot (sym c.in-Some.ensures) all
