use Rattle.std.proofs.Common.{◌∙◌}
use Rattle.kept_pages.proofs.filling.offer.Goals as goal

pub returns-clause-pages : goal.returns-clause-pages
returns-clause-pages c = λ slots k shown all. c.keep.ensures.pages slots ((k, shown), c.if-not-is_fit.ensures.fit) (c.learn.ensures.pages slots all)

pub returns-clause-room : goal.returns-clause-room
returns-clause-room c = c.keep.ensures.room ∙ c.learn.ensures.room

pub returns-in-Err-clause-pages : goal.returns-in-Err-clause-pages
returns-in-Err-clause-pages c = λ slots k shown all. c.learn.ensures.pages slots all
