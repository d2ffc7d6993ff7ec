use Rattle.kept_pages.proofs.Offers.{opens, opens-room}
use Rattle.kept_pages.proofs.filling.learn.Goals as goal

pub returns-in-None-clause-pages : goal.returns-in-None-clause-pages
returns-in-None-clause-pages c = λ slots all.
    opens slots c.args.page.now.file c.args.page.now.stamp 0 c.args.cache.now c.opened.new.self c.opened.result c.opened.ensures.ok c.opened.ensures.err all

pub returns-in-None-clause-room : goal.returns-in-None-clause-room
returns-in-None-clause-room c = opens-room c.args.page.now.file c.args.page.now.stamp 0 c.args.cache.now c.opened.new.self c.opened.result c.opened.ensures.ok c.opened.ensures.err
