use Rattle.session_setup.proofs.Sizing.{sizes_fit}
use Rattle.session_setup.proofs.sizes.sizes_by.Goals as goal

pub returns-clause-fits : goal.returns-clause-fits
returns-clause-fits c =
    let r = c.requires in
    sizes_fit c.args.rsize c.args.wsize c.match-named.greatest.rtmax c.match-named.greatest.wtmax c.lesser.result c.in_pages.result c.lesser-2.result r.read r.most_read r.write r.most_write c.lesser.ensures c.in_pages.ensures
    c.lesser-2.ensures
