use Rattle.page_store.proofs.LabelLemmas.{is-labelled}
use Rattle.page_store.proofs.label.read_label.Goals as goal

pub returns-in-Ok-clause-labelled : goal.returns-in-Ok-clause-labelled
returns-in-Ok-clause-labelled g c = λ tells.
    is-labelled (g.D.Disk.seen c.args.disk.now) c.args.slots c.in-Ok.page c.as_label.result (c.in-Ok.ensures.shown tells) c.as_label.ensures.some c.as_label.ensures.none
