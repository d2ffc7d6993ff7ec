use Rattle.std.proofs.Common.{◌∙◌, ap, Some, Option}
use Rattle.std.proofs.lemmas.Result.{on_ok_weaker}
use Rattle.page_store.specs.Pages.{StoredPage}
use Rattle.page_store.proofs.RoundLemmas.{beside-outside, outside-itself}
use Rattle.page_store.proofs.rounds.shut_one.Goals as goal

pub returns-in-Some-clause-outside : goal.returns-in-Some-clause-outside
returns-in-Some-clause-outside g c = λ tells n low s round there i left.
    beside-outside n c.args.slot round c.in-Some.field-0 (there ∙ ap (λ (entry : Option (Option StoredPage)). Some entry) c.in-Some.is) (g.D.Disk.may_leave c.args.disk.now) i
    (c.shut_gate.ensures.beside tells n low s i left)

pub returns-in-Some-clause-reads : goal.returns-in-Some-clause-reads
returns-in-Some-clause-reads g c = λ tells. on_ok_weaker c.shut_gate.result (λ r k opens. let h = r k opens in (h.0, λ page is same. h.1 same)) (c.shut_gate.ensures.reads tells)

pub returns-in-None-clause-outside : goal.returns-in-None-clause-outside
returns-in-None-clause-outside g c = λ tells n low s round there. outside-itself n round (g.D.Disk.may_leave c.args.disk.now)
