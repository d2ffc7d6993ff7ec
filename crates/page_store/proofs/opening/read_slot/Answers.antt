use Rattle.std.proofs.Common.{ℕ, List, ◌≡◌, ◌+◌, ◌*◌, ap, ◌∙◌, length}
use Rattle.std.specs.Prelude.{Option}
use Rattle.std.proofs.lemmas.List.{length-replicate}
use Rattle.std.proofs.lemmas.Result.{IfOk-weaker}
use Rattle.page_store.specs.Disk.{byte_at}
use Rattle.page_store.specs.Pages.{StoredPage, page_of}
use Rattle.page_store.specs.Store.{IsShown}
use Rattle.page_store.proofs.Gates.{read-zeros}
use Rattle.page_store.proofs.PageLemmas.{is-body, shown-by}
use Rattle.page_store.proofs.opening.read_slot.Goals as goal

pub returns-in-Ok-clause-shown : goal.returns-in-Ok-clause-shown
returns-in-Ok-clause-shown g c = λ tells.
    let on = c.reads_open.ensures.goes_on tells in
    let image = g.D.Disk.seen c.args.disk.now in
    let buf = c.read.new.buf in
    let at = 4224 * c.args.slot + 4 in
    let read = read-zeros (g.D.Disk.seen c.reads_open.new.disk) at 4220 buf c.in-Ok.field-0 (c.in-Ok.ensures.gives on) in
    let long : length buf ≡ 4220 = c.read.ensures.len ∙ length-replicate {A = ℕ} 4220 0 in
    let same = is-body image buf c.args.slot long
    (λ i low. read i low ∙ ap (λ (seen : List ℕ). byte_at seen (at + i)) (c.reads_open.ensures.seen tells)) in
    let opens = (c.in-Ok-true.ensures.gate tells).0 c.in-Ok-true.field-0-test in
    IfOk-weaker c.stored_in.result (λ (page : Option StoredPage). page ≡ page_of buf) (IsShown image c.args.slot)
    (λ page is. shown-by image buf c.args.slot page opens same is) c.stored_in.ensures.page
