use Rattle.std.proofs.Common.{◌∙◌, ap, length}
use Rattle.page_store.specs.MemDisk.{MemView}
use Rattle.page_store.proofs.Written.{write-holds-at, write-crash-at, stay-crash}
use Rattle.page_store.proofs.mem_disk.MemDiskDisk.write.Goals as goal

pub returns-clause-written : goal.returns-clause-written
returns-clause-written c = λ tells. write-holds-at _ _ _ _ _ _ c.in-Ok.ensures.ok _ (ap (λ (v : MemView). v.calls) c.self.view_is)

pub returns-clause-crash : goal.returns-clause-crash
returns-clause-crash c = λ tells. write-crash-at _ _ _ _ _ _ c.in-Ok.ensures.ok _ (ap (λ (v : MemView). v.calls) c.self.view_is)

pub returns-then-count_call-clause-crash : goal.returns-then-count_call-clause-crash
returns-then-count_call-clause-crash c = λ tells. stay-crash c.args.at (length c.args.bytes.now) c.args.self.now.calls _ (ap (λ (v : MemView). v.calls) c.self.view_is)

pub returns-in-Err-clause-crash : goal.returns-in-Err-clause-crash
returns-in-Err-clause-crash c = λ tells.
    stay-crash c.args.at (length c.args.bytes.now) c.args.self.now.calls _ (c.in-Err.ensures.err.1 ∙ ap (λ (v : MemView). v.calls) c.self.view_is)
