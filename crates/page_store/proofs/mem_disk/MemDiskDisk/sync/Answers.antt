use Rattle.std.proofs.Common.{List, ◌∷◌, ◌∙◌, ap}
use Rattle.page_store.specs.declared.mem_disk.DiskCall.{DiskCall}
use Rattle.page_store.specs.declared.mem_disk.DiskCall.TheVariants.{Synced}
use Rattle.page_store.specs.MemDisk.{MemView}
use Rattle.page_store.proofs.Written.{sync-only, sync-fewer}
use Rattle.page_store.proofs.mem_disk.MemDiskDisk.sync.Goals as goal

pub returns-clause-durable : goal.returns-clause-durable
returns-clause-durable c = λ tells i left.
    sync-only c.args.self.now.calls _ (c.in-Ok.ensures.ok ∙ ap (λ (cs : List DiskCall). Synced ∷ cs) (ap (λ (v : MemView). v.calls) c.self.view_is)) i left

pub returns-clause-crash : goal.returns-clause-crash
returns-clause-crash c = λ tells i left.
    sync-fewer c.args.self.now.calls _ (c.in-Ok.ensures.ok ∙ ap (λ (cs : List DiskCall). Synced ∷ cs) (ap (λ (v : MemView). v.calls) c.self.view_is)) i left
