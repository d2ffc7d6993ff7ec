use Rattle.std.proofs.Common.{ℕ, List, ◌++◌, ◌∙◌, ap}
use Rattle.std.proofs.lemmas.Result.{on_ok_weaker}
use Rattle.page_store.proofs.Bodies.{take_replicate}
use Rattle.page_store.proofs.record.zeros_into.Goals as goal

pub returns : goal.returns
returns c = on_ok_weaker c.raw.result (λ e. e ∙ ap (λ (b : List ℕ). c.args.w.now ++ b) (take_replicate c.args.count 4096 c.requires)) c.raw.ensures.ok
