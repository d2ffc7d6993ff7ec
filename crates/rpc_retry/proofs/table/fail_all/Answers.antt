use Rattle.std.proofs.Common.{ap, ◌∙◌}
use Rattle.indexmap.specs.IndexMap.{set_value_at}
use Rattle.rpc_retry.proofs.Failing.{fail_more}
use Rattle.rpc_retry.proofs.table.fail_all.Goals as goal

pub loop-at-preserved : goal.loop-at-preserved
loop-at-preserved g c =
    ap (set_value_at c.loop-at.calls.entries c.loop-at.at) c.fail.ensures ∙ fail_more c.args.again c.args.calls.now.entries c.loop-at.calls.entries c.loop-at.at c.index_mut.result.now c.loop-at.invariant c.index_mut.ensures.value
