-- A record that has no more bytes than it may have, where nothing else happens.
use Rattle.std.proofs.Common.{◌≤◌, length, arith}
use Rattle.std.proofs.lemmas.Grind.{common_steps}
use Rattle.trace_lawful.proofs.Deciding.{ok-iff, so, delivered-so}
use Rattle.trace_lawful.proofs.lawful.is_delivered.Goals as goal

pub returns : goal.returns
returns c =
    let is = rw c.as_slice.ensures.value at c.is_replied.ensures in
    let most : length c.args.rec.now ≤ 131072 = grind (arith, common_steps) in
    ok-iff c.is_replied.result _ _ (delivered-so c.args.trace.now c.args.entry c.args.rec.now most (so _ _ c.changes_nothing.ensures (grind (arith, common_steps)))) is
