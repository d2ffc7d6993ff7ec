use Rattle.std.proofs.Common.{sym, ap, ◌∙◌}
use Rattle.std.specs.Prelude.{slice_set}
use Rattle.write_back.proofs.Taking.{renumbered-none, renumbered-some}
use Rattle.write_back.proofs.Opening.{place-in}
use Rattle.write_back.proofs.in_flight.renumber.Goals as goal

pub returns-in-Some : goal.returns-in-Some
returns-in-Some c =
    ap (slice_set c.args.sent.now.items c.in-Some.at) c.renumber.ensures
    ∙ sym (renumbered-some c.args.xid c.args.to c.in-Some.at c.args.sent.now.items c.index_mut.result.now (place-in _ _ _ _ c.as_slice.ensures.value (sym c.in-Some.ensures)) c.index_mut.ensures.value)

pub returns-in_default : goal.returns-in_default
returns-in_default c = sym (renumbered-none c.args.xid c.args.to c.args.sent.now.items (place-in _ _ _ _ c.as_slice.ensures.value (sym c.in_default.ensures)))
