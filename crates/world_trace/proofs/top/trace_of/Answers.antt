-- The trace of the log.
use Rattle.std.proofs.Common.{◌≡◌, ◌≤◌, [], refl, arith}
use Rattle.world_trace.proofs.Leading.{all-told-by, nothing-shown}
use Rattle.world_trace.proofs.top.trace_of.Goals as goal

pub returns-clause-history : goal.returns-clause-history
returns-clause-history c =
    let first = c.in_ok-changed_objects.ensures [] (omega arith) (nothing-shown c.new-shown.result.items c.new-shown.ensures.items) in
    all-told-by c.args.log c.as_slice.result.now c.as_slice-2.result.now c.changed_objects.new.shown.items _ c.as_slice.ensures.value c.as_slice-2.ensures.value
    (c.in_ok-updates.ensures first.shows) c.verifier.ensures first c.in_ok-entries_of.ensures
