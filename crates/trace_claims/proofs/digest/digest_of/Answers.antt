-- Each part is the trace's.
use Rattle.std.proofs.Common.{refl, sym}
use Rattle.trace_claims.specs.Modes.{modes_of}
use Rattle.trace_claims.proofs.Changing.{foreign-all}
use Rattle.trace_claims.proofs.Gathering.{readings-all}
use Rattle.trace_claims.proofs.Leavings.{lefts-all}
use Rattle.trace_claims.proofs.digest.digest_of.Goals as goal

pub all_named-requires : goal.all_named-requires
all_named-requires c = rw c.as_slice.ensures.value c.in_ok-courses.ensures

pub returns : goal.returns
returns c origin is =
    let came = rw c.as_slice-entries.ensures.value at c.in_ok-came.ensures in
    let named = (rw c.as_slice-entries.ensures.value at c.in_ok-named.ensures) (modes_of c.args.trace.now) (sym c.goes_by_kept.ensures) in
    let operations = (rw c.as_slice-2.ensures.value at c.in_ok-operations.ensures) (modes_of c.args.trace.now) origin is named in
    let left = (rw (c.as_slice-entries.ensures.value, c.as_slice-3.ensures.value, c.as_slice-4.ensures.value, c.as_slice-5.ensures.value) at c.in_ok-left.ensures) (modes_of c.args.trace.now) c.args.trace.now.entries.items named refl in
    record {
      operations = operations;
      foreign = foreign-all c.args.trace.now c.in_ok-foreign.foreign.items c.in_ok-foreign.ensures;
      left = lefts-all (modes_of c.args.trace.now) origin c.args.trace.now.entries.items c.in_ok-operations.operations.items c.in_ok-came.came.items c.in_ok-left.left.items operations came left;
      came = came;
      readings = readings-all origin c.args.trace.now c.in_ok-operations.operations.items c.in_ok-readings.readings.items operations (rw c.as_slice-6.ensures.value at c.in_ok-readings.ensures);
    }
