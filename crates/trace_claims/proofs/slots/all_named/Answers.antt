-- One operation more.
use Rattle.std.proofs.Common.{ℕ, List, ◌+◌, ◌≡◌, Some, slice_get, length, sym, subst, arith, get_or}
use Rattle.std.proofs.lemmas.Grind.{common_steps}
use Rattle.std.proofs.lemmas.Option.{slice_get-get_or}
use Rattle.trace_claims.specs.declared.slots.Named.{Named}
use Rattle.trace_claims.proofs.Namings.{NamedUpTo, no-course, named-none, named-more, named-all}
use Rattle.trace_claims.proofs.slots.all_named.Goals as goal

pub loop-at-init : goal.loop-at-init
loop-at-init c = record { within = omega arith; named = λ m same. subst (λ (l : List Named). NamedUpTo m c.args.entries.now c.args.courses.now 0 l) (sym c.new-all.ensures.items) (named-none m c.args.entries.now c.args.courses.now) }

pub named_of-requires : goal.named_of-requires
named_of-requires c = c.requires.each c.loop-at.at (get_or c.args.courses.now c.loop-at.at no-course) (slice_get-get_or c.args.courses.now c.loop-at.at no-course c.loop-at-test.true)

pub loop-at-preserved : goal.loop-at-preserved
loop-at-preserved c =
    let at : slice_get c.args.courses.now c.loop-at.at ≡ Some (get_or c.args.courses.now c.loop-at.at no-course) = slice_get-get_or c.args.courses.now c.loop-at.at no-course c.loop-at-test.true in
    record {
      within = grind (arith, common_steps);
      named = λ m same. subst (λ (l : List Named). NamedUpTo m c.args.entries.now c.args.courses.now (c.loop-at.at + 1) l) (sym c.in_ok-add_named.ensures)
          (named-more m c.args.entries.now c.args.courses.now c.loop-at.at (get_or c.args.courses.now c.loop-at.at no-course) c.in_ok-named.named c.loop-at.all.items at
          (c.requires.each c.loop-at.at (get_or c.args.courses.now c.loop-at.at no-course) at) (c.in_ok-named.ensures m same) (c.loop-at.invariant.named m same));
    }

pub returns : goal.returns
returns c m same =
    named-all m c.args.entries.now c.args.courses.now c.loop-at.all.items c.requires
    (subst (λ (k : ℕ). NamedUpTo m c.args.entries.now c.args.courses.now k c.loop-at.all.items) (let is : c.loop-at.at ≡ length c.args.courses.now = omega (arith, c.loop-at.invariant.within, c.loop-at-test.false) in is) (c.loop-at.invariant.named m same))
