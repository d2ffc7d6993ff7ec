-- What a plan shows of its maps.
use Rattle.std.specs.Prelude.{unwrap_or}
use Rattle.std.specs.Ordering.{nat_cmp, ordering_then}
use Rattle.std.specs.BTreeMap as tree
use Rattle.std.specs.BTreeSet as sorted
use Rattle.world_link.specs.declared.plan.Plan.{Plan}
use Rattle.world_link.specs.Fates.{no_fate}
use Rattle.world_link.specs.Plans.{PlanView}

-- what is said of a transmission, and that nothing is
abbrev pub shown : Plan → PlanView
shown plan = record {
  tick = plan.tick;
  mount = plan.mount;
  fails = λ k. sorted.contains nat_cmp plan.failing k;
  fate = λ s. unwrap_or (tree.get (λ a b. ordering_then (nat_cmp a.proc b.proc) (nat_cmp a.k b.k)) plan.fates s) no_fate;
}
