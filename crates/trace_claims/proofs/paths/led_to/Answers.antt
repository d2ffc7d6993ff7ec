-- One name more.
use Rattle.std.proofs.Common.{ℕ, List, ◌≡◌, [], length, Some, slice_get, refl, sym, subst, arith}
use Rattle.std.specs.Prelude.{take}
use Rattle.std.proofs.lemmas.Grind.{common_steps}
use Rattle.std.proofs.lemmas.Option.{slice_get_read}
use Rattle.trace_claims.specs.declared.operations.Lead.{Lead}
use Rattle.trace_claims.specs.Operations.{LeadsAll}
use Rattle.trace_claims.proofs.Digesting.{take-name, take-whole}
use Rattle.trace_claims.proofs.Pathing.{next-leads}
use Rattle.trace_claims.proofs.paths.led_to.Goals as goal

pub loop-at-init : goal.loop-at-init
loop-at-init c = record { within = omega arith; so_far = λ origin h heard roots. subst (λ (l : List Lead). LeadsAll origin h [] l) (sym c.in_ok-list.ensures) roots }

pub loop-at-preserved : goal.loop-at-preserved
loop-at-preserved c =
    let at : slice_get c.args.names.now c.loop-at.at ≡ Some c.index-names-at.result = slice_get_read c.args.names.now (length c.args.names.now) c.loop-at.at c.index-names-at.result refl c.loop-at-test.true c.index-names-at.is in
    record {
      within = grind (arith, common_steps);
      so_far = λ origin h heard roots. subst (λ (p : List (List ℕ)). LeadsAll origin h p c.in_ok-later.later.items) (take-name c.args.names.now c.loop-at.at c.index-names-at.result at)
          (next-leads origin h (take c.loop-at.at c.args.names.now) c.index-names-at.result c.loop-at.list.items c.args.heard.now c.in_ok-later.later.items heard (c.loop-at.invariant.so_far origin h heard roots) (rw c.as_slice.ensures.value at c.in_ok-later.ensures));
    }

pub returns : goal.returns
returns c origin h heard roots = subst (λ (p : List (List ℕ)). LeadsAll origin h p c.loop-at.list.items) (take-whole c.args.names.now c.loop-at.at (let is : c.loop-at.at ≡ length c.args.names.now = omega (arith, c.loop-at.invariant.within, c.loop-at-test.false) in is)) (c.loop-at.invariant.so_far origin h heard roots)
