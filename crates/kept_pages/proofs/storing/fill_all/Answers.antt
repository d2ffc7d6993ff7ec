use Rattle.std.proofs.Common.{◌≡◌, ◌∙◌, List, Option, length, ap, refl, arith}
use Rattle.page_store.specs.Pages.{StoredPage}
use Rattle.kept_pages.proofs.KeptRounds.{fills-itself, fills-then}
use Rattle.kept_pages.proofs.storing.fill_all.Goals as goal

pub loop-at-init : goal.loop-at-init
loop-at-init g c = record {
  fills = λ tells n fits s u.
      fills-itself g.D.Disk.seen g.D.Disk.may_leave g.D.Disk.moment g.D.Disk.left_since n c.args.store.now (g.met.D.Disk.only_now c.args.store.now.disk tells) s u;
  kept = λ all. all;
  short = omega arith;
  pages = refl;
  label = refl;
  goes_on = λ tells. tells;
  later = omega arith;
}

pub loop-at-preserved : goal.loop-at-preserved
loop-at-preserved g c = record {
  fills = λ tells n fits s u.
      let so_far = c.loop-at.invariant.fills tells n fits s u in
      let same : length c.loop-at.store.pages ≡ length c.args.store.now.pages = ap (λ (ps : List (Option StoredPage)). length ps) c.loop-at.invariant.pages in
      fills-then g.D.Disk.seen g.D.Disk.may_leave g.D.Disk.moment g.D.Disk.left_since n c.args.store.now c.loop-at.store c.fill_from.new.store so_far
      (c.fill_from.ensures.fills (c.loop-at.invariant.goes_on tells) n (omega (arith, same, fits)) so_far.sound so_far.under_way);
  kept = λ all. c.fill_from.ensures.kept (c.loop-at.invariant.kept all);
  short = let so_far = c.loop-at.invariant.short in let this = c.fill_from.ensures.short in omega (arith, so_far, this);
  pages = c.fill_from.ensures.pages ∙ c.loop-at.invariant.pages;
  label = c.fill_from.ensures.label ∙ c.loop-at.invariant.label;
  goes_on = λ tells. c.fill_from.ensures.goes_on (c.loop-at.invariant.goes_on tells);
  later = let so_far = c.loop-at.invariant.later in let this = c.fill_from.ensures.cause.later in omega (arith, so_far, this);
}

pub returns-in-Err-clause-fills : goal.returns-in-Err-clause-fills
returns-in-Err-clause-fills g c = λ tells n fits s u.
    let so_far = c.loop-at.invariant.fills tells n fits s u in
    let same : length c.loop-at.store.pages ≡ length c.args.store.now.pages = ap (λ (ps : List (Option StoredPage)). length ps) c.loop-at.invariant.pages in
    fills-then g.D.Disk.seen g.D.Disk.may_leave g.D.Disk.moment g.D.Disk.left_since n c.args.store.now c.loop-at.store c.fill_from.new.store so_far
    (c.fill_from.ensures.fills (c.loop-at.invariant.goes_on tells) n (omega (arith, same, fits)) so_far.sound so_far.under_way)
