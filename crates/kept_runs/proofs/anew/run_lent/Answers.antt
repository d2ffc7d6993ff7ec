use Rattle.std.proofs.Common.{refl}
use Rattle.world_model.specs.History.{History}
use Rattle.core_answers.specs.pages.True.{GivenTrue}
use Rattle.anew_link.proofs.Splits.{count-same}
use Rattle.kept_runs.proofs.Anewed.{anew-back, anew-says}
use Rattle.kept_runs.proofs.anew.run_lent.Goals as goal

pub returns-clause-same_reference : goal.returns-clause-same_reference
returns-clause-same_reference g c =
    (c.run_stocked.ensures.stays c.args.anew.now (refl, λ h. h, λ f q. q, count-same c.args.anew.now.own (g.L.Link.told c.args.anew.now.link.now))).0

pub returns-clause-honest : goal.returns-clause-honest
returns-clause-honest g c =
    (c.run_stocked.ensures.stays c.args.anew.now (refl, λ h. h, λ f q. q, count-same c.args.anew.now.own (g.L.Link.told c.args.anew.now.link.now))).1

pub returns-clause-stays : goal.returns-clause-stays
returns-clause-stays g c =
    (c.run_stocked.ensures.stays c.args.anew.now (refl, λ h. h, λ f q. q, count-same c.args.anew.now.own (g.L.Link.told c.args.anew.now.link.now))).2

pub returns-clause-headline : goal.returns-clause-headline
returns-clause-headline g c =
    let s = c.run_stocked.ensures.stays c.args.anew.now (refl, λ h. h, λ f q. q, count-same c.args.anew.now.own (g.L.Link.told c.args.anew.now.link.now)) in
    anew-says c.args.anew.now.own c.run_stocked.new.link.own _ _ c.requires.own s.3 (λ (t : History). GivenTrue c.args.stock.pages t) _ _ _ _ c.args.settings.now _ _ c.run_stocked.ensures.headline

pub returns-clause-pages : goal.returns-clause-pages
returns-clause-pages g c =
    let s = c.run_stocked.ensures.stays c.args.anew.now (refl, λ h. h, λ f q. q, count-same c.args.anew.now.own (g.L.Link.told c.args.anew.now.link.now)) in
    anew-back c.args.anew.now.own c.run_stocked.new.link.own _ _ c.requires.own s.3 c.args.stock _ c.run_stocked.ensures.pages
