use Rattle.std.proofs.Common.{◌≡◌, arith, ap, ◌∙◌, refl}
use Rattle.rpc_record.specs.declared.gather.Phase.TheVariants as phases
use Rattle.rpc_record.proofs.GatherLemmas.{took_body}
use Rattle.rpc_record.specs.Gather.{Gathered, IsGathered}
use Rattle.rpc_record.proofs.gather.Gather.take_body.Goals as goal

pub returns-clause-took : goal.returns-clause-took
returns-clause-took c =
    let on : c.self.inside.phase ≡ phases.Body c.args.left c.args.more = ap (λ (g : Gathered). g.phase) c.self.view_is ∙ c.requires.on in
    let fits : IsGathered (phases.Body c.args.left c.args.more) c.self.inside.record.items c.self.inside.header.items = rw on at c.self.invariant in
    rw (← c.self.view_is)
    (took_body _ _ c.args.bytes.now c.min-count.result c.args.left c.args.more (omega (arith, c.min-count.ensures, fits.1, c.requires.some)) (omega (arith, c.min-count.ensures)) (omega (arith, c.min-count.ensures)) on
    (rw (c.in_ok-extend_from_slice.ensures.items, c.split_at.ensures.front, c.gone_on-self-inside.ensures, fits.2) refl))
