use Rattle.std.proofs.Common.{◌≡◌, sym, ◌∙◌, refl, arith}
use Rattle.rpc_record.specs.declared.gather.Phase.TheVariants as phases
use Rattle.rpc_record.proofs.WaitTurns.{phase_of}
use Rattle.rpc_record.proofs.LineSteps.{deliver_step, deliver_hears}
use Rattle.rpc_record.proofs.stream_link.StreamLink.deliver.Goals as goal

pub invariant_of-self-2 : goal.invariant_of-self-2
invariant_of-self-2 g c =
    let whole : c.self.inside.inbox.gather.phase ≡ phases.Whole = phase_of _ _ c.self.view_is ∙ c.requires in
    rw (c.hand_out.ensures.anew) (deliver_step _ _ _ _ c.self.invariant whole c.if-not-place.ensures.yes).follows

pub returns-clause-turned : goal.returns-clause-turned
returns-clause-turned g c =
    let whole : c.self.inside.inbox.gather.phase ≡ phases.Whole = phase_of _ _ c.self.view_is ∙ c.requires in
    let closed : phases.Whole ≡ phases.Long → ⊥ = λ l. absurd cc in
    rw (← c.self.view_is, c.hand_out.ensures.rec) (record {
      tells = (deliver_step _ _ _ _ c.self.invariant whole c.if-not-place.ensures.yes).tells;
      hears = deliver_hears _ _ _ _ c.self.invariant whole c.if-not-place.ensures.yes;
      waits = record { wire = omega (arith, c.if-not-place.ensures.faults); own = omega arith; sending = refl; because = tt; shut = λ l. absurd (closed (sym whole ∙ l)) };
    })
