use Rattle.std.proofs.Common.{◌≡◌, ◌∙◌, refl, arith}
use Rattle.rpc_record.specs.declared.gather.Phase.TheVariants as phases
use Rattle.rpc_record.specs.Shown.{FailedWait}
use Rattle.rpc_record.proofs.LineSteps.{fault_step, holds_long}
use Rattle.rpc_record.proofs.WaitTurns.{fault_heard, fault_came, phase_of}
use Rattle.rpc_record.proofs.stream_link.StreamLink.refuse_long.Goals as goal

pub returns-clause-turned : goal.returns-clause-turned
returns-clause-turned g c =
    let long : c.self.inside.inbox.gather.phase ≡ phases.Long = phase_of _ _ c.self.view_is ∙ c.requires in
    let step = fault_step _ _ _ _ c.self.invariant c.if-not-place.ensures.yes in
    λ rec. rw (← c.self.view_is) (record {
      tells = step.tells;
      hears = fault_heard rec _ _ c.if-not-place.ensures.yes;
      waits = record {
        wire = omega (arith, c.if-not-place.ensures.faults);
        own = omega (arith, c.saturating_add-self-inside.ensures);
        sending = refl;
        because = FailedWait.by_long (omega (arith, c.saturating_add-self-inside.ensures)) long (holds_long _ _ _ step.follows long);
        shut = λ l. record { phase = long; came = fault_came _ _ c.if-not-place.ensures.yes };
      };
    })
