use Rattle.std.proofs.Common.{◌≡◌, ◌≤◌, ◌<◌, drop, length, ap, ◌∙◌, refl, arith}
use Rattle.std.proofs.lemmas.List.{length-drop}
use Rattle.rpc_record.specs.declared.sending.SendState.TheVariants as sendings
use Rattle.rpc_record.specs.Records.{one_fragment}
use Rattle.rpc_record.specs.Shown.{shown_by}
use Rattle.rpc_record.proofs.WaitTurns.{sending_of}
use Rattle.rpc_record.proofs.LineStaysHonest.{ends_record}
use Rattle.rpc_record.proofs.RecordGoesOut.{begins_writing, goes_on_writing, ends_writing, fails_writing, starves_writing}
use Rattle.rpc_record.proofs.stream_link.StreamLink.send_fine.Goals as goal

pub loop-at-init : goal.loop-at-init
loop-at-init g c =
    let fine : c.self.inside.sending ≡ sendings.Fine = sending_of _ _ c.self.view_is ∙ c.requires in
    rw (← c.self.view_is)
    (begins_writing _ c.self.inside.inbox c.args.rec.now (one_fragment c.args.rec.now) c.self.invariant fine refl, ap length c.marked-size.ensures.text, fine, omega arith, refl, refl, λ h. h)

pub invariant_of-self : goal.invariant_of-self
invariant_of-self g c =
    let whole : c.in-Ok.n ≡ length (drop c.loop-at.at (one_fragment c.args.rec.now)) = omega (arith, c.if-n-left.true, length-drop c.loop-at.at (one_fragment c.args.rec.now), c.loop-at.invariant.1) in
    let done = ends_writing _ _ _ _ c.args.rec.now (one_fragment c.args.rec.now) _ c.loop-at.at c.in-Ok.n c.loop-at.invariant.0 refl c.marked-size.ensures.fits refl whole c.in-Ok.ensures.now in
    rw (c.loop-at.invariant.2) done.follows

pub returns-then-n-left-clause-told : goal.returns-then-n-left-clause-told
returns-then-n-left-clause-told g c =
    let whole : c.in-Ok.n ≡ length (drop c.loop-at.at (one_fragment c.args.rec.now)) = omega (arith, c.if-n-left.true, length-drop c.loop-at.at (one_fragment c.args.rec.now), c.loop-at.invariant.1) in
    (ends_writing _ _ _ _ c.args.rec.now (one_fragment c.args.rec.now) _ c.loop-at.at c.in-Ok.n c.loop-at.invariant.0 refl c.marked-size.ensures.fits refl whole c.in-Ok.ensures.now).tells

pub loop-at-preserved : goal.loop-at-preserved
loop-at-preserved g c =
    let less : c.in-Ok.n ≡ length (drop c.loop-at.at (one_fragment c.args.rec.now)) → ⊥ = λ e. c.if-n-left.false (omega (arith, e, length-drop c.loop-at.at (one_fragment c.args.rec.now), c.loop-at.invariant.1)) in (
      goes_on_writing _ _ _ _ (one_fragment c.args.rec.now) _ c.loop-at.at c.in-Ok.n c.args.rec.now c.loop-at.invariant.0 refl c.in-Ok.ensures.takes.fits less c.in-Ok.ensures.now,
      c.loop-at.invariant.1,
      c.loop-at.invariant.2,
      omega (arith, c.loop-at.invariant.3, c.in-Ok.ensures.cause.later),
      c.loop-at.invariant.4,
      c.loop-at.invariant.5,
      λ h. c.in-Ok.ensures.honest (ends_record _ _ (one_fragment c.args.rec.now) _ c.args.rec.now c.loop-at.at c.loop-at.invariant.0.follows refl c.marked-size.ensures.fits refl) (c.loop-at.invariant.6 h),
    )

pub returns-in-Err-Failed-clause-told : goal.returns-in-Err-Failed-clause-told
returns-in-Err-Failed-clause-told g c =
    (fails_writing _ _ _ _ c.args.rec.now (one_fragment c.args.rec.now) c.loop-at.at c.loop-at.invariant.0 refl (rw c.in-Err-Failed.field-0-is at c.in-Err-Failed.ensures.now)).tells

pub returns-then-n-left-clause-honest : goal.returns-then-n-left-clause-honest
returns-then-n-left-clause-honest g c =
    λ h. c.in-Ok.ensures.honest (ends_record _ _ (one_fragment c.args.rec.now) _ c.args.rec.now c.loop-at.at c.loop-at.invariant.0.follows refl c.marked-size.ensures.fits refl) (c.loop-at.invariant.6 h)

pub returns-in-Err-Failed-clause-honest : goal.returns-in-Err-Failed-clause-honest
returns-in-Err-Failed-clause-honest g c =
    λ h. c.in-Err-Failed.ensures.honest (ends_record _ _ (one_fragment c.args.rec.now) _ c.args.rec.now c.loop-at.at c.loop-at.invariant.0.follows refl c.marked-size.ensures.fits refl) (c.loop-at.invariant.6 h)

pub returns-in-Err-Memory-clause-honest : goal.returns-in-Err-Memory-clause-honest
returns-in-Err-Memory-clause-honest g c =
    λ h. c.in-Err-Memory.ensures.honest (ends_record _ _ (one_fragment c.args.rec.now) _ c.args.rec.now c.loop-at.at c.loop-at.invariant.0.follows refl c.marked-size.ensures.fits refl) (c.loop-at.invariant.6 h)

pub invariant_of-self-in-Err-Failed : goal.invariant_of-self-in-Err-Failed
invariant_of-self-in-Err-Failed g c =
    rw (c.after-self-inside.ensures) (fails_writing _ _ _ _ c.args.rec.now (one_fragment c.args.rec.now) c.loop-at.at c.loop-at.invariant.0 refl (rw c.in-Err-Failed.field-0-is at c.in-Err-Failed.ensures.now)).follows

pub invariant_of-self-in-Err-Memory : goal.invariant_of-self-in-Err-Memory
invariant_of-self-in-Err-Memory g c =
    rw (c.after-self-inside-in-Err-Memory.ensures) (starves_writing _ _ _ _ c.args.rec.now (one_fragment c.args.rec.now) c.loop-at.at c.loop-at.invariant.0 refl (rw c.in-Err-Memory.field-0-is at c.in-Err-Memory.ensures.now)).follows
