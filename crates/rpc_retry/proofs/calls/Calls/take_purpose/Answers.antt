use Rattle.std.proofs.Common.{◌∙◌, sym, ap, subst, refl}
use Rattle.rpc_retry.specs.Waiting.{waiting_at, without}
use Rattle.rpc_retry.specs.Take.{TakesPurpose, awaited}
use Rattle.rpc_retry.specs.Sound.{IsSound}
use Rattle.rpc_retry.proofs.Taking.{sound_taken}
use Rattle.rpc_retry.proofs.Steps.{does_take}
use Rattle.rpc_retry.proofs.Records.{keeps_without}
use Rattle.rpc_retry.proofs.calls.Calls.take_purpose.Goals.{in-Some-shift_remove, in-None}
use Rattle.rpc_retry.proofs.calls.Calls.take_purpose.Goals as goal

pub invariant_of-self : goal.invariant_of-self
invariant_of-self g c = sound_taken _ c.in-Some.xid _ c.self.invariant c.shift_remove.ensures.entries

pub returns-clause-answer : goal.returns-clause-answer
returns-clause-answer g c =
    let xid = c.in-Some.xid in
    let named = sym c.in-Some.ensures in
    let same = sym (ap (λ h. waiting_at xid h.calls) c.self.view_is) in
    elim c.match-shift_remove.branch [
      | in-Some-shift_remove w ↦ subst (TakesPurpose c.args.self.now.calls c.args.rec.now) (sym w.result-is)
          (record { named = named; call = w.in-Some-shift_remove.call; waits = same ∙ sym w.in-Some-shift_remove.ensures.value; is = refl })
      | in-None w ↦ subst (TakesPurpose c.args.self.now.calls c.args.rec.now) (sym w.result-is)
          (ap (λ o. awaited o c.args.self.now.calls) named ∙ same ∙ sym w.in-None.ensures.value)
    ]

pub returns-clause-records : goal.returns-clause-records
returns-clause-records g c =
    let xid = c.in-Some.xid in
    keeps_without c.args.self.now c.shift_remove.new.self.entries xid (subst IsSound c.self.view_is c.self.invariant) (c.shift_remove.ensures.entries ∙ ap (λ h. without xid h.calls) c.self.view_is)

pub returns-clause-step : goal.returns-clause-step
returns-clause-step g c =
    elim c.match-shift_remove.branch [
      | in-Some-shift_remove w ↦ rw w.result-is
          (does_take _ c.args.self.now c.in-Some.xid w.in-Some-shift_remove.call c.shift_remove.new.self.entries c.self.view_is (sym w.in-Some-shift_remove.ensures.value) c.shift_remove.ensures.entries)
      | in-None w ↦ rw w.result-is tt
    ]
