use Rattle.std.proofs.Common.{true, false, sym, ap, subst, ◌∙◌}
use Rattle.rpc_retry.proofs.Failing.{sound_given, sound_resent}
use Rattle.rpc_retry.specs.Waiting.{failed}
use Rattle.rpc_retry.proofs.Records.{keeps_failed}
use Rattle.rpc_retry.specs.Fail.{IsOldestGivenUp, NoneGivenUp}
use Rattle.rpc_retry.proofs.GivenUp.{oldest_given_up, none_given_up}
use Rattle.rpc_retry.proofs.calls.Calls.failed.Goals as goal

pub invariant_of-self : goal.invariant_of-self
invariant_of-self g c = sound_given _ _ c.self.invariant c.fail_all.ensures

pub invariant_of-self-in-None : goal.invariant_of-self-in-None
invariant_of-self-in-None g c = sound_resent _ _ c.self.invariant (sym c.in-None.ensures) c.fail_all-in-None.ensures

pub returns-in-Some-clause-records : goal.returns-in-Some-clause-records
returns-in-Some-clause-records g c = keeps_failed c.args.self.now c.fail_all.new.calls.entries false (c.fail_all.ensures ∙ ap (λ h. failed false h.calls) c.self.view_is)

pub returns-in-None-clause-records : goal.returns-in-None-clause-records
returns-in-None-clause-records g c = keeps_failed c.args.self.now c.fail_all-in-None.new.calls.entries true (c.fail_all-in-None.ensures ∙ ap (λ h. failed true h.calls) c.self.view_is)

pub returns-in-Some-clause-attempts : goal.returns-in-Some-clause-attempts
returns-in-Some-clause-attempts g c = subst (λ h. IsOldestGivenUp h.calls c.in-Some.xid) c.self.view_is (oldest_given_up _ _ _ c.in-Some.xid _ c.self.invariant.each (sym c.in-Some.ensures))

pub returns-in-None-clause-attempts : goal.returns-in-None-clause-attempts
returns-in-None-clause-attempts g c = subst (λ h. NoneGivenUp h.calls) c.self.view_is (none_given_up _ _ _ _ c.self.invariant.each (sym c.in-None.ensures))
