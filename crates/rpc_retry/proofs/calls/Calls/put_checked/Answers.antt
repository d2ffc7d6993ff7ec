use Rattle.std.proofs.Common.{◌∙◌, ap, subst, refl}
use Rattle.rpc_retry.specs.Sound.{IsSound}
use Rattle.rpc_retry.proofs.Order.{sound_inside, put_calls}
use Rattle.rpc_retry.proofs.Steps.{does_make}
use Rattle.rpc_retry.proofs.Records.{keeps_same, keeps_made}
use Rattle.rpc_retry.proofs.calls.Calls.put_checked.Goals as goal

pub invariant_of-self-2 : goal.invariant_of-self-2
invariant_of-self-2 g c =
    let sound = subst IsSound c.self.view_is c.self.invariant in
    let calls = put_calls c.args.self.now c.self.inside.calls.entries _ _ _ _ sound.each (ap (λ h. h.calls) c.self.view_is) c.in_ok-insert.ensures.entries c.next_xid-xid.ensures c.new.ensures in
    sound_inside _ c.args.self.now c.insert.new.self.entries c.args.bytes c.args.purpose c.self.view_is c.requires.spelled c.self.invariant c.requires.may calls

pub returns-clause-calls : goal.returns-clause-calls
returns-clause-calls g c =
    let sound = subst IsSound c.self.view_is c.self.invariant in
    put_calls c.args.self.now c.self.inside.calls.entries _ _ _ _ sound.each (ap (λ h. h.calls) c.self.view_is) c.in_ok-insert.ensures.entries c.next_xid-xid.ensures c.new.ensures

pub returns-in_err-insert-clause-records : goal.returns-in_err-insert-clause-records
returns-in_err-insert-clause-records g c = keeps_same c.args.self.now c.insert.new.self.entries (c.in_err-insert.ensures.err ∙ ap (λ h. h.calls) c.self.view_is)

pub returns-clause-records : goal.returns-clause-records
returns-clause-records g c =
    let sound = subst IsSound c.self.view_is c.self.invariant in
    keeps_made c.args.self.now c.insert.new.self.entries c.new.result (put_calls c.args.self.now c.self.inside.calls.entries _ _ _ _ sound.each (ap (λ h. h.calls) c.self.view_is) c.in_ok-insert.ensures.entries c.next_xid-xid.ensures refl)

pub returns-clause-step : goal.returns-clause-step
returns-clause-step g c =
    let sound = subst IsSound c.self.view_is c.self.invariant in
    does_make _ c.args.self.now c.next_xid-xid.result _ c.args.purpose c.insert.new.self.entries c.self.view_is c.next_xid-xid.ensures
    (put_calls c.args.self.now c.self.inside.calls.entries _ _ _ _ sound.each (ap (λ h. h.calls) c.self.view_is) c.in_ok-insert.ensures.entries c.next_xid-xid.ensures c.new.ensures)
