use Rattle.std.proofs.Common.{◌∙◌, Some, option_map, sym, ap, refl}
use Rattle.indexmap.specs.IndexMap.{set_value_at}
use Rattle.rpc_retry.specs.Waiting.{first_due}
use Rattle.rpc_retry.proofs.Dues.{sends, no_position, sound_next, ends_as, lent, none_lent}
use Rattle.rpc_retry.proofs.Records.{keeps_sent}
use Rattle.rpc_retry.proofs.Steps.{does_send}
use Rattle.rpc_retry.proofs.calls.Calls.next_send.Goals as goal

pub returns-in_err-at : goal.returns-in_err-at
returns-in_err-at g c =
    let idle = no_position c.self.inside.calls.entries (sym c.place_of_due.ensures ∙ c.in_err-at.was) in
    rw c.from_residual.ensures (
      (refl, λ _. tt, ends_as _ c.args.self.now c.self.inside.calls.entries c.self.view_is (sym idle.1)),
      record {
        ends = tt;
        lends = none_lent _ c.args.self.now c.self.view_is idle.0;
        gives = sym (ap (λ h. option_map (λ e. e.1.bytes) (first_due h.calls)) (sym c.self.view_is) ∙ ap (option_map (λ e. e.1.bytes)) idle.0);
        records = keeps_sent c.args.self.now;
        step = tt;
      },
    )

pub send-requires : goal.send-requires
send-requires g c =
    (sends _ _ _ c.self.inside.calls.entries c.in_ok-at.at c.index_mut-call.result.now c.self.invariant.each (sym c.place_of_due.ensures ∙ c.in_ok-at.was) c.index_mut-call.ensures.value).few

pub invariant_of-self-2 : goal.invariant_of-self-2
invariant_of-self-2 g c =
    let s = sends _ _ _ c.self.inside.calls.entries c.in_ok-at.at c.index_mut-call.result.now c.self.invariant.each (sym c.place_of_due.ensures ∙ c.in_ok-at.was) c.index_mut-call.ensures.value in
    sound_next _ _ c.self.invariant (ap (set_value_at c.self.inside.calls.entries c.in_ok-at.at) c.send.ensures ∙ s.is)

pub returns : goal.returns
returns g c =
    let s = sends _ _ _ c.self.inside.calls.entries c.in_ok-at.at c.index_mut-call.result.now c.self.invariant.each (sym c.place_of_due.ensures ∙ c.in_ok-at.was) c.index_mut-call.ensures.value in (
      (refl, λ _. tt, ends_as _ c.args.self.now _ c.self.view_is (ap (set_value_at c.self.inside.calls.entries c.in_ok-at.at) c.send.ensures ∙ s.is)),
      record {
        ends = tt;
        lends = lent _ c.args.self.now s.xid c.index_mut-call.result.now c.send.new.self c.self.view_is s.oldest c.send.ensures;
        gives = ap Some (ap (λ w. w.bytes) c.send.ensures) ∙ sym (ap (λ h. option_map (λ e. e.1.bytes) (first_due h.calls)) (sym c.self.view_is) ∙ s.bytes);
        records = keeps_sent c.args.self.now;
        step = (s.xid, does_send _ c.args.self.now s.xid c.index_mut-call.result.now c.send.new.self.bytes c.self.view_is s.oldest (ap (λ w. w.bytes) c.send.ensures));
      },
    )
