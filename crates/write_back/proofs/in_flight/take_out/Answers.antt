use Rattle.std.proofs.Common.{sym, ◌∙◌}
use Rattle.write_back.proofs.Taking.{under-none, under-some, without-some}
use Rattle.write_back.proofs.Opening.{place-in}
use Rattle.write_back.proofs.in_flight.take_out.Goals as goal

pub returns-in_err-at-clause-piece : goal.returns-in_err-at-clause-piece
returns-in_err-at-clause-piece c = rw c.from_residual.ensures (sym (under-none c.args.xid c.args.sent.now.items (place-in _ _ _ _ c.as_slice.ensures.value (sym c.place_of.ensures ∙ c.in_err-at.was))).0)

pub returns-in_err-at-clause-others : goal.returns-in_err-at-clause-others
returns-in_err-at-clause-others c = sym (under-none c.args.xid c.args.sent.now.items (place-in _ _ _ _ c.as_slice.ensures.value (sym c.place_of.ensures ∙ c.in_err-at.was))).1

pub returns-clause-piece : goal.returns-clause-piece
returns-clause-piece c = sym (under-some c.args.xid c.in_ok-at.at c.args.sent.now.items c.remove.result (place-in _ _ _ _ c.as_slice.ensures.value (sym c.place_of.ensures ∙ c.in_ok-at.was)) c.remove.ensures.value)

pub returns-clause-others : goal.returns-clause-others
returns-clause-others c = c.remove.ensures.items ∙ sym (without-some c.args.xid c.in_ok-at.at c.args.sent.now.items (place-in _ _ _ _ c.as_slice.ensures.value (sym c.place_of.ensures ∙ c.in_ok-at.was)))
