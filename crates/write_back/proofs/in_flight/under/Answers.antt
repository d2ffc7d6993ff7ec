use Rattle.std.proofs.Common.{sym, ◌∙◌}
use Rattle.write_back.proofs.Taking.{under-none, under-some}
use Rattle.write_back.proofs.in_flight.under.Goals as goal

pub returns-in_err-at : goal.returns-in_err-at
returns-in_err-at c = rw c.from_residual.ensures (sym (under-none c.args.xid c.args.sent.now (sym c.place_of.ensures ∙ c.in_err-at.was)).0)

pub returns : goal.returns
returns c = sym (under-some c.args.xid c.in_ok-at.at c.args.sent.now _ (sym c.place_of.ensures ∙ c.in_ok-at.was) c.index-sent-at.is)
