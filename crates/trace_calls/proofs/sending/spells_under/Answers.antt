-- What is the call, and what is none.
use Rattle.std.proofs.Common.{sym, ◌∙◌}
use Rattle.trace_calls.proofs.Calls.{ok-iff, serves-call, asks-none}
use Rattle.trace_calls.proofs.sending.spells_under.Goals as goal

pub returns-in-Serve : goal.returns-in-Serve
returns-in-Serve c =
    let sound = rw c.in-Serve.is at c.in_ok-sent.ensures.sound in
    ok-iff c.same_call.result _ _
    (λ b is. serves-call _ c.args.xid c.in-Serve.sent c.args.call.now c.args.rec.now b c.requires sound.0 (λ y k t. sym c.in-Serve.is ∙ c.in_ok-sent.ensures.served y k t) is)
    c.same_call.ensures

pub returns : goal.returns
returns c = asks-none c.args.xid c.args.call.now c.args.rec.now _ c.in_ok-sent.ensures.served (λ y k e. c.in_default.not-Serve y k e)
