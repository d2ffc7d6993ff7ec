-- A record that is read.
use Rattle.std.proofs.Common.{ap, sym, ◌∙◌}
use Rattle.rpc_message.specs.Reply.{Accepted, reply_of}
use Rattle.trace_calls.proofs.Replies.{wanted-results, refused-apart, denied-apart}
use Rattle.trace_calls.proofs.replying.results_under.Goals as goal

pub returns-in-Ok-Accepted-clause-finds : goal.returns-in-Ok-Accepted-clause-finds
returns-in-Ok-Accepted-clause-finds c =
    wanted-results (λ r. r.now) c.results_if.result c.args.xid c.in-Ok-Accepted.under c.args.rec.now c.in-Ok-Accepted.results.now (reply_of c.in-Ok-Accepted.field-0)
    (ap reply_of c.in-Ok-Accepted.field-0-is) c.in-Ok-Accepted.ensures.spelled.found (λ r s. (c.in-Ok-Accepted.ensures.spelled.only r s).0) c.results_if.ensures

pub returns-in-Ok-Refused-clause-finds : goal.returns-in-Ok-Refused-clause-finds
returns-in-Ok-Refused-clause-finds c = λ results s. refused-apart _ _ _ _ _ _ (sym (ap reply_of c.in-Ok-Refused.field-0-is) ∙ (c.in-Ok-Refused.ensures.spelled.only (Accepted c.args.xid results) s).0)

pub returns-in-Ok-Denied-clause-finds : goal.returns-in-Ok-Denied-clause-finds
returns-in-Ok-Denied-clause-finds c = λ results s. denied-apart _ _ _ _ _ _ (sym (ap reply_of c.in-Ok-Denied.field-0-is) ∙ (c.in-Ok-Denied.ensures.spelled.only (Accepted c.args.xid results) s).0)

pub returns-in-Err-clause-finds : goal.returns-in-Err-clause-finds
returns-in-Err-clause-finds c = λ results s. let e = (c.in-Err.ensures.spelled.only (Accepted c.args.xid results) s).1 in absurd cc
