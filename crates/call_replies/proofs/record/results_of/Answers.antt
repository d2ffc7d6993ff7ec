use Rattle.std.proofs.Common.{◌≡◌, true, false}
use Rattle.call_replies.proofs.Lasts.{results_last}
use Rattle.call_replies.proofs.Readings.{has_results, refused_so, denied_so, not_reply_heard, unspelled_heard}
use Rattle.call_replies.proofs.record.results_of.Goals as goal

is_no_ok : false ≡ true → ⊥
is_no_ok e = cc

pub returns-in-Ok-Accepted-clause-means : goal.returns-in-Ok-Accepted-clause-means
returns-in-Ok-Accepted-clause-means c =
    let f = rw c.in-Ok-Accepted.field-0-is at c.in-Ok-Accepted.ensures in
    λ x has. has_results _ _ _ x f.spelled.found (λ r s. (f.spelled.only r s).0) f.exact has

pub returns-in-Ok-Accepted-clause-last : goal.returns-in-Ok-Accepted-clause-last
returns-in-Ok-Accepted-clause-last c =
    let f = rw c.in-Ok-Accepted.field-0-is at c.in-Ok-Accepted.ensures in
    results_last _ _ _ f.spelled.found

pub returns-in-Ok-Refused-clause-means : goal.returns-in-Ok-Refused-clause-means
returns-in-Ok-Refused-clause-means c =
    let f = rw c.in-Ok-Refused.field-0-is at c.in-Ok-Refused.ensures in
    λ x has. refused_so _ c.in-Ok-Refused.field-0-0 c.in-Ok-Refused.stat c.in-Ok-Refused.field-0-2 c.in-Ok-Refused.field-0-3 _ x f.spelled.found c.from.ensures has

pub returns-in-Ok-Denied-clause-means : goal.returns-in-Ok-Denied-clause-means
returns-in-Ok-Denied-clause-means c =
    let f = rw c.in-Ok-Denied.field-0-is at c.in-Ok-Denied.ensures in
    λ x has. denied_so _ c.in-Ok-Denied.field-0-0 c.in-Ok-Denied.stat c.in-Ok-Denied.first c.in-Ok-Denied.field-0-3 _ x f.spelled.found c.denial.ensures has

pub returns-in-Err-NotReply-clause-means : goal.returns-in-Err-NotReply-clause-means
returns-in-Err-NotReply-clause-means c = λ x has call. not_reply_heard x call _ (rw c.in-Err-NotReply.field-0-is at c.in-Err-NotReply.ensures.exact)

pub returns-in-Err-Xdr-clause-means : goal.returns-in-Err-Xdr-clause-means
returns-in-Err-Xdr-clause-means c =
    let f = rw c.in-Err-Xdr.field-0-is at c.in-Err-Xdr.ensures in
    λ x has call. unspelled_heard x call _ _ (λ r s. absurd (is_no_ok (f.spelled.only r s).1)) f.exact
