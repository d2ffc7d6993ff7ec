use Rattle.std.proofs.Common.{◌≡◌, true, false}
use Rattle.port_finder.proofs.Replies.{refused_means, no_port_means, port_means}
use Rattle.port_finder.proofs.reply.told_port.Goals as goal

is_no_ok : false ≡ true → ⊥
is_no_ok e = cc

pub returns-in-Err-clause-means : goal.returns-in-Err-clause-means
returns-in-Err-clause-means c = λ x has. refused_means x _ c.in-Err.refusal (c.in-Err.ensures x has)

pub returns-in-Ok-read_port-clause-means : goal.returns-in-Ok-read_port-clause-means
returns-in-Ok-read_port-clause-means c = λ x has. rw c.registered.ensures.is (port_means x c.in-Ok-read_port.port _ _ (c.in-Ok.ensures x has) c.in-Ok-read_port.ensures.spelled.found)

pub returns-in-Err-read_port-clause-means : goal.returns-in-Err-read_port-clause-means
returns-in-Err-read_port-clause-means c = λ x has. no_port_means x _ _ (c.in-Ok.ensures x has) (λ port s. is_no_ok (c.in-Err-read_port.ensures.spelled.only port s).1)
