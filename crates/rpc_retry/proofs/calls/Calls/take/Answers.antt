use Rattle.rpc_retry.proofs.calls.Calls.take.Goals as goal

pub returns-in-Some-clause-answer : goal.returns-in-Some-clause-answer
returns-in-Some-clause-answer g c = (c.in-Some.ensures.answer, record { exact = c.read_reply.ensures.exact; spelled = c.read_reply.ensures.spelled })
