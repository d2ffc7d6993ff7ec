-- The least place that passes is that of the first record.
use Rattle.trace_answers.proofs.Sendings.{sent-by}
use Rattle.trace_answers.proofs.records.first_sent.Goals as goal

pub returns : goal.returns
returns c = sent-by c.args.entries.now c.args.xid c.first_sending.result c.first_sending.ensures
