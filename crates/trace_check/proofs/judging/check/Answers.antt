-- A claim on bytes breaks first, or a rule of the server.
use Rattle.trace_claims.specs.Modes.{modes_of}
use Rattle.trace_check.proofs.Saying.{claim-says, claim-yes, server-says, server-yes}
use Rattle.trace_check.proofs.judging.check.Goals as goal

pub returns-in-Some-clause-says : goal.returns-in-Some-clause-says
returns-in-Some-clause-says c small origin is =
    let found = rw (c.in-Some.is, c.entries_before.ensures) at (c.in_ok-entries.ensures origin is) in
    claim-says (modes_of c.args.trace.now) origin c.args.trace.now c.in_ok-first.first c.in-Some.entries c.in-Some.broken c.claim_verdict.result c.in_ok-first.ensures found
    small c.claim_verdict.ensures

pub returns-in-Some-clause-yes : goal.returns-in-Some-clause-yes
returns-in-Some-clause-yes c small origin is =
    let found = rw (c.in-Some.is, c.entries_before.ensures) at (c.in_ok-entries.ensures origin is) in
    claim-yes (modes_of c.args.trace.now) origin c.args.trace.now c.in_ok-first.first c.in-Some.entries c.in-Some.broken c.claim_verdict.result c.in_ok-first.ensures found
    small c.claim_verdict.ensures

pub returns-in-None-clause-says : goal.returns-in-None-clause-says
returns-in-None-clause-says c small origin is =
    let keeps = rw (c.in-None.is, c.entries_before.ensures) at (c.in_ok-entries.ensures origin is) in
    server-says (modes_of c.args.trace.now) origin c.args.trace.now c.in_ok-first.first c.server_verdict.result c.in_ok-first.ensures keeps small c.server_verdict.ensures

pub returns-in-None-clause-yes : goal.returns-in-None-clause-yes
returns-in-None-clause-yes c small origin is =
    let keeps = rw (c.in-None.is, c.entries_before.ensures) at (c.in_ok-entries.ensures origin is) in
    server-yes (modes_of c.args.trace.now) origin c.args.trace.now c.in_ok-first.first c.server_verdict.result c.in_ok-first.ensures keeps small c.server_verdict.ensures
