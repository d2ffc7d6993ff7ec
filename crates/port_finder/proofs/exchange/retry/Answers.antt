use Rattle.std.proofs.Common.{inl}
use Rattle.port_finder.proofs.Doing.{does_then, does_so}
use Rattle.port_finder.proofs.Steps.{retry_dialed, retry_silent, retry_undialed}
use Rattle.port_finder.proofs.exchange.retry.Goals as goal

pub returns-in-Ok-dial-clause-does : goal.returns-in-Ok-dial-clause-does
returns-in-Ok-dial-clause-does g c =
    let a = rw c.in-Err-Failed.field-0-is at c.in-Err-Failed.ensures in
    does_then _ _ _ _ _ _ _ _ _ (λ es fs p q. retry_dialed c.args.port c.args.xid c.args.call.now es fs p q) a.does c.in-Ok-dial.ensures.does

pub returns-in-Err-clause-does : goal.returns-in-Err-clause-does
returns-in-Err-clause-does g c =
    let a = rw c.in-Err-Failed.field-0-is at c.in-Err-Failed.ensures in
    does_then _ _ _ _ _ _ _ _ _ (λ es fs p q. retry_undialed c.args.port c.args.xid c.args.call.now c.in-Err.halt es fs p q) a.does c.in-Err.ensures.does

pub returns-in-Err-Silent-clause-does : goal.returns-in-Err-Silent-clause-does
returns-in-Err-Silent-clause-does g c =
    let a = rw c.in-Err-Silent.field-0-is at c.in-Err-Silent.ensures in
    does_so _ _ _ _ _ _ (λ es p. retry_silent c.args.port c.args.xid c.args.call.now es p) a.does

pub returns-in-Err-Flooded-clause-does : goal.returns-in-Err-Flooded-clause-does
returns-in-Err-Flooded-clause-does g c =
    let a = rw c.in-Err-Flooded.field-0-is at c.in-Err-Flooded.ensures in
    does_so _ _ _ _ _ _ (λ es p. inl p) a.does

pub returns-in-Err-Memory-clause-does : goal.returns-in-Err-Memory-clause-does
returns-in-Err-Memory-clause-does g c =
    let a = rw c.in-Err-Memory.field-0-is at c.in-Err-Memory.ensures in
    does_so _ _ _ _ _ _ (λ es p. inl p) a.does
