use Rattle.std.proofs.Common.{inl, [], ◌∷◌, refl, arith}
use Rattle.world_model.specs.declared.entry.Entry.TheVariants.{Sent, Failed}
use Rattle.port_finder.proofs.Doing.{does_call, does_then, does_so, calm_one, sent_calm}
use Rattle.port_finder.proofs.Steps.{attempt_listens, attempt_unsent}
use Rattle.port_finder.proofs.exchange.attempt.Goals as goal

pub returns-in-Ok-clause-does : goal.returns-in-Ok-clause-does
returns-in-Ok-clause-does g c =
    let r = c.in-Ok.ensures in
    does_then _ _ _ _ _ _ _ _ _ (λ es fs p q. attempt_listens c.args.xid c.args.call.now c.listen.result es fs p q)
    (does_call _ _ _ _ (Sent c.args.call.now ∷ []) r.told r.cause.later (λ f. absurd (calm_one (Sent c.args.call.now) (sent_calm c.args.call.now) f))) c.listen.ensures.does

pub returns-in-Err-Failed-clause-does : goal.returns-in-Err-Failed-clause-does
returns-in-Err-Failed-clause-does g c =
    let r = rw c.in-Err-Failed.field-0-is at c.in-Err-Failed.ensures in
    does_so _ _ _ _ _ _ (λ es p. attempt_unsent c.args.xid c.args.call.now es p) (does_call _ _ _ _ (Sent c.args.call.now ∷ Failed ∷ []) r.told r.cause.later (λ f. r.cause.failed))

pub returns-in-Err-Memory-clause-does : goal.returns-in-Err-Memory-clause-does
returns-in-Err-Memory-clause-does g c =
    let r = rw c.in-Err-Memory.field-0-is at c.in-Err-Memory.ensures in
    does_so _ _ _ _ _ _ (λ es p. inl p) (does_call _ _ _ _ [] r.told r.cause.later (λ f. absurd f))
