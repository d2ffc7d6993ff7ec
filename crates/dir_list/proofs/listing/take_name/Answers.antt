use Rattle.std.proofs.Common.{sym, refl, inr, ◌∙◌}
use Rattle.dir_list.proofs.Takings.{is_limit, room}
use Rattle.dir_list.proofs.listing.take_name.Goals as goal

pub returns-then-len-eq-LIMIT-clause-fault : goal.returns-then-len-eq-LIMIT-clause-fault
returns-then-len-eq-LIMIT-clause-fault c = inr (refl, is_limit _ (sym c.args.names.now.ok.0 ∙ sym c.len.ensures ∙ c.if-len-eq-LIMIT.true), sym c.if-not-counts.ensures)

pub returns-in-Ok-clause-bound : goal.returns-in-Ok-clause-bound
returns-in-Ok-clause-bound c = room c.args.names.now.items c.push.new.self.items _ c.in-Ok.ensures.items c.requires.fits (λ full. c.if-len-eq-LIMIT.false (c.len.ensures ∙ c.args.names.now.ok.0 ∙ full))
