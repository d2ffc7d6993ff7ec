use Rattle.std.proofs.Common.{rules, refl}
use Rattle.world_link.proofs.TurnStaysHonest.{foreign_stays, left_stays}
use Rattle.world_link.proofs.ServerEntriesOnly.{foreign_goes, quiet_goes}
use Rattle.world_link.proofs.EndsStayRight.{foreign_ends, left_ends}
use Rattle.world_link.proofs.Pushes.{told_push}
use Rattle.world_model.specs.declared.entry.Entry.TheVariants.{Foreign}
use Rattle.world_link.proofs.server.Server.execute_foreign.Goals as goal

pub returns-clause-goes : goal.returns-clause-goes
returns-clause-goes c = foreign_goes _ _ c.args.call c.in_ok-reply.reply c.in_ok-reply.ensures.ok.1 (told_push c.args.self.now.told.items _ (record { end = 2; entry = Foreign c.args.call c.in_ok-reply.reply }) (search rules)) refl c.in_ok-reply.ensures.ok.0

pub returns-clause-stays : goal.returns-clause-stays
returns-clause-stays c = foreign_stays _ _ c.args.call c.in_ok-reply.reply c.in_ok-reply.ensures.ok.1 refl (told_push c.args.self.now.told.items _ (record { end = 2; entry = Foreign c.args.call c.in_ok-reply.reply }) (search rules)) refl c.in_ok-reply.ensures.ok.0 (c.requires c.handles_fit.ensures)

pub returns-in_err-reserve-clause-stays : goal.returns-in_err-reserve-clause-stays
returns-in_err-reserve-clause-stays c = left_stays _ _ refl refl (search rules) refl

pub returns-in_err-reply-clause-stays : goal.returns-in_err-reply-clause-stays
returns-in_err-reply-clause-stays c = left_stays _ _ refl c.in_err-reply.ensures.err (search rules) refl

pub returns-in_err-reserve-clause-goes : goal.returns-in_err-reserve-clause-goes
returns-in_err-reserve-clause-goes c = quiet_goes _ _ (search rules) refl refl

pub returns-in_err-reply-clause-goes : goal.returns-in_err-reply-clause-goes
returns-in_err-reply-clause-goes c = quiet_goes _ _ (search rules) refl c.in_err-reply.ensures.err

pub returns-clause-ends : goal.returns-clause-ends
returns-clause-ends c = foreign_ends _ _ c.args.call c.in_ok-reply.reply refl (search rules)

pub returns-in_err-reserve-clause-ends : goal.returns-in_err-reserve-clause-ends
returns-in_err-reserve-clause-ends c = left_ends _ _ _ refl (search rules)

pub returns-in_err-reply-clause-ends : goal.returns-in_err-reply-clause-ends
returns-in_err-reply-clause-ends c = left_ends _ _ _ refl (search rules)
