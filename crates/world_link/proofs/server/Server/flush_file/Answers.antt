use Rattle.std.proofs.Common.{rules, refl, None}
use Rattle.world_model.specs.declared.entry.Entry.TheVariants.{Flushed}
use Rattle.world_link.proofs.TurnStaysHonest.{flushed_stays, left_stays}
use Rattle.world_link.proofs.ServerEntriesOnly.{one_goes, quiet_goes}
use Rattle.world_link.proofs.EndsStayRight.{flushed_ends, left_ends}
use Rattle.world_link.proofs.Pushes.{told_push}
use Rattle.world_link.proofs.server.Server.flush_file.Goals as goal

pub returns-clause-goes : goal.returns-clause-goes
returns-clause-goes c = one_goes _ _ None (Flushed c.args.file 0 c.args.len) (told_push c.args.self.now.told.items _ (record { end = 2; entry = Flushed c.args.file 0 c.args.len }) (search rules)) refl refl c.in_ok-flush.ensures.ok

pub returns-clause-stays : goal.returns-clause-stays
returns-clause-stays c = flushed_stays _ _ c.args.file c.args.len refl (told_push c.args.self.now.told.items _ (record { end = 2; entry = Flushed c.args.file 0 c.args.len }) (search rules)) refl c.in_ok-flush.ensures.ok c.holds_bytes.ensures c.requires

pub returns-in_err-reserve-clause-stays : goal.returns-in_err-reserve-clause-stays
returns-in_err-reserve-clause-stays c = left_stays _ _ refl refl (search rules) refl

pub returns-in_err-flush-clause-stays : goal.returns-in_err-flush-clause-stays
returns-in_err-flush-clause-stays c = left_stays _ _ refl c.in_err-flush.ensures.err (search rules) refl

pub returns-in_err-reserve-clause-goes : goal.returns-in_err-reserve-clause-goes
returns-in_err-reserve-clause-goes c = quiet_goes _ _ (search rules) refl refl

pub returns-in_err-flush-clause-goes : goal.returns-in_err-flush-clause-goes
returns-in_err-flush-clause-goes c = quiet_goes _ _ (search rules) refl c.in_err-flush.ensures.err

pub returns-clause-ends : goal.returns-clause-ends
returns-clause-ends c = flushed_ends _ _ c.args.file 0 c.args.len refl (search rules)

pub returns-in_err-reserve-clause-ends : goal.returns-in_err-reserve-clause-ends
returns-in_err-reserve-clause-ends c = left_ends _ _ _ refl (search rules)

pub returns-in_err-flush-clause-ends : goal.returns-in_err-flush-clause-ends
returns-in_err-flush-clause-ends c = left_ends _ _ _ refl (search rules)
