use Rattle.std.proofs.Common.{rules, refl}
use Rattle.world_link.proofs.TurnStaysHonest.{left_stays, restarted_stays, unstarted_stays}
use Rattle.world_link.proofs.ServerEntriesOnly.{restart_goes, unstarted_goes, quiet_goes}
use Rattle.world_link.proofs.EndsStayRight.{reboot_ends, left_ends}
use Rattle.world_link.proofs.Pushes.{told_push}
use Rattle.world_model.specs.declared.entry.Entry.TheVariants.{Reboot}
use Rattle.world_link.proofs.server.Server.reboot.Goals as goal

pub returns-then-reboot-clause-goes : goal.returns-then-reboot-clause-goes
returns-then-reboot-clause-goes c = restart_goes _ _ c.reboot.result c.verifier-verf.result c.reboot.ensures.done c.reboot.ensures.after c.if-reboot.true (told_push c.args.self.now.told.items _ (record { end = 2; entry = Reboot c.verifier-verf.result }) (search rules)) refl

pub returns-then-reboot-clause-stays : goal.returns-then-reboot-clause-stays
returns-then-reboot-clause-stays c = restarted_stays _ _ c.reboot.result c.verifier-verf.result c.reboot.ensures.done c.reboot.ensures.after c.if-reboot.true refl (told_push c.args.self.now.told.items _ (record { end = 2; entry = Reboot c.verifier-verf.result }) (search rules)) refl c.verifier-verf.ensures

pub returns-in_err-reserve-clause-stays : goal.returns-in_err-reserve-clause-stays
returns-in_err-reserve-clause-stays c = left_stays _ _ refl refl (search rules) refl

pub returns-else-reboot-clause-stays : goal.returns-else-reboot-clause-stays
returns-else-reboot-clause-stays c = unstarted_stays _ _ c.reboot.result c.reboot.ensures.done c.reboot.ensures.after c.if-reboot.false refl (search rules) refl

pub returns-in_err-reserve-clause-goes : goal.returns-in_err-reserve-clause-goes
returns-in_err-reserve-clause-goes c = quiet_goes _ _ (search rules) refl refl

pub returns-else-reboot-clause-goes : goal.returns-else-reboot-clause-goes
returns-else-reboot-clause-goes c = unstarted_goes _ _ c.reboot.result c.reboot.ensures.done c.reboot.ensures.after c.if-reboot.false (search rules) refl

pub returns-then-reboot-clause-ends : goal.returns-then-reboot-clause-ends
returns-then-reboot-clause-ends c = reboot_ends _ _ c.verifier-verf.result refl (search rules)

pub returns-in_err-reserve-clause-ends : goal.returns-in_err-reserve-clause-ends
returns-in_err-reserve-clause-ends c = left_ends _ _ _ refl (search rules)

pub returns-else-reboot-clause-ends : goal.returns-else-reboot-clause-ends
returns-else-reboot-clause-ends c = left_ends _ _ _ refl (search rules)
