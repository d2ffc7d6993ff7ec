use Rattle.lane_session.proofs.CoreEnds.{lost-pages}
use Rattle.lane_session.proofs.LostAdds.{told-set-up}
use Rattle.lane_session.proofs.LostAnswers.{told-stays}
use Rattle.lane_session.proofs.top.all_lines.Goals as goal

pub returns-in-Some-clause-stays_lost : goal.returns-in-Some-clause-stays_lost
returns-in-Some-clause-stays_lost g c = rw c.in-Some.is (told-stays _ _ c.args.settings.now c.in-Some.setup c.run_lines.ensures.core)

pub returns-in-None-clause-stays_lost : goal.returns-in-None-clause-stays_lost
returns-in-None-clause-stays_lost g c = rw c.in-None.is c.lose_all.ensures.stays_lost

pub returns-in-None-clause-counted : goal.returns-in-None-clause-counted
returns-in-None-clause-counted g c = rw c.in-None.is c.lose_all.ensures.counted

pub returns-in-None-clause-dials : goal.returns-in-None-clause-dials
returns-in-None-clause-dials g c = c.lose_all.ensures.dials c.args.settings.now.nfs_port

pub returns-in-Some-clause-loses : goal.returns-in-Some-clause-loses
returns-in-Some-clause-loses g c = rw c.in-Some.is (told-set-up _ _ c.in-Some.setup c.args.script.now _ c.run_lines.ensures.core)

pub returns-in-None-clause-loses : goal.returns-in-None-clause-loses
returns-in-None-clause-loses g c = rw c.in-None.is c.lose_all.ensures.loses

pub returns-in-Some-clause-pages : goal.returns-in-Some-clause-pages
returns-in-Some-clause-pages g c = rw c.in-Some.is c.run_lines.ensures.pages

pub returns-in-None-clause-pages : goal.returns-in-None-clause-pages
returns-in-None-clause-pages g c = rw c.in-None.is (lost-pages _ _ _ c.args.settings.now c.lose_all.result c.lose_all.ensures.pages c.lose_all.ensures.loses)

pub returns-in-Some-clause-counted : goal.returns-in-Some-clause-counted
returns-in-Some-clause-counted g c = rw c.in-Some.is c.run_lines.ensures.counted
