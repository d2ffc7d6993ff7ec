use Rattle.lane_session.proofs.Closing.{passes-more, passes-both, done-counts, broken-counts, halted, sink-caused}
use Rattle.lane_session.proofs.CoreEnds.{without-pages}
use Rattle.lane_session.proofs.Passing.{passes_less}
use Rattle.lane_session.proofs.Writing.{rose_before}
use Rattle.lane_session.proofs.top.session.Goals as goal

pub returns-in-Ok-clause-shown : goal.returns-in-Ok-clause-shown
returns-in-Ok-clause-shown g c =
    passes-more _ _ _ _ _ _ _ _ _ _ (λ given text more h k d told u. done-counts _ c.args.tally c.args.settings.now.count c.args.script.now c.in-Ok.end c.finish-status.result given text more h k (d.0 u) d.1 told)
    (passes-both _ _ _ _ _ _ _ _ c.in-Ok.ensures.goes c.in-Ok.ensures.counted) c.finish-status.ensures.said

pub returns-in-Ok-clause-sink : goal.returns-in-Ok-clause-sink
returns-in-Ok-clause-sink g c = λ five. rose_before _ _ _ c.in-Ok.ensures.later (c.finish-status.ensures.sink five)

pub returns-in-Err-clause-shown : goal.returns-in-Err-clause-shown
returns-in-Err-clause-shown g c =
    passes_less _ _ _ _ _ _ _ _ (λ given text h k b u. broken-counts _ c.args.tally c.args.settings.now.count c.args.script.now c.in-Err.halt c.of_halt.result given text h k c.of_halt.ensures (b u)) c.in-Err.ensures.goes

pub returns-in-Ok-clause-stays_lost : goal.returns-in-Ok-clause-stays_lost
returns-in-Ok-clause-stays_lost g c = c.in-Ok.ensures.stays_lost

pub returns-in-Err-clause-stays_lost : goal.returns-in-Err-clause-stays_lost
returns-in-Err-clause-stays_lost g c = c.in-Err.ensures.stays_lost

pub returns-in-Ok-clause-loses : goal.returns-in-Ok-clause-loses
returns-in-Ok-clause-loses g c = c.in-Ok.ensures.loses

pub returns-in-Err-clause-loses : goal.returns-in-Err-clause-loses
returns-in-Err-clause-loses g c = c.in-Err.ensures.loses

pub returns-in-Err-clause-ending : goal.returns-in-Err-clause-ending
returns-in-Err-clause-ending g c = halted c.in-Err.halt c.of_halt.result c.of_halt.ensures

pub returns-in-Err-clause-sink : goal.returns-in-Err-clause-sink
returns-in-Err-clause-sink g c = sink-caused c.in-Err.halt c.of_halt.result _ c.of_halt.ensures c.in-Err.ensures.cause

pub returns-in-Ok-clause-pages : goal.returns-in-Ok-clause-pages
returns-in-Ok-clause-pages g c = c.in-Ok.ensures.pages

pub returns-in-Err-clause-pages : goal.returns-in-Err-clause-pages
returns-in-Err-clause-pages g c = without-pages _ _ _ c.args.settings.now c.args.setup c.in-Err.ensures.core
