use Rattle.std.proofs.Common.{◌≡◌, arith, Bool, true, Ok, Err}
use Rattle.lane_session.proofs.Alive.{may-exchange}
use Rattle.lane_session.proofs.Outcomes.{caused-later, uncaused}
use Rattle.lane_session.proofs.Passing.{passes_then, passes_link}
use Rattle.lane_session.proofs.Ports.{keeps_then}
use Rattle.lane_session.proofs.Reaching.{relates-both}
use Rattle.lane_session.proofs.Trying.{exchanged-held, none-over}
use Rattle.lane_session.proofs.Turning.{IsWaiting, goes-turned, cut-turned, goes-then-on, goes-then-off}
use Rattle.lane_session.proofs.Turns.{turn_rests, turn_breaks, turn_goes}
use Rattle.lane_session.proofs.running.Session.take_turn.Goals as goal

pub exchange-requires : goal.exchange-requires
exchange-requires g c =
    let held = c.in-Ok.ensures.held in
    let quiet = c.in-Ok.ensures.quiet in
    let busy = rw c.if-not-busy.false at c.are_busy-busy.ensures.busy in
    let may = may-exchange c.args.script.now c.settle.new.self held quiet busy in
    record { live = held.live; some = may.0; told = none-over c.args.script.now c.settle.new.self quiet; waits = may.1 }

-- ---- cut off among the lines

pub returns-in-Err-clause-in_time : goal.returns-in-Err-clause-in_time
returns-in-Err-clause-in_time g c = turn_breaks _ _ _ _ _ _ c.args.label.now c.args.script.now c.args.self.now Bool c.in-Err.halt c.in-Err.ensures.goes c.in-Err.ensures.marks

pub returns-in-Err-clause-cause : goal.returns-in-Err-clause-cause
returns-in-Err-clause-cause g c = caused-later (Unit {0}) Bool c.in-Err.halt _ _ _ (omega arith) c.in-Err.ensures.cause

-- ---- no line is under way

pub returns-then-not-busy-clause-less : goal.returns-then-not-busy-clause-less
returns-then-not-busy-clause-less g c = λ e. absurd (cc)

pub returns-then-not-busy-clause-idle : goal.returns-then-not-busy-clause-idle
returns-then-not-busy-clause-idle g c = λ e. rw c.if-not-busy.true at c.are_busy-busy.ensures.idle

pub returns-then-not-busy-clause-quiet : goal.returns-then-not-busy-clause-quiet
returns-then-not-busy-clause-quiet g c = λ e. c.in-Ok.ensures.quiet

pub returns-then-not-busy-clause-in_time : goal.returns-then-not-busy-clause-in_time
returns-then-not-busy-clause-in_time g c = turn_rests _ _ _ _ _ _ c.args.label.now c.args.script.now c.args.self.now c.settle.new.self c.in-Ok.ensures.goes c.in-Ok.ensures.marks

-- ---- an exchange

pub returns-in-Ok-exchange-clause-held : goal.returns-in-Ok-exchange-clause-held
returns-in-Ok-exchange-clause-held g c = exchanged-held c.args.script.now c.settle.new.self c.exchange.new.self c.in-Ok.ensures.held c.in-Ok-exchange.ensures.exchanges

pub returns-in-Ok-exchange-clause-less : goal.returns-in-Ok-exchange-clause-less
returns-in-Ok-exchange-clause-less g c = λ e. let a = c.in-Ok.ensures.less in let b = c.in-Ok-exchange.ensures.exchanges.less in omega (arith, a, b)

pub returns-in-Ok-exchange-clause-idle : goal.returns-in-Ok-exchange-clause-idle
returns-in-Ok-exchange-clause-idle g c = λ e. absurd (cc)

pub returns-in-Ok-exchange-clause-quiet : goal.returns-in-Ok-exchange-clause-quiet
returns-in-Ok-exchange-clause-quiet g c = λ e. absurd (cc)

pub returns-in-Ok-exchange-clause-goes : goal.returns-in-Ok-exchange-clause-goes
returns-in-Ok-exchange-clause-goes g c =
    let x = c.in-Ok-exchange.ensures.exchanges in
    let w : IsWaiting c.args.script.now c.settle.new.self = record { asked = c.requires.asked; sixteen = c.in-Ok.ensures.held.seated.sixteen; quiet = c.in-Ok.ensures.quiet } in
    passes_then _ _ _ _ _ _ _ _ _ _ _ _ (λ u v y z h k m p q. goes-then-on c.args.label.now c.args.script.now c.args.self.now c.settle.new.self c.exchange.new.self u v y z h k m p q)
    c.in-Ok.ensures.goes
    (passes_link _ _ _ _ _ _ (λ h k q. goes-turned c.args.label.now c.args.script.now c.settle.new.self c.exchange.new.self h k w x.lines.lanes x.lines.status q.0 q.1)
    (relates-both _ _ _ _ c.in-Ok-exchange.ensures.goes c.in-Ok-exchange.ensures.core))

pub returns-in-Ok-exchange-clause-in_time : goal.returns-in-Ok-exchange-clause-in_time
returns-in-Ok-exchange-clause-in_time g c =
    turn_goes _ _ _ _ _ _ c.args.label.now c.args.script.now c.args.self.now Bool c.settle.new.self _ (Ok true) c.in-Ok.ensures.goes c.in-Ok.ensures.marks c.in-Ok-exchange.ensures.goes

pub returns-in-Ok-exchange-clause-dials : goal.returns-in-Ok-exchange-clause-dials
returns-in-Ok-exchange-clause-dials g c = keeps_then _ _ _ _ _ _ c.in-Ok.ensures.dials c.in-Ok-exchange.ensures.dials

-- ---- cut off in the exchange

pub returns-in-Err-exchange-clause-goes : goal.returns-in-Err-exchange-clause-goes
returns-in-Err-exchange-clause-goes g c =
    let w : IsWaiting c.args.script.now c.settle.new.self = record { asked = c.requires.asked; sixteen = c.in-Ok.ensures.held.seated.sixteen; quiet = c.in-Ok.ensures.quiet } in
    passes_then _ _ _ _ _ _ _ _ _ _ _ _ (λ u v y z h k m p q. goes-then-off c.args.label.now c.args.script.now c.args.self.now c.settle.new.self c.in-Err-exchange.halt u v y z h k m p q)
    c.in-Ok.ensures.goes
    (passes_link _ _ _ _ _ _ (λ h k q. cut-turned c.args.label.now c.args.script.now c.settle.new.self c.in-Err-exchange.halt h k w q.0 q.1)
    (relates-both _ _ _ _ c.in-Err-exchange.ensures.goes c.in-Err-exchange.ensures.core))

pub returns-in-Err-exchange-clause-in_time : goal.returns-in-Err-exchange-clause-in_time
returns-in-Err-exchange-clause-in_time g c =
    turn_goes _ _ _ _ _ _ c.args.label.now c.args.script.now c.args.self.now Bool c.settle.new.self _ (Err c.in-Err-exchange.halt) c.in-Ok.ensures.goes c.in-Ok.ensures.marks c.in-Err-exchange.ensures.goes

pub returns-in-Err-exchange-clause-dials : goal.returns-in-Err-exchange-clause-dials
returns-in-Err-exchange-clause-dials g c = keeps_then _ _ _ _ _ _ c.in-Ok.ensures.dials c.in-Err-exchange.ensures.dials

pub returns-in-Err-exchange-clause-cause : goal.returns-in-Err-exchange-clause-cause
returns-in-Err-exchange-clause-cause g c = uncaused (Unit {0}) Bool c.in-Err-exchange.halt _ c.in-Err-exchange.ensures.only
