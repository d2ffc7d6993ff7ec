use Rattle.std.proofs.Common.{◌≡◌, ◌<◌, length, true, inr, sym, subst}
use Rattle.client_shelf.specs.declared.turn.Turn.{Turn}
use Rattle.client_core.specs.declared.lane.State.TheVariants.{Busy}
use Rattle.client_core.specs.Between.{AwaitsRefusal}
use Rattle.client_core.specs.Lanes.{is_busy_at}
use Rattle.client_core.specs.Steps.{IsUnmade, Refuses, IsBusyAt}
use Rattle.client_core.specs.View.{View, turn_at}
use Rattle.client_core.proofs.Leading.{asks-made, makes-sound}
use Rattle.client_core.proofs.Refusing.{on-ok}
use Rattle.client_core.proofs.work.Work.ask.Goals as goal

pub make-requires-clause-bound : goal.make-requires-clause-bound
make-requires-clause-bound c = c.requires.awaits.refusal.bound

pub make-requires-clause-room : goal.make-requires-clause-room
make-requires-clause-room c = c.requires.awaits.room

pub make-requires-clause-spells : goal.make-requires-clause-spells
make-requires-clause-spells c = c.requires.awaits.spells

pub returns-in_default-clause-asks : goal.returns-in_default-clause-asks
returns-in_default-clause-asks c = λ number machine there.
    asks-made c.args.self.now c.args.at c.number_at-lane.result number machine c.args.call.now c.make.new.self (c.number_at-lane.ensures number (Busy machine) there) (on-ok c.make.result c.make.ensures.made c.in_default.not-Err)

pub returns-in_default-clause-sound : goal.returns-in_default-clause-sound
returns-in_default-clause-sound c = makes-sound c.args.self.now c.args.at c.number_at-lane.result c.args.call.now c.make.new.self c.requires.awaits.refusal (on-ok c.make.result c.make.ensures.made c.in_default.not-Err)

pub refuse-requires-clause-unmade : goal.refuse-requires-clause-unmade
refuse-requires-clause-unmade c = subst (λ (w : View). IsUnmade w c.in-Err.fault) (sym c.in-Err.ensures.err) c.in-Err.ensures.fault

pub refuse-requires-clause-awaits : goal.refuse-requires-clause-awaits
refuse-requires-clause-awaits c = subst (λ (w : View). AwaitsRefusal w c.args.at) (sym c.in-Err.ensures.err) c.requires.awaits.refusal

pub refuse-requires-clause-turn : goal.refuse-requires-clause-turn
refuse-requires-clause-turn c = subst (λ (w : View). c.args.turn ≡ turn_at w) (sym c.in-Err.ensures.err) c.requires.turn

pub refuse-requires-clause-within : goal.refuse-requires-clause-within
refuse-requires-clause-within c = subst (λ (w : View). c.args.at < length w.lanes) (sym c.in-Err.ensures.err) c.requires.within

pub refuse-requires-clause-busy : goal.refuse-requires-clause-busy
refuse-requires-clause-busy c = subst (λ (w : View). is_busy_at c.args.at w.lanes ≡ true) (sym c.in-Err.ensures.err) c.requires.busy

pub returns-clause-asks : goal.returns-clause-asks
returns-clause-asks c = λ number machine there.
    inr (subst (λ (w : View). Refuses w c.args.at number machine c.refuse.new.self) c.in-Err.ensures.err
    (c.refuse.ensures.refuses number machine (subst (λ (w : View). IsBusyAt w c.args.at number machine) (sym c.in-Err.ensures.err) there)))
