use Rattle.std.proofs.Common.{◌≡◌, ◌<◌, List, length, get_or, inl, inr, refl, rules}
use Rattle.world_link.specs.declared.waiting.Queued.{Queued}
use Rattle.world_link.specs.Ends.{world_ends, record_in}
use Rattle.world_link.specs.View.{seen}
use Rattle.world_link.proofs.EndsStayRight.{ends_then, ends_any}
use Rattle.world_link.proofs.PairHonest.{turn_ends}
use Rattle.world_link.proofs.Queues.{some_waits, first_waits, rest_waits, first_record, rest_records}
use Rattle.world_link.proofs.ServerEntriesOnly.{then_goes, on_goes}
use Rattle.world_link.proofs.TurnStaysHonest.{same_stays}
use Rattle.world_link.proofs.WorldKeepsContract.{turn_stays}
use Rattle.world_link.proofs.world.World.turn.Goals as goal

pub returns-clause-goes : goal.returns-clause-goes
returns-clause-goes c = on_goes _ _ (then_goes _ _ _ c.in_ok-turn.ensures.goes c.release.ensures.goes) refl refl

pub returns-clause-stays : goal.returns-clause-stays
returns-clause-stays c =
    let items : List Queued = c.args.self.now.waiting.items in
    let q : Queued = c.in-Some.queued.now in
    let some : 0 < length items = search rules in
    let first : q ≡ get_or items 0 q = search rules in
    turn_stays (seen c.args.self.now) _ _ q.waiting c.bytes.result.now c.fate_of-fate.result.now c.manner_of-manner.result (some_waits items some) (first_waits items q some first) (search rules) (search rules) (search rules)
    c.in_ok-turn.ensures.stays c.release.ensures.stays (then_goes _ _ _ c.in_ok-turn.ensures.goes c.release.ensures.goes) refl refl (inr (rest_waits items _ c.pop_front.ensures.rest))

pub returns-in_err-turn-clause-stays : goal.returns-in_err-turn-clause-stays
returns-in_err-turn-clause-stays c =
    let items : List Queued = c.args.self.now.waiting.items in
    let q : Queued = c.in-Some.queued.now in
    let some : 0 < length items = search rules in
    let first : q ≡ get_or items 0 q = search rules in
    turn_stays (seen c.args.self.now) _ _ q.waiting c.bytes.result.now c.fate_of-fate.result.now c.manner_of-manner.result (some_waits items some) (first_waits items q some first) (search rules) (search rules) (search rules)
    c.in_err-turn.ensures.stays (same_stays _ _ refl) c.in_err-turn.ensures.goes refl refl (inl refl)

pub returns-clause-ends : goal.returns-clause-ends
returns-clause-ends c =
    let items : List Queued = c.args.self.now.waiting.items in
    let q : Queued = c.in-Some.queued.now in
    let some : 0 < length items = search rules in
    let first : q ≡ get_or items 0 q = search rules in
    turn_ends (world_ends c.args.self.now) _ (record_in q) c.bytes.result.now (search rules) (first_record items q some first) (ends_then _ _ _ _ _ c.in_ok-turn.ensures.ends c.release.ensures.ends (λ s. tt)) (rest_records _ items _ c.pop_front.ensures.rest)

pub returns-in_err-turn-clause-ends : goal.returns-in_err-turn-clause-ends
returns-in_err-turn-clause-ends c =
    let items : List Queued = c.args.self.now.waiting.items in
    let q : Queued = c.in-Some.queued.now in
    let some : 0 < length items = search rules in
    let first : q ≡ get_or items 0 q = search rules in
    turn_ends (world_ends c.args.self.now) _ (record_in q) c.bytes.result.now (search rules) (first_record items q some first) c.in_err-turn.ensures.ends (λ e. e)
