use Rattle.std.proofs.Common.{false}
use Rattle.rpc_record.proofs.LineStaysHonest.{place_stays}
use Rattle.rpc_record.proofs.Replays.{room_more, place_same}
use Rattle.rpc_record.proofs.line.Line.place.Goals as goal

pub invariant_of-self-2 : goal.invariant_of-self-2
invariant_of-self-2 g c =
    let more = room_more (g.W.Wire.told c.self.inside.wire) (g.W.Wire.placed c.self.inside.wire) _ (record { call = false; adds = c.args.adds }) c.self.invariant c.if-not-keep_place.ensures.yes in
    (place_same (g.W.Wire.told c.self.inside.wire) _ (g.W.Wire.placed c.self.inside.wire) _ c.args.adds c.self.invariant more c.if-not-keep_place.ensures.told).placed

pub returns-clause-yes : goal.returns-clause-yes
returns-clause-yes g c =
    let more = room_more (g.W.Wire.told c.self.inside.wire) (g.W.Wire.placed c.self.inside.wire) _ (record { call = false; adds = c.args.adds }) c.self.invariant c.if-not-keep_place.ensures.yes in
    rw (← c.self.view_is) (place_same (g.W.Wire.told c.self.inside.wire) _ (g.W.Wire.placed c.self.inside.wire) _ c.args.adds c.self.invariant more c.if-not-keep_place.ensures.told).goes

pub returns-clause-honest : goal.returns-clause-honest
returns-clause-honest g c =
    let more = room_more (g.W.Wire.told c.self.inside.wire) (g.W.Wire.placed c.self.inside.wire) _ (record { call = false; adds = c.args.adds }) c.self.invariant c.if-not-keep_place.ensures.yes in
    rw (← c.self.view_is) (place_stays g.W.Wire.told g.W.Wire.honest g.met.W.Wire.lawful c.self.inside.wire _ (g.W.Wire.placed c.self.inside.wire) _ _ _ c.args.adds c.self.invariant more c.if-not-keep_place.ensures.told c.if-not-keep_place.ensures.honest)
