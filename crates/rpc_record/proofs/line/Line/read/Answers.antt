use Rattle.std.proofs.Common.{true, false}
use Rattle.outside.specs.declared.places.WirePlace.{WirePlace}
use Rattle.outside.specs.declared.places.WireAdds.TheVariants as added
use Rattle.rpc_record.proofs.LineStaysHonest.{own_honest, none_honest}
use Rattle.rpc_record.proofs.Replays.{call_now, none_now}
use Rattle.rpc_record.proofs.LineCalls.{put_then, kept_then}
use Rattle.rpc_record.proofs.line.Line.read.Goals as goal
use Rattle.rpc_record.proofs.line.Line.read.Goals.{in-Got, in-Silent, in-Failed}

abbrev nothing : WirePlace
nothing = record { call = false; adds = added.Nothing }

pub invariant_of-self-in-Memory : goal.invariant_of-self-in-Memory
invariant_of-self-in-Memory g c =
    let s = kept_then g.W.Wire.told g.W.Wire.placed g.W.Wire.honest c.self.inside.wire _ _ _ nothing c.self.invariant
    (record { same = c.if-not-keep_place.ensures.told; places = c.if-not-keep_place.ensures.yes; stays = c.if-not-keep_place.ensures.honest })
    (record { tells = c.in-Memory.ensures.told; places = c.in-Memory.ensures.placed; stays = c.in-Memory.ensures.honest }) in
    (none_now _ _ (g.W.Wire.placed c.self.inside.wire) _ c.self.invariant s.more s.tells).placed

pub returns-in-Memory-clause-now : goal.returns-in-Memory-clause-now
returns-in-Memory-clause-now g c =
    let s = kept_then g.W.Wire.told g.W.Wire.placed g.W.Wire.honest c.self.inside.wire _ _ _ nothing c.self.invariant
    (record { same = c.if-not-keep_place.ensures.told; places = c.if-not-keep_place.ensures.yes; stays = c.if-not-keep_place.ensures.honest })
    (record { tells = c.in-Memory.ensures.told; places = c.in-Memory.ensures.placed; stays = c.in-Memory.ensures.honest }) in
    rw (← c.self.view_is) (none_now _ _ (g.W.Wire.placed c.self.inside.wire) _ c.self.invariant s.more s.tells).goes

pub invariant_of-self-2 : goal.invariant_of-self-2
invariant_of-self-2 g c =
    elim c.match-got.branch [
      | in-Got w ↦ let s = put_then g.W.Wire.told g.W.Wire.placed g.W.Wire.honest c.self.inside.wire _ _ _ _ nothing (record { call = true; adds = added.Nothing }) c.self.invariant
          (record { same = c.if-not-keep_place.ensures.told; places = c.if-not-keep_place.ensures.yes; stays = c.if-not-keep_place.ensures.honest })
          (record { tells = w.in-Got.ensures.told; places = w.in-Got.ensures.placed; stays = w.in-Got.ensures.honest })
          (record { same = c.put_place.ensures.told; places = (rw w.adds-is at c.put_place.ensures.placed); stays = c.put_place.ensures.honest }) in (call_now _ _ (g.W.Wire.placed c.self.inside.wire) _ _ added.Nothing c.self.invariant s.more s.tells).placed
      | in-Silent w ↦ let s = put_then g.W.Wire.told g.W.Wire.placed g.W.Wire.honest c.self.inside.wire _ _ _ _ nothing (record { call = true; adds = added.Failed }) c.self.invariant
          (record { same = c.if-not-keep_place.ensures.told; places = c.if-not-keep_place.ensures.yes; stays = c.if-not-keep_place.ensures.honest })
          (record { tells = w.in-Silent.ensures.told; places = w.in-Silent.ensures.placed; stays = w.in-Silent.ensures.honest })
          (record { same = c.put_place.ensures.told; places = (rw w.adds-is at c.put_place.ensures.placed); stays = c.put_place.ensures.honest }) in (call_now _ _ (g.W.Wire.placed c.self.inside.wire) _ _ added.Failed c.self.invariant s.more s.tells).placed
      | in-Failed w ↦ let s = put_then g.W.Wire.told g.W.Wire.placed g.W.Wire.honest c.self.inside.wire _ _ _ _ nothing (record { call = true; adds = added.Failed }) c.self.invariant
          (record { same = c.if-not-keep_place.ensures.told; places = c.if-not-keep_place.ensures.yes; stays = c.if-not-keep_place.ensures.honest })
          (record { tells = w.in-Failed.ensures.told; places = w.in-Failed.ensures.placed; stays = w.in-Failed.ensures.honest })
          (record { same = c.put_place.ensures.told; places = (rw w.adds-is at c.put_place.ensures.placed); stays = c.put_place.ensures.honest }) in (call_now _ _ (g.W.Wire.placed c.self.inside.wire) _ _ added.Failed c.self.invariant s.more s.tells).placed
    ]

pub returns-clause-now : goal.returns-clause-now
returns-clause-now g c =
    elim c.match-got.branch [
      | in-Got w ↦ let s = put_then g.W.Wire.told g.W.Wire.placed g.W.Wire.honest c.self.inside.wire _ _ _ _ nothing (record { call = true; adds = added.Nothing }) c.self.invariant
          (record { same = c.if-not-keep_place.ensures.told; places = c.if-not-keep_place.ensures.yes; stays = c.if-not-keep_place.ensures.honest })
          (record { tells = w.in-Got.ensures.told; places = w.in-Got.ensures.placed; stays = w.in-Got.ensures.honest })
          (record { same = c.put_place.ensures.told; places = (rw w.adds-is at c.put_place.ensures.placed); stays = c.put_place.ensures.honest }) in rw (← c.self.view_is, w.in-Got.is) (call_now _ _ (g.W.Wire.placed c.self.inside.wire) _ _ added.Nothing c.self.invariant s.more s.tells).goes
      | in-Silent w ↦ let s = put_then g.W.Wire.told g.W.Wire.placed g.W.Wire.honest c.self.inside.wire _ _ _ _ nothing (record { call = true; adds = added.Failed }) c.self.invariant
          (record { same = c.if-not-keep_place.ensures.told; places = c.if-not-keep_place.ensures.yes; stays = c.if-not-keep_place.ensures.honest })
          (record { tells = w.in-Silent.ensures.told; places = w.in-Silent.ensures.placed; stays = w.in-Silent.ensures.honest })
          (record { same = c.put_place.ensures.told; places = (rw w.adds-is at c.put_place.ensures.placed); stays = c.put_place.ensures.honest }) in rw (← c.self.view_is, w.in-Silent.is) (call_now _ _ (g.W.Wire.placed c.self.inside.wire) _ _ added.Failed c.self.invariant s.more s.tells).goes
      | in-Failed w ↦ let s = put_then g.W.Wire.told g.W.Wire.placed g.W.Wire.honest c.self.inside.wire _ _ _ _ nothing (record { call = true; adds = added.Failed }) c.self.invariant
          (record { same = c.if-not-keep_place.ensures.told; places = c.if-not-keep_place.ensures.yes; stays = c.if-not-keep_place.ensures.honest })
          (record { tells = w.in-Failed.ensures.told; places = w.in-Failed.ensures.placed; stays = w.in-Failed.ensures.honest })
          (record { same = c.put_place.ensures.told; places = (rw w.adds-is at c.put_place.ensures.placed); stays = c.put_place.ensures.honest }) in rw (← c.self.view_is, w.in-Failed.is) (call_now _ _ (g.W.Wire.placed c.self.inside.wire) _ _ added.Failed c.self.invariant s.more s.tells).goes
    ]

pub returns-in-Memory-clause-honest : goal.returns-in-Memory-clause-honest
returns-in-Memory-clause-honest g c =
    let s = kept_then g.W.Wire.told g.W.Wire.placed g.W.Wire.honest c.self.inside.wire _ _ _ nothing c.self.invariant
    (record { same = c.if-not-keep_place.ensures.told; places = c.if-not-keep_place.ensures.yes; stays = c.if-not-keep_place.ensures.honest })
    (record { tells = c.in-Memory.ensures.told; places = c.in-Memory.ensures.placed; stays = c.in-Memory.ensures.honest }) in
    rw (← c.self.view_is) (none_honest g.W.Wire.told g.W.Wire.honest g.met.W.Wire.lawful c.self.inside.wire _ (g.W.Wire.placed c.self.inside.wire) _ _ _ c.self.invariant s.more s.tells s.stays)

pub returns-clause-honest : goal.returns-clause-honest
returns-clause-honest g c =
    elim c.match-got.branch [
      | in-Got w ↦ let s = put_then g.W.Wire.told g.W.Wire.placed g.W.Wire.honest c.self.inside.wire _ _ _ _ nothing (record { call = true; adds = added.Nothing }) c.self.invariant
          (record { same = c.if-not-keep_place.ensures.told; places = c.if-not-keep_place.ensures.yes; stays = c.if-not-keep_place.ensures.honest })
          (record { tells = w.in-Got.ensures.told; places = w.in-Got.ensures.placed; stays = w.in-Got.ensures.honest })
          (record { same = c.put_place.ensures.told; places = (rw w.adds-is at c.put_place.ensures.placed); stays = c.put_place.ensures.honest }) in rw (← c.self.view_is) (own_honest g.W.Wire.told g.W.Wire.honest g.met.W.Wire.lawful c.self.inside.wire _ (g.W.Wire.placed c.self.inside.wire) _ _ _ _ added.Nothing c.self.invariant s.more s.tells s.stays tt tt)
      | in-Silent w ↦ let s = put_then g.W.Wire.told g.W.Wire.placed g.W.Wire.honest c.self.inside.wire _ _ _ _ nothing (record { call = true; adds = added.Failed }) c.self.invariant
          (record { same = c.if-not-keep_place.ensures.told; places = c.if-not-keep_place.ensures.yes; stays = c.if-not-keep_place.ensures.honest })
          (record { tells = w.in-Silent.ensures.told; places = w.in-Silent.ensures.placed; stays = w.in-Silent.ensures.honest })
          (record { same = c.put_place.ensures.told; places = (rw w.adds-is at c.put_place.ensures.placed); stays = c.put_place.ensures.honest }) in rw (← c.self.view_is) (own_honest g.W.Wire.told g.W.Wire.honest g.met.W.Wire.lawful c.self.inside.wire _ (g.W.Wire.placed c.self.inside.wire) _ _ _ _ added.Failed c.self.invariant s.more s.tells s.stays tt tt)
      | in-Failed w ↦ let s = put_then g.W.Wire.told g.W.Wire.placed g.W.Wire.honest c.self.inside.wire _ _ _ _ nothing (record { call = true; adds = added.Failed }) c.self.invariant
          (record { same = c.if-not-keep_place.ensures.told; places = c.if-not-keep_place.ensures.yes; stays = c.if-not-keep_place.ensures.honest })
          (record { tells = w.in-Failed.ensures.told; places = w.in-Failed.ensures.placed; stays = w.in-Failed.ensures.honest })
          (record { same = c.put_place.ensures.told; places = (rw w.adds-is at c.put_place.ensures.placed); stays = c.put_place.ensures.honest }) in rw (← c.self.view_is) (own_honest g.W.Wire.told g.W.Wire.honest g.met.W.Wire.lawful c.self.inside.wire _ (g.W.Wire.placed c.self.inside.wire) _ _ _ _ added.Failed c.self.invariant s.more s.tells s.stays tt tt)
    ]
