use Rattle.std.proofs.Common.{[], sym, refl, arith}
use Rattle.outside.specs.declared.places.DatagramAdds.TheVariants as added
use Rattle.udp_link.proofs.PlacesKept.{put_then, kept_then, back_then}
use Rattle.udp_link.proofs.AfterCalls.{after_steps, after_stop, caused_arrived}
use Rattle.udp_link.proofs.TurnEnds.{turned_stays, turned_takes, turned_passes, turned_gives_up, turned_silent, turned_failed, turned_wants}
use Rattle.udp_link.proofs.link.UdpLink.turn.Goals as goal

-- no place could be kept

pub returns-then-not-keep_place-clause-turned : goal.returns-then-not-keep_place-clause-turned
returns-then-not-keep_place-clause-turned g c =
    rw (← c.self.view_is) (turned_stays g.D.Datagrams.told g.D.Datagrams.honest 0 [] c.self.inside.over _ (g.D.Datagrams.placed c.self.inside.over) _ _ _ _ _ c.self.invariant c.if-not-keep_place.ensures.told c.if-not-keep_place.ensures.no c.if-not-keep_place.ensures.honest c.if-not-keep_place.ensures.cause)

-- from the port dialed last

pub invariant_of-self-then-is_dialed : goal.invariant_of-self-then-is_dialed
invariant_of-self-then-is_dialed g c =
    let s = put_then g.D.Datagrams.told g.D.Datagrams.placed g.D.Datagrams.honest c.self.inside.over _ _ _ _ _ added.Failed added.Nothing c.self.invariant
    (record { same = c.if-not-keep_place.ensures.told; places = c.if-not-keep_place.ensures.yes; stays = c.if-not-keep_place.ensures.honest })
    (record { tells = c.in-From.ensures.told; places = c.in-From.ensures.placed; stays = c.in-From.ensures.honest })
    (record { same = c.put_place.ensures.told; places = c.put_place.ensures.placed; stays = c.put_place.ensures.honest }) in
    (after_steps g.D.Datagrams.told g.D.Datagrams.placed g.D.Datagrams.honest g.met.D.Datagrams.lawful c.self.inside.over _ _ _ _ c.self.invariant s).placed

pub returns-then-is_dialed-clause-turned : goal.returns-then-is_dialed-clause-turned
returns-then-is_dialed-clause-turned g c =
    let s = put_then g.D.Datagrams.told g.D.Datagrams.placed g.D.Datagrams.honest c.self.inside.over _ _ _ _ _ added.Failed added.Nothing c.self.invariant
    (record { same = c.if-not-keep_place.ensures.told; places = c.if-not-keep_place.ensures.yes; stays = c.if-not-keep_place.ensures.honest })
    (record { tells = c.in-From.ensures.told; places = c.in-From.ensures.placed; stays = c.in-From.ensures.honest })
    (record { same = c.put_place.ensures.told; places = c.put_place.ensures.placed; stays = c.put_place.ensures.honest }) in
    let a = after_steps g.D.Datagrams.told g.D.Datagrams.placed g.D.Datagrams.honest g.met.D.Datagrams.lawful c.self.inside.over _ _ _ _ c.self.invariant s in
    rw (← c.self.view_is) (turned_takes g.D.Datagrams.told g.D.Datagrams.honest 0 _ c.self.inside.over _ (g.D.Datagrams.placed c.self.inside.over) _ _ _ _ _ c.in-From.from (sym c.if-is_dialed.ensures) a s.tells (caused_arrived _ _ _ _ _ c.if-not-keep_place.ensures.cause c.in-From.ensures.cause c.put_place.ensures.cause))

pub returns-then-is_dialed-clause-honest : goal.returns-then-is_dialed-clause-honest
returns-then-is_dialed-clause-honest g c =
    let s = put_then g.D.Datagrams.told g.D.Datagrams.placed g.D.Datagrams.honest c.self.inside.over _ _ _ _ _ added.Failed added.Nothing c.self.invariant
    (record { same = c.if-not-keep_place.ensures.told; places = c.if-not-keep_place.ensures.yes; stays = c.if-not-keep_place.ensures.honest })
    (record { tells = c.in-From.ensures.told; places = c.in-From.ensures.placed; stays = c.in-From.ensures.honest })
    (record { same = c.put_place.ensures.told; places = c.put_place.ensures.placed; stays = c.put_place.ensures.honest }) in
    rw (← c.self.view_is) (after_steps g.D.Datagrams.told g.D.Datagrams.placed g.D.Datagrams.honest g.met.D.Datagrams.lawful c.self.inside.over _ _ _ _ c.self.invariant s).stays

-- from another one, the last that is passed over

pub invariant_of-self-then-passed-eq-MOST_PASSED : goal.invariant_of-self-then-passed-eq-MOST_PASSED
invariant_of-self-then-passed-eq-MOST_PASSED g c =
    let s = kept_then g.D.Datagrams.told g.D.Datagrams.placed g.D.Datagrams.honest c.self.inside.over _ _ _ _ added.Failed c.self.invariant
    (record { same = c.if-not-keep_place.ensures.told; places = c.if-not-keep_place.ensures.yes; stays = c.if-not-keep_place.ensures.honest })
    (record { tells = c.in-From.ensures.told; places = c.in-From.ensures.placed; stays = c.in-From.ensures.honest }) in
    (after_steps g.D.Datagrams.told g.D.Datagrams.placed g.D.Datagrams.honest g.met.D.Datagrams.lawful c.self.inside.over _ _ _ _ c.self.invariant s).placed

pub returns-then-passed-eq-MOST_PASSED-clause-turned : goal.returns-then-passed-eq-MOST_PASSED-clause-turned
returns-then-passed-eq-MOST_PASSED-clause-turned g c =
    let s = kept_then g.D.Datagrams.told g.D.Datagrams.placed g.D.Datagrams.honest c.self.inside.over _ _ _ _ added.Failed c.self.invariant
    (record { same = c.if-not-keep_place.ensures.told; places = c.if-not-keep_place.ensures.yes; stays = c.if-not-keep_place.ensures.honest })
    (record { tells = c.in-From.ensures.told; places = c.in-From.ensures.placed; stays = c.in-From.ensures.honest }) in
    let a = after_steps g.D.Datagrams.told g.D.Datagrams.placed g.D.Datagrams.honest g.met.D.Datagrams.lawful c.self.inside.over _ _ _ _ c.self.invariant s in
    rw (← c.self.view_is) (turned_gives_up g.D.Datagrams.told g.D.Datagrams.honest c.args.passed _ c.self.inside.over _ (g.D.Datagrams.placed c.self.inside.over) _ _ _ _ _ _ c.in-From.from (sym c.if-is_dialed.ensures) (omega (arith, c.if-passed-eq-MOST_PASSED.true)) (omega (arith, c.saturating_add-self-inside.ensures)) (omega (arith, c.saturating_add-self-inside.ensures)) a s.tells (caused_arrived _ _ _ _ _ c.if-not-keep_place.ensures.cause c.in-From.ensures.cause refl))

pub returns-then-passed-eq-MOST_PASSED-clause-honest : goal.returns-then-passed-eq-MOST_PASSED-clause-honest
returns-then-passed-eq-MOST_PASSED-clause-honest g c =
    let s = kept_then g.D.Datagrams.told g.D.Datagrams.placed g.D.Datagrams.honest c.self.inside.over _ _ _ _ added.Failed c.self.invariant
    (record { same = c.if-not-keep_place.ensures.told; places = c.if-not-keep_place.ensures.yes; stays = c.if-not-keep_place.ensures.honest })
    (record { tells = c.in-From.ensures.told; places = c.in-From.ensures.placed; stays = c.in-From.ensures.honest }) in
    rw (← c.self.view_is) (after_steps g.D.Datagrams.told g.D.Datagrams.placed g.D.Datagrams.honest g.met.D.Datagrams.lawful c.self.inside.over _ _ _ _ c.self.invariant s).stays

-- from another one, and more are waited for

pub invariant_of-self-in-From : goal.invariant_of-self-in-From
invariant_of-self-in-From g c =
    let s = put_then g.D.Datagrams.told g.D.Datagrams.placed g.D.Datagrams.honest c.self.inside.over _ _ _ _ _ added.Failed added.Nothing c.self.invariant
    (record { same = c.if-not-keep_place.ensures.told; places = c.if-not-keep_place.ensures.yes; stays = c.if-not-keep_place.ensures.honest })
    (record { tells = c.in-From.ensures.told; places = c.in-From.ensures.placed; stays = c.in-From.ensures.honest })
    (record { same = c.put_place-in-From.ensures.told; places = c.put_place-in-From.ensures.placed; stays = c.put_place-in-From.ensures.honest }) in
    (after_steps g.D.Datagrams.told g.D.Datagrams.placed g.D.Datagrams.honest g.met.D.Datagrams.lawful c.self.inside.over _ _ _ _ c.self.invariant s).placed

pub returns-else-passed-eq-MOST_PASSED-clause-turned : goal.returns-else-passed-eq-MOST_PASSED-clause-turned
returns-else-passed-eq-MOST_PASSED-clause-turned g c =
    let s = put_then g.D.Datagrams.told g.D.Datagrams.placed g.D.Datagrams.honest c.self.inside.over _ _ _ _ _ added.Failed added.Nothing c.self.invariant
    (record { same = c.if-not-keep_place.ensures.told; places = c.if-not-keep_place.ensures.yes; stays = c.if-not-keep_place.ensures.honest })
    (record { tells = c.in-From.ensures.told; places = c.in-From.ensures.placed; stays = c.in-From.ensures.honest })
    (record { same = c.put_place-in-From.ensures.told; places = c.put_place-in-From.ensures.placed; stays = c.put_place-in-From.ensures.honest }) in
    let a = after_steps g.D.Datagrams.told g.D.Datagrams.placed g.D.Datagrams.honest g.met.D.Datagrams.lawful c.self.inside.over _ _ _ _ c.self.invariant s in
    rw (← c.self.view_is) (turned_passes g.D.Datagrams.told g.D.Datagrams.honest c.args.passed _ c.self.inside.over _ (g.D.Datagrams.placed c.self.inside.over) _ _ _ _ _ c.in-From.from (sym c.if-is_dialed.ensures) c.if-passed-eq-MOST_PASSED.false a s.tells (caused_arrived _ _ _ _ _ c.if-not-keep_place.ensures.cause c.in-From.ensures.cause c.put_place-in-From.ensures.cause))

pub returns-else-passed-eq-MOST_PASSED-clause-honest : goal.returns-else-passed-eq-MOST_PASSED-clause-honest
returns-else-passed-eq-MOST_PASSED-clause-honest g c =
    let s = put_then g.D.Datagrams.told g.D.Datagrams.placed g.D.Datagrams.honest c.self.inside.over _ _ _ _ _ added.Failed added.Nothing c.self.invariant
    (record { same = c.if-not-keep_place.ensures.told; places = c.if-not-keep_place.ensures.yes; stays = c.if-not-keep_place.ensures.honest })
    (record { tells = c.in-From.ensures.told; places = c.in-From.ensures.placed; stays = c.in-From.ensures.honest })
    (record { same = c.put_place-in-From.ensures.told; places = c.put_place-in-From.ensures.placed; stays = c.put_place-in-From.ensures.honest }) in
    rw (← c.self.view_is) (after_steps g.D.Datagrams.told g.D.Datagrams.placed g.D.Datagrams.honest g.met.D.Datagrams.lawful c.self.inside.over _ _ _ _ c.self.invariant s).stays

-- none came

pub invariant_of-self-in-Silent : goal.invariant_of-self-in-Silent
invariant_of-self-in-Silent g c =
    let s = kept_then g.D.Datagrams.told g.D.Datagrams.placed g.D.Datagrams.honest c.self.inside.over _ _ _ _ added.Failed c.self.invariant
    (record { same = c.if-not-keep_place.ensures.told; places = c.if-not-keep_place.ensures.yes; stays = c.if-not-keep_place.ensures.honest })
    (record { tells = c.in-Silent.ensures.told; places = c.in-Silent.ensures.placed; stays = c.in-Silent.ensures.honest }) in
    (after_steps g.D.Datagrams.told g.D.Datagrams.placed g.D.Datagrams.honest g.met.D.Datagrams.lawful c.self.inside.over _ _ _ _ c.self.invariant s).placed

pub returns-in-Silent-clause-turned : goal.returns-in-Silent-clause-turned
returns-in-Silent-clause-turned g c =
    let s = kept_then g.D.Datagrams.told g.D.Datagrams.placed g.D.Datagrams.honest c.self.inside.over _ _ _ _ added.Failed c.self.invariant
    (record { same = c.if-not-keep_place.ensures.told; places = c.if-not-keep_place.ensures.yes; stays = c.if-not-keep_place.ensures.honest })
    (record { tells = c.in-Silent.ensures.told; places = c.in-Silent.ensures.placed; stays = c.in-Silent.ensures.honest }) in
    let a = after_steps g.D.Datagrams.told g.D.Datagrams.placed g.D.Datagrams.honest g.met.D.Datagrams.lawful c.self.inside.over _ _ _ _ c.self.invariant s in
    rw (← c.self.view_is) (turned_silent g.D.Datagrams.told g.D.Datagrams.honest c.args.passed [] c.self.inside.over _ (g.D.Datagrams.placed c.self.inside.over) _ _ _ _ _ a s.tells (caused_arrived _ _ _ _ _ c.if-not-keep_place.ensures.cause c.in-Silent.ensures.cause refl))

pub returns-in-Silent-clause-honest : goal.returns-in-Silent-clause-honest
returns-in-Silent-clause-honest g c =
    let s = kept_then g.D.Datagrams.told g.D.Datagrams.placed g.D.Datagrams.honest c.self.inside.over _ _ _ _ added.Failed c.self.invariant
    (record { same = c.if-not-keep_place.ensures.told; places = c.if-not-keep_place.ensures.yes; stays = c.if-not-keep_place.ensures.honest })
    (record { tells = c.in-Silent.ensures.told; places = c.in-Silent.ensures.placed; stays = c.in-Silent.ensures.honest }) in
    rw (← c.self.view_is) (after_steps g.D.Datagrams.told g.D.Datagrams.placed g.D.Datagrams.honest g.met.D.Datagrams.lawful c.self.inside.over _ _ _ _ c.self.invariant s).stays

-- the datagrams failed

pub invariant_of-self-in-Failed : goal.invariant_of-self-in-Failed
invariant_of-self-in-Failed g c =
    let s = kept_then g.D.Datagrams.told g.D.Datagrams.placed g.D.Datagrams.honest c.self.inside.over _ _ _ _ added.Failed c.self.invariant
    (record { same = c.if-not-keep_place.ensures.told; places = c.if-not-keep_place.ensures.yes; stays = c.if-not-keep_place.ensures.honest })
    (record { tells = c.in-Failed.ensures.told; places = c.in-Failed.ensures.placed; stays = c.in-Failed.ensures.honest }) in
    (after_steps g.D.Datagrams.told g.D.Datagrams.placed g.D.Datagrams.honest g.met.D.Datagrams.lawful c.self.inside.over _ _ _ _ c.self.invariant s).placed

pub returns-in-Failed-clause-turned : goal.returns-in-Failed-clause-turned
returns-in-Failed-clause-turned g c =
    let s = kept_then g.D.Datagrams.told g.D.Datagrams.placed g.D.Datagrams.honest c.self.inside.over _ _ _ _ added.Failed c.self.invariant
    (record { same = c.if-not-keep_place.ensures.told; places = c.if-not-keep_place.ensures.yes; stays = c.if-not-keep_place.ensures.honest })
    (record { tells = c.in-Failed.ensures.told; places = c.in-Failed.ensures.placed; stays = c.in-Failed.ensures.honest }) in
    let a = after_steps g.D.Datagrams.told g.D.Datagrams.placed g.D.Datagrams.honest g.met.D.Datagrams.lawful c.self.inside.over _ _ _ _ c.self.invariant s in
    rw (← c.self.view_is) (turned_failed g.D.Datagrams.told g.D.Datagrams.honest 0 [] c.self.inside.over _ (g.D.Datagrams.placed c.self.inside.over) _ _ _ _ _ a s.tells (caused_arrived _ _ _ _ _ c.if-not-keep_place.ensures.cause c.in-Failed.ensures.cause refl))

pub returns-in-Failed-clause-honest : goal.returns-in-Failed-clause-honest
returns-in-Failed-clause-honest g c =
    let s = kept_then g.D.Datagrams.told g.D.Datagrams.placed g.D.Datagrams.honest c.self.inside.over _ _ _ _ added.Failed c.self.invariant
    (record { same = c.if-not-keep_place.ensures.told; places = c.if-not-keep_place.ensures.yes; stays = c.if-not-keep_place.ensures.honest })
    (record { tells = c.in-Failed.ensures.told; places = c.in-Failed.ensures.placed; stays = c.in-Failed.ensures.honest }) in
    rw (← c.self.view_is) (after_steps g.D.Datagrams.told g.D.Datagrams.placed g.D.Datagrams.honest g.met.D.Datagrams.lawful c.self.inside.over _ _ _ _ c.self.invariant s).stays

-- memory ran out

pub invariant_of-self-in-Memory : goal.invariant_of-self-in-Memory
invariant_of-self-in-Memory g c =
    let s = back_then g.D.Datagrams.told g.D.Datagrams.placed g.D.Datagrams.honest c.self.inside.over _ _ _ _ added.Failed c.self.invariant
    (record { same = c.if-not-keep_place.ensures.told; places = c.if-not-keep_place.ensures.yes; stays = c.if-not-keep_place.ensures.honest })
    (record { tells = c.in-Memory.ensures.told; places = c.in-Memory.ensures.placed; stays = c.in-Memory.ensures.honest })
    (record { same = c.give_back.ensures.told; places = c.give_back.ensures.placed; stays = c.give_back.ensures.honest }) in
    (after_stop g.D.Datagrams.told g.D.Datagrams.placed g.D.Datagrams.honest c.self.inside.over _ _ c.self.invariant s).placed

pub returns-in-Memory-clause-turned : goal.returns-in-Memory-clause-turned
returns-in-Memory-clause-turned g c =
    let s = back_then g.D.Datagrams.told g.D.Datagrams.placed g.D.Datagrams.honest c.self.inside.over _ _ _ _ added.Failed c.self.invariant
    (record { same = c.if-not-keep_place.ensures.told; places = c.if-not-keep_place.ensures.yes; stays = c.if-not-keep_place.ensures.honest })
    (record { tells = c.in-Memory.ensures.told; places = c.in-Memory.ensures.placed; stays = c.in-Memory.ensures.honest })
    (record { same = c.give_back.ensures.told; places = c.give_back.ensures.placed; stays = c.give_back.ensures.honest }) in
    let a = after_stop g.D.Datagrams.told g.D.Datagrams.placed g.D.Datagrams.honest c.self.inside.over _ _ c.self.invariant s in
    rw (← c.self.view_is) (turned_wants g.D.Datagrams.told g.D.Datagrams.honest 0 [] c.self.inside.over _ (g.D.Datagrams.placed c.self.inside.over) _ _ _ _ _ a s.tells (caused_arrived _ _ _ _ _ c.if-not-keep_place.ensures.cause c.in-Memory.ensures.cause c.give_back.ensures.cause))

pub returns-in-Memory-clause-honest : goal.returns-in-Memory-clause-honest
returns-in-Memory-clause-honest g c =
    let s = back_then g.D.Datagrams.told g.D.Datagrams.placed g.D.Datagrams.honest c.self.inside.over _ _ _ _ added.Failed c.self.invariant
    (record { same = c.if-not-keep_place.ensures.told; places = c.if-not-keep_place.ensures.yes; stays = c.if-not-keep_place.ensures.honest })
    (record { tells = c.in-Memory.ensures.told; places = c.in-Memory.ensures.placed; stays = c.in-Memory.ensures.honest })
    (record { same = c.give_back.ensures.told; places = c.give_back.ensures.placed; stays = c.give_back.ensures.honest }) in
    rw (← c.self.view_is) (after_stop g.D.Datagrams.told g.D.Datagrams.placed g.D.Datagrams.honest c.self.inside.over _ _ c.self.invariant s).stays
