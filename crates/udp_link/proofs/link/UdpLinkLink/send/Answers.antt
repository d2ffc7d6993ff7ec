use Rattle.outside.specs.declared.places.DatagramAdds.TheVariants as added
use Rattle.udp_link.proofs.PlacesKept.{put_then, kept_then, back_then}
use Rattle.udp_link.proofs.AfterCalls.{after_steps, after_stop}
use Rattle.udp_link.proofs.link.UdpLinkLink.send.Goals as goal

pub invariant_of-self-in-Ok : goal.invariant_of-self-in-Ok
invariant_of-self-in-Ok g c =
    let s = put_then g.D.Datagrams.told g.D.Datagrams.placed g.D.Datagrams.honest c.self.inside.over _ _ _ _ _ (added.Unsent c.bytes-bytes.result.now) added.Nothing c.self.invariant
    (record { same = c.if-not-keep_unsent.ensures.told; places = c.if-not-keep_unsent.ensures.yes; stays = c.if-not-keep_unsent.ensures.honest })
    (record { tells = c.in-Ok.ensures.told; places = c.in-Ok.ensures.placed; stays = c.in-Ok.ensures.honest })
    (record { same = c.put_place.ensures.told; places = c.put_place.ensures.placed; stays = c.put_place.ensures.honest }) in
    (after_steps g.D.Datagrams.told g.D.Datagrams.placed g.D.Datagrams.honest g.met.D.Datagrams.lawful c.self.inside.over _ _ _ _ c.self.invariant s).placed

pub invariant_of-self-in-Err-Failed : goal.invariant_of-self-in-Err-Failed
invariant_of-self-in-Err-Failed g c =
    let s = kept_then g.D.Datagrams.told g.D.Datagrams.placed g.D.Datagrams.honest c.self.inside.over _ _ _ _ (added.Unsent c.bytes-bytes.result.now) c.self.invariant
    (record { same = c.if-not-keep_unsent.ensures.told; places = c.if-not-keep_unsent.ensures.yes; stays = c.if-not-keep_unsent.ensures.honest })
    (record { tells = (rw c.in-Err-Failed.field-0-is at c.in-Err-Failed.ensures.told); places = c.in-Err-Failed.ensures.placed; stays = c.in-Err-Failed.ensures.honest }) in
    (after_steps g.D.Datagrams.told g.D.Datagrams.placed g.D.Datagrams.honest g.met.D.Datagrams.lawful c.self.inside.over _ _ _ _ c.self.invariant s).placed

pub invariant_of-self-in-Err-Memory : goal.invariant_of-self-in-Err-Memory
invariant_of-self-in-Err-Memory g c =
    let s = back_then g.D.Datagrams.told g.D.Datagrams.placed g.D.Datagrams.honest c.self.inside.over _ _ _ _ (added.Unsent c.bytes-bytes.result.now) c.self.invariant
    (record { same = c.if-not-keep_unsent.ensures.told; places = c.if-not-keep_unsent.ensures.yes; stays = c.if-not-keep_unsent.ensures.honest })
    (record { tells = (rw c.in-Err-Memory.field-0-is at c.in-Err-Memory.ensures.told); places = c.in-Err-Memory.ensures.placed; stays = c.in-Err-Memory.ensures.honest })
    (record { same = c.give_back.ensures.told; places = c.give_back.ensures.placed; stays = c.give_back.ensures.honest }) in
    (after_stop g.D.Datagrams.told g.D.Datagrams.placed g.D.Datagrams.honest c.self.inside.over _ _ c.self.invariant s).placed

pub returns-in-Ok-clause-told : goal.returns-in-Ok-clause-told
returns-in-Ok-clause-told g c =
    let s = put_then g.D.Datagrams.told g.D.Datagrams.placed g.D.Datagrams.honest c.self.inside.over _ _ _ _ _ (added.Unsent c.bytes-bytes.result.now) added.Nothing c.self.invariant
    (record { same = c.if-not-keep_unsent.ensures.told; places = c.if-not-keep_unsent.ensures.yes; stays = c.if-not-keep_unsent.ensures.honest })
    (record { tells = c.in-Ok.ensures.told; places = c.in-Ok.ensures.placed; stays = c.in-Ok.ensures.honest })
    (record { same = c.put_place.ensures.told; places = c.put_place.ensures.placed; stays = c.put_place.ensures.honest }) in
    rw (← c.self.view_is, ← c.bytes-bytes.ensures) (after_steps g.D.Datagrams.told g.D.Datagrams.placed g.D.Datagrams.honest g.met.D.Datagrams.lawful c.self.inside.over _ _ _ _ c.self.invariant s).tells

pub returns-in-Err-Failed-clause-told : goal.returns-in-Err-Failed-clause-told
returns-in-Err-Failed-clause-told g c =
    let s = kept_then g.D.Datagrams.told g.D.Datagrams.placed g.D.Datagrams.honest c.self.inside.over _ _ _ _ (added.Unsent c.bytes-bytes.result.now) c.self.invariant
    (record { same = c.if-not-keep_unsent.ensures.told; places = c.if-not-keep_unsent.ensures.yes; stays = c.if-not-keep_unsent.ensures.honest })
    (record { tells = (rw c.in-Err-Failed.field-0-is at c.in-Err-Failed.ensures.told); places = c.in-Err-Failed.ensures.placed; stays = c.in-Err-Failed.ensures.honest }) in
    rw (← c.self.view_is, ← c.bytes-bytes.ensures) (after_steps g.D.Datagrams.told g.D.Datagrams.placed g.D.Datagrams.honest g.met.D.Datagrams.lawful c.self.inside.over _ _ _ _ c.self.invariant s).tells

pub returns-in-Err-Memory-clause-told : goal.returns-in-Err-Memory-clause-told
returns-in-Err-Memory-clause-told g c =
    let s = back_then g.D.Datagrams.told g.D.Datagrams.placed g.D.Datagrams.honest c.self.inside.over _ _ _ _ (added.Unsent c.bytes-bytes.result.now) c.self.invariant
    (record { same = c.if-not-keep_unsent.ensures.told; places = c.if-not-keep_unsent.ensures.yes; stays = c.if-not-keep_unsent.ensures.honest })
    (record { tells = (rw c.in-Err-Memory.field-0-is at c.in-Err-Memory.ensures.told); places = c.in-Err-Memory.ensures.placed; stays = c.in-Err-Memory.ensures.honest })
    (record { same = c.give_back.ensures.told; places = c.give_back.ensures.placed; stays = c.give_back.ensures.honest }) in
    rw (← c.self.view_is) (after_stop g.D.Datagrams.told g.D.Datagrams.placed g.D.Datagrams.honest c.self.inside.over _ _ c.self.invariant s).tells

pub returns-in-Ok-clause-honest : goal.returns-in-Ok-clause-honest
returns-in-Ok-clause-honest g c =
    let s = put_then g.D.Datagrams.told g.D.Datagrams.placed g.D.Datagrams.honest c.self.inside.over _ _ _ _ _ (added.Unsent c.bytes-bytes.result.now) added.Nothing c.self.invariant
    (record { same = c.if-not-keep_unsent.ensures.told; places = c.if-not-keep_unsent.ensures.yes; stays = c.if-not-keep_unsent.ensures.honest })
    (record { tells = c.in-Ok.ensures.told; places = c.in-Ok.ensures.placed; stays = c.in-Ok.ensures.honest })
    (record { same = c.put_place.ensures.told; places = c.put_place.ensures.placed; stays = c.put_place.ensures.honest }) in
    rw (← c.self.view_is) (after_steps g.D.Datagrams.told g.D.Datagrams.placed g.D.Datagrams.honest g.met.D.Datagrams.lawful c.self.inside.over _ _ _ _ c.self.invariant s).stays

pub returns-in-Err-Failed-clause-honest : goal.returns-in-Err-Failed-clause-honest
returns-in-Err-Failed-clause-honest g c =
    let s = kept_then g.D.Datagrams.told g.D.Datagrams.placed g.D.Datagrams.honest c.self.inside.over _ _ _ _ (added.Unsent c.bytes-bytes.result.now) c.self.invariant
    (record { same = c.if-not-keep_unsent.ensures.told; places = c.if-not-keep_unsent.ensures.yes; stays = c.if-not-keep_unsent.ensures.honest })
    (record { tells = (rw c.in-Err-Failed.field-0-is at c.in-Err-Failed.ensures.told); places = c.in-Err-Failed.ensures.placed; stays = c.in-Err-Failed.ensures.honest }) in
    rw (← c.self.view_is) (after_steps g.D.Datagrams.told g.D.Datagrams.placed g.D.Datagrams.honest g.met.D.Datagrams.lawful c.self.inside.over _ _ _ _ c.self.invariant s).stays

pub returns-in-Err-Memory-clause-honest : goal.returns-in-Err-Memory-clause-honest
returns-in-Err-Memory-clause-honest g c =
    let s = back_then g.D.Datagrams.told g.D.Datagrams.placed g.D.Datagrams.honest c.self.inside.over _ _ _ _ (added.Unsent c.bytes-bytes.result.now) c.self.invariant
    (record { same = c.if-not-keep_unsent.ensures.told; places = c.if-not-keep_unsent.ensures.yes; stays = c.if-not-keep_unsent.ensures.honest })
    (record { tells = (rw c.in-Err-Memory.field-0-is at c.in-Err-Memory.ensures.told); places = c.in-Err-Memory.ensures.placed; stays = c.in-Err-Memory.ensures.honest })
    (record { same = c.give_back.ensures.told; places = c.give_back.ensures.placed; stays = c.give_back.ensures.honest }) in
    rw (← c.self.view_is) (after_stop g.D.Datagrams.told g.D.Datagrams.placed g.D.Datagrams.honest c.self.inside.over _ _ c.self.invariant s).stays
