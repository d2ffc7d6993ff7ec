use Rattle.std.proofs.Common.{refl}
use Rattle.outside.specs.declared.places.DatagramAdds.TheVariants as added
use Rattle.udp_link.proofs.PlacesKept.{kept_then, back_then, notes_between}
use Rattle.udp_link.proofs.AfterCalls.{after_steps, after_stop, note_only, note_none, note_tells}
use Rattle.udp_link.proofs.link.UdpLinkLink.note.Goals as goal

pub invariant_of-self-in-Ok : goal.invariant_of-self-in-Ok
invariant_of-self-in-Ok g c =
    let s = kept_then g.D.Datagrams.told g.D.Datagrams.placed g.D.Datagrams.honest c.self.inside.over _ _ _ _ added.Nothing c.self.invariant
    (record { same = c.if-not-keep_place.ensures.told; places = c.if-not-keep_place.ensures.yes; stays = c.if-not-keep_place.ensures.honest })
    (record { tells = note_tells _ _ _ c.in-Ok.ensures.told; places = c.in-Ok.ensures.placed; stays = c.in-Ok.ensures.honest }) in
    (after_steps g.D.Datagrams.told g.D.Datagrams.placed g.D.Datagrams.honest g.met.D.Datagrams.lawful c.self.inside.over _ _ _ _ c.self.invariant s).placed

pub invariant_of-self-in-Err : goal.invariant_of-self-in-Err
invariant_of-self-in-Err g c =
    let s = back_then g.D.Datagrams.told g.D.Datagrams.placed g.D.Datagrams.honest c.self.inside.over _ _ _ _ added.Nothing c.self.invariant
    (record { same = c.if-not-keep_place.ensures.told; places = c.if-not-keep_place.ensures.yes; stays = c.if-not-keep_place.ensures.honest })
    (record { tells = note_tells _ _ _ c.in-Err.ensures.told; places = c.in-Err.ensures.placed; stays = c.in-Err.ensures.honest })
    (record { same = c.give_back.ensures.told; places = c.give_back.ensures.placed; stays = c.give_back.ensures.honest }) in
    (after_stop g.D.Datagrams.told g.D.Datagrams.placed g.D.Datagrams.honest c.self.inside.over _ _ c.self.invariant s).placed

pub returns-in-Ok-clause-told : goal.returns-in-Ok-clause-told
returns-in-Ok-clause-told g c =
    let s = kept_then g.D.Datagrams.told g.D.Datagrams.placed g.D.Datagrams.honest c.self.inside.over _ _ _ _ added.Nothing c.self.invariant
    (record { same = c.if-not-keep_place.ensures.told; places = c.if-not-keep_place.ensures.yes; stays = c.if-not-keep_place.ensures.honest })
    (record { tells = note_tells _ _ _ c.in-Ok.ensures.told; places = c.in-Ok.ensures.placed; stays = c.in-Ok.ensures.honest }) in
    rw (← c.self.view_is) (note_only _ _ (g.D.Datagrams.placed c.self.inside.over) _ _ _ c.self.invariant s.more (notes_between _ _ _ _ _ c.if-not-keep_place.ensures.told c.in-Ok.ensures.told refl))

pub returns-in-Err-clause-told : goal.returns-in-Err-clause-told
returns-in-Err-clause-told g c =
    let s = back_then g.D.Datagrams.told g.D.Datagrams.placed g.D.Datagrams.honest c.self.inside.over _ _ _ _ added.Nothing c.self.invariant
    (record { same = c.if-not-keep_place.ensures.told; places = c.if-not-keep_place.ensures.yes; stays = c.if-not-keep_place.ensures.honest })
    (record { tells = note_tells _ _ _ c.in-Err.ensures.told; places = c.in-Err.ensures.placed; stays = c.in-Err.ensures.honest })
    (record { same = c.give_back.ensures.told; places = c.give_back.ensures.placed; stays = c.give_back.ensures.honest }) in
    rw (← c.self.view_is) (note_none _ _ (g.D.Datagrams.placed c.self.inside.over) _ s.places (notes_between _ _ _ _ _ c.if-not-keep_place.ensures.told c.in-Err.ensures.told c.give_back.ensures.told))

pub returns-in-Ok-clause-honest : goal.returns-in-Ok-clause-honest
returns-in-Ok-clause-honest g c =
    let s = kept_then g.D.Datagrams.told g.D.Datagrams.placed g.D.Datagrams.honest c.self.inside.over _ _ _ _ added.Nothing c.self.invariant
    (record { same = c.if-not-keep_place.ensures.told; places = c.if-not-keep_place.ensures.yes; stays = c.if-not-keep_place.ensures.honest })
    (record { tells = note_tells _ _ _ c.in-Ok.ensures.told; places = c.in-Ok.ensures.placed; stays = c.in-Ok.ensures.honest }) in
    rw (← c.self.view_is) (after_steps g.D.Datagrams.told g.D.Datagrams.placed g.D.Datagrams.honest g.met.D.Datagrams.lawful c.self.inside.over _ _ _ _ c.self.invariant s).stays

pub returns-in-Err-clause-honest : goal.returns-in-Err-clause-honest
returns-in-Err-clause-honest g c =
    let s = back_then g.D.Datagrams.told g.D.Datagrams.placed g.D.Datagrams.honest c.self.inside.over _ _ _ _ added.Nothing c.self.invariant
    (record { same = c.if-not-keep_place.ensures.told; places = c.if-not-keep_place.ensures.yes; stays = c.if-not-keep_place.ensures.honest })
    (record { tells = note_tells _ _ _ c.in-Err.ensures.told; places = c.in-Err.ensures.placed; stays = c.in-Err.ensures.honest })
    (record { same = c.give_back.ensures.told; places = c.give_back.ensures.placed; stays = c.give_back.ensures.honest }) in
    rw (← c.self.view_is) (after_stop g.D.Datagrams.told g.D.Datagrams.placed g.D.Datagrams.honest c.self.inside.over _ _ c.self.invariant s).stays
