use Rattle.std.proofs.Common.{◌≡◌, drop, true, false}
use Rattle.outside.specs.declared.places.WirePlace.{WirePlace}
use Rattle.outside.specs.declared.places.WireAdds.TheVariants as added
use Rattle.rpc_record.specs.Records.{one_fragment}
use Rattle.rpc_record.proofs.LineStaysHonest.{call_honest, own_honest, none_honest, may_write}
use Rattle.rpc_record.proofs.Replays.{call_now, none_now}
use Rattle.rpc_record.proofs.LineCalls.{put_then, kept_then}
use Rattle.rpc_record.proofs.line.Line.write.Goals as goal

abbrev nothing : WirePlace
nothing = record { call = false; adds = added.Nothing }

pub invariant_of-self-in-Ok-write : goal.invariant_of-self-in-Ok-write
invariant_of-self-in-Ok-write g c =
    let s = put_then g.W.Wire.told g.W.Wire.placed g.W.Wire.honest c.self.inside.wire _ _ _ _ nothing (record { call = true; adds = c.after_write-adds.result }) c.self.invariant
    (record { same = c.if-not-keep_place.ensures.told; places = c.if-not-keep_place.ensures.yes; stays = c.if-not-keep_place.ensures.honest })
    (record { tells = c.in-Ok-write.ensures.told; places = c.in-Ok-write.ensures.placed; stays = c.in-Ok-write.ensures.honest })
    (record { same = c.put_place.ensures.told; places = c.put_place.ensures.placed; stays = c.put_place.ensures.honest }) in
    (call_now _ _ (g.W.Wire.placed c.self.inside.wire) _ _ c.after_write-adds.result c.self.invariant s.more s.tells).placed

pub invariant_of-self-in-Err-Failed : goal.invariant_of-self-in-Err-Failed
invariant_of-self-in-Err-Failed g c =
    let s = put_then g.W.Wire.told g.W.Wire.placed g.W.Wire.honest c.self.inside.wire _ _ _ _ nothing (record { call = true; adds = (added.Part c.in-Ok.bytes) }) c.self.invariant
    (record { same = c.if-not-keep_place.ensures.told; places = c.if-not-keep_place.ensures.yes; stays = c.if-not-keep_place.ensures.honest })
    (record { tells = (rw c.in-Err-Failed.field-0-is at c.in-Err-Failed.ensures.told); places = c.in-Err-Failed.ensures.placed; stays = c.in-Err-Failed.ensures.honest })
    (record { same = c.put_place-in-Err-Failed.ensures.told; places = c.put_place-in-Err-Failed.ensures.placed; stays = c.put_place-in-Err-Failed.ensures.honest }) in
    (call_now _ _ (g.W.Wire.placed c.self.inside.wire) _ _ (added.Part c.in-Ok.bytes) c.self.invariant s.more s.tells).placed

pub invariant_of-self-in-Memory-1 : goal.invariant_of-self-in-Memory-1
invariant_of-self-in-Memory-1 g c =
    let s = kept_then g.W.Wire.told g.W.Wire.placed g.W.Wire.honest c.self.inside.wire _ _ _ nothing c.self.invariant
    (record { same = c.if-not-keep_place.ensures.told; places = c.if-not-keep_place.ensures.yes; stays = c.if-not-keep_place.ensures.honest })
    (record { tells = (rw c.in-Err-Memory.field-0-is at c.in-Err-Memory.ensures.told); places = c.in-Err-Memory.ensures.placed; stays = c.in-Err-Memory.ensures.honest }) in
    (none_now _ _ (g.W.Wire.placed c.self.inside.wire) _ c.self.invariant s.more s.tells).placed

pub returns-in-Ok-write-clause-now : goal.returns-in-Ok-write-clause-now
returns-in-Ok-write-clause-now g c =
    let back : c.split_at.result.1.now ≡ drop c.args.at (one_fragment c.args.rec.now) = rw c.marked.ensures.text at c.split_at.ensures.back in
    let s = put_then g.W.Wire.told g.W.Wire.placed g.W.Wire.honest c.self.inside.wire _ _ _ _ nothing (record { call = true; adds = c.after_write-adds.result }) c.self.invariant
    (record { same = c.if-not-keep_place.ensures.told; places = c.if-not-keep_place.ensures.yes; stays = c.if-not-keep_place.ensures.honest })
    (record { tells = c.in-Ok-write.ensures.told; places = c.in-Ok-write.ensures.placed; stays = c.in-Ok-write.ensures.honest })
    (record { same = c.put_place.ensures.told; places = c.put_place.ensures.placed; stays = c.put_place.ensures.honest }) in
    rw (← c.self.view_is, ← back, ← c.after_write-adds.ensures) (call_now _ _ (g.W.Wire.placed c.self.inside.wire) _ _ c.after_write-adds.result c.self.invariant s.more s.tells).goes

pub returns-in-Err-Failed-clause-now : goal.returns-in-Err-Failed-clause-now
returns-in-Err-Failed-clause-now g c =
    let s = put_then g.W.Wire.told g.W.Wire.placed g.W.Wire.honest c.self.inside.wire _ _ _ _ nothing (record { call = true; adds = (added.Part c.in-Ok.bytes) }) c.self.invariant
    (record { same = c.if-not-keep_place.ensures.told; places = c.if-not-keep_place.ensures.yes; stays = c.if-not-keep_place.ensures.honest })
    (record { tells = (rw c.in-Err-Failed.field-0-is at c.in-Err-Failed.ensures.told); places = c.in-Err-Failed.ensures.placed; stays = c.in-Err-Failed.ensures.honest })
    (record { same = c.put_place-in-Err-Failed.ensures.told; places = c.put_place-in-Err-Failed.ensures.placed; stays = c.put_place-in-Err-Failed.ensures.honest }) in
    rw (← c.self.view_is, ← c.in-Ok.ensures) (call_now _ _ (g.W.Wire.placed c.self.inside.wire) _ _ (added.Part c.in-Ok.bytes) c.self.invariant s.more s.tells).goes

pub returns-in-Err-Memory-clause-now : goal.returns-in-Err-Memory-clause-now
returns-in-Err-Memory-clause-now g c =
    let s = kept_then g.W.Wire.told g.W.Wire.placed g.W.Wire.honest c.self.inside.wire _ _ _ nothing c.self.invariant
    (record { same = c.if-not-keep_place.ensures.told; places = c.if-not-keep_place.ensures.yes; stays = c.if-not-keep_place.ensures.honest })
    (record { tells = (rw c.in-Err-Memory.field-0-is at c.in-Err-Memory.ensures.told); places = c.in-Err-Memory.ensures.placed; stays = c.in-Err-Memory.ensures.honest }) in
    rw (← c.self.view_is) (none_now _ _ (g.W.Wire.placed c.self.inside.wire) _ c.self.invariant s.more s.tells).goes

pub returns-in-Ok-write-clause-honest : goal.returns-in-Ok-write-clause-honest
returns-in-Ok-write-clause-honest g c =
    let back : c.split_at.result.1.now ≡ drop c.args.at (one_fragment c.args.rec.now) = rw c.marked.ensures.text at c.split_at.ensures.back in
    let s = put_then g.W.Wire.told g.W.Wire.placed g.W.Wire.honest c.self.inside.wire _ _ _ _ nothing (record { call = true; adds = c.after_write-adds.result }) c.self.invariant
    (record { same = c.if-not-keep_place.ensures.told; places = c.if-not-keep_place.ensures.yes; stays = c.if-not-keep_place.ensures.honest })
    (record { tells = c.in-Ok-write.ensures.told; places = c.in-Ok-write.ensures.placed; stays = c.in-Ok-write.ensures.honest })
    (record { same = c.put_place.ensures.told; places = c.put_place.ensures.placed; stays = c.put_place.ensures.honest }) in
    rw (← c.self.view_is, ← back) (λ ends.
    call_honest g.W.Wire.told g.W.Wire.honest g.met.W.Wire.lawful c.self.inside.wire _ (g.W.Wire.placed c.self.inside.wire) _ _ _ _ c.after_write-adds.result c.self.invariant s.more s.tells s.stays
    (rw (c.after_write-adds.ensures) (may_write _ c.split_at.result.1.now _ c.in-Ok-write.ensures.takes.fits ends)))

pub returns-in-Err-Failed-clause-honest : goal.returns-in-Err-Failed-clause-honest
returns-in-Err-Failed-clause-honest g c =
    let s = put_then g.W.Wire.told g.W.Wire.placed g.W.Wire.honest c.self.inside.wire _ _ _ _ nothing (record { call = true; adds = (added.Part c.in-Ok.bytes) }) c.self.invariant
    (record { same = c.if-not-keep_place.ensures.told; places = c.if-not-keep_place.ensures.yes; stays = c.if-not-keep_place.ensures.honest })
    (record { tells = (rw c.in-Err-Failed.field-0-is at c.in-Err-Failed.ensures.told); places = c.in-Err-Failed.ensures.placed; stays = c.in-Err-Failed.ensures.honest })
    (record { same = c.put_place-in-Err-Failed.ensures.told; places = c.put_place-in-Err-Failed.ensures.placed; stays = c.put_place-in-Err-Failed.ensures.honest }) in
    rw (← c.self.view_is) (λ ends. own_honest g.W.Wire.told g.W.Wire.honest g.met.W.Wire.lawful c.self.inside.wire _ (g.W.Wire.placed c.self.inside.wire) _ _ _ _ (added.Part c.in-Ok.bytes) c.self.invariant s.more s.tells s.stays tt tt)

pub returns-in-Err-Memory-clause-honest : goal.returns-in-Err-Memory-clause-honest
returns-in-Err-Memory-clause-honest g c =
    let s = kept_then g.W.Wire.told g.W.Wire.placed g.W.Wire.honest c.self.inside.wire _ _ _ nothing c.self.invariant
    (record { same = c.if-not-keep_place.ensures.told; places = c.if-not-keep_place.ensures.yes; stays = c.if-not-keep_place.ensures.honest })
    (record { tells = (rw c.in-Err-Memory.field-0-is at c.in-Err-Memory.ensures.told); places = c.in-Err-Memory.ensures.placed; stays = c.in-Err-Memory.ensures.honest }) in
    rw (← c.self.view_is) (λ ends. none_honest g.W.Wire.told g.W.Wire.honest g.met.W.Wire.lawful c.self.inside.wire _ (g.W.Wire.placed c.self.inside.wire) _ _ _ c.self.invariant s.more s.tells s.stays)
