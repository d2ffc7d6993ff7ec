-- A line at its beginning.
use Rattle.std.proofs.Common.{◌≡◌, ◌-◌, List, [], length, Option, Some, None, refl, ap, arith}
use Rattle.std.proofs.lemmas.List.{drop_all, take_all}
use Rattle.outside.specs.declared.places.WirePlace.{WirePlace}
use Rattle.outside.specs.Wire.{WireCall, WireTold}
use Rattle.rpc_record.specs.Stream.{AllPlaced, Stream, begun, begun_at, latest, earlier, after_calls, now_of, IsBegun}

none_yet : (calls : List WireCall) → latest 0 calls ≡ []
none_yet calls = drop_all (length calls - 0) calls (omega arith)

all_before : (calls : List WireCall) → earlier 0 calls ≡ calls
all_before calls = take_all (length calls - 0) calls (omega arith)

pub begun_is : (t : WireTold) → begun_at 0 t ≡ begun (after_calls t.start t.calls) []
begun_is t = rw (none_yet t.calls, all_before t.calls) refl

fresh : (told : Option WireTold) → AllPlaced told []
fresh None = refl
fresh (Some t) = record { enough = omega arith; now = begun_at 0 t; is = refl; all = none_yet t.calls }

pub fresh_placed : (old new : Option WireTold) (ks : List WirePlace) → new ≡ old → ks ≡ [] → AllPlaced new ks
fresh_placed old new ks same none = rw none (fresh new)

begun_now : (told : Option WireTold) → IsBegun told (now_of told [])
begun_now None = refl
begun_now (Some t) = ap (λ (s : Stream). Some s) (begun_is t)

pub fresh_begun : (old new : Option WireTold) (ks : List WirePlace) → new ≡ old → ks ≡ [] → IsBegun old (now_of new ks)
fresh_begun old new ks same none = rw (same, none) (begun_now old)
