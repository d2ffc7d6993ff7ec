-- A link at its beginning.
use Rattle.std.proofs.Common.{◌≡◌, ◌-◌, List, [], length, Option, Some, None, refl, ap, arith}
use Rattle.std.proofs.lemmas.List.{drop_all, take_all}
use Rattle.outside.specs.declared.places.DatagramAdds.{DatagramAdds}
use Rattle.outside.specs.Datagrams.{DatagramCall, DatagramsTold, Heard}
use Rattle.udp_link.specs.Placing.{latest, earlier, begun, after_calls, heard_by, now_of, told_of, aims_all, IsPlaced}
use Rattle.udp_link.specs.Shown.{IsBegun}

none_yet : (calls : List DatagramCall) → latest 0 calls ≡ []
none_yet calls = drop_all (length calls - 0) calls (omega arith)

all_before : (calls : List DatagramCall) → earlier 0 calls ≡ calls
all_before calls = take_all (length calls - 0) calls (omega arith)

pub begun_is : (t : DatagramsTold) → heard_by t [] ≡ begun (after_calls t.start t.calls)
begun_is t = ap (λ (cs : List DatagramCall). begun (after_calls t.start cs)) (all_before t.calls)

begins : (told : Option DatagramsTold) → IsPlaced told [] None
begins None = refl
begins (Some t) = record {
  enough = omega arith;
  aimed = refl;
  dialed = ap (λ (cs : List DatagramCall). aims_all cs None) (none_yet t.calls);
  exact = rw (none_yet t.calls) refl;
}

pub begins_placed : (old new : Option DatagramsTold) (ks : List DatagramAdds) → new ≡ old → ks ≡ [] → IsPlaced new ks None
begins_placed old new ks same none = rw none (begins new)

begun_now : (told : Option DatagramsTold) → IsBegun told (told_of (now_of told []))
begun_now None = refl
begun_now (Some t) = ap (λ (h : Heard). Some h.history) (begun_is t)

pub begins_told : (old new : Option DatagramsTold) (ks : List DatagramAdds) → new ≡ old → ks ≡ [] → IsBegun old (told_of (now_of new ks))
begins_told old new ks same none = rw (same, none) (begun_now old)
