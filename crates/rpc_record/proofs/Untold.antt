-- Behind a wire that doesn't tell its calls nothing is told.
use Rattle.std.proofs.Common.{◌≡◌, Bool, true, false, List, Option, None, ap}
use Rattle.std.specs.Bool.{OnFalse}
use Rattle.outside.specs.Wire.{WireTold}
use Rattle.outside.specs.declared.places.WirePlace.{WirePlace}
use Rattle.rpc_record.specs.Stream.{Stream, now_of, told_of}

pub unstreamed : (b : Bool) (t : Option WireTold) (ks : List WirePlace) → OnFalse b (t ≡ None) → OnFalse b (now_of t ks ≡ None)
unstreamed true t ks h = tt
unstreamed false t ks h = ap (λ (o : Option WireTold). now_of o ks) h

pub untold : (b : Bool) (s : Option Stream) → OnFalse b (s ≡ None) → OnFalse b (told_of s ≡ None)
untold true s h = tt
untold false s h = ap told_of h
