-- Over datagrams that don't tell their calls nothing is told.
use Rattle.std.proofs.Common.{◌≡◌, Bool, true, false, List, Option, None, ap}
use Rattle.std.specs.Bool.{OnFalse}
use Rattle.outside.specs.Datagrams.{DatagramsTold}
use Rattle.outside.specs.declared.places.DatagramAdds.{DatagramAdds}
use Rattle.udp_link.specs.Placing.{now_of, told_of}

pub untold : (b : Bool) (t : Option DatagramsTold) (ks : List DatagramAdds) → OnFalse b (t ≡ None) → OnFalse b (told_of (now_of t ks) ≡ None)
untold true t ks h = tt
untold false t ks h = ap (λ (o : Option DatagramsTold). told_of (now_of o ks)) h
