use Rattle.std.proofs.Common.{◌≡◌, Bool, true, false, Option, None, option_map, ap}
use Rattle.std.specs.Bool.{OnFalse}
use Rattle.pair_ends.proofs.end.EndLink.tells.Goals as goal

untold : {A B : Type 0} (f : A → B) (b : Bool) (t : Option A) → OnFalse b (t ≡ None) → OnFalse b (option_map f t ≡ None)
untold f true t h = tt
untold f false t h = ap (option_map f) h

pub returns : goal.returns
returns g c = untold _ c.tells.result _ c.tells.ensures
