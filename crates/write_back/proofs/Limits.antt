-- How many bytes may be pending.
use Rattle.std.proofs.Common.{◌≡◌, refl}
use Rattle.write_back.specs.Sound.{most_pending}

pub most_is : most_pending ≡ 4194304
unfolding most_pending
most_is = refl
