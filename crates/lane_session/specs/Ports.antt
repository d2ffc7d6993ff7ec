-- Which port a session dials.
use Rattle.std.specs.Prelude.{◌≡◌, ℕ, Option}
use Rattle.world_model.specs.History.{History}
use Rattle.link_dials.specs.Dials.{DialsOnly}

-- The session's port stays, and no other was dialed.
pub record KeepsPort (port now : ℕ) (old new : Option History) : Type 0 where
  pub same : now ≡ port
  pub only : DialsOnly port old new
