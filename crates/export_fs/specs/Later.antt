-- A restart as a server sees it (RFC 1813, section 4.8).
use Rattle.std.specs.Prelude.{◌≢◌, ◌≤◌, ℕ, List}
use Rattle.world_model.specs.Lawful.{IsLeft, IsSteady}
use Rattle.export_fs.specs.View.{View}
use Rattle.export_fs.specs.Parts.{verifier}
use Rattle.export_fs.specs.Seen.{server_of}

-- The write verifier is one that no export had which restarted so often or less; files hold their stable bytes.
pub record RestartsLater (v w : View) : Type 0 where
  pub new : (u : View) → u.reboots ≤ v.reboots → verifier u ≢ verifier w
  pub left : (f : List ℕ) → IsLeft ((server_of v).object f) ((server_of w).object f)
  pub steady : (f : List ℕ) → IsSteady ((server_of w).object f)
