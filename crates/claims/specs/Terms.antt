-- What a session is given.
use Rattle.std.specs.Prelude.{ℕ}
use Rattle.rpc_message.specs.declared.cred.Cred.{Cred}
use Rattle.claims.specs.Modes.{Modes}
use Rattle.world_model.specs.Mounts.{Origin}

-- Where its root comes from, and as whom it makes its calls; the first xid, and how many calls it may make; the most
-- bytes of a READ and of a WRITE that it wants; and what it may keep.
pub record Terms : Type 0 where
  pub origin : Origin
  pub cred : Cred
  pub first : ℕ
  pub calls : ℕ
  pub rsize : ℕ
  pub wsize : ℕ
  pub modes : Modes

-- how often a call may be made under new xids if the server answers that it will take long: NFS3ERR_JUKEBOX (RFC 1813,
-- section 2.6) is no refusal until the fourth time
abbrev pub most_tries : ℕ
most_tries = 4

-- NFS3ERR_JUKEBOX
abbrev pub jukebox : ℕ
jukebox = 10008
