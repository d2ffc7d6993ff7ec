-- A link over honest datagrams is honest: what it tells goes along with what is read from them.
use Rattle.std.specs.Prelude.{◌≡◌, [], List, Option, Some, None}
use Rattle.world_model.specs.Told.{IsLawful}
use Rattle.outside.specs.Datagrams.{DatagramsTold, Heard, heard}
use Rattle.rpc_record.specs.Honest.{GoesWith}
use Rattle.outside.specs.declared.places.DatagramAdds.{DatagramAdds}
use Rattle.udp_link.specs.Placing.{now_of, told_of}

-- what the link tells goes along with what is read from the datagrams, and both aim at the same port
pub record Mirrors (r s : Heard) : Type 0 where
  pub goes : GoesWith r.history s.history
  pub aimed : s.aimed ≡ r.aimed

abbrev pub Mirrored : Option DatagramsTold → Option Heard → Type 0
Mirrored None now = Unit {0}
Mirrored (Some t) None = ⊥
Mirrored (Some t) (Some s) = Mirrors (heard t) s

-- The datagrams are honest, what the link tells is lawful, and it goes along with them.
pub record HonestOver {D : Type 0} (told : D → Option DatagramsTold) (honest : D → Type 0) (over : D) (kept : List DatagramAdds) : Type 0 where
  pub datagrams : honest over
  pub lawful : IsLawful (told_of (now_of (told over) kept))
  pub mirrored : Mirrored (told over) (now_of (told over) kept)

-- nothing was told yet
abbrev pub IsFresh : Option DatagramsTold → Type 0
IsFresh None = Unit {0}
IsFresh (Some t) = t.calls ≡ []
