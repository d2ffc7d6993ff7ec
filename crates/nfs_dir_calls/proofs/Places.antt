-- What is read as a place is spelled so, and what is spelled so is read.
use Rattle.std.proofs.Common.{refl}
use Rattle.xdr_codec.proofs.Laws.{Codec, field_if, last_if, always}
use Rattle.nfs_types.proofs.Laws.{handle_codec, name_codec}
use Rattle.nfs_dir_calls.specs.Places.{place_at, SpellsPlace}

pub place_codec : Codec place_at (λ v. SpellsPlace v.dir v.name)
unfolding place_at
place_codec = always (field_if (λ v. v.dir) handle_codec (λ dir. last_if (λ v. v.name) (λ name. record { dir = dir; name = name }) name_codec (λ a. ((tt, refl), refl)) (λ b k. rw (← k.1) refl)))
