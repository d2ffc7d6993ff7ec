-- What is read as a file handle or none is spelled so, and what is spelled so is read.
use Rattle.xdr_codec.proofs.Laws.{Codec}
use Rattle.xdr_codec.proofs.MoreLaws.{opt_codec}
use Rattle.nfs_types.proofs.Laws.{handle_codec}
use Rattle.nfs_dir_calls.specs.OptHandles.{opt_handle_at, SpellsOptHandle}

pub opt_handle_codec : Codec opt_handle_at SpellsOptHandle
unfolding opt_handle_at
opt_handle_codec = opt_codec handle_codec
