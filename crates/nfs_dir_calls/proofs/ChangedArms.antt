-- What is read where a name was to go is spelled so, and what is spelled so is read.
use Rattle.std.proofs.Common.{ℕ, List}
use Rattle.xdr_codec.specs.Arms.{Arms, SpellsArms}
use Rattle.xdr_codec.proofs.MoreLaws.{arms_codec}
use Rattle.xdr_codec.proofs.WholeLaws.{WholeCodec, whole_codec}
use Rattle.nfs_types.specs.declared.wcc.Wcc.{Wcc}
use Rattle.nfs_types.specs.Spells.{SpellsWcc}
use Rattle.nfs_types.proofs.Laws.{wcc_codec}
use Rattle.nfs_dir_calls.specs.Changed.{changed_at}

abbrev pub Changes : Type 0
Changes = Arms Wcc Wcc

abbrev pub SpellsChanges : Changes → List ℕ → Type 0
SpellsChanges = SpellsArms SpellsWcc SpellsWcc

pub changed_codec : WholeCodec changed_at SpellsChanges
unfolding changed_at
changed_codec = whole_codec (arms_codec wcc_codec wcc_codec)
