-- What is read of an object that was to be made is spelled so, and what is spelled so is read.
use Rattle.std.proofs.Common.{ℕ, List, Option}
use Rattle.xdr_codec.specs.Spells.{◌⨾◌}
use Rattle.xdr_codec.specs.Arms.{Arms, SpellsArms}
use Rattle.xdr_codec.proofs.MoreLaws.{arms_codec}
use Rattle.xdr_codec.proofs.WholeLaws.{WholeCodec, whole_codec}
use Rattle.nfs_types.specs.declared.attr.Attr.{Attr}
use Rattle.nfs_types.specs.declared.wcc.Wcc.{Wcc}
use Rattle.nfs_types.specs.Spells.{SpellsOptAttr, SpellsWcc}
use Rattle.nfs_types.proofs.Laws.{opt_attr_codec, wcc_codec}
use Rattle.nfs_dir_calls.specs.OptHandles.{SpellsOptHandle}
use Rattle.nfs_dir_calls.specs.NewObjects.{new_object_at}
use Rattle.nfs_dir_calls.proofs.Readers.{pair_codec}
use Rattle.nfs_dir_calls.proofs.OptHandles.{opt_handle_codec}

abbrev pub NewObjects : Type 0
NewObjects = Arms (Option (List ℕ) × (Option Attr × Wcc)) Wcc

abbrev pub SpellsNewObjects : NewObjects → List ℕ → Type 0
SpellsNewObjects = SpellsArms (λ v. SpellsOptHandle v.0 ⨾ SpellsOptAttr v.1.0 ⨾ SpellsWcc v.1.1) SpellsWcc

pub new_object_codec : WholeCodec new_object_at SpellsNewObjects
unfolding new_object_at
new_object_codec = whole_codec (arms_codec (pair_codec opt_handle_codec (pair_codec opt_attr_codec wcc_codec)) wcc_codec)
