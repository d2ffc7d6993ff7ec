-- How a name cache is fed along a history (RFC 1813, section 3.3.3).
use Rattle.std.specs.Prelude.{◌≡◌, ℕ, List, []}
use Rattle.nfs_types.specs.declared.wcc.Stamp.{Stamp}
use Rattle.name_cache.specs.Names.{Entries, after_look, learnt, without_dir}
use Rattle.world_model.specs.History.{History}
use Rattle.law_names.specs.Kept.{IsLookedUp}

-- The cache was empty at first. Then names were learnt from LOOKUPs, under the stamp of the directory that the reply showed; names
-- were looked at; and those of a directory were dropped.
pub data IsFed (t : History) : Entries → Type 0 where
  begins : (c : Entries) → c ≡ [] → IsFed t c
  learns : (b c : Entries) (d name object : List ℕ) (s : Stamp) → IsFed t b → IsLookedUp t d s name object → c ≡ learnt d name s object b → IsFed t c
  looks : (b c : Entries) (d name : List ℕ) (s : Stamp) → IsFed t b → c ≡ after_look d name s b → IsFed t c
  drops : (b c : Entries) (d : List ℕ) → IsFed t b → c ≡ without_dir d b → IsFed t c
