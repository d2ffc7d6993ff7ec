-- The machine of kept names, by single steps: those by which a cache of law_names is fed (RFC 1813, section 3.3.3).
use Rattle.std.specs.Prelude.{◌≡◌, ℕ, List}
use Rattle.nfs_types.specs.declared.wcc.Stamp.{Stamp}
use Rattle.name_cache.specs.Names.{Entries, after_look, learnt, without_dir}
use Rattle.world_model.specs.History.{History}
use Rattle.law_names.specs.Kept.{IsLookedUp}

-- One step. A name is learnt from a LOOKUP, under the stamp of the directory that the same reply shows. A name is looked at. Or the names of a directory are
-- dropped.
pub data Step (t : History) (b c : Entries) : Type 0 where
  learns : (dir name object : List ℕ) (stamp : Stamp) → IsLookedUp t dir stamp name object → c ≡ learnt dir name stamp object b → Step t b c
  looks : (dir name : List ℕ) (stamp : Stamp) → c ≡ after_look dir name stamp b → Step t b c
  drops : (dir : List ℕ) → c ≡ without_dir dir b → Step t b c

-- none, or one after the other
pub data Steps (t : History) : Entries → Entries → Type 0 where
  stays : (b c : Entries) → c ≡ b → Steps t b c
  goes : (b c d : Entries) → Steps t b c → Step t c d → Steps t b d
