-- A fact of the kept pages holds after a WRITE or SETATTR that failed, where it holds of them as they are and once those of the file are dropped.
use Rattle.std.proofs.Common.{◌≡◌, ℕ, Bool, true, false, List, [], if◌then◌else◌, refl, subst, sym, ap}
use Rattle.page_cache.specs.Pages.{Pages, wrote}
use Rattle.world_model.specs.declared.answer.Fault.{Fault}
use Rattle.world_model.specs.declared.answer.Fault.TheVariants as faults
use Rattle.client_shelf.specs.Unmade.{is_unmade}
use Rattle.file_ops.specs.Saves as saves
use Rattle.file_ops.specs.TruncateFile.{leaves_pages}

pub failed-as : (T : Pages → Type 0) (file : List ℕ) (moment : ℕ) (fault : Fault) (c : Pages) → T c → T (wrote file saves.untold 0 [] moment c) → T (saves.pages_failed file moment fault c)
failed-as T file moment fault c stays drops = by (is_unmade fault)
  where
    by : (b : Bool) → T (if b then c else wrote file saves.untold 0 [] moment c)
    by true = stays
    by false = drops

-- Where the call was made they are dropped.
pub failed-made : (T : Pages → Type 0) (file : List ℕ) (moment : ℕ) (fault : Fault) (c : Pages) → is_unmade fault ≡ false → T (wrote file saves.untold 0 [] moment c)
    → T (saves.pages_failed file moment fault c)
failed-made T file moment fault c made drops = subst T (sym (ap (λ (b : Bool). if b then c else wrote file saves.untold 0 [] moment c) made)) drops

-- Where it wasn't they stay.
pub failed-unmade : (T : Pages → Type 0) (file : List ℕ) (moment : ℕ) (fault : Fault) (c : Pages) → is_unmade fault ≡ true → T c → T (saves.pages_failed file moment fault c)
failed-unmade T file moment fault c unmade stays = subst T (sym (ap (λ (b : Bool). if b then c else wrote file saves.untold 0 [] moment c) unmade)) stays

-- the same of a SETATTR by which no size was set
pub unset-as : (T : Pages → Type 0) (file : List ℕ) (moment : ℕ) (fault : Fault) (c : Pages) → T c → T (wrote file saves.untold 0 [] moment c)
    → T (if leaves_pages fault then c else wrote file saves.untold 0 [] moment c)
unset-as T file moment fault c stays drops = by (leaves_pages fault)
  where
    by : (b : Bool) → T (if b then c else wrote file saves.untold 0 [] moment c)
    by true = stays
    by false = drops

leaves-unmade : (fault : Fault) → is_unmade fault ≡ true → leaves_pages fault ≡ true
leaves-unmade (faults.Nfs status) e = refl
leaves-unmade fault e = e

pub unset-unmade : (T : Pages → Type 0) (file : List ℕ) (moment : ℕ) (fault : Fault) (c : Pages) → is_unmade fault ≡ true → T c
    → T (if leaves_pages fault then c else wrote file saves.untold 0 [] moment c)
unset-unmade T file moment fault c unmade stays = subst T (sym (ap (λ (b : Bool). if b then c else wrote file saves.untold 0 [] moment c) (leaves-unmade fault unmade))) stays

-- Where it isn't known whether it was executed they are dropped.
pub unset-dropped : (T : Pages → Type 0) (file : List ℕ) (moment : ℕ) (fault : Fault) (c : Pages) → leaves_pages fault ≡ false → T (wrote file saves.untold 0 [] moment c)
    → T (if leaves_pages fault then c else wrote file saves.untold 0 [] moment c)
unset-dropped T file moment fault c unknown drops = subst T (sym (ap (λ (b : Bool). if b then c else wrote file saves.untold 0 [] moment c) unknown)) drops
