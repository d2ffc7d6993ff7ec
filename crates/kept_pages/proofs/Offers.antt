-- What a cache keeps of the pages that it is offered.
use Rattle.std.proofs.Common.{◌≡◌, ℕ, List, Option, Result, Ok, Err, ap, subst, sym, ◌∙◌}
use Rattle.std.specs.Prelude.{OnOk, OnErr}
use Rattle.xdr_codec.specs.declared.blob.Memory.{Memory}
use Rattle.nfs_types.specs.declared.wcc.Stamp.{Stamp}
use Rattle.page_cache.specs.declared.state.Keep.{Keep}
use Rattle.page_cache.specs.declared.state.Keep.TheVariants.{Stale, Differs, Kept}
use Rattle.page_cache.specs.Pages.{Pages, opened, keep_answer, after_keep}
use Rattle.page_cache.specs.Sound.{AreKnown}
use Rattle.page_cache.proofs.Believed.{true-page, true-opened, true-kept}
use Rattle.page_cache.proofs.Room.{room-opened}
use Rattle.page_store.specs.Pages.{StoredPage}
use Rattle.kept_pages.specs.Comes.{IsIn, ArePages, Comes}

pub comes-of : (slots : List (Option StoredPage)) (c : Pages) → ArePages slots c → Comes slots c
comes-of slots c all file stamp index bytes known found = true-page (IsIn slots) file index c bytes stamp all found known

pub opens : (slots : List (Option StoredPage)) (file : List ℕ) (stamp : Stamp) (mark : ℕ) (old new : Pages) (result : Result (Unit {0}) Memory) → OnOk result (new ≡ opened file stamp mark old)
    → OnErr result (new ≡ old) → ArePages slots old → ArePages slots new
opens slots file stamp mark old new (Ok done) ok err all = subst (λ (c : Pages). ArePages slots c) (sym ok) (true-opened (IsIn slots) file old stamp mark all)
opens slots file stamp mark old new (Err fault) ok err all = subst (λ (c : Pages). ArePages slots c) (sym err) all

pub keeps : (slots : List (Option StoredPage)) (file : List ℕ) (stamp : Stamp) (sent index : ℕ) (bytes : List ℕ) (c : Pages) (answer : Keep) → answer ≡ keep_answer file stamp sent c
    → AreKnown c → IsIn slots file stamp index bytes → ArePages slots c → ArePages slots (after_keep answer stamp (record { file = file; index = index }) bytes c)
keeps slots file stamp sent index bytes c Stale is known told all = all
keeps slots file stamp sent index bytes c Differs is known told all = all
keeps slots file stamp sent index bytes c Kept is known told all = true-kept (IsIn slots) file c stamp sent index bytes known all (sym is) told

pub opens-room : (file : List ℕ) (stamp : Stamp) (mark : ℕ) (old new : Pages) (result : Result (Unit {0}) Memory) → OnOk result (new ≡ opened file stamp mark old)
    → OnErr result (new ≡ old) → new.room ≡ old.room
opens-room file stamp mark old new (Ok done) ok err = ap (λ (c : Pages). c.room) ok ∙ room-opened file old stamp mark
opens-room file stamp mark old new (Err fault) ok err = ap (λ (c : Pages). c.room) err
