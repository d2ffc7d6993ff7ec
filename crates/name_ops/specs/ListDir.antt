-- The names of a directory are listed page by page (RFC 1813, section 3.3.17). The first page is asked for with the cookie 0 and a
-- verifier of zeros. Each next one is asked for with the last cookie and the verifier of the page before it.
use Rattle.std.specs.Prelude.{◌≡◌, ◌⊎◌, ℕ, ◌++◌, Bool, true, false, if◌then◌else◌, List, [], Option, None, Result, Ok, Err}
use Rattle.nfs_types.specs.declared.attr.Attr.{Attr}
use Rattle.nfs_types.specs.declared.verf.Verf.{Verf}
use Rattle.nfs_dir_calls.specs.declared.keeping.DirKept.TheVariants as kept
use Rattle.dir_list.specs.declared.progress.ListStep.{ListStep}
use Rattle.dir_list.specs.declared.progress.ListStep.TheVariants.{More, End}
use Rattle.dir_list.specs.declared.progress.ListFault.{ListFault}
use Rattle.dir_list.specs.declared.progress.ListFault.TheVariants as lists
use Rattle.dir_list.specs.Listings.{counted, page_step, Lists}
use Rattle.world_model.specs.declared.answer.Fault.{Fault}
use Rattle.world_model.specs.declared.answer.Fault.TheVariants as faults
use Rattle.world_model.specs.declared.answer.Answer.TheVariants as answers
use Rattle.world_model.specs.declared.answer.Value.TheVariants.{Names}
use Rattle.world_model.specs.declared.message.Call.{Call}
use Rattle.world_model.specs.declared.message.Reply.{Reply}
use Rattle.world_model.specs.declared.message.Reply.TheVariants.{Dir}
use Rattle.world_model.specs.Chains.{list_call, zero_verf}
use Rattle.client_shelf.specs.declared.turn.Turn.{Turn}
use Rattle.client_shelf.specs.declared.shelf.Shelf.{Shelf}
use Rattle.client_shelf.specs.declared.step.Step.{Step}
use Rattle.client_shelf.specs.declared.step.Step.TheVariants.{Send, Wait, Done}
use Rattle.client_shelf.specs.Busy.{fails_busy, goes_again}
use Rattle.client_shelf.specs.Learning.{Learns}
use Rattle.name_ops.specs.declared.list_dir.ListDir.{ListDir}
use Rattle.name_ops.specs.declared.list_dir.PageHeard.{PageHeard}
use Rattle.name_ops.specs.declared.list_dir.PageStart.{PageStart}
use Rattle.name_ops.specs.declared.visit.Visit.{Visit}
use Rattle.name_ops.specs.Showing.{shown_shelf}
use Rattle.name_ops.specs.Visiting.{visit_of, Walks}

-- where the first page begins
abbrev pub first_page : PageStart
first_page = record { cookie = 0; verf = zero_verf }

-- a listing without a page yet
abbrev pub list_of : List ℕ → List (List ℕ) → ListDir
list_of root path = record { visit = visit_of root path; listing = []; place = first_page }

abbrev pub page_call : PageStart → List ℕ → Call
page_call place dir = list_call dir place.cookie place.verf

-- the attributes of the directory in the reply
abbrev pub page_attr : Result Reply Fault → Option Attr
page_attr (Ok (Dir (kept.ReadDirPlus attr verf page eof))) = attr
page_attr (Ok (Dir (kept.ReadDirPlusFail status attr))) = attr
page_attr (Ok reply) = None
page_attr (Err fault) = None

-- the page in the reply; a reply that doesn't fit the call is answered badly
abbrev pub page_heard : Result Reply Fault → Result PageHeard Fault
page_heard (Ok (Dir (kept.ReadDirPlus attr verf page eof))) = Ok (record { page = page; verf = verf; eof = eof })
page_heard (Ok (Dir (kept.ReadDirPlusFail status attr))) = Err (faults.Nfs status.0)
page_heard (Ok reply) = Err (faults.Bad 2)
page_heard (Err fault) = Err fault

-- A page without an entry that isn't the last one is answered badly: there is no cookie to go on with.
abbrev pub refusal_of : ListFault → Fault
refusal_of lists.Many = faults.Many
refusal_of lists.Stuck = faults.Bad 6
refusal_of lists.Memory = faults.Memory

-- The next page is asked for as soon as there is room.
abbrev pub more_next : PageStart → Bool → ListDir → Step
more_next place room m = if room then Send (page_call place m.visit.walk.spot.dir) else Wait

abbrev pub more_after : PageStart → Bool → ListDir → ListDir
more_after place room m = record m { visit = record m.visit { asked = room }; place = place }

-- After the last page the names are the answer.
pub record Ends (m : ListDir) (next : Step) (new : ListDir) : Type 0 where
  pub names : List (List ℕ)
  pub lists : Lists m.listing names
  pub next_is : next ≡ Done (answers.Done (Names names))
  pub machine_is : new ≡ record m { listing = [] }

abbrev pub GoesOn : ListStep → Bool → ListDir → Step → ListDir → Type 0
GoesOn (More cookie verf) room m next new =
    (next ≡ more_next (record { cookie = cookie; verf = verf }) room m) × (new ≡ more_after (record { cookie = cookie; verf = verf }) room m)
GoesOn End room m next new = Ends m next new

-- The names of the page join those of the pages before it.
abbrev pub TakesStep : Result ListStep ListFault → PageHeard → Bool → ListDir → Step → ListDir → Type 0
TakesStep (Ok step) heard room m next new = GoesOn step room (record m { listing = m.listing ++ counted heard.page }) next new
TakesStep (Err fault) heard room m next new = (next ≡ Done (answers.Refused (refusal_of fault))) × (new ≡ m)

-- For them there may be no memory.
abbrev pub TakesPage : PageHeard → Bool → ListDir → Step → ListDir → Type 0
TakesPage heard room m next new =
    ((next ≡ Done (answers.Refused faults.Memory)) × (new ≡ m))
    ⊎ (TakesStep (page_step m.listing heard.page heard.verf heard.eof) heard room m next new)

-- the same call again if the server is busy, or the refusal
abbrev pub refused_next : Bool → Fault → ListDir → Step
refused_next again fault m = if again then Send (page_call m.place m.visit.walk.spot.dir) else Done (answers.Refused fault)

abbrev pub Follows : Result PageHeard Fault → Bool → Bool → ListDir → Step → ListDir → Type 0
Follows (Ok heard) again room m next new = TakesPage heard room m next new
Follows (Err fault) again room m next new = (next ≡ refused_next again fault m) × (new ≡ m)

-- The step at the reply. The attributes of the directory are learnt, those of its entries aren't.
pub record ListsPage (m : ListDir) (sent turn : Turn) (came : Result Reply Fault) (old : Shelf) (next : Step) (new : ListDir)
    (after : Shelf) : Type 0 where
  pub attrs : Learns m.visit.walk.spot.dir (page_attr came) sent.now old.attrs after.attrs
  pub follows : Follows (page_heard came) (goes_again (fails_busy (page_heard came)) sent turn old.repeats) turn.room m next new
  pub others : after ≡ shown_shelf (fails_busy (page_heard came)) sent turn after.attrs old

-- a reply's step of a listing that asked for no page yet
pub record WalksToList (m : ListDir) (sent turn : Turn) (came : Result Reply Fault) (old : Shelf) (next : Step) (new : ListDir)
    (after : Shelf) : Type 0 where
  pub visit : Visit
  pub walks : Walks (page_call m.place) m.visit sent turn came old next visit after
  pub machine_is : new ≡ record m { visit = visit }

-- The step at what came of a call, by whether a page was asked for.
abbrev pub TakesList : Bool → ListDir → Turn → Turn → Result Reply Fault → Shelf → Step → ListDir → Shelf → Type 0
TakesList true m sent turn came old next new after = ListsPage m sent turn came old next new after
TakesList false m sent turn came old next new after = WalksToList m sent turn came old next new after
