-- The core and the machines of kept pages, names and attributes beside it: each exact step of the core is steps of these machines.
use Rattle.std.specs.Prelude.{◌≡◌, ℕ, List, [], ◌∷◌, ◌++◌, Some, false, position}
use Rattle.rpc_message.specs.Call.{xid_at}
use Rattle.rpc_retry.specs.declared.waiting.Waiting.{Waiting}
use Rattle.rpc_retry.specs.Waiting.{waiting_at}
use Rattle.world_model.specs.declared.entry.Entry.{Entry}
use Rattle.world_model.specs.declared.entry.Entry.TheVariants.{Began, Delivered}
use Rattle.world_model.specs.declared.op.Op.{Op}
use Rattle.world_model.specs.History.{History}
use Rattle.world_model.specs.Lawful.{Lawful}
use Rattle.call_replies.specs.Says.{said_of}
use Rattle.client_shelf.specs.declared.shelf.Shelf.{Shelf}
use Rattle.op_machines.specs.declared.begun.Mounted.{Mounted}
use Rattle.op_machines.specs.Begun.{machine_of}
use Rattle.client_core.specs.declared.lane.Purpose.{Purpose}
use Rattle.client_core.specs.declared.setup.Setup.{Setup}
use Rattle.client_core.specs.Lanes.{is_busy}
use Rattle.client_core.specs.Numbers.{IsIdle}
use Rattle.client_core.specs.Steps.{Stirs, counted, StartsLane, TakesAt, taken}
use Rattle.client_core.specs.View.{View}
use Rattle.core_facts.specs.Reaches.{StepsTo, HearsRecord, Reaches, last_reading}
use Rattle.core_answers.specs.bonds.Kept.{LastAtMost}
use Rattle.core_answers.specs.pages.Passing.{Passes}
use Rattle.law_names.specs.Feeds as name_feeds
use Rattle.core_counts.specs.coarse.FedAttrs.{Learns}
use Rattle.core_counts.specs.coarse.FedNames as name_steps
use Rattle.core_counts.specs.coarse.FedPages as page_steps

-- ---- each step of the core

-- the history until there
abbrev pub until : History → List Entry → History
until t h = record { entries = h; at = t.at }

-- A relation of the shelf before and after, by the history until then, holds of each exact step of the core along the history: as an operation begins; as it
-- goes on, from any view through which the core passes; as it takes what came of its call; and over each entry as a whole.
pub record EachStep (m : Mounted) (setup : Setup) (t : History) (R : History → Shelf → Shelf → Type 0) : Type 0 where
  pub starts : (h rest : List Entry) (old new : View) (lane line : ℕ) (op : Op) → t.entries ≡ h ++ Began lane line op ∷ rest
      → Reaches (machine_of m) setup h old → old.lost ≡ false → IsIdle lane old.lanes
      → StartsLane (counted old (last_reading 0 h)) lane (machine_of m lane op) new → R (until t (h ++ Began lane line op ∷ [])) old.shelf new.shelf
  pub stirs : (h rest : List Entry) (old new : View) (at : ℕ) → t.entries ≡ h ++ rest → Passes (machine_of m) setup h old → Stirs old at new
      → R (until t h) old.shelf new.shelf
  pub takes : (h rest : List Entry) (old new fin : View) (rec : List ℕ) (xid at : ℕ) (call : Waiting Purpose) → t.entries ≡ h ++ Delivered rec ∷ rest
      → Reaches (machine_of m) setup h old → old.lost ≡ false → HearsRecord old rec fin → xid_at rec ≡ Some xid
      → waiting_at xid old.calls.calls ≡ Some call → position (is_busy call.purpose.lane) old.lanes ≡ Some at
      → TakesAt (taken old rec) at call.purpose.sent (said_of call.purpose.proc rec) new → R (until t (h ++ Delivered rec ∷ [])) old.shelf new.shelf
  pub over : (h rest : List Entry) (old new : View) (e : Entry) → t.entries ≡ h ++ e ∷ rest → Reaches (machine_of m) setup h old
      → StepsTo (machine_of m) h old e new → R (until t (h ++ e ∷ [])) old.shelf new.shelf

-- ---- pages and names

-- The kept pages and the kept names go on by steps of their machines.
pub record Fed (t : History) (old new : Shelf) : Type 0 where
  pub pages : page_steps.Steps t old.pages new.pages
  pub names : name_steps.Steps t old.names new.names

-- So they do in each step of the core along each history of a server that conforms to RFC 1813.
abbrev pub CoreIsFed : Type 0
CoreIsFed = (m : Mounted) (setup : Setup) (t : History) → Lawful t → EachStep m setup t Fed

-- So at each place of it the kept pages are what their machine comes to from those that were kept from the start,
abbrev pub PagesFed : Type 0
PagesFed = (m : Mounted) (setup : Setup) (t : History) (h rest : List Entry) (v : View) → Lawful t → t.entries ≡ h ++ rest → Reaches (machine_of m) setup h v
    → page_steps.Steps (until t h) setup.pages v.shelf.pages

-- and the kept names are fed as law_names says.
abbrev pub NamesFed : Type 0
NamesFed = (m : Mounted) (setup : Setup) (t : History) (h rest : List Entry) (v : View) → Lawful t → t.entries ≡ h ++ rest → Reaches (machine_of m) setup h v
    → name_feeds.IsFed (until t h) v.shelf.names

-- ---- attributes

-- In each step, attributes that are kept afterwards were kept before, or a reply shows them.
abbrev pub AttrsLearnt : Type 0
AttrsLearnt = (m : Mounted) (setup : Setup) (most : ℕ) (t : History) → LastAtMost setup.lives most → Lawful t
    → EachStep m setup t (λ (k : History) (old new : Shelf). Learns k most old.attrs new.attrs)
