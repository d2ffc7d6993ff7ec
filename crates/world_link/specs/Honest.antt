-- What keeps the world honest: its history is lawful. Whatever it may still execute was sent, and whatever it may hand
-- out answers what was (RFC 1813, section 3.3, and RFC 5531, section 8).
use Rattle.std.specs.Prelude.{◌≡◌, ◌≤◌, ℕ, List, [], ◌∷◌, length, Option, Some, None, ⊤}
use Rattle.world_model.specs.declared.entry.Entry.{Entry}
use Rattle.world_model.specs.declared.entry.Entry.TheVariants.{Sent}
use Rattle.world_model.specs.Entries.{At}
use Rattle.world_model.specs.Lawful.{IsReplied, LawfulAt, Lawful}
use Rattle.world_model.specs.Rules.{most_bytes}
use Rattle.export_fs.specs.View.{View}
use Rattle.export_fs.specs.Risen.{PageRises, PagesRise}
use Rattle.export_fs.specs.Seen.{server_of}
use Rattle.export_fs.specs.Sound.{Sound}
use Rattle.export_fs.specs.Stamped.{Stamped}
use Rattle.export_serve.specs.Asking.{IsSound}
use Rattle.export_serve.specs.declared.request.Asked.{Asked}
use Rattle.world_link.specs.declared.directive.PartialWrite.{PartialWrite}
use Rattle.world_link.specs.declared.directive.RequestId.{RequestId}
use Rattle.world_link.specs.declared.waiting.Waiting.{Waiting}
use Rattle.world_link.specs.Going.{Follows}
use Rattle.world_link.specs.Holding.{HeldView}
use Rattle.world_link.specs.Plans.{PlanView}
use Rattle.world_link.specs.Replay.{stepped, replayed, part_at, told_of}
use Rattle.world_link.specs.View.{ServerView, WorldView}

-- each of a list
abbrev pub Every : {A : Type 0} → (A → Type 0) → List A → Type 0
Every P [] = ⊤
Every P (x ∷ xs) = P x × Every P xs

-- the record was sent
abbrev pub IsSent : List Entry → List ℕ → Type 0
IsSent es rec = (at : ℕ) × At es at (Sent rec)

-- The record is short enough, and replies to a call that was executed or refuses one that was sent.
pub record IsAnswer (es : List Entry) (bytes : List ℕ) : Type 0 where
  pub most : length bytes ≤ most_bytes
  pub is : IsReplied es (length es) bytes

-- A record that was sent asks for this.
pub record IsAsked (es : List Entry) (asked : Asked) : Type 0 where
  pub bytes : List ℕ
  pub sent : IsSent es bytes
  pub sound : IsSound bytes asked

-- a reply, if there is one, is such a record
abbrev pub MayAnswer : List Entry → Option (List ℕ) → Type 0
MayAnswer es None = ⊤
MayAnswer es (Some bytes) = IsAnswer es bytes

-- a bound on bytes, if there is one, is 1 or above
abbrev pub IsBound : Option ℕ → Type 0
IsBound None = ⊤
IsBound (Some most) = 1 ≤ most

-- The server's side of an honest world.
pub record IsHonest (start : View) (v : ServerView) : Type 0 where
  pub stamped : Stamped start
  pub sound : Sound v.export
  pub follows : Follows start v.export v.entries v.partials
  pub lawful : Lawful (told_of (part_at v.partials) start v.entries)
  pub pages : PagesRise (replayed (part_at v.partials)) start v.entries
  pub sent : (s : RequestId) (rec : List ℕ) → v.sent s ≡ Some rec → IsSent v.entries rec
  pub ready : Every (IsAnswer v.entries) v.ready
  pub held : Every (λ (h : HeldView). IsAnswer v.entries h.bytes) v.held

-- an honest server stays honest
pub record StaysHonest (old new : ServerView) : Type 0 where
  pub stays : (start : View) → IsHonest start old → IsHonest start new

-- The entry may stand next, with what is known beside it.
pub record MayStand (start : View) (v : ServerView) (part : Option PartialWrite) (e : Entry) : Type 0 where
  pub law : LawfulAt (told_of (part_at v.partials) start v.entries) (length v.entries) e (server_of v.export) (server_of (stepped part v.export e))
  pub sound : Sound (stepped part v.export e)
  pub page : PageRises v.export e

-- bounds that a plan gives
abbrev pub IsBounded : PlanView → Type 0
IsBounded plan = (s : RequestId) → IsBound (plan.fate s).limit

-- An honest world: also each record that waits for its turn was sent.
pub record IsHonestWorld (w : WorldView) : Type 0 where
  pub server : IsHonest w.start w.server
  pub waiting : Every (λ (next : Waiting). IsSent w.server.entries next.bytes) w.waiting
  pub plan : IsBounded w.plan
