-- What each call of a world of two clients makes of it.
use Rattle.std.specs.Prelude.{◌≡◌, ◌==◌, ℕ, List, [], Option, Some, None, position, Result}
use Rattle.outside.specs.declared.link.LinkFault.{LinkFault}
use Rattle.outside.specs.declared.link.Received.{Received}
use Rattle.outside.specs.declared.link.Received.TheVariants as received
use Rattle.world_model.specs.declared.entry.Entry.TheVariants.{Failed}
use Rattle.world_model.specs.declared.entry.Mark.{Mark}
use Rattle.export_serve.specs.Asking.{asked_at}
use Rattle.world_link.specs.declared.routed.Routed.{Routed}
use Rattle.world_link.specs.Going.{GoesOn}
use Rattle.world_link.specs.Pairs.{PairView}
use Rattle.world_link.specs.Routing as routing
use Rattle.world_link.specs.Steps as steps
use Rattle.world_link.specs.Turning.{name_of, silent}

-- the place of the first reply that is ready for that end
abbrev pub first_for : ℕ → List Routed → Option ℕ
first_for end ready = position (λ r. r.end == end) ready

-- Transmissions of either end had their turns, the oldest first, each while no reply was ready for that end.
pub data GivesTurns (end : ℕ) (old : PairView) : PairView → Type 0 where
  none : GivesTurns end old old
  turn : (mid new : PairView) → GivesTurns end old mid → first_for end mid.ends.server.ready ≡ None
      → steps.TurnsFirst mid.world new.world mid.world.waiting → GivesTurns end old new

-- the reply at this place, which is the first that is ready for that end, came
pub record Hands (end : ℕ) (old new : PairView) (rec : List ℕ) : Type 0 where
  pub place : ℕ
  pub first : first_for end old.ends.server.ready ≡ Some place
  pub world : steps.HandsAt old.world new.world place rec received.Whole
  pub ends : routing.Hands old.ends new.ends place rec

-- none is ready for that end, and nothing came
pub record Silences (end : ℕ) (old new : PairView) : Type 0 where
  pub none : first_for end old.ends.server.ready ≡ None
  pub world : new.world ≡ silent old.world
  pub ends : new.ends ≡ routing.after old.ends end Failed

-- The first reply that is ready for that end came; if none is, nothing came. Waiting never fails. Out of memory changes nothing.
abbrev pub HandsTo : ℕ → PairView → PairView → List ℕ → Received → Type 0
HandsTo end old new rec received.Whole = Hands end old new rec
HandsTo end old new rec received.Silent = Silences end old new
HandsTo end old new rec received.Failed = ⊥
HandsTo end old new rec received.Memory = (new.world ≡ old.world) × (new.ends ≡ old.ends)

-- no sending of either end is left if nothing came
abbrev pub NoneIsLeft : PairView → Received → Type 0
NoneIsLeft v received.Silent = v.world.waiting ≡ []
NoneIsLeft v result = Unit {0}

-- after such turns
pub record Receives (end : ℕ) (old new : PairView) (rec : List ℕ) (result : Received) : Type 0 where
  pub mid : PairView
  pub turns : GivesTurns end old mid
  pub hands : HandsTo end mid new rec result
  pub left : NoneIsLeft mid result

-- Out of memory may come in the midst.
abbrev pub ReceivesAt : ℕ → PairView → PairView → List ℕ → Received → Type 0
ReceivesAt end old new rec received.Memory = GoesOn old.world new.world
ReceivesAt end old new rec result = Receives end old new rec result

-- Dials, sends and notes are those of a world of one client, with the end beside what is told.
pub record DialsAt {T : Type 0} (end : ℕ) (old new : PairView) (port : ℕ) (result : Result T LinkFault) : Type 0 where
  pub world : steps.Dials old.world new.world port result
  pub ends : routing.Dials old.ends new.ends end port result

pub record SendsAt {T : Type 0} (end : ℕ) (old new : PairView) (rec : List ℕ) (result : Result T LinkFault) : Type 0 where
  pub world : steps.Sends old.world new.world rec result
  pub ends : routing.Sends old.ends new.ends (name_of old.world.counts (asked_at rec)) (record { end = end; bytes = rec }) result

pub record NotesAt {T E : Type 0} (end : ℕ) (old new : PairView) (mark : Mark) (result : Result T E) : Type 0 where
  pub world : steps.Notes old.world new.world mark result
  pub ends : routing.Notes old.ends new.ends end mark result
