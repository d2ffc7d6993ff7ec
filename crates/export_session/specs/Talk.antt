-- What an export that is served says over a link, as the entries that its own calls of the link add, in order.
use Rattle.std.specs.Prelude.{◌≡◌, ◌-◌, ℕ, List, [], ◌∷◌, ◌++◌, Option, Some, None}
use Rattle.world_model.specs.declared.entry.Entry.{Entry}
use Rattle.world_model.specs.declared.entry.Entry.TheVariants.{Sent, Delivered, Failed}
use Rattle.world_model.specs.History.{History}
use Rattle.world_model.specs.Told.{Tells}
use Rattle.export_serve.specs.Serving.{StepsOnce}
use Rattle.export_session.specs.declared.next.End.{End}
use Rattle.export_session.specs.declared.next.End.TheVariants.{Served, Lost, Memory}
use Rattle.export_session.specs.declared.next.Next.{Next}
use Rattle.export_session.specs.declared.next.Next.TheVariants.{Wait, Close, Stop}
use Rattle.export_session.specs.Answers.{ServingView, answer_to, serves, LeftOut}

-- These entries were added, and P is true of them.
pub record Does (old new : Option History) (P : List Entry → Type 0) : Type 0 where
  pub entries : List Entry
  pub tells : Tells old new entries
  pub is : P entries

-- ---- one record

-- A turn, from what is served to what is served after it. Each record that is sent is the answer to the one that came just before it,
-- by what is served at that moment; and a call that no reply is kept of is one step of a server.
pub data Turn (s t : ServingView) (es : List Entry) : Type 0 where
  -- nothing came
  silent : es ≡ Failed ∷ [] → t ≡ s → Turn s t es
  -- a record that is no call
  stray : (rec : List ℕ) → es ≡ Delivered rec ∷ [] → answer_to s rec ≡ None → t ≡ record (serves s rec) { strays = s.strays - 1 } → Turn s t es
  -- a call, and its answer
  answered : (rec reply : List ℕ) → es ≡ Delivered rec ∷ Sent reply ∷ [] → answer_to s rec ≡ Some reply → t ≡ record (serves s rec) { calls = s.calls - 1 }
      → StepsOnce rec s.service t.service → Turn s t es
  -- a call whose answer could not be sent
  unsent : (rec reply : List ℕ) → es ≡ Delivered rec ∷ Sent reply ∷ Failed ∷ [] → answer_to s rec ≡ Some reply → t ≡ serves s rec
      → StepsOnce rec s.service t.service → Turn s t es

-- The turn in which memory runs out. It sends nothing.
pub data RunsOut (s t : ServingView) (es : List Entry) : Type 0 where
  before_a_record : es ≡ [] → t ≡ s → RunsOut s t es
  at_an_answer : (rec : List ℕ) → es ≡ Delivered rec ∷ [] → LeftOut rec s t → RunsOut s t es
  at_sending : (rec reply : List ℕ) → es ≡ Delivered rec ∷ [] → answer_to s rec ≡ Some reply → t ≡ serves s rec → RunsOut s t es

-- how it goes on after a turn
abbrev pub TurnsTo : Next → ServingView → ServingView → List Entry → Type 0
TurnsTo Wait s t es = Turn s t es
TurnsTo Close s t es = Turn s t es
TurnsTo (Stop Served) s t es = Turn s t es
TurnsTo (Stop Lost) s t es = Turn s t es
TurnsTo (Stop Memory) s t es = RunsOut s t es

-- Sending a reply: it went out and is counted, or it failed; or memory ran out, and nothing was sent.
abbrev pub Sends : List ℕ → Next → ServingView → ServingView → List Entry → Type 0
Sends reply (Stop Memory) s t es = (es ≡ []) × (t ≡ s)
Sends reply Close s t es = (es ≡ Sent reply ∷ Failed ∷ []) × (t ≡ s)
Sends reply Wait s t es = (es ≡ Sent reply ∷ []) × (t ≡ record s { calls = s.calls - 1 })
Sends reply (Stop Served) s t es = (es ≡ Sent reply ∷ []) × (t ≡ record s { calls = s.calls - 1 })
Sends reply (Stop Lost) s t es = ⊥

-- ---- one record after another

-- turns, from what is served to what is served after them
pub data Talks (s : ServingView) : List Entry → ServingView → Type 0 where
  begins : (es : List Entry) (t : ServingView) → es ≡ [] → t ≡ s → Talks s es t
  turns : (es before last : List Entry) (u t : ServingView) → es ≡ before ++ last → Talks s before u → Turn u t last → Talks s es t

-- turns, and then the one in which memory runs out
pub record TalksOut (s t : ServingView) (es : List Entry) : Type 0 where
  pub before : List Entry
  pub last : List Entry
  pub between : ServingView
  pub is : es ≡ before ++ last
  pub talks : Talks s before between
  pub out : RunsOut between t last

-- by how serving ends: None if the link failed or was silent, or if no more is waited for
abbrev pub TalksTo : Option End → ServingView → ServingView → List Entry → Type 0
TalksTo None s t es = Talks s es t
TalksTo (Some Served) s t es = Talks s es t
TalksTo (Some Lost) s t es = Talks s es t
TalksTo (Some Memory) s t es = TalksOut s t es
