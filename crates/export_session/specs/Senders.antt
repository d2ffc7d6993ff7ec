-- What an export that is served says over datagrams, as the entries that its own calls of them add, in order.
use Rattle.std.specs.Prelude.{◌≡◌, ◌-◌, ℕ, List, [], ◌∷◌, ◌++◌, Option, Some, None}
use Rattle.outside.specs.declared.datagrams.DatagramEntry.{DatagramEntry}
use Rattle.outside.specs.declared.datagrams.DatagramEntry.TheVariants.{Aimed, Sent, Came, Missed}
use Rattle.outside.specs.Datagrams.{DatagramCall, DatagramsTold}
use Rattle.export_serve.specs.Serving.{StepsOnce}
use Rattle.export_session.specs.declared.next.End.{End}
use Rattle.export_session.specs.declared.next.End.TheVariants.{Served, Lost, Memory}
use Rattle.export_session.specs.declared.next.Next.{Next}
use Rattle.export_session.specs.declared.next.Next.TheVariants.{Wait, Close, Stop}
use Rattle.export_session.specs.Answers.{ServingView, answer_to, serves, LeftOut}

-- what each call did
abbrev pub did_of : List DatagramCall → List DatagramEntry
did_of [] = []
did_of (c ∷ cs) = c.did ∷ did_of cs

-- Calls were added that did this.
pub record AddsAll (old new : DatagramsTold) (es : List DatagramEntry) : Type 0 where
  pub more : List DatagramCall
  pub grown : new ≡ record { start = old.start; calls = old.calls ++ more }
  pub did : did_of more ≡ es

-- the same of what datagrams may tell: those that tell go on telling
abbrev pub TellsAll : Option DatagramsTold → Option DatagramsTold → List DatagramEntry → Type 0
TellsAll None new es = Unit {0}
TellsAll (Some old) None es = ⊥
TellsAll (Some old) (Some new) es = AddsAll old new es

-- These entries were added, and P is true of them.
pub record DoesAll (old new : Option DatagramsTold) (P : List DatagramEntry → Type 0) : Type 0 where
  pub entries : List DatagramEntry
  pub tells : TellsAll old new entries
  pub is : P entries

-- ---- one datagram

-- A turn, from what is served to what is served after it. Each datagram that is sent is the answer to the one that came just before it, by
-- what is served at that moment. It goes to the port that this came from. A call that no reply is kept of is one step of a server.
pub data Turn (s t : ServingView) (es : List DatagramEntry) : Type 0 where
  -- nothing came
  silent : es ≡ Missed ∷ [] → t ≡ s → Turn s t es
  -- a record that is no call
  stray : (port : ℕ) (rec : List ℕ) → es ≡ Came port rec ∷ [] → answer_to s rec ≡ None → t ≡ record (serves s rec) { strays = s.strays - 1 } → Turn s t es
  -- a call, and its answer
  answered : (port : ℕ) (rec reply : List ℕ) → es ≡ Came port rec ∷ Aimed port ∷ Sent reply ∷ [] → answer_to s rec ≡ Some reply
      → t ≡ record (serves s rec) { calls = s.calls - 1 } → StepsOnce rec s.service t.service → Turn s t es
  -- a call whose answer could not be sent, or whose sender could not be aimed at
  unsent : (port : ℕ) (rec reply : List ℕ) → es ≡ Came port rec ∷ Aimed port ∷ Missed ∷ [] → answer_to s rec ≡ Some reply → t ≡ serves s rec
      → StepsOnce rec s.service t.service → Turn s t es
  unaimed : (port : ℕ) (rec reply : List ℕ) → es ≡ Came port rec ∷ Aimed port ∷ [] → answer_to s rec ≡ Some reply → t ≡ serves s rec
      → StepsOnce rec s.service t.service → Turn s t es

-- The turn in which memory runs out. It sends nothing.
pub data RunsOut (s t : ServingView) (es : List DatagramEntry) : Type 0 where
  before_a_record : es ≡ [] → t ≡ s → RunsOut s t es
  at_an_answer : (port : ℕ) (rec : List ℕ) → es ≡ Came port rec ∷ [] → LeftOut rec s t → RunsOut s t es
  at_aiming : (port : ℕ) (rec reply : List ℕ) → es ≡ Came port rec ∷ [] → answer_to s rec ≡ Some reply → t ≡ serves s rec → RunsOut s t es
  at_sending : (port : ℕ) (rec reply : List ℕ) → es ≡ Came port rec ∷ Aimed port ∷ [] → answer_to s rec ≡ Some reply → t ≡ serves s rec → RunsOut s t es

-- how it goes on after a turn
abbrev pub TurnsTo : Next → ServingView → ServingView → List DatagramEntry → Type 0
TurnsTo Wait s t es = Turn s t es
TurnsTo Close s t es = Turn s t es
TurnsTo (Stop Served) s t es = Turn s t es
TurnsTo (Stop Lost) s t es = Turn s t es
TurnsTo (Stop Memory) s t es = RunsOut s t es

-- Sending a reply where it was aimed: it went out and is counted, or it failed; or memory ran out, and nothing was sent.
abbrev pub SendsAimed : List ℕ → Next → ServingView → ServingView → List DatagramEntry → Type 0
SendsAimed reply (Stop Memory) s t es = (es ≡ []) × (t ≡ s)
SendsAimed reply Close s t es = (es ≡ Missed ∷ []) × (t ≡ s)
SendsAimed reply Wait s t es = (es ≡ Sent reply ∷ []) × (t ≡ record s { calls = s.calls - 1 })
SendsAimed reply (Stop Served) s t es = (es ≡ Sent reply ∷ []) × (t ≡ record s { calls = s.calls - 1 })
SendsAimed reply (Stop Lost) s t es = ⊥

-- The same after the port was aimed at; or that failed, or memory ran out before.
pub data SendsTo (port : ℕ) (reply : List ℕ) (next : Next) (s t : ServingView) (es : List DatagramEntry) : Type 0 where
  aimed : (more : List DatagramEntry) → es ≡ Aimed port ∷ more → SendsAimed reply next s t more → SendsTo port reply next s t es
  missed : next ≡ Close → es ≡ Aimed port ∷ [] → t ≡ s → SendsTo port reply next s t es
  no_memory : next ≡ Stop Memory → es ≡ [] → t ≡ s → SendsTo port reply next s t es

-- ---- one datagram after another

-- turns, from what is served to what is served after them
pub data Talks (s : ServingView) : List DatagramEntry → ServingView → Type 0 where
  begins : (es : List DatagramEntry) (t : ServingView) → es ≡ [] → t ≡ s → Talks s es t
  turns : (es before last : List DatagramEntry) (u t : ServingView) → es ≡ before ++ last → Talks s before u → Turn u t last → Talks s es t

-- turns, and then the one in which memory runs out
pub record TalksOut (s t : ServingView) (es : List DatagramEntry) : Type 0 where
  pub before : List DatagramEntry
  pub last : List DatagramEntry
  pub between : ServingView
  pub is : es ≡ before ++ last
  pub talks : Talks s before between
  pub out : RunsOut between t last

-- by how serving ends
abbrev pub TalksTo : Option End → ServingView → ServingView → List DatagramEntry → Type 0
TalksTo None s t es = Talks s es t
TalksTo (Some Served) s t es = Talks s es t
TalksTo (Some Lost) s t es = Talks s es t
TalksTo (Some Memory) s t es = TalksOut s t es
