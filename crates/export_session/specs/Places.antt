-- Each record that was sent, by its place.
use Rattle.std.specs.Prelude.{◌≡◌, ℕ, suc, List, take, Some, slice_get}
use Rattle.world_model.specs.declared.entry.Entry.{Entry}
use Rattle.world_model.specs.declared.entry.Entry.TheVariants.{Sent, Delivered}
use Rattle.world_model.specs.Entries.{At}
use Rattle.outside.specs.declared.datagrams.DatagramEntry.{DatagramEntry}
use Rattle.outside.specs.declared.datagrams.DatagramEntry.TheVariants as datagrams
use Rattle.export_session.specs.Answers.{ServingView, answer_to}
use Rattle.export_session.specs.Talk.{Talks}
use Rattle.export_session.specs.Senders as senders

-- The record just before the place came, and the bytes are the answer to it by what was served when it came.
pub record IsAnswer (s : ServingView) (es : List Entry) (n : ℕ) (bytes : List ℕ) : Type 0 where
  pub at : ℕ
  pub rec : List ℕ
  pub next : n ≡ suc at
  pub came : At es at (Delivered rec)
  pub then_served : ServingView
  pub so_far : Talks s (take at es) then_served
  pub is : answer_to then_served rec ≡ Some bytes

-- each record that was sent is such an answer
abbrev pub AnswersAll : ServingView → List Entry → Type 0
AnswersAll s es = (n : ℕ) (bytes : List ℕ) → At es n (Sent bytes) → IsAnswer s es n bytes

-- the same of datagrams: just before it the port was aimed at that the record came from
pub record IsAnswerTo (s : ServingView) (es : List DatagramEntry) (n : ℕ) (bytes : List ℕ) : Type 0 where
  pub at : ℕ
  pub port : ℕ
  pub rec : List ℕ
  pub next : n ≡ suc (suc at)
  pub came : slice_get es at ≡ Some (datagrams.Came port rec)
  pub aimed : slice_get es (suc at) ≡ Some (datagrams.Aimed port)
  pub then_served : ServingView
  pub so_far : senders.Talks s (take at es) then_served
  pub is : answer_to then_served rec ≡ Some bytes

abbrev pub AnswersAllTo : ServingView → List DatagramEntry → Type 0
AnswersAllTo s es = (n : ℕ) (bytes : List ℕ) → slice_get es n ≡ Some (datagrams.Sent bytes) → IsAnswerTo s es n bytes
