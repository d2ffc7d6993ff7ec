-- A history in which nothing was noted has no marks, no lines and no readings of the clock.
use Rattle.std.proofs.Common.{◌≡◌, ℕ, suc, List, [], ◌∷◌, refl}
use Rattle.world_model.specs.declared.entry.Entry.{Entry}
use Rattle.world_model.specs.declared.entry.Entry.TheVariants.{Began, Answered, Dialed, Sent, Executed, Foreign, Flushed, Reboot, Delivered, Failed, Clock}
use Rattle.world_model.specs.Clocked.{clocks}
use Rattle.world_model.specs.Follows.{begun, marks_of}
use Rattle.world_model.specs.Transcript.{transcript}
use Rattle.session_setup.specs.Sendings.{IsUnmarked}

rest : (e : Entry) (h : List Entry) → IsUnmarked (e ∷ h) → IsUnmarked h
rest e h u = record {
  began = λ i lane line op at. u.began (suc i) lane line op at;
  answered = λ i lane line answer at. u.answered (suc i) lane line answer at;
  clock = λ i ms at. u.clock (suc i) ms at;
}

pub marks_none : (lane : ℕ) (h : List Entry) → IsUnmarked h → marks_of lane h ≡ []
marks_none lane [] u = refl
marks_none lane (Began l line op ∷ h) u = absurd (u.began 0 l line op refl)
marks_none lane (Answered l line answer ∷ h) u = absurd (u.answered 0 l line answer refl)
marks_none lane (Clock ms ∷ h) u = absurd (u.clock 0 ms refl)
marks_none lane (Dialed port ∷ h) u = marks_none lane h (rest (Dialed port) h u)
marks_none lane (Sent bytes ∷ h) u = marks_none lane h (rest (Sent bytes) h u)
marks_none lane (Executed xid call reply ∷ h) u = marks_none lane h (rest (Executed xid call reply) h u)
marks_none lane (Foreign call reply ∷ h) u = marks_none lane h (rest (Foreign call reply) h u)
marks_none lane (Flushed file from len ∷ h) u = marks_none lane h (rest (Flushed file from len) h u)
marks_none lane (Reboot verf ∷ h) u = marks_none lane h (rest (Reboot verf) h u)
marks_none lane (Delivered bytes ∷ h) u = marks_none lane h (rest (Delivered bytes) h u)
marks_none lane (Failed ∷ h) u = marks_none lane h (rest Failed h u)

pub begun_none : (lane : ℕ) (h : List Entry) → IsUnmarked h → begun lane h ≡ []
begun_none lane [] u = refl
begun_none lane (Began l line op ∷ h) u = absurd (u.began 0 l line op refl)
begun_none lane (Answered l line answer ∷ h) u = absurd (u.answered 0 l line answer refl)
begun_none lane (Clock ms ∷ h) u = absurd (u.clock 0 ms refl)
begun_none lane (Dialed port ∷ h) u = begun_none lane h (rest (Dialed port) h u)
begun_none lane (Sent bytes ∷ h) u = begun_none lane h (rest (Sent bytes) h u)
begun_none lane (Executed xid call reply ∷ h) u = begun_none lane h (rest (Executed xid call reply) h u)
begun_none lane (Foreign call reply ∷ h) u = begun_none lane h (rest (Foreign call reply) h u)
begun_none lane (Flushed file from len ∷ h) u = begun_none lane h (rest (Flushed file from len) h u)
begun_none lane (Reboot verf ∷ h) u = begun_none lane h (rest (Reboot verf) h u)
begun_none lane (Delivered bytes ∷ h) u = begun_none lane h (rest (Delivered bytes) h u)
begun_none lane (Failed ∷ h) u = begun_none lane h (rest Failed h u)

pub clocks_none : (h : List Entry) → IsUnmarked h → clocks h ≡ []
clocks_none [] u = refl
clocks_none (Began l line op ∷ h) u = absurd (u.began 0 l line op refl)
clocks_none (Answered l line answer ∷ h) u = absurd (u.answered 0 l line answer refl)
clocks_none (Clock ms ∷ h) u = absurd (u.clock 0 ms refl)
clocks_none (Dialed port ∷ h) u = clocks_none h (rest (Dialed port) h u)
clocks_none (Sent bytes ∷ h) u = clocks_none h (rest (Sent bytes) h u)
clocks_none (Executed xid call reply ∷ h) u = clocks_none h (rest (Executed xid call reply) h u)
clocks_none (Foreign call reply ∷ h) u = clocks_none h (rest (Foreign call reply) h u)
clocks_none (Flushed file from len ∷ h) u = clocks_none h (rest (Flushed file from len) h u)
clocks_none (Reboot verf ∷ h) u = clocks_none h (rest (Reboot verf) h u)
clocks_none (Delivered bytes ∷ h) u = clocks_none h (rest (Delivered bytes) h u)
clocks_none (Failed ∷ h) u = clocks_none h (rest Failed h u)

pub transcript_none : (h : List Entry) → IsUnmarked h → transcript h ≡ []
transcript_none [] u = refl
transcript_none (Began l line op ∷ h) u = absurd (u.began 0 l line op refl)
transcript_none (Answered l line answer ∷ h) u = absurd (u.answered 0 l line answer refl)
transcript_none (Clock ms ∷ h) u = absurd (u.clock 0 ms refl)
transcript_none (Dialed port ∷ h) u = transcript_none h (rest (Dialed port) h u)
transcript_none (Sent bytes ∷ h) u = transcript_none h (rest (Sent bytes) h u)
transcript_none (Executed xid call reply ∷ h) u = transcript_none h (rest (Executed xid call reply) h u)
transcript_none (Foreign call reply ∷ h) u = transcript_none h (rest (Foreign call reply) h u)
transcript_none (Flushed file from len ∷ h) u = transcript_none h (rest (Flushed file from len) h u)
transcript_none (Reboot verf ∷ h) u = transcript_none h (rest (Reboot verf) h u)
transcript_none (Delivered bytes ∷ h) u = transcript_none h (rest (Delivered bytes) h u)
transcript_none (Failed ∷ h) u = transcript_none h (rest Failed h u)
