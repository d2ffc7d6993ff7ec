-- A step of a save without a reply, and the first step of one.
use Rattle.std.proofs.Common.{◌≡◌, ◌≤◌, ◌+◌, ◌==◌, ◌&&◌, ℕ, Bool, true, false, List, [], ◌∷◌, ◌++◌, length, Option, Some, None, inl, inr, refl, sym, ap, subst, ◌∙◌, arith, length-append}
use Rattle.std.specs.Prelude.{nat_lt}
use Rattle.std.proofs.lemmas.Bool.{eqb-true, ltb-false, and_parts}
use Rattle.world_model.specs.declared.answer.Answer.TheVariants as answers
use Rattle.world_model.specs.declared.answer.Fault.{Fault}
use Rattle.world_model.specs.declared.answer.Fault.TheVariants.{Memory}
use Rattle.client_shelf.specs.declared.step.Step.{Step}
use Rattle.client_shelf.specs.declared.step.Step.TheVariants.{Send, Wait, Done}
use Rattle.write_back.specs.Segments.{Segment, Segments, covers}
use Rattle.write_back.specs.Pieces.{Sent, FilePending, flown_in}
use Rattle.write_back.specs.Choice.{chosen, piece_of}
use Rattle.write_back.specs.Files.{Pending, of_file, HasNoPiece, IsFree, PutsPiece}
use Rattle.write_back.specs.Sound.{IsSound}
use Rattle.write_back.specs.Waits.{FitsCall}
use Rattle.write_back.proofs.ByPlace.{covered}
use Rattle.write_back.proofs.Flying.{flown-some}
use Rattle.write_back.proofs.NextPiece.{fits-call}
use Rattle.write_back.proofs.Sending.{next-is}
use Rattle.file_ops.specs.declared.saving.Phase.{Phase}
use Rattle.file_ops.specs.declared.saving.Phase.TheVariants.{Sending, Committing, Resending, CommittingAgain}
use Rattle.file_ops.specs.declared.saving.Saving.{Saving}
use Rattle.file_ops.specs.Saves as saves
use Rattle.file_ops.specs.Syncs.{sync_next}
use Rattle.step_pending.specs.Cells.{EachSound}
use Rattle.step_pending.proofs.Shown.{some-of}
use Rattle.step_pending.proofs.TakingOff.{sound-sends}
use Rattle.step_saves.specs.Saves.{IsClearUpTo, EachUpTo, IsLost, AreAgain, PhaseCounts, IsUnderWay, GoesOn, IsSaved, Leaves}
use Rattle.step_saves.proofs.Pieces.{none-of, again-append}
use Rattle.step_saves.proofs.Places.{held-then, clear-then, lost-sent, sent-again}

abbrev pub saving : ℕ → List ℕ → ℕ → Phase → ℕ → Option Fault → Saving
saving put_off file upto phase waiting refusal = record { file = file; upto = upto; phase = phase; waiting = waiting; refusal = refusal; put_off = put_off }

-- ---- what a step leads to

pub leads-leaves : (to : _) (saved : Saving) (next : _) (s new : Saving) (after : Pending) → saves.Leads to saved next new → Leaves (sync_next to) s saved after → Leaves (sync_next next) s new after
leads-leaves to saved next s new after l left =
    subst (λ n. Leaves (sync_next n) s new after) (sym l.gives_next) (subst (λ (z : Saving). Leaves (sync_next to) s z after) (sym l.keeps) left)

-- the same of a save of the same file up to the same number
pub leaves-as : (next : Step) (s t new : Saving) (after : Pending) → s.file ≡ t.file → s.upto ≡ t.upto → Leaves next s new after → Leaves next t new after
leaves-as (Send call) s t new after file upto l = record { file = l.file ∙ file; upto = l.upto ∙ upto; so = l.so }
leaves-as Wait s t new after file upto l = record { file = l.file ∙ file; upto = l.upto ∙ upto; so = l.so }
leaves-as (Done (answers.Done value)) s t new after file upto l = record {
  quiet = subst (λ (f : List ℕ). HasNoPiece f after) file l.quiet;
  clear = subst (λ (n : ℕ). IsClearUpTo n (of_file t.file after)) upto (subst (λ (f : List ℕ). IsClearUpTo s.upto (of_file f after)) file l.clear);
}
leaves-as (Done (answers.Refused fault)) s t new after file upto l = subst (λ (f : List ℕ). HasNoPiece f after) file l

pub stays-on : (s : Saving) (back : Pending) → IsUnderWay s back → GoesOn s s back
stays-on s back way = record { file = refl; upto = refl; so = way }

quiet-when : (phase : Phase) (waiting : ℕ) (pieces : List Sent) → PhaseCounts phase waiting pieces → waiting ≡ 0 → pieces ≡ []
quiet-when Sending waiting pieces counts none = none-of pieces (counts ∙ none)
quiet-when Committing waiting pieces counts none = counts.1
quiet-when Resending waiting pieces counts none = none-of pieces (counts ∙ none)
quiet-when CommittingAgain waiting pieces counts none = counts.1

-- a refusal: it ends once no call of its own waits
pub refused-leaves : (s : Saving) (back : Pending) (fault : Fault) → IsUnderWay s back → Leaves (sync_next (saves.refused_next s.waiting fault)) s s back
refused-leaves s back fault way = by (s.waiting == 0) refl
  where
    by : (b : Bool) → (s.waiting == 0) ≡ b → Leaves (sync_next (saves.refused_next s.waiting fault)) s s back
    by true h = rw h (quiet-when s.phase s.waiting (of_file s.file back).pieces way.counts (eqb-true s.waiting 0 h))
    by false h = rw h (stays-on s back way)

zero-is : (n : ℕ) → n ≤ 0 → n ≡ 0
zero-is n le = omega (arith, le)

-- ---- once all was sent

module _ (put_off : ℕ) (file : List ℕ) (upto wsize : ℕ) (back : Pending) (some : 1 ≤ wsize) (none : chosen upto wsize (of_file file back) ≡ []) (waiting : ℕ) where
  abbrev SentAll : Bool → Phase → Type 0
  SentAll by_reply phase =
      Leaves (sync_next (saves.next_sent by_reply (saving put_off file upto phase waiting None))) (saving put_off file upto phase waiting None) (saves.saving_sent by_reply (saving put_off file upto phase waiting None)) back

  quiet-then : (phase : Phase) → IsUnderWay (saving put_off file upto phase waiting None) back → nat_lt 0 waiting ≡ false → (of_file file back).pieces ≡ []
  quiet-then phase way h = quiet-when phase waiting (of_file file back).pieces way.counts (zero-is waiting (ltb-false 0 waiting h))

  first-sent : (by_reply : Bool) → IsUnderWay (saving put_off file upto Sending waiting None) back → (lt : Bool) → nat_lt 0 waiting ≡ lt → SentAll by_reply Sending
  first-sent by_reply way true h = rw h (stays-on (saving put_off file upto Sending waiting None) back way)
  first-sent by_reply way false h =
      let quiet = quiet-then Sending way h in
      let commits : IsUnderWay (saving put_off file upto Committing 1 None) back = record { counts = (refl, quiet); has = held-then upto wsize (of_file file back) some none quiet } in
      let on : GoesOn (saving put_off file upto Sending waiting None) (saving put_off file upto Committing 1 None) back = record { file = refl; upto = refl; so = commits } in
      rw h on

  again-sent : (by_reply : Bool) → IsUnderWay (saving put_off file upto Resending waiting None) back → (lt : Bool) → nat_lt 0 waiting ≡ lt → SentAll by_reply Resending
  again-sent true way true h = rw h (stays-on (saving put_off file upto Resending waiting None) back way)
  again-sent false way true h = rw h (stays-on (saving put_off file upto Resending waiting None) back way)
  again-sent true way false h =
      let quiet = quiet-then Resending way h in
      let saved : IsSaved (saving put_off file upto Resending waiting None) back = record { quiet = quiet; clear = clear-then upto wsize (of_file file back) some none quiet way.has.0 } in
      rw h saved
  again-sent false way false h =
      let quiet = quiet-then Resending way h in
      let commits : IsUnderWay (saving put_off file upto CommittingAgain 1 None) back = record { counts = (refl, quiet); has = clear-then upto wsize (of_file file back) some none quiet way.has.0 } in
      let on : GoesOn (saving put_off file upto Resending waiting None) (saving put_off file upto CommittingAgain 1 None) back = record { file = refl; upto = refl; so = commits } in
      rw h on

  sent-all : (by_reply : Bool) (phase : Phase) → saves.is_sending phase ≡ true → IsUnderWay (saving put_off file upto phase waiting None) back → SentAll by_reply phase
  sent-all by_reply Sending sends way = first-sent by_reply way (nat_lt 0 waiting) refl
  sent-all by_reply Committing sends way = absurd cc
  sent-all by_reply Resending sends way = again-sent by_reply way (nat_lt 0 waiting) refl
  sent-all by_reply CommittingAgain sends way = absurd cc

-- ---- a piece that is sent

module _ (file : List ℕ) (upto wsize xid : ℕ) (back after : Pending) (e : ℕ × Segment) (es : Segments) (sound : IsSound (of_file file back))
    (is : chosen upto wsize (of_file file back) ≡ e ∷ es) (puts : PutsPiece xid upto (e ∷ es) back after file) where
  piece : Sent
  piece = piece_of xid e (e ∷ es)

  pieces-then : (of_file file after).pieces ≡ (of_file file back).pieces ++ piece_of xid e (e ∷ es) ∷ []
  pieces-then = ap (λ (of : FilePending). of.pieces) puts.0.here

  one-more : (waiting : ℕ) → length (of_file file back).pieces ≡ waiting → length (of_file file after).pieces ≡ waiting + 1
  one-more waiting counts =
      let long : length ((of_file file back).pieces ++ piece_of xid e (e ∷ es) ∷ []) ≡ length (of_file file back).pieces + length (piece_of xid e (e ∷ es) ∷ []) = length-append (of_file file back).pieces (piece_of xid e (e ∷ es) ∷ []) in
      ap length pieces-then ∙ long ∙ ap (λ n. n + 1) counts

  again-then : EachUpTo upto IsLost (of_file file back) → AreAgain (of_file file back).pieces → AreAgain (of_file file after).pieces
  again-then lost all =
      let fits : FitsCall wsize (piece_of xid e (e ∷ es)) = fits-call xid upto wsize (of_file file back) e es sound is in
      let next = next-is xid upto wsize (of_file file back) e es sound.apart is in
      let first : covers (piece_of xid e (e ∷ es)).offset (length (piece_of xid e (e ∷ es)).bytes) (piece_of xid e (e ∷ es)).offset ≡ true =
      covered (piece_of xid e (e ∷ es)).offset (length (piece_of xid e (e ∷ es)).bytes) (piece_of xid e (e ∷ es)).offset (omega arith) (omega (arith, fits.some)) in
      let flown = some-of (flown_in (piece_of xid e (e ∷ es)) (piece_of xid e (e ∷ es)).offset) (flown-some (piece_of xid e (e ∷ es)) (piece_of xid e (e ∷ es)).offset next.whole first) in
      subst AreAgain (sym pieces-then)
      (again-append (of_file file back).pieces (piece_of xid e (e ∷ es)) all
      (sent-again wsize (piece_of xid e (e ∷ es)) upto (of_file file back) (of_file file after) fits puts.1 lost first flown.0 flown.1))

  sends-on : (put_off : ℕ) (phase : Phase) (waiting : ℕ) → saves.is_sending phase ≡ true → IsUnderWay (saving put_off file upto phase waiting None) back → IsUnderWay (saving put_off file upto phase (waiting + 1) None) after
  sends-on put_off Sending waiting sends way = record { counts = one-more waiting way.counts; has = tt }
  sends-on put_off Committing waiting sends way = absurd cc
  sends-on put_off Resending waiting sends way = record {
    counts = one-more waiting way.counts;
    has = (lost-sent (piece_of xid e (e ∷ es)) upto upto (of_file file back) (of_file file after) puts.1 way.has.0, again-then way.has.0 way.has.1);
  }
  sends-on put_off CommittingAgain waiting sends way = absurd cc

-- ---- the step

module _ (put_off : ℕ) (file : List ℕ) (upto wsize xid : ℕ) (room by_reply : Bool) (some : 1 ≤ wsize) (back : Pending) (sound : IsSound (of_file file back)) where
  sends : (phase : Phase) (waiting : ℕ) (run : Segments) (next : _) (new : Saving) (after : Pending) → saves.is_sending phase ≡ true
      → IsUnderWay (saving put_off file upto phase waiting None) back → chosen upto wsize (of_file file back) ≡ run
      → saves.Sends xid by_reply run (saving put_off file upto phase waiting None) back next new after → Leaves (sync_next next) (saving put_off file upto phase waiting None) new after
  sends phase waiting run next new after on way is (inr l) =
      leads-leaves (saves.refused_next waiting Memory) (saving put_off file upto phase waiting None) next (saving put_off file upto phase waiting None) new after l.0
      (subst (λ (p : Pending). Leaves (sync_next (saves.refused_next waiting Memory)) (saving put_off file upto phase waiting None) (saving put_off file upto phase waiting None) p) (sym l.1)
      (refused-leaves (saving put_off file upto phase waiting None) back Memory way))
  sends phase waiting [] next new after on way is (inl r) =
      leads-leaves (saves.next_sent by_reply (saving put_off file upto phase waiting None)) (saves.saving_sent by_reply (saving put_off file upto phase waiting None)) next (saving put_off file upto phase waiting None) new after r.0
      (subst (λ (p : Pending). Leaves (sync_next (saves.next_sent by_reply (saving put_off file upto phase waiting None))) (saving put_off file upto phase waiting None) (saves.saving_sent by_reply (saving put_off file upto phase waiting None)) p) (sym r.1)
      (sent-all put_off file upto wsize back some is waiting by_reply phase on way))
  sends phase waiting (e ∷ es) next new after on way is (inl r) =
      leads-leaves _ (saving put_off file upto phase (waiting + 1) None) next (saving put_off file upto phase waiting None) new after r.0
      (record { file = refl; upto = refl; so = sends-on file upto wsize xid back after e es sound is r.1 put_off phase waiting on way })

  sends-if : (phase : Phase) (waiting : ℕ) (b : Bool) (next : _) (new : Saving) (after : Pending) → saves.may_send room (saving put_off file upto phase waiting None) ≡ b
      → IsUnderWay (saving put_off file upto phase waiting None) back
      → saves.SendsIf b xid by_reply (chosen upto wsize (of_file file back)) (saving put_off file upto phase waiting None) back next new after → Leaves (sync_next next) (saving put_off file upto phase waiting None) new after
  sends-if phase waiting true next new after may way g =
      let both = and_parts (room && saves.is_sending phase) (nat_lt waiting 32) may in
      sends phase waiting (chosen upto wsize (of_file file back)) next new after (and_parts room (saves.is_sending phase) both.0).1 way refl g
  sends-if phase waiting false next new after may way g =
      leads-leaves _ (saving put_off file upto phase waiting None) next (saving put_off file upto phase waiting None) new after g.0
      (subst (λ (p : Pending). GoesOn (saving put_off file upto phase waiting None) (saving put_off file upto phase waiting None) p) (sym g.1) (stays-on (saving put_off file upto phase waiting None) back way))

  goes-over : (phase : Phase) (waiting : ℕ) (refusal : Option Fault) (next : _) (new : Saving) (after : Pending) → IsUnderWay (saving put_off file upto phase waiting refusal) back
      → saves.GoesOver refusal wsize xid room by_reply (saving put_off file upto phase waiting refusal) back next new after → Leaves (sync_next next) (saving put_off file upto phase waiting refusal) new after
  goes-over phase waiting (Some fault) next new after way g =
      leads-leaves (saves.refused_next waiting fault) (saving put_off file upto phase waiting (Some fault)) next (saving put_off file upto phase waiting (Some fault)) new after g.0
      (subst (λ (p : Pending). Leaves (sync_next (saves.refused_next waiting fault)) (saving put_off file upto phase waiting (Some fault)) (saving put_off file upto phase waiting (Some fault)) p) (sym g.1)
      (refused-leaves (saving put_off file upto phase waiting (Some fault)) back fault way))
  goes-over phase waiting None next new after way g = sends-if phase waiting (saves.may_send room (saving put_off file upto phase waiting None)) next new after refl way g

pub goes-leaves : (wsize xid : ℕ) (room by_reply : Bool) (s : Saving) (back : Pending) (next : _) (new : Saving) (after : Pending) → 1 ≤ wsize → IsSound (of_file s.file back) → IsUnderWay s back
    → saves.Goes wsize xid room by_reply s back next new after → Leaves (sync_next next) s new after
goes-leaves wsize xid room by_reply s back next new after some sound way g = goes-over s.put_off s.file s.upto wsize xid room by_reply some back sound s.phase s.waiting s.refusal next new after way g

-- ---- what is pending stays sound

module _ (wsize xid : ℕ) (room by_reply : Bool) (s : Saving) (back : Pending) (sound : EachSound back) (free : IsFree xid s.file back) where
  sends-sound : (run : Segments) (next : _) (new : Saving) (after : Pending) → chosen s.upto wsize (of_file s.file back) ≡ run → saves.Sends xid by_reply run s back next new after → EachSound after
  sends-sound run next new after is (inr l) = subst EachSound (sym l.1) sound
  sends-sound [] next new after is (inl r) = subst EachSound (sym r.1) sound
  sends-sound (e ∷ es) next new after is (inl r) = sound-sends back after s.file xid s.upto wsize e es sound free is r.1

  sends-if-sound : (b : Bool) (next : _) (new : Saving) (after : Pending) → saves.SendsIf b xid by_reply (chosen s.upto wsize (of_file s.file back)) s back next new after → EachSound after
  sends-if-sound true next new after g = sends-sound (chosen s.upto wsize (of_file s.file back)) next new after refl g
  sends-if-sound false next new after g = subst EachSound (sym g.1) sound

  goes-over-sound : (refusal : Option Fault) (next : _) (new : Saving) (after : Pending) → saves.GoesOver refusal wsize xid room by_reply s back next new after → EachSound after
  goes-over-sound (Some fault) next new after g = subst EachSound (sym g.1) sound
  goes-over-sound None next new after g = sends-if-sound (saves.may_send room s) next new after g

pub goes-sound : (wsize xid : ℕ) (room by_reply : Bool) (s : Saving) (back : Pending) (next : _) (new : Saving) (after : Pending) → EachSound back → IsFree xid s.file back
    → saves.Goes wsize xid room by_reply s back next new after → EachSound after
goes-sound wsize xid room by_reply s back next new after sound free g = goes-over-sound wsize xid room by_reply s back sound free s.refusal next new after g

-- ---- how it begins

pub begins : (file : List ℕ) (upto : ℕ) (back : Pending) → HasNoPiece file back → IsUnderWay (saves.begun file upto) back
begins file upto back quiet = record { counts = ap length quiet; has = tt }
