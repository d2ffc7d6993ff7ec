-- A save that ends well leaves nothing of its file pending, unless bytes came in since it began.
use Rattle.core_counts.proofs.Prelude.{◌≡◌, ◌≤◌, ◌<◌, ◌⊎◌, inl, inr, ℕ, true, false, List, [], ◌∷◌, length, Option, Some, None, position, Ok, refl, sym, ap, subst, ◌∙◌, arith, cases_lt, Waiting, waiting_at, Entry, said_of, Pending, of_file, HasNoPiece, FilePending, nothing, piece_under, Segments, Cell, cell_at, cell_in, covers, LaneFile, Turn, ends_as, Saving, Mounted, machine_of, Purpose, Setup, is_busy, TakesAt, View, turn_at, in_flight, Reaches, taken_one, Known, taker-is, taker-one, unused-next, IsEmpty, sent-piece, Wholly, job_save, Common, save-is, Owner, SaveSo, EachSound, IsAwaited, IsUnderWay}
use Rattle.write_back.specs.Pieces.{Sent}
use Rattle.write_back.specs.Segments.{AreApart}
use Rattle.core_facts.specs.InFlight.{of_saving}
use Rattle.core_session.proofs.syncs.Levels.{queued, elsewhere, under}
use Rattle.step_saves.specs.Saves.{IsClearUpTo, IsSaved}
use Rattle.std.specs.Prelude.{IsSome}
use Rattle.write_back.specs.Numbers.{AllUpTo, SegmentsUpTo}
use Rattle.write_back.proofs.ByPlace.{covered}
use Rattle.file_ops.specs.Saves as saves
use Rattle.core_session.proofs.pending.Above.{clear-above}
use Rattle.core_session.proofs.pending.Newest.{cell-of}
use Rattle.core_session.proofs.syncs.SaveMoves.{takes-upto}
use Rattle.step_saves.proofs.Taking.{takes-leaves, takes-sound}
use Rattle.core_counts.proofs.counts.rooms.Writes.{EndsAbove}

-- where each newest byte has a number above those of all bytes, there is none
no-segments : (f : List ℕ) (b : Pending) (m : ℕ) (es : Segments) → AreApart 0 es → SegmentsUpTo m es → ((place : ℕ) (cell : Cell) → cell_at es place ≡ Some cell → m < cell.number) → es ≡ []
no-segments f b m [] apart upto each = refl
no-segments f b m (e ∷ es) apart upto each =
    let size : 0 < length e.1.bytes = apart.1 in
    let inside : covers e.0 (length e.1.bytes) e.0 ≡ true = covered e.0 (length e.1.bytes) e.0 (omega arith) (omega (arith, size)) in
    let above = each e.0 (cell_in e e.0) (rw inside refl) in
    let low = upto.0 in
    absurd (omega (arith, above, low))

nothing-is : (of : FilePending) → of.segments ≡ [] → of.pieces ≡ [] → of ≡ nothing
nothing-is of none quiet = ap (λ (es : Segments). record { segments = es; pieces = of.pieces }) none ∙ ap (λ (ps : List Sent). record { segments = []; pieces = ps }) quiet

-- a file of which nothing is in flight, and whose bytes would all have numbers above those of all bytes
clear-empty : (f : List ℕ) (b : Pending) (m upto : ℕ) → EachSound b → HasNoPiece f b → IsClearUpTo upto (of_file f b) → AllUpTo m b → m ≤ upto → IsEmpty f b
clear-empty f b m upto sound quiet clear all low =
    nothing-is (of_file f b)
    (no-segments f b m (of_file f b).segments (sound f).apart (all f).segments
    (λ place cell there.
    let above = cell-of (λ p byte number. f ≡ f → p ≡ place → upto < number) (of_file f b).segments place cell ((clear-above f place upto upto b (omega arith) sound quiet clear).file f) there refl refl in
    omega (arith, above, low)))
    quiet

awaited-as : (sent : Turn) (s : Saving) (b : Pending) (p : Sent) → piece_under sent.xid (of_file s.file b).pieces ≡ Some p → IsSome (piece_under sent.xid (of_file s.file b).pieces)
awaited-as sent s b p is = by (piece_under sent.xid (of_file s.file b).pieces) is
  where
    by : (o : Option Sent) → o ≡ Some p → IsSome o
    by None e = absurd (let no_way : None ≡ Some p = e in cc)
    by (Some q) e = refl

waits-not : (s : Saving) → s ≡ saves.begun s.file s.upto → 1 ≤ of_saving s → ⊥
waits-not s is some = let few : 1 ≤ of_saving (saves.begun s.file s.upto) = subst (λ (z : Saving). 1 ≤ of_saving z) is some in omega (arith, few)

module _ (mt : Mounted) (setup : Setup) (h : List Entry) (old : View) (k : Known setup h old) (wholly : Wholly setup h old) (rec : List ℕ) (xid : ℕ) (call : Waiting Purpose) (at : ℕ)
    (r : Reaches (machine_of mt) setup h old) (found : old.lost ≡ false) (waits : waiting_at xid old.calls.calls ≡ Some call) (place : position (is_busy call.purpose.lane) old.lanes ≡ Some at) (new : View)
    (t : TakesAt (taken_one old xid) at call.purpose.sent (said_of call.purpose.proc rec) new) where
  taker : call.purpose.lane ≡ t.number
  taker = sym (taker-is setup h old xid call at k waits place t.number t.machine t.there)

  pub some-wait : 1 ≤ in_flight t.machine
  some-wait = let one = taker-one setup h old xid call at k waits place t.number t.machine t.there in omega (arith, one)

  -- that of the lane that hears of its call
  pub clears : (f : List ℕ) (base : ℕ → Option (List ℕ)) (owner : Option (Owner f t.number base)) (q : ℕ) (o : List LaneFile) → 1 ≤ old.wsize → Common 0 old.shelf.seq old.shelf.back → (z : Saving)
      → job_save t.machine ≡ Some z → f ≡ z.file → SaveSo f t.number base owner z q old.shelf.back o
      → EndsAbove f old.wsize call.purpose.sent (turn_at (taken_one old xid)) (said_of call.purpose.proc rec) old.shelf z
  clears f base owner q o some common z saved here so repeats later to after takes = by so
    where
      counts : 1 ≤ of_saving z
      counts = (save-is t.machine z saved).waits some-wait

      awaited : IsAwaited z call.purpose.sent.xid old.shelf.back
      awaited sends =
          let p = sent-piece mt setup h old r found xid call waits at t.number t.machine t.there taker wholly z.file ((save-is t.machine z saved).flies_is some-wait sends) in
          awaited-as call.purpose.sent z old.shelf.back p.piece p.there

      ends : IsUnderWay z old.shelf.back → IsEmpty f after ⊎ (z.upto < old.shelf.seq)
      ends way = elim (cases_lt z.upto old.shelf.seq) [
        | inl low ↦ inr low
        | inr high ↦ inl
            (clear-empty f after old.shelf.seq z.upto
            (takes-sound old.wsize call.purpose.sent (turn_at (taken_one old xid)) (said_of call.purpose.proc rec) repeats z old.shelf.back (ends_as (Ok tt)) to after later common.sound
            (unused-next setup h old k.rows wholly.flying.flown) takes)
            (subst (λ (g : List ℕ). HasNoPiece g after) (sym here) is.quiet) (subst (λ (g : List ℕ). IsClearUpTo z.upto (of_file g after)) (sym here) is.clear)
            (takes-upto old.shelf.seq old.wsize call.purpose.sent (turn_at (taken_one old xid)) (said_of call.purpose.proc rec) repeats z old.shelf.back (ends_as (Ok tt)) to after later takes common.upto) high)
      ]
        where
          is : IsSaved z after
          is = takes-leaves old.wsize call.purpose.sent (turn_at (taken_one old xid)) (said_of call.purpose.proc rec) repeats z old.shelf.back (ends_as (Ok tt)) to after later some common.sound way awaited takes

      by : SaveSo f t.number base owner z q old.shelf.back o → IsEmpty f after ⊎ (z.upto < old.shelf.seq)
      by (queued is less other) = absurd (waits-not z is counts)
      by (elsewhere apart other) = absurd (apart here)
      by (under same alone less first way) = ends way
