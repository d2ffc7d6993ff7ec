-- A transmission: the piece that was gathered at the first segment that may go is put in flight.
use Rattle.std.proofs.Common.{◌≡◌, ◌<◌, ℕ, ◌+◌, true, List, [], ◌∷◌, ◌++◌, length, Option, Some, None, Ok, refl, sym, ap, ◌∙◌, subst}
use Rattle.std.specs.Option.{option_map}
use Rattle.write_back.specs.declared.change.Change.TheVariants.{Send}
use Rattle.write_back.specs.Segments.{Segment, Segments, split}
use Rattle.write_back.specs.Changes.{changed}
use Rattle.write_back.specs.Walk.{first_that, from_key}
use Rattle.write_back.specs.Pieces.{Sent, FilePending, piece_under, end_of_sent}
use Rattle.write_back.specs.Choice.{may_go, run_from, how_at, gathered, chosen, with_sent, IsPut}
use Rattle.write_back.specs.Sound.{IsSound, IsKept}
use Rattle.write_back.proofs.Sending.{IsNext}
use Rattle.write_back.proofs.Keeping.{piece_at, PutsFirst, next-first, kept-sent}

-- where the first segment that may go begins
abbrev pub FirstIs : ℕ → ℕ → FilePending → Type 0
FirstIs upto first of = Some first ≡ option_map (λ (e : ℕ × Segment). e.0) (first_that (may_go of.pieces upto) 0 of.segments)

next-at : (xid upto room first : ℕ) (of : FilePending) → IsSound of → 0 < room → FirstIs upto first of → IsNext (piece_at xid upto room of first) upto of × PutsFirst xid upto room of first
next-at xid upto room first of sound some is = by (first_that (may_go of.pieces upto) 0 of.segments) refl is
  where
    by : (o : Option (ℕ × Segment)) → first_that (may_go of.pieces upto) 0 of.segments ≡ o → Some first ≡ option_map (λ (e : ℕ × Segment). e.0) o → IsNext (piece_at xid upto room of first) upto of × PutsFirst xid upto room of first
    by None h k = absurd cc
    by (Some x) h k =
        let same : first ≡ x.0 = cc in
        subst (λ n. IsNext (piece_at xid upto room of n) upto of × PutsFirst xid upto room of n) (sym same) (next-first xid upto room of x sound.apart some h)

module _ (xid upto room first : ℕ) (es : Segments) (ps lent : List Sent) (now : FilePending) (piece : Sent) (flying resume : ℕ)
    (now-is : record { segments = es; pieces = ps } ≡ now) (first-is : FirstIs upto first now) (some : 0 < room) (lent-is : lent ≡ ps)
    (gathers : piece ≡ gathered xid first (run_from lent upto (how_at first es) first room (from_key first es)) (how_at first es)) (kept : IsKept (record { segments = es; pieces = ps }) flying resume) where
  piece-is : piece ≡ piece_at xid upto room (record { segments = es; pieces = ps }) first
  piece-is = gathers ∙ ap (λ z. piece_at xid upto room (record { segments = es; pieces = z }) first) lent-is

  both : IsNext (piece_at xid upto room (record { segments = es; pieces = ps }) first) upto (record { segments = es; pieces = ps }) × PutsFirst xid upto room (record { segments = es; pieces = ps }) first
  both = next-at xid upto room first (record { segments = es; pieces = ps }) kept.sound some (subst (FirstIs upto first) (sym now-is) first-is)

  pub sends-next : IsNext piece upto (record { segments = es; pieces = ps })
  sends-next = subst (λ p. IsNext p upto (record { segments = es; pieces = ps })) (sym piece-is) both.0

  module _ (end : ℕ) (cut new : Segments) (sent : List Sent) (end-is : end ≡ end_of_sent piece) (cut-is : cut ≡ split end es) (new-is : new ≡ changed Send first end cut) (sent-is : sent ≡ ps ++ piece ∷ []) where
    segments-are : new ≡ changed Send piece.offset (end_of_sent piece) (split (end_of_sent piece) es)
    segments-are = new-is ∙ ap (changed Send first end) cut-is ∙ ap (λ z. changed Send first z (split z es)) end-is ∙ ap (λ z. changed Send z (end_of_sent piece) (split (end_of_sent piece) es)) (sym (ap (λ (p : Sent). p.offset) piece-is))

    after-is : record { segments = new; pieces = sent } ≡ with_sent piece (record { segments = es; pieces = ps })
    after-is = ap (λ z. record { segments = z; pieces = sent }) segments-are ∙ ap (λ z. record { segments = changed Send piece.offset (end_of_sent piece) (split (end_of_sent piece) es); pieces = z }) sent-is

    pub sends-kept : piece_under xid ps ≡ None → IsKept (record { segments = new; pieces = sent }) (flying + length piece.bytes) resume
    sends-kept free = subst (λ z. IsKept z (flying + length piece.bytes) resume) (sym after-is)
        (kept-sent piece upto (record { segments = es; pieces = ps }) flying resume (subst (λ x. piece_under x ps ≡ None) (sym (ap (λ (p : Sent). p.xid) piece-is)) free) sends-next kept)

    pub sends-put : IsPut xid (chosen upto room now) now (record { segments = new; pieces = sent }) (Ok true)
    sends-put = subst (λ z. IsPut xid (chosen upto room z) z (record { segments = new; pieces = sent }) (Ok true)) now-is
        (both.1 (record { segments = new; pieces = sent }) (after-is ∙ ap (λ p. with_sent p (record { segments = es; pieces = ps })) piece-is))
