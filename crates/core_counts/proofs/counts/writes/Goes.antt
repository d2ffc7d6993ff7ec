-- The tally is kept where an operation goes on.
use Rattle.core_counts.proofs.Prelude.{◌≡◌, ◌≢◌, ◌+◌, ◌⊎◌, ℕ, List, length, Some, slice_get, slice_set, refl, sym, subst, ◌∙◌, next_xid, Entry, IsBusy, Modes, of_file, all_pending, rest_at, IsUnused, Mounted, Lane, Busy, Setup, with_state, Stirs, View, turn_at, Known, lanes-under-way, at-set, same-rows, set-other, unused-next, keeps-bytes, basis-ready, stirs-basis, Stage, stage_of, resumes-has, stirs-wholly, EachSound}
use Rattle.core_session.proofs.room.Stages.{Verdict, outcome}
use Rattle.op_machines.proofs.AllLaws as laws
use Rattle.core_session.proofs.room.Machines as verdicts
use Rattle.core_counts.proofs.counts.engine.Lists.{Elsewhere}
use Rattle.core_counts.proofs.counts.writes.Once.{Gone}
use Rattle.core_counts.proofs.counts.writes.Stepped.{Held, never-adds, resumes-held}
use Rattle.core_counts.proofs.counts.writes.Tally.{settled-gone, Writer, Tally, leads-tally}
use Rattle.core_counts.proofs.counts.writes.Weights.{due_of, any}
use Rattle.core_counts.proofs.counts.writes.Before.{held-before, one-lane}

module _ (m : Mounted) (modes_of : Modes) (same : m.nocto ≡ modes_of.nocto) (setup : Setup) (f : List ℕ) (i : ℕ) where
  abbrev TallyAt : List Entry → View → Type 0
  TallyAt = Tally m modes_of same setup f i

  abbrev WriterAt : List Entry → ℕ → Type 0
  WriterAt = Writer m modes_of same setup f i

  -- ---- an operation goes on

  module _ (h : List Entry) (old new : View) (at : ℕ) (k : Known setup h old) (t : Stirs old at new) (i_ : TallyAt h old) where
    abbrev v : View
    v = with_state old at t.number (Busy t.after) t.shelf

    busy : IsBusy h t.number (length h)
    busy = (lanes-under-way h old k.lanes).busy at (record { number = t.number; state = Busy t.machine }) t.there

    free : IsUnused (next_xid old.calls) old.shelf.back
    free = unused-next setup h old k.rows i_.basis.flying.flown

    abbrev Why : Type 0
    Why = WriterAt h busy.x × Elsewhere busy.x i_.lists.writers × ((t.shelf.seq ≡ old.shelf.seq) ⊎ Gone t.next (stage_of t.after))

    went : Held f i (next_xid old.calls) old.shelf.seq (due_of any (rest_at (of_file f old.shelf.back) i)) Why t.shelf.back × EachSound t.shelf.back
    went =
        resumes-held f i (next_xid old.calls) old.shelf.seq (due_of any (rest_at (of_file f old.shelf.back) i)) Why old.wsize (turn_at old) (old.shelf.seq + 1) (λ g o b. ⊥)
        (never-adds f i (next_xid old.calls) old.shelf.seq (due_of any (rest_at (of_file f old.shelf.back) i)) Why (old.shelf.seq + 1)) t.machine old.shelf t.next t.after t.shelf
        (held-before f i (next_xid old.calls) old.shelf.seq Why old.shelf.back i_.basis.sound free i_.basis.newest) i_.basis.sound free t.resumes

    before-set : (j : ℕ) (l : Lane) → slice_get (slice_set old.lanes at (record { number = t.number; state = Busy t.after })) j ≡ Some l → j ≢ at → slice_get old.lanes j ≡ Some l
    before-set j l here other = sym (set-other old.lanes at j (record { number = t.number; state = Busy t.after }) other) ∙ here

    pub stirs-tally : TallyAt h new
    stirs-tally =
        leads-tally m modes_of same setup f i h h v new at t.number t.after t.next (same-rows setup h old v refl k.rows) (record {
          s = old.shelf.seq;
          n = due_of any (rest_at (of_file f old.shelf.back) i);
          x = busy.x;
          lists = i_.lists;
          below = i_.below;
          waits = i_.waits;
          sents = i_.sents;
          room = i_.few;
          held = went.0;
          sound = went.1;
          ready = laws.resumes-ready old.wsize t.machine (turn_at old) old.shelf t.next t.after t.shelf t.resumes (basis-ready setup h old k.rows i_.basis);
          has = resumes-has old.wsize (turn_at old) t.machine old.shelf t.next t.after t.shelf t.resumes free;
          own = λ z op u has. settled-gone (all_pending old.shelf.back) (all_pending t.shelf.back) t.next (stage_of t.after)
              (subst (λ (q : Stage). Verdict (all_pending old.shelf.back) (all_pending t.shelf.back) q (outcome t.next (stage_of t.after))) (i_.spent at (record { number = t.number; state = Busy t.machine }) t.there z op u has)
              (verdicts.all-resumes old.wsize (turn_at old) t.machine old.shelf t.next t.after t.shelf t.resumes));
        })
        (at-set old.lanes at (record { number = t.number; state = Busy t.machine }) (record { number = t.number; state = Busy t.after }) t.there)
        (λ j l here other. i_.spent j l (before-set j l here other))
        (λ j l here other op u. other ((lanes-under-way h old k.lanes).apart j at l (record { number = t.number; state = Busy t.machine }) (before-set j l here other) t.there
        (one-lane m modes_of same setup f i h l.number t.number busy.x op busy.op u busy.under_way)))
        (stirs-basis m setup h old new at k t i_.basis) (stirs-wholly m setup h old new at k t i_.wholly) ((keeps-bytes m modes_of same setup).stirs h old new at k t i_.bytes) t.leads
