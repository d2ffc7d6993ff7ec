-- In one lane WRITEs of a sync or close that follows writes and fills are long.
use Rattle.core_counts.proofs.Prelude.{◌≡◌, ◌<◌, ◌⊎◌, inl, inr, ◌+◌, ℕ, List, length, Some, sym, ap, subst, ◌∙◌, arith, Entry, Began, Op, At, OneLane, NeverFull, CoveredEarlier, At-grow, At-back, At-below, At-one, file_at, of_file, Cell, how_of, ready_of, Mounted, Setup, WaitsPlain, NotAsStable, BeganOtherwise}
use Rattle.core_counts.specs.thrift.Writes.{OfSlot, ShortWrittenWrite, WrittenWritesLong}
use Rattle.world_model.specs.declared.answer.Answer.TheVariants as answers
use Rattle.world_model.specs.declared.op.Op.TheVariants as ops
use Rattle.world_model.specs.Operations.{Ended}
use Rattle.core_session.proofs.syncs.Ends.{ended-back}
use Rattle.core_counts.proofs.thrift.short.PutsLong.{one-before, room-before}
use Rattle.core_counts.proofs.thrift.short.SavedLong.{saved-long}
use Rattle.core_counts.proofs.thrift.short.Written.{Good, reached-tracked}

began-is : (a b c d : ℕ) (o p : Op) → Began a b o ≡ Began c d p → (a ≡ c) × (o ≡ p)
began-is a b c d o p e = (cc, cc)

one-slot : (o : Op) (a b : ℕ) → OfSlot o a → OfSlot o b → a ≡ b
one-slot o a b (inl p) (inl q) = let k : ops.Sync a ≡ ops.Sync b = sym p ∙ q in cc
one-slot o a b (inl p) (inr q) = absurd (let k : ops.Sync a ≡ ops.Close b = sym p ∙ q in cc)
one-slot o a b (inr p) (inl q) = absurd (let k : ops.Close a ≡ ops.Sync b = sym p ∙ q in cc)
one-slot o a b (inr p) (inr q) = let k : ops.Close a ≡ ops.Close b = sym p ∙ q in cc

module _ (m : Mounted) (setup : Setup) (h : List Entry) (one : OneLane h) (room : NeverFull h) (i x w end : ℕ) (f : List ℕ) (s : ShortWrittenWrite setup h i x w f end) (b : BeganOtherwise m setup h x f end) where
  low : w < length b.before
  low = let late = s.ended.later in let early = s.before in let there = b.there in omega (arith, late, early, there)

  began : At b.before w (Began s.saved.lane s.ended.line s.op)
  began = At-back b.before b.after w (Began s.saved.lane s.ended.line s.op) (subst (λ (k : List Entry). At k w (Began s.saved.lane s.ended.line s.op)) b.is s.ended.began) low

  ended : Ended b.before s.saved.lane w s.op s.y (answers.Done s.value)
  ended = ended-back b.before b.after h (sym b.is) s.saved.lane w s.op s.y (answers.Done s.value) (let early = s.before in let there = b.there in omega (arith, early, there)) s.ended

  good : Good m setup end s.saved.lane w s.slot s.op s.writes b.before b.view
  good =
      (reached-tracked m setup end s.saved.lane w s.slot s.op s.writes b.before b.view b.reaches b.found).run (one-before b.before b.after (subst OneLane b.is one)) (room-before b.before b.after (subst NeverFull b.is room))
      s.ended.line began
      (λ j l line o at late. s.only j l line o (subst (λ (k : List Entry). At k j (Began l line o)) (sym b.is) (At-grow b.before b.after j (Began l line o) at)) late
      (let below = At-below b.before j (Began l line o) at in let there = b.there in omega (arith, below, there)))

  its : (b.lane ≡ s.saved.lane) × (b.op ≡ s.saved.op)
  its = began-is b.lane b.line s.saved.lane s.saved.under_way.line b.op s.saved.op (At-one h x (Began b.lane b.line b.op) (Began s.saved.lane s.saved.under_way.line s.saved.op) b.began s.saved.under_way.began)

  slot_is : b.slot ≡ s.slot
  slot_is = one-slot s.saved.op b.slot s.slot (subst (λ (o : Op). OfSlot o b.slot) its.1 b.of) s.of

  pub not-so : ⊥
  not-so =
      let held = good.noted s.saved.lane s.y s.value ended f
      (ap (λ (n : ℕ). file_at n s.slot b.view.shelf.opens) (sym its.0) ∙ ap (λ (n : ℕ). file_at b.lane n b.view.shelf.opens) (sym slot_is) ∙ b.holds) in
      b.other (plain held.0) held.1
    where
      one-cell : (a c : Cell) → Some a ≡ Some c → a ≡ c
      one-cell a c e = cc

      plain : (w : WaitsPlain (of_file f b.view.shelf.back) end) → NotAsStable (of_file f b.view.shelf.back) end
      plain w cell at = subst (λ (c : Cell). how_of (ready_of c.state) ≡ 0) (one-cell w.cell cell (sym w.at ∙ at)) w.plain

pub written-long : WrittenWritesLong
written-long m setup h v notes one room i x w end f s = by (saved-long m setup h v notes one i x end f s.saved)
  where
    by : CoveredEarlier h i f (end + 1) ⊎ BeganOtherwise m setup h x f end → CoveredEarlier h i f (end + 1)
    by (inl c) = c
    by (inr b) = absurd (not-so m setup h one room i x w end f s b)
