-- In one lane WRITEs of puts, syncs and closes are long, in the words of the model.
use Rattle.core_counts.proofs.Prelude.{◌≡◌, ◌<◌, ◌⊎◌, inl, inr, ◌+◌, ◌++◌, ℕ, false, List, length, slice_get, Some, arith, Entry, Terms, OneLane, NeverFull, CoveredEarlier, Unsent, of_file, rest_at, Mounted, Machine, machine_of, Busy, Setup, View, Reaches, GoesFrom, session, Answer, Began, Answered, At, Op}
use Rattle.world_model.specs.declared.answer.Answer.TheVariants as answers
use Rattle.write_back.specs.declared.state.State.TheVariants.{Waiting}
use Rattle.core_session.proofs.syncs.Stages.{cell_of, unsent}
use Rattle.world_model.specs.declared.op.Op.TheVariants as ops
use Rattle.core_counts.proofs.thrift.short.PutsEarlier.{was-covered}
use Rattle.core_counts.specs.thrift.Writes.{WritesLong}
use Rattle.core_counts.proofs.thrift.short.AgainAll.{again-older}
use Rattle.core_counts.proofs.thrift.short.Assembled.{long-by, NoLane}
use Rattle.core_counts.proofs.thrift.short.Pends as one
use Rattle.core_counts.proofs.thrift.short.PendsAlong.{PhaseAt, Result, followed}
use Rattle.core_counts.proofs.thrift.short.PendsEnd.{in-words}
use Rattle.core_counts.proofs.thrift.short.PendsStart.{Writer, writer-of, at-start, Putter}
use Rattle.core_counts.proofs.thrift.short.PendsSteps.{Base}
use Rattle.core_counts.proofs.thrift.short.PendsWords.{KeptSo, PlaceKept, pends-by}
use Rattle.core_counts.proofs.thrift.short.Plain.{rest-or-covered}

module _ (m : Mounted) (terms : Terms) (setup : Setup) (start h : List Entry) (v : View) (from : GoesFrom m terms setup start h v) (lane : OneLane h) (never : NeverFull h) (e w x y : ℕ) (f : List ℕ) where
  abbrev Followed : List Entry → View → Type 0
  Followed = Result m terms setup h v from.goes (session m terms setup start h v from).root from.asked f e (e + 1) y

  -- what is known as it was answered
  abbrev Begun : Type 0
  Begun = (g : List Entry) (u : View) → length g ≡ y + 1 → Reaches (machine_of m) setup g u → u.lost ≡ false → (rest : List Entry) → h ≡ g ++ rest
      → ((i byte n : ℕ) → Base m terms setup h v from.goes (session m terms setup start h v from).root from.asked f i byte n g u) → Followed g u

  module _ (begun : Begun) (its line : ℕ) (op : Op) (answer : Answer) (began : At h w (Began its line op)) (answered : At h y (Answered its line answer)) (late : w < y) (early : y < x) (before after : List Entry) (is : h ≡ before ++ after)
      (there : length before ≡ x) (view : View) (reaches : Reaches (machine_of m) setup before view) (found : view.lost ≡ false) (idle : NoLane view) where
    place : (i byte n : ℕ) → PhaseAt m terms setup h v from.goes (session m terms setup start h v from).root from.asked f e (e + 1) y i byte n before view → PlaceKept terms h before w x f (of_file f view.shelf.back) n i
    place i byte n p = by p.stage
      where
        by : one.Stays m terms setup h v from.goes (session m terms setup start h v from).root from.asked f i byte n y (Unit {0}) before view
            ⊎ one.Lost m terms setup h v from.goes (session m terms setup start h v from).root from.asked f i byte n y (Unit {0}) before view → PlaceKept terms h before w x f (of_file f view.shelf.back) n i
        by (inl known) = inl (byte, known.stage)
        by (inr lost) =
            inr (in-words m terms setup h v from.goes (session m terms setup start h v from).root from.asked f x w y before after is there view reaches found idle late i byte n (Unit {0}) lost)

    pub at-end : CoveredEarlier before (length before) f (e + 1) ⊎ ((n : ℕ) × PlaceKept terms h before w x f (of_file f view.shelf.back) n e × PlaceKept terms h before w x f (of_file f view.shelf.back) n (e + 1))
    at-end = by
        (followed m terms setup h v from.goes (session m terms setup start h v from).root from.asked f e (e + 1) y its line answer answered w its line op began late begun before view reaches found after is (omega (arith, early, there)))
      where
        by : Followed before view
            → CoveredEarlier before (length before) f (e + 1) ⊎ ((n : ℕ) × PlaceKept terms h before w x f (of_file f view.shelf.back) n e × PlaceKept terms h before w x f (of_file f view.shelf.back) n (e + 1))
        by (inl c) = inl c
        by (inr pair) = inr (pair.0, place e pair.1 pair.0 pair.3, place (e + 1) pair.2 pair.0 pair.4)

-- a write or fill leaves bytes that wait
writer-begun : (m : Mounted) (terms : Terms) (setup : Setup) (start h : List Entry) (v : View) (from : GoesFrom m terms setup start h v) (lane : OneLane h) (never : NeverFull h) (e w x : ℕ) (f : List ℕ) (k : Writer terms h f w x e)
    → Begun m terms setup start h v from lane never e w x k.y f
writer-begun m terms setup start h v from lane never e w x f k g u long reaches found rest to base =
    let st = at-start terms h f w x e m setup v from.goes lane never k g rest u to long reaches found in
    inr (u.shelf.seq, st.1.0, st.1.1, phase e st.1.0 st.0 st.1.2, phase (e + 1) st.1.1 st.0 st.1.3)
  where
    phase : (i byte : ℕ) → ((n number : ℕ) (machine : Machine) → slice_get u.lanes n ≡ Some (record { number = number; state = Busy machine }) → ⊥)
        → rest_at (of_file f u.shelf.back) i ≡ Some (cell_of byte u.shelf.seq (Waiting Unsent)) → PhaseAt m terms setup h v from.goes (session m terms setup start h v from).root from.asked f e (e + 1) k.y i byte u.shelf.seq g u
    phase i byte idle at = record {
      low = omega (arith, long);
      stage = inl (record { common = (base i byte u.shelf.seq).common_; low = omega arith; stage = unsent Unsent at tt });
      late = λ n number machine y op there under. absurd (idle n number machine there);
    }

kept : KeptSo
kept m terms setup start h v from notes lane never l line i x e w op f began low uncut next here first before after is there view reaches found quiet idle =
    by (writer-of terms h f w x e op first here.writes next.writes)
  where
    by : Writer terms h f w x e ⊎ Putter terms h f w x e
        → CoveredEarlier before (length before) f (e + 1) ⊎ ((n : ℕ) × PlaceKept terms h before w x f (of_file f view.shelf.back) n e × PlaceKept terms h before w x f (of_file f view.shelf.back) n (e + 1))
    by (inl k) =
        at-end m terms setup start h v from lane never e w x k.y f (writer-begun m terms setup start h v from lane never e w x f k) k.lane k.ended.line k.op (answers.Done k.value) k.ended.began k.ended.answered k.ended.later k.low
        before after is there view reaches found idle
    by (inr k) =
        at-end m terms setup start h v from lane never e w x k.y f
        (λ g u long came here_ rest to base. inl (was-covered m terms setup start h v from lane g rest to u came here_ w k.y k.offset f k.bytes k.to long (e + 1) k.v k.covers))
        k.to.lane k.to.ended.line (ops.Put k.to.path k.offset k.bytes) (answers.Done k.to.value) k.to.ended.began k.to.ended.answered k.to.ended.later k.low before after is there view reaches found idle

pub long-writes : WritesLong
long-writes = long-by (pends-by kept) rest-or-covered (λ m setup h v reaches found one f p q a c at again rests unsent. again-older m setup f h v reaches found p q a c at again rests unsent)
