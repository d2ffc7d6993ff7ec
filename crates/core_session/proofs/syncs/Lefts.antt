-- What a refused close gave up: it is owed, or the history shows it, through each step and entry.
use Rattle.core_session.proofs.Prelude.{◌≡◌, ◌≤◌, ◌<◌, ◌⊎◌, inl, inr, ℕ, suc, List, [], ◌∷◌, ◌++◌, length, Some, slice_get, refl, sym, ap, subst, ◌∙◌, arith, append-nil, append_assoc, cases_lt, IsOpen, Entry, Began, Answered, Op, At, Modes, AnsweredBefore, UnderWay, IsOf, Terms, GivesUp, itself, beside, RefusedWrite, At-grow, At-one, length_last, file_at, CloseFile, Closing, Mounted, Machine, machine_of, Busy, Setup, View, GoesWith, MayHear, kind_of, ended-grow, IsOwed, IsDropped, IsPast, WasLeft, TouchedUntil}
use Rattle.claims.specs.Touched.{Left}
use Rattle.core_session.specs.syncs.Until.{written}
use Rattle.world_model.specs.declared.answer.Answer.TheVariants as answers
use Rattle.world_model.specs.declared.op.Op.TheVariants as ops
use Rattle.claims.specs.Touched as touched_by
use Rattle.file_ops.specs.declared.close_file.Closing.TheVariants as closings
use Rattle.op_machines.specs.declared.file_machine.FileMachine.TheVariants as files
use Rattle.op_machines.specs.declared.machine.Machine.TheVariants as machines
use Rattle.core_session.proofs.drops.Closers.{ClosingAt}
use Rattle.core_session.proofs.drops.Dropping.{dropped-heard, file-open}
use Rattle.core_session.proofs.drops.Drops.{LaneTold}
use Rattle.core_session.proofs.drops.Growing.{slot-back, of-grow, none-came-grow}
use Rattle.core_session.proofs.drops.Laws.{DropsKnown}
use Rattle.core_session.proofs.drops.OneFile.{one-by-one}
use Rattle.core_session.proofs.drops.SlotKinds.{KindTold, ClosesSlot}
use Rattle.core_session.proofs.syncs.Aparts.{it_settled, it_came, it_left}
use Rattle.core_session.proofs.syncs.Causes.{Comes, IsWriter, IsSaver, IsPut, OfOp, put-no-saver, writer-no-saver}
use Rattle.core_session.proofs.syncs.Causes as causes
use Rattle.core_session.proofs.syncs.Fate.{Fate, Story, later, busy, refused, well}
use Rattle.core_session.proofs.syncs.Leftovers.{one-of}
use Rattle.core_session.proofs.syncs.Looks.{Touching, plain, left_, doomed, aside, owed, LeftBefore, PutsOn}
use Rattle.core_session.proofs.syncs.SlotHeld.{HoldsSlot, answered-back}
use Rattle.core_session.proofs.syncs.Stands.{Case, SavesIt, by_slot, by_last, CameIt, EndsIt, GuardBy, LiveBy}

began-parts : (a b c d : ℕ) (o p : Op) → Began a b o ≡ Began c d p → (a ≡ c) × (o ≡ p)
began-parts a b c d o p e = (cc, cc)

close-one : (a b : CloseFile) → machines.File (files.Close a) ≡ machines.File (files.Close b) → a ≡ b
close-one a b e = cc

-- ---- one entry more, and any number

left-grow : (m : Modes) (h : List Entry) (e : Entry) (k : ℕ) (f : List ℕ) → k < length h → Left m h k f → Left m (h ++ e ∷ []) k f
left-grow m h e k f low l = record {
  lane = l.lane;
  slot = l.slot;
  close = l.close;
  answer = l.answer;
  of = of-grow m h e l.close (ops.Close l.slot) f l.of;
  ended = ended-grow h e l.lane l.close (ops.Close l.slot) k l.answer l.ended;
  last = λ other its x i. let g = slot-back m h e (suc k) other its x f (omega (arith, low)) i in l.last other its g.x g.holds;
}

gives-grow : (m : Modes) (h : List Entry) (e : Entry) (k : ℕ) (f : List ℕ) → k < length h → GivesUp m h k f → GivesUp m (h ++ e ∷ []) k f
gives-grow m h e k f low (itself lane line fault at) = itself lane line fault (At-grow h (e ∷ []) k (Answered lane line (answers.Refused fault)) at)
gives-grow m h e k f low (beside lane slot c j fault of ended before none) =
    beside lane slot c j fault (of-grow m h e c (ops.Close slot) f of) (ended-grow h e lane c (ops.Close slot) j (answers.Refused fault) ended) before
    (none-came-grow m h e j k (omega (arith, low)) none)

left-more : (m : Modes) (h rest : List Entry) (k : ℕ) (f : List ℕ) → k < length h → Left m h k f × GivesUp m h k f → Left m (h ++ rest) k f × GivesUp m (h ++ rest) k f
left-more m h [] k f low l = subst (λ (z : List Entry). Left m z k f × GivesUp m z k f) (sym (append-nil h)) l
left-more m h (e ∷ es) k f low l =
    subst (λ (z : List Entry). Left m z k f × GivesUp m z k f) (append_assoc h (e ∷ []) es)
    (left-more m (h ++ e ∷ []) es k f (let long = length_last h e in omega (arith, low, long)) (left-grow m h e k f low l.0, gives-grow m h e k f low l.1))

module _ (mt : Mounted) (terms : Terms) (setup : Setup) (H : List Entry) (V : View) (g : GoesWith mt terms setup H V) (w y s j p : ℕ) (f : List ℕ) (i byte : ℕ) (c : Case terms H w y s j p f i byte) where
  abbrev pub Tch : List Entry → View → Type 0
  Tch h v = Touching terms.modes terms.origin H w s j p f i h v

  at-on : (h rest : List Entry) → h ++ rest ≡ H → (k : ℕ) (e : Entry) → At h k e → At H k e
  at-on h rest is k e at = subst (λ (l : List Entry). At l k e) is (At-grow h rest k e at)

  -- one operation of a lane is under way
  under-same : (h rest : List Entry) → h ++ rest ≡ H → (n a b : ℕ) (oa ob : Op)
      → UnderWay h n a (length h) oa → UnderWay h n b (length h) ob → a ≡ b
  under-same h rest is n a b oa ob u v = by (cases_lt a b)
    where
      back : (a b : ℕ) → AnsweredBefore H a b → b < length h → AnsweredBefore h a (length h)
      back a b k low =
          let l = answered-back H h rest is a b (omega (arith, low)) k in
          record { lane = l.lane; op = l.op; y = l.y; answer = l.answer; ended = l.ended; before = (let e = l.before in omega (arith, e, low)) }

      by : (a < b) ⊎ (b ≤ a) → a ≡ b
      by (inl lt) =
          absurd (u.unanswered (back a b (one-by-one (machine_of mt) setup H V g.reaches n a u.line oa b v.line ob (at-on h rest is a (Began n u.line oa) u.began) (at-on h rest is b (Began n v.line ob) v.began) lt) v.before))
      by (inr ge) = by2 (cases_lt b a)
        where
          by2 : (b < a) ⊎ (a ≤ b) → a ≡ b
          by2 (inr le) = omega (arith, ge, le)
          by2 (inl lt) =
              absurd (v.unanswered (back b a (one-by-one (machine_of mt) setup H V g.reaches n b v.line ob a u.line oa (at-on h rest is b (Began n v.line ob) v.began) (at-on h rest is a (Began n u.line oa) u.began) lt) u.before))

  op-of : (h rest : List Entry) → h ++ rest ≡ H → (n : ℕ) (op : Op) → UnderWay h n s (length h) op → op ≡ c.opS
  op-of h rest is n op u = (began-parts n u.line c.laneS c.endS.line op c.opS (At-one H s (Began n u.line op) (Began c.laneS c.endS.line c.opS) (at-on h rest is s (Began n u.line op) u.began) c.endS.began)).1

  saver-is : OfOp H s IsSaver → IsSaver c.opS
  saver-is of = of c.laneS c.endS.line c.opS c.endS.began

  -- ---- as it is given up

  -- a close that is under way is past its sync, or its slot holds the file
  close-not : (h : List Entry) (v : View) (k n slot : ℕ) (machine : Machine) → slice_get v.lanes k ≡ Some (record { number = n; state = Busy machine }) → IsOwed terms.modes (length h) h v f
      → (q : ClosesSlot terms.modes h s n slot machine v.shelf.opens) → q.file ≡ f → ⊥
  close-not h v k n slot machine there o q same = by q.closer.c.state refl q.closer.at
    where
      close-there : slice_get v.lanes k ≡ Some (record { number = n; state = Busy (machines.File (files.Close q.closer.c)) })
      close-there = there ∙ ap (λ (z : Machine). Some (record { number = n; state = Busy z })) q.closer.is

      open_ : file_at n slot v.shelf.opens ≡ Some q.file → ⊥
      open_ at = o.shut (subst (IsOpen v.shelf.opens) same (file-open v.shelf.opens n slot q.file at))

      by : (state : Closing) → q.closer.c.state ≡ state → ClosingAt n slot q.file q.upto v.shelf.opens state → ⊥
      by closings.Idle is a = a
      by (closings.Queued saving) is a = open_ a.1
      by (closings.Saves saving) is a = open_ a.1
      by (closings.ToRemove removal) is a = o.none k n q.closer.c close-there (subst (IsPast f) (sym is) (a.0 ∙ same))
      by (closings.Removing removal) is a = o.none k n q.closer.c close-there (subst (IsPast f) (sym is) (a.0 ∙ same))

  pub left-now : (h rest : List Entry) → h ++ rest ≡ H → (v : View) → DropsKnown terms.modes h v → HoldsSlot terms.modes H s f h v
      → w < length h → IsOwed terms.modes (length h) h v f → Story (PutsOn s) h v → Fate h v s ⊥ → Tch h v
  left-now h rest is v d slots after o puts (later low) = left_ (owed (length h) after (λ never. never (inl o)) (later low) (λ saver. low) puts)
  left-now h rest is v d slots after o puts (refused fault fixed) = doomed s (inr refl) fault fixed
  left-now h rest is v d slots after o puts (well none) = absurd none
  left-now h rest is v d slots after o puts (busy k n machine op there u) = by c.saved
    where
      op_is : op ≡ c.opS
      op_is = op-of h rest is n op u

      not-slot : IsOf terms.modes H s c.opS f → (z : Op) → c.opS ≡ z → IsSaver z → ⊥
      not-slot of (ops.Sync slot) same saver =
          o.shut (file-open v.shelf.opens n slot f (slots (ops.Sync slot) slot refl refl (subst (λ (q : Op). IsOf terms.modes H s q f) same of) n (subst (UnderWay h n s (length h)) (op_is ∙ same) u)))
      not-slot of (ops.Close slot) same saver = on (d.lanes k (record { number = n; state = Busy machine }) there)
        where
          on : LaneTold terms.modes h n (Busy machine) v.shelf.opens → ⊥
          on t =
              let one : t.x ≡ s = under-same h rest is n t.x s t.op op t.under_way u in
              let its : t.op ≡ ops.Close slot =
              op-of h rest is n t.op (subst (λ (z : ℕ). UnderWay h n z (length h) t.op) one t.under_way) ∙ same in
              let q : ClosesSlot terms.modes h t.x n slot machine v.shelf.opens = subst (λ (z : Op). KindTold terms.modes h t.x n (kind_of z) machine v.shelf.opens) its t.told in
              let r : ClosesSlot terms.modes h s n slot machine v.shelf.opens = subst (λ (z : ℕ). ClosesSlot terms.modes h z n slot machine v.shelf.opens) one q in
              close-not h v k n slot machine there o r
              (one-of mt terms setup H V g f h rest is s slot slot r.file r.of (subst (λ (z : Op). IsOf terms.modes H s z f) same of))
      not-slot of (ops.Write slot offset bytes) same saver = saver
      not-slot of (ops.Fill slot offset count b) same saver = saver
      not-slot of (ops.OpenFile slot mode path) same saver = saver
      not-slot of (ops.Read slot offset count) same saver = saver
      not-slot of (ops.Truncate slot size) same saver = saver
      not-slot of (ops.Put path offset bytes) same saver = saver
      not-slot of (ops.Stat path) same saver = saver
      not-slot of (ops.Access path bits) same saver = saver
      not-slot of (ops.MakeDir path) same saver = saver
      not-slot of (ops.RemoveDir path) same saver = saver
      not-slot of (ops.Remove path) same saver = saver
      not-slot of (ops.Rename one two) same saver = saver
      not-slot of (ops.Link one two) same saver = saver
      not-slot of (ops.SymLink path target) same saver = saver
      not-slot of (ops.ReadLink path) same saver = saver
      not-slot of (ops.List path) same saver = saver

      by : SavesIt terms H s j f c.opS → Tch h v
      by (by_slot saver of) = absurd (not-slot of c.opS refl saver)
      by (by_last path offset bytes is_put call names last) =
          left_ (owed (length h) after (λ never. never (inl o)) (busy k n machine op there u) (λ of. absurd (put-no-saver c.opS (subst IsPut (sym is_put) tt) (saver-is of))) puts)

  -- ---- once a record came, the history shows it

  pub left-shown : (h rest : List Entry) → h ++ rest ≡ H → length h ≤ j → (v : View) → MayHear v → (from : ℕ) → w < from → IsDropped terms.modes from h v f → (LeftBefore terms.modes H w j f → ⊥) → ⊥
  left-shown h rest is low v may from after d never = dropped-heard terms.modes from h v f may d (λ l. never (before-it h rest is low from after l))
    where
      before-it : (h rest : List Entry) → h ++ rest ≡ H → length h ≤ j → (from : ℕ) → w < from → WasLeft terms.modes from h f → LeftBefore terms.modes H w j f
      before-it h rest is low from after l =
          let both = subst (λ (z : List Entry). Left terms.modes z l.k f × GivesUp terms.modes z l.k f) is (left-more terms.modes h rest l.k f l.soon (l.left, l.gives)) in
          let late = l.late in
          let soon = l.soon in
          (l.k, omega (arith, after, late), omega (arith, soon, low), both.0, both.1)

  -- where it isn't owed
  pub left-unowed : (h rest : List Entry) → h ++ rest ≡ H → length h ≤ j → (v : View) (from : ℕ) → w < from → IsDropped terms.modes from h v f → (IsOwed terms.modes from h v f → ⊥)
      → (LeftBefore terms.modes H w j f → ⊥) → ⊥
  left-unowed h rest is low v from after d not never = d (λ k. elim k [
    | inl o ↦ not o
    | inr l ↦ (
        let both = subst (λ (z : List Entry). Left terms.modes z l.k f × GivesUp terms.modes z l.k f) is (left-more terms.modes h rest l.k f l.soon (l.left, l.gives)) in
        let late = l.late in
        let soon = l.soon in
        never (l.k, omega (arith, after, late), omega (arith, soon, low), both.0, both.1))
  ])

  -- ---- how the settling operation ended, if it did

  pub over : CameIt mt terms setup H w y s j p f i byte → TouchedUntil terms.modes terms.origin H w j p f i
  over across = by across.1
    where
      no-writer : SavesIt terms H s j f c.opS → IsWriter c.opS → ⊥
      no-writer (by_slot saver its) is_w = writer-no-saver c.opS is_w saver
      no-writer (by_last path offset bytes op_is call names last) is_w = subst IsWriter op_is is_w

      first : y < s
      first = elim c.first [ inl low ↦ low | inr same ↦ absurd (across.0 same) ]

      refused-not : OfOp H s IsPut → RefusedWrite H s → ⊥
      refused-not of (touched_by.write lane slot offset z bytes fault e) = of lane e.line (ops.Write slot offset bytes) e.began
      refused-not of (touched_by.fill lane slot offset count b z fault e) = of lane e.line (ops.Fill slot offset count b) e.began

      by : Comes terms.modes terms.origin H s f i → TouchedUntil terms.modes terms.origin H w j p f i
      by (causes.by_write u wr of) = absurd (no-writer c.saved (of c.laneS c.endS.line c.opS c.endS.began))
      by (causes.by_put u wr of) = written s u across.0
          (let past = c.past in let later_ = c.endS.later in omega (arith, past, later_))
          (λ a. (let low = first in let later_ = c.endW.later in let again = a.ended.later in let before = a.before in absurd (omega (arith, low, later_, again, before))))
          wr (refused-not of)

  pub settled-or : (h : List Entry) (v : View) (P : Type 0) → Fate h v s (EndsIt mt terms setup H w y s j p f i byte P h v) → P ⊎ (Fate h v s ⊥ ⊎ Tch h v)
  settled-or h v P (later low) = inr (inl (later low))
  settled-or h v P (busy k n machine op there u) = inr (inl (busy k n machine op there u))
  settled-or h v P (refused fault is) = inr (inl (refused fault is))
  settled-or h v P (well (it_settled q)) = inl q
  settled-or h v P (well (it_came come)) = inr (inr (plain (over come)))
  settled-or h v P (well (it_left a)) = inr (inr (aside a))

  -- ---- what guards the byte, where the put that wrote it wasn't refused

  pub live-or : (h : List Entry) (v : View) (n : ℕ) (E : Type 0) → w < length h → GuardBy mt terms setup H w y s j p f i byte n E h v ⊎ E → (LiveBy mt terms setup H w y s j p f i byte n h v ⊎ E) ⊎ Tch h v
  live-or h v n E began (inr e) = inl (inr e)
  live-or h v n E began (inl (inl guard)) = inl (inl (inl guard))
  live-or h v n E began (inl (inr (put, later low))) = absurd (omega (arith, began, low))
  live-or h v n E began (inl (inr (put, busy k number machine op there u))) = inl (inl (inr (record { put = put; at = k; number = number; machine = machine; op = op; there = there; under = u })))
  live-or h v n E began (inl (inr (put, refused fault is))) = inr (doomed w (inl refl) fault is)
  live-or h v n E began (inl (inr (put, well e))) = inl (inr e)
