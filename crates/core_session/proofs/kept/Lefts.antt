-- What a refused close gave up: it is owed, or the history shows it, through each step and entry.
use Rattle.core_session.proofs.Prelude.{◌≡◌, ◌≤◌, ◌<◌, ◌⊎◌, inl, inr, ℕ, suc, Bool, List, [], ◌∷◌, ◌++◌, length, refl, sym, ap, subst, arith, append-nil, append_assoc, length-append, Entry, Answered, Modes, Terms, GivesUp, itself, beside, At-grow, length_last, Mounted, Setup, View, MayHear, ended-grow, IsOwed, IsDropped, WasLeft}
use Rattle.claims.specs.Touched.{Left}
use Rattle.world_model.specs.declared.answer.Answer.TheVariants as answers
use Rattle.world_model.specs.declared.op.Op.TheVariants as ops
use Rattle.core_session.proofs.drops.Dropping.{dropped-heard}
use Rattle.core_session.proofs.drops.Growing.{slot-back, of-grow, none-came-grow}
use Rattle.core_session.proofs.syncs.Fate.{later, busy, refused, well}
use Rattle.core_session.proofs.syncs.Looks.{Touching, left_, doomed, owed, LeftBefore}
use Rattle.core_session.proofs.kept.Stands.{GuardBy, LiveBy}

-- ---- one entry more, and any number

left-grow : (m : Modes) (h : List Entry) (e : Entry) (k : ℕ) (f : List ℕ) → k < length h → Left m h k f → Left m (h ++ e ∷ []) k f
left-grow m h e k f low l = record {
  lane = l.lane;
  slot = l.slot;
  close = l.close;
  answer = l.answer;
  of = of-grow m h e l.close (ops.Close l.slot) f l.of;
  ended = ended-grow h e l.lane l.close (ops.Close l.slot) k l.answer l.ended;
  last = λ other its x i. let g = slot-back m h e (suc k) other its x f (omega (arith, low)) i in l.last other its g.x g.holds;
}

gives-grow : (m : Modes) (h : List Entry) (e : Entry) (k : ℕ) (f : List ℕ) → k < length h → GivesUp m h k f → GivesUp m (h ++ e ∷ []) k f
gives-grow m h e k f low (itself lane line fault at) = itself lane line fault (At-grow h (e ∷ []) k (Answered lane line (answers.Refused fault)) at)
gives-grow m h e k f low (beside lane slot c j fault of ended before none) =
    beside lane slot c j fault (of-grow m h e c (ops.Close slot) f of) (ended-grow h e lane c (ops.Close slot) j (answers.Refused fault) ended) before
    (none-came-grow m h e j k (omega (arith, low)) none)

left-more : (m : Modes) (h rest : List Entry) (k : ℕ) (f : List ℕ) → k < length h → Left m h k f × GivesUp m h k f → Left m (h ++ rest) k f × GivesUp m (h ++ rest) k f
left-more m h [] k f low l = subst (λ (z : List Entry). Left m z k f × GivesUp m z k f) (sym (append-nil h)) l
left-more m h (e ∷ es) k f low l =
    subst (λ (z : List Entry). Left m z k f × GivesUp m z k f) (append_assoc h (e ∷ []) es)
    (left-more m (h ++ e ∷ []) es k f (let long = length_last h e in omega (arith, low, long)) (left-grow m h e k f low l.0, gives-grow m h e k f low l.1))

module _ (mt : Mounted) (terms : Terms) (setup : Setup) (H : List Entry) (w y : ℕ) (sure : Bool) (due p : ℕ) (f : List ℕ) (i byte : ℕ) where
  abbrev pub Tch : List Entry → View → Type 0
  Tch h v = Touching terms.modes terms.origin H w (length H) p p f i h v

  pub within-all : (h rest : List Entry) → h ++ rest ≡ H → length h ≤ length H
  within-all h rest is = let long = length-append h rest in let same = ap (λ (z : List Entry). length z) is in omega (arith, long, same)

  -- ---- as it is given up

  pub owed-at : (h rest : List Entry) → h ++ rest ≡ H → (v : View) (from : ℕ) → w < from → IsDropped terms.modes from h v f → Tch h v
  owed-at h rest is v from after d =
      left_ (owed from after d (later (within-all h rest is)) (λ saver. within-all h rest is)
      (λ k n machine x op there u same put. absurd (let below = u.before in let all = within-all h rest is in omega (arith, below, all, same))))

  pub left-now : (h rest : List Entry) → h ++ rest ≡ H → (v : View) → w < length h → IsOwed terms.modes (length h) h v f → Tch h v
  left-now h rest is v after o = owed-at h rest is v (length h) after (λ never. never (inl o))

  -- ---- once a record came, the history shows it

  pub left-shown : (h rest : List Entry) → h ++ rest ≡ H → length h ≤ p → (v : View) → MayHear v → (from : ℕ) → w < from → IsDropped terms.modes from h v f → (LeftBefore terms.modes H w p f → ⊥) → ⊥
  left-shown h rest is low v may from after d never = dropped-heard terms.modes from h v f may d (λ l. never (before-it h rest is low from after l))
    where
      before-it : (h rest : List Entry) → h ++ rest ≡ H → length h ≤ p → (from : ℕ) → w < from → WasLeft terms.modes from h f → LeftBefore terms.modes H w p f
      before-it h rest is low from after l =
          let both = subst (λ (z : List Entry). Left terms.modes z l.k f × GivesUp terms.modes z l.k f) is (left-more terms.modes h rest l.k f l.soon (l.left, l.gives)) in
          let late = l.late in
          let soon = l.soon in
          (l.k, omega (arith, after, late), omega (arith, soon, low), both.0, both.1)

  -- where it isn't owed
  pub left-unowed : (h rest : List Entry) → h ++ rest ≡ H → length h ≤ p → (v : View) (from : ℕ) → w < from → IsDropped terms.modes from h v f → (IsOwed terms.modes from h v f → ⊥)
      → (LeftBefore terms.modes H w p f → ⊥) → ⊥
  left-unowed h rest is low v from after d not never = d (λ k. elim k [
    | inl o ↦ not o
    | inr l ↦ (
        let both = subst (λ (z : List Entry). Left terms.modes z l.k f × GivesUp terms.modes z l.k f) is (left-more terms.modes h rest l.k f l.soon (l.left, l.gives)) in
        let late = l.late in
        let soon = l.soon in
        never (l.k, omega (arith, after, late), omega (arith, soon, low), both.0, both.1))
  ])

  -- ---- what guards the byte, where the put that wrote it wasn't refused

  pub live-or : (h : List Entry) (v : View) (n : ℕ) (E : Type 0) → w < length h → GuardBy mt terms setup H w y sure due p f i byte n E h v ⊎ E → (LiveBy mt terms setup H w y sure due p f i byte n h v ⊎ E) ⊎ Tch h v
  live-or h v n E began (inr e) = inl (inr e)
  live-or h v n E began (inl (inl guard)) = inl (inl (inl guard))
  live-or h v n E began (inl (inr (put, later low))) = absurd (omega (arith, began, low))
  live-or h v n E began (inl (inr (put, busy k number machine op there u))) = inl (inl (inr (record { put = put; at = k; number = number; machine = machine; op = op; there = there; under = u })))
  live-or h v n E began (inl (inr (put, refused fault is))) = inr (doomed w (inl refl) fault is)
  live-or h v n E began (inl (inr (put, well e))) = inl (inr e)
