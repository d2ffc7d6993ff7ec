-- A file that a last close left alone isn't guarded: no slot holds it before the next record comes.
use Rattle.core_session.proofs.Prelude.{◌≡◌, ◌≤◌, ◌<◌, ◌+◌, ◌⊎◌, inl, inr, ℕ, false, List, [], ◌∷◌, ◌++◌, length, Some, None, refl, sym, ap, subst, ◌∙◌, arith, append_assoc, cases_lt, Mode, Opened, Answer, Entry, Began, Answered, Delivered, Op, At, Modes, AnsweredBefore, Ended, UnderWay, LeftAlone, InSlot, IsOf, Terms, At-grow, At-last, At-one, length_last, CloseFile, Closing, Removal, Mounted, machine_of, Busy, Setup, View, Reaches, GoesWith, always-later, IsHeld, held-grow, Kind, plainly, kind_of, IsClose, IsGuarded, slot, past, removal_in, IsPast}
use Rattle.world_model.specs.Operations.{NoneCame}
use Rattle.core_facts.proofs.Slots.{opening, closing}
use Rattle.std.specs.FinMap as finite
use Rattle.world_model.specs.declared.op.Op.TheVariants as ops
use Rattle.file_ops.specs.declared.close_file.Closing.TheVariants as closings
use Rattle.op_machines.specs.declared.file_machine.FileMachine.TheVariants as files
use Rattle.op_machines.specs.declared.machine.Machine.TheVariants as machines
use Rattle.core_session.proofs.calls.TableHeld.{AllNoted, table-held}
use Rattle.core_session.proofs.drops.Drops.{LaneTold, closer-kind}
use Rattle.core_session.proofs.drops.Dropping.{past-file}
use Rattle.core_session.proofs.drops.Laws.{DropsKnown}
use Rattle.core_session.proofs.drops.OneFile.{one-by-one}
use Rattle.core_session.proofs.drops.SlotKinds.{KindTold}
use Rattle.core_session.proofs.pending.Begins.{of-step}
use Rattle.core_session.proofs.syncs.SlotHeld.{answered-back}

began-parts : (a b c d : ℕ) (o p : Op) → Began a b o ≡ Began c d p → (a ≡ c) × (b ≡ d) × (o ≡ p)
began-parts a b c d o p e = (cc, cc, cc)

some-slot : (a b : ℕ) → Some a ≡ Some b → a ≡ b
some-slot a b e = cc

some-removal : (a b : Removal) → Some a ≡ Some b → a ≡ b
some-removal a b e = cc

close-one : (a b : CloseFile) → machines.File (files.Close a) ≡ machines.File (files.Close b) → a ≡ b
close-one a b e = cc

-- the answer came before, if it did so before a place
early : (h : List Entry) (lane x y k : ℕ) (op : Op) (answer : Answer) → Ended h lane x op y answer → AnsweredBefore h x k → y < k
early h lane x y k op answer d a =
    let same = began-parts a.lane a.ended.line lane d.line a.op op (At-one h x (Began a.lane a.ended.line a.op) (Began lane d.line op) a.ended.began d.began) in
    let first = d.first a.y a.answer (subst (λ (l : ℕ). At h a.y (Answered l d.line a.answer)) same.0 (subst (λ (l : ℕ). At h a.y (Answered a.lane l a.answer)) same.1 a.ended.answered)) a.ended.later in
    let low = a.before in
    omega (arith, first, low)

-- a close past its sync
is-past : (state : Closing) (r : Removal) (f : List ℕ) → removal_in state ≡ Some r → r.file ≡ f → IsPast f state
is-past closings.Idle r f is same = absurd (let no_way : None ≡ Some r = is in cc)
is-past (closings.Queued saving) r f is same = absurd (let no_way : None ≡ Some r = is in cc)
is-past (closings.Saves saving) r f is same = absurd (let no_way : None ≡ Some r = is in cc)
is-past (closings.ToRemove removal) r f is same = ap (λ (z : Removal). z.file) (some-removal removal r is) ∙ same
is-past (closings.Removing removal) r f is same = ap (λ (z : Removal). z.file) (some-removal removal r is) ∙ same

-- Up to the place n no record came after a last close that left the file alone, where that came after the operation at w.
abbrev pub UnleftTo : Modes → List Entry → List ℕ → ℕ → ℕ → Type 0
UnleftTo m H f n w = (k : ℕ) → AnsweredBefore H w k → LeftAlone m H k f → (r : ℕ) (b : List ℕ) → At H r (Delivered b) → k < r → r < n → ⊥

module _ (mt : Mounted) (terms : Terms) (setup : Setup) (H : List Entry) (V : View) (g : GoesWith mt terms setup H V) (f : List ℕ) (h rest : List Entry) (is : h ++ rest ≡ H) where
  -- a slot holds the file by the history, at once or before a record comes
  pub record HeldBy (lane its_slot : ℕ) : Type 0 where
    pub n : ℕ
    pub open_at : ℕ
    pub from : length h ≤ n
    pub none : (j : ℕ) (b : List ℕ) → At H j (Delivered b) → length h ≤ j → j < n → ⊥
    pub held : InSlot terms.modes H n lane its_slot open_at f

  -- so it is with each slot of the table
  abbrev pub HeldSoon : View → Type 0
  HeldSoon v = (lane its_slot : ℕ) (o : Opened) → finite.get v.shelf.opens (lane, its_slot) ≡ Some o → o.file ≡ f → HeldBy lane its_slot

  -- by the history
  pub held-by : (lane its_slot : ℕ) (mode : Mode) → IsHeld terms.modes h (length h) lane its_slot f mode → HeldBy lane its_slot
  held-by lane its_slot mode here =
      let grown : IsHeld terms.modes (h ++ rest) (length h) lane its_slot f mode = held-later h rest (omega arith) here in
      let whole : IsHeld terms.modes H (length h) lane its_slot f mode = subst (λ (z : List Entry). IsHeld terms.modes z (length h) lane its_slot f mode) is grown in
      record {
        n = length h;
        open_at = whole.x;
        from = omega arith;
        none = λ j b at low high. omega (arith, low, high);
        held = whole.holds;
      }
    where
      held-later : (k more : List Entry) → length h ≤ length k → IsHeld terms.modes k (length h) lane its_slot f mode → IsHeld terms.modes (k ++ more) (length h) lane its_slot f mode
      held-later k more low i = (always-later (λ (z : List Entry). (length h ≤ length z) × IsHeld terms.modes z (length h) lane its_slot f mode)
          (λ z e p. ((let long = length_last z e in let l = p.0 in omega (arith, long, l)), held-grow terms.modes z e lane its_slot f mode (length h) p.0 p.1)) k more (low, i)).1

  pub at-once : (v : View) → Reaches (machine_of mt) setup h v → v.lost ≡ false → AllNoted v → HeldSoon v
  at-once v r found noted lane its_slot o there same =
      held-by lane its_slot o.mode
      (subst (λ (z : List ℕ). IsHeld terms.modes h (length h) lane its_slot z o.mode) same (table-held mt terms.modes g.nocto setup h v r found noted lane its_slot o there))

  -- the slot that a close under way is to free
  under-held : (n x its_slot : ℕ) → UnderWay h n x (length h) (ops.Close its_slot) → IsOf terms.modes h x (ops.Close its_slot) f → HeldBy n its_slot
  under-held n x its_slot u of0 = record {
    n = length h;
    open_at = of.open_at;
    from = omega arith;
    none = λ j b at low high. omega (arith, low, high);
    held = record {
      y = here.y;
      opens = here.opens;
      before = let b = here.before in let c = u.before in omega (arith, b, c);
      kept = λ c k answer d after low. elim (cases_lt k x) [
        | inl lt ↦ here.kept c k answer d after lt
        | inr ge ↦ no-close c k answer d ge low
      ];
    };
  }
    where
      of : IsOf terms.modes H x (ops.Close its_slot) f
      of = subst (λ (z : List Entry). IsOf terms.modes z x (ops.Close its_slot) f) is
          (always-later (λ (z : List Entry). IsOf terms.modes z x (ops.Close its_slot) f) (of-step terms.modes x (ops.Close its_slot) f) h rest of0)

      began : At H x (Began n u.line (ops.Close its_slot))
      began = subst (λ (z : List Entry). At z x (Began n u.line (ops.Close its_slot))) is (At-grow h rest x (Began n u.line (ops.Close its_slot)) u.began)

      here : InSlot terms.modes H x n its_slot of.open_at f
      here =
          let same = began-parts of.lane of.line n u.line (ops.Close its_slot) (ops.Close its_slot)
          (At-one H x (Began of.lane of.line (ops.Close its_slot)) (Began n u.line (ops.Close its_slot)) of.began began) in
          let at : of.slot ≡ its_slot = some-slot of.slot its_slot (sym of.works_on) in
          subst (λ (z : ℕ). InSlot terms.modes H x n z of.open_at f) at (subst (λ (z : ℕ). InSlot terms.modes H x z of.slot of.open_at f) same.0 of.holds)

      not-answered : (y : ℕ) → AnsweredBefore H x y → y ≤ length h → ⊥
      not-answered y a low =
          let b = answered-back H h rest is x y low a in
          u.unanswered (record { lane = b.lane; op = b.op; y = b.y; answer = b.answer; ended = b.ended; before = (let e = b.before in omega (arith, e, low)) })

      no-close : (c k : ℕ) (answer : Answer) → Ended H n c (ops.Close its_slot) k answer → x ≤ k → k < length h → ⊥
      no-close c k answer d ge low = by (cases_lt c x)
        where
          by : (c < x) ⊎ (x ≤ c) → ⊥
          by (inl lt) =
              let a = one-by-one (machine_of mt) setup H V g.reaches n c d.line (ops.Close its_slot) x u.line (ops.Close its_slot) d.began began lt in
              let y = early H n c k x (ops.Close its_slot) answer d a in
              omega (arith, y, ge)
          by (inr after) = elim (cases_lt x c) [
            | inl lt ↦ (
                let a = one-by-one (machine_of mt) setup H V g.reaches n x u.line (ops.Close its_slot) c d.line (ops.Close its_slot) began d.began lt in
                let later = d.later in
                not-answered c a (omega (arith, later, low)))
            | inr le ↦ (
                let same : c ≡ x = omega (arith, after, le) in
                not-answered (k + 1)
                (record {
                  lane = n;
                  op = ops.Close its_slot;
                  y = k;
                  answer = answer;
                  ended = subst (λ (z : ℕ). Ended H n z (ops.Close its_slot) k answer) same d;
                  before = omega arith;
                })
                (omega (arith, low)))
          ]

  -- ---- after a last close

  module _ (k : ℕ) (low : k < length h) (left : LeftAlone terms.modes H k f) (none : NoneCame H k (length h)) where
    pub not-held : (lane its_slot : ℕ) → HeldBy lane its_slot → ⊥
    not-held lane its_slot b = by (cases_lt k b.held.y)
      where
        came : (j : ℕ) (bytes : List ℕ) → At H j (Delivered bytes) → k < j → j < b.held.y → ⊥
        came j bytes at after before = elim (cases_lt j (length h)) [
          | inl lt ↦ none j bytes at after lt
          | inr ge ↦ b.none j bytes at ge (let soon = b.held.before in omega (arith, before, soon))
        ]

        by : (k < b.held.y) ⊎ (b.held.y ≤ k) → ⊥
        by (inl after) = left.unopened lane its_slot b.open_at b.held.y b.held.opens after came
        by (inr was) = left.left.last lane its_slot b.open_at (record {
          y = b.held.y;
          opens = b.held.opens;
          before = omega (arith, was);
          kept = λ c j answer d after before. b.held.kept c j answer d after (let from = b.from in omega (arith, before, low, from));
        })

    -- no close past its sync removes the file
    pub past-not : (v : View) → DropsKnown terms.modes h v → (n : ℕ) (c : CloseFile) (removal : Removal) → IsClose v n c → removal_in c.state ≡ Some removal → removal.file ≡ f → ⊥
    past-not v d n c removal close gone same = by told.op told.under_way (kind_of told.op) refl told.told
      where
        told : LaneTold terms.modes h n (Busy (machines.File (files.Close c))) v.shelf.opens
        told = d.lanes close.at (record { number = n; state = Busy (machines.File (files.Close c)) }) close.there

        by : (op : Op) → UnderWay h n told.x (length h) op → (kind : Kind) → kind_of op ≡ kind → KindTold terms.modes h told.x n kind (machines.File (files.Close c)) v.shelf.opens → ⊥
        by op u (opening its mode) kind_is t = absurd (let no_way : machines.File (files.Close c) ≡ machines.Path t.m = t.is in cc)
        by op u plainly kind_is t = t
        by op u (closing its) kind_is t =
            let one : c ≡ t.closer.c = close-one c t.closer.c t.closer.is in
            let file : t.file ≡ f =
            past-file n its t.file f t.upto v.shelf.opens t.closer.c.state t.closer.at (is-past t.closer.c.state removal f (ap (λ (z : CloseFile). removal_in z.state) (sym one) ∙ gone) same) in
            not-held n its
            (under-held n told.x its (subst (λ (o : Op). UnderWay h n told.x (length h) o) (closer-kind op its kind_is) u) (subst (λ (z : List ℕ). IsOf terms.modes h told.x (ops.Close its) z) file t.of))

    pub alone-not : (v : View) → DropsKnown terms.modes h v → HeldSoon v → (number : ℕ) → IsGuarded number v f → ⊥
    alone-not v d soon number (slot place of there same all) = not-held place.0 place.1 (soon place.0 place.1 of there same)
    alone-not v d soon number (past n c removal fault close gone same refused all) = past-not v d n c removal close gone same

  -- one entry more
  pub unleft-step : (e : Entry) (after : List Entry) → rest ≡ e ∷ after → (v : View) → DropsKnown terms.modes h v → ((b : List ℕ) → e ≡ Delivered b → HeldSoon v) → (w number : ℕ) → IsGuarded number v f
      → UnleftTo terms.modes H f (length h) w → UnleftTo terms.modes H f (length (h ++ e ∷ [])) w
  unleft-step e after rest_is v d soon w number guard old k a left r b at low high = elim (cases_lt r (length h)) [
    | inl lt ↦ old k a left r b at low lt
    | inr ge ↦ (
        let long = length_last h e in
        let last : r ≡ length h = omega (arith, ge, high, long) in
        let here : At H (length h) e = subst (λ (z : List Entry). At z (length h) e) is (subst (λ (z : List Entry). At (h ++ z) (length h) e) (sym rest_is) (subst (λ (z : List Entry). At z (length h) e) (append_assoc h (e ∷ []) after) (At-grow (h ++ e ∷ []) after (length h) e (At-last h e)))) in
        let same : e ≡ Delivered b = At-one H (length h) e (Delivered b) here (subst (λ (z : ℕ). At H z (Delivered b)) last at) in
        alone-not k (omega (arith, low, last)) left (λ j bytes there from to. old k a left j bytes there from to) v d (soon b same) number guard)
  ]
