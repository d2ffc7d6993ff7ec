-- While an operation on a slot is under way which neither opens nor closes it, the table of opens has the file that the history says.
use Rattle.core_session.proofs.Prelude.{◌≡◌, ◌<◌, ◌≤◌, ◌+◌, ◌⊎◌, inl, inr, ℕ, Bool, true, false, nat_eq, List, [], ◌∷◌, ◌++◌, length, Option, Some, None, option_map, slice_get, refl, sym, ap, subst, ◌∙◌, arith, append-nil, append_assoc, eqb-true, eqb-false, cases_lt, Opened, Opens, Answer, Entry, Began, Answered, Op, At, Modes, Ended, AnsweredBefore, UnderWay, IsOf, InSlot, slot_of, Terms, At-grow, At-last, At-one, At-back, length_last, file_at, Mounted, machine_of, State, Busy, Setup, IsIdle, View, Reaches, GoesWith, Known, Runs, number_of, to-map, IsHeld, Agrees, Kind, plainly, kind_of, SlotsAgree, reached-slots}
use Rattle.core_facts.proofs.SlotGrowth.{held-back, IsShown}
use Rattle.core_facts.proofs.Slots.{closing}
use Rattle.std.specs.FinMap as finite
use Rattle.world_model.specs.declared.op.Op.TheVariants as ops
use Rattle.op_machines.specs.declared.file_machine.FileMachine.TheVariants as files
use Rattle.op_machines.specs.declared.machine.Machine.TheVariants as machines
use Rattle.core_session.proofs.drops.Drops.{LaneTold}
use Rattle.core_session.proofs.drops.Guards.{CloserStep, OtherStep}
use Rattle.core_session.proofs.drops.GuardLaws.{StepOf}
use Rattle.core_session.proofs.drops.Laws.{DropsKnown}
use Rattle.core_session.proofs.drops.OneFile.{slot-file, one-by-one}
use Rattle.core_session.proofs.drops.SlotKinds.{KindTold, OthersSame}
use Rattle.core_session.proofs.syncs.Fate.{one-under}

-- of an operation at a place, while it is under way
abbrev pub HoldsSlot : Modes → List Entry → ℕ → List ℕ → List Entry → View → Type 0
HoldsSlot m H x f h v = (op : Op) (slot : ℕ) → kind_of op ≡ plainly → slot_of op ≡ Some slot → IsOf m H x op f → (n : ℕ) → UnderWay h n x (length h) op → file_at n slot v.shelf.opens ≡ Some f

began-parts : (a b c d : ℕ) (o p : Op) → Began a b o ≡ Began c d p → (a ≡ c) × (b ≡ d) × (o ≡ p)
began-parts a b c d o p e = (cc, cc, cc)

some-slot : (a b : ℕ) → Some a ≡ Some b → a ≡ b
some-slot a b e = cc

some-file : (a b : List ℕ) → Some a ≡ Some b → a ≡ b
some-file a b e = cc

place-lane : (a b c d : ℕ) → ◌≡◌ {A = ℕ × ℕ} (a, b) (c, d) → a ≡ c
place-lane a b c d e = ap (λ (p : ℕ × ℕ). p.0) e

-- the answer came before, if it did so before a place
early : (h : List Entry) (lane x y k : ℕ) (op : Op) (answer : Answer) → Ended h lane x op y answer → AnsweredBefore h x k → y < k
early h lane x y k op answer d a =
    let same = began-parts a.lane a.ended.line lane d.line a.op op (At-one h x (Began a.lane a.ended.line a.op) (Began lane d.line op) a.ended.began d.began) in
    let first = d.first a.y a.answer (subst (λ (l : ℕ). At h a.y (Answered l d.line a.answer)) same.0 (subst (λ (l : ℕ). At h a.y (Answered a.lane l a.answer)) same.1 a.ended.answered)) a.ended.later in
    let low = a.before in
    omega (arith, first, low)

-- a shorter history
pub held-shorter : (m : Modes) (h rest : List Entry) (n lane slot : ℕ) (f : List ℕ) (mode : _) → n ≤ length h → IsHeld m (h ++ rest) n lane slot f mode → IsHeld m h n lane slot f mode
held-shorter m h [] n lane slot f mode low k = subst (λ (l : List Entry). IsHeld m l n lane slot f mode) (append-nil h) k
held-shorter m h (e ∷ es) n lane slot f mode low k =
    held-back m h e lane slot f mode n low
    (held-shorter m (h ++ e ∷ []) es n lane slot f mode (let long = length_last h e in omega (arith, low, long)) (subst (λ (l : List Entry). IsHeld m l n lane slot f mode) (sym (append_assoc h (e ∷ []) es)) k))

pub answered-back : (H h rest : List Entry) → h ++ rest ≡ H → (x k : ℕ) → k ≤ length h → AnsweredBefore H x k → AnsweredBefore h x k
answered-back H h rest is x k low a = record {
  lane = a.lane;
  op = a.op;
  y = a.y;
  answer = a.answer;
  ended = (
      let u : Ended (h ++ rest) a.lane x a.op a.y a.answer = subst (λ (z : List Entry). Ended z a.lane x a.op a.y a.answer) (sym is) a.ended in
      let early_ = a.before in
      record {
        line = u.line;
        began = At-back h rest x (Began a.lane u.line a.op) u.began (let b = u.later in omega (arith, b, early_, low));
        answered = At-back h rest a.y (Answered a.lane u.line a.answer) u.answered (omega (arith, early_, low));
        later = u.later;
        first = λ q b at after. u.first q b (At-grow h rest q (Answered a.lane u.line b) at) after;
      });
  before = a.before;
}

module _ (mt : Mounted) (terms : Terms) (setup : Setup) (H : List Entry) (V : View) (g : GoesWith mt terms setup H V) (x : ℕ) (f : List ℕ) (op : Op) (slot : ℕ) (plain : kind_of op ≡ plainly)
    (on : slot_of op ≡ Some slot) (of : IsOf terms.modes H x op f) where
  abbrev pub Slotted : List Entry → View → Type 0
  Slotted h v = (n : ℕ) → UnderWay h n x (length h) op → file_at n slot v.shelf.opens ≡ Some f

  at-on : (h rest : List Entry) → h ++ rest ≡ H → (k : ℕ) (e : Entry) → At h k e → At H k e
  at-on h rest is k e at = subst (λ (l : List Entry). At l k e) is (At-grow h rest k e at)

  -- as the history says of its lane, at its beginning and later
  module _ (h rest : List Entry) (is : h ++ rest ≡ H) (n line : ℕ) (began : At H x (Began n line op)) (within : x ≤ length h) where
    here : InSlot terms.modes H x n slot of.open_at f
    here =
        let same = began-parts of.lane of.line n line op op (At-one H x (Began of.lane of.line op) (Began n line op) of.began began) in
        let at : of.slot ≡ slot = some-slot of.slot slot (sym of.works_on ∙ on) in
        subst (λ (z : ℕ). InSlot terms.modes H x n z of.open_at f) at (subst (λ (z : ℕ). InSlot terms.modes H x z of.slot of.open_at f) same.0 of.holds)

    held-first : IsHeld terms.modes h x n slot f here.opens.mode
    held-first = held-shorter terms.modes h rest x n slot f here.opens.mode within
        (subst (λ (l : List Entry). IsHeld terms.modes l x n slot f here.opens.mode) (sym is) (record { x = of.open_at; holds = here; mode_is = refl }))

    no-close : (c k : ℕ) (answer : Answer) → Ended h n c (ops.Close slot) k answer → (AnsweredBefore h x (length h) → ⊥) → x ≤ k → k < length h → ⊥
    no-close c k answer d under ge low = by (cases_lt c x)
      where
        began-c : At H c (Began n d.line (ops.Close slot))
        began-c = at-on h rest is c (Began n d.line (ops.Close slot)) d.began

        same : c ≡ x → ⊥
        same e =
            let one = began-parts n d.line n line (ops.Close slot) op (At-one H x (Began n d.line (ops.Close slot)) (Began n line op) (subst (λ (z : ℕ). At H z (Began n d.line (ops.Close slot))) e began-c) began) in
            let no_way : closing slot ≡ plainly = ap kind_of one.2 ∙ plain in
            absurd cc

        by : (c < x) ⊎ (x ≤ c) → ⊥
        by (inl lt) =
            let a = one-by-one (machine_of mt) setup H V g.reaches n c d.line (ops.Close slot) x line op began-c began lt in
            let y = early h n c k x (ops.Close slot) answer d (answered-back H h rest is c x within a) in
            omega (arith, y, ge)
        by (inr past) = by2 (cases_lt x c)
          where
            by2 : (x < c) ⊎ (c ≤ x) → ⊥
            by2 (inr le) = same (omega (arith, past, le))
            by2 (inl lt) =
                let a = one-by-one (machine_of mt) setup H V g.reaches n x line op c d.line (ops.Close slot) began began-c lt in
                let later = d.later in
                under (
                let b = answered-back H h rest is x c (omega (arith, later, low)) a in
                record { lane = b.lane; op = b.op; y = b.y; answer = b.answer; ended = b.ended; before = (let e = b.before in omega (arith, e, later, low)) })

    held-now : (AnsweredBefore h x (length h) → ⊥) → IsHeld terms.modes h (length h) n slot f here.opens.mode
    held-now under = record {
      x = held-first.x;
      holds = record {
        y = held-first.holds.y;
        opens = held-first.holds.opens;
        before = (let b = held-first.holds.before in omega (arith, b, within));
        kept = λ c k answer d after low. elim (cases_lt k x) [
          | inl lt ↦ held-first.holds.kept c k answer d after lt
          | inr ge ↦ no-close c k answer d under ge low
        ];
      };
      mode_is = held-first.mode_is;
    }

    -- so it is in the table
    agreed : (v : View) → Reaches (machine_of mt) setup h v → (opens : Opens) → SlotsAgree terms.modes h n opens → (AnsweredBefore h x (length h) → ⊥) → file_at n slot opens ≡ Some f
    agreed v r opens agree under = by (finite.get opens (n, slot)) refl
      where
        held : IsHeld terms.modes h (length h) n slot f here.opens.mode
        held = held-now under

        by : (o : Option Opened) → finite.get opens (n, slot) ≡ o → file_at n slot opens ≡ Some f
        by None e = absurd (subst (Agrees terms.modes h n slot) e (agree slot) f here.opens.mode held)
        by (Some o) e =
            let shown : IsShown terms.modes h n slot o = subst (Agrees terms.modes h n slot) e (agree slot) in
            ap (λ (q : Option Opened). option_map (λ (k : Opened). k.file) q) e
            ∙ ap Some (slot-file mt terms setup h v (record { nocto = g.nocto; reaches = r }) (length h) n slot shown.held.x held.x o.file f shown.held.holds held.holds)

  -- ---- steps

  module _ (h h2 : List Entry) (old new : View) (s : StepOf old new) (d : DropsKnown terms.modes h old) (k : Known setup h old) (back : (n : ℕ) → UnderWay h2 n x (length h2) op → UnderWay h n x (length h) op) where
    not-closer : (n : ℕ) → UnderWay h n x (length h) op → (c : CloserStep old new s.step) → s.step.number ≡ n → ⊥
    not-closer n u c same = by t.told
      where
        there : slice_get old.lanes s.step.at ≡ Some (record { number = s.step.number; state = Busy (machines.File (files.Close c.c)) })
        there = s.step.there ∙ ap (λ (st : State). Some (record { number = s.step.number; state = st })) c.was_is

        t : LaneTold terms.modes h s.step.number (Busy (machines.File (files.Close c.c))) old.shelf.opens
        t = d.lanes s.step.at (record { number = s.step.number; state = Busy (machines.File (files.Close c.c)) }) there

        runs : Runs h s.step.number
        runs = k.lanes.busy s.step.at s.step.number (to-map number_of old.lanes s.step.at (record { number = s.step.number; state = Busy (machines.File (files.Close c.c)) }) there)

        one : (t.x ≡ x) × (op ≡ t.op)
        one =
            let o = one-under h s.step.number t.x x t.op op runs t.under_way (subst (λ (z : ℕ). UnderWay h z x (length h) op) (sym same) u) in
            (sym o.0, o.1)

        by : KindTold terms.modes h t.x s.step.number (kind_of t.op) (machines.File (files.Close c.c)) old.shelf.opens → ⊥
        by told = subst (λ (z : Kind). KindTold terms.modes h t.x s.step.number z (machines.File (files.Close c.c)) old.shelf.opens) (ap kind_of (sym one.1) ∙ plain) told

    pub slotted-step : Slotted h old → Slotted h2 new
    slotted-step held n u = by (finite.get old.shelf.opens (n, slot)) refl s.kind
      where
        was : file_at n slot old.shelf.opens ≡ Some f
        was = held n (back n u)

        kept : (o : Opened) → finite.get old.shelf.opens (n, slot) ≡ Some o → finite.get new.shelf.opens (n, slot) ≡ Some o → file_at n slot new.shelf.opens ≡ Some f
        kept o there now =
            ap (λ (q : Option Opened). option_map (λ (z : Opened). z.file) q) now ∙ sym (ap (λ (q : Option Opened). option_map (λ (z : Opened). z.file) q) there) ∙ was

        by : (o : Option Opened) → finite.get old.shelf.opens (n, slot) ≡ o → CloserStep old new s.step ⊎ OtherStep old new s.step → file_at n slot new.shelf.opens ≡ Some f
        by None e kind = absurd (let no_way : None ≡ Some f = sym (ap (λ (q : Option Opened). option_map (λ (z : Opened). z.file) q) e) ∙ was in cc)
        by (Some o) e (inr other) = kept o e (other.held (n, slot) o e)
        by (Some o) e (inl c) =
            kept o e (c.rest (n, slot) (λ same. not-closer n (back n u) c (sym (place-lane n slot s.step.number c.its_slot same))) ∙ e)

  -- ---- it begins, or another one does

  pub slotted-starts : (h rest : List Entry) (old new : View) (lane line : ℕ) (other : Op) → (h ++ Began lane line other ∷ []) ++ rest ≡ H → Reaches (machine_of mt) setup h old → old.lost ≡ false → IsIdle lane old.lanes
      → OthersSame lane old.shelf.opens new.shelf.opens → (kind_of other ≡ plainly → new.shelf.opens ≡ old.shelf.opens) → Slotted h old → Slotted (h ++ Began lane line other ∷ []) new
  slotted-starts h rest old new lane line other is r found idle others same held n u = by (nat_eq n lane) refl
    where
      h2 : List Entry
      h2 = h ++ Began lane line other ∷ []

      is0 : h ++ (Began lane line other ∷ rest) ≡ H
      is0 = sym (append_assoc h (Began lane line other ∷ []) rest) ∙ is

      long : length h2 ≡ length h + 1
      long = length_last h (Began lane line other)

      its : At H (length h) (Began lane line other)
      its = at-on h2 rest is (length h) (Began lane line other) (At-last h (Began lane line other))

      began : At H x (Began n u.line op)
      began = at-on h2 rest is x (Began n u.line op) u.began

      earlier : x < length h → UnderWay h n x (length h) op
      earlier low = record {
        line = u.line;
        began = At-back h (Began lane line other ∷ []) x (Began n u.line op) u.began low;
        before = low;
        unanswered = λ a. u.unanswered (record {
          lane = a.lane;
          op = a.op;
          y = a.y;
          answer = a.answer;
          ended = record {
            line = a.ended.line;
            began = At-grow h (Began lane line other ∷ []) x (Began a.lane a.ended.line a.op) a.ended.began;
            answered = At-grow h (Began lane line other ∷ []) a.y (Answered a.lane a.ended.line a.answer) a.ended.answered;
            later = a.ended.later;
            first = λ q b at after. elim (cases_lt q (length h)) [
              | inl lt ↦ a.ended.first q b (At-back h (Began lane line other ∷ []) q (Answered a.lane a.ended.line b) at lt) after
              | inr ge ↦ (let e = a.before in omega (arith, e, ge))
            ];
          };
          before = (let e = a.before in let l = long in omega (arith, e, l));
        });
      }

      by : (b : Bool) → nat_eq n lane ≡ b → file_at n slot new.shelf.opens ≡ Some f
      by false q = now (cases_lt x (length h))
        where
          now : (x < length h) ⊎ (length h ≤ x) → file_at n slot new.shelf.opens ≡ Some f
          now (inl low) = ap (λ (o : Option Opened). option_map (λ (z : Opened). z.file) o) (others (n, slot) (eqb-false n lane q)) ∙ held n (earlier low)
          now (inr ge) =
              let at : x ≡ length h = let b = u.before in let l = long in omega (arith, ge, b, l) in
              let one = began-parts n u.line lane line op other (At-one H (length h) (Began n u.line op) (Began lane line other) (subst (λ (z : ℕ). At H z (Began n u.line op)) at began) its) in
              absurd (eqb-false n lane q one.0)
      by true q = now (cases_lt x (length h))
        where
          now : (x < length h) ⊎ (length h ≤ x) → file_at n slot new.shelf.opens ≡ Some f
          now (inl low) =
              let a = one-by-one (machine_of mt) setup H V g.reaches n x u.line op (length h) line other began
              (subst (λ (z : ℕ). At H (length h) (Began z line other)) (sym (eqb-true n lane q)) its) low in
              absurd ((earlier low).unanswered (answered-back H h (Began lane line other ∷ rest) is0 x (length h) (omega arith) a))
          now (inr ge) =
              let at : x ≡ length h = let b = u.before in let l = long in omega (arith, ge, b, l) in
              let one = began-parts n u.line lane line op other (At-one H (length h) (Began n u.line op) (Began lane line other) (subst (λ (z : ℕ). At H z (Began n u.line op)) at began) its) in
              let agree : SlotsAgree terms.modes h n old.shelf.opens =
              subst (λ (z : ℕ). SlotsAgree terms.modes h z old.shelf.opens) (sym one.0) ((reached-slots terms.modes mt g.nocto setup h old r found).idle lane idle.other) in
              ap (λ (t : Opens). file_at n slot t) (same (ap kind_of (sym one.2) ∙ plain))
              ∙ agreed h (Began lane line other ∷ rest) is0 n u.line began (omega (arith, at)) old r old.shelf.opens agree
              (λ a. (let later = a.ended.later in let low = a.before in omega (arith, later, low, at)))

-- ---- the same of an operation of which no more is known

module _ (mt : Mounted) (terms : Terms) (setup : Setup) (H : List Entry) (V : View) (g : GoesWith mt terms setup H V) (x : ℕ) (f : List ℕ) where
  pub holds-step : (h h2 : List Entry) (old new : View) → StepOf old new → DropsKnown terms.modes h old → Known setup h old → ((op : Op) (n : ℕ) → UnderWay h2 n x (length h2) op → UnderWay h n x (length h) op)
      → HoldsSlot terms.modes H x f h old → HoldsSlot terms.modes H x f h2 new
  holds-step h h2 old new s d k back held op slot plain on of = slotted-step mt terms setup H V g x f op slot plain on of h h2 old new s d k (back op) (held op slot plain on of)

  pub holds-starts : (h rest : List Entry) (old new : View) (lane line : ℕ) (other : Op) → (h ++ Began lane line other ∷ []) ++ rest ≡ H → Reaches (machine_of mt) setup h old → old.lost ≡ false → IsIdle lane old.lanes
      → OthersSame lane old.shelf.opens new.shelf.opens → (kind_of other ≡ plainly → new.shelf.opens ≡ old.shelf.opens) → HoldsSlot terms.modes H x f h old
      → HoldsSlot terms.modes H x f (h ++ Began lane line other ∷ []) new
  holds-starts h rest old new lane line other is r found idle others same held op slot plain on of =
      slotted-starts mt terms setup H V g x f op slot plain on of h rest old new lane line other is r found idle others same (held op slot plain on of)

pub holds-same : (m : Modes) (H : List Entry) (x : ℕ) (f : List ℕ) (h h2 : List Entry) (old new : View) → new.shelf.opens ≡ old.shelf.opens
    → ((op : Op) (n : ℕ) → UnderWay h2 n x (length h2) op → UnderWay h n x (length h) op) → HoldsSlot m H x f h old → HoldsSlot m H x f h2 new
holds-same m H x f h h2 old new same back held op slot plain on of n u = ap (λ (t : Opens). file_at n slot t) same ∙ held op slot plain on of n (back op n u)

pub holds-unbegun : (m : Modes) (H : List Entry) (x : ℕ) (f : List ℕ) (h : List Entry) (v : View) → ((k lane line : ℕ) (op : Op) → At h k (Began lane line op) → ⊥) → HoldsSlot m H x f h v
holds-unbegun m H x f h v none op slot plain on of n u = absurd (none x n u.line op u.began)

-- as an operation begins
pub slot-begins : (mt : Mounted) (terms : Terms) (setup : Setup) (H : List Entry) (V : View) → GoesWith mt terms setup H V → (h rest : List Entry) → h ++ rest ≡ H → (old : View) → Reaches (machine_of mt) setup h old
    → old.lost ≡ false → (lane line : ℕ) (op : Op) (slot : ℕ) (f : List ℕ) → At H (length h) (Began lane line op) → IsIdle lane old.lanes → slot_of op ≡ Some slot → IsOf terms.modes H (length h) op f
    → file_at lane slot old.shelf.opens ≡ Some f
slot-begins mt terms setup H V g h rest is old r found lane line op slot f began idle on of = by (finite.get old.shelf.opens (lane, slot)) refl
  where
    agree : SlotsAgree terms.modes h lane old.shelf.opens
    agree = (reached-slots terms.modes mt g.nocto setup h old r found).idle lane idle.other

    here : InSlot terms.modes H (length h) lane slot of.open_at f
    here =
        let same = began-parts of.lane of.line lane line op op (At-one H (length h) (Began of.lane of.line op) (Began lane line op) of.began began) in
        let at : of.slot ≡ slot = some-slot of.slot slot (sym of.works_on ∙ on) in
        subst (λ (z : ℕ). InSlot terms.modes H (length h) lane z of.open_at f) at (subst (λ (z : ℕ). InSlot terms.modes H (length h) z of.slot of.open_at f) same.0 of.holds)

    held : IsHeld terms.modes h (length h) lane slot f here.opens.mode
    held = held-shorter terms.modes h rest (length h) lane slot f here.opens.mode (omega arith)
        (subst (λ (l : List Entry). IsHeld terms.modes l (length h) lane slot f here.opens.mode) (sym is) (record { x = of.open_at; holds = here; mode_is = refl }))

    by : (o : Option Opened) → finite.get old.shelf.opens (lane, slot) ≡ o → file_at lane slot old.shelf.opens ≡ Some f
    by None e = absurd (subst (Agrees terms.modes h lane slot) e (agree slot) f here.opens.mode held)
    by (Some o) e =
        let shown : IsShown terms.modes h lane slot o = subst (Agrees terms.modes h lane slot) e (agree slot) in
        ap (λ (q : Option Opened). option_map (λ (k : Opened). k.file) q) e
        ∙ ap Some (slot-file mt terms setup h old (record { nocto = g.nocto; reaches = r }) (length h) lane slot shown.held.x held.x o.file f shown.held.holds held.holds)
