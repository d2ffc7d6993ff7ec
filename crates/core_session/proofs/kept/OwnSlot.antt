-- While a read is under way, or about to begin, the table of opens has its file.
use Rattle.core_session.proofs.Prelude.{suc, ◌≡◌, ◌<◌, ◌≤◌, ◌⊎◌, inl, inr, ℕ, Bool, true, false, nat_eq, List, [], ◌∷◌, ◌++◌, length, Option, Some, None, option_map, slice_get, refl, sym, ap, subst, ◌∙◌, arith, eqb-true, eqb-false, cases_lt, Opened, Opens, IsOpen, Answer, Entry, Began, Answered, Op, At, Ended, AnsweredBefore, UnderWay, IsOf, InSlot, slot_of, Terms, At-grow, At-one, At-back, file_at, Mounted, machine_of, State, Busy, Over, Setup, View, Reaches, GoesWith, IsHeld, Agrees, plainly, kind_of, SlotsAgree, StoryOf, reached-slots, ReadsBytes, Lane, IsOther, numbers_of, reached-lanes, lanes-under-way}
use Rattle.core_facts.proofs.SlotGrowth.{IsShown}
use Rattle.core_facts.proofs.Slots.{closing}
use Rattle.std.specs.FinMap as finite
use Rattle.world_model.specs.declared.op.Op.TheVariants as ops
use Rattle.core_session.proofs.drops.OneFile.{slot-file, one-by-one}
use Rattle.core_session.proofs.syncs.SlotHeld.{held-shorter, answered-back}

began-parts : (a b c d : ℕ) (o p : Op) → Began a b o ≡ Began c d p → (a ≡ c) × (b ≡ d) × (o ≡ p)
began-parts a b c d o p e = (cc, cc, cc)

some-slot : (a b : ℕ) → Some a ≡ Some b → a ≡ b
some-slot a b e = cc

some-file : (a b : List ℕ) → Some a ≡ Some b → a ≡ b
some-file a b e = cc

-- the answer came before, if it did so before a place
early : (h : List Entry) (lane x y k : ℕ) (op : Op) (answer : Answer) → Ended h lane x op y answer → AnsweredBefore h x k → y < k
early h lane x y k op answer d a =
    let same = began-parts a.lane a.ended.line lane d.line a.op op (At-one h x (Began a.lane a.ended.line a.op) (Began lane d.line op) a.ended.began d.began) in
    let first = d.first a.y a.answer (subst (λ (l : ℕ). At h a.y (Answered l d.line a.answer)) same.0 (subst (λ (l : ℕ). At h a.y (Answered a.lane l a.answer)) same.1 a.ended.answered)) a.ended.later in
    let low = a.before in
    omega (arith, first, low)

module _ (mt : Mounted) (terms : Terms) (setup : Setup) (H : List Entry) (V : View) (g : GoesWith mt terms setup H V) (x : ℕ) (f : List ℕ) (op : Op) (slot : ℕ) (plain : kind_of op ≡ plainly)
    (on : slot_of op ≡ Some slot) (of : IsOf terms.modes H x op f) where
  at-on : (h rest : List Entry) → h ++ rest ≡ H → (k : ℕ) (e : Entry) → At h k e → At H k e
  at-on h rest is k e at = subst (λ (l : List Entry). At l k e) is (At-grow h rest k e at)

  -- as the history says of its lane, at its beginning and later
  module _ (h rest : List Entry) (is : h ++ rest ≡ H) (n line : ℕ) (began : At H x (Began n line op)) (within : x ≤ length h) where
    here : InSlot terms.modes H x n slot of.open_at f
    here =
        let same = began-parts of.lane of.line n line op op (At-one H x (Began of.lane of.line op) (Began n line op) of.began began) in
        let at : of.slot ≡ slot = some-slot of.slot slot (sym of.works_on ∙ on) in
        subst (λ (z : ℕ). InSlot terms.modes H x n z of.open_at f) at (subst (λ (z : ℕ). InSlot terms.modes H x z of.slot of.open_at f) same.0 of.holds)

    held-first : IsHeld terms.modes h x n slot f here.opens.mode
    held-first = held-shorter terms.modes h rest x n slot f here.opens.mode within
        (subst (λ (l : List Entry). IsHeld terms.modes l x n slot f here.opens.mode) (sym is) (record { x = of.open_at; holds = here; mode_is = refl }))

    no-close : (c k : ℕ) (answer : Answer) → Ended h n c (ops.Close slot) k answer → (AnsweredBefore h x (length h) → ⊥) → x ≤ k → k < length h → ⊥
    no-close c k answer d under ge low = by (cases_lt c x)
      where
        began-c : At H c (Began n d.line (ops.Close slot))
        began-c = at-on h rest is c (Began n d.line (ops.Close slot)) d.began

        same : c ≡ x → ⊥
        same e =
            let one = began-parts n d.line n line (ops.Close slot) op (At-one H x (Began n d.line (ops.Close slot)) (Began n line op) (subst (λ (z : ℕ). At H z (Began n d.line (ops.Close slot))) e began-c) began) in
            let no_way : closing slot ≡ plainly = ap kind_of one.2 ∙ plain in
            absurd cc

        by : (c < x) ⊎ (x ≤ c) → ⊥
        by (inl lt) =
            let a = one-by-one (machine_of mt) setup H V g.reaches n c d.line (ops.Close slot) x line op began-c began lt in
            let y = early h n c k x (ops.Close slot) answer d (answered-back H h rest is c x within a) in
            omega (arith, y, ge)
        by (inr past) = by2 (cases_lt x c)
          where
            by2 : (x < c) ⊎ (c ≤ x) → ⊥
            by2 (inr le) = same (omega (arith, past, le))
            by2 (inl lt) =
                let a = one-by-one (machine_of mt) setup H V g.reaches n x line op c d.line (ops.Close slot) began began-c lt in
                let later = d.later in
                under (
                let b = answered-back H h rest is x c (omega (arith, later, low)) a in
                record { lane = b.lane; op = b.op; y = b.y; answer = b.answer; ended = b.ended; before = (let e = b.before in omega (arith, e, later, low)) })

    held-now : (AnsweredBefore h x (length h) → ⊥) → IsHeld terms.modes h (length h) n slot f here.opens.mode
    held-now under = record {
      x = held-first.x;
      holds = record {
        y = held-first.holds.y;
        opens = held-first.holds.opens;
        before = (let b = held-first.holds.before in omega (arith, b, within));
        kept = λ c k answer d after low. elim (cases_lt k x) [
          | inl lt ↦ held-first.holds.kept c k answer d after lt
          | inr ge ↦ no-close c k answer d under ge low
        ];
      };
      mode_is = held-first.mode_is;
    }

    -- so it is in the table
    pub agreed : (v : View) → Reaches (machine_of mt) setup h v → (opens : Opens) → SlotsAgree terms.modes h n opens → (AnsweredBefore h x (length h) → ⊥) → file_at n slot opens ≡ Some f
    agreed v r opens agree under = by (finite.get opens (n, slot)) refl
      where
        held : IsHeld terms.modes h (length h) n slot f here.opens.mode
        held = held-now under

        by : (o : Option Opened) → finite.get opens (n, slot) ≡ o → file_at n slot opens ≡ Some f
        by None e = absurd (subst (Agrees terms.modes h n slot) e (agree slot) f here.opens.mode held)
        by (Some o) e =
            let shown : IsShown terms.modes h n slot o = subst (Agrees terms.modes h n slot) e (agree slot) in
            ap (λ (q : Option Opened). option_map (λ (k : Opened). k.file) q) e
            ∙ ap Some (slot-file mt terms setup h v (record { nocto = g.nocto; reaches = r }) (length h) n slot shown.held.x held.x o.file f shown.held.holds held.holds)

-- the lane with this number, if any
find-lane : (n : ℕ) (lanes : List Lane) → IsOther n (numbers_of lanes) ⊎ ((k : ℕ) × (lane : Lane) × (slice_get lanes k ≡ Some lane) × (lane.number ≡ n))
find-lane n [] = inl tt
find-lane n (l ∷ ls) = by (nat_eq l.number n) refl (find-lane n ls)
  where
    by : (b : Bool) → nat_eq l.number n ≡ b → IsOther n (numbers_of ls) ⊎ ((k : ℕ) × (lane : Lane) × (slice_get ls k ≡ Some lane) × (lane.number ≡ n))
        → IsOther n (numbers_of (l ∷ ls)) ⊎ ((k : ℕ) × (lane : Lane) × (slice_get (l ∷ ls) k ≡ Some lane) × (lane.number ≡ n))
    by true d rest = inr (0, l, refl, eqb-true l.number n d)
    by false d (inl none) = inl (eqb-false l.number n d, none)
    by false d (inr found) = inr (suc found.0, found.1, found.2, found.3)

module _ (mt : Mounted) (terms : Terms) (setup : Setup) (H : List Entry) (V : View) (g : GoesWith mt terms setup H V) (x y o : ℕ) (f : List ℕ) (offset count : ℕ) (bytes : List ℕ)
    (read : ReadsBytes terms.modes H x y o f offset count bytes) where
  abbrev op_ : Op
  op_ = ops.Read read.slot offset count

  abbrev of_ : IsOf terms.modes H x op_ f
  of_ = record { lane = read.lane; line = read.ended.line; slot = read.slot; open_at = o; began = read.ended.began; works_on = refl; holds = read.holds }

  module _ (h rest : List Entry) (is : h ++ rest ≡ H) (late : x ≤ length h) (soon : length h ≤ y) (u : View) (r : Reaches (machine_of mt) setup h u) (found : u.lost ≡ false) where
    unanswered : AnsweredBefore h x (length h) → ⊥
    unanswered a =
        let all : AnsweredBefore H x (length h) = record { lane = a.lane; op = a.op; y = a.y; answer = a.answer; ended = ended-on a.lane a.y a.op a.answer a.before a.ended; before = a.before } in
        let e = early H read.lane x y (length h) op_ _ read.ended all in
        omega (arith, e, soon)
      where
        ended-on : (lane z : ℕ) (op : Op) (answer : Answer) → z < length h → Ended h lane x op z answer → Ended H lane x op z answer
        ended-on lane z op answer low d = record {
          line = d.line;
          began = subst (λ (l : List Entry). At l x (Began lane d.line op)) is (At-grow h rest x (Began lane d.line op) d.began);
          answered = subst (λ (l : List Entry). At l z (Answered lane d.line answer)) is (At-grow h rest z (Answered lane d.line answer) d.answered);
          later = d.later;
          first = λ q b at after. elim (cases_lt q z) [
            | inr ge ↦ ge
            | inl lt ↦ d.first q b (At-back h rest q (Answered lane d.line b) (subst (λ (l : List Entry). At l q (Answered lane d.line b)) (sym is) at) (omega (arith, lt, low))) after
          ];
        }

    -- an operation that is under way in the read's lane is the read
    is-read : (z : ℕ) (other : Op) → UnderWay h read.lane z (length h) other → UnderWay h read.lane x (length h) op_
    is-read z other under = elim (cases_lt z x) [
      | inl lt ↦ (
          let a = one-by-one (machine_of mt) setup H V g.reaches read.lane z under.line other x read.ended.line op_ (on z (Began read.lane under.line other) under.began) read.ended.began lt in
          let b = answered-back H h rest is z x late a in
          absurd (under.unanswered (record { lane = b.lane; op = b.op; y = b.y; answer = b.answer; ended = b.ended; before = let low = b.before in omega (arith, low, late) })))
      | inr ge ↦ elim (cases_lt x z) [
        | inl lt ↦ (
            let a = one-by-one (machine_of mt) setup H V g.reaches read.lane x read.ended.line op_ z under.line other read.ended.began (on z (Began read.lane under.line other) under.began) lt in
            let within = under.before in
            let b = answered-back H h rest is x z (omega (arith, within)) a in
            absurd (unanswered (record { lane = b.lane; op = b.op; y = b.y; answer = b.answer; ended = b.ended; before = let low = b.before in omega (arith, low, within) })))
        | inr le ↦ (
            let same : z ≡ x = omega (arith, ge, le) in
            let is_op : other ≡ op_ = (began-parts read.lane under.line read.lane read.ended.line other op_
            (At-one H x (Began read.lane under.line other) (Began read.lane read.ended.line op_) (subst (λ (n : ℕ). At H n (Began read.lane under.line other)) same (on z (Began read.lane under.line other) under.began)) read.ended.began)).2 in
            subst (λ (n : ℕ). UnderWay h read.lane n (length h) op_) same (subst (λ (p : Op). UnderWay h read.lane z (length h) p) is_op under))
      ]
    ]
      where
        on : (n : ℕ) (e : Entry) → At h n e → At H n e
        on n e at = subst (λ (l : List Entry). At l n e) is (At-grow h rest n e at)

    agrees : SlotsAgree terms.modes h read.lane u.shelf.opens
    agrees = by (find-lane read.lane u.lanes)
      where
        story : (state : State) → StoryOf terms.modes h x read.lane plainly state u.shelf.opens → SlotsAgree terms.modes h read.lane u.shelf.opens
        story (Busy machine) t = t.1
        story (Over answer) t = t

        by : IsOther read.lane (numbers_of u.lanes) ⊎ ((k : ℕ) × (lane : Lane) × (slice_get u.lanes k ≡ Some lane) × (lane.number ≡ read.lane)) → SlotsAgree terms.modes h read.lane u.shelf.opens
        by (inl none) = (reached-slots terms.modes mt g.nocto setup h u r found).idle read.lane none
        by (inr l) =
            let b = (lanes-under-way h u (reached-lanes (machine_of mt) setup h u r)).busy l.0 l.1 l.2 in
            let under = is-read b.x b.op (subst (λ (n : ℕ). UnderWay h n b.x (length h) b.op) l.3 b.under_way) in
            let told = (reached-slots terms.modes mt g.nocto setup h u r found).lanes l.0 l.1 l.2 x op_ (subst (λ (n : ℕ). UnderWay h n x (length h) op_) (sym l.3) under) in
            story l.1.state (subst (λ (n : ℕ). StoryOf terms.modes h x n plainly l.1.state u.shelf.opens) l.3 told)

    pub table-open : IsOpen u.shelf.opens f
    table-open = by (finite.get u.shelf.opens (read.lane, read.slot)) refl
      where
        there : file_at read.lane read.slot u.shelf.opens ≡ Some f
        there = agreed mt terms setup H V g x f op_ read.slot refl refl of_ h rest is read.lane read.ended.line read.ended.began late u r u.shelf.opens agrees unanswered

        same-file : (a b : List ℕ) → Some a ≡ Some b → a ≡ b
        same-file a b e = cc

        by : (k : Option Opened) → finite.get u.shelf.opens (read.lane, read.slot) ≡ k → IsOpen u.shelf.opens f
        by None at = absurd (let no_way : None ≡ Some f = sym (ap (λ (q : Option Opened). option_map (λ (z : Opened). z.file) q) at) ∙ there in cc)
        by (Some k) at = record {
          place = (read.lane, read.slot);
          of = k;
          there = at;
          same = same-file k.file f (sym (ap (λ (q : Option Opened). option_map (λ (z : Opened). z.file) q) at) ∙ there);
        }
