-- An operation that finds no place in its slots, or no right, is refused so.
use Rattle.core_facts.proofs.Prelude.{◌≡◌, ◌<◌, ◌≤◌, ℕ, Bool, true, false, List, [], ◌∷◌, ◌++◌, length, Option, Some, None, refl, sym, ap, subst, ◌∙◌, arith, Mode, Opened, Answer, Entry, Began, Op, At, Ended, can_write, slot_of, Terms, At-back, At-last, At-one, length_last, Step, Shelf, Turn, Mounted, Machine, PathMachine, machine_of, Starts, State, Busy, Over, Setup, View, Reaches}
use Rattle.std.proofs.Common.{is_some}
use Rattle.claims.specs.Rights.{Changes, write, fill, truncate, NoPlace, taken, free, NoRight, read, change}
use Rattle.claims.specs.Slots.{InSlot}
use Rattle.std.specs.FinMap as finite
use Rattle.world_model.specs.declared.answer.Answer.TheVariants as answers
use Rattle.world_model.specs.declared.answer.Fault.TheVariants as faults
use Rattle.world_model.specs.declared.op.Op.TheVariants as ops
use Rattle.claims.specs.Caused.{IsTried}
use Rattle.client_shelf.specs.declared.step.Step.TheVariants as nexts
use Rattle.op_machines.specs.PathSteps as paths
use Rattle.core_facts.proofs.AllCounts.{begins-unbegun}
use Rattle.core_facts.proofs.HeldSlots.{may, Goes, goes_well, finds_none, finds_other, all-goes, Given, is-given, always-later}
use Rattle.core_facts.proofs.SlotGrowth.{IsHeld, held-grow, held-back, IsShown, Agrees}
use Rattle.core_facts.proofs.Steps.{ThenOf}
use Rattle.core_facts.proofs.Stories.{LawsOver, answered-over}

-- ---- what the history shows of a slot at a place

-- an open of a slot, in its mode
pub in-slot : (terms : Terms) (h : List Entry) (n lane slot open_at : ℕ) (f : List ℕ) (i : InSlot terms.modes h n lane slot open_at f) → IsHeld terms.modes h n lane slot f i.opens.mode
in-slot terms h n lane slot open_at f i = record { x = open_at; holds = i; mode_is = refl }

-- no place and no right, seen by opens and their modes
pub data NoneAt (terms : Terms) (h : List Entry) (lane x : ℕ) (op : Op) : Type 0 where
  is_taken : (slot : ℕ) (mode : Mode) (path : List (List ℕ)) (f : List ℕ) (k : Mode) → op ≡ ops.OpenFile slot mode path → IsHeld terms.modes h x lane slot f k → NoneAt terms h lane x op
  is_free : (slot : ℕ) → slot_of op ≡ Some slot → ((f : List ℕ) (k : Mode) → IsHeld terms.modes h x lane slot f k → ⊥) → NoneAt terms h lane x op

pub record OtherAt (terms : Terms) (h : List Entry) (lane x : ℕ) (op : Op) : Type 0 where
  pub slot : ℕ
  pub works_on : slot_of op ≡ Some slot
  pub f : List ℕ
  pub mode : Mode
  pub held : IsHeld terms.modes h x lane slot f mode
  pub right : may op mode ≡ false

none-at : (terms : Terms) (h : List Entry) (lane x : ℕ) (op : Op) → NoPlace terms h lane x op → NoneAt terms h lane x op
none-at terms h lane x op (taken slot open_at mode path f is i) = is_taken slot mode path f i.opens.mode is (in-slot terms h x lane slot open_at f i)
none-at terms h lane x op (free slot on none) = is_free slot on (λ f k i. none i.x f i.holds)

changes-at : (op : Op) (slot : ℕ) (mode : Mode) → Changes op slot → (slot_of op ≡ Some slot) × (may op mode ≡ can_write mode)
changes-at op slot mode (write offset bytes is) = (ap slot_of is, ap (λ (o : Op). may o mode) is)
changes-at op slot mode (fill offset count byte is) = (ap slot_of is, ap (λ (o : Op). may o mode) is)
changes-at op slot mode (truncate size is) = (ap slot_of is, ap (λ (o : Op). may o mode) is)

other-at : (terms : Terms) (h : List Entry) (lane x : ℕ) (op : Op) → NoRight terms h lane x op → OtherAt terms h lane x op
other-at terms h lane x op (read slot offset count open_at f i is right) = record {
  slot = slot;
  works_on = ap slot_of is;
  f = f;
  mode = i.opens.mode;
  held = in-slot terms h x lane slot open_at f i;
  right = ap (λ (o : Op). may o i.opens.mode) is ∙ right;
}
other-at terms h lane x op (change slot open_at f i changes right) =
    let c = changes-at op slot i.opens.mode changes in
    record { slot = slot; works_on = c.0; f = f; mode = i.opens.mode; held = in-slot terms h x lane slot open_at f i; right = c.1 ∙ right }

-- with one entry less
none-back : (terms : Terms) (h : List Entry) (e : Entry) (lane x : ℕ) (op : Op) → x ≤ length h → NoneAt terms (h ++ e ∷ []) lane x op → NoneAt terms h lane x op
none-back terms h e lane x op low (is_taken slot mode path f k is i) = is_taken slot mode path f k is (held-back terms.modes h e lane slot f k x low i)
none-back terms h e lane x op low (is_free slot on none) = is_free slot on (λ f k i. none f k (held-grow terms.modes h e lane slot f k x low i))

other-back : (terms : Terms) (h : List Entry) (e : Entry) (lane x : ℕ) (op : Op) → x ≤ length h → OtherAt terms (h ++ e ∷ []) lane x op → OtherAt terms h lane x op
other-back terms h e lane x op low o = record {
  slot = o.slot;
  works_on = o.works_on;
  f = o.f;
  mode = o.mode;
  held = held-back terms.modes h e lane o.slot o.f o.mode x low o.held;
  right = o.right;
}

-- ---- the story

-- It has found its place and its right.
pub record Placed (terms : Terms) (h : List Entry) (x : ℕ) (op : Op) : Type 0 where
  pub within : x < length h
  pub place : (lane line : ℕ) → At h x (Began lane line op) → NoneAt terms h lane x op → ⊥
  pub right : (lane line : ℕ) → At h x (Began lane line op) → OtherAt terms h lane x op → ⊥

-- or is refused
pub record Exact (terms : Terms) (h : List Entry) (x : ℕ) (op : Op) (answer : Answer) : Type 0 where
  pub within : x < length h
  pub place : (lane line : ℕ) → At h x (Began lane line op) → NoneAt terms h lane x op → answer ≡ answers.Refused faults.Slot
  pub right : (lane line : ℕ) → At h x (Began lane line op) → OtherAt terms h lane x op → answer ≡ answers.Refused faults.Mode

abbrev ExactState : Terms → List Entry → ℕ → Op → State → Type 0
ExactState terms h x op (Busy machine) = Placed terms h x op
ExactState terms h x op (Over answer) = IsTried answer → Exact terms h x op answer

placed-exact : (terms : Terms) (h : List Entry) (x : ℕ) (op : Op) (answer : Answer) → Placed terms h x op → Exact terms h x op answer
placed-exact terms h x op answer p = record {
  within = p.within;
  place = λ lane line began none. absurd (p.place lane line began none);
  right = λ lane line began other. absurd (p.right lane line began other);
}

then-placed : (terms : Terms) (h : List Entry) (x : ℕ) (op : Op) (next : Step) (new : Machine) → Placed terms h x op
    → ThenOf (λ m. ExactState terms h x op (Busy m)) (λ a. ExactState terms h x op (Over a)) next new
then-placed terms h x op (nexts.Send call) new p = p
then-placed terms h x op nexts.Wait new p = p
then-placed terms h x op (nexts.Done answer) new p = λ tried. placed-exact terms h x op answer p

then-exact : (terms : Terms) (h : List Entry) (x : ℕ) (op : Op) (answer : Answer) (next : Step) (new : Machine) → next ≡ nexts.Done answer → Exact terms h x op answer
    → ThenOf (λ m. ExactState terms h x op (Busy m)) (λ a. ExactState terms h x op (Over a)) next new
then-exact terms h x op answer next new is e = subst (λ (n : Step). ThenOf (λ (m : Machine). ExactState terms h x op (Busy m)) (λ a. ExactState terms h x op (Over a)) n new) (sym is) (λ tried. e)

-- ---- at its first step

one-opened : (a b : Opened) → Some a ≡ Some b → a ≡ b
one-opened a b e = cc

one-slot : (a b : ℕ) → Some a ≡ Some b → a ≡ b
one-slot a b e = cc

not-true : (b : Bool) → b ≡ true → b ≡ false → ⊥
not-true b p q = let no_way : true ≡ false = sym p ∙ q in cc

began-same : (a b c d : ℕ) (o p : Op) → Began a b o ≡ Began c d p → c ≡ a
began-same a b c d o p e = cc

module _ (terms : Terms) (h : List Entry) (lane line : ℕ) (op : Op) (old : Shelf) (given : Given terms.modes h lane old) where
  abbrev Later : List Entry
  Later = h ++ Began lane line op ∷ []

  -- what is held as the operation begins, is held before it
  before : (slot : ℕ) (f : List ℕ) (mode : Mode) → IsHeld terms.modes Later (length h) lane slot f mode → IsHeld terms.modes h (length h) lane slot f mode
  before slot f mode i = held-back terms.modes h (Began lane line op) lane slot f mode (length h) (omega arith) i

  some-held : (slot : ℕ) (o : Opened) → finite.get old.opens (lane, slot) ≡ Some o → IsShown terms.modes h lane slot o
  some-held slot o is = subst (Agrees terms.modes h lane slot) is (given slot)

  none-held : (slot : ℕ) → finite.get old.opens (lane, slot) ≡ None → (f : List ℕ) (mode : Mode) → IsHeld terms.modes Later (length h) lane slot f mode → ⊥
  none-held slot is f mode i = (subst (Agrees terms.modes h lane slot) is (given slot)) f mode (before slot f mode i)

  in-lane : (P : ℕ → Type 0) → P lane → (l n : ℕ) → At Later (length h) (Began l n op) → P l
  in-lane P p l n began = subst P (sym (began-same lane line l n op op (At-one Later (length h) (Began lane line op) (Began l n op) (At-last h (Began lane line op)) began))) p

  within : length h < length Later
  within = let more = length_last h (Began lane line op) in omega (arith, more)

  placed : (NoneAt terms Later lane (length h) op → ⊥) → (OtherAt terms Later lane (length h) op → ⊥) → Placed terms Later (length h) op
  placed none other = record {
    within = within;
    place = λ l n began k. in-lane (λ m. NoneAt terms Later m (length h) op → ⊥) none l n began k;
    right = λ l n began k. in-lane (λ m. OtherAt terms Later m (length h) op → ⊥) other l n began k;
  }

  exact : (answer : Answer) → (NoneAt terms Later lane (length h) op → answer ≡ answers.Refused faults.Slot) → (OtherAt terms Later lane (length h) op → answer ≡ answers.Refused faults.Mode)
      → Exact terms Later (length h) op answer
  exact answer none other = record {
    within = within;
    place = λ l n began k. in-lane (λ m. NoneAt terms Later m (length h) op → answer ≡ answers.Refused faults.Slot) none l n began k;
    right = λ l n began k. in-lane (λ m. OtherAt terms Later m (length h) op → answer ≡ answers.Refused faults.Mode) other l n began k;
  }

  abbrev After : Step → Machine → Type 0
  After next new = ThenOf (λ m. ExactState terms Later (length h) op (Busy m)) (λ a. ExactState terms Later (length h) op (Over a)) next new

  -- an operation on a slot
  not-open : (slot : ℕ) → slot_of op ≡ Some slot → (s : ℕ) (mode : Mode) (path : List (List ℕ)) → op ≡ ops.OpenFile s mode path → ⊥
  not-open slot on s mode path is = let no_way : None ≡ Some slot = sym (ap slot_of is) ∙ on in cc

  on-slot : (slot : ℕ) (next : Step) (new : Machine) → slot_of op ≡ Some slot → Goes op (finite.get old.opens (lane, slot)) next → After next new
  on-slot slot next new on (goes_well o there right) = then-placed terms Later (length h) op next new (placed none other)
    where
      none : NoneAt terms Later lane (length h) op → ⊥
      none (is_taken s mode path f k is i) = not-open slot on s mode path is
      none (is_free s at free_it) =
          let same : s ≡ slot = one-slot s slot (sym at ∙ on) in
          free_it o.file o.mode (subst (λ (n : ℕ). IsHeld terms.modes Later (length h) lane n o.file o.mode) (sym same)
          (held-grow terms.modes h (Began lane line op) lane slot o.file o.mode (length h) (omega arith) (some-held slot o there).held))

      other : OtherAt terms Later lane (length h) op → ⊥
      other k =
          let same : k.slot ≡ slot = one-slot k.slot slot (sym k.works_on ∙ on) in
          let mode : k.mode ≡ o.mode = (some-held slot o there).only k.f k.mode (before slot k.f k.mode (subst (λ (n : ℕ). IsHeld terms.modes Later (length h) lane n k.f k.mode) same k.held)) in
          not-true (may op o.mode) right (ap (may op) (sym mode) ∙ k.right)
  on-slot slot next new on (finds_none there is) = then-exact terms Later (length h) op (answers.Refused faults.Slot) next new is (exact (answers.Refused faults.Slot) (λ k. refl) other)
    where
      other : OtherAt terms Later lane (length h) op → answers.Refused faults.Slot ≡ answers.Refused faults.Mode
      other k =
          let same : k.slot ≡ slot = one-slot k.slot slot (sym k.works_on ∙ on) in
          absurd (none-held slot there k.f k.mode (subst (λ (n : ℕ). IsHeld terms.modes Later (length h) lane n k.f k.mode) same k.held))
  on-slot slot next new on (finds_other o there right is) = then-exact terms Later (length h) op (answers.Refused faults.Mode) next new is (exact (answers.Refused faults.Mode) none (λ k. refl))
    where
      none : NoneAt terms Later lane (length h) op → answers.Refused faults.Mode ≡ answers.Refused faults.Slot
      none (is_taken s mode path f k same i) = absurd (not-open slot on s mode path same)
      none (is_free s at free_it) =
          let same : s ≡ slot = one-slot s slot (sym at ∙ on) in
          absurd (free_it o.file o.mode (subst (λ (n : ℕ). IsHeld terms.modes Later (length h) lane n o.file o.mode) (sym same)
          (held-grow terms.modes h (Began lane line op) lane slot o.file o.mode (length h) (omega arith) (some-held slot o there).held)))

  -- an open
  no-slot : (slot : ℕ) → slot_of op ≡ None → slot_of op ≡ Some slot → ⊥
  no-slot slot none some = let no_way : None ≡ Some slot = sym none ∙ some in cc

  not-other : slot_of op ≡ None → OtherAt terms Later lane (length h) op → ⊥
  not-other none k = no-slot k.slot none k.works_on

  is-none : (o : Option Opened) → is_some o ≡ false → o ≡ None
  is-none None e = refl
  is-none (Some o) e = absurd cc

  pub opening : (slot : ℕ) (mode : Mode) (path : List (List ℕ)) (b : Bool) (wsize : ℕ) (m : PathMachine) (turn : Turn) (next : Step) (path_new : PathMachine) (new : Machine) (after : Shelf)
      → op ≡ ops.OpenFile slot mode path → is_some (finite.get old.opens (lane, slot)) ≡ b → paths.StartsIf b wsize m turn old next path_new after → After next new
  opening slot mode path true wsize m turn next path_new new after is there s =
      then-exact terms Later (length h) op (answers.Refused faults.Slot) next new s.0
      (exact (answers.Refused faults.Slot) (λ k. refl) (λ k. absurd (not-other (ap slot_of is) k)))
  opening slot mode path false wsize m turn next path_new new after is there s = then-placed terms Later (length h) op next new (placed none (not-other (ap slot_of is)))
    where
      one-place : (a b : ℕ) (k l : Mode) (p q : List (List ℕ)) → ops.OpenFile a k p ≡ ops.OpenFile b l q → b ≡ a
      one-place a b k l p q e = cc

      none : NoneAt terms Later lane (length h) op → ⊥
      none (is_taken s k p f j same i) =
          let at : s ≡ slot = one-place slot s mode k path p (sym is ∙ same) in
          none-held slot (is-none (finite.get old.opens (lane, slot)) there) f j (subst (λ (n : ℕ). IsHeld terms.modes Later (length h) lane n f j) at i)
      none (is_free s on free_it) = no-slot s (ap slot_of is) on

  -- any other
  elsewhere : (next : Step) (new : Machine) → slot_of op ≡ None → ((s : ℕ) (mode : Mode) (path : List (List ℕ)) → op ≡ ops.OpenFile s mode path → ⊥) → After next new
  elsewhere next new none open_not = then-placed terms Later (length h) op next new (placed no_place (not-other none))
    where
      no_place : NoneAt terms Later lane (length h) op → ⊥
      no_place (is_taken s mode path f k same i) = open_not s mode path same
      no_place (is_free s on free_it) = no-slot s none on

all-begin : (terms : Terms) (mounted : Mounted) (h : List Entry) (lane line : ℕ) (op : Op) (wsize : ℕ) (turn : Turn) (old : Shelf) (next : Step) (new : Machine) (after : Shelf)
    → Given terms.modes h lane old → Starts wsize (machine_of mounted lane op) turn old next new after
    → ThenOf (λ m. ExactState terms (h ++ Began lane line op ∷ []) (length h) op (Busy m)) (λ a. ExactState terms (h ++ Began lane line op ∷ []) (length h) op (Over a)) next new
all-begin terms mounted h lane line (ops.OpenFile slot mode path) wsize turn old next new after given s =
    opening terms h lane line (ops.OpenFile slot mode path) old given slot mode path (is_some (finite.get old.opens (lane, slot))) wsize _ turn next s.machine new after refl refl s.step
all-begin terms mounted h lane line (ops.Read k offset count) wsize turn old next new after given s =
    on-slot terms h lane line (ops.Read k offset count) old given k next new refl (all-goes mounted (ops.Read k offset count) k lane wsize turn old next new after refl s)
all-begin terms mounted h lane line (ops.Write k offset bytes) wsize turn old next new after given s =
    on-slot terms h lane line (ops.Write k offset bytes) old given k next new refl (all-goes mounted (ops.Write k offset bytes) k lane wsize turn old next new after refl s)
all-begin terms mounted h lane line (ops.Fill k offset count byte) wsize turn old next new after given s =
    on-slot terms h lane line (ops.Fill k offset count byte) old given k next new refl (all-goes mounted (ops.Fill k offset count byte) k lane wsize turn old next new after refl s)
all-begin terms mounted h lane line (ops.Sync k) wsize turn old next new after given s =
    on-slot terms h lane line (ops.Sync k) old given k next new refl (all-goes mounted (ops.Sync k) k lane wsize turn old next new after refl s)
all-begin terms mounted h lane line (ops.Close k) wsize turn old next new after given s =
    on-slot terms h lane line (ops.Close k) old given k next new refl (all-goes mounted (ops.Close k) k lane wsize turn old next new after refl s)
all-begin terms mounted h lane line (ops.Truncate k size) wsize turn old next new after given s =
    on-slot terms h lane line (ops.Truncate k size) old given k next new refl (all-goes mounted (ops.Truncate k size) k lane wsize turn old next new after refl s)
all-begin terms mounted h lane line (ops.Put path offset bytes) wsize turn old next new after given s = elsewhere terms h lane line (ops.Put path offset bytes) old given next new refl (λ k m p e. cc)
all-begin terms mounted h lane line (ops.Stat path) wsize turn old next new after given s = elsewhere terms h lane line (ops.Stat path) old given next new refl (λ k m p e. cc)
all-begin terms mounted h lane line (ops.Access path bits) wsize turn old next new after given s = elsewhere terms h lane line (ops.Access path bits) old given next new refl (λ k m p e. cc)
all-begin terms mounted h lane line (ops.MakeDir path) wsize turn old next new after given s = elsewhere terms h lane line (ops.MakeDir path) old given next new refl (λ k m p e. cc)
all-begin terms mounted h lane line (ops.RemoveDir path) wsize turn old next new after given s = elsewhere terms h lane line (ops.RemoveDir path) old given next new refl (λ k m p e. cc)
all-begin terms mounted h lane line (ops.Remove path) wsize turn old next new after given s = elsewhere terms h lane line (ops.Remove path) old given next new refl (λ k m p e. cc)
all-begin terms mounted h lane line (ops.Rename from to) wsize turn old next new after given s = elsewhere terms h lane line (ops.Rename from to) old given next new refl (λ k m p e. cc)
all-begin terms mounted h lane line (ops.Link from to) wsize turn old next new after given s = elsewhere terms h lane line (ops.Link from to) old given next new refl (λ k m p e. cc)
all-begin terms mounted h lane line (ops.SymLink path target) wsize turn old next new after given s = elsewhere terms h lane line (ops.SymLink path target) old given next new refl (λ k m p e. cc)
all-begin terms mounted h lane line (ops.ReadLink path) wsize turn old next new after given s = elsewhere terms h lane line (ops.ReadLink path) old given next new refl (λ k m p e. cc)
all-begin terms mounted h lane line (ops.List path) wsize turn old next new after given s = elsewhere terms h lane line (ops.List path) old given next new refl (λ k m p e. cc)

-- ---- one entry more

placed-later : (terms : Terms) (h : List Entry) (e : Entry) (x : ℕ) (op : Op) → Placed terms h x op → Placed terms (h ++ e ∷ []) x op
placed-later terms h e x op p =
    let low = p.within in
    record {
      within = let more = length_last h e in omega (arith, low, more);
      place = λ lane line began k. p.place lane line (At-back h (e ∷ []) x (Began lane line op) began low) (none-back terms h e lane x op (omega (arith, low)) k);
      right = λ lane line began k. p.right lane line (At-back h (e ∷ []) x (Began lane line op) began low) (other-back terms h e lane x op (omega (arith, low)) k);
    }

exact-later : (terms : Terms) (h : List Entry) (e : Entry) (x : ℕ) (op : Op) (answer : Answer) → Exact terms h x op answer → Exact terms (h ++ e ∷ []) x op answer
exact-later terms h e x op answer p =
    let low = p.within in
    record {
      within = let more = length_last h e in omega (arith, low, more);
      place = λ lane line began k. p.place lane line (At-back h (e ∷ []) x (Began lane line op) began low) (none-back terms h e lane x op (omega (arith, low)) k);
      right = λ lane line began k. p.right lane line (At-back h (e ∷ []) x (Began lane line op) began low) (other-back terms h e lane x op (omega (arith, low)) k);
    }

state-later : (terms : Terms) (h : List Entry) (e : Entry) (x : ℕ) (op : Op) (state : State) → ExactState terms h x op state → ExactState terms (h ++ e ∷ []) x op state
state-later terms h e x op (Busy machine) s = placed-later terms h e x op s
state-later terms h e x op (Over answer) s = λ tried. exact-later terms h e x op answer (s tried)

exact-laws : (terms : Terms) (mounted : Mounted) → LawsOver (Given terms.modes) (machine_of mounted) (ExactState terms)
exact-laws terms mounted = record {
  starts = λ h lane line op wsize turn old next new after given s. all-begin terms mounted h lane line op wsize turn old next new after given s;
  resumes = λ h x op machine wsize turn old next new after story r. then-placed terms h x op next new story;
  takes = λ h x op machine wsize sent turn came old next new after others story one told t. then-placed terms h x op next new story;
  grows = λ h e x op state story. state-later terms h e x op state story;
  lost = λ h x op shown tried. absurd (tried.lost refl);
}

exact-ended : (terms : Terms) (mounted : Mounted) → mounted.nocto ≡ terms.modes.nocto → (setup : Setup) (h : List Entry) (v : View) → Reaches (machine_of mounted) setup h v
    → (lane x y : ℕ) (op : Op) (answer : Answer) → Ended h lane x op y answer → IsTried answer → Exact terms h x op answer
exact-ended terms mounted same setup h v r lane x y op answer ended tried =
    let s = answered-over (machine_of mounted) (begins-unbegun mounted) setup (Given terms.modes) (is-given terms.modes mounted same setup) (ExactState terms) (exact-laws terms mounted) h v r lane x op y answer ended in
    subst (λ (g : List Entry). Exact terms g x op answer) (sym s.is)
    (always-later (λ g. Exact terms g x op answer) (λ g e k. exact-later terms g e x op answer k) s.before s.after (s.story tried))

pub refused-slot : (terms : Terms) (mounted : Mounted) → mounted.nocto ≡ terms.modes.nocto → (setup : Setup) (h : List Entry) (v : View) → Reaches (machine_of mounted) setup h v
    → (lane x y : ℕ) (op : Op) (answer : Answer) → Ended h lane x op y answer → IsTried answer → NoPlace terms h lane x op → answer ≡ answers.Refused faults.Slot
refused-slot terms mounted same setup h v r lane x y op answer ended tried none =
    (exact-ended terms mounted same setup h v r lane x y op answer ended tried).place lane ended.line ended.began (none-at terms h lane x op none)

pub refused-mode : (terms : Terms) (mounted : Mounted) → mounted.nocto ≡ terms.modes.nocto → (setup : Setup) (h : List Entry) (v : View) → Reaches (machine_of mounted) setup h v
    → (lane x y : ℕ) (op : Op) (answer : Answer) → Ended h lane x op y answer → IsTried answer → NoRight terms h lane x op → answer ≡ answers.Refused faults.Mode
refused-mode terms mounted same setup h v r lane x y op answer ended tried other =
    (exact-ended terms mounted same setup h v r lane x y op answer ended tried).right lane ended.line ended.began (other-at terms h lane x op other)
