-- What is known of each operation under way as to slots: an open opens its slot, a close knows the file that its slot held, and others touch none.
use Rattle.core_session.proofs.Prelude.{◌≡◌, ◌≢◌, ◌⊎◌, inl, inr, ℕ, List, Bool, true, false, nat_eq, Some, None, Result, Err, refl, sym, ap, subst, ◌∙◌, eqb-true, eqb-false, Place, Opens, Answer, Fault, Entry, Call, Reply, Op, Modes, IsOf, Step, Send, Wait, Done, Shelf, Turn, CloseFile, Closing, file_at, joined, Mounted, Machine, machine_of, Starts, Resumes, Takes, State, Busy, Over, IsPlain, Kind, plainly, kind_of, BeginsAs, ThenOf, CloseTurn, IsFirst, IsRefused}
use Rattle.core_facts.proofs.OpenSlots.{plain-starts, plain-resumes, plain-takes, IsOpener, opener-starts, opener-resumes, opener-takes, OpenTook, table_stays, puts_open, FindsBy, by_attrs, by_lookup, by_create}
use Rattle.core_facts.proofs.Slots.{opening, closing}
use Rattle.std.specs.FinMap as finite
use Rattle.open_files.proofs.Laws.{get-put_other}
use Rattle.world_model.specs.declared.op.Op.TheVariants as ops
use Rattle.op_machines.specs.declared.file_machine.FileMachine.TheVariants as files
use Rattle.op_machines.specs.declared.machine.Machine.TheVariants as machines
use Rattle.core_session.proofs.drops.Closers.{ClosingAt, ClosedAt, CloserThen, CloserSteps, closer-starts, closer-resumes, closer-takes}
use Rattle.core_session.proofs.drops.Leading.{Leading, settles, unmade, Settles}

-- ---- how operations begin

pub begins-as : (modes : Modes) (m : Mounted) → m.nocto ≡ modes.nocto → (n : ℕ) (op : Op) → BeginsAs modes.nocto n (kind_of op) (machine_of m n op)
begins-as modes m same n (ops.OpenFile slot mode path) = record { m = _; o = _; is = refl; opener = refl; at = record { lane_is = refl; slot_is = refl; mode_is = refl; nocto_is = same } }
begins-as modes m same n (ops.Close slot) = record { c = _; is = refl; lane_is = refl; slot_is = refl }
begins-as modes m same n (ops.Read slot offset count) = tt
begins-as modes m same n (ops.Write slot offset bytes) = tt
begins-as modes m same n (ops.Fill slot offset count byte) = tt
begins-as modes m same n (ops.Put path offset bytes) = tt
begins-as modes m same n (ops.Sync slot) = tt
begins-as modes m same n (ops.Truncate slot size) = tt
begins-as modes m same n (ops.Stat path) = tt
begins-as modes m same n (ops.Access path bits) = tt
begins-as modes m same n (ops.MakeDir path) = tt
begins-as modes m same n (ops.RemoveDir path) = tt
begins-as modes m same n (ops.Remove path) = tt
begins-as modes m same n (ops.Rename from to) = tt
begins-as modes m same n (ops.Link from to) = tt
begins-as modes m same n (ops.SymLink path target) = tt
begins-as modes m same n (ops.ReadLink path) = tt
begins-as modes m same n (ops.List path) = tt

-- ---- what is known of one

-- It is a close of this slot, which held this file as it began, and saves all numbers up to this one.
pub record IsCloserOf (n slot : ℕ) (file : List ℕ) (upto : ℕ) (machine : Machine) (opens : Opens) : Type 0 where
  pub c : CloseFile
  pub is : machine ≡ machines.File (files.Close c)
  pub lane_is : c.lane ≡ n
  pub slot_is : c.slot ≡ slot
  pub at : ClosingAt n slot file upto opens c.state

pub record ClosesSlot (m : Modes) (h : List Entry) (x n slot : ℕ) (machine : Machine) (opens : Opens) : Type 0 where
  pub file : List ℕ
  pub upto : ℕ
  pub closer : IsCloserOf n slot file upto machine opens
  pub of : IsOf m h x (ops.Close slot) file

abbrev pub KindTold : Modes → List Entry → ℕ → ℕ → Kind → Machine → Opens → Type 0
KindTold m h x n (opening slot mode) machine opens = IsOpener m.nocto n slot mode machine
KindTold m h x n (closing slot) machine opens = ClosesSlot m h x n slot machine opens
KindTold m h x n plainly machine opens = IsPlain machine

abbrev pub StateTold : Modes → List Entry → ℕ → ℕ → Kind → State → Opens → Type 0
StateTold m h x n kind (Busy machine) opens = KindTold m h x n kind machine opens
StateTold m h x n kind (Over answer) opens = Unit {0}

-- ---- one step of its machine

-- the table after a step: of other lanes as it was
abbrev pub OthersSame : ℕ → Opens → Opens → Type 0
OthersSame n old new = (q : Place) → q.0 ≢ n → finite.get new q ≡ finite.get old q

-- and nowhere more
abbrev pub OnlyLess : Opens → Opens → Type 0
OnlyLess old new = (q : Place) → (finite.get new q ≡ finite.get old q) ⊎ (finite.get new q ≡ None)

pub record Quiet (n : ℕ) (old new : Opens) : Type 0 where
  pub others : OthersSame n old new
  pub less : OnlyLess old new

pub quiet-same : (n : ℕ) (old new : Opens) → new ≡ old → Quiet n old new
quiet-same n old new is = record { others = λ q apart. ap (λ (o : Opens). finite.get o q) is; less = λ q. inl (ap (λ (o : Opens). finite.get o q) is) }

pub quiet-then : (n : ℕ) (a b c : Opens) → Quiet n a b → Quiet n b c → Quiet n a c
quiet-then n a b c one two = record {
  others = λ q apart. two.others q apart ∙ one.others q apart;
  less = λ q. by q (two.less q) (one.less q);
}
  where
    by : (q : Place) → (finite.get c q ≡ finite.get b q) ⊎ (finite.get c q ≡ None) → (finite.get b q ≡ finite.get a q) ⊎ (finite.get b q ≡ None)
        → (finite.get c q ≡ finite.get a q) ⊎ (finite.get c q ≡ None)
    by q (inr none) k = inr none
    by q (inl same) (inl was) = inl (same ∙ was)
    by q (inl same) (inr none) = inr (same ∙ none)

-- of a close as it goes on, or once it has its answer
abbrev pub MachineThen : ℕ → ℕ → List ℕ → ℕ → Type 0 → Opens → Step → Machine → Type 0
MachineThen n slot file upto T opens (Send call) new = IsCloserOf n slot file upto new opens × T
MachineThen n slot file upto T opens Wait new = IsCloserOf n slot file upto new opens
MachineThen n slot file upto T opens (Done answer) new = ClosedAt n slot T opens answer

pub record CloserStepped (n slot : ℕ) (file : List ℕ) (upto : ℕ) (T : Type 0) (old : Opens) (next : Step) (new : Machine) (after : Opens) : Type 0 where
  pub then_ : MachineThen n slot file upto T after next new
  pub quiet : Quiet n old after
  pub rest : (q : Place) → q ≢ (n, slot) → finite.get after q ≡ finite.get old q

module _ (n slot : ℕ) (file : List ℕ) (upto : ℕ) (T : Type 0) where
  apart-lane : (q : Place) → q.0 ≢ n → q ≢ (n, slot)
  apart-lane q other e = other (ap (λ (p : Place). p.0) e)

  less-of : (next : Step) (state : Closing) (old new : Opens) → CloserSteps n slot file upto T old next state new → OnlyLess old new
  less-of next state old new s q = by (nat_eq q.0 n) refl (nat_eq q.1 slot) refl
    where
      by : (a : Bool) → nat_eq q.0 n ≡ a → (b : Bool) → nat_eq q.1 slot ≡ b → (finite.get new q ≡ finite.get old q) ⊎ (finite.get new q ≡ None)
      by false d b e = inl (s.others q (apart-lane q (eqb-false q.0 n d)))
      by true d false e = inl (s.others q (λ is. eqb-false q.1 slot e (ap (λ (p : Place). p.1) is)))
      by true d true e =
          let is : ◌≡◌ {A = Place} q (n, slot) = ap {B = Place} (λ (k : ℕ). (k, q.1)) (eqb-true q.0 n d) ∙ ap {B = Place} (λ (k : ℕ). (n, k)) (eqb-true q.1 slot e) in
          subst (λ (p : Place). (finite.get new p ≡ finite.get old p) ⊎ (finite.get new p ≡ None)) (sym is) s.own

  to-machine : (c : CloseFile) (state : Closing) (old : Opens) (next : Step) (new : Machine) (after : Opens) → new ≡ machines.File (files.Close (record c { state = state }))
      → c.lane ≡ n → c.slot ≡ slot → CloserSteps n slot file upto T old next state after → CloserStepped n slot file upto T old next new after
  to-machine c state old next new after is of_lane of_slot s = record {
    then_ = by next s.then_;
    quiet = record { others = λ q other. s.others q (apart-lane q other); less = less-of next state old after s };
    rest = s.others;
  }
    where
      by : (k : Step) → CloserThen n slot file upto T after k state → MachineThen n slot file upto T after k new
      by (Send call) t = (record { c = record c { state = state }; is = is; lane_is = of_lane; slot_is = of_slot; at = t.0 }, t.1)
      by Wait t = record { c = record c { state = state }; is = is; lane_is = of_lane; slot_is = of_slot; at = t }
      by (Done answer) t = t

  pub close-begins : (machine : Machine) (c : CloseFile) (wsize : ℕ) (turn : Turn) (old : Shelf) (next : Step) (new : Machine) (after : Shelf) → machine ≡ machines.File (files.Close c)
      → c.lane ≡ n → c.slot ≡ slot → (IsFirst n (joined n file old).order → T) → upto ≡ old.seq → file_at n slot old.opens ≡ Some file → Starts wsize machine turn old next new after
      → CloserStepped n slot file upto T old.opens next new after.opens
  close-begins machine c wsize turn old next new after is of_lane of_slot t top there s = by (subst (λ (m : Machine). Starts wsize m turn old next new after) is s)
    where
      by : Starts wsize (machines.File (files.Close c)) turn old next new after → CloserStepped n slot file upto T old.opens next new after.opens
      by k = to-machine c k.step.state old.opens next new after.opens (k.machine_is ∙ ap machines.File k.step.machine_is) of_lane of_slot
          (closer-starts n slot file upto T wsize c turn old next k.step.state after of_lane of_slot t (record { file_is = refl; upto_is = sym top }) there k.step.step)

  pub close-goes : (machine : Machine) (wsize : ℕ) (turn : Turn) (old : Shelf) (next : Step) (new : Machine) (after : Shelf) → (IsFirst n old.order → T)
      → (turned : (c : CloseFile) → machine ≡ machines.File (files.Close c) → c.lane ≡ n → CloseTurn T c.state) → IsCloserOf n slot file upto machine old.opens
      → Resumes wsize machine turn old next new after → CloserStepped n slot file upto T old.opens next new after.opens
  close-goes machine wsize turn old next new after t turned k s = by (subst (λ (m : Machine). Resumes wsize m turn old next new after) k.is s)
    where
      by : Resumes wsize (machines.File (files.Close k.c)) turn old next new after → CloserStepped n slot file upto T old.opens next new after.opens
      by r = to-machine k.c r.step.state old.opens next new after.opens (r.machine_is ∙ ap machines.File r.step.machine_is) k.lane_is k.slot_is
          (closer-resumes n slot file upto T wsize k.c turn old next r.step.state after k.lane_is k.slot_is t (turned k.c k.is k.lane_is) k.at r.step.step)

  pub close-hears : (machine : Machine) (wsize : ℕ) (sent turn : Turn) (came : Result Reply Fault) (old : Shelf) (next : Step) (new : Machine) (after : Shelf) → T
      → IsCloserOf n slot file upto machine old.opens → Takes wsize machine sent turn came old next new after → CloserStepped n slot file upto T old.opens next new after.opens
  close-hears machine wsize sent turn came old next new after t k s = by (subst (λ (m : Machine). Takes wsize m sent turn came old next new after) k.is s)
    where
      by : Takes wsize (machines.File (files.Close k.c)) sent turn came old next new after → CloserStepped n slot file upto T old.opens next new after.opens
      by r = to-machine k.c r.step.state old.opens next new after.opens (r.machine_is ∙ ap machines.File r.step.machine_is) k.lane_is k.slot_is
          (closer-takes n slot file upto T wsize k.c sent turn came old next r.step.state after k.lane_is k.slot_is t k.at r.step.step)

-- ---- a step of the lane of a close

abbrev pub CloserState : ℕ → ℕ → List ℕ → ℕ → Type 0 → Opens → State → Type 0
CloserState n slot file upto T opens (Busy machine) = IsCloserOf n slot file upto machine opens
CloserState n slot file upto T opens (Over answer) = ClosedAt n slot T opens answer

pub record CloserLed (n slot : ℕ) (file : List ℕ) (upto : ℕ) (T : Type 0) (old : Opens) (state : State) (after : Opens) : Type 0 where
  pub then_ : CloserState n slot file upto T after state
  pub quiet : Quiet n old after
  pub rest : (q : Place) → q ≢ (n, slot) → finite.get after q ≡ finite.get old q

module _ (n slot : ℕ) (file : List ℕ) (upto : ℕ) (T : Type 0) (wsize : ℕ) (old : Opens) where
  settled : (next : Step) (new : Machine) (state : State) (after : Opens) → Settles next new state → MachineThen n slot file upto T after next new
      → CloserState n slot file upto T after state
  settled (Send call) new state after is t = subst (CloserState n slot file upto T after) (sym is) t.0
  settled Wait new state after is t = subst (CloserState n slot file upto T after) (sym is) t
  settled (Done answer) new state after is t = subst (CloserState n slot file upto T after) (sym is) t

  refused : (next : Step) (new : Machine) (state : State) (after : Opens) → IsRefused new next state → MachineThen n slot file upto T after next new
      → CloserState n slot file upto T after state
  refused (Send call) new state after is t = absurd is
  refused Wait new state after is t = subst (CloserState n slot file upto T after) (sym is) t
  refused (Done answer) new state after is t = subst (CloserState n slot file upto T after) (sym is) t

  pub closer-led : (S : Step → Machine → Shelf → Type 0) → ((next : Step) (new : Machine) (after : Shelf) → S next new after → CloserStepped n slot file upto T old next new after.opens)
      → (state : State) (after : Shelf) → Leading wsize S state after → CloserLed n slot file upto T old state after.opens
  closer-led S step state after (settles next new s is) =
      let k = step next new after s in
      record { then_ = settled next new state after.opens is k.then_; quiet = k.quiet; rest = k.rest }
  closer-led S step state after (unmade call mid between sent turn fault next new s takes is) =
      let one = step (Send call) mid between s in
      let two = close-hears n slot file upto T mid wsize sent turn (Err fault) between next new after one.then_.1 one.then_.0 takes in
      record { then_ = refused next new state after.opens is two.then_; quiet = quiet-then n old between.opens after.opens one.quiet two.quiet; rest = λ q apart. two.rest q apart ∙ one.rest q apart }

-- ---- a step of the lane of an operation of any kind, that no record made possible

-- of an operation that is no close: a step of it leaves it so, and the table as it is
abbrev pub OtherTold : Modes → ℕ → Kind → Machine → Type 0
OtherTold m n (opening slot mode) machine = IsOpener m.nocto n slot mode machine
OtherTold m n (closing slot) machine = ⊥
OtherTold m n plainly machine = IsPlain machine

abbrev pub OtherThen : Modes → ℕ → Kind → Step → Machine → Type 0
OtherThen m n kind (Send call) new = OtherTold m n kind new
OtherThen m n kind Wait new = OtherTold m n kind new
OtherThen m n kind (Done answer) new = Unit {0}

abbrev pub OtherState : Modes → ℕ → Kind → State → Type 0
OtherState m n kind (Busy machine) = OtherTold m n kind machine
OtherState m n kind (Over answer) = Unit {0}

module _ (m : Modes) (n : ℕ) where
  opened-then : (slot : ℕ) (mode : _) (A : Answer → Type 0) (next : Step) (new : Machine) → ThenOf (IsOpener m.nocto n slot mode) A next new → OtherThen m n (opening slot mode) next new
  opened-then slot mode A (Send call) new t = t
  opened-then slot mode A Wait new t = t
  opened-then slot mode A (Done answer) new t = tt

  plain-then : (next : Step) (new : Machine) → IsPlain new → OtherThen m n plainly next new
  plain-then (Send call) new p = p
  plain-then Wait new p = p
  plain-then (Done answer) new p = tt

  pub other-begins : (kind : Kind) (machine : Machine) (wsize : ℕ) (turn : Turn) (old : Shelf) (next : Step) (new : Machine) (after : Shelf) → OtherTold m n kind machine
      → Starts wsize machine turn old next new after → OtherThen m n kind next new × (after.opens ≡ old.opens)
  other-begins (opening slot mode) machine wsize turn old next new after k s =
      let o = opener-starts m.nocto n slot mode machine wsize turn old next new after k s in (opened-then slot mode _ next new o.0, o.1)
  other-begins (closing slot) machine wsize turn old next new after k s = absurd k
  other-begins plainly machine wsize turn old next new after k s =
      let p = plain-starts machine wsize turn old next new after k s in (plain-then next new p.0, p.1)

  pub other-goes : (kind : Kind) (machine : Machine) (wsize : ℕ) (turn : Turn) (old : Shelf) (next : Step) (new : Machine) (after : Shelf) → OtherTold m n kind machine
      → Resumes wsize machine turn old next new after → OtherThen m n kind next new × (after.opens ≡ old.opens)
  other-goes (opening slot mode) machine wsize turn old next new after k s =
      let o = opener-resumes m.nocto n slot mode machine wsize turn old next new after k s in (opened-then slot mode _ next new o.0, o.1)
  other-goes (closing slot) machine wsize turn old next new after k s = absurd k
  other-goes plainly machine wsize turn old next new after k s =
      let p = plain-resumes machine wsize turn old next new after k s in (plain-then next new p.0, p.1)

  -- what came of its call: an open may be put into its slot
  pub other-hears : (kind : Kind) (machine : Machine) (wsize : ℕ) (sent turn : Turn) (came : Result Reply Fault) (old : Shelf) (next : Step) (new : Machine) (after : Shelf)
      → OtherTold m n kind machine → Takes wsize machine sent turn came old next new after → OtherThen m n kind next new × OthersSame n old.opens after.opens
  other-hears (opening slot mode) machine wsize sent turn came old next new after k s = by (opener-takes m.nocto n slot mode machine wsize sent turn came old next new after k s)
    where
      by : OpenTook m.nocto n slot mode machine came old.opens next new after.opens → OtherThen m n (opening slot mode) next new × OthersSame n old.opens after.opens
      by (table_stays same t) = (opened-then slot mode _ next new t, λ q apart. ap (λ (o : Opens). finite.get o q) same)
      by (puts_open of call free now mode_is is expects finds) = (
        subst (λ (k : Step). OtherThen m n (opening slot mode) k new) (sym is) tt,
        λ q apart. ap (λ (o : Opens). finite.get o q) now ∙ get-put_other old.opens (n, slot) q of (λ e. apart (ap (λ (p : Place). p.0) e)),
      )
  other-hears (closing slot) machine wsize sent turn came old next new after k s = absurd k
  other-hears plainly machine wsize sent turn came old next new after k s =
      let p = plain-takes machine wsize sent turn came old next new after k s in
      (plain-then next new p.0, λ q apart. ap (λ (o : Opens). finite.get o q) p.1)

  no-file : (nocto : Bool) (call : Call) (fault : Fault) (f : List ℕ) → FindsBy nocto call (Err fault) f → ⊥
  no-file nocto call fault f (by_attrs attr is came) = absurd cc
  no-file nocto call fault f (by_lookup d name attr dir mode is came) = absurd cc
  no-file nocto call fault f (by_create d name making attr wcc mode is came) = absurd cc

  pub other-fails : (kind : Kind) (machine : Machine) (wsize : ℕ) (sent turn : Turn) (fault : Fault) (old : Shelf) (next : Step) (new : Machine) (after : Shelf)
      → OtherTold m n kind machine → Takes wsize machine sent turn (Err fault) old next new after → OtherThen m n kind next new × (after.opens ≡ old.opens)
  other-fails (opening slot mode) machine wsize sent turn fault old next new after k s = by (opener-takes m.nocto n slot mode machine wsize sent turn (Err fault) old next new after k s)
    where
      by : OpenTook m.nocto n slot mode machine (Err fault) old.opens next new after.opens → OtherThen m n (opening slot mode) next new × (after.opens ≡ old.opens)
      by (table_stays same t) = (opened-then slot mode _ next new t, same)
      by (puts_open of call free now mode_is is expects finds) = absurd (no-file m.nocto call fault of.file finds)
  other-fails (closing slot) machine wsize sent turn fault old next new after k s = absurd k
  other-fails plainly machine wsize sent turn fault old next new after k s =
      let p = plain-takes machine wsize sent turn (Err fault) old next new after k s in (plain-then next new p.0, p.1)

  other-settled : (kind : Kind) (next : Step) (new : Machine) (state : State) → Settles next new state → OtherThen m n kind next new → OtherState m n kind state
  other-settled kind (Send call) new state is t = subst (OtherState m n kind) (sym is) t
  other-settled kind Wait new state is t = subst (OtherState m n kind) (sym is) t
  other-settled kind (Done answer) new state is t = subst (OtherState m n kind) (sym is) tt

  other-refused : (kind : Kind) (next : Step) (new : Machine) (state : State) → IsRefused new next state → OtherThen m n kind next new → OtherState m n kind state
  other-refused kind (Send call) new state is t = absurd is
  other-refused kind Wait new state is t = subst (OtherState m n kind) (sym is) t
  other-refused kind (Done answer) new state is t = subst (OtherState m n kind) (sym is) tt

  -- R holds of the table after its steps: that it is the same, or the same of other lanes
  pub other-led : (kind : Kind) (wsize : ℕ) (old : Opens) (R : Opens → Type 0) (S : Step → Machine → Shelf → Type 0)
      → ((next : Step) (new : Machine) (after : Shelf) → S next new after → OtherThen m n kind next new × R after.opens)
      → (state : State) (after : Shelf) → Leading wsize S state after → OtherState m n kind state × R after.opens
  other-led kind wsize old R S step state after (settles next new s is) =
      let k = step next new after s in (other-settled kind next new state is k.0, k.1)
  other-led kind wsize old R S step state after (unmade call mid between sent turn fault next new s takes is) =
      let one = step (Send call) mid between s in
      let two = other-fails kind mid wsize sent turn fault between next new after one.0 takes in
      (other-refused kind next new state is two.0, subst R (sym two.1) one.1)
