-- Where all operations are of one lane, the READ for which a read waits meets no page that is kept.
use Rattle.core_counts.proofs.Prelude.{◌≡◌, ◌⊎◌, inl, inr, ℕ, Bool, true, false, nat_eq, List, [], ◌∷◌, ◌++◌, length, Some, None, slice_get, slice_set, Result, Err, refl, sym, ap, subst, ◌∙◌, eqb-true, eqb-false, Pages, Answer, Fault, Entry, Began, Reply, Op, OneLane, At-grow, At-last, Step, Shelf, Turn, ReadFile, Mounted, FileMachine, Machine, machine_of, Starts, Resumes, Takes, Lane, State, Busy, Over, Setup, IsIdle, numbers_of, counted, IsRefused, View, turn_at, Reaches, begins-unbegun, taken_one, Known, lanes-under-way, idle-numbers, number_of, at-set, get-push, get-remove, skip, to-map, set-other}
use Rattle.world_model.specs.declared.op.Op.TheVariants as ops
use Rattle.client_shelf.specs.declared.step.Step.TheVariants as nexts
use Rattle.op_machines.specs.declared.file_machine.FileMachine.TheVariants as files
use Rattle.op_machines.specs.declared.machine.Machine.TheVariants as machines
use Rattle.op_machines.specs.FileSteps as steps
use Rattle.core_answers.proofs.writes.Along.{KeepsAlong, reached-along}
use Rattle.core_session.proofs.drops.Leading.{Leading, settles, unmade, Led, Pushed, stirs-led, takes-led, starts-led}
use Rattle.core_counts.proofs.thrift.UnkeptSteps.{UnkeptIn, resumes-in, takes-in, starts-in}

-- ---- machines

abbrev pub FileUnkept : FileMachine → Pages → Type 0
FileUnkept (files.Open m) c = Unit {0}
FileUnkept (files.Read m) c = UnkeptIn m.reading c
FileUnkept (files.Write m) c = Unit {0}
FileUnkept (files.Sync m) c = Unit {0}
FileUnkept (files.Close m) c = Unit {0}
FileUnkept (files.Truncate m) c = Unit {0}
FileUnkept (files.Put m) c = Unit {0}

abbrev pub MachineUnkept : Machine → Pages → Type 0
MachineUnkept (machines.File m) c = FileUnkept m c
MachineUnkept (machines.Path m) c = Unit {0}
MachineUnkept (machines.Name m) c = Unit {0}

file-as : (to new : FileMachine) (c : Pages) → new ≡ to → FileUnkept to c → FileUnkept new c
file-as to new c is k = subst (λ (m : FileMachine). FileUnkept m c) (sym is) k

machine-as : (to new : Machine) (c : Pages) → new ≡ to → MachineUnkept to c → MachineUnkept new c
machine-as to new c is k = subst (λ (m : Machine). MachineUnkept m c) (sym is) k

-- no read has begun yet
abbrev NoneYet : Machine → Type 0
NoneYet m = (k : ReadFile) → m ≡ machines.File (files.Read k) → k.reading ≡ None

file-starts : (m : FileMachine) (wsize : ℕ) (turn : Turn) (old : Shelf) (next : Step) (new : FileMachine) (after : Shelf) → NoneYet (machines.File m) → steps.Starts wsize m turn old next new after
    → FileUnkept new after.pages
file-starts (files.Open m) wsize turn old next new after none s = file-as (files.Open _) new after.pages s.machine_is tt
file-starts (files.Read m) wsize turn old next new after none s =
    file-as (files.Read s.machine) new after.pages s.machine_is (starts-in _ turn m old.pages old.back next s.machine after.pages (none m refl) s.step)
file-starts (files.Write m) wsize turn old next new after none s = file-as (files.Write s.machine) new after.pages s.machine_is tt
file-starts (files.Sync m) wsize turn old next new after none s = file-as (files.Sync _) new after.pages s.machine_is tt
file-starts (files.Close m) wsize turn old next new after none s = file-as (files.Close _) new after.pages s.machine_is tt
file-starts (files.Truncate m) wsize turn old next new after none s = file-as (files.Truncate _) new after.pages s.machine_is tt
file-starts (files.Put m) wsize turn old next new after none s = file-as (files.Put _) new after.pages s.machine_is tt

file-resumes : (m : FileMachine) (wsize : ℕ) (turn : Turn) (old : Shelf) (next : Step) (new : FileMachine) (after : Shelf) → FileUnkept m old.pages → steps.Resumes wsize m turn old next new after
    → FileUnkept new after.pages
file-resumes (files.Open m) wsize turn old next new after k s = file-as (files.Open _) new after.pages s.machine_is tt
file-resumes (files.Read m) wsize turn old next new after k s =
    file-as (files.Read s.machine) new after.pages s.machine_is (resumes-in m.reading turn.room m old.pages old.back next s.machine after.pages refl k s.step)
file-resumes (files.Write m) wsize turn old next new after k s = file-as (files.Write _) new after.pages s.machine_is tt
file-resumes (files.Sync m) wsize turn old next new after k s = file-as (files.Sync _) new after.pages s.machine_is tt
file-resumes (files.Close m) wsize turn old next new after k s = file-as (files.Close _) new after.pages s.machine_is tt
file-resumes (files.Truncate m) wsize turn old next new after k s = file-as (files.Truncate _) new after.pages s.machine_is tt
file-resumes (files.Put m) wsize turn old next new after k s = file-as (files.Put s.machine) new after.pages s.machine_is tt

file-takes : (m : FileMachine) (wsize : ℕ) (sent turn : Turn) (came : Result Reply Fault) (old : Shelf) (next : Step) (new : FileMachine) (after : Shelf) → FileUnkept m old.pages
    → steps.Takes wsize m sent turn came old next new after → FileUnkept new after.pages
file-takes (files.Open m) wsize sent turn came old next new after k s = file-as (files.Open _) new after.pages s.machine_is tt
file-takes (files.Read m) wsize sent turn came old next new after k s =
    file-as (files.Read s.machine) new after.pages s.machine_is (takes-in m.reading sent turn came old.repeats m old.pages old.back next s.machine after.pages refl k s.step)
file-takes (files.Write m) wsize sent turn came old next new after k s = file-as (files.Write _) new after.pages s.machine_is tt
file-takes (files.Sync m) wsize sent turn came old next new after k s = file-as (files.Sync _) new after.pages s.machine_is tt
file-takes (files.Close m) wsize sent turn came old next new after k s = file-as (files.Close _) new after.pages s.machine_is tt
file-takes (files.Truncate m) wsize sent turn came old next new after k s = file-as (files.Truncate _) new after.pages s.machine_is tt
file-takes (files.Put m) wsize sent turn came old next new after k s = file-as (files.Put s.machine) new after.pages s.machine_is tt

all-starts : (m : Machine) (wsize : ℕ) (turn : Turn) (old : Shelf) (next : Step) (new : Machine) (after : Shelf) → NoneYet m → Starts wsize m turn old next new after → MachineUnkept new after.pages
all-starts (machines.File m) wsize turn old next new after none s =
    machine-as (machines.File s.machine) new after.pages s.machine_is (file-starts m wsize turn old next s.machine after none s.step)
all-starts (machines.Path m) wsize turn old next new after none s = machine-as (machines.Path s.machine) new after.pages s.machine_is tt
all-starts (machines.Name m) wsize turn old next new after none s = machine-as (machines.Name s.machine) new after.pages s.machine_is tt

all-resumes : (m : Machine) (wsize : ℕ) (turn : Turn) (old : Shelf) (next : Step) (new : Machine) (after : Shelf) → MachineUnkept m old.pages → Resumes wsize m turn old next new after
    → MachineUnkept new after.pages
all-resumes (machines.File m) wsize turn old next new after k s =
    machine-as (machines.File s.machine) new after.pages s.machine_is (file-resumes m wsize turn old next s.machine after k s.step)
all-resumes (machines.Path m) wsize turn old next new after k s = machine-as (machines.Path s.machine) new after.pages s.machine_is tt
all-resumes (machines.Name m) wsize turn old next new after k s = machine-as (machines.Name s.machine) new after.pages s.machine_is tt

all-takes : (m : Machine) (wsize : ℕ) (sent turn : Turn) (came : Result Reply Fault) (old : Shelf) (next : Step) (new : Machine) (after : Shelf) → MachineUnkept m old.pages
    → Takes wsize m sent turn came old next new after → MachineUnkept new after.pages
all-takes (machines.File m) wsize sent turn came old next new after k s =
    machine-as (machines.File s.machine) new after.pages s.machine_is (file-takes m wsize sent turn came old next s.machine after k s.step)
all-takes (machines.Path m) wsize sent turn came old next new after k s = machine-as (machines.Path s.machine) new after.pages s.machine_is tt
all-takes (machines.Name m) wsize sent turn came old next new after k s = machine-as (machines.Name s.machine) new after.pages s.machine_is tt

-- an operation that begins
begun-none : (m : Mounted) (lane : ℕ) (op : Op) → NoneYet (machine_of m lane op)
begun-none m lane (ops.Read slot offset count) k is = let same : k.reading ≡ None = cc in same
begun-none m lane (ops.OpenFile slot mode path) k is = absurd (cc)
begun-none m lane (ops.Write slot offset bytes) k is = absurd (cc)
begun-none m lane (ops.Fill slot offset count byte) k is = absurd (cc)
begun-none m lane (ops.Put path offset bytes) k is = absurd (cc)
begun-none m lane (ops.Sync slot) k is = absurd (cc)
begun-none m lane (ops.Close slot) k is = absurd (cc)
begun-none m lane (ops.Truncate slot size) k is = absurd (cc)
begun-none m lane (ops.Stat path) k is = absurd (cc)
begun-none m lane (ops.Access path bits) k is = absurd (cc)
begun-none m lane (ops.MakeDir path) k is = absurd (cc)
begun-none m lane (ops.RemoveDir path) k is = absurd (cc)
begun-none m lane (ops.Remove path) k is = absurd (cc)
begun-none m lane (ops.Rename from to) k is = absurd (cc)
begun-none m lane (ops.Link from to) k is = absurd (cc)
begun-none m lane (ops.SymLink path target) k is = absurd (cc)
begun-none m lane (ops.ReadLink path) k is = absurd (cc)
begun-none m lane (ops.List path) k is = absurd (cc)

-- ---- a step of a lane

same-machine : (a b : Machine) → Busy a ≡ Busy b → a ≡ b
same-machine a b e = cc

over-busy : (answer : Answer) (m : Machine) → Over answer ≡ Busy m → ⊥
over-busy answer m e = cc

-- what it comes to, where each of the steps leaves a machine so
leading-unkept : (wsize : ℕ) (S : Step → Machine → Shelf → Type 0) (state : State) (after : Shelf) → Leading wsize S state after
    → ((next : Step) (new : Machine) (shelf : Shelf) → S next new shelf → MachineUnkept new shelf.pages) → (machine : Machine) → state ≡ Busy machine → MachineUnkept machine after.pages
leading-unkept wsize S state after (settles (nexts.Send call) new s is) each machine busy =
    machine-as new machine after.pages (same-machine machine new (sym busy ∙ is)) (each (nexts.Send call) new after s)
leading-unkept wsize S state after (settles nexts.Wait new s is) each machine busy = machine-as new machine after.pages (same-machine machine new (sym busy ∙ is)) (each nexts.Wait new after s)
leading-unkept wsize S state after (settles (nexts.Done answer) new s is) each machine busy = absurd (over-busy answer machine (sym is ∙ busy))
leading-unkept wsize S state after (unmade call mid between sent turn fault next new s t is) each machine busy = by next is
  where
    left : MachineUnkept new after.pages
    left = all-takes mid wsize sent turn (Err fault) between next new after (each (nexts.Send call) mid between s) t

    by : (n : Step) → IsRefused new n state → MachineUnkept machine after.pages
    by (nexts.Send again) r = absurd r
    by nexts.Wait r = machine-as new machine after.pages (same-machine machine new (sym busy ∙ r)) left
    by (nexts.Done answer) r = absurd (over-busy answer machine (sym r ∙ busy))

-- ---- one lane

same-lane : (a b : Lane) → Some a ≡ Some b → a ≡ b
same-lane a b e = cc

same-state : (n k : ℕ) (a b : State) → ◌≡◌ {A = Lane} (record { number = n; state = a }) (record { number = k; state = b }) → a ≡ b
same-state n k a b e = ap (λ (l : Lane). l.state) e

one-before : (h : List Entry) (e : Entry) → OneLane (h ++ e ∷ []) → OneLane h
one-before h e one a b lane other line its_line op its_op first second =
    one a b lane other line its_line op its_op (At-grow h (e ∷ []) a (Began lane line op) first) (At-grow h (e ∷ []) b (Began other its_line its_op) second)

only-one : (setup : Setup) (h : List Entry) (v : View) → Known setup h v → OneLane h → (a b : ℕ) (l o : Lane) → slice_get v.lanes a ≡ Some l → slice_get v.lanes b ≡ Some o → a ≡ b
only-one setup h v known one a b l o here there =
    let under = lanes-under-way h v known.lanes in
    let x = under.busy a l here in
    let y = under.busy b o there in
    under.apart a b l o here there (one x.x y.x l.number o.number x.under_way.line y.under_way.line x.op y.op x.under_way.began y.under_way.began)

-- ---- along a history

abbrev pub AllUnkept : View → Type 0
AllUnkept v = (k number : ℕ) (machine : Machine) → slice_get v.lanes k ≡ Some (record { number = number; state = Busy machine }) → MachineUnkept machine v.shelf.pages

abbrev pub LaneUnkept : List Entry → View → Type 0
LaneUnkept h v = OneLane h → AllUnkept v

led-unkept : (setup : Setup) (h : List Entry) (old new : View) (at number : ℕ) (m : Machine) (S : Step → Machine → Shelf → Type 0) → Known setup h old → OneLane h
    → slice_get old.lanes at ≡ Some (record { number = number; state = Busy m }) → Led old.wsize S old.lanes at number new
    → ((next : Step) (n : Machine) (shelf : Shelf) → S next n shelf → MachineUnkept n shelf.pages) → AllUnkept new
led-unkept setup h old new at number m S known one there l each k n machine here = by (nat_eq k at) refl
  where
    set : slice_get (slice_set old.lanes at (record { number = number; state = l.state })) k ≡ Some (record { number = n; state = Busy machine })
    set = sym (ap (λ (ls : List Lane). slice_get ls k) l.lanes_are) ∙ here

    by : (b : Bool) → nat_eq k at ≡ b → MachineUnkept machine new.shelf.pages
    by true e =
        let own = at-set old.lanes at (record { number = number; state = Busy m }) (record { number = number; state = l.state }) there in
        let found = sym own ∙ ap (slice_get (slice_set old.lanes at (record { number = number; state = l.state }))) (sym (eqb-true k at e)) ∙ set in
        leading-unkept old.wsize S l.state new.shelf l.leading each machine
        (same-state number n l.state (Busy machine) (same-lane (record { number = number; state = l.state }) (record { number = n; state = Busy machine }) found))
    by false e =
        let off = eqb-false k at e in
        let was = sym (set-other old.lanes at k (record { number = number; state = l.state }) off) ∙ set in
        absurd (off (only-one setup h old known one k at (record { number = n; state = Busy machine }) (record { number = number; state = Busy m }) was there))

pushed-unkept : (setup : Setup) (h : List Entry) (old new : View) (lane line : ℕ) (op : Op) (S : Step → Machine → Shelf → Type 0) → Known setup h old → OneLane (h ++ Began lane line op ∷ [])
    → IsIdle lane old.lanes → Pushed old.wsize S old.lanes lane new → ((next : Step) (n : Machine) (shelf : Shelf) → S next n shelf → MachineUnkept n shelf.pages) → AllUnkept new
pushed-unkept setup h old new lane line op S known one idle p each k n machine here =
    by (get-push old.lanes (record { number = lane; state = p.state }) k (record { number = n; state = Busy machine }) (sym (ap (λ (ls : List Lane). slice_get ls k) p.lanes_are) ∙ here))
  where
    by : (slice_get old.lanes k ≡ Some (record { number = n; state = Busy machine }))
        ⊎ ((k ≡ length old.lanes) × (◌≡◌ {A = Lane} (record { number = n; state = Busy machine }) (record { number = lane; state = p.state }))) → MachineUnkept machine new.shelf.pages
    by (inr own) = leading-unkept old.wsize S p.state new.shelf p.leading each machine (same-state lane n p.state (Busy machine) (sym own.1))
    by (inl was) =
        let x = (lanes-under-way h old known.lanes).busy k (record { number = n; state = Busy machine }) was in
        let same = one x.x (length h) n lane x.under_way.line line x.op op (At-grow h (Began lane line op ∷ []) x.x (Began n x.under_way.line x.op) x.under_way.began) (At-last h (Began lane line op)) in
        absurd (idle-numbers lane (numbers_of old.lanes) idle.other k (to-map number_of old.lanes k (record { number = n; state = Busy machine }) was ∙ ap Some same))

unkept-laws : (m : Mounted) (setup : Setup) → KeepsAlong (machine_of m) setup LaneUnkept
unkept-laws m setup = record {
  fresh = λ h v fresh one k number machine here. absurd (let no_way : None ≡ Some (record { number = number; state = Busy machine }) = ap (λ (ls : List Lane). slice_get ls k) (sym fresh.lanes) ∙ here in cc);
  stirs = λ h old new at known t i one.
      led-unkept setup h old new at t.number t.machine (λ next machine shelf. Resumes old.wsize t.machine (turn_at old) old.shelf next machine shelf) known one t.there (stirs-led old new at t)
      (λ next n shelf s. all-resumes t.machine old.wsize (turn_at old) old.shelf next n shelf (i one at t.number t.machine t.there) s);
  starts = λ h old new lane line op now r found known idle t i one.
      pushed-unkept setup h old new lane line op (λ next n shelf. Starts old.wsize (machine_of m lane op) (turn_at (counted old now)) old.shelf next n shelf) known one idle
      (starts-led (counted old now) new lane (machine_of m lane op) t)
      (λ next n shelf s. all-starts (machine_of m lane op) old.wsize (turn_at (counted old now)) old.shelf next n shelf (begun-none m lane op) s);
  takes = λ h old new rec xid call at r found known waits there t i one.
      let before = one-before h _ one in
      led-unkept setup h old new at t.number t.machine (λ next n shelf. Takes old.wsize t.machine call.purpose.sent (turn_at (taken_one old xid)) _ old.shelf next n shelf) known before t.there
      (takes-led (taken_one old xid) new at call.purpose.sent _ t)
      (λ next n shelf s. all-takes t.machine old.wsize call.purpose.sent (turn_at (taken_one old xid)) _ old.shelf next n shelf (i before at t.number t.machine t.there) s);
  answers = λ h old new at lane line answer known a i one k number machine here.
      let there = get-remove old.lanes at k (record { number = number; state = Busy machine }) (sym (ap (λ (w : View). slice_get w.lanes k) a.is) ∙ here) in
      subst (MachineUnkept machine) (ap (λ (w : View). w.shelf.pages) (sym a.is)) (i (one-before h _ one) (skip at k) number machine there);
  same = λ h e old new lanes shelf calls i one k number machine here.
      subst (MachineUnkept machine) (ap (λ (s : Shelf). s.pages) (sym shelf)) (i (one-before h e one) k number machine (ap (λ (ls : List Lane). slice_get ls k) (sym lanes) ∙ here));
}

pub reached-unkept : (m : Mounted) (setup : Setup) (h : List Entry) (v : View) → Reaches (machine_of m) setup h v → v.lost ≡ false → OneLane h → AllUnkept v
reached-unkept m setup h v r found one = reached-along (machine_of m) (begins-unbegun m) setup LaneUnkept (unkept-laws m setup) h v r found one
