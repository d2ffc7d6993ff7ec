-- How many calls of its own a machine may still ask for, and what each of its steps costs.
use Rattle.core_counts.proofs.Prelude.{◌≡◌, ◌≤◌, ◌+◌, ◌-◌, ℕ, zero, suc, Bool, true, false, List, [], ◌∷◌, length, Option, Some, None, slice_get, Result, Ok, Err, refl, sym, ap, subst, ◌∙◌, arith, if◌then◌else◌, Attr, stamp_of, Fault, Entry, Call, Reply, Op, Step, Repeat, Shelf, Turn, fails_busy, goes_again, repeats_after, ended, repeated, Walk, WalkStep, look_up, found_by, look_again, Machine, of_name}
use Rattle.attr_cache.specs.Attrs as attrs
use Rattle.name_cache.specs.Names as kept_names
use Rattle.client_shelf.specs.declared.step.Step.TheVariants as nexts
use Rattle.name_ops.specs.declared.walk.Spot.{Spot}
use Rattle.name_ops.specs.declared.walk.WalkStep.TheVariants as walks
use Rattle.name_ops.specs.Walking as walking
use Rattle.core_counts.proofs.counts.engine.Laws.{Spends, nothing, Took, again, on}
use Rattle.core_counts.proofs.counts.listed.Laws.{table-again}

-- ---- any operation

module _ (P : Call → Type 0) where
  -- what is left after a step, where so much was left before
  abbrev pub Costs : ℕ → Step → ℕ → Type 0
  Costs had (nexts.Send call) after = (after ≤ had) × (P call → after + 1 ≤ had)
  Costs had nexts.Wait after = after ≤ had
  Costs had (nexts.Done answer) after = Unit {0}

  pub costs-as : (had : ℕ) (to next : Step) (one other : ℕ) → next ≡ to → other ≡ one → Costs had to one → Costs had next other
  costs-as had to next one other is same c = subst (λ (n : Step). Costs had n other) (sym is) (subst (Costs had to) (sym same) c)

  pub costs-more : (had more : ℕ) (next : Step) (after : ℕ) → had ≤ more → Costs had next after → Costs more next after
  costs-more had more (nexts.Send call) after wide c = (let low = c.0 in omega (arith, low, wide), λ p. let less = c.1 p in omega (arith, less, wide))
  costs-more had more nexts.Wait after wide c = omega (arith, c, wide)
  costs-more had more (nexts.Done answer) after wide c = tt

  -- a step at what came: the call is made again, by the table, or the operation goes on
  pub data TakesCosts (had : ℕ) (sent turn : Turn) (old : List Repeat) (next : Step) (after : ℕ) (later : List Repeat) : Type 0 where
    repeats_it : later ≡ repeated sent.xid turn.xid old → after ≤ had → TakesCosts had sent turn old next after later
    goes_on : later ≡ ended sent.xid old → Costs had next after → TakesCosts had sent turn old next after later

  -- no reply gives more
  abbrev pub NoReply : Call → ℕ → List ℕ → Type 0
  NoReply call xid bytes = ⊥

  -- ---- a kind of machine

  module _ {S : Type 0} (wrap : S → Machine) (left : S → ℕ) where
    pub record LeftTo (h : List Entry) (x : ℕ) (op : Op) (machine : Machine) (n : ℕ) : Type 0 where
      pub k : S
      pub is : machine ≡ wrap k
      pub enough : left k ≤ n

    left-to : (h : List Entry) (x : ℕ) (op : Op) (k : S) (n : ℕ) → left k ≤ n → LeftTo h x op (wrap k) n
    left-to h x op k n few = record { k = k; is = refl; enough = few }

    pub spends : (h : List Entry) (x : ℕ) (op : Op) (had : ℕ) (next : Step) (k : S) → Costs had next (left k) → Spends P LeftTo h x op had next (wrap k)
    spends h x op had (nexts.Send call) k c = record { left = left k; keeps = left-to h x op k (left k) (omega arith); less = c.0; asks = λ other same p. c.1 (subst P (sym (sent-call call other same)) p) }
      where
        sent-call : (a b : Call) → nexts.Send a ≡ nexts.Send b → a ≡ b
        sent-call a b e = cc
    spends h x op had nexts.Wait k c = record { left = left k; keeps = left-to h x op k (left k) (omega arith); less = c; asks = λ other same p. absurd (no-send other same) }
      where
        no-send : (b : Call) → nexts.Wait ≡ nexts.Send b → ⊥
        no-send b e = cc
    spends h x op had (nexts.Done answer) k c = record { left = 0; keeps = tt; less = omega arith; asks = λ other same p. absurd (no-send other same) }
      where
        no-send : (b : Call) → nexts.Done answer ≡ nexts.Send b → ⊥
        no-send b e = cc

    pub took : (h : List Entry) (x : ℕ) (op : Op) (had : ℕ) (sent turn : Turn) (came : Result Reply Fault) (old : List Repeat) (next : Step) (k : S) (later : List Repeat)
        → TakesCosts had sent turn old next (left k) later → Took P NoReply LeftTo h x op had sent turn came old next (wrap k) later
    took h x op had sent turn came old next k later (repeats_it table few) = again table (left k) few (left-to h x op k (left k) (omega arith))
    took h x op had sent turn came old next k later (goes_on table c) =
        on table 0 (nothing refl) (subst (λ (n : ℕ). Spends P LeftTo h x op n next (wrap k)) (plus-none had) (spends h x op had next k c))
      where
        plus-none : (n : ℕ) → n ≡ n + 0
        plus-none n = omega arith

-- ---- calls that are numbered upwards

-- Whether the call with one number may still come, where the next call has another.
abbrev pub due : ℕ → ℕ → ℕ
due target next = 1 - (next - target)

-- ---- tables

-- a call that is made again, or whose operation has its answer
pub own-takes : (P : Call → Type 0) (had : ℕ) (b busy : Bool) (sent turn : Turn) (old : List Repeat) (next : Step) (after : ℕ) (later : List Repeat) → goes_again busy sent turn old ≡ b
    → later ≡ repeats_after busy sent turn old → after ≤ had → (b ≡ false → Costs P had next after) → TakesCosts P had sent turn old next after later
own-takes P had true busy sent turn old next after later is table few rest = repeats_it (table-again true busy sent turn old later is table) few
own-takes P had false busy sent turn old next after later is table few rest = goes_on (table-again false busy sent turn old later is table) (rest refl)

-- ---- walks

-- how many names it may still ask for
abbrev pub left_by : Bool → ℕ → ℕ
left_by true left = left - 1
left_by false left = left

abbrev pub names_left : Walk → ℕ
names_left w = left_by w.asked w.spot.left

abbrev pub WalkCosts : ℕ → WalkStep → ℕ → Type 0
WalkCosts had (walks.Send call) after = after + 1 ≤ had
WalkCosts had walks.Wait after = after ≤ had
WalkCosts had (walks.At object) after = after ≤ had
WalkCosts had (walks.Refused fault) after = Unit {0}

spot-less : (found : Option (List ℕ)) (spot : Spot) → (walking.spot_after found spot).left ≤ spot.left
spot-less None spot = omega arith
spot-less (Some found) spot = omega arith

under-less : (known : Option Attr) (name : List ℕ) (p : walking.Passed) → (walking.passed_under known name p).spot.left ≤ p.spot.left
under-less None name p = omega arith
under-less (Some attr) name p = spot-less (kept_names.looked p.spot.dir name (stamp_of attr) p.names) p.spot

next-less : (name : Option (List ℕ)) (now : ℕ) (known : attrs.Attrs) (p : walking.Passed) → (walking.passed_next name now known p).spot.left ≤ p.spot.left
next-less None now known p = omega arith
next-less (Some name) now known p = under-less (attrs.looked p.spot.dir now known) name p

passed-less : (n : ℕ) (path : List (List ℕ)) (now : ℕ) (known : attrs.Attrs) (p : walking.Passed) → (walking.passed n path now known p).spot.left ≤ p.spot.left
passed-less zero path now known p = omega arith
passed-less (suc n) path now known p =
    let rest = passed-less n path now known p in
    let q = walking.passed n path now known p in
    let one = next-less (walking.name_at path (walking.passed n path now known p).spot.left) now known (walking.passed n path now known p) in
    omega (arith, rest, one)

beyond : {A : Type 0} → (xs : List A) (at : ℕ) → length xs ≤ at → (x : A) → slice_get xs at ≡ Some x → ⊥
beyond [] at far x is = let no_way : None ≡ Some x = is in cc
beyond (y ∷ ys) zero far x is = absurd (omega (arith, far))
beyond (y ∷ ys) (suc at) far x is = beyond ys at (omega (arith, far)) x is

-- a name that is left is one of so many
some-left : (path : List (List ℕ)) (left : ℕ) (name : List ℕ) → walking.name_at path left ≡ Some name → 1 ≤ left
some-left path zero name is = absurd (beyond path (length path - 0) (omega arith) name is)
some-left path (suc left) name is = omega arith

asks-costs : (name : Option (List ℕ)) (room : Bool) (w : Walk) (had : ℕ) → walking.next_name w ≡ name → w.asked ≡ false → w.spot.left ≤ had
    → WalkCosts had (walking.asks name room w) (names_left (walking.asked_after name room w))
asks-costs None room w had named idle few = subst (λ (b : Bool). left_by b w.spot.left ≤ had) (sym idle) few
asks-costs (Some name) true w had named idle few = let some = some-left w.path w.spot.left name named in omega (arith, few, some)
asks-costs (Some name) false w had named idle few = subst (λ (b : Bool). left_by b w.spot.left ≤ had) (sym idle) few

on-costs : (w : Walk) (turn : Turn) (shelf : Shelf) (had : ℕ) → w.asked ≡ false → w.spot.left ≤ had
    → WalkCosts had (walking.on_next w turn shelf.attrs shelf.names) (names_left (walking.on_after w turn shelf.attrs shelf.names))
on-costs w turn shelf had idle few =
    let less = passed-less w.spot.left w.path turn.now shelf.attrs (record { spot = w.spot; names = shelf.names }) in
    asks-costs (walking.next_name (walking.walked w turn.now shelf.attrs shelf.names)) turn.room (walking.walked w turn.now shelf.attrs shelf.names) had refl idle (omega (arith, few, less))

pub go-costs : (w : Walk) (turn : Turn) (shelf : Shelf) → WalkCosts (names_left w) (walking.go_next w turn shelf) (names_left (walking.go_after w turn shelf))
go-costs w turn shelf = by w.asked refl
  where
    by : (b : Bool) → w.asked ≡ b
        → WalkCosts (left_by b w.spot.left) (if b then walks.Wait else walking.on_next w turn shelf.attrs shelf.names) (names_left (if b then w else walking.on_after w turn shelf.attrs shelf.names))
    by true is = subst (λ (c : Bool). left_by c w.spot.left ≤ left_by true w.spot.left) (sym is) (omega arith)
    by false is = on-costs w turn shelf w.spot.left is (omega arith)

-- what a reply leads to
pub data WalkTakes (had : ℕ) (sent turn : Turn) (old : List Repeat) (step : WalkStep) (after : ℕ) (later : List Repeat) : Type 0 where
  walk_again : (call : Call) → step ≡ walks.Send call → later ≡ repeated sent.xid turn.xid old → after ≤ had → WalkTakes had sent turn old step after later
  walk_on : later ≡ ended sent.xid old → WalkCosts had step after → WalkTakes had sent turn old step after later

followed-repeats : (b : Bool) (w : Walk) (found : Result (List ℕ) Fault) (turn : Turn) (s : Shelf) → (walking.followed_shelf b w found turn s).repeats ≡ s.repeats
followed-repeats true w found turn s = refl
followed-repeats false w (Ok place) turn s = refl
followed-repeats false w (Err fault) turn s = refl

told-costs : (w : Walk) (found : Result (List ℕ) Fault) (turn : Turn) (shelf : Shelf) → WalkCosts (w.spot.left - 1) (walking.told_next w found turn shelf) (names_left (walking.told_walk w found turn shelf))
told-costs w (Ok found) turn shelf = on-costs (walking.arrived w found) turn shelf (w.spot.left - 1) refl (omega arith)
told-costs w (Err fault) turn shelf = tt

pub walk-takes : (name : Option (List ℕ)) (w : Walk) (sent turn : Turn) (came : Result Reply Fault) (old : Shelf) (step : WalkStep) (new : Walk) (after : Shelf) → walking.waiting_name w ≡ name → 1 ≤ of_name name
    → walking.Takes name w sent turn came old step new after → WalkTakes (names_left w) sent turn old.repeats step (names_left new) after.repeats
walk-takes None w sent turn came old step new after named some t = absurd (omega (arith, some))
walk-takes (Some name) w sent turn came old step new after named some t = by (look_again sent turn came old) refl
  where
    asked-some : (b : Bool) → (if b then walking.next_name w else None) ≡ Some name → b ≡ true
    asked-some true is = refl
    asked-some false is = absurd (let no_way : None ≡ Some name = is in cc)

    asked : w.asked ≡ true
    asked = asked-some w.asked named

    table : after.repeats ≡ repeats_after (fails_busy (found_by came)) sent turn old.repeats
    table =
        ap (λ (s : Shelf). s.repeats) t.shelf_is ∙ followed-repeats (look_again sent turn came old) w (found_by came) turn t.heard ∙ ap (λ (s : Shelf). s.repeats) t.hears.others

    had : left_by true w.spot.left ≡ names_left w
    had = ap (λ (b : Bool). left_by b w.spot.left) (sym asked)

    by : (b : Bool) → look_again sent turn came old ≡ b → WalkTakes (names_left w) sent turn old.repeats step (names_left new) after.repeats
    by true busy =
        walk_again (look_up w.spot.dir name) (t.next_is ∙ ap (λ (c : Bool). walking.followed_next c w name (found_by came) turn t.heard) busy)
        (table-again true (fails_busy (found_by came)) sent turn old.repeats after.repeats busy table)
        (let same = ap names_left (t.walk_is ∙ ap (λ (c : Bool). walking.followed_walk c w (found_by came) turn t.heard) busy) in omega (arith, same))
    by false calm =
        walk_on (table-again false (fails_busy (found_by came)) sent turn old.repeats after.repeats calm table)
        (subst (λ (n : ℕ). WalkCosts n step (names_left new)) had
        (subst (λ (s : WalkStep). WalkCosts (w.spot.left - 1) s (names_left new)) (sym (t.next_is ∙ ap (λ (c : Bool). walking.followed_next c w name (found_by came) turn t.heard) calm))
        (subst (λ (k : Walk). WalkCosts (w.spot.left - 1) (walking.told_next w (found_by came) turn t.heard) (names_left k))
        (sym (t.walk_is ∙ ap (λ (c : Bool). walking.followed_walk c w (found_by came) turn t.heard) calm)) (told-costs w (found_by came) turn t.heard))))
