-- For which call an operation on names, and an open on its way, waits: for one at most.
use Rattle.core_facts.proofs.Prelude.{◌≡◌, ◌<◌, ◌≤◌, ◌+◌, ◌-◌, ◌⊎◌, inl, inr, ◌||◌, ℕ, not, Bool, true, false, List, Option, Some, None, Result, Ok, Err, refl, sym, ap, subst, ◌∙◌, arith, if◌then◌else◌, Fault, Call, Reply, Shelf, Turn, Pair, PairStep, Visit, VisitStep, Walk, WalkStep, look_up, found_by, look_again, of_walk, visit_by, of_visit, pair_by, of_pair}
use Rattle.core_facts.specs.InFlight.{of_name}
use Rattle.attr_cache.specs.Attrs as attrs
use Rattle.name_ops.specs.declared.pair.PairStep.TheVariants as two
use Rattle.name_ops.specs.declared.visit.VisitStep.TheVariants as visits
use Rattle.name_ops.specs.declared.walk.WalkStep.TheVariants as walks
use Rattle.name_ops.specs.Pairs as pairs
use Rattle.name_ops.specs.Visiting as visiting
use Rattle.name_ops.specs.Walking as walking
use Rattle.core_facts.proofs.NameCounts.{unasked}

-- ---- walks

-- it waits for the LOOKUP of its next name
abbrev pub WalkAwaits : Walk → Call → Type 0
WalkAwaits w call = (name : List ℕ) → walking.waiting_name w ≡ Some name → call ≡ look_up w.spot.dir name

-- What a step of a walk comes to: a call for which it waits then, or the object at which it is, with no name left.
abbrev pub WalkMoves : WalkStep → Walk → Type 0
WalkMoves (walks.Send call) new = WalkAwaits new call × (new.asked ≡ true)
WalkMoves walks.Wait new = Unit {0}
WalkMoves (walks.At object) new = (object ≡ new.spot.dir) × (walking.next_name new ≡ None) × (new.asked ≡ false)
WalkMoves (walks.Refused fault) new = Unit {0}

same-name : (a b : List ℕ) → Some a ≡ Some b → a ≡ b
same-name a b e = cc

asks-step : (name : Option (List ℕ)) (room : Bool) (w : Walk) → walking.next_name w ≡ name → w.asked ≡ false → WalkMoves (walking.asks name room w) (walking.asked_after name room w)
asks-step None room w is idle = (refl, is, idle)
asks-step (Some name) true w is idle = (λ other waits. ap (look_up w.spot.dir) (same-name name other (sym is ∙ waits)), refl)
asks-step (Some name) false w is idle = tt

pub on-step : (w : Walk) (turn : Turn) (shelf : Shelf) → w.asked ≡ false → WalkMoves (walking.on_next w turn shelf.attrs shelf.names) (walking.on_after w turn shelf.attrs shelf.names)
on-step w turn shelf idle =
    asks-step (walking.next_name (walking.walked w turn.now shelf.attrs shelf.names)) turn.room (walking.walked w turn.now shelf.attrs shelf.names) refl idle

go-if : (b : Bool) (w : Walk) (turn : Turn) (shelf : Shelf) → w.asked ≡ b
    → WalkMoves (if b then walks.Wait else walking.on_next w turn shelf.attrs shelf.names) (if b then w else walking.on_after w turn shelf.attrs shelf.names)
go-if true w turn shelf is = tt
go-if false w turn shelf is = on-step w turn shelf is

pub go-step : (w : Walk) (turn : Turn) (shelf : Shelf) → WalkMoves (walking.go_next w turn shelf) (walking.go_after w turn shelf)
go-step w turn shelf = go-if w.asked w turn shelf refl

told-step : (told : Result (List ℕ) Fault) (w : Walk) (turn : Turn) (heard : Shelf) → WalkMoves (walking.told_next w told turn heard) (walking.told_walk w told turn heard)
told-step (Ok found) w turn heard = on-step (walking.arrived w found) turn heard refl
told-step (Err fault) w turn heard = tt

asked-some : (b : Bool) (w : Walk) (name : List ℕ) → (if b then walking.next_name w else None) ≡ Some name → b ≡ true
asked-some true w name is = refl
asked-some false w name is = absurd cc

followed-step : (busy : Bool) (w : Walk) (name : List ℕ) (told : Result (List ℕ) Fault) (turn : Turn) (heard : Shelf) → walking.waiting_name w ≡ Some name
    → WalkMoves (walking.followed_next busy w name told turn heard) (walking.followed_walk busy w told turn heard)
followed-step true w name told turn heard is = (λ other waits. ap (look_up w.spot.dir) (same-name name other (sym is ∙ waits)), asked-some w.asked w name is)
followed-step false w name told turn heard is = told-step told w turn heard

took-name : (name : Option (List ℕ)) (w : Walk) (sent turn : Turn) (came : Result Reply Fault) (old : Shelf) (next : WalkStep) (new : Walk) (after : Shelf)
    → walking.waiting_name w ≡ name → walking.Takes name w sent turn came old next new after → WalkMoves next new
took-name None w sent turn came old next new after is t = subst (λ (n : WalkStep). WalkMoves n new) (sym t.next_is) tt
took-name (Some name) w sent turn came old next new after is t =
    let busy : Bool = look_again sent turn came old in
    subst (λ (n : WalkStep). WalkMoves n new) (sym t.next_is)
    (subst (λ (v : Walk). WalkMoves (walking.followed_next busy w name (found_by came) turn t.heard) v) (sym t.walk_is) (followed-step busy w name (found_by came) turn t.heard is))

pub took-step : (w : Walk) (sent turn : Turn) (came : Result Reply Fault) (old : Shelf) (next : WalkStep) (new : Walk) (after : Shelf)
    → walking.Takes (walking.waiting_name w) w sent turn came old next new after → WalkMoves next new
took-step w sent turn came old next new after t = took-name (walking.waiting_name w) w sent turn came old next new after refl t

-- a step before which one of its calls waits leaves it as it is
pub walk-rests : (w : Walk) (turn : Turn) (shelf : Shelf) → (of_walk w ≡ 0) ⊎ ((walking.go_next w turn shelf ≡ walks.Wait) × (walking.go_after w turn shelf ≡ w))
walk-rests w turn shelf = by w.asked refl
  where
    by : (b : Bool) → w.asked ≡ b → (of_walk w ≡ 0) ⊎ ((walking.go_next w turn shelf ≡ walks.Wait) × (walking.go_after w turn shelf ≡ w))
    by false is = inl (unasked w is)
    by true is = inr (
      ap (λ (b : Bool). if b then walks.Wait else walking.on_next w turn shelf.attrs shelf.names) is,
      ap (λ (b : Bool). if b then w else walking.on_after w turn shelf.attrs shelf.names) is,
    )

pub one-walk : (w : Walk) → of_walk w ≤ 1
one-walk w = by (walking.waiting_name w)
  where
    by : (o : Option (List ℕ)) → of_name o ≤ 1
    by None = omega arith
    by (Some name) = omega arith

-- ---- a walk and a call

-- it waits for its own call, or for that of its walk
abbrev pub OwnOr : Bool → (List ℕ → Call) → Walk → Call → Type 0
OwnOr true own w call = call ≡ own w.spot.dir
OwnOr false own w call = WalkAwaits w call

abbrev pub VisitAwaits : (List ℕ → Call) → Visit → Call → Type 0
VisitAwaits own v call = OwnOr v.asked own v.walk call

-- what a step of a visit comes to
abbrev pub VisitMoves : (List ℕ → Call) → VisitStep → Visit → Type 0
VisitMoves own (visits.Look call) new = VisitAwaits own new call
VisitMoves own visits.Wait new = Unit {0}
VisitMoves own (visits.Ask object) new = (new.asked ≡ true) × (object ≡ new.walk.spot.dir) × (walking.next_name new.walk ≡ None)
VisitMoves own (visits.Refused fault) new = Unit {0}

own-or : (b : Bool) (own : List ℕ → Call) (w : Walk) (call : Call) → b ≡ false → WalkAwaits w call → OwnOr b own w call
own-or b own w call is a = subst (λ (c : Bool). OwnOr c own w call) (sym is) a

pub own-true : (b : Bool) (own : List ℕ → Call) (w : Walk) (call : Call) → b ≡ true → call ≡ own w.spot.dir → OwnOr b own w call
own-true b own w call is a = subst (λ (c : Bool). OwnOr c own w call) (sym is) a

follow-step : (own : List ℕ → Call) (step : WalkStep) (room : Bool) (v : Visit) → v.asked ≡ false → WalkMoves step v.walk
    → VisitMoves own (visiting.follow_next step room) (visiting.follow_after step room v)
follow-step own (walks.Send call) room v idle s = own-or v.asked own v.walk call idle s.0
follow-step own walks.Wait room v idle s = tt
follow-step own (walks.At object) true v idle s = (refl, s.0, s.1)
follow-step own (walks.At object) false v idle s = tt
follow-step own (walks.Refused fault) room v idle s = tt

visit-if : (own : List ℕ → Call) (b : Bool) (v : Visit) (turn : Turn) (shelf : Shelf) → v.asked ≡ b
    → VisitMoves own (if b then visits.Wait else visiting.follow_next (walking.go_next v.walk turn shelf) turn.room)
    (if b then v else visiting.follow_after (walking.go_next v.walk turn shelf) turn.room (record v { walk = walking.go_after v.walk turn shelf }))
visit-if own true v turn shelf is = tt
visit-if own false v turn shelf is = follow-step own (walking.go_next v.walk turn shelf) turn.room (record v { walk = walking.go_after v.walk turn shelf }) is (go-step v.walk turn shelf)

pub visit-step : (own : List ℕ → Call) (v : Visit) (turn : Turn) (shelf : Shelf) → VisitMoves own (visiting.visit_next v turn shelf) (visiting.visit_after v turn shelf)
visit-step own v turn shelf = visit-if own v.asked v turn shelf refl

pub visit-took-step : (own : List ℕ → Call) (v : Visit) (sent turn : Turn) (came : Result Reply Fault) (old : Shelf) (next : VisitStep) (new : Visit) (after : Shelf) → v.asked ≡ false
    → visiting.VisitTakes v sent turn came old next new after → VisitMoves own next new
visit-took-step own v sent turn came old next new after idle t =
    let still : t.walked.asked ≡ false = ap (λ (w : Visit). w.asked) t.walked_is ∙ idle in
    subst (λ (n : VisitStep). VisitMoves own n new) (sym t.next_is)
    (subst (λ (w : Visit). VisitMoves own (visiting.follow_next t.step turn.room) w) (sym t.visit_is)
    (follow-step own t.step turn.room t.walked still (took-step v.walk sent turn came old t.step t.walked.walk after t.takes)))

-- a step before which one of its calls waits leaves it as it is
pub visit-rests : (v : Visit) (turn : Turn) (shelf : Shelf) → (of_visit v ≡ 0) ⊎ (visiting.visit_after v turn shelf ≡ v)
visit-rests v turn shelf = by v.asked refl (walk-rests v.walk turn shelf)
  where
    to : (b : Bool) → Visit
    to b = if b then v else visiting.follow_after (walking.go_next v.walk turn shelf) turn.room (record v { walk = walking.go_after v.walk turn shelf })

    by : (b : Bool) → v.asked ≡ b → (of_walk v.walk ≡ 0) ⊎ ((walking.go_next v.walk turn shelf ≡ walks.Wait) × (walking.go_after v.walk turn shelf ≡ v.walk))
        → (of_visit v ≡ 0) ⊎ (visiting.visit_after v turn shelf ≡ v)
    by true is w = inr (ap to is)
    by false is (inl none) = inl (ap (λ (b : Bool). visit_by b (of_walk v.walk)) is ∙ none)
    by false is (inr w) = inr (
        ap to is
        ∙ ap (λ (n : WalkStep). visiting.follow_after n turn.room (record v { walk = walking.go_after v.walk turn shelf })) w.0
        ∙ ap (λ (k : Walk). record v { walk = k }) w.1
        )

pub one-visit : (v : Visit) → of_visit v ≤ 1
one-visit v = by v.asked
  where
    by : (b : Bool) → visit_by b (of_walk v.walk) ≤ 1
    by true = omega arith
    by false = one-walk v.walk

-- ---- two walks and a call

abbrev pub PairOr : Bool → Bool → (List ℕ → List ℕ → Call) → Pair → Call → Type 0
PairOr true first own p call = call ≡ own p.first.spot.dir p.second.spot.dir
PairOr false true own p call = WalkAwaits p.first call
PairOr false false own p call = WalkAwaits p.second call

abbrev pub PairAwaits : (List ℕ → List ℕ → Call) → Pair → Call → Type 0
PairAwaits own p call = PairOr p.asked p.first.asked own p call

pub pair-own : (own : List ℕ → List ℕ → Call) (p : Pair) (call : Call) → p.asked ≡ true → call ≡ own p.first.spot.dir p.second.spot.dir → PairAwaits own p call
pair-own own p call is e = subst (λ (b : Bool). PairOr b p.first.asked own p call) (sym is) e

pair-first : (own : List ℕ → List ℕ → Call) (p : Pair) (call : Call) → p.asked ≡ false → p.first.asked ≡ true → WalkAwaits p.first call → PairAwaits own p call
pair-first own p call is at a = subst (λ (b : Bool). PairOr b p.first.asked own p call) (sym is) (subst (λ (b : Bool). PairOr false b own p call) (sym at) a)

pair-second : (own : List ℕ → List ℕ → Call) (p : Pair) (call : Call) → p.asked ≡ false → p.first.asked ≡ false → WalkAwaits p.second call → PairAwaits own p call
pair-second own p call is at a = subst (λ (b : Bool). PairOr b p.first.asked own p call) (sym is) (subst (λ (b : Bool). PairOr false b own p call) (sym at) a)

-- what a step of a pair of walks comes to
abbrev pub PairMoves : (List ℕ → List ℕ → Call) → PairStep → Pair → Type 0
PairMoves own (two.Look call) new = PairAwaits own new call
PairMoves own two.Wait new = Unit {0}
PairMoves own (two.Ask a b) new = (new.asked ≡ true) × (a ≡ new.first.spot.dir) × (b ≡ new.second.spot.dir) × (walking.next_name new.second ≡ None)
PairMoves own (two.Refused fault) new = Unit {0}

led-second : (own : List ℕ → List ℕ → Call) (first : List ℕ) (step : WalkStep) (room : Bool) (p : Pair) → p.asked ≡ false → p.first.asked ≡ false → first ≡ p.first.spot.dir
    → WalkMoves step p.second → PairMoves own (pairs.led_second first step room) (pairs.second_kept step room p)
led-second own first (walks.Send call) room p idle done at s = pair-second own p call idle done s.0
led-second own first walks.Wait room p idle done at s = tt
led-second own first (walks.At second) true p idle done at s = (refl, at, s.0, s.1)
led-second own first (walks.At second) false p idle done at s = tt
led-second own first (walks.Refused fault) room p idle done at s = tt

led-first : (own : List ℕ → List ℕ → Call) (step : WalkStep) (p : Pair) (turn : Turn) (shelf : Shelf) → p.asked ≡ false → WalkMoves step p.first
    → PairMoves own (pairs.led_first step p turn shelf) (pairs.first_kept step p turn shelf)
led-first own (walks.Send call) p turn shelf idle s = pair-first own p call idle s.1 s.0
led-first own walks.Wait p turn shelf idle s = tt
led-first own (walks.At first) p turn shelf idle s =
    led-second own first (walking.go_next p.second turn shelf) turn.room (record p { second = walking.go_after p.second turn shelf }) idle s.2 s.0 (go-step p.second turn shelf)
led-first own (walks.Refused fault) p turn shelf idle s = tt

pair-if : (own : List ℕ → List ℕ → Call) (a b : Bool) (p : Pair) (turn : Turn) (shelf : Shelf) → p.asked ≡ a
    → PairMoves own (if a || b then two.Wait else pairs.on_next p turn shelf) (if a || b then p else pairs.on_after p turn shelf)
pair-if own true b p turn shelf is = tt
pair-if own false true p turn shelf is = tt
pair-if own false false p turn shelf is = led-first own (walking.go_next p.first turn shelf) (pairs.walked_first p turn shelf) turn (walking.go_shelf p.first turn shelf) is (go-step p.first turn shelf)

pub pair-step : (own : List ℕ → List ℕ → Call) (p : Pair) (turn : Turn) (shelf : Shelf) → PairMoves own (pairs.pair_next p turn shelf) (pairs.pair_after p turn shelf)
pair-step own p turn shelf = pair-if own p.asked p.second.asked p turn shelf refl

pub pair-took-step : (own : List ℕ → List ℕ → Call) (b : Bool) (p : Pair) (sent turn : Turn) (came : Result Reply Fault) (old : Shelf) (next : PairStep) (new : Pair) (after : Shelf)
    → p.asked ≡ false → p.first.asked ≡ b → pairs.PairTakes b p sent turn came old next new after → PairMoves own next new
pair-took-step own true p sent turn came old next new after idle is t =
    let still : t.walked.asked ≡ false = ap (λ (w : Pair). w.asked) t.walked_is ∙ idle in
    subst (λ (n : PairStep). PairMoves own n new) (sym t.next_is)
    (subst (λ (w : Pair). PairMoves own (pairs.led_first t.step t.walked turn t.heard) w) (sym t.pair_is)
    (led-first own t.step t.walked turn t.heard still (took-step p.first sent turn came old t.step t.walked.first t.heard t.takes)))
pair-took-step own false p sent turn came old next new after idle is t =
    let still : t.walked.asked ≡ false = ap (λ (w : Pair). w.asked) t.walked_is ∙ idle in
    let done : t.walked.first.asked ≡ false = ap (λ (w : Pair). w.first.asked) t.walked_is ∙ is in
    let at : p.first.spot.dir ≡ t.walked.first.spot.dir = sym (ap (λ (w : Pair). w.first.spot.dir) t.walked_is) in
    subst (λ (n : PairStep). PairMoves own n new) (sym t.next_is)
    (subst (λ (w : Pair). PairMoves own (pairs.led_second p.first.spot.dir t.step turn.room) w) (sym t.pair_is)
    (led-second own p.first.spot.dir t.step turn.room t.walked still done at (took-step p.second sent turn came old t.step t.walked.second after t.takes)))

pub one-pair : (p : Pair) → of_pair p ≤ 1
one-pair p = by p.asked p.first.asked p.second.asked
  where
    by : (a b c : Bool) → pair_by a b c (of_walk p.first) (of_walk p.second) ≤ 1
    by true b c = omega arith
    by false true true = omega arith
    by false true false = one-walk p.first
    by false false c = one-walk p.second

-- a step before which one of its calls waits leaves it as it is
pub pair-rests : (p : Pair) (turn : Turn) (shelf : Shelf) → (of_pair p ≡ 0) ⊎ (pairs.pair_after p turn shelf ≡ p)
pair-rests p turn shelf = by p.asked p.second.asked refl refl (walk-rests p.first turn shelf)
  where
    to : (a b : Bool) → Pair
    to a b = if a || b then p else pairs.on_after p turn shelf

    count : (a b : Bool) → ℕ
    count a b = pair_by a p.first.asked b (of_walk p.first) (of_walk p.second)

    one : (b : Bool) → of_walk p.first ≡ 0 → p.first.asked ≡ b → of_walk p.second ≡ 0 → pair_by false b false (of_walk p.first) (of_walk p.second) ≡ 0
    one true first is second = first
    one false first is second = second

    by : (a b : Bool) → p.asked ≡ a → p.second.asked ≡ b → (of_walk p.first ≡ 0) ⊎ ((walking.go_next p.first turn shelf ≡ walks.Wait) × (walking.go_after p.first turn shelf ≡ p.first))
        → (of_pair p ≡ 0) ⊎ (pairs.pair_after p turn shelf ≡ p)
    by true b is at w = inr (ap (λ (c : Bool). to c p.second.asked) is)
    by false true is at w = inr (ap (λ (c : Bool). to c p.second.asked) is ∙ ap (λ (c : Bool). to false c) at)
    by false false is at (inl none) =
        inl (ap (λ (c : Bool). count c p.second.asked) is ∙ ap (λ (c : Bool). count false c) at ∙ one p.first.asked none refl (unasked p.second at))
    by false false is at (inr w) = inr (
        ap (λ (c : Bool). to c p.second.asked) is ∙ ap (λ (c : Bool). to false c) at
        ∙ ap (λ (n : WalkStep). pairs.first_kept n (pairs.walked_first p turn shelf) turn (walking.go_shelf p.first turn shelf)) w.0
        ∙ ap (λ (k : Walk). record p { first = k }) w.1
        )
