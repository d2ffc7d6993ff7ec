-- Views after a step: with other places, with a call that waits more, or fewer.
use Rattle.core_counts.proofs.Prelude.{◌≡◌, ◌≢◌, ℕ, ◌+◌, true, nat_eq, Option, Some, None, refl, ◌∙◌, if◌then◌else◌, eq-eqb, if-true, if-false}
use Rattle.std.proofs.lemmas.Bool.{ne_eqb}
use Rattle.model_writes.specs.Machine.{Cell, Flight, View, NewCall, Took, Renews, Renamed, PlacesAfter}
use Rattle.model_writes.specs.Story.{Spot, Call, Reply}

-- a call waits under an xid, and no other is changed
abbrev pub called : View → ℕ → Call → (Spot → Option Cell) → (Spot → Option Flight) → View
called c x call rest fly = record c { next_xid = c.next_xid + 1; wait = λ z. if nat_eq z x then Some call else c.wait z; rest = rest; fly = fly }

-- it waits no more
abbrev pub ended : View → ℕ → (Spot → Option Cell) → (Spot → Option Flight) → View
ended c x rest fly = record c { wait = λ z. if nat_eq z x then None else c.wait z; rest = rest; fly = fly }

-- it waits under another xid
abbrev pub renewed : View → ℕ → ℕ → Call → (Spot → Option Cell) → (Spot → Option Flight) → View
renewed c x y call rest fly = record c { next_xid = c.next_xid + 1; wait = λ z. if nat_eq z y then Some call else if nat_eq z x then None else c.wait z; rest = rest; fly = fly }

same-eq : (x : ℕ) → nat_eq x x ≡ true
same-eq x = eq-eqb x x refl

pub called-new : (c : View) (x : ℕ) (call : Call) (rest : Spot → Option Cell) (fly : Spot → Option Flight) → x ≡ c.next_xid → NewCall c (called c x call rest fly) x call
called-new c x call rest fly is = record {
  numbered = is;
  next = refl;
  is = if-true (nat_eq x x) (Some call) (c.wait x) (same-eq x);
  others = λ z apart. if-false (nat_eq z x) (Some call) (c.wait z) (ne_eqb z x apart);
}

pub ended-took : (c : View) (x : ℕ) (call : Call) (r : Reply) (rest : Spot → Option Cell) (fly : Spot → Option Flight) → c.wait x ≡ Some call
    → PlacesAfter x call r c (ended c x rest fly) → Took c (ended c x rest fly) x r
ended-took c x call r rest fly waits places = record {
  call = call;
  waits = waits;
  gone = if-true (nat_eq x x) None (c.wait x) (same-eq x);
  others = λ z apart. if-false (nat_eq z x) None (c.wait z) (ne_eqb z x apart);
  next = refl;
  places = places;
}

pub renewed-renews : (c : View) (x y : ℕ) (call : Call) (r : Reply) (rest : Spot → Option Cell) (fly : Spot → Option Flight) → c.wait x ≡ Some call → y ≡ c.next_xid → x ≢ y
    → ((i : Spot) → rest i ≡ c.rest i) → ((i : Spot) → Renamed x y (c.fly i) (fly i)) → Renews c (renewed c x y call rest fly) x r
renewed-renews c x y call r rest fly waits next apart rests flies = record {
  call = call;
  y = y;
  waits = waits;
  numbered = next;
  gone = if-false (nat_eq x y) (Some call) (if nat_eq x x then None else c.wait x) (ne_eqb x y apart) ∙ if-true (nat_eq x x) None (c.wait x) (same-eq x);
  is = if-true (nat_eq y y) (Some call) (if nat_eq y x then None else c.wait y) (same-eq y);
  others = λ z off on. if-false (nat_eq z y) (Some call) (if nat_eq z x then None else c.wait z) (ne_eqb z y on) ∙ if-false (nat_eq z x) None (c.wait z) (ne_eqb z x off);
  next = refl;
  rest = rests;
  fly = flies;
}
