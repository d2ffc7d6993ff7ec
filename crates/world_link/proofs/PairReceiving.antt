-- What receiving at one end of a world of two clients adds and keeps.
use Rattle.std.proofs.Common.{◌≡◌, ◌<◌, ◌+◌, ◌==◌, ℕ, zero, suc, Bool, true, false, not, cond, List, [], ◌∷◌, ◌++◌, length, map, Option, Some, None, Result, Ok, Err, position, nat_lt, slice_get, refl, sym, ap, subst, ◌∙◌, arith}
use Rattle.std.specs.Prelude.{OnOk, is_err}
use Rattle.std.specs.List.{position_or_len}
use Rattle.std.proofs.lemmas.Bool.{eqb-true}
use Rattle.outside.specs.declared.link.Received.{Received}
use Rattle.outside.specs.declared.link.Received.TheVariants as received
use Rattle.outside.specs.Link.{received_as}
use Rattle.outside.specs.Pairs.{AddsAt}
use Rattle.world_link.specs.declared.routed.Routed.{Routed}
use Rattle.world_link.specs.Ends.{WorldEnds}
use Rattle.world_link.specs.Going.{GoesOn}
use Rattle.world_link.specs.Honest.{IsHonestWorld}
use Rattle.world_link.specs.Pairs.{PairView, IsHonestPair, told_pair}
use Rattle.world_link.specs.PairSteps.{GivesTurns, HandsTo, NoneIsLeft, Receives, ReceivesAt, first_for}
use Rattle.world_link.specs.Routes.{AreAllRouted, KeepsAllEnds}
use Rattle.world_link.specs.Routing as routing
use Rattle.world_link.specs.Steps.{HandsAt, LeftByMemory, Silences}
use Rattle.world_link.specs.View.{WorldView, entry_in}
use Rattle.world_link.proofs.PairHonest.{honest_pair, hands_routed, silences_routed}
use Rattle.world_link.proofs.PairTells.{turns_at, hands_at, silent_at, same_at, at_then}
use Rattle.world_link.proofs.Releases.{found}
use Rattle.world_link.proofs.WorldKeepsContract.{hands_at_honest, silent_honest}

-- ---- the first reply for an end is of that end

first_true : (p : Routed → Bool) (xs : List Routed) (i : ℕ) (x : Routed) → position_or_len p xs ≡ i → slice_get xs i ≡ Some x → p x ≡ true
first_true p [] i x at is = absurd cc
first_true p (y ∷ xs) i x at is = by (p y) refl i at is (λ k e g. first_true p xs k x e g)
  where
    by : (b : Bool) → p y ≡ b → (i : ℕ) → cond (not b) (1 + position_or_len p xs) 0 ≡ i → slice_get (y ∷ xs) i ≡ Some x → ((k : ℕ) → position_or_len p xs ≡ k → slice_get xs k ≡ Some x → p x ≡ true) → p x ≡ true
    by true e zero at is rest = let same : y ≡ x = cc in subst (λ (z : Routed). p z ≡ true) same e
    by true e (suc i) at is rest = absurd (omega (arith, at))
    by false e zero at is rest = absurd (omega (arith, at))
    by false e (suc i) at is rest = rest i (omega (arith, at)) is

first_end : (end : ℕ) (ready : List Routed) (place : ℕ) (r : Routed) → first_for end ready ≡ Some place → slice_get ready place ≡ Some r → r.end ≡ end
first_end end ready place r is at =
    let f = found (position_or_len (λ (x : Routed). x.end == end) ready) (length ready) place (nat_lt (position_or_len (λ (x : Routed). x.end == end) ready) (length ready)) refl is in
    eqb-true r.end end (first_true (λ (x : Routed). x.end == end) ready place r f.1 at)

-- ---- receiving

abbrev Untagged : PairView → Type 0
Untagged v = v.world.server.entries ≡ map entry_in v.ends.server.told

module _ (end : ℕ) (low : end < 2) (old mid new : PairView) (was : Untagged old) (then_ : Untagged mid) (now : Untagged new) (goes : GoesOn old.world mid.world) (keeps : KeepsAllEnds old.ends mid.ends) where
  pub receives_at : (rec : List ℕ) (result : Received) → HandsTo end mid new rec result → AddsAt end (told_pair old) (told_pair new) (received_as rec result)
  receives_at rec received.Whole h =
      at_then end old mid new _ (turns_at end old mid was then_ goes keeps)
      (hands_at end mid new h.ends.reply h.place rec low (first_end end mid.ends.server.ready h.place h.ends.reply h.first h.ends.is) h.ends.bytes h.world h.ends.after)
  receives_at rec received.Silent h =
      at_then end old mid new _ (turns_at end old mid was then_ goes keeps) (silent_at end mid new low (ap (λ (w : WorldView). w.start) h.world) (ap (λ (w : WorldView). w.server.partials) h.world) h.ends)
  receives_at rec received.Failed h = absurd h
  receives_at rec received.Memory h = at_then end old mid new _ (turns_at end old mid was then_ goes keeps) (same_at end mid new h.0 h.1)

  pub receives_honest : (rec : List ℕ) (result : Received) → HandsTo end mid new rec result → (IsHonestWorld old.world → IsHonestWorld mid.world) → IsHonestPair old → IsHonestPair new
  receives_honest rec received.Whole h stays p =
      honest_pair new now (hands_at_honest mid.world new.world h.place rec received.Whole h.world (stays p.world)) (hands_routed mid.ends new.ends h.place rec received.Whole h.ends (keeps.right p.routed))
  receives_honest rec received.Silent h stays p =
      honest_pair new now (subst IsHonestWorld (sym h.world) (silent_honest mid.world (stays p.world))) (silences_routed mid.ends new.ends end received.Silent h.ends (keeps.right p.routed))
  receives_honest rec received.Failed h stays p = absurd h
  receives_honest rec received.Memory h stays p = honest_pair new now (subst IsHonestWorld (sym h.0) (stays p.world)) (subst AreAllRouted (sym h.1) (keeps.right p.routed))

  pub receives_exactly : (rec : List ℕ) (result : Received) → HandsTo end mid new rec result → GivesTurns end old mid → (first_for end mid.ends.server.ready ≡ None → mid.world.waiting ≡ []) → ReceivesAt end old new rec result
  receives_exactly rec received.Whole h turns done = record { mid = mid; turns = turns; hands = h; left = tt }
  receives_exactly rec received.Silent h turns done = record { mid = mid; turns = turns; hands = h; left = done h.none }
  receives_exactly rec received.Failed h turns done = absurd h
  receives_exactly rec received.Memory h turns done = subst (λ (w : WorldView). GoesOn old.world w) (sym h.0) goes

-- ---- handing out

pub hands_to : (end : ℕ) (old new : PairView) (place : ℕ) (rec : List ℕ) (result : Received) → first_for end old.ends.server.ready ≡ Some place → HandsAt old.world new.world place rec result → routing.HandsAt old.ends new.ends place rec result → HandsTo end old new rec result
hands_to end old new place rec received.Whole first w e = record { place = place; first = first; world = w; ends = e }
hands_to end old new place rec received.Silent first w e = absurd w
hands_to end old new place rec received.Failed first w e = absurd w
hands_to end old new place rec received.Memory first w e = (w, e)

pub none_to : (end : ℕ) (old new : PairView) (rec : List ℕ) (result : Received) → first_for end old.ends.server.ready ≡ None → Silences old.world new.world result → LeftByMemory old.world new.world result → routing.Silences old.ends new.ends end result
    → HandsTo end old new rec result
none_to end old new rec received.Whole unready w m e = absurd w
none_to end old new rec received.Silent unready w m e = record { none = unready; world = w; ends = e }
none_to end old new rec received.Failed unready w m e = absurd w
none_to end old new rec received.Memory unready w m e = (m, e)

-- ---- results

pub ok_of : {T E : Type 0} (result : Result T E) (P : Type 0) → is_err result ≡ false → OnOk result P → P
ok_of (Ok x) P e p = p
ok_of (Err x) P e p = absurd cc
