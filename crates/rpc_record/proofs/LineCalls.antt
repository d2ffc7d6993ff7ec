-- The wire of a line before a call and after it: a place was kept before the call, and filled after it.
use Rattle.std.proofs.Common.{◌≡◌, List, Option, subst, sym}
use Rattle.outside.specs.declared.wire.WireEntry.{WireEntry}
use Rattle.outside.specs.declared.places.WirePlace.{WirePlace}
use Rattle.outside.specs.Places.{KeepsPlace, PutsLast}
use Rattle.outside.specs.Wire.{WireTold, WireTells, WireNotes}
use Rattle.rpc_record.specs.Stream.{AllPlaced}
use Rattle.rpc_record.proofs.Replays.{OneMore, room_more, put_more}

-- what keeping a place shows
pub record Keeps {W : Type 0} (told : W → Option WireTold) (placed : W → List WirePlace) (honest : W → Type 0) (x y : W) (k : WirePlace) : Type 0 where
  pub same : told y ≡ told x
  pub places : KeepsPlace (told x) (placed x) (placed y) k
  pub stays : honest x → honest y

-- what a call of the wire shows
pub record Calls {W : Type 0} (told : W → Option WireTold) (placed : W → List WirePlace) (honest : W → Type 0) (x y : W) (did : Option WireEntry) : Type 0 where
  pub tells : WireTells (told x) (told y) did
  pub places : placed y ≡ placed x
  pub stays : honest x → honest y

-- what filling a place shows
pub record Puts {W : Type 0} (told : W → Option WireTold) (placed : W → List WirePlace) (honest : W → Type 0) (x y : W) (k : WirePlace) : Type 0 where
  pub same : told y ≡ told x
  pub places : PutsLast (placed x) (placed y) k
  pub stays : honest x → honest y

-- what they show together: what the one call did, and one more place
pub record Steps {W : Type 0} (told : W → Option WireTold) (placed : W → List WirePlace) (honest : W → Type 0) (x y : W) (did : Option WireEntry) (k : WirePlace) : Type 0 where
  pub tells : WireTells (told x) (told y) did
  pub more : OneMore (told x) (placed x) k (placed y)
  pub stays : honest x → honest y

-- a place, and a call that leaves it as it was kept
pub kept_then : {W : Type 0} (told : W → Option WireTold) (placed : W → List WirePlace) (honest : W → Type 0) (w x y : W) (did : Option WireEntry) (k : WirePlace) → AllPlaced (told w) (placed w)
    → Keeps told placed honest w x k → Calls told placed honest x y did → Steps told placed honest w y did k
kept_then told placed honest w x y did k a e c = record {
  tells = subst (λ (t : Option WireTold). WireTells t (told y) did) e.same c.tells;
  more = subst (λ (ks : List WirePlace). OneMore (told w) (placed w) k ks) (sym c.places) (room_more (told w) (placed w) (placed x) k a e.places);
  stays = λ h. c.stays (e.stays h);
}

-- a place, a call, and what was put into the place
pub put_then : {W : Type 0} (told : W → Option WireTold) (placed : W → List WirePlace) (honest : W → Type 0) (w x y z : W) (did : Option WireEntry) (j k : WirePlace) → AllPlaced (told w) (placed w)
    → Keeps told placed honest w x j → Calls told placed honest x y did → Puts told placed honest y z k → Steps told placed honest w z did k
put_then told placed honest w x y z did j k a e c p = record {
  tells = subst (λ (t : Option WireTold). WireTells t (told z) did) e.same (subst (λ (u : Option WireTold). WireTells (told x) u did) (sym p.same) c.tells);
  more = put_more (told w) (placed w) (placed x) (placed z) j k a e.places (subst (λ (ks : List WirePlace). PutsLast ks (placed z) k) c.places p.places);
  stays = λ h. p.stays (c.stays (e.stays h));
}

-- a mark was noted between calls that tell nothing
pub notes_between : (a b c d : Option WireTold) (did : Option WireEntry) → b ≡ a → WireNotes b c did → d ≡ c → WireNotes a d did
notes_between a b c d did first n last = subst (λ (t : Option WireTold). WireNotes t d did) first (subst (λ (u : Option WireTold). WireNotes b u did) (sym last) n)
