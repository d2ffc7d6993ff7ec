-- How the places change around a call.
use Rattle.std.proofs.Common.{◌≡◌, ℕ, List, [], ◌∷◌, ◌++◌, Option, Some, None, sym, subst, ◌∙◌}
use Rattle.outside.specs.declared.datagrams.DatagramEntry.{DatagramEntry}
use Rattle.outside.specs.declared.places.DatagramAdds.{DatagramAdds}
use Rattle.outside.specs.Datagrams.{DatagramsTold, DatagramsTell, DatagramsNote}
use Rattle.outside.specs.Places.{KeepsPlace, PutsLast, TakesLast}
use Rattle.udp_link.specs.Placing.{IsPlaced}

-- js is ks with one more place; where the calls aren't told, it is empty
abbrev pub OneMore : Option DatagramsTold → List DatagramAdds → DatagramAdds → List DatagramAdds → Type 0
OneMore None ks a js = js ≡ []
OneMore (Some t) ks a js = js ≡ ks ++ a ∷ []

-- after a place was kept
keep_more : (told : Option DatagramsTold) (ks js : List DatagramAdds) (a : DatagramAdds) (p : Option ℕ) → IsPlaced told ks p → KeepsPlace told ks js a → OneMore told ks a js
keep_more None ks js a p w e = e ∙ w
keep_more (Some t) ks js a p w e = e

-- after it was filled with another entry
put_more : (told : Option DatagramsTold) (ks mid js : List DatagramAdds) (b a : DatagramAdds) (p : Option ℕ) → IsPlaced told ks p → KeepsPlace told ks mid b → PutsLast mid js a → OneMore told ks a js
put_more None ks mid js b a p w e q = q.none (e ∙ w)
put_more (Some t) ks mid js b a p w e q = q.last ks b e

-- after it was given back
back_same : (told : Option DatagramsTold) (ks mid js : List DatagramAdds) (b : DatagramAdds) (p : Option ℕ) → IsPlaced told ks p → KeepsPlace told ks mid b → TakesLast mid js → js ≡ ks
back_same None ks mid js b p w e q = q.none (e ∙ w) ∙ sym w
back_same (Some t) ks mid js b p w e q = q.last ks b e

-- ---- a call with a place around it

-- what keeping a place shows
pub record Keeps {D : Type 0} (told : D → Option DatagramsTold) (placed : D → List DatagramAdds) (honest : D → Type 0) (x y : D) (a : DatagramAdds) : Type 0 where
  pub same : told y ≡ told x
  pub places : KeepsPlace (told x) (placed x) (placed y) a
  pub stays : honest x → honest y

-- what a call shows
pub record Calls {D : Type 0} (told : D → Option DatagramsTold) (placed : D → List DatagramAdds) (honest : D → Type 0) (x y : D) (did : Option DatagramEntry) : Type 0 where
  pub tells : DatagramsTell (told x) (told y) did
  pub places : placed y ≡ placed x
  pub stays : honest x → honest y

-- what filling a place shows
pub record Puts {D : Type 0} (told : D → Option DatagramsTold) (placed : D → List DatagramAdds) (honest : D → Type 0) (x y : D) (a : DatagramAdds) : Type 0 where
  pub same : told y ≡ told x
  pub places : PutsLast (placed x) (placed y) a
  pub stays : honest x → honest y

-- what giving one back shows
pub record Backs {D : Type 0} (told : D → Option DatagramsTold) (placed : D → List DatagramAdds) (honest : D → Type 0) (x y : D) : Type 0 where
  pub same : told y ≡ told x
  pub places : TakesLast (placed x) (placed y)
  pub stays : honest x → honest y

-- what they show together: what the one call did, and one more place
pub record Steps {D : Type 0} (told : D → Option DatagramsTold) (placed : D → List DatagramAdds) (honest : D → Type 0) (x y : D) (did : DatagramEntry) (a : DatagramAdds) : Type 0 where
  pub tells : DatagramsTell (told x) (told y) (Some did)
  pub more : OneMore (told x) (placed x) a (placed y)
  pub stays : honest x → honest y

-- the same of a call that found no memory: no place is left of it
pub record Stops {D : Type 0} (told : D → Option DatagramsTold) (placed : D → List DatagramAdds) (honest : D → Type 0) (x y : D) : Type 0 where
  pub tells : DatagramsTell (told x) (told y) None
  pub places : placed y ≡ placed x
  pub stays : honest x → honest y

-- calls that tell nothing stand around one that tells
between : (a b c d : Option DatagramsTold) (did : Option DatagramEntry) → b ≡ a → DatagramsTell b c did → d ≡ c → DatagramsTell a d did
between a b c d did first t last = subst (λ (u : Option DatagramsTold). DatagramsTell u d did) first (subst (λ (u : Option DatagramsTold). DatagramsTell b u did) (sym last) t)

pub notes_between : (a b c d : Option DatagramsTold) (did : Option DatagramEntry) → b ≡ a → DatagramsNote b c did → d ≡ c → DatagramsNote a d did
notes_between a b c d did first n last = subst (λ (u : Option DatagramsTold). DatagramsNote u d did) first (subst (λ (u : Option DatagramsTold). DatagramsNote b u did) (sym last) n)

-- a place, and a call that leaves it as it was kept
pub kept_then : {D : Type 0} (told : D → Option DatagramsTold) (placed : D → List DatagramAdds) (honest : D → Type 0) (w x y : D) (p : Option ℕ) (did : DatagramEntry) (a : DatagramAdds) → IsPlaced (told w) (placed w) p
    → Keeps told placed honest w x a → Calls told placed honest x y (Some did) → Steps told placed honest w y did a
kept_then told placed honest w x y p did a i e c = record {
  tells = subst (λ (t : Option DatagramsTold). DatagramsTell t (told y) (Some did)) e.same c.tells;
  more = subst (λ (ks : List DatagramAdds). OneMore (told w) (placed w) a ks) (sym c.places) (keep_more (told w) (placed w) (placed x) a p i e.places);
  stays = λ h. c.stays (e.stays h);
}

-- a place, a call, and what was put into the place
pub put_then : {D : Type 0} (told : D → Option DatagramsTold) (placed : D → List DatagramAdds) (honest : D → Type 0) (w x y z : D) (p : Option ℕ) (did : DatagramEntry) (b a : DatagramAdds) → IsPlaced (told w) (placed w) p
    → Keeps told placed honest w x b → Calls told placed honest x y (Some did) → Puts told placed honest y z a → Steps told placed honest w z did a
put_then told placed honest w x y z p did b a i e c f = record {
  tells = between (told w) (told x) (told y) (told z) (Some did) e.same c.tells f.same;
  more = put_more (told w) (placed w) (placed x) (placed z) b a p i e.places (subst (λ (ks : List DatagramAdds). PutsLast ks (placed z) a) c.places f.places);
  stays = λ h. f.stays (c.stays (e.stays h));
}

-- a place, a call that found no memory, and the place was given back
pub back_then : {D : Type 0} (told : D → Option DatagramsTold) (placed : D → List DatagramAdds) (honest : D → Type 0) (w x y z : D) (p : Option ℕ) (b : DatagramAdds) → IsPlaced (told w) (placed w) p
    → Keeps told placed honest w x b → Calls told placed honest x y None → Backs told placed honest y z → Stops told placed honest w z
back_then told placed honest w x y z p b i e c f = record {
  tells = between (told w) (told x) (told y) (told z) None e.same c.tells f.same;
  places = back_same (told w) (placed w) (placed x) (placed z) b p i e.places (subst (λ (ks : List DatagramAdds). TakesLast ks (placed z)) c.places f.places);
  stays = λ h. f.stays (c.stays (e.stays h));
}
