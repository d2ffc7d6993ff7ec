-- A walk goes by replies to its own LOOKUPs, and by names and attributes that are kept: each is recent.
use Rattle.core_answers.proofs.Prelude.{◌≡◌, ◌<◌, ◌≤◌, ◌-◌, ℕ, zero, suc, Bool, true, false, List, [], ◌∷◌, ◌++◌, length, take, Option, Some, None, Result, Ok, Err, slice_get, refl, sym, ap, subst, ◌∙◌, arith, if◌then◌else◌, Attr, stamp_of, DirKept, Fault, Entry, Call, Reply, Shelf, Turn, Walk, WalkStep, found_by, look_again, walk_of, WalkAwaits, Told, ShownRecently, IsAnswered}
use Rattle.name_ops.specs.Looking.{look_up}
use Rattle.core_facts.proofs.NamesKept.{passed-told, looked-told}
use Rattle.attr_cache.specs.Attrs as attrs
use Rattle.name_cache.specs.Names as names
use Rattle.name_cache.proofs.Entries as kept_names
use Rattle.nfs_dir_calls.specs.declared.keeping.DirKept.TheVariants as kept
use Rattle.world_model.specs.declared.message.Reply.TheVariants as replies
use Rattle.name_ops.specs.declared.walk.Spot.{Spot}
use Rattle.name_ops.specs.Walking as walking
use Rattle.core_answers.specs.bonds.Named.{WasNamed}
use Rattle.core_answers.proofs.bonds.AttrsShown.{ShownIn, answered-last}
use Rattle.core_answers.proofs.engine.Told.{ToldSince, IsLate}
use Rattle.core_answers.proofs.bonds.Learnt.{Good}
use Rattle.core_answers.proofs.bonds.NamesShown.{NamedIn, named-grows, told-named}
use Rattle.core_answers.proofs.bonds.StatsShown.{believed-of, shown-grows-of}

-- ---- lists

take-one : (xs : List (List ℕ)) (i : ℕ) (x : List ℕ) → slice_get xs i ≡ Some x → take (suc i) xs ≡ take i xs ++ x ∷ []
take-one [] i x at = absurd (cc)
take-one (y ∷ ys) zero x at = let same : y ≡ x = cc in ap (λ (z : List ℕ). z ∷ []) same
take-one (y ∷ ys) (suc i) x at = ap (λ (zs : List (List ℕ)). y ∷ zs) (take-one ys i x at)

some-within : (xs : List (List ℕ)) (i : ℕ) (x : List ℕ) → slice_get xs i ≡ Some x → i < length xs
some-within [] i x at = absurd (cc)
some-within (y ∷ ys) zero x at = omega arith
some-within (y ∷ ys) (suc i) x at = let within = some-within ys i x at in omega (arith, within)

none-past : (xs : List (List ℕ)) (i : ℕ) → slice_get xs i ≡ None → length xs ≤ i
none-past [] i at = omega arith
none-past (y ∷ ys) zero at = absurd (cc)
none-past (y ∷ ys) (suc i) at = let past = none-past ys i at in omega (arith, past)

whole-path : (xs : List (List ℕ)) → take (length xs) xs ≡ xs
whole-path [] = refl
whole-path (x ∷ xs) = ap (λ (ys : List (List ℕ)). x ∷ ys) (whole-path xs)

-- ---- one name

-- A name led from a directory to the object: its own LOOKUP was answered so, or it was kept under the stamp of attributes that were shown recently.
pub data StepBy (h : List Entry) (most x : ℕ) (dir name found : List ℕ) : Type 0 where
  looked : (since : ℕ) (attr dir_attr : Option Attr) → x < since → IsAnswered h since (length h) (look_up dir name) (replies.Dir (kept.Lookup found attr dir_attr))
      → StepBy h most x dir name found
  believed_so : (attr : Attr) (s : ShownRecently h most x (length h) attr) → s.object ≡ dir
      → WasNamed h (record { dir = dir; name = name }) (record { stamp = stamp_of attr; found = found }) → StepBy h most x dir name found

step-grows : (h : List Entry) (e : Entry) (most x : ℕ) (dir name found : List ℕ) → x < length h → StepBy h most x dir name found → StepBy (h ++ e ∷ []) most x dir name found
step-grows h e most x dir name found within (looked since attr dir_attr late a) = looked since attr dir_attr late (answered-last h e since _ _ a)
step-grows h e most x dir name found within (believed_so attr s is was) =
    let more = shown-grows-of most h e x attr within s in believed_so attr more.0 (more.1 ∙ is) (named-grows h e _ _ was)

-- ---- along a path

pub data LedBy (h : List Entry) (most x : ℕ) (top : List ℕ) : List (List ℕ) → List ℕ → Type 0 where
  root : (path : List (List ℕ)) (object : List ℕ) → path ≡ [] → object ≡ top → LedBy h most x top path object
  step : (path earlier : List (List ℕ)) (object name d : List ℕ) → path ≡ earlier ++ name ∷ [] → LedBy h most x top earlier d → StepBy h most x d name object
      → LedBy h most x top path object

pub led-grows : (h : List Entry) (e : Entry) (most x : ℕ) (top : List ℕ) (path : List (List ℕ)) (object : List ℕ) → x < length h → LedBy h most x top path object
    → LedBy (h ++ e ∷ []) most x top path object
led-grows h e most x top _ _ within (root path object at is) = root path object at is
led-grows h e most x top _ _ within (step path earlier object name d at before by) =
    step path earlier object name d at (led-grows h e most x top earlier d within before) (step-grows h e most x d name object within by)

-- The place leads on from the names that are gone through.
pub record SpotAt (most : ℕ) (top : List ℕ) (h : List Entry) (x : ℕ) (path : List (List ℕ)) (spot : Spot) : Type 0 where
  pub few : spot.left ≤ length path
  pub led : LedBy h most x top (take (length path - spot.left) path) spot.dir

-- A walk goes along this path, and leads to where it is.
pub record WalkAt (most : ℕ) (top : List ℕ) (h : List Entry) (x : ℕ) (path : List (List ℕ)) (w : Walk) : Type 0 where
  pub path_is : w.path ≡ path
  pub spot : SpotAt most top h x path w.spot

module _ (most : ℕ) (top : List ℕ) (h : List Entry) (x : ℕ) (within : x < length h) where
  abbrev SpotLed : List (List ℕ) → Spot → Type 0
  SpotLed path spot = SpotAt most top h x path spot

  abbrev WalkLed : List (List ℕ) → Walk → Type 0
  WalkLed path w = WalkAt most top h x path w

  -- one name more
  reached-led : (path : List (List ℕ)) (spot : Spot) (name found : List ℕ) → SpotLed path spot → walking.name_at path spot.left ≡ Some name → StepBy h most x spot.dir name found
      → SpotLed path (walking.reached found spot)
  reached-led path spot name found s at by =
      let few = s.few in
      let inside = some-within path (length path - spot.left) name at in
      let next : length path - (spot.left - 1) ≡ suc (length path - spot.left) = omega (arith, few, inside) in
      record {
        few = omega (arith, few);
        led = step (take (length path - (spot.left - 1)) path) (take (length path - spot.left) path) found name spot.dir
            (ap (λ (n : ℕ). take n path) next ∙ take-one path (length path - spot.left) name at) s.led by;
      }

  -- where no name is left the path leads there
  whole-led : (path : List (List ℕ)) (spot : Spot) → SpotLed path spot → walking.name_at path spot.left ≡ None → LedBy h most x top path spot.dir
  whole-led path spot s none =
      let few = s.few in
      let past = none-past path (length path - spot.left) none in
      let all : length path - spot.left ≡ length path = omega (arith, few, past) in
      subst (λ (p : List (List ℕ)). LedBy h most x top p spot.dir) (ap (λ (n : ℕ). take n path) all ∙ whole-path path) s.led

  -- ---- through names that are kept

  passed-under : (path : List (List ℕ)) (o : Option Attr) (name : List ℕ) (now : ℕ) (known : attrs.Attrs) (p : walking.Passed) → Good (ShownIn h) most known → IsLate h x now
      → Told (NamedIn h) p.names → SpotLed path p.spot → walking.name_at path p.spot.left ≡ Some name → attrs.looked p.spot.dir now known ≡ o
      → SpotLed path (walking.passed_under o name p).spot
  passed-under path None name now known p g late t s at is = s
  passed-under path (Some attr) name now known p g late t s at is = by (names.looked p.spot.dir name (stamp_of attr) p.names) refl
    where
      by : (o : Option (List ℕ)) → names.looked p.spot.dir name (stamp_of attr) p.names ≡ o → SpotLed path (walking.spot_after o p.spot)
      by None none = s
      by (Some found) some =
          let shown = believed-of most h x within p.spot.dir now known attr g late is in
          reached-led path p.spot name found s at
          (believed_so attr shown.0 shown.1
          (kept_names.looked-kept (NamedIn h) p.spot.dir name (stamp_of attr) found p.names t some))

  passed-next : (path : List (List ℕ)) (o : Option (List ℕ)) (now : ℕ) (known : attrs.Attrs) (p : walking.Passed) → Good (ShownIn h) most known → IsLate h x now
      → Told (NamedIn h) p.names → SpotLed path p.spot → walking.name_at path p.spot.left ≡ o → SpotLed path (walking.passed_next o now known p).spot
  passed-next path None now known p g late t s at = s
  passed-next path (Some name) now known p g late t s at = passed-under path (attrs.looked p.spot.dir now known) name now known p g late t s at refl

  passed-led : (n : ℕ) (path : List (List ℕ)) (now : ℕ) (known : attrs.Attrs) (p : walking.Passed) → Good (ShownIn h) most known → IsLate h x now
      → Told (NamedIn h) p.names → SpotLed path p.spot → SpotLed path (walking.passed n path now known p).spot
  passed-led zero path now known p g late t s = s
  passed-led (suc n) path now known p g late t s =
      let before : walking.Passed = walking.passed n path now known p in
      passed-next path (walking.name_at path before.spot.left) now known before g late (passed-told (NamedIn h) n path now known p t) (passed-led n path now known p g late t s) refl

  -- ---- a walk

  walk-as : (path : List (List ℕ)) (w new : Walk) → new.path ≡ w.path → new.spot ≡ w.spot → WalkLed path w → WalkLed path new
  walk-as path w new is at l = record { path_is = is ∙ l.path_is; spot = subst (SpotLed path) (sym at) l.spot }

  asked-after : (path : List (List ℕ)) (name : Option (List ℕ)) (room : Bool) (w : Walk) → WalkLed path w → WalkLed path (walking.asked_after name room w)
  asked-after path None room w l = l
  asked-after path (Some name) true w l = walk-as path w (record w { asked = true }) refl refl l
  asked-after path (Some name) false w l = l

  on-led : (path : List (List ℕ)) (w : Walk) (turn : Turn) (shelf : Shelf) → Good (ShownIn h) most shelf.attrs → IsLate h x turn.now → Told (NamedIn h) shelf.names → WalkLed path w
      → WalkLed path (walking.on_after w turn shelf.attrs shelf.names)
  on-led path w turn shelf g late t l =
      let there : Walk = walking.walked w turn.now shelf.attrs shelf.names in
      asked-after path (walking.next_name there) turn.room there (record {
        path_is = l.path_is;
        spot = subst (λ (p : List (List ℕ)). SpotLed p there.spot) l.path_is
            (passed-led w.spot.left w.path turn.now shelf.attrs (record { spot = w.spot; names = shelf.names }) g late t
            (subst (λ (p : List (List ℕ)). SpotLed p w.spot) (sym l.path_is) l.spot));
      })

  pub go-led : (path : List (List ℕ)) (w : Walk) (turn : Turn) (shelf : Shelf) → Good (ShownIn h) most shelf.attrs → IsLate h x turn.now → Told (NamedIn h) shelf.names → WalkLed path w
      → WalkLed path (walking.go_after w turn shelf)
  go-led path w turn shelf g late t l = by w.asked
    where
      by : (b : Bool) → WalkLed path (if b then w else walking.on_after w turn shelf.attrs shelf.names)
      by true = l
      by false = on-led path w turn shelf g late t l

  -- what came of its LOOKUP is what the history tells
  abbrev pub IsHeard : Result Reply Fault → Call → ℕ → Type 0
  IsHeard came call ms = (reply : Reply) → came ≡ Ok reply → ToldSince h x call ms reply

  -- a walk to the object that its LOOKUP found
  arrived-led : (path : List (List ℕ)) (w : Walk) (name : List ℕ) (ms : ℕ) (came : Result Reply Fault) (found : List ℕ) → WalkLed path w → walking.next_name w ≡ Some name
      → IsHeard came (look_up w.spot.dir name) ms → found_by came ≡ Ok found → WalkLed path (walking.arrived w found)
  arrived-led path w name ms (Ok (replies.Dir reply)) found l at heard is = by reply refl is
    where
      by : (r : DirKept) → r ≡ reply → found_by (Ok (replies.Dir r)) ≡ Ok found → WalkLed path (walking.arrived w found)
      by (kept.Lookup object attr dir) same e =
          let this : object ≡ found = cc in
          let told = heard (replies.Dir (kept.Lookup object attr dir)) (ap (λ (r : DirKept). Ok (replies.Dir r)) (sym same)) in
          record {
            path_is = l.path_is;
            spot = reached-led path w.spot name found l.spot (ap (λ (p : List (List ℕ)). walking.name_at p w.spot.left) (sym l.path_is) ∙ at)
                (subst (λ (f : List ℕ). StepBy h most x w.spot.dir name f) this (looked told.told.since attr dir told.later told.told.answered));
          }
      by (kept.LookupFail status dir) same e = absurd (cc)
      by r same e = absurd (cc)
  arrived-led path w name ms (Ok (replies.File reply)) found l at heard is = absurd (cc)
  arrived-led path w name ms (Ok (replies.Mount reply)) found l at heard is = absurd (cc)
  arrived-led path w name ms (Err fault) found l at heard is = absurd (cc)

  told-led : (path : List (List ℕ)) (w : Walk) (name : List ℕ) (ms : ℕ) (came : Result Reply Fault) (turn : Turn) (shelf : Shelf) (told : Result (List ℕ) Fault)
      → Good (ShownIn h) most shelf.attrs → IsLate h x turn.now → Told (NamedIn h) shelf.names → WalkLed path w → walking.next_name w ≡ Some name
      → IsHeard came (look_up w.spot.dir name) ms → found_by came ≡ told → WalkLed path (walking.told_walk w told turn shelf)
  told-led path w name ms came turn shelf (Ok found) g late t l at heard is = on-led path (walking.arrived w found) turn shelf g late t (arrived-led path w name ms came found l at heard is)
  told-led path w name ms came turn shelf (Err fault) g late t l at heard is = l

  followed-led : (busy : Bool) (path : List (List ℕ)) (w : Walk) (name : List ℕ) (ms : ℕ) (came : Result Reply Fault) (turn : Turn) (shelf : Shelf)
      → Good (ShownIn h) most shelf.attrs → IsLate h x turn.now → Told (NamedIn h) shelf.names → WalkLed path w → walking.next_name w ≡ Some name
      → IsHeard came (look_up w.spot.dir name) ms → WalkLed path (walking.followed_walk busy w (found_by came) turn shelf)
  followed-led true path w name ms came turn shelf g late t l at heard = l
  followed-led false path w name ms came turn shelf g late t l at heard = told-led path w name ms came turn shelf (found_by came) g late t l at heard refl

  name-of : (b : Bool) (w : Walk) (name : List ℕ) → (if b then walking.next_name w else None) ≡ Some name → walking.next_name w ≡ Some name
  name-of true w name is = is
  name-of false w name is = absurd (cc)

  followed-attrs : (busy : Bool) (told : Result (List ℕ) Fault) (w : Walk) (turn : Turn) (shelf : Shelf) → (walking.followed_shelf busy w told turn shelf).attrs ≡ shelf.attrs
  followed-attrs true told w turn shelf = refl
  followed-attrs false (Ok found) w turn shelf = refl
  followed-attrs false (Err fault) w turn shelf = refl

  took-name : (path : List (List ℕ)) (o : Option (List ℕ)) (w : Walk) (sent turn : Turn) (came : Result Reply Fault) (old : Shelf) (next : WalkStep) (new : Walk) (after : Shelf) (call : Call)
      → walking.waiting_name w ≡ o → Good (ShownIn h) most after.attrs → IsLate h x turn.now → Told (NamedIn h) old.names → WalkLed path w → WalkAwaits w call → IsHeard came call sent.now
      → walking.Takes o w sent turn came old next new after → WalkLed path new
  took-name path None w sent turn came old next new after call is g late t l e heard k = subst (WalkLed path) (sym k.walk_is) l
  took-name path (Some name) w sent turn came old next new after call is g late t l e heard k =
      let this : call ≡ look_up w.spot.dir name = e name is in
      let known = looked-told (NamedIn h) w.spot.dir name came old.names k.heard.names
      (told-named h call sent.now came (λ reply got. (heard reply got).told) w.spot.dir name this) k.hears.names t in
      let attrs_are : after.attrs ≡ k.heard.attrs =
      ap (λ (z : Shelf). z.attrs) k.shelf_is ∙ followed-attrs (look_again sent turn came old) (found_by came) w turn k.heard in
      subst (WalkLed path) (sym k.walk_is)
      (followed-led (look_again sent turn came old) path w name sent.now came turn k.heard (subst (Good (ShownIn h) most) attrs_are g) late known l (name-of w.asked w name is)
      (subst (λ (c : Call). IsHeard came c sent.now) this heard))

  pub took-led : (path : List (List ℕ)) (w : Walk) (sent turn : Turn) (came : Result Reply Fault) (old : Shelf) (next : WalkStep) (new : Walk) (after : Shelf) (call : Call)
      → Good (ShownIn h) most after.attrs → IsLate h x turn.now → Told (NamedIn h) old.names → WalkLed path w → WalkAwaits w call → IsHeard came call sent.now
      → walking.Takes (walking.waiting_name w) w sent turn came old next new after → WalkLed path new
  took-led path w sent turn came old next new after call g late t l e heard k =
      took-name path (walking.waiting_name w) w sent turn came old next new after call refl g late t l e heard k

  -- where it has come to its end
  pub end-led : (path : List (List ℕ)) (w : Walk) → WalkLed path w → walking.next_name w ≡ None → LedBy h most x top path w.spot.dir
  end-led path w l none = whole-led path w.spot l.spot (ap (λ (p : List (List ℕ)). walking.name_at p w.spot.left) (sym l.path_is) ∙ none)

pub walk-grows : (h : List Entry) (e : Entry) (most x : ℕ) (top : List ℕ) (path : List (List ℕ)) (w : Walk) → x < length h → WalkAt most top h x path w → WalkAt most top (h ++ e ∷ []) x path w
walk-grows h e most x top path w within l = record {
  path_is = l.path_is;
  spot = record { few = l.spot.few; led = led-grows h e most x top _ w.spot.dir within l.spot.led };
}

-- at the root, with the whole path before it
pub walk-begins : (h : List Entry) (most x : ℕ) (top : List ℕ) (path : List (List ℕ)) → WalkAt most top h x path (walk_of top path)
walk-begins h most x top path =
    let none : length path - length path ≡ 0 = omega arith in
    record { path_is = refl; spot = record { few = omega arith; led = root _ top (ap (λ (n : ℕ). take n path) none) refl } }
