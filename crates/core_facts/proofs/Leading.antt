-- A walk leads along its path: by names that are kept, each of which a LOOKUP was answered with, and by the replies to its own.
use Rattle.core_facts.proofs.Prelude.{◌≡◌, ◌<◌, ◌≤◌, ◌+◌, ◌-◌, ℕ, zero, suc, Bool, true, false, List, [], ◌∷◌, ◌++◌, length, take, Option, Some, None, Result, Ok, Err, slice_get, refl, sym, ap, subst, ◌∙◌, arith, cases_lt, if◌then◌else◌, Attr, DirKept, Fault, Entry, Call, Reply, Asked, Rooted, Asked-wide, length_last, Shelf, Turn, Walk, WalkStep, look_up, found_by, look_again}
use Rattle.std.proofs.Common.{All}
use Rattle.world_model.specs.Mounts.{Origin, Given}
use Rattle.world_model.proofs.Growth.{Asked-grow}
use Rattle.attr_cache.specs.Attrs as attrs
use Rattle.name_cache.specs.declared.entry.KeptName.{KeptName}
use Rattle.name_cache.specs.declared.entry.Place.{Place}
use Rattle.name_cache.specs.Names as names
use Rattle.name_cache.proofs.Entries.{looked-kept}
use Rattle.nfs_types.specs.Stamps.{stamp_of}
use Rattle.nfs_dir_calls.specs.declared.keeping.DirKept.TheVariants as kept
use Rattle.world_model.specs.declared.message.Reply.TheVariants as replies
use Rattle.world_model.specs.Leads.{Leads, root, step}
use Rattle.name_ops.specs.declared.walk.Spot.{Spot}
use Rattle.name_ops.specs.Walking as walking
use Rattle.core_facts.proofs.NamesKept.{Told, CallTells, passed-told, looked-told}
use Rattle.core_facts.proofs.Awaited.{WalkAwaits}

-- ---- lists

take-one : (xs : List (List ℕ)) (i : ℕ) (x : List ℕ) → slice_get xs i ≡ Some x → take (suc i) xs ≡ take i xs ++ x ∷ []
take-one [] i x at = absurd (cc)
take-one (y ∷ ys) zero x at = let same : y ≡ x = cc in ap (λ (z : List ℕ). z ∷ []) same
take-one (y ∷ ys) (suc i) x at = ap (λ (zs : List (List ℕ)). y ∷ zs) (take-one ys i x at)

some-within : (xs : List (List ℕ)) (i : ℕ) (x : List ℕ) → slice_get xs i ≡ Some x → i < length xs
some-within [] i x at = absurd (cc)
some-within (y ∷ ys) zero x at = omega arith
some-within (y ∷ ys) (suc i) x at = let within = some-within ys i x at in omega (arith, within)

none-past : (xs : List (List ℕ)) (i : ℕ) → slice_get xs i ≡ None → length xs ≤ i
none-past [] i at = omega arith
none-past (y ∷ ys) zero at = absurd (cc)
none-past (y ∷ ys) (suc i) at = let past = none-past ys i at in omega (arith, past)

take-whole : (xs : List (List ℕ)) → take (length xs) xs ≡ xs
take-whole [] = refl
take-whole (x ∷ xs) = ap (λ (ys : List (List ℕ)). x ∷ ys) (take-whole xs)

-- ---- names that are kept

-- a LOOKUP of the name was answered with it
pub record IsNameTold (h : List Entry) (e : Place × KeptName) : Type 0 where
  pub attr : Option Attr
  pub dir : Option Attr
  pub asked : Asked h 0 (length h) (look_up e.0.dir e.0.name) (replies.Dir (kept.Lookup e.1.found attr dir))

abbrev pub NamesTold : List Entry → names.Entries → Type 0
NamesTold h es = Told (IsNameTold h) es

asked-later : (h : List Entry) (e : Entry) (call : Call) (reply : Reply) → Asked h 0 (length h) call reply → Asked (h ++ e ∷ []) 0 (length (h ++ e ∷ [])) call reply
asked-later h e call reply a =
    let more = length_last h e in
    Asked-wide (h ++ e ∷ []) 0 (length h) 0 (length (h ++ e ∷ [])) call reply (omega arith) (omega (arith, more)) (Asked-grow h (e ∷ []) 0 (length h) call reply a)

pub names-later : (h : List Entry) (e : Entry) (es : names.Entries) → NamesTold h es → NamesTold (h ++ e ∷ []) es
names-later h e es t k d within =
    let old = t k d within in record { attr = old.attr; dir = old.dir; asked = asked-later h e _ _ old.asked }

-- ---- along a path

module _ (top : List ℕ) where
  abbrev pub LeadsTo : List Entry → List (List ℕ) → List ℕ → Type 0
  LeadsTo h path object = Leads (Given top) h (length h) path object

  -- what a history shows of a path, a longer one shows, and where the root is known from elsewhere too
  pub leads-from : (origin : Origin) (h more : List Entry) (n m : ℕ) (path : List (List ℕ)) (object : List ℕ) → n ≤ m → Rooted origin (h ++ more) m top → Leads (Given top) h n path object
      → Leads origin (h ++ more) m path object
  leads-from origin h more n m _ _ wide rooted (root path object at is) = root path object at (subst (Rooted origin (h ++ more) m) (sym is) rooted)
  leads-from origin h more n m _ _ wide rooted (step path earlier object name d attr dir at before asked) =
      step path earlier object name d attr dir at (leads-from origin h more n m earlier d wide rooted before)
      (Asked-wide (h ++ more) 0 n 0 m (look_up d name) (replies.Dir (kept.Lookup object attr dir)) (omega arith) wide
      (Asked-grow h more 0 n (look_up d name) (replies.Dir (kept.Lookup object attr dir)) asked))

  pub leads-later : (h : List Entry) (e : Entry) (path : List (List ℕ)) (object : List ℕ) → LeadsTo h path object → LeadsTo (h ++ e ∷ []) path object
  leads-later h e path object l =
      let more = length_last h e in leads-from (Given top) h (e ∷ []) (length h) (length (h ++ e ∷ [])) path object (omega (arith, more)) refl l

  -- The place leads on from the names that are gone through.
  pub record SpotLeads (h : List Entry) (path : List (List ℕ)) (spot : Spot) : Type 0 where
    pub few : spot.left ≤ length path
    pub leads : LeadsTo h (take (length path - spot.left) path) spot.dir

  -- one name more
  pub reached-leads : (h : List Entry) (path : List (List ℕ)) (spot : Spot) (name found : List ℕ) (attr dir : Option Attr) → SpotLeads h path spot
      → walking.name_at path spot.left ≡ Some name → Asked h 0 (length h) (look_up spot.dir name) (replies.Dir (kept.Lookup found attr dir))
      → SpotLeads h path (walking.reached found spot)
  reached-leads h path spot name found attr dir s at asked =
      let few = s.few in
      let within = some-within path (length path - spot.left) name at in
      let next : length path - (spot.left - 1) ≡ suc (length path - spot.left) = omega (arith, few, within) in
      record {
        few = omega (arith, few);
        leads = step (take (length path - (spot.left - 1)) path) (take (length path - spot.left) path) found name spot.dir attr dir
            (ap (λ (n : ℕ). take n path) next ∙ take-one path (length path - spot.left) name at) s.leads asked;
      }

  -- where no name is left the path leads there
  pub whole-leads : (h : List Entry) (path : List (List ℕ)) (spot : Spot) → SpotLeads h path spot → walking.name_at path spot.left ≡ None → LeadsTo h path spot.dir
  whole-leads h path spot s none =
      let few = s.few in
      let past = none-past path (length path - spot.left) none in
      let all : length path - spot.left ≡ length path = omega (arith, few, past) in
      subst (λ (p : List (List ℕ)). LeadsTo h p spot.dir) (ap (λ (n : ℕ). take n path) all ∙ take-whole path) s.leads

  -- ---- through names that are kept

  passed-under : (h : List Entry) (path : List (List ℕ)) (o : Option Attr) (name : List ℕ) (p : walking.Passed) → NamesTold h p.names → SpotLeads h path p.spot
      → walking.name_at path p.spot.left ≡ Some name → SpotLeads h path (walking.passed_under o name p).spot
  passed-under h path None name p t s at = s
  passed-under h path (Some attr) name p t s at = by (names.looked p.spot.dir name (stamp_of attr) p.names) refl
    where
      by : (o : Option (List ℕ)) → names.looked p.spot.dir name (stamp_of attr) p.names ≡ o → SpotLeads h path (walking.spot_after o p.spot)
      by None is = s
      by (Some found) is =
          let told = looked-kept (IsNameTold h) p.spot.dir name (stamp_of attr) found p.names t is in
          reached-leads h path p.spot name found told.attr told.dir s at told.asked

  passed-next : (h : List Entry) (path : List (List ℕ)) (o : Option (List ℕ)) (now : ℕ) (known : attrs.Attrs) (p : walking.Passed) → NamesTold h p.names → SpotLeads h path p.spot
      → walking.name_at path p.spot.left ≡ o → SpotLeads h path (walking.passed_next o now known p).spot
  passed-next h path None now known p t s at = s
  passed-next h path (Some name) now known p t s at = passed-under h path (attrs.looked p.spot.dir now known) name p t s at

  passed-leads : (h : List Entry) (n : ℕ) (path : List (List ℕ)) (now : ℕ) (known : attrs.Attrs) (p : walking.Passed) → NamesTold h p.names → SpotLeads h path p.spot
      → SpotLeads h path (walking.passed n path now known p).spot
  passed-leads h zero path now known p t s = s
  passed-leads h (suc n) path now known p t s =
      let before : walking.Passed = walking.passed n path now known p in
      passed-next h path (walking.name_at path before.spot.left) now known before (passed-told (IsNameTold h) n path now known p t) (passed-leads h n path now known p t s) refl

  -- ---- a walk

  -- it goes along this path, and leads to where it is
  pub record WalkLeads (h : List Entry) (path : List (List ℕ)) (w : Walk) : Type 0 where
    pub path_is : w.path ≡ path
    pub spot : SpotLeads h path w.spot

  walk-as : (h : List Entry) (path : List (List ℕ)) (w new : Walk) → new.path ≡ w.path → new.spot ≡ w.spot → WalkLeads h path w → WalkLeads h path new
  walk-as h path w new is at l = record { path_is = is ∙ l.path_is; spot = subst (SpotLeads h path) (sym at) l.spot }

  asked-after : (h : List Entry) (path : List (List ℕ)) (name : Option (List ℕ)) (room : Bool) (w : Walk) → WalkLeads h path w → WalkLeads h path (walking.asked_after name room w)
  asked-after h path None room w l = l
  asked-after h path (Some name) true w l = walk-as h path w (record w { asked = true }) refl refl l
  asked-after h path (Some name) false w l = l

  on-leads : (h : List Entry) (path : List (List ℕ)) (w : Walk) (turn : Turn) (shelf : Shelf) → NamesTold h shelf.names → WalkLeads h path w
      → WalkLeads h path (walking.on_after w turn shelf.attrs shelf.names)
  on-leads h path w turn shelf t l =
      let there : Walk = walking.walked w turn.now shelf.attrs shelf.names in
      asked-after h path (walking.next_name there) turn.room there (record {
        path_is = l.path_is;
        spot = subst (λ (p : List (List ℕ)). SpotLeads h p there.spot) l.path_is
            (passed-leads h w.spot.left w.path turn.now shelf.attrs (record { spot = w.spot; names = shelf.names }) t
            (subst (λ (p : List (List ℕ)). SpotLeads h p w.spot) (sym l.path_is) l.spot));
      })

  pub go-leads : (h : List Entry) (path : List (List ℕ)) (w : Walk) (turn : Turn) (shelf : Shelf) → NamesTold h shelf.names → WalkLeads h path w
      → WalkLeads h path (walking.go_after w turn shelf)
  go-leads h path w turn shelf t l = by w.asked
    where
      by : (b : Bool) → WalkLeads h path (if b then w else walking.on_after w turn shelf.attrs shelf.names)
      by true = l
      by false = on-leads h path w turn shelf t l

  -- what came of its LOOKUP is what the history tells
  abbrev pub IsHeard : List Entry → Result Reply Fault → Call → Type 0
  IsHeard h came call = (reply : Reply) → came ≡ Ok reply → Asked h 0 (length h) call reply

  -- so a name that is learnt was told
  pub heard-tells : (h : List Entry) (came : Result Reply Fault) (call : Call) → IsHeard h came call → CallTells (IsNameTold h) came call
  heard-tells h came call heard dir name is found attr dir_attr got = record {
    attr = attr;
    dir = Some dir_attr;
    asked = subst (λ (c : Call). Asked h 0 (length h) c (replies.Dir (kept.Lookup found attr (Some dir_attr)))) is (heard (replies.Dir (kept.Lookup found attr (Some dir_attr))) got);
  }

  -- a walk to the object that its LOOKUP found
  arrived-leads : (h : List Entry) (path : List (List ℕ)) (w : Walk) (name : List ℕ) (came : Result Reply Fault) (found : List ℕ) → WalkLeads h path w → walking.next_name w ≡ Some name
      → IsHeard h came (look_up w.spot.dir name) → found_by came ≡ Ok found → WalkLeads h path (walking.arrived w found)
  arrived-leads h path w name (Ok (replies.Dir reply)) found l at heard is = by reply refl is
    where
      by : (r : DirKept) → r ≡ reply → found_by (Ok (replies.Dir r)) ≡ Ok found → WalkLeads h path (walking.arrived w found)
      by (kept.Lookup object attr dir) same e =
          let this : object ≡ found = cc in
          record {
            path_is = l.path_is;
            spot = reached-leads h path w.spot name found attr dir l.spot (ap (λ (p : List (List ℕ)). walking.name_at p w.spot.left) (sym l.path_is) ∙ at)
                (subst (λ (f : List ℕ). Asked h 0 (length h) (look_up w.spot.dir name) (replies.Dir (kept.Lookup f attr dir))) this
                (heard (replies.Dir (kept.Lookup object attr dir)) (ap (λ (r : DirKept). Ok (replies.Dir r)) (sym same))));
          }
      by (kept.LookupFail status dir) same e = absurd (cc)
      by r same e = absurd (cc)
  arrived-leads h path w name (Ok (replies.File reply)) found l at heard is = absurd (cc)
  arrived-leads h path w name (Ok (replies.Mount reply)) found l at heard is = absurd (cc)
  arrived-leads h path w name (Err fault) found l at heard is = absurd (cc)

  told-leads : (h : List Entry) (path : List (List ℕ)) (w : Walk) (name : List ℕ) (came : Result Reply Fault) (turn : Turn) (heard_shelf : Shelf) (told : Result (List ℕ) Fault)
      → NamesTold h heard_shelf.names → WalkLeads h path w → walking.next_name w ≡ Some name → IsHeard h came (look_up w.spot.dir name) → found_by came ≡ told
      → WalkLeads h path (walking.told_walk w told turn heard_shelf)
  told-leads h path w name came turn shelf (Ok found) t l at heard is = on-leads h path (walking.arrived w found) turn shelf t (arrived-leads h path w name came found l at heard is)
  told-leads h path w name came turn shelf (Err fault) t l at heard is = l

  followed-leads : (busy : Bool) (h : List Entry) (path : List (List ℕ)) (w : Walk) (name : List ℕ) (came : Result Reply Fault) (turn : Turn) (heard_shelf : Shelf)
      → NamesTold h heard_shelf.names → WalkLeads h path w → walking.next_name w ≡ Some name → IsHeard h came (look_up w.spot.dir name)
      → WalkLeads h path (walking.followed_walk busy w (found_by came) turn heard_shelf)
  followed-leads true h path w name came turn shelf t l at heard = l
  followed-leads false h path w name came turn shelf t l at heard = told-leads h path w name came turn shelf (found_by came) t l at heard refl

  name-of : (b : Bool) (w : Walk) (name : List ℕ) → (if b then walking.next_name w else None) ≡ Some name → walking.next_name w ≡ Some name
  name-of true w name is = is
  name-of false w name is = absurd (cc)

  took-name : (h : List Entry) (path : List (List ℕ)) (o : Option (List ℕ)) (w : Walk) (sent turn : Turn) (came : Result Reply Fault) (old : Shelf) (next : WalkStep) (new : Walk) (after : Shelf)
      (call : Call) → walking.waiting_name w ≡ o → NamesTold h old.names → WalkLeads h path w → WalkAwaits w call → IsHeard h came call
      → walking.Takes o w sent turn came old next new after → WalkLeads h path new
  took-name h path None w sent turn came old next new after call is t l e heard k = subst (WalkLeads h path) (sym k.walk_is) l
  took-name h path (Some name) w sent turn came old next new after call is t l e heard k =
      let this : call ≡ look_up w.spot.dir name = e name is in
      let known = looked-told (IsNameTold h) w.spot.dir name came old.names k.heard.names (heard-tells h came call heard w.spot.dir name this) k.hears.names t in
      subst (WalkLeads h path) (sym k.walk_is)
      (followed-leads (look_again sent turn came old) h path w name came turn k.heard known l (name-of w.asked w name is)
      (subst (IsHeard h came) this heard))

  pub took-leads : (h : List Entry) (path : List (List ℕ)) (w : Walk) (sent turn : Turn) (came : Result Reply Fault) (old : Shelf) (next : WalkStep) (new : Walk) (after : Shelf) (call : Call)
      → NamesTold h old.names → WalkLeads h path w → WalkAwaits w call → IsHeard h came call → walking.Takes (walking.waiting_name w) w sent turn came old next new after
      → WalkLeads h path new
  took-leads h path w sent turn came old next new after call t l e heard k =
      took-name h path (walking.waiting_name w) w sent turn came old next new after call refl t l e heard k

  -- where it has come to its end
  pub end-leads : (h : List Entry) (path : List (List ℕ)) (w : Walk) → WalkLeads h path w → walking.next_name w ≡ None → LeadsTo h path w.spot.dir
  end-leads h path w l none = whole-leads h path w.spot l.spot (ap (λ (p : List (List ℕ)). walking.name_at p w.spot.left) (sym l.path_is) ∙ none)

  pub walk-later : (h : List Entry) (e : Entry) (path : List (List ℕ)) (w : Walk) → WalkLeads h path w → WalkLeads (h ++ e ∷ []) path w
  walk-later h e path w l = record {
    path_is = l.path_is;
    spot = record { few = l.spot.few; leads = leads-later h e _ w.spot.dir l.spot.leads };
  }
