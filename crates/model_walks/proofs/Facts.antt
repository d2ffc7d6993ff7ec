-- What the client knows is true: its time, the attributes and names that it keeps, and how far each operation came.
use Rattle.std.proofs.Common.{inl, inr, ◌⊎◌, ◌≡◌, ◌<◌, ◌≤◌, ℕ, suc, List, [], ◌∷◌, ◌++◌, length, Option, Some, refl, sym, ap, subst, ◌∙◌, arith}
use Rattle.std.proofs.lemmas.List.{length-append}
use Rattle.nfs_types.specs.declared.attr.Attr.{Attr}
use Rattle.nfs_types.specs.Stamps.{stamp_of}
use Rattle.nfs_dir_calls.specs.declared.call.DirCall.TheVariants as dirs
use Rattle.world_model.specs.declared.entry.Entry.{Entry}
use Rattle.world_model.specs.declared.entry.Entry.TheVariants as entries
use Rattle.world_model.specs.declared.message.Call.TheVariants as calls
use Rattle.world_model.specs.Entries.{At}
use Rattle.world_model.specs.Fresh.{Fresh}
use Rattle.world_model.specs.History.{History}
use Rattle.world_model.specs.Lawful.{Lawful}
use Rattle.claims.specs.Modes.{Modes}
use Rattle.world_model.specs.Mounts.{Origin}
use Rattle.world_model.specs.Server.{Object, Names}
use Rattle.world_model.specs.Service.{Serves}
use Rattle.world_model.proofs.Doing.{getattr_done, lookup_done, create_done}
use Rattle.law_names.specs.Kept.{IsLookedUp}
use Rattle.model_walks.specs.Calls.{Made, Taken, Calls, Fewer, MakesCall, Took, Ignores}
use Rattle.model_walks.specs.Machine as machine
use Rattle.model_walks.specs.Machine.{View, Walk, Place, KnownAttr, KnownName, LearnsAttr, LearnsName, Goes, LooksUp, GoesByName, Believes, GivesFile, FindsFile, KnowsAttr, ShowsObject, Move, StartsWalk, OfCalls, Enters}
use Rattle.model_walks.specs.Reaches as reaching
use Rattle.model_walks.specs.Reaches.{New, Reaches}
use Rattle.model_walks.proofs.Calling.{Was, runs, taken}
use Rattle.model_walks.proofs.Fronts.{Begins, length_last, before_begins, last_told}
use Rattle.model_walks.proofs.NamesStand.{stands_at}
use Rattle.model_walks.proofs.RepliesShow.{shows_true}
use Rattle.model_walks.proofs.Times.{WasRead, AtLeast, Clocked, TimedOp, read_later, Grows, least_later, grows_same, timed_op, clock_quiet, clock_read, Near, near_later, near_own, near_kept, Led, at_root, through, led_later}

-- a call was made at this time
pub record TimedAt (t : History) (now : Option ℕ) (at s : ℕ) : Type 0 where
  pub read : WasRead t at s
  pub least : AtLeast s now

pub record TimedCalls (t : History) (now : Option ℕ) (c : Calls) : Type 0 where
  pub waits : (x : ℕ) (k : Made) (s : ℕ) → c.wait x ≡ Some k → k.time ≡ Some s → TimedAt t now k.at s
  pub taken : (x : ℕ) (k : Taken) (s : ℕ) → c.taken x ≡ Some k → k.time ≡ Some s → TimedAt t now k.at s

-- an object had these attributes at a moment, before which the clock showed the time that is kept with them
pub record HadKnown (m : Modes) (t : History) (p : ℕ) (now : Option ℕ) (object : List ℕ) (k : KnownAttr) : Type 0 where
  pub n : ℕ
  pub o : Object
  pub is : (t.at n).object object ≡ Some o
  pub had : o.attr ≡ k.attr
  pub early : n ≤ p
  pub read : WasRead t n k.sent
  pub least : AtLeast k.sent now
  pub most : k.lifetime ≤ m.longest

abbrev pub AttrsTrue : Modes → History → ℕ → Option ℕ → (List ℕ → Option KnownAttr) → Type 0
AttrsTrue m t p now attrs = (object : List ℕ) (k : KnownAttr) → attrs object ≡ Some k → HadKnown m t p now object k

abbrev pub NamesTrue : History → (Place → Option KnownName) → Type 0
NamesTrue t names = (q : Place) (k : KnownName) → names q ≡ Some k → IsLookedUp t q.dir k.stamp q.name k.object

-- an operation that began after a reading of the clock, and where it stands
pub record Stands (m : Modes) (origin : Origin) (t : History) (p : ℕ) (w : Walk) (object : List ℕ) : Type 0 where
  pub led : Led m origin t w.op p w.path object
  pub timed : TimedOp t w.op
  pub began : w.op < p

abbrev pub SpotsTrue : Modes → Origin → History → ℕ → (Walk → Option (List ℕ)) → Type 0
SpotsTrue m origin t p spots = (w : Walk) (object : List ℕ) → spots w ≡ Some object → Stands m origin t p w object

-- a directory, to which the earlier names lead, had the file under the last name, at a moment of the operation
pub record Named (m : Modes) (origin : Origin) (t : History) (p : ℕ) (w : Walk) (f : List ℕ) : Type 0 where
  pub earlier : List (List ℕ)
  pub name : List ℕ
  pub d : List ℕ
  pub n : ℕ
  pub is : w.path ≡ earlier ++ name ∷ []
  pub led : Led m origin t w.op p earlier d
  pub late : w.op ≤ n
  pub soon : n ≤ p
  pub named : Names (t.at n) d name f

abbrev pub FoundTrue : Modes → Origin → History → ℕ → (Walk → Option (List ℕ)) → Type 0
FoundTrue m origin t p found = (w : Walk) (f : List ℕ) → found w ≡ Some f → Named m origin t p w f

-- an object to which the path leads had these attributes
pub record HadNear (m : Modes) (origin : Origin) (t : History) (p : ℕ) (w : Walk) (attr : Attr) : Type 0 where
  pub object : List ℕ
  pub o : Object
  pub n : ℕ
  pub led : Led m origin t w.op p w.path object
  pub near : Near m t w.op p n
  pub is : (t.at n).object object ≡ Some o
  pub had : o.attr ≡ attr

abbrev pub ShownTrue : Modes → Origin → History → ℕ → (Walk → Option Attr) → Type 0
ShownTrue m origin t p shown = (w : Walk) (attr : Attr) → shown w ≡ Some attr → HadNear m origin t p w attr

pub record Facts (m : Modes) (origin : Origin) (t : History) (p : ℕ) (c : View) : Type 0 where
  pub clock : Clocked t p c.now
  pub calls : TimedCalls t c.now c.calls
  pub attrs : AttrsTrue m t p c.now c.attrs
  pub names : NamesTrue t c.names
  pub spots : SpotsTrue m origin t p c.spots
  pub found : FoundTrue m origin t p c.found
  pub shown : ShownTrue m origin t p c.shown

-- ---- later, and with a later time

timed_later : (t : History) (old new : Option ℕ) (c : Calls) → Grows old new → TimedCalls t old c → TimedCalls t new c
timed_later t old new c grows f = record {
  waits = λ x k s w e. let r = f.waits x k s w e in record { read = r.read; least = least_later s old new grows r.least };
  taken = λ x k s w e. let r = f.taken x k s w e in record { read = r.read; least = least_later s old new grows r.least };
}

known_later : (m : Modes) (t : History) (p q : ℕ) (old new : Option ℕ) (object : List ℕ) (k : KnownAttr) → p ≤ q → Grows old new → HadKnown m t p old object k → HadKnown m t q new object k
known_later m t p q old new object k le grows h = record { n = h.n; o = h.o; is = h.is; had = h.had; early = let e = h.early in omega (arith, e, le); read = h.read; least = least_later k.sent old new grows h.least; most = h.most }

stands_later : (m : Modes) (origin : Origin) (t : History) (p q : ℕ) (w : Walk) (object : List ℕ) → p ≤ q → Stands m origin t p w object → Stands m origin t q w object
stands_later m origin t p q w object le s = record { led = led_later m origin t w.op p q w.path object le s.led; timed = s.timed; began = let b = s.began in omega (arith, b, le) }

named_later : (m : Modes) (origin : Origin) (t : History) (p q : ℕ) (w : Walk) (f : List ℕ) → p ≤ q → Named m origin t p w f → Named m origin t q w f
named_later m origin t p q w f le s = record {
  earlier = s.earlier;
  name = s.name;
  d = s.d;
  n = s.n;
  is = s.is;
  led = led_later m origin t w.op p q s.earlier s.d le s.led;
  late = s.late;
  soon = let n = s.soon in omega (arith, n, le);
  named = s.named;
}

shown_later : (m : Modes) (origin : Origin) (t : History) (p q : ℕ) (w : Walk) (attr : Attr) → p ≤ q → HadNear m origin t p w attr → HadNear m origin t q w attr
shown_later m origin t p q w attr le s = record {
  object = s.object;
  o = s.o;
  n = s.n;
  led = led_later m origin t w.op p q w.path s.object le s.led;
  near = near_later m t w.op p q s.n le s.near;
  is = s.is;
  had = s.had;
}

-- at a later time and moment, all else being as it was
later : (m : Modes) (origin : Origin) (t : History) (p q : ℕ) (b : View) (now : Option ℕ) → p ≤ q → Grows b.now now → Clocked t q now → Facts m origin t p b → Facts m origin t q (record b { now = now })
later m origin t p q b now le grows clock f = record {
  clock = clock;
  calls = timed_later t b.now now b.calls grows f.calls;
  attrs = λ object k is. known_later m t p q b.now now object k le grows (f.attrs object k is);
  names = f.names;
  spots = λ w object is. stands_later m origin t p q w object le (f.spots w object is);
  found = λ w g is. named_later m origin t p q w g le (f.found w g is);
  shown = λ w attr is. shown_later m origin t p q w attr le (f.shown w attr is);
}

quiet : (m : Modes) (origin : Origin) (t : History) (p : ℕ) (b : View) (e : Entry) → At t.entries p e → ((ms : ℕ) → e ≡ entries.Clock ms → ⊥) → Facts m origin t p b → Facts m origin t (suc p) b
quiet m origin t p b e here none f = later m origin t p (suc p) b b.now (omega arith) (grows_same b.now) (clock_quiet t p e b.now here none f.clock) f

-- ---- one part is new

with_calls : (m : Modes) (origin : Origin) (t : History) (p : ℕ) (b c : View) → c ≡ record b { calls = c.calls } → TimedCalls t b.now c.calls → Facts m origin t p b → Facts m origin t p c
with_calls m origin t p b c is k f = subst (λ z. Facts m origin t p z) (sym is) (record { clock = f.clock; calls = k; attrs = f.attrs; names = f.names; spots = f.spots; found = f.found; shown = f.shown })

with_known : (m : Modes) (origin : Origin) (t : History) (p : ℕ) (b c : View) → c ≡ record b { attrs = c.attrs; names = c.names } → AttrsTrue m t p b.now c.attrs → NamesTrue t c.names → Facts m origin t p b → Facts m origin t p c
with_known m origin t p b c is attrs names f = subst (λ z. Facts m origin t p z) (sym is) (record { clock = f.clock; calls = f.calls; attrs = attrs; names = names; spots = f.spots; found = f.found; shown = f.shown })

with_attrs : (m : Modes) (origin : Origin) (t : History) (p : ℕ) (b c : View) → c ≡ record b { attrs = c.attrs } → AttrsTrue m t p b.now c.attrs → Facts m origin t p b → Facts m origin t p c
with_attrs m origin t p b c is attrs f = subst (λ z. Facts m origin t p z) (sym is) (record { clock = f.clock; calls = f.calls; attrs = attrs; names = f.names; spots = f.spots; found = f.found; shown = f.shown })

with_names : (m : Modes) (origin : Origin) (t : History) (p : ℕ) (b c : View) → c ≡ record b { names = c.names } → NamesTrue t c.names → Facts m origin t p b → Facts m origin t p c
with_names m origin t p b c is names f = subst (λ z. Facts m origin t p z) (sym is) (record { clock = f.clock; calls = f.calls; attrs = f.attrs; names = names; spots = f.spots; found = f.found; shown = f.shown })

with_spots : (m : Modes) (origin : Origin) (t : History) (p : ℕ) (b c : View) → c ≡ record b { spots = c.spots } → SpotsTrue m origin t p c.spots → Facts m origin t p b → Facts m origin t p c
with_spots m origin t p b c is spots f = subst (λ z. Facts m origin t p z) (sym is) (record { clock = f.clock; calls = f.calls; attrs = f.attrs; names = f.names; spots = spots; found = f.found; shown = f.shown })

with_found : (m : Modes) (origin : Origin) (t : History) (p : ℕ) (b c : View) → c ≡ record b { found = c.found } → FoundTrue m origin t p c.found → Facts m origin t p b → Facts m origin t p c
with_found m origin t p b c is new f = subst (λ z. Facts m origin t p z) (sym is) (record { clock = f.clock; calls = f.calls; attrs = f.attrs; names = f.names; spots = f.spots; found = new; shown = f.shown })

with_shown : (m : Modes) (origin : Origin) (t : History) (p : ℕ) (b c : View) → c ≡ record b { shown = c.shown } → ShownTrue m origin t p c.shown → Facts m origin t p b → Facts m origin t p c
with_shown m origin t p b c is new f = subst (λ z. Facts m origin t p z) (sym is) (record { clock = f.clock; calls = f.calls; attrs = f.attrs; names = f.names; spots = f.spots; found = f.found; shown = new })

with_lists : (m : Modes) (origin : Origin) (t : History) (p : ℕ) (b c : View) → c ≡ record b { lists = c.lists } → Facts m origin t p b → Facts m origin t p c
with_lists m origin t p b c is f = subst (λ z. Facts m origin t p z) (sym is) (record { clock = f.clock; calls = f.calls; attrs = f.attrs; names = f.names; spots = f.spots; found = f.found; shown = f.shown })

-- ---- what replies tell

-- of each reply that was taken
abbrev pub AllWere : History → List Entry → Calls → Type 0
AllWere t h c = (x : ℕ) (k : Taken) → c.taken x ≡ Some k → Was t h x k

attr_learnt : (m : Modes) (origin : Origin) (t : History) → Lawful t → (h : List Entry) (b c : View) → AllWere t h b.calls → LearnsAttr m b c → Facts m origin t (length h) b → AttrsTrue m t (length h) b.now c.attrs
attr_learnt m origin t lawful h b c were k f object known is = elim (k.attrs object known is) [
  | inl old ↦ f.attrs object known old
  | inr new ↦ rw (new.1, new.0) told
]
  where
    told : HadKnown m t (length h) b.now k.object (record { attr = k.attr; sent = k.sent; lifetime = k.lifetime })
    told =
        let w = were k.came.xid _ k.came.is in
        let shown = shows_true (t.at w.ran.place) (t.at (suc w.ran.place)) k.call k.reply k.object k.attr (lawful.entries w.ran.place _ w.ran.at).1 k.shows in
        let timed = f.calls.taken k.came.xid _ k.sent k.came.is k.timed in
        let late = w.ran.late in
        let before = w.ran.before in
        let early = w.early in
        record {
          n = suc w.ran.place;
          o = shown.0;
          is = shown.1;
          had = shown.2;
          early = omega (arith, before, early);
          read = read_later t k.came.at (suc w.ran.place) k.sent (omega (arith, late)) timed.read;
          least = timed.least;
          most = k.most;
        }

name_learnt : (m : Modes) (origin : Origin) (t : History) (h : List Entry) (b c : View) → AllWere t h b.calls → LearnsName b c → Facts m origin t (length h) b → NamesTrue t c.names
name_learnt m origin t h b c were k f q known is = elim (k.names q known is) [
  | inl old ↦ f.names q known old
  | inr new ↦ rw (new.1, new.0) told
]
  where
    told : IsLookedUp t k.d (stamp_of k.dir) k.name k.object
    told = let w = were k.came.xid _ k.came.is in record { place = w.ran.place; xid = k.came.xid; attr = k.attr; dir = k.dir; done = w.ran.at; is = refl }

goes_on : (m : Modes) (origin : Origin) (t : History) (p : ℕ) (b c : View) (op : ℕ) (d name object : List ℕ) → Goes b c op d name object → Facts m origin t p b
    → (n : ℕ) → ((w : Walk) → w.op ≡ op → Stands m origin t p w d → Near m t op p n) → Names (t.at n) d name object → SpotsTrue m origin t p c.spots
goes_on m origin t p b c op d name object k f n near named w other is = elim (k.spots w other is) [
  | inl old ↦ f.spots w other old
  | inr new ↦ rw (new.1, new.0) on
]
  where
    on : Stands m origin t p (record { op = op; path = k.earlier ++ name ∷ [] }) object
    on = let s = f.spots (record { op = op; path = k.earlier }) d k.stands in record {
      led = through (k.earlier ++ name ∷ []) k.earlier object name d n refl s.led (near (record { op = op; path = k.earlier }) refl s) named;
      timed = s.timed;
      began = s.began;
    }

looked_up : (m : Modes) (origin : Origin) (t : History) → Lawful t → (h : List Entry) (b c : View) → AllWere t h b.calls → LooksUp b c → Facts m origin t (length h) b → SpotsTrue m origin t (length h) c.spots
looked_up m origin t lawful h b c were k f =
    let w = were k.came.xid _ k.came.is in
    let done = lookup_done (t.at w.ran.place) (t.at (suc w.ran.place)) k.d k.name k.object k.attr k.dir (lawful.entries w.ran.place _ w.ran.at).1 in
    let late = w.ran.late in
    let before = w.ran.before in
    let early = w.early in
    let own = k.own in
    goes_on m origin t (length h) b c k.op k.d k.name k.object k.goes f w.ran.place (λ q same s. near_own m t k.op (length h) w.ran.place (subst (λ z. TimedOp t z) same s.timed) (omega (arith, own, late)) (omega (arith, before, early))) done.named.names

went_by_name : (m : Modes) (origin : Origin) (t : History) → Lawful t → Fresh t → (p : ℕ) (b c : View) → p ≤ length t.entries → GoesByName b c → Facts m origin t p b → SpotsTrue m origin t p c.spots
went_by_name m origin t lawful fresh p b c within k f =
    let had = f.attrs k.d k.known k.believes.is in
    let looked = f.names (record { dir = k.d; name = k.name }) (record { stamp = stamp_of k.known.attr; object = k.object }) k.named in
    let early = had.early in
    let named = stands_at t lawful fresh k.d (stamp_of k.known.attr) k.name k.object looked had.n (omega (arith, early, within)) had.o had.is (ap stamp_of had.had) in
    goes_on m origin t p b c k.op k.d k.name k.object k.goes f had.n (λ q same s.
    let began : k.op < p = subst (λ z. z < p) same s.began in
    near_kept m t k.op p had.n k.known.sent k.known.lifetime k.believes.time b.now f.clock began early had.read had.least had.most k.believes.now k.believes.young) named

file_found : (m : Modes) (origin : Origin) (t : History) → Lawful t → (h : List Entry) (b c : View) → AllWere t h b.calls → FindsFile b c → Facts m origin t (length h) b → FoundTrue m origin t (length h) c.found
file_found m origin t lawful h b c were k f w other is = elim (k.found w other is) [
  | inl old ↦ f.found w other old
  | inr new ↦ rw (new.1, new.0) (by k.gives)
]
  where
    s : Stands m origin t (length h) (record { op = k.op; path = k.earlier }) k.d
    s = f.spots (record { op = k.op; path = k.earlier }) k.d k.stands

    was : Was t h k.came.xid (record { call = k.call; at = k.came.at; time = k.came.time; reply = k.reply; came = k.came.place })
    was = were k.came.xid _ k.came.is

    served : Serves (t.at was.ran.place) k.call k.reply (t.at (suc was.ran.place))
    served = (lawful.entries was.ran.place _ was.ran.at).1

    here : (n : ℕ) → was.ran.place ≤ n → n ≤ suc was.ran.place → Names (t.at n) k.d k.name k.f → Named m origin t (length h) (record { op = k.op; path = k.earlier ++ k.name ∷ [] }) k.f
    here n low high named =
        let late = was.ran.late in
        let before = was.ran.before in
        let early = was.early in
        let own = k.own in
        record { earlier = k.earlier; name = k.name; d = k.d; n = n; is = refl; led = s.led; late = omega (arith, own, late, low); soon = omega (arith, high, before, early); named = named }

    by : GivesFile k.d k.name k.f k.call k.reply → Named m origin t (length h) (record { op = k.op; path = k.earlier ++ k.name ∷ [] }) k.f
    by (machine.by_lookup attr dir call_is reply_is) =
        let done = lookup_done (t.at was.ran.place) (t.at (suc was.ran.place)) k.d k.name k.f attr dir (subst (λ z. Serves (t.at was.ran.place) (calls.Dir (dirs.Lookup k.d k.name)) z (t.at (suc was.ran.place))) reply_is (subst (λ z. Serves (t.at was.ran.place) z k.reply (t.at (suc was.ran.place))) call_is served)) in
        here was.ran.place (omega arith) (omega arith) done.named.names
    by (machine.by_create making attr wcc call_is reply_is) =
        let done = create_done (t.at was.ran.place) (t.at (suc was.ran.place)) k.d k.name making (Some k.f) attr wcc (subst (λ z. Serves (t.at was.ran.place) (calls.Dir (dirs.Create k.d k.name making)) z (t.at (suc was.ran.place))) reply_is (subst (λ z. Serves (t.at was.ran.place) z k.reply (t.at (suc was.ran.place))) call_is served)) in
        let handle : k.f ≡ done.1.object = done.1.handle in
        here (suc was.ran.place) (omega arith) (omega arith) (subst (λ z. Names (t.at (suc was.ran.place)) k.d k.name z) (sym handle) done.1.named.names)

object_shown : (m : Modes) (origin : Origin) (t : History) → Lawful t → (h : List Entry) (b c : View) → AllWere t h b.calls → ShowsObject b c → Facts m origin t (length h) b → ShownTrue m origin t (length h) c.shown
object_shown m origin t lawful h b c were k f w other is = elim (k.shown w other is) [
  | inl old ↦ f.shown w other old
  | inr new ↦ rw (new.1, new.0) (by k.knows)
]
  where
    s : Stands m origin t (length h) (record { op = k.op; path = k.path }) k.object
    s = f.spots (record { op = k.op; path = k.path }) k.object k.stands

    by : KnowsAttr b k.op k.object k.attr → HadNear m origin t (length h) (record { op = k.op; path = k.path }) k.attr
    by (machine.believed known believes same) =
        let had = f.attrs k.object known believes.is in
        record {
          object = k.object;
          o = had.o;
          n = had.n;
          led = s.led;
          near = near_kept m t k.op (length h) had.n known.sent known.lifetime believes.time b.now f.clock s.began had.early had.read had.least had.most believes.now believes.young;
          is = had.is;
          had = had.had ∙ same;
        }
    by (machine.told came own) =
        let was = were came.xid _ came.is in
        let done = getattr_done (t.at was.ran.place) (t.at (suc was.ran.place)) k.object k.attr (lawful.entries was.ran.place _ was.ran.at).1 in
        let late = was.ran.late in
        let before = was.ran.before in
        let early = was.early in
        record {
          object = k.object;
          o = done.shows.0;
          n = suc was.ran.place;
          led = s.led;
          near = near_own m t k.op (length h) (suc was.ran.place) s.timed (omega (arith, own, late)) (omega (arith, before, early));
          is = done.shows.1;
          had = done.shows.2;
        }

-- ---- steps

made_calls : (t : History) (p : ℕ) (now : Option ℕ) (b c : Calls) → MakesCall p now b c → Clocked t p now → TimedCalls t now b → TimedCalls t now c
made_calls t p now b c k clock f = record {
  waits = λ x w s is e. elim (k.waits x w is) [
    | inl old ↦ f.waits x w s old e
    | inr new ↦
        let time : now ≡ Some s = ap (λ (z : Made). z.time) (sym new.1) ∙ e in
        let at : p ≡ w.at = ap (λ (z : Made). z.at) (sym new.1) in
        record { read = subst (λ z. WasRead t z s) at (clock.read s time); least = (s, time, omega arith) }
  ];
  taken = λ x w s is e. f.taken x w s (ap (λ z. z x) (sym k.taken) ∙ is) e;
}

fewer_calls : (t : History) (now : Option ℕ) (b c : Calls) → Fewer b.wait c.wait → c.taken ≡ b.taken → TimedCalls t now b → TimedCalls t now c
fewer_calls t now b c fewer same f = record {
  waits = λ x w s is e. f.waits x w s (fewer x w is) e;
  taken = λ x w s is e. f.taken x w s (ap (λ z. z x) (sym same) ∙ is) e;
}

took_calls : (t : History) (n : ℕ) (bytes : List ℕ) (now : Option ℕ) (b c : Calls) → Took n bytes b c → TimedCalls t now b → TimedCalls t now c
took_calls t n bytes now b c k f = record {
  waits = λ x w s is e. f.waits x w s (k.fewer x w is) e;
  taken = λ x w s is e. elim (k.taken x w is) [
    | inl old ↦ f.taken x w s old e
    | inr new ↦
        let at : k.made.at ≡ w.at = ap (λ (z : Taken). z.at) (sym new.1) in
        subst (λ z. TimedAt t now z s) at (f.waits k.x k.made s k.waits (ap (λ (z : Taken). z.time) (sym new.1) ∙ e))
  ];
}

same_calls : (t : History) (now : Option ℕ) (b c : Calls) → c ≡ b → TimedCalls t now b → TimedCalls t now c
same_calls t now b c same f = subst (λ z. TimedCalls t now z) (sym same) f

move_facts : (m : Modes) (origin : Origin) (t : History) → Lawful t → Fresh t → (h : List Entry) (b c : View) → length h ≤ length t.entries → AllWere t h b.calls → Move m (length h) b c → Facts m origin t (length h) b → Facts m origin t (length h) c
move_facts m origin t lawful fresh h b c within were (machine.makes_call k) f = with_calls m origin t (length h) b c k.others (made_calls t (length h) b.now b.calls c.calls k.makes f.clock f.calls) f
move_facts m origin t lawful fresh h b c within were (machine.learns_attr k) f = with_attrs m origin t (length h) b c k.others (attr_learnt m origin t lawful h b c were k f) f
move_facts m origin t lawful fresh h b c within were (machine.learns_name k) f = with_names m origin t (length h) b c k.others (name_learnt m origin t h b c were k f) f
move_facts m origin t lawful fresh h b c within were (machine.forgets k) f = with_known m origin t (length h) b c k.others (λ object known is. f.attrs object known (k.attrs object known is)) (λ q known is. f.names q known (k.names q known is)) f
move_facts m origin t lawful fresh h b c within were (machine.looks_up k) f = with_spots m origin t (length h) b c k.goes.others (looked_up m origin t lawful h b c were k f) f
move_facts m origin t lawful fresh h b c within were (machine.goes_by_name k) f = with_spots m origin t (length h) b c k.goes.others (went_by_name m origin t lawful fresh (length h) b c within k f) f
move_facts m origin t lawful fresh h b c within were (machine.finds_file k) f = with_found m origin t (length h) b c k.others (file_found m origin t lawful h b c were k f) f
move_facts m origin t lawful fresh h b c within were (machine.shows_object k) f = with_shown m origin t (length h) b c k.others (object_shown m origin t lawful h b c were k f) f
move_facts m origin t lawful fresh h b c within were (machine.begins_list k) f = with_lists m origin t (length h) b c k.others f
move_facts m origin t lawful fresh h b c within were (machine.takes_page k) f = with_lists m origin t (length h) b c k.others f

starts : (m : Modes) (origin : Origin) (t : History) (p : ℕ) (b c : View) → StartsWalk origin t p b c → Clocked t p b.now → Facts m origin t (suc p) b → Facts m origin t (suc p) c
starts m origin t p b c k clock f = with_spots m origin t (suc p) b c k.others (λ w object is. elim (k.spots w object is) [
  | inl old ↦ f.spots w object old
  | inr new ↦ rw (new.1, new.0) (record { led = at_root [] k.root refl k.rooted; timed = timed_op t p k.time b.now k.timed clock; began = omega arith })
]) f

entry_facts : (m : Modes) (origin : Origin) (t : History) (p : ℕ) (b c : View) (e : Entry) → At t.entries p e → Enters m origin t p b e c → Facts m origin t p b → Facts m origin t (suc p) c
entry_facts m origin t p b c (entries.Began lane line op) here (inl s) f = rw s (quiet m origin t p b (entries.Began lane line op) here (λ ms e. absurd (cc e)) f)
entry_facts m origin t p b c (entries.Began lane line op) here (inr s) f = starts m origin t p b c s f.clock (quiet m origin t p b (entries.Began lane line op) here (λ ms e. absurd (cc e)) f)
entry_facts m origin t p b c (entries.Answered lane line answer) here s f = rw s.same (quiet m origin t p b (entries.Answered lane line answer) here (λ ms e. absurd (cc e)) f)
entry_facts m origin t p b c (entries.Sent bytes) here s f = with_calls m origin t (suc p) b c s.others (same_calls t b.now b.calls c.calls s.goes.0 f.calls) (quiet m origin t p b (entries.Sent bytes) here (λ ms e. absurd (cc e)) f)
entry_facts m origin t p b c (entries.Delivered bytes) here s f = with_calls m origin t (suc p) b c s.others (by s.goes) (quiet m origin t p b (entries.Delivered bytes) here (λ ms e. absurd (cc e)) f)
  where
    by : Ignores b.calls c.calls ⊎ Took p bytes b.calls c.calls → TimedCalls t b.now c.calls
    by (inl k) = fewer_calls t b.now b.calls c.calls k.fewer k.taken f.calls
    by (inr k) = took_calls t p bytes b.now b.calls c.calls k f.calls
entry_facts m origin t p b c (entries.Clock ms) here s f =
    let r = later m origin t p (suc p) b c.now (omega arith) (λ before is. (s.time, s.now, s.later before is)) (clock_read t p ms s.time b.now c.now here s.now s.one s.least s.later f.clock) f in
    subst (λ z. Facts m origin t (suc p) z) (sym s.others) r
entry_facts m origin t p b c (entries.Dialed port) here s f = rw s (quiet m origin t p b (entries.Dialed port) here (λ ms e. absurd (cc e)) f)
entry_facts m origin t p b c (entries.Executed xid call reply) here s f = rw s (quiet m origin t p b (entries.Executed xid call reply) here (λ ms e. absurd (cc e)) f)
entry_facts m origin t p b c (entries.Foreign call reply) here s f = rw s (quiet m origin t p b (entries.Foreign call reply) here (λ ms e. absurd (cc e)) f)
entry_facts m origin t p b c (entries.Flushed g start count) here s f = rw s (quiet m origin t p b (entries.Flushed g start count) here (λ ms e. absurd (cc e)) f)
entry_facts m origin t p b c (entries.Reboot verf) here s f = rw s (quiet m origin t p b (entries.Reboot verf) here (λ ms e. absurd (cc e)) f)
entry_facts m origin t p b c entries.Failed here s f = rw s (quiet m origin t p b entries.Failed here (λ ms e. absurd (cc e)) f)

pub front_within : (t : History) (h : List Entry) → Begins t h → length h ≤ length t.entries
front_within t h b = let l : length t.entries ≡ length (h ++ b.rest) = ap length b.is in let m = length-append h b.rest in omega (arith, l, m)

pub were_taken : (m : Modes) (origin : Origin) (t : History) → Lawful t → (h : List Entry) (c : View) → Begins t h → Reaches m origin t h c → AllWere t h c.calls
were_taken m origin t lawful h c begun r x k is = taken t lawful h c.calls begun (runs m origin t h c r) x k is

pub facts : (m : Modes) (origin : Origin) (t : History) → Lawful t → Fresh t → (h : List Entry) (c : View) → Begins t h → Reaches m origin t h c → Facts m origin t (length h) c
facts m origin t lawful fresh _ _ begun (reaching.begins h c is new) = record {
  clock = record { read = λ b e. absurd (cc (new.now, e)); most = λ j ms at lt. let l : length h ≡ 0 = rw is refl in absurd (omega (arith, lt, l)) };
  calls = record { waits = λ x k s w e. absurd (cc (new.wait x, w)); taken = λ x k s w e. absurd (cc (new.taken x, w)) };
  attrs = λ object k e. absurd (cc (new.attrs object, e));
  names = λ q k e. absurd (cc (new.names q, e));
  spots = λ w object e. absurd (cc (new.spots w, e));
  found = λ w f e. absurd (cc (new.found w, e));
  shown = λ w attr e. absurd (cc (new.shown w, e));
}
facts m origin t lawful fresh _ _ begun (reaching.moves h c b r move) = move_facts m origin t lawful fresh h b c (front_within t h begun) (were_taken m origin t lawful h b begun r) move (facts m origin t lawful fresh h b begun r)
facts m origin t lawful fresh _ _ begun (reaching.enters h c front b e r is step) =
    let all : Begins t (front ++ e ∷ []) = rw is at begun in
    rw (is, length_last front e) (entry_facts m origin t (length front) b c e (last_told t front e all) step (facts m origin t lawful fresh front b (before_begins t front e all) r))
