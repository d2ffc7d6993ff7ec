-- What a listing has so far is true: each name was there, and each entry that isn't among them has a cookie above the one to go on from.
use Rattle.std.proofs.Common.{inl, inr, ◌⊎◌, ◌≡◌, ◌≢◌, ◌<◌, ◌≤◌, ℕ, suc, true, false, List, [], ◌∷◌, ◌++◌, length, Contains, All, Some, slice_get, sym, ap, subst, ◌∙◌, arith}
use Rattle.std.proofs.lemmas.List.Elements.{Contains-append_left, Contains-append_right, Contains-append_cases}
use Rattle.nfs_dir_calls.specs.declared.call.DirCall.TheVariants as dirs
use Rattle.nfs_dir_calls.specs.declared.keeping.DirKept.TheVariants as found
use Rattle.nfs_dir_calls.specs.declared.plus_page.PlusRow.{PlusRow}
use Rattle.world_model.specs.declared.entry.Entry.{Entry}
use Rattle.world_model.specs.declared.entry.Entry.TheVariants as entries
use Rattle.world_model.specs.declared.message.Call.TheVariants as calls
use Rattle.world_model.specs.declared.message.Reply.TheVariants as answers
use Rattle.world_model.specs.Chains.{LastCookie, names_of}
use Rattle.world_model.specs.Fresh.{Fresh}
use Rattle.world_model.specs.History.{History}
use Rattle.world_model.specs.Lawful.{Lawful}
use Rattle.claims.specs.Modes.{Modes}
use Rattle.world_model.specs.Mounts.{Origin}
use Rattle.world_model.specs.Names.{parent_name, is_dots}
use Rattle.claims.specs.Recent.{NameAt}
use Rattle.world_model.specs.Rising.{NameRow, Rises, Rising, plus_rows}
use Rattle.world_model.specs.Server as servers
use Rattle.world_model.specs.Server.{Listed, Entries, Object, Lists, Names}
use Rattle.world_model.specs.ListService.{IsPlusRowOf, ListsObjects}
use Rattle.world_model.proofs.Doing.{list_done}
use Rattle.model_walks.specs.Machine as machine
use Rattle.model_walks.specs.Machine.{View, Walk, Listing, BeginsList, TakesPage, Move, Enters}
use Rattle.model_walks.specs.Reaches as reaching
use Rattle.model_walks.specs.Reaches.{Reaches}
use Rattle.model_walks.proofs.Calling.{Was}
use Rattle.model_walks.proofs.Cookies.{one_list, cookies_rise}
use Rattle.model_walks.proofs.Facts.{Facts, AllWere, facts, front_within, were_taken}
use Rattle.model_walks.proofs.Fronts.{Begins, length_last, before_begins}
use Rattle.model_walks.proofs.Members.{In, row_in, row_named, name_listed, last_row}
use Rattle.model_walks.proofs.RepliesShow.{all_at}
use Rattle.model_walks.proofs.Times.{Led, led_later}

-- the directory held the name at a moment between
pub record WasThere (t : History) (from to : ℕ) (d name : List ℕ) : Type 0 where
  pub n : ℕ
  pub late : from ≤ n
  pub soon : n ≤ to
  pub there : NameAt t n d name

-- at each moment since the last page came, an entry is among the names, or has a cookie above the one to go on from
abbrev pub Above : History → Listing → Type 0
Above t l = (n : ℕ) → l.since ≤ n → n ≤ length t.entries → (o : Object) (list : List Listed) (e : Listed) → (t.at n).object l.dir ≡ Some o → o.holds ≡ Entries list → Lists list e → is_dots e.name ≡ false
    → Contains l.names e.name ⊎ (l.cookie < e.cookie)

-- at a moment the names are all that the directory held
pub record Full (t : History) (x : ℕ) (l : Listing) : Type 0 where
  pub n : ℕ
  pub late : x ≤ n
  pub soon : n ≤ l.since
  pub all : (name : List ℕ) → is_dots name ≡ false → NameAt t n l.dir name → Contains l.names name

pub record ListFact (m : Modes) (origin : Origin) (t : History) (p : ℕ) (w : Walk) (l : Listing) : Type 0 where
  pub led : Led m origin t w.op p w.path l.dir
  pub began : w.op ≤ l.since
  pub came : l.since < p
  pub were : (name : List ℕ) → Contains l.names name → WasThere t w.op l.since l.dir name
  pub above : l.ended ≡ false → Above t l
  pub full : l.ended ≡ true → Full t w.op l

abbrev pub ListFacts : Modes → Origin → History → ℕ → View → Type 0
ListFacts m origin t p c = (w : Walk) (l : Listing) → c.lists w ≡ Some l → ListFact m origin t p w l

fact_later : (m : Modes) (origin : Origin) (t : History) (p q : ℕ) (w : Walk) (l : Listing) → p ≤ q → ListFact m origin t p w l → ListFact m origin t q w l
fact_later m origin t p q w l le f = record { led = led_later m origin t w.op p q w.path l.dir le f.led; began = f.began; came = let c = f.came in omega (arith, c, le); were = f.were; above = f.above; full = f.full }

no_true : false ≡ true → ⊥
no_true e = cc e

-- ---- a listing begins

cookies_count : (t : History) → Lawful t → (n : ℕ) → n ≤ length t.entries → (d : List ℕ) (o : Object) (list : List Listed) (e : Listed) → (t.at n).object d ≡ Some o → o.holds ≡ Entries list → Lists list e → 0 < e.cookie
cookies_count t l n within d o list e is holds listed = by (l.servers n within d o is)
  where
    list_is : (a b : List Listed) → Entries a ≡ Entries b → a ≡ b
    list_is a b q = cc

    by : servers.IsSound o → 0 < e.cookie
    by (servers.file now stable h kind size less) = absurd (cc (h, holds))
    by (servers.directory others h kind all) = let same : list ≡ others = list_is list others (sym holds ∙ h) in let low = all_at (λ (z : Listed). 1 ≤ z.cookie) others listed.0 e all (subst (λ z. slice_get z listed.0 ≡ Some e) same listed.1) in omega (arith, low)
    by (servers.other text h a b) = absurd (cc (h, holds))

list_begun : (m : Modes) (origin : Origin) (t : History) → Lawful t → (p : ℕ) (b c : View) → BeginsList b c → Facts m origin t p b → ListFacts m origin t p b → ListFacts m origin t p c
list_begun m origin t lawful p b c k f old w l is = elim (k.lists w l is) [
  | inl before ↦ old w l before
  | inr new ↦ rw (new.1, new.0) start
]
  where
    start : ListFact m origin t p (record { op = k.op; path = k.path }) (record { dir = k.d; cookie = 0; names = []; since = k.op; ended = false })
    start = let s = f.spots (record { op = k.op; path = k.path }) k.d k.stands in record {
      led = s.led;
      began = omega arith;
      came = s.began;
      were = λ name none. let low = none.1 in absurd (omega (arith, low));
      above = λ go n low within o list e there holds listed dots. inr (cookies_count t lawful n within k.d o list e there holds listed);
      full = λ e. absurd (no_true e);
    }

-- ---- a page comes

dots_parent : (name : List ℕ) → is_dots name ≡ false → name ≢ parent_name
dots_parent name dots same = differ (sym dots ∙ ap is_dots same)
  where
    differ : false ≡ is_dots parent_name → ⊥
    differ e = absurd (cc e)

page_taken : (m : Modes) (origin : Origin) (t : History) → Lawful t → Rising t → (h : List Entry) (b c : View) → length h ≤ length t.entries → AllWere t h b.calls → TakesPage b c → ListFacts m origin t (length h) b → ListFacts m origin t (length h) c
page_taken m origin t lawful rising h b c within were k old w l is = elim (k.lists w l is) [
  | inl before ↦ old w l before
  | inr new ↦ rw (new.1, new.0) next
]
  where
    f : ListFact m origin t (length h) k.walk k.before
    f = old k.walk k.before k.was

    was : Was t h k.came.xid (record { call = calls.Dir (dirs.ReadDirPlus k.before.dir k.before.cookie k.verf k.dircount k.maxcount); at = k.came.at; time = k.came.time; reply = answers.Dir (found.ReadDirPlus k.attr k.check k.rows k.eof); came = k.came.place })
    was = were k.came.xid _ k.came.is

    place : ℕ
    place = was.ran.place

    done : ListsObjects (t.at place) (t.at (suc place)) k.before.dir k.attr k.rows k.eof
    done = list_done (t.at place) (t.at (suc place)) k.before.dir k.before.cookie k.verf k.dircount k.maxcount k.attr k.check k.rows k.eof (lawful.entries place _ was.ran.at).1

    dir : Object
    dir = done.reads.looks.reads.object

    there : (t.at place).object k.before.dir ≡ Some dir
    there = done.reads.looks.reads.turns.has.is

    rises : Rises done.entries k.before.cookie (plus_rows k.rows) k.eof
    rises = rising.pages place k.came.xid _ _ was.ran.at dir done.entries there done.reads.holds

    after : k.before.since ≤ place
    after = let late = was.ran.late in let a = k.after in omega (arith, late, a)

    soon : place < k.came.place
    soon = was.ran.before

    early : place ≤ length t.entries
    early = let e = was.early in omega (arith, soon, e, within)

    -- an entry that the directory had as the page was read
    had : (e : Listed) → Lists done.entries e → is_dots e.name ≡ false → Contains k.before.names e.name ⊎ (k.before.cookie < e.cookie)
    had e listed dots = f.above k.unended place after early dir done.entries e there done.reads.holds listed dots

    left : (name : List ℕ) → Contains k.before.names name → Contains (k.before.names ++ names_of k.rows) name
    left name r = Contains-append_left k.before.names (names_of k.rows) name r

    right : (e : Listed) → is_dots e.name ≡ false → Contains (plus_rows k.rows) (record { name = e.name; cookie = e.cookie }) → Contains (k.before.names ++ names_of k.rows) e.name
    right e dots r = Contains-append_right k.before.names (names_of k.rows) e.name (name_listed k.rows e.name e.cookie dots r)

    row_there : (row : PlusRow) → In k.rows row → IsPlusRowOf (t.at (suc place)) done.entries row
    row_there row r = all_at (IsPlusRowOf (t.at (suc place)) done.entries) k.rows r.0 row done.each r.1

    listed_there : (name : List ℕ) → Contains (k.before.names ++ names_of k.rows) name → WasThere t k.walk.op k.came.place k.before.dir name
    listed_there name r = elim (Contains-append_cases k.before.names (names_of k.rows) name r) [
      | inl a ↦ let q = f.were name a in let s = q.soon in record { n = q.n; late = q.late; soon = omega (arith, s, after, soon); there = q.there }
      | inr a ↦
          let row = row_named k.rows name a in
          let one = (row_there row.0 row.1).entry in
          let held : Names (t.at place) k.before.dir row.0.name one.object = record { dir = dir; entries = done.entries; cookie = row.0.cookie; is = there; holds = done.reads.holds; listed = one.listed } in
          let began = f.began in
          record { n = place; late = omega (arith, began, after); soon = omega (arith, soon); there = (one.object, subst (λ z. Names (t.at place) k.before.dir z one.object) row.2 held) }
    ]

    -- the last row's cookie, where the directory goes on
    below : (cookie : ℕ) → LastCookie k.rows k.cookie → ((row : PlusRow) → In k.rows row → row.cookie < cookie) → k.cookie < cookie
    below cookie last less = let r = last_row k.rows k.cookie last in let lt = less r.0 r.1 in let same = r.2 in omega (arith, lt, same)

    above : k.eof ≡ false → Above t (record { dir = k.before.dir; cookie = k.cookie; names = k.before.names ++ names_of k.rows; since = k.came.place; ended = k.eof })
    above goes n low high o list e now holds listed dots = by (cookies_rise t lawful rising k.before.dir place n (omega (arith, soon, low)) high dir done.entries there done.reads.holds o list now holds e listed (dots_parent e.name dots))
      where
        on : (Contains (plus_rows k.rows) (record { name = e.name; cookie = e.cookie })) ⊎ (All (λ (r : NameRow). r.cookie < e.cookie) (plus_rows k.rows)) → Contains (k.before.names ++ names_of k.rows) e.name ⊎ (k.cookie < e.cookie)
        on (inl r) = inl (right e dots r)
        on (inr all) = inr (below e.cookie (k.last goes) (λ row r. let q = row_in k.rows row r in all_at (λ (z : NameRow). z.cookie < e.cookie) (plus_rows k.rows) q.0 (record { name = row.name; cookie = row.cookie }) all q.1))

        of : Lists done.entries e → Contains k.before.names e.name ⊎ (k.before.cookie < e.cookie) → Contains (k.before.names ++ names_of k.rows) e.name ⊎ (k.cookie < e.cookie)
        of was_listed (inl r) = inl (left e.name r)
        of was_listed (inr lt) = on (rises.whole e was_listed lt)

        by : Lists done.entries e ⊎ ((g : Listed) → Lists done.entries g → g.cookie < e.cookie) → Contains (k.before.names ++ names_of k.rows) e.name ⊎ (k.cookie < e.cookie)
        by (inl was_listed) = of was_listed (had e was_listed dots)
        by (inr new) = inr (below e.cookie (k.last goes) (λ row r. let one = (row_there row r).entry in new (record { name = row.name; object = one.object; cookie = row.cookie }) one.listed))

    full : k.eof ≡ true → Full t k.walk.op (record { dir = k.before.dir; cookie = k.cookie; names = k.before.names ++ names_of k.rows; since = k.came.place; ended = k.eof })
    full ends = let began = f.began in record {
      n = place;
      late = omega (arith, began, after);
      soon = omega (arith, soon);
      all = λ name dots at.
          let held = at.1 in
          let same = one_list t place k.before.dir held.dir dir held.entries done.entries held.is there held.holds done.reads.holds in
          by name dots at.0 held.cookie (subst (λ z. Lists z (record { name = name; object = at.0; cookie = held.cookie })) same held.listed);
    }
      where
        by : (name : List ℕ) → is_dots name ≡ false → (object : List ℕ) (cookie : ℕ) → Lists done.entries (record { name = name; object = object; cookie = cookie }) → Contains (k.before.names ++ names_of k.rows) name
        by name dots object cookie listed = elim (had (record { name = name; object = object; cookie = cookie }) listed dots) [
          | inl r ↦ left name r
          | inr lt ↦ right (record { name = name; object = object; cookie = cookie }) dots (rises.last ends (record { name = name; object = object; cookie = cookie }) listed lt)
        ]

    next : ListFact m origin t (length h) k.walk (record { dir = k.before.dir; cookie = k.cookie; names = k.before.names ++ names_of k.rows; since = k.came.place; ended = k.eof })
    next = let began = f.began in record { led = f.led; began = omega (arith, began, after, soon); came = was.early; were = listed_there; above = above; full = full }

-- ---- steps

same_lists : (m : Modes) (origin : Origin) (t : History) (p : ℕ) (b c : View) → c.lists ≡ b.lists → ListFacts m origin t p b → ListFacts m origin t p c
same_lists m origin t p b c same f w l is = f w l (ap (λ z. z w) (sym same) ∙ is)

entry_lists : (m : Modes) (origin : Origin) (t : History) (n : ℕ) (b c : View) (e : Entry) → Enters m origin t n b e c → c.lists ≡ b.lists
entry_lists m origin t n b c (entries.Began lane line op) (inl s) = ap (λ (z : View). z.lists) s
entry_lists m origin t n b c (entries.Began lane line op) (inr s) = ap (λ (z : View). z.lists) s.others
entry_lists m origin t n b c (entries.Answered lane line answer) s = ap (λ (z : View). z.lists) s.same
entry_lists m origin t n b c (entries.Sent bytes) s = ap (λ (z : View). z.lists) s.others
entry_lists m origin t n b c (entries.Delivered bytes) s = ap (λ (z : View). z.lists) s.others
entry_lists m origin t n b c (entries.Clock ms) s = ap (λ (z : View). z.lists) s.others
entry_lists m origin t n b c (entries.Dialed port) s = ap (λ (z : View). z.lists) s
entry_lists m origin t n b c (entries.Executed xid call reply) s = ap (λ (z : View). z.lists) s
entry_lists m origin t n b c (entries.Foreign call reply) s = ap (λ (z : View). z.lists) s
entry_lists m origin t n b c (entries.Flushed g start count) s = ap (λ (z : View). z.lists) s
entry_lists m origin t n b c (entries.Reboot verf) s = ap (λ (z : View). z.lists) s
entry_lists m origin t n b c entries.Failed s = ap (λ (z : View). z.lists) s

move_lists : (m : Modes) (origin : Origin) (t : History) → Lawful t → Rising t → (h : List Entry) (b c : View) → length h ≤ length t.entries → AllWere t h b.calls → Move m (length h) b c → Facts m origin t (length h) b → ListFacts m origin t (length h) b → ListFacts m origin t (length h) c
move_lists m origin t lawful rising h b c within were (machine.makes_call k) f old = same_lists m origin t (length h) b c (ap (λ (z : View). z.lists) k.others) old
move_lists m origin t lawful rising h b c within were (machine.learns_attr k) f old = same_lists m origin t (length h) b c (ap (λ (z : View). z.lists) k.others) old
move_lists m origin t lawful rising h b c within were (machine.learns_name k) f old = same_lists m origin t (length h) b c (ap (λ (z : View). z.lists) k.others) old
move_lists m origin t lawful rising h b c within were (machine.forgets k) f old = same_lists m origin t (length h) b c (ap (λ (z : View). z.lists) k.others) old
move_lists m origin t lawful rising h b c within were (machine.looks_up k) f old = same_lists m origin t (length h) b c (ap (λ (z : View). z.lists) k.goes.others) old
move_lists m origin t lawful rising h b c within were (machine.goes_by_name k) f old = same_lists m origin t (length h) b c (ap (λ (z : View). z.lists) k.goes.others) old
move_lists m origin t lawful rising h b c within were (machine.finds_file k) f old = same_lists m origin t (length h) b c (ap (λ (z : View). z.lists) k.others) old
move_lists m origin t lawful rising h b c within were (machine.shows_object k) f old = same_lists m origin t (length h) b c (ap (λ (z : View). z.lists) k.others) old
move_lists m origin t lawful rising h b c within were (machine.begins_list k) f old = list_begun m origin t lawful (length h) b c k f old
move_lists m origin t lawful rising h b c within were (machine.takes_page k) f old = page_taken m origin t lawful rising h b c within were k old

pub lists_true : (m : Modes) (origin : Origin) (t : History) → Lawful t → Fresh t → Rising t → (h : List Entry) (c : View) → Begins t h → Reaches m origin t h c → ListFacts m origin t (length h) c
lists_true m origin t lawful fresh rising _ _ begun (reaching.begins h c is new) w l e = absurd (cc (new.lists w, e))
lists_true m origin t lawful fresh rising _ _ begun (reaching.moves h c b r move) w l e =
    move_lists m origin t lawful rising h b c (front_within t h begun) (were_taken m origin t lawful h b begun r) move (facts m origin t lawful fresh h b begun r) (lists_true m origin t lawful fresh rising h b begun r) w l e
lists_true m origin t lawful fresh rising _ _ begun (reaching.enters h c front b e r is step) w l at =
    let all : Begins t (front ++ e ∷ []) = rw is at begun in
    let long : length h ≡ suc (length front) = rw is (length_last front e) in
    fact_later m origin t (length front) (length h) w l (omega (arith, long)) (same_lists m origin t (length front) b c (entry_lists m origin t (length front) b c e step) (lists_true m origin t lawful fresh rising front b (before_begins t front e all) r) w l at)
