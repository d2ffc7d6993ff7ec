-- What the pages of a listing show, each read after the one before it came: every name was there, and each entry that isn't among them has a cookie
-- above the one to go on from.
use Rattle.core_answers.proofs.Prelude.{inl, inr, ◌⊎◌, ◌≡◌, ◌≢◌, ◌<◌, ◌≤◌, ℕ, suc, Bool, true, false, List, [], ◌++◌, length, map, filter, not, Contains, Option, Some, slice_get, sym, ap, subst, ◌∙◌, arith, filter-append, map-append, Attr, Verf, PlusRow, Entry, Executed, LastCookie, names_of, list_call, page_reply, History, Lawful, Numbered, IsAnswered}
use Rattle.std.proofs.Common.{All}
use Rattle.std.proofs.lemmas.List.Elements.{Contains-append_left, Contains-append_right, Contains-append_cases}
use Rattle.world_model.specs.Names.{parent_name, is_dots}
use Rattle.claims.specs.Recent.{NameAt}
use Rattle.world_model.specs.Rising as rise
use Rattle.world_model.specs.Rising.{NameRow, Rising, plus_rows}
use Rattle.world_model.specs.Server as servers
use Rattle.world_model.specs.Server.{Listed, Entries, Object, Lists, Names}
use Rattle.world_model.specs.ListService.{IsPlusRowOf, ListsObjects}
use Rattle.world_model.proofs.Doing.{list_done}
use Rattle.model_walks.proofs.Cookies.{one_list, cookies_rise}
use Rattle.model_walks.proofs.Members.{In, row_in, row_named, name_listed, last_row}
use Rattle.model_walks.proofs.RepliesShow.{all_at}
use Rattle.core_answers.proofs.bonds.Executions.{Ran, answered-ran}

-- ---- pages, one after the other

-- Pages of the directory, and with them these entries: each was asked for after the one before it had come, from its last cookie and its verifier. All
-- came before the place n, and the page after them is to be asked from this cookie and verifier.
pub data Pages (h : List Entry) (x : ℕ) (d : List ℕ) : ℕ → List PlusRow → ℕ → Verf → Type 0 where
  none : (n : ℕ) (rows : List PlusRow) (cookie : ℕ) (verf : Verf) → n ≡ x → rows ≡ [] → cookie ≡ 0 → Pages h x d n rows cookie verf
  more : (n was since : ℕ) (rows before page : List PlusRow) (cookie from : ℕ) (verf with_ : Verf) (attr : Option Attr) (eof : Bool) → Pages h x d was before from with_ → was ≤ since
      → n ≤ length h → IsAnswered h since n (list_call d from with_) (page_reply attr verf page eof) → LastCookie page cookie → rows ≡ before ++ page → Pages h x d n rows cookie verf

pub names-both : (a b : List PlusRow) → names_of (a ++ b) ≡ names_of a ++ names_of b
names-both a b = ap (filter (λ name. not (is_dots name))) (map-append (λ (row : PlusRow). row.name) a b)
    ∙ filter-append (λ name. not (is_dots name)) (map (λ (row : PlusRow). row.name) a) (map (λ (row : PlusRow). row.name) b)

-- ---- what they show

dots-parent : (name : List ℕ) → is_dots name ≡ false → name ≢ parent_name
dots-parent name dots same = differ (sym dots ∙ ap is_dots same)
  where
    differ : false ≡ is_dots parent_name → ⊥
    differ e = absurd (cc e)

module _ (t : History) (lawful : Lawful t) (rising : Rising t) (numbered : Numbered t.entries) (x : ℕ) (d : List ℕ) where
  -- the directory held the name at a moment between
  pub record WasThere (to : ℕ) (name : List ℕ) : Type 0 where
    pub n : ℕ
    pub late : x ≤ n
    pub soon : n ≤ to
    pub there : NameAt t n d name

  -- at each moment from n on an entry is among the names, or has a cookie above the one to go on from
  abbrev pub Above : ℕ → ℕ → List (List ℕ) → Type 0
  Above n cookie names = (k : ℕ) → n ≤ k → k ≤ length t.entries → (o : Object) (list : List Listed) (e : Listed) → (t.at k).object d ≡ Some o → o.holds ≡ Entries list → Lists list e
      → is_dots e.name ≡ false → Contains names e.name ⊎ (cookie < e.cookie)

  pub record Known (n cookie : ℕ) (names : List (List ℕ)) : Type 0 where
    pub began : x ≤ n
    pub were : (name : List ℕ) → Contains names name → WasThere n name
    pub above : Above n cookie names

  -- at a moment the names were all that the directory held
  pub record Full (to : ℕ) (names : List (List ℕ)) : Type 0 where
    pub n : ℕ
    pub late : x ≤ n
    pub soon : n ≤ to
    pub all : (name : List ℕ) → is_dots name ≡ false → NameAt t n d name → Contains names name

  cookies-count : (n : ℕ) → n ≤ length t.entries → (o : Object) (list : List Listed) (e : Listed) → (t.at n).object d ≡ Some o → o.holds ≡ Entries list → Lists list e → 0 < e.cookie
  cookies-count n within o list e is holds listed = by (lawful.servers n within d o is)
    where
      list-is : (a b : List Listed) → Entries a ≡ Entries b → a ≡ b
      list-is a b q = cc

      by : servers.IsSound o → 0 < e.cookie
      by (servers.file now stable h kind size less) = absurd (cc (h, holds))
      by (servers.directory others h kind all) =
          let same : list ≡ others = list-is list others (sym holds ∙ h) in
          let low = all_at (λ (z : Listed). 1 ≤ z.cookie) others listed.0 e all (subst (λ z. slice_get z listed.0 ≡ Some e) same listed.1) in
          omega (arith, low)
      by (servers.other text h a b) = absurd (cc (h, holds))

  begun : Known x 0 []
  begun = record {
    began = omega arith;
    were = λ name has. let low = has.1 in absurd (omega (arith, low));
    above = λ k low within o list e there holds listed dots. inr (cookies-count k within o list e there holds listed);
  }

  -- ---- one page more

  module _ (n from : ℕ) (names : List (List ℕ)) (before : Known n from names) (since to : ℕ) (after : n ≤ since) (within : to ≤ length t.entries) (with_ verf : Verf) (attr : Option Attr)
      (page : List PlusRow) (eof : Bool) (answered : IsAnswered t.entries since to (list_call d from with_) (page_reply attr verf page eof)) where
    ran : Ran t since to (list_call d from with_) (page_reply attr verf page eof)
    ran = answered-ran t lawful numbered since to (list_call d from with_) (page_reply attr verf page eof) tt answered

    done : ListsObjects (t.at ran.place) (t.at (suc ran.place)) d attr page eof
    done = list_done (t.at ran.place) (t.at (suc ran.place)) d from with_ 8192 32768 attr verf page eof
        (lawful.entries ran.place (Executed ran.xid (list_call d from with_) (page_reply attr verf page eof)) ran.at).1

    abbrev dir : Object
    dir = done.reads.looks.reads.object

    there : (t.at ran.place).object d ≡ Some dir
    there = done.reads.looks.reads.turns.has.is

    rises : rise.Rises done.entries from (plus_rows page) eof
    rises = rising.pages ran.place ran.xid (list_call d from with_) (page_reply attr verf page eof) ran.at dir done.entries there done.reads.holds

    late : n ≤ ran.place
    late = let low = ran.late in omega (arith, low, after)

    early : ran.place ≤ length t.entries
    early = let soon = ran.before in omega (arith, soon, within)

    -- an entry that the directory had as the page was read
    had : (e : Listed) → Lists done.entries e → is_dots e.name ≡ false → Contains names e.name ⊎ (from < e.cookie)
    had e listed dots = before.above ran.place late early dir done.entries e there done.reads.holds listed dots

    left : (name : List ℕ) → Contains names name → Contains (names ++ names_of page) name
    left name r = Contains-append_left names (names_of page) name r

    right : (e : Listed) → is_dots e.name ≡ false → Contains (plus_rows page) (record { name = e.name; cookie = e.cookie }) → Contains (names ++ names_of page) e.name
    right e dots r = Contains-append_right names (names_of page) e.name (name_listed page e.name e.cookie dots r)

    row-there : (row : PlusRow) → In page row → IsPlusRowOf (t.at (suc ran.place)) done.entries row
    row-there row r = all_at (IsPlusRowOf (t.at (suc ran.place)) done.entries) page r.0 row done.each r.1

    pub listed-there : (name : List ℕ) → Contains (names ++ names_of page) name → WasThere to name
    listed-there name r = elim (Contains-append_cases names (names_of page) name r) [
      | inl a ↦
          let q = before.were name a in
          let s = q.soon in
          let p = late in
          let b = ran.before in
          record { n = q.n; late = q.late; soon = omega (arith, s, p, b); there = q.there }
      | inr a ↦
          let row = row_named page name a in
          let one = (row-there row.0 row.1).entry in
          let held : Names (t.at ran.place) d row.0.name one.object = record { dir = dir; entries = done.entries; cookie = row.0.cookie; is = there; holds = done.reads.holds; listed = one.listed } in
          let began = before.began in
          let p = late in
          let b = ran.before in
          record { n = ran.place; late = omega (arith, began, p); soon = omega (arith, b); there = (one.object, subst (λ z. Names (t.at ran.place) d z one.object) row.2 held) }
    ]

    -- the last row's cookie
    below : (last cookie : ℕ) → LastCookie page last → ((row : PlusRow) → In page row → row.cookie < cookie) → last < cookie
    below last cookie l less = let r = last_row page last l in let lt = less r.0 r.1 in let same = r.2 in omega (arith, lt, same)

    above-next : (cookie : ℕ) → LastCookie page cookie → Above to cookie (names ++ names_of page)
    above-next cookie last k low high o list e now holds listed dots = by
        (cookies_rise t lawful rising d ran.place k (let b = ran.before in omega (arith, b, low)) high dir done.entries there done.reads.holds o list now holds e listed (dots-parent e.name dots))
      where
        on : (Contains (plus_rows page) (record { name = e.name; cookie = e.cookie })) ⊎ (All (λ (r : NameRow). r.cookie < e.cookie) (plus_rows page))
            → Contains (names ++ names_of page) e.name ⊎ (cookie < e.cookie)
        on (inl r) = inl (right e dots r)
        on (inr all) = inr (below cookie e.cookie last
            (λ row r. let q = row_in page row r in all_at (λ (z : NameRow). z.cookie < e.cookie) (plus_rows page) q.0 (record { name = row.name; cookie = row.cookie }) all q.1))

        of : Lists done.entries e → Contains names e.name ⊎ (from < e.cookie) → Contains (names ++ names_of page) e.name ⊎ (cookie < e.cookie)
        of was_listed (inl r) = inl (left e.name r)
        of was_listed (inr lt) = on (rises.whole e was_listed lt)

        by : Lists done.entries e ⊎ ((g : Listed) → Lists done.entries g → g.cookie < e.cookie) → Contains (names ++ names_of page) e.name ⊎ (cookie < e.cookie)
        by (inl was_listed) = of was_listed (had e was_listed dots)
        by (inr new) = inr (below cookie e.cookie last
            (λ row r. let one = (row-there row r).entry in new (record { name = row.name; object = one.object; cookie = row.cookie }) one.listed))

    pub paged : (cookie : ℕ) → LastCookie page cookie → Known to cookie (names ++ names_of page)
    paged cookie last =
        let began = before.began in
        let p = late in
        let b = ran.before in
        record { began = omega (arith, began, p, b); were = listed-there; above = above-next cookie last }

    pub full : eof ≡ true → Full to (names ++ names_of page)
    full ends = record {
      n = ran.place;
      late = let began = before.began in let p = late in omega (arith, began, p);
      soon = let b = ran.before in omega (arith, b);
      all = λ name dots at.
          let held = at.1 in
          let same = one_list t ran.place d held.dir dir held.entries done.entries held.is there held.holds done.reads.holds in
          by name dots at.0 held.cookie (subst (λ z. Lists z (record { name = name; object = at.0; cookie = held.cookie })) same held.listed);
    }
      where
        by : (name : List ℕ) → is_dots name ≡ false → (object : List ℕ) (cookie : ℕ) → Lists done.entries (record { name = name; object = object; cookie = cookie })
            → Contains (names ++ names_of page) name
        by name dots object cookie listed = elim (had (record { name = name; object = object; cookie = cookie }) listed dots) [
          | inl r ↦ left name r
          | inr lt ↦ right (record { name = name; object = object; cookie = cookie }) dots (rises.last ends (record { name = name; object = object; cookie = cookie }) listed lt)
        ]

  -- ---- all pages

  pub pages-known : (n : ℕ) (rows : List PlusRow) (cookie : ℕ) (verf : Verf) → Pages t.entries x d n rows cookie verf → Known n cookie (names_of rows)
  pages-known _ _ _ _ (none n rows cookie verf at is zero_is) =
      subst (λ (m : ℕ). Known m cookie (names_of rows)) (sym at) (subst (λ (c : ℕ). Known x c (names_of rows)) (sym zero_is) (subst (λ (rs : List PlusRow). Known x 0 (names_of rs)) (sym is) begun))
  pages-known _ _ _ _ (more n was since rows before page cookie from verf with_ attr eof p after within answered last is) =
      subst (λ (rs : List PlusRow). Known n cookie (names_of rs)) (sym is)
      (subst (λ (ns : List (List ℕ)). Known n cookie ns) (sym (names-both before page))
      (paged was from (names_of before) (pages-known was before from with_ p) since n after within with_ verf attr page eof answered cookie last))
