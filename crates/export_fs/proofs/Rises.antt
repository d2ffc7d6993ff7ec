-- Pages of a directory give cookies that rise, and a new entry has a cookie above all before it (RFC 1813, section 3.3.16).
use Rattle.std.proofs.Common.{◌≡◌, ◌<◌, ◌≤◌, ◌+◌, ◌⊎◌, ℕ, zero, suc, true, false, List, [], ◌∷◌, ◌++◌, length, map, Some, refl, sym, ap, subst, ◌∙◌, arith, inl, inr, ⊎_elim, ◌==◌, slice_get, All, AllPairs, nat_lt, nat_le, length-append}
use Rattle.std.specs.Prelude.{Contains}
use Rattle.std.proofs.lemmas.Bool.{cases_Bool, cond_both, or_parts, ltb-true, lt-ltb, eqb-true}
use Rattle.std.proofs.lemmas.List.Elements.{All-nil, All-cons, All-weaker}
use Rattle.std.proofs.lemmas.List.Kept.{AllPairs-cons}
use Rattle.nfs_dir_calls.specs.declared.call.DirCall.{DirCall}
use Rattle.nfs_dir_calls.specs.declared.call.DirCall.TheVariants as dirs
use Rattle.nfs_dir_calls.specs.declared.keeping.DirKept.{DirKept}
use Rattle.nfs_dir_calls.specs.declared.plus_page.PlusRow.{PlusRow}
use Rattle.world_model.specs.declared.message.Call.{Call}
use Rattle.world_model.specs.declared.message.Call.TheVariants as calls
use Rattle.world_model.specs.declared.message.Reply.TheVariants as replies
use Rattle.world_model.specs.Server.{Listed, Entries, Object, Lists}
use Rattle.world_model.specs.Rising.{NameRow, row_of, plus_rows, Rises, RisesIn, RisesAt}
use Rattle.export_fs.specs.declared.node.Node.{Node}
use Rattle.export_fs.specs.Held.{Row}
use Rattle.export_fs.specs.View.{View}
use Rattle.export_fs.specs.Parts.{place_of, at_place, not_gone, object, rows_in, rows_of}
use Rattle.export_fs.specs.Refusals.{is_stale, dir_refusal}
use Rattle.export_fs.specs.Kept.{is_rising, top}
use Rattle.export_fs.specs.Pages.{rows_after, listed, spelled_size, fitting, page_of, most_page}
use Rattle.export_fs.specs.After.{after_dir}
use Rattle.export_fs.specs.Answer.{dir_answer, dir_refused}
use Rattle.export_fs.specs.Executed.{executed}
use Rattle.export_fs.specs.Seen.{server_of, entry_of}
use Rattle.export_fs.specs.Stamped.{Stamped, HasRow}
use Rattle.export_fs.proofs.Cookies.{rises, rising_from, top_above, all_after}
use Rattle.export_fs.proofs.RefusalTable.{dir_passes}
use Rattle.export_fs.proofs.Handles.{place_is}
use Rattle.export_fs.proofs.ServerOfExport.{seen_by_place}
use Rattle.export_fs.proofs.Fresh.{held_entries}

-- ---- rows that rise

-- each has a cookie above
row_above : (low : ℕ) (rows : List Row) → is_rising low rows ≡ true → (at : ℕ) (row : Row) → slice_get rows at ≡ Some row → low < row.cookie
row_above low [] h at row e = absurd (cc)
row_above low (r ∷ rows) h zero row e = let p = rises low r rows h in let s : r ≡ row = cc in subst (λ (z : Row). low < z.cookie) s p.0
row_above low (r ∷ rows) h (suc at) row e = let p = rises low r rows h in omega (arith, row_above r.cookie rows p.1 at row e)

-- each has a cookie up to the last
pub row_within : (low : ℕ) (rows : List Row) → is_rising low rows ≡ true → (at : ℕ) (row : Row) → slice_get rows at ≡ Some row → row.cookie ≤ top low rows
row_within low [] h at row e = absurd (cc)
row_within low (r ∷ rows) h zero row e = let p = rises low r rows h in let s : r ≡ row = cc in subst (λ (z : Row). z.cookie ≤ top r.cookie rows) s (top_above r.cookie rows p.1)
row_within low (r ∷ rows) h (suc at) row e = let p = rises low r rows h in row_within r.cookie rows p.1 at row e

rest_above : (low : ℕ) (front rest : List Row) → is_rising low (front ++ rest) ≡ true → (row : Row) → HasRow rest row → low < row.cookie
rest_above low [] rest h row e = row_above low rest h e.0 row e.1
rest_above low (g ∷ front) rest h row e = let q = rises low g (front ++ rest) h in omega (arith, rest_above g.cookie front rest q.1 row e)

-- what a page shows of a row
abbrev name_row : Row → NameRow
name_row row = record { name = row.name; cookie = row.cookie }

-- those of the front are below each of the rest
front_below : (low : ℕ) (front rest : List Row) → is_rising low (front ++ rest) ≡ true → (row : Row) → HasRow rest row → All (λ (z : NameRow). z.cookie < row.cookie) (map name_row front)
front_below low [] rest h row e = All-nil (λ (z : NameRow). z.cookie < row.cookie)
front_below low (f ∷ front) rest h row e =
    let p = rises low f (front ++ rest) h in
    All-cons (λ (z : NameRow). z.cookie < row.cookie) (name_row f) (map name_row front) (rest_above f.cookie front rest p.1 row e) (front_below f.cookie front rest p.1 row e)

front_rises : (low : ℕ) (front rest : List Row) → is_rising low (front ++ rest) ≡ true → is_rising low front ≡ true
front_rises low [] rest h = refl
front_rises low (f ∷ front) rest h = let p = rises low f (front ++ rest) h in rising_from low f front p.0 (front_rises f.cookie front rest p.1)

cookies_above : (low : ℕ) (rows : List Row) → is_rising low rows ≡ true → All (λ (z : NameRow). low < z.cookie) (map name_row rows)
cookies_above low [] h = All-nil (λ (z : NameRow). low < z.cookie)
cookies_above low (r ∷ rows) h =
    let p = rises low r rows h in
    All-cons (λ (z : NameRow). low < z.cookie) (name_row r) (map name_row rows) p.0
    (All-weaker (λ (z : NameRow). r.cookie < z.cookie) (λ (z : NameRow). low < z.cookie) (λ z l. omega (arith, l, p.0)) (map name_row rows) (cookies_above r.cookie rows p.1))

cookies_rise : (low : ℕ) (rows : List Row) → is_rising low rows ≡ true → AllPairs (λ (a b : NameRow). a.cookie < b.cookie) (map name_row rows)
cookies_rise low [] h = λ i j d l within. absurd (omega arith)
cookies_rise low (r ∷ rows) h =
    let p = rises low r rows h in
    AllPairs-cons (λ (a b : NameRow). a.cookie < b.cookie) (name_row r) (map name_row rows) (cookies_above r.cookie rows p.1) (cookies_rise r.cookie rows p.1)

has_row : (rows : List Row) (at : ℕ) (row : Row) → slice_get rows at ≡ Some row → Contains (map name_row rows) (name_row row)
has_row [] at row e = absurd (cc)
has_row (r ∷ rows) zero row e = let s : r ≡ row = cc in (0, omega arith, ap (λ (z : Row). name_row z) s)
has_row (r ∷ rows) (suc at) row e = let c = has_row rows at row e in (suc c.0, omega (arith, c.1), c.2)

-- ---- the entries after a cookie

after_rises : (cookie low : ℕ) (rows : List Row) → is_rising low rows ≡ true → is_rising cookie (rows_after cookie rows) ≡ true
after_rises cookie low [] h = refl
after_rises cookie low (r ∷ rows) h =
    let p = rises low r rows h in
    ⊎_elim (λ (a : nat_lt cookie r.cookie ≡ true).
    let l : cookie < r.cookie = ltb-true cookie r.cookie a in
    let e : rows_after cookie (r ∷ rows) ≡ r ∷ rows = simp a (ap (λ (z : List Row). r ∷ z) (all_after cookie r.cookie rows p.1 (omega arith))) in
    subst (λ (z : List Row). is_rising cookie z ≡ true) (sym e) (rising_from cookie r rows l p.1))
    (λ (a : nat_lt cookie r.cookie ≡ false).
    let e : rows_after cookie (r ∷ rows) ≡ rows_after cookie rows = simp a in
    subst (λ (z : List Row). is_rising cookie z ≡ true) (sym e) (after_rises cookie r.cookie rows p.1))
    (cases_Bool (nat_lt cookie r.cookie))

after_has : (cookie : ℕ) (rows : List Row) (at : ℕ) (row : Row) → slice_get rows at ≡ Some row → cookie < row.cookie → HasRow (rows_after cookie rows) row
after_has cookie [] at row e l = absurd (cc)
after_has cookie (r ∷ rows) zero row e l =
    let s : r ≡ row = cc in
    let a : nat_lt cookie r.cookie ≡ true = lt-ltb cookie r.cookie (subst (λ (z : Row). cookie < z.cookie) (sym s) l) in
    let f : rows_after cookie (r ∷ rows) ≡ r ∷ rows_after cookie rows = simp a in
    (0, ap (λ (z : List Row). slice_get z 0) f ∙ e)
after_has cookie (r ∷ rows) (suc at) row e l =
    let h = after_has cookie rows at row e l in
    ⊎_elim (λ (a : nat_lt cookie r.cookie ≡ true). let f : rows_after cookie (r ∷ rows) ≡ r ∷ rows_after cookie rows = simp a in (suc h.0, ap (λ (z : List Row). slice_get z (suc h.0)) f ∙ h.1))
    (λ (a : nat_lt cookie r.cookie ≡ false). let f : rows_after cookie (r ∷ rows) ≡ rows_after cookie rows = simp a in (h.0, ap (λ (z : List Row). slice_get z h.0) f ∙ h.1))
    (cases_Bool (nat_lt cookie r.cookie))

split_has : (front rest : List Row) (at : ℕ) (row : Row) → slice_get (front ++ rest) at ≡ Some row → HasRow front row ⊎ HasRow rest row
split_has [] rest at row e = inr (at, e)
split_has (f ∷ front) rest zero row e = inl (0, e)
split_has (f ∷ front) rest (suc at) row e = ⊎_elim (λ (h : HasRow front row). inl (suc h.0, h.1)) (λ (h : HasRow rest row). inr h) (split_has front rest at row e)

-- ---- pages

-- a page is the front of the entries
record IsFront (all : List Row) (page : List PlusRow) : Type 0 where
  front : List Row
  rest : List Row
  split : all ≡ front ++ rest
  shown : plus_rows page ≡ map name_row front
  count : length page ≡ length front

no_front : (rows : List Row) → IsFront rows []
no_front rows = record { front = []; rest = rows; split = refl; shown = refl; count = refl }

more_front : (nodes : List Node) (row : Row) (rows : List Row) (page : List PlusRow) → IsFront rows page → IsFront (row ∷ rows) (listed nodes row ∷ page)
more_front nodes row rows page f = record {
  front = row ∷ f.front;
  rest = f.rest;
  split = ap (λ (z : List Row). row ∷ z) f.split;
  shown = ap (λ (z : List NameRow). name_row row ∷ z) f.shown;
  count = ap suc f.count;
}

fitting_front : (nodes : List Node) (limit used : ℕ) (rows : List Row) → IsFront rows (fitting nodes limit used rows)
fitting_front nodes limit used [] = no_front []
fitting_front nodes limit used (row ∷ rows) =
    let size : ℕ = used + spelled_size (listed nodes row) in
    cond_both (nat_le size limit) (listed nodes row ∷ fitting nodes limit size rows) [] (IsFront (row ∷ rows)) (λ e. more_front nodes row rows (fitting nodes limit size rows) (fitting_front nodes limit size rows)) (λ e. no_front (row ∷ rows))

page_front : (nodes : List Node) (limit : ℕ) (rows : List Row) → IsFront rows (page_of nodes limit rows)
page_front nodes limit [] = no_front []
page_front nodes limit (row ∷ rows) = more_front nodes row rows (fitting nodes limit (spelled_size (listed nodes row)) rows) (fitting_front nodes limit (spelled_size (listed nodes row)) rows)

-- an entry of the server is that of a row
pub row_of_entry : (rows : List Row) (at : ℕ) (e : Listed) → slice_get (map entry_of rows) at ≡ Some e → (row : Row) × (HasRow rows row) × (e ≡ entry_of row)
row_of_entry [] at e q = absurd (cc)
row_of_entry (r ∷ rows) zero e q = (r, (0, refl), cc)
row_of_entry (r ∷ rows) (suc at) e q = let p = row_of_entry rows at e q in (p.0, (suc p.1.0, p.1.1), p.2)

pub entry_of_row : (rows : List Row) (at : ℕ) (row : Row) → slice_get rows at ≡ Some row → Lists (map entry_of rows) (entry_of row)
entry_of_row [] at row q = absurd (cc)
entry_of_row (r ∷ rows) zero row q = let s : r ≡ row = cc in (0, ap (λ (z : Row). Some (entry_of z)) s)
entry_of_row (r ∷ rows) (suc at) row q = let p = entry_of_row rows at row q in (suc p.0, p.1)

none_left : (front rest : List Row) → length (front ++ rest) ≡ length front → length rest ≡ 0
none_left front rest e = omega (arith, length-append front rest)

no_row : (rows : List Row) (at : ℕ) (row : Row) → slice_get rows at ≡ Some row → length rows ≡ 0 → ⊥
no_row [] at row e l = absurd (cc)
no_row (r ∷ rows) at row e l = omega arith

page_rises : (nodes : List Node) (limit cookie : ℕ) (rows : List Row) → is_rising 0 rows ≡ true
    → Rises (map entry_of rows) cookie (plus_rows (page_of nodes limit (rows_after cookie rows))) (length (page_of nodes limit (rows_after cookie rows)) == length (rows_after cookie rows))
page_rises nodes limit cookie rows h =
    let all : List Row = rows_after cookie rows in
    let page : List PlusRow = page_of nodes limit all in
    let p = page_front nodes limit all in
    let up : is_rising cookie (p.front ++ p.rest) ≡ true = subst (λ (z : List Row). is_rising cookie z ≡ true) p.split (after_rises cookie 0 rows h) in
    let given : List NameRow = map name_row p.front in
    let finds : (e : Listed) → Lists (map entry_of rows) e → cookie < e.cookie → (row : Row) × (row_of e ≡ name_row row) × (HasRow p.front row ⊎ HasRow p.rest row) = λ e l c.
    let r = row_of_entry rows l.0 e l.1 in
    let same : row_of e ≡ name_row r.0 = ap (λ (z : Listed). row_of z) r.2 in
    let level : e.cookie ≡ r.0.cookie = ap (λ (z : Listed). z.cookie) r.2 in
    let a = after_has cookie rows r.1.0 r.0 r.1.1 (omega (arith, c, level)) in
    (r.0, same, split_has p.front p.rest a.0 r.0 (subst (λ (z : List Row). slice_get z a.0 ≡ Some r.0) p.split a.1)) in
    let P : List NameRow → Type 0 = λ z. Rises (map entry_of rows) cookie z (length page == length all) in
    subst P (sym p.shown) (record {
      above = cookies_above cookie p.front (front_rises cookie p.front p.rest up);
      rising = cookies_rise cookie p.front (front_rises cookie p.front p.rest up);
      whole = λ e l c.
          let f = finds e l c in
          ⊎_elim (λ (a : HasRow p.front f.0). inl (subst (Contains given) (sym f.1) (has_row p.front a.0 f.0 a.1)))
          (λ (b : HasRow p.rest f.0). inr (subst (λ (n : ℕ). All (λ (z : NameRow). z.cookie < n) given) (sym (ap (λ (z : NameRow). z.cookie) f.1)) (front_below cookie p.front p.rest up f.0 b)))
          f.2;
      last = λ t e l c.
          let f = finds e l c in
          let same : length page ≡ length all = eqb-true (length page) (length all) t in
          let none : length p.rest ≡ 0 = none_left p.front p.rest (omega (arith, ap length p.split, same, p.count)) in
          ⊎_elim (λ (a : HasRow p.front f.0). subst (Contains given) (sym f.1) (has_row p.front a.0 f.0 a.1)) (λ (b : HasRow p.rest f.0). absurd (no_row p.rest b.0 f.0 b.1 none)) f.2;
    })

-- ---- what is listed of a directory that is there

-- an object that isn't stale is the one that the server shows
listed_rows : (v : View) (d : List ℕ) (dir : Object) (list : List Listed) → is_stale v.nodes d ≡ false → (server_of v).object d ≡ Some dir → dir.holds ≡ Entries list
    → (node : Node) × (place : ℕ) × (slice_get v.nodes place ≡ Some node) × (rows_in (object v.nodes d) ≡ rows_of node.holds) × (list ≡ map entry_of (rows_of node.holds))
listed_rows v d dir list s a b =
    let p = seen_by_place v d dir a in
    let is : place_of d ≡ Some p.place = ap place_of p.is ∙ place_is p.place p.below in
    let o : object v.nodes d ≡ not_gone (Some p.node) = ap (at_place v.nodes) is ∙ ap not_gone p.there in
    ⊎_elim (λ (g : p.node.gone ≡ true). let f = simp (o, g) at s in absurd (cc))
    (λ (g : p.node.gone ≡ false).
    let q : not_gone (Some p.node) ≡ Some p.node = simp g in
    (p.node, p.place, p.there, ap rows_in (o ∙ q), held_entries p.node.holds list (ap (λ (x : Object). x.holds) (sym p.object) ∙ b)))
    (cases_Bool p.node.gone)

lists_rise : (v : View) (d : List ℕ) (cookie limit : ℕ) → Stamped v → is_stale v.nodes d ≡ false
    → RisesIn (server_of v) d cookie (plus_rows (page_of v.nodes limit (rows_after cookie (rows_in (object v.nodes d))))) (length (page_of v.nodes limit (rows_after cookie (rows_in (object v.nodes d)))) == length (rows_after cookie (rows_in (object v.nodes d))))
lists_rise v d cookie limit s stale dir list a b =
    let l = listed_rows v d dir list stale a b in
    let node = l.0 in
    let place = l.1 in
    let P : List Row → Type 0 = λ z. Rises list cookie (plus_rows (page_of v.nodes limit (rows_after cookie z))) (length (page_of v.nodes limit (rows_after cookie z)) == length (rows_after cookie z)) in
    let Q : List Listed → Type 0 = λ z. Rises z cookie (plus_rows (page_of v.nodes limit (rows_after cookie (rows_of node.holds)))) (length (page_of v.nodes limit (rows_after cookie (rows_of node.holds))) == length (rows_after cookie (rows_of node.holds))) in
    subst P (sym l.3) (subst Q (sym l.4) (page_rises v.nodes limit cookie (rows_of node.holds) (s place node l.2).rising))

done_rises : (v : View) (call : DirCall) → Stamped v → dir_refusal v call ≡ 0 → RisesAt (server_of v) (calls.Dir call) (replies.Dir (dir_answer v (after_dir v call) call))
done_rises v (dirs.Lookup dir name) s e = tt
done_rises v (dirs.ReadLink link) s e = tt
done_rises v (dirs.Create dir name making) s e = tt
done_rises v (dirs.MkDir dir name set) s e = tt
done_rises v (dirs.SymLink dir name set target) s e = tt
done_rises v (dirs.MkNod dir name node) s e = tt
done_rises v (dirs.Remove dir name) s e = tt
done_rises v (dirs.RmDir dir name) s e = tt
done_rises v (dirs.Rename dir name to_dir to) s e = tt
done_rises v (dirs.Link link dir name) s e = tt
done_rises v (dirs.ReadDir dir cookie verf count) s e = tt
done_rises v (dirs.ReadDirPlus dir cookie verf dircount maxcount) s e =
    let p = dir_passes v (dirs.ReadDirPlus dir cookie verf dircount maxcount) e in
    lists_rise v dir cookie (most_page maxcount) s (or_parts (is_stale v.nodes dir) _ p.stale).0

pub refused_rises : (v : View) (nodes : List Node) (number : ℕ) (call : DirCall) → RisesAt (server_of v) (calls.Dir call) (replies.Dir (dir_refused nodes number call))
refused_rises v nodes number (dirs.Lookup dir name) = tt
refused_rises v nodes number (dirs.ReadLink link) = tt
refused_rises v nodes number (dirs.Create dir name making) = tt
refused_rises v nodes number (dirs.MkDir dir name set) = tt
refused_rises v nodes number (dirs.SymLink dir name set target) = tt
refused_rises v nodes number (dirs.MkNod dir name node) = tt
refused_rises v nodes number (dirs.Remove dir name) = tt
refused_rises v nodes number (dirs.RmDir dir name) = tt
refused_rises v nodes number (dirs.Rename dir name to_dir to) = tt
refused_rises v nodes number (dirs.Link link dir name) = tt
refused_rises v nodes number (dirs.ReadDir dir cookie verf count) = tt
refused_rises v nodes number (dirs.ReadDirPlus dir cookie verf dircount maxcount) = tt

-- Each page of a directory rises.
pub rises_executed : (v : View) (call : Call) → Stamped v → RisesAt (server_of v) call (executed v call).1
rises_executed v (calls.File call) s = tt
rises_executed v (calls.Dir call) s =
    cond_both (dir_refusal v call == 0) (after_dir v call, dir_answer v (after_dir v call) call) (v, dir_refused v.nodes (dir_refusal v call) call) (λ (z : View × DirKept). RisesAt (server_of v) (calls.Dir call) (replies.Dir z.1))
    (λ e. done_rises v call s (eqb-true (dir_refusal v call) 0 e))
    (λ e. refused_rises v v.nodes (dir_refusal v call) call)
rises_executed v (calls.Mount call) s = tt
