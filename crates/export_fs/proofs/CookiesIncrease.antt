-- An entry that enters a directory has a cookie above all that the directory ever had.
use Rattle.std.proofs.Common.{◌≡◌, ◌<◌, ◌≤◌, ℕ, zero, suc, List, length, map, Option, Some, None, refl, sym, ap, subst, ◌∙◌, arith, ⊎_elim, slice_get}
use Rattle.std.proofs.lemmas.Bool.{cases_lt}
use Rattle.world_model.specs.declared.entry.Entry.{Entry}
use Rattle.world_model.specs.declared.entry.Entry.TheVariants as entries
use Rattle.world_model.specs.declared.message.Call.{Call}
use Rattle.world_model.specs.declared.message.Reply.{Reply}
use Rattle.world_model.specs.Entries.{At}
use Rattle.world_model.specs.Server.{Listed, Entries, Object, Lists}
use Rattle.world_model.specs.Rising.{RisesAt, EntersAbove, Rising}
use Rattle.export_fs.specs.declared.node.Node.{Node}
use Rattle.export_fs.specs.Held.{Row}
use Rattle.export_fs.specs.View.{View}
use Rattle.export_fs.specs.Parts.{last_number, handle_of, rows_of, last_of}
use Rattle.export_fs.specs.Seen.{server_of, entry_of}
use Rattle.export_fs.specs.Stamped.{Stamped, HasRow, GoesAt, Proceeds, Proceeding}
use Rattle.export_fs.proofs.ServerOfExport.{seen_by_place, handle_apart}
use Rattle.export_fs.proofs.Fresh.{held_entries, seen_both, goes_between, stamped_at}
use Rattle.export_fs.proofs.Rises.{row_within, row_of_entry, entry_of_row}

-- ---- one step

-- a directory's entries have cookies up to the last that it gave
pub given_within : (v : View) → Stamped v → (place : ℕ) (node : Node) → slice_get v.nodes place ≡ Some node → (row : Row) → HasRow (rows_of node.holds) row → row.cookie ≤ last_of node.holds
given_within v s place node e row h =
    let i = s place node e in
    omega (arith, row_within 0 (rows_of node.holds) i.rising h.0 row h.1, i.given)

-- the directory before a step, with the last cookie that it gave
pub record GaveBelow (v : View) (d : List ℕ) (cookie : ℕ) : Type 0 where
  pub place : ℕ
  pub below : place < last_number
  pub is : d ≡ handle_of place
  pub node : Node
  pub there : slice_get v.nodes place ≡ Some node
  pub last : last_of node.holds < cookie

entry_there : (rows : List Row) (list : List Listed) (row : Row) → list ≡ map entry_of rows → HasRow rows row → Lists list (entry_of row)
entry_there rows list row is h = subst (λ (z : List Listed). Lists z (entry_of row)) (sym is) (entry_of_row rows h.0 row h.1)

-- An entry that a step adds has a cookie above the last that the directory gave.
pub enters_step : (v w : View) → Proceeds v w → (d : List ℕ) (old new : Object) (before after : List Listed) (e : Listed) → (server_of v).object d ≡ Some old → old.holds ≡ Entries before → (server_of w).object d ≡ Some new → new.holds ≡ Entries after
    → Lists after e → (Lists before e → ⊥) → GaveBelow v d e.cookie
enters_step v w p d old new before after e a ob b nb le nl =
    let s = seen_both v w d old new a b in
    let g = goes_between v w p s.place s.was s.becomes s.there s.here in
    let was : before ≡ map entry_of (rows_of s.was.holds) = held_entries s.was.holds before (ap (λ (o : Object). o.holds) (sym s.before) ∙ ob) in
    let is : after ≡ map entry_of (rows_of s.becomes.holds) = held_entries s.becomes.holds after (ap (λ (o : Object). o.holds) (sym s.after) ∙ nb) in
    let l : Lists (map entry_of (rows_of s.becomes.holds)) e = subst (λ (z : List Listed). Lists z e) is le in
    let r = row_of_entry (rows_of s.becomes.holds) l.0 e l.1 in
    let same : e.cookie ≡ r.0.cookie = ap (λ (z : Listed). z.cookie) r.2 in
    ⊎_elim (λ (h : HasRow (rows_of s.was.holds) r.0). absurd (nl (subst (Lists before) (sym r.2) (entry_there (rows_of s.was.holds) before r.0 was h))))
    (λ (h : last_of s.was.holds < r.0.cookie). record { place = s.place; below = s.below; is = s.is; node = s.was; there = s.there; last = omega (arith, h, same) })
    (g.rows r.0 r.1)

-- ---- many steps

-- a directory that gave so many cookies, later
pub record Later (views : ℕ → View) (place n low : ℕ) : Type 0 where
  pub node : Node
  pub there : slice_get (views n).nodes place ≡ Some node
  pub last : low ≤ last_of node.holds

later_step : (v w : View) → Proceeds v w → (place : ℕ) (node : Node) → slice_get v.nodes place ≡ Some node → (o : Option Node) → slice_get w.nodes place ≡ o → (after : Node) × (slice_get w.nodes place ≡ Some after) × (last_of node.holds ≤ last_of after.holds)
later_step v w p place node e None g =
    absurd (subst (λ (n : Option Node). GoesAt v.counter w.counter n None) e (subst (GoesAt v.counter w.counter (slice_get v.nodes place)) g (p.objects place)))
later_step v w p place node e (Some after) g = (after, g, (goes_between v w p place node after e g).last)

-- the last cookie that a directory gave never falls
pub later_at : (views : ℕ → View) (count : ℕ) → Proceeding views count → (place m n : ℕ) (node : Node) → slice_get (views m).nodes place ≡ Some node → m ≤ n → n ≤ count → Later views place n (last_of node.holds)
later_at views count p place m zero node e l h =
    let s : m ≡ 0 = omega arith in
    record { node = node; there = subst (λ (k : ℕ). slice_get (views k).nodes place ≡ Some node) s e; last = omega arith }
later_at views count p place m (suc n) node e l h =
    ⊎_elim (λ (a : n < m).
    let s : m ≡ suc n = omega arith in
    record { node = node; there = subst (λ (k : ℕ). slice_get (views k).nodes place ≡ Some node) s e; last = omega arith })
    (λ (b : m ≤ n).
    let q = later_at views count p place m n node e b (omega arith) in
    let r = later_step (views n) (views (suc n)) (p n (omega arith)) place q.node q.there (slice_get (views (suc n)).nodes place) refl in
    record { node = r.0; there = r.1; last = omega (arith, q.last, r.2) })
    (cases_lt n m)

-- each that the directory had before is below
gave_above : (views : ℕ → View) (count : ℕ) → Stamped (views 0) → Proceeding views count → (n : ℕ) → n ≤ count → (d : List ℕ) (cookie : ℕ) → GaveBelow (views n) d cookie
    → (m : ℕ) (earlier : Object) (list : List Listed) (f : Listed) → m ≤ n → (server_of (views m)).object d ≡ Some earlier → earlier.holds ≡ Entries list → Lists list f → f.cookie < cookie
gave_above views count s p n h d cookie g m earlier list f k c cb lf =
    let q = seen_by_place (views m) d earlier c in
    let place : q.place ≡ g.place = handle_apart q.place g.place q.below g.below (sym q.is ∙ g.is) in
    let is : list ≡ map entry_of (rows_of q.node.holds) = held_entries q.node.holds list (ap (λ (o : Object). o.holds) (sym q.object) ∙ cb) in
    let l : Lists (map entry_of (rows_of q.node.holds)) f = subst (λ (z : List Listed). Lists z f) is lf in
    let r = row_of_entry (rows_of q.node.holds) l.0 f l.1 in
    let same : f.cookie ≡ r.0.cookie = ap (λ (z : Listed). z.cookie) r.2 in
    let low = given_within (views m) (stamped_at views count s p m (omega arith)) q.place q.node q.there r.0 r.1 in
    let t = later_at views count p q.place m n q.node q.there k h in
    let here : slice_get (views n).nodes q.place ≡ Some g.node = subst (λ (z : ℕ). slice_get (views n).nodes z ≡ Some g.node) (sym place) g.there in
    let one : Some t.node ≡ Some g.node = sym t.there ∙ here in
    let node : t.node ≡ g.node = cc in
    omega (arith, low, same, t.last, g.last, ap (λ (z : Node). last_of z.holds) node)

-- An entry that comes into a directory has a cookie above all that the directory ever had.
pub enters_above : (list : List Entry) (views : ℕ → View) → Stamped (views 0) → Proceeding views (length list) → (n : ℕ) → n < length list → EntersAbove (record { entries = list; at = λ k. server_of (views k) }) n
enters_above list views s p n l d old new before after e a ob b nb le nl named =
    gave_above views (length list) s p n (omega arith) d e.cookie (enters_step (views n) (views (suc n)) (p n l) d old new before after e a ob b nb le nl)

-- The history rises, where each page that was answered does.
pub rising : (list : List Entry) (views : ℕ → View) → Stamped (views 0) → Proceeding views (length list)
    → ((n xid : ℕ) (call : Call) (reply : Reply) → At list n (entries.Executed xid call reply) → RisesAt (server_of (views n)) call reply) → Rising (record { entries = list; at = λ k. server_of (views k) })
rising list views s p pages = record { pages = pages; enters = enters_above list views s p }
