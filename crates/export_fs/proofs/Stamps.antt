-- Each change of an object gives it a number that was just taken, and each entry a cookie that wasn't given before.
use Rattle.std.proofs.Common.{◌≡◌, ◌<◌, ◌≤◌, ◌+◌, ◌⊎◌, ℕ, zero, suc, true, false, List, [], ◌∷◌, ◌++◌, Option, Some, None, refl, sym, ap, subst, ◌∙◌, arith, inl, inr, ⊎_elim, ◌==◌, slice_get}
use Rattle.std.specs.Str.{bytes_eq}
use Rattle.std.proofs.lemmas.Bool.{cases_Bool}
use Rattle.nfs_types.specs.declared.set_attr.SetAttr.{SetAttr}
use Rattle.export_fs.specs.declared.node.Holds.{Holds}
use Rattle.export_fs.specs.declared.node.Holds.TheVariants.{File, Directory, Link}
use Rattle.export_fs.specs.declared.node.Node.{Node}
use Rattle.export_fs.specs.Held.{Row}
use Rattle.export_fs.specs.Parts.{kind_of, size_of, bytes_of, rows_of, last_of}
use Rattle.export_fs.specs.Names.{without}
use Rattle.export_fs.specs.Kept.{is_rising, top}
use Rattle.export_fs.specs.Changes.{with_size, with_set, with_bytes, written, with_stable, committed, with_name, entered, without_name, left, unnamed, with_fewer, with_ctime, removed, linked, with_parent, moved}
use Rattle.export_fs.specs.Restart.{steady, restarted}
use Rattle.export_fs.specs.Stamped.{Alike, HasRow, Goes, GoesAt}
use Rattle.export_fs.proofs.Cookies.{rises, rising_from, lower, rising_last, top-last}

-- ---- the same, and one step after the other

pub alike_same : (node : Node) → Alike node node
alike_same node = record { mtime = refl; ctime = refl; size = refl; bytes = refl; rows = refl }

pub alike_then : (a b c : Node) → Alike a b → Alike b c → Alike a c
alike_then a b c p q = record {
  mtime = q.mtime ∙ p.mtime;
  ctime = q.ctime ∙ p.ctime;
  size = q.size ∙ p.size;
  bytes = q.bytes ∙ p.bytes;
  rows = q.rows ∙ p.rows;
}

pub goes_same : (before after : ℕ) (node : Node) → Goes before after node node
goes_same before after node = record { stamped = λ s. s; changed = inl (alike_same node); last = omega arith; rows = λ row h. inl h }

pub goes_then : (before after : ℕ) (a b c : Node) → Goes before after a b → Goes before after b c → Goes before after a c
goes_then before after a b c p q = record {
  stamped = λ s. q.stamped (p.stamped s);
  changed =
      ⊎_elim (λ (r : Alike b c).
      ⊎_elim (λ (l : Alike a b). inl (alike_then a b c l r)) (λ (l : before < b.ctime). inr (subst (λ (n : ℕ). before < n) (sym r.ctime) l)) p.changed)
      (λ (r : before < c.ctime). inr r) q.changed;
  last = omega (arith, p.last, q.last);
  rows = λ row h. ⊎_elim (λ (r : HasRow (rows_of b.holds) row). p.rows row r) (λ (r : last_of b.holds < row.cookie). inr (omega (arith, p.last))) (q.rows row h);
}

pub same_at : (before after : ℕ) (o : Option Node) → GoesAt before after o o
same_at before after None = tt
same_at before after (Some node) = goes_same before after node

pub then_at : (before after : ℕ) (a b c : Option Node) → GoesAt before after a b → GoesAt before after b c → GoesAt before after a c
then_at before after None None None p q = tt
then_at before after None None (Some c) p q = q
then_at before after None (Some b) None p q = absurd q
then_at before after None (Some b) (Some c) p q = q.stamped p
then_at before after (Some a) None c p q = absurd p
then_at before after (Some a) (Some b) None p q = absurd q
then_at before after (Some a) (Some b) (Some c) p q = goes_then before after a b c p q

-- ---- rows

-- an object holds other things, but its entries are the same
pub record SameRows (old new : Holds) : Type 0 where
  pub rows : rows_of new ≡ rows_of old
  pub last : last_of new ≡ last_of old

-- cookies that rise go on rising
pub record RowsGo (old new : Holds) : Type 0 where
  pub rising : is_rising 0 (rows_of old) ≡ true → top 0 (rows_of old) ≤ last_of old → (is_rising 0 (rows_of new) ≡ true) × (top 0 (rows_of new) ≤ last_of new)
  pub last : last_of old ≤ last_of new
  pub rows : (row : Row) → HasRow (rows_of new) row → HasRow (rows_of old) row ⊎ (last_of old < row.cookie)

pub same_go : (old new : Holds) → SameRows old new → RowsGo old new
same_go old new s = record {
  rising = λ r t. (subst (λ (z : List Row). is_rising 0 z ≡ true) (sym s.rows) r, omega (arith, t, ap (top 0) s.rows, s.last));
  last = omega (arith, s.last);
  rows = λ row h. inl (subst (λ (z : List Row). HasRow z row) s.rows h);
}

pub rising_less : (name : List ℕ) (low : ℕ) (rows : List Row) → is_rising low rows ≡ true → is_rising low (without name rows) ≡ true
rising_less name low [] h = refl
rising_less name low (row ∷ rows) h =
    let p = rises low row rows h in
    ⊎_elim (λ (a : bytes_eq name row.name ≡ true). simp a (lower low row.cookie rows (omega arith) p.1))
    (λ (a : bytes_eq name row.name ≡ false). simp a (rising_from low row (without name rows) p.0 (rising_less name row.cookie rows p.1)))
    (cases_Bool (bytes_eq name row.name))

top_lower : (a b : ℕ) (rows : List Row) → a ≤ b → top a rows ≤ top b rows
top_lower a b [] l = l
top_lower a b (row ∷ rows) l = omega arith

pub top_less : (name : List ℕ) (low : ℕ) (rows : List Row) → is_rising low rows ≡ true → top low (without name rows) ≤ top low rows
top_less name low [] h = omega arith
top_less name low (row ∷ rows) h =
    let p = rises low row rows h in
    ⊎_elim (λ (a : bytes_eq name row.name ≡ true). simp a (top_lower low row.cookie rows (omega arith)))
    (λ (a : bytes_eq name row.name ≡ false). simp a (top_less name row.cookie rows p.1))
    (cases_Bool (bytes_eq name row.name))

has_next : (r row : Row) (rows : List Row) → HasRow rows row → HasRow (r ∷ rows) row
has_next r row rows h = (suc h.0, h.1)

next_has : (r row : Row) (less rows : List Row) → (HasRow less row → HasRow rows row) → (at : ℕ) → slice_get (r ∷ less) at ≡ Some row → HasRow (r ∷ rows) row
next_has r row less rows f zero e = (0, e)
next_has r row less rows f (suc at) e = has_next r row rows (f (at, e))

pub less_has : (name : List ℕ) (rows : List Row) (row : Row) → HasRow (without name rows) row → HasRow rows row
less_has name [] row h = h
less_has name (r ∷ rows) row h =
    ⊎_elim (λ (a : bytes_eq name r.name ≡ true). let g : HasRow rows row = simp a at h in has_next r row rows g)
    (λ (a : bytes_eq name r.name ≡ false). let g : HasRow (r ∷ without name rows) row = simp a at h in next_has r row (without name rows) rows (less_has name rows row) g.0 g.1)
    (cases_Bool (bytes_eq name r.name))

-- an entry among some and one more
pub data LastOr (rows : List Row) (last row : Row) : Type 0 where
  among : HasRow rows row → LastOr rows last row
  last_one : row ≡ last → LastOr rows last row

pub last_or : (rows : List Row) (last row : Row) → HasRow (rows ++ last ∷ []) row → LastOr rows last row
last_or [] last row (zero, e) = last_one (cc)
last_or [] last row (suc at, e) = absurd (cc)
last_or (r ∷ rows) last row (zero, e) = among (0, e)
last_or (r ∷ rows) last row (suc at, e) =
    elim (last_or rows last row (at, e)) [
      | among h ↦ among (has_next r row rows h)
      | last_one s ↦ last_one s
    ]

-- ---- what a change makes of what an object holds

name_goes : (name : List ℕ) (place : ℕ) (holds : Holds) → RowsGo holds (with_name name place holds)
name_goes name place (File content) = same_go (File content) (File content) (record { rows = refl; last = refl })
name_goes name place (Directory listing) =
    let new : Row = record { name = name; place = place; cookie = listing.last + 1 } in
    record {
      rising = λ r t.
          let l = rising_less name 0 listing.rows r in
          let b : top 0 (without name listing.rows) < new.cookie = omega (arith, top_less name 0 listing.rows r) in
          (rising_last 0 (without name listing.rows) new l b, omega (arith, top-last 0 (without name listing.rows) new));
      last = omega arith;
      rows = λ row h.
          elim (last_or (without name listing.rows) new row h) [
            | among a ↦ inl (less_has name listing.rows row a)
            | last_one s ↦ inr (omega (arith, ap (λ (z : Row). z.cookie) s))
          ];
    }
name_goes name place (Link text) = same_go (Link text) (Link text) (record { rows = refl; last = refl })

less_goes : (name : List ℕ) (holds : Holds) → RowsGo holds (without_name name holds)
less_goes name (File content) = same_go (File content) (File content) (record { rows = refl; last = refl })
less_goes name (Directory listing) = record {
  rising = λ r t. (rising_less name 0 listing.rows r, omega (arith, top_less name 0 listing.rows r));
  last = omega arith;
  rows = λ row h. inl (less_has name listing.rows row h);
}
less_goes name (Link text) = same_go (Link text) (Link text) (record { rows = refl; last = refl })

size_same : (size : Option ℕ) (holds : Holds) → SameRows holds (with_size size holds)
size_same None holds = record { rows = refl; last = refl }
size_same (Some size) (File content) = record { rows = refl; last = refl }
size_same (Some size) (Directory listing) = record { rows = refl; last = refl }
size_same (Some size) (Link text) = record { rows = refl; last = refl }

bytes_same : (offset how : ℕ) (bytes : List ℕ) (holds : Holds) → SameRows holds (with_bytes offset how bytes holds)
bytes_same offset how bytes (File content) = record { rows = refl; last = refl }
bytes_same offset how bytes (Directory listing) = record { rows = refl; last = refl }
bytes_same offset how bytes (Link text) = record { rows = refl; last = refl }

steady_same : (holds : Holds) → SameRows holds (steady holds)
steady_same (File content) = record { rows = refl; last = refl }
steady_same (Directory listing) = record { rows = refl; last = refl }
steady_same (Link text) = record { rows = refl; last = refl }

-- an object holds other things, but shows the same
pub record AlikeHeld (old new : Holds) : Type 0 where
  pub size : size_of new ≡ size_of old
  pub bytes : bytes_of new ≡ bytes_of old
  pub rows : rows_of new ≡ rows_of old
  pub last : last_of new ≡ last_of old

stable_alike : (offset count : ℕ) (holds : Holds) → AlikeHeld holds (with_stable offset count holds)
stable_alike offset count (File content) = record { size = refl; bytes = refl; rows = refl; last = refl }
stable_alike offset count (Directory listing) = record { size = refl; bytes = refl; rows = refl; last = refl }
stable_alike offset count (Link text) = record { size = refl; bytes = refl; rows = refl; last = refl }

parent_alike : (parent : ℕ) (holds : Holds) → AlikeHeld holds (with_parent parent holds)
parent_alike parent (File content) = record { size = refl; bytes = refl; rows = refl; last = refl }
parent_alike parent (Directory listing) = record { size = refl; bytes = refl; rows = refl; last = refl }
parent_alike parent (Link text) = record { size = refl; bytes = refl; rows = refl; last = refl }

same_alike : (holds : Holds) → AlikeHeld holds holds
same_alike holds = record { size = refl; bytes = refl; rows = refl; last = refl }

-- ---- objects

-- an object under a number that was just taken
fresh_goes : (before after : ℕ) (old new : Node) → before < new.ctime → new.ctime ≤ after → (old.mtime ≤ after → new.mtime ≤ after) → RowsGo old.holds new.holds → Goes before after old new
fresh_goes before after old new low high mtime rows = record {
  stamped = λ s. let p = rows.rising s.rising s.given in record { mtime = mtime s.mtime; ctime = high; rising = p.0; given = p.1 };
  changed = inr low;
  last = rows.last;
  rows = rows.rows;
}

-- an object that shows what it showed
alike_goes : (before after : ℕ) (old new : Node) → new.mtime ≡ old.mtime → new.ctime ≡ old.ctime → AlikeHeld old.holds new.holds → Goes before after old new
alike_goes before after old new m c h =
    let rows = same_go old.holds new.holds (record { rows = h.rows; last = h.last }) in
    record {
      stamped = λ s. let p = rows.rising s.rising s.given in record { mtime = omega (arith, s.mtime, m); ctime = omega (arith, s.ctime, c); rising = p.0; given = p.1 };
      changed = inl (record { mtime = m; ctime = c; size = h.size; bytes = h.bytes; rows = h.rows });
      last = rows.last;
      rows = rows.rows;
    }

-- what every change of one object does
abbrev pub Moves : ℕ → ℕ → (Node → Node) → Type 0
Moves before after change = (node : Node) → Goes before after node (change node)

pub set_moves : (before after number : ℕ) (set : SetAttr) → before < number → number ≤ after → Moves before after (with_set number set)
set_moves before after number set low high node = fresh_goes before after node (with_set number set node) low high (λ m. high) (same_go node.holds (with_size set.size node.holds) (size_same set.size node.holds))

pub written_moves : (before after number offset how : ℕ) (bytes : List ℕ) → before < number → number ≤ after → Moves before after (written number offset how bytes)
written_moves before after number offset how bytes low high node =
    fresh_goes before after node (written number offset how bytes node) low high (λ m. high) (same_go node.holds (with_bytes offset how bytes node.holds) (bytes_same offset how bytes node.holds))

pub committed_moves : (before after offset count : ℕ) → Moves before after (committed offset count)
committed_moves before after offset count node = alike_goes before after node (committed offset count node) refl refl (stable_alike offset count node.holds)

pub entered_moves : (before after number : ℕ) (name : List ℕ) (place : ℕ) → before < number → number ≤ after → Moves before after (entered number name place)
entered_moves before after number name place low high node = fresh_goes before after node (entered number name place node) low high (λ m. high) (name_goes name place node.holds)

pub left_moves : (before after number : ℕ) (name : List ℕ) → before < number → number ≤ after → Moves before after (left number name)
left_moves before after number name low high node = fresh_goes before after node (left number name node) low high (λ m. high) (less_goes name node.holds)

pub unnamed_moves : (before after : ℕ) → Moves before after unnamed
unnamed_moves before after node =
    ⊎_elim (λ (e : (kind_of node.holds == 2) ≡ true).
    let s : unnamed node ≡ record node { gone = true } = simp e in
    subst (Goes before after node) (sym s) (alike_goes before after node (record node { gone = true }) refl refl (same_alike node.holds)))
    (λ (e : (kind_of node.holds == 2) ≡ false).
    let s : unnamed node ≡ with_fewer node = simp e in
    subst (Goes before after node) (sym s) (alike_goes before after node (with_fewer node) refl refl (same_alike node.holds)))
    (cases_Bool (kind_of node.holds == 2))

ctime_moves : (before after number : ℕ) → before < number → number ≤ after → Moves before after (with_ctime number)
ctime_moves before after number low high node =
    ⊎_elim (λ (e : node.gone ≡ true). let s : with_ctime number node ≡ node = simp e in subst (Goes before after node) (sym s) (goes_same before after node))
    (λ (e : node.gone ≡ false).
    let s : with_ctime number node ≡ record node { ctime = number } = simp e in
    subst (Goes before after node) (sym s) (fresh_goes before after node (record node { ctime = number }) low high (λ m. m) (same_go node.holds node.holds (record { rows = refl; last = refl }))))
    (cases_Bool node.gone)

pub removed_moves : (before after number : ℕ) → before < number → number ≤ after → Moves before after (removed number)
removed_moves before after number low high node = goes_then before after node (unnamed node) (removed number node) (unnamed_moves before after node) (ctime_moves before after number low high (unnamed node))

pub linked_moves : (before after number : ℕ) → before < number → number ≤ after → Moves before after (linked number)
linked_moves before after number low high node = fresh_goes before after node (linked number node) low high (λ m. m) (same_go node.holds node.holds (record { rows = refl; last = refl }))

pub moved_moves : (before after parent : ℕ) → Moves before after (moved parent)
moved_moves before after parent node = alike_goes before after node (moved parent node) refl refl (parent_alike parent node.holds)

pub restarted_moves : (before after number : ℕ) → before < number → number ≤ after → Moves before after (restarted number)
restarted_moves before after number low high node = fresh_goes before after node (restarted number node) low high (λ m. high) (same_go node.holds (steady node.holds) (steady_same node.holds))
