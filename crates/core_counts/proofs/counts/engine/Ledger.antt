-- The calls that a session made, one row for each, and how many of them are of a kind.
use Rattle.core_counts.proofs.Prelude.{◌≡◌, ◌≢◌, ◌≤◌, ◌+◌, ◌*◌, ◌⊎◌, inl, inr, ℕ, suc, List, [], ◌∷◌, length, refl, sym, ap, subst, ◌∙◌, arith, Call, Op}
use Rattle.core_counts.proofs.counts.engine.Lists.{Each, each-map, each-both, Elsewhere, Apart, look, without, without-each, without-apart, without-length, Different, Group, grouped, total, AreApart}

-- A call that was made: under which xid, for which operation, and the xid of the first call that it repeats because the server was busy, or its own.
pub record Row : Type 0 where
  pub xid : ℕ
  pub call : Call
  pub x : ℕ
  pub op : Op
  pub root : ℕ

abbrev pub In : Row → List Row → Type 0
In r [] = ⊥
In r (q ∷ rows) = (q ≡ r) ⊎ In r rows

-- one of them has the xid, and is so
abbrev pub Is : List Row → (Row → Type 0) → ℕ → Type 0
Is rows F xid = (r : Row) × In r rows × (r.xid ≡ xid) × F r

-- Of different xids that are so, and `left` more, there are no more than `most`.
abbrev pub Room : List Row → (Row → Type 0) → ℕ → ℕ → Type 0
Room rows F left most = (xids : List ℕ) → Apart xids → Each (Is rows F) xids → length xids + left ≤ most

is-weaker : (rows : List Row) (F G : Row → Type 0) → ((r : Row) → F r → G r) → (xid : ℕ) → Is rows F xid → Is rows G xid
is-weaker rows F G f xid i = (i.0, i.1, i.2, f i.0 i.3)

pub room-weaker : (rows : List Row) (F G : Row → Type 0) (left most : ℕ) → ((r : Row) → F r → G r) → Room rows G left most → Room rows F left most
room-weaker rows F G left most f room xids a e = room xids a (each-map (Is rows F) (Is rows G) (is-weaker rows F G f) xids e)

pub room-less : (rows : List Row) (F : Row → Type 0) (left had most : ℕ) → left ≤ had → Room rows F had most → Room rows F left most
room-less rows F left had most less room xids a e = let all = room xids a e in omega (arith, all, less)

pub room-wide : (rows : List Row) (F : Row → Type 0) (left most more : ℕ) → most ≤ more → Room rows F left most → Room rows F left more
room-wide rows F left most more wide room xids a e = let all = room xids a e in omega (arith, all, wide)

pub room-none : (F : Row → Type 0) (left most : ℕ) → left ≤ most → Room [] F left most
room-none F left most less [] a e = omega (arith, less)
room-none F left most less (xid ∷ xids) a e = absurd e.0.1

-- an xid that the row hasn't is one of the others'
is-old : (rows : List Row) (row : Row) (F : Row → Type 0) (xid : ℕ) → xid ≢ row.xid → Is (row ∷ rows) F xid → Is rows F xid
is-old rows row F xid apart (r, inl same, is, f) = absurd (apart (sym is ∙ ap (λ (q : Row). q.xid) (sym same)))
is-old rows row F xid apart (r, inr there, is, f) = (r, there, is, f)

-- one row more, under an xid that none has
pub room-push : (rows : List Row) (row : Row) (F : Row → Type 0) (left had most : ℕ) → ((r : Row) → In r rows → r.xid ≢ row.xid) → left ≤ had → (F row → left + 1 ≤ had)
    → Room rows F had most → Room (row ∷ rows) F left most
room-push rows row F left had most fresh less asks room xids a e = by (look (Is (row ∷ rows) F) row.xid xids e)
  where
    rest : (ys : List ℕ) → Apart ys → Elsewhere row.xid ys → Each (Is (row ∷ rows) F) ys → length ys + had ≤ most
    rest ys apart other each =
        room ys apart (each-map (λ (y : ℕ). (y ≢ row.xid) × Is (row ∷ rows) F y) (Is rows F) (λ y p. is-old rows row F y p.0 p.1) ys
        (each-both (λ (y : ℕ). y ≢ row.xid) (Is (row ∷ rows) F) ys other each))

    by : Elsewhere row.xid xids ⊎ Is (row ∷ rows) F row.xid → length xids + left ≤ most
    by (inl other) = let all = rest xids a other e in omega (arith, all, less)
    by (inr (r, inl same, is, f)) =
        let one = asks (subst F (sym same) f) in
        let k = without-apart row.xid xids a in
        let all = rest (without row.xid xids) k.0 k.1 (without-each (Is (row ∷ rows) F) row.xid xids e) in
        let size = without-length row.xid xids in
        omega (arith, one, all, size)
    by (inr (r, inr there, is, f)) = absurd (fresh r there is)

-- one that isn't so
pub room-other : (rows : List Row) (row : Row) (F : Row → Type 0) (left most : ℕ) → (F row → ⊥) → Room rows F left most → Room (row ∷ rows) F left most
room-other rows row F left most none room xids a e = room xids a (each-map (Is (row ∷ rows) F) (Is rows F) old xids e)
  where
    old : (xid : ℕ) → Is (row ∷ rows) F xid → Is rows F xid
    old xid (r, inl same, is, f) = absurd (none (subst F (sym same) f))
    old xid (r, inr there, is, f) = (r, there, is, f)

-- ---- lists of rows

abbrev pub xid_of : Row → ℕ
xid_of r = r.xid

-- the rows of such xids
pub record Found (rows : List Row) (F : Row → Type 0) (many : ℕ) : Type 0 where
  pub found : List Row
  pub different : Different xid_of found
  pub each : Each (λ (r : Row). In r rows × F r) found
  pub all : length found ≡ many

abbrev list_of : (rows : List Row) (F : Row → Type 0) (ys : List ℕ) → Each (Is rows F) ys → List Row
list_of rows F [] k = []
list_of rows F (y ∷ ys) k = k.0.0 ∷ list_of rows F ys k.1

pub rows-of : (rows : List Row) (F : Row → Type 0) (xids : List ℕ) → Apart xids → Each (Is rows F) xids → Found rows F (length xids)
rows-of rows F xids a e = record { found = list_of rows F xids e; different = apart xids a e; each = each xids e; all = size xids e }
  where
    elsewhere : (n : ℕ) (ys : List ℕ) (k : Each (Is rows F) ys) → Elsewhere n ys → Each (λ (q : Row). q.xid ≢ n) (list_of rows F ys k)
    elsewhere n [] k o = tt
    elsewhere n (y ∷ ys) k o = (λ same. o.0 (sym k.0.2 ∙ same), elsewhere n ys k.1 o.1)

    apart : (ys : List ℕ) → Apart ys → (k : Each (Is rows F) ys) → Different xid_of (list_of rows F ys k)
    apart [] p k = tt
    apart (y ∷ ys) p k =
        (subst (λ (n : ℕ). Each (λ (q : Row). q.xid ≢ n) (list_of rows F ys k.1)) (sym k.0.2) (elsewhere y ys k.1 p.0), apart ys p.1 k.1)

    each : (ys : List ℕ) (k : Each (Is rows F) ys) → Each (λ (r : Row). In r rows × F r) (list_of rows F ys k)
    each [] k = tt
    each (y ∷ ys) k = ((k.0.1, k.0.3), each ys k.1)

    size : (ys : List ℕ) (k : Each (Is rows F) ys) → length (list_of rows F ys k) ≡ length ys
    size [] k = refl
    size (y ∷ ys) k = ap suc (size ys k.1)

abbrev xids_of : List Row → List ℕ
xids_of [] = []
xids_of (r ∷ rs) = r.xid ∷ xids_of rs

-- so many rows as there is room for their xids
pub rows-fit : (rows : List Row) (F : Row → Type 0) (left most : ℕ) → Room rows F left most → (some : List Row) → Different xid_of some → Each (λ (r : Row). In r rows × F r) some
    → length some + left ≤ most
rows-fit rows F left most room some d e = let all = room (xids_of some) (apart some d) (each some e) in let same = size some in omega (arith, all, same)
  where
    size : (rs : List Row) → length (xids_of rs) ≡ length rs
    size [] = refl
    size (r ∷ rs) = ap suc (size rs)

    elsewhere : (n : ℕ) (rs : List Row) → Each (λ (q : Row). q.xid ≢ n) rs → Elsewhere n (xids_of rs)
    elsewhere n [] k = tt
    elsewhere n (r ∷ rs) k = (k.0, elsewhere n rs k.1)

    apart : (rs : List Row) → Different xid_of rs → Apart (xids_of rs)
    apart [] k = tt
    apart (r ∷ rs) k = (elsewhere r.xid rs k.0, apart rs k.1)

    each : (rs : List Row) → Each (λ (r : Row). In r rows × F r) rs → Each (Is rows F) (xids_of rs)
    each [] k = tt
    each (r ∷ rs) k = ((r, k.0.0, refl, k.0.1), each rs k.1)

-- ---- calls that were made again

abbrev pub root_of : Row → ℕ
root_of r = r.root

-- each row repeats a first one, which is as it is
abbrev pub IsRoot : (Row → Type 0) → Row → Type 0
IsRoot F r = (r.root ≡ r.xid) × F r

pub record HasRoot (rows : List Row) (r : Row) : Type 0 where
  pub first : Row
  pub there : In first rows
  pub xid : first.xid ≡ r.root
  pub root : first.root ≡ r.root
  pub call : first.call ≡ r.call
  pub x : first.x ≡ r.x
  pub op : first.op ≡ r.op

-- as many first ones as roots, of which each has no more than 4 rows
pub record Roots (rows : List Row) (F : Row → Type 0) (many : ℕ) : Type 0 where
  pub roots : List ℕ
  pub apart : Apart roots
  pub each : Each (Is rows (IsRoot F)) roots
  pub few : many ≤ 4 * length roots

module _ (rows : List Row) (F : Row → Type 0) (rooted : (r : Row) → In r rows → HasRoot rows r) (same : (r : Row) → In r rows → (q : HasRoot rows r) → F r → F q.first)
    (few : (root : ℕ) → Room rows (λ (r : Row). r.root ≡ root) 0 4) where
  abbrev Mine : Row → Type 0
  Mine r = In r rows × F r

  abbrev Groups : Type 0
  Groups = List (Group root_of xid_of Mine)

  abbrev numbers : Groups → List ℕ
  numbers [] = []
  numbers (g ∷ gs) = g.head.root ∷ numbers gs

  elsewhere : (n : ℕ) (gs : Groups) → Each (λ (g : Group root_of xid_of Mine). g.head.root ≢ n) gs → Elsewhere n (numbers gs)
  elsewhere n [] e = tt
  elsewhere n (g ∷ gs) e = (e.0, elsewhere n gs e.1)

  apart : (gs : Groups) → AreApart root_of xid_of gs → Apart (numbers gs)
  apart [] a = tt
  apart (g ∷ gs) a = (elsewhere g.head.root gs a.0, apart gs a.1)

  each : (gs : Groups) → Each (Is rows (IsRoot F)) (numbers gs)
  each [] = tt
  each (g ∷ gs) =
      let h = rooted g.head g.first.0 in
      ((h.first, h.there, h.xid, (h.root ∙ sym h.xid, same g.head g.first.0 h g.first.1)), each gs)

  one-group : (g : Group root_of xid_of Mine) → length (g.head ∷ g.tail) ≤ 4
  one-group g =
      let all = rows-fit rows (λ (r : Row). r.root ≡ g.head.root) 0 4 (few g.head.root) (g.head ∷ g.tail) g.different
      ((g.first.0, refl), each-map (λ (r : Row). Mine r × (r.root ≡ g.head.root)) (λ (r : Row). In r rows × (r.root ≡ g.head.root)) (λ r p. (p.0.0, p.1)) g.tail g.each) in
      omega (arith, all)

  count : (gs : Groups) → total root_of xid_of gs ≤ 4 * length (numbers gs)
  count [] = omega arith
  count (g ∷ gs) = let one = one-group g in let rest = count gs in by (length (numbers gs)) rest one
    where
      by : (n : ℕ) → total root_of xid_of gs ≤ 4 * n → length (g.head ∷ g.tail) ≤ 4 → length (g.head ∷ g.tail) + total root_of xid_of gs ≤ 4 * suc n
      by n rest one = omega (arith, rest, one)

  pub roots-of : (xids : List ℕ) → Apart xids → Each (Is rows F) xids → Roots rows F (length xids)
  roots-of xids a e =
      let f = rows-of rows F xids a e in
      let g = grouped root_of xid_of Mine f.found f.different f.each in
      record {
        roots = numbers g.groups;
        apart = apart g.groups g.apart;
        each = each g.groups;
        few = let all = count g.groups in let size = g.all in let many = f.all in omega (arith, all, size, many);
      }
