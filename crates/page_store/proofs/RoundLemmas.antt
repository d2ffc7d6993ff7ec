-- What the steps of a round leave of slots, and which pages the images have then.
use Rattle.std.proofs.Common.{◌≡◌, ◌<◌, ◌≤◌, ◌⊎◌, inl, inr, ℕ, ◌+◌, ◌*◌, List, length, Option, Some, None, refl, sym, ◌∙◌, ap, subst, arith}
use Rattle.std.specs.Prelude.{slice_get}
use Rattle.std.proofs.lemmas.Option.{slice_get_within}
use Rattle.page_store.specs.Disk.{Every, Holds, Only, Torn, Follows, byte_at}
use Rattle.page_store.specs.Slots.{gate_at, IsOpen, SameBody, SameSlot, IsSound, IsFrom, IsBeside, IsShut, HasGate}
use Rattle.page_store.specs.Pages.{StoredPage, HasPage, WasKept, page_of, body_in}
use Rattle.page_store.specs.Rounds.{Round, IsIn, IsFilled, IsUnderWay, IsOpening, IsOutside, IsEnded, KeepsAll, KeepsOrFills}
use Rattle.page_store.proofs.Torn.{which, gate-but, slot-aside}
use Rattle.page_store.proofs.PageLemmas.{same-body, page-stays}

-- ---- slots outside of the round

pub outside-itself : (top : ℕ) (round : Round) (old : List ℕ → Type 0) → Every old (IsOutside top round old)
outside-itself top round old c left = (c, left, λ k less out i within. refl)

pub outside-then : (top : ℕ) (round : Round) (old mid : List ℕ → Type 0) → Every mid (IsOutside top round old) → (c : List ℕ) → IsOutside top round mid c → IsOutside top round old c
outside-then top round old mid each c b =
    let o = each b.0 b.1 in
    (o.0, o.1, λ k less out i within. b.2 k less out i within ∙ o.2 k less out i within)

pub beside-outside : (top slot : ℕ) (round : Round) (entry : Option StoredPage) → slice_get round slot ≡ Some (Some entry) → (old : List ℕ → Type 0) (c : List ℕ)
    → IsBeside top slot old c → IsOutside top round old c
beside-outside top slot round entry there old c b = (
  b.0,
  b.1,
  λ k less out. b.2 k less (λ is. out (entry, subst (λ (j : ℕ). slice_get round j ≡ Some (Some entry)) (sym is) there)),
)

-- ---- gates that a write closed or opened, as a read gives them

-- a gate that was written closed is closed, and no other one was opened
pub gate-shuts : (slot : ℕ) (old new gate : List ℕ) → length gate ≡ 4 → ((i : ℕ) → i < 4 → byte_at gate i ≡ 0) → Holds (gate_at slot) gate old new
    → (k : ℕ) → IsOpen new k → IsOpen old k × (k ≡ slot → ⊥)
gate-shuts slot old new gate size zeros h k opens = (still (which k slot), not_it)
  where
    not_it : k ≡ slot → ⊥
    not_it is =
        let one : byte_at new (gate_at slot + 3) ≡ 1 = subst (λ (j : ℕ). byte_at new (gate_at j + 3) ≡ 1) is (opens 3 (omega arith)) in
        let none : byte_at new (gate_at slot + 3) ≡ 0 = h.written 3 (omega (arith, size)) ∙ zeros 3 (omega arith) in
        absurd (let no_way : 0 ≡ 1 = sym none ∙ one in cc)

    still : (k ≡ slot) ⊎ ((k < slot) ⊎ (slot < k)) → IsOpen old k
    still (inl is) = absurd (not_it is)
    still (inr (inl less)) = λ i low. sym (h.below (gate_at k + i) (omega (arith, less, low))) ∙ opens i low
    still (inr (inr more)) = λ i low. sym (h.above (gate_at k + i) (omega (arith, more, low, size))) ∙ opens i low

-- a gate that was written open is open, and no other one was closed
pub gate-opens : (slot : ℕ) (old new gate : List ℕ) → length gate ≡ 4 → Holds (gate_at slot) gate old new → HasGate new slot gate
gate-opens slot old new gate size h i low = h.written i (omega (arith, size, low))

pub gate-stays : (slot : ℕ) (old new gate : List ℕ) → length gate ≡ 4 → Holds (gate_at slot) gate old new → HasGate new slot gate → (k : ℕ) → (k ≡ slot → IsOpen new k) → IsOpen old k
    → IsOpen new k
gate-stays slot old new gate size h has k own opens = by (which k slot)
  where
    by : (k ≡ slot) ⊎ ((k < slot) ⊎ (slot < k)) → IsOpen new k
    by (inl is) = own is
    by (inr (inl less)) = λ i low. h.below (gate_at k + i) (omega (arith, less, low)) ∙ opens i low
    by (inr (inr more)) = λ i low. h.above (gate_at k + i) (omega (arith, more, low, size)) ∙ opens i low

-- ---- while gates are opened

pub opening-first : (top : ℕ) (round : Round) (image : List ℕ) (old : List ℕ → Type 0) → 4224 * top ≤ length image → Only image old → Every old (IsOpening top round image)
opening-first top round image old long only c left =
    subst (λ (d : List ℕ). IsOpening top round image d) (sym (only c left))
    (record { long = long; bodies = λ k less i within. refl; gates = λ k less opens. inl opens; aside = λ k less out i within. refl })

pub opening-more : (top slot : ℕ) (round : Round) (page : StoredPage) (image : List ℕ) (old new : List ℕ → Type 0) → slot < top → IsFilled round slot page
    → Follows (Torn (gate_at slot) 4) old new → Every old (IsOpening top round image) → Every new (IsOpening top round image)
opening-more top slot round page image old new low filled crash each c left =
    let f = crash c left in
    let o = each f.0 f.1 in
    let but = gate-but top slot f.0 c f.2 o.long low in
    let more = f.2.long in
    let was = o.long in
    record {
      long = omega (arith, more, was);
      bodies = λ k less i within. (but k less).0 i within ∙ o.bodies k less i within;
      gates = λ k less opens. by f.0 c k (o.gates k less) opens (but k less).1;
      aside = λ k less out i within.
          slot-aside top (gate_at slot) 4 slot f.0 c f.2 o.long (omega arith) (omega arith) k less
          (λ is. out (Some page, subst (λ (j : ℕ). slice_get round j ≡ Some (Some (Some page))) (sym is) filled)) i within
          ∙ o.aside k less out i within;
    }
  where
    by : (d c : List ℕ) (k : ℕ) → (IsOpen d k → IsOpen image k ⊎ ((p : StoredPage) × IsFilled round k p)) → IsOpen c k → (k ≡ slot) ⊎ (IsOpen c k → IsOpen d k)
        → IsOpen image k ⊎ ((p : StoredPage) × IsFilled round k p)
    by d c k so opens (inl is) = inr (page, subst (λ (j : ℕ). IsFilled round j page) (sym is) filled)
    by d c k so opens (inr f) = so (f opens)

pub opening-sound : (top : ℕ) (round : Round) (image : List ℕ) (now : List ℕ → Type 0) → Every now (IsOpening top round image) → IsSound top now
opening-sound top round image now each = record {
  long = λ c left. (each c left).long;
  same = λ k d c less there opens left i within. (each c left).bodies k less i within ∙ sym ((each d there).bodies k less i within);
}

pub opening-outside : (top : ℕ) (round : Round) (image : List ℕ) (old : List ℕ → Type 0) → old image → (c : List ℕ) → IsOpening top round image c → IsOutside top round old c
opening-outside top round image old there c o = (image, there, λ k less out. o.aside k less out)

-- the pages of an image then
pub opening-keeps : (top : ℕ) (round : Round) (image : List ℕ) (old : List ℕ → Type 0) → old image → ((k : ℕ) (page : StoredPage) → IsFilled round k page → page_of (body_in image k) ≡ Some page)
    → (c : List ℕ) → IsOpening top round image c → KeepsOrFills top round old c
opening-keeps top round image old there whole c o k page less has = by (o.gates k less has.opens)
  where
    is : page_of (body_in image k) ≡ Some page
    is = ap page_of (sym (same-body k c image (o.bodies k less))) ∙ has.is

    some : (a : StoredPage) → Some a ≡ Some page → a ≡ page
    some a e = cc

    by : IsOpen image k ⊎ ((p : StoredPage) × IsFilled round k p) → WasKept old k page ⊎ IsFilled round k page
    by (inl opens) = inl (image, there, record { opens = opens; is = is })
    by (inr f) =
        let same : f.0 ≡ page = some f.0 (sym (whole k f.0 f.1) ∙ is) in
        inr (subst (λ (p : StoredPage). IsFilled round k p) same f.1)

-- after all gates are open
pub opening-ended : (top : ℕ) (round : Round) (image seen : List ℕ) → length round ≤ top → IsOpening top round image seen
    → ((k : ℕ) (page : StoredPage) → IsFilled round k page → page_of (body_in image k) ≡ Some page)
    → ((k : ℕ) (page : StoredPage) → IsFilled round k page → IsOpen seen k)
    → (k : ℕ) (page : StoredPage) → IsFilled round k page → HasPage seen k page
opening-ended top round image seen fits o whole opens k page filled =
    let less : k < top = let within = slice_get_within round k (Some (Some page)) filled in omega (arith, within, fits) in
    record { opens = opens k page filled; is = ap page_of (same-body k seen image (o.bodies k less)) ∙ whole k page filled }

-- ---- pages by their bodies

pub keeps-all : (top : ℕ) (old : List ℕ → Type 0) (c : List ℕ) → IsFrom top old c → KeepsAll top old c
keeps-all top old c from k page less has =
    let stood = from k less has.opens in
    (stood.0, stood.1, record { opens = stood.2; is = ap page_of (sym (same-body k c stood.0 stood.3)) ∙ has.is })

pub keeps-or : (top : ℕ) (round : Round) (old : List ℕ → Type 0) (c : List ℕ) → KeepsAll top old c → KeepsOrFills top round old c
keeps-or top round old c keeps k page less has = inl (keeps k page less has)

pub keeps-or-then : (top : ℕ) (round : Round) (old mid : List ℕ → Type 0) → Every mid (KeepsAll top old) → (c : List ℕ) → KeepsOrFills top round mid c → KeepsOrFills top round old c
keeps-or-then top round old mid each c keeps k page less has = by (keeps k page less has)
  where
    by : WasKept mid k page ⊎ IsFilled round k page → WasKept old k page ⊎ IsFilled round k page
    by (inl m) = inl (each m.0 m.1 k page less m.2)
    by (inr f) = inr f

pub keeps-all-itself : (top : ℕ) (old : List ℕ → Type 0) → Every old (KeepsAll top old)
keeps-all-itself top old c left k page less has = (c, left, has)

-- ---- loops over a round

pub place-low : (round : Round) (slot n : ℕ) → slot < length round → length round ≤ n → slot < n
place-low round slot n less fits = omega (arith, less, fits)

-- ---- gates that read as closed

pub shut-more : (round : Round) (slot : ℕ) (entry : Option (Option StoredPage)) (seen new : List ℕ) → slice_get round slot ≡ Some entry
    → ((k : ℕ) → k < slot → IsIn round k → IsOpen seen k → ⊥)
    → ((k : ℕ) → IsOpen new k → IsOpen seen k × ((page : Option StoredPage) → entry ≡ Some page → k ≡ slot → ⊥))
    → (k : ℕ) → k < slot + 1 → IsIn round k → IsOpen new k → ⊥
shut-more round slot entry seen new there so_far step k less in_it opens = by (which k slot)
  where
    some_is : (a b : Option (Option StoredPage)) → Some a ≡ Some b → a ≡ b
    some_is a b e = cc

    by : (k ≡ slot) ⊎ ((k < slot) ⊎ (slot < k)) → ⊥
    by (inl is) = (step k opens).1 in_it.0 (some_is entry (Some in_it.0) (sym there ∙ subst (λ (j : ℕ). slice_get round j ≡ Some (Some in_it.0)) is in_it.1)) is
    by (inr (inl low)) = so_far k low in_it (step k opens).0
    by (inr (inr high)) = absurd (omega (arith, less, high))

pub read-shut : (round : Round) (n : ℕ) (seen : List ℕ) (now : List ℕ → Type 0) → length round ≤ n → Only seen now → ((k : ℕ) → k < n → IsIn round k → IsOpen seen k → ⊥)
    → (k : ℕ) → IsIn round k → IsShut now k
read-shut round n seen now all only closed k in_it c left opens =
    let low : k < n = (let within = slice_get_within round k (Some in_it.0) in_it.1 in omega (arith, within, all)) in
    closed k low in_it (subst (λ (i : List ℕ). IsOpen i k) (only c left) opens)

-- ---- gates that read as open

pub open-more : (round : Round) (slot : ℕ) (entry : Option (Option StoredPage)) (seen new : List ℕ) → slice_get round slot ≡ Some entry
    → ((k : ℕ) (page : StoredPage) → k < slot → IsFilled round k page → IsOpen seen k) → ((k : ℕ) → IsOpen seen k → IsOpen new k)
    → ((page : StoredPage) → entry ≡ Some (Some page) → IsOpen new slot)
    → (k : ℕ) (page : StoredPage) → k < slot + 1 → IsFilled round k page → IsOpen new k
open-more round slot entry seen new there so_far stay own k page less filled = by (which k slot)
  where
    some_is : (a b : Option (Option StoredPage)) → Some a ≡ Some b → a ≡ b
    some_is a b e = cc

    by : (k ≡ slot) ⊎ ((k < slot) ⊎ (slot < k)) → IsOpen new k
    by (inl is) =
        let same : entry ≡ Some (Some page) = some_is entry (Some (Some page)) (sym there ∙ subst (λ (j : ℕ). slice_get round j ≡ Some (Some (Some page))) is filled) in
        subst (λ (j : ℕ). IsOpen new j) (sym is) (own page same)
    by (inr (inl low)) = stay k (so_far k page low filled)
    by (inr (inr high)) = absurd (omega (arith, less, high))

pub filled-low : (round : Round) (n k : ℕ) (page : StoredPage) → length round ≤ n → IsFilled round k page → k < n
filled-low round n k page all filled = let within = slice_get_within round k (Some (Some page)) filled in omega (arith, within, all)
