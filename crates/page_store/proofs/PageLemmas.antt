-- What stands in the body of a slot, as a list of bytes and as a page.
use Rattle.std.proofs.Common.{◌≡◌, ◌<◌, ◌⊎◌, inl, inr, ℕ, suc, zero, ◌+◌, ◌-◌, List, [], ◌∷◌, ◌++◌, length, drop, replicate, Option, Some, None, refl, sym, ◌∙◌, ap, subst, arith, length-append, length-drop}
use Rattle.std.specs.Prelude.{slice_get, set, get_or}
use Rattle.std.proofs.lemmas.Option.{slice_get_within, get_or_from_slice_get, slice_get-get_or}
use Rattle.std.proofs.lemmas.Bool.{cases_lt}
use Rattle.std.proofs.lemmas.List.{ext_get_or, get_or-take, get_or-drop, get_or_past, get_or-append_right, get_or_append_left, get_or-replicate, length-replicate, length-take, length-set, set-set, get_or-set_same, get_or-set_other}
use Rattle.page_store.specs.Disk.{byte_at, Every, Only}
use Rattle.page_store.specs.Slots.{gate_at, IsOpen, SameBody, SameSlot, HasBody, IsFromOr, IsBeside, IsSound, AreLong}
use Rattle.page_store.specs.Pages.{StoredPage, page_of, part_in, body_in, HasPage, KeepsOnly}
use Rattle.page_store.specs.Store.{IsShown, AreShown, IsOpened, IsStored, Stands}
use Rattle.page_store.proofs.Torn.{which, beside-itself}

length-part : (n at : ℕ) (image : List ℕ) → length (part_in n at image) ≡ n
length-part n at image =
    let all = length-append (drop at image) (replicate n 0) in
    let zeros = length-replicate {A = ℕ} n 0 in
    let front = length-take n (drop at image ++ replicate n 0) in
    omega (arith, all, zeros, front)

byte-part : (n at : ℕ) (image : List ℕ) (i : ℕ) → i < n → byte_at (part_in n at image) i ≡ byte_at image (at + i)
byte-part n at image i low = get_or-take n (drop at image ++ replicate n 0) i 0 low ∙ elim (cases_lt i (length (drop at image))) [
  | inl there ↦ get_or_append_left (drop at image) (replicate n 0) 0 i there ∙ get_or-drop at image i 0
  | inr past ↦ get_or-append_right (drop at image) (replicate n 0) (length (drop at image)) i 0 refl past
      ∙ get_or-replicate n (i - length (drop at image)) 0 0 (omega (arith, low))
      ∙ sym (get_or_past image (at + i) 0 (let rest = length-drop at image in omega (arith, rest, past)))
]

-- bytes that are those of a body
pub is-body : (image bytes : List ℕ) (k : ℕ) → length bytes ≡ 4220 → ((i : ℕ) → i < 4220 → byte_at bytes i ≡ byte_at image (gate_at k + 4 + i)) → bytes ≡ body_in image k
is-body image bytes k long same = ext_get_or 0 bytes (body_in image k) (long ∙ sym (length-part 4220 (gate_at k + 4) image))
    (λ i low. same i (omega (arith, low, long)) ∙ sym (byte-part 4220 (gate_at k + 4) image i (omega (arith, low, long))))

pub has-page : (image body : List ℕ) (k : ℕ) (page : StoredPage) → IsOpen image k → HasBody image k body → length body ≡ 4220 → page_of body ≡ Some page → HasPage image k page
has-page image body k page opens has long is = record {
  opens = opens;
  is = ap page_of (sym (is-body image body k long (λ i low. sym (has i low)))) ∙ is;
}

pub same-body : (k : ℕ) (c d : List ℕ) → SameBody k c d → body_in c k ≡ body_in d k
same-body k c d same = is-body d (body_in c k) k (length-part 4220 (gate_at k + 4) c) (λ i low. byte-part 4220 (gate_at k + 4) c i low ∙ same i low)

-- what a slot shows, by the page in its body
pub shown-by : (image bytes : List ℕ) (k : ℕ) (page : Option StoredPage) → IsOpen image k → bytes ≡ body_in image k → page ≡ page_of bytes → IsShown image k page
shown-by image bytes k None opens same is = λ page has. absurd (let no_way : None ≡ Some page = is ∙ ap page_of same ∙ has.is in cc)
shown-by image bytes k (Some page) opens same is = record { opens = opens; is = ap page_of (sym same) ∙ sym is }

-- ---- slots that stay

stays-open : (k : ℕ) (c d : List ℕ) → SameSlot k c d → IsOpen d k → IsOpen c k
stays-open k c d same opens i low = same i (omega (arith, low)) ∙ opens i low

slot-body : (k : ℕ) (c d : List ℕ) → SameSlot k c d → SameBody k c d
slot-body k c d same i low =
    let place : gate_at k + (4 + i) ≡ gate_at k + 4 + i = omega arith in
    subst (λ (p : ℕ). byte_at c p ≡ byte_at d p) place (same (4 + i) (omega (arith, low)))

pub page-stays : (k : ℕ) (c d : List ℕ) (page : StoredPage) → SameSlot k c d → HasPage d k page → HasPage c k page
page-stays k c d page same has = record { opens = stays-open k c d same has.opens; is = ap page_of (same-body k c d (slot-body k c d same)) ∙ has.is }

-- pages that came with their bodies
pub keeps-only : (top slot : ℕ) (body : List ℕ) (page : StoredPage) (old : List ℕ → Type 0) (c : List ℕ) → length body ≡ 4220 → page_of body ≡ Some page → IsFromOr top slot body old c
    → KeepsOnly top slot page old c
keeps-only top slot body page old c long is from k other low has = elim (from k low has.opens) [
  | inl stood ↦ inl (stood.0, stood.1, record { opens = stood.2; is = ap page_of (sym (same-body k c stood.0 stood.3)) ∙ has.is })
  | inr this ↦ inr (this.0, some (sym has.is ∙ ap page_of (sym (is-body c body k long (λ i less. sym (this.1 i less)))) ∙ is))
]
  where
    some : Some other ≡ Some page → other ≡ page
    some e = cc

-- ---- one slot more

get-push : {A : Type 0} (xs : List A) (x : A) (k : ℕ) (y : A) → slice_get (xs ++ x ∷ []) k ≡ Some y → (slice_get xs k ≡ Some y) ⊎ ((k ≡ length xs) × (y ≡ x))
get-push [] x zero y there = inr (refl, cc)
get-push [] x (suc k) y there = absurd (cc)
get-push (z ∷ zs) x zero y there = inl there
get-push (z ∷ zs) x (suc k) y there = elim (get-push zs x k y there) [ inl e ↦ inl e | inr e ↦ inr (ap suc e.0, e.1) ]

pub shown-more : (image : List ℕ) (n : ℕ) (pages : List (Option StoredPage)) (page : Option StoredPage) → AreShown image n pages → IsShown image n page → AreShown image (n + 1) (pages ++ page ∷ [])
shown-more image n pages page s one = record {
  all = let all = s.all in let more = length-append pages (page ∷ []) in omega (arith, all, more);
  each = λ k o there. by k o (get-push pages page k o there);
}
  where
    by : (k : ℕ) (o : Option StoredPage) → (slice_get pages k ≡ Some o) ⊎ ((k ≡ length pages) × (o ≡ page)) → IsShown image k o
    by k o (inl was) = s.each k o was
    by k o (inr new) = subst (λ (p : Option StoredPage). IsShown image k p) (sym new.1) (subst (λ (j : ℕ). IsShown image j page) (sym (new.0 ∙ s.all)) one)

-- ---- pages in memory and in every image

pub stands-opened : (top : ℕ) (seen : List ℕ) (now : List ℕ → Type 0) (pages : List (Option StoredPage)) → ((c : List ℕ) → now c → c ≡ seen) → AreShown seen top pages → Stands now pages
stands-opened top seen now pages only shown k page there c left = subst (λ (i : List ℕ). HasPage i k page) (sym (only c left)) (shown.each k (Some page) there)

-- after a slot was stored into: what stands in the others is as it was
pub stands-stored : (top slot : ℕ) (old new : List ℕ → Type 0) (pages : List (Option StoredPage)) (after : Option StoredPage) → length pages ≡ top → slot < top
    → Every new (IsBeside top slot old) → Stands old pages → ((page : StoredPage) → after ≡ Some page → Every new (λ c. HasPage c slot page))
    → Stands new (set pages slot after)
stands-stored top slot old new pages after all low beside stands own k page there c left = by (which k slot)
  where
    there-is : get_or (set pages slot after) k None ≡ Some page
    there-is = get_or_from_slice_get (set pages slot after) k (Some page) None there

    within : k < top
    within = let less = slice_get_within (set pages slot after) k (Some page) there in let same = length-set pages slot after in omega (arith, less, same, all)

    by : (k ≡ slot) ⊎ ((k < slot) ⊎ (slot < k)) → HasPage c k page
    by (inl is) =
        let put : after ≡ Some page = sym (get_or-set_same pages slot after None (omega (arith, low, all))) ∙ subst (λ (j : ℕ). get_or (set pages slot after) j None ≡ Some page) is there-is in
        subst (λ (j : ℕ). HasPage c j page) (sym is) (own page put c left)
    by (inr other) =
        let apart : k ≡ slot → ⊥ = apart-from other in
        let b = beside c left in
        let was : get_or pages k None ≡ Some page = sym (get_or-set_other pages slot k after None apart) ∙ there-is in
        let found : slice_get pages k ≡ Some (Some page) = slice_get-get_or pages k None (omega (arith, within, all)) ∙ ap (λ (o : Option StoredPage). Some o) was in
        page-stays k c b.0 page (b.2 k within apart) (stands k page found b.0 b.1)
      where
        apart-from : (k < slot) ⊎ (slot < k) → k ≡ slot → ⊥
        apart-from (inl less) is = absurd (omega (arith, less, is))
        apart-from (inr more) is = absurd (omega (arith, more, is))

-- after a disk was opened
pub sound-one : (top : ℕ) (seen : List ℕ) (before now : List ℕ → Type 0) → ((c : List ℕ) → now c → c ≡ seen) → ((c : List ℕ) → now c → before c) → AreLong top before → IsSound top now
sound-one top seen before now only fewer long = record {
  long = λ c left. long c (fewer c left);
  same = λ k d c less there opens left i within. ap (λ (image : List ℕ). byte_at image (gate_at k + 4 + i)) (only c left ∙ sym (only d there));
}

pub is-opened : (top : ℕ) (seen : List ℕ) (before now : List ℕ → Type 0) (pages : List (Option StoredPage)) → now seen → Only seen now → ((c : List ℕ) → now c → before c) → AreShown seen top pages
    → IsOpened top before seen now pages
is-opened top seen before now pages there only fewer shown = record {
  one = fewer seen there;
  only = only;
  shown = shown;
  sound = λ m. sound-one m seen before now only fewer;
  stands = stands-opened top seen now pages only shown;
}

pub keeps-itself : (top slot : ℕ) (page : StoredPage) (old : List ℕ → Type 0) → Every old (KeepsOnly top slot page old)
keeps-itself top slot page old c left k other low has = inl (c, left, has)

-- ---- a slot was stored into, or counts as closed

some-is : (a b : StoredPage) → Some a ≡ Some b → a ≡ b
some-is a b e = cc

no-page : (page : StoredPage) → None ≡ Some page → ⊥
no-page page e = cc

pub stands-closed : (top slot : ℕ) (old new : List ℕ → Type 0) (pages : List (Option StoredPage)) → length pages ≡ top → slot < top → Every new (IsBeside top slot old) → Stands old pages
    → Stands new (set pages slot None)
stands-closed top slot old new pages all low beside stands = stands-stored top slot old new pages None all low beside stands (λ page none. absurd (no-page page none))

pub stands-still : (top slot : ℕ) (old : List ℕ → Type 0) (pages : List (Option StoredPage)) → length pages ≡ top → slot < top → Stands old pages → Stands old (set pages slot None)
stands-still top slot old pages all low stands = stands-closed top slot old old pages all low (beside-itself top slot old) stands

pub stands-put : (top slot : ℕ) (old new : List ℕ → Type 0) (pages : List (Option StoredPage)) (copy put : StoredPage) (seen : List ℕ) → length pages ≡ top → slot < top
    → Every new (IsBeside top slot old) → Stands old pages → copy ≡ put → IsStored slot put seen new → Stands new (set (set pages slot None) slot (Some copy))
stands-put top slot old new pages copy put seen all low beside stands same stored =
    subst (λ (ps : List (Option StoredPage)). Stands new ps) (sym (set-set pages slot None (Some copy)))
    (stands-stored top slot old new pages (Some copy) all low beside stands
    (λ page is c left. subst (λ (p : StoredPage). HasPage c slot p) (sym same ∙ some-is copy page is) (subst (λ (i : List ℕ). HasPage i slot put) (sym (stored.only c left)) stored.there)))

pub pages-put : (slot : ℕ) (pages : List (Option StoredPage)) (copy put : StoredPage) → copy ≡ put → set (set pages slot None) slot (Some copy) ≡ set pages slot (Some put)
pages-put slot pages copy put same = set-set pages slot None (Some copy) ∙ ap (λ (p : StoredPage). set pages slot (Some p)) same
