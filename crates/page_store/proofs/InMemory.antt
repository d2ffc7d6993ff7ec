-- What a round does to pages in memory, and that those which are shown stand in every image.
use Rattle.std.proofs.Common.{◌≡◌, ◌<◌, ◌≤◌, ◌⊎◌, inl, inr, ℕ, zero, suc, ◌+◌, ◌*◌, List, [], ◌∷◌, ◌++◌, length, take, replicate, Option, Some, None, refl, sym, ◌∙◌, ap, subst, arith}
use Rattle.std.specs.Prelude.{slice_get, set, get_or}
use Rattle.std.proofs.lemmas.List.{length-set, length-replicate, take_more}
use Rattle.std.proofs.lemmas.Option.{slice_get_within}
use Rattle.page_store.specs.Disk.{Every, Holds, Only, byte_at}
use Rattle.page_store.specs.Slots.{gate_at, SameBody, HasBody, IsBeside, IsShut}
use Rattle.page_store.specs.Pages.{StoredPage, HasPage, page_of, body_in}
use Rattle.page_store.specs.Store.{Stands, flat, shown_at}
use Rattle.page_store.specs.Rounds.{Round, IsIn, IsFilled, IsUnderWay, IsOutside, IsEnded, AreApart, AreHeld, AreEnded, cleared, taken_in, shown_after, entry_at}
use Rattle.page_store.proofs.Torn.{which}
use Rattle.page_store.proofs.PageLemmas.{same-body, is-body, page-stays}

-- ---- lists

-- what stands at a place of a list that was set at one place
pub get-set : {A : Type 0} (xs : List A) (i k : ℕ) (y z : A) → slice_get (set xs i y) k ≡ Some z → ((k ≡ i) × (z ≡ y)) ⊎ ((k ≡ i → ⊥) × (slice_get xs k ≡ Some z))
get-set [] i k y z there = absurd (cc)
get-set (x ∷ xs) zero zero y z there = inl (refl, cc)
get-set (x ∷ xs) zero (suc k) y z there = inr (λ e. absurd (omega (arith, e)), there)
get-set (x ∷ xs) (suc i) zero y z there = inr (λ e. absurd (omega (arith, e)), there)
get-set (x ∷ xs) (suc i) (suc k) y z there = elim (get-set xs i k y z there) [ inl e ↦ inl (ap suc e.0, e.1) | inr e ↦ inr (λ same. e.0 (omega (arith, same)), e.1) ]

some-some : (a b : StoredPage) → Some a ≡ Some b → a ≡ b
some-some a b e = cc

none-some : (a : StoredPage) → None ≡ Some a → ⊥
none-some a e = cc

pub no-entry : (n k : ℕ) (entry : Option StoredPage) → slice_get (replicate n None) k ≡ Some (Some entry) → ⊥
no-entry zero k entry there = absurd (cc)
no-entry (suc n) zero entry there = absurd (cc)
no-entry (suc n) (suc k) entry there = no-entry n k entry there

-- ---- slots that count as closed, and slots of a round

pub cleared-append : (more slots : List ℕ) (pages : List (Option StoredPage)) → cleared (slots ++ more) pages ≡ cleared more (cleared slots pages)
cleared-append more [] pages = refl
cleared-append more (k ∷ slots) pages = cleared-append more slots (set pages k None)

pub taken-append : (more slots : List ℕ) (round : Round) → taken_in (slots ++ more) round ≡ taken_in more (taken_in slots round)
taken-append more [] round = refl
taken-append more (k ∷ slots) round = taken-append more slots (set round k (Some None))

pub cleared-long : (slots : List ℕ) (pages : List (Option StoredPage)) → length (cleared slots pages) ≡ length pages
cleared-long [] pages = refl
cleared-long (k ∷ slots) pages = cleared-long slots (set pages k None) ∙ length-set pages k None

pub taken-long : (slots : List ℕ) (round : Round) → length (taken_in slots round) ≡ length round
taken-long [] round = refl
taken-long (k ∷ slots) round = taken-long slots (set round k (Some None)) ∙ length-set round k (Some None)

-- what is still shown was shown before
pub cleared-less : (slots : List ℕ) (pages : List (Option StoredPage)) (k : ℕ) (page : StoredPage) → slice_get (cleared slots pages) k ≡ Some (Some page) → slice_get pages k ≡ Some (Some page)
cleared-less [] pages k page there = there
cleared-less (j ∷ slots) pages k page there = elim (get-set pages j k None (Some page) (cleared-less slots (set pages j None) k page there)) [
  | inl e ↦ absurd (none-some page (sym e.1))
  | inr e ↦ e.1
]

pub none-filled : (slots : List ℕ) (round : Round) → ((k : ℕ) (page : StoredPage) → IsFilled round k page → ⊥) → (k : ℕ) (page : StoredPage) → IsFilled (taken_in slots round) k page → ⊥
none-filled [] round none k page there = none k page there
none-filled (j ∷ slots) round none k page there = none-filled slots (set round j (Some None)) (λ i p is. one i p is) k page there
  where
    inner : (p : StoredPage) → Some (Some p) ≡ Some None → ⊥
    inner p e = cc

    one : (i : ℕ) (p : StoredPage) → IsFilled (set round j (Some None)) i p → ⊥
    one i p is = elim (get-set round j i (Some None) (Some (Some p)) is) [ inl e ↦ inner p e.1 | inr e ↦ none i p e.1 ]

apart-one : (j : ℕ) (pages : List (Option StoredPage)) (round : Round) → AreApart pages round → AreApart (set pages j None) (set round j (Some None))
apart-one j pages round apart k page shown is = elim (get-set pages j k None (Some page) shown) [
  | inl e ↦ none-some page (sym e.1)
  | inr e ↦ elim (get-set round j k (Some None) (Some is.0) is.1) [ inl f ↦ e.0 f.0 | inr f ↦ apart k page e.1 (is.0, f.1) ]
]

pub apart-taken : (slots : List ℕ) (pages : List (Option StoredPage)) (round : Round) → AreApart pages round → AreApart (cleared slots pages) (taken_in slots round)
apart-taken [] pages round apart = apart
apart-taken (j ∷ slots) pages round apart = apart-taken slots (set pages j None) (set round j (Some None)) (apart-one j pages round apart)

pub apart-begun : (slots : List ℕ) (pages : List (Option StoredPage)) (n : ℕ) → AreApart (cleared slots pages) (taken_in slots (replicate n None))
apart-begun slots pages n = apart-taken slots pages (replicate n None) (λ k page shown is. no-entry n k is.0 is.1)

pub apart-none : (pages : List (Option StoredPage)) → AreApart pages []
apart-none pages k page shown is = absurd (let no_way : None ≡ Some (Some is.0) = is.1 in cc)

-- a slot of the round that is filled stays in it
pub apart-filled : (slot : ℕ) (page : StoredPage) (pages : List (Option StoredPage)) (round : Round) → IsIn round slot → AreApart pages round
    → AreApart pages (set round slot (Some (Some page)))
apart-filled slot page pages round in_it apart k other shown is = elim (get-set round slot k (Some (Some page)) (Some is.0) is.1) [
  | inl e ↦ apart k other shown (in_it.0, subst (λ (j : ℕ). slice_get round j ≡ Some (Some in_it.0)) (sym e.0) in_it.1)
  | inr e ↦ apart k other shown (is.0, e.1)
]

-- ---- what a store holds

long-none : (pages : List (Option StoredPage)) → length {A = Option (Option StoredPage)} [] ≤ length pages
long-none pages = omega arith

pub held-none : (pages : List (Option StoredPage)) (round : Round) → AreHeld pages round → AreHeld pages []
held-none pages round h = (h.0, h.1, long-none pages, apart-none pages)

pub held-set : (slot : ℕ) (page : Option StoredPage) (pages : List (Option StoredPage)) (round : Round) → AreHeld pages round → AreHeld (set pages slot page) []
held-set slot page pages round h =
    let same = length-set pages slot page in
    let least = h.0 in
    let most = h.1 in
    (omega (arith, same, least), omega (arith, same, most), long-none (set pages slot page), apart-none (set pages slot page))

pub held-cleared : (slots : List ℕ) (pages : List (Option StoredPage)) (round : Round) → AreHeld pages round → AreHeld (cleared slots pages) []
held-cleared slots pages round h =
    let same = cleared-long slots pages in
    let least = h.0 in
    let most = h.1 in
    (omega (arith, same, least), omega (arith, same, most), long-none (cleared slots pages), apart-none (cleared slots pages))

pub held-begun : (slots : List ℕ) (pages : List (Option StoredPage)) (round : Round) (n : ℕ) → n ≡ length pages → AreHeld pages round → AreHeld (cleared slots pages) (taken_in slots (replicate n None))
held-begun slots pages round n is h =
    let same = cleared-long slots pages in
    let long = taken-long slots (replicate n None) in
    let blank = length-replicate {A = Option (Option StoredPage)} n None in
    let least = h.0 in
    let most = h.1 in
    (omega (arith, same, least), omega (arith, same, most), omega (arith, same, long, blank, is), apart-begun slots pages n)

pub held-filled : (slot : ℕ) (page : StoredPage) (pages : List (Option StoredPage)) (round : Round) → IsIn round slot → AreHeld pages round → AreHeld pages (set round slot (Some (Some page)))
held-filled slot page pages round in_it h =
    let same = length-set round slot (Some (Some page)) in
    let fits = h.2 in
    (h.0, h.1, omega (arith, same, fits), apart-filled slot page pages round in_it h.3)

-- the round that begins is no longer than the pages
pub begun-long : (slots : List ℕ) (n : ℕ) → length (taken_in slots (replicate n None)) ≡ n
begun-long slots n = taken-long slots (replicate n None) ∙ length-replicate {A = Option (Option StoredPage)} n None

-- ---- pages in memory stand in every image

pub stands-outside : (top : ℕ) (round : Round) (old new : List ℕ → Type 0) (pages after : List (Option StoredPage)) → length after ≡ top
    → ((k : ℕ) (page : StoredPage) → slice_get after k ≡ Some (Some page) → slice_get pages k ≡ Some (Some page)) → AreApart after round
    → Every new (IsOutside top round old) → Stands old pages → Stands new after
stands-outside top round old new pages after all less apart outside stands k page there c left =
    let b = outside c left in
    let within : k < top = let low = slice_get_within after k (Some page) there in omega (arith, low, all) in
    page-stays k c b.0 page (b.2 k within (apart k page there)) (stands k page (less k page there) b.0 b.1)

pub stands-beside : (top slot : ℕ) (old new : List ℕ → Type 0) (pages : List (Option StoredPage)) → length pages ≡ top
    → ((page : StoredPage) → slice_get pages slot ≡ Some (Some page) → ⊥) → Every new (IsBeside top slot old) → Stands old pages → Stands new pages
stands-beside top slot old new pages all none beside stands k page there c left =
    let b = beside c left in
    let within : k < top = let low = slice_get_within pages k (Some page) there in omega (arith, low, all) in
    page-stays k c b.0 page (b.2 k within (λ is. none page (subst (λ (j : ℕ). slice_get pages j ≡ Some (Some page)) is there))) (stands k page there b.0 b.1)

pub stands-ended : (top : ℕ) (round : Round) (old new : List ℕ → Type 0) (seen : List ℕ) (pages after : List (Option StoredPage)) → length pages ≡ top → AreEnded round pages after
    → AreApart pages round → Every new (IsOutside top round old) → IsEnded round seen new → Stands old pages → Stands new after
stands-ended top round old new seen pages after all ended apart outside whole stands k page there c left =
    by (slice_get round k) refl (sym (ended.each k) ∙ ap flat there)
  where
    low : k < top
    low = let within = slice_get_within after k (Some page) there in let same = ended.all in omega (arith, within, same, all)

    was : (o : Option (Option StoredPage)) → slice_get pages k ≡ o → flat o ≡ Some page → slice_get pages k ≡ Some (Some page)
    was None e is = absurd (none-some page is)
    was (Some None) e is = absurd (none-some page is)
    was (Some (Some p)) e is = e ∙ ap (λ (q : StoredPage). Some (Some q)) (some-some p page is)

    aside : (IsIn round k → ⊥) → shown_at k pages ≡ Some page → HasPage c k page
    aside out is = let b = outside c left in page-stays k c b.0 page (b.2 k low out) (stands k page (was (slice_get pages k) refl is) b.0 b.1)

    none_in : slice_get round k ≡ None → IsIn round k → ⊥
    none_in e is = absurd (let no_way : None ≡ Some (Some is.0) = sym e ∙ is.1 in cc)

    out_of : slice_get round k ≡ Some None → IsIn round k → ⊥
    out_of e is = absurd (let no_way : Some None ≡ Some (Some is.0) = sym e ∙ is.1 in cc)

    by : (o : Option (Option (Option StoredPage))) → slice_get round k ≡ o → shown_after (flat o) (shown_at k pages) ≡ Some page → HasPage c k page
    by None e is = aside (none_in e) is
    by (Some None) e is = aside (out_of e) is
    by (Some (Some None)) e is = absurd (apart k page (was (slice_get pages k) refl is) (None, e))
    by (Some (Some (Some p))) e is =
        subst (λ (i : List ℕ). HasPage i k page) (sym (whole.only c left)) (subst (λ (q : StoredPage). HasPage seen k q) (some-some p page is) (whole.there k p e))

-- ---- a round that is under way

pub begun-under_way : (slots : List ℕ) (n : ℕ) (seen : List ℕ) (now : List ℕ → Type 0) → ((k : ℕ) → IsIn (taken_in slots (replicate n None)) k → IsShut now k)
    → IsUnderWay seen now (taken_in slots (replicate n None))
begun-under_way slots n seen now shut = record {
  shut = shut;
  whole = λ k page is. absurd (none-filled slots (replicate n None) (λ j p there. no-entry n j (Some p) there) k page is);
}

pub none-under_way : (seen : List ℕ) (now : List ℕ → Type 0) → IsUnderWay seen now []
none-under_way seen now = record {
  shut = λ k is. absurd (let no_way : None ≡ Some (Some is.0) = is.1 in cc);
  whole = λ k page is. absurd (let no_way : None ≡ Some (Some (Some page)) = is in cc);
}

-- the bodies of other slots stay where one was written
body-stays : (slot : ℕ) (old new body : List ℕ) → length body ≡ 4220 → Holds (gate_at slot + 4) body old new → (k : ℕ) → (k ≡ slot → ⊥) → SameBody k new old
body-stays slot old new body size h k other i low = by (which k slot)
  where
    by : (k ≡ slot) ⊎ ((k < slot) ⊎ (slot < k)) → byte_at new (gate_at k + 4 + i) ≡ byte_at old (gate_at k + 4 + i)
    by (inl is) = absurd (other is)
    by (inr (inl less)) = h.below (gate_at k + 4 + i) (omega (arith, less, low))
    by (inr (inr more)) = h.above (gate_at k + 4 + i) (omega (arith, more, low, size))

pub filled-under_way : (top slot : ℕ) (page : StoredPage) (round : Round) (body old_seen new_seen : List ℕ) (old new : List ℕ → Type 0) → length round ≤ top → IsIn round slot
    → length body ≡ 4220 → page_of body ≡ Some page → Holds (gate_at slot + 4) body old_seen new_seen → ((k : ℕ) → k < top → IsShut old k → IsShut new k)
    → IsUnderWay old_seen old round → IsUnderWay new_seen new (set round slot (Some (Some page)))
filled-under_way top slot page round body old_seen new_seen old new fits in_it size is_page h stay so_far = record {
  shut = λ k is. elim (get-set round slot k (Some (Some page)) (Some is.0) is.1) [
    | inl e ↦ closed k (in_it.0, subst (λ (j : ℕ). slice_get round j ≡ Some (Some in_it.0)) (sym e.0) in_it.1)
    | inr e ↦ closed k (is.0, e.1)
  ];
  whole = λ k p is. elim (get-set round slot k (Some (Some page)) (Some (Some p)) is) [
    | inl e ↦ own k p e.0 e.1
    | inr e ↦ ap page_of (same-body k new_seen old_seen (body-stays slot old_seen new_seen body size h k e.0)) ∙ so_far.whole k p e.1
  ];
}
  where
    closed : (k : ℕ) → IsIn round k → IsShut new k
    closed k is = let within = slice_get_within round k (Some is.0) is.1 in stay k (omega (arith, within, fits)) (so_far.shut k is)

    inner : (p : StoredPage) → Some (Some p) ≡ Some (Some page) → page ≡ p
    inner p e = cc

    is_there : body ≡ body_in new_seen slot
    is_there = is-body new_seen body slot size (λ i low. sym (h.written i (omega (arith, low, size))))

    own : (k : ℕ) (p : StoredPage) → k ≡ slot → Some (Some p) ≡ Some (Some page) → page_of (body_in new_seen k) ≡ Some p
    own k p is same =
        subst (λ (j : ℕ). page_of (body_in new_seen j) ≡ Some p) (sym is) (ap page_of (sym is_there) ∙ is_page ∙ ap (λ (q : StoredPage). Some q) (inner p same))

-- ---- loops over slots

pub cleared-step : (slots : List ℕ) (i x : ℕ) (old now new : List (Option StoredPage)) → i < length slots → x ≡ get_or slots i 0 → now ≡ cleared (take i slots) old → new ≡ set now x None
    → new ≡ cleared (take (i + 1) slots) old
cleared-step slots i x old now new lt item so_far step =
    step ∙ ap (λ (ps : List (Option StoredPage)). set ps x None) so_far ∙ ap (λ (k : ℕ). set (cleared (take i slots) old) k None) item
    ∙ sym (ap (λ (s : List ℕ). cleared s old) (take_more slots i 0 lt) ∙ cleared-append (get_or slots i 0 ∷ []) (take i slots) old)

pub taken-step : (slots : List ℕ) (i x : ℕ) (old now new : Round) → i < length slots → x ≡ get_or slots i 0 → now ≡ taken_in (take i slots) old → new ≡ set now x (Some None)
    → new ≡ taken_in (take (i + 1) slots) old
taken-step slots i x old now new lt item so_far step =
    step ∙ ap (λ (r : Round). set r x (Some None)) so_far ∙ ap (λ (k : ℕ). set (taken_in (take i slots) old) k (Some None)) item
    ∙ sym (ap (λ (s : List ℕ). taken_in s old) (take_more slots i 0 lt) ∙ taken-append (get_or slots i 0 ∷ []) (take i slots) old)

-- ---- what the calls of a store need

pub stands-cleared : (slots : List ℕ) (old : List ℕ → Type 0) (pages after : List (Option StoredPage)) → after ≡ cleared slots pages → Stands old pages → Stands old after
stands-cleared slots old pages after is stands k page there c left =
    stands k page (cleared-less slots pages k page (subst (λ (ps : List (Option StoredPage)). slice_get ps k ≡ Some (Some page)) is there)) c left

pub stands-begun : (slots : List ℕ) (old new : List ℕ → Type 0) (pages after : List (Option StoredPage)) (round : Round) → after ≡ cleared slots pages
    → round ≡ taken_in slots (replicate (length after) None) → Every new (IsOutside (length pages) round old) → Stands old pages → Stands new after
stands-begun slots old new pages after round is taken outside stands =
    stands-outside (length pages) round old new pages after (ap (λ (ps : List (Option StoredPage)). length ps) is ∙ cleared-long slots pages)
    (λ k page there. cleared-less slots pages k page (subst (λ (ps : List (Option StoredPage)). slice_get ps k ≡ Some (Some page)) is there))
    (subst (λ (r : Round). AreApart after r) (sym taken) (subst (λ (ps : List (Option StoredPage)). AreApart ps (taken_in slots (replicate (length after) None))) (sym is)
    (apart-begun slots pages (length after)))) outside stands

pub round-begun : (slots : List ℕ) (n : ℕ) (round : Round) (seen : List ℕ) (now : List ℕ → Type 0) → round ≡ taken_in slots (replicate n None)
    → ((k : ℕ) → IsIn round k → IsShut now k) → IsUnderWay seen now round
round-begun slots n round seen now is shut =
    subst (λ (r : Round). IsUnderWay seen now r) (sym is) (begun-under_way slots n seen now (subst (λ (r : Round). (k : ℕ) → IsIn r k → IsShut now k) is shut))

pub begun-fits : (slots : List ℕ) (pages after : List (Option StoredPage)) (round : Round) (n : ℕ) → after ≡ cleared slots pages → length round ≡ length after → length pages ≤ n
    → length round ≤ n
begun-fits slots pages after round n is same fits =
    let long : length after ≡ length pages = ap (λ (ps : List (Option StoredPage)). length ps) is ∙ cleared-long slots pages in
    omega (arith, same, long, fits)

pub held-after : (slots : List ℕ) (pages after : List (Option StoredPage)) (was round : Round) → AreHeld pages was → after ≡ cleared slots pages
    → round ≡ taken_in slots (replicate (length after) None) → AreHeld after round
held-after slots pages after was round h is taken =
    subst (λ (r : Round). AreHeld after r) (sym taken) (subst (λ (ps : List (Option StoredPage)). AreHeld ps (taken_in slots (replicate (length after) None))) (sym is)
    (held-begun slots pages was (length after) (ap (λ (ps : List (Option StoredPage)). length ps) is ∙ cleared-long slots pages) h))

pub held-less : (slots : List ℕ) (pages after : List (Option StoredPage)) (was : Round) → AreHeld pages was → after ≡ cleared slots pages → AreHeld after []
held-less slots pages after was h is = subst (λ (ps : List (Option StoredPage)). AreHeld ps []) (sym is) (held-cleared slots pages was h)

pub held-long : (pages after : List (Option StoredPage)) (was : Round) → AreHeld pages was → length after ≡ length pages → AreHeld after []
held-long pages after was h same =
    let least = h.0 in
    let most = h.1 in
    (omega (arith, same, least), omega (arith, same, most), long-none after, apart-none after)

pub in-low : (pages : List (Option StoredPage)) (round : Round) (slot n : ℕ) → AreHeld pages round → IsIn round slot → length pages ≤ n → slot < n
in-low pages round slot n h in_it fits =
    let low = slice_get_within round slot (Some in_it.0) in_it.1 in
    let short = h.2 in
    omega (arith, low, short, fits)

pub round-fits : (pages : List (Option StoredPage)) (round : Round) (n : ℕ) → AreHeld pages round → length pages ≤ n → length round ≤ n
round-fits pages round n h fits = let short = h.2 in omega (arith, short, fits)

-- a slot in the round shows nothing
pub in-hidden : (pages : List (Option StoredPage)) (round : Round) (slot : ℕ) → AreHeld pages round → IsIn round slot → (page : StoredPage) → slice_get pages slot ≡ Some (Some page) → ⊥
in-hidden pages round slot h in_it page shown = h.3 slot page shown in_it

pub all-long : (pages : List (Option StoredPage)) → length pages ≤ length pages
all-long pages = omega arith
