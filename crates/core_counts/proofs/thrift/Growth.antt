-- What is known of all kept pages where operations only read: marks are no later than a moment, each page was met, and those that are followed stay.
use Rattle.core_counts.proofs.Prelude.{◌≡◌, ◌≤◌, ◌||◌, ℕ, Bool, true, false, nat_le, List, ◌∷◌, length, Option, Some, None, option_map, refl, sym, ap, subst, ◌∙◌, arith, if◌then◌else◌, option_map_or, remove_entry, eq-eqb, All-cons, Stamp, FileState, Keep, Kept, Stale, Differs, Pages, state_of, known_of, is_place, fronted, keep_answer, after_keep, after_page, saw, same-self, kept_page}
use Rattle.std.proofs.Common.{max}
use Rattle.page_cache.specs.Pages.{mark_of, with_state, restarted, is_stamp, opened, opened_over, kept, saw_over}
use Rattle.page_cache.proofs.Inserts.{same}
use Rattle.page_cache.proofs.Room.{room-opened, room-saw, room-kept}
use Rattle.page_cache.proofs.States.{state_opened, state_kept, state_saw, state-opened, state-kept, state-saw, mark-after}
use Rattle.claims.specs.Thrifty.{most_pages}
use Rattle.core_counts.proofs.thrift.Distinct.{Entry, Distinct, Few, all-removed, distinct-promoted, distinct-others, distinct-front, distinct-fronted, few-kept}
use Rattle.core_counts.proofs.thrift.Holds.{HoldsPage, holds-shown, holds-opened, holds-saw, holds-kept}
use Rattle.core_counts.proofs.thrift.PageNames.{AllOf, quiet-all, answer-all}

pub own-place : (g : List ℕ) (index : ℕ) → is_place g index (record { file = g; index = index }) ≡ true
own-place g index = rw (eq-eqb index index refl) (same-self g)

-- ---- marks

abbrev pub Marks : ℕ → Pages → Type 0
Marks b c = (g : List ℕ) (k : ℕ) → mark_of g c ≡ Some k → k ≤ b

pub some-mark : (a b : ℕ) → Some a ≡ Some b → a ≡ b
some-mark a b e = cc

some-stamp : (a b : Stamp) → Some a ≡ Some b → a ≡ b
some-stamp a b e = cc

module _ (b : ℕ) where
  pub marks-by : (file : List ℕ) (c d : Pages) (o : Option FileState)
      → ((g : List ℕ) → mark_of g d ≡ (if same g file then option_map (λ (z : FileState). z.mark) o else mark_of g c))
      → ((k : ℕ) → option_map (λ (z : FileState). z.mark) o ≡ Some k → k ≤ b) → Marks b c → Marks b d
  marks-by file c d o is own m g k at = by (same g file) refl
    where
      by : (t : Bool) → same g file ≡ t → k ≤ b
      by true t = own k (sym (is g ∙ ap (λ (x : Bool). if x then option_map (λ (z : FileState). z.mark) o else mark_of g c) t) ∙ at)
      by false t = m g k (sym (is g ∙ ap (λ (x : Bool). if x then option_map (λ (z : FileState). z.mark) o else mark_of g c) t) ∙ at)

  pub marks-opened : (file : List ℕ) (stamp : Stamp) (mark : ℕ) (c : Pages) → mark ≤ b → Marks b c → Marks b (opened file stamp mark c)
  marks-opened file stamp mark c low m =
      marks-by file c (opened file stamp mark c) (Some (state_opened (state_of file c) stamp mark))
      (λ g. mark-after g file c (opened file stamp mark c) (Some (state_opened (state_of file c) stamp mark)) (state-opened g file c stamp mark))
      (λ k is. by (state_of file c) refl k (sym (some-mark (state_opened (state_of file c) stamp mark).mark k is))) m
    where
      by : (o : Option FileState) → state_of file c ≡ o → (k : ℕ) → k ≡ option_map_or (λ (z : FileState). max z.mark mark) o mark → k ≤ b
      by None is k same = omega (arith, same, low)
      by (Some state) is k same = let old = m file state.mark (ap (option_map (λ (z : FileState). z.mark)) is) in omega (arith, same, low, old)

  saw-mark : (stamp : Stamp) (sent : ℕ) (state : FileState) → (state_saw stamp sent state).mark ≡ state.mark
  saw-mark stamp sent state = by (nat_le sent state.mark || is_stamp stamp state.known)
    where
      by : (t : Bool) → (if t then state else record { known = Some stamp; mark = state.mark }).mark ≡ state.mark
      by true = refl
      by false = refl

  pub marks-saw : (file : List ℕ) (stamp : Stamp) (sent : ℕ) (c : Pages) → Marks b c → Marks b (saw file stamp sent c)
  marks-saw file stamp sent c m =
      marks-by file c (saw file stamp sent c) (option_map (state_saw stamp sent) (state_of file c))
      (λ g. mark-after g file c (saw file stamp sent c) (option_map (state_saw stamp sent) (state_of file c)) (state-saw g file c stamp sent)) (by (state_of file c) refl) m
    where
      by : (o : Option FileState) → state_of file c ≡ o → (k : ℕ) → option_map (λ (z : FileState). z.mark) (option_map (state_saw stamp sent) o) ≡ Some k → k ≤ b
      by None is k at = absurd (cc)
      by (Some state) is k at = m file k (ap (option_map (λ (z : FileState). z.mark)) is ∙ ap Some (sym (saw-mark stamp sent state)) ∙ at)

  marks-kept-in : (file : List ℕ) (stamp : Stamp) (index : ℕ) (bytes : List ℕ) (c : Pages) → Marks b c → Marks b (kept stamp (record { file = file; index = index }) bytes c)
  marks-kept-in file stamp index bytes c m =
      marks-by file c (kept stamp (record { file = file; index = index }) bytes c) (option_map (state_kept stamp) (state_of file c))
      (λ g. mark-after g file c (kept stamp (record { file = file; index = index }) bytes c) (option_map (state_kept stamp) (state_of file c)) (state-kept g file c stamp index bytes))
      (by (state_of file c) refl) m
    where
      by : (o : Option FileState) → state_of file c ≡ o → (k : ℕ) → option_map (λ (z : FileState). z.mark) (option_map (state_kept stamp) o) ≡ Some k → k ≤ b
      by None is k at = absurd (cc)
      by (Some state) is k at = m file k (ap (option_map (λ (z : FileState). z.mark)) is ∙ at)

  pub marks-kept : (answer : Keep) (file : List ℕ) (stamp : Stamp) (index : ℕ) (bytes : List ℕ) (c : Pages) → Marks b c
      → Marks b (after_keep answer stamp (record { file = file; index = index }) bytes c)
  marks-kept Stale file stamp index bytes c m = m
  marks-kept Differs file stamp index bytes c m = m
  marks-kept Kept file stamp index bytes c m = marks-kept-in file stamp index bytes c m

-- ---- distinct pages

distinct-kept : (answer : Keep) (file : List ℕ) (stamp : Stamp) (index : ℕ) (bytes : List ℕ) (c : Pages) → Distinct c.pages
    → Distinct (after_keep answer stamp (record { file = file; index = index }) bytes c).pages
distinct-kept Stale file stamp index bytes c d = d
distinct-kept Differs file stamp index bytes c d = d
distinct-kept Kept file stamp index bytes c d = by (state_of file c)
  where
    by : (o : Option FileState) → Distinct (option_map_or (λ state. with_state file (Some stamp) state.mark (record c { pages = fronted c.room (record { file = file; index = index }) bytes c.pages })) o c).pages
    by None = d
    by (Some state) = distinct-fronted c.room (record { file = file; index = index }) bytes c.pages (own-place file index) d

distinct-opened : (file : List ℕ) (stamp : Stamp) (mark : ℕ) (c : Pages) → Distinct c.pages → Distinct (opened file stamp mark c).pages
distinct-opened file stamp mark c d = by (state_of file c)
  where
    by : (o : Option FileState) → Distinct (opened_over o file stamp mark c).pages
    by None = distinct-others file c.pages d
    by (Some state) = of (is_stamp stamp state.known)
      where
        of : (t : Bool) → Distinct (if t then with_state file (Some stamp) (max state.mark mark) c else restarted file (Some stamp) (max state.mark mark) c).pages
        of true = d
        of false = distinct-others file c.pages d

distinct-saw : (file : List ℕ) (stamp : Stamp) (sent : ℕ) (c : Pages) → Distinct c.pages → Distinct (saw file stamp sent c).pages
distinct-saw file stamp sent c d = by (state_of file c)
  where
    by : (o : Option FileState) → Distinct (saw_over o file stamp sent c).pages
    by None = d
    by (Some state) = of (nat_le sent state.mark || is_stamp stamp state.known)
      where
        of : (t : Bool) → Distinct (if t then c else restarted file (Some stamp) state.mark c).pages
        of true = d
        of false = distinct-others file c.pages d

-- ---- all of it

module _ (M : List ℕ → ℕ → Type 0) (P : List ℕ → Stamp → ℕ → Type 0) (few : (f : List ℕ) (s : Stamp) (i : ℕ) → P f s i → Few M) where
  pub record GoodPages (b : ℕ) (c : Pages) : Type 0 where
    pub marks : Marks b c
    pub met : AllOf M c
    pub distinct : Distinct c.pages
    pub room : c.room ≡ most_pages
    pub holds : (f : List ℕ) (s : Stamp) (i : ℕ) → P f s i → HoldsPage f s i c

  -- of the files that are followed this stamp is told alone
  abbrev pub Tells : List ℕ → Stamp → Type 0
  Tells g stamp = (f : List ℕ) (s : Stamp) (i : ℕ) → P f s i → f ≡ g → stamp ≡ s

  module _ (b : ℕ) where
    pub good-shown : (file : List ℕ) (index : ℕ) (c : Pages) → GoodPages b c → GoodPages b (after_page file index c)
    good-shown file index c k = record {
      marks = k.marks;
      met = (quiet-all M).shows file index c k.met;
      distinct = distinct-promoted (is_place file index) c.pages k.distinct;
      room = k.room;
      holds = λ f s i p. holds-shown f s i file index c (k.holds f s i p);
    }

    pub good-opened : (file : List ℕ) (stamp : Stamp) (mark : ℕ) (c : Pages) → mark ≤ b → Tells file stamp → GoodPages b c → GoodPages b (opened file stamp mark c)
    good-opened file stamp mark c low tells k = record {
      marks = marks-opened b file stamp mark c low k.marks;
      met = (quiet-all M).opens file stamp mark c k.met;
      distinct = distinct-opened file stamp mark c k.distinct;
      room = room-opened file c stamp mark ∙ k.room;
      holds = λ f s i p. holds-opened f s i file stamp mark c (tells f s i p) (k.holds f s i p);
    }

    -- where the known stamp is told
    pub good-known : (file : List ℕ) (stamp : Stamp) (mark : ℕ) (c : Pages) → mark ≤ b → known_of file c ≡ Some stamp → GoodPages b c → GoodPages b (opened file stamp mark c)
    good-known file stamp mark c low known k =
        good-opened file stamp mark c low
        (λ f s i p same. some-stamp stamp s (sym known ∙ ap (λ (g : List ℕ). known_of g c) (sym same) ∙ (k.holds f s i p).known)) k

    pub good-saw : (file : List ℕ) (stamp : Stamp) (sent : ℕ) (c : Pages) → Tells file stamp → GoodPages b c → GoodPages b (saw file stamp sent c)
    good-saw file stamp sent c tells k = record {
      marks = marks-saw b file stamp sent c k.marks;
      met = (quiet-all M).sees file stamp sent c k.met;
      distinct = distinct-saw file stamp sent c k.distinct;
      room = room-saw file c stamp sent ∙ k.room;
      holds = λ f s i p. holds-saw f s i file stamp sent c (tells f s i p) (k.holds f s i p);
    }

    -- there is room for a page that was met
    pub fits : (file : List ℕ) (index : ℕ) (bytes : List ℕ) (c : Pages) → M file index → Few M → GoodPages b c
        → length ((record { file = file; index = index }, bytes) ∷ remove_entry (is_place file index) c.pages) ≤ c.room
    fits file index bytes c here most k = subst (λ (n : ℕ). length ((record { file = file; index = index }, bytes) ∷ remove_entry (is_place file index) c.pages) ≤ n) (sym k.room) (few-kept M ((record { file = file; index = index }, bytes) ∷ remove_entry (is_place file index) c.pages) most
        (distinct-front (record { file = file; index = index }) bytes c.pages (own-place file index) k.distinct)
        (All-cons (λ (p : Entry). M p.0.file p.0.index) (record { file = file; index = index }, bytes) (remove_entry (is_place file index) c.pages) here
        (all-removed (λ (p : Entry). M p.0.file p.0.index) (is_place file index) c.pages k.met)))

    pub good-kept : (file : List ℕ) (stamp : Stamp) (sent index : ℕ) (bytes : List ℕ) (c : Pages) → M file index → GoodPages b c → GoodPages b (kept_page file stamp sent index bytes c)
    unfolding kept_page
    good-kept file stamp sent index bytes c here k = record {
      marks = marks-kept b (keep_answer file stamp sent c) file stamp index bytes c k.marks;
      met = answer-all M (keep_answer file stamp sent c) file stamp index bytes c here k.met;
      distinct = distinct-kept (keep_answer file stamp sent c) file stamp index bytes c k.distinct;
      room = room-kept (keep_answer file stamp sent c) stamp (record { file = file; index = index }) bytes c ∙ k.room;
      holds = λ f s i p. holds-kept f s i file stamp sent index bytes c (fits file index bytes c here (few f s i p) k) (k.holds f s i p);
    }
