-- A page that is kept under its file's known stamp stays so where another file is written or cut.
use Rattle.core_counts.proofs.Prelude.{◌≡◌, ◌≤◌, ℕ, Bool, true, false, List, [], ◌∷◌, map, Option, Some, None, option_map, refl, sym, ap, ◌∙◌, arith, if◌then◌else◌, All-weaker, Stamp, Wcc, FileState, Pages, state_of, known_of, is_place}
use Rattle.std.proofs.Common.{option_and_then}
use Rattle.std.proofs.lemmas.List.Elements.{All-map}
use Rattle.page_cache.specs.Pages.{is_of_other, changed_page, changed_over, led_on, led_to, wrote, cut}
use Rattle.page_cache.specs.Bytes.{put_page, cut_page}
use Rattle.page_cache.proofs.Inserts.{same, same-is}
use Rattle.page_cache.proofs.Room.{room-wrote, room-cut}
use Rattle.page_cache.proofs.States.{state_changed, state-wrote, state-cut, known-after, mark-after}
use Rattle.core_counts.proofs.thrift.Distinct.{Entry, Distinct, Few, IsApart, distinct-others}
use Rattle.core_counts.proofs.thrift.Growth.{GoodPages, Marks, marks-by, some-mark}
use Rattle.core_counts.proofs.thrift.Holds.{HoldsPage, IsThere, there-front, there-later, there-rest, there-others}
use Rattle.core_counts.proofs.thrift.PageNames.{wrote-all, cut-all}

-- ---- its entry

key-stays : (g : List ℕ) (change : ℕ → List ℕ → List ℕ) (p : Entry) → (changed_page g change p).0 ≡ p.0
key-stays g change p = by (is_of_other g p)
  where
    entry : Bool → Entry
    entry b = if b then p else (p.0, change p.0.index p.1)

    by : (b : Bool) → (entry b).0 ≡ p.0
    by true = refl
    by false = refl

module _ (g : List ℕ) (change : ℕ → List ℕ → List ℕ) where
  there-changed : (f : List ℕ) (i : ℕ) (pages : List Entry) → IsThere f i pages → IsThere f i (map (changed_page g change) pages)
  there-changed f i [] there = there
  there-changed f i (p ∷ pages) there = by (there-changed f i pages) (is_place f i p.0) refl
    where
      by : (IsThere f i pages → IsThere f i (map (changed_page g change) pages)) → (b : Bool) → is_place f i p.0 ≡ b → IsThere f i (changed_page g change p ∷ map (changed_page g change) pages)
      by rest true t = there-front f i (changed_page g change p) (map (changed_page g change) pages) (ap (is_place f i) (key-stays g change p) ∙ t)
      by rest false t = there-later f i (changed_page g change p) (map (changed_page g change) pages) (rest (there-rest f i p pages t there))

  distinct-changed : (pages : List Entry) → Distinct pages → Distinct (map (changed_page g change) pages)
  distinct-changed [] d = tt
  distinct-changed (p ∷ pages) d = (
    All-map (IsApart (changed_page g change p)) (changed_page g change) pages
        (All-weaker (IsApart p) (λ (q : Entry). IsApart (changed_page g change p) (changed_page g change q))
        (λ q off same. off (sym (key-stays g change q) ∙ same ∙ key-stays g change p)) pages d.0),
    distinct-changed pages d.1,
  )

  module _ (wcc : Wcc) (moment : ℕ) (c : Pages) where
    distinct-over : Distinct c.pages → Distinct (changed_over (state_of g c) g wcc change moment c).pages
    distinct-over d = by (state_of g c)
      where
        led : (o : Option Stamp) → Distinct (led_on o g change moment c).pages
        led None = distinct-others g c.pages d
        led (Some stamp) = distinct-changed c.pages d

        by : (o : Option FileState) → Distinct (changed_over o g wcc change moment c).pages
        by None = d
        by (Some state) = led (led_to wcc state.known)

    there-over : (f : List ℕ) (i : ℕ) → same f g ≡ false → IsThere f i c.pages → IsThere f i (changed_over (state_of g c) g wcc change moment c).pages
    there-over f i off there = by (state_of g c)
      where
        led : (o : Option Stamp) → IsThere f i (led_on o g change moment c).pages
        led None = there-others f g i c.pages off there
        led (Some stamp) = there-changed f i c.pages there

        by : (o : Option FileState) → IsThere f i (changed_over o g wcc change moment c).pages
        by None = there
        by (Some state) = led (led_to wcc state.known)

-- ---- the page

other-file : (f g : List ℕ) → (f ≡ g → ⊥) → same f g ≡ false
other-file f g off = by (same f g) refl
  where
    by : (b : Bool) → same f g ≡ b → b ≡ false
    by false e = refl
    by true e = absurd (off (same-is f g e))

module _ (f : List ℕ) (s : Stamp) (i : ℕ) (g : List ℕ) (wcc : Wcc) (moment : ℕ) (c : Pages) (off : f ≡ g → ⊥) where
  known-so : (d : Pages) → state_of f d ≡ (if same f g then option_map (state_changed wcc moment) (state_of g c) else state_of f c) → known_of f c ≡ Some s → known_of f d ≡ Some s
  known-so d is known =
      known-after f g c d (option_map (state_changed wcc moment) (state_of g c)) is
      ∙ ap (λ (b : Bool). if b then option_and_then (λ (z : FileState). z.known) (option_map (state_changed wcc moment) (state_of g c)) else known_of f c) (other-file f g off) ∙ known

  pub holds-wrote : (offset : ℕ) (bytes : List ℕ) → HoldsPage f s i c → HoldsPage f s i (wrote g wcc offset bytes moment c)
  holds-wrote offset bytes k = record {
    known = known-so (wrote g wcc offset bytes moment c) (state-wrote f g c wcc offset bytes moment) k.known;
    there = there-over g (λ index. put_page index offset bytes) wcc moment c f i (other-file f g off) k.there;
  }

  pub holds-cut : (size : ℕ) → HoldsPage f s i c → HoldsPage f s i (cut g wcc size moment c)
  holds-cut size k = record {
    known = known-so (cut g wcc size moment c) (state-cut f g c wcc size moment) k.known;
    there = there-over g (λ index. cut_page index size) wcc moment c f i (other-file f g off) k.there;
  }

-- ---- all pages

module _ (b : ℕ) (file : List ℕ) (wcc : Wcc) (moment : ℕ) (c : Pages) (low : moment ≤ b) where
  changed-low : (k : ℕ) → option_map (λ (z : FileState). z.mark) (option_map (state_changed wcc moment) (state_of file c)) ≡ Some k → k ≤ b
  changed-low k at = by (state_of file c) at
    where
      by : (o : Option FileState) → option_map (λ (z : FileState). z.mark) (option_map (state_changed wcc moment) o) ≡ Some k → k ≤ b
      by None e = absurd (cc)
      by (Some state) e = let is = some-mark moment k e in omega (arith, is, low)

  marks-wrote : (offset : ℕ) (bytes : List ℕ) → Marks b c → Marks b (wrote file wcc offset bytes moment c)
  marks-wrote offset bytes m =
      marks-by b file c (wrote file wcc offset bytes moment c) (option_map (state_changed wcc moment) (state_of file c))
      (λ g. mark-after g file c (wrote file wcc offset bytes moment c) (option_map (state_changed wcc moment) (state_of file c)) (state-wrote g file c wcc offset bytes moment)) changed-low m

  marks-cut : (size : ℕ) → Marks b c → Marks b (cut file wcc size moment c)
  marks-cut size m =
      marks-by b file c (cut file wcc size moment c) (option_map (state_changed wcc moment) (state_of file c))
      (λ g. mark-after g file c (cut file wcc size moment c) (option_map (state_changed wcc moment) (state_of file c)) (state-cut g file c wcc size moment)) changed-low m

module _ (M : List ℕ → ℕ → Type 0) (P : List ℕ → Stamp → ℕ → Type 0) (few : (f : List ℕ) (s : Stamp) (i : ℕ) → P f s i → Few M) (b : ℕ) where
  -- none of its pages is followed
  abbrev pub Apart : List ℕ → Type 0
  Apart file = (f : List ℕ) (s : Stamp) (i : ℕ) → P f s i → f ≡ file → ⊥

  pub good-wrote : (file : List ℕ) (wcc : Wcc) (offset : ℕ) (bytes : List ℕ) (moment : ℕ) (c : Pages) → moment ≤ b → Apart file → GoodPages M P few b c
      → GoodPages M P few b (wrote file wcc offset bytes moment c)
  good-wrote file wcc offset bytes moment c low apart k = record {
    marks = marks-wrote b file wcc moment c low offset bytes k.marks;
    met = wrote-all M file wcc offset bytes moment c k.met;
    distinct = distinct-over file (λ index. put_page index offset bytes) wcc moment c k.distinct;
    room = room-wrote file c wcc offset bytes moment ∙ k.room;
    holds = λ f s i p. holds-wrote f s i file wcc moment c (apart f s i p) offset bytes (k.holds f s i p);
  }

  pub good-cut : (file : List ℕ) (wcc : Wcc) (size moment : ℕ) (c : Pages) → moment ≤ b → Apart file → GoodPages M P few b c → GoodPages M P few b (cut file wcc size moment c)
  good-cut file wcc size moment c low apart k = record {
    marks = marks-cut b file wcc moment c low size k.marks;
    met = cut-all M file wcc size moment c k.met;
    distinct = distinct-over file (λ index. cut_page index size) wcc moment c k.distinct;
    room = room-cut file c wcc size moment ∙ k.room;
    holds = λ f s i p. holds-cut f s i file wcc moment c (apart f s i p) size (k.holds f s i p);
  }

  -- marks may be later, and fewer pages be followed
  pub good-later : (Q : List ℕ → Stamp → ℕ → Type 0) (few_q : (f : List ℕ) (s : Stamp) (i : ℕ) → Q f s i → Few M) (more : ℕ) (c : Pages) → b ≤ more
      → ((f : List ℕ) (s : Stamp) (i : ℕ) → Q f s i → P f s i) → GoodPages M P few b c → GoodPages M Q few_q more c
  good-later Q few_q more c le fewer k = record {
    marks = λ g j is. let low = k.marks g j is in omega (arith, low, le);
    met = k.met;
    distinct = k.distinct;
    room = k.room;
    holds = λ f s i q. k.holds f s i (fewer f s i q);
  }
