-- A page that is kept under its file's known stamp stays so, after each call of the cache that tells of no other state of the file and needs no room.
use Rattle.core_counts.proofs.Prelude.{◌≡◌, ◌<◌, ◌≤◌, ◌-◌, inl, inr, ℕ, Bool, true, false, not, cond, ◌||◌, nat_eq, nat_le, List, [], ◌∷◌, length, Option, Some, None, option_map, refl, sym, ap, subst, ◌∙◌, arith, if◌then◌else◌, option_map_or, remove_entry, eq-eqb, nat_tests, Stamp, PagePlace, FileState, Keep, Kept, Stale, Differs, Pages, state_of, known_of, is_place, fronted, keep_answer, after_keep, after_page, saw, same-self}
use Rattle.std.proofs.Common.{max, option_and_then}
use Rattle.std.specs.Map.{lookup, lookup_entry}
use Rattle.page_cache.specs.Pages.{mark_of, with_state, restarted, is_stamp, without_file, opened, opened_over, kept, saw_over}
use Rattle.page_cache.proofs.Inserts.{same, same-is}
use Rattle.std.specs.Cmp.Lexicographic.{pointwise}
use Rattle.std.proofs.lemmas.List.{take_all}
use Rattle.lru.specs.LruCache.{promoted}
use Rattle.nfs_types.specs.Stamps.{same_stamp}
use Rattle.page_cache.proofs.Shown.{same_place}
use Rattle.page_cache.proofs.States.{state_opened, state_kept, state_saw, state-with, state-opened, state-kept, state-saw, known-after, mark-after, Tells, keep-tells, is_stamp-is}

-- ---- which page an entry is

pub stamp-self : (s : Stamp) → same_stamp s s ≡ true
stamp-self s = rw (
  eq-eqb s.size s.size refl,
  eq-eqb s.mtime.seconds s.mtime.seconds refl,
  eq-eqb s.mtime.nanos s.mtime.nanos refl,
  eq-eqb s.ctime.seconds s.ctime.seconds refl,
  eq-eqb s.ctime.nanos s.ctime.nanos refl,
) refl

-- a page that is there
abbrev pub IsThere : List ℕ → ℕ → List (PagePlace × List ℕ) → Type 0
IsThere f i pages = lookup (is_place f i) pages ≡ None → ⊥

pub there-front : (f : List ℕ) (i : ℕ) (p : PagePlace × List ℕ) (pages : List (PagePlace × List ℕ)) → is_place f i p.0 ≡ true → IsThere f i (p ∷ pages)
there-front f i p pages t none = absurd (let h = rw t at none in cc)

pub there-later : (f : List ℕ) (i : ℕ) (p : PagePlace × List ℕ) (pages : List (PagePlace × List ℕ)) → IsThere f i pages → IsThere f i (p ∷ pages)
there-later f i p pages there = by (is_place f i p.0) refl
  where
    by : (b : Bool) → is_place f i p.0 ≡ b → IsThere f i (p ∷ pages)
    by true t = there-front f i p pages t
    by false t = λ none. there (rw t at none)

pub there-rest : (f : List ℕ) (i : ℕ) (p : PagePlace × List ℕ) (pages : List (PagePlace × List ℕ)) → is_place f i p.0 ≡ false → IsThere f i (p ∷ pages) → IsThere f i pages
there-rest f i p pages t there none = there (rw t none)

-- without an entry that isn't it
there-removed : (f : List ℕ) (i : ℕ) (test : PagePlace → Bool) (pages : List (PagePlace × List ℕ)) → ((p : PagePlace) → is_place f i p ≡ true → test p ≡ false) → IsThere f i pages
    → IsThere f i (remove_entry test pages)
there-removed f i test [] apart there = there
there-removed f i test (p ∷ pages) apart there = by (there-removed f i test pages apart) (test p.0) (is_place f i p.0) refl refl
  where
    by : (IsThere f i pages → IsThere f i (remove_entry test pages)) → (a b : Bool) → test p.0 ≡ a → is_place f i p.0 ≡ b → IsThere f i (cond a pages (p ∷ remove_entry test pages))
    by rest true true t s = absurd (let no_way : true ≡ false = sym t ∙ apart p.0 s in cc)
    by rest true false t s = there-rest f i p pages s there
    by rest false true t s = there-front f i p (remove_entry test pages) s
    by rest false false t s = there-later f i p (remove_entry test pages) (rest (there-rest f i p pages s there))

-- where an entry goes to the front
there-moved : (f : List ℕ) (i : ℕ) (test : PagePlace → Bool) (e : PagePlace × List ℕ) (pages : List (PagePlace × List ℕ)) → lookup_entry test pages ≡ Some e → IsThere f i pages
    → IsThere f i (e ∷ remove_entry test pages)
there-moved f i test e [] found there = absurd (cc)
there-moved f i test e (p ∷ pages) found there = by (there-moved f i test e pages) (test p.0) (is_place f i p.0) refl refl
  where
    by : (lookup_entry test pages ≡ Some e → IsThere f i pages → IsThere f i (e ∷ remove_entry test pages)) → (a b : Bool) → test p.0 ≡ a → is_place f i p.0 ≡ b
        → IsThere f i (e ∷ cond a pages (p ∷ remove_entry test pages))
    by rest true b t s = let is : p ≡ e = (let h = rw t at found in cc) in subst (λ (q : PagePlace × List ℕ). IsThere f i (q ∷ pages)) is there
    by rest false true t s = there-later f i e (p ∷ remove_entry test pages) (there-front f i p (remove_entry test pages) s)
    by rest false false t s = swap (is_place f i e.0) refl (rest (rw t at found) (there-rest f i p pages s there))
      where
        swap : (b : Bool) → is_place f i e.0 ≡ b → IsThere f i (e ∷ remove_entry test pages) → IsThere f i (e ∷ p ∷ remove_entry test pages)
        swap true q more = there-front f i e (p ∷ remove_entry test pages) q
        swap false q more = there-later f i e (p ∷ remove_entry test pages) (there-later f i p (remove_entry test pages) (there-rest f i e (remove_entry test pages) q more))

there-promoted : (f : List ℕ) (i : ℕ) (test : PagePlace → Bool) (pages : List (PagePlace × List ℕ)) → IsThere f i pages → IsThere f i (promoted test pages)
there-promoted f i test pages there = by (lookup_entry test pages) refl
  where
    by : (o : Option (PagePlace × List ℕ)) → lookup_entry test pages ≡ o → IsThere f i (option_map_or (λ e. e ∷ remove_entry test pages) o pages)
    by None found = there
    by (Some e) found = there-moved f i test e pages found there

-- an entry of the page is one of the file
of-file : (f : List ℕ) (i : ℕ) (p : PagePlace) → is_place f i p ≡ true → p.file ≡ f
of-file f i p t = ap (λ (q : PagePlace). q.file) (same_place f i p t)

-- without another file's pages
pub there-others : (f g : List ℕ) (i : ℕ) (pages : List (PagePlace × List ℕ)) → same f g ≡ false → IsThere f i pages → IsThere f i (without_file g pages)
there-others f g i [] apart there = there
there-others f g i (p ∷ pages) apart there = by (there-others f g i pages apart) (pointwise nat_eq p.0.file g) (is_place f i p.0) refl refl
  where
    by : (IsThere f i pages → IsThere f i (without_file g pages)) → (a b : Bool) → pointwise nat_eq p.0.file g ≡ a → is_place f i p.0 ≡ b
        → IsThere f i (cond (not a) (p ∷ without_file g pages) (without_file g pages))
    by rest true true t s = absurd (let no_way : false ≡ true = sym apart ∙ ap (λ (x : List ℕ). same x g) (sym (of-file f i p.0 s)) ∙ t in cc)
    by rest true false t s = rest (there-rest f i p pages s there)
    by rest false true t s = there-front f i p (without_file g pages) s
    by rest false false t s = there-later f i p (without_file g pages) (rest (there-rest f i p pages s there))

-- ---- a page that is kept

pub record HoldsPage (f : List ℕ) (s : Stamp) (i : ℕ) (c : Pages) : Type 0 where
  pub known : known_of f c ≡ Some s
  pub there : IsThere f i c.pages

some-stamp : (a b : Stamp) → Some a ≡ Some b → a ≡ b
some-stamp a b e = cc

some-state : (a b : FileState) → Some a ≡ Some b → a ≡ b
some-state a b e = cc

module _ (f : List ℕ) (s : Stamp) (i : ℕ) where
  pub holds-shown : (file : List ℕ) (index : ℕ) (c : Pages) → HoldsPage f s i c → HoldsPage f s i (after_page file index c)
  holds-shown file index c k = record { known = k.known; there = there-promoted f i (is_place file index) c.pages k.there }

  -- what is known of the file itself
  known-state : (g : List ℕ) (c : Pages) (state : FileState) → HoldsPage f s i c → same f g ≡ true → state_of g c ≡ Some state → state.known ≡ Some s
  known-state g c state k t is =
      let at : f ≡ g = same-is f g t in
      sym (ap (option_and_then (λ (z : FileState). z.known)) (ap (λ (x : List ℕ). state_of x c) at ∙ is)) ∙ k.known

  none-known : (g : List ℕ) (c : Pages) → HoldsPage f s i c → same f g ≡ true → state_of g c ≡ None → ⊥
  none-known g c k t is =
      let at : f ≡ g = same-is f g t in
      let no_way : None ≡ Some s = sym (ap (option_and_then (λ (z : FileState). z.known)) (ap (λ (x : List ℕ). state_of x c) at ∙ is)) ∙ k.known in cc

  is-known : (stamp : Stamp) (state : FileState) → stamp ≡ s → state.known ≡ Some s → is_stamp stamp state.known ≡ true
  is-known stamp state same known = ap (is_stamp stamp) known ∙ ap (same_stamp s) same ∙ stamp-self s

  pub holds-opened : (g : List ℕ) (stamp : Stamp) (mark : ℕ) (c : Pages) → (f ≡ g → stamp ≡ s) → HoldsPage f s i c → HoldsPage f s i (opened g stamp mark c)
  holds-opened g stamp mark c tells k = record { known = known (same f g) refl; there = there (state_of g c) refl }
    where
      after : known_of f (opened g stamp mark c) ≡ (if same f g then Some stamp else known_of f c)
      after = known-after f g c (opened g stamp mark c) (Some (state_opened (state_of g c) stamp mark)) (state-opened f g c stamp mark)

      known : (b : Bool) → same f g ≡ b → known_of f (opened g stamp mark c) ≡ Some s
      known true t = after ∙ ap (λ (b : Bool). if b then Some stamp else known_of f c) t ∙ ap Some (tells (same-is f g t))
      known false t = after ∙ ap (λ (b : Bool). if b then Some stamp else known_of f c) t ∙ k.known

      there : (o : Option FileState) → state_of g c ≡ o → IsThere f i (opened_over o g stamp mark c).pages
      there None is = by (same f g) refl
        where
          by : (b : Bool) → same f g ≡ b → IsThere f i (without_file g c.pages)
          by true t = absurd (none-known g c k t is)
          by false t = there-others f g i c.pages t k.there
      there (Some state) is = by (is_stamp stamp state.known) (same f g) refl refl
        where
          by : (a b : Bool) → is_stamp stamp state.known ≡ a → same f g ≡ b
              → IsThere f i (if a then with_state g (Some stamp) (max state.mark mark) c else restarted g (Some stamp) (max state.mark mark) c).pages
          by true b e t = k.there
          by false true e t = absurd (let no_way : false ≡ true = sym e ∙ is-known stamp state (tells (same-is f g t)) (known-state g c state k t is) in cc)
          by false false e t = there-others f g i c.pages t k.there

  pub holds-saw : (g : List ℕ) (stamp : Stamp) (sent : ℕ) (c : Pages) → (f ≡ g → stamp ≡ s) → HoldsPage f s i c → HoldsPage f s i (saw g stamp sent c)
  holds-saw g stamp sent c tells k = by (state_of g c) refl
    where
      by : (o : Option FileState) → state_of g c ≡ o → HoldsPage f s i (saw_over o g stamp sent c)
      by None is = k
      by (Some state) is = of (nat_le sent state.mark) (is_stamp stamp state.known) (same f g) refl refl
        where
          of : (a b t : Bool) → is_stamp stamp state.known ≡ b → same f g ≡ t → HoldsPage f s i (if a || b then c else restarted g (Some stamp) state.mark c)
          of true b t e at = k
          of false true t e at = k
          of false false true e at = absurd (let no_way : false ≡ true = sym e ∙ is-known stamp state (tells (same-is f g at)) (known-state g c state k at is) in cc)
          of false false false e at = record {
            known = known-after f g c (restarted g (Some stamp) state.mark c) (Some (record { known = Some stamp; mark = state.mark })) (state-with f g c (Some stamp) state.mark)
                ∙ ap (λ (b : Bool). if b then Some stamp else known_of f c) at ∙ k.known;
            there = there-others f g i c.pages at k.there;
          }

  -- a page more, where all fit
  there-kept : (room : ℕ) (place : PagePlace) (bytes : List ℕ) (pages : List (PagePlace × List ℕ)) → length ((place, bytes) ∷ remove_entry (is_place place.file place.index) pages) ≤ room → IsThere f i pages
      → IsThere f i (fronted room place bytes pages)
  there-kept room place bytes pages fits there =
      subst (λ (l : List (PagePlace × List ℕ)). IsThere f i ((place, bytes) ∷ l)) (sym (take_all (room - 1) (remove_entry (is_place place.file place.index) pages) (omega (arith, fits))))
      (by (is_place f i place) refl)
    where
      by : (b : Bool) → is_place f i place ≡ b → IsThere f i ((place, bytes) ∷ remove_entry (is_place place.file place.index) pages)
      by true t = there-front f i (place, bytes) (remove_entry (is_place place.file place.index) pages) t
      by false t = there-later f i (place, bytes) (remove_entry (is_place place.file place.index) pages)
          (there-removed f i (is_place place.file place.index) pages (λ p at. apart p at (is_place place.file place.index p) refl) there)
        where
          apart : (p : PagePlace) → is_place f i p ≡ true → (b : Bool) → is_place place.file place.index p ≡ b → is_place place.file place.index p ≡ false
          apart p at false e = e
          apart p at true e = absurd (let no_way : false ≡ true = sym t ∙ ap (is_place f i) (sym (same_place place.file place.index p e)) ∙ at in cc)

  pub holds-kept : (g : List ℕ) (stamp : Stamp) (sent index : ℕ) (bytes : List ℕ) (c : Pages)
      → length ((record { file = g; index = index }, bytes) ∷ remove_entry (is_place g index) c.pages) ≤ c.room → HoldsPage f s i c
      → HoldsPage f s i (after_keep (keep_answer g stamp sent c) stamp (record { file = g; index = index }) bytes c)
  holds-kept g stamp sent index bytes c fits k = by (keep_answer g stamp sent c) (keep-tells g stamp sent c)
    where
      by : (answer : Keep) → Tells g stamp sent c answer → HoldsPage f s i (after_keep answer stamp (record { file = g; index = index }) bytes c)
      by Stale told = k
      by Differs told = k
      by Kept told = record { known = known (same f g) refl; there = there (state_of g c) }
        where
          after : known_of f (kept stamp (record { file = g; index = index }) bytes c) ≡ (if same f g then option_and_then (λ (z : FileState). z.known) (option_map (state_kept stamp) (state_of g c)) else known_of f c)
          after = known-after f g c (kept stamp (record { file = g; index = index }) bytes c) (option_map (state_kept stamp) (state_of g c)) (state-kept f g c stamp index bytes)

          is-it : same f g ≡ true → stamp ≡ s
          is-it t = elim told.known [
            | inl none ↦ absurd (let no_way : None ≡ Some s = sym none ∙ known-state g c told.state k t told.opened in cc)
            | inr is ↦ some-stamp stamp s (sym is ∙ known-state g c told.state k t told.opened)
          ]

          known : (b : Bool) → same f g ≡ b → known_of f (kept stamp (record { file = g; index = index }) bytes c) ≡ Some s
          known true t =
              after ∙ ap (λ (b : Bool). if b then option_and_then (λ (z : FileState). z.known) (option_map (state_kept stamp) (state_of g c)) else known_of f c) t
              ∙ ap (λ (o : Option FileState). option_and_then (λ (z : FileState). z.known) (option_map (state_kept stamp) o)) told.opened ∙ ap Some (is-it t)
          known false t =
              after ∙ ap (λ (b : Bool). if b then option_and_then (λ (z : FileState). z.known) (option_map (state_kept stamp) (state_of g c)) else known_of f c) t ∙ k.known

          there : (o : Option FileState) → IsThere f i (option_map_or (λ state. with_state g (Some stamp) state.mark (record c { pages = fronted c.room (record { file = g; index = index }) bytes c.pages })) o c).pages
          there None = k.there
          there (Some state) = there-kept c.room (record { file = g; index = index }) bytes c.pages fits k.there

  -- ---- as it is kept

  -- Where the file was opened and the call is young, the stamp is known that was seen.
  pub saw-known : (stamp : Stamp) (sent : ℕ) (c : Pages) (state : FileState) → state_of f c ≡ Some state → state.mark < sent
      → (known_of f (saw f stamp sent c) ≡ Some stamp) × (mark_of f (saw f stamp sent c) ≡ Some state.mark)
  saw-known stamp sent c state is young = (
    known-after f f c (saw f stamp sent c) (option_map (state_saw stamp sent) (state_of f c)) (state-saw f f c stamp sent) ∙ known-of,
    mark-after f f c (saw f stamp sent c) (option_map (state_saw stamp sent) (state_of f c)) (state-saw f f c stamp sent) ∙ mark-of,
  )
    where
      by : (a b : Bool) → nat_le sent state.mark ≡ a → is_stamp stamp state.known ≡ b
          → ((if a || b then state else record { known = Some stamp; mark = state.mark }).known ≡ Some stamp) × ((if a || b then state else record { known = Some stamp; mark = state.mark }).mark ≡ state.mark)
      by true b late same = absurd (grind (arith, nat_tests))
      by false true late same = (is-stamp state.known same, refl)
        where
          is-stamp : (o : Option Stamp) → is_stamp stamp o ≡ true → o ≡ Some stamp
          is-stamp o e = is_stamp-is stamp o e
      by false false late same = (refl, refl)

      both : ((state_saw stamp sent state).known ≡ Some stamp) × ((state_saw stamp sent state).mark ≡ state.mark)
      both = by (nat_le sent state.mark) (is_stamp stamp state.known) refl refl

      known-of : (if same f f then option_and_then (λ (z : FileState). z.known) (option_map (state_saw stamp sent) (state_of f c)) else known_of f c) ≡ Some stamp
      known-of = rw (same-self f, is) both.0

      mark-of : (if same f f then option_map (λ (z : FileState). z.mark) (option_map (state_saw stamp sent) (state_of f c)) else mark_of f c) ≡ Some state.mark
      mark-of = rw (same-self f, is) (ap Some both.1)
