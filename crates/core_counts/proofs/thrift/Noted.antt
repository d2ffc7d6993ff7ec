-- What becomes of the kept pages where the part that a READ gave is noted: those that are followed stay, and the pages that it gave are kept.
use Rattle.core_counts.proofs.Prelude.{◌≡◌, ◌<◌, ◌≤◌, ◌+◌, ◌-◌, ◌/◌, ◌&&◌, ◌||◌, ◌==◌, ◌⊎◌, inl, inr, ℕ, zero, suc, Bool, true, false, nat_le, List, length, take, drop, Option, Some, None, option_map, refl, sym, ap, subst, ◌∙◌, arith, if◌then◌else◌, remove_entry, cases_lt, eq-eqb, nat_tests, Attr, Stamp, stamp_of, FileState, Kept, start_of, Pages, state_of, known_of, saw, keep_answer, is_place, same-self, kept_page}
use Rattle.std.proofs.Common.{nat_lt}
use Rattle.page_cache.specs.Pages.{answer_over, kept}
use Rattle.file_ops.specs.Kept.{is_given, offered_told, offered, offered_from}
use Rattle.std.specs.Option.{option_and_then}
use Rattle.std.proofs.lemmas.List.{length-drop}
use Rattle.page_cache.proofs.States.{state_kept, state-kept}
use Rattle.file_ops.specs.Reading as reading
use Rattle.claims.specs.Thrifty.{GivesPage, whole, last}
use Rattle.core_counts.proofs.thrift.Distinct.{Few}
use Rattle.core_counts.proofs.thrift.Growth.{GoodPages, Tells, good-saw, good-kept, own-place}
use Rattle.core_counts.proofs.thrift.Holds.{HoldsPage, saw-known, there-front, stamp-self}
use Rattle.core_counts.proofs.thrift.PageNames.{IsGiven, given-some}

module _ (M : List ℕ → ℕ → Type 0) (P : List ℕ → Stamp → ℕ → Type 0) (few : (f : List ℕ) (s : Stamp) (i : ℕ) → P f s i → Few M) (b : ℕ) where
  abbrev T : Pages → Type 0
  T c = GoodPages M P few b c

  module _ (file : List ℕ) (stamp : Stamp) (sent place : ℕ) (given : List ℕ) (ends : Bool) (lies : (index : ℕ) → IsGiven place given ends index → M file index) where
    whole-by : (index : ℕ) → place ≤ start_of index → (4096 ≤ length (drop (start_of index - place) given)) ⊎ (ends ≡ true) → (start_of index + 4096 ≤ place + length given) ⊎ (ends ≡ true)
    whole-by index low (inl most) = let left = length-drop (start_of index - place) given in inl (omega (arith, most, left, low))
    whole-by index low (inr is) = inr is

    told-good : (index : ℕ) (c : Pages) → nat_lt (start_of index) place ≡ false → T c → (t : Bool) → is_given (drop (start_of index - place) given) ends ≡ t
        → T (if t then kept_page file stamp sent index (take 4096 (drop (start_of index - place) given)) c else c)
    told-good index c late k false is = k
    told-good index c late k true is =
        let some = given-some (drop (start_of index - place) given) ends is in
        let left = length-drop (start_of index - place) given in
        let low : place ≤ start_of index = grind (arith, nat_tests) in
        let first = some.0 in
        good-kept M P few b file stamp sent index (take 4096 (drop (start_of index - place) given)) c
        (lies index (record { low = low; some = omega (arith, first, left, low); whole = whole-by index low some.1 })) k

    late-good : (index : ℕ) (c : Pages) → T c → (late : Bool) → nat_lt (start_of index) place ≡ late
        → T (offered_told file stamp sent ends index (if late then None else Some (drop (start_of index - place) given)) c)
    late-good index c k true is = k
    late-good index c k false is = told-good index c is k (is_given (drop (start_of index - place) given) ends) refl

    offered-good : (index : ℕ) (c : Pages) → T c → T (offered file stamp sent place given ends index c)
    unfolding offered
    offered-good index c k = late-good index c k (nat_lt (start_of index) place) refl

    pub from-good : (index n : ℕ) (c : Pages) → T c → T (offered_from file stamp sent place given ends index n c)
    from-good index zero c k = k
    from-good index (suc n) c k = offered-good (index + n) (offered_from file stamp sent place given ends index n c) (from-good index n c k)

  pub noted-good : (attr : Option Attr) (file : List ℕ) (sent place : ℕ) (given : List ℕ) (eof : Bool) (c : Pages) → ((index : ℕ) (ends : Bool) → IsGiven place given ends index → M file index)
      → ((a : Attr) → attr ≡ Some a → Tells M P few file (stamp_of a)) → T c → T (reading.noted attr file sent place given eof c)
  noted-good None file sent place given eof c lies tells k = k
  noted-good (Some attr) file sent place given eof c lies tells k =
      from-good file (stamp_of attr) sent place given (eof && (place + length given == attr.size)) (λ index g. lies index _ g) (place / 4096) (length given / 4096 + 2) (saw file (stamp_of attr) sent c)
      (good-saw M P few b file (stamp_of attr) sent c (tells attr refl) k)

-- ---- a page that is given now

some-is : {A : Type 0} → (a c : A) → Some a ≡ Some c → a ≡ c
some-is a c e = cc

module _ (f : List ℕ) (s : Stamp) (sent : ℕ) where
  -- its stamp is known, and the call was made after its mark
  record Ready (c : Pages) : Type 0 where
    state : FileState
    there : state_of f c ≡ Some state
    known : state.known ≡ Some s
    young : state.mark < sent

  ready-known : (c : Pages) → Ready c → known_of f c ≡ Some s
  ready-known c r = ap (option_and_then (λ (z : FileState). z.known)) r.there ∙ r.known

  keep-young : (c : Pages) → Ready c → keep_answer f s sent c ≡ Kept
  keep-young c r = rw (r.there) (by (nat_le sent r.state.mark) refl)
    where
      by : (late : Bool) → nat_le sent r.state.mark ≡ late → answer_over (Some r.state) s sent ≡ Kept
      by true is = let young = r.young in absurd (grind (arith, nat_tests))
      by false is = rw (is, r.known, stamp-self s) refl

  kept-ready : (index : ℕ) (bytes : List ℕ) (c : Pages) → Ready c → Ready (kept s (record { file = f; index = index }) bytes c)
  kept-ready index bytes c r = record {
    state = state_kept s r.state;
    there = state-kept f f c s index bytes ∙ ap (λ (t : Bool). if t then option_map (state_kept s) (state_of f c) else state_of f c) (same-self f) ∙ ap (option_map (state_kept s)) r.there;
    known = refl;
    young = r.young;
  }

  page-ready : (index : ℕ) (bytes : List ℕ) (c : Pages) → Ready c → Ready (kept_page f s sent index bytes c)
  unfolding kept_page
  page-ready index bytes c r = rw (keep-young c r) (kept-ready index bytes c r)

  kept-there : (index : ℕ) (bytes : List ℕ) (c : Pages) → Ready c → HoldsPage f s index (kept s (record { file = f; index = index }) bytes c)
  kept-there index bytes c r = record {
    known = ready-known (kept s (record { file = f; index = index }) bytes c) (kept-ready index bytes c r);
    there = rw (r.there) (there-front f index (record { file = f; index = index }, bytes) (take (c.room - 1) (remove_entry (is_place f index) c.pages)) (own-place f index));
  }

  page-there : (index : ℕ) (bytes : List ℕ) (c : Pages) → Ready c → HoldsPage f s index (kept_page f s sent index bytes c)
  unfolding kept_page
  page-there index bytes c r = rw (keep-young c r) (kept-there index bytes c r)

  module _ (place : ℕ) (given : List ℕ) (ends : Bool) where
    offered-ready : (index : ℕ) (c : Pages) → Ready c → Ready (offered f s sent place given ends index c)
    unfolding offered
    offered-ready index c r = by (nat_lt (start_of index) place)
      where
        of : (t : Bool) → Ready (if t then kept_page f s sent index (take 4096 (drop (start_of index - place) given)) c else c)
        of true = page-ready index (take 4096 (drop (start_of index - place) given)) c r
        of false = r

        by : (late : Bool) → Ready (offered_told f s sent ends index (if late then None else Some (drop (start_of index - place) given)) c)
        by true = r
        by false = of (is_given (drop (start_of index - place) given) ends)

    from-ready : (index n : ℕ) (c : Pages) → Ready c → Ready (offered_from f s sent place given ends index n c)
    from-ready index zero c r = r
    from-ready index (suc n) c r = offered-ready (index + n) (offered_from f s sent place given ends index n c) (from-ready index n c r)

    offered-there : (index : ℕ) (c : Pages) → nat_lt (start_of index) place ≡ false → is_given (drop (start_of index - place) given) ends ≡ true → Ready c
        → HoldsPage f s index (offered f s sent place given ends index c)
    unfolding offered
    offered-there index c early is r = rw (early, is) (page-there index (take 4096 (drop (start_of index - place) given)) c r)

module _ (M : List ℕ → ℕ → Type 0) (P : List ℕ → Stamp → ℕ → Type 0) (none : (f : List ℕ) (s : Stamp) (i : ℕ) → P f s i → Few M) (few : Few M) (b : ℕ) (f : List ℕ) (s : Stamp) (i sent place : ℕ) (given : List ℕ) where
  -- this page
  abbrev It : List ℕ → Stamp → ℕ → Type 0
  It g t j = (g ≡ f) × (t ≡ s) × (j ≡ i)

  as-it : (c : Pages) → GoodPages M P none b c → HoldsPage f s i c → GoodPages M It (λ g t j is. few) b c
  as-it c k held = record {
    marks = k.marks;
    met = k.met;
    distinct = k.distinct;
    room = k.room;
    holds = λ g t j is. subst (λ (x : List ℕ). HoldsPage x t j c) (sym is.0) (subst (λ (x : Stamp). HoldsPage f x j c) (sym is.1) (subst (λ (x : ℕ). HoldsPage f s x c) (sym is.2) held));
  }

  module _ (ends : Bool) (lies : (index : ℕ) → IsGiven place given ends index → M f index) (early : nat_lt (start_of i) place ≡ false) (is : is_given (drop (start_of i - place) given) ends ≡ true) where
    from-there : (index n : ℕ) (c : Pages) → GoodPages M P none b c → Ready f s sent c → index ≤ i → i < index + n → HoldsPage f s i (offered_from f s sent place given ends index n c)
    from-there index zero c k r low high = absurd (omega (arith, low, high))
    from-there index (suc n) c k r low high = elim (cases_lt i (index + n)) [
      | inl before ↦
          let held = from-there index n c k r low before in
          let so = as-it (offered_from f s sent place given ends index n c) (from-good M P none b f s sent place given ends lies index n c k) held in
          (offered-good M It (λ g t j is. few) b f s sent place given ends lies (index + n) (offered_from f s sent place given ends index n c) so).holds f s i (refl, refl, refl)
      | inr past ↦
          let here : index + n ≡ i = omega (arith, past, high) in
          subst (λ (j : ℕ). HoldsPage f s i (offered f s sent place given ends j (offered_from f s sent place given ends index n c))) (sym here)
          (offered-there f s sent place given ends i (offered_from f s sent place given ends index n c) early is (from-ready f s sent place given ends index n c r))
    ]

  saw-ready : (c : Pages) (state : FileState) → state_of f c ≡ Some state → state.mark < sent → Ready f s sent (saw f s sent c)
  saw-ready c state there young =
      let k = saw-known f s i s sent c state there young in
      by (state_of f (saw f s sent c)) refl k.0 k.1
    where
      by : (o : Option FileState) → state_of f (saw f s sent c) ≡ o → option_and_then (λ (z : FileState). z.known) o ≡ Some s → option_map (λ (z : FileState). z.mark) o ≡ Some state.mark
          → Ready f s sent (saw f s sent c)
      by None at known mark = absurd (cc)
      by (Some z) at known mark = record { state = z; there = at; known = known; young = (let same = some-is z.mark state.mark mark in omega (arith, same, young)) }

  given-so : (attr : Attr) (eof : Bool) → stamp_of attr ≡ s → GivesPage s.size place given eof i
      → (place ≤ start_of i) × (start_of i < place + length given) × (is_given (drop (start_of i - place) given) (eof && (place + length given == attr.size)) ≡ true)
  given-so attr eof is (whole low high) =
      let left = length-drop (start_of i - place) given in
      (low, omega (arith, low, high), ap (λ (t : Bool). t || ((eof && (place + length given == attr.size)) && nat_lt 0 (length (drop (start_of i - place) given)))) (long (omega (arith, left, low, high))))
    where
      long : 4096 ≤ length (drop (start_of i - place) given) → nat_le 4096 (length (drop (start_of i - place) given)) ≡ true
      long most = grind (arith, nat_tests)
  given-so attr eof is (last whole_ low within short all) =
      let left = length-drop (start_of i - place) given in
      let size : attr.size ≡ s.size = ap (λ (z : Stamp). z.size) is in (
        low,
        omega (arith, within, all),
        by (nat_le 4096 (length (drop (start_of i - place) given)))
            (rw (whole_, eq-eqb (place + length given) attr.size (omega (arith, all, size))) (some (omega (arith, left, low, within, all)))),
      )
    where
      some : 0 < length (drop (start_of i - place) given) → nat_lt 0 (length (drop (start_of i - place) given)) ≡ true
      some most = grind (arith, nat_tests)

      by : (t : Bool) → {rest : Bool} → rest ≡ true → (t || rest) ≡ true
      by true e = refl
      by false e = e

  -- the page that is given is kept
  pub noted-held : (attr : Attr) (eof : Bool) (c : Pages) (state : FileState) → ((index : ℕ) (ends : Bool) → IsGiven place given ends index → M f index) → Tells M P none f s → stamp_of attr ≡ s
      → state_of f c ≡ Some state → state.mark < sent → GivesPage s.size place given eof i → GoodPages M P none b c → HoldsPage f s i (reading.noted (Some attr) f sent place given eof c)
  noted-held attr eof c state lies tells is there young gives k =
      let so = given-so attr eof is gives in
      let low = so.0 in
      let high = so.1 in
      subst (λ (t : Stamp). HoldsPage f s i (offered_from f t sent place given (eof && (place + length given == attr.size)) (place / 4096) (length given / 4096 + 2) (saw f t sent c))) (sym is)
      (from-there (eof && (place + length given == attr.size)) (λ index g. lies index _ g) (grind (arith, nat_tests)) so.2 (place / 4096) (length given / 4096 + 2) (saw f s sent c)
      (good-saw M P none b f s sent c tells k) (saw-ready c state there young) (omega (arith, low)) (omega (arith, high)))
