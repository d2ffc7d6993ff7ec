-- The mark of a file and what is told of its known stamp, after each call of the page cache.
use Rattle.core_session.proofs.Prelude.{◌≡◌, ◌<◌, ◌≤◌, ℕ, Bool, true, false, ◌||◌, nat_le, List, Option, Some, None, option_map, refl, sym, ap, subst, ◌∙◌, arith, nat_tests, Attr, Stamp, Wcc, stamp_of, FileState, Pages, state_of, after_page, saw, cut}
use Rattle.std.proofs.Common.{max, if◌then◌else◌}
use Rattle.page_cache.specs.Pages.{is_stamp, both_same, opened, keep_answer, after_keep, kept, led_to, wrote}
use Rattle.page_cache.specs.declared.state.Keep.{Keep}
use Rattle.page_cache.specs.declared.state.Keep.TheVariants.{Stale, Differs, Kept}
use Rattle.page_cache.proofs.Inserts.{same, same-is}
use Rattle.page_cache.proofs.States.{both_same-is, state_opened, state_kept, state_saw, state_changed, state-opened, state-kept, state-saw, state-wrote, state-cut, Tells, keep-tells}

-- The file was opened, no call up to this moment may tell of it any more, and its known stamp is one of which this is so.
pub record IsMarked (Seen : Stamp → Type 0) (c : Pages) (f : List ℕ) (k : ℕ) : Type 0 where
  pub state : FileState
  pub there : state_of f c ≡ Some state
  pub over : k ≤ state.mark
  pub seen : (s : Stamp) → state.known ≡ Some s → Seen s

some-state : (a b : FileState) → Some a ≡ Some b → a ≡ b
some-state a b e = cc

some-stamp : (a b : Stamp) → Some a ≡ Some b → a ≡ b
some-stamp a b e = cc

none-stamp : (s : Stamp) → None ≡ Some s → ⊥
none-stamp s e = cc

module _ (Seen : Stamp → Type 0) (f : List ℕ) (k : ℕ) where
  abbrev pub T : Pages → Type 0
  T c = IsMarked Seen c f k

  -- the file's state after a call that concerns one file
  pub marked-by : (file : List ℕ) (c d : Pages) (o : Option FileState) → state_of f d ≡ (if same f file then o else state_of f c)
      → (f ≡ file → (state : FileState) → state_of file c ≡ Some state → k ≤ state.mark → ((s : Stamp) → state.known ≡ Some s → Seen s)
      → (new : FileState) × (o ≡ Some new) × (k ≤ new.mark) × ((s : Stamp) → new.known ≡ Some s → Seen s)) → T c → T d
  marked-by file c d o is own t = by (same f file) refl
    where
      by : (b : Bool) → same f file ≡ b → T d
      by false e = record { state = t.state; there = is ∙ ap (λ (b : Bool). if b then o else state_of f c) e ∙ t.there; over = t.over; seen = t.seen }
      by true e =
          let at : f ≡ file = same-is f file e in
          let n = own at t.state (sym (ap (λ (g : List ℕ). state_of g c) at) ∙ t.there) t.over t.seen in
          record { state = n.0; there = is ∙ ap (λ (b : Bool). if b then o else state_of f c) e ∙ n.1; over = n.2; seen = n.3 }

  pub marked-shown : (file : List ℕ) (index : ℕ) (c : Pages) → T c → T (after_page file index c)
  marked-shown file index c t = record { state = t.state; there = t.there; over = t.over; seen = t.seen }

  pub marked-opened : (file : List ℕ) (stamp : Stamp) (mark : ℕ) (c : Pages) → (f ≡ file → (state : FileState) → state_of file c ≡ Some state → k ≤ state.mark → Seen stamp) → T c
      → T (opened file stamp mark c)
  marked-opened file stamp mark c new t =
      marked-by file c (opened file stamp mark c) (Some (state_opened (state_of file c) stamp mark)) (state-opened f file c stamp mark)
      (λ at state there over seen. (
        record { known = Some stamp; mark = max state.mark mark },
        ap (λ (o : Option FileState). Some (state_opened o stamp mark)) there,
        omega (arith, over),
        λ s is. subst Seen (some-stamp stamp s is) (new at state there over),
      )) t

  saw-state : (stamp : Stamp) (sent : ℕ) (state : FileState) → (late known : Bool) → nat_le sent state.mark ≡ late → k ≤ state.mark → ((s : Stamp) → state.known ≡ Some s → Seen s)
      → (state.mark < sent → Seen stamp)
      → (k ≤ (if late || known then state else record { known = Some stamp; mark = state.mark }).mark)
      × ((s : Stamp) → (if late || known then state else record { known = Some stamp; mark = state.mark }).known ≡ Some s → Seen s)
  saw-state stamp sent state true known is over seen new = (over, seen)
  saw-state stamp sent state false true is over seen new = (over, seen)
  saw-state stamp sent state false false is over seen new = (over, λ s at. subst Seen (some-stamp stamp s at) (new (grind (arith, nat_tests))))

  pub marked-saw : (file : List ℕ) (stamp : Stamp) (sent : ℕ) (c : Pages)
      → (f ≡ file → (state : FileState) → state_of file c ≡ Some state → k ≤ state.mark → state.mark < sent → Seen stamp) → T c → T (saw file stamp sent c)
  marked-saw file stamp sent c new t =
      marked-by file c (saw file stamp sent c) (option_map (state_saw stamp sent) (state_of file c)) (state-saw f file c stamp sent)
      (λ at state there over seen.
      let n = saw-state stamp sent state (nat_le sent state.mark) (is_stamp stamp state.known) refl over seen (new at state there over) in
      (state_saw stamp sent state, ap (option_map (state_saw stamp sent)) there, n.0, n.1)) t

  pub marked-kept : (file : List ℕ) (stamp : Stamp) (sent index : ℕ) (bytes : List ℕ) (c : Pages)
      → (f ≡ file → (state : FileState) → state_of file c ≡ Some state → k ≤ state.mark → state.mark < sent → Seen stamp) → T c
      → T (after_keep (keep_answer file stamp sent c) stamp (record { file = file; index = index }) bytes c)
  marked-kept file stamp sent index bytes c new t = by (keep_answer file stamp sent c) (keep-tells file stamp sent c)
    where
      by : (answer : Keep) → Tells file stamp sent c answer → T (after_keep answer stamp (record { file = file; index = index }) bytes c)
      by Stale told = t
      by Differs told = t
      by Kept told =
          marked-by file c (kept stamp (record { file = file; index = index }) bytes c) (option_map (state_kept stamp) (state_of file c)) (state-kept f file c stamp index bytes)
          (λ at state there over seen.
          let same_state : told.state ≡ state = some-state told.state state (sym told.opened ∙ there) in
          let after : state.mark < sent = subst (λ (z : FileState). z.mark < sent) same_state told.after in (
            state_kept stamp state,
            ap (option_map (state_kept stamp)) there,
            over,
            λ s is. subst Seen (some-stamp stamp s is) (new at state there over after),
          )) t

  -- after the client's own change, of which a reply tells
  led-seen : (wcc : Wcc) (known : Option Stamp) (s : Stamp) → led_to wcc known ≡ Some s → ((z : Stamp) → known ≡ Some z → Seen z)
      → ((old : Stamp) (attr : Attr) → wcc.before ≡ Some old → wcc.after ≡ Some attr → Seen old → Seen (stamp_of attr)) → Seen s
  led-seen wcc known s is seen leads = by (both_same wcc.before known) refl wcc.after refl is
    where
      by : (b : Bool) → both_same wcc.before known ≡ b → (after : Option Attr) → wcc.after ≡ after → (if b then option_map stamp_of after else None) ≡ Some s → Seen s
      by true e None ae at = absurd (none-stamp s at)
      by true e (Some attr) ae at =
          let was = both_same-is wcc.before known e in
          subst Seen (some-stamp (stamp_of attr) s at) (leads was.0 attr was.1 ae (seen was.0 was.2))
      by false e after ae at = absurd (none-stamp s at)

  abbrev Follows : List ℕ → Wcc → Type 0
  Follows file wcc = (old : Stamp) (attr : Attr) → f ≡ file → wcc.before ≡ Some old → wcc.after ≡ Some attr → Seen old → Seen (stamp_of attr)

  pub marked-wrote : (file : List ℕ) (wcc : Wcc) (offset : ℕ) (bytes : List ℕ) (moment : ℕ) (c : Pages) → k ≤ moment → Follows file wcc → T c → T (wrote file wcc offset bytes moment c)
  marked-wrote file wcc offset bytes moment c late leads t =
      marked-by file c (wrote file wcc offset bytes moment c) (option_map (state_changed wcc moment) (state_of file c)) (state-wrote f file c wcc offset bytes moment)
      (λ at state there over seen. (
        state_changed wcc moment state,
        ap (option_map (state_changed wcc moment)) there,
        late,
        λ s is. led-seen wcc state.known s is seen (λ old attr before after had. leads old attr at before after had),
      )) t

  pub marked-cut : (file : List ℕ) (wcc : Wcc) (size moment : ℕ) (c : Pages) → k ≤ moment → Follows file wcc → T c → T (cut file wcc size moment c)
  marked-cut file wcc size moment c late leads t =
      marked-by file c (cut file wcc size moment c) (option_map (state_changed wcc moment) (state_of file c)) (state-cut f file c wcc size moment)
      (λ at state there over seen. (
        state_changed wcc moment state,
        ap (option_map (state_changed wcc moment)) there,
        late,
        λ s is. led-seen wcc state.known s is seen (λ old attr before after had. leads old attr at before after had),
      )) t
