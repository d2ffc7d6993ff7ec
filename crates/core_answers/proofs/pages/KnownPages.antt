-- The state of each kept page's file is known, after each call of the cache.
use Rattle.core_answers.proofs.Prelude.{◌≡◌, ℕ, max, Bool, true, false, ◌||◌, nat_le, List, Option, Some, None, refl, sym, ap, ◌∙◌, subst, Stamp, Wcc, Pages, known_of, after_page}
use Rattle.std.proofs.Common.{if◌then◌else◌, IsSome}
use Rattle.page_cache.specs.Pages.{state_of, with_state, restarted, is_place, is_stamp, opened, opened_over, fronted, kept, after_keep, saw, saw_over, led_on, led_to, changed_over, wrote, cut}
use Rattle.std.proofs.lemmas.List.Elements.{All-weaker}
use Rattle.std.specs.Option.{option_map_or}
use Rattle.page_cache.specs.declared.place.PagePlace.{PagePlace}
use Rattle.page_cache.specs.declared.state.FileState.{FileState}
use Rattle.page_cache.specs.declared.state.Keep.{Keep}
use Rattle.page_cache.specs.declared.state.Keep.TheVariants.{Kept, Stale, Differs}
use Rattle.page_cache.specs.Bytes.{put_page, cut_page}
use Rattle.page_cache.specs.Sound.{AreKnown}
use Rattle.page_cache.proofs.Inserts.{same, same-self}
use Rattle.page_cache.proofs.States.{state-with, known-after}
use Rattle.page_cache.proofs.Entries.{All-promoted, All-fronted, All-others, All-changed}

abbrev IsKnown : Pages → PagePlace × List ℕ → Type 0
IsKnown c p = IsSome (known_of p.0.file c)

module _ (file : List ℕ) (c : Pages) where
  known-with : (known : Option Stamp) (mark : ℕ) (f : List ℕ) → known_of f (with_state file known mark c) ≡ (if same f file then known else known_of f c)
  known-with known mark f = known-after f file c (with_state file known mark c) (Some (record { known = known; mark = mark })) (state-with f file c known mark)

  of-other : (known : Option Stamp) (mark : ℕ) (p : PagePlace × List ℕ) → same p.0.file file ≡ false → IsKnown c p → IsKnown (with_state file known mark c) p
  of-other known mark p e h = subst IsSome (sym (known-with known mark p.0.file ∙ ap (λ (b : Bool). if b then known else known_of p.0.file c) e)) h

  of-file : (stamp : Stamp) (mark : ℕ) (p : PagePlace × List ℕ) → same p.0.file file ≡ true → IsKnown (with_state file (Some stamp) mark c) p
  of-file stamp mark p e = subst IsSome (sym (known-with (Some stamp) mark p.0.file ∙ ap (λ (b : Bool). if b then Some stamp else known_of p.0.file c) e)) refl

  still : (stamp : Stamp) (mark : ℕ) (p : PagePlace × List ℕ) → IsKnown c p → IsKnown (with_state file (Some stamp) mark c) p
  still stamp mark p h = by (same p.0.file file) refl
    where
      by : (b : Bool) → same p.0.file file ≡ b → IsKnown (with_state file (Some stamp) mark c) p
      by true e = of-file stamp mark p e
      by false e = of-other (Some stamp) mark p e h

  known-still : (stamp : Stamp) (mark : ℕ) → AreKnown c → AreKnown (with_state file (Some stamp) mark c)
  known-still stamp mark all = All-weaker (IsKnown c) (IsKnown (with_state file (Some stamp) mark c)) (still stamp mark) c.pages all

  known-restarted : (known : Option Stamp) (mark : ℕ) → AreKnown c → AreKnown (restarted file known mark c)
  known-restarted known mark all = All-others (IsKnown c) (IsKnown (restarted file known mark c)) file (of-other known mark) c.pages all

  pub known-opened : (stamp : Stamp) (mark : ℕ) → AreKnown c → AreKnown (opened file stamp mark c)
  known-opened stamp mark all = by (state_of file c)
    where
      by : (o : Option FileState) → AreKnown (opened_over o file stamp mark c)
      by None = known-restarted (Some stamp) mark all
      by (Some state) = (elim (is_stamp stamp state.known) as (λ y. AreKnown (if y then with_state file (Some stamp) (max state.mark mark) c else restarted file (Some stamp) (max state.mark mark) c)) [
        | true ↦ known-still stamp (max state.mark mark) all
        | false ↦ known-restarted (Some stamp) (max state.mark mark) all
      ])

  pub known-saw : (stamp : Stamp) (sent : ℕ) → AreKnown c → AreKnown (saw file stamp sent c)
  known-saw stamp sent all = by (state_of file c)
    where
      by : (o : Option FileState) → AreKnown (saw_over o file stamp sent c)
      by None = all
      by (Some state) = (elim (nat_le sent state.mark || is_stamp stamp state.known) as (λ y. AreKnown (if y then c else restarted file (Some stamp) state.mark c)) [
        | true ↦ all
        | false ↦ known-restarted (Some stamp) state.mark all
      ])

  pub known-shown : (index : ℕ) → AreKnown c → AreKnown (after_page file index c)
  known-shown index all = All-promoted (IsKnown c) (is_place file index) c.pages all

  known-kept : (stamp : Stamp) (index : ℕ) (bytes : List ℕ) → AreKnown c → AreKnown (kept stamp (record { file = file; index = index }) bytes c)
  known-kept stamp index bytes all = by (state_of file c)
    where
      place : PagePlace
      place = record { file = file; index = index }

      by : (o : Option FileState) → AreKnown (option_map_or (λ state. with_state place.file (Some stamp) state.mark (record c { pages = fronted c.room place bytes c.pages })) o c)
      by None = all
      by (Some state) = All-fronted (IsKnown (with_state file (Some stamp) state.mark c)) c.room place bytes c.pages (known-still stamp state.mark all) (of-file stamp state.mark (place, bytes) (same-self file))

  pub known-offered : (answer : Keep) (stamp : Stamp) (index : ℕ) (bytes : List ℕ) → AreKnown c → AreKnown (after_keep answer stamp (record { file = file; index = index }) bytes c)
  known-offered Stale stamp index bytes all = all
  known-offered Differs stamp index bytes all = all
  known-offered Kept stamp index bytes all = known-kept stamp index bytes all

  known-led : (o : Option Stamp) (change : ℕ → List ℕ → List ℕ) (moment : ℕ) → AreKnown c → AreKnown (led_on o file change moment c)
  known-led None change moment all = known-restarted None moment all
  known-led (Some stamp) change moment all =
      All-changed (IsKnown c) (IsKnown (with_state file (Some stamp) moment c)) file change (of-other (Some stamp) moment)
      (λ index bytes h. of-file stamp moment (record { file = file; index = index }, change index bytes) (same-self file)) c.pages all

  known-changed : (wcc : Wcc) (change : ℕ → List ℕ → List ℕ) (moment : ℕ) → AreKnown c → AreKnown (changed_over (state_of file c) file wcc change moment c)
  known-changed wcc change moment all = by (state_of file c)
    where
      by : (o : Option FileState) → AreKnown (changed_over o file wcc change moment c)
      by None = all
      by (Some state) = known-led (led_to wcc state.known) change moment all

  pub known-wrote : (wcc : Wcc) (offset : ℕ) (bytes : List ℕ) (moment : ℕ) → AreKnown c → AreKnown (wrote file wcc offset bytes moment c)
  known-wrote wcc offset bytes moment all = known-changed wcc (λ index. put_page index offset bytes) moment all

  pub known-cut : (wcc : Wcc) (size moment : ℕ) → AreKnown c → AreKnown (cut file wcc size moment c)
  known-cut wcc size moment all = known-changed wcc (λ index. cut_page index size) moment all
