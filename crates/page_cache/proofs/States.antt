-- What is known of this file and of others after each call, and what an answer tells of it. For the proofs of callers.
use Rattle.std.proofs.Common.{◌≡◌, ◌<◌, ◌≤◌, ◌⊎◌, inl, inr, ℕ, max, Bool, true, false, ◌||◌, nat_le, if◌then◌else◌, List, Option, Some, None, option_map, option_and_then, refl, ap, ◌∙◌, arith}
use Rattle.std.proofs.lemmas.Bool.{eqb-true}
use Rattle.std.proofs.lemmas.Bool.Decides.{nat_tests}
use Rattle.std.specs.Cmp.{first_so, second_so}
use Rattle.std.specs.Option.{option_map_or}
use Rattle.nfs_types.specs.declared.time.Time.{Time}
use Rattle.nfs_types.specs.declared.wcc.Stamp.{Stamp}
use Rattle.nfs_types.specs.declared.wcc.Wcc.{Wcc}
use Rattle.nfs_types.specs.Stamps.{same_time, same_stamp}
use Rattle.page_cache.specs.declared.place.PagePlace.{PagePlace}
use Rattle.page_cache.specs.declared.state.FileState.{FileState}
use Rattle.page_cache.specs.declared.state.Keep.{Keep}
use Rattle.page_cache.specs.declared.state.Keep.TheVariants.{Stale, Differs, Kept}
use Rattle.page_cache.specs.Bytes.{put_page, cut_page}
use Rattle.page_cache.specs.Pages.{Pages, state_of, known_of, mark_of, with_state, restarted, is_stamp, both_same, takes, opened, opened_over, answer_over, keep_answer, fronted, kept, saw, saw_over, led_to, led_on, changed_over, wrote, cut}
use Rattle.page_cache.proofs.Inserts.{same, same-is, lookup-insert}

-- a time that passes the test is the time
same_time-is : (s t : Time) → same_time s t ≡ true → s ≡ t
same_time-is s t h =
    let seconds : s.seconds ≡ t.seconds = eqb-true s.seconds t.seconds (first_so _ _ h) in
    let nanos : s.nanos ≡ t.nanos = eqb-true s.nanos t.nanos (second_so _ _ h) in
    λ i. record { seconds = seconds i; nanos = nanos i }

-- a stamp that passes the test is the stamp
pub same_stamp-is : (s t : Stamp) → same_stamp s t ≡ true → s ≡ t
same_stamp-is s t h =
    let front = first_so _ _ h in
    let size : s.size ≡ t.size = eqb-true s.size t.size (first_so _ _ front) in
    let mtime : s.mtime ≡ t.mtime = same_time-is s.mtime t.mtime (second_so _ _ front) in
    let ctime : s.ctime ≡ t.ctime = same_time-is s.ctime t.ctime (second_so _ _ h) in
    λ i. record { size = size i; mtime = mtime i; ctime = ctime i }

-- a known stamp that passes the test is the stamp
pub is_stamp-is : (stamp : Stamp) (known : Option Stamp) → is_stamp stamp known ≡ true → known ≡ Some stamp
is_stamp-is stamp None h = cc
is_stamp-is stamp (Some s) h = ap Some (same_stamp-is s stamp h)

-- where no other stamp is known, none is, or this one
pub takes-is : (stamp : Stamp) (known : Option Stamp) → takes stamp known ≡ true → (known ≡ None) ⊎ (known ≡ Some stamp)
takes-is stamp None h = inl refl
takes-is stamp (Some s) h = inr (ap Some (same_stamp-is s stamp h))

-- the stamp before a change that was followed was the known one
pub both_same-is : (before known : Option Stamp) → both_same before known ≡ true → (s : Stamp) × (before ≡ Some s) × (known ≡ Some s)
both_same-is None known h = cc
both_same-is (Some s) known h = (s, refl, is_stamp-is s known h)

-- what is known of a file after an open of it
abbrev pub state_opened : Option FileState → Stamp → ℕ → FileState
state_opened o stamp mark = record { known = Some stamp; mark = option_map_or (λ state. max state.mark mark) o mark }

-- after a page of it was kept
abbrev pub state_kept : Stamp → FileState → FileState
state_kept stamp state = record { known = Some stamp; mark = state.mark }

-- after a stamp was seen
abbrev pub state_saw : Stamp → ℕ → FileState → FileState
state_saw stamp sent state = if nat_le sent state.mark || is_stamp stamp state.known then state else record { known = Some stamp; mark = state.mark }

-- after the client's own change of it
abbrev pub state_changed : Wcc → ℕ → FileState → FileState
state_changed wcc moment state = record { known = led_to wcc state.known; mark = moment }

module _ (f file : List ℕ) (c : Pages) where
  pub state-with : (known : Option Stamp) (mark : ℕ) → state_of f (with_state file known mark c) ≡ (if same f file then Some (record { known = known; mark = mark }) else state_of f c)
  state-with known mark = lookup-insert f file (record { known = known; mark = mark }) c.files

  -- what is known of it
  as-known : (o : Option FileState) → state_of file c ≡ o → state_of f c ≡ (if same f file then o else state_of f c)
  as-known o is = by (same f file) refl
    where
      by : (b : Bool) → same f file ≡ b → state_of f c ≡ (if b then o else state_of f c)
      by true e = ap (λ g. state_of g c) (same-is f file e) ∙ is
      by false e = refl

  pub state-opened : (stamp : Stamp) (mark : ℕ) → state_of f (opened file stamp mark c) ≡ (if same f file then Some (state_opened (state_of file c) stamp mark) else state_of f c)
  state-opened stamp mark = by (state_of file c)
    where
      by : (o : Option FileState) → state_of f (opened_over o file stamp mark c) ≡ (if same f file then Some (state_opened o stamp mark) else state_of f c)
      by None = state-with (Some stamp) mark
      by (Some state) = (elim (is_stamp stamp state.known) as (λ y. state_of f (if y then with_state file (Some stamp) (max state.mark mark) c else restarted file (Some stamp) (max state.mark mark) c)
          ≡ (if same f file then Some (state_opened (Some state) stamp mark) else state_of f c)) [
            | true ↦ state-with (Some stamp) (max state.mark mark)
            | false ↦ state-with (Some stamp) (max state.mark mark)
          ])

  pub state-kept : (stamp : Stamp) (index : ℕ) (bytes : List ℕ)
      → state_of f (kept stamp (record { file = file; index = index }) bytes c) ≡ (if same f file then option_map (state_kept stamp) (state_of file c) else state_of f c)
  state-kept stamp index bytes = by (state_of file c) refl
    where
      place : PagePlace
      place = record { file = file; index = index }

      by : (o : Option FileState) → state_of file c ≡ o
          → state_of f (option_map_or (λ state. with_state file (Some stamp) state.mark (record c { pages = fronted c.room place bytes c.pages })) o c)
          ≡ (if same f file then option_map (state_kept stamp) o else state_of f c)
      by None is = as-known None is
      by (Some state) is = state-with (Some stamp) state.mark

  pub state-saw : (stamp : Stamp) (sent : ℕ) → state_of f (saw file stamp sent c) ≡ (if same f file then option_map (state_saw stamp sent) (state_of file c) else state_of f c)
  state-saw stamp sent = by (state_of file c) refl
    where
      by : (o : Option FileState) → state_of file c ≡ o → state_of f (saw_over o file stamp sent c) ≡ (if same f file then option_map (state_saw stamp sent) o else state_of f c)
      by None is = as-known None is
      by (Some state) is = (elim (nat_le sent state.mark || is_stamp stamp state.known) as (λ y. state_of f (if y then c else restarted file (Some stamp) state.mark c)
          ≡ (if same f file then Some (if y then state else record { known = Some stamp; mark = state.mark }) else state_of f c)) [
            | true ↦ as-known (Some state) is
            | false ↦ state-with (Some stamp) state.mark
          ])

  state-followed : (wcc : Wcc) (change : ℕ → List ℕ → List ℕ) (moment : ℕ)
      → state_of f (changed_over (state_of file c) file wcc change moment c) ≡ (if same f file then option_map (state_changed wcc moment) (state_of file c) else state_of f c)
  state-followed wcc change moment = by (state_of file c) refl
    where
      led : (known : Option Stamp) → state_of f (led_on known file change moment c) ≡ (if same f file then Some (record { known = known; mark = moment }) else state_of f c)
      led None = state-with None moment
      led (Some stamp) = state-with (Some stamp) moment

      by : (o : Option FileState) → state_of file c ≡ o → state_of f (changed_over o file wcc change moment c) ≡ (if same f file then option_map (state_changed wcc moment) o else state_of f c)
      by None is = as-known None is
      by (Some state) is = led (led_to wcc state.known)

  pub state-wrote : (wcc : Wcc) (offset : ℕ) (bytes : List ℕ) (moment : ℕ)
      → state_of f (wrote file wcc offset bytes moment c) ≡ (if same f file then option_map (state_changed wcc moment) (state_of file c) else state_of f c)
  state-wrote wcc offset bytes moment = state-followed wcc (λ index. put_page index offset bytes) moment

  pub state-cut : (wcc : Wcc) (size moment : ℕ)
      → state_of f (cut file wcc size moment c) ≡ (if same f file then option_map (state_changed wcc moment) (state_of file c) else state_of f c)
  state-cut wcc size moment = state-followed wcc (λ index. cut_page index size) moment

  -- the stamp and the mark after it, where the state after it is known
  pub known-after : (d : Pages) (o : Option FileState) → state_of f d ≡ (if same f file then o else state_of f c)
      → known_of f d ≡ (if same f file then option_and_then (λ state. state.known) o else known_of f c)
  known-after d o is = ap (option_and_then (λ state. state.known)) is ∙ by (same f file)
    where
      by : (b : Bool) → option_and_then (λ state. state.known) (if b then o else state_of f c) ≡ (if b then option_and_then (λ state. state.known) o else known_of f c)
      by true = refl
      by false = refl

  pub mark-after : (d : Pages) (o : Option FileState) → state_of f d ≡ (if same f file then o else state_of f c)
      → mark_of f d ≡ (if same f file then option_map (λ state. state.mark) o else mark_of f c)
  mark-after d o is = ap (option_map (λ state. state.mark)) is ∙ by (same f file)
    where
      by : (b : Bool) → option_map (λ state. state.mark) (if b then o else state_of f c) ≡ (if b then option_map (λ state. state.mark) o else mark_of f c)
      by true = refl
      by false = refl

-- what an answer to an offered page tells
module _ (file : List ℕ) (stamp : Stamp) (sent : ℕ) (c : Pages) where
  -- kept: the call was made after the mark, and no other stamp is known
  pub record TellsKept : Type 0 where
    pub state : FileState
    pub opened : state_of file c ≡ Some state
    pub after : state.mark < sent
    pub known : (state.known ≡ None) ⊎ (state.known ≡ Some stamp)

  -- of another state: the call was made after the mark, and another stamp is known
  pub record TellsDiffers : Type 0 where
    pub state : FileState
    pub opened : state_of file c ≡ Some state
    pub after : state.mark < sent
    pub other : Stamp
    pub known : state.known ≡ Some other
    pub differs : same_stamp other stamp ≡ false

  -- too old: the file was never opened, or the call was made at the mark or before
  abbrev pub TellsStale : Type 0
  TellsStale = (state_of file c ≡ None) ⊎ ((mark : ℕ) × (mark_of file c ≡ Some mark) × (sent ≤ mark))

  abbrev pub Tells : Keep → Type 0
  Tells Stale = TellsStale
  Tells Differs = TellsDiffers
  Tells Kept = TellsKept

  pub keep-tells : Tells (keep_answer file stamp sent c)
  keep-tells = by (state_of file c) refl
    where
      of_known : (state : FileState) → state_of file c ≡ Some state → state.mark < sent → (known : Option Stamp) → state.known ≡ known
          → Tells (if takes stamp known then Kept else Differs)
      of_known state is after None e = record { state = state; opened = is; after = after; known = inl e }
      of_known state is after (Some s) e = (elim (same_stamp s stamp) as (λ y. same_stamp s stamp ≡ y → Tells (if y then Kept else Differs)) [
        | true ↦ λ t. record { state = state; opened = is; after = after; known = inr (e ∙ ap Some (same_stamp-is s stamp t)) }
        | false ↦ λ t. record { state = state; opened = is; after = after; other = s; known = e; differs = t }
      ]) refl

      by : (o : Option FileState) → state_of file c ≡ o → Tells (answer_over o stamp sent)
      by None is = inl is
      by (Some state) is = (elim (nat_le sent state.mark) as (λ y. nat_le sent state.mark ≡ y → Tells (if y then Stale else (if takes stamp state.known then Kept else Differs))) [
        | true ↦ λ t. inr (state.mark, ap (option_map (λ state. state.mark)) is, grind (arith, nat_tests))
        | false ↦ λ t. of_known state is (grind (arith, nat_tests)) state.known refl
      ]) refl
