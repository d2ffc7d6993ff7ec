-- For how many pages there is room stays the same at each call. For the proofs of callers.
use Rattle.std.proofs.Common.{◌≡◌, ℕ, max, Bool, true, false, ◌||◌, nat_le, if◌then◌else◌, List, Option, Some, None, refl}
use Rattle.std.specs.Option.{option_map_or}
use Rattle.nfs_types.specs.declared.wcc.Stamp.{Stamp}
use Rattle.nfs_types.specs.declared.wcc.Wcc.{Wcc}
use Rattle.page_cache.specs.declared.place.PagePlace.{PagePlace}
use Rattle.page_cache.specs.declared.state.FileState.{FileState}
use Rattle.page_cache.specs.declared.state.Keep.{Keep}
use Rattle.page_cache.specs.declared.state.Keep.TheVariants.{Stale, Differs, Kept}
use Rattle.page_cache.specs.Bytes.{put_page, cut_page}
use Rattle.page_cache.specs.Pages.{Pages, state_of, with_state, restarted, is_stamp, opened, opened_over, fronted, after_keep, saw, saw_over, led_to, led_on, changed_over, wrote, cut}

module _ (file : List ℕ) (c : Pages) where
  pub room-opened : (stamp : Stamp) (mark : ℕ) → (opened file stamp mark c).room ≡ c.room
  room-opened stamp mark = by (state_of file c)
    where
      by : (o : Option FileState) → (opened_over o file stamp mark c).room ≡ c.room
      by None = refl
      by (Some state) = of (is_stamp stamp state.known)
        where
          of : (t : Bool) → (if t then with_state file (Some stamp) (max state.mark mark) c else restarted file (Some stamp) (max state.mark mark) c).room ≡ c.room
          of true = refl
          of false = refl

  pub room-saw : (stamp : Stamp) (sent : ℕ) → (saw file stamp sent c).room ≡ c.room
  room-saw stamp sent = by (state_of file c)
    where
      by : (o : Option FileState) → (saw_over o file stamp sent c).room ≡ c.room
      by None = refl
      by (Some state) = of (nat_le sent state.mark || is_stamp stamp state.known)
        where
          of : (t : Bool) → (if t then c else restarted file (Some stamp) state.mark c).room ≡ c.room
          of true = refl
          of false = refl

  room-changed : (wcc : Wcc) (change : ℕ → List ℕ → List ℕ) (moment : ℕ) → (changed_over (state_of file c) file wcc change moment c).room ≡ c.room
  room-changed wcc change moment = by (state_of file c)
    where
      led : (known : Option Stamp) → (led_on known file change moment c).room ≡ c.room
      led None = refl
      led (Some stamp) = refl

      by : (o : Option FileState) → (changed_over o file wcc change moment c).room ≡ c.room
      by None = refl
      by (Some state) = led (led_to wcc state.known)

  pub room-wrote : (wcc : Wcc) (offset : ℕ) (bytes : List ℕ) (moment : ℕ) → (wrote file wcc offset bytes moment c).room ≡ c.room
  room-wrote wcc offset bytes moment = room-changed wcc (λ index. put_page index offset bytes) moment

  pub room-cut : (wcc : Wcc) (size moment : ℕ) → (cut file wcc size moment c).room ≡ c.room
  room-cut wcc size moment = room-changed wcc (λ index. cut_page index size) moment

pub room-kept : (answer : Keep) (stamp : Stamp) (place : PagePlace) (bytes : List ℕ) (c : Pages) → (after_keep answer stamp place bytes c).room ≡ c.room
room-kept Stale stamp place bytes c = refl
room-kept Differs stamp place bytes c = refl
room-kept Kept stamp place bytes c = by (state_of place.file c)
  where
    by : (o : Option FileState) → (option_map_or (λ state. with_state place.file (Some stamp) state.mark (record c { pages = fronted c.room place bytes c.pages })) o c).room ≡ c.room
    by None = refl
    by (Some state) = refl
