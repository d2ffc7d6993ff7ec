-- What each end of a turn shows, by the parts of the link before and after.
use Rattle.std.proofs.Common.{inl, inr, ◌≡◌, ◌≢◌, ◌≤◌, ◌+◌, ℕ, true, false, List, [], ◌++◌, Option, Some, None, refl, arith}
use Rattle.outside.specs.declared.link.Received.TheVariants as received
use Rattle.outside.specs.declared.datagrams.Arrived.TheVariants as arrivals
use Rattle.outside.specs.declared.datagrams.DatagramEntry.TheVariants.{Came, Missed}
use Rattle.outside.specs.Causes.{Rose}
use Rattle.outside.specs.Datagrams.{DatagramsTold, DatagramsTell, HasCauseArrived, is_aimed}
use Rattle.outside.specs.declared.places.DatagramAdds.{DatagramAdds}
use Rattle.outside.specs.declared.places.DatagramAdds.TheVariants as added
use Rattle.udp_link.specs.declared.link.TheConstants.{MOST_PASSED}
use Rattle.udp_link.specs.Placing.{IsPlaced, shown_as, placed_as}
use Rattle.udp_link.specs.Shown.{Held, Turned}
use Rattle.udp_link.proofs.StaysHonest.{none_told}
use Rattle.udp_link.proofs.AfterCalls.{After, after_same}
use Rattle.udp_link.proofs.WaitTurns.{wants, takes, passes_one, misses}

abbrev pub held : {D : Type 0} → D → List DatagramAdds → ℕ → ℕ → Option ℕ → Held D
held x ks below own port = record { over = x; kept = ks; below = below; own = own; port = port }

-- no place could be kept
pub turned_stays : {D : Type 0} (told : D → Option DatagramsTold) (honest : D → Type 0) (n : ℕ) (rec : List ℕ) (x y : D) (ks js : List DatagramAdds) (b c o : ℕ) (p : Option ℕ)
    → IsPlaced (told x) ks p → told y ≡ told x → js ≡ ks → (honest x → honest y) → c ≡ b
    → Turned told n rec (Some received.Memory) (held x ks b o p) (held y js c o p)
turned_stays told honest n rec x y ks js b c o p w same places keeps faults =
    wants told (held x ks b o p) (held y js c o p) (after_same told honest x y ks js p w same places keeps).tells same (omega (arith, faults)) refl refl

-- from the port dialed last
pub turned_takes : {D : Type 0} (told : D → Option DatagramsTold) (honest : D → Type 0) (n : ℕ) (rec : List ℕ) (x y : D) (ks js : List DatagramAdds) (b c o : ℕ) (p : Option ℕ) (from : ℕ) → is_aimed p from ≡ true
    → After told honest x y ks js p (shown_as p (Came from rec) ++ placed_as added.Nothing) → DatagramsTell (told x) (told y) (Some (Came from rec)) → HasCauseArrived b c (arrivals.From from)
    → Turned told n rec (Some received.Whole) (held x ks b o p) (held y js c o p)
turned_takes told honest n rec x y ks js b c o p from aimed a e h = takes told (held x ks b o p) (held y js c o p) from rec aimed a.tells e h.later refl refl

-- from another one, and more are waited for
pub turned_passes : {D : Type 0} (told : D → Option DatagramsTold) (honest : D → Type 0) (n : ℕ) (rec : List ℕ) (x y : D) (ks js : List DatagramAdds) (b c o : ℕ) (p : Option ℕ) (from : ℕ) → is_aimed p from ≡ false
    → n + 1 ≢ MOST_PASSED → After told honest x y ks js p (shown_as p (Came from rec) ++ placed_as added.Nothing) → DatagramsTell (told x) (told y) (Some (Came from rec)) → HasCauseArrived b c (arrivals.From from)
    → Turned told n rec None (held x ks b o p) (held y js c o p)
turned_passes told honest n rec x y ks js b c o p from other more a e h = (
  more,
  record { passes = passes_one told (held x ks b o p) (held y js c o p) from rec added.Nothing other a.tells e h.later refl; own = refl },
)

-- from another one, the last that is passed over
pub turned_gives_up : {D : Type 0} (told : D → Option DatagramsTold) (honest : D → Type 0) (n : ℕ) (rec : List ℕ) (x y : D) (ks js : List DatagramAdds) (b c o q : ℕ) (p : Option ℕ) (from : ℕ) → is_aimed p from ≡ false
    → n + 1 ≡ MOST_PASSED → o ≤ q → Rose o q → After told honest x y ks js p (shown_as p (Came from rec) ++ placed_as added.Failed) → DatagramsTell (told x) (told y) (Some (Came from rec)) → HasCauseArrived b c (arrivals.From from)
    → Turned told n rec (Some received.Silent) (held x ks b o p) (held y js c q p)
turned_gives_up told honest n rec x y ks js b c o q p from other last le rose a e h =
    inr (last, (le, rose, passes_one told (held x ks b o p) (held y js c q p) from rec added.Failed other a.tells e h.later refl))

-- none came
pub turned_silent : {D : Type 0} (told : D → Option DatagramsTold) (honest : D → Type 0) (n : ℕ) (rec : List ℕ) (x y : D) (ks js : List DatagramAdds) (b c o : ℕ) (p : Option ℕ)
    → After told honest x y ks js p (shown_as p Missed ++ placed_as added.Failed) → DatagramsTell (told x) (told y) (Some Missed) → HasCauseArrived b c arrivals.Silent
    → Turned told n rec (Some received.Silent) (held x ks b o p) (held y js c o p)
turned_silent told honest n rec x y ks js b c o p a e h = inl (misses told (held x ks b o p) (held y js c o p) h.failed a.tells e h.later refl refl)

pub turned_failed : {D : Type 0} (told : D → Option DatagramsTold) (honest : D → Type 0) (n : ℕ) (rec : List ℕ) (x y : D) (ks js : List DatagramAdds) (b c o : ℕ) (p : Option ℕ)
    → After told honest x y ks js p (shown_as p Missed ++ placed_as added.Failed) → DatagramsTell (told x) (told y) (Some Missed) → HasCauseArrived b c arrivals.Failed
    → Turned told n rec (Some received.Failed) (held x ks b o p) (held y js c o p)
turned_failed told honest n rec x y ks js b c o p a e h = misses told (held x ks b o p) (held y js c o p) h.failed a.tells e h.later refl refl

-- memory ran out, and the place was given back
pub turned_wants : {D : Type 0} (told : D → Option DatagramsTold) (honest : D → Type 0) (n : ℕ) (rec : List ℕ) (x y : D) (ks js : List DatagramAdds) (b c o : ℕ) (p : Option ℕ)
    → After told honest x y ks js p [] → DatagramsTell (told x) (told y) None → HasCauseArrived b c arrivals.Memory
    → Turned told n rec (Some received.Memory) (held x ks b o p) (held y js c o p)
turned_wants told honest n rec x y ks js b c o p a e h = wants told (held x ks b o p) (held y js c o p) a.tells (none_told (told x) (told y) e) h.later refl refl
