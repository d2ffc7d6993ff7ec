-- After a close gave up what was pending of its file: what is owed until a record comes, as lanes make their steps and operations begin.
use Rattle.core_session.proofs.Prelude.{◌≡◌, ◌≢◌, ◌⊎◌, inl, inr, ℕ, List, [], ◌∷◌, ◌++◌, Bool, true, false, nat_eq, Option, Some, None, option_map, slice_get, refl, sym, ap, subst, ◌∙◌, arith, eqb-true, eqb-false, Opened, Opens, IsOpen, Answer, Refused, Entry, Answered, Delivered, Modes, length_last, CloseFile, Closing, file_at, Machine, Lane, Busy, Over, View, MayHear, at-set, Kind, plainly, kind_of, set-other, ended-grow, IsFirst, IsPast, NonePast, IsOwed, WasLeft, IsDropped}
use Rattle.core_facts.proofs.Slots.{opening, closing}
use Rattle.core_session.specs.drops.Dropped.{IsReady, IsRefused, ready, noted}
use Rattle.std.specs.FinMap as finite
use Rattle.world_model.specs.declared.op.Op.TheVariants as ops
use Rattle.file_ops.specs.declared.close_file.Closing.TheVariants as closings
use Rattle.op_machines.specs.declared.file_machine.FileMachine.TheVariants as files
use Rattle.op_machines.specs.declared.machine.Machine.TheVariants as machines
use Rattle.core_session.proofs.drops.Closers.{ClosingAt}
use Rattle.core_session.proofs.drops.Drops.{OwnLed, closer, other, WasCloser, WasNone}
use Rattle.core_session.proofs.drops.Growing.{of-grow, under-grow, still-on}
use Rattle.core_session.proofs.drops.SlotKinds.{IsCloserOf, CloserState, OtherState, OnlyLess}
use Rattle.core_session.proofs.drops.LaneIs.{state-is, busy-over}
use Rattle.core_session.proofs.drops.Laws.{OneStepped}

-- ---- the table

some-open : (a b : Opened) → Some a ≡ Some b → a ≡ b
some-open a b e = cc

pub file-open : (opens : Opens) (n slot : ℕ) (file : List ℕ) → file_at n slot opens ≡ Some file → IsOpen opens file
file-open opens n slot file at = by (finite.get opens (n, slot)) refl at
  where
    one-file : (a b : List ℕ) → Some a ≡ Some b → a ≡ b
    one-file a b e = cc

    by : (o : Option Opened) → finite.get opens (n, slot) ≡ o → option_map (λ (k : Opened). k.file) o ≡ Some file → IsOpen opens file
    by None is e = absurd (let no_way : None ≡ Some file = e in cc)
    by (Some o) is e = record { place = (n, slot); of = o; there = is; same = one-file o.file file e }

pub less-open : (old new : Opens) (file : List ℕ) → OnlyLess old new → IsOpen new file → IsOpen old file
less-open old new file less o = by (less o.place)
  where
    by : (finite.get new o.place ≡ finite.get old o.place) ⊎ (finite.get new o.place ≡ None) → IsOpen old file
    by (inl same) = record { place = o.place; of = o.of; there = sym same ∙ o.there; same = o.same }
    by (inr none) = absurd (let no_way : None ≡ Some o.of = sym none ∙ o.there in cc)

-- ---- closes past their sync

close-is : (a b : CloseFile) → machines.File (files.Close a) ≡ machines.File (files.Close b) → a ≡ b
close-is a b e = cc

busy-is : (a b : Machine) → Busy a ≡ Busy b → a ≡ b
busy-is a b e = cc

-- one past its sync is of its file
pub past-file : (n slot : ℕ) (file f : List ℕ) (upto : ℕ) (opens : Opens) (state : Closing) → ClosingAt n slot file upto opens state → IsPast f state → file ≡ f
past-file n slot file f upto opens closings.Idle a p = absurd a
past-file n slot file f upto opens (closings.Queued saving) a p = absurd p
past-file n slot file f upto opens (closings.Saves saving) a p = absurd p
past-file n slot file f upto opens (closings.ToRemove removal) a p = sym a.0 ∙ p
past-file n slot file f upto opens (closings.Removing removal) a p = sym a.0 ∙ p

-- a close is past its sync, or its slot holds its file
pub past-or-open : (n slot : ℕ) (file : List ℕ) (upto : ℕ) (opens : Opens) (state : Closing) → ClosingAt n slot file upto opens state → IsPast file state ⊎ IsOpen opens file
past-or-open n slot file upto opens closings.Idle a = absurd a
past-or-open n slot file upto opens (closings.Queued saving) a = inr (file-open opens n slot file a.1)
past-or-open n slot file upto opens (closings.Saves saving) a = inr (file-open opens n slot file a.1)
past-or-open n slot file upto opens (closings.ToRemove removal) a = inl a.0
past-or-open n slot file upto opens (closings.Removing removal) a = inl a.0

-- the close that a lane has come to, past its sync, is of a close's file
pub past-led : (m : Modes) (n : ℕ) (kind : Kind) (c : CloseFile) → OtherState m n kind (Busy (machines.File (files.Close c))) → ⊥
past-led m n (opening slot mode) c o = let no_way : machines.File (files.Close c) ≡ machines.Path o.m = o.is in absurd cc
past-led m n (closing slot) c o = o
past-led m n plainly c o = o

module _ (m : Modes) (h : List Entry) (old new : View) (s : OneStepped m h old new) (file : List ℕ) where
  -- a lane that has an answer is another
  off : (k lane : ℕ) (answer : Answer) → slice_get old.lanes k ≡ Some (record { number = lane; state = Over answer }) → k ≢ s.at
  off k lane answer there same =
      busy-over s.machine answer (sym (state-is (Over answer) (Busy s.machine) lane s.number (sym there ∙ ap (slice_get old.lanes) same ∙ s.there)))

  stays-at : (k : ℕ) (lane : Lane) → k ≢ s.at → slice_get old.lanes k ≡ Some lane → slice_get new.lanes k ≡ Some lane
  stays-at k lane apart there =
      ap (λ (ls : List Lane). slice_get ls k) s.lanes_are ∙ set-other old.lanes s.at k (record { number = s.number; state = s.state }) apart ∙ there

  pub was-at : (k : ℕ) (lane : Lane) → k ≢ s.at → slice_get new.lanes k ≡ Some lane → slice_get old.lanes k ≡ Some lane
  was-at k lane apart there =
      sym (set-other old.lanes s.at k (record { number = s.number; state = s.state }) apart) ∙ ap (λ (ls : List Lane). slice_get ls k) (sym s.lanes_are) ∙ there

  pub now-at : slice_get new.lanes s.at ≡ Some (record { number = s.number; state = s.state })
  now-at = ap (λ (ls : List Lane). slice_get ls s.at) s.lanes_are
      ∙ at-set old.lanes s.at (record { number = s.number; state = Busy s.machine }) (record { number = s.number; state = s.state }) s.there

  pub ready-stays : (answer : Answer) → IsReady m h old file answer → IsReady m h new file answer
  ready-stays answer k = record {
    at = k.at;
    lane = k.lane;
    slot = k.slot;
    x = k.x;
    there = stays-at k.at (record { number = k.lane; state = Over answer }) (off k.at k.lane answer k.there) k.there;
    under_way = k.under_way;
    of = k.of;
  }

  refused-stays : (from : ℕ) → IsRefused m from h old file → IsRefused m from h new file
  refused-stays from (ready fault k) = ready fault (ready-stays (Refused fault) k)
  refused-stays from (noted lane slot c j fault of ended late) = noted lane slot c j fault of ended late

  own-past : (IsOpen old.shelf.opens file → ⊥) → NonePast old file → (c : CloseFile) → s.state ≡ Busy (machines.File (files.Close c)) → IsPast file c.state → ⊥
  own-past shut none c is past = by s.own
    where
      by : OwnLed m h s.number s.x s.op s.state old.shelf.opens new.shelf.opens (λ f. IsFirst s.number old.shelf.order) (WasCloser s.number s.machine old.shelf.opens) (WasNone s.machine) → ⊥
      by (other v o others) = past-led m s.number (kind_of s.op) c (subst (OtherState m s.number (kind_of s.op)) is o)
      by (closer slot f upto op_is of was led) = was-past (past-or-open s.number slot f upto old.shelf.opens was.c.state was.at)
        where
          now : IsCloserOf s.number slot f upto (machines.File (files.Close c)) new.shelf.opens
          now = subst (CloserState s.number slot f upto (IsFirst s.number old.shelf.order) new.shelf.opens) is led.then_

          same : f ≡ file
          same = past-file s.number slot f file upto new.shelf.opens now.c.state now.at (subst (λ (k : CloseFile). IsPast file k.state) (close-is c now.c now.is) past)

          was-past : IsPast f was.c.state ⊎ IsOpen old.shelf.opens f → ⊥
          was-past (inr open_) = shut (subst (IsOpen old.shelf.opens) same open_)
          was-past (inl past_) =
              none s.at s.number was.c (s.there ∙ ap (λ (k : Machine). Some (record { number = s.number; state = Busy k })) was.is) (subst (λ (g : List ℕ). IsPast g was.c.state) same past_)

  none-stays : (IsOpen old.shelf.opens file → ⊥) → NonePast old file → NonePast new file
  none-stays shut none k n c there past = by (nat_eq k s.at) refl
    where
      by : (b : Bool) → nat_eq k s.at ≡ b → ⊥
      by false d = none k n c (was-at k (record { number = n; state = Busy (machines.File (files.Close c)) }) (eqb-false k s.at d) there) past
      by true d =
          own-past shut none c
          (state-is s.state (Busy (machines.File (files.Close c))) s.number n (sym now-at ∙ ap (λ (i : ℕ). slice_get new.lanes i) (sym (eqb-true k s.at d)) ∙ there)) past

  pub owed-stays : (from : ℕ) → OnlyLess old.shelf.opens new.shelf.opens → IsOwed m from h old file → IsOwed m from h new file
  owed-stays from less o = record {
    since = o.since;
    still = o.still;
    shut = λ open_. o.shut (less-open old.shelf.opens new.shelf.opens file less open_);
    none = none-stays o.shut o.none;
    answer = o.answer;
    some = ready-stays o.answer o.some;
    refused = refused-stays from o.refused;
  }

-- ---- an entry that begins or answers nothing, and is no record; or at which an operation begins

module _ (m : Modes) (h : List Entry) (e : Entry) (old new : View) (file : List ℕ) where
  pub ready-grows : (answer : Answer) → ((lane line : ℕ) (a : Answer) → e ≡ Answered lane line a → ⊥)
      → ((k : ℕ) (lane : Lane) → slice_get old.lanes k ≡ Some lane → slice_get new.lanes k ≡ Some lane) → IsReady m h old file answer → IsReady m (h ++ e ∷ []) new file answer
  ready-grows answer off lanes k = record {
    at = k.at;
    lane = k.lane;
    slot = k.slot;
    x = k.x;
    there = lanes k.at (record { number = k.lane; state = Over answer }) k.there;
    under_way = under-grow m h e k.lane k.x (ops.Close k.slot) (off k.lane) k.under_way;
    of = of-grow m h e k.x (ops.Close k.slot) file k.of;
  }

  pub refused-grows : (from : ℕ) → ((lane line : ℕ) (a : Answer) → e ≡ Answered lane line a → ⊥)
      → ((k : ℕ) (lane : Lane) → slice_get old.lanes k ≡ Some lane → slice_get new.lanes k ≡ Some lane) → IsRefused m from h old file → IsRefused m from (h ++ e ∷ []) new file
  refused-grows from off lanes (ready fault k) = ready fault (ready-grows (Refused fault) off lanes k)
  refused-grows from off lanes (noted lane slot c j fault of ended late) =
      noted lane slot c j fault (of-grow m h e c (ops.Close slot) file of) (ended-grow h e lane c (ops.Close slot) j (Refused fault) ended) late

  pub owed-grows : (from : ℕ) → ((lane line : ℕ) (a : Answer) → e ≡ Answered lane line a → ⊥) → ((b : List ℕ) → e ≡ Delivered b → ⊥)
      → ((k : ℕ) (lane : Lane) → slice_get old.lanes k ≡ Some lane → slice_get new.lanes k ≡ Some lane)
      → (IsOpen new.shelf.opens file → IsOpen old.shelf.opens file) → (NonePast old file → (IsOpen old.shelf.opens file → ⊥) → NonePast new file)
      → IsOwed m from h old file → IsOwed m from (h ++ e ∷ []) new file
  owed-grows from off silent lanes less none o = record {
    since = let more = length_last h e in let low = o.since in omega (arith, more, low);
    still = still-on m h e from silent o.still;
    shut = λ open_. o.shut (less open_);
    none = none o.none o.shut;
    answer = o.answer;
    some = ready-grows o.answer off lanes o.some;
    refused = refused-grows from off lanes o.refused;
  }

-- at a record nothing is owed: each answer that is ready was noted
pub owed-heard : (m : Modes) (from : ℕ) (h : List Entry) (v : View) (file : List ℕ) → MayHear v → IsOwed m from h v file → ⊥
owed-heard m from h v file may o = may.noted o.some.at o.some.lane o.answer o.some.there

-- ---- what was given up, under the double negation

pub dropped-map : (m : Modes) (from : ℕ) (h g : List Entry) (v w : View) (file : List ℕ) → (IsOwed m from h v file → IsOwed m from g w file)
    → (WasLeft m from h file → WasLeft m from g file) → IsDropped m from h v file → IsDropped m from g w file
dropped-map m from h g v w file f g_ d never = d (λ k. by k)
  where
    by : IsOwed m from h v file ⊎ WasLeft m from h file → ⊥
    by (inl o) = never (inl (f o))
    by (inr l) = never (inr (g_ l))

-- at a record it was noted that the last close left the file
pub dropped-heard : (m : Modes) (from : ℕ) (h : List Entry) (v : View) (file : List ℕ) → MayHear v → IsDropped m from h v file → (WasLeft m from h file → ⊥) → ⊥
dropped-heard m from h v file may d never = d (λ k. by k)
  where
    by : IsOwed m from h v file ⊎ WasLeft m from h file → ⊥
    by (inl o) = owed-heard m from h v file may o
    by (inr l) = never l

pub dropped-left : (m : Modes) (from : ℕ) (h : List Entry) (v : View) (file : List ℕ) → ((WasLeft m from h file → ⊥) → ⊥) → IsDropped m from h v file
dropped-left m from h v file d never = d (λ l. never (inr l))
