-- The order of the files' operations: each lane that has a place in it has one, and who is the first of a file.
use Rattle.core_facts.proofs.Prelude.{◌≡◌, ◌≢◌, ◌<◌, ◌≤◌, ◌+◌, ◌⊎◌, inl, inr, ℕ, zero, suc, List, [], ◌∷◌, ◌++◌, length, remove, Bool, true, false, nat_eq, Option, Some, None, position, slice_get, refl, sym, ap, subst, ◌∙◌, arith, if◌then◌else◌, eqb-true, eqb-false, eq-eqb, ne_eqb, Refused, left, is_first, LaneFile, Lane, Over, numbers_of, IsOther}
use Rattle.std.proofs.Common.{nat_lt, option_and_then, get_or}
use Rattle.std.proofs.lemmas.Bool.{lt-ltb}
use Rattle.client_shelf.specs.LaneFiles.{is_lane, is_file, added, place_of, first_of, leads}
use Rattle.client_core.specs.Numbers.{AreOnce, AreUpTo}
use Rattle.std.specs.Option.{option_map_or}
use Rattle.std.specs.Cmp.Lexicographic.{pointwise, bytes_decides}
use Rattle.std.proofs.lemmas.List.Quantifiers.{position-Some}
use Rattle.std.proofs.lemmas.Option.{get_or_from_slice_get, slice_get_within, slice_get-get_or}
use Rattle.rpc_retry.proofs.Dues.{fails_everywhere}
use Rattle.world_model.specs.declared.answer.Fault.TheVariants as faults
use Rattle.client_core.proofs.Numbers.{idle-few}
use Rattle.core_facts.specs.Progress.{HasPlace}
use Rattle.core_facts.proofs.Lists.{skip, get-remove, still-there, get-push, at-push, before-push, skip-apart, skip-other}

-- ---- what a search finds

pub record Found (order : List LaneFile) (p : LaneFile → Bool) (at : ℕ) : Type 0 where
  pub place : LaneFile
  pub there : slice_get order at ≡ Some place
  pub passes : p place ≡ true

nowhere : LaneFile
nowhere = record { lane = 0; file = [] }

found : (order : List LaneFile) (p : LaneFile → Bool) (at : ℕ) → position p order ≡ Some at → Found order p at
found order p at is =
    let s = position-Some p order at nowhere is in
    record { place = get_or order at nowhere; there = slice_get-get_or order at nowhere s.0; passes = s.1 }

none-found : (order : List LaneFile) (p : LaneFile → Bool) → position p order ≡ None → (k : ℕ) (place : LaneFile) → slice_get order k ≡ Some place → p place ≡ false
none-found order p is k place there =
    subst (λ (q : LaneFile). p q ≡ false) (get_or_from_slice_get order k place place there)
    (fails_everywhere p order is place k (slice_get_within order k place there))

some-place : (a b : LaneFile) → Some a ≡ Some b → a ≡ b
some-place a b e = cc

some-file : (a b : List ℕ) → Some a ≡ Some b → a ≡ b
some-file a b e = cc

-- ---- who has a place

-- Each place is that of a lane in the order of its file, and each such lane has one; the lanes are of 1 to 16.
pub record Sits (seats : ℕ → Option (List ℕ)) (order : List LaneFile) : Type 0 where
  pub sound : (k : ℕ) (place : LaneFile) → slice_get order k ≡ Some place → seats place.lane ≡ Some place.file
  pub has : (lane : ℕ) (file : List ℕ) → seats lane ≡ Some file → HasPlace order lane file
  pub apart : (j k : ℕ) (a b : LaneFile) → slice_get order j ≡ Some a → slice_get order k ≡ Some b → a.lane ≡ b.lane → j ≡ k
  pub least : (k : ℕ) (place : LaneFile) → slice_get order k ≡ Some place → 1 ≤ place.lane
  pub most : (k : ℕ) (place : LaneFile) → slice_get order k ≡ Some place → place.lane ≤ 16

pub none-sits : (seats : ℕ → Option (List ℕ)) → ((lane : ℕ) → seats lane ≡ None) → Sits seats []
none-sits seats none = record {
  sound = λ k place there. absurd (cc);
  has = λ lane file is. absurd (let no_way : None ≡ Some file = sym (none lane) ∙ is in cc);
  apart = λ j k a b there. absurd (cc);
  least = λ k place there. absurd (cc);
  most = λ k place there. absurd (cc);
}

-- the same of each lane
pub same-sits : (seats others : ℕ → Option (List ℕ)) (order : List LaneFile) → ((lane : ℕ) → others lane ≡ seats lane) → Sits seats order → Sits others order
same-sits seats others order same s = record {
  sound = λ k place there. same place.lane ∙ s.sound k place there;
  has = λ lane file is. s.has lane file (sym (same lane) ∙ is);
  apart = s.apart;
  least = s.least;
  most = s.most;
}

-- one lane with another place
abbrev pub seat_with : ℕ → Option (List ℕ) → (ℕ → Option (List ℕ)) → ℕ → Option (List ℕ)
seat_with lane seat seats n = if nat_eq n lane then seat else seats n

pub seat-own : (lane : ℕ) (seat : Option (List ℕ)) (seats : ℕ → Option (List ℕ)) → seat_with lane seat seats lane ≡ seat
seat-own lane seat seats = ap (λ (b : Bool). if b then seat else seats lane) (eq-eqb lane lane refl)

pub seat-other : (lane n : ℕ) (seat : Option (List ℕ)) (seats : ℕ → Option (List ℕ)) → n ≢ lane → seat_with lane seat seats n ≡ seats n
seat-other lane n seat seats apart = ap (λ (b : Bool). if b then seat else seats n) (ne_eqb n lane apart)

-- ---- sixteen lanes at most

abbrev as_lanes : List LaneFile → List Lane
as_lanes [] = []
as_lanes (place ∷ places) = record { number = place.lane; state = Over (Refused faults.Lost) } ∷ as_lanes places

lanes-length : (order : List LaneFile) → length (as_lanes order) ≡ length order
lanes-length [] = refl
lanes-length (place ∷ places) = ap suc (lanes-length places)

lanes-other : (lane : ℕ) (order : List LaneFile) → ((k : ℕ) (place : LaneFile) → slice_get order k ≡ Some place → place.lane ≢ lane) → IsOther lane (numbers_of (as_lanes order))
lanes-other lane [] other = tt
lanes-other lane (place ∷ places) other = (other zero place refl, lanes-other lane places (λ k q there. other (suc k) q there))

lanes-once : (order : List LaneFile) → ((j k : ℕ) (a b : LaneFile) → slice_get order j ≡ Some a → slice_get order k ≡ Some b → a.lane ≡ b.lane → j ≡ k)
    → AreOnce (numbers_of (as_lanes order))
lanes-once [] apart = tt
lanes-once (place ∷ places) apart = (
  lanes-other place.lane places (λ k q there same. let no_way = apart (suc k) zero q place there refl same in absurd (omega (arith, no_way))),
  lanes-once places (λ j k a b here there same. let next = apart (suc j) (suc k) a b here there same in omega (arith, next)),
)

lanes-up : (order : List LaneFile) → ((k : ℕ) (place : LaneFile) → slice_get order k ≡ Some place → 1 ≤ place.lane)
    → ((k : ℕ) (place : LaneFile) → slice_get order k ≡ Some place → place.lane ≤ 16) → AreUpTo 16 (numbers_of (as_lanes order))
lanes-up [] least most = tt
lanes-up (place ∷ places) least most =
    (least zero place refl, most zero place refl, lanes-up places (λ k q there. least (suc k) q there) (λ k q there. most (suc k) q there))

-- ---- a lane leaves its place, or takes one

module _ (lane : ℕ) (base : ℕ → Option (List ℕ)) where
  abbrev pub SitsWith : Option (List ℕ) → List LaneFile → Type 0
  SitsWith seat order = Sits (seat_with lane seat base) order

  other-seat : (n : ℕ) (a b : Option (List ℕ)) → n ≢ lane → seat_with lane a base n ≡ seat_with lane b base n
  other-seat n a b apart = seat-other lane n a base apart ∙ sym (seat-other lane n b base apart)

  -- of a lane that has no place
  not-lane : (n : ℕ) (file : List ℕ) → seat_with lane None base n ≡ Some file → n ≢ lane
  not-lane n file is same =
      let own : seat_with lane None base n ≡ None = ap (λ (k : ℕ). seat_with lane None base k) same ∙ seat-own lane None base in
      let no_way : None ≡ Some file = sym own ∙ is in
      cc

  pub leaves : (seat : Option (List ℕ)) (order : List LaneFile) → SitsWith seat order → SitsWith None (left lane order)
  leaves seat order s = by (position (is_lane lane) order) refl
    where
      by : (o : Option ℕ) → position (is_lane lane) order ≡ o → SitsWith None (option_map_or (λ at. remove order at) o order)
      by None is = record {
        sound = λ k place there. other-seat place.lane None seat (eqb-false place.lane lane (none-found order (is_lane lane) is k place there)) ∙ s.sound k place there;
        has = λ n file has. s.has n file (other-seat n seat None (not-lane n file has) ∙ has);
        apart = s.apart;
        least = s.least;
        most = s.most;
      }
      by (Some at) is = record {
        sound = λ k place there.
            let was = get-remove order at k place there in
            other-seat place.lane None seat
            (λ same. skip-other at k (s.apart (skip at k) at place own.place was own.there (same ∙ sym (eqb-true own.place.lane lane own.passes))))
            ∙ s.sound (skip at k) place was;
        has = λ n file has.
            let was = s.has n file (other-seat n seat None (not-lane n file has) ∙ has) in
            let m = still-there order at was.at (record { lane = n; file = file })
            (λ same. not-lane n file has
            (ap (λ (p : LaneFile). p.lane)
            (some-place (record { lane = n; file = file }) own.place (sym was.there ∙ ap (slice_get order) same ∙ own.there)) ∙ eqb-true own.place.lane lane own.passes))
            was.there in
            record { at = m.0; there = m.1 };
        apart = λ j k a b here there same.
            skip-apart at j k (s.apart (skip at j) (skip at k) a b (get-remove order at j a here) (get-remove order at k b there) same);
        least = λ k place there. s.least (skip at k) place (get-remove order at k place there);
        most = λ k place there. s.most (skip at k) place (get-remove order at k place there);
      }
        where
          own : Found order (is_lane lane) at
          own = found order (is_lane lane) at is

  -- there is room for a further lane
  has-room : (order : List LaneFile) → 1 ≤ lane → lane ≤ 16 → SitsWith None order → length order < 16
  has-room order least most s =
      let few = idle-few lane (as_lanes order)
      (record {
        least = least;
        most = most;
        other = lanes-other lane order (λ k place there. not-lane place.lane place.file (s.sound k place there));
      })
      (record { once = lanes-once order s.apart; each = lanes-up order s.least s.most }) in
      let same = lanes-length order in
      omega (arith, few, same)

  pushes : (file : List ℕ) (order : List LaneFile) → 1 ≤ lane → lane ≤ 16 → SitsWith None order → SitsWith (Some file) (order ++ record { lane = lane; file = file } ∷ [])
  pushes file order least most s = record {
    sound = λ k place there. sound place (get-push order own k place there);
    has = λ n f is. has n f is (nat_eq n lane) refl;
    apart = λ j k a b here there same. apart j k a b (get-push order own j a here) (get-push order own k b there) same;
    least = λ k place there. low place (get-push order own k place there);
    most = λ k place there. high place (get-push order own k place there);
  }
    where
      own : LaneFile
      own = record { lane = lane; file = file }

      sound : {k : ℕ} → (place : LaneFile) → (slice_get order k ≡ Some place) ⊎ ((k ≡ length order) × (place ≡ own)) → seat_with lane (Some file) base place.lane ≡ Some place.file
      sound {k} place (inl there) =
          let was = s.sound k place there in other-seat place.lane (Some file) None (not-lane place.lane place.file was) ∙ was
      sound {k} place (inr new) =
          subst (λ (p : LaneFile). seat_with lane (Some file) base p.lane ≡ Some p.file) (sym new.1) (seat-own lane (Some file) base)

      has : (n : ℕ) (f : List ℕ) → seat_with lane (Some file) base n ≡ Some f → (b : Bool) → nat_eq n lane ≡ b → HasPlace (order ++ own ∷ []) n f
      has n f is true d =
          let same = eqb-true n lane d in
          let here : file ≡ f = some-file file f (sym (ap (λ (k : ℕ). seat_with lane (Some file) base k) same ∙ seat-own lane (Some file) base) ∙ is) in
          record {
            at = length order;
            there = at-push order own ∙ ap (λ (g : List ℕ). Some (record { lane = lane; file = g })) here ∙ ap (λ (k : ℕ). Some (record { lane = k; file = f })) (sym same);
          }
      has n f is false d =
          let was = s.has n f (other-seat n None (Some file) (eqb-false n lane d) ∙ is) in
          record { at = was.at; there = before-push order own was.at (record { lane = n; file = f }) was.there }

      apart : (j k : ℕ) (a b : LaneFile) → (slice_get order j ≡ Some a) ⊎ ((j ≡ length order) × (a ≡ own)) → (slice_get order k ≡ Some b) ⊎ ((k ≡ length order) × (b ≡ own))
          → a.lane ≡ b.lane → j ≡ k
      apart j k a b (inl here) (inl there) same = s.apart j k a b here there same
      apart j k a b (inl here) (inr new) same =
          absurd (not-lane a.lane a.file (s.sound j a here) (same ∙ ap (λ (p : LaneFile). p.lane) new.1))
      apart j k a b (inr new) (inl there) same =
          absurd (not-lane b.lane b.file (s.sound k b there) (sym same ∙ ap (λ (p : LaneFile). p.lane) new.1))
      apart j k a b (inr new) (inr newer) same = new.0 ∙ sym newer.0

      low : {k : ℕ} → (place : LaneFile) → (slice_get order k ≡ Some place) ⊎ ((k ≡ length order) × (place ≡ own)) → 1 ≤ place.lane
      low {k} place (inl there) = s.least k place there
      low {k} place (inr new) = subst (λ (p : LaneFile). 1 ≤ p.lane) (sym new.1) least

      high : {k : ℕ} → (place : LaneFile) → (slice_get order k ≡ Some place) ⊎ ((k ≡ length order) × (place ≡ own)) → place.lane ≤ 16
      high {k} place (inl there) = s.most k place there
      high {k} place (inr new) = subst (λ (p : LaneFile). p.lane ≤ 16) (sym new.1) most

  pub joins : 1 ≤ lane → lane ≤ 16 → (seat : Option (List ℕ)) (file : List ℕ) (order : List LaneFile) → SitsWith seat order
      → SitsWith (Some file) (added (record { lane = lane; file = file }) (left lane order))
  joins least most seat file order s =
      let gone = leaves seat order s in
      let room = lt-ltb (length (left lane order)) 16 (has-room (left lane order) least most gone) in
      subst (λ (b : Bool). SitsWith (Some file) (if b then left lane order ++ record { lane = lane; file = file } ∷ [] else left lane order)) (sym room)
      (pushes file (left lane order) least most gone)

-- ---- who is the first

-- who has its turn in the order of the file
pub record HasTurn (seats : ℕ → Option (List ℕ)) (order : List LaneFile) (lane : ℕ) (file : List ℕ) : Type 0 where
  pub other : ℕ
  pub seat : seats other ≡ Some file
  pub apart : other ≢ lane
  pub first : is_first other order ≡ true

module _ (seats : ℕ → Option (List ℕ)) (order : List LaneFile) (s : Sits seats order) where
  place-is : (lane : ℕ) (file : List ℕ) → seats lane ≡ Some file → place_of lane order ≡ Some (record { lane = lane; file = file })
  place-is lane file is = by (position (is_lane lane) order) refl
    where
      by : (o : Option ℕ) → position (is_lane lane) order ≡ o → option_and_then (λ at. slice_get order at) o ≡ Some (record { lane = lane; file = file })
      by None none =
          let own = s.has lane file is in
          absurd (
          let no : nat_eq lane lane ≡ false = none-found order (is_lane lane) none own.at (record { lane = lane; file = file }) own.there in
          let yes_ : nat_eq lane lane ≡ true = eq-eqb lane lane refl in
          let no_way : true ≡ false = sym yes_ ∙ no in
          cc)
      by (Some at) there =
          let f = found order (is_lane lane) at there in
          let own = s.has lane file is in
          let same = s.apart at own.at f.place (record { lane = lane; file = file }) f.there own.there (eqb-true f.place.lane lane f.passes) in
          ap (slice_get order) same ∙ own.there

  -- the first place of a file
  pub record First (file : List ℕ) : Type 0 where
    pub at : ℕ
    pub place : LaneFile
    pub there : slice_get order at ≡ Some place
    pub of : place.file ≡ file
    pub is : first_of file order ≡ Some place

  first-is : (lane : ℕ) (file : List ℕ) → seats lane ≡ Some file → First file
  first-is lane file is = by (position (is_file file) order) refl
    where
      by : (o : Option ℕ) → position (is_file file) order ≡ o → First file
      by None none =
          let own = s.has lane file is in
          absurd (
          let no : pointwise nat_eq file file ≡ false = none-found order (is_file file) none own.at (record { lane = lane; file = file }) own.there in
          let yes_ : pointwise nat_eq file file ≡ true = (bytes_decides file file).1 refl in
          let no_way : true ≡ false = sym yes_ ∙ no in
          cc)
      by (Some at) there =
          let f = found order (is_file file) at there in
          record {
            at = at;
            place = f.place;
            there = f.there;
            of = (bytes_decides f.place.file file).0 f.passes;
            is = ap (λ (o : Option ℕ). option_and_then (λ k. slice_get order k) o) there ∙ f.there;
          }

  turn-is : (lane : ℕ) (file : List ℕ) (f : First file) → seats lane ≡ Some file → is_first lane order ≡ nat_eq f.place.lane lane
  turn-is lane file f is =
      ap (λ (o : Option LaneFile). option_map_or (λ (place : LaneFile). leads place order) o false) (place-is lane file is)
      ∙ ap (λ (o : Option LaneFile). option_map_or (λ (first : LaneFile). nat_eq first.lane lane) o false) f.is

  pub has-turn : (lane : ℕ) (file : List ℕ) → seats lane ≡ Some file → is_first lane order ≡ false → HasTurn seats order lane file
  has-turn lane file is waits =
      let f = first-is lane file is in
      let seat : seats f.place.lane ≡ Some file = s.sound f.at f.place f.there ∙ ap Some f.of in
      record {
        other = f.place.lane;
        seat = seat;
        apart = eqb-false f.place.lane lane (sym (turn-is lane file f is) ∙ waits);
        first = turn-is f.place.lane file f seat ∙ eq-eqb f.place.lane f.place.lane refl;
      }
