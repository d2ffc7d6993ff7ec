-- Where nothing waits before a place that is past all, nothing may go.
use Rattle.std.proofs.Common.{◌≡◌, ◌≤◌, ℕ, ◌&&◌, Bool, true, false, List, [], ◌∷◌, Option, Some, None, refl, sym, subst, ◌∙◌, arith}
use Rattle.std.specs.Prelude.{nat_le, not, if◌then◌else◌}
use Rattle.std.specs.Bool.{OnTrue}
use Rattle.std.specs.Option.{option_map}
use Rattle.std.proofs.lemmas.Bool.{le-leb, and_parts}
use Rattle.write_back.specs.States.{is_ready}
use Rattle.write_back.specs.Segments.{Segment, Segments, AreApart, end_of}
use Rattle.write_back.specs.Pieces.{Sent, FilePending, overlaps}
use Rattle.write_back.specs.Choice.{may_go, chosen_from, NoneGo}
use Rattle.write_back.specs.Walk.{first_that}
use Rattle.write_back.specs.Sound.{IsKept, NoneBefore}
use Rattle.write_back.specs.Cursor.{waits_upto, NoneUpto, place_of, IsResumed}
use Rattle.write_back.proofs.Opening.{map-none}
use Rattle.write_back.proofs.Passed.{upto-from}

chosen-past : (pieces : List Sent) (upto wsize from : ℕ) (es : Segments) → AreApart from es → NoneUpto upto (place_of None) es → chosen_from pieces upto wsize es ≡ []
chosen-past pieces upto wsize from [] apart none = refl
chosen-past pieces upto wsize from (e ∷ es) apart none = by (may_go pieces upto e) refl (chosen-past pieces upto wsize (end_of e) es apart.3 none.1)
  where
    by : (b : Bool) → may_go pieces upto e ≡ b → chosen_from pieces upto wsize es ≡ [] → chosen_from pieces upto wsize (e ∷ es) ≡ []
    by true h more =
        let late = none.0 ((and_parts (waits_upto upto e.1) (not (overlaps pieces e.0 (end_of e))) h).0) in
        absurd (omega (arith, late, apart.2))
    by false h more = rw h more

pub none-past : (of : FilePending) (flying resume passed_upto passed upto from : ℕ) (b : Bool) → IsResumed of flying resume passed_upto passed → from ≡ (if nat_le upto passed_upto then passed else resume) → OnTrue b (from ≡ place_of None)
    → OnTrue b (NoneGo upto of)
none-past of flying resume passed_upto passed upto from false resumed is past = tt
none-past of flying resume passed_upto passed upto from true resumed is past =
    let start : NoneUpto upto (if nat_le upto passed_upto then passed else resume) of.segments = upto-from passed_upto upto passed resume of.segments resumed.none resumed.kept.none in
    let none : NoneUpto upto (place_of None) of.segments = subst (λ (n : ℕ). NoneUpto upto n of.segments) past (subst (λ (n : ℕ). NoneUpto upto n of.segments) (sym is) start) in
    λ wsize. chosen-past of.pieces upto wsize 0 of.segments resumed.kept.sound.apart none

none-ready : (place high : ℕ) (es : Segments) → NoneBefore place es → first_that (λ e. is_ready e.1.state) place es ≡ None → NoneBefore high es
none-ready place high [] none found = tt
none-ready place high (e ∷ es) none found = by (nat_le place e.0) (is_ready e.1.state) refl refl (none-ready place high es none.1)
  where
    by : (b d : Bool) → nat_le place e.0 ≡ b → is_ready e.1.state ≡ d → (first_that (λ e. is_ready e.1.state) place es ≡ None → NoneBefore high es) → NoneBefore high (e ∷ es)
    by true true h g more = absurd (let k : Some e ≡ None = (rw (h, g) at found) in cc)
    by true false h g more =
        let k : first_that (λ e. is_ready e.1.state) place es ≡ None = (rw (h, g) at found) in
        ((λ t. absurd (let wrong : true ≡ false = sym t ∙ g in cc)), more k)
    by false d h g more =
        let k : first_that (λ e. is_ready e.1.state) place es ≡ None = (rw h at found) in
        ((λ t. absurd (let late : nat_le place e.0 ≡ true = le-leb place e.0 (none.0 t) in let wrong : true ≡ false = sym late ∙ h in cc)), more k)

-- nothing waits before any place if nothing waits from this one on
pub kept-past : (of : FilePending) (flying resume high : ℕ) → IsKept of flying resume → option_map (λ (e : ℕ × Segment). e.0) (first_that (λ e. is_ready e.1.state) resume of.segments) ≡ None → IsKept of flying high
kept-past of flying resume high kept is =
    record { sound = kept.sound; flying = kept.flying; none = none-ready resume high of.segments kept.none (map-none (λ (e : ℕ × Segment). e.0) _ is) }
