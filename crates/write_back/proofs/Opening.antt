-- What was found, out of its option.
use Rattle.std.proofs.Common.{◌≡◌, ℕ, List, Option, Some, None, position, refl, subst}
use Rattle.std.specs.Prelude.{nat_eq}
use Rattle.std.specs.Option.{option_map}
use Rattle.write_back.specs.States.{is_ready}
use Rattle.write_back.specs.Segments.{Segment}
use Rattle.write_back.specs.Walk.{first_that}
use Rattle.write_back.specs.Pieces.{Sent, FilePending}
use Rattle.write_back.specs.Sound.{IsKept}
use Rattle.write_back.proofs.Keeping.{kept-first}

pub map-none : {A B : Type 0} (f : A → B) (o : Option A) → option_map f o ≡ None → o ≡ None
map-none f None is = refl
map-none f (Some x) is = absurd cc

-- the same in an equal list
pub place-in : (xid : ℕ) (xs ys : List Sent) (o : Option ℕ) → xs ≡ ys → position (λ (piece : Sent). nat_eq piece.xid xid) xs ≡ o → position (λ (piece : Sent). nat_eq piece.xid xid) ys ≡ o
place-in xid xs ys o same is = subst (λ z. position (λ (piece : Sent). nat_eq piece.xid xid) z ≡ o) same is

-- nothing waits before the first that does
pub kept-first-at : (of : FilePending) (flying resume at : ℕ) → IsKept of flying resume → option_map (λ (e : ℕ × Segment). e.0) (first_that (λ e. is_ready e.1.state) resume of.segments) ≡ Some at → IsKept of flying at
kept-first-at of flying resume at kept is = by (first_that (λ e. is_ready e.1.state) resume of.segments) refl is
  where
    by : (o : Option (ℕ × Segment)) → first_that (λ e. is_ready e.1.state) resume of.segments ≡ o → option_map (λ (e : ℕ × Segment). e.0) o ≡ Some at → IsKept of flying at
    by None h k = absurd cc
    by (Some x) h k = let same : x.0 ≡ at = cc in subst (λ n. IsKept of flying n) same (kept-first of flying resume x kept h)
