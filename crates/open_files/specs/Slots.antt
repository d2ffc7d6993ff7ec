-- The files that a client holds open: for each lane and slot, what is known of the open there (this client's own rule;
-- NFS version 3 has no open files, RFC 1813, section 1.5).
use Rattle.std.specs.Prelude.{◌≡◌, ℕ, List, Bool, Some, MatchBool}
use Rattle.std.specs.declared.cmp.Ordering.{Ordering}
use Rattle.std.specs.Ordering.{nat_cmp, on, then_cmp}
use Rattle.std.specs.FinMap as map
use Rattle.open_files.specs.declared.opened.Opened.{Opened}

-- a lane and a slot
abbrev pub Place : Type 0
Place = ℕ × ℕ

-- by lane, and then by slot
abbrev pub place_cmp : Place → Place → Ordering
place_cmp = then_cmp (on (λ place. place.0) nat_cmp) (on (λ place. place.1) nat_cmp)

abbrev pub Opens : Type 0
Opens = map.FinMap place_cmp Opened

-- some slot of some lane holds an open
pub record HoldsAny (opens : Opens) : Type 0 where
  pub place : Place
  pub of : Opened
  pub there : map.get opens place ≡ Some of

-- some slot of some lane holds an open of this file
pub record IsOpen (opens : Opens) (file : List ℕ) : Type 0 where
  pub place : Place
  pub of : Opened
  pub there : map.get opens place ≡ Some of
  pub same : of.file ≡ file

-- A close of the open at this place tells whether it was the last one of its file: none of that file is left then.
pub record TellsLast (old new : Opens) (place : Place) (last : Bool) : Type 0 where
  pub of : Opened
  pub there : map.get old place ≡ Some of
  pub told : MatchBool last (¬ IsOpen new of.file) (IsOpen new of.file)
