-- What is kept of attributes stays true where more is learnt of a reply.
use Rattle.core_answers.proofs.Prelude.{◌≡◌, ℕ, Bool, true, false, List, Option, Some, None, Result, Ok, inl, inr, refl, sym, subst, nat_lt, if◌then◌else◌, Attrs, KeptAttr, Attr, Fault, Call, Reply}
use Rattle.std.proofs.Common.{All}
use Rattle.attr_cache.specs.Attrs.{kept_of, learnt, learnt_over, noted, next_lifetime, forgotten}
use Rattle.attr_cache.proofs.Entries.{LastsAtMost, Believed, All-learnt, All-forgotten}
use Rattle.claims.specs.Shown.{object_of, target_of, ShowsAttr}
use Rattle.client_shelf.specs.Learning.{Learns, Renews}
use Rattle.client_shelf.specs.Unmade.{RenewsUnless}

-- ---- the object of a call

abbrev pub IsOn : List ℕ → Call → Type 0
IsOn d call = object_of call ≡ Some d

-- and the directory of its second place
pub record AreOn (a b : List ℕ) (call : Call) : Type 0 where
  pub first : object_of call ≡ Some a
  pub second : target_of call ≡ Some b

-- ---- what is kept

learnt-lives : (o : Option KeptAttr) (file : List ℕ) (attr : Attr) (now : ℕ) (c : Attrs) → (learnt_over o file attr now c).lives ≡ c.lives
learnt-lives None file attr now c = refl
learnt-lives (Some kept) file attr now c = by (nat_lt now kept.sent_at)
  where
    by : (b : Bool) → (if b then c else noted file attr now (next_lifetime c.lives kept attr now) c).lives ≡ c.lives
    by true = refl
    by false = refl

module _ (P : List ℕ × KeptAttr → Type 0) (most : ℕ) where
  -- each entry is so, and none is believed longer
  pub record Good (c : Attrs) : Type 0 where
    pub lives : LastsAtMost c.lives most
    pub all : All (Believed P most) c.entries

  -- these attributes of the file may be learnt at a moment
  abbrev pub May : ℕ → List ℕ → Attr → Type 0
  May now file attr = (lifetime : ℕ) → P (file, record { attr = attr; sent_at = now; lifetime = lifetime })

  -- what came of the call may be learnt
  abbrev pub Tells : Call → ℕ → Result Reply Fault → Type 0
  Tells call now came = (reply : Reply) → came ≡ Ok reply → (file : List ℕ) (attr : Attr) → ShowsAttr call reply file attr → May now file attr

  -- attributes that a reply may give
  abbrev pub MayOf : ℕ → List ℕ → Option Attr → Type 0
  MayOf now file attr = (a : Attr) → attr ≡ Some a → May now file a

  pub good-as : (old new : Attrs) → new ≡ old → Good old → Good new
  good-as old new is g = subst (λ (c : Attrs). Good c) (sym is) g

  pub forgotten-good : (file : List ℕ) (old : Attrs) → Good old → Good (forgotten file old)
  forgotten-good file old g = record { lives = g.lives; all = All-forgotten (Believed P most) file old g.all }

  pub learnt-good : (file : List ℕ) (attr : Attr) (now : ℕ) (old : Attrs) → May now file attr → Good old → Good (learnt file attr now old)
  learnt-good file attr now old told g = record {
    lives = subst (λ l. LastsAtMost l most) (sym (learnt-lives (kept_of file old) file attr now old)) g.lives;
    all = All-learnt P most file attr now old g.lives g.all told;
  }

  pub learns-good : (file : List ℕ) (attr : Option Attr) (now : ℕ) (old new : Attrs) → Learns file attr now old new → MayOf now file attr → Good old → Good new
  learns-good file None now old new l told g = good-as old new l g
  learns-good file (Some attr) now old new (inl l) told g = good-as (learnt file attr now old) new l (learnt-good file attr now old (told attr refl) g)
  learns-good file (Some attr) now old new (inr l) told g = good-as old new l.1 g

  pub renews-good : (dir : List ℕ) (attr : Option Attr) (now : ℕ) (old new : Attrs) → Renews dir attr now old new → MayOf now dir attr → Good old → Good new
  renews-good dir None now old new l told g = good-as (forgotten dir old) new l (forgotten-good dir old g)
  renews-good dir (Some attr) now old new l told g = learns-good dir (Some attr) now old new l told g

  pub renews-unless : (unmade : Bool) (dir : List ℕ) (attr : Option Attr) (now : ℕ) (old new : Attrs) → RenewsUnless unmade dir attr now old new → MayOf now dir attr → Good old → Good new
  renews-unless true dir attr now old new l told g = good-as old new l g
  renews-unless false dir attr now old new l told g = renews-good dir attr now old new l told g
