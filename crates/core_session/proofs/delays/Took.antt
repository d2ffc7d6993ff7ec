-- What a step that takes what came of a call makes of the calls that are made again (RFC 1813, section 2.6, NFS3ERR_JUKEBOX).
use Rattle.core_session.proofs.Prelude.{◌≡◌, ◌&&◌, ◌==◌, ℕ, Bool, true, false, List, Option, Some, None, Result, Ok, Err, refl, sym, ap, subst, ◌∙◌, nat_lt, eqb-true, Fault, jukebox, Repeat, Turn, fails_busy, goes_again, FineResult, FineOption}
use Rattle.client_shelf.specs.Busy.{is_busy, repeats_after}
use Rattle.world_model.specs.declared.answer.Fault.TheVariants as faults
use Rattle.name_ops.specs.Changing as changing

-- Whether the call was put off; the calls that are made again then. Where it is made again, A; where it was put off, P of that; else C.
pub record Took (P : Fault → Type 0) (sent turn : Turn) (old later : List Repeat) (A C : Type 0) : Type 0 where
  pub busy : Bool
  pub later_is : later ≡ repeats_after busy sent turn old
  pub again : goes_again busy sent turn old ≡ true → A
  pub fault : busy ≡ true → P (faults.Nfs jukebox)
  pub calm : busy ≡ false → C

pub took-as : (P : Fault → Type 0) (sent turn : Turn) (old later new : List Repeat) (A B C D : Type 0) → new ≡ later → (A → B) → (C → D) → Took P sent turn old later A C
    → Took P sent turn old new B D
took-as P sent turn old later new A B C D same a c t = record {
  busy = t.busy;
  later_is = same ∙ t.later_is;
  again = λ again. a (t.again again);
  fault = t.fault;
  calm = λ none. c (t.calm none);
}

-- ---- whether a fault is that of a server that is busy

no-way : (R : Type 0) → false ≡ true → R
no-way R e = absurd (cc)

busy-at : (P : Fault → Type 0) (status n : ℕ) → (status == n) ≡ true → P (faults.Nfs status) → P (faults.Nfs n)
busy-at P status n is p = subst (λ (k : ℕ). P (faults.Nfs k)) (eqb-true status n is) p

pub fault-busy : (P : Fault → Type 0) (fault : Fault) → is_busy fault ≡ true → P fault → P (faults.Nfs jukebox)
fault-busy P (faults.Nfs status) is p = busy-at P status jukebox is p
fault-busy P (faults.Rpc n) is p = no-way _ is
fault-busy P (faults.Bad n) is p = no-way _ is
fault-busy P faults.Lost is p = no-way _ is
fault-busy P faults.Spent is p = no-way _ is
fault-busy P faults.Slot is p = no-way _ is
fault-busy P faults.Mode is p = no-way _ is
fault-busy P faults.Kind is p = no-way _ is
fault-busy P faults.Many is p = no-way _ is
fault-busy P faults.Memory is p = no-way _ is

pub result-busy : {T : Type 0} → (P : Fault → Type 0) (r : Result T Fault) → fails_busy r ≡ true → FineResult P r → P (faults.Nfs jukebox)
result-busy P (Ok value) is p = no-way _ is
result-busy P (Err fault) is p = fault-busy P fault is p

pub option-busy : (P : Fault → Type 0) (o : Option Fault) → changing.told_busy o ≡ true → FineOption P o → P (faults.Nfs jukebox)
option-busy P None is p = no-way _ is
option-busy P (Some fault) is p = fault-busy P fault is p

module _ (Q : Fault → Type 0) (other : (fault : Fault) → is_busy fault ≡ false → Q fault) where
  pub result-calm : {T : Type 0} → (r : Result T Fault) → fails_busy r ≡ false → FineResult Q r
  result-calm (Ok value) is = tt
  result-calm (Err fault) is = other fault is

  pub option-calm : (o : Option Fault) → changing.told_busy o ≡ false → FineOption Q o
  option-calm None is = tt
  option-calm (Some fault) is = other fault is

-- ---- whether a call is made again

pub again-busy : (busy : Bool) (sent turn : Turn) (repeats : List Repeat) → goes_again busy sent turn repeats ≡ true → busy ≡ true
again-busy true sent turn repeats is = refl
again-busy false sent turn repeats is = no-way _ is

pub again-no : (R : Type 0) (busy : Bool) (sent turn : Turn) (repeats : List Repeat) → busy ≡ false → goes_again busy sent turn repeats ≡ true → R
again-no R busy sent turn repeats none is = no-way R (sym none ∙ again-busy busy sent turn repeats is)

-- it isn't, though it might be
pub not-again : (busy : Bool) (sent turn : Turn) (repeats : List Repeat) → goes_again true sent turn repeats ≡ true → goes_again busy sent turn repeats ≡ false → busy ≡ false
not-again true sent turn repeats may is = absurd (let wrong : true ≡ false = sym may ∙ is in cc)
not-again false sent turn repeats may is = refl

-- It might be, but for how often it was made.
pub too-often : (b : Bool) (times many : ℕ) → (b && nat_lt times 3 && nat_lt many 32) ≡ false → b ≡ true → nat_lt many 32 ≡ true → nat_lt times 3 ≡ false
too-often b times many is room few = by (nat_lt times 3) (λ (c : Bool) (e : nat_lt times 3 ≡ c). ap (λ (d : Bool). b && d && nat_lt many 32) (sym e) ∙ is) refl
  where
    by : (c : Bool) → ((d : Bool) → nat_lt times 3 ≡ d → (b && d && nat_lt many 32) ≡ false) → nat_lt times 3 ≡ c → nat_lt times 3 ≡ false
    by false k e = e
    by true k e =
        let all : (b && true && nat_lt many 32) ≡ false = k true e in
        absurd (let wrong : (true && true && true) ≡ false =
        ap (λ (d : Bool). true && true && d) (sym few) ∙ ap (λ (d : Bool). d && true && nat_lt many 32) (sym room) ∙ all in cc)
