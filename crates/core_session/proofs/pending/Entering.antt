-- What is known of an operation as its step begins: a put whose bytes aren't there yet brings them in this step, or not.
use Rattle.core_session.proofs.Prelude.{◌≡◌, ℕ, Bool, true, false, nat_eq, List, Some, None, refl, sym, ◌∙◌, arith, eqb-true, eqb-false, Entry, Terms, Pending, LaneFile, Saving, Mounted, Machine, Setup, View}
use Rattle.core_session.proofs.syncs.Aims.{JobAims, aimed, aimed-has, put-has, write-has}
use Rattle.core_session.proofs.syncs.AllJobs.{JobHas}
use Rattle.core_session.proofs.syncs.Causes.{IsWriter, OfOp}
use Rattle.core_session.proofs.syncs.Fates.{job_kind}
use Rattle.core_session.proofs.syncs.Nexts.{has-map}
use Rattle.core_session.proofs.syncs.Passing.{Tale, told}
use Rattle.core_session.proofs.syncs.PutGoes.{own_save}
use Rattle.core_session.proofs.syncs.Stands.{Has}
use Rattle.core_session.proofs.pending.Standing.{tale, base, C, D, Unsaved, c-e}

none-saved : (z : Saving) → None ≡ Some z → ⊥
none-saved z e = cc

module _ (mt : Mounted) (terms : Terms) (setup : Setup) (H : List Entry) (f : List ℕ) (i : ℕ) (h : List Entry) (old : View) (u : ℕ → ℕ) (x mark q0 : ℕ) (machine : Machine) (tgt : List ℕ)
    (aims : JobAims machine tgt) (writer : OfOp H x IsWriter → job_kind machine ≡ 1) (has : Has f (tale mt terms setup H f i x mark) machine) where
  abbrev Was : Tale
  Was = tale mt terms setup H f i x mark

  abbrev Base : Tale
  Base = base mt terms setup H f i h old u x mark q0 (job_kind machine) (own_save machine) tgt

  abbrev Waits : Type 0
  Waits = Unsaved mt terms setup H f i h old u x mark q0 (job_kind machine) (own_save machine) tgt

  abbrev Before : ℕ → Pending → Type 0
  Before = C mt terms setup H f i h old u x mark q0 (job_kind machine) (own_save machine) tgt

  abbrev After : ℕ → Pending → Type 0
  After = D mt terms setup H f i h old u x mark q0 (job_kind machine) (own_save machine) tgt

  -- what there is to know before its step where its bytes are there
  pub record Entering (q : ℕ) (b : Pending) (o : List LaneFile) : Type 1 where
    pub Whole : Type 0
    pub whole : Whole → Before q b → After q b
    pub says : JobHas (told f Whole (aimed (job_kind machine) tgt Base)) machine q b o

  module _ (q : ℕ) (b : Pending) (o : List LaneFile) where
    a-write : job_kind machine ≡ 1 → Entering q b o
    a-write one = record {
      Whole = ⊥;
      whole = λ none c. absurd none;
      says = aimed-has f ⊥ Base q b o tgt machine aims
          (write-has f (Unit {0}) ⊥ Was Base q b o q b o machine one (λ file offset bytes a. (a, λ three. absurd (omega (arith, one, three)))) (has q b o));
    }

    a-put : job_kind machine ≡ 3 → Entering q b o
    a-put three = record {
      Whole = Waits → ⊥;
      whole = λ there c. (
        c-e mt terms setup H f i h old u x mark q0 (job_kind machine) (own_save machine) tgt q b c,
        λ of byte writes. absurd (let one = writer of in omega (arith, one, three)),
        λ waits. absurd (there waits),
      );
      says = aimed-has f (Waits → ⊥) Base q b o tgt machine aims
          (put-has f (Unit {0}) (Waits → ⊥) Was Base q b o q b o machine three (λ none file offset bytes a. (a, λ is. none))
          (λ z its k. (
            λ waits. none-saved z (sym waits.1 ∙ its),
            k.1,
            λ here. (k.2 here, λ waits. absurd (none-saved z (sym waits.1 ∙ its))),
          )) (has q b o));
    }

    another : (job_kind machine ≡ 1 → ⊥) → (job_kind machine ≡ 3 → ⊥) → Entering q b o
    another one three = record {
      Whole = Unit {0};
      whole = λ there c. (
        c-e mt terms setup H f i h old u x mark q0 (job_kind machine) (own_save machine) tgt q b c,
        λ of byte writes. absurd (one (writer of)),
        λ waits. absurd (three waits.0),
      );
      says = aimed-has f (Unit {0}) Base q b o tgt machine aims
          (has-map f Was Base machine (λ n low. (low, λ waits. absurd (three waits.0))) (λ z. z) (λ file offset bytes a. (a, λ is. absurd (three is))) (λ file z. z) (λ file size upto z. z) has q b o);
    }

    pub entering : Entering q b o
    entering = by (nat_eq (job_kind machine) 1) refl (nat_eq (job_kind machine) 3) refl
      where
        by : (c : Bool) → nat_eq (job_kind machine) 1 ≡ c → (d : Bool) → nat_eq (job_kind machine) 3 ≡ d → Entering q b o
        by true one d is = a-write (eqb-true (job_kind machine) 1 one)
        by false one true is = a-put (eqb-true (job_kind machine) 3 is)
        by false one false is = another (eqb-false (job_kind machine) 1 one) (eqb-false (job_kind machine) 3 is)
