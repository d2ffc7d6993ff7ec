-- What was written one after another.
use Rattle.std.proofs.Common.{◌<◌, ℕ, List, ◌++◌, Result, Ok, Err, OnOk, refl, ap, ◌∙◌, append_assoc}
use Rattle.xdr_codec.specs.Spells.{SpellsU32, ◌⨾◌, Wrote}
use Rattle.xdr_codec.specs.Arms.{SpellsStatus}

pub wrote_then : (S T : List ℕ → Type 0) (old mid new : List ℕ) → Wrote S old mid → Wrote T mid new → Wrote (S ⨾ T) old new
wrote_then S T old mid new s t = record {
  text = s.text ++ t.text;
  is = t.is ∙ ap (λ (k : List ℕ). k ++ t.text) s.is ∙ append_assoc old s.text t.text;
  spells = record { front = s.text; back = t.text; is = refl; one = s.spells; two = t.spells };
}

-- two in one, and a third
pub wrote_across : (S T U : List ℕ → Type 0) (old mid new : List ℕ) → Wrote (S ⨾ T) old mid → Wrote U mid new → Wrote (S ⨾ (T ⨾ U)) old new
wrote_across S T U old mid new s u = record {
  text = s.text ++ u.text;
  is = u.is ∙ ap (λ (k : List ℕ). k ++ u.text) s.is ∙ append_assoc old s.text u.text;
  spells = record {
    front = s.spells.front;
    back = s.spells.back ++ u.text;
    is = ap (λ (k : List ℕ). k ++ u.text) s.spells.is ∙ append_assoc s.spells.front s.spells.back u.text;
    one = s.spells.one;
    two = record { front = s.spells.back; back = u.text; is = refl; one = s.spells.two; two = u.spells };
  };
}

-- the same in another reading
pub wrote_as : (S T : List ℕ → Type 0) (old new : List ℕ) → ((text : List ℕ) → S text → T text) → Wrote S old new → Wrote T old new
wrote_as S T old new as_t w = record { text = w.text; is = w.is; spells = as_t w.text w.spells }

-- a status other than 0
pub wrote_failure : {B : Type 0} (S : B → List ℕ → Type 0) (status : ℕ) (v : B) (old new : List ℕ) → 0 < status → Wrote (SpellsU32 status ⨾ S v) old new → Wrote (SpellsStatus S status v) old new
wrote_failure S status v old new lt w = record { text = w.text; is = w.is; spells = record { failed = lt; is = w.spells } }

pub wrote_refusal : {X E B : Type 0} (S : B → List ℕ → Type 0) (status : ℕ) (v : B) (old new : List ℕ) (result : Result X E) → 0 < status → OnOk result (Wrote (SpellsU32 status ⨾ S v) old new) → OnOk result (Wrote (SpellsStatus S status v) old new)
wrote_refusal S status v old new (Ok x) lt w = wrote_failure S status v old new lt w
wrote_refusal S status v old new (Err e) lt w = tt

-- ---- the same pieces in another grouping

pub then_across : {S T U : List ℕ → Type 0} (text : List ℕ) → ((S ⨾ T) ⨾ U) text → (S ⨾ (T ⨾ U)) text
then_across text s = record {
  front = s.one.front;
  back = s.one.back ++ s.back;
  is = s.is ∙ ap (λ (k : List ℕ). k ++ s.back) s.one.is ∙ append_assoc s.one.front s.one.back s.back;
  one = s.one.one;
  two = record { front = s.one.back; back = s.back; is = refl; one = s.one.two; two = s.two };
}

pub then_inside : {S T U : List ℕ → Type 0} (text : List ℕ) → ((back : List ℕ) → T back → U back) → (S ⨾ T) text → (S ⨾ U) text
then_inside text as_u s = record { front = s.front; back = s.back; is = s.is; one = s.one; two = as_u s.back s.two }
