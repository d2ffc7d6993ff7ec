-- The oldest call that is due, by its place.
use Rattle.std.proofs.Common.{◌≡◌, ◌+◌, ◌<◌, ◌≤◌, ℕ, zero, suc, List, [], ◌∷◌, length, Bool, true, false, cond, nat_lt, position, get_or, slice_get, option_map, Some, None, refl, sym, ap, ◌∙◌, subst, arith}
use Rattle.std.specs.List.{position_or_len}
use Rattle.std.specs.Map.{values_of}
use Rattle.std.proofs.lemmas.Bool.{ltb-false}
use Rattle.std.proofs.lemmas.List.Quantifiers.{position-Some}
use Rattle.std.proofs.lemmas.List.Sums.{fails_before_first}
use Rattle.indexmap.specs.IndexMap.{set_value_at}
use Rattle.rpc_message.specs.declared.cred.Cred.{Cred}
use Rattle.rpc_retry.specs.declared.waiting.Waiting.{Waiting}
use Rattle.rpc_retry.specs.Waiting.{first_due, sent, sent_call, is_due}
use Rattle.rpc_retry.specs.Held.{Held, next_xid}
use Rattle.rpc_retry.specs.Sound.{IsSoundCall, AreSound, IsSound}
use Rattle.rpc_retry.proofs.Order.{sound_with}

-- a choice, once the test is known
pub if_true : {A : Type 0} (b : Bool) (x y : A) → b ≡ true → cond b x y ≡ x
if_true b x y e = ap (λ c. cond c x y) e

pub if_false : {A : Type 0} (b : Bool) (x y : A) → b ≡ false → cond b x y ≡ y
if_false b x y e = ap (λ c. cond c x y) e

module _ {X : Type 0} (p : X → Bool) where
  -- where no place is found, the test fails everywhere
  pub fails_everywhere : (xs : List X) → position p xs ≡ None → (d : X) (k : ℕ) → k < length xs → p (get_or xs k d) ≡ false
  fails_everywhere xs none d k within = by (nat_lt (position_or_len p xs) (length xs)) refl
    where
      by : (b : Bool) → nat_lt (position_or_len p xs) (length xs) ≡ b → p (get_or xs k d) ≡ false
      by true e = absurd (cc)
      by false e = let past : length xs ≤ position_or_len p xs = ltb-false _ _ e in fails_before_first p xs k d (omega arith)

module _ {P : Type 0} where
  -- the oldest call that is due stands at a place
  pub record DueAt (es : List (ℕ × Waiting P)) (at : ℕ) : Type 0 where
    pub xid : ℕ
    pub call : Waiting P
    pub first : first_due es ≡ Some (xid, call)
    pub there : slice_get (values_of es) at ≡ Some call
    pub due : call.due ≡ true
    pub sends : set_value_at es at (sent_call call) ≡ sent es

  pub none_due : (es : List (ℕ × Waiting P)) → ((d : Waiting P) (k : ℕ) → k < length (values_of es) → is_due (get_or (values_of es) k d) ≡ false) → (first_due es ≡ None) × (sent es ≡ es)
  none_due [] h = (refl, refl)
  none_due (e ∷ es) h =
      let here : e.1.due ≡ false = h e.1 zero (omega arith) in
      let rest = none_due es (λ d k lt. h d (suc k) (omega arith)) in
      (if_false e.1.due (Some e) (first_due es) here ∙ rest.0, if_false e.1.due ((e.0, sent_call e.1) ∷ es) (e ∷ sent es) here ∙ ap (λ l. e ∷ l) rest.1)

  pub due_at : (es : List (ℕ × Waiting P)) (at : ℕ) (d : Waiting P) → at < length (values_of es) → is_due (get_or (values_of es) at d) ≡ true
      → ((k : ℕ) → k < at → is_due (get_or (values_of es) k d) ≡ false) → DueAt es at
  due_at [] at d within here before = absurd (omega arith)
  due_at (e ∷ es) zero d within here before =
      record { xid = e.0; call = e.1; first = if_true e.1.due (Some e) (first_due es) here; there = refl; due = here; sends = sym (if_true e.1.due ((e.0, sent_call e.1) ∷ es) (e ∷ sent es) here) }
  due_at (e ∷ es) (suc at) d within here before =
      let late : e.1.due ≡ false = before zero (omega arith) in
      let s = due_at es at d (omega arith) here (λ k lt. before (suc k) (omega arith)) in
      record { xid = s.xid; call = s.call; first = if_false e.1.due (Some e) (first_due es) late ∙ s.first; there = s.there; due = s.due; sends = ap (λ l. e ∷ l) s.sends ∙ sym (if_false e.1.due ((e.0, sent_call e.1) ∷ es) (e ∷ sent es) late) }

  pub at_position : (es : List (ℕ × Waiting P)) (at : ℕ) (d : Waiting P) → position is_due (values_of es) ≡ Some at → DueAt es at
  at_position es at d e = let s = position-Some is_due (values_of es) at d e in due_at es at d s.0 s.1 s.2

  pub no_position : (es : List (ℕ × Waiting P)) → position is_due (values_of es) ≡ None → (first_due es ≡ None) × (sent es ≡ es)
  no_position es e = none_due es (fails_everywhere is_due (values_of es) e)

  -- the call at a place is sound
  pub sound_at : (cred : Cred) (low next : ℕ) (es : List (ℕ × Waiting P)) (at : ℕ) (call : Waiting P) → AreSound cred low next es → slice_get (values_of es) at ≡ Some call → (xid : ℕ) × IsSoundCall cred xid call
  sound_at cred low next [] at call s e = absurd (cc)
  sound_at cred low next (x ∷ es) zero call s e = let same : x.1 ≡ call = cc in (x.0, subst (IsSoundCall cred x.0) same s.1)
  sound_at cred low next (x ∷ es) (suc at) call s e = sound_at cred (x.0 + 1) next es at call s.2 e

  pub sound_sent_call : (cred : Cred) (xid : ℕ) (call : Waiting P) → call.due ≡ true → IsSoundCall cred xid call → IsSoundCall cred xid (sent_call call)
  sound_sent_call cred xid call d s = let few : call.attempts < 4 = s.again d in record { spelled = s.spelled; tried = omega arith; again = λ n. absurd (cc); idle = λ n. absurd (cc); given = λ n. omega arith }

  -- after one more attempt all are as sound as before
  pub sound_sent : (cred : Cred) (low next : ℕ) (es : List (ℕ × Waiting P)) → AreSound cred low next es → AreSound cred low next (sent es)
  sound_sent cred low next [] s = s
  sound_sent cred low next (e ∷ es) s =
      let now = (e.0, sent_call e.1) ∷ es in
      let later = e ∷ sent es in
      let rest = sound_sent cred (e.0 + 1) next es s.2 in
      elim e.1.due as (λ b. e.1.due ≡ b → AreSound cred low next (sent (e ∷ es))) [
        | true ↦ λ d. subst (AreSound cred low next) (sym (if_true e.1.due now later d)) (s.0, sound_sent_call cred e.0 e.1 d s.1, s.2)
        | false ↦ λ d. subst (AreSound cred low next) (sym (if_false e.1.due now later d)) (s.0, s.1, rest)
      ] refl

  pub length-sent : (es : List (ℕ × Waiting P)) → length (sent es) ≡ length es
  length-sent [] = refl
  length-sent (e ∷ es) =
      let now = (e.0, sent_call e.1) ∷ es in
      let later = e ∷ sent es in
      let rest = ap suc (length-sent es) in
      elim e.1.due as (λ b. e.1.due ≡ b → length (sent (e ∷ es)) ≡ suc (length es)) [
        | true ↦ λ d. ap length (if_true e.1.due now later d)
        | false ↦ λ d. ap length (if_false e.1.due now later d) ∙ rest
      ] refl

  pub sound_next : (old : Held P) (new : List (ℕ × Waiting P)) → IsSound old → new ≡ sent old.calls → IsSound (record old { calls = new })
  sound_next old new s is =
      sound_with old new s (subst (AreSound old.cred old.first_xid (next_xid old)) (sym is) (sound_sent old.cred old.first_xid (next_xid old) old.calls s.each))
      (subst (λ l. length l ≤ length old.calls) (sym is) (let same = length-sent old.calls in omega arith))

  -- the calls that wait are other ones, and all else is as it was
  pub ends_as : (inside now : Held P) (new : List (ℕ × Waiting P)) → inside ≡ now → new ≡ sent inside.calls → record inside { calls = new } ≡ record now { calls = sent now.calls }
  ends_as inside now new v e =
      let with_calls : List (ℕ × Waiting P) → Held P = λ l. record inside { calls = l } in
      let with_sent : Held P → Held P = λ h. record h { calls = sent h.calls } in
      ap with_calls e ∙ ap with_sent v

  -- the call that is lent has one more attempt
  pub lent : (inside now : Held P) (xid : ℕ) (call new : Waiting P) → inside ≡ now → first_due inside.calls ≡ Some (xid, call) → new ≡ sent_call call
      → Some new ≡ option_map (λ (e : ℕ × Waiting P). sent_call e.1) (first_due now.calls)
  lent inside now xid call new v f is =
      ap Some is ∙ sym (ap (λ (h : Held P). option_map (λ (e : ℕ × Waiting P). sent_call e.1) (first_due h.calls)) (sym v) ∙ ap (option_map (λ (e : ℕ × Waiting P). sent_call e.1)) f)

  pub none_lent : (inside now : Held P) → inside ≡ now → first_due inside.calls ≡ None → None ≡ option_map (λ (e : ℕ × Waiting P). sent_call e.1) (first_due now.calls)
  none_lent inside now v f =
      sym (ap (λ (h : Held P). option_map (λ (e : ℕ × Waiting P). sent_call e.1) (first_due h.calls)) (sym v) ∙ ap (option_map (λ (e : ℕ × Waiting P). sent_call e.1)) f)

  -- what sending the call at the place of the oldest one that is due does
  pub record Sends (es : List (ℕ × Waiting P)) (at : ℕ) (call : Waiting P) : Type 0 where
    pub xid : ℕ
    pub oldest : first_due es ≡ Some (xid, call)
    pub few : call.attempts < 4
    pub is : set_value_at es at (sent_call call) ≡ sent es
    pub bytes : option_map (λ e. e.1.bytes) (first_due es) ≡ Some call.bytes

  pub sends : (cred : Cred) (low next : ℕ) (es : List (ℕ × Waiting P)) (at : ℕ) (call : Waiting P) → AreSound cred low next es → position is_due (values_of es) ≡ Some at → slice_get (values_of es) at ≡ Some call → Sends es at call
  sends cred low next es at call s p there = by (at_position es at call p)
    where
      by : DueAt es at → Sends es at call
      by d =
          let same : d.call ≡ call = cc in
          let sound = sound_at cred low next es at call s there in
          let due : call.due ≡ true = subst (λ w. w.due ≡ true) same d.due in
          record {
            xid = d.xid;
            oldest = d.first ∙ ap (λ w. Some (d.xid, w)) same;
            few = sound.1.again due;
            is = subst (λ w. set_value_at es at (sent_call w) ≡ sent es) same d.sends;
            bytes = ap (option_map (λ e. e.1.bytes)) d.first ∙ ap (λ w. Some w.bytes) same;
          }
