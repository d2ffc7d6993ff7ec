-- Each record that was sent is an answer.
use Rattle.std.proofs.Common.{inl, inr, ◌≡◌, ℕ, zero, suc, List, [], ◌∷◌, ◌++◌, length, Some, slice_get, refl, sym, subst, arith}
use Rattle.world_model.specs.declared.entry.Entry.{Entry}
use Rattle.world_model.specs.declared.entry.Entry.TheVariants.{Sent, Delivered, Failed}
use Rattle.export_session.specs.Answers.{ServingView, answer_to}
use Rattle.export_session.specs.Talk.{Turn, silent, stray, answered, unsent, Talks, begins, turns}
use Rattle.export_session.specs.Places.{IsAnswer, AnswersAll}
use Rattle.export_session.proofs.Lists.{Behind, get_cases, get_grow, get_front, take_grow, take_front}

answer_grow : (s : ServingView) (es fs : List Entry) (n : ℕ) (bytes : List ℕ) → IsAnswer s es n bytes → IsAnswer s (es ++ fs) n bytes
answer_grow s es fs n bytes a = record {
  at = a.at;
  rec = a.rec;
  next = a.next;
  came = get_grow es fs a.at (Delivered a.rec) a.came;
  then_served = a.then_served;
  so_far = subst (λ (t : List Entry). Talks s t a.then_served) (sym (take_grow es fs a.at (Delivered a.rec) a.came)) a.so_far;
  is = a.is;
}

answer_here : (s u : ServingView) (before more : List Entry) (n : ℕ) (rec bytes : List ℕ) → Talks s before u → n ≡ suc (length before) → answer_to u rec ≡ Some bytes
    → IsAnswer s (before ++ Delivered rec ∷ more) n bytes
answer_here s u before more n rec bytes talks place is = record {
  at = length before;
  rec = rec;
  next = place;
  came = get_front before (Delivered rec) more;
  then_served = u;
  so_far = subst (λ (t : List Entry). Talks s t u) (sym (take_front before (Delivered rec ∷ more))) talks;
  is = is;
}

in_failed : (at : ℕ) (bytes : List ℕ) → slice_get (Failed ∷ []) at ≡ Some (Sent bytes) → ⊥
in_failed zero bytes e = absurd cc
in_failed (suc n) bytes e = absurd cc

in_stray : (at : ℕ) (rec bytes : List ℕ) → slice_get (Delivered rec ∷ []) at ≡ Some (Sent bytes) → ⊥
in_stray zero rec bytes e = absurd cc
in_stray (suc n) rec bytes e = absurd cc

-- the second of a turn's entries
pub record IsSecond (at : ℕ) (reply bytes : List ℕ) : Type 0 where
  pub second : at ≡ 1
  pub same : reply ≡ bytes

in_answered : (at : ℕ) (rec reply bytes : List ℕ) → slice_get (Delivered rec ∷ Sent reply ∷ []) at ≡ Some (Sent bytes) → IsSecond at reply bytes
in_answered zero rec reply bytes e = absurd cc
in_answered (suc zero) rec reply bytes e = record { second = refl; same = cc }
in_answered (suc (suc n)) rec reply bytes e = absurd cc

in_unsent : (at : ℕ) (rec reply bytes : List ℕ) → slice_get (Delivered rec ∷ Sent reply ∷ Failed ∷ []) at ≡ Some (Sent bytes) → IsSecond at reply bytes
in_unsent zero rec reply bytes e = absurd cc
in_unsent (suc zero) rec reply bytes e = record { second = refl; same = cc }
in_unsent (suc (suc zero)) rec reply bytes e = absurd cc
in_unsent (suc (suc (suc n))) rec reply bytes e = absurd cc

answer_last : (s u t : ServingView) (before last : List Entry) (n : ℕ) (bytes : List ℕ) → Talks s before u → Turn u t last → Behind before last n (Sent bytes)
    → IsAnswer s (before ++ last) n bytes
answer_last s u t before last n bytes talks (silent e same) b = absurd (in_failed b.at bytes (rw e at b.is))
answer_last s u t before last n bytes talks (stray rec e none same) b = absurd (in_stray b.at rec bytes (rw e at b.is))
answer_last s u t before last n bytes talks (answered rec reply e some same steps) b =
    let i = in_answered b.at rec reply bytes (rw e at b.is) in
    let two = i.second in
    let place = b.place in
    rw e (answer_here s u before (Sent reply ∷ []) n rec bytes talks (omega (arith, place, two)) (rw i.same at some))
answer_last s u t before last n bytes talks (unsent rec reply e some same steps) b =
    let i = in_unsent b.at rec reply bytes (rw e at b.is) in
    let two = i.second in
    let place = b.place in
    rw e (answer_here s u before (Sent reply ∷ Failed ∷ []) n rec bytes talks (omega (arith, place, two)) (rw i.same at some))

nothing_in : (n : ℕ) (bytes : List ℕ) → slice_get [] n ≡ Some (Sent bytes) → ⊥
nothing_in n bytes e = absurd cc

pub answers_all : (s t : ServingView) (es : List Entry) → Talks s es t → AnswersAll s es
answers_all s t es (begins _ _ e same) n bytes at = absurd (nothing_in n bytes (rw e at at))
answers_all s t es (turns _ before last u _ e talks turn) n bytes at = rw e (elim (get_cases before last n (Sent bytes) (rw e at at)) [
  | inl there ↦ answer_grow s before last n bytes (answers_all s u before talks n bytes there)
  | inr behind ↦ answer_last s u t before last n bytes talks turn behind
])
