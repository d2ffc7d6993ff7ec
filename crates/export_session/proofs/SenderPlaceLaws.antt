-- Each datagram that was sent is an answer, and goes to the port that the record came from.
use Rattle.std.proofs.Common.{inl, inr, ◌≡◌, ℕ, zero, suc, List, [], ◌∷◌, ◌++◌, length, Some, slice_get, refl, sym, subst, arith}
use Rattle.outside.specs.declared.datagrams.DatagramEntry.{DatagramEntry}
use Rattle.outside.specs.declared.datagrams.DatagramEntry.TheVariants.{Aimed, Sent, Came, Missed}
use Rattle.export_session.specs.Answers.{ServingView, answer_to}
use Rattle.export_session.specs.Senders.{Turn, silent, stray, answered, unsent, unaimed, Talks, begins, turns}
use Rattle.export_session.specs.Places.{IsAnswerTo, AnswersAllTo}
use Rattle.export_session.proofs.Lists.{Behind, get_cases, get_grow, get_front, get_next, take_grow, take_front}

answer_grow : (s : ServingView) (es fs : List DatagramEntry) (n : ℕ) (bytes : List ℕ) → IsAnswerTo s es n bytes → IsAnswerTo s (es ++ fs) n bytes
answer_grow s es fs n bytes a = record {
  at = a.at;
  port = a.port;
  rec = a.rec;
  next = a.next;
  came = get_grow es fs a.at (Came a.port a.rec) a.came;
  aimed = get_grow es fs (suc a.at) (Aimed a.port) a.aimed;
  then_served = a.then_served;
  so_far = subst (λ (t : List DatagramEntry). Talks s t a.then_served) (sym (take_grow es fs a.at (Came a.port a.rec) a.came)) a.so_far;
  is = a.is;
}

answer_here : (s u : ServingView) (before more : List DatagramEntry) (n port : ℕ) (rec bytes : List ℕ) → Talks s before u → n ≡ suc (suc (length before))
    → answer_to u rec ≡ Some bytes → IsAnswerTo s (before ++ Came port rec ∷ Aimed port ∷ more) n bytes
answer_here s u before more n port rec bytes talks place is = record {
  at = length before;
  port = port;
  rec = rec;
  next = place;
  came = get_front before (Came port rec) (Aimed port ∷ more);
  aimed = get_next before (Came port rec) (Aimed port) more;
  then_served = u;
  so_far = subst (λ (t : List DatagramEntry). Talks s t u) (sym (take_front before (Came port rec ∷ Aimed port ∷ more))) talks;
  is = is;
}

in_missed : (at : ℕ) (bytes : List ℕ) → slice_get (Missed ∷ []) at ≡ Some (Sent bytes) → ⊥
in_missed zero bytes e = absurd cc
in_missed (suc n) bytes e = absurd cc

in_stray : (at port : ℕ) (rec bytes : List ℕ) → slice_get (Came port rec ∷ []) at ≡ Some (Sent bytes) → ⊥
in_stray zero port rec bytes e = absurd cc
in_stray (suc n) port rec bytes e = absurd cc

in_unaimed : (at port : ℕ) (rec bytes : List ℕ) → slice_get (Came port rec ∷ Aimed port ∷ []) at ≡ Some (Sent bytes) → ⊥
in_unaimed zero port rec bytes e = absurd cc
in_unaimed (suc zero) port rec bytes e = absurd cc
in_unaimed (suc (suc n)) port rec bytes e = absurd cc

in_unsent : (at port : ℕ) (rec bytes : List ℕ) → slice_get (Came port rec ∷ Aimed port ∷ Missed ∷ []) at ≡ Some (Sent bytes) → ⊥
in_unsent zero port rec bytes e = absurd cc
in_unsent (suc zero) port rec bytes e = absurd cc
in_unsent (suc (suc zero)) port rec bytes e = absurd cc
in_unsent (suc (suc (suc n))) port rec bytes e = absurd cc

-- the third of a turn's entries
pub record IsThird (at : ℕ) (reply bytes : List ℕ) : Type 0 where
  pub third : at ≡ 2
  pub same : reply ≡ bytes

in_answered : (at port : ℕ) (rec reply bytes : List ℕ) → slice_get (Came port rec ∷ Aimed port ∷ Sent reply ∷ []) at ≡ Some (Sent bytes) → IsThird at reply bytes
in_answered zero port rec reply bytes e = absurd cc
in_answered (suc zero) port rec reply bytes e = absurd cc
in_answered (suc (suc zero)) port rec reply bytes e = record { third = refl; same = cc }
in_answered (suc (suc (suc n))) port rec reply bytes e = absurd cc

answer_last : (s u t : ServingView) (before last : List DatagramEntry) (n : ℕ) (bytes : List ℕ) → Talks s before u → Turn u t last → Behind before last n (Sent bytes)
    → IsAnswerTo s (before ++ last) n bytes
answer_last s u t before last n bytes talks (silent e same) b = absurd (in_missed b.at bytes (rw e at b.is))
answer_last s u t before last n bytes talks (stray port rec e none same) b = absurd (in_stray b.at port rec bytes (rw e at b.is))
answer_last s u t before last n bytes talks (answered port rec reply e some same steps) b =
    let i = in_answered b.at port rec reply bytes (rw e at b.is) in
    let three = i.third in
    let place = b.place in
    rw e (answer_here s u before (Sent reply ∷ []) n port rec bytes talks (omega (arith, place, three)) (rw i.same at some))
answer_last s u t before last n bytes talks (unsent port rec reply e some same steps) b = absurd (in_unsent b.at port rec bytes (rw e at b.is))
answer_last s u t before last n bytes talks (unaimed port rec reply e some same steps) b = absurd (in_unaimed b.at port rec bytes (rw e at b.is))

nothing_in : (n : ℕ) (bytes : List ℕ) → slice_get [] n ≡ Some (Sent bytes) → ⊥
nothing_in n bytes e = absurd cc

pub answers_all_to : (s t : ServingView) (es : List DatagramEntry) → Talks s es t → AnswersAllTo s es
answers_all_to s t es (begins _ _ e same) n bytes at = absurd (nothing_in n bytes (rw e at at))
answers_all_to s t es (turns _ before last u _ e talks turn) n bytes at = rw e (elim (get_cases before last n (Sent bytes) (rw e at at)) [
  | inl there ↦ answer_grow s before last n bytes (answers_all_to s u before talks n bytes there)
  | inr behind ↦ answer_last s u t before last n bytes talks turn behind
])
