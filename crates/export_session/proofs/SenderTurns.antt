-- Turns over datagrams.
use Rattle.std.proofs.Common.{◌≡◌, ◌-◌, ℕ, List, [], ◌∷◌, ◌++◌, Option, Some, None, refl, sym, subst, ◌∙◌, append_assoc}
use Rattle.std.proofs.lemmas.List.{append-nil}
use Rattle.outside.specs.declared.datagrams.DatagramEntry.{DatagramEntry}
use Rattle.outside.specs.declared.datagrams.DatagramEntry.TheVariants.{Aimed, Sent, Came}
use Rattle.export_serve.specs.Serving.{StepsOnce}
use Rattle.export_session.specs.declared.next.End.{End}
use Rattle.export_session.specs.declared.next.End.TheVariants.{Served, Lost, Memory}
use Rattle.export_session.specs.declared.next.Next.{Next}
use Rattle.export_session.specs.declared.next.Next.TheVariants.{Wait, Close, Stop}
use Rattle.export_session.specs.Answers.{ServingView, answer_to, serves}
use Rattle.export_session.specs.Goes.{IsCalm, IsCounted}
use Rattle.export_session.specs.Senders.{Turn, stray, answered, unsent, unaimed, at_aiming, at_sending, TurnsTo, SendsAimed, SendsTo, aimed, missed, no_memory, Talks, begins, turns, TalksTo}

-- a turn in which memory doesn't run out
pub turn_goes : (next : Next) (s t : ServingView) (es : List DatagramEntry) → IsCalm next → Turn s t es → TurnsTo next s t es
turn_goes Wait s t es calm p = p
turn_goes Close s t es calm p = p
turn_goes (Stop Served) s t es calm p = p
turn_goes (Stop Lost) s t es calm p = p
turn_goes (Stop Memory) s t es calm p = absurd calm

-- a record that is no call
pub stray_turn : (port : ℕ) (rec : List ℕ) (next : Next) (s u t : ServingView) → answer_to s rec ≡ None → u ≡ serves s rec → t ≡ record u { strays = u.strays - 1 } → IsCalm next → TurnsTo next s t (Came port rec ∷ [])
stray_turn port rec next s u t none is counted calm = turn_goes next s t (Came port rec ∷ []) calm (stray port rec refl none (subst (λ (v : ServingView). t ≡ record v { strays = v.strays - 1 }) is counted))

-- a call, and what sending its answer to where it was aimed comes to
aimed_turn : (port : ℕ) (rec reply : List ℕ) (next : Next) (s u t : ServingView) (es : List DatagramEntry) → answer_to s rec ≡ Some reply → u ≡ serves s rec
    → StepsOnce rec s.service u.service → SendsAimed reply next u t es → TurnsTo next s t (Came port rec ∷ Aimed port ∷ es)
aimed_turn port rec reply Wait s u t es some is steps p =
    answered port rec reply (rw (p.0) refl) some (subst (λ (v : ServingView). t ≡ record v { calls = v.calls - 1 }) is p.1) (rw (p.1) steps)
aimed_turn port rec reply Close s u t es some is steps p = unsent port rec reply (rw (p.0) refl) some (p.1 ∙ is) (rw (p.1) steps)
aimed_turn port rec reply (Stop Served) s u t es some is steps p =
    answered port rec reply (rw (p.0) refl) some (subst (λ (v : ServingView). t ≡ record v { calls = v.calls - 1 }) is p.1) (rw (p.1) steps)
aimed_turn port rec reply (Stop Lost) s u t es some is steps p = absurd p
aimed_turn port rec reply (Stop Memory) s u t es some is steps p = at_sending port rec reply (rw (p.0) refl) some (p.1 ∙ is)

pub answered_turn : (port : ℕ) (rec reply : List ℕ) (next : Next) (s u t : ServingView) (es : List DatagramEntry) → answer_to s rec ≡ Some reply → u ≡ serves s rec
    → StepsOnce rec s.service u.service → SendsTo port reply next u t es → TurnsTo next s t (Came port rec ∷ es)
answered_turn port rec reply next s u t es some is steps (aimed more e p) = rw e (aimed_turn port rec reply next s u t more some is steps p)
answered_turn port rec reply next s u t es some is steps (missed n e p) = rw n (unaimed port rec reply (rw e refl) some (p ∙ is) (rw p steps))
answered_turn port rec reply next s u t es some is steps (no_memory n e p) = rw n (at_aiming port rec reply (rw e refl) some (p ∙ is))

-- what sending comes to, once the reply went out
pub sent_so : (reply : List ℕ) (next : Next) (s t : ServingView) → t ≡ record s { calls = s.calls - 1 } → IsCounted next
    → SendsAimed reply next s t (Sent reply ∷ [])
sent_so reply Wait s t counted on = (refl, counted)
sent_so reply Close s t counted on = absurd on
sent_so reply (Stop Served) s t counted on = (refl, counted)
sent_so reply (Stop Lost) s t counted on = absurd on
sent_so reply (Stop Memory) s t counted on = absurd on

-- the datagram came, and then the rest of its turn
pub came_then : (port : ℕ) (rec : List ℕ) (next : Next) (s t : ServingView) (es fs : List DatagramEntry) → es ≡ Came port rec ∷ [] → TurnsTo next s t (Came port rec ∷ fs)
    → TurnsTo next s t (es ++ fs)
came_then port rec next s t es fs e p = rw e p

-- the port was aimed at, and then the reply was sent
pub aimed_then : (port : ℕ) (reply : List ℕ) (next : Next) (s t : ServingView) (es fs : List DatagramEntry) → es ≡ Aimed port ∷ [] → SendsAimed reply next s t fs
    → SendsTo port reply next s t (es ++ fs)
aimed_then port reply next s t es fs e p = aimed fs (rw e refl) p

-- ---- one after another

pub none_yet : (s : ServingView) → Talks s [] s
none_yet s = begins [] s refl refl

pub one_more : (s u t : ServingView) (es fs : List DatagramEntry) → Talks s es u → Turn u t fs → Talks s (es ++ fs) t
one_more s u t es fs p q = turns (es ++ fs) es fs u t refl p q

pub last_turn : (end : End) (s u t : ServingView) (es fs : List DatagramEntry) → Talks s es u → TurnsTo (Stop end) u t fs → TalksTo (Some end) s t (es ++ fs)
last_turn Served s u t es fs p q = one_more s u t es fs p q
last_turn Lost s u t es fs p q = one_more s u t es fs p q
last_turn Memory s u t es fs p q = record { before = es; last = fs; between = u; is = refl; talks = p; out = q }

-- ---- talks that follow each other

pub talks_then : (s u t : ServingView) (es fs : List DatagramEntry) → Talks s es u → Talks u fs t → Talks s (es ++ fs) t
talks_then s u t es fs p (begins _ _ e q) = rw (e, append-nil es, q) p
talks_then s u t es fs p (turns _ before last v _ e q l) =
    turns (es ++ fs) (es ++ before) last v t (rw e (sym (append_assoc es before last))) (talks_then s u v es before p q) l

pub talks_to_then : (result : Option End) (s u t : ServingView) (es fs : List DatagramEntry) → Talks s es u → TalksTo result u t fs → TalksTo result s t (es ++ fs)
talks_to_then None s u t es fs p q = talks_then s u t es fs p q
talks_to_then (Some Served) s u t es fs p q = talks_then s u t es fs p q
talks_to_then (Some Lost) s u t es fs p q = talks_then s u t es fs p q
talks_to_then (Some Memory) s u t es fs p q = record {
  before = es ++ q.before;
  last = q.last;
  between = q.between;
  is = rw (q.is) (sym (append_assoc es q.before q.last));
  talks = talks_then s u q.between es q.before p q.talks;
  out = q.out;
}
