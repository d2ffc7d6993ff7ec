-- Turns over a link.
use Rattle.std.proofs.Common.{◌≡◌, ◌-◌, ℕ, List, [], ◌∷◌, ◌++◌, Some, None, refl, subst, ◌∙◌}
use Rattle.world_model.specs.declared.entry.Entry.{Entry}
use Rattle.world_model.specs.declared.entry.Entry.TheVariants.{Sent, Delivered}
use Rattle.export_serve.specs.Serving.{StepsOnce}
use Rattle.export_session.specs.declared.next.End.{End}
use Rattle.export_session.specs.declared.next.End.TheVariants.{Served, Lost, Memory}
use Rattle.export_session.specs.declared.next.Next.{Next}
use Rattle.export_session.specs.declared.next.Next.TheVariants.{Wait, Close, Stop}
use Rattle.export_session.specs.Answers.{ServingView, answer_to, serves}
use Rattle.export_session.specs.Goes.{IsCalm, IsCounted, GoesOnAs}
use Rattle.export_session.specs.Talk.{Turn, stray, answered, unsent, at_sending, TurnsTo, Sends, Talks, begins, turns, TalksTo}

-- a turn in which memory doesn't run out
pub turn_goes : (next : Next) (s t : ServingView) (es : List Entry) → IsCalm next → Turn s t es → TurnsTo next s t es
turn_goes Wait s t es calm p = p
turn_goes Close s t es calm p = p
turn_goes (Stop Served) s t es calm p = p
turn_goes (Stop Lost) s t es calm p = p
turn_goes (Stop Memory) s t es calm p = absurd calm

-- a record that is no call
pub stray_turn : (rec : List ℕ) (next : Next) (s u t : ServingView) → answer_to s rec ≡ None → u ≡ serves s rec → t ≡ record u { strays = u.strays - 1 } → IsCalm next → TurnsTo next s t (Delivered rec ∷ [])
stray_turn rec next s u t none is counted calm = turn_goes next s t (Delivered rec ∷ []) calm (stray rec refl none (subst (λ (v : ServingView). t ≡ record v { strays = v.strays - 1 }) is counted))

-- a call, and what sending its answer comes to
pub answered_turn : (rec reply : List ℕ) (next : Next) (s u t : ServingView) (es : List Entry) → answer_to s rec ≡ Some reply → u ≡ serves s rec → StepsOnce rec s.service u.service
    → Sends reply next u t es → TurnsTo next s t (Delivered rec ∷ es)
answered_turn rec reply Wait s u t es some is steps p = answered rec reply (rw (p.0) refl) some (subst (λ (v : ServingView). t ≡ record v { calls = v.calls - 1 }) is p.1) (rw (p.1) steps)
answered_turn rec reply Close s u t es some is steps p = unsent rec reply (rw (p.0) refl) some (p.1 ∙ is) (rw (p.1) steps)
answered_turn rec reply (Stop Served) s u t es some is steps p = answered rec reply (rw (p.0) refl) some (subst (λ (v : ServingView). t ≡ record v { calls = v.calls - 1 }) is p.1) (rw (p.1) steps)
answered_turn rec reply (Stop Lost) s u t es some is steps p = absurd p
answered_turn rec reply (Stop Memory) s u t es some is steps p = at_sending rec reply (rw (p.0) refl) some (p.1 ∙ is)

-- what sending comes to, once the reply went out
pub sent_so : (reply : List ℕ) (next : Next) (s t : ServingView) → t ≡ record s { calls = s.calls - 1 } → IsCounted next → Sends reply next s t (Sent reply ∷ [])
sent_so reply Wait s t counted on = (refl, counted)
sent_so reply Close s t counted on = absurd on
sent_so reply (Stop Served) s t counted on = (refl, counted)
sent_so reply (Stop Lost) s t counted on = absurd on
sent_so reply (Stop Memory) s t counted on = absurd on

-- no more may be waited for
pub closes : (next result : Next) (s t : ServingView) (es : List Entry) → GoesOnAs next result → TurnsTo next s t es → TurnsTo result s t es
closes Wait Wait s t es g p = p
closes Wait Close s t es g p = p
closes Wait (Stop end) s t es g p = absurd g
closes Close result s t es g p = rw g p
closes (Stop end) result s t es g p = rw g p

pub stops_so : (next result : Next) (end : End) → GoesOnAs next result → result ≡ Stop end → next ≡ Stop end
stops_so Wait Wait end g e = absurd cc
stops_so Wait Close end g e = absurd cc
stops_so Wait (Stop other) end g e = absurd g
stops_so Close result end g e = absurd cc
stops_so (Stop other) result end g e = cc

-- the record came, and then the rest of its turn
pub came_then : (rec : List ℕ) (next : Next) (s t : ServingView) (es fs : List Entry) → es ≡ Delivered rec ∷ [] → TurnsTo next s t (Delivered rec ∷ fs)
    → TurnsTo next s t (es ++ fs)
came_then rec next s t es fs e p = rw e p

-- ---- one after another

pub none_yet : (s : ServingView) → Talks s [] s
none_yet s = begins [] s refl refl

pub one_more : (s u t : ServingView) (es fs : List Entry) → Talks s es u → Turn u t fs → Talks s (es ++ fs) t
one_more s u t es fs p q = turns (es ++ fs) es fs u t refl p q

pub last_turn : (end : End) (s u t : ServingView) (es fs : List Entry) → Talks s es u → TurnsTo (Stop end) u t fs → TalksTo (Some end) s t (es ++ fs)
last_turn Served s u t es fs p q = one_more s u t es fs p q
last_turn Lost s u t es fs p q = one_more s u t es fs p q
last_turn Memory s u t es fs p q = record { before = es; last = fs; between = u; is = refl; talks = p; out = q }
