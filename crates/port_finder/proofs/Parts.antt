-- What the parts of a call add: nothing but its record and dials of the port, few of each, and no reply before the last.
use Rattle.std.proofs.Common.{inl, inr, ◌≡◌, ◌≤◌, ◌<◌, ◌+◌, ℕ, zero, suc, List, [], ◌∷◌, ◌++◌, Result, Ok, Err, refl, sym, ap, subst, ◌∙◌, append_assoc, arith}
use Rattle.std.proofs.lemmas.List.{append-nil}
use Rattle.world_model.specs.declared.entry.Entry.{Entry}
use Rattle.world_model.specs.declared.entry.Entry.TheVariants.{Dialed, Sent, Delivered, Failed}
use Rattle.world_model.specs.Messages.{HasXid}
use Rattle.port_finder.specs.declared.halt.Halt.{Halt}
use Rattle.port_finder.specs.declared.halt.Halt.TheVariants as halts
use Rattle.port_finder.specs.declared.halt.Miss.{Miss}
use Rattle.port_finder.specs.declared.halt.Miss.TheVariants as misses
use Rattle.port_finder.specs.Talk.{failed_dials, came, AreOthers, Connects, Dials, Redials, Drops, DropsMany, Listens, After, Attempts, Retries, Retried, unretried, retried_once, LastlyAttempts, LastlyDials, Loses, given_up, undialed, flooded, Wants, attempting, dialing, Exchanges}
use Rattle.port_finder.specs.Found.{IsFor, AreFor, one_sent, sendings, run_of, run_after, RunsFit, IsSentElse, NoneSent, CameElse, NoneCame, Calls}

-- ---- lists that are joined

pub for_then : (port : ℕ) (call : List ℕ) (xs ys : List Entry) → AreFor port call xs → AreFor port call ys → AreFor port call (xs ++ ys)
for_then port call [] ys p q = q
for_then port call (x ∷ xs) ys p q = (p.0, for_then port call xs ys p.1 q)

pub none_sent_then : (xid : ℕ) (xs ys : List Entry) → NoneSent xid xs → NoneSent xid ys → NoneSent xid (xs ++ ys)
none_sent_then xid [] ys p q = q
none_sent_then xid (x ∷ xs) ys p q = (p.0, none_sent_then xid xs ys p.1 q)

pub none_came_then : (xid : ℕ) (xs ys : List Entry) → NoneCame xid xs → NoneCame xid ys → NoneCame xid (xs ++ ys)
none_came_then xid [] ys p q = q
none_came_then xid (x ∷ xs) ys p q = (p.0, none_came_then xid xs ys p.1 q)

pub sendings_then : (xs ys : List Entry) → sendings (xs ++ ys) ≡ sendings xs + sendings ys
sendings_then [] ys = omega arith
sendings_then (x ∷ xs) ys = omega (arith, sendings_then xs ys)

pub run_then : (xs ys : List Entry) (n : ℕ) → run_after (xs ++ ys) n ≡ run_after ys (run_after xs n)
run_then [] ys n = refl
run_then (x ∷ xs) ys n = run_then xs ys (run_of x n)

pub runs_then : (xs ys : List Entry) (n : ℕ) → RunsFit xs n → RunsFit ys (run_after xs n) → RunsFit (xs ++ ys) n
runs_then [] ys n p q = q
runs_then (x ∷ xs) ys n p q = (p.0, runs_then xs ys (run_of x n) p.1 q)

-- ---- what holds of a part, from any run of dials that fits

pub record Part (port : ℕ) (call : List ℕ) (n : ℕ) (es : List Entry) : Type 0 where
  pub for_it : AreFor port call es
  pub sent : sendings es ≤ n
  pub runs : (k : ℕ) → k ≤ 4 → RunsFit es k
  pub left : (k : ℕ) → k ≤ 4 → run_after es k ≤ 4

pub part_then : (port : ℕ) (call : List ℕ) (n m : ℕ) (xs ys : List Entry) → Part port call n xs → Part port call m ys → Part port call (n + m) (xs ++ ys)
part_then port call n m xs ys p q = record {
  for_it = for_then port call xs ys p.for_it q.for_it;
  sent = omega (arith, sendings_then xs ys, p.sent, q.sent);
  runs = λ k le. runs_then xs ys k (p.runs k le) (q.runs (run_after xs k) (p.left k le));
  left = λ k le. rw (run_then xs ys k) (q.left (run_after xs k) (p.left k le));
}

pub part_more : (port : ℕ) (call : List ℕ) (n m : ℕ) (es : List Entry) → n ≤ m → Part port call n es → Part port call m es
part_more port call n m es le p = record { for_it = p.for_it; sent = omega (arith, p.sent, le); runs = p.runs; left = p.left }

part_none : (port : ℕ) (call : List ℕ) (n : ℕ) → Part port call n []
part_none port call n = record { for_it = tt; sent = omega arith; runs = λ k le. tt; left = λ k le. le }

-- ---- dials

dials_for : (port : ℕ) (call : List ℕ) (n : ℕ) → AreFor port call (failed_dials port n)
dials_for port call zero = tt
dials_for port call (suc n) = (refl, (tt, dials_for port call n))

pub dials_more : (port n : ℕ) → failed_dials port (suc n) ≡ failed_dials port n ++ (Dialed port ∷ Failed ∷ [])
dials_more port zero = refl
dials_more port (suc n) = ap (λ (t : List Entry). Dialed port ∷ Failed ∷ t) (dials_more port n)

dials_sent : (port n : ℕ) → sendings (failed_dials port n) ≡ 0
dials_sent port zero = refl
dials_sent port (suc n) = omega (arith, dials_sent port n)

dials_after : (port n k : ℕ) → run_after (failed_dials port n) k ≡ k + n
dials_after port zero k = omega arith
dials_after port (suc n) k = omega (arith, dials_after port n (suc k))

dials_fit : (port n k : ℕ) → k + n ≤ 4 → RunsFit (failed_dials port n) k
dials_fit port zero k le = tt
dials_fit port (suc n) k le = (omega (arith, le), (omega (arith, le), dials_fit port n (suc k) (omega (arith, le))))

dials_came : (xid port n : ℕ) → NoneCame xid (failed_dials port n)
dials_came xid port zero = tt
dials_came xid port (suc n) = (tt, (tt, dials_came xid port n))

dials_none : (xid port n : ℕ) → NoneSent xid (failed_dials port n)
dials_none xid port zero = tt
dials_none xid port (suc n) = (tt, (tt, dials_none xid port n))

-- what holds of dials that begin a run
pub record Dialing (port : ℕ) (call : List ℕ) (es : List Entry) : Type 0 where
  pub for_it : AreFor port call es
  pub sent : sendings es ≡ 0
  pub runs : RunsFit es 0
  pub left : run_after es 0 ≤ 4
  pub none : (xid : ℕ) → NoneSent xid es
  pub came : (xid : ℕ) → NoneCame xid es

pub failing : (port : ℕ) (call : List ℕ) (n : ℕ) → n ≤ 4 → Dialing port call (failed_dials port n)
failing port call n le = record {
  for_it = dials_for port call n;
  sent = dials_sent port n;
  runs = dials_fit port n 0 (omega (arith, le));
  left = omega (arith, dials_after port n 0, le);
  none = λ xid. dials_none xid port n;
  came = λ xid. dials_came xid port n;
}

pub connecting : (port : ℕ) (call : List ℕ) (es : List Entry) → Connects port es → Dialing port call es
connecting port call es c = rw (c.is) (record {
  for_it = for_then port call (failed_dials port c.failed) (Dialed port ∷ []) (dials_for port call c.failed) (refl, tt);
  sent = omega (arith, sendings_then (failed_dials port c.failed) (Dialed port ∷ []), dials_sent port c.failed);
  runs = runs_then (failed_dials port c.failed) (Dialed port ∷ []) 0 (dials_fit port c.failed 0 (omega (arith, c.few))) (omega (arith, dials_after port c.failed 0, c.few), tt);
  left = omega (arith, run_then (failed_dials port c.failed) (Dialed port ∷ []) 0, dials_after port c.failed 0, c.few);
  none = λ xid. none_sent_then xid (failed_dials port c.failed) (Dialed port ∷ []) (dials_none xid port c.failed) (tt, tt);
  came = λ xid. none_came_then xid (failed_dials port c.failed) (Dialed port ∷ []) (dials_came xid port c.failed) (tt, tt);
})

pub dialing_of : (port : ℕ) (call : List ℕ) (r : Result (Unit {0}) Halt) (es : List Entry) → Dials port r es → Dialing port call es
dialing_of port call (Ok u) es d = connecting port call es d
dialing_of port call (Err halts.Lost) es d = rw d (failing port call 4 (omega arith))
dialing_of port call (Err halts.Memory) es d = rw (d.2) (failing port call d.0 (let l = d.1 in omega (arith, l)))

no_dials : (port : ℕ) (call : List ℕ) → Dialing port call []
no_dials port call = record { for_it = tt; sent = refl; runs = tt; left = omega arith; none = λ xid. tt; came = λ xid. tt }

redialing : (port : ℕ) (call : List ℕ) (es : List Entry) → Redials port es → Dialing port call es
redialing port call es d = elim d [
  | inl none ↦ rw none (no_dials port call)
  | inr c ↦ connecting port call es c
]

-- ---- records that came

came_for : (port : ℕ) (call : List ℕ) (recs : List (List ℕ)) → AreFor port call (came recs)
came_for port call [] = tt
came_for port call (rec ∷ recs) = (tt, came_for port call recs)

came_sent : (recs : List (List ℕ)) → sendings (came recs) ≡ 0
came_sent [] = refl
came_sent (rec ∷ recs) = omega (arith, came_sent recs)

came_fit : (recs : List (List ℕ)) → RunsFit (came recs) 0
came_fit [] = tt
came_fit (rec ∷ recs) = (omega arith, came_fit recs)

came_after : (recs : List (List ℕ)) → run_after (came recs) 0 ≡ 0
came_after [] = refl
came_after (rec ∷ recs) = came_after recs

came_none : (xid : ℕ) (recs : List (List ℕ)) → AreOthers xid recs → NoneCame xid (came recs)
came_none xid [] p = tt
came_none xid (rec ∷ recs) p = (p.0, came_none xid recs p.1)

pub came_more : (recs : List (List ℕ)) (rec : List ℕ) → came (recs ++ rec ∷ []) ≡ came recs ++ Delivered rec ∷ []
came_more [] rec = refl
came_more (x ∷ recs) rec = ap (λ (t : List Entry). Delivered x ∷ t) (came_more recs rec)

pub others_more : (xid : ℕ) (recs : List (List ℕ)) (rec : List ℕ) → AreOthers xid recs → (HasXid rec xid → ⊥) → AreOthers xid (recs ++ rec ∷ [])
others_more xid [] rec p lacks = (lacks, tt)
others_more xid (x ∷ recs) rec p lacks = (p.0, others_more xid recs rec p.1 lacks)

-- ---- an attempt: its record, records that don't answer it, and one entry more or none

-- the last entry of an attempt
pub data IsLast : List Entry → Type 0 where
  ends_open : (es : List Entry) → es ≡ [] → IsLast es
  ends_failed : (es : List Entry) → es ≡ Failed ∷ [] → IsLast es
  ends_got : (es : List Entry) (rec : List ℕ) → es ≡ Delivered rec ∷ [] → IsLast es

last_for : (port : ℕ) (call : List ℕ) (es : List Entry) → IsLast es → AreFor port call es
last_for port call es (ends_open _ e) = rw e tt
last_for port call es (ends_failed _ e) = rw e (tt, tt)
last_for port call es (ends_got _ rec e) = rw e (tt, tt)

last_sent : (es : List Entry) → IsLast es → sendings es ≡ 0
last_sent es (ends_open _ e) = rw e refl
last_sent es (ends_failed _ e) = rw e refl
last_sent es (ends_got _ rec e) = rw e refl

last_fit : (es : List Entry) → IsLast es → RunsFit es 0
last_fit es (ends_open _ e) = rw e tt
last_fit es (ends_failed _ e) = rw e (omega arith, tt)
last_fit es (ends_got _ rec e) = rw e (omega arith, tt)

last_after : (es : List Entry) → IsLast es → run_after es 0 ≡ 0
last_after es (ends_open _ e) = rw e refl
last_after es (ends_failed _ e) = rw e refl
last_after es (ends_got _ rec e) = rw e refl

-- what an attempt looks like
pub record Shape (xid : ℕ) (call : List ℕ) (last es : List Entry) : Type 0 where
  pub dropped : List (List ℕ)
  pub others : AreOthers xid dropped
  pub is : es ≡ Sent call ∷ (came dropped ++ last)
  pub ends : IsLast last

pub shape_part : (port xid : ℕ) (call : List ℕ) (last es : List Entry) → Shape xid call last es → Part port call 1 es
shape_part port xid call last es s =
    let tail : List Entry = came s.dropped ++ last in
    let fit : RunsFit tail 0 = runs_then (came s.dropped) last 0 (came_fit s.dropped) (rw (came_after s.dropped) (last_fit last s.ends)) in
    let after : run_after tail 0 ≡ 0 = run_then (came s.dropped) last 0 ∙ ap (run_after last) (came_after s.dropped) ∙ last_after last s.ends in
    rw (s.is) (record {
      for_it = (refl, for_then port call (came s.dropped) last (came_for port call s.dropped) (last_for port call last s.ends));
      sent = omega (arith, sendings_then (came s.dropped) last, came_sent s.dropped, last_sent last s.ends);
      runs = λ k le. (omega arith, fit);
      left = λ k le. omega (arith, after);
    })

-- after an attempt a run of dials begins anew
pub shape_left : (xid : ℕ) (call : List ℕ) (last es : List Entry) (k : ℕ) → Shape xid call last es → run_after es k ≡ 0
shape_left xid call last es k s = rw (s.is) (run_then (came s.dropped) last 0 ∙ ap (run_after last) (came_after s.dropped) ∙ last_after last s.ends)

pub shape_none : (xid : ℕ) (call : List ℕ) (last es : List Entry) → NoneCame xid last → Shape xid call last es → NoneCame xid es
shape_none xid call last es none s = rw (s.is) (tt, none_came_then xid (came s.dropped) last (came_none xid s.dropped s.others) none)

pub shape_failed : (xid : ℕ) (call : List ℕ) (es : List Entry) → Attempts xid call (Err misses.Failed) es → Shape xid call (Failed ∷ []) es
shape_failed xid call es a = record { dropped = a.so.dropped; others = a.so.others; is = a.is ∙ ap (λ (t : List Entry). Sent call ∷ t) a.so.is; ends = ends_failed (Failed ∷ []) refl }

pub shape_got : (xid : ℕ) (call rec : List ℕ) (es : List Entry) → Attempts xid call (Ok rec) es → Shape xid call (Delivered rec ∷ []) es
shape_got xid call rec es a = record { dropped = a.so.1.dropped; others = a.so.1.others; is = a.is ∙ ap (λ (t : List Entry). Sent call ∷ t) a.so.1.is; ends = ends_got (Delivered rec ∷ []) rec refl }

pub shape_flooded : (xid : ℕ) (call : List ℕ) (es : List Entry) → Attempts xid call (Err misses.Flooded) es → Shape xid call [] es
shape_flooded xid call es a = record { dropped = a.so.dropped; others = a.so.others; is = a.is ∙ ap (λ (t : List Entry). Sent call ∷ t) (a.so.is ∙ sym (append-nil (came a.so.dropped))); ends = ends_open [] refl }

shape_wants : (xid : ℕ) (call : List ℕ) (es : List Entry) → After call (Listens xid (Err misses.Memory)) es → Shape xid call [] es
shape_wants xid call es a = record { dropped = a.so.dropped; others = a.so.others; is = a.is ∙ ap (λ (t : List Entry). Sent call ∷ t) a.so.is; ends = ends_open [] refl }

pub attempt_part : (port xid : ℕ) (call : List ℕ) (r : Result (List ℕ) Miss) (es : List Entry) → Attempts xid call r es → Part port call 1 es
attempt_part port xid call (Ok rec) es a = shape_part port xid call (Delivered rec ∷ []) es (shape_got xid call rec es a)
attempt_part port xid call (Err misses.Failed) es a = shape_part port xid call (Failed ∷ []) es (shape_failed xid call es a)
attempt_part port xid call (Err misses.Silent) es a = shape_part port xid call (Failed ∷ []) es (shape_failed xid call es a)
attempt_part port xid call (Err misses.Flooded) es a = shape_part port xid call [] es (shape_flooded xid call es a)
attempt_part port xid call (Err misses.Memory) es a = elim a [
  | inl e ↦ rw e (part_none port call 1)
  | inr s ↦ shape_part port xid call [] es (shape_wants xid call es s)
]

-- ---- attempts that failed, each with the dial after it

-- an attempt that failed, and dials
pub attempt_dials : (port xid : ℕ) (call : List ℕ) (first second : List Entry) → Attempts xid call (Err misses.Failed) first → Dialing port call second → Part port call 1 (first ++ second)
attempt_dials port xid call first second a d =
    let s = shape_failed xid call first a in
    let p = attempt_part port xid call (Err misses.Failed) first a in
    record {
      for_it = for_then port call first second p.for_it d.for_it;
      sent = omega (arith, sendings_then first second, p.sent, d.sent);
      runs = λ k le. runs_then first second k (p.runs k le) (rw (shape_left xid call (Failed ∷ []) first k s) d.runs);
      left = λ k le. rw (run_then first second k, shape_left xid call (Failed ∷ []) first k s) d.left;
    }

pub retries_part : (port xid : ℕ) (call : List ℕ) (es : List Entry) → Retries port xid call es → Part port call 1 es
retries_part port xid call es r = rw (r.is) (attempt_dials port xid call r.first r.second r.attempt (redialing port call r.second r.dial))

pub retries_none : (port xid : ℕ) (call : List ℕ) (es : List Entry) → Retries port xid call es → NoneCame xid es
retries_none port xid call es r = rw (r.is) (none_came_then xid r.first r.second (shape_none xid call (Failed ∷ []) r.first (tt, tt) (shape_failed xid call r.first r.attempt)) ((redialing port call r.second r.dial).came xid))

pub retried_part : (port xid : ℕ) (call : List ℕ) (n : ℕ) (es : List Entry) → Retried port xid call n es → Part port call n es
retried_part port xid call n es (unretried _ _ e f) = rw f (part_none port call n)
retried_part port xid call n es (retried_once _ m _ before last e f r l) =
    rw f (part_more port call (m + 1) n (before ++ last) (omega (arith, e)) (part_then port call m 1 before last (retried_part port xid call m before r) (retries_part port xid call last l)))

pub retried_none : (port xid : ℕ) (call : List ℕ) (n : ℕ) (es : List Entry) → Retried port xid call n es → NoneCame xid es
retried_none port xid call n es (unretried _ _ e f) = rw f tt
retried_none port xid call n es (retried_once _ m _ before last e f r l) = rw f (none_came_then xid before last (retried_none port xid call m before r) (retries_none port xid call last l))

-- ---- the whole of a call

pub lastly_part : (port xid : ℕ) (call : List ℕ) (r : Result (List ℕ) Miss) (n : ℕ) (es : List Entry) → LastlyAttempts port xid call r n es → Part port call (n + 1) es
lastly_part port xid call r n es l = rw (l.is) (part_then port call n 1 l.before l.last (retried_part port xid call n l.before l.retried) (attempt_part port xid call r l.last l.attempt))

lastly_dials_part : (port xid : ℕ) (call : List ℕ) (h : Halt) (n : ℕ) (es : List Entry) → LastlyDials port xid call h n es → Part port call (n + 1) es
lastly_dials_part port xid call h n es l =
    let a = l.attempts in
    let whole : es ≡ a.before ++ (a.last ++ l.last) = l.is ∙ ap (λ (t : List Entry). t ++ l.last) a.is ∙ append_assoc a.before a.last l.last in
    rw whole (part_then port call n 1 a.before (a.last ++ l.last) (retried_part port xid call n a.before a.retried) (attempt_dials port xid call a.last l.last a.attempt (dialing_of port call (Err h) l.last l.dial)))

pub exchange_part : (port xid : ℕ) (call : List ℕ) (r : Result (List ℕ) Halt) (es : List Entry) → Exchanges port xid call r es → Part port call 4 es
exchange_part port xid call (Ok rec) es x = let few = x.1 in part_more port call (x.0 + 1) 4 es (omega (arith, few)) (lastly_part port xid call (Ok rec) x.0 es x.2)
exchange_part port xid call (Err halts.Lost) es (given_up l) = lastly_part port xid call (Err misses.Failed) 3 es l
exchange_part port xid call (Err halts.Lost) es (undialed n few l) = part_more port call (n + 1) 4 es (omega (arith, few)) (lastly_dials_part port xid call halts.Lost n es l)
exchange_part port xid call (Err halts.Lost) es (flooded n few l) = part_more port call (n + 1) 4 es (omega (arith, few)) (lastly_part port xid call (Err misses.Flooded) n es l)
exchange_part port xid call (Err halts.Memory) es (attempting n few l) = part_more port call (n + 1) 4 es (omega (arith, few)) (lastly_part port xid call (Err misses.Memory) n es l)
exchange_part port xid call (Err halts.Memory) es (dialing n few l) = part_more port call (n + 1) 4 es (omega (arith, few)) (lastly_dials_part port xid call halts.Memory n es l)
