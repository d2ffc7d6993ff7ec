-- A session that is lost, and a call that is answered, behind entries in which each call was answered.
use Rattle.std.proofs.Common.{inl, inr, ◌≡◌, ◌≤◌, ◌<◌, ◌+◌, ◌⊎◌, ℕ, zero, suc, List, [], ◌∷◌, ◌++◌, length, Some, Result, Ok, Err, refl, sym, ap, subst, ◌∙◌, append_assoc, arith}
use Rattle.std.proofs.lemmas.List.{append-nil, length-append}
use Rattle.world_model.specs.declared.entry.Entry.{Entry}
use Rattle.world_model.specs.declared.entry.Entry.TheVariants.{Dialed, Sent, Delivered, Failed}
use Rattle.world_model.specs.Entries.{At}
use Rattle.world_model.specs.Messages.{HasXid}
use Rattle.world_model.specs.Waiting.{Waits, Drops as IsDropped}
use Rattle.world_model.specs.Rows.{DropRun, begins, drops, most_dropped}
use Rattle.world_model.specs.Lost.{FailedAttempt, NoReply, IsTraffic, sent as sends_it, came as brings_it, dialed as dials_it, FailedDial, Loses as IsLost, given_up as by_attempts, undialed as by_dials, dropped as by_drops}
use Rattle.world_model.proofs.Places.{At-grow, At-below, At-one, At-cases}
use Rattle.port_finder.specs.declared.halt.Halt.TheVariants as halts
use Rattle.port_finder.specs.declared.halt.Miss.TheVariants as misses
use Rattle.port_finder.specs.Talk.{failed_dials, came, AreOthers, Attempts, Retries, Retried, unretried, retried_once, LastlyAttempts, LastlyDials, Loses, given_up, undialed, flooded, Exchanges}
use Rattle.port_finder.specs.Found.{IsFor, AreFor, NoneSent, NoneCame, IsSentElse, Answered}
use Rattle.port_finder.proofs.Places.{at_end, at_behind, at_either, no_sent_at, no_came_at}
use Rattle.port_finder.proofs.Parts.{for_then, none_sent_then, none_came_then, came_more, Shape, shape_failed, shape_got, shape_flooded, shape_none, retried_none, Part, exchange_part}

-- each call that was sent was answered later
abbrev pub AllAnswered : List Entry → Type 0
AllAnswered pre = (i : ℕ) (b : List ℕ) (y : ℕ) → At pre i (Sent b) → HasXid b y → (j : ℕ) × (c : List ℕ) × At pre j (Delivered c) × HasXid c y × (i < j)

one_number : (b : List ℕ) (x y : ℕ) → HasXid b x → HasXid b y → x ≡ y
one_number b x y p q = cc

-- ---- attempts that failed

-- it begins with the record that was sent, and a failure follows
pub record Fails (call : List ℕ) (es : List Entry) : Type 0 where
  pub mid : List Entry
  pub tail : List Entry
  pub is : es ≡ Sent call ∷ (mid ++ Failed ∷ tail)

fails_attempt : (xid : ℕ) (call : List ℕ) (es : List Entry) → Attempts xid call (Err misses.Failed) es → Fails call es
fails_attempt xid call es a = let s = shape_failed xid call es a in record { mid = came s.dropped; tail = []; is = s.is }

fails_retries : (port xid : ℕ) (call : List ℕ) (es : List Entry) → Retries port xid call es → Fails call es
fails_retries port xid call es r =
    let s = shape_failed xid call r.first r.attempt in
    record {
      mid = came s.dropped;
      tail = r.second;
      is = r.is ∙ ap (λ (t : List Entry). t ++ r.second) s.is ∙ ap (λ (t : List Entry). Sent call ∷ t) (append_assoc (came s.dropped) (Failed ∷ []) r.second);
    }

fails_long : (call : List ℕ) (es : List Entry) (f : Fails call es) → length es ≡ length f.mid + (length f.tail + 2)
fails_long call es f = omega (arith, ap length f.is, length-append f.mid (Failed ∷ f.tail))

failed_at : (h pre es post : List Entry) (xid : ℕ) (call : List ℕ) → h ≡ (pre ++ es) ++ post → Fails call es → HasXid call xid → FailedAttempt h xid (length pre) (length (pre ++ es))
failed_at h pre es post xid call is f under =
    let flat : h ≡ pre ++ (es ++ post) = is ∙ append_assoc pre es post in
    let long = fails_long call es f in
    let front : At es 0 (Sent call) = rw (f.is) refl in
    let fault : At es (suc (length f.mid)) Failed = rw (f.is) (at_end f.mid f.tail Failed) in
    record {
      bytes = call;
      failed = length pre + suc (length f.mid);
      sent = subst (λ (n : ℕ). At h n (Sent call)) none_more (rw flat (at_behind pre (es ++ post) 0 (Sent call) (At-grow es post 0 (Sent call) front)));
      under = under;
      is = rw flat (at_behind pre (es ++ post) (suc (length f.mid)) Failed (At-grow es post (suc (length f.mid)) Failed fault));
      after = omega arith;
      before = omega (arith, length-append pre es, long);
    }
  where
    none_more : length pre + 0 ≡ length pre
    none_more = omega arith

-- three that were tried again
record Three (port xid : ℕ) (call : List ℕ) (es : List Entry) : Type 0 where
  one : List Entry
  two : List Entry
  three : List Entry
  is : es ≡ (one ++ two) ++ three
  first : Retries port xid call one
  second : Retries port xid call two
  third : Retries port xid call three

no_retry : (port xid : ℕ) (call : List ℕ) (n : ℕ) (es : List Entry) → n ≡ 0 → Retried port xid call n es → es ≡ []
no_retry port xid call n es k (unretried _ _ e f) = f
no_retry port xid call n es k (retried_once _ m _ before last e f r l) = absurd (omega (arith, k, e))

one_retry : (port xid : ℕ) (call : List ℕ) (n : ℕ) (es : List Entry) → n ≡ 1 → Retried port xid call n es → Retries port xid call es
one_retry port xid call n es k (unretried _ _ e f) = absurd (omega (arith, k, e))
one_retry port xid call n es k (retried_once _ m _ before last e f r l) =
    let empty = no_retry port xid call m before (omega (arith, k, e)) r in
    subst (Retries port xid call) (sym (f ∙ ap (λ (t : List Entry). t ++ last) empty)) l

two_retries : (port xid : ℕ) (call : List ℕ) (n : ℕ) (es : List Entry) → n ≡ 2 → Retried port xid call n es → (one : List Entry) × (two : List Entry) × (es ≡ one ++ two) × Retries port xid call one × Retries port xid call two
two_retries port xid call n es k (unretried _ _ e f) = absurd (omega (arith, k, e))
two_retries port xid call n es k (retried_once _ m _ before last e f r l) = (before, last, f, one_retry port xid call m before (omega (arith, k, e)) r, l)

three_retries : (port xid : ℕ) (call : List ℕ) (n : ℕ) (es : List Entry) → n ≡ 3 → Retried port xid call n es → Three port xid call es
three_retries port xid call n es k (unretried _ _ e f) = absurd (omega (arith, k, e))
three_retries port xid call n es k (retried_once _ m _ before last e f r l) =
    let o = two_retries port xid call m before (omega (arith, k, e)) r in
    record { one = o.0; two = o.1; three = last; is = f ∙ ap (λ (t : List Entry). t ++ last) o.2; first = o.3; second = o.4; third = l }

no_reply : (pre part : List Entry) (xid to : ℕ) → NoneCame xid part → NoReply (pre ++ part) xid (length pre) to
no_reply pre part xid to none j bytes at under after before =
    elim (at_either pre part j (Delivered bytes) at) [
      | inl here ↦ let low = At-below pre j (Delivered bytes) here in omega (arith, low, after)
      | inr o ↦ no_came_at xid part o.0 bytes none o.2 under
    ]

four_lose : (pre one two three last : List Entry) (xid : ℕ) (call : List ℕ) → Fails call one → Fails call two → Fails call three → Fails call last → HasXid call xid → NoneCame xid (((one ++ two) ++ three) ++ last)
    → IsLost (pre ++ (((one ++ two) ++ three) ++ last)) (length (pre ++ (((one ++ two) ++ three) ++ last)))
four_lose pre one two three last xid call a b c d under none =
    let h : List Entry = pre ++ (((one ++ two) ++ three) ++ last) in
    let p1 : List Entry = pre ++ one in
    let p2 : List Entry = p1 ++ two in
    let p3 : List Entry = p2 ++ three in
    let whole : h ≡ p3 ++ last =
    sym (append_assoc pre ((one ++ two) ++ three) last)
    ∙ ap (λ (t : List Entry). t ++ last) (sym (append_assoc pre (one ++ two) three) ∙ ap (λ (t : List Entry). t ++ three) (sym (append_assoc pre one two))) in
    let second : h ≡ p2 ++ (three ++ last) = whole ∙ append_assoc p2 three last in
    let first : h ≡ p1 ++ (two ++ (three ++ last)) = second ∙ append_assoc p1 two (three ++ last) in
    by_attempts xid (length pre) (length p1) (length p2) (length p3)
    (failed_at h pre one (two ++ (three ++ last)) xid call first a under)
    (failed_at h p1 two (three ++ last) xid call second b under)
    (failed_at h p2 three last xid call whole c under)
    (subst (λ (t : List Entry). FailedAttempt h xid (length p3) (length t)) (sym whole) (failed_at h p3 last [] xid call (whole ∙ sym (append-nil (p3 ++ last))) d under))
    (no_reply pre (((one ++ two) ++ three) ++ last) xid (length h) none)

lost_by_attempts : (pre part : List Entry) (port xid : ℕ) (call : List ℕ) → HasXid call xid → LastlyAttempts port xid call (Err misses.Failed) 3 part → IsLost (pre ++ part) (length (pre ++ part))
lost_by_attempts pre part port xid call under l =
    let t = three_retries port xid call 3 l.before refl l.retried in
    let is : part ≡ ((t.one ++ t.two) ++ t.three) ++ l.last = l.is ∙ ap (λ (x : List Entry). x ++ l.last) t.is in
    let quiet : NoneCame xid (l.before ++ l.last) =
    none_came_then xid l.before l.last (retried_none port xid call 3 l.before l.retried) (shape_none xid call (Failed ∷ []) l.last (tt, tt) (shape_failed xid call l.last l.attempt)) in
    let none : NoneCame xid (((t.one ++ t.two) ++ t.three) ++ l.last) = subst (NoneCame xid) (sym l.is ∙ is) quiet in
    subst (λ (x : List Entry). IsLost (pre ++ x) (length (pre ++ x))) (sym is)
    (four_lose pre t.one t.two t.three l.last xid call (fails_retries port xid call t.one t.first) (fails_retries port xid call t.two t.second) (fails_retries port xid call t.three t.third) (fails_attempt xid call l.last l.attempt) under none)

-- ---- dials that failed

no_traffic : IsTraffic Failed → ⊥
no_traffic (sends_it bytes e) = absurd cc
no_traffic (brings_it bytes e) = absurd cc
no_traffic (dials_it port e) = absurd cc

abbrev one_dial : ℕ → List Entry
one_dial port = Dialed port ∷ Failed ∷ []

failed_dial : (h xs ys : List Entry) (port : ℕ) → h ≡ (xs ++ one_dial port) ++ ys → FailedDial h (length xs) (length (xs ++ one_dial port))
failed_dial h xs ys port is =
    let flat : h ≡ xs ++ (Dialed port ∷ Failed ∷ ys) = is ∙ append_assoc xs (one_dial port) ys in
    let long : length (xs ++ one_dial port) ≡ length xs + 2 = length-append xs (one_dial port) in
    let fault : At h (length xs + 1) Failed = rw flat (at_behind xs (Dialed port ∷ Failed ∷ ys) 1 Failed refl) in
    record {
      port = port;
      failed = length xs + 1;
      dialed = rw flat (at_end xs (Failed ∷ ys) (Dialed port));
      is = fault;
      after = omega arith;
      before = omega (arith, long);
      quiet = λ j entry at after before traffic.
          let here : j ≡ length xs + 1 = omega (arith, long, after, before) in
          let same : entry ≡ Failed = At-one h (length xs + 1) entry Failed (subst (λ (n : ℕ). At h n entry) here at) fault in
          no_traffic (subst IsTraffic same traffic);
    }

pub lost_by_dials : (xs : List Entry) (port : ℕ) → IsLost (xs ++ failed_dials port 4) (length (xs ++ failed_dials port 4))
lost_by_dials xs port =
    let d : List Entry = one_dial port in
    let h : List Entry = xs ++ failed_dials port 4 in
    let x1 : List Entry = xs ++ d in
    let x2 : List Entry = x1 ++ d in
    let x3 : List Entry = x2 ++ d in
    let first : h ≡ x1 ++ (d ++ (d ++ d)) = sym (append_assoc xs d (d ++ (d ++ d))) in
    let second : h ≡ x2 ++ (d ++ d) = first ∙ sym (append_assoc x1 d (d ++ d)) in
    let third : h ≡ x3 ++ d = second ∙ sym (append_assoc x2 d d) in
    by_dials (length xs) (length x1) (length x2) (length x3)
    (failed_dial h xs (d ++ (d ++ d)) port first)
    (failed_dial h x1 (d ++ d) port second)
    (failed_dial h x2 d port third)
    (subst (λ (t : List Entry). FailedDial h (length x3) (length t)) (sym third) (failed_dial h x3 [] port (third ∙ sym (append-nil (x3 ++ d)))))

lost_by_last_dials : (pre part : List Entry) (port xid : ℕ) (call : List ℕ) (n : ℕ) → LastlyDials port xid call halts.Lost n part → IsLost (pre ++ part) (length (pre ++ part))
lost_by_last_dials pre part port xid call n l =
    let is : pre ++ part ≡ (pre ++ l.before) ++ failed_dials port 4 =
    ap (λ (t : List Entry). pre ++ t) (l.is ∙ ap (λ (t : List Entry). l.before ++ t) l.dial) ∙ sym (append_assoc pre l.before (failed_dials port 4)) in
    subst (λ (t : List Entry). IsLost t (length t)) (sym is) (lost_by_dials (pre ++ l.before) port)

-- ---- records that answer no call

sent_for : (port : ℕ) (call : List ℕ) (es : List Entry) (i : ℕ) (b : List ℕ) → AreFor port call es → At es i (Sent b) → b ≡ call
sent_for port call [] i b p at = absurd cc
sent_for port call (e ∷ es) zero b p at = first e p.0 at
  where
    first : (d : Entry) → IsFor port call d → At (d ∷ es) zero (Sent b) → b ≡ call
    first d q here = let is : d ≡ Sent b = cc in let r : IsFor port call (Sent b) = subst (IsFor port call) is q in r
sent_for port call (e ∷ es) (suc i) b p at = sent_for port call es i b p.1 at

-- behind entries in which each call was answered, only the call itself waits
only_waits : (pre part : List Entry) (port xid : ℕ) (call : List ℕ) → AllAnswered pre → AreFor port call part → HasXid call xid → (y n : ℕ) → length pre ≤ n → Waits (pre ++ part) y n → y ≡ xid
only_waits pre part port xid call answered for_it under y n late w =
    elim (at_either pre part w.at (Sent w.bytes) w.sent) [
      | inl here ↦
          let o = answered w.at w.bytes y here w.under in
          let low = At-below pre o.0 (Delivered o.1) o.2 in
          absurd (w.unanswered o.0 o.1 (At-grow pre part o.0 (Delivered o.1) o.2) o.3 o.4 (omega (arith, low, late)))
      | inr o ↦ one_number call y xid (subst (λ (b : List ℕ). HasXid b y) (sent_for port call part o.0 w.bytes for_it o.2) w.under) under
    ]

came_long : (recs : List (List ℕ)) → length (came recs) ≡ length recs
came_long [] = refl
came_long (rec ∷ recs) = omega (arith, came_long recs)

run_on : (h q : List Entry) (xid : ℕ) (todo done : List (List ℕ)) → ((y n : ℕ) → length q ≤ n → Waits h y n → y ≡ xid) → h ≡ q ++ (came done ++ came todo) → AreOthers xid todo → DropRun h (length done) (length q + length done)
    → DropRun h (length done + length todo) (length q + (length done + length todo))
run_on h q xid [] done only is others run = subst (λ (n : ℕ). DropRun h n (length q + n)) none_more run
  where
    none_more : length done ≡ length done + 0
    none_more = omega arith
run_on h q xid (rec ∷ todo) done only is others run =
    subst (λ (n : ℕ). DropRun h n (length q + n)) one_later (run_on h q xid todo (done ++ rec ∷ []) only flat others.1 here)
  where
    at : ℕ
    at = length q + length done

    long : length (done ++ rec ∷ []) ≡ length done + 1
    long = length-append done (rec ∷ [])

    one_later : length (done ++ rec ∷ []) + length todo ≡ length done + length (rec ∷ todo)
    one_later = omega (arith, long)

    flat : h ≡ q ++ (came (done ++ rec ∷ []) ++ came todo)
    flat = is ∙ ap (λ (t : List Entry). q ++ t) (sym (ap (λ (t : List Entry). t ++ came todo) (came_more done rec) ∙ append_assoc (came done) (Delivered rec ∷ []) (came todo)))

    got : At h at (Delivered rec)
    got = rw is (subst (λ (n : ℕ). At (q ++ (came done ++ Delivered rec ∷ came todo)) (length q + n) (Delivered rec)) (came_long done)
        (at_behind q (came done ++ Delivered rec ∷ came todo) (length (came done)) (Delivered rec) (at_end (came done) (came todo) (Delivered rec))))

    dropped : IsDropped h at rec
    dropped = record { got = got; idle = λ y has waits. others.0 (subst (λ (n : ℕ). HasXid rec n) (only y at (omega arith) waits) has) }

    next : DropRun h (suc (length done)) (at + 1)
    next = drops (suc (length done)) (at + 1) (length done) at rec refl run dropped (omega arith) (λ j b there after before. omega (arith, after, before))

    here : DropRun h (length (done ++ rec ∷ [])) (length q + length (done ++ rec ∷ []))
    here = rw long (let e : at + 1 ≡ length q + (length done + 1) = omega arith in subst (λ (n : ℕ). DropRun h (length done + 1) n) e (subst (λ (n : ℕ). DropRun h n (at + 1)) more_one next))
      where
        more_one : suc (length done) ≡ length done + 1
        more_one = omega arith

lost_by_drops : (pre part : List Entry) (port xid : ℕ) (call : List ℕ) (n : ℕ) → AllAnswered pre → AreFor port call part → HasXid call xid → LastlyAttempts port xid call (Err misses.Flooded) n part → IsLost (pre ++ part) (length (pre ++ part))
lost_by_drops pre part port xid call n answered for_it under l =
    let recs : List (List ℕ) = l.attempt.so.dropped in
    let front : List Entry = l.before ++ Sent call ∷ [] in
    let q : List Entry = pre ++ front in
    let last : l.last ≡ Sent call ∷ came recs = l.attempt.is ∙ ap (λ (t : List Entry). Sent call ∷ t) l.attempt.so.is in
    let mine : part ≡ front ++ came recs = l.is ∙ ap (λ (t : List Entry). l.before ++ t) last ∙ sym (append_assoc l.before (Sent call ∷ []) (came recs)) in
    let is : pre ++ part ≡ q ++ came recs = ap (λ (t : List Entry). pre ++ t) mine ∙ sym (append_assoc pre front (came recs)) in
    let only : (y m : ℕ) → length q ≤ m → Waits (pre ++ part) y m → y ≡ xid = λ y m late w. only_waits pre part port xid call answered for_it under y m (omega (arith, late, length-append pre front)) w in
    let run = run_on (pre ++ part) q xid recs [] only is l.attempt.so.others (begins 0 (length q + 0) refl) in
    let many : 0 + length recs ≡ most_dropped = omega (arith, l.attempt.so.many) in
    let end : length q + (0 + length recs) ≡ length (pre ++ part) = omega (arith, ap length is, length-append q (came recs), came_long recs) in
    by_drops (subst (λ (m : ℕ). DropRun (pre ++ part) m (length (pre ++ part))) many (subst (λ (m : ℕ). DropRun (pre ++ part) (0 + length recs) m) end run))

-- ---- a call that came to no reply

pub lost_after : (pre part : List Entry) (port xid : ℕ) (call : List ℕ) → AllAnswered pre → HasXid call xid → Exchanges port xid call (Err halts.Lost) part → IsLost (pre ++ part) (length (pre ++ part))
lost_after pre part port xid call answered under (given_up l) = lost_by_attempts pre part port xid call under l
lost_after pre part port xid call answered under (undialed n few l) = lost_by_last_dials pre part port xid call n l
lost_after pre part port xid call answered under (flooded n few l) =
    lost_by_drops pre part port xid call n answered (exchange_part port xid call (Err halts.Lost) part (flooded n few l)).for_it under l

-- ---- a call that was answered

-- what is empty, or begins with the record that was sent
data Begins (call : List ℕ) (es : List Entry) : Type 0 where
  is_empty : es ≡ [] → Begins call es
  sent_first : (tail : List Entry) → es ≡ Sent call ∷ tail → Begins call es

begins_retried : (port xid : ℕ) (call : List ℕ) (n : ℕ) (es : List Entry) → Retried port xid call n es → Begins call es
begins_retried port xid call n es (unretried _ _ e f) = is_empty f
begins_retried port xid call n es (retried_once _ m _ before last e f r l) = by_before (begins_retried port xid call m before r)
  where
    fails : Fails call last
    fails = fails_retries port xid call last l

    by_before : Begins call before → Begins call es
    by_before (is_empty none) = sent_first (fails.mid ++ Failed ∷ fails.tail) (f ∙ ap (λ (t : List Entry). t ++ last) none ∙ fails.is)
    by_before (sent_first tail is) = sent_first (tail ++ last) (f ∙ ap (λ (t : List Entry). t ++ last) is)

pub answered_by : (port xid : ℕ) (call rec : List ℕ) (part : List Entry) → Exchanges port xid call (Ok rec) part → Answered part xid call rec
answered_by port xid call rec part x = by_before (begins_retried port xid call x.0 l.before l.retried)
  where
    l : LastlyAttempts port xid call (Ok rec) x.0 part
    l = x.2

    s : Shape xid call (Delivered rec ∷ []) l.last
    s = shape_got xid call rec l.last l.attempt

    others : NoneCame xid (came s.dropped)
    others = came_others xid s.dropped s.others
      where
        came_others : (xid : ℕ) (recs : List (List ℕ)) → AreOthers xid recs → NoneCame xid (came recs)
        came_others xid [] p = tt
        came_others xid (r ∷ recs) p = (p.0, came_others xid recs p.1)

    by_before : Begins call l.before → Answered part xid call rec
    by_before (is_empty none) = record {
      before = [];
      between = came s.dropped;
      after = [];
      is = l.is ∙ ap (λ (t : List Entry). t ++ l.last) none ∙ s.is;
      first = tt;
      none = others;
      under = l.attempt.so.0;
    }
    by_before (sent_first tail is) = record {
      before = [];
      between = tail ++ (Sent call ∷ came s.dropped);
      after = [];
      is = l.is ∙ ap (λ (t : List Entry). t ++ l.last) is ∙ ap (λ (t : List Entry). Sent call ∷ (tail ++ t)) s.is ∙ ap (λ (t : List Entry). Sent call ∷ t) (sym (append_assoc tail (Sent call ∷ came s.dropped) (Delivered rec ∷ [])));
      first = tt;
      none = none_came_then xid tail (Sent call ∷ came s.dropped) (let all : NoneCame xid (Sent call ∷ tail) = subst (NoneCame xid) is (retried_none port xid call x.0 l.before l.retried) in all.1) (tt, others);
      under = l.attempt.so.0;
    }

pub answered_grow : (es more : List Entry) (xid : ℕ) (call rec : List ℕ) → Answered es xid call rec → Answered (es ++ more) xid call rec
answered_grow es more xid call rec a = record {
  before = a.before;
  between = a.between;
  after = a.after ++ more;
  is =
      ap (λ (t : List Entry). t ++ more) a.is
      ∙ append_assoc a.before (Sent call ∷ (a.between ++ Delivered rec ∷ a.after)) more
      ∙ ap (λ (t : List Entry). a.before ++ Sent call ∷ t) (append_assoc a.between (Delivered rec ∷ a.after) more);
  first = a.first;
  none = a.none;
  under = a.under;
}

pub answered_behind : (pre es : List Entry) (xid : ℕ) (call rec : List ℕ) → NoneSent xid pre → Answered es xid call rec → Answered (pre ++ es) xid call rec
answered_behind pre es xid call rec none a = record {
  before = pre ++ a.before;
  between = a.between;
  after = a.after;
  is = ap (λ (t : List Entry). pre ++ t) a.is ∙ sym (append_assoc pre a.before (Sent call ∷ (a.between ++ Delivered rec ∷ a.after)));
  first = none_sent_then xid pre a.before none a.first;
  none = a.none;
  under = a.under;
}

-- where nothing was sent, each call was answered
pub none_unanswered : (pre : List Entry) → ((y : ℕ) → NoneSent y pre) → AllAnswered pre
none_unanswered pre none i b y at has = absurd (no_sent_at y pre i b (none y) at has)

-- and behind that, a call that was
pub all_answered : (pre part : List Entry) (port xid : ℕ) (call rec : List ℕ) → AllAnswered pre → HasXid call xid → Exchanges port xid call (Ok rec) part → AllAnswered (pre ++ part)
all_answered pre part port xid call rec before under x i b y at has =
    elim (at_either pre part i (Sent b) at) [
      | inl here ↦ let o = before i b y here has in (o.0, o.1, At-grow pre part o.0 (Delivered o.1) o.2, o.3, o.4)
      | inr o ↦ (length pre + length front, rec, got, mine o.0 o.2, let low = earlier o.0 o.2 in let is = o.1 in omega (arith, low, is))
    ]
  where
    l : LastlyAttempts port xid call (Ok rec) x.0 part
    l = x.2

    s : Shape xid call (Delivered rec ∷ []) l.last
    s = shape_got xid call rec l.last l.attempt

    front : List Entry
    front = l.before ++ (Sent call ∷ came s.dropped)

    is : part ≡ front ++ Delivered rec ∷ []
    is = l.is ∙ ap (λ (t : List Entry). l.before ++ t) s.is ∙ sym (append_assoc l.before (Sent call ∷ came s.dropped) (Delivered rec ∷ []))

    got : At (pre ++ part) (length pre + length front) (Delivered rec)
    got = at_behind pre part (length front) (Delivered rec) (subst (λ (t : List Entry). At t (length front) (Delivered rec)) (sym is) (at_end front [] (Delivered rec)))

    mine : (j : ℕ) → At part j (Sent b) → HasXid rec y
    mine j there =
        let same : b ≡ call = sent_for port call part j b (exchange_part port xid call (Ok rec) part x).for_it there in
        let number : xid ≡ y = one_number call xid y under (subst (λ (t : List ℕ). HasXid t y) same has) in
        subst (λ (n : ℕ). HasXid rec n) number l.attempt.so.0

    earlier : (j : ℕ) → At part j (Sent b) → j < length front
    earlier j there =
        elim (At-cases front (Delivered rec) j (Sent b) (subst (λ (t : List Entry). At t j (Sent b)) is there)) [
          | inl low ↦ At-below front j (Sent b) low
          | inr last ↦ absurd (let e : Delivered rec ≡ Sent b = last.1 in cc)
        ]
