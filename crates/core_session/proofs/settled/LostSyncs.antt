-- Settled bytes were made stable, in a session that is lost later, too: nothing is sent any more, and what is ready to be answered stays.
use Rattle.core_session.proofs.Prelude.{◌≡◌, ◌≢◌, ◌≤◌, ◌<◌, ◌⊎◌, inl, inr, ℕ, suc, Bool, true, false, nat_eq, List, [], ◌∷◌, ◌++◌, length, map, Some, None, slice_get, refl, sym, ap, subst, ◌∙◌, append_assoc, append-nil, arith, eqb-true, eqb-false, cases_lt, Answer, Fault, Value, Entry, Began, Answered, Dialed, Sent, Executed, Foreign, Flushed, Reboot, Delivered, Failed, Clock, Op, At, Modes, Origin, Ended, UnderWay, AnsweredBefore, Terms, SettledBy, RefusedWrite, Wrote, WritesByte, At-one, At-grow, At-last, length_last, Mounted, machine_of, Lane, Busy, Over, Setup, lost_lane, BeginsIf, AnswersAt, counted, SendsIf, View, AreApart, MayHear, StepsTo, Reaches, IsOpenLine, begins, goes, loses, last_reading, GoesWith, begins-unbegun, Heard, dropped, replied, sent_now, FailedNow, goes_on, gives_up, failed_now, answered_now, taken_one, LanesKnown, Runs, lanes-under-way, reached-lanes, number_of, to-map, at-push, before-push, still-there, ended-grow, KnowsRoot, WritesCarry, MadeAndKept, PutsNamed, TouchedUntil}
use Rattle.core_facts.proofs.Cases.{heard}
use Rattle.core_facts.proofs.Stories.{some-answer}
use Rattle.core_session.specs.syncs.Until.{written, given_up}
use Rattle.core_facts.specs.Resting.{NoneBusy}
use Rattle.core_facts.proofs.Resting.{comes-to-rest, none-moves, own-none, leads-lost, moves-lost, own-lost}
use Rattle.world_model.specs.declared.answer.Answer.TheVariants as answers
use Rattle.world_model.specs.declared.answer.Fault.TheVariants as faults
use Rattle.world_model.specs.declared.op.Op.TheVariants as ops
use Rattle.claims.specs.Settled as settled
use Rattle.claims.specs.Touched as touched_by
use Rattle.core_session.proofs.drops.KnowingAlong.{IsPlain, NotedBefore}
use Rattle.core_session.proofs.drops.LaneIs.{state-is, number-is, answer-is, busy-over}
use Rattle.core_session.proofs.drops.Noting.{ended-at}
use Rattle.core_session.proofs.syncs.Aparts.{Apart, apart-done, apart-same, apart-answers, names-next, ending-map, it_settled, it_came, it_left}
use Rattle.core_session.proofs.syncs.Ends.{case-of, case-self, fate-ends, ended-back}
use Rattle.core_session.proofs.syncs.Entries_.{no-clash}
use Rattle.core_session.proofs.syncs.Fate.{Fate, later, busy, refused, well, fate-same}
use Rattle.core_session.proofs.syncs.Lefts.{over}
use Rattle.core_session.proofs.syncs.Looks.{Touching, LeftBefore}
use Rattle.core_session.proofs.syncs.Looks as looks
use Rattle.core_session.proofs.syncs.Stands.{Case, SettledTwo, CameIt, EndsIt, Phase, Stands}
use Rattle.core_session.proofs.syncs.Stands as stands
use Rattle.core_session.proofs.syncs.Watched.{stands-all}
use Rattle.core_session.proofs.syncs.WatchingAlong.{reached-watching}
use Rattle.core_session.proofs.syncs.Turning.{IsFixed, ready, gone, fixed-same, fixed-once, under-on, under-answers}

-- ---- an entry of a lost session

-- what is neither an operation's beginning nor an answer
one-begun : (a b c d : ℕ) (p q : Op) → Began a b p ≡ Began c d q → p ≡ q
one-begun a b c d p q e = cc

done-refused : (value : Value) (fault : Fault) → answers.Done value ≡ answers.Refused fault → ⊥
done-refused value fault e = cc

abbrev lost_own : ℕ → Lane
lost_own lane = record { number = lane; state = Over (answers.Refused faults.Lost) }

-- what begins doesn't begin where another entry is
past-entry : (H h rest : List Entry) (e : Entry) → (h ++ e ∷ []) ++ rest ≡ H → ((lane line : ℕ) (op : Op) → e ≡ Began lane line op → ⊥) → (x l k : ℕ) (o : Op) → At H x (Began l k o) → length h ≤ x → length (h ++ e ∷ []) ≤ x
past-entry H h rest e is other x l k o at low = by (cases_lt (length h) x)
  where
    by : (length h < x) ⊎ (x ≤ length h) → length (h ++ e ∷ []) ≤ x
    by (inl lt) = let more = length_last h e in omega (arith, more, lt)
    by (inr ge) =
        let here : x ≡ length h = omega (arith, low, ge) in
        let there : At H (length h) e = subst (λ (l : List Entry). At l (length h) e) is (At-grow (h ++ e ∷ []) rest (length h) e (At-last h e)) in
        absurd (other l k o (At-one H (length h) e (Began l k o) there (subst (λ (z : ℕ). At H z (Began l k o)) here at)))

-- fates and answers go on
record GoesOn (H h h2 : List Entry) (old new : View) : Type 1 where
  fixed : (x : ℕ) (a : Answer) → IsFixed h old x a → IsFixed h2 new x a
  fates : (x l k : ℕ) (o : Op) → At H x (Began l k o) → (Q R : Type 0) → (Q → R) → Fate h old x Q → Fate h2 new x R

-- ---- the session is lost

module _ (H h : List Entry) (old new : View) (lanes : new.lanes ≡ map lost_lane old.lanes) where
  lost-at : (k : ℕ) (l : Lane) → slice_get old.lanes k ≡ Some l → slice_get new.lanes k ≡ Some (lost_lane l)
  lost-at k l there = ap (λ (ls : List Lane). slice_get ls k) lanes ∙ to-map lost_lane old.lanes k l there

  lost-on : GoesOn H h h old new
  lost-on = record { fixed = fixed; fates = λ x l k o at. fates x }
    where
      fixed : (x : ℕ) (a : Answer) → IsFixed h old x a → IsFixed h new x a
      fixed x a (ready k number op there u) = ready k number op (lost-at k (record { number = number; state = Over a }) there) u
      fixed x a (gone lane y op e) = gone lane y op e

      fates : (x : ℕ) (Q R : Type 0) → (Q → R) → Fate h old x Q → Fate h new x R
      fates x Q R conv (later low) = later low
      fates x Q R conv (busy k number machine op there u) = refused faults.Lost (ready k number op (lost-at k (record { number = number; state = Busy machine }) there) u)
      fates x Q R conv (refused fault is) = refused fault (fixed x (answers.Refused fault) is)
      fates x Q R conv (well q) = well (conv q)

-- ---- an operation begins in a session that is lost

module _ (H h : List Entry) (old new : View) (lane line : ℕ) (op : Op) (lanes : new.lanes ≡ old.lanes ++ lost_own lane ∷ []) where
  abbrev h2b : List Entry
  h2b = h ++ Began lane line op ∷ []

  begun-under : UnderWay h2b lane (length h) (length h2b) op
  begun-under = record {
    line = line;
    began = At-last h (Began lane line op);
    before = let more = length_last h (Began lane line op) in omega (arith, more);
    unanswered = λ a.
        let later_ = a.ended.later in
        let low = a.before in
        let more = length_last h (Began lane line op) in
        absurd (omega (arith, later_, low, more));
  }

  push-at : (k : ℕ) (l : Lane) → slice_get old.lanes k ≡ Some l → slice_get new.lanes k ≡ Some l
  push-at k l there = ap (λ (ls : List Lane). slice_get ls k) lanes ∙ before-push old.lanes (lost_own lane) k l there

  begun-on : GoesOn H h h2b old new
  begun-on = record { fixed = fixed; fates = λ x l k o at. fates x }
    where
      on : (n y : ℕ) (o : Op) → UnderWay h n y (length h) o → UnderWay h2b n y (length h2b) o
      on n y o u = under-on h (Began lane line op) n y o (λ l a e. absurd (cc e)) u

      fixed : (x : ℕ) (a : Answer) → IsFixed h old x a → IsFixed h2b new x a
      fixed x a (ready k number o there u) = ready k number o (push-at k (record { number = number; state = Over a }) there) (on number x o u)
      fixed x a (gone n y o e) = gone n y o (ended-grow h (Began lane line op) n x o y a e)

      fates : (x : ℕ) (Q R : Type 0) → (Q → R) → Fate h old x Q → Fate h2b new x R
      fates x Q R conv (busy k number machine o there u) = busy k number machine o (push-at k (record { number = number; state = Busy machine }) there) (on number x o u)
      fates x Q R conv (refused fault is) = refused fault (fixed x (answers.Refused fault) is)
      fates x Q R conv (well q) = well (conv q)
      fates x Q R conv (later low) = by (nat_eq (length h) x) refl
        where
          by : (b : Bool) → nat_eq (length h) x ≡ b → Fate h2b new x R
          by true e = refused faults.Lost (ready (length old.lanes) lane op (ap (λ (ls : List Lane). slice_get ls (length old.lanes)) lanes ∙ at-push old.lanes (lost_own lane))
              (subst (λ (z : ℕ). UnderWay h2b lane z (length h2b) op) (eqb-true (length h) x e) begun-under))
          by false e = later (past (cases_lt (length h) x))
            where
              past : (length h < x) ⊎ (x ≤ length h) → length h2b ≤ x
              past (inl lt) = let more = length_last h (Began lane line op) in omega (arith, more, lt)
              past (inr ge) = absurd (eqb-false (length h) x e (omega (arith, low, ge)))

-- ---- an answer is noted

module _ (H h rest : List Entry) (old new : View) (at lane line : ℕ) (answer : Answer) (is : (h ++ Answered lane line answer ∷ []) ++ rest ≡ H) (known : LanesKnown h old) (open_line : IsOpenLine h lane line) (s : AnswersAt old at lane (Some answer) new) where
  abbrev h2a : List Entry
  h2a = h ++ Answered lane line answer ∷ []

  apart_ : AreApart old.lanes
  apart_ = (lanes-under-way h old known).apart

  runs_ : Runs h lane
  runs_ = known.busy at lane (to-map number_of old.lanes at (record { number = lane; state = Over s.answer }) s.there)

  answered-on : GoesOn H h h2a old new
  answered-on = record { fixed = fixed; fates = fates }
    where
      fixed : (x : ℕ) (a : Answer) → IsFixed h old x a → IsFixed h2a new x a
      fixed x a (gone n z o d) = gone n z o (ended-grow h (Answered lane line answer) n x o z a d)
      fixed x a (ready k n o there u) = by (nat_eq k at) refl
        where
          by : (b : Bool) → nat_eq k at ≡ b → IsFixed h2a new x a
          by true e =
              let here : slice_get old.lanes at ≡ Some (record { number = n; state = Over a }) = ap (slice_get old.lanes) (sym (eqb-true k at e)) ∙ there in
              let number : n ≡ lane = number-is (Over a) (Over s.answer) n lane (sym here ∙ s.there) in
              let same : answer ≡ a = some-answer answer s.answer s.gives ∙ sym (answer-is a s.answer (state-is (Over a) (Over s.answer) n lane (sym here ∙ s.there))) in
              gone lane (length h) o (subst (λ (b : Answer). Ended h2a lane x o (length h) b) same
              (ended-at h lane line x o answer open_line runs_ (subst (λ (m : ℕ). UnderWay h m x (length h) o) number u)))
          by false e =
              let off = eqb-false k at e in
              let stays = still-there old.lanes at k (record { number = n; state = Over a }) off there in
              ready stays.0 n o (ap (λ (w : View). slice_get w.lanes stays.0) s.is ∙ stays.1)
              (under-answers h lane line answer n x o (λ same. off (apart_ k at (record { number = n; state = Over a }) (record { number = lane; state = Over s.answer }) there s.there same)) u)

      fates : (x l q : ℕ) (p : Op) → At H x (Began l q p) → (Q R : Type 0) → (Q → R) → Fate h old x Q → Fate h2a new x R
      fates x l q p begun Q R conv (refused fault f) = refused fault (fixed x (answers.Refused fault) f)
      fates x l q p begun Q R conv (well c) = well (conv c)
      fates x l q p begun Q R conv (later low) = later (past-entry H h rest (Answered lane line answer) is (λ n m r e. absurd (cc e)) x l q p begun low)
      fates x l q p begun Q R conv (busy k n machine o there u) = by (nat_eq k at) refl
        where
          by : (b : Bool) → nat_eq k at ≡ b → Fate h2a new x R
          by true e = absurd (busy-over machine s.answer (state-is (Busy machine) (Over s.answer) n lane (sym (ap (slice_get old.lanes) (sym (eqb-true k at e)) ∙ there) ∙ s.there)))
          by false e =
              let off = eqb-false k at e in
              let stays = still-there old.lanes at k (record { number = n; state = Busy machine }) off there in
              busy stays.0 n machine o (ap (λ (w : View). slice_get w.lanes stays.0) s.is ∙ stays.1)
              (under-answers h lane line answer n x o (λ same. off (apart_ k at (record { number = n; state = Busy machine }) (record { number = lane; state = Over s.answer }) there s.there same)) u)

-- ---- another entry

module _ (H h rest : List Entry) (e : Entry) (old new : View) (is : (h ++ e ∷ []) ++ rest ≡ H) (quiet : IsPlain e) (lanes : new.lanes ≡ old.lanes) where
  same-on : GoesOn H h (h ++ e ∷ []) old new
  same-on = record {
    fixed = λ x a f. fixed-same h e old new quiet lanes x a f;
    fates = λ x l k o at Q R conv fate. fate-same h e old new quiet lanes x Q R conv (past-entry H h rest e is quiet.begins_ x l k o at) fate;
  }

-- ---- what touched it

-- as it is in a session that is lost: what settles the byte may have gone no good way
data TouchedLate (m : Modes) (origin : Origin) (H : List Entry) (w s j p : ℕ) (f : List ℕ) (i : ℕ) (h : List Entry) (v : View) : Type 0 where
  plain : TouchedUntil m origin H w j p f i → TouchedLate m origin H w s j p f i h v
  wrote : (x u : ℕ) (value : Value) → x ≢ w → x < p → (AnsweredBefore H x w → ⊥) → WritesByte m origin H x f i u → IsFixed h v x (answers.Done value) → TouchedLate m origin H w s j p f i h v
  was_left : ((LeftBefore m H w j f → ⊥) → ⊥) → TouchedLate m origin H w s j p f i h v
  unwell : Fate h v s ⊥ → TouchedLate m origin H w s j p f i h v
  doomed : (fault : Fault) → IsFixed h v w (answers.Refused fault) → TouchedLate m origin H w s j p f i h v
  aside : Apart f h v s → TouchedLate m origin H w s j p f i h v

touched-late : (m : Modes) (origin : Origin) (H : List Entry) (w s j p : ℕ) (f : List ℕ) (i : ℕ) (h : List Entry) (v : View) → Touching m origin H w s j p f i h v → TouchedLate m origin H w s j p f i h v
touched-late m origin H w s j p f i h v (looks.plain t) = plain t
touched-late m origin H w s j p f i h v (looks.wrote x u value apart low not by is) = wrote x u value apart low not by is
touched-late m origin H w s j p f i h v (looks.left_ (looks.owed from after left fate saver puts)) = unwell fate
touched-late m origin H w s j p f i h v (looks.left_ (looks.was_left n)) = was_left n
touched-late m origin H w s j p f i h v (looks.doomed x (inl same) fault is) = doomed fault (subst (λ (z : ℕ). IsFixed h v z (answers.Refused fault)) same is)
touched-late m origin H w s j p f i h v (looks.doomed x (inr same) fault is) = unwell (refused fault (subst (λ (z : ℕ). IsFixed h v z (answers.Refused fault)) same is))
touched-late m origin H w s j p f i h v (looks.aside a) = aside a

touched-on : (m : Modes) (origin : Origin) (H : List Entry) (w s j p : ℕ) (f : List ℕ) (i : ℕ) (h h2 : List Entry) (v u : View) → ((x : ℕ) (a : Answer) → IsFixed h v x a → IsFixed h2 u x a) → (Fate h v s ⊥ → Fate h2 u s ⊥)
    → (Apart f h v s → Apart f h2 u s) → TouchedLate m origin H w s j p f i h v → TouchedLate m origin H w s j p f i h2 u
touched-on m origin H w s j p f i h h2 v u on fate left (plain t) = plain t
touched-on m origin H w s j p f i h h2 v u on fate left (wrote x b value apart low not by is) = wrote x b value apart low not by (on x (answers.Done value) is)
touched-on m origin H w s j p f i h h2 v u on fate left (was_left n) = was_left n
touched-on m origin H w s j p f i h h2 v u on fate left (unwell k) = unwell (fate k)
touched-on m origin H w s j p f i h h2 v u on fate left (doomed fault is) = doomed fault (on w (answers.Refused fault) is)
touched-on m origin H w s j p f i h h2 v u on fate left (aside a) = aside (left a)

-- ---- what stands

module _ (mt : Mounted) (terms : Terms) (setup : Setup) (H : List Entry) (W : View) (g : GoesWith mt terms setup H W) (w y s j p : ℕ) (f : List ℕ) (i byte : ℕ) (c : Case terms H w y s j p f i byte) where
  abbrev Settles : List Entry → Type 0
  Settles = SettledTwo mt terms setup H w y s j p f i byte

  abbrev EndsAs : Type 0 → List Entry → View → Type 0
  EndsAs P h v = EndsIt mt terms setup H w y s j p f i byte P h v

  abbrev TouchingAt : List Entry → View → Type 0
  TouchingAt = TouchedLate terms.modes terms.origin H w s j p f i

  data Late (h : List Entry) (v : View) : Type 0 where
    early : length h ≤ p → Fate h v w (Apart f h v w) → Late h v
    unsent : length h ≤ p → Fate h v s (EndsAs ⊥ h v) → Late h v
    since : length h ≤ p → Fate h v s (EndsAs (Settles h) h v) → Late h v
    touched : TouchingAt h v → Late h v
    made : MadeAndKept H w (suc j) p f i byte → Late h v

  late-of : (h : List Entry) (v : View) → Phase mt terms setup H w y s j p f i byte h v → Late h v
  late-of h v (stands.early low e) = early low e.fate
  late-of h v (stands.unsent low n e) = unsent low e.fate
  late-of h v (stands.since low n e) = since low e.fate
  late-of h v (stands.touched t) = touched (touched-late terms.modes terms.origin H w s j p f i h v t)
  late-of h v (stands.made m) = made m

  module _ (h : List Entry) (v : View) (rest : List Entry) (is : h ++ rest ≡ H) (here : length h ≡ p) where
    saved : (Q : Type 0) → Fate h v s Q → Q
    saved Q fate = fate-ends h v s Q c.laneS c.opS j c.valueS (ended-back h rest H is c.laneS s c.opS j (answers.Done c.valueS) (let past = c.past in omega (arith, past, here)) c.endS) fate

    wrote_here : Ended h c.laneW w c.opW y (answers.Done c.valueW)
    wrote_here = ended-back h rest H is c.laneW w c.opW y (answers.Done c.valueW) (let past = c.past in let low = c.by in omega (arith, past, here, low)) c.endW

    ended : (P : Type 0) → (P → MadeAndKept H w (suc j) p f i byte) → EndsAs P h v → MadeAndKept H w (suc j) p f i byte ⊎ TouchingAt h v
    ended P make (it_settled k) = inl (make k)
    ended P make (it_came come) = inr (plain (over mt terms setup H W g w y s j p f i byte c come))
    ended P make (it_left left) = absurd (left.under.unanswered (record {
      lane = c.laneS;
      op = c.opS;
      y = j;
      answer = answers.Done c.valueS;
      ended = ended-back h rest H is c.laneS s c.opS j (answers.Done c.valueS) (let past = c.past in omega (arith, past, here)) c.endS;
      before = let past = c.past in omega (arith, past, here);
    }))

    finish : Late h v → MadeAndKept H w (suc j) p f i byte ⊎ TouchingAt h v
    finish (early low e) = absurd (apart-done f h v w (fate-ends h v w (Apart f h v w) c.laneW c.opW y c.valueW wrote_here e) c.laneW y c.opW (answers.Done c.valueW) wrote_here)
    finish (unsent low e) = ended ⊥ (λ none. absurd none) (saved (EndsAs ⊥ h v) e)
    finish (since low e) =
        ended (Settles h) (λ q. record { from = q.0; after = q.1.1; made = q.2; kept = subst (λ (z : ℕ). WritesCarry H q.0 z f i byte) here q.1.2 }) (saved (EndsAs (Settles h) h v) e)
    finish (touched t) = inr t
    finish (made m) = inl m

  abbrev Came : Type 0
  Came = CameIt mt terms setup H w y s j p f i byte

  -- a put that saved another file has its answer still
  lost-left : (h : List Entry) (old new : View) → new.lanes ≡ map lost_lane old.lanes → (x : ℕ) → Apart f h old x → Apart f h new x
  lost-left h old new lanes x a = record {
    k = a.k;
    number = a.number;
    op = a.op;
    value = a.value;
    puts = a.puts;
    there = lost-at H h old new lanes a.k (record { number = a.number; state = Over (answers.Done a.value) }) a.there;
    under = a.under;
    file = a.file;
    off = a.off;
    last = a.last;
  }

  begun-left : (h : List Entry) (old new : View) (lane line : ℕ) (op : Op) → new.lanes ≡ old.lanes ++ lost_own lane ∷ [] → (x : ℕ) → Apart f h old x
      → Apart f (h ++ Began lane line op ∷ []) new x
  begun-left h old new lane line op lanes x a = record {
    k = a.k;
    number = a.number;
    op = a.op;
    value = a.value;
    puts = a.puts;
    there = push-at H h old new lane line op lanes a.k (record { number = a.number; state = Over (answers.Done a.value) }) a.there;
    under = under-on h (Began lane line op) a.number x a.op (λ l b e. absurd (cc e)) a.under;
    file = a.file;
    off = a.off;
    last = names-next h (Began lane line op) a.file (λ d. (let e = d.1 in absurd cc)) a.last;
  }

  -- the session is lost
  lost-late : (h : List Entry) (old new : View) → new.lanes ≡ map lost_lane old.lanes → Late h old → Late h new
  lost-late h old new lanes (early low e) = early low ((lost-on H h old new lanes).fates w c.laneW c.endW.line c.opW c.endW.began (Apart f h old w) (Apart f h new w) (lost-left h old new lanes w) e)
  lost-late h old new lanes (unsent low e) =
      unsent low ((lost-on H h old new lanes).fates s c.laneS c.endS.line c.opS c.endS.began (EndsAs ⊥ h old) (EndsAs ⊥ h new) (ending-map Came ⊥ ⊥ f h h old new s (λ z. z) (lost-left h old new lanes s)) e)
  lost-late h old new lanes (since low e) = since low
      ((lost-on H h old new lanes).fates s c.laneS c.endS.line c.opS c.endS.began (EndsAs (Settles h) h old) (EndsAs (Settles h) h new) (ending-map Came (Settles h) (Settles h) f h h old new s (λ z. z) (lost-left h old new lanes s)) e)
  lost-late h old new lanes (touched t) = touched (touched-on terms.modes terms.origin H w s j p f i h h old new (lost-on H h old new lanes).fixed (λ k. (lost-on H h old new lanes).fates s c.laneS c.endS.line c.opS c.endS.began ⊥ ⊥ (λ z. z) k) (lost-left h old new lanes s) t)
  lost-late h old new lanes (made m) = made m

  -- an entry by which nothing is sent
  module _ (h rest : List Entry) (e : Entry) (old new : View) (is : (h ++ e ∷ []) ++ rest ≡ H) (unsent_ : (b : List ℕ) → e ≡ Sent b → ⊥) (on : GoesOn H h (h ++ e ∷ []) old new) (left_on : (x : ℕ) → (x ≡ s) ⊎ (x ≡ w) → Apart f h old x → Apart f (h ++ e ∷ []) new x) where
    settles-on : Settles h → Settles (h ++ e ∷ [])
    settles-on z = (z.0, (let low = z.1.0 in let more = length_last h e in omega (arith, low, more), z.1.1, carry), z.2)
      where
        here : At H (length h) e
        here = subst (λ (l : List Entry). At l (length h) e) is (At-grow (h ++ e ∷ []) rest (length h) e (At-last h e))

        carry : WritesCarry H z.0 (length (h ++ e ∷ [])) f i byte
        carry u xid offset how bytes sent at spells low high inside = elim (cases_lt u (length h)) [
          | inl before ↦ z.1.2 u xid offset how bytes sent at spells low before inside
          | inr past ↦ absurd (let same : u ≡ length h = let more = length_last h e in omega (arith, past, high, more) in
              unsent_ sent (At-one H (length h) e (Sent sent) here (subst (λ (q : ℕ). At H q (Sent sent)) same at)))
        ]

    touched-next : TouchingAt h old → TouchingAt (h ++ e ∷ []) new
    touched-next t = touched-on terms.modes terms.origin H w s j p f i h (h ++ e ∷ []) old new on.fixed (λ k. on.fates s c.laneS c.endS.line c.opS c.endS.began ⊥ ⊥ (λ z. z) k) (left_on s (inl refl)) t

    next-late : length h < p → Late h old → Late (h ++ e ∷ []) new
    next-late lt (early low k) = early (let more = length_last h e in omega (arith, more, lt)) (on.fates w c.laneW c.endW.line c.opW c.endW.began (Apart f h old w) (Apart f (h ++ e ∷ []) new w) (left_on w (inr refl)) k)
    next-late lt (unsent low k) = unsent (let more = length_last h e in omega (arith, more, lt)) (on.fates s c.laneS c.endS.line c.opS c.endS.began (EndsAs ⊥ h old) (EndsAs ⊥ (h ++ e ∷ []) new) (ending-map Came ⊥ ⊥ f h (h ++ e ∷ []) old new s (λ z. z) (left_on s (inl refl))) k)
    next-late lt (since low k) = since (let more = length_last h e in omega (arith, more, lt)) (on.fates s c.laneS c.endS.line c.opS c.endS.began (EndsAs (Settles h) h old) (EndsAs (Settles (h ++ e ∷ [])) (h ++ e ∷ []) new)
        (ending-map Came (Settles h) (Settles (h ++ e ∷ [])) f h (h ++ e ∷ []) old new s settles-on (left_on s (inl refl))) k)
    next-late lt (touched t) = touched (touched-next t)
    next-late lt (made m) = made m

    at-end : length h ≡ p → Late h old → Late (h ++ e ∷ []) new
    at-end here k = elim (finish h old (e ∷ rest) (sym (append_assoc h (e ∷ []) rest) ∙ is) here k) [
      | inl m ↦ made m
      | inr t ↦ touched (touched-next t)
    ]

    past-late : p ≤ length h → Late h old → Late (h ++ e ∷ []) new
    past-late ge (early low k) = at-end (omega (arith, low, ge)) (early low k)
    past-late ge (unsent low k) = at-end (omega (arith, low, ge)) (unsent low k)
    past-late ge (since low k) = at-end (omega (arith, low, ge)) (since low k)
    past-late ge (touched t) = touched (touched-next t)
    past-late ge (made m) = made m

    late-entry : Late h old → Late (h ++ e ∷ []) new
    late-entry k = elim (cases_lt (length h) p) [ inl lt ↦ next-late lt k | inr ge ↦ past-late ge k ]

  -- ---- along a history

  abbrev AtAll : List Entry → View → Type 0
  AtAll h v = (rest : List Entry) → h ++ rest ≡ H → Late h v

  before-entry : (h : List Entry) (e : Entry) (rest : List Entry) → (h ++ e ∷ []) ++ rest ≡ H → h ++ e ∷ rest ≡ H
  before-entry h e rest is = sym (append_assoc h (e ∷ []) rest) ∙ is

  same-all : (h : List Entry) (e : Entry) (old new : View) → IsPlain e → NotedBefore e old → ((b : List ℕ) → e ≡ Sent b → ⊥) → new.lanes ≡ old.lanes → AtAll h old → AtAll (h ++ e ∷ []) new
  same-all h e old new quiet noted unsent_ lanes k rest is =
      late-entry h rest e old new is unsent_ (same-on H h rest e old new is quiet lanes) (λ x one. apart-same f h e old new quiet noted lanes x) (k (e ∷ rest) (before-entry h e rest is))

  lost-all : (h : List Entry) (old new : View) → new.lanes ≡ map lost_lane old.lanes → AtAll h old → AtAll h new
  lost-all h old new lanes k rest is = lost-late h old new lanes (k rest is)

  module _ (found-all : (h : List Entry) (v : View) → Reaches (machine_of mt) setup h v → v.lost ≡ false → Stands mt terms setup H w y s j p f i byte h v) where
    begins-lost : (b : Bool) (h : List Entry) (old new : View) (lane line : ℕ) (op : Op) → old.lost ≡ b → new.lost ≡ true → BeginsIf b old lane (machine_of mt lane op) (last_reading 0 h) new
        → AtAll h old → AtAll (h ++ Began lane line op ∷ []) new
    begins-lost true h old new lane line op was lost is k rest split_ =
        late-entry h rest (Began lane line op) old new split_ (λ b e. cc) (begun-on H h old new lane line op (ap (λ (v : View). v.lanes) is)) (λ x one. begun-left h old new lane line op (ap (λ (v : View). v.lanes) is) x) (k (Began lane line op ∷ rest) (before-entry h (Began lane line op) rest split_))
    begins-lost false h old new lane line op was lost b k rest split_ = absurd (
        let first : b.first.lost ≡ old.lost =
        leads-lost (record (counted old (last_reading 0 h)) { lanes = old.lanes ++ record { number = lane; state = Busy b.own.after } ∷ []; shelf = b.own.shelf }) (length old.lanes) lane b.own.after b.own.next b.first
        b.own.leads in
        let no_way : true ≡ false = sym lost ∙ moves-lost b.first new b.rest ∙ first ∙ was in cc)

    abbrev quiet_of : (e : Entry) → ((l k : ℕ) (o : Op) → e ≡ Began l k o → ⊥) → ((l k : ℕ) (a : Answer) → e ≡ Answered l k a → ⊥) → IsPlain e
    quiet_of e a b = record { begins_ = a; answers_ = b }

    heard-late : (h : List Entry) (old : View) (rec : List ℕ) (new : View) → MayHear old → new.lost ≡ true → Reaches (machine_of mt) setup h old → Heard old rec new → AtAll h old → AtAll (h ++ Delivered rec ∷ []) new
    heard-late h old rec new may lost r (dropped none is) k = same-all h (Delivered rec) old new (quiet_of (Delivered rec) (λ a b c e. cc) (λ a b c e. cc)) (λ other e. may) (λ b e. cc) (ap (λ (v : View). v.lanes) is) k
    heard-late h old rec new may lost r (replied xid call named waits q) k =
        let was : old.lost ≡ true = sym (own-lost (taken_one old xid) rec call.purpose q.first q.own) ∙ sym (moves-lost q.first new q.rest) ∙ lost in
        let none : NoneBusy old = (comes-to-rest (machine_of mt) setup h old r).over was in
        let first : q.first ≡ taken_one old xid = own-none (taken_one old xid) rec call.purpose q.first none q.own in
        let none-first : NoneBusy q.first = subst NoneBusy (sym first) none in
        let is : new ≡ taken_one old xid = none-moves q.first new q.rest none-first ∙ first in
        same-all h (Delivered rec) old new (quiet_of (Delivered rec) (λ a b c e. cc) (λ a b c e. cc)) (λ other e. may) (λ b e. cc) (ap (λ (v : View). v.lanes) is) k

    failed-late : (h : List Entry) (old new : View) → FailedNow old new → AtAll h old → AtAll (h ++ Failed ∷ []) new
    failed-late h old new (goes_on none is) k = same-all h Failed old new (quiet_of Failed (λ a b c e. cc) (λ a b c e. cc)) (λ other e. absurd cc) (λ b e. cc) (ap (λ (v : View). v.lanes) is) k
    failed-late h old new (gives_up xid up is) k =
        lost-all (h ++ Failed ∷ []) old new (ap (λ (v : View). v.lanes) is) (same-all h Failed old old (quiet_of Failed (λ a b c e. cc) (λ a b c e. cc)) (λ other e. absurd cc) (λ b e. cc) refl k)

    none-sent : (old : View) (b : List ℕ) (new : View) → old.lost ≡ true → SendsIf old.lost old (Some b) new → ⊥
    none-sent old b new was t =
        let u : SendsIf true old (Some b) new = subst (λ (l : Bool). SendsIf l old (Some b) new) was t in
        absurd (let no_way : Some b ≡ None = u.0 in cc)

    late-step : (h : List Entry) (old : View) (e : Entry) (new : View) → StepsTo (machine_of mt) h old e new → Reaches (machine_of mt) setup h old → new.lost ≡ true → AtAll h old → AtAll (h ++ e ∷ []) new
    late-step h old (Began lane line op) new t r lost k = begins-lost old.lost h old new lane line op refl lost t.step k
    late-step h old (Answered lane line answer) new t r lost k = λ rest is.
        let n = answered_now old lane answer new t.answers in
        late-entry h rest (Answered lane line answer) old new is (λ b e. cc)
        (answered-on H h rest old new n.at lane line answer is (reached-lanes (machine_of mt) setup h old r) t.line_is n.is)
        (λ x one left. elim (apart-answers f h old new n.at lane line answer (reached-lanes (machine_of mt) setup h old r) t.line_is n.is x left) [
          | inl on ↦ on
          | inr clash ↦ absurd (no-clash mt terms setup H w y s j p f i byte c h rest (Answered lane line answer) is x one clash)
        ]) (k (Answered lane line answer ∷ rest) (before-entry h (Answered lane line answer) rest is))
    late-step h old (Sent bytes) new t r lost k =
        let n = sent_now old bytes new t in
        absurd (none-sent old bytes new (sym (ap (λ (v : View). v.lost) n.is) ∙ lost) t)
    late-step h old (Delivered bytes) new t r lost k = heard-late h old bytes new t.may lost r (heard old bytes t.result new t.hears) k
    late-step h old Failed new (inl t) r lost k = failed-late h old new (failed_now old t.0 new t.1) k
    late-step h old Failed new (inr t) r lost k = same-all h Failed old new (quiet_of Failed (λ a b c e. cc) (λ a b c e. cc)) (λ other e. absurd cc) (λ b e. cc) (ap (λ (v : View). v.lanes) t) k
    late-step h old (Dialed port) new t r lost k = same-all h (Dialed port) old new (quiet_of (Dialed port) (λ a b c e. cc) (λ a b c e. cc)) (λ other e. absurd cc) (λ b e. cc) (ap (λ (v : View). v.lanes) t) k
    late-step h old (Executed xid call reply) new t r lost k = same-all h (Executed xid call reply) old new (quiet_of (Executed xid call reply) (λ a b c e. cc) (λ a b c e. cc)) (λ other e. absurd cc) (λ b e. cc) (ap (λ (v : View). v.lanes) t) k
    late-step h old (Foreign call reply) new t r lost k = same-all h (Foreign call reply) old new (quiet_of (Foreign call reply) (λ a b c e. cc) (λ a b c e. cc)) (λ other e. absurd cc) (λ b e. cc) (ap (λ (v : View). v.lanes) t) k
    late-step h old (Flushed file from len) new t r lost k = same-all h (Flushed file from len) old new (quiet_of (Flushed file from len) (λ a b c e. cc) (λ a b c e. cc)) (λ other e. absurd cc) (λ b e. cc) (ap (λ (v : View). v.lanes) t) k
    late-step h old (Reboot verf) new t r lost k = same-all h (Reboot verf) old new (quiet_of (Reboot verf) (λ a b c e. cc) (λ a b c e. cc)) (λ other e. absurd cc) (λ b e. cc) (ap (λ (v : View). v.lanes) t) k
    late-step h old (Clock ms) new t r lost k = same-all h (Clock ms) old new (quiet_of (Clock ms) (λ a b c e. cc) (λ a b c e. cc)) (λ other e. absurd cc) (λ b e. cc) (ap (λ (v : View). v.lanes) t) k

    either : (h : List Entry) (v : View) → Reaches (machine_of mt) setup h v → (v.lost ≡ true → AtAll h v) → AtAll h v
    either h v r once_lost = by v.lost refl
      where
        by : (b : Bool) → v.lost ≡ b → AtAll h v
        by true is = once_lost is
        by false is = λ rest split_. late-of h v ((found-all h v r is).phase rest split_)

    once-lost : (h : List Entry) (v : View) → Reaches (machine_of mt) setup h v → v.lost ≡ true → AtAll h v
    once-lost _ _ (begins h v may up fresh) lost = absurd (let no_way : true ≡ false = sym lost ∙ fresh.lost in cc)
    once-lost _ _ (goes h before v b e r is t) lost =
        subst (λ (k : List Entry). AtAll k v) (sym is) (late-step before b e v t r lost (either before b r (λ was. once-lost before b r was)))
    once-lost _ _ (loses h v b r shown is) lost = lost-all h b v (ap (λ (w : View). w.lanes) is) (either h b r (λ was. once-lost h b r was))

    -- ---- at the end

    module _ (V : View) (r : Reaches (machine_of mt) setup H V) (free : TouchedUntil terms.modes terms.origin H w j p f i → ⊥) where
      untouched : TouchingAt H V → ⊥
      untouched (plain t) = free t
      untouched (wrote x u value apart low not by fixed) = free (written x u apart low not by refused-not)
        where
          refused-not : RefusedWrite H x → ⊥
          refused-not (touched_by.write lane slot offset z bytes fault e) = done-refused value fault (sym (fixed-once H V x (answers.Done value) fixed lane (ops.Write slot offset bytes) z (answers.Refused fault) e))
          refused-not (touched_by.fill lane slot offset count b z fault e) = done-refused value fault (sym (fixed-once H V x (answers.Done value) fixed lane (ops.Fill slot offset count b) z (answers.Refused fault) e))
      untouched (was_left n) = n (λ l. free (given_up l.0 l.1 l.2 l.3 l.4))
      untouched (unwell fate) = fate-ends H V s ⊥ c.laneS c.opS j c.valueS c.endS fate
      untouched (doomed fault fixed) = done-refused c.valueW fault (fixed-once H V w (answers.Refused fault) fixed c.laneW c.opW y (answers.Done c.valueW) c.endW)
      untouched (aside a) = apart-done f H V s a c.laneS j c.opS (answers.Done c.valueS) c.endS

      by_end : length H ≤ p → Late H V → MadeAndKept H w (suc j) p f i byte
      by_end low k = elim (finish H V [] (append-nil H) (let within = c.within in omega (arith, low, within)) k) [ inl m ↦ m | inr t ↦ absurd (untouched t) ]

      ends : Late H V → MadeAndKept H w (suc j) p f i byte
      ends (early low k) = by_end low (early low k)
      ends (unsent low k) = by_end low (unsent low k)
      ends (since low k) = by_end low (since low k)
      ends (touched t) = absurd (untouched t)
      ends (made m) = m

      -- whether the session is lost or not
      pub all-ends : MadeAndKept H w (suc j) p f i byte
      all-ends = ends (either H V r (λ was. once-lost H V r was) [] (append-nil H))

-- of one write and what settled it, in any session
from-case : (m : Mounted) (terms : Terms) (setup : Setup) (h : List Entry) (v : View) → GoesWith m terms setup h v → KnowsRoot terms.origin h m.root → PutsNamed h → (w y s j p : ℕ) (f : List ℕ) (i byte : ℕ)
    → Case terms h w y s j p f i byte → (TouchedUntil terms.modes terms.origin h w j p f i → ⊥) → MadeAndKept h w (suc j) p f i byte
from-case m terms setup h v g roots named w y s j p f i byte c free =
    all-ends m terms setup h v g w y s j p f i byte c
    (λ k u r found. reached-watching (machine_of m) (begins-unbegun m) setup (Stands m terms setup h w y s j p f i byte) (stands-all m terms setup h v g w y s j p f i byte c roots named) k u r found) v g.reaches free

-- each byte that was settled, and that wasn't touched, was made stable, in any session
pub all-synced : (m : Mounted) (terms : Terms) (setup : Setup) (h : List Entry) (v : View) → GoesWith m terms setup h v → KnowsRoot terms.origin h m.root → PutsNamed h → (w y : ℕ) (f : List ℕ) (i byte j p : ℕ) → Wrote terms.modes h w y f i byte
    → SettledBy terms.modes h w y f j → j < p → p ≤ length h → (TouchedUntil terms.modes terms.origin h w j p f i → ⊥) → MadeAndKept h w (suc j) p f i byte
all-synced m terms setup h v g roots named w y f i byte j p wrote_ (settled.later x after_ made_) past within free =
    from-case m terms setup h v g roots named w y x j p f i byte (case-of m terms setup h w y x j p f i byte wrote_ after_ made_ past within) free
all-synced m terms setup h v g roots named w y f i byte j p wrote_ (settled.itself offset bytes to same) past within free =
    from-case m terms setup h v g roots named w y w j p f i byte (case-self m terms setup h w y w j p f i byte offset bytes to wrote_ refl same past within) free
