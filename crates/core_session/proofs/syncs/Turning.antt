-- What a step of one lane leaves of what is under way and of what was answered, and what an entry does that notes an answer, or that isn't of an operation.
use Rattle.core_session.proofs.Prelude.{◌≡◌, ◌≢◌, ℕ, List, [], ◌∷◌, ◌++◌, length, Bool, true, false, nat_eq, Some, slice_get, refl, sym, ap, subst, ◌∙◌, arith, eqb-true, eqb-false, Answer, Entry, Began, Answered, Delivered, Op, At, IsBusy, Modes, Ended, UnderWay, At-last, At-below, At-one, length_last, Machine, Lane, State, Busy, Over, Setup, IsIdle, numbers_of, AnswersAt, View, AreApart, IsOpenLine, Known, Runs, lanes-under-way, idle-numbers, number_of, still-there, to-map, under-back, ended-grow}
use Rattle.core_facts.proofs.Stories.{some-answer}
use Rattle.core_session.proofs.drops.Growing.{under-grow}
use Rattle.core_session.proofs.drops.KnowingAlong.{IsPlain}
use Rattle.core_session.proofs.drops.LaneIs.{state-is, number-is, answer-is, busy-over}
use Rattle.core_session.proofs.drops.Noting.{ended-at}
use Rattle.core_session.proofs.syncs.Seen.{ButFor}

-- ---- answers that are fixed

-- The operation at the place x has this answer: it is ready in its lane, or it was noted.
pub data IsFixed (h : List Entry) (v : View) (x : ℕ) (answer : Answer) : Type 0 where
  ready : (k number : ℕ) (op : Op) → slice_get v.lanes k ≡ Some (record { number = number; state = Over answer }) → UnderWay h number x (length h) op
      → IsFixed h v x answer
  gone : (lane y : ℕ) (op : Op) → Ended h lane x op y answer → IsFixed h v x answer

-- ---- under way, over one entry

-- the modes aren't spoken of here
any_modes : Modes
any_modes = record { longest = 0; noac = false; nocto = false; apart = λ on. refl }

module _ (h : List Entry) (e : Entry) where
  pub under-on : (n y : ℕ) (o : Op) → ((line : ℕ) (answer : Answer) → e ≡ Answered n line answer → ⊥) → UnderWay h n y (length h) o → UnderWay (h ++ e ∷ []) n y (length (h ++ e ∷ [])) o
  under-on n y o other u = under-grow any_modes h e n y o other u

  pub under-was : (n y : ℕ) (o : Op) → ((line : ℕ) (p : Op) → e ≡ Began n line p → ⊥) → UnderWay (h ++ e ∷ []) n y (length (h ++ e ∷ [])) o → UnderWay h n y (length h) o
  under-was n y o other u = under-back h e n y o other u

lane-of : (n p q l : ℕ) (c b : Answer) → Answered n p c ≡ Answered q l b → n ≡ q
lane-of n p q l c b e = cc

-- where an answer is noted, another lane's operation goes on; and so it was before
pub under-answers : (h : List Entry) (lane line : ℕ) (answer : Answer) (n y : ℕ) (o : Op) → n ≢ lane → UnderWay h n y (length h) o
    → UnderWay (h ++ Answered lane line answer ∷ []) n y (length (h ++ Answered lane line answer ∷ [])) o
under-answers h lane line answer n y o other u = under-on h (Answered lane line answer) n y o (λ l a e. other (sym (lane-of lane line n l answer a e))) u

pub under-answers-back : (h : List Entry) (lane line : ℕ) (answer : Answer) (n y : ℕ) (o : Op) → UnderWay (h ++ Answered lane line answer ∷ []) n y (length (h ++ Answered lane line answer ∷ [])) o
    → UnderWay h n y (length h) o
under-answers-back h lane line answer n y o u = under-was h (Answered lane line answer) n y o (λ l p e. absurd (cc e)) u

pub under-plain : (h : List Entry) (e : Entry) (n y : ℕ) (o : Op) → IsPlain e → UnderWay h n y (length h) o → UnderWay (h ++ e ∷ []) n y (length (h ++ e ∷ [])) o
under-plain h e n y o plain u = under-on h e n y o (λ l a is. plain.answers_ n l a is) u

pub under-plain-back : (h : List Entry) (e : Entry) (n y : ℕ) (o : Op) → IsPlain e → UnderWay (h ++ e ∷ []) n y (length (h ++ e ∷ [])) o → UnderWay h n y (length h) o
under-plain-back h e n y o plain u = under-was h e n y o (λ l p is. plain.begins_ n l p is) u

-- ---- a step of one lane

module _ (f : List ℕ) where
  -- From one history to another a lane at a place made a step, whose operation began at the place x: the other lanes, what is under way in them, and what was
  -- answered are as they were. The lane had no answer before.
  pub record Turns (h h2 : List Entry) (old new : View) (at number x : ℕ) (op : Op) (state : State) : Type 0 where
    pub but : ButFor f old.lanes new.lanes at (record { number = number; state = state })
    pub own : UnderWay h2 number x (length h2) op
    pub was : (n y : ℕ) (o : Op) → n ≢ number → UnderWay h2 n y (length h2) o → UnderWay h n y (length h) o
    pub on : (n y : ℕ) (o : Op) → n ≢ number → UnderWay h n y (length h) o → UnderWay h2 n y (length h2) o
    pub ended : (n y z : ℕ) (o : Op) (a : Answer) → Ended h n y o z a → Ended h2 n y o z a
    pub apart : (k : ℕ) (l : Lane) → slice_get old.lanes k ≡ Some l → k ≢ at → l.number ≢ number
    pub unready : (n : ℕ) (a : Answer) → slice_get old.lanes at ≡ Some (record { number = n; state = Over a }) → ⊥

  -- the lanes stay apart
  pub turns-apart : (h h2 : List Entry) (old new : View) (at number x : ℕ) (op : Op) (state : State) → Turns h h2 old new at number x op state → AreApart old.lanes → AreApart new.lanes
  turns-apart h h2 old new at number x op state t apart i k a b here there same = by (nat_eq i at) (nat_eq k at) refl refl
    where
      own-number : (l : Lane) (n : ℕ) → slice_get new.lanes n ≡ Some l → n ≡ at → l.number ≡ number
      own-number l n is place = ap (λ (z : Lane). z.number) (one-of l (record { number = number; state = state }) (sym is ∙ ap (slice_get new.lanes) place ∙ t.but.here))
        where
          one-of : (p q : Lane) → Some p ≡ Some q → p ≡ q
          one-of p q e = cc

      by : (c d : Bool) → nat_eq i at ≡ c → nat_eq k at ≡ d → i ≡ k
      by true true e g = eqb-true i at e ∙ sym (eqb-true k at g)
      by true false e g =
          let off = eqb-false k at g in absurd (t.apart k b (t.but.was k b there off) off (sym same ∙ own-number a i here (eqb-true i at e)))
      by false true e g =
          let off = eqb-false i at e in absurd (t.apart i a (t.but.was i a here off) off (same ∙ own-number b k there (eqb-true k at g)))
      by false false e g =
          apart i k a b (t.but.was i a here (eqb-false i at e)) (t.but.was k b there (eqb-false k at g)) same

  -- the operation of a lane makes a step
  pub record Turned (h h2 : List Entry) (old new : View) (at number : ℕ) (state : State) : Type 0 where
    pub x : ℕ
    pub op : Op
    pub turns : Turns h h2 old new at number x op state

  busy-unready : (lanes : List Lane) (at number : ℕ) (machine : Machine) → slice_get lanes at ≡ Some (record { number = number; state = Busy machine }) → (n : ℕ) (a : Answer)
      → slice_get lanes at ≡ Some (record { number = n; state = Over a }) → ⊥
  busy-unready lanes at number machine there n a over = busy-over machine a (state-is (Busy machine) (Over a) number n (sym there ∙ over))

  others-apart : (lanes : List Lane) (at number : ℕ) (state : State) → AreApart lanes → slice_get lanes at ≡ Some (record { number = number; state = state }) → (k : ℕ) (l : Lane)
      → slice_get lanes k ≡ Some l → k ≢ at → l.number ≢ number
  others-apart lanes at number state apart there k l here off same = off (apart k at l (record { number = number; state = state }) here there same)

  module _ (setup : Setup) (h : List Entry) (old new : View) (at number : ℕ) (machine : Machine) (state : State) (known : Known setup h old)
      (there : slice_get old.lanes at ≡ Some (record { number = number; state = Busy machine })) (but : ButFor f old.lanes new.lanes at (record { number = number; state = state })) where
    busy : IsBusy h number (length h)
    busy = (lanes-under-way h old known.lanes).busy at (record { number = number; state = Busy machine }) there

    apart : AreApart old.lanes
    apart = (lanes-under-way h old known.lanes).apart

    -- with the operation that is under way
    pub turns-stir : (x : ℕ) (op : Op) → UnderWay h number x (length h) op → Turns h h old new at number x op state
    turns-stir x op under = record {
      but = but;
      own = under;
      was = λ n y o other u. u;
      on = λ n y o other u. u;
      ended = λ n y z o a d. d;
      apart = others-apart old.lanes at number (Busy machine) apart there;
      unready = busy-unready old.lanes at number machine there;
    }

    pub turns-take : (rec : List ℕ) (x : ℕ) (op : Op) → UnderWay (h ++ Delivered rec ∷ []) number x (length (h ++ Delivered rec ∷ [])) op → Turns h (h ++ Delivered rec ∷ []) old new at number x op state
    turns-take rec x op under = record {
      but = but;
      own = under;
      was = λ n y o other u. under-was h (Delivered rec) n y o (λ l p e. absurd (cc e)) u;
      on = λ n y o other u. under-on h (Delivered rec) n y o (λ l a e. absurd (cc e)) u;
      ended = λ n y z o a d. ended-grow h (Delivered rec) n y o z a d;
      apart = others-apart old.lanes at number (Busy machine) apart there;
      unready = busy-unready old.lanes at number machine there;
    }

    pub turns-stirs : Turned h h old new at number state
    turns-stirs = record {
      x = busy.x;
      op = busy.op;
      turns = record {
        but = but;
        own = busy.under_way;
        was = λ n y o other u. u;
        on = λ n y o other u. u;
        ended = λ n y z o a d. d;
        apart = others-apart old.lanes at number (Busy machine) apart there;
        unready = busy-unready old.lanes at number machine there;
      };
    }

    pub turns-takes : (rec : List ℕ) → Turned h (h ++ Delivered rec ∷ []) old new at number state
    turns-takes rec = record {
      x = busy.x;
      op = busy.op;
      turns = record {
        but = but;
        own = under-on h (Delivered rec) number busy.x busy.op (λ l a e. absurd (cc e)) busy.under_way;
        was = λ n y o other u. under-was h (Delivered rec) n y o (λ l p e. absurd (cc e)) u;
        on = λ n y o other u. under-on h (Delivered rec) n y o (λ l a e. absurd (cc e)) u;
        ended = λ n y z o a d. ended-grow h (Delivered rec) n y o z a d;
        apart = others-apart old.lanes at number (Busy machine) apart there;
        unready = busy-unready old.lanes at number machine there;
      };
    }

  began-lane : (a b c d : ℕ) (p q : Op) → Began a b p ≡ Began c d q → a ≡ c
  began-lane a b c d p q e = cc

  -- an operation that begins is under way
  begun-under : (h : List Entry) (lane line : ℕ) (op : Op) → UnderWay (h ++ Began lane line op ∷ []) lane (length h) (length (h ++ Began lane line op ∷ [])) op
  begun-under h lane line op = record {
    line = line;
    began = At-last h (Began lane line op);
    before = let more = length_last h (Began lane line op) in omega (arith, more);
    unanswered = λ a.
        let later = a.ended.later in
        let low = a.before in
        let more = length_last h (Began lane line op) in
        absurd (omega (arith, later, low, more));
  }

  past-none : (lanes : List Lane) (l : Lane) → slice_get lanes (length lanes) ≡ Some l → ⊥
  past-none [] l there = absurd cc
  past-none (x ∷ lanes) l there = past-none lanes l there

  pub turns-starts : (h : List Entry) (old new : View) (lane line : ℕ) (op : Op) (state : State) → IsIdle lane old.lanes
      → ButFor f old.lanes new.lanes (length old.lanes) (record { number = lane; state = state }) → Turns h (h ++ Began lane line op ∷ []) old new (length old.lanes) lane (length h) op state
  turns-starts h old new lane line op state idle but = record {
    but = but;
    own = begun-under h lane line op;
    was = λ n y o other u. under-was h (Began lane line op) n y o (λ l p e. other (sym (began-lane lane line n l op p e))) u;
    on = λ n y o other u. under-on h (Began lane line op) n y o (λ l a e. absurd (cc e)) u;
    ended = λ n y z o a d. ended-grow h (Began lane line op) n y o z a d;
    apart = λ k l here off same.
        idle-numbers lane (numbers_of old.lanes) idle.other k (to-map number_of old.lanes k l here ∙ ap (λ (n : ℕ). Some n) same);
    unready = λ n a over. past-none old.lanes (record { number = n; state = Over a }) over;
  }

  -- ---- answers stay fixed

  pub fixed-turns : (h h2 : List Entry) (old new : View) (at number x : ℕ) (op : Op) (state : State) → Turns h h2 old new at number x op state → (y : ℕ) (a : Answer) → IsFixed h old y a
      → IsFixed h2 new y a
  fixed-turns h h2 old new at number x op state t y a (gone lane z o d) = gone lane z o (t.ended lane y z o a d)
  fixed-turns h h2 old new at number x op state t y a (ready k n o there u) = by (nat_eq k at) refl
    where
      by : (b : Bool) → nat_eq k at ≡ b → IsFixed h2 new y a
      by true e = absurd (t.unready n a (ap (slice_get old.lanes) (sym (eqb-true k at e)) ∙ there))
      by false e =
          let off = eqb-false k at e in
          ready k n o (t.but.stays k (record { number = n; state = Over a }) there off) (t.on n y o (t.apart k (record { number = n; state = Over a }) there off) u)

-- an answer is noted
pub fixed-answers : (setup : Setup) (h : List Entry) (old new : View) (at lane line : ℕ) (answer : Answer) → Known setup h old → IsOpenLine h lane line → AnswersAt old at lane (Some answer) new
    → (y : ℕ) (a : Answer) → IsFixed h old y a → IsFixed (h ++ Answered lane line answer ∷ []) new y a
fixed-answers setup h old new at lane line answer known open_line s y a (gone n z o d) = gone n z o (ended-grow h (Answered lane line answer) n y o z a d)
fixed-answers setup h old new at lane line answer known open_line s y a (ready k n o there u) = by (nat_eq k at) refl
  where
    later : List Entry
    later = h ++ Answered lane line answer ∷ []

    apart : AreApart old.lanes
    apart = (lanes-under-way h old known.lanes).apart

    runs : Runs h lane
    runs = known.lanes.busy at lane (to-map number_of old.lanes at (record { number = lane; state = Over s.answer }) s.there)

    given : answer ≡ s.answer
    given = some-answer answer s.answer s.gives

    by : (b : Bool) → nat_eq k at ≡ b → IsFixed later new y a
    by true e =
        let here : slice_get old.lanes at ≡ Some (record { number = n; state = Over a }) = ap (slice_get old.lanes) (sym (eqb-true k at e)) ∙ there in
        let number : n ≡ lane = number-is (Over a) (Over s.answer) n lane (sym here ∙ s.there) in
        let same : answer ≡ a = given ∙ sym (answer-is a s.answer (state-is (Over a) (Over s.answer) n lane (sym here ∙ s.there))) in
        gone lane (length h) o (subst (λ (b : Answer). Ended later lane y o (length h) b) same
        (ended-at h lane line y o answer open_line runs (subst (λ (m : ℕ). UnderWay h m y (length h) o) number u)))
    by false e =
        let off = eqb-false k at e in
        let stays = still-there old.lanes at k (record { number = n; state = Over a }) off there in
        ready stays.0 n o (ap (λ (w : View). slice_get w.lanes stays.0) s.is ∙ stays.1)
        (under-answers h lane line answer n y o (λ same. off (apart k at (record { number = n; state = Over a }) (record { number = lane; state = Over s.answer }) there s.there same)) u)

-- an entry that is of no operation
pub fixed-same : (h : List Entry) (e : Entry) (old new : View) → IsPlain e → new.lanes ≡ old.lanes → (y : ℕ) (a : Answer) → IsFixed h old y a → IsFixed (h ++ e ∷ []) new y a
fixed-same h e old new plain lanes y a (gone n z o d) = gone n z o (ended-grow h e n y o z a d)
fixed-same h e old new plain lanes y a (ready k n o there u) = ready k n o (ap (λ (l : List Lane). slice_get l k) lanes ∙ there) (under-plain h e n y o plain u)

-- ---- it is the operation's answer

one-mark : (a b c d : ℕ) (p q : Op) → Began a b p ≡ Began c d q → (a ≡ c) × (b ≡ d)
one-mark a b c d p q e = (cc, cc)

one-answer : (a b : ℕ) (c d : Answer) → Answered a b c ≡ Answered a b d → c ≡ d
one-answer a b c d e = cc

pub fixed-once : (h : List Entry) (v : View) (x : ℕ) (a : Answer) → IsFixed h v x a → (lane : ℕ) (op : Op) (y : ℕ) (b : Answer) → Ended h lane x op y b → b ≡ a
fixed-once h v x a (ready k n o there u) lane op y b d =
    absurd (u.unanswered (record { lane = lane; op = op; y = y; answer = b; ended = d; before = At-below h y (Answered lane d.line b) d.answered }))
fixed-once h v x a (gone n z o g) lane op y b d =
    let same = one-mark n g.line lane d.line o op (At-one h x (Began n g.line o) (Began lane d.line op) g.began d.began) in
    let here : At h y (Answered n g.line b) = subst (λ (m : ℕ). At h y (Answered n m b)) (sym same.1) (subst (λ (m : ℕ). At h y (Answered m d.line b)) (sym same.0) d.answered) in
    let there : At h z (Answered lane d.line a) = subst (λ (m : ℕ). At h z (Answered lane m a)) same.1 (subst (λ (m : ℕ). At h z (Answered m g.line a)) same.0 g.answered) in
    let low = g.first y b here d.later in
    let high = d.first z a there g.later in
    let place : y ≡ z = omega (arith, low, high) in
    one-answer n g.line b a (At-one h z (Answered n g.line b) (Answered n g.line a) (subst (λ (m : ℕ). At h m (Answered n g.line b)) place here) g.answered)
