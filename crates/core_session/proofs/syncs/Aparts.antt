-- How an operation that was to settle a byte ended: it settled it, came over it, or is a put that saved another file, as the last record says until the
-- answer is noted.
use Rattle.core_session.proofs.Prelude.{◌≡◌, ◌≢◌, ◌≤◌, ◌⊎◌, inl, inr, ℕ, Bool, true, false, nat_eq, List, [], ◌∷◌, ◌++◌, length, Some, slice_get, refl, sym, ap, subst, ◌∙◌, arith, eqb-true, eqb-false, Answer, Value, Entry, Began, Answered, Delivered, Call, Op, At, Ended, UnderWay, LastReply, NamesFile, IsDelivered, FirstSent-grow, At-one, At-grow, At-below, At-cases, length_last, Lane, State, Over, AnswersAt, View, AreApart, MayHear, IsOpenLine, always-later, LanesKnown, Runs, lanes-under-way, number_of, still-there, to-map, ended-grow}
use Rattle.world_model.specs.declared.answer.Answer.TheVariants as answers
use Rattle.core_session.proofs.drops.KnowingAlong.{IsPlain, NotedBefore}
use Rattle.core_session.proofs.drops.LaneIs.{number-is}
use Rattle.core_session.proofs.drops.Noting.{ended-at}
use Rattle.core_session.proofs.syncs.Causes.{IsPut}
use Rattle.core_session.proofs.syncs.PutEnds.{LastNames, last-names-later, last-names-one}
use Rattle.core_session.proofs.syncs.Turning.{Turns, under-answers, under-plain}

-- ---- the last record, one entry later

reply-next : (h : List Entry) (e : Entry) (call : Call) → (IsDelivered e → ⊥) → LastReply h (length h) call → LastReply (h ++ e ∷ []) (length (h ++ e ∷ [])) call
reply-next h e call quiet k = record {
  at = k.at;
  bytes = k.bytes;
  xid = k.xid;
  sent_at = k.sent_at;
  record_sent = k.record_sent;
  got = At-grow h (e ∷ []) k.at (Delivered k.bytes) k.got;
  before = let more = length_last h e in let low = k.before in omega (arith, more, low);
  last = λ j b at within. by j b (At-cases h e j (Delivered b) at);
  under = k.under;
  sent = FirstSent-grow h (e ∷ []) k.sent_at k.xid k.record_sent k.sent;
  spells = k.spells;
  asked = k.asked;
}
  where
    by : (j : ℕ) (b : List ℕ) → At h j (Delivered b) ⊎ ((j ≡ length h) × (e ≡ Delivered b)) → j ≤ k.at
    by j b (inl there) = k.last j b there (At-below h j (Delivered b) there)
    by j b (inr now) = absurd (quiet (b, now.1))

pub names-next : (h : List Entry) (e : Entry) (file : List ℕ) → (IsDelivered e → ⊥) → LastNames h (length h) file → LastNames (h ++ e ∷ []) (length (h ++ e ∷ [])) file
names-next h e file quiet l = record { call = l.call; names = l.names; last = reply-next h e l.call quiet l.last }

-- ---- a put that saved another file

-- It has its answer, which isn't noted yet.
pub record Apart (f : List ℕ) (h : List Entry) (v : View) (x : ℕ) : Type 0 where
  pub k : ℕ
  pub number : ℕ
  pub op : Op
  pub value : Value
  pub puts : IsPut op
  pub there : slice_get v.lanes k ≡ Some (record { number = number; state = Over (answers.Done value) })
  pub under : UnderWay h number x (length h) op
  pub file : List ℕ
  pub off : f ≢ file
  pub last : LastNames h (length h) file

-- and so it was as the answer was noted
pub record Clash (f : List ℕ) (h : List Entry) (e : Entry) (x : ℕ) : Type 0 where
  pub lane : ℕ
  pub op : Op
  pub answer : Answer
  pub puts : IsPut op
  pub ended : Ended (h ++ e ∷ []) lane x op (length h) answer
  pub file : List ℕ
  pub off : f ≢ file
  pub last : LastNames h (length h) file

-- no record comes then
pub apart-heard : (f : List ℕ) (h : List Entry) (v : View) (x : ℕ) → MayHear v → Apart f h v x → ⊥
apart-heard f h v x may a = may.noted a.k a.number (answers.Done a.value) a.there

-- it isn't noted
pub apart-done : (f : List ℕ) (h : List Entry) (v : View) (x : ℕ) → Apart f h v x → (lane y : ℕ) (op : Op) (a : Answer) → Ended h lane x op y a → ⊥
apart-done f h v x a lane y op answer e =
    a.under.unanswered (record { lane = lane; op = op; y = y; answer = answer; ended = e; before = At-below h y (Answered lane e.line answer) e.answered })

-- a step of another lane
pub apart-turns : (f : List ℕ) (h h2 : List Entry) (old new : View) (at number x : ℕ) (op : Op) (state : State) → Turns f h h2 old new at number x op state
    → ((g : List ℕ) → LastNames h (length h) g → LastNames h2 (length h2) g) → (y : ℕ) → Apart f h old y → Apart f h2 new y
apart-turns f h h2 old new at number x op state t on y a = by (nat_eq a.k at) refl
  where
    by : (b : Bool) → nat_eq a.k at ≡ b → Apart f h2 new y
    by true e = absurd (t.unready a.number (answers.Done a.value) (ap (slice_get old.lanes) (sym (eqb-true a.k at e)) ∙ a.there))
    by false e =
        let off = eqb-false a.k at e in
        record {
          k = a.k;
          number = a.number;
          op = a.op;
          value = a.value;
          puts = a.puts;
          there = t.but.stays a.k (record { number = a.number; state = Over (answers.Done a.value) }) a.there off;
          under = t.on a.number y a.op (t.apart a.k (record { number = a.number; state = Over (answers.Done a.value) }) a.there off) a.under;
          file = a.file;
          off = a.off;
          last = on a.file a.last;
        }

-- an entry of no operation
pub apart-same : (f : List ℕ) (h : List Entry) (e : Entry) (old new : View) → IsPlain e → NotedBefore e old → new.lanes ≡ old.lanes → (y : ℕ) → Apart f h old y → Apart f (h ++ e ∷ []) new y
apart-same f h e old new plain noted lanes y a = record {
  k = a.k;
  number = a.number;
  op = a.op;
  value = a.value;
  puts = a.puts;
  there = ap (λ (l : List Lane). slice_get l a.k) lanes ∙ a.there;
  under = under-plain h e a.number y a.op plain a.under;
  file = a.file;
  off = a.off;
  last = names-next h e a.file (λ d. apart-heard f h old y (noted d.0 d.1) a) a.last;
}

answered-other : (lane line : ℕ) (answer : Answer) → IsDelivered (Answered lane line answer) → ⊥
answered-other lane line answer d = let e = d.1 in absurd cc

abbrev over_lane : ℕ → Value → Lane
over_lane number value = record { number = number; state = Over (answers.Done value) }

-- an answer is noted: another, or its own
pub apart-answers : (f : List ℕ) (h : List Entry) (old new : View) (at lane line : ℕ) (answer : Answer) → LanesKnown h old → IsOpenLine h lane line → AnswersAt old at lane (Some answer) new → (y : ℕ)
    → Apart f h old y → Apart f (h ++ Answered lane line answer ∷ []) new y ⊎ Clash f h (Answered lane line answer) y
apart-answers f h old new at lane line answer known open_line s y a = by (nat_eq a.k at) refl
  where
    apart : AreApart old.lanes
    apart = (lanes-under-way h old known).apart

    runs : Runs h lane
    runs = known.busy at lane (to-map number_of old.lanes at (record { number = lane; state = Over s.answer }) s.there)

    by : (b : Bool) → nat_eq a.k at ≡ b → Apart f (h ++ Answered lane line answer ∷ []) new y ⊎ Clash f h (Answered lane line answer) y
    by true e =
        let here : slice_get old.lanes at ≡ Some (over_lane a.number a.value) = ap (slice_get old.lanes) (sym (eqb-true a.k at e)) ∙ a.there in
        let number : a.number ≡ lane = number-is (Over (answers.Done a.value)) (Over s.answer) a.number lane (sym here ∙ s.there) in
        inr (record {
          lane = lane;
          op = a.op;
          answer = answer;
          puts = a.puts;
          ended = ended-at h lane line y a.op answer open_line runs (subst (λ (m : ℕ). UnderWay h m y (length h) a.op) number a.under);
          file = a.file;
          off = a.off;
          last = a.last;
        })
    by false e =
        let off = eqb-false a.k at e in
        let stays = still-there old.lanes at a.k (over_lane a.number a.value) off a.there in
        inl (record {
          k = stays.0;
          number = a.number;
          op = a.op;
          value = a.value;
          puts = a.puts;
          there = ap (λ (w : View). slice_get w.lanes stays.0) s.is ∙ stays.1;
          under = under-answers h lane line answer a.number y a.op (λ same. off (apart a.k at (over_lane a.number a.value) (record { number = lane; state = Over s.answer }) a.there s.there same)) a.under;
          file = a.file;
          off = a.off;
          last = names-next h (Answered lane line answer) a.file (answered-other lane line answer) a.last;
        })

-- ---- it can't be where the put's last record names the file

began-parts : (a b c d : ℕ) (p q : Op) → Began a b p ≡ Began c d q → (a ≡ c) × (b ≡ d) × (p ≡ q)
began-parts a b c d p q e = (cc, cc, cc)

ended-later : (h more : List Entry) (lane x y : ℕ) (op : Op) (a : Answer) → Ended h lane x op y a → Ended (h ++ more) lane x op y a
ended-later h more lane x y op a e = always-later (λ g. Ended g lane x op y a) (λ g z d. ended-grow g z lane x op y a d) h more e

-- the operation is the same, and is answered there
pub once : (h : List Entry) (x lane other y z : ℕ) (op its : Op) (a b : Answer) → Ended h lane x op y a → Ended h other x its z b → (y ≡ z) × (op ≡ its)
once h x lane other y z op its a b d e =
    let same = began-parts lane d.line other e.line op its (At-one h x (Began lane d.line op) (Began other e.line its) d.began e.began) in
    let there : At h z (Answered lane d.line b) = subst (λ (l : ℕ). At h z (Answered lane l b)) (sym same.1) (subst (λ (n : ℕ). At h z (Answered n e.line b)) (sym same.0) e.answered) in
    let here : At h y (Answered other e.line a) = subst (λ (l : ℕ). At h y (Answered other l a)) same.1 (subst (λ (n : ℕ). At h y (Answered n d.line a)) same.0 d.answered) in
    let low = d.first z b there e.later in
    let high = e.first y a here d.later in
    (omega (arith, low, high), same.2)

-- the operation that ended so
pub clash-op : (H h rest : List Entry) (e : Entry) → (h ++ e ∷ []) ++ rest ≡ H → (f : List ℕ) (x : ℕ) (c : Clash f h e x) (lane j : ℕ) (op : Op) (a : Answer) → Ended H lane x op j a → (length h ≡ j) × (c.op ≡ op)
clash-op H h rest e is f x c lane j op a ended =
    once H x c.lane lane (length h) j c.op op c.answer a
    (subst (λ (g : List Entry). Ended g c.lane x c.op (length h) c.answer) is (ended-later (h ++ e ∷ []) rest c.lane x (length h) c.op c.answer c.ended)) ended

pub clash-not : (H h rest : List Entry) (e : Entry) → (h ++ e ∷ []) ++ rest ≡ H → (f : List ℕ) (x : ℕ) (c : Clash f h e x) (lane j : ℕ) (op : Op) (a : Answer) → Ended H lane x op j a
    → (call : Call) → NamesFile f call → LastReply H j call → ⊥
clash-not H h rest e is f x c lane j op a ended call names last =
    let k = clash-op H h rest e is f x c lane j op a ended in
    let grown : LastNames (h ++ e ∷ []) (length h) c.file = last-names-later h (e ∷ []) (length h) c.file (omega arith) c.last in
    let whole : LastNames H j c.file =
    subst (λ (n : ℕ). LastNames H n c.file) k.0
    (subst (λ (g : List Entry). LastNames g (length h) c.file) is
    (last-names-later (h ++ e ∷ []) rest (length h) c.file (let more = length_last h e in omega (arith, more)) grown)) in
    c.off (sym (last-names-one H j c.file f call whole last names))

-- ---- how it ended

pub data Ending (Came P : Type 0) (f : List ℕ) (h : List Entry) (v : View) (x : ℕ) : Type 0 where
  it_settled : P → Ending Came P f h v x
  it_came : Came → Ending Came P f h v x
  it_left : Apart f h v x → Ending Came P f h v x

pub ending-map : (Came P Q : Type 0) (f : List ℕ) (h h2 : List Entry) (v u : View) (x : ℕ) → (P → Q) → (Apart f h v x → Apart f h2 u x) → Ending Came P f h v x → Ending Came Q f h2 u x
ending-map Came P Q f h h2 v u x conv on (it_settled k) = it_settled (conv k)
ending-map Came P Q f h h2 v u x conv on (it_came k) = it_came k
ending-map Came P Q f h h2 v u x conv on (it_left k) = it_left (on k)
