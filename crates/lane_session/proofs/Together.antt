-- Lanes run together: whenever a record comes, each lane that has a line left has one under way.
use Rattle.std.proofs.Common.{◌≡◌, ◌≤◌, ◌<◌, ◌-◌, ◌⊎◌, inl, inr, ℕ, zero, suc, List, [], ◌∷◌, ◌++◌, length, take, slice_get, All, true, false, cond, nat_eq, Option, Some, None, refl, sym, ap, subst, ◌∙◌, arith}
use Rattle.std.proofs.lemmas.Bool.{cases_lt}
use Rattle.world_model.specs.declared.entry.Entry.{Entry}
use Rattle.world_model.specs.declared.entry.Entry.TheVariants.{Began, Answered, Dialed, Sent, Executed, Foreign, Flushed, Reboot, Delivered, Failed, Clock}
use Rattle.world_model.specs.declared.op.Op.{Op}
use Rattle.world_model.specs.Entries.{At}
use Rattle.world_model.specs.Follows.{begun}
use Rattle.world_model.specs.LanesTogether.{LineAnswered, IsBusy, HasBegun, LanesTogether}
use Rattle.world_model.specs.Operations.{AnsweredBefore}
use Rattle.world_model.proofs.Places.{At-grow, At-below, At-cases, At-one, At-back}
use Rattle.nfs_script.specs.Asked.{IsAskedLine}
use Rattle.nfs_script.specs.declared.script.ScriptLine.{ScriptLine}
use Rattle.lane_session.specs.declared.lanes.Place.{Place}
use Rattle.lane_session.specs.declared.running.Session.{Session}
use Rattle.lane_session.specs.Holding.{AreQuiet}
use Rattle.lane_session.specs.LaneMarks.{IsRunning, IsResting}
use Rattle.lane_session.specs.Endings.{entries_of}
use Rattle.lane_session.specs.Places.{IsOpen, IsPlaced}
use Rattle.lane_session.specs.TogetherFrom.{TogetherFrom}
use Rattle.lane_session.proofs.Asking.{asked-at}
use Rattle.lane_session.proofs.Placing.{entries-append}

-- ---- places among the lines of a lane

-- a line of the lane, among all its lines
pub record IsAmong (es : List Entry) (e : Entry) : Type 0 where
  pub at : ℕ
  pub here : At es at e

among-later : (es : List Entry) (d e : Entry) → IsAmong es e → IsAmong (d ∷ es) e
among-later es d e a = record { at = suc a.at; here = a.here }

among-after : (a b : List Entry) (e : Entry) → IsAmong b e → IsAmong (a ++ b) e
among-after [] b e here = here
among-after (d ∷ a) b e here = among-later (a ++ b) d e (among-after a b e here)

module _ (lane line : ℕ) (op : Op) where
  abbrev mine : Entry
  mine = Began lane line op

  own-first : (es : List Entry) → IsAmong (begun lane (mine ∷ es)) mine
  own-first es = (elim (nat_eq lane lane) as (λ b. nat_eq lane lane ≡ b → IsAmong (cond b (mine ∷ begun lane es) (begun lane es)) mine) [
    | true ↦ λ q. record { at = 0; here = refl }
    | false ↦ λ q. absurd (Rattle.std.proofs.lemmas.Bool.eqb-false lane lane q refl)
  ]) refl

  -- one that began stands among the lines of its lane
  pub own-begun : (es : List Entry) (i : ℕ) → At es i mine → IsAmong (begun lane es) mine
  own-begun [] i at = absurd cc
  own-begun (e ∷ es) zero at = let is : e ≡ mine = cc in subst (λ (d : Entry). IsAmong (begun lane (d ∷ es)) mine) (sym is) (own-first es)
  own-begun (Began l n o ∷ es) (suc i) at =
      let rest = own-begun es i at in
      elim (nat_eq l lane) as (λ b. IsAmong (cond b (Began l n o ∷ begun lane es) (begun lane es)) mine) [
        | true ↦ among-later (begun lane es) (Began l n o) mine rest
        | false ↦ rest
      ]
  own-begun (Answered l n a ∷ es) (suc i) at = own-begun es i at
  own-begun (Dialed port ∷ es) (suc i) at = own-begun es i at
  own-begun (Sent bytes ∷ es) (suc i) at = own-begun es i at
  own-begun (Executed xid call reply ∷ es) (suc i) at = own-begun es i at
  own-begun (Foreign call reply ∷ es) (suc i) at = own-begun es i at
  own-begun (Flushed file from len ∷ es) (suc i) at = own-begun es i at
  own-begun (Reboot verf ∷ es) (suc i) at = own-begun es i at
  own-begun (Delivered bytes ∷ es) (suc i) at = own-begun es i at
  own-begun (Failed ∷ es) (suc i) at = own-begun es i at
  own-begun (Clock ms ∷ es) (suc i) at = own-begun es i at

-- and one of those stands in the history
pub in-history : (lane : ℕ) (es : List Entry) (j : ℕ) (e : Entry) → At (begun lane es) j e → IsAmong es e
in-history lane [] j e at = absurd cc
in-history lane (Began l n o ∷ es) j e at = (elim (nat_eq l lane) as (λ b. At (cond b (Began l n o ∷ begun lane es) (begun lane es)) j e → IsAmong (Began l n o ∷ es) e) [
  | true ↦ λ here. by j (λ i there. in-history lane es i e there) here
  | false ↦ λ here. among-later es (Began l n o) e (in-history lane es j e here)
]) at
  where
    by : (j : ℕ) → ((i : ℕ) → At (begun lane es) i e → IsAmong es e) → At (Began l n o ∷ begun lane es) j e → IsAmong (Began l n o ∷ es) e
    by zero later here = record { at = 0; here = here }
    by (suc i) later here = among-later es (Began l n o) e (later i here)
in-history lane (Answered l n a ∷ es) j e at = among-later es (Answered l n a) e (in-history lane es j e at)
in-history lane (Dialed port ∷ es) j e at = among-later es (Dialed port) e (in-history lane es j e at)
in-history lane (Sent bytes ∷ es) j e at = among-later es (Sent bytes) e (in-history lane es j e at)
in-history lane (Executed xid call reply ∷ es) j e at = among-later es (Executed xid call reply) e (in-history lane es j e at)
in-history lane (Foreign call reply ∷ es) j e at = among-later es (Foreign call reply) e (in-history lane es j e at)
in-history lane (Flushed file from len ∷ es) j e at = among-later es (Flushed file from len) e (in-history lane es j e at)
in-history lane (Reboot verf ∷ es) j e at = among-later es (Reboot verf) e (in-history lane es j e at)
in-history lane (Delivered bytes ∷ es) j e at = among-later es (Delivered bytes) e (in-history lane es j e at)
in-history lane (Failed ∷ es) j e at = among-later es Failed e (in-history lane es j e at)
in-history lane (Clock ms ∷ es) j e at = among-later es (Clock ms) e (in-history lane es j e at)

-- ---- the history goes on

module _ (h : List Entry) (e : Entry) where
  pub begun-back : (n : ℕ) → n ≤ length h → HasBegun (h ++ e ∷ []) n → HasBegun h n
  begun-back n le b = record {
    at = b.at;
    lane = b.lane;
    line = b.line;
    op = b.op;
    began = let before = b.before in At-back h (e ∷ []) b.at (Began b.lane b.line b.op) b.began (omega (arith, before, le));
    before = b.before;
  }

  answered-on : (lane line n : ℕ) → LineAnswered h lane line n → LineAnswered (h ++ e ∷ []) lane line n
  answered-on lane line n a = record { at = a.at; answer = a.answer; answered = At-grow h (e ∷ []) a.at (Answered lane line a.answer) a.answered; before = a.before }

  answered-back : (x n : ℕ) → n ≤ length h → x < length h → AnsweredBefore (h ++ e ∷ []) x n → AnsweredBefore h x n
  answered-back x n le lt a =
      let before = a.before in
      record {
        lane = a.lane;
        op = a.op;
        y = a.y;
        answer = a.answer;
        ended = record {
          line = a.ended.line;
          began = At-back h (e ∷ []) x (Began a.lane a.ended.line a.op) a.ended.began lt;
          answered = At-back h (e ∷ []) a.y (Answered a.lane a.ended.line a.answer) a.ended.answered (omega (arith, before, le));
          later = a.ended.later;
          first = λ j other at after. a.ended.first j other (At-grow h (e ∷ []) j (Answered a.lane a.ended.line other) at) after;
        };
        before = a.before;
      }

  busy-on : (lane n : ℕ) → n ≤ length h → IsBusy h lane n → IsBusy (h ++ e ∷ []) lane n
  busy-on lane n le b = record {
    x = b.x;
    op = b.op;
    under_way = record {
      line = b.under_way.line;
      began = At-grow h (e ∷ []) b.x (Began lane b.under_way.line b.op) b.under_way.began;
      before = b.under_way.before;
      unanswered = λ a. b.under_way.unanswered (answered-back b.x n le (At-below h b.x (Began lane b.under_way.line b.op) b.under_way.began) a);
    };
  }

  -- by an entry before which each lane is so, where it is a record that came
  pub together-step : (from : ℕ) (script : List Entry) → TogetherFrom from script h
      → ((bytes : List ℕ) → e ≡ Delivered bytes → (k lane line : ℕ) (op : Op) → At script k (Began lane line op) → LineAnswered h lane line (length h) ⊎ IsBusy h lane (length h))
      → TogetherFrom from script (h ++ e ∷ [])
  together-step from script t new n bytes at since k lane line op of = elim (At-cases h e n (Delivered bytes) at) [
    | inl old ↦
        let below : n ≤ length h = let lt = At-below h n (Delivered bytes) old in omega (arith, lt) in
        elim (t n bytes old since k lane line op of) [
          | inl a ↦ inl (answered-on lane line n a)
          | inr b ↦ inr (busy-on lane n below b)
        ]
    | inr now ↦
        elim (new bytes now.1 k lane line op of) [
          | inl a ↦ inl (subst (LineAnswered (h ++ e ∷ []) lane line) (sym now.0) (answered-on lane line (length h) a))
          | inr b ↦ inr (subst (IsBusy (h ++ e ∷ []) lane) (sym now.0) (busy-on lane (length h) (omega arith) b))
        ]
  ]

-- by an entry that is no record
pub together-on : (from : ℕ) (script h : List Entry) (e : Entry) → ((bytes : List ℕ) → e ≡ Delivered bytes → ⊥) → TogetherFrom from script h → TogetherFrom from script (h ++ e ∷ [])
together-on from script h e none t = together-step h e from script t (λ bytes is k lane line op of. absurd (none bytes is))

-- ---- no line has begun

pub none-began : (h : List Entry) (i lane line : ℕ) (op : Op) → At h i (Began lane line op) → begun lane h ≡ [] → ⊥
none-began h i lane line op at none =
    let a = own-begun lane line op h i at in
    let here : At [] a.at (Began lane line op) = subst (λ (es : List Entry). At es a.at (Began lane line op)) none a.here in cc

pub together-none : (script h : List Entry) → ((lane : ℕ) → begun lane h ≡ []) → LanesTogether script h
together-none script h none n bytes at b k lane line op of = absurd (none-began h b.at b.lane b.line b.op b.began (none b.lane))

-- no record came since
pub together-fresh : (script h : List Entry) → TogetherFrom (length h) script h
together-fresh script h n bytes at since k lane line op of = absurd (let below = At-below h n (Delivered bytes) at in omega (arith, below, since))

-- Where no line had begun before the place, no record that came after the first line is left out.
pub together-whole : (script h k more : List Entry) → k ≡ h ++ more → ((lane : ℕ) → begun lane h ≡ []) → TogetherFrom (length h) script k → LanesTogether script k
together-whole script h k more is none t n bytes at b i lane line op of = elim (cases_lt b.at (length h)) [
  | inl early ↦ absurd (none-began h b.at b.lane b.line b.op (At-back h more b.at (Began b.lane b.line b.op) (subst (λ (x : List Entry). At x b.at (Began b.lane b.line b.op)) is b.began) early) (none b.lane))
  | inr late ↦ t n bytes at (let before = b.before in omega (arith, before, late)) i lane line op of
]

-- ---- each lane has told its answer, and has no line left where none is under way

line-at : (script : List ScriptLine) (k : ℕ) (e : Entry) → At (entries_of script) k e → (l : ScriptLine) × (slice_get script k ≡ Some l) × (e ≡ Began l.lane l.line l.op)
line-at [] k e at = absurd cc
line-at (l ∷ ls) zero e at = (l, refl, cc)
line-at (l ∷ ls) (suc k) e at = line-at ls k e at

place-at : (ps : List Place) (n : ℕ) → n < length ps → (p : Place) × (slice_get ps n ≡ Some p)
place-at [] n lt = absurd (omega (arith, lt))
place-at (p ∷ ps) zero lt = (p, refl)
place-at (p ∷ ps) (suc n) lt = place-at ps n (omega (arith, lt))

all-taken : (script : List ScriptLine) (n : ℕ) → n ≡ length script → take n script ≡ script
all-taken [] zero is = refl
all-taken [] (suc n) is = refl
all-taken (x ∷ xs) zero is = absurd (omega (arith, is))
all-taken (x ∷ xs) (suc n) is = ap (λ (t : List ScriptLine). x ∷ t) (all-taken xs n (omega (arith, is)))

-- the line of a lane that is under way
running-busy : (h : List Entry) (lane line : ℕ) → IsRunning h lane line → IsBusy h lane (length h)
running-busy h lane line r = record {
  x = r.x;
  op = r.op;
  under_way = record {
    line = line;
    began = r.began;
    before = At-below h r.x (Began lane line r.op) r.began;
    unanswered = λ a.
        let same : Began a.lane a.ended.line a.op ≡ Began lane line r.op = At-one h r.x (Began a.lane a.ended.line a.op) (Began lane line r.op) a.ended.began r.began in
        let its_lane : a.lane ≡ lane = cc in
        let its_line : a.ended.line ≡ line = cc in
        r.unanswered a.y a.answer
        (subst (λ (m : ℕ). At h a.y (Answered lane m a.answer)) its_line (subst (λ (m : ℕ). At h a.y (Answered m a.ended.line a.answer)) its_lane a.ended.answered))
        a.ended.later;
  };
}

-- a line of a lane whose lines were all answered
resting-answered : (h : List Entry) (lane line : ℕ) (op : Op) → IsResting h lane → IsAmong h (Began lane line op) → LineAnswered h lane line (length h)
resting-answered h lane line op r here =
    let a : AnsweredBefore h here.at (length h) = r.answered here.at line op here.here in
    let same : Began a.lane a.ended.line a.op ≡ Began lane line op = At-one h here.at (Began a.lane a.ended.line a.op) (Began lane line op) a.ended.began here.here in
    let its_lane : a.lane ≡ lane = cc in
    let its_line : a.ended.line ≡ line = cc in
    record {
      at = a.y;
      answer = a.answer;
      answered = subst (λ (m : ℕ). At h a.y (Answered lane m a.answer)) its_line (subst (λ (m : ℕ). At h a.y (Answered m a.ended.line a.answer)) its_lane a.ended.answered);
      before = a.before;
    }

module _ (done script : List ScriptLine) (h : List Entry) (s : Session) (asked : All IsAskedLine script) (long : length s.lanes ≡ 16) (quiet : AreQuiet script s)
    (placed : (n : ℕ) (p : Place) → slice_get s.lanes n ≡ Some p → IsPlaced done script h (suc n) p) where
  lane-so : (k lane line : ℕ) (op : Op) (n : ℕ) (p : Place) → n < 16 → lane ≡ suc n → slice_get s.lanes n ≡ Some p → (o : Option ℕ) → p.line ≡ o → At (entries_of script) k (Began lane line op)
      → LineAnswered h lane line (length h) ⊎ IsBusy h lane (length h)
  lane-so k lane line op n p lt is there (Some own) under_way of =
      inr (subst (λ (m : ℕ). IsBusy h m (length h)) (sym is) (running-busy h (suc n) own (subst (IsOpen h (suc n)) under_way (placed n p there).open_line)))
  lane-so k lane line op n p lt is there None idle of =
      let begins : begun (suc n) h ≡ begun (suc n) (entries_of (done ++ script)) =
      (placed n p there).begins ∙ ap (λ (t : List ScriptLine). begun (suc n) (entries_of (done ++ t))) (all-taken script p.next ((quiet n lt).none p there idle)) in
      let later : IsAmong (entries_of done ++ entries_of script) (Began lane line op) = among-after (entries_of done) (entries_of script) (Began lane line op) (record { at = k; here = of }) in
      let both : IsAmong (entries_of (done ++ script)) (Began lane line op) = subst (λ (es : List Entry). IsAmong es (Began lane line op)) (sym (entries-append done script)) later in
      let among : IsAmong (begun lane (entries_of (done ++ script))) (Began lane line op) = own-begun lane line op (entries_of (done ++ script)) both.at both.here in
      let own : At (begun lane h) among.at (Began lane line op) =
      subst (λ (es : List Entry). At es among.at (Began lane line op)) (subst (λ (m : ℕ). begun m (entries_of (done ++ script)) ≡ begun m h) (sym is) (sym begins)) among.here in
      inl (resting-answered h lane line op (subst (IsResting h) (sym is) (subst (IsOpen h (suc n)) idle (placed n p there).open_line)) (in-history lane h among.at (Began lane line op) own))

  -- each line was answered, or its lane has one under way
  pub lanes-so : (k lane line : ℕ) (op : Op) → At (entries_of script) k (Began lane line op) → LineAnswered h lane line (length h) ⊎ IsBusy h lane (length h)
  lanes-so k lane line op of =
      let found = line-at script k (Began lane line op) of in
      let one = asked-at script k found.0 asked found.1 in
      let same : Began lane line op ≡ Began found.0.lane found.0.line found.0.op = found.2 in
      let its : lane ≡ found.0.lane = cc in
      let least = one.lane.least in
      let most = one.lane.most in
      let lt : lane - 1 < 16 = omega (arith, its, least, most) in
      let p = place-at s.lanes (lane - 1) (omega (arith, lt, long)) in
      lane-so k lane line op (lane - 1) p.0 lt (omega (arith, its, least)) p.1 p.0.line refl of

  pub together-quiet : (from : ℕ) (e : Entry) → TogetherFrom from (entries_of script) h → TogetherFrom from (entries_of script) (h ++ e ∷ [])
  together-quiet from e t = together-step h e from (entries_of script) t (λ bytes is k lane line op of. lanes-so k lane line op of)
