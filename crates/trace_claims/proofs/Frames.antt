-- How the words on operations go on where a history grows: what an operation writes, it goes on writing.
use Rattle.std.proofs.Common.{◌≡◌, ◌<◌, ◌≤◌, ◌⊎◌, inl, inr, ℕ, suc, zero, List, [], ◌∷◌, ◌++◌, length, refl, ◌∙◌, ap, subst, arith}
use Rattle.std.proofs.lemmas.Bool.{cases_lt}
use Rattle.std.proofs.lemmas.Bool.Decides.{eqb_tells}
use Rattle.world_model.specs.declared.answer.Answer.{Answer}
use Rattle.world_model.specs.declared.answer.Answer.TheVariants.{Done}
use Rattle.world_model.specs.declared.entry.Entry.{Entry}
use Rattle.world_model.specs.declared.entry.Entry.TheVariants.{Began, Answered, Dialed, Sent, Executed, Foreign, Flushed, Reboot, Delivered, Failed, Clock}
use Rattle.world_model.specs.declared.message.Call.{Call}
use Rattle.world_model.specs.declared.op.Op.{Op}
use Rattle.world_model.specs.declared.op.Op.TheVariants as ops
use Rattle.world_model.specs.Entries.{At}
use Rattle.claims.specs.Modes.{Modes}
use Rattle.world_model.specs.Mounts.{Origin}
use Rattle.world_model.specs.Waiting.{FirstSent}
use Rattle.world_model.specs.Leads.{Leads, root, step}
use Rattle.world_model.specs.Operations.{Ended, AnsweredBefore, EndsAt, answered, unanswered, LastReply}
use Rattle.claims.specs.Slots.{Finds, asked, looked_up, made, Opens, InSlot, IsOf}
use Rattle.claims.specs.Touched.{WritesByte, write, fill, put}
use Rattle.world_model.proofs.Places.{At-grow, At-below, At-back, At-last, At-cases, At-one, length_last}
use Rattle.world_model.proofs.Growth.{FirstSent-grow, Asked-grow, Asked-wide, Rooted-grow, Rooted-wide}

-- ---- the end of an operation

pub Ended-grow : (h more : List Entry) (lane x : ℕ) (op : Op) (y : ℕ) (a : Answer) → Ended h lane x op y a → Ended (h ++ more) lane x op y a
Ended-grow h more lane x op y a d = record {
  line = d.line;
  began = At-grow h more x (Began lane d.line op) d.began;
  answered = At-grow h more y (Answered lane d.line a) d.answered;
  later = d.later;
  first = λ j b at lt.
      elim (cases_lt j (length h)) [
        | inl below ↦ d.first j b (At-back h more j (Answered lane d.line b) at below) lt
        | inr le ↦ let below = At-below h y (Answered lane d.line a) d.answered in omega (arith, le, below)
      ];
}

pub Ended-back : (h more : List Entry) (lane x : ℕ) (op : Op) (y : ℕ) (a : Answer) → y < length h → Ended (h ++ more) lane x op y a → Ended h lane x op y a
Ended-back h more lane x op y a below d = record {
  line = d.line;
  began = At-back h more x (Began lane d.line op) d.began (omega (arith, d.later, below));
  answered = At-back h more y (Answered lane d.line a) d.answered below;
  later = d.later;
  first = λ j b at lt. d.first j b (At-grow h more j (Answered lane d.line b) at) lt;
}

pub Before-grow : (h more : List Entry) (x n : ℕ) → AnsweredBefore h x n → AnsweredBefore (h ++ more) x n
Before-grow h more x n b = record { lane = b.lane; op = b.op; y = b.y; answer = b.answer; ended = Ended-grow h more b.lane x b.op b.y b.answer b.ended; before = b.before }

pub Before-back : (h more : List Entry) (x n : ℕ) → n ≤ length h → AnsweredBefore (h ++ more) x n → AnsweredBefore h x n
Before-back h more x n within b = record { lane = b.lane; op = b.op; y = b.y; answer = b.answer; ended = Ended-back h more b.lane x b.op b.y b.answer (omega (arith, b.before, within)) b.ended; before = b.before }

-- ---- the last reply, and what an open finds

pub FirstSent-back : (h more : List Entry) (i x : ℕ) (bytes : List ℕ) → i < length h → FirstSent (h ++ more) i x bytes → FirstSent h i x bytes
FirstSent-back h more i x bytes below f = record {
  sent = At-back h more i (Sent bytes) f.sent below;
  under = f.under;
  first = λ j b at has. f.first j b (At-grow h more j (Sent b) at) has;
}

pub Last-grow : (h more : List Entry) (n : ℕ) (call : Call) → n ≤ length h → LastReply h n call → LastReply (h ++ more) n call
Last-grow h more n call within l = record {
  at = l.at;
  bytes = l.bytes;
  xid = l.xid;
  sent_at = l.sent_at;
  record_sent = l.record_sent;
  got = At-grow h more l.at (Delivered l.bytes) l.got;
  before = l.before;
  last = λ j b at lt. l.last j b (At-back h more j (Delivered b) at (omega (arith, lt, within))) lt;
  under = l.under;
  sent = FirstSent-grow h more l.sent_at l.xid l.record_sent l.sent;
  spells = l.spells;
  asked = l.asked;
}

pub Last-back : (h more : List Entry) (n : ℕ) (call : Call) → n ≤ length h → LastReply (h ++ more) n call → LastReply h n call
Last-back h more n call within l = record {
  at = l.at;
  bytes = l.bytes;
  xid = l.xid;
  sent_at = l.sent_at;
  record_sent = l.record_sent;
  got = At-back h more l.at (Delivered l.bytes) l.got (omega (arith, l.before, within));
  before = l.before;
  last = λ j b at lt. l.last j b (At-grow h more j (Delivered b) at) lt;
  under = l.under;
  sent = FirstSent-back h more l.sent_at l.xid l.record_sent (omega (arith, l.asked, l.before, within)) l.sent;
  spells = l.spells;
  asked = l.asked;
}

pub Finds-grow : (m : Modes) (h more : List Entry) (y : ℕ) (f : List ℕ) → y ≤ length h → Finds m h y f → Finds m (h ++ more) y f
unfolding Last-grow
Finds-grow m h more y f within (asked l) = asked (Last-grow h more y _ within l)
Finds-grow m h more y f within (looked_up mode d name attr dir l spells) = looked_up mode d name attr dir (Last-grow h more y _ within l) spells
Finds-grow m h more y f within (made mode d name making attr wcc l spells) = made mode d name making attr wcc (Last-grow h more y _ within l) spells

pub Finds-back : (m : Modes) (h more : List Entry) (y : ℕ) (f : List ℕ) → y ≤ length h → Finds m (h ++ more) y f → Finds m h y f
unfolding Last-back
Finds-back m h more y f within (asked l) = asked (Last-back h more y _ within l)
Finds-back m h more y f within (looked_up mode d name attr dir l spells) = looked_up mode d name attr dir (Last-back h more y _ within l) spells
Finds-back m h more y f within (made mode d name making attr wcc l spells) = made mode d name making attr wcc (Last-back h more y _ within l) spells

-- ---- slots

pub Opens-grow : (m : Modes) (h more : List Entry) (lane slot x y : ℕ) (f : List ℕ) → Opens m h lane slot x y f → Opens m (h ++ more) lane slot x y f
Opens-grow m h more lane slot x y f o =
    let below = At-below h y (Answered lane o.ended.line (Done o.value)) o.ended.answered in
    record { mode = o.mode; path = o.path; value = o.value; ended = Ended-grow h more lane x (ops.OpenFile slot o.mode o.path) y (Done o.value) o.ended; finds = Finds-grow m h more y f (omega (arith, below)) o.finds }

pub InSlot-grow : (m : Modes) (h more : List Entry) (n lane slot x : ℕ) (f : List ℕ) → n ≤ length h → InSlot m h n lane slot x f → InSlot m (h ++ more) n lane slot x f
InSlot-grow m h more n lane slot x f within s = record {
  y = s.y;
  opens = Opens-grow m h more lane slot x s.y f s.opens;
  before = s.before;
  kept = λ c k answer e after lt. s.kept c k answer (Ended-back h more lane c (ops.Close slot) k answer (omega (arith, lt, within)) e) after lt;
}

pub IsOf-grow : (m : Modes) (h more : List Entry) (x : ℕ) (op : Op) (f : List ℕ) → IsOf m h x op f → IsOf m (h ++ more) x op f
IsOf-grow m h more x op f o =
    let below = At-below h x (Began o.lane o.line op) o.began in
    record { lane = o.lane; line = o.line; slot = o.slot; open_at = o.open_at; began = At-grow h more x (Began o.lane o.line op) o.began; works_on = o.works_on; holds = InSlot-grow m h more x o.lane o.slot o.open_at f (omega (arith, below)) o.holds }

-- ---- paths

pub Leads-grow : (origin : Origin) (h more : List Entry) (n : ℕ) (path : List (List ℕ)) (f : List ℕ) → Leads origin h n path f → Leads origin (h ++ more) n path f
Leads-grow origin h more n path f (root _ _ is rooted) = root path f is (Rooted-grow origin h more n f rooted)
Leads-grow origin h more n path f (step _ earlier _ name d attr dir is leads heard) = step path earlier f name d attr dir is (Leads-grow origin h more n earlier d leads) (Asked-grow h more 0 n _ _ heard)

pub Leads-wide : (origin : Origin) (h : List Entry) (n k : ℕ) (path : List (List ℕ)) (f : List ℕ) → n ≤ k → Leads origin h n path f → Leads origin h k path f
Leads-wide origin h n k path f le (root _ _ is rooted) = root path f is (Rooted-wide origin h n k f le rooted)
Leads-wide origin h n k path f le (step _ earlier _ name d attr dir is leads heard) = step path earlier f name d attr dir is (Leads-wide origin h n k earlier d le leads) (Asked-wide h 0 n 0 k _ _ (omega arith) le heard)

-- ---- whether one more entry answers an operation

answer-or-not : (lane line : ℕ) (e : Entry) → ((a : Answer) × (e ≡ Answered lane line a)) ⊎ ((a : Answer) → e ≡ Answered lane line a → ⊥)
answer-or-not lane line (Answered k n a) =
    elim (eqb_tells k lane) [
      | inl l ↦ elim (eqb_tells n line) [
        | inl s ↦ inl (a, ap (λ z. Answered z n a) l.1 ∙ ap (λ z. Answered lane z a) s.1)
        | inr s ↦ inr (λ b q. s.1 (same-line k n a b q))
      ]
      | inr l ↦ inr (λ b q. l.1 (same-lane k n a b q))
    ]
  where
    same-line : (k n : ℕ) (a b : Answer) → Answered k n a ≡ Answered lane line b → n ≡ line
    same-line k n a b q = cc

    same-lane : (k n : ℕ) (a b : Answer) → Answered k n a ≡ Answered lane line b → k ≡ lane
    same-lane k n a b q = cc
answer-or-not lane line (Began k n op) = inr (λ b q. absurd (cc))
answer-or-not lane line (Dialed port) = inr (λ b q. absurd (cc))
answer-or-not lane line (Sent bytes) = inr (λ b q. absurd (cc))
answer-or-not lane line (Executed xid call reply) = inr (λ b q. absurd (cc))
answer-or-not lane line (Foreign call reply) = inr (λ b q. absurd (cc))
answer-or-not lane line (Flushed file from len) = inr (λ b q. absurd (cc))
answer-or-not lane line (Reboot verf) = inr (λ b q. absurd (cc))
answer-or-not lane line (Delivered bytes) = inr (λ b q. absurd (cc))
answer-or-not lane line Failed = inr (λ b q. absurd (cc))
answer-or-not lane line (Clock ms) = inr (λ b q. absurd (cc))

-- no answer of this lane and line between x and n
abbrev pub NoAnswer : List Entry → (lane line x n : ℕ) → Type 0
NoAnswer h lane line x n = (j : ℕ) (a : Answer) → At h j (Answered lane line a) → x < j → j < n → ⊥

last-answer : (h : List Entry) (lane line x : ℕ) (op : Op) → At h x (Began lane line op) → (AnsweredBefore h x (length h) → ⊥) → (n : ℕ) → NoAnswer h lane line x n → NoAnswer h lane line x (suc n)
last-answer h lane line x op began none n earlier j a at after lt = elim (cases_lt j n) [
  | inl before ↦ earlier j a at after before
  | inr le ↦ none (record {
    lane = lane;
    op = op;
    y = j;
    answer = a;
    ended = record { line = line; began = began; answered = at; later = after; first = λ k b it past. first k b it past (omega (arith, lt, le)) };
    before = At-below h j (Answered lane line a) at;
  })
]
  where
    first : (k : ℕ) (b : Answer) → At h k (Answered lane line b) → x < k → j ≡ n → j ≤ k
    first k b it past is = elim (cases_lt k n) [
      | inl before ↦ absurd (earlier k b it past before)
      | inr above ↦ omega (arith, above, is)
    ]

-- an operation that wasn't answered before the end has no answer at all
pub unanswered-none : (h : List Entry) (lane line x : ℕ) (op : Op) → At h x (Began lane line op) → (AnsweredBefore h x (length h) → ⊥) → (n : ℕ) → NoAnswer h lane line x n
unanswered-none h lane line x op began none zero j a at after lt = omega (arith, lt)
unanswered-none h lane line x op began none (suc n) j a at after lt = last-answer h lane line x op began none n (unanswered-none h lane line x op began none n) j a at after lt

-- it is answered by the one entry more, or goes on unanswered
pub ends-or-not : (h : List Entry) (e : Entry) (lane line x : ℕ) (op : Op) → At h x (Began lane line op) → (AnsweredBefore h x (length h) → ⊥)
    → ((a : Answer) × Ended (h ++ e ∷ []) lane x op (length h) a) ⊎ (AnsweredBefore (h ++ e ∷ []) x (length (h ++ e ∷ [])) → ⊥)
ends-or-not h e lane line x op began none = elim (answer-or-not lane line e) [
  | inl is ↦ inl (
    is.0,
    record {
      line = line;
      began = At-grow h (e ∷ []) x (Began lane line op) began;
      answered = subst (λ (d : Entry). At (h ++ e ∷ []) (length h) d) is.1 (At-last h e);
      later = At-below h x (Began lane line op) began;
      first = λ j b at lt. elim (cases_lt j (length h)) [
        | inl below ↦ absurd (unanswered-none h lane line x op began none (length h) j b (At-back h (e ∷ []) j (Answered lane line b) at below) lt below)
        | inr le ↦ le
      ];
    },
  )
  | inr other ↦ inr (λ b. elim (cases_lt b.y (length h)) [
    | inl below ↦ none (Before-back h (e ∷ []) x (length h) (omega arith) (record { lane = b.lane; op = b.op; y = b.y; answer = b.answer; ended = b.ended; before = below }))
    | inr le ↦ elim (At-cases h e b.y (Answered b.lane b.ended.line b.answer) b.ended.answered) [
      | inl there ↦ let below = At-below h b.y (Answered b.lane b.ended.line b.answer) there in omega (arith, le, below)
      | inr it ↦ let same : Began lane line op ≡ Began b.lane b.ended.line b.op = At-one (h ++ e ∷ []) x (Began lane line op) (Began b.lane b.ended.line b.op) (At-grow h (e ∷ []) x (Began lane line op) began) b.ended.began in
          other b.answer (it.1 ∙ moved b.lane b.ended.line b.op b.answer same)
    ]
  ])
]
  where
    moved : (k n : ℕ) (o : Op) (a : Answer) → Began lane line op ≡ Began k n o → Answered k n a ≡ Answered lane line a
    moved k n o a same = let l : lane ≡ k = cc in let s : line ≡ n = cc in rw (l, s) refl

-- ---- what an operation writes

pub WritesByte-grow : (m : Modes) (origin : Origin) (h : List Entry) (e : Entry) (x : ℕ) (f : List ℕ) (i v : ℕ) → WritesByte m origin h x f i v → WritesByte m origin (h ++ e ∷ []) x f i v
WritesByte-grow m origin h e x f i v (write slot offset bytes of covers) = write slot offset bytes (IsOf-grow m h (e ∷ []) x (ops.Write slot offset bytes) f of) covers
WritesByte-grow m origin h e x f i v (fill slot offset count of low high) = fill slot offset count (IsOf-grow m h (e ∷ []) x (ops.Fill slot offset count v) f of) low high
WritesByte-grow m origin h e x f i v (put lane line offset n path bytes at ends leads covers) = by ends
  where
    grown : At (h ++ e ∷ []) x (Began lane line (ops.Put path offset bytes))
    grown = At-grow h (e ∷ []) x (Began lane line (ops.Put path offset bytes)) at

    by : EndsAt h x n → WritesByte m origin (h ++ e ∷ []) x f i v
    by (answered k op answer ended) = put lane line offset n path bytes grown (answered k op answer (Ended-grow h (e ∷ []) k x op n answer ended)) (Leads-grow origin h (e ∷ []) n path f leads) covers
    by (unanswered none is) = elim (ends-or-not h e lane line x (ops.Put path offset bytes) at none) [
      | inl it ↦ put lane line offset (length h) path bytes grown (answered lane (ops.Put path offset bytes) it.0 it.1) (Leads-grow origin h (e ∷ []) (length h) path f (subst (λ (k : ℕ). Leads origin h k path f) is leads)) covers
      | inr on ↦ put lane line offset (length (h ++ e ∷ [])) path bytes grown (unanswered on refl)
          (Leads-wide origin (h ++ e ∷ []) n (length (h ++ e ∷ [])) path f (let long = length_last h e in omega (arith, long, is)) (Leads-grow origin h (e ∷ []) n path f leads)) covers
    ]
