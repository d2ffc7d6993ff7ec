-- The first record under an xid, whether it waits, and the last record that came.
use Rattle.std.proofs.Common.{◌≡◌, ◌<◌, ◌≤◌, ◌-◌, inl, inr, ℕ, suc, Bool, true, false, true≢false, List, length, Option, Some, None, refl, sym, ◌∙◌, ap, subst, arith}
use Rattle.std.specs.Prelude.{MatchOption}
use Rattle.std.proofs.lemmas.Bool.{cases_lt}
use Rattle.world_model.specs.declared.entry.Entry.{Entry}
use Rattle.world_model.specs.declared.entry.Entry.TheVariants.{Sent, Delivered}
use Rattle.world_model.specs.Entries.{At}
use Rattle.world_model.specs.Messages.{HasXid}
use Rattle.world_model.specs.Waiting.{FirstSent, Waits}
use Rattle.world_model.proofs.Places.{At-below, At-one}
use Rattle.trace_answers.specs.Sendings.{NeverSent, FirstSentAt, NoRecord, IsLastRecord}
use Rattle.trace_answers.specs.Tests.{sends_at, delivers_at, brings_at, NoneBelow, IsLeast}
use Rattle.trace_answers.proofs.Deciding.{sent-decides, delivered-decides, brings-decides}

-- a record under the xid that was sent passes the test
sent-passes : (h : List Entry) (x i : ℕ) (bytes : List ℕ) → At h i (Sent bytes) → HasXid bytes x → sends_at h x i ≡ false → ⊥
sent-passes h x i bytes at has fails = true≢false (sym ((sent-decides h x i).1 (bytes, at, has)) ∙ fails)

came-passes : (h : List Entry) (x i : ℕ) (bytes : List ℕ) → At h i (Delivered bytes) → HasXid bytes x → delivers_at h x i ≡ false → ⊥
came-passes h x i bytes at has fails = true≢false (sym ((delivered-decides h x i).1 (bytes, at, has)) ∙ fails)

-- ---- the first record that was sent

pub sent-by : (h : List Entry) (x : ℕ) (found : Option ℕ) → MatchOption found (NoneBelow (sends_at h x) (length h)) (IsLeast (sends_at h x) (length h))
    → MatchOption found (NeverSent h x) (FirstSentAt h x)
sent-by h x None none = λ i bytes at has. sent-passes h x i bytes at has (none i (At-below h i (Sent bytes) at))
sent-by h x (Some i) f =
    let here = (sent-decides h x i).0 f.passes in (
      here.0,
      record {
        sent = here.1;
        under = here.2;
        first = λ j b at has. elim (cases_lt j i) [
          | inl before ↦ absurd (sent-passes h x j b at has (f.none j before))
          | inr le ↦ le
        ];
      },
    )

-- ---- whether it waits

-- from the place k on and before n no record under the xid was sent or came
pub record Quiet (h : List Entry) (x k n : ℕ) : Type 0 where
  pub sent : (j : ℕ) → k ≤ j → j < n → sends_at h x j ≡ false
  pub came : (j : ℕ) → k ≤ j → j < n → delivers_at h x j ≡ false

pub quiet-end : (h : List Entry) (x n : ℕ) → Quiet h x n n
quiet-end h x n = record { sent = λ j le lt. absurd (omega (arith, le, lt)); came = λ j le lt. absurd (omega (arith, le, lt)) }

before-or-at : (f : ℕ → Bool) (k j : ℕ) → 0 < k → k - 1 ≤ j → j < k → f (k - 1) ≡ false → f j ≡ false
before-or-at f k j some le lt fails = subst (λ (i : ℕ). f i ≡ false) (let is : k - 1 ≡ j = omega (arith, some, le, lt) in is) fails

pub quiet-before : (h : List Entry) (x k n : ℕ) → 0 < k → Quiet h x k n → sends_at h x (k - 1) ≡ false → delivers_at h x (k - 1) ≡ false → Quiet h x (k - 1) n
quiet-before h x k n some quiet sends delivers = record {
  sent = λ j le lt. elim (cases_lt j k) [
    | inl here ↦ before-or-at (sends_at h x) k j some le here sends
    | inr past ↦ quiet.sent j past lt
  ];
  came = λ j le lt. elim (cases_lt j k) [
    | inl here ↦ before-or-at (delivers_at h x) k j some le here delivers
    | inr past ↦ quiet.came j past lt
  ];
}

-- the last one of these was sent: it waits
pub waits-found : (h : List Entry) (x k n : ℕ) → 0 < k → k ≤ n → Quiet h x k n → sends_at h x (k - 1) ≡ true → Waits h x n
waits-found h x k n some within quiet sends = let here = (sent-decides h x (k - 1)).0 sends in record {
  at = k - 1;
  bytes = here.0;
  sent = here.1;
  under = here.2;
  before = omega (arith, some, within);
  unanswered = λ j b got has after before. came-passes h x j b got has (quiet.came j (omega (arith, some, after)) before);
}

-- the last one of these came: it doesn't
pub waits-not : (h : List Entry) (x k n : ℕ) → 0 < k → k ≤ n → Quiet h x k n → delivers_at h x (k - 1) ≡ true → Waits h x n → ⊥
waits-not h x k n some within quiet delivers w =
    let came = (delivered-decides h x (k - 1)).0 delivers in elim (cases_lt w.at k) [
      | inl early ↦ elim (cases_lt w.at (k - 1)) [
        | inl before ↦ w.unanswered (k - 1) came.0 came.1 came.2 before (omega (arith, some, within))
        | inr le ↦ both w.bytes came.0 (subst (λ (i : ℕ). At h i (Sent w.bytes)) (let is : w.at ≡ k - 1 = omega (arith, some, early, le) in is) w.sent) came.1
      ]
      | inr late ↦ sent-passes h x w.at w.bytes w.sent w.under (quiet.sent w.at late w.before)
    ]
  where
    both : (b d : List ℕ) → At h (k - 1) (Sent b) → At h (k - 1) (Delivered d) → ⊥
    both b d s t = apart b d (At-one h (k - 1) (Sent b) (Delivered d) s t)
      where
        apart : (b d : List ℕ) → Sent b ≡ Delivered d → ⊥
        apart b d e = absurd (cc)

-- none was sent
pub waits-none : (h : List Entry) (x k n : ℕ) → k ≤ 0 → Quiet h x k n → Waits h x n → ⊥
waits-none h x k n low quiet w = sent-passes h x w.at w.bytes w.sent w.under (quiet.sent w.at (omega (arith, low)) w.before)

-- ---- the last record that came

-- from the place k on and before n no record came
abbrev pub NoneSince : List Entry → ℕ → ℕ → Type 0
NoneSince h k n = (j : ℕ) → k ≤ j → j < n → brings_at h j ≡ false

brings-passes : (h : List Entry) (i : ℕ) (bytes : List ℕ) → At h i (Delivered bytes) → brings_at h i ≡ false → ⊥
brings-passes h i bytes at fails = true≢false (sym ((brings-decides h i).1 (bytes, at)) ∙ fails)

pub none-end : (h : List Entry) (n : ℕ) → NoneSince h n n
none-end h n j le lt = absurd (omega (arith, le, lt))

pub none-before : (h : List Entry) (k n : ℕ) → 0 < k → NoneSince h k n → brings_at h (k - 1) ≡ false → NoneSince h (k - 1) n
none-before h k n some none fails j le lt = elim (cases_lt j k) [
  | inl here ↦ before-or-at (brings_at h) k j some le here fails
  | inr past ↦ none j past lt
]

pub last-found : (h : List Entry) (k n : ℕ) → 0 < k → k ≤ n → NoneSince h k n → brings_at h (k - 1) ≡ true → IsLastRecord h n (k - 1)
last-found h k n some within none brings = let here = (brings-decides h (k - 1)).0 brings in record {
  bytes = here.0;
  got = here.1;
  before = omega (arith, some, within);
  last = λ j other at before. elim (cases_lt j k) [
    | inl early ↦ omega (arith, early)
    | inr late ↦ absurd (brings-passes h j other at (none j late before))
  ];
}

pub last-none : (h : List Entry) (k n : ℕ) → k ≤ 0 → NoneSince h k n → NoRecord h n
last-none h k n low none j bytes at lt = brings-passes h j bytes at (none j (omega (arith, low)) lt)
