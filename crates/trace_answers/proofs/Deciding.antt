-- What the tests on entries decide.
use Rattle.std.proofs.Common.{◌≡◌, ◌==◌, ℕ, Bool, true, false, true≢false, List, Option, Some, None, slice_get, refl, sym, ◌∙◌, ap, subst}
use Rattle.std.specs.Prelude.{Decides, ◌&&◌}
use Rattle.std.proofs.lemmas.Bool.Decides.{Decides-like, Decides-and, Decides-eqb}
use Rattle.rpc_message.specs.Call.{xid_at}
use Rattle.world_model.specs.declared.answer.Answer.{Answer}
use Rattle.world_model.specs.declared.entry.Entry.{Entry}
use Rattle.world_model.specs.declared.entry.Entry.TheVariants.{Began, Answered, Dialed, Sent, Executed, Foreign, Flushed, Reboot, Delivered, Failed, Clock}
use Rattle.world_model.specs.Entries.{At}
use Rattle.world_model.specs.Messages.{HasXid}
use Rattle.trace_answers.specs.Tests.{answers, answers_there, answers_at, is_some_of, has_xid, sends, sends_there, sends_at, delivers, delivers_there, delivers_at, brings, brings_there, brings_at}

never : {P : Type 0} → (P → ⊥) → Decides false P
never n = (λ t. absurd (true≢false (sym t)), λ p. absurd (n p))

some : (a b : Entry) → Some a ≡ Some b → a ≡ b
some a b q = cc

-- ---- answers

entry-answers : (lane line : ℕ) (e : Entry) → Decides (answers lane line e) ((a : Answer) × (e ≡ Answered lane line a))
entry-answers lane line (Answered k n a) = Decides-like ((k == lane) && (n == line)) (λ b. (a, ap (λ z. Answered z n a) b.0 ∙ ap (λ z. Answered lane z a) b.1)) (λ w. let e : Answered k n a ≡ Answered lane line w.0 = w.1 in let l : k ≡ lane = cc in let s : n ≡ line = cc in (l, s)) (Decides-and (k == lane) (n == line) (Decides-eqb k lane) (Decides-eqb n line))
entry-answers lane line (Began k n op) = never (λ w. let e : Began k n op ≡ Answered lane line w.0 = w.1 in cc)
entry-answers lane line (Dialed port) = never (λ w. let e : Dialed port ≡ Answered lane line w.0 = w.1 in cc)
entry-answers lane line (Sent bytes) = never (λ w. let e : Sent bytes ≡ Answered lane line w.0 = w.1 in cc)
entry-answers lane line (Executed xid call reply) = never (λ w. let e : Executed xid call reply ≡ Answered lane line w.0 = w.1 in cc)
entry-answers lane line (Foreign call reply) = never (λ w. let e : Foreign call reply ≡ Answered lane line w.0 = w.1 in cc)
entry-answers lane line (Flushed file from len) = never (λ w. let e : Flushed file from len ≡ Answered lane line w.0 = w.1 in cc)
entry-answers lane line (Reboot verf) = never (λ w. let e : Reboot verf ≡ Answered lane line w.0 = w.1 in cc)
entry-answers lane line (Delivered bytes) = never (λ w. let e : Delivered bytes ≡ Answered lane line w.0 = w.1 in cc)
entry-answers lane line Failed = never (λ w. let e : Failed ≡ Answered lane line w.0 = w.1 in cc)
entry-answers lane line (Clock ms) = never (λ w. let e : Clock ms ≡ Answered lane line w.0 = w.1 in cc)

pub answers-decides : (h : List Entry) (lane line i : ℕ) → Decides (answers_at h lane line i) ((a : Answer) × At h i (Answered lane line a))
unfolding answers_at
answers-decides h lane line i = by (slice_get h i) refl
  where
    by : (o : Option Entry) → slice_get h i ≡ o → Decides (answers_there lane line o) ((a : Answer) × At h i (Answered lane line a))
    by None e = never (λ w. let q : slice_get h i ≡ Some (Answered lane line w.0) = w.1 in cc)
    by (Some d) e = Decides-like (answers lane line d) (λ w. (w.0, e ∙ ap (λ z. Some z) w.1)) (λ w. (w.0, some d (Answered lane line w.0) (sym e ∙ w.1))) (entry-answers lane line d)

-- ---- records

xid-is : (x : ℕ) (o : Option ℕ) → Decides (is_some_of x o) (o ≡ Some x)
xid-is x None = never (λ e. let q : None ≡ Some x = e in cc)
xid-is x (Some y) = Decides-like (y == x) (λ e. ap (λ z. Some z) e) (λ e. let q : Some y ≡ Some x = e in cc) (Decides-eqb y x)

pub xid-decides : (bytes : List ℕ) (x : ℕ) → Decides (has_xid bytes x) (HasXid bytes x)
unfolding has_xid
xid-decides bytes x = xid-is x (xid_at bytes)

-- the record that was sent at a place, under the xid
entry-sent : (x : ℕ) (e : Entry) → Decides (sends x e) ((bytes : List ℕ) × (e ≡ Sent bytes) × HasXid bytes x)
entry-sent x (Sent b) = Decides-like (has_xid b x) (λ has. (b, refl, has)) (λ w. let e : Sent b ≡ Sent w.0 = w.1 in let same : w.0 ≡ b = cc in subst (λ (z : List ℕ). HasXid z x) same w.2) (xid-decides b x)
entry-sent x (Began lane line op) = never (λ w. let e : Began lane line op ≡ Sent w.0 = w.1 in cc)
entry-sent x (Answered lane line answer) = never (λ w. let e : Answered lane line answer ≡ Sent w.0 = w.1 in cc)
entry-sent x (Dialed port) = never (λ w. let e : Dialed port ≡ Sent w.0 = w.1 in cc)
entry-sent x (Executed k call reply) = never (λ w. let e : Executed k call reply ≡ Sent w.0 = w.1 in cc)
entry-sent x (Foreign call reply) = never (λ w. let e : Foreign call reply ≡ Sent w.0 = w.1 in cc)
entry-sent x (Flushed file from len) = never (λ w. let e : Flushed file from len ≡ Sent w.0 = w.1 in cc)
entry-sent x (Reboot verf) = never (λ w. let e : Reboot verf ≡ Sent w.0 = w.1 in cc)
entry-sent x (Delivered bytes) = never (λ w. let e : Delivered bytes ≡ Sent w.0 = w.1 in cc)
entry-sent x Failed = never (λ w. let e : Failed ≡ Sent w.0 = w.1 in cc)
entry-sent x (Clock ms) = never (λ w. let e : Clock ms ≡ Sent w.0 = w.1 in cc)

pub sent-decides : (h : List Entry) (x i : ℕ) → Decides (sends_at h x i) ((bytes : List ℕ) × At h i (Sent bytes) × HasXid bytes x)
unfolding sends_at
sent-decides h x i = by (slice_get h i) refl
  where
    by : (o : Option Entry) → slice_get h i ≡ o → Decides (sends_there x o) ((bytes : List ℕ) × At h i (Sent bytes) × HasXid bytes x)
    by None e = never (λ w. let q : slice_get h i ≡ Some (Sent w.0) = w.1 in cc)
    by (Some d) e = Decides-like (sends x d) (λ w. (w.0, e ∙ ap (λ z. Some z) w.1, w.2)) (λ w. (w.0, some d (Sent w.0) (sym e ∙ w.1), w.2)) (entry-sent x d)

-- the record that came at a place, under the xid
entry-delivered : (x : ℕ) (e : Entry) → Decides (delivers x e) ((bytes : List ℕ) × (e ≡ Delivered bytes) × HasXid bytes x)
entry-delivered x (Delivered b) = Decides-like (has_xid b x) (λ has. (b, refl, has)) (λ w. let e : Delivered b ≡ Delivered w.0 = w.1 in let same : w.0 ≡ b = cc in subst (λ (z : List ℕ). HasXid z x) same w.2) (xid-decides b x)
entry-delivered x (Began lane line op) = never (λ w. let e : Began lane line op ≡ Delivered w.0 = w.1 in cc)
entry-delivered x (Answered lane line answer) = never (λ w. let e : Answered lane line answer ≡ Delivered w.0 = w.1 in cc)
entry-delivered x (Dialed port) = never (λ w. let e : Dialed port ≡ Delivered w.0 = w.1 in cc)
entry-delivered x (Sent bytes) = never (λ w. let e : Sent bytes ≡ Delivered w.0 = w.1 in cc)
entry-delivered x (Executed k call reply) = never (λ w. let e : Executed k call reply ≡ Delivered w.0 = w.1 in cc)
entry-delivered x (Foreign call reply) = never (λ w. let e : Foreign call reply ≡ Delivered w.0 = w.1 in cc)
entry-delivered x (Flushed file from len) = never (λ w. let e : Flushed file from len ≡ Delivered w.0 = w.1 in cc)
entry-delivered x (Reboot verf) = never (λ w. let e : Reboot verf ≡ Delivered w.0 = w.1 in cc)
entry-delivered x Failed = never (λ w. let e : Failed ≡ Delivered w.0 = w.1 in cc)
entry-delivered x (Clock ms) = never (λ w. let e : Clock ms ≡ Delivered w.0 = w.1 in cc)

pub delivered-decides : (h : List Entry) (x i : ℕ) → Decides (delivers_at h x i) ((bytes : List ℕ) × At h i (Delivered bytes) × HasXid bytes x)
unfolding delivers_at
delivered-decides h x i = by (slice_get h i) refl
  where
    by : (o : Option Entry) → slice_get h i ≡ o → Decides (delivers_there x o) ((bytes : List ℕ) × At h i (Delivered bytes) × HasXid bytes x)
    by None e = never (λ w. let q : slice_get h i ≡ Some (Delivered w.0) = w.1 in cc)
    by (Some d) e = Decides-like (delivers x d) (λ w. (w.0, e ∙ ap (λ z. Some z) w.1, w.2)) (λ w. (w.0, some d (Delivered w.0) (sym e ∙ w.1), w.2)) (entry-delivered x d)

-- a record that came at a place
entry-brings : (e : Entry) → Decides (brings e) ((bytes : List ℕ) × (e ≡ Delivered bytes))
entry-brings (Delivered b) = (λ t. (b, refl), λ w. refl)
entry-brings (Began lane line op) = never (λ w. let e : Began lane line op ≡ Delivered w.0 = w.1 in cc)
entry-brings (Answered lane line answer) = never (λ w. let e : Answered lane line answer ≡ Delivered w.0 = w.1 in cc)
entry-brings (Dialed port) = never (λ w. let e : Dialed port ≡ Delivered w.0 = w.1 in cc)
entry-brings (Sent bytes) = never (λ w. let e : Sent bytes ≡ Delivered w.0 = w.1 in cc)
entry-brings (Executed xid call reply) = never (λ w. let e : Executed xid call reply ≡ Delivered w.0 = w.1 in cc)
entry-brings (Foreign call reply) = never (λ w. let e : Foreign call reply ≡ Delivered w.0 = w.1 in cc)
entry-brings (Flushed file from len) = never (λ w. let e : Flushed file from len ≡ Delivered w.0 = w.1 in cc)
entry-brings (Reboot verf) = never (λ w. let e : Reboot verf ≡ Delivered w.0 = w.1 in cc)
entry-brings Failed = never (λ w. let e : Failed ≡ Delivered w.0 = w.1 in cc)
entry-brings (Clock ms) = never (λ w. let e : Clock ms ≡ Delivered w.0 = w.1 in cc)

pub brings-decides : (h : List Entry) (i : ℕ) → Decides (brings_at h i) ((bytes : List ℕ) × At h i (Delivered bytes))
unfolding brings_at
brings-decides h i = by (slice_get h i) refl
  where
    by : (o : Option Entry) → slice_get h i ≡ o → Decides (brings_there o) ((bytes : List ℕ) × At h i (Delivered bytes))
    by None e = never (λ w. let q : slice_get h i ≡ Some (Delivered w.0) = w.1 in cc)
    by (Some d) e = Decides-like (brings d) (λ w. (w.0, e ∙ ap (λ z. Some z) w.1)) (λ w. (w.0, some d (Delivered w.0) (sym e ∙ w.1))) (entry-brings d)
