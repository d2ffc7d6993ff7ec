-- What a story settles is settled in the history that it reads.
use Rattle.std.proofs.Common.{inl, inr, ◌⊎◌, ◌≡◌, ◌<◌, ◌≤◌, ◌-◌, ℕ, zero, suc, List, [], ◌∷◌, length, replicate, Option, Some, None, slice_get, true, false, refl, sym, ap, ◌∙◌, arith}
use Rattle.std.proofs.lemmas.Bool.{cases_lt}
use Rattle.world_model.specs.declared.answer.Answer.{Answer}
use Rattle.world_model.specs.declared.answer.Answer.TheVariants as answers
use Rattle.world_model.specs.declared.answer.Fault.{Fault}
use Rattle.world_model.specs.declared.answer.Value.{Value}
use Rattle.world_model.specs.declared.entry.Entry.{Entry}
use Rattle.world_model.specs.declared.entry.Entry.TheVariants as entries
use Rattle.world_model.specs.declared.message.Call.{Call}
use Rattle.world_model.specs.declared.message.Reply.{Reply}
use Rattle.world_model.specs.declared.op.Op.{Op}
use Rattle.world_model.specs.declared.op.Op.TheVariants as ops
use Rattle.world_model.specs.Entries as histories
use Rattle.world_model.specs.History.{History}
use Rattle.claims.specs.Modes.{Modes}
use Rattle.world_model.specs.Mounts.{Origin}
use Rattle.world_model.specs.Operations.{Ended, AnsweredBefore}
use Rattle.world_model.specs.Server as servers
use Rattle.claims.specs.Settled as model
use Rattle.claims.specs.Slots as slots
use Rattle.claims.specs.Touched as touched
use Rattle.world_model.proofs.Lasting.{entry_at}
use Rattle.world_model.proofs.Places as places
use Rattle.model_writes.specs.Story.{File, Spot, write_op, put_op, sync_op, close_op, cut_op, open_op, plain_op, done, refused, Event, flushes, Began, Answered, Sent, Executed, Foreign, Reboot, Delivered, Failed, At, Alters, Told, means, is_put, Firms, Both, covers}
use Rattle.model_writes.specs.Story as story
use Rattle.model_writes.specs.Settled as law
use Rattle.model_writes.specs.Mirrors.{Mirrors, MirrorsEntry, MirrorsOp, Meaning, on_file, by_path, opening, other, op_on, is_gone, byte_now, byte_stable, held_now, held_stable}
use Rattle.model_writes.proofs.AtLemmas.{At-below}
use Rattle.model_writes.proofs.CoversLemmas.{covers_is, covers_from}
use Rattle.model_writes.proofs.FlyingBytes.{covers_file}

abbrev pub answer_of : Answer → story.Answer
answer_of (answers.Done value) = done
answer_of (answers.Refused fault) = refused

-- ---- the entry of the story at a place, and that of the history

story_at : (h : List story.Entry) (n : ℕ) → n < length h → (d : story.Entry) × At h n d
story_at [] n lt = absurd (omega (arith, lt))
story_at (x ∷ h) zero lt = (x, refl)
story_at (x ∷ h) (suc n) lt = story_at h n (omega (arith, lt))

pub record Read (m : Modes) (origin : Origin) (t : History) (s : Told) (n : ℕ) (e : Entry) : Type 0 where
  pub entry : story.Entry
  pub at : At s.entries n entry
  pub mirrors : MirrorsEntry m origin t n e entry

pub reads : (m : Modes) (origin : Origin) (t : History) (s : Told) → Mirrors m origin t s → (n : ℕ) (e : Entry) → histories.At t.entries n e → Read m origin t s n e
reads m origin t s k n e at =
    let below = places.At-below t.entries n e at in
    let long = k.long in
    let d = story_at s.entries n (omega (arith, below, long)) in
    record { entry = d.0; at = d.1; mirrors = k.reads n e d.0 at d.1 }

pub record ReadBack (m : Modes) (origin : Origin) (t : History) (n : ℕ) (d : story.Entry) : Type 0 where
  pub entry : Entry
  pub at : histories.At t.entries n entry
  pub mirrors : MirrorsEntry m origin t n entry d

pub reads_back : (m : Modes) (origin : Origin) (t : History) (s : Told) → Mirrors m origin t s → (n : ℕ) (d : story.Entry) → At s.entries n d → ReadBack m origin t n d
reads_back m origin t s k n d at =
    let below = At-below s.entries n d at in
    let long = k.long in
    let e = entry_at t.entries n (omega (arith, below, long)) in
    record { entry = e.0; at = e.1; mirrors = k.reads n e.0 d e.1 at }

-- ---- operations

pub record BeganAt (m : Modes) (origin : Origin) (t : History) (s : Told) (n lane : ℕ) (op : Op) : Type 0 where
  pub is : story.Op
  pub at : At s.entries n (Began lane is)
  pub mirrors : MirrorsOp m origin t.entries n op is

pub record BeganBack (m : Modes) (origin : Origin) (t : History) (n lane : ℕ) (o : story.Op) : Type 0 where
  pub line : ℕ
  pub op : Op
  pub at : histories.At t.entries n (entries.Began lane line op)
  pub mirrors : MirrorsOp m origin t.entries n op o

-- the cases of an entry that the story reads as the beginning of an operation, an answer, or what another client did
back_began : (m : Modes) (origin : Origin) (t : History) (n lane : ℕ) (o : story.Op) (e : Entry) → histories.At t.entries n e → MirrorsEntry m origin t n e (Began lane o) → BeganBack m origin t n lane o
back_began m origin t n lane o (entries.Began l line op) at r =
    let same = began_is lane l o r.0 r.1 in
    record { line = line; op = op; at = rw same.0 at; mirrors = rw same.1 r.2 }
  where
    began_is : (a b : ℕ) (o p : story.Op) → Began a o ≡ Began b p → (a ≡ b) × (o ≡ p)
    began_is a b o p e = (cc, cc)
back_began m origin t n lane o (entries.Answered l line (answers.Done value)) at r = absurd (cc r)
back_began m origin t n lane o (entries.Answered l line (answers.Refused fault)) at r = absurd (cc r)
back_began m origin t n lane o (entries.Dialed port) at r = absurd (cc r)
back_began m origin t n lane o (entries.Sent bytes) at r = absurd (cc r.is)
back_began m origin t n lane o (entries.Executed xid call reply) at r = absurd (cc r.0)
back_began m origin t n lane o (entries.Foreign call reply) at r = absurd (cc r.1)
back_began m origin t n lane o (entries.Flushed f start count) at r = absurd (cc r)
back_began m origin t n lane o (entries.Reboot verf) at r = absurd (cc r)
back_began m origin t n lane o (entries.Delivered bytes) at r = absurd (cc r.is)
back_began m origin t n lane o entries.Failed at r = absurd (cc r)
back_began m origin t n lane o (entries.Clock ms) at r = absurd (cc r)

pub record AnsweredBack (t : History) (n lane : ℕ) (b : story.Answer) : Type 0 where
  pub line : ℕ
  pub answer : Answer
  pub at : histories.At t.entries n (entries.Answered lane line answer)
  pub is : answer_of answer ≡ b

answered_is : (a b : ℕ) (x y : story.Answer) → Answered a x ≡ Answered b y → (a ≡ b) × (x ≡ y)
answered_is a b x y e = (cc, cc)

foreign_is : (x y : Event) → Foreign x ≡ Foreign y → x ≡ y
foreign_is x y e = cc

back_answered : (m : Modes) (origin : Origin) (t : History) (n lane : ℕ) (b : story.Answer) (e : Entry) → histories.At t.entries n e → MirrorsEntry m origin t n e (Answered lane b) → AnsweredBack t n lane b
back_answered m origin t n lane b (entries.Answered l line (answers.Done value)) at r = let same = answered_is lane l b done r in record { line = line; answer = answers.Done value; at = rw same.0 at; is = sym same.1 }
back_answered m origin t n lane b (entries.Answered l line (answers.Refused fault)) at r = let same = answered_is lane l b refused r in record { line = line; answer = answers.Refused fault; at = rw same.0 at; is = sym same.1 }
back_answered m origin t n lane b (entries.Began l line op) at r = absurd (cc r.1)
back_answered m origin t n lane b (entries.Dialed port) at r = absurd (cc r)
back_answered m origin t n lane b (entries.Sent bytes) at r = absurd (cc r.is)
back_answered m origin t n lane b (entries.Executed xid call reply) at r = absurd (cc r.0)
back_answered m origin t n lane b (entries.Foreign call reply) at r = absurd (cc r.1)
back_answered m origin t n lane b (entries.Flushed f start count) at r = absurd (cc r)
back_answered m origin t n lane b (entries.Reboot verf) at r = absurd (cc r)
back_answered m origin t n lane b (entries.Delivered bytes) at r = absurd (cc r.is)
back_answered m origin t n lane b entries.Failed at r = absurd (cc r)
back_answered m origin t n lane b (entries.Clock ms) at r = absurd (cc r)

pub record ForeignBack (t : History) (n : ℕ) (event : Event) : Type 0 where
  pub call : Call
  pub reply : Reply
  pub at : histories.At t.entries n (entries.Foreign call reply)
  pub alters : (i : Spot) → Alters event i → touched.ChangesPlace (t.at (suc n)) i.file i.at call reply

back_foreign : (m : Modes) (origin : Origin) (t : History) (n : ℕ) (event : Event) (e : Entry) → histories.At t.entries n e → MirrorsEntry m origin t n e (Foreign event) → ForeignBack t n event ⊎ (event ≡ flushes)
back_foreign m origin t n event (entries.Foreign call reply) at r = let same = foreign_is event r.0 r.1 in inl (record { call = call; reply = reply; at = at; alters = λ i a. (r.2 i).0 (rw same at a) })
back_foreign m origin t n event (entries.Flushed f start count) at r = inr (foreign_is event flushes r)
back_foreign m origin t n event (entries.Answered l line (answers.Done value)) at r = absurd (cc r)
back_foreign m origin t n event (entries.Answered l line (answers.Refused fault)) at r = absurd (cc r)
back_foreign m origin t n event (entries.Began l line op) at r = absurd (cc r.1)
back_foreign m origin t n event (entries.Dialed port) at r = absurd (cc r)
back_foreign m origin t n event (entries.Sent bytes) at r = absurd (cc r.is)
back_foreign m origin t n event (entries.Executed xid call reply) at r = absurd (cc r.0)
back_foreign m origin t n event (entries.Reboot verf) at r = absurd (cc r)
back_foreign m origin t n event (entries.Delivered bytes) at r = absurd (cc r.is)
back_foreign m origin t n event entries.Failed at r = absurd (cc r)
back_foreign m origin t n event (entries.Clock ms) at r = absurd (cc r)

all_the_same : (count v k : ℕ) → k < count → slice_get (replicate count v) k ≡ Some v
all_the_same zero v k lt = absurd (omega (arith, lt))
all_the_same (suc count) v zero lt = refl
all_the_same (suc count) v (suc k) lt = all_the_same count v k (omega (arith, lt))

filled_with : (count b k v : ℕ) → slice_get (replicate count b) k ≡ Some v → (k < count) × (b ≡ v)
filled_with zero b k v e = absurd (cc e)
filled_with (suc count) b zero v e = (omega arith, cc)
filled_with (suc count) b (suc k) v e = let r = filled_with count b k v e in let lt : k < count = r.0 in (omega (arith, lt), r.1)

module _ (m : Modes) (origin : Origin) (t : History) (s : Told) (k : Mirrors m origin t s) where
  pub began_at : (n lane line : ℕ) (op : Op) → histories.At t.entries n (entries.Began lane line op) → BeganAt m origin t s n lane op
  began_at n lane line op at =
      let r = reads m origin t s k n (entries.Began lane line op) at in
      record { is = r.mirrors.0; at = rw (← r.mirrors.1) r.at; mirrors = r.mirrors.2 }

  pub began_back : (n lane : ℕ) (o : story.Op) → At s.entries n (Began lane o) → BeganBack m origin t n lane o
  began_back n lane o at = let r = reads_back m origin t s k n (Began lane o) at in back_began m origin t n lane o r.entry r.at r.mirrors

  answered_at : (n lane line : ℕ) (a : Answer) → histories.At t.entries n (entries.Answered lane line a) → At s.entries n (Answered lane (answer_of a))
  answered_at n lane line (answers.Done value) at = let r = reads m origin t s k n (entries.Answered lane line (answers.Done value)) at in rw (← r.mirrors) r.at
  answered_at n lane line (answers.Refused fault) at = let r = reads m origin t s k n (entries.Answered lane line (answers.Refused fault)) at in rw (← r.mirrors) r.at

  answered_back : (n lane : ℕ) (b : story.Answer) → At s.entries n (Answered lane b) → AnsweredBack t n lane b
  answered_back n lane b at = let r = reads_back m origin t s k n (Answered lane b) at in back_answered m origin t n lane b r.entry r.at r.mirrors

  -- ---- answers

  -- between an operation's beginning and its answer its lane is answered nothing
  none_below : (lane x : ℕ) (op : Op) (y : ℕ) (a : Answer) → Ended t.entries lane x op y a → (b : ℕ) → b ≤ y → (n later : ℕ) (c : Answer) → histories.At t.entries n (entries.Answered lane later c) → x < n → n < b → ⊥
  none_below lane x op y a d zero le n later c at lo hi = omega (arith, hi)
  none_below lane x op y a d (suc b) le n later c at lo hi =
      elim (cases_lt n b) [
        | inl lt ↦ none_below lane x op y a d b (omega (arith, le)) n later c at lo lt
        | inr ge ↦
            let own : later ≡ d.line = k.in_turn x n lane d.line later op c d.began at lo (λ n2 l2 c2 at2 lo2 hi2. none_below lane x op y a d b (omega (arith, le)) n2 l2 c2 at2 lo2 (omega (arith, hi, hi2))) in
            let first : y ≤ n = d.first n c (rw own at at) lo in
            omega (arith, first, le, hi)
      ]

  pub ended_is : (lane x : ℕ) (op : Op) (y : ℕ) (a : Answer) → Ended t.entries lane x op y a → law.Ends s.entries lane x y (answer_of a)
  ended_is lane x op y a d = record {
    after = d.later;
    answered = answered_at y lane d.line a d.answered;
    first = λ n b lo hi at. (let r = answered_back n lane b at in none_below lane x op y a d y (omega arith) n r.line r.answer r.at lo hi);
  }

  record EndsBack (lane x : ℕ) (op : Op) (y : ℕ) (b : story.Answer) : Type 0 where
    pub answer : Answer
    pub ended : Ended t.entries lane x op y answer
    pub is : answer_of answer ≡ b

  ends_back : (lane x line : ℕ) (op : Op) (y : ℕ) (b : story.Answer) → histories.At t.entries x (entries.Began lane line op) → law.Ends s.entries lane x y b → EndsBack lane x op y b
  ends_back lane x line op y b at d =
      let r = answered_back y lane b d.answered in
      let own : r.line ≡ line = k.in_turn x y lane line r.line op r.answer at r.at d.after (λ n l c at2 lo hi. d.first n (answer_of c) lo hi (answered_at n lane l c at2)) in
      record {
        answer = r.answer;
        ended = record {
          line = line;
          began = at;
          answered = rw own at r.at;
          later = d.after;
          first = λ j c at2 lo. elim (cases_lt j y) [ inl lt ↦ absurd (d.first j (answer_of c) lo lt (answered_at j lane line c at2)) | inr ge ↦ ge ];
        };
        is = r.is;
      }

  -- an operation has one answer
  same_lane : (x l1 n1 l2 n2 : ℕ) (p1 p2 : Op) → histories.At t.entries x (entries.Began l1 n1 p1) → histories.At t.entries x (entries.Began l2 n2 p2) → (l1 ≡ l2) × (n1 ≡ n2) × (p1 ≡ p2)
  same_lane x l1 n1 l2 n2 p1 p2 a b = parts l1 n1 l2 n2 p1 p2 (places.At-one t.entries x (entries.Began l1 n1 p1) (entries.Began l2 n2 p2) a b)
    where
      parts : (l1 n1 l2 n2 : ℕ) (p1 p2 : Op) → entries.Began l1 n1 p1 ≡ entries.Began l2 n2 p2 → (l1 ≡ l2) × (n1 ≡ n2) × (p1 ≡ p2)
      parts l1 n1 l2 n2 p1 p2 e = (cc, cc, cc)

  one_end : (x l1 l2 y1 y2 : ℕ) (p1 p2 : Op) (a1 a2 : Answer) → Ended t.entries l1 x p1 y1 a1 → Ended t.entries l2 x p2 y2 a2 → y1 ≡ y2
  one_end x l1 l2 y1 y2 p1 p2 a1 a2 d e =
      let same = same_lane x l1 d.line l2 e.line p1 p2 d.began e.began in
      let le : y1 ≤ y2 = d.first y2 a2 (rw (same.0, same.1) e.answered) e.later in
      let ge : y2 ≤ y1 = e.first y1 a1 (rw (← same.0, ← same.1) d.answered) d.later in
      omega (arith, le, ge)

  -- what wasn't answered in the story wasn't in the history
  unanswered_is : (x lane line w : ℕ) (op : Op) → histories.At t.entries x (entries.Began lane line op) → law.Unanswered s.entries lane x w → AnsweredBefore t.entries x w → ⊥
  unanswered_is x lane line w op at u b =
      let d = b.ended in
      let same = same_lane x lane line b.lane d.line op b.op at d.began in
      u b.y (answer_of b.answer) d.later b.before (answered_at b.y lane d.line b.answer (rw same.0 d.answered))

  -- ---- what was written, and what was made stable

  pub record Written (w y : ℕ) (f : File) (i v : ℕ) : Type 0 where
    pub lane : ℕ
    pub op : Op
    pub value : Value
    pub is : story.Op
    pub at : At s.entries w (Began lane is)
    pub ended : Ended t.entries lane w op y (answers.Done value)
    pub means_it : means is (record { file = f; at = i }) ≡ Some v
    pub put : (path : List (List ℕ)) (offset : ℕ) (bytes : List ℕ) → op ≡ ops.Put path offset bytes → is_put is ≡ true

  covered : (f : File) (offset : ℕ) (bytes : List ℕ) (i v : ℕ) → touched.Covers offset bytes i v → covers f offset bytes (record { file = f; at = i }) ≡ Some v
  covered f offset bytes i v c = let p = c.place in let z : i - offset ≡ c.k = omega (arith, p) in covers_from f offset bytes (record { file = f; at = i }) v refl (omega (arith, p)) (ap (λ n. slice_get bytes n) z ∙ c.byte)

  pub written_is : (w y : ℕ) (f : File) (i v : ℕ) → touched.Wrote m t.entries w y f i v → Written w y f i v
  written_is w y f i v (touched.write lane slot offset bytes value of d c) =
      let b = began_at w lane d.line (ops.Write slot offset bytes) d.began in
      let o : b.is ≡ write_op f offset bytes = b.mirrors.of_file f of in
      record { lane = lane; op = ops.Write slot offset bytes; value = value; is = write_op f offset bytes; at = rw (← o) b.at; ended = d; means_it = covered f offset bytes i v c; put = λ p n x e. absurd (cc e) }
  written_is w y f i v (touched.fill lane slot offset count value of d lo hi) =
      let b = began_at w lane d.line (ops.Fill slot offset count v) d.began in
      let o : b.is ≡ write_op f offset (replicate count v) = b.mirrors.of_file f of in
      record {
        lane = lane;
        op = ops.Fill slot offset count v;
        value = value;
        is = write_op f offset (replicate count v);
        at = rw (← o) b.at;
        ended = d;
        means_it = covers_from f offset (replicate count v) (record { file = f; at = i }) v refl lo (all_the_same count v (i - offset) (omega (arith, lo, hi)));
        put = λ p n x e. absurd (cc e);
      }
  written_is w y f i v (touched.put offset bytes p c) =
      let d = p.ended in
      let b = began_at w p.lane d.line (ops.Put p.path offset bytes) d.began in
      let o : b.is ≡ put_op f offset bytes = b.mirrors.puts y f offset bytes p in
      record { lane = p.lane; op = ops.Put p.path offset bytes; value = p.value; is = put_op f offset bytes; at = rw (← o) b.at; ended = d; means_it = covered f offset bytes i v c; put = λ q n x e. refl }

  pub record MadeFirm (x y : ℕ) (f : File) : Type 0 where
    pub lane : ℕ
    pub is : story.Op
    pub at : At s.entries x (Began lane is)
    pub firms : Firms is f
    pub ends : law.Ends s.entries lane x y done

  pub made_is : (x y : ℕ) (f : File) → touched.MadeStable m t.entries x y f → MadeFirm x y f
  made_is x y f (touched.sync lane slot value of d) =
      let b = began_at x lane d.line (ops.Sync slot) d.began in
      let o : b.is ≡ sync_op f = b.mirrors.of_file f of in
      record { lane = lane; is = sync_op f; at = rw (← o) b.at; firms = refl; ends = ended_is lane x (ops.Sync slot) y (answers.Done value) d }
  made_is x y f (touched.close lane slot value of d) =
      let b = began_at x lane d.line (ops.Close slot) d.began in
      let o : b.is ≡ close_op f slot = b.mirrors.of_file f of in
      record { lane = lane; is = close_op f slot; at = rw (← o) b.at; firms = refl; ends = ended_is lane x (ops.Close slot) y (answers.Done value) d }
  made_is x y f (touched.put offset bytes p) =
      let d = p.ended in
      let b = began_at x p.lane d.line (ops.Put p.path offset bytes) d.began in
      let o : b.is ≡ put_op f offset bytes = b.mirrors.puts y f offset bytes p in
      record { lane = p.lane; is = put_op f offset bytes; at = rw (← o) b.at; firms = refl; ends = ended_is p.lane x (ops.Put p.path offset bytes) y (answers.Done p.value) d }

  -- ---- what was touched

  not_put : (f : File) (op : Op) → is_put (op_on f op) ≡ false
  not_put f (ops.Write slot offset bytes) = refl
  not_put f (ops.Fill slot offset count byte) = refl
  not_put f (ops.Sync slot) = refl
  not_put f (ops.Close slot) = refl
  not_put f (ops.Truncate slot size) = refl
  not_put f (ops.OpenFile slot mode path) = refl
  not_put f (ops.Read slot offset count) = refl
  not_put f (ops.Put path offset bytes) = refl
  not_put f (ops.Stat path) = refl
  not_put f (ops.Access path bits) = refl
  not_put f (ops.MakeDir path) = refl
  not_put f (ops.RemoveDir path) = refl
  not_put f (ops.Remove path) = refl
  not_put f (ops.Rename from to) = refl
  not_put f (ops.Link from to) = refl
  not_put f (ops.SymLink path target) = refl
  not_put f (ops.ReadLink path) = refl
  not_put f (ops.List path) = refl

  -- a write or fill is read as no put
  no_put : (x : ℕ) (op : Op) (o : story.Op) → Meaning m origin t.entries x op o → ((path : List (List ℕ)) (offset : ℕ) (bytes : List ℕ) → op ≡ ops.Put path offset bytes → ⊥) → is_put o ≡ false
  no_put x op o (on_file f of e) none = rw e (not_put f op)
  no_put x op o (by_path offset e path bytes f is ends leads q) none = absurd (none path offset bytes is)
  no_put x op o (opening slot f e) none = rw e refl
  no_put x op o (other e) none = rw e refl

  pub refused_is : (x lane line : ℕ) (op : Op) (o : story.Op) → histories.At t.entries x (entries.Began lane line op) → At s.entries x (Began lane o) → Meaning m origin t.entries x op o → law.Unrefused s.entries x → touched.RefusedWrite t.entries x → ⊥
  refused_is x lane line op o at ats mean un (touched.write l slot offset y bytes fault d) =
      let same = same_lane x lane line l d.line op (ops.Write slot offset bytes) at d.began in
      let e : Ended t.entries lane x (ops.Write slot offset bytes) y (answers.Refused fault) = rw same.0 d in
      un lane y o ats (no_put x op o mean (λ p n b is. absurd (cc (same.2, is)))) (ended_is lane x (ops.Write slot offset bytes) y (answers.Refused fault) e)
  refused_is x lane line op o at ats mean un (touched.fill l slot offset count byte y fault d) =
      let same = same_lane x lane line l d.line op (ops.Fill slot offset count byte) at d.began in
      let e : Ended t.entries lane x (ops.Fill slot offset count byte) y (answers.Refused fault) = rw same.0 d in
      un lane y o ats (no_put x op o mean (λ p n b is. absurd (cc (same.2, is)))) (ended_is lane x (ops.Fill slot offset count byte) y (answers.Refused fault) e)

  back_covered : (g f : File) (offset : ℕ) (bytes : List ℕ) (i v : ℕ) → covers g offset bytes (record { file = f; at = i }) ≡ Some v → (g ≡ f) × touched.Covers offset bytes i v
  back_covered g f offset bytes i v e =
      let c = covers_is g offset bytes (record { file = f; at = i }) v e in
      let le : offset ≤ i = c.0 in
      (covers_file g offset bytes (record { file = f; at = i }) v e, record { k = i - offset; place = omega (arith, le); byte = c.1 })

  writes_on : (x : ℕ) (op : Op) (g f : File) (i v : ℕ) → slots.IsOf m t.entries x op g → means (op_on g op) (record { file = f; at = i }) ≡ Some v → touched.WritesByte m origin t.entries x f i v
  writes_on x (ops.Write slot offset bytes) g f i v of e = let c = back_covered g f offset bytes i v e in touched.write slot offset bytes (rw c.0 at of) c.1
  writes_on x (ops.Fill slot offset count byte) g f i v of e =
      let c = back_covered g f offset (replicate count byte) i v e in
      let r = filled_with count byte c.1.k v c.1.byte in
      let lt : c.1.k < count = r.0 in
      let pl = c.1.place in
      touched.fill slot offset count (rw (c.0, r.1) at of) (omega (arith, pl)) (omega (arith, pl, lt))
  writes_on x (ops.OpenFile slot mode path) g f i v of e = absurd (cc e)
  writes_on x (ops.Read slot offset count) g f i v of e = absurd (cc e)
  writes_on x (ops.Put path offset bytes) g f i v of e = absurd (cc e)
  writes_on x (ops.Sync slot) g f i v of e = absurd (cc e)
  writes_on x (ops.Close slot) g f i v of e = absurd (cc e)
  writes_on x (ops.Truncate slot z) g f i v of e = absurd (cc e)
  writes_on x (ops.Stat path) g f i v of e = absurd (cc e)
  writes_on x (ops.Access path bits) g f i v of e = absurd (cc e)
  writes_on x (ops.MakeDir path) g f i v of e = absurd (cc e)
  writes_on x (ops.RemoveDir path) g f i v of e = absurd (cc e)
  writes_on x (ops.Remove path) g f i v of e = absurd (cc e)
  writes_on x (ops.Rename from to) g f i v of e = absurd (cc e)
  writes_on x (ops.Link from to) g f i v of e = absurd (cc e)
  writes_on x (ops.SymLink path target) g f i v of e = absurd (cc e)
  writes_on x (ops.ReadLink path) g f i v of e = absurd (cc e)
  writes_on x (ops.List path) g f i v of e = absurd (cc e)

  pub writes_by : (x lane line : ℕ) (op : Op) (o : story.Op) (f : File) (i v : ℕ) → histories.At t.entries x (entries.Began lane line op) → Meaning m origin t.entries x op o → means o (record { file = f; at = i }) ≡ Some v → touched.WritesByte m origin t.entries x f i v
  writes_by x lane line op o f i v at (on_file g of e) q = writes_on x op g f i v of (rw e at q)
  writes_by x lane line op o f i v at (by_path offset n path bytes g is ends leads e) q =
      let c = back_covered g f offset bytes i v (rw e at q) in
      touched.put lane line offset n path bytes (rw is at at) ends (rw c.0 at leads) c.1
  writes_by x lane line op o f i v at (opening slot g e) q = absurd (cc (rw e at q))
  writes_by x lane line op o f i v at (other e) q = absurd (cc (rw e at q))

  cuts_on : (x : ℕ) (op : Op) (g f : File) (size i : ℕ) → slots.IsOf m t.entries x op g → cut_op f size ≡ op_on g op → size ≤ i → touched.Cuts m t.entries x f i
  cuts_on x (ops.Truncate slot z) g f size i of e le = let same = cut_is f size g z e in record { slot = slot; size = z; of = rw (← same.0) at of; low = rw same.1 at le }
    where
      cut_is : (f : File) (a : ℕ) (g : File) (b : ℕ) → cut_op f a ≡ cut_op g b → (f ≡ g) × (a ≡ b)
      cut_is f a g b e = (cc, cc)
  cuts_on x (ops.OpenFile slot mode path) g f size i of e le = absurd (cc e)
  cuts_on x (ops.Read slot offset count) g f size i of e le = absurd (cc e)
  cuts_on x (ops.Write slot offset bytes) g f size i of e le = absurd (cc e)
  cuts_on x (ops.Fill slot offset count byte) g f size i of e le = absurd (cc e)
  cuts_on x (ops.Put path offset bytes) g f size i of e le = absurd (cc e)
  cuts_on x (ops.Sync slot) g f size i of e le = absurd (cc e)
  cuts_on x (ops.Close slot) g f size i of e le = absurd (cc e)
  cuts_on x (ops.Stat path) g f size i of e le = absurd (cc e)
  cuts_on x (ops.Access path bits) g f size i of e le = absurd (cc e)
  cuts_on x (ops.MakeDir path) g f size i of e le = absurd (cc e)
  cuts_on x (ops.RemoveDir path) g f size i of e le = absurd (cc e)
  cuts_on x (ops.Remove path) g f size i of e le = absurd (cc e)
  cuts_on x (ops.Rename from to) g f size i of e le = absurd (cc e)
  cuts_on x (ops.Link from to) g f size i of e le = absurd (cc e)
  cuts_on x (ops.SymLink path target) g f size i of e le = absurd (cc e)
  cuts_on x (ops.ReadLink path) g f size i of e le = absurd (cc e)
  cuts_on x (ops.List path) g f size i of e le = absurd (cc e)

  cuts_by : (x : ℕ) (op : Op) (f : File) (size i : ℕ) → Meaning m origin t.entries x op (cut_op f size) → size ≤ i → touched.Cuts m t.entries x f i
  cuts_by x op f size i (on_file g of e) le = cuts_on x op g f size i of e le
  cuts_by x op f size i (by_path offset n path bytes g is ends leads e) le = absurd (cc e)
  cuts_by x op f size i (opening slot g e) le = absurd (cc e)
  cuts_by x op f size i (other e) le = absurd (cc e)

  record ClosesBack (x lane : ℕ) (f : File) (slot : ℕ) : Type 0 where
    pub line : ℕ
    pub at : histories.At t.entries x (entries.Began lane line (ops.Close slot))
    pub of : slots.IsOf m t.entries x (ops.Close slot) f

  closes_on : (x lane line : ℕ) (op : Op) (g f : File) (slot : ℕ) → histories.At t.entries x (entries.Began lane line op) → slots.IsOf m t.entries x op g → close_op f slot ≡ op_on g op → ClosesBack x lane f slot
  closes_on x lane line (ops.Close z) g f slot at of e = let same = close_is f slot g z e in record { line = line; at = rw same.1 at; of = rw (same.0, same.1) of }
    where
      close_is : (f : File) (a : ℕ) (g : File) (b : ℕ) → close_op f a ≡ close_op g b → (f ≡ g) × (a ≡ b)
      close_is f a g b e = (cc, cc)
  closes_on x lane line (ops.OpenFile slot mode path) g f q at of e = absurd (cc e)
  closes_on x lane line (ops.Read slot offset count) g f q at of e = absurd (cc e)
  closes_on x lane line (ops.Write slot offset bytes) g f q at of e = absurd (cc e)
  closes_on x lane line (ops.Fill slot offset count byte) g f q at of e = absurd (cc e)
  closes_on x lane line (ops.Put path offset bytes) g f q at of e = absurd (cc e)
  closes_on x lane line (ops.Sync slot) g f q at of e = absurd (cc e)
  closes_on x lane line (ops.Truncate slot z) g f q at of e = absurd (cc e)
  closes_on x lane line (ops.Stat path) g f q at of e = absurd (cc e)
  closes_on x lane line (ops.Access path bits) g f q at of e = absurd (cc e)
  closes_on x lane line (ops.MakeDir path) g f q at of e = absurd (cc e)
  closes_on x lane line (ops.RemoveDir path) g f q at of e = absurd (cc e)
  closes_on x lane line (ops.Remove path) g f q at of e = absurd (cc e)
  closes_on x lane line (ops.Rename from to) g f q at of e = absurd (cc e)
  closes_on x lane line (ops.Link from to) g f q at of e = absurd (cc e)
  closes_on x lane line (ops.SymLink path target) g f q at of e = absurd (cc e)
  closes_on x lane line (ops.ReadLink path) g f q at of e = absurd (cc e)
  closes_on x lane line (ops.List path) g f q at of e = absurd (cc e)

  closes_by : (x lane line : ℕ) (op : Op) (f : File) (slot : ℕ) → histories.At t.entries x (entries.Began lane line op) → Meaning m origin t.entries x op (close_op f slot) → ClosesBack x lane f slot
  closes_by x lane line op f slot at (on_file g of e) = closes_on x lane line op g f slot at of e
  closes_by x lane line op f slot at (by_path offset n path bytes g is ends leads e) = absurd (cc e)
  closes_by x lane line op f slot at (opening z g e) = absurd (cc e)
  closes_by x lane line op f slot at (other e) = absurd (cc e)

  closes_back : (x lane : ℕ) (f : File) (slot : ℕ) → At s.entries x (Began lane (close_op f slot)) → ClosesBack x lane f slot
  closes_back x lane f slot at = let b = began_back x lane (close_op f slot) at in closes_by x lane b.line b.op f slot b.at b.mirrors.means

  pub in_slot_is : (n lane slot x : ℕ) (f : File) → slots.InSlot m t.entries n lane slot x f → law.InSlot s.entries n lane slot f
  in_slot_is n lane slot x f h =
      let o = h.opens in
      let d = o.ended in
      let b = began_at x lane d.line (ops.OpenFile slot o.mode o.path) d.began in
      let is : b.is ≡ open_op f slot = b.mirrors.opens lane slot h.y f o in
      record {
        from = x;
        at = h.y;
        began = rw (← is) b.at;
        ends = ended_is lane x (ops.OpenFile slot o.mode o.path) h.y (answers.Done o.value) d;
        early = h.before;
        kept = λ c j g a at e lo hi. (let z = closes_back c lane g slot at in let r = ends_back lane c z.line (ops.Close slot) j a z.at e in h.kept c j r.answer r.ended lo hi);
      }

  delivered_at : (n : ℕ) (bytes : List ℕ) → histories.At t.entries n (entries.Delivered bytes) → (x : ℕ) × (r : story.Reply) × At s.entries n (Delivered x r)
  delivered_at n bytes at = let r = reads m origin t s k n (entries.Delivered bytes) at in (r.mirrors.xid, r.mirrors.reply, rw (← r.mirrors.is) r.at)

  fault_of : (n lane line : ℕ) (a : Answer) → histories.At t.entries n (entries.Answered lane line a) → answer_of a ≡ refused → (fault : Fault) × (a ≡ answers.Refused fault)
  fault_of n lane line (answers.Done value) at e = absurd (cc e)
  fault_of n lane line (answers.Refused fault) at e = (fault, refl)

  given_up : (w y q : ℕ) (f : File) (i v : ℕ) → Written w y f i v → law.Left s.entries w q f → touched.GivenUp m t.entries w q f
  given_up w y q f i v wr l =
      let c = closes_back l.from l.lane f l.slot l.began in
      let e = ends_back l.lane l.from c.line (ops.Close l.slot) q l.ans c.at l.ends in
      record {
        left = record { lane = l.lane; slot = l.slot; close = l.from; answer = e.answer; of = c.of; ended = e.ended; last = λ o z x h. l.last o z (in_slot_is (suc q) o z x f h) };
        refused = elim (cases_lt l.refusal q) [
          | inl lt ↦
              let rc = l.is_refused in
              let c2 = closes_back rc.from rc.lane f rc.slot rc.began in
              let e2 = ends_back rc.lane rc.from c2.line (ops.Close rc.slot) l.refusal refused c2.at rc.ends in
              let fa = fault_of l.refusal rc.lane e2.ended.line e2.answer e2.ended.answered e2.is in
              touched.beside rc.lane rc.slot rc.from l.refusal fa.0 c2.of (rw fa.1 at e2.ended) lt (λ j b at lo hi. (let g = delivered_at j b at in l.none_came j g.0 g.1 lo hi g.2))
          | inr ge ↦
              let late = l.late in
              let same : l.refusal ≡ q = omega (arith, ge, late) in
              let rc = l.is_refused in
              let r = answered_back l.refusal rc.lane refused rc.ends.answered in
              let fa = fault_of l.refusal rc.lane r.line r.answer r.at r.is in
              touched.itself rc.lane r.line fa.0 (rw (← same, ← fa.1) r.at)
        ];
        unstable = λ u. (let b = u.after in let made = made_is u.x u.y f u.made in let d = wr.ended in
            let before = b.before in
            let same = one_end w wr.lane b.lane y b.y wr.op b.op (answers.Done wr.value) b.answer d b.ended in
            l.spared made.lane u.x u.y made.is (law.later wr.lane y wr.is wr.at (ended_is wr.lane w wr.op y (answers.Done wr.value) d) (omega (arith, same, before))) made.at made.firms made.ends u.by);
        unanswered = λ u. (let d = u.ended in let o = wr.ended in
            let same = same_lane w wr.lane o.line u.lane d.line wr.op (ops.Put u.path u.offset u.bytes) o.began d.began in
            l.unanswered wr.lane wr.is wr.at (wr.put u.path u.offset u.bytes same.2) u.y (answer_of u.answer) d.later u.before (answered_at u.y wr.lane d.line u.answer (rw same.0 d.answered)));
      }

  gone_is : (w p : ℕ) (f : File) (i : ℕ) → is_gone ((t.at p).object f) ≡ true → touched.Touched m origin t w p f i
  gone_is w p f i g = by ((t.at p).object f) refl
    where
      by : (o : Option servers.Object) → (t.at p).object f ≡ o → touched.Touched m origin t w p f i
      by None e = absurd (cc (rw e at g))
      by (Some o) e = touched.gone o e (rw e at g)

  pub touched_is : (w y p : ℕ) (f : File) (i v : ℕ) → Written w y f i v → law.Touched s w p (record { file = f; at = i }) → touched.Touched m origin t w p f i
  touched_is w y p f i v wr (inr g) = gone_is w p f i (sym ((k.servers p).gone f) ∙ g)
  touched_is w y p f i v wr (inl (law.foreign n event lo hi at alters)) =
      let r = reads_back m origin t s k n (Foreign event) at in
      elim (back_foreign m origin t n event r.entry r.at r.mirrors) [
        | inl b ↦ touched.foreign n b.call b.reply lo hi b.at (b.alters (record { file = f; at = i }) alters)
        | inr e ↦ absurd (rw e at alters)
      ]
  touched_is w y p f i v wr (inl (law.over x lane byte o ne lt at un q refusal)) =
      let b = began_back x lane o at in
      touched.written x byte ne lt (unanswered_is x lane b.line w b.op b.at un) (writes_by x lane b.line b.op o f i byte b.at b.mirrors.means q) (refused_is x lane b.line b.op o b.at at b.mirrors.means refusal)
  touched_is w y p f i v wr (inl (law.cut x lane size ne lt at le un)) =
      let b = began_back x lane (cut_op f size) at in
      touched.cut x ne lt (unanswered_is x lane b.line w b.op b.at un) (cuts_by x b.op f size i b.mirrors.means le)
  touched_is w y p f i v wr (inl (law.left q lo hi l)) = touched.given_up q lo hi (given_up w y q f i v wr l)

  -- ---- what is settled

  holds_is : (a : servers.Server) (f : File) (i v : ℕ) → byte_now (a.object f) i ≡ Some v → byte_stable (a.object f) i ≡ Some v → model.HoldsStable a f i v
  holds_is a f i v e g = by (a.object f) refl
    where
      held : (o : servers.Object) (h : servers.Holds) → a.object f ≡ Some o → o.holds ≡ h → held_now h i ≡ Some v → held_stable h i ≡ Some v → model.HoldsStable a f i v
      held o (servers.Bytes now stable) is hs n st = record { now = now; stable = stable; has = record { file = o; is = is; holds = hs }; holds = n; steady = st }
      held o (servers.Entries listed) is hs n st = absurd (cc n)
      held o (servers.Text text) is hs n st = absurd (cc n)

      by : (o : Option servers.Object) → a.object f ≡ o → model.HoldsStable a f i v
      by None is = absurd (cc (rw is at e))
      by (Some o) is = held o o.holds is refl (rw is at e) (rw is at g)

  both_is : (p : ℕ) (f : File) (i v : ℕ) → Both (s.at p) (record { file = f; at = i }) v → model.HoldsStable (t.at p) f i v
  both_is p f i v b = let sv = k.servers p in holds_is (t.at p) f i v (sym (sv.now (record { file = f; at = i })) ∙ b.0) (sym (sv.stable (record { file = f; at = i })) ∙ b.1)

  settled_by : law.Settled s → (w y : ℕ) (f : File) (i v j : ℕ) → Written w y f i v → model.SettledBy m t.entries w y f j → (p : ℕ) → j < p → p ≤ length t.entries → (touched.Touched m origin t w p f i → ⊥) → model.HoldsStable (t.at p) f i v
  settled_by st w y f i v j wr (model.later x b made) p lo hi none =
      let g = made_is x j f made in
      let d = wr.ended in
      let before = b.before in
      let long = k.long in
      let same = one_end w wr.lane b.lane y b.y wr.op b.op (answers.Done wr.value) b.answer d b.ended in
      both_is p f i v (st w (record { file = f; at = i }) v wr.lane y g.lane x j p wr.is g.is wr.at wr.means_it (ended_is wr.lane w wr.op y (answers.Done wr.value) d) (inr (omega (arith, same, before))) g.at g.firms g.ends lo (omega (arith, hi, long)) (λ q. none (touched_is w y p f i v wr q)))
  settled_by st w y f i v j wr (model.itself offset bytes puts e) p lo hi none =
      let g = made_is w j f (touched.put offset bytes (rw (← e) at puts)) in
      let d = wr.ended in
      let long = k.long in
      both_is p f i v (st w (record { file = f; at = i }) v wr.lane y g.lane w j p wr.is g.is wr.at wr.means_it (ended_is wr.lane w wr.op y (answers.Done wr.value) d) (inl refl) g.at g.firms g.ends lo (omega (arith, hi, long)) (λ q. none (touched_is w y p f i v wr q)))

  pub settled_is_mirrored : law.Settled s → model.Settled m origin t
  settled_is_mirrored st w y f i v j wr by p lo hi none = settled_by st w y f i v j (written_is w y f i v wr) by p lo hi none
