-- What excuses a byte: it was touched, its file is gone, it is owed by a close that gave up, or it is a put's that was refused.
use Rattle.std.proofs.Common.{inl, inr, ◌⊎◌, ◌≡◌, ◌<◌, ◌≤◌, ℕ, suc, List, [], ◌∷◌, ◌++◌, length, Some, Bool, true, false, refl, sym, ap, ◌∙◌, arith}
use Rattle.model_writes.specs.Story.{File, Spot, Op, write_op, put_op, sync_op, close_op, cut_op, open_op, plain_op, Reply, Answer, done, refused, Entry, Began, Answered, Sent, Executed, Foreign, Reboot, Delivered, Failed, At, Told, means, is_put, Firms}
use Rattle.model_writes.specs.Settled.{Ends, Counts, itself, InSlot, RefusedClose, Reason, left, Wrote}
use Rattle.model_writes.specs.Machine.{View, busy, Work, starts, ready, Answers, Hears, Enters, Move, makes_write, makes_commit, makes_call, adds, proceeds, opens, frees, cuts, gives_up, gives_up_put, loses}
use Rattle.model_writes.specs.Reaches.{Reaches, enters}
use Rattle.model_writes.proofs.AtLemmas.{At-cases, At-grow, At-last, At-below, At-shorten, length_last, same_or_not, same_file_or_not}
use Rattle.model_writes.proofs.FlyingBytes.{covers_file}
use Rattle.model_writes.proofs.OperationsOfLanes.{under_way, ended, HasAdd, steady, lanes_fact, keeps_add, entry_adds, began_is, busy_same, Shift, quiet, starting, noting, shift, grow_ends, answer_at, ready_stays, stood, queued, added, firmed, failed, came_to}
use Rattle.model_writes.proofs.SlotsHoldFiles.{Held, slots_fact, entry_opens, less_ends, less_slot}
use Rattle.model_writes.proofs.TouchedGrows.{less_counts, grow_refused, grow, more}

-- a close of the file was refused, and no record came since
pub record Late (h : List Entry) (f : File) : Type 0 where
  pub j : ℕ
  pub close : RefusedClose h j f
  pub none : (n x : ℕ) (r : Reply) → j < n → At h n (Delivered x r) → ⊥

pub data Owing (h : List Entry) (c : View) (f : File) : Type 0 where
  by_itself : (l from slot : ℕ) → c.lane l ≡ busy from (close_op f slot) (ready refused) → Owing h c f
  beside : (l from slot : ℕ) (a : Answer) → c.lane l ≡ busy from (close_op f slot) (ready a) → Late h f → Owing h c f

-- a close that is under way has its answer, or its slot holds no file by the answers
abbrev pub Leaving : List Entry → ℕ → ℕ → File → Work → Type 0
Leaving h k s f work = ((a : Answer) × (work ≡ ready a)) ⊎ (InSlot h (length h) k s f → ⊥)

pub record Owed (h : List Entry) (c : View) (w : ℕ) (f : File) : Type 0 where
  pub gave : c.gave f ≡ true
  pub owing : Owing h c f
  pub shut : (l s : ℕ) → c.opens l s ≡ Some f → ⊥
  pub closed_all : (k from s : ℕ) (work : Work) → c.lane k ≡ busy from (close_op f s) work → Leaving h k s f work
  pub spared : (l s j : ℕ) (op : Op) → Counts h w s → At h s (Began l op) → Firms op f → Ends h l s j done → ⊥
  pub pending : (l s : ℕ) (op : Op) → Counts h w s → Firms op f → c.lane l ≡ busy s op (ready done) → ⊥
  pub unput : (l : ℕ) (op : Op) → At h w (Began l op) → is_put op ≡ true → (k : ℕ) (a : Answer) → w < k → At h k (Answered l a) → ⊥

pub data Refusal (h : List Entry) (c : View) (w : ℕ) : Type 0 where
  now : (l : ℕ) (op : Op) → is_put op ≡ true → c.lane l ≡ busy w op (ready refused) → Refusal h c w
  before : (l j : ℕ) (op : Op) → is_put op ≡ true → At h w (Began l op) → Ends h l w j refused → Refusal h c w

pub record Gone (t : Told) (p : ℕ) (f : File) : Type 0 where
  pub at : ℕ
  pub early : at ≤ p
  pub is : (t.at at).gone f ≡ true

pub data Excused (t : Told) (h : List Entry) (p : ℕ) (c : View) (w : ℕ) (i : Spot) : Type 0 where
  touched : Reason h (λ x. HasAdd c x) w p i → Excused t h p c w i
  gone : Gone t p i.file → Excused t h p c w i
  owed : Owed h c w i.file → Excused t h p c w i
  failed_put : Refusal h c w → Excused t h p c w i

-- ---- lanes with an answer, over an entry
pub ready_before : (n : ℕ) (b c : View) (e : Entry) → Shift n b e c → (k s : ℕ) (op : Op) (a : Answer) → c.lane k ≡ busy s op (ready a) → b.lane k ≡ busy s op (ready a)
ready_before n b c e (quiet lanes x y) k s op a is = sym (lanes k) ∙ is
ready_before n b c e (starting l0 op0 is0 t) k s op a is = elim (same_or_not k l0) [
  | inl here ↦ absurd (cc ((busy_same n s op0 op starts (ready a) (sym t.is ∙ ap (λ z. c.lane z) (sym here) ∙ is)).2))
  | inr ne ↦ sym (t.others k ne) ∙ is
]
ready_before n b c e (noting l0 from0 op0 a0 is0 t) k s op a is = elim (same_or_not k l0) [
  | inl here ↦ absurd (cc (t.is, ap (λ z. c.lane z) here, is))
  | inr ne ↦ sym (t.others k ne) ∙ is
]

pub ready_after : (n : ℕ) (b c : View) (e : Entry) → Shift n b e c → (k s : ℕ) (op : Op) (a : Answer) → b.lane k ≡ busy s op (ready a) → (c.lane k ≡ busy s op (ready a)) ⊎ (e ≡ Answered k a)
ready_after n b c e (quiet lanes x y) k s op a is = inl (lanes k ∙ is)
ready_after n b c e (starting l0 op0 is0 t) k s op a is = elim (same_or_not k l0) [
  | inl here ↦ absurd (cc (t.was, ap (λ z. b.lane z) here, is))
  | inr ne ↦ inl (t.others k ne ∙ is)
]
ready_after n b c e (noting l0 from0 op0 a0 is0 t) k s op a is = elim (same_or_not k l0) [
  | inl here ↦
      let z = busy_same from0 s op0 op (ready a0) (ready a) (sym t.was ∙ ap (λ z. b.lane z) (sym here) ∙ is) in
      inr (rw (here, ← answer_is a0 a z.2) is0)
  | inr ne ↦ inl (t.others k ne ∙ is)
]
  where
    answer_is : (a d : Answer) → ready a ≡ ready d → a ≡ d
    answer_is a d e = cc

-- the answer of an operation that is noted was ready
pub noted : (h : List Entry) (b c : View) (l s : ℕ) (op : Op) (a : Answer) → Reaches h b → Answers b c l a → At h s (Began l op) → ((j : ℕ) (d : Answer) → Ends h l s j d → ⊥) → b.lane l ≡ busy s op (ready a)
noted h b c l s op a r t at open_ = elim ((lanes_fact h b r).status l s op at) [
  | under_way work is ↦ let z = busy_same t.from s t.op op (ready a) work (sym t.lanes.was ∙ is) in rw (z.2) is
  | ended j d k q ↦ absurd (open_ j d k)
]

refusal_entry : (h : List Entry) (b c : View) (e : Entry) (w : ℕ) → Reaches h b → Enters (length h) b e c → Refusal h b w → Refusal (h ++ e ∷ []) c w
refusal_entry h b c e w r t (before l j op p at d) = before l j op p (At-grow h (e ∷ []) w (Began l op) at) (grow_ends h e l w j refused d)
refusal_entry h b c e w r t (now l op p is) = elim (ready_after (length h) b c e (shift (length h) b c e t) l w op refused is) [
  | inl k ↦ now l op p k
  | inr k ↦
      let o = (lanes_fact h b r).busy_is l w op (ready refused) is in
      before l (length h) op p (At-grow h (e ∷ []) w (Began l op) o.began) (record { after = At-below h w (Began l op) o.began; answered = rw (← k) (At-last h e); first = λ n d lo hi got. o.unanswered n d lo (At-shorten h (e ∷ []) n (Answered l d) hi got) })
]

view_gave : (b c : View) → c ≡ b → (f : File) → c.gave f ≡ b.gave f
view_gave b c is f = ap (λ (v : View). v.gave f) is

entry_gave : (n : ℕ) (b c : View) (e : Entry) → Enters n b e c → ((x : ℕ) (r : Reply) → e ≡ Delivered x r → ⊥) → (f : File) → c.gave f ≡ b.gave f
entry_gave n b c (Began l op) t none = t.slots.gave
entry_gave n b c (Answered l a) t none = t.slots.gave
entry_gave n b c (Sent x k) t none = view_gave b c t.1
entry_gave n b c (Delivered x r) t none = absurd (none x r refl)
entry_gave n b c Failed t none = view_gave b c t
entry_gave n b c (Executed x k r) t none = view_gave b c t
entry_gave n b c (Foreign o) t none = view_gave b c t
entry_gave n b c Reboot t none = view_gave b c t

-- a slot of a lane whose answer isn't noted held its file before
slot_before : (h : List Entry) (e : Entry) (k s : ℕ) (f : File) → ((a : Answer) → e ≡ Answered k a → ⊥) → InSlot (h ++ e ∷ []) (length (h ++ e ∷ [])) k s f → InSlot h (length h) k s f
slot_before h e k s f none i = elim (At-cases h e i.at (Answered k done) i.ends.answered) [
  | inr m ↦ absurd (none done m.1)
  | inl a ↦ let low = At-below h i.at (Answered k done) a in less_slot h e k s f (length h) (length (h ++ e ∷ [])) (let n = length_last h e in omega (arith, n)) i low low
]

leaving_on : (h : List Entry) (e : Entry) (k s : ℕ) (f : File) (work : Work) → ((a : Answer) → e ≡ Answered k a → ⊥) → Leaving h k s f work → Leaving (h ++ e ∷ []) k s f work
leaving_on h e k s f work none o = elim o [ inl a ↦ inl a | inr no_ ↦ inr (λ i. no_ (slot_before h e k s f none i)) ]

closed_on : (h : List Entry) (b c : View) (e : Entry) (f : File) → Reaches h b → Shift (length h) b e c → ((l s : ℕ) → b.opens l s ≡ Some f → ⊥) → ((k from s : ℕ) (work : Work) → b.lane k ≡ busy from (close_op f s) work → Leaving h k s f work)
    → (k from s : ℕ) (work : Work) → c.lane k ≡ busy from (close_op f s) work → Leaving (h ++ e ∷ []) k s f work
closed_on h b c e f r (quiet lanes x y) shut all k from s work is = leaving_on h e k s f work (y k) (all k from s work (sym (lanes k) ∙ is))
closed_on h b c e f r (noting l0 from0 op0 a0 is0 u) shut all k from s work is = elim (same_or_not k l0) [
  | inl here ↦ absurd (cc (u.is, ap (λ z. c.lane z) here, is))
  | inr ne ↦ leaving_on h e k s f work (λ a q. ne (sym (answer_at l0 k a0 a (sym is0 ∙ q)).0)) (all k from s work (sym (u.others k ne) ∙ is))
]
closed_on h b c e f r (starting l0 op0 is0 u) shut all k from s work is = elim (same_or_not k l0) [
  | inl here ↦ inr (λ i. elim ((slots_fact h b r).held k s f (slot_before h e k s f (λ a q. absurd (cc (is0, q))) i)) [
    | inl o ↦ shut k s o
    | inr z ↦ absurd (cc (u.was, ap (λ q. b.lane q) here, z.is))
  ])
  | inr ne ↦ leaving_on h e k s f work (λ a q. absurd (cc (is0, q))) (all k from s work (sym (u.others k ne) ∙ is))
]

pub means_firms : (op : Op) (i : Spot) (y : ℕ) → means op i ≡ Some y → is_put op ≡ true → Firms op i.file
means_firms (put_op d o bytes) i y m p = sym (covers_file d o bytes i y m)
means_firms (write_op d o bytes) i y m p = absurd (cc p)
means_firms (sync_op d) i y m p = absurd (cc p)
means_firms (close_op d s) i y m p = absurd (cc p)
means_firms (cut_op d z) i y m p = absurd (cc p)
means_firms (open_op d s) i y m p = absurd (cc p)
means_firms plain_op i y m p = absurd (cc p)

-- no operation that counts for w and firms the file was answered ok
spared_on : (h : List Entry) (b c : View) (e : Entry) (w : ℕ) (f : File) → Reaches h b → Enters (length h) b e c → Owed h b w f → (l s j : ℕ) (op : Op) → Counts (h ++ e ∷ []) w s → At (h ++ e ∷ []) s (Began l op) → Firms op f → Ends (h ++ e ∷ []) l s j done → ⊥
spared_on h b c e w f r g o l s j op k at fi d = elim (At-cases h e j (Answered l done) d.answered) [
  | inl a ↦
      let jl = At-below h j (Answered l done) a in
      let sj = d.after in
      let sl : s < length h = omega (arith, jl, sj) in
      o.spared l s j op (less_counts h e w s sl k) (At-shorten h (e ∷ []) s (Began l op) sl at) fi (less_ends h e l s j done jl d)
  | inr m ↦
      let is = m.0 in
      let sj = d.after in
      let sl : s < length h = omega (arith, is, sj) in
      let a : Answers b c l done = rw m.1 at g in
      let at0 = At-shorten h (e ∷ []) s (Began l op) sl at in
      o.pending l s op (less_counts h e w s sl k) fi (noted h b c l s op done r a at0 (λ j2 d2 z.
      let low = At-below h j2 (Answered l d2) z.answered in
      d.first j2 d2 z.after (omega (arith, is, low)) (At-grow h (e ∷ []) j2 (Answered l d2) z.answered)))
]

-- all of it but who owes goes on
owed_on : (t : Told) (h : List Entry) (b c : View) (e : Entry) (w : ℕ) (i : Spot) (y : ℕ) → Reaches h b → Enters (length h) b e c → ((x : ℕ) (r : Reply) → e ≡ Delivered x r → ⊥) → Wrote h w i y → Owed h b w i.file
    → (Refusal (h ++ e ∷ []) c w → ⊥) → Owing (h ++ e ∷ []) c i.file → Owed (h ++ e ∷ []) c w i.file
owed_on t h b c e w i y r g none wr o n owing = record {
  gave = entry_gave (length h) b c e g none i.file ∙ o.gave;
  owing = owing;
  shut = λ l s is. o.shut l s (sym (entry_opens (length h) b c e g l s) ∙ is);
  closed_all = closed_on h b c e i.file r (shift (length h) b c e g) o.shut o.closed_all;
  spared = spared_on h b c e w i.file r g o;
  pending = λ l s op k fi is.
      let was = ready_before (length h) b c e (shift (length h) b c e g) l s op done is in
      let u = (lanes_fact h b r).busy_is l s op (ready done) was in
      o.pending l s op (less_counts h e w s (At-below h s (Began l op) u.began) k) fi was;
  unput = λ l op at p k a lt got.
      let wl = At-below h w (Began wr.lane wr.op) wr.began in
      let at0 = At-shorten h (e ∷ []) w (Began l op) wl at in
      elim (At-cases h e k (Answered l a) got) [
        | inl old ↦ o.unput l op at0 p k a lt old
        | inr m ↦
            let q : Answers b c l a = rw m.1 at g in
            let was = noted h b c l w op a r q at0 (λ j d z. o.unput l op at0 p j d z.after z.answered) in
            let same = began_is h w l wr.lane op wr.op at0 wr.began in
            put_ends l op at0 p a m.1 was (means_firms op i y (rw same.1 wr.means_it) p)
      ];
}
  where
    put_ends : (l : ℕ) (op : Op) → At h w (Began l op) → is_put op ≡ true → (a : Answer) → e ≡ Answered l a → b.lane l ≡ busy w op (ready a) → Firms op i.file → ⊥
    put_ends l op at0 p done is was fi = o.pending l w op (itself refl) fi was
    put_ends l op at0 p refused is was fi =
        let u = (lanes_fact h b r).busy_is l w op (ready refused) was in
        n (before l (length h) op p (At-grow h (e ∷ []) w (Began l op) at0) (record { after = At-below h w (Began l op) at0; answered = rw (← is) (At-last h e); first = λ k d lo hi got. u.unanswered k d lo (At-shorten h (e ∷ []) k (Answered l d) hi got) }))

late_on : (h : List Entry) (e : Entry) (f : File) → ((x : ℕ) (r : Reply) → e ≡ Delivered x r → ⊥) → Late h f → Late (h ++ e ∷ []) f
late_on h e f none k = record { j = k.j; close = grow_refused h e k.j f k.close; none = λ n x r lt at. elim (At-cases h e n (Delivered x r) at) [ inl old ↦ k.none n x r lt old | inr m ↦ none x r m.1 ] }

-- the close that owes is answered: either another one owes, or it is the last, which left the file
answered : (t : Told) (h : List Entry) (b c : View) (w : ℕ) (i : Spot) (y l from slot : ℕ) (a : Answer) → Reaches h b → Answers b c l a → Wrote h w i y → Owed h b w i.file
    → b.lane l ≡ busy from (close_op i.file slot) (ready a) → Late (h ++ Answered l a ∷ []) i.file → (Excused t (h ++ Answered l a ∷ []) (suc (length h)) c w i → ⊥) → ⊥
answered t h b c w i y l from slot a r g wr o is late n =
    let u = (lanes_fact h b r).busy_is l from (close_op i.file slot) (ready a) is in
    let wl = At-below h w (Began wr.lane wr.op) wr.began in
    n (touched (left (length h) wl (omega arith) (record {
      lane = l;
      slot = slot;
      from = from;
      ans = a;
      began = At-grow h (Answered l a ∷ []) from (Began l (close_op i.file slot)) u.began;
      ends = record { after = At-below h from (Began l (close_op i.file slot)) u.began; answered = At-last h (Answered l a); first = λ k d lo hi got. u.unanswered k d lo (At-shorten h (Answered l a ∷ []) k (Answered l d) hi got) };
      last = λ k s q. (let held_at : InSlot (h ++ e ∷ []) (length (h ++ e ∷ [])) k s i.file = rw (length_last h e) q in closed k s held_at ((slots_fact (h ++ e ∷ []) c (enters (h ++ e ∷ []) c h b e r refl g)).held k s i.file held_at));
      refusal = late.j;
      is_refused = late.close;
      late = let low = At-below (h ++ Answered l a ∷ []) late.j (Answered late.close.lane refused) late.close.ends.answered in let q = length_last h (Answered l a) in omega (arith, low, q);
      none_came = λ k x z lo hi at. late.none k x z lo at;
      spared = λ k s j op ct at fi d le. spared_on h b c e w i.file r g o k s j op ct at fi d;
      unanswered = λ k op at p m d lo hi got. o.unput k op (At-shorten h (Answered l a ∷ []) w (Began k op) wl at) p m d lo (At-shorten h (Answered l a ∷ []) m (Answered k d) hi got);
    })))
  where
    e : Entry
    e = Answered l a

    no_record : (x : ℕ) (z : Reply) → Answered l a ≡ Delivered x z → ⊥
    no_record x z k = absurd (cc k)

    closed : (k s : ℕ) → InSlot (h ++ e ∷ []) (length (h ++ e ∷ [])) k s i.file → Held c k s i.file → ⊥
    closed k s held_at q = elim q [
      | inl o2 ↦ o.shut k s (sym (entry_opens (length h) b c e g k s) ∙ o2)
      | inr z ↦
          elim (closed_on h b c e i.file r (shift (length h) b c e g) o.shut o.closed_all k z.from s z.work z.is) [
            | inl d ↦ n (owed (owed_on t h b c e w i y r g no_record wr o (λ v. n (failed_put v)) (beside k z.from s d.0 (rw (← d.1) z.is) late)))
            | inr no_ ↦ no_ held_at
          ]
    ]

owed_entry : (t : Told) (h : List Entry) (b c : View) (e : Entry) (w : ℕ) (i : Spot) (y : ℕ) → Reaches h b → Enters (length h) b e c → Wrote h w i y → Owed h b w i.file → (Excused t (h ++ e ∷ []) (suc (length h)) c w i → ⊥) → ⊥
owed_entry t h b c e w i y r g wr o n = elim o.owing [
  | by_itself l from slot is ↦ elim (record_or e) [
    | inl k ↦ let q : Hears b c k.0 k.1 = rw k.2 at g in q.quiet l from (close_op i.file slot) refused is
    | inr none ↦ elim (ready_after (length h) b c e (shift (length h) b c e g) l from (close_op i.file slot) refused is) [
      | inl k ↦ n (owed (owed_on t h b c e w i y r g none wr o (λ v. n (failed_put v)) (by_itself l from slot k)))
      | inr k ↦ now_answered l from slot refused is k (refused_late l from slot is k)
    ]
  ]
  | beside l from slot a is late ↦ elim (record_or e) [
    | inl k ↦ let q : Hears b c k.0 k.1 = rw k.2 at g in q.quiet l from (close_op i.file slot) a is
    | inr none ↦ elim (ready_after (length h) b c e (shift (length h) b c e g) l from (close_op i.file slot) a is) [
      | inl k ↦ n (owed (owed_on t h b c e w i y r g none wr o (λ v. n (failed_put v)) (beside l from slot a k (late_on h e i.file none late))))
      | inr k ↦ now_answered l from slot a is k (late_on h e i.file none late)
    ]
  ]
]
  where
    record_or : (e : Entry) → ((x : ℕ) × (r : Reply) × (e ≡ Delivered x r)) ⊎ ((x : ℕ) (r : Reply) → e ≡ Delivered x r → ⊥)
    record_or (Delivered x r) = inl (x, r, refl)
    record_or (Began l op) = inr (λ x r k. absurd (cc k))
    record_or (Answered l a) = inr (λ x r k. absurd (cc k))
    record_or (Sent x k) = inr (λ x r k. absurd (cc k))
    record_or (Executed x k r) = inr (λ x r k. absurd (cc k))
    record_or (Foreign o) = inr (λ x r k. absurd (cc k))
    record_or Reboot = inr (λ x r k. absurd (cc k))
    record_or Failed = inr (λ x r k. absurd (cc k))

    now_answered : (l from slot : ℕ) (a : Answer) → b.lane l ≡ busy from (close_op i.file slot) (ready a) → e ≡ Answered l a → Late (h ++ e ∷ []) i.file → ⊥
    now_answered l from slot a is k late =
        let q : Answers b c l a = rw k at g in
        answered t h b c w i y l from slot a r q wr o is (rw k at late) (rw k at n)

    refused_late : (l from slot : ℕ) → b.lane l ≡ busy from (close_op i.file slot) (ready refused) → e ≡ Answered l refused → Late (h ++ e ∷ []) i.file
    refused_late l from slot is k =
        let u = (lanes_fact h b r).busy_is l from (close_op i.file slot) (ready refused) is in
        record {
          j = length h;
          close = record {
            lane = l;
            slot = slot;
            from = from;
            began = At-grow h (e ∷ []) from (Began l (close_op i.file slot)) u.began;
            ends = record { after = At-below h from (Began l (close_op i.file slot)) u.began; answered = rw (← k) (At-last h e); first = λ n d lo hi got. u.unanswered n d lo (At-shorten h (e ∷ []) n (Answered l d) hi got) };
          };
          none = λ n x z lt at. elim (At-cases h e n (Delivered x z) at) [ inl old ↦ let low = At-below h n (Delivered x z) old in absurd (omega (arith, low, lt)) | inr m ↦ absurd (cc (k, m.1)) ];
        }

add_on : (n : ℕ) (b c : View) (e : Entry) → Enters n b e c → (x : ℕ) → HasAdd b x → HasAdd c x
add_on n b c e g x a = record { a = a.a; is = (entry_adds n b c e g).added x ∙ a.is }

-- over an entry
pub on_entry : (t : Told) (h : List Entry) (b c : View) (e : Entry) (w : ℕ) (i : Spot) (y : ℕ) → Reaches h b → Enters (length h) b e c → Wrote h w i y → Excused t h (length h) b w i → (Excused t (h ++ e ∷ []) (suc (length h)) c w i → ⊥) → ⊥
on_entry t h b c e w i y r g wr x n = elim x [
  | touched k ↦ n (touched (grow h e (λ x. HasAdd b x) (λ x. HasAdd c x) w (length h) (suc (length h)) i (add_on (length h) b c e g) (At-below h w (Began wr.lane wr.op) wr.began) (omega arith) k))
  | gone k ↦ n (gone (record { at = k.at; early = let q = k.early in omega (arith, q); is = k.is }))
  | owed k ↦ owed_entry t h b c e w i y r g wr k n
  | failed_put k ↦ n (failed_put (refusal_entry h b c e w r g k))
]

-- ---- over a move
true_not : (b : Bool) → b ≡ true → b ≡ false → ⊥
true_not b x y = absurd (cc (x, y))

move_gave : (b c : View) → Move b c → (f : File) → b.gave f ≡ true → c.gave f ≡ true
move_gave b c (makes_write m) f e = m.slots.gave f ∙ e
move_gave b c (makes_commit m) f e = m.slots.gave f ∙ e
move_gave b c (makes_call m) f e = m.slots.gave f ∙ e
move_gave b c (adds m) f e = m.slots.gave f ∙ e
move_gave b c (proceeds m) f e = m.slots.gave f ∙ e
move_gave b c (opens m) f e = m.gave f ∙ e
move_gave b c (frees m) f e = m.gave f ∙ e
move_gave b c (cuts m) f e = m.slots.gave f ∙ e
move_gave b c (gives_up m) f e = elim (same_file_or_not f m.file) [ inl is ↦ rw is m.gave | inr ne ↦ m.others f ne ∙ e ]
move_gave b c (gives_up_put m) f e = m.slots.gave f ∙ e
move_gave b c (loses m) f e = m.slots.gave f ∙ e

move_shut : (b c : View) → Move b c → (f : File) → b.gave f ≡ true → ((l s : ℕ) → b.opens l s ≡ Some f → ⊥) → (l s : ℕ) → c.opens l s ≡ Some f → ⊥
move_shut b c (makes_write m) f g o l s e = o l s (sym (m.slots.opens l s) ∙ e)
move_shut b c (makes_commit m) f g o l s e = o l s (sym (m.slots.opens l s) ∙ e)
move_shut b c (makes_call m) f g o l s e = o l s (sym (m.slots.opens l s) ∙ e)
move_shut b c (adds m) f g o l s e = o l s (sym (m.slots.opens l s) ∙ e)
move_shut b c (proceeds m) f g o l s e = o l s (sym (m.slots.opens l s) ∙ e)
move_shut b c (opens m) f g o l s e = elim (same_or_not l m.l) [
  | inr ne ↦ o l s (sym (m.others l s (λ is. absurd (ne is))) ∙ e)
  | inl is ↦ elim (same_or_not s m.slot) [
    | inr ne ↦ o l s (sym (m.others l s (λ u. ne)) ∙ e)
    | inl u ↦ true_not (b.gave f) g (rw (← file_is (m.file) f (sym m.holds ∙ ap (λ z. c.opens z m.slot) (sym is) ∙ ap (λ z. c.opens l z) (sym u) ∙ e)) m.warm)
  ]
]
  where
    file_is : (f g : File) → Some f ≡ Some g → f ≡ g
    file_is f g e = cc
move_shut b c (frees m) f g o l s e = elim (m.others l s) [ inl k ↦ o l s (sym k ∙ e) | inr k ↦ absurd (cc (k.2, e)) ]
move_shut b c (cuts m) f g o l s e = o l s (sym (m.slots.opens l s) ∙ e)
move_shut b c (gives_up m) f g o l s e = o l s (sym (m.opens l s) ∙ e)
move_shut b c (gives_up_put m) f g o l s e = o l s (sym (m.slots.opens l s) ∙ e)
move_shut b c (loses m) f g o l s e = o l s (sym (m.slots.opens l s) ∙ e)

owed_move : (h : List Entry) (b c : View) (w : ℕ) (f : File) → Reaches h b → Move b c → Owed h b w f → Owed h c w f
owed_move h b c w f r m o = record {
  gave = move_gave b c m f o.gave;
  owing = elim o.owing [
    | by_itself l from slot is ↦ by_itself l from slot (ready_stays b c m l from (close_op f slot) refused is)
    | beside l from slot a is late ↦ beside l from slot a (ready_stays b c m l from (close_op f slot) a is) late
  ];
  shut = move_shut b c m f o.gave o.shut;
  closed_all = λ k from s work is.
      let z = (steady h b c (lanes_fact h b r) m).steps k from (close_op f s) work is in
      elim (o.closed_all k from s z.before z.was) [
        | inr no_ ↦ inr no_
        | inl q ↦ let stays = ready_stays b c m k from (close_op f s) q.0 (rw (← q.1) z.was) in inl (q.0, (busy_same from from (close_op f s) (close_op f s) work (ready q.0) (sym is ∙ stays)).2)
      ];
  spared = o.spared;
  pending = λ l s op k fi is. elim (came_to b c m l s op f (ready done) fi is) [
    | stood work was ↦ o.pending l s op k fi (pending_was l s op (ready done) is was)
    | queued work e p ↦ absurd (cc e)
    | added work n e p a ad le lo ↦ absurd (cc e)
    | firmed work upto e was cl gv same ↦ true_not (b.gave f) o.gave gv
    | failed work e ↦ absurd (cc e)
  ];
  unput = o.unput;
}
  where
    pending_was : (l s : ℕ) (op : Op) (work : Work) → c.lane l ≡ busy s op work → b.lane l ≡ busy s op work → b.lane l ≡ busy s op work
    pending_was l s op work is was = was

-- over a move
pub on_move : (t : Told) (h : List Entry) (b c : View) (w p : ℕ) (i : Spot) → Reaches h b → Move b c → Excused t h p b w i → Excused t h p c w i
on_move t h b c w p i r m x = elim x [
  | touched k ↦ touched (more h (λ x. HasAdd b x) (λ x. HasAdd c x) w p p i (λ x a. record { a = a.a; is = keeps_add h b c (lanes_fact h b r) m x a.a a.is }) (omega arith) k)
  | gone k ↦ gone k
  | owed k ↦ owed (owed_move h b c w i.file r m k)
  | failed_put k ↦ elim k [
    | now l op q is ↦ failed_put (now l op q (ready_stays b c m l w op refused is))
    | before l j op q at d ↦ failed_put (before l j op q at d)
  ]
]
