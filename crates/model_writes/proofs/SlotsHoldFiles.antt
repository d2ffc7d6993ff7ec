-- A slot that is open by the answers is open in the client, or its close is under way.
use Rattle.std.proofs.Common.{inl, inr, ◌⊎◌, ◌≡◌, ◌<◌, ◌≤◌, ◌+◌, ℕ, List, [], ◌∷◌, ◌++◌, length, Some, sym, ap, ◌∙◌, arith}
use Rattle.model_writes.specs.Story.{File, Op, write_op, put_op, sync_op, close_op, cut_op, open_op, plain_op, Answer, done, refused, Entry, Began, Answered, Sent, Executed, Foreign, Reboot, Delivered, Failed, Firms}
use Rattle.model_writes.specs.Settled.{Ends, InSlot}
use Rattle.model_writes.specs.Machine.{View, busy, after_add, Work, starts, joins, ready, Turns, Goes, queues, firms, refuses, stops, ends, cuts_none, Opens, Frees, Enters, Move, makes_write, makes_commit, makes_call, adds, proceeds, opens, frees, cuts, gives_up, gives_up_put, loses}
use Rattle.model_writes.specs.Reaches.{Reaches, begins, enters, moves}
use Rattle.model_writes.proofs.AtLemmas.{At-cases, At-grow, At-last, At-below, At-shorten, length_last, same_or_not}
use Rattle.model_writes.proofs.OperationsOfLanes as lanes_of
use Rattle.model_writes.proofs.OperationsOfLanes.{under_way, ended, Busy, Steady, steady, lanes_fact, began_is, busy_same, answer_at, Shift, quiet, starting, noting, shift, grow_ends}

pub record Closing (c : View) (l slot : ℕ) (file : File) : Type 0 where
  pub from : ℕ
  pub work : Work
  pub is : c.lane l ≡ busy from (close_op file slot) work

abbrev pub Held : View → ℕ → ℕ → File → Type 0
Held c l slot file = (c.opens l slot ≡ Some file) ⊎ Closing c l slot file

pub record Fact (h : List Entry) (c : View) : Type 0 where
  pub held : (l slot : ℕ) (file : File) → InSlot h (length h) l slot file → Held c l slot file
  pub opened : (l from slot : ℕ) (file : File) → c.lane l ≡ busy from (open_op file slot) (ready done) → c.opens l slot ≡ Some file

-- ---- moves

-- what a slot holds stays, or its own lane closes it; a lane whose open is ready was so before, or has its slot now
pub record Stay (b c : View) : Type 0 where
  pub stays : (l slot : ℕ) (file : File) → b.opens l slot ≡ Some file → Held c l slot file
  pub new : (l from slot : ℕ) (file : File) → c.lane l ≡ busy from (open_op file slot) (ready done) → (c.opens l slot ≡ Some file) ⊎ ((b.lane l ≡ busy from (open_op file slot) (ready done)) × (c.opens l slot ≡ b.opens l slot))

kept : (b c : View) → ((l : ℕ) → c.lane l ≡ b.lane l) → ((l s : ℕ) → c.opens l s ≡ b.opens l s) → Stay b c
kept b c k s = record { stays = λ l slot file e. inl (s l slot ∙ e); new = λ l from slot file e. inr (sym (k l) ∙ e, s l slot) }

turned : (b c : View) (l from : ℕ) (op : Op) (before after : Work) → Turns b c l (busy from op before) (busy from op after) → ((file : File) (slot : ℕ) → op ≡ open_op file slot → after ≡ ready done → ⊥) → ((l s : ℕ) → c.opens l s ≡ b.opens l s) → Stay b c
turned b c l from op before after t none s = record {
  stays = λ l slot file e. inl (s l slot ∙ e);
  new = λ k f slot file e. elim (same_or_not k l) [
    | inl is ↦ let z = busy_same from f op (open_op file slot) after (ready done) (sym t.is ∙ ap (λ n. c.lane n) (sym is) ∙ e) in absurd (none file slot z.1 z.2)
    | inr ne ↦ inr (sym (t.others k ne) ∙ e, s k slot)
  ];
}

not_open : (b : View) (l : ℕ) (op : Op) (before after : Work) → Goes b l op before after → (file : File) (slot : ℕ) → op ≡ open_op file slot → after ≡ ready done → ⊥
not_open b l _ _ _ (queues op f k p) file slot e a = absurd (cc a)
not_open b l _ _ _ (firms op f upto k q g) file slot e a = go op e k
  where
    go : (op : Op) → op ≡ open_op file slot → Firms op f → ⊥
    go (open_op d s) e k = k
    go (write_op d o y) e k = k
    go (put_op d o y) e k = absurd (cc e)
    go (sync_op d) e k = absurd (cc e)
    go (close_op d s) e k = absurd (cc e)
    go (cut_op d z) e k = k
    go plain_op e k = k
not_open b l _ _ _ (refuses op asks) file slot e a = absurd (cc a)
not_open b l _ _ _ (stops op upto) file slot e a = absurd (cc a)
not_open b l _ _ _ ends file slot e a = absurd (cc e)
not_open b l _ _ _ (cuts_none f z asks) file slot e a = absurd (cc e)

open_is : (f : File) (s : ℕ) (g : File) (t : ℕ) → open_op f s ≡ open_op g t → (f ≡ g) × (s ≡ t)
open_is f s g t e = (cc, cc)

opened_slot : (h : List Entry) (b c : View) → lanes_of.Fact h b → Opens b c → Stay b c
opened_slot h b c q m = record {
  stays = λ l slot file e. elim (same_or_not l m.l) [
    | inr ne ↦ inl (m.others l slot (λ is. absurd (ne is)) ∙ e)
    | inl is ↦ elim (same_or_not slot m.slot) [
      | inr ne ↦ inl (m.others l slot (λ u. ne) ∙ e)
      | inl s ↦ inl (absurd (cc (m.free, is, s, e)))
    ]
  ];
  new = λ k f slot file e. elim (same_or_not k m.l) [
    | inl is ↦
        let z = busy_same m.from f (open_op m.file m.slot) (open_op file slot) (ready done) (ready done) (sym m.lanes.is ∙ ap (λ n. c.lane n) (sym is) ∙ e) in
        let o = open_is m.file m.slot file slot z.1 in
        inl (rw (is, ← o.0, ← o.1) m.holds)
    | inr ne ↦ inr (sym (m.lanes.others k ne) ∙ e, m.others k slot (λ is. absurd (ne is)))
  ];
}

some_file : (f g : File) → Some f ≡ Some g → f ≡ g
some_file f g e = cc

freed : (b c : View) → Frees b c → Stay b c
freed b c m = record {
  stays = λ l slot file e. elim (m.others l slot) [
    | inl k ↦ inl (k ∙ e)
    | inr k ↦ let f = some_file m.file file (sym m.was ∙ ap (λ n. b.opens n m.slot) (sym k.0) ∙ ap (λ n. b.opens l n) (sym k.1) ∙ e) in inr (record { from = m.from; work = m.work; is = rw (k.0, k.1, ← f) (m.lanes.lane m.l ∙ m.is) })
  ];
  new = λ l from slot file e. elim (m.others l slot) [
    | inl k ↦ inr (sym (m.lanes.lane l) ∙ e, k)
    | inr k ↦ absurd (no_ (busy_same m.from from (close_op m.file m.slot) (open_op file slot) m.work (ready done) (sym m.is ∙ sym (m.lanes.lane m.l) ∙ ap (λ n. c.lane n) (sym k.0) ∙ e)).1)
  ];
}
  where
    no_ : {f : File} {s : ℕ} {g : File} {t : ℕ} → close_op f s ≡ open_op g t → ⊥
    no_ e = absurd (cc e)

stay : (h : List Entry) (b c : View) → lanes_of.Fact h b → Move b c → Stay b c
stay h b c q (makes_write m) = kept b c m.lanes.lane m.slots.opens
stay h b c q (makes_commit m) = kept b c m.lanes.lane m.slots.opens
stay h b c q (makes_call m) = kept b c m.lanes.lane m.slots.opens
stay h b c q (adds m) = turned b c m.l m.from m.op starts (after_add m.op (b.seq + 1)) m.lanes (λ file slot e a. absurd (cc (ap (λ o. after_add o (b.seq + 1)) e, a))) m.slots.opens
stay h b c q (proceeds m) = turned b c m.l m.from m.op m.before m.after m.lanes (not_open b m.l m.op m.before m.after m.goes) m.slots.opens
stay h b c q (opens m) = opened_slot h b c q m
stay h b c q (frees m) = freed b c m
stay h b c q (cuts m) = kept b c m.lanes.lane m.slots.opens
stay h b c q (gives_up m) = turned b c m.l m.from (close_op m.file m.slot) (joins m.upto) (ready refused) m.lanes (λ f s e a. absurd (cc a)) m.opens
stay h b c q (gives_up_put m) = turned b c m.l m.from (put_op m.file m.offset m.bytes) (joins m.upto) (ready refused) m.lanes (λ f s e a. absurd (cc a)) m.slots.opens
stay h b c q (loses m) = kept b c m.lanes.lane m.slots.opens

move : (h : List Entry) (b c : View) → lanes_of.Fact h b → Move b c → Fact h b → Fact h c
move h b c q m f = let k = stay h b c q m in record {
  held = λ l slot file i. elim (f.held l slot file i) [
    | inl e ↦ k.stays l slot file e
    | inr z ↦ let s = (steady h b c q m).goes_on l z.from (close_op file slot) z.work z.is in inr (record { from = z.from; work = s.0; is = s.1 })
  ];
  opened = λ l from slot file e. elim (k.new l from slot file e) [ inl o ↦ o | inr o ↦ o.1 ∙ f.opened l from slot file o.0 ];
}

-- ---- entries
pub entry_opens : (n : ℕ) (b c : View) (e : Entry) → Enters n b e c → (l s : ℕ) → c.opens l s ≡ b.opens l s
entry_opens n b c (Began l op) t = t.slots.opens
entry_opens n b c (Answered l a) t = t.slots.opens
entry_opens n b c (Sent x k) t = λ l s. ap (λ (v : View). v.opens l s) t.1
entry_opens n b c (Delivered x r) t = t.opens
entry_opens n b c Failed t = λ l s. ap (λ (v : View). v.opens l s) t
entry_opens n b c (Executed x k r) t = λ l s. ap (λ (v : View). v.opens l s) t
entry_opens n b c (Foreign o) t = λ l s. ap (λ (v : View). v.opens l s) t
entry_opens n b c Reboot t = λ l s. ap (λ (v : View). v.opens l s) t

-- a slot open after an entry was open before it, or the entry is the ok answer of its open
pub less_ends : (h : List Entry) (e : Entry) (l s j : ℕ) (a : Answer) → j < length h → Ends (h ++ e ∷ []) l s j a → Ends h l s j a
less_ends h e l s j a low d = record { after = d.after; answered = At-shorten h (e ∷ []) j (Answered l a) low d.answered; first = λ k o lo hi got. d.first k o lo hi (At-grow h (e ∷ []) k (Answered l o) got) }

pub less_slot : (h : List Entry) (e : Entry) (l slot : ℕ) (file : File) (p q : ℕ) → p ≤ q → (i : InSlot (h ++ e ∷ []) q l slot file) → i.at < p → i.at < length h → InSlot h p l slot file
less_slot h e l slot file p q le i low in_h = record {
  from = i.from;
  at = i.at;
  began = At-shorten h (e ∷ []) i.from (Began l (open_op file slot)) (let a = i.ends.after in omega (arith, a, in_h)) i.began;
  ends = less_ends h e l i.from i.at done in_h i.ends;
  early = low;
  kept = λ s k f a at d lo hi. i.kept s k f a (At-grow h (e ∷ []) s (Began l (close_op f slot)) at) (grow_ends h e l s k a d) lo (omega (arith, hi, le));
}

entry : (h : List Entry) (b c : View) (e : Entry) → lanes_of.Fact h b → ((l s : ℕ) → c.opens l s ≡ b.opens l s) → Shift (length h) b e c → Fact h b → Fact (h ++ e ∷ []) c
entry h b c e q same (quiet lanes x y) f = record {
  held = λ l slot file i. elim (At-cases h e i.at (Answered l done) i.ends.answered) [
    | inr m ↦ absurd (y l done m.1)
    | inl a ↦
        let low = At-below h i.at (Answered l done) a in
        elim (f.held l slot file (less_slot h e l slot file (length h) (length (h ++ e ∷ [])) (let n = length_last h e in omega (arith, n)) i low low)) [
          | inl o ↦ inl (same l slot ∙ o)
          | inr z ↦ inr (record { from = z.from; work = z.work; is = lanes l ∙ z.is })
        ]
  ];
  opened = λ l from slot file is. same l slot ∙ f.opened l from slot file (sym (lanes l) ∙ is);
}
entry h b c e q same (starting l0 op0 is0 t) f = record {
  held = λ l slot file i. elim (At-cases h e i.at (Answered l done) i.ends.answered) [
    | inr m ↦ absurd (cc (is0, m.1))
    | inl a ↦
        let low = At-below h i.at (Answered l done) a in
        elim (f.held l slot file (less_slot h e l slot file (length h) (length (h ++ e ∷ [])) (let n = length_last h e in omega (arith, n)) i low low)) [
          | inl o ↦ inl (same l slot ∙ o)
          | inr z ↦ elim (same_or_not l l0) [
            | inl is ↦ absurd (cc (t.was, ap (λ n. b.lane n) is, z.is))
            | inr ne ↦ inr (record { from = z.from; work = z.work; is = t.others l ne ∙ z.is })
          ]
        ]
  ];
  opened = λ l from slot file is. elim (same_or_not l l0) [
    | inl here ↦ absurd (cc ((busy_same (length h) from op0 (open_op file slot) starts (ready done) (sym t.is ∙ ap (λ n. c.lane n) (sym here) ∙ is)).2))
    | inr ne ↦ same l slot ∙ f.opened l from slot file (sym (t.others l ne) ∙ is)
  ];
}
entry h b c e q same (noting l0 from0 op0 a0 is0 t) f = record {
  held = λ l slot file i. elim (At-cases h e i.at (Answered l done) i.ends.answered) [
    | inr m ↦
        let z = answer_at l0 l a0 done (sym is0 ∙ m.1) in
        let o = q.busy_is l0 from0 op0 (ready a0) t.was in
        inl (same l slot ∙ f.opened l from0 slot file (now l slot file i m.0 z.0 z.1 o))
    | inl a ↦
        let low = At-below h i.at (Answered l done) a in
        elim (f.held l slot file (less_slot h e l slot file (length h) (length (h ++ e ∷ [])) (let n = length_last h e in omega (arith, n)) i low low)) [
          | inl o ↦ inl (same l slot ∙ o)
          | inr z ↦ elim (same_or_not l l0) [
            | inl is ↦
                let u = q.busy_is l z.from (close_op file slot) z.work z.is in
                let n = length_last h e in
                absurd (i.kept z.from (length h) file a0 (At-grow h (e ∷ []) z.from (Began l (close_op file slot)) u.began)
                (record { after = At-below h z.from (Began l (close_op file slot)) u.began; answered = rw (is, ← is0) (At-last h e); first = λ k d lo hi got. u.unanswered k d lo (At-shorten h (e ∷ []) k (Answered l d) hi got) }) low (omega (arith, n)))
            | inr ne ↦ inr (record { from = z.from; work = z.work; is = t.others l ne ∙ z.is })
          ]
        ]
  ];
  opened = λ l from slot file is. elim (same_or_not l l0) [
    | inl here ↦ absurd (cc (t.is, ap (λ n. c.lane n) here, is))
    | inr ne ↦ same l slot ∙ f.opened l from slot file (sym (t.others l ne) ∙ is)
  ];
}
  where
    -- the open that the entry answers is the one under way
    now : (l slot : ℕ) (file : File) (i : InSlot (h ++ e ∷ []) (length (h ++ e ∷ [])) l slot file) → i.at ≡ length h → l0 ≡ l → a0 ≡ done → Busy h b l0 from0 op0 (ready a0) → b.lane l ≡ busy from0 (open_op file slot) (ready done)
    now l slot file i at here is o =
        let n = i.ends.after in
        let old = At-shorten h (e ∷ []) i.from (Began l (open_op file slot)) (omega (arith, at, n)) i.began in
        elim (q.status l i.from (open_op file slot) old) [
          | under_way work w ↦
              let z = busy_same from0 i.from op0 (open_op file slot) (ready a0) work (sym t.was ∙ ap (λ n. b.lane n) here ∙ w) in
              rw (← here, ← z.1, ← is) t.was
          | ended j a d k ↦
              let jl = At-below h j (Answered l a) d.answered in
              absurd (i.ends.first j a d.after (omega (arith, jl, at)) (At-grow h (e ∷ []) j (Answered l a) d.answered))
        ]

pub slots_fact : (h : List Entry) (c : View) → Reaches h c → Fact h c
slots_fact _ _ (begins h c e i) = record { held = λ l slot file o. absurd (e.unbegun o.from l (open_op file slot) o.began); opened = λ l from slot file is. absurd (cc (i.lane l, is)) }
slots_fact _ _ (enters h c before b e r g t) = rw g (entry before b c e (lanes_fact before b r) (entry_opens (length before) b c e t) (shift (length before) b c e t) (slots_fact before b r))
slots_fact _ _ (moves h c b r m) = move h b c (lanes_fact h b r) m (slots_fact h b r)
