-- A lane that is busy has begun its operation and not answered it; what began is under way or answered; whose bytes came in.
use Rattle.std.proofs.Common.{inl, inr, ◌⊎◌, ◌≡◌, ◌≢◌, ◌<◌, ◌≤◌, ◌+◌, ℕ, List, [], ◌∷◌, ◌++◌, length, Option, Some, None, Bool, true, false, refl, sym, ap, ◌∙◌, arith}
use Rattle.model_writes.specs.Story.{File, Op, write_op, put_op, sync_op, close_op, cut_op, open_op, plain_op, Answer, done, refused, Entry, Began, Answered, Sent, Executed, Foreign, Reboot, Delivered, Failed, At, is_put, Firms}
use Rattle.model_writes.specs.Settled.{Ends}
use Rattle.model_writes.specs.Machine.{View, idle, busy, Work, starts, joins, ready, Added, SameAdds, Turns, HasBytes, after_add, Adds, Goes, SamePlaces, Clear, queues, firms, refuses, stops, ends, cuts_none, Enters, Move, makes_write, makes_commit, makes_call, adds, proceeds, opens, frees, cuts, gives_up, gives_up_put, loses}
use Rattle.model_writes.specs.Reaches.{Reaches, begins, enters, moves}
use Rattle.model_writes.proofs.AtLemmas.{At-cases, At-grow, At-last, At-below, At-shorten, same_or_not}

pub record HasAdd (c : View) (w : ℕ) : Type 0 where
  pub a : Added
  pub is : c.added w ≡ Some a

abbrev pub AddsBy : View → ℕ → Op → Work → Type 0
AddsBy c s op starts = c.added s ≡ None
AddsBy c s op (joins upto) = (is_put op ≡ true → (a : Added) × (c.added s ≡ Some a) × (a.number ≤ upto)) × (is_put op ≡ false → c.added s ≡ None)
AddsBy c s op (ready done) = HasBytes op → HasAdd c s
AddsBy c s op (ready refused) = is_put op ≡ false → c.added s ≡ None

pub record Busy (h : List Entry) (c : View) (l s : ℕ) (op : Op) (work : Work) : Type 0 where
  pub began : At h s (Began l op)
  pub unanswered : (k : ℕ) (a : Answer) → s < k → At h k (Answered l a) → ⊥
  pub adds_by : AddsBy c s op work

pub data Status (h : List Entry) (c : View) (l s : ℕ) (op : Op) : Type 0 where
  under_way : (work : Work) → c.lane l ≡ busy s op work → Status h c l s op
  ended : (j : ℕ) (a : Answer) → Ends h l s j a → AddsBy c s op (ready a) → Status h c l s op

pub record Filled (h : List Entry) (c : View) (w : ℕ) (a : Added) : Type 0 where
  pub lane : ℕ
  pub op : Op
  pub began : At h w (Began lane op)
  pub put : a.put ≡ is_put op
  pub low : a.number ≤ c.seq

pub record Fact (h : List Entry) (c : View) : Type 0 where
  pub busy_is : (l s : ℕ) (op : Op) (work : Work) → c.lane l ≡ busy s op work → Busy h c l s op work
  pub status : (l s : ℕ) (op : Op) → At h s (Began l op) → Status h c l s op
  pub filled : (w : ℕ) (a : Added) → c.added w ≡ Some a → Filled h c w a

-- two entries at one place are one
abbrev some_entry : Entry → Option Entry
some_entry e = Some e

entry_is : (d e : Entry) → some_entry d ≡ some_entry e → d ≡ e
entry_is d e k = cc

pub began_is : (h : List Entry) (s l k : ℕ) (op op' : Op) → At h s (Began l op) → At h s (Began k op') → (l ≡ k) × (op ≡ op')
began_is h s l k op op' a b = go (entry_is (Began l op) (Began k op') (sym a ∙ b))
  where
    go : Began l op ≡ Began k op' → (l ≡ k) × (op ≡ op')
    go e = (cc, cc)

pub busy_same : (s t : ℕ) (o p : Op) (v w : Work) → busy s o v ≡ busy t p w → (s ≡ t) × (o ≡ p) × (v ≡ w)
busy_same s t o p v w e = (cc, cc, cc)

-- ---- adds that stay
pub same_adds : (b c : View) → SameAdds b c → (s : ℕ) (op : Op) (work : Work) → AddsBy b s op work → AddsBy c s op work
same_adds b c k s op starts a = k.added s ∙ a
same_adds b c k s op (joins upto) a = (λ p. let z = a.0 p in (z.0, k.added s ∙ z.1, z.2), λ p. k.added s ∙ a.1 p)
same_adds b c k s op (ready done) a = λ p. let z = a p in record { a = z.a; is = k.added s ∙ z.is }
same_adds b c k s op (ready refused) a = λ p. k.added s ∙ a p

-- how the lanes change in a move: each stays, or goes on with its operation
pub record Step (b c : View) (l s : ℕ) (op : Op) (work : Work) : Type 0 where
  pub before : Work
  pub was : b.lane l ≡ busy s op before
  pub now : AddsBy b s op before → AddsBy c s op work

pub record Steady (b c : View) : Type 0 where
  pub steps : (l s : ℕ) (op : Op) (work : Work) → c.lane l ≡ busy s op work → Step b c l s op work
  pub goes_on : (l s : ℕ) (op : Op) (work : Work) → b.lane l ≡ busy s op work → (after : Work) × (c.lane l ≡ busy s op after)

kept : (b c : View) → ((l : ℕ) → c.lane l ≡ b.lane l) → SameAdds b c → Steady b c
kept b c k a = record {
  steps = λ l s op work e. record { before = work; was = sym (k l) ∙ e; now = same_adds b c a s op work };
  goes_on = λ l s op work e. (work, k l ∙ e);
}

turns : (b c : View) (l from : ℕ) (o : Op) (before after : Work) → Turns b c l (busy from o before) (busy from o after) → SameAdds b c → (AddsBy c from o before → AddsBy c from o after) → Steady b c
turns b c l from o before after t a g = record {
  steps = λ k s op work e. elim (same_or_not k l) [
    | inl is ↦ let z = busy_same from s o op after work (sym t.is ∙ ap (λ n. c.lane n) (sym is) ∙ e) in record { before = before; was = ap (λ n. b.lane n) is ∙ rw (← z.0, ← z.1) t.was; now = λ q. rw (← z.0, ← z.1, ← z.2) (g (same_adds b c a from o before (rw (z.0, z.1) q))) }
    | inr ne ↦ record { before = work; was = sym (t.others k ne) ∙ e; now = same_adds b c a s op work }
  ];
  goes_on = λ k s op work e. elim (same_or_not k l) [
    | inl is ↦ let z = busy_same from s o op before work (sym t.was ∙ ap (λ n. b.lane n) (sym is) ∙ e) in (after, ap (λ n. c.lane n) is ∙ rw (← z.0, ← z.1) t.is)
    | inr ne ↦ (work, t.others k ne ∙ e)
  ];
}

put_or_not : (p : Bool) → (p ≡ true) ⊎ (p ≡ false)
put_or_not true = inl refl
put_or_not false = inr refl

-- what an operation's own state says of its bytes, after it goes on
goes_adds : (b c : View) (l from : ℕ) (op : Op) (before after : Work) → Goes b l op before after → AddsBy c from op before → AddsBy c from op after
goes_adds b c l from _ _ _ (queues op file f p) a = (λ q. absurd (cc (p, q)), λ q. a)
goes_adds b c l from _ _ _ (firms op file upto f k g) a = λ has. firm op file f has a
  where
    firm : (op : Op) (file : File) → Firms op file → HasBytes op → AddsBy c from op (joins upto) → HasAdd c from
    firm (put_op d o y) file f has a = let z = a.0 refl in record { a = z.0; is = z.1 }
    firm (write_op d o y) file f has a = absurd f
    firm (sync_op d) file f has a = absurd has
    firm (close_op d s) file f has a = absurd has
    firm (cut_op d z) file f has a = absurd has
    firm (open_op d s) file f has a = absurd has
    firm plain_op file f has a = absurd has
goes_adds b c l from _ _ _ (refuses op asks) a = λ p. a
goes_adds b c l from _ _ _ (stops op upto) a = λ p. a.1 p
goes_adds b c l from _ _ _ ends a = λ has. absurd has
goes_adds b c l from _ _ _ (cuts_none file size asks) a = λ has. absurd has

adds_by_now : (b c : View) (m : Adds b c) → (op : Op) → HasBytes op → m.op ≡ op → AddsBy c m.from op (after_add op (b.seq + 1))
adds_by_now b c m (write_op d o y) has is = λ p. record { a = record { number = b.seq + 1; put = is_put m.op }; is = m.added }
adds_by_now b c m (put_op d o y) has is = (λ p. (record { number = b.seq + 1; put = is_put m.op }, m.added, omega arith), λ p. absurd (cc p))
adds_by_now b c m (sync_op d) has is = absurd has
adds_by_now b c m (close_op d s) has is = absurd has
adds_by_now b c m (cut_op d s) has is = absurd has
adds_by_now b c m (open_op d s) has is = absurd has
adds_by_now b c m plain_op has is = absurd has

not_there : (b c : View) (m : Adds b c) (s : ℕ) (op : Op) (work : Work) → s ≢ m.from → AddsBy b s op work → AddsBy c s op work
not_there b c m s op starts ne a = m.others_added s ne ∙ a
not_there b c m s op (joins upto) ne a = (λ p. let z = a.0 p in (z.0, m.others_added s ne ∙ z.1, z.2), λ p. m.others_added s ne ∙ a.1 p)
not_there b c m s op (ready done) ne a = λ p. let z = a p in record { a = z.a; is = m.others_added s ne ∙ z.is }
not_there b c m s op (ready refused) ne a = λ p. m.others_added s ne ∙ a p

adds_steady : (h : List Entry) (b c : View) → Fact h b → Adds b c → Steady b c
adds_steady h b c f m = record {
  steps = λ k s op work e. elim (same_or_not k m.l) [
    | inl is ↦ let z = busy_same m.from s m.op op (after_add m.op (b.seq + 1)) work (sym m.lanes.is ∙ ap (λ n. c.lane n) (sym is) ∙ e) in record { before = starts; was = ap (λ n. b.lane n) is ∙ rw (← z.0, ← z.1) m.lanes.was; now = λ q. rw (← z.0, ← z.1, ← z.2) (adds_by_now b c m m.op m.has refl) }
    | inr ne ↦
        let was = sym (m.lanes.others k ne) ∙ e in
        record { before = work; was = was; now = not_there b c m s op work (λ is. ne (began_is h s k m.l op m.op (f.busy_is k s op work was).began (rw is (f.busy_is m.l m.from m.op starts m.lanes.was).began)).0) }
  ];
  goes_on = λ k s op work e. elim (same_or_not k m.l) [
    | inl is ↦ let z = busy_same m.from s m.op op starts work (sym m.lanes.was ∙ ap (λ n. b.lane n) (sym is) ∙ e) in (after_add m.op (b.seq + 1), ap (λ n. c.lane n) is ∙ rw (← z.0, ← z.1) m.lanes.is)
    | inr ne ↦ (work, m.lanes.others k ne ∙ e)
  ];
}

pub steady : (h : List Entry) (b c : View) → Fact h b → Move b c → Steady b c
steady h b c f (makes_write m) = kept b c m.lanes.lane m.adds
steady h b c f (makes_commit m) = kept b c m.lanes.lane m.adds
steady h b c f (makes_call m) = kept b c m.lanes.lane m.adds
steady h b c f (adds m) = adds_steady h b c f m
steady h b c f (proceeds m) = turns b c m.l m.from m.op m.before m.after m.lanes m.adds (goes_adds b c m.l m.from m.op m.before m.after m.goes)
steady h b c f (opens m) = turns b c m.l m.from (open_op m.file m.slot) starts (ready done) m.lanes m.adds (λ a has. absurd has)
steady h b c f (frees m) = kept b c m.lanes.lane m.adds
steady h b c f (cuts m) = kept b c m.lanes.lane m.adds
steady h b c f (gives_up m) = turns b c m.l m.from (close_op m.file m.slot) (joins m.upto) (ready refused) m.lanes m.drops.adds (λ a p. a.1 p)
steady h b c f (gives_up_put m) = turns b c m.l m.from (put_op m.file m.offset m.bytes) (joins m.upto) (ready refused) m.lanes m.drops.adds (λ a p. a.1 p)
steady h b c f (loses m) = kept b c m.lanes.lane m.adds

-- the bytes that are in stay so
pub data AddTurn (b c : View) : Type 0 where
  same_in : SameAdds b c → AddTurn b c
  one_in : Adds b c → AddTurn b c

pub add_turn : (b c : View) → Move b c → AddTurn b c
add_turn b c (makes_write m) = same_in m.adds
add_turn b c (makes_commit m) = same_in m.adds
add_turn b c (makes_call m) = same_in m.adds
add_turn b c (adds m) = one_in m
add_turn b c (proceeds m) = same_in m.adds
add_turn b c (opens m) = same_in m.adds
add_turn b c (frees m) = same_in m.adds
add_turn b c (cuts m) = same_in m.adds
add_turn b c (gives_up m) = same_in m.drops.adds
add_turn b c (gives_up_put m) = same_in m.drops.adds
add_turn b c (loses m) = same_in m.adds

-- what has its bytes in keeps its number
pub keeps_add : (h : List Entry) (b c : View) → Fact h b → Move b c → (w : ℕ) (a : Added) → b.added w ≡ Some a → c.added w ≡ Some a
keeps_add h b c f m w a e = elim (add_turn b c m) [
  | same_in k ↦ k.added w ∙ e
  | one_in k ↦ elim (same_or_not w k.from) [
    | inl is ↦ absurd (cc ((f.busy_is k.l k.from k.op starts k.lanes.was).adds_by, is, e))
    | inr ne ↦ k.others_added w ne ∙ e
  ]
]

ended_on : (h : List Entry) (b c : View) → Fact h b → Move b c → (l s j : ℕ) (op : Op) (a : Answer) → At h s (Began l op) → Ends h l s j a → AddsBy b s op (ready a) → AddsBy c s op (ready a)
ended_on h b c f m l s j op a began d q = elim (add_turn b c m) [
  | same_in k ↦ same_adds b c k s op (ready a) q
  | one_in k ↦ not_there b c k s op (ready a) (λ is.
      let z = f.busy_is k.l k.from k.op starts k.lanes.was in
      let same = began_is h s l k.l op k.op began (rw is z.began) in
      z.unanswered j a (rw (← is) d.after) (rw (← same.0) d.answered)) q
]

move : (h : List Entry) (b c : View) → Move b c → Fact h b → Fact h c
move h b c m f = let k = steady h b c f m in record {
  busy_is = λ l s op work e. let z = k.steps l s op work e in let o = f.busy_is l s op z.before z.was in record { began = o.began; unanswered = o.unanswered; adds_by = z.now o.adds_by };
  status = λ l s op at. elim (f.status l s op at) [
    | under_way work is ↦ let z = k.goes_on l s op work is in under_way z.0 z.1
    | ended j a d q ↦ ended j a d (ended_on h b c f m l s j op a at d q)
  ];
  filled = λ w a e. elim (add_turn b c m) [
    | same_in t ↦ let o = f.filled w a (sym (t.added w) ∙ e) in let q = t.seq in let low = o.low in record { lane = o.lane; op = o.op; began = o.began; put = o.put; low = omega (arith, q, low) }
    | one_in t ↦ elim (same_or_not w t.from) [
      | inl is ↦ let n = add_is (record { number = b.seq + 1; put = is_put t.op }) a (sym t.added ∙ ap (λ z. c.added z) (sym is) ∙ e) in let q = t.seq in let u = n.0 in record { lane = t.l; op = t.op; began = rw is (f.busy_is t.l t.from t.op starts t.lanes.was).began; put = sym n.1; low = omega (arith, q, u) }
      | inr ne ↦ let o = f.filled w a (sym (t.others_added w ne) ∙ e) in let q = t.seq in let low = o.low in record { lane = o.lane; op = o.op; began = o.began; put = o.put; low = omega (arith, q, low) }
    ]
  ];
}
  where
    add_is : (a d : Added) → Some a ≡ Some d → (a.number ≡ d.number) × (a.put ≡ d.put)
    add_is a d e = go (is a d e)
      where
        is : (a d : Added) → Some a ≡ Some d → a ≡ d
        is a d e = cc

        go : a ≡ d → (a.number ≡ d.number) × (a.put ≡ d.put)
        go e = (ap (λ (z : Added). z.number) e, ap (λ (z : Added). z.put) e)

-- ---- entries
pub data Shift (n : ℕ) (b : View) (e : Entry) (c : View) : Type 0 where
  quiet : ((l : ℕ) → c.lane l ≡ b.lane l) → ((l : ℕ) (op : Op) → e ≡ Began l op → ⊥) → ((l : ℕ) (a : Answer) → e ≡ Answered l a → ⊥) → Shift n b e c
  starting : (l : ℕ) (op : Op) → e ≡ Began l op → Turns b c l idle (busy n op starts) → Shift n b e c
  noting : (l from : ℕ) (op : Op) (a : Answer) → e ≡ Answered l a → Turns b c l (busy from op (ready a)) idle → Shift n b e c

same_view : (n : ℕ) (b c : View) (e : Entry) → ((l : ℕ) (op : Op) → e ≡ Began l op → ⊥) → ((l : ℕ) (a : Answer) → e ≡ Answered l a → ⊥) → c ≡ b → Shift n b e c
same_view n b c e x y is = quiet (λ l. ap (λ (v : View). v.lane l) is) x y

pub shift : (n : ℕ) (b c : View) (e : Entry) → Enters n b e c → Shift n b e c
shift n b c (Began l op) t = starting l op refl t.lanes
shift n b c (Answered l a) t = noting l t.from t.op a refl t.lanes
shift n b c (Sent x k) t = same_view n b c (Sent x k) (λ l op e. absurd (cc e)) (λ l a e. absurd (cc e)) t.1
shift n b c (Delivered x r) t = quiet t.lanes.lane (λ l op e. absurd (cc e)) (λ l a e. absurd (cc e))
shift n b c Failed t = same_view n b c Failed (λ l op e. absurd (cc e)) (λ l a e. absurd (cc e)) t
shift n b c (Executed x k r) t = same_view n b c (Executed x k r) (λ l op e. absurd (cc e)) (λ l a e. absurd (cc e)) t
shift n b c (Foreign o) t = same_view n b c (Foreign o) (λ l op e. absurd (cc e)) (λ l a e. absurd (cc e)) t
shift n b c Reboot t = same_view n b c Reboot (λ l op e. absurd (cc e)) (λ l a e. absurd (cc e)) t

view_adds : (b c : View) → c ≡ b → SameAdds b c
view_adds b c is = record { seq = ap (λ (v : View). v.seq) is; added = λ w. ap (λ (v : View). v.added w) is; lost = λ e. ap (λ (v : View). v.lost) is ∙ e }

pub entry_adds : (n : ℕ) (b c : View) (e : Entry) → Enters n b e c → SameAdds b c
entry_adds n b c (Began l op) t = t.adds
entry_adds n b c (Answered l a) t = t.adds
entry_adds n b c (Sent x k) t = view_adds b c t.1
entry_adds n b c (Delivered x r) t = t.adds
entry_adds n b c Failed t = view_adds b c t
entry_adds n b c (Executed x k r) t = view_adds b c t
entry_adds n b c (Foreign o) t = view_adds b c t
entry_adds n b c Reboot t = view_adds b c t

pub grow_ends : (h : List Entry) (e : Entry) (l s j : ℕ) (a : Answer) → Ends h l s j a → Ends (h ++ e ∷ []) l s j a
grow_ends h e l s j a d = record { after = d.after; answered = At-grow h (e ∷ []) j (Answered l a) d.answered; first = λ k o lo hi got. let jl = At-below h j (Answered l a) d.answered in d.first k o lo hi (At-shorten h (e ∷ []) k (Answered l o) (omega (arith, jl, hi)) got) }

began_at : (l k : ℕ) (o p : Op) → Began l o ≡ Began k p → (l ≡ k) × (o ≡ p)
began_at l k o p e = (cc, cc)

pub answer_at : (l k : ℕ) (a d : Answer) → Answered l a ≡ Answered k d → (l ≡ k) × (a ≡ d)
answer_at l k a d e = (cc, cc)

old_busy : (h : List Entry) (b c : View) (e : Entry) → SameAdds b c → (l s : ℕ) (op : Op) (work : Work) → ((a : Answer) → e ≡ Answered l a → ⊥) → Busy h b l s op work → Busy (h ++ e ∷ []) c l s op work
old_busy h b c e k l s op work none o = record {
  began = At-grow h (e ∷ []) s (Began l op) o.began;
  unanswered = λ n a lt at. elim (At-cases h e n (Answered l a) at) [ inl old ↦ o.unanswered n a lt old | inr m ↦ none a m.1 ];
  adds_by = same_adds b c k s op work o.adds_by;
}

-- nothing is in of what only begins
unfilled : (h : List Entry) (b : View) → Fact h b → b.added (length h) ≡ None
unfilled h b f = go (b.added (length h)) refl
  where
    go : (o : Option Added) → b.added (length h) ≡ o → b.added (length h) ≡ None
    go None e = e
    go (Some a) e = let z = f.filled (length h) a e in let low = At-below h (length h) (Began z.lane z.op) z.began in absurd (omega (arith, low))

entry : (h : List Entry) (b c : View) (e : Entry) → SameAdds b c → Shift (length h) b e c → Fact h b → Fact (h ++ e ∷ []) c
entry h b c e k (quiet lanes x y) f = record {
  busy_is = λ l s op work is. old_busy h b c e k l s op work (y l) (f.busy_is l s op work (sym (lanes l) ∙ is));
  status = λ l s op at. elim (At-cases h e s (Began l op) at) [
    | inl old ↦ elim (f.status l s op old) [ under_way work is ↦ under_way work (lanes l ∙ is) | ended j a d q ↦ ended j a (grow_ends h e l s j a d) (same_adds b c k s op (ready a) q) ]
    | inr m ↦ absurd (x l op m.1)
  ];
  filled = λ w a is. let o = f.filled w a (sym (k.added w) ∙ is) in let q = k.seq in let low = o.low in record { lane = o.lane; op = o.op; began = At-grow h (e ∷ []) w (Began o.lane o.op) o.began; put = o.put; low = omega (arith, q, low) };
}
entry h b c e k (starting l0 op0 is0 t) f = record {
  busy_is = λ l s op work is. elim (same_or_not l l0) [
    | inl here ↦
        let z = busy_same (length h) s op0 op starts work (sym t.is ∙ ap (λ n. c.lane n) (sym here) ∙ is) in
        record {
          began = rw (← z.0, ← z.1, here, ← is0) (At-last h e);
          unanswered = λ n a lt at. elim (At-cases h e n (Answered l a) at) [ inl old ↦ let low = At-below h n (Answered l a) old in let u = z.0 in absurd (omega (arith, low, u, lt)) | inr m ↦ absurd (cc (is0, m.1)) ];
          adds_by = rw (← z.2, ← z.0) (k.added (length h) ∙ unfilled h b f);
        }
    | inr ne ↦ old_busy h b c e k l s op work (λ a u. absurd (cc (is0, u))) (f.busy_is l s op work (sym (t.others l ne) ∙ is))
  ];
  status = λ l s op at. elim (At-cases h e s (Began l op) at) [
    | inl old ↦ elim (f.status l s op old) [
      | under_way work is ↦ elim (same_or_not l l0) [ inl here ↦ absurd (cc (t.was, ap (λ n. b.lane n) here, is)) | inr ne ↦ under_way work (t.others l ne ∙ is) ]
      | ended j a d q ↦ ended j a (grow_ends h e l s j a d) (same_adds b c k s op (ready a) q)
    ]
    | inr m ↦ let z = began_at l0 l op0 op (sym is0 ∙ m.1) in under_way starts (rw (m.0, ← z.0, ← z.1) t.is)
  ];
  filled = λ w a is. let o = f.filled w a (sym (k.added w) ∙ is) in let q = k.seq in let low = o.low in record { lane = o.lane; op = o.op; began = At-grow h (e ∷ []) w (Began o.lane o.op) o.began; put = o.put; low = omega (arith, q, low) };
}
entry h b c e k (noting l0 from0 op0 a0 is0 t) f = record {
  busy_is = λ l s op work is. elim (same_or_not l l0) [
    | inl here ↦ absurd (cc (t.is, ap (λ n. c.lane n) here, is))
    | inr ne ↦ old_busy h b c e k l s op work (λ a u. ne (sym (answer_at l0 l a0 a (sym is0 ∙ u)).0)) (f.busy_is l s op work (sym (t.others l ne) ∙ is))
  ];
  status = λ l s op at. elim (At-cases h e s (Began l op) at) [
    | inl old ↦ elim (f.status l s op old) [
      | under_way work is ↦ elim (same_or_not l l0) [
        | inl here ↦
            let z = busy_same from0 s op0 op (ready a0) work (sym t.was ∙ ap (λ n. b.lane n) (sym here) ∙ is) in
            let o = f.busy_is l s op work is in
            ended (length h) a0 (record { after = At-below h s (Began l op) old; answered = rw (here, ← is0) (At-last h e); first = λ n d lo hi got. o.unanswered n d lo (At-shorten h (e ∷ []) n (Answered l d) hi got) }) (same_adds b c k s op (ready a0) (rw (← z.2) at o.adds_by))
        | inr ne ↦ under_way work (t.others l ne ∙ is)
      ]
      | ended j a d q ↦ ended j a (grow_ends h e l s j a d) (same_adds b c k s op (ready a) q)
    ]
    | inr m ↦ absurd (cc (is0, m.1))
  ];
  filled = λ w a is. let o = f.filled w a (sym (k.added w) ∙ is) in let q = k.seq in let low = o.low in record { lane = o.lane; op = o.op; began = At-grow h (e ∷ []) w (Began o.lane o.op) o.began; put = o.put; low = omega (arith, q, low) };
}

pub lanes_fact : (h : List Entry) (c : View) → Reaches h c → Fact h c
lanes_fact _ _ (begins h c e i) = record { busy_is = λ l s op work is. absurd (cc (i.lane l, is)); status = λ l s op at. absurd (e.unbegun s l op at); filled = λ w a is. absurd (cc (i.added w, is)) }
lanes_fact _ _ (enters h c before b e r g t) = rw g (entry before b c e (entry_adds (length before) b c e t) (shift (length before) b c e t) (lanes_fact before b r))
lanes_fact _ _ (moves h c b r m) = move h b c m (lanes_fact h b r)

-- ---- an answer that is ready stays
turns_ready : (b c : View) (l from : ℕ) (o : Op) (before after : Work) → Turns b c l (busy from o before) (busy from o after) → ((a : Answer) → before ≡ ready a → ⊥) → (k s : ℕ) (op : Op) (a : Answer) → b.lane k ≡ busy s op (ready a) → c.lane k ≡ busy s op (ready a)
turns_ready b c l from o before after t none k s op a e = elim (same_or_not k l) [
  | inl is ↦ absurd (none a (busy_same from s o op before (ready a) (sym t.was ∙ ap (λ n. b.lane n) (sym is) ∙ e)).2)
  | inr ne ↦ t.others k ne ∙ e
]

not_ready : (b : View) (l : ℕ) (op : Op) (before after : Work) → Goes b l op before after → (a : Answer) → before ≡ ready a → ⊥
not_ready b l _ _ _ (queues op f k p) a e = absurd (cc e)
not_ready b l _ _ _ (firms op f upto k q g) a e = absurd (cc e)
not_ready b l _ _ _ (refuses op asks) a e = absurd (cc e)
not_ready b l _ _ _ (stops op upto) a e = absurd (cc e)
not_ready b l _ _ _ ends a e = absurd (cc e)
not_ready b l _ _ _ (cuts_none f z asks) a e = absurd (cc e)

pub ready_stays : (b c : View) → Move b c → (k s : ℕ) (op : Op) (a : Answer) → b.lane k ≡ busy s op (ready a) → c.lane k ≡ busy s op (ready a)
ready_stays b c (makes_write m) k s op a e = m.lanes.lane k ∙ e
ready_stays b c (makes_commit m) k s op a e = m.lanes.lane k ∙ e
ready_stays b c (makes_call m) k s op a e = m.lanes.lane k ∙ e
ready_stays b c (adds m) k s op a e = turns_ready b c m.l m.from m.op starts (after_add m.op (b.seq + 1)) m.lanes (λ d i. absurd (cc i)) k s op a e
ready_stays b c (proceeds m) k s op a e = turns_ready b c m.l m.from m.op m.before m.after m.lanes (not_ready b m.l m.op m.before m.after m.goes) k s op a e
ready_stays b c (opens m) k s op a e = turns_ready b c m.l m.from (open_op m.file m.slot) starts (ready done) m.lanes (λ d i. absurd (cc i)) k s op a e
ready_stays b c (frees m) k s op a e = m.lanes.lane k ∙ e
ready_stays b c (cuts m) k s op a e = m.lanes.lane k ∙ e
ready_stays b c (gives_up m) k s op a e = turns_ready b c m.l m.from (close_op m.file m.slot) (joins m.upto) (ready refused) m.lanes (λ d i. absurd (cc i)) k s op a e
ready_stays b c (gives_up_put m) k s op a e = turns_ready b c m.l m.from (put_op m.file m.offset m.bytes) (joins m.upto) (ready refused) m.lanes (λ d i. absurd (cc i)) k s op a e
ready_stays b c (loses m) k s op a e = m.lanes.lane k ∙ e

-- ---- how an operation that firms a file comes to a state
pub data Came (b c : View) (l s : ℕ) (op : Op) (f : File) : Work → Type 0 where
  stood : (work : Work) → b.lane l ≡ busy s op work → Came b c l s op f work
  queued : (work : Work) → work ≡ joins b.seq → is_put op ≡ false → Came b c l s op f work
  added : (work : Work) (number : ℕ) → work ≡ joins number → is_put op ≡ true → (a : Added) → c.added s ≡ Some a → a.number ≤ number → b.seq ≤ number → Came b c l s op f work
  firmed : (work : Work) (upto : ℕ) → work ≡ ready done → b.lane l ≡ busy s op (joins upto) → Clear f upto b → b.gave f ≡ false → SamePlaces b c → Came b c l s op f work
  failed : (work : Work) → work ≡ ready refused → Came b c l s op f work

pub firms_one : (op : Op) (f g : File) → Firms op f → Firms op g → f ≡ g
firms_one (write_op d o y) f g a b = absurd a
firms_one (put_op d o y) f g a b = a ∙ sym b
firms_one (sync_op d) f g a b = a ∙ sym b
firms_one (close_op d s) f g a b = a ∙ sym b
firms_one (cut_op d z) f g a b = absurd a
firms_one (open_op d s) f g a b = absurd a
firms_one plain_op f g a b = absurd a

came_turn : (b c : View) (l from : ℕ) (o : Op) (before after : Work) → Turns b c l (busy from o before) (busy from o after) → (k s : ℕ) (op : Op) (f : File) (work : Work)
    → (b.lane k ≡ busy s op before → s ≡ from → op ≡ o → work ≡ after → Came b c k s op f work) → c.lane k ≡ busy s op work → Came b c k s op f work
came_turn b c l from o before after t k s op f work g e = elim (same_or_not k l) [
  | inl is ↦ let z = busy_same from s o op after work (sym t.is ∙ ap (λ n. c.lane n) (sym is) ∙ e) in g (ap (λ n. b.lane n) is ∙ rw (← z.0, ← z.1) t.was) (sym z.0) (sym z.1) (sym z.2)
  | inr ne ↦ stood work (sym (t.others k ne) ∙ e)
]

came_goes : (b c : View) (l k s : ℕ) (op : Op) (f : File) (before after work : Work) → SamePlaces b c → Firms op f → Goes b l op before after → b.lane k ≡ busy s op before → work ≡ after → Came b c k s op f work
came_goes b c l k s _ f _ _ work same fi (queues op g q p) was is = queued work is p
came_goes b c l k s _ f _ _ work same fi (firms op g upto q cl gv) was is = let e = firms_one op g f q fi in firmed work upto is was (rw (← e) cl) (rw (← e) gv) same
came_goes b c l k s _ f _ _ work same fi (refuses op asks) was is = failed work is
came_goes b c l k s _ f _ _ work same fi (stops op upto) was is = failed work is
came_goes b c l k s _ f _ _ work same fi ends was is = absurd fi
came_goes b c l k s _ f _ _ work same fi (cuts_none g z asks) was is = absurd fi

came_add : (b c : View) (m : Adds b c) (k s : ℕ) (op : Op) (f : File) (work : Work) → Firms op f → s ≡ m.from → work ≡ after_add op (b.seq + 1) → HasBytes op → Came b c k s op f work
came_add b c m k s (put_op d o y) f work fi is w has = added work (b.seq + 1) w refl (record { number = b.seq + 1; put = is_put m.op }) (ap (λ n. c.added n) is ∙ m.added) (omega arith) (omega arith)
came_add b c m k s (write_op d o y) f work fi is w has = absurd fi
came_add b c m k s (sync_op d) f work fi is w has = absurd has
came_add b c m k s (close_op d z) f work fi is w has = absurd has
came_add b c m k s (cut_op d z) f work fi is w has = absurd fi
came_add b c m k s (open_op d z) f work fi is w has = absurd fi
came_add b c m k s plain_op f work fi is w has = absurd fi

pub came_to : (b c : View) → Move b c → (k s : ℕ) (op : Op) (f : File) (work : Work) → Firms op f → c.lane k ≡ busy s op work → Came b c k s op f work
came_to b c (makes_write m) k s op f work fi e = stood work (sym (m.lanes.lane k) ∙ e)
came_to b c (makes_commit m) k s op f work fi e = stood work (sym (m.lanes.lane k) ∙ e)
came_to b c (makes_call m) k s op f work fi e = stood work (sym (m.lanes.lane k) ∙ e)
came_to b c (adds m) k s op f work fi e = came_turn b c m.l m.from m.op starts (after_add m.op (b.seq + 1)) m.lanes k s op f work (λ was i o w. came_add b c m k s op f work fi i (w ∙ ap (λ z. after_add z (b.seq + 1)) (sym o)) (rw o m.has)) e
came_to b c (proceeds m) k s op f work fi e = came_turn b c m.l m.from m.op m.before m.after m.lanes k s op f work (λ was i o w. came_goes b c m.l k s op f m.before m.after work m.places fi (rw o m.goes) was w) e
came_to b c (opens m) k s op f work fi e = came_turn b c m.l m.from (open_op m.file m.slot) starts (ready done) m.lanes k s op f work (λ was i o w. absurd (rw o at fi)) e
came_to b c (frees m) k s op f work fi e = stood work (sym (m.lanes.lane k) ∙ e)
came_to b c (cuts m) k s op f work fi e = stood work (sym (m.lanes.lane k) ∙ e)
came_to b c (gives_up m) k s op f work fi e = came_turn b c m.l m.from (close_op m.file m.slot) (joins m.upto) (ready refused) m.lanes k s op f work (λ was i o w. failed work w) e
came_to b c (gives_up_put m) k s op f work fi e = came_turn b c m.l m.from (put_op m.file m.offset m.bytes) (joins m.upto) (ready refused) m.lanes k s op f work (λ was i o w. failed work w) e
came_to b c (loses m) k s op f work fi e = stood work (sym (m.lanes.lane k) ∙ e)
