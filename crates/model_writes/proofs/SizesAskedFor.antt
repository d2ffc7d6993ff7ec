-- A SETATTR of a size that waits is that of a truncate that is under way, or of a lost session.
use Rattle.std.proofs.Common.{inl, inr, ◌⊎◌, ◌≡◌, ◌+◌, ℕ, List, [], ◌∷◌, ◌++◌, length, Some, true, sym, ap, ◌∙◌, arith}
use Rattle.model_writes.specs.Story.{File, Op, put_op, close_op, cut_op, open_op, Call, write, commit, resize, done, refused, Entry, Began, Answered, At}
use Rattle.model_writes.specs.Settled.{Unanswered}
use Rattle.model_writes.specs.Machine.{View, Lane, busy, Work, starts, joins, ready, Added, SameAdds, Turns, after_add, Beside, Goes, queues, firms, refuses, stops, ends, cuts_none, Unasked, Asked, Move, makes_write, makes_commit, makes_call, adds, proceeds, opens, frees, cuts, gives_up, gives_up_put, loses}
use Rattle.model_writes.specs.Reaches.{Reaches, begins, enters, moves}
use Rattle.model_writes.proofs.AtLemmas.{At-grow, At-below, At-shorten, same_or_not}
use Rattle.model_writes.proofs.CallSteps.{Turn, stays, closes, renews, turn}
use Rattle.model_writes.proofs.ExecutedCallsWait.{some_call}
use Rattle.model_writes.proofs.FlyingBytes.{renewed_wait}
use Rattle.model_writes.proofs.OperationsOfLanes.{lanes_fact, entry_adds, same_in, one_in, add_turn, busy_same, Shift, quiet, starting, noting, shift}

pub data Asks (h : List Entry) (c : View) (f : File) (z : ℕ) : Type 0 where
  under_way : (l x : ℕ) → c.lane l ≡ busy x (cut_op f z) starts → Asks h c f z
  lost : (l x : ℕ) → c.lost ≡ true → At h x (Began l (cut_op f z)) → ((w : ℕ) (a : Added) → c.added w ≡ Some a → Unanswered h l x w) → Asks h c f z

abbrev pub Fact : List Entry → View → Type 0
Fact h c = (y : ℕ) (f : File) (z : ℕ) → c.wait y ≡ Some (resize f z) → Asks h c f z

-- the lane of a truncate under way stays; or if its SETATTR waits, the session is lost, or another lane's truncate asks for the same
abbrev Stay : View → View → ℕ → ℕ → File → ℕ → Type 0
Stay b c l x f z = (c.lane l ≡ busy x (cut_op f z) starts) ⊎ ((y : ℕ) → b.wait y ≡ Some (resize f z) → (b.lost ≡ true) ⊎ Beside c l f z)

-- the truncate that is beside a lane stays as that lane turns
beside_on : (b c : View) (k l : ℕ) (before after : Lane) (f : File) (z : ℕ) → Turns b c k before after → l ≡ k → Beside b k f z → Beside c l f z
beside_on b c k l before after f z t is o = record { k = o.k; from = o.from; other = λ same. o.other (same ∙ is); is = t.others o.k o.other ∙ o.is }

turned : (b c : View) (k from : ℕ) (op : Op) (before after : Work) → Turns b c k (busy from op before) (busy from op after) → (l x : ℕ) (f : File) (z : ℕ)
    → (op ≡ cut_op f z → before ≡ starts → (y : ℕ) → b.wait y ≡ Some (resize f z) → (b.lost ≡ true) ⊎ Beside b k f z) → b.lane l ≡ busy x (cut_op f z) starts → Stay b c l x f z
turned b c k from op before after t l x f z g e = elim (same_or_not l k) [
  | inl is ↦
      let q = busy_same from x op (cut_op f z) before starts (sym t.was ∙ ap (λ n. b.lane n) (sym is) ∙ e) in
      inr (λ y w. elim (g q.1 q.2 y w) [ inl d ↦ inl d | inr o ↦ inr (beside_on b c k l (busy from op before) (busy from op after) f z t is o) ])
  | inr ne ↦ inl (t.others l ne ∙ e)
]

goes_lost : (b : View) (l : ℕ) (op : Op) (before after : Work) → Goes b l op before after → (f : File) (z : ℕ) → op ≡ cut_op f z → before ≡ starts → (y : ℕ) → b.wait y ≡ Some (resize f z)
    → (b.lost ≡ true) ⊎ Beside b l f z
goes_lost b l _ _ _ (queues op d k p) f z e s y w = absurd (rw e at k)
goes_lost b l _ _ _ (firms op d upto k q g) f z e s y w = absurd (cc s)
goes_lost b l _ _ _ (refuses op asks) f z e s y w = let q : Unasked b l (cut_op f z) = rw e at asks in q y w
goes_lost b l _ _ _ (stops op upto) f z e s y w = absurd (cc s)
goes_lost b l _ _ _ ends f z e s y w = absurd (cc e)
goes_lost b l _ _ _ (cuts_none d n asks) f z e s y w =
    let same = cut_is d n f z e in
    let q : Unasked b l (cut_op f z) = rw (same.0, same.1) at asks in
    q y w
  where
    cut_is : (d : File) (n : ℕ) (f : File) (z : ℕ) → cut_op d n ≡ cut_op f z → (d ≡ f) × (n ≡ z)
    cut_is d n f z e = (cc, cc)

stay : (b c : View) → Move b c → (l x : ℕ) (f : File) (z : ℕ) → b.lane l ≡ busy x (cut_op f z) starts → Stay b c l x f z
stay b c (makes_write m) l x f z e = inl (m.lanes.lane l ∙ e)
stay b c (makes_commit m) l x f z e = inl (m.lanes.lane l ∙ e)
stay b c (makes_call m) l x f z e = inl (m.lanes.lane l ∙ e)
stay b c (adds m) l x f z e = turned b c m.l m.from m.op starts (after_add m.op (b.seq + 1)) m.lanes l x f z (λ is s y w. absurd (rw is at m.has)) e
stay b c (proceeds m) l x f z e = turned b c m.l m.from m.op m.before m.after m.lanes l x f z (goes_lost b m.l m.op m.before m.after m.goes f z) e
stay b c (opens m) l x f z e = turned b c m.l m.from (open_op m.file m.slot) starts (ready done) m.lanes l x f z (λ is s y w. absurd (cc is)) e
stay b c (frees m) l x f z e = inl (m.lanes.lane l ∙ e)
stay b c (cuts m) l x f z e = inl (m.lanes.lane l ∙ e)
stay b c (gives_up m) l x f z e = turned b c m.l m.from (close_op m.file m.slot) (joins m.upto) (ready refused) m.lanes l x f z (λ is s y w. absurd (cc is)) e
stay b c (gives_up_put m) l x f z e = turned b c m.l m.from (put_op m.file m.offset m.bytes) (joins m.upto) (ready refused) m.lanes l x f z (λ is s y w. absurd (cc is)) e
stay b c (loses m) l x f z e = inl (m.lanes.lane l ∙ e)

asks_move : (h : List Entry) (b c : View) → Reaches h b → Move b c → (y : ℕ) (f : File) (z : ℕ) → b.wait y ≡ Some (resize f z) → Asks h b f z → Asks h c f z
asks_move h b c r m y f z w (under_way l x is) = elim (stay b c m l x f z is) [
  | inl k ↦ under_way l x k
  | inr k ↦ elim (k y w) [
    | inl d ↦
        let o = (lanes_fact h b r).busy_is l x (cut_op f z) starts is in
        lost l x (lost_on d) o.began (λ v a ad n d lo hi got. o.unanswered n d lo got)
    | inr o ↦ under_way o.k o.from o.is
  ]
]
  where
    lost_on : b.lost ≡ true → c.lost ≡ true
    lost_on e = elim (add_turn b c m) [ same_in q ↦ q.lost e | one_in q ↦ absurd (cc (q.found, e)) ]
asks_move h b c r m y f z w (lost l x e at u) = elim (add_turn b c m) [
  | same_in q ↦ lost l x (q.lost e) at (λ v a ad. u v a (sym (q.added v) ∙ ad))
  | one_in q ↦ absurd (cc (q.found, e))
]

-- the call that a move makes
new_ask : (h : List Entry) (b c : View) → Move b c → (y : ℕ) (f : File) (z : ℕ) → c.wait y ≡ Some (resize f z) → (b.wait y ≡ Some (resize f z)) ⊎ Asks h c f z
new_ask h b c (makes_write m) y f z w = elim (same_or_not y m.x) [ inl is ↦ absurd (cc (some_call (write m.file m.offset m.bytes m.how) (resize f z) (sym m.calls.is ∙ ap (λ n. c.wait n) (sym is) ∙ w))) | inr ne ↦ inl (sym (m.calls.others y ne) ∙ w) ]
new_ask h b c (makes_commit m) y f z w = elim (same_or_not y m.x) [ inl is ↦ absurd (cc (some_call (commit m.file) (resize f z) (sym m.calls.is ∙ ap (λ n. c.wait n) (sym is) ∙ w))) | inr ne ↦ inl (sym (m.calls.others y ne) ∙ w) ]
new_ask h b c (makes_call m) y f z w = elim (same_or_not y m.x) [
  | inl is ↦
      let q : Asked b (resize f z) = rw (some_call m.call (resize f z) (sym m.calls.is ∙ ap (λ n. c.wait n) (sym is) ∙ w)) at m.asked in
      inr (under_way q.0 q.1 (m.lanes.lane q.0 ∙ q.2))
  | inr ne ↦ inl (sym (m.calls.others y ne) ∙ w)
]
new_ask h b c (adds m) y f z w = inl (sym (m.calls.wait y) ∙ w)
new_ask h b c (proceeds m) y f z w = inl (sym (m.calls.wait y) ∙ w)
new_ask h b c (opens m) y f z w = inl (sym (m.calls.wait y) ∙ w)
new_ask h b c (frees m) y f z w = inl (sym (m.calls.wait y) ∙ w)
new_ask h b c (cuts m) y f z w = inl (sym (m.calls.wait y) ∙ w)
new_ask h b c (gives_up m) y f z w = inl (sym (m.drops.calls.wait y) ∙ w)
new_ask h b c (gives_up_put m) y f z w = inl (sym (m.drops.calls.wait y) ∙ w)
new_ask h b c (loses m) y f z w = inl (sym (m.calls.wait y) ∙ w)

-- over an entry
old_ask : (b c : View) (e : Entry) → Turn b e c → (y : ℕ) (k : Call) → c.wait y ≡ Some k → (x : ℕ) × (b.wait x ≡ Some k)
old_ask _ _ _ (stays b e c s) y k w = (y, sym (s.calls.wait y) ∙ w)
old_ask _ _ _ (closes b e c x r s) y k w = elim (same_or_not y x) [ inl is ↦ absurd (cc (s.gone, is, w)) | inr ne ↦ (y, sym (s.others y ne) ∙ w) ]
old_ask _ _ _ (renews b e c x r is s) y k w = elim (renewed_wait b c x r s y k w) [ inl z ↦ (x, s.waits ∙ ap (λ q. Some q) (sym z.1)) | inr z ↦ (y, z.2) ]

lane_stays : (n : ℕ) (b c : View) (e : Entry) → Shift n b e c → (l x : ℕ) (f : File) (z : ℕ) → b.lane l ≡ busy x (cut_op f z) starts → c.lane l ≡ busy x (cut_op f z) starts
lane_stays n b c e (quiet lanes x0 y0) l x f z is = lanes l ∙ is
lane_stays n b c e (starting l0 op0 is0 t) l x f z is = elim (same_or_not l l0) [ inl here ↦ absurd (cc (t.was, ap (λ q. b.lane q) here, is)) | inr ne ↦ t.others l ne ∙ is ]
lane_stays n b c e (noting l0 from0 op0 a0 is0 t) l x f z is = elim (same_or_not l l0) [ inl here ↦ absurd (cc ((busy_same from0 x op0 (cut_op f z) (ready a0) starts (sym t.was ∙ ap (λ q. b.lane q) (sym here) ∙ is)).2)) | inr ne ↦ t.others l ne ∙ is ]

asks_entry : (h : List Entry) (b c : View) (e : Entry) (f : File) (z : ℕ) → Reaches h b → SameAdds b c → Shift (length h) b e c → Asks h b f z → Asks (h ++ e ∷ []) c f z
asks_entry h b c e f z r k s (under_way l x is) = under_way l x (lane_stays (length h) b c e s l x f z is)
asks_entry h b c e f z r k s (lost l x d at u) = lost l x (k.lost d) (At-grow h (e ∷ []) x (Began l (cut_op f z)) at) (λ w a ad n q lo hi got.
    let ad0 = sym (k.added w) ∙ ad in
    let o = (lanes_fact h b r).filled w a ad0 in
    let wl = At-below h w (Began o.lane o.op) o.began in
    u w a ad0 n q lo hi (At-shorten h (e ∷ []) n (Answered l q) (omega (arith, hi, wl)) got))

pub truncates_fact : (h : List Entry) (c : View) → Reaches h c → Fact h c
truncates_fact _ _ (begins h c e i) = λ y f z w. absurd (cc (i.wait y, w))
truncates_fact _ _ (enters h c before b e r g t) = rw g (λ y f z w. (let k = old_ask b c e (turn (length before) b c e t) y (resize f z) w in asks_entry before b c e f z r (entry_adds (length before) b c e t) (shift (length before) b c e t) (truncates_fact before b r k.0 f z k.1)))
truncates_fact _ _ (moves h c b r m) = λ y f z w. elim (new_ask h b c m y f z w) [ inl k ↦ asks_move h b c r m y f z k (truncates_fact h b r y f z k) | inr k ↦ k ]
