-- Bytes that were answered for stay.
use Rattle.std.proofs.Common.{inl, inr, ◌⊎◌, ◌≡◌, ◌≢◌, ◌<◌, ◌≤◌, ℕ, zero, suc, List, [], ◌∷◌, ◌++◌, length, Some, true, refl, sym, ap, ◌∙◌, append_assoc, arith}
use Rattle.model_writes.specs.Story.{File, Spot, Op, write_op, put_op, sync_op, close_op, cut_op, open_op, plain_op, Answer, done, refused, Entry, Began, Answered, Sent, At, Told, Begins, Both, means}
use Rattle.model_writes.specs.Settled.{Ends, Counts, itself, later, Reason, Unrefused, Wrote, Settled}
use Rattle.model_writes.specs.Lawful.{Lawful, Once}
use Rattle.model_writes.specs.Machine.{View, ready, HasBytes}
use Rattle.model_writes.specs.Reaches.{SetsUp, Reaches, begins, enters, moves}
use Rattle.model_writes.proofs.AtLemmas.{At-grow, At-told, At-past, length_last, same_or_not}
use Rattle.model_writes.proofs.OperationsOfLanes.{under_way, ended, HasAdd, lanes_fact, keeps_add, entry_adds, began_is}
use Rattle.model_writes.proofs.TouchedGrows.{grow, more}
use Rattle.model_writes.proofs.Excuses.{now, before, Excused, touched, gone, owed, failed_put}
use Rattle.model_writes.proofs.ServerHasBytes.{Holds}
use Rattle.model_writes.proofs.NothingPendingStays.{Nothing}
use Rattle.model_writes.proofs.ServerKeepsBytes.{facts}

-- the client at an earlier moment
pub record Reached (h : List Entry) (c : View) (p : ℕ) : Type 0 where
  pub first : List Entry
  pub rest : List Entry
  pub client : View
  pub is : h ≡ first ++ rest
  pub long : length first ≡ p
  pub reached : Reaches first client
  pub adds : (w : ℕ) → HasAdd client w → HasAdd c w

append_nil : (h : List Entry) → h ≡ h ++ []
append_nil [] = refl
append_nil (x ∷ h) = ap (λ t. x ∷ t) (append_nil h)

-- a list is its first entries and the rest
record Split (h : List Entry) (p : ℕ) : Type 0 where
  pub first : List Entry
  pub rest : List Entry
  pub is : h ≡ first ++ rest
  pub long : length first ≡ p

split_at : (p : ℕ) (h : List Entry) → p ≤ length h → Split h p
split_at zero h le = record { first = []; rest = h; is = refl; long = refl }
split_at (suc p) [] le = absurd (omega (arith, le))
split_at (suc p) (x ∷ h) le =
    let o = split_at p h (omega (arith, le)) in
    record { first = x ∷ o.first; rest = o.rest; is = ap (λ t. x ∷ t) o.is; long = ap suc o.long }

-- the first entries of a set-up are one
set_up_before : (first rest : List Entry) (x : ℕ) → SetsUp (first ++ rest) x → SetsUp first x
set_up_before first rest x s = record {
  unbegun = λ i lane op at. s.unbegun i lane op (At-grow first rest i (Began lane op) at);
  sent = λ i y call at. s.sent i y call (At-grow first rest i (Sent y call) at);
}

pub reached_at : (h : List Entry) (c : View) (p : ℕ) → p ≤ length h → Reaches h c → Reached h c p
reached_at _ _ p le (begins h c e i) =
    let o = split_at p h le in
    record { first = o.first; rest = o.rest; client = c; is = o.is; long = o.long; reached = begins o.first c (set_up_before o.first o.rest c.next_xid (rw o.is at e)) i; adds = λ w a. a }
reached_at _ _ p le (enters h c front b e r g t) = elim (same_or_not p (length h)) [
  | inl same ↦ record { first = h; rest = []; client = c; is = append_nil h; long = sym same; reached = enters h c front b e r g t; adds = λ w a. a }
  | inr ne ↦
      let l : length h ≡ suc (length front) = rw g (length_last front e) in
      let o = reached_at front b p (omega (arith, l, le, ne)) r in
      record { first = o.first; rest = o.rest ++ e ∷ []; client = o.client; is = g ∙ ap (λ t. t ++ e ∷ []) o.is ∙ append_assoc o.first o.rest (e ∷ []); long = o.long; reached = o.reached; adds = λ w a. (let z = o.adds w a in record { a = z.a; is = (entry_adds (length front) b c e t).added w ∙ z.is }) }
]
reached_at _ _ p le (moves h c b r m) =
    let o = reached_at h b p le r in
    record { first = o.first; rest = o.rest; client = o.client; is = o.is; long = o.long; reached = o.reached; adds = λ w a. (let z = o.adds w a in record { a = z.a; is = keeps_add h b c (lanes_fact h b r) m w z.a z.is }) }

compare : (a b : ℕ) → (a < b) ⊎ ((a ≡ b) ⊎ (b < a))
compare zero zero = inr (inl refl)
compare zero (suc b) = inl (omega arith)
compare (suc a) zero = inr (inr (omega arith))
compare (suc a) (suc b) = elim (compare a b) [ inl k ↦ inl (omega (arith, k)) | inr k ↦ elim k [ inl e ↦ inr (inl (ap suc e)) | inr g ↦ inr (inr (omega (arith, g))) ] ]

some_answer : (l : ℕ) (a d : Answer) → Some (Answered l a) ≡ Some (Answered l d) → a ≡ d
some_answer l a d e = go (entry e)
  where
    entry : Some (Answered l a) ≡ Some (Answered l d) → Answered l a ≡ Answered l d
    entry e = cc

    go : Answered l a ≡ Answered l d → a ≡ d
    go e = cc

pub ends_one : (h : List Entry) (l s j k : ℕ) (a d : Answer) → Ends h l s j a → Ends h l s k d → a ≡ d
ends_one h l s j k a d x y = elim (compare j k) [
  | inl lt ↦ absurd (y.first j a x.after lt x.answered)
  | inr o ↦ elim o [
    | inl e ↦ some_answer l a d (sym x.answered ∙ rw e y.answered)
    | inr gt ↦ absurd (x.first k d y.after gt y.answered)
  ]
]

pub has_bytes : (op : Op) (i : Spot) (y : ℕ) → means op i ≡ Some y → HasBytes op
has_bytes (write_op d o b) i y e = tt
has_bytes (put_op d o b) i y e = tt
has_bytes (sync_op d) i y e = absurd (cc e)
has_bytes (close_op d s) i y e = absurd (cc e)
has_bytes (cut_op d z) i y e = absurd (cc e)
has_bytes (open_op d s) i y e = absurd (cc e)
has_bytes plain_op i y e = absurd (cc e)

-- a write or put that was answered ok has its bytes in
pub okay : (h : List Entry) (c : View) → Reaches h c → (l w y : ℕ) (op : Op) → At h w (Began l op) → HasBytes op → Ends h l w y done → HasAdd c w
okay h c r l w y op at has d = elim ((lanes_fact h c r).status l w op at) [
  | under_way work e ↦ absurd (((lanes_fact h c r).busy_is l w op work e).unanswered y done d.after d.answered)
  | ended j a z q ↦ (rw (← ends_one h l w y j done a d z) at q) has
]

-- what has its bytes in is no refused write
pub unrefused : (h : List Entry) (c : View) → Reaches h c → (x : ℕ) → HasAdd c x → Unrefused h x
unrefused h c r x a l y op at p d = elim ((lanes_fact h c r).status l x op at) [
  | under_way work e ↦ ((lanes_fact h c r).busy_is l x op work e).unanswered y refused d.after d.answered
  | ended j b z q ↦ absurd (cc (a.is, (rw (← ends_one h l x y j refused b d z) at q) p))
]

grow_all : (rest h : List Entry) (A : ℕ → Type 0) (w p : ℕ) (i : Spot) → w < length h → Reason h A w p i → Reason (h ++ rest) A w p i
grow_all [] h A w p i wl r = rw (← append_nil h) r
grow_all (e ∷ rest) h A w p i wl r =
    let n = length_last h e in
    let k = grow_all rest (h ++ e ∷ []) A w p i (omega (arith, n, wl)) (grow h e A A w p p i (λ x a. a) wl (omega arith) r) in
    rw (append_assoc h (e ∷ []) rest) at k

pub told_reason : (t : Told) (h : List Entry) (A : ℕ → Type 0) (w p : ℕ) (i : Spot) → Begins t h → w < length h → Reason h A w p i → Reason t.entries A w p i
told_reason t h A w p i begun wl q = rw begun.is (grow_all begun.rest h A w p i wl q)

pub gone_up : (t : Told) → Lawful t → (f : File) (q p : ℕ) → q ≤ p → p ≤ length t.entries → (t.at q).gone f ≡ true → (t.at p).gone f ≡ true
gone_up t lawful f q p le hi g = elim (same_or_not q p) [
  | inl is ↦ rw (← is) g
  | inr ne ↦ later_one p le hi ne
]
  where
    later_one : (p : ℕ) → q ≤ p → p ≤ length t.entries → q ≢ p → (t.at p).gone f ≡ true
    later_one zero le hi ne = absurd (omega (arith, le, ne))
    later_one (suc p) le hi ne = elim (same_or_not q p) [
      | inl is ↦ lawful.gone p f (omega (arith, hi)) (rw (← is) g)
      | inr other ↦ lawful.gone p f (omega (arith, hi)) (later_one p (omega (arith, le, ne)) (omega (arith, hi)) other)
    ]

pub settles : (t : Told) → Lawful t → Once t → (c : View) → Reaches t.entries c → Settled t
settles t lawful once c r w i b l y lane s j p wop op atw mw dw order ats fi ds low high untouched =
    let k = reached_at t.entries c p high r in
    let begun : Begins t k.first = record { rest = k.rest; is = k.is } in
    let long = k.long in
    let jl : j < length k.first = omega (arith, long, low) in
    let sj = ds.after in
    let sl : s < length k.first = omega (arith, sj, jl) in
    let ats1 = At-past t k.first s (Began lane op) begun sl ats in
    let ds1 : Ends k.first lane s j done = less begun jl ds in
    let yl : y < length k.first = y_low order atw ats dw ds jl sj in
    let wy = dw.after in
    let wl : w < length k.first = omega (arith, wy, yl) in
    let atw1 = At-past t k.first w (Began l wop) begun wl atw in
    let dw1 : Ends k.first l w y done = less begun yl dw in
    let add = okay k.first k.client k.reached l w y wop atw1 (has_bytes wop i b mw) dw1 in
    let wr : Wrote k.first w i b = record { lane = l; op = wop; began = atw1; means_it = mw } in
    let counts : Counts k.first w s = counts_of order atw1 dw1 in
    let n : Excused t k.first (length k.first) k.client w i → ⊥ = λ x. elim x [
      | touched q ↦ untouched (inl (rw long at (more t.entries (λ z. HasAdd k.client z) (λ z. Unrefused t.entries z) w (length k.first) (length k.first) i (λ z a. unrefused t.entries c r z (k.adds z a)) (omega arith) (told_reason t k.first (λ z. HasAdd k.client z) w (length k.first) i begun wl q))))
      | gone q ↦ let e = q.early in untouched (inr (gone_up t lawful i.file q.at p (omega (arith, e, long)) high q.is))
      | owed q ↦ q.spared lane s j op counts ats1 fi ds1
      | failed_put q ↦ elim q [
        | now l2 op2 pp is ↦
            let o = (lanes_fact k.first k.client k.reached).busy_is l2 w op2 (ready refused) is in
            let same = began_is k.first w l l2 wop op2 atw1 o.began in
            o.unanswered y done dw1.after (rw (← same.0) dw1.answered)
        | before l2 j2 op2 pp at2 d2 ↦
            let same = began_is k.first w l l2 wop op2 atw1 at2 in
            let d3 : Ends k.first l w j2 refused = rw same.0 d2 in
            absurd (cc (ends_one k.first l w y j2 done refused dw1 d3))
      ]
    ] in
    let f = facts t lawful once k.first k.client begun k.reached in
    let none = (f.synced w i b add.a lane s op wr add.is counts ats1 fi n).at_end j ds1 in
    rw long at (firm k.first k.client add.a.number none (f.holds w i b add.a wr add.is n))
  where
    less : {h : List Entry} {l s j : ℕ} {a : Answer} → Begins t h → j < length h → Ends t.entries l s j a → Ends h l s j a
    less {h} {l} {s} {j} {a} begun jl d = record { after = d.after; answered = At-past t h j (Answered l a) begun jl d.answered; first = λ n z lo hi got. d.first n z lo hi (At-told t h n (Answered l z) begun got) }

    y_low : {n : ℕ} → (w ≡ s) ⊎ (y < s) → At t.entries w (Began l wop) → At t.entries s (Began lane op) → Ends t.entries l w y done → Ends t.entries lane s j done → j < n → s < j → y < n
    y_low {n} o a1 a2 d1 d2 jn sj = elim o [
      | inr lt ↦ omega (arith, lt, jn, sj)
      | inl is ↦
          let same = began_is t.entries w l lane wop op a1 (rw is a2) in
          elim (compare y j) [
            | inl lt ↦ omega (arith, lt, jn)
            | inr k ↦ elim k [
              | inl e ↦ omega (arith, e, jn)
              | inr gt ↦ absurd (d1.first j done (let q = d2.after in omega (arith, q, is)) gt (rw same.0 d2.answered))
            ]
          ]
    ]

    counts_of : {h : List Entry} → (w ≡ s) ⊎ (y < s) → At h w (Began l wop) → Ends h l w y done → Counts h w s
    counts_of o a1 d1 = elim o [ inl is ↦ itself is | inr lt ↦ later l y wop a1 d1 lt ]

    firm : (h : List Entry) (c : View) (m : ℕ) → Nothing c i → Holds t h (length h) (t.at (length h)) c.wait i b m (c.rest i) (c.fly i) → Both (t.at (length h)) i b
    firm h c m k q = rw (k.0, k.1) at q
