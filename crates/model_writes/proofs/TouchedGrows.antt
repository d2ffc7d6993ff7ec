-- What was touched stays touched.
use Rattle.std.proofs.Common.{◌<◌, ◌≤◌, ℕ, suc, List, [], ◌∷◌, ◌++◌, length, arith}
use Rattle.model_writes.specs.Story.{File, Spot, close_op, cut_op, done, refused, Entry, Began, Answered, Delivered, Foreign}
use Rattle.model_writes.specs.Settled.{Unanswered, Counts, itself, later, RefusedClose, Left, Reason, foreign, over, cut, left}
use Rattle.model_writes.proofs.AtLemmas.{At-grow, At-below, At-shorten}
use Rattle.model_writes.proofs.OperationsOfLanes.{grow_ends}
use Rattle.model_writes.proofs.SlotsHoldFiles.{less_ends, less_slot}

pub less_counts : (h : List Entry) (e : Entry) (w s : ℕ) → s < length h → Counts (h ++ e ∷ []) w s → Counts h w s
less_counts h e w s low k = elim k [
  | itself is ↦ itself is
  | later l y op at d lt ↦ let a = d.after in later l y op (At-shorten h (e ∷ []) w (Began l op) (omega (arith, a, lt, low)) at) (less_ends h e l w y done (omega (arith, lt, low)) d) lt
]

pub grow_counts : (h : List Entry) (e : Entry) (w s : ℕ) → Counts h w s → Counts (h ++ e ∷ []) w s
grow_counts h e w s k = elim k [
  | itself is ↦ itself is
  | later l y op at d lt ↦ later l y op (At-grow h (e ∷ []) w (Began l op) at) (grow_ends h e l w y done d) lt
]

pub grow_refused : (h : List Entry) (e : Entry) (k : ℕ) (f : File) → RefusedClose h k f → RefusedClose (h ++ e ∷ []) k f
grow_refused h e k f r = record { lane = r.lane; slot = r.slot; from = r.from; began = At-grow h (e ∷ []) r.from (Began r.lane (close_op f r.slot)) r.began; ends = grow_ends h e r.lane r.from k refused r.ends }

grow_left : (h : List Entry) (e : Entry) (w k : ℕ) (f : File) → w < length h → Left h w k f → Left (h ++ e ∷ []) w k f
grow_left h e w k f wl o =
    let kl = At-below h k (Answered o.lane o.ans) o.ends.answered in
    record {
      lane = o.lane;
      slot = o.slot;
      from = o.from;
      ans = o.ans;
      began = At-grow h (e ∷ []) o.from (Began o.lane (close_op f o.slot)) o.began;
      ends = grow_ends h e o.lane o.from k o.ans o.ends;
      last = λ l sl i. let early = i.early in o.last l sl (less_slot h e l sl f (suc k) (suc k) (omega arith) i early (omega (arith, early, kl)));
      refusal = o.refusal;
      is_refused = grow_refused h e o.refusal f o.is_refused;
      late = o.late;
      none_came = λ n x r lo hi at. o.none_came n x r lo hi (At-shorten h (e ∷ []) n (Delivered x r) (omega (arith, hi, kl)) at);
      spared = λ l s j op c at fi d le.
          let sj = d.after in
          let sl : s < length h = omega (arith, sj, le, kl) in
          o.spared l s j op (less_counts h e w s sl c) (At-shorten h (e ∷ []) s (Began l op) sl at) fi (less_ends h e l s j done (omega (arith, le, kl)) d) le;
      unanswered = λ l op at p n a lo hi got. o.unanswered l op (At-shorten h (e ∷ []) w (Began l op) wl at) p n a lo hi (At-shorten h (e ∷ []) n (Answered l a) (omega (arith, hi, kl)) got);
    }

less_answers : (h : List Entry) (e : Entry) (l x w : ℕ) → w ≤ length h → Unanswered h l x w → Unanswered (h ++ e ∷ []) l x w
less_answers h e l x w wl u = λ k a lo hi at. u k a lo hi (At-shorten h (e ∷ []) k (Answered l a) (omega (arith, hi, wl)) at)

pub grow : (h : List Entry) (e : Entry) (A B : ℕ → Type 0) (w p q : ℕ) (i : Spot) → ((x : ℕ) → A x → B x) → w < length h → p ≤ q → Reason h A w p i → Reason (h ++ e ∷ []) B w q i
grow h e A B w p q i ab wl le r = elim r [
  | foreign n event lo hi at al ↦ foreign n event lo (omega (arith, hi, le)) (At-grow h (e ∷ []) n (Foreign event) at) al
  | over x l byte op ne lo at u m add ↦ over x l byte op ne (omega (arith, lo, le)) (At-grow h (e ∷ []) x (Began l op) at) (less_answers h e l x w (omega (arith, wl)) u) m (ab x add)
  | cut x l size ne lo at z u ↦ cut x l size ne (omega (arith, lo, le)) (At-grow h (e ∷ []) x (Began l (cut_op i.file size)) at) z (less_answers h e l x w (omega (arith, wl)) u)
  | left k lo hi o ↦ left k lo (omega (arith, hi, le)) (grow_left h e w k i.file wl o)
]

pub more : (h : List Entry) (A B : ℕ → Type 0) (w p q : ℕ) (i : Spot) → ((x : ℕ) → A x → B x) → p ≤ q → Reason h A w p i → Reason h B w q i
more h A B w p q i ab le r = elim r [
  | foreign n event lo hi at al ↦ foreign n event lo (omega (arith, hi, le)) at al
  | over x l byte op ne lo at u m add ↦ over x l byte op ne (omega (arith, lo, le)) at u m (ab x add)
  | cut x l size ne lo at z u ↦ cut x l size ne (omega (arith, lo, le)) at z u
  | left k lo hi o ↦ left k lo (omega (arith, hi, le)) o
]
