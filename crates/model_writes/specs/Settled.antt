-- Bytes that were made stable stay, until something touches them (RFC 1813, sections 3.3.7, 3.3.21 and 4.8).
use Rattle.std.specs.Prelude.{true, false, ◌≡◌, ◌≢◌, ◌<◌, ◌≤◌, ◌⊎◌, ℕ, List, length, Some, suc}
use Rattle.model_writes.specs.Story.{File, Spot, Op, close_op, cut_op, open_op, Answer, done, refused, Reply, Event, Entry, Began, Answered, Foreign, Delivered, At, means, is_put, Firms, Alters, Told, Both}

-- What the lane began at s was answered at j, there for the first time.
pub record Ends (h : List Entry) (lane s j : ℕ) (answer : Answer) : Type 0 where
  pub after : s < j
  pub answered : At h j (Answered lane answer)
  pub first : (k : ℕ) (ans : Answer) → s < k → k < j → At h k (Answered lane ans) → ⊥

-- the operation that a lane began at x was not answered before w
abbrev pub Unanswered : List Entry → ℕ → ℕ → ℕ → Type 0
Unanswered h lane x w = (k : ℕ) (ans : Answer) → x < k → k < w → At h k (Answered lane ans) → ⊥

-- The write or put that began at w gives this byte to the place i.
pub record Wrote (h : List Entry) (w : ℕ) (i : Spot) (b : ℕ) : Type 0 where
  pub lane : ℕ
  pub op : Op
  pub began : At h w (Began lane op)
  pub means_it : means op i ≡ Some b

-- What began at s makes stable what w wrote: it is w itself, a put; or it began after w was answered ok.
pub data Counts (h : List Entry) (w s : ℕ) : Type 0 where
  itself : w ≡ s → Counts h w s
  later : (lane y : ℕ) (op : Op) → At h w (Began lane op) → Ends h lane w y done → y < s → Counts h w s

-- Before the place n a slot of a lane holds the file: an open was answered ok, and no close of the slot since.
pub record InSlot (h : List Entry) (n lane slot : ℕ) (file : File) : Type 0 where
  pub from : ℕ
  pub at : ℕ
  pub began : At h from (Began lane (open_op file slot))
  pub ends : Ends h lane from at done
  pub early : at < n
  pub kept : (s k : ℕ) (f : File) (ans : Answer) → At h s (Began lane (close_op f slot)) → Ends h lane s k ans → at < k → k < n → ⊥

-- the close of the file that was answered at k was refused
pub record RefusedClose (h : List Entry) (k : ℕ) (file : File) : Type 0 where
  pub lane : ℕ
  pub slot : ℕ
  pub from : ℕ
  pub began : At h from (Began lane (close_op file slot))
  pub ends : Ends h lane from k refused

-- At the place k a close of the file was answered, and no slot holds the file after it. It was refused, or another close of
-- the file was, just before: no record came between. Nothing made the file stable for the write at w by then, and w isn't a
-- put that was answered by then.
pub record Left (h : List Entry) (w k : ℕ) (file : File) : Type 0 where
  pub lane : ℕ
  pub slot : ℕ
  pub from : ℕ
  pub ans : Answer
  pub began : At h from (Began lane (close_op file slot))
  pub ends : Ends h lane from k ans
  pub last : (l sl : ℕ) → InSlot h (suc k) l sl file → ⊥
  pub refusal : ℕ
  pub is_refused : RefusedClose h refusal file
  pub late : refusal ≤ k
  pub none_came : (n x : ℕ) (r : Reply) → refusal < n → n < k → At h n (Delivered x r) → ⊥
  pub spared : (l s j : ℕ) (op : Op) → Counts h w s → At h s (Began l op) → Firms op file → Ends h l s j done → j ≤ k → ⊥
  pub unanswered : (l : ℕ) (op : Op) → At h w (Began l op) → is_put op ≡ true → Unanswered h l w k

-- What may have changed a byte between the write at w and the moment p: another client; an operation of this one that wasn't
-- answered before w; or a last close that gave up what was pending.
pub data Reason (h : List Entry) (Added : ℕ → Type 0) (w p : ℕ) (i : Spot) : Type 0 where
  foreign : (n : ℕ) (event : Event) → w < n → n < p → At h n (Foreign event) → Alters event i → Reason h Added w p i
  over : (x lane byte : ℕ) (op : Op) → x ≢ w → x < p → At h x (Began lane op) → Unanswered h lane x w → means op i ≡ Some byte → Added x → Reason h Added w p i
  cut : (x lane size : ℕ) → x ≢ w → x < p → At h x (Began lane (cut_op i.file size)) → size ≤ i.at → Unanswered h lane x w → Reason h Added w p i
  left : (k : ℕ) → w < k → k < p → Left h w k i.file → Reason h Added w p i

-- it isn't a write that was refused
abbrev pub Unrefused : List Entry → ℕ → Type 0
Unrefused h x = (lane y : ℕ) (op : Op) → At h x (Began lane op) → is_put op ≡ false → Ends h lane x y refused → ⊥

-- the place was touched between w and p, or its file is gone by p
abbrev pub Touched : Told → ℕ → ℕ → Spot → Type 0
Touched t w p i = Reason t.entries (λ x. Unrefused t.entries x) w p i ⊎ ((t.at p).gone i.file ≡ true)

-- A write or put was answered ok, and a sync, close or put of the file made its bytes stable by j. Each byte is there and
-- stable at every later moment, unless it was touched.
abbrev pub Settled : Told → Type 0
Settled t = (w : ℕ) (i : Spot) (b l y lane s j p : ℕ) (wop op : Op) → At t.entries w (Began l wop) → means wop i ≡ Some b → Ends t.entries l w y done
    → (w ≡ s) ⊎ (y < s) → At t.entries s (Began lane op) → Firms op i.file → Ends t.entries lane s j done → j < p → p ≤ length t.entries
    → (Touched t w p i → ⊥) → Both (t.at p) i b
