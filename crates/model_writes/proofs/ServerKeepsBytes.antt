-- For each write whose bytes are in: it is excused, or its byte is where the client has it.
use Rattle.std.proofs.Common.{inl, inr, ◌⊎◌, ◌≡◌, ◌<◌, ◌≤◌, ◌+◌, ℕ, zero, suc, List, [], ◌∷◌, ◌++◌, length, Option, Some, None, true, refl, sym, ap, ◌∙◌, arith}
use Rattle.model_writes.specs.Story.{Verifier, File, Spot, Op, put_op, close_op, cut_op, Call, write, commit, resize, plain, Reply, wrote, committed, told, denied, Answer, done, refused, Entry, Began, Answered, Sent, Executed, Foreign, Reboot, Delivered, Failed, At, covers, gives, means, is_put, Firms, Reach, Told, Begins, Both}
use Rattle.model_writes.specs.Settled.{Ends, Counts, itself, Unanswered, foreign, cut, Wrote}
use Rattle.model_writes.specs.Lawful.{Keeps, Stands, Puts, Commits, Serves, LawfulAt, Lawful, Once}
use Rattle.model_writes.specs.Machine.{View, Mark, unsent, again, acked, Cell, Flight, busy, starts, ready, Added, SameAt, SameCalls, SamePlaces, NewCall, Adds, Drops, GivesUp, GivesUpPut, PlacesAfter, Took, Renews, Hears, Enters, Move, makes_write, makes_commit, makes_call, adds, proceeds, opens, frees, cuts, gives_up, gives_up_put, loses}
use Rattle.model_writes.specs.Reaches.{Reaches, begins, enters, moves}
use Rattle.model_writes.proofs.AtLemmas.{At-cases, At-grow, At-last, At-below, At-shorten, length_last, last_told, before_begins, same_or_not, same_file_or_not}
use Rattle.model_writes.proofs.CallSteps.{same_calls}
use Rattle.model_writes.proofs.ExecutedCallsWait.{some_call, IsPlain, executed_below, executed_waits, reply_is}
use Rattle.model_writes.proofs.FlyingBytes.{one_or_none, waits_on, renewed_wait, layers_fact}
use Rattle.model_writes.proofs.OperationsOfLanes.{under_way, ended, lanes_fact, entry_adds, add_turn, same_in, one_in, began_is, busy_same, ready_stays, stood, queued, added, firmed, failed, came_to}
use Rattle.model_writes.proofs.Excuses.{by_itself, now, before, Excused, touched, gone, owed, failed_put, on_entry, on_move, means_firms}
use Rattle.model_writes.proofs.NothingPendingStays.{Nothing}
use Rattle.model_writes.proofs.ServerHasBytes.{ByMark, Holds, keep, same_server, later_seen, OldCommits, Shows, came, heard, renamed, restarts, commits, put_here}
use Rattle.model_writes.proofs.SizesAskedFor.{Asks, truncates_fact}
use Rattle.model_writes.proofs.SizesAskedFor as truncates
use Rattle.model_writes.proofs.SyncedBytesLeave.{some_add, Says, SyncedAt, HoldsAt, less_wrote, came_over, synced_entry, synced_move}

abbrev HoldsNow : Told → List Entry → View → Spot → ℕ → ℕ → Type 0
HoldsNow t h c i b m = Holds t h (length h) (t.at (length h)) c.wait i b m (c.rest i) (c.fly i)

abbrev HoldsNext : Told → List Entry → Entry → View → Spot → ℕ → ℕ → Type 0
HoldsNext t h e c i b m = Holds t (h ++ e ∷ []) (suc (length h)) (t.at (suc (length h))) c.wait i b m (c.rest i) (c.fly i)

abbrev NoExec : Entry → Type 0
NoExec e = (x : ℕ) (call : Call) (r : Reply) → e ≡ Executed x call r → ⊥

no_execute : (h : List Entry) (e : Entry) → NoExec e → (n x : ℕ) (call : Call) (r : Reply) → At (h ++ e ∷ []) n (Executed x call r) → At h n (Executed x call r)
no_execute h e none n x call r at = elim (At-cases h e n (Executed x call r) at) [ inl a ↦ a | inr m ↦ absurd (none x call r m.1) ]

-- an entry that is no Executed, at which the server stays
quiet : (t : Told) (h : List Entry) (e : Entry) (b c : View) (i : Spot) (y m : ℕ) → NoExec e → Stands (t.at (length h)) (t.at (suc (length h))) → SameAt b c i → SameCalls b c → HoldsNow t h b i y m → HoldsNext t h e c i y m
quiet t h e b c i y m none same at calls q =
    rw (at.0, at.1) (keep t h (h ++ e ∷ []) (length h) (suc (length h)) (t.at (length h)) (t.at (suc (length h))) b.wait c.wait i y m (b.rest i) (b.fly i) (λ v s. later_seen t (length h) v s) (same i)
    (λ f is n j k v call a. no_execute h e none n f.xid call (wrote 0 j k v) a) (λ n z v f w a. (sym (calls.wait z) ∙ w, no_execute h e none n z (commit f) (committed 0 v) a)) q)

still : (t : Told) (h : List Entry) (e : Entry) (b c : View) (i : Spot) (y m : ℕ) → NoExec e → Stands (t.at (length h)) (t.at (suc (length h))) → c ≡ b → HoldsNow t h b i y m → HoldsNext t h e c i y m
still t h e b c i y m none same is q = quiet t h e b c i y m none same (ap (λ (v : View). v.rest i) is, ap (λ (v : View). v.fly i) is) (same_calls b c is) q

-- a reply is taken
after : (t : Told) → Lawful t → (h : List Entry) (b c : View) → Begins t h → Reaches h b → (x : ℕ) (r : Reply) (call : Call) (k : Took b c x r) → Shows h x call r → b.wait x ≡ Some call → PlacesAfter x call r b c → (i : Spot) (y m : ℕ)
    → HoldsNow t h b i y m → HoldsNow t h c i y m
after t lawful h b c begun reached x r (write d o bytes how) k at w p i y m q =
    came t lawful h begun (t.at (length h)) b.wait c.wait y m x (write d o bytes how) r i (b.rest i) (b.fly i) (c.rest i) (c.fly i) at (λ z f e. (waits_on b c x r k z (commit f) e).1) (λ z e. (layers_fact h b reached).alone z i.file e i refl) (p i) q
after t lawful h b c begun reached x r (commit d) k at w p i y m q = elim (p i) [
  | inl s ↦ rw (s.0, s.1) (keep t h h (length h) (length h) (t.at (length h)) (t.at (length h)) b.wait c.wait i y m (b.rest i) (b.fly i) (λ v z. z) (same_server (t.at (length h)) (t.at (length h)) i refl) (λ f is n j u v call a. a) (λ n z v f wz a. ((waits_on b c x r k z (commit f) wz).1, a)) q)
  | inr s ↦
      let at2 : Shows h x (commit i.file) r = rw (← s.0) at at in
      rw s.2 (heard t h (length h) (t.at (length h)) b.wait c.wait i y m x r (b.rest i) (c.rest i) (b.fly i) at2 (rw s.0 w) (λ z f e. (waits_on b c x r k z (commit f) e).1) ((layers_fact h b reached).alone x i.file (rw s.0 w) i refl) s.1 q)
]
after t lawful h b c begun reached x r (resize d z) k at w p i y m q = rw ((p i).0, (p i).1) (keep t h h (length h) (length h) (t.at (length h)) (t.at (length h)) b.wait c.wait i y m (b.rest i) (b.fly i) (λ v z. z) (same_server (t.at (length h)) (t.at (length h)) i refl) (λ f is n j u v call a. a) (λ n z v f wz a. ((waits_on b c x r k z (commit f) wz).1, a)) q)
after t lawful h b c begun reached x r (plain d) k at w p i y m q = rw ((p i).0, (p i).1) (keep t h h (length h) (length h) (t.at (length h)) (t.at (length h)) b.wait c.wait i y m (b.rest i) (b.fly i) (λ v z. z) (same_server (t.at (length h)) (t.at (length h)) i refl) (λ f is n j u v call a. a) (λ n z v f wz a. ((waits_on b c x r k z (commit f) wz).1, a)) q)

-- a call is made again
again_ : (t : Told) → Lawful t → (h : List Entry) (b c : View) → Begins t h → Reaches h b → (x : ℕ) (r : Reply) (k : Renews b c x r) → (i : Spot) (y m : ℕ) → HoldsNow t h b i y m → HoldsNow t h c i y m
again_ t lawful h b c begun reached x r k i y m q =
    rw (k.rest i) (renamed t h (length h) (t.at (length h)) b.wait c.wait i y m x k.y (b.rest i) (b.fly i) (c.fly i)
    (λ n j u v call a. let low = executed_below t lawful h b begun reached n k.y call (wrote 0 j u v) a in let e = k.numbered in absurd (omega (arith, low, e)))
    (λ n z v f w a. elim (renewed_wait b c x r k z (commit f) w) [
      | inl is ↦ let low = executed_below t lawful h b begun reached n z (commit f) (committed 0 v) a in let e = k.numbered in let s = is.0 in absurd (omega (arith, low, e, s))
      | inr o ↦ (o.2, a)
    ]) (k.fly i) q)

hears : (t : Told) → Lawful t → Once t → (h : List Entry) (b c : View) → Begins t h → Reaches h b → (x : ℕ) (r : Reply) → At t.entries (length h) (Delivered x r) → Stands (t.at (length h)) (t.at (suc (length h))) → Hears b c x r → (i : Spot) (y m : ℕ) → HoldsNow t h b i y m → HoldsNext t h (Delivered x r) c i y m
hears t lawful once h b c begun reached x r at same k i y m q = elim k.how [
  | inl d ↦ quiet t h (Delivered x r) b c i y m (λ x call r e. absurd (cc e)) same (d.places.there i) d.calls q
  | inr u ↦ elim u [
    | inl g ↦
        let s : Shows h x g.call r = elim (reply_is t lawful h b begun reached x g.call r at g.waits) [ inl z ↦ inl (z.at, z.done) | inr z ↦ inr z ] in
        still t h (Delivered x r) c c i y m (λ x call r e. absurd (cc e)) same refl (after t lawful h b c begun reached x r g.call g s g.waits g.places i y m q)
    | inr g ↦ still t h (Delivered x r) c c i y m (λ x call r e. absurd (cc e)) same refl (again_ t lawful h b c begun reached x r g i y m q)
  ]
]

-- a WRITE is executed, with any status
puts : (t : Told) (h : List Entry) (b : View) → Reaches h b → (x : ℕ) (call : Call) (r : Reply) → b.wait x ≡ Some call → ((f : File) → call ≡ commit f → ⊥) → Puts (t.at (length h)) (t.at (suc (length h))) call
    → ((i : Spot) (y count k : ℕ) (v : Verifier) → gives call i ≡ Some y → r ≡ wrote 0 count k v → Reach call count i → ((t.at (suc (length h))).now i ≡ Some y) × (1 ≤ k → (t.at (suc (length h))).stable i ≡ Some y))
    → (i : Spot) (y m : ℕ) → HoldsNow t h b i y m → HoldsNext t h (Executed x call r) b i y m
puts t h b reached x call r wait no_commit s there i y m q =
    let layers = layers_fact h b reached in
    elim (one_or_none (gives call i)) [
      | inl none ↦ (keep t h (h ++ Executed x call r ∷ []) (length h) (suc (length h)) (t.at (length h)) (t.at (suc (length h))) b.wait b.wait i y m (b.rest i) (b.fly i) (λ v z. later_seen t (length h) v z) (s.others i none)
          (λ g is n count k v l at. elim (At-cases h (Executed x call r) n (Executed g.xid l (wrote 0 count k v)) at) [
            | inl a ↦ a
            | inr m ↦ let u = layers.under i g is in absurd (elsewhere g none u.call u.waits u.byte_is (xid_is g.xid l count k v m.1))
          ])
          old q)
      | inr v ↦
          let g = layers.here x i v.0 call wait v.1 in
          (put_here t h (length h) (t.at (length h)) (t.at (suc (length h))) b.wait i y m x v.0 call r (b.rest i) (b.fly i) g.flight s v.1 g.there g.byte_is g.xid_is (λ cell is. layers.newer i g.flight cell g.there is) (λ count k u is reach. there i v.0 count k u v.1 is reach) q)
    ]
  where
    xid_is : (z : ℕ) (l : Call) (count k : ℕ) (v : Verifier) → Executed x call r ≡ Executed z l (wrote 0 count k v) → x ≡ z
    xid_is z l count k v e = cc

    elsewhere : (g : Flight) → gives call i ≡ None → (k : Call) → b.wait g.xid ≡ Some k → gives k i ≡ Some g.byte → x ≡ g.xid → ⊥
    elsewhere g none k w byte is = absurd (cc (none, byte, ap (λ l. gives l i) (some_call call k (sym wait ∙ ap (λ z. b.wait z) is ∙ w))))

    old : OldCommits h b.wait (h ++ Executed x call r ∷ []) b.wait
    old n y v f w at = elim (At-cases h (Executed x call r) n (Executed y (commit f) (committed 0 v)) at) [
      | inl a ↦ (w, a)
      | inr m ↦ absurd (no_commit f (call_is y v m.1))
    ]
      where
        call_is : (y : ℕ) (v : Verifier) → Executed x call r ≡ Executed y (commit f) (committed 0 v) → call ≡ commit f
        call_is y v e = cc

-- an execution that shows nothing new and leaves the place
leaves : (t : Told) (h : List Entry) (b : View) (e : Entry) (i : Spot) (y m : ℕ) → ((x n c k : ℕ) (v : Verifier) (l : Call) → At (h ++ e ∷ []) n (Executed x l (wrote 0 c k v)) → At h n (Executed x l (wrote 0 c k v))) → ((x n : ℕ) (v : Verifier) (f : File) → At (h ++ e ∷ []) n (Executed x (commit f) (committed 0 v)) → (f ≡ i.file) → At h n (Executed x (commit f) (committed 0 v)))
    → Keeps (t.at (length h)) (t.at (suc (length h))) i → HoldsNow t h b i y m → HoldsNext t h e b i y m
leaves t h b e i y m ow oc k q = mine (b.rest i) (b.fly i) q
  where
    mine : (o : Option Cell) (g : Option Flight) → Holds t h (length h) (t.at (length h)) b.wait i y m o g → Holds t (h ++ e ∷ []) (suc (length h)) (t.at (suc (length h))) b.wait i y m o g
    mine None None q = k.both y q
    mine None (Some f) q = (q.0, q.1, λ n c j v call at reach. let z = q.2 n c j v call (ow f.xid n c j v call at) reach in (λ is. k.now y (z.0 (sym k.verf ∙ is)), λ le. k.both y (z.1 le)))
    mine (Some cell) g q = (q.0, q.1, marked cell.mark q.2)
      where
        marked : (a : Mark) → ByMark t h (length h) (t.at (length h)) b.wait i y a → ByMark t (h ++ e ∷ []) (suc (length h)) (t.at (suc (length h))) b.wait i y a
        marked unsent q = tt
        marked again q = tt
        marked (acked v) q = record { seen = later_seen t (length h) v q.seen; now = λ is. k.now y (q.now (sym k.verf ∙ is)); firm = λ n z w at. k.both y (q.firm n z w (oc z n v i.file at refl)) }

-- what an execution may do to a place
pub data Fate (t : Told) (h : List Entry) (e : Entry) (b : View) (i : Spot) (y m : ℕ) : Type 0 where
  holds_on : HoldsNext t h e b i y m → Fate t h e b i y m
  taken : (t.at (suc (length h))).gone i.file ≡ true → Fate t h e b i y m
  altered : (f : File) (z x : ℕ) → b.wait x ≡ Some (resize f z) → i.file ≡ f → z ≤ i.at → Fate t h e b i y m

-- a call that isn't of bytes, files or sizes is executed, whether it waits or not
executes_plain : (t : Told) (h : List Entry) (b : View) (x d : ℕ) (r : Reply) → Serves (t.at (length h)) (plain d) r (t.at (suc (length h))) → (i : Spot) (y m : ℕ) → HoldsNow t h b i y m → Fate t h (Executed x (plain d) r) b i y m
executes_plain t h b x d (told j) s i y m q = elim (s i) [
  | inl a ↦ absurd a
  | inr k ↦ elim k [
    | inl g ↦ taken g
    | inr e ↦ holds_on (leaves t h b (Executed x (plain d) (told j)) i y m
        (λ x2 n c k u l at. elim (At-cases h (Executed x (plain d) (told j)) n (Executed x2 l (wrote 0 c k u)) at) [ inl a ↦ a | inr z ↦ absurd (cc z.1) ])
        (λ x2 n u f at is. elim (At-cases h (Executed x (plain d) (told j)) n (Executed x2 (commit f) (committed 0 u)) at) [ inl a ↦ a | inr z ↦ absurd (cc z.1) ]) e q)
  ]
]
executes_plain t h b x d (wrote j n k v) s i y m q = absurd s
executes_plain t h b x d (committed j v) s i y m q = absurd s
executes_plain t h b x d denied s i y m q = absurd s

executes : (t : Told) (h : List Entry) (b : View) → Reaches h b → (x : ℕ) (call : Call) (r : Reply) → b.wait x ≡ Some call → Serves (t.at (length h)) call r (t.at (suc (length h))) → (i : Spot) (y m : ℕ) → HoldsNow t h b i y m → Fate t h (Executed x call r) b i y m
executes t h b reached x (write d o bytes how) (wrote zero count k v) wait s i y m q =
    holds_on (puts t h b reached x (write d o bytes how) (wrote zero count k v) wait (λ f e. absurd (cc e)) s.puts (λ i y n j u at is reach. let z = s.there i y at (rw (← count_is n j u is) at reach) in (z.0, λ le. z.1 (let e = k_is n j u is in omega (arith, e, le)))) i y m q)
  where
    count_is : (n j : ℕ) (u : Verifier) → wrote 0 count k v ≡ wrote 0 n j u → count ≡ n
    count_is n j u e = cc

    k_is : (n j : ℕ) (u : Verifier) → wrote 0 count k v ≡ wrote 0 n j u → k ≡ j
    k_is n j u e = cc
executes t h b reached x (write d o bytes how) (wrote (suc j) count k v) wait s i y m q =
    holds_on (puts t h b reached x (write d o bytes how) (wrote (suc j) count k v) wait (λ f e. absurd (cc e)) s (λ i y n j u at is reach. absurd (cc is)) i y m q)
executes t h b reached x (commit d) (committed zero v) wait s i y m q = elim (same_file_or_not i.file d) [
  | inl is ↦
      let s2 : Commits (t.at (length h)) (t.at (suc (length h))) i.file v = rw is s in
      holds_on (rw (← is) (commits t h (length h) (t.at (length h)) (t.at (suc (length h))) b.wait i y m x v (b.rest i) (b.fly i) s2 ((layers_fact h b reached).alone x i.file (rw is wait) i refl) q))
  | inr ne ↦ holds_on (leaves t h b (Executed x (commit d) (committed 0 v)) i y m
      (λ x2 n c k u l at. elim (At-cases h (Executed x (commit d) (committed 0 v)) n (Executed x2 l (wrote 0 c k u)) at) [ inl a ↦ a | inr z ↦ absurd (cc z.1) ])
      (λ x2 n u f at is. elim (At-cases h (Executed x (commit d) (committed 0 v)) n (Executed x2 (commit f) (committed 0 u)) at) [ inl a ↦ a | inr z ↦ absurd (ne (sym is ∙ sym (file_is x2 u f z.1))) ])
      (s.others i ne) q)
]
  where
    file_is : (z : ℕ) (u : Verifier) (f : File) → Executed x (commit d) (committed 0 v) ≡ Executed z (commit f) (committed 0 u) → d ≡ f
    file_is z u f e = cc
executes t h b reached x (commit d) (committed (suc j) v) wait s i y m q = holds_on (leaves t h b (Executed x (commit d) (committed (suc j) v)) i y m
    (λ x2 n c k u l at. elim (At-cases h (Executed x (commit d) (committed (suc j) v)) n (Executed x2 l (wrote 0 c k u)) at) [ inl a ↦ a | inr z ↦ absurd (cc z.1) ])
    (λ x2 n u f at is. elim (At-cases h (Executed x (commit d) (committed (suc j) v)) n (Executed x2 (commit f) (committed 0 u)) at) [ inl a ↦ a | inr z ↦ absurd (cc z.1) ]) (s i) q)
executes t h b reached x (resize d z) (told j) wait s i y m q = elim (s i) [
  | inl a ↦ altered d z x wait a.0 a.1
  | inr k ↦ elim k [
    | inl g ↦ taken g
    | inr e ↦ holds_on (leaves t h b (Executed x (resize d z) (told j)) i y m
        (λ x2 n c k u l at. elim (At-cases h (Executed x (resize d z) (told j)) n (Executed x2 l (wrote 0 c k u)) at) [ inl a ↦ a | inr z ↦ absurd (cc z.1) ])
        (λ x2 n u f at is. elim (At-cases h (Executed x (resize d z) (told j)) n (Executed x2 (commit f) (committed 0 u)) at) [ inl a ↦ a | inr z ↦ absurd (cc z.1) ]) e q)
  ]
]
executes t h b reached x (plain d) r wait s i y m q = executes_plain t h b x d r s i y m q
executes t h b reached x (write d o bytes how) (committed j v) wait s i y m q = absurd s
executes t h b reached x (write d o bytes how) (told j) wait s i y m q = absurd s
executes t h b reached x (write d o bytes how) denied wait s i y m q = absurd s
executes t h b reached x (commit d) (wrote j n k v) wait s i y m q = absurd s
executes t h b reached x (commit d) (told j) wait s i y m q = absurd s
executes t h b reached x (commit d) denied wait s i y m q = absurd s
executes t h b reached x (resize d z) (wrote j n k v) wait s i y m q = absurd s
executes t h b reached x (resize d z) (committed j v) wait s i y m q = absurd s
executes t h b reached x (resize d z) denied wait s i y m q = absurd s

no_means : (f : File) (z : ℕ) (op : Op) (i : Spot) (y : ℕ) → op ≡ cut_op f z → means op i ≡ Some y → ⊥
no_means f z op i y e m = absurd (cc (ap (λ o. means o i) e, m))

-- a truncate that was not answered before a write touches it
pub cut_touches : (t : Told) (h h' : List Entry) (p : ℕ) (c c' : View) (w : ℕ) (i : Spot) (y l x z : ℕ) → Wrote h' w i y → At h' x (Began l (cut_op i.file z)) → x < p → z ≤ i.at → Unanswered h' l x w → Excused t h' p c' w i
cut_touches t h h' p c c' w i y l x z wr at low le u = touched (cut x l z (λ e. no_means i.file z wr.op i y (sym (began_is h' x l wr.lane (cut_op i.file z) wr.op at (rw e wr.began)).1) wr.means_it) low at le u)

resized : (t : Told) (h : List Entry) (b : View) (e : Entry) (w : ℕ) (i : Spot) (y : ℕ) (f : File) (z : ℕ) (a : Added) → Reaches h b → Wrote h w i y → b.added w ≡ Some a → i.file ≡ f → z ≤ i.at → Asks h b f z → Excused t (h ++ e ∷ []) (suc (length h)) b w i
resized t h b e w i y f z a r wr ad at le (truncates.under_way l x is) =
    let o = (lanes_fact h b r).busy_is l x (cut_op f z) starts is in
    let wl = At-below h w (Began wr.lane wr.op) wr.began in
    let xl = At-below h x (Began l (cut_op f z)) o.began in
    cut_touches t h (h ++ e ∷ []) (suc (length h)) b b w i y l x z (record { lane = wr.lane; op = wr.op; began = At-grow h (e ∷ []) w (Began wr.lane wr.op) wr.began; means_it = wr.means_it }) (rw at (At-grow h (e ∷ []) x (Began l (cut_op f z)) o.began)) (omega (arith, xl)) le
    (λ k d lo hi got. o.unanswered k d lo (At-shorten h (e ∷ []) k (Answered l d) (omega (arith, hi, wl)) got))
resized t h b e w i y f z a r wr ad at le (truncates.lost l x d began u) =
    let wl = At-below h w (Began wr.lane wr.op) wr.began in
    let xl = At-below h x (Began l (cut_op f z)) began in
    cut_touches t h (h ++ e ∷ []) (suc (length h)) b b w i y l x z (record { lane = wr.lane; op = wr.op; began = At-grow h (e ∷ []) w (Began wr.lane wr.op) wr.began; means_it = wr.means_it }) (rw at (At-grow h (e ∷ []) x (Began l (cut_op f z)) began)) (omega (arith, xl)) le
    (λ k d lo hi got. u w a ad k d lo hi (At-shorten h (e ∷ []) k (Answered l d) (omega (arith, hi, wl)) got))

-- ---- over an entry
at_entry : (t : Told) → Lawful t → Once t → (h : List Entry) (b c : View) (e : Entry) → Begins t h → Reaches h b → At t.entries (length h) e → LawfulAt t (length h) e → Enters (length h) b e c
    → (w : ℕ) (i : Spot) (y : ℕ) (a : Added) → Wrote h w i y → b.added w ≡ Some a → (Excused t (h ++ e ∷ []) (suc (length h)) c w i → ⊥) → HoldsNow t h b i y a.number → HoldsNext t h e c i y a.number
at_entry t lawful once h b c (Began l op) begun r at law g w i y a wr ad n q = quiet t h (Began l op) b c i y a.number (λ x k z e. absurd (cc e)) law (g.places.there i) g.calls q
at_entry t lawful once h b c (Answered l d) begun r at law g w i y a wr ad n q = quiet t h (Answered l d) b c i y a.number (λ x k z e. absurd (cc e)) law (g.places.there i) g.calls q
at_entry t lawful once h b c (Sent x call) begun r at law g w i y a wr ad n q = still t h (Sent x call) b c i y a.number (λ x k z e. absurd (cc e)) law g.1 q
at_entry t lawful once h b c (Delivered x z) begun r at law g w i y a wr ad n q = hears t lawful once h b c begun r x z at law.same g i y a.number q
at_entry t lawful once h b c Failed begun r at law g w i y a wr ad n q = still t h Failed b c i y a.number (λ x k z e. absurd (cc e)) law g q
at_entry t lawful once h b c (Executed x call z) begun r at law g w i y a wr ad n q =
    rw g (elim (fate (executed_waits t lawful once h b begun r x call z at)) [
      | holds_on k ↦ k
      | taken k ↦ absurd (n2 (gone (record { at = suc (length h); early = omega arith; is = k })))
      | altered f size x2 wait is le ↦ absurd (n2 (resized t h b (Executed x call z) w i y f size a r wr ad is le (truncates_fact h b r x2 f size wait)))
    ])
  where
    n2 : Excused t (h ++ Executed x call z ∷ []) (suc (length h)) b w i → ⊥
    n2 = rw g at n

    fate : (b.wait x ≡ Some call) ⊎ IsPlain call → Fate t h (Executed x call z) b i y a.number
    fate o = elim o [
      | inl wait ↦ executes t h b r x call z wait law.step i y a.number q
      | inr p ↦ rw p.1 (executes_plain t h b x p.0 z (rw p.1 at law.step) i y a.number q)
    ]
at_entry t lawful once h b c (Foreign event) begun r at law g w i y a wr ad n q = rw g (elim (law i) [
  | inl k ↦ absurd (n2 (touched (foreign (length h) event (At-below h w (Began wr.lane wr.op) wr.began) (omega arith) (At-last h (Foreign event)) k)))
  | inr k ↦ elim k [
    | inl z ↦ absurd (n2 (gone (record { at = suc (length h); early = omega arith; is = z })))
    | inr z ↦ leaves t h b (Foreign event) i y a.number
        (λ x n c k u l at. no_execute h (Foreign event) (λ x k z e. absurd (cc e)) n x l (wrote 0 c k u) at)
        (λ x n u f at is. no_execute h (Foreign event) (λ x k z e. absurd (cc e)) n x (commit f) (committed 0 u) at) z q
  ]
])
  where
    n2 : Excused t (h ++ Foreign event ∷ []) (suc (length h)) b w i → ⊥
    n2 = rw g at n
at_entry t lawful once h b c Reboot begun r at law g w i y a wr ad n q =
    rw g (restarts t lawful h (h ++ Reboot ∷ []) begun b.wait i y a.number (b.rest i) (b.fly i) law
    (λ x n j k v l at. no_execute h Reboot (λ x k z e. absurd (cc e)) n x l (wrote 0 j k v) at)
    (λ n z v f wt at. (wt, no_execute h Reboot (λ x k z e. absurd (cc e)) n z (commit f) (committed 0 v) at)) q)

holds_entry : (t : Told) → Lawful t → Once t → (h : List Entry) (b c : View) (e : Entry) → Begins t h → Reaches h b → At t.entries (length h) e → LawfulAt t (length h) e → Enters (length h) b e c
    → HoldsAt t h (length h) b → HoldsAt t (h ++ e ∷ []) (suc (length h)) c
holds_entry t lawful once h b c e begun r at law g hf w i y a wr ad n =
    let ad0 = sym ((entry_adds (length h) b c e g).added w) ∙ ad in
    let z = (lanes_fact h b r).filled w a ad0 in
    let wl = At-below h w (Began z.lane z.op) z.began in
    let wr0 = less_wrote h e w i y wl wr in
    at_entry t lawful once h b c e begun r at law g w i y a wr0 ad0 n (hf w i y a wr0 ad0 (λ x. on_entry t h b c e w i y r g wr0 x n))

-- ---- over a move
same_place : (t : Told) (h : List Entry) (b c : View) (i : Spot) (y m : ℕ) → SameAt b c i → OldCommits h b.wait h c.wait → HoldsNow t h b i y m → HoldsNow t h c i y m
same_place t h b c i y m at oc q = rw (at.0, at.1) (keep t h h (length h) (length h) (t.at (length h)) (t.at (length h)) b.wait c.wait i y m (b.rest i) (b.fly i) (λ v z. z) (same_server (t.at (length h)) (t.at (length h)) i refl) (λ f is n j u v call a. a) oc q)

same_waits : (h : List Entry) (b c : View) → SameCalls b c → OldCommits h b.wait h c.wait
same_waits h b c k n z v f w a = (sym (k.wait z) ∙ w, a)

new_waits : (t : Told) → Lawful t → (h : List Entry) (b c : View) → Begins t h → Reaches h b → (x : ℕ) (call : Call) → NewCall b c x call → OldCommits h b.wait h c.wait
new_waits t lawful h b c begun r x call k n z v f w a = elim (same_or_not z x) [
  | inl is ↦ let low = executed_below t lawful h b begun r n z (commit f) (committed 0 v) a in let e = k.numbered in absurd (omega (arith, low, e, is))
  | inr ne ↦ (sym (k.others z ne) ∙ w, a)
]

-- a close gives up the byte of a place
pub close_owes : (t : Told) (h : List Entry) (b c : View) (w : ℕ) (i : Spot) (y : ℕ) (a : Added) (cell : Cell) → Reaches h b → (m : GivesUp b c) → i.file ≡ m.file → Wrote h w i y → b.added w ≡ Some a → b.rest i ≡ Some cell → SyncedAt t h (length h) b → (Excused t h (length h) c w i → ⊥) → ⊥
close_owes t h b c w i y a cell r m is wr ad there sf n = n (owed (record {
  gave = rw is m.gave;
  owing = by_itself m.l m.from m.slot (rw is m.lanes.is);
  shut = λ l s e. m.shut l s (sym (m.opens l s) ∙ e ∙ ap (λ f. Some f) is);
  closed_all = λ k from s work e. elim (same_or_not k m.l) [
    | inl here ↦ let z = busy_same m.from from (close_op m.file m.slot) (close_op i.file s) (ready refused) work (sym m.lanes.is ∙ ap (λ q. c.lane q) (sym here) ∙ e) in inl (refused, sym z.2)
    | inr ne ↦ inl (m.ended k from s work ne (rw (← is) (sym (m.lanes.others k ne) ∙ e)))
  ];
  spared = λ l s j op k at fi d. some_there ((says l s op k at fi).at_end j d);
  pending = λ l s op k fi e. elim (came_to b c (gives_up m) l s op i.file (ready done) fi e) [
    | stood work was ↦ some_there ((says l s op k ((lanes_fact h b r).busy_is l s op (ready done) (now_ready l s op e)).began fi).at_work (ready done) (now_ready l s op e))
    | queued work q p ↦ absurd (cc q)
    | added work z q p a2 ad2 le lo ↦ absurd (cc q)
    | firmed work upto q was cl gv same ↦ some_there (now_none same)
    | failed work q ↦ absurd (cc q)
  ];
  unput = λ l op at p k d lt got. elim ((lanes_fact h b r).status l w op at) [
    | under_way work e ↦ ((lanes_fact h b r).busy_is l w op work e).unanswered k d lt got
    | ended j ans z q ↦ ends_put l op at p j ans z
  ];
}))
  where
    some_there : Nothing b i → ⊥
    some_there q = absurd (cc (there, q.0))

    says : (l s : ℕ) (op : Op) → Counts h w s → At h s (Began l op) → Firms op i.file → Says h b i a.number l s op
    says l s op k at fi = sf w i y a l s op wr ad k at fi (λ x. n (on_move t h b c w (length h) i r (gives_up m) x))

    -- the lane that gives up is ready with a refusal; any other is as it was
    now_ready : (l s : ℕ) (op : Op) → c.lane l ≡ busy s op (ready done) → b.lane l ≡ busy s op (ready done)
    now_ready l s op e = elim (same_or_not l m.l) [
      | inl here ↦ absurd (cc ((busy_same m.from s (close_op m.file m.slot) op (ready refused) (ready done) (sym m.lanes.is ∙ ap (λ q. c.lane q) (sym here) ∙ e)).2))
      | inr ne ↦ sym (m.lanes.others l ne) ∙ e
    ]

    now_none : SamePlaces b c → Nothing b i
    now_none same = absurd (cc (there, (same.there i).0, (m.drops.none i is).0))

    ends_put : (l : ℕ) (op : Op) → At h w (Began l op) → is_put op ≡ true → (j : ℕ) (ans : Answer) → Ends h l w j ans → ⊥
    ends_put l op at p j done z = let same = began_is h w l wr.lane op wr.op at wr.began in some_there ((says l w op (itself refl) at (means_firms op i y (rw same.1 wr.means_it) p)).at_end j z)
    ends_put l op at p j refused z = n (failed_put (before l j op p at z))

-- a refused put gives up the byte of a place: it is a put's that was refused
pub put_refused : (t : Told) (h : List Entry) (b c : View) (w : ℕ) (i : Spot) (y : ℕ) (a : Added) (cell : Cell) → Reaches h b → (m : GivesUpPut b c) → i.file ≡ m.file → Wrote h w i y → b.added w ≡ Some a → b.rest i ≡ Some cell → cell.number ≡ a.number → SyncedAt t h (length h) b → (Excused t h (length h) c w i → ⊥) → ⊥
put_refused t h b c w i y a cell r m is wr ad there num sf n = elim (m.puts_only i cell w a is there ad (sym num)) [
  | inl e ↦ n (failed_put (now m.l (put_op m.file m.offset m.bytes) refl (rw e m.lanes.is)))
  | inr k ↦
      let z = (lanes_fact h b r).filled w a ad in
      let p : is_put z.op ≡ true = sym z.put ∙ k.0 in
      elim ((lanes_fact h b r).status z.lane w z.op z.began) [
        | under_way work e ↦ n (failed_put (now z.lane z.op p (ready_stays b c (gives_up_put m) z.lane w z.op refused (rw (← k.1 z.lane z.op work e) e))))
        | ended j ans d q ↦ ends_put z.lane z.op z.began p j ans d
      ]
]
  where
    ends_put : (l : ℕ) (op : Op) → At h w (Began l op) → is_put op ≡ true → (j : ℕ) (ans : Answer) → Ends h l w j ans → ⊥
    ends_put l op at p j done d =
        let same = began_is h w l wr.lane op wr.op at wr.began in
        let says = sf w i y a l w op wr ad (itself refl) at (means_firms op i y (rw same.1 wr.means_it) p) (λ x. n (on_move t h b c w (length h) i r (gives_up_put m) x)) in
        absurd (cc (there, (says.at_end j d).0))
    ends_put l op at p j refused d = n (failed_put (before l j op p at d))

-- a place that gives up what is there
given : (t : Told) (h : List Entry) (b c : View) (i : Spot) (y m : ℕ) (d : File) → Drops b c d → i.file ≡ d → ((cell : Cell) → b.rest i ≡ Some cell → cell.number ≡ m → ⊥) → HoldsNow t h b i y m → HoldsNow t h c i y m
given t h b c i y m d g is none q =
    let k = go (b.rest i) refl (rw (g.grounded i is) at q) in
    rw ((g.none i is).0, (g.none i is).1) k
  where
    go : (o : Option Cell) → b.rest i ≡ o → Holds t h (length h) (t.at (length h)) b.wait i y m o None → Both (t.at (length h)) i y
    go None e q = q
    go (Some cell) e q = absurd (none cell e q.1)

-- bytes that come in at a place
came_in : (t : Told) (h : List Entry) (b c : View) (w : ℕ) (i : Spot) (y : ℕ) (a : Added) → Reaches h b → Wrote h w i y → c.added w ≡ Some a → (q : Adds b c) → w ≡ q.from → HoldsNow t h c i y a.number
came_in t h b c w i y a r wr ad q is =
    let o = (lanes_fact h b r).busy_is q.l q.from q.op starts q.lanes.was in
    let same = began_is h w q.l wr.lane q.op wr.op (rw is o.began) wr.began in
    let u = some_add (record { number = b.seq + 1; put = is_put q.op }) a (sym q.added ∙ ap (λ n. c.added n) (sym is) ∙ ad) in
    rw (q.there i y (rw same.1 wr.means_it)) (refl, u, tt)

at_move : (t : Told) → Lawful t → (h : List Entry) (b c : View) → Begins t h → (r : Reaches h b) → (m : Move b c) → SyncedAt t h (length h) b → (w : ℕ) (i : Spot) (y : ℕ) (a : Added) → Wrote h w i y → b.added w ≡ Some a → (Excused t h (length h) c w i → ⊥) → HoldsNow t h b i y a.number → HoldsNow t h c i y a.number
at_move t lawful h b c begun r (makes_write m) sf w i y a wr ad n q = elim (one_or_none (covers m.file m.offset m.bytes i)) [
  | inl none ↦ same_place t h b c i y a.number (m.others i none) (new_waits t lawful h b c begun r m.x (write m.file m.offset m.bytes m.how) m.calls) q
  | inr v ↦
      let p = m.picks i v.0 v.1 in
      let q2 : Holds t h (length h) (t.at (length h)) b.wait i y a.number (Some p.cell) (b.fly i) = rw p.was at q in
      (rw (p.rest, p.fly) (sym p.byte_is ∙ q2.0, q2.1, λ j count k u l at reach. let low = executed_below t lawful h b begun r j m.x l (wrote 0 count k u) at in let e = m.calls.numbered in absurd (omega (arith, low, e))))
]
at_move t lawful h b c begun r (makes_commit m) sf w i y a wr ad n q = same_place t h b c i y a.number (m.places.there i) (new_waits t lawful h b c begun r m.x (commit m.file) m.calls) q
at_move t lawful h b c begun r (makes_call m) sf w i y a wr ad n q = same_place t h b c i y a.number (m.places.there i) (new_waits t lawful h b c begun r m.x m.call m.calls) q
at_move t lawful h b c begun r (adds m) sf w i y a wr ad n q = elim (one_or_none (means m.op i)) [
  | inl none ↦ same_place t h b c i y a.number (m.others i none, m.fly i) (same_waits h b c m.calls) q
  | inr v ↦ absurd (came_over t h b c w i r (record { adds_ = m; byte = v.0; means_it = v.1 }) (λ is. absurd (cc (((lanes_fact h b r).busy_is m.l m.from m.op starts m.lanes.was).adds_by, is, ad))) n)
]
at_move t lawful h b c begun r (proceeds m) sf w i y a wr ad n q = same_place t h b c i y a.number (m.places.there i) (same_waits h b c m.calls) q
at_move t lawful h b c begun r (opens m) sf w i y a wr ad n q = same_place t h b c i y a.number (m.places.there i) (same_waits h b c m.calls) q
at_move t lawful h b c begun r (frees m) sf w i y a wr ad n q = same_place t h b c i y a.number (m.places.there i) (same_waits h b c m.calls) q
at_move t lawful h b c begun r (cuts m) sf w i y a wr ad n q = elim (m.places i) [
  | inl s ↦ same_place t h b c i y a.number s (same_waits h b c m.calls) q
  | inr k ↦
      let o = (lanes_fact h b r).busy_is m.l m.from (cut_op m.file m.size) starts m.is in
      absurd (n (cut_touches t h h (length h) b c w i y m.l m.from m.size wr (rw k.0 o.began) (At-below h m.from (Began m.l (cut_op m.file m.size)) o.began) k.1 (λ j d lo hi got. o.unanswered j d lo got)))
]
at_move t lawful h b c begun r (gives_up m) sf w i y a wr ad n q = elim (same_file_or_not i.file m.file) [
  | inl is ↦ given t h b c i y a.number m.file m.drops is (λ cell e num. close_owes t h b c w i y a cell r m is wr ad e sf n) q
  | inr ne ↦ same_place t h b c i y a.number (m.drops.others i ne) (same_waits h b c m.drops.calls) q
]
at_move t lawful h b c begun r (gives_up_put m) sf w i y a wr ad n q = elim (same_file_or_not i.file m.file) [
  | inl is ↦ given t h b c i y a.number m.file m.drops is (λ cell e num. put_refused t h b c w i y a cell r m is wr ad e num sf n) q
  | inr ne ↦ same_place t h b c i y a.number (m.drops.others i ne) (same_waits h b c m.drops.calls) q
]
at_move t lawful h b c begun r (loses m) sf w i y a wr ad n q = same_place t h b c i y a.number (m.places.there i) (same_waits h b c m.calls) q

holds_move : (t : Told) → Lawful t → (h : List Entry) (b c : View) → Begins t h → Reaches h b → Move b c → HoldsAt t h (length h) b → SyncedAt t h (length h) b → HoldsAt t h (length h) c
holds_move t lawful h b c begun r m hf sf w i y a wr ad n = elim (add_turn b c m) [
  | same_in q ↦ old (sym (q.added w) ∙ ad)
  | one_in q ↦ elim (same_or_not w q.from) [ inl is ↦ came_in t h b c w i y a r wr ad q is | inr ne ↦ old (sym (q.others_added w ne) ∙ ad) ]
]
  where
    old : b.added w ≡ Some a → HoldsNow t h c i y a.number
    old ad0 = at_move t lawful h b c begun r m sf w i y a wr ad0 n (hf w i y a wr ad0 (λ x. n (on_move t h b c w (length h) i r m x)))

-- ---- both facts together
pub record Facts (t : Told) (h : List Entry) (p : ℕ) (c : View) : Type 0 where
  pub holds : HoldsAt t h p c
  pub synced : SyncedAt t h p c

pub facts : (t : Told) → Lawful t → Once t → (h : List Entry) (c : View) → Begins t h → Reaches h c → Facts t h (length h) c
facts t lawful once _ _ begun (begins h c e i) = record { holds = λ w j y a o ad n. absurd (cc (i.added w, ad)); synced = λ w j y a l s op o ad k at fi n. absurd (cc (i.added w, ad)) }
facts t lawful once _ _ begun (enters h c front b e r g s) =
    let all : Begins t (front ++ e ∷ []) = rw g at begun in
    let told : Begins t front = before_begins t front e all in
    let at : At t.entries (length front) e = last_told t front e all in
    let f = facts t lawful once front b told r in
    rw (g, length_last front e) (record { holds = holds_entry t lawful once front b c e told r at (lawful.step (length front) e at) s f.holds; synced = synced_entry t front b c e r s f.synced })
facts t lawful once _ _ begun (moves h c b r m) =
    let f = facts t lawful once h b begun r in
    record { holds = holds_move t lawful h b c begun r m f.holds f.synced; synced = synced_move t h b c r m f.holds f.synced }
