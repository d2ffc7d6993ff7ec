-- What stands at the server for a byte that a write gave under a number, by what the client keeps of its place.
use Rattle.std.proofs.Common.{inl, inr, ◌⊎◌, ◌≡◌, ◌≤◌, ℕ, suc, List, [], ◌∷◌, ◌++◌, length, Option, Some, None, refl, sym, ap, ◌∙◌, arith}
use Rattle.model_writes.specs.Story.{Verifier, File, Spot, Call, write, commit, resize, plain, Reply, wrote, committed, denied, Entry, Executed, At, gives, Reach, Server, Told, Begins, Both}
use Rattle.model_writes.specs.Lawful.{Keeps, Puts, Commits, Restarts, Serves, Lawful}
use Rattle.model_writes.specs.Machine.{Mark, unsent, again, acked, Cell, Flight, Came, stays, covered, acks, firms, returns, Heard, keeps, settles, resends, Renamed, unmoved, moved}
use Rattle.model_writes.proofs.AtLemmas.{At-cases, At-below, At-told}

pub record Seen (t : Told) (p : ℕ) (v : Verifier) : Type 0 where
  pub at : ℕ
  pub early : at ≤ p
  pub is : (t.at at).verf ≡ v

abbrev pub WriteShown : List Entry → Server → Spot → ℕ → ℕ → Type 0
WriteShown h s i b x = (n count k : ℕ) (v : Verifier) (call : Call) → At h n (Executed x call (wrote 0 count k v)) → Reach call count i → (s.verf ≡ v → s.now i ≡ Some b) × (1 ≤ k → Both s i b)

abbrev pub CommitShown : List Entry → Server → (ℕ → Option Call) → Spot → ℕ → Verifier → Type 0
CommitShown h s wait i b v = (n y : ℕ) → wait y ≡ Some (commit i.file) → At h n (Executed y (commit i.file) (committed 0 v)) → Both s i b

pub record AckShown (t : Told) (h : List Entry) (p : ℕ) (s : Server) (wait : ℕ → Option Call) (i : Spot) (b : ℕ) (v : Verifier) : Type 0 where
  pub seen : Seen t p v
  pub now : s.verf ≡ v → s.now i ≡ Some b
  pub firm : CommitShown h s wait i b v

abbrev pub ByMark : Told → List Entry → ℕ → Server → (ℕ → Option Call) → Spot → ℕ → Mark → Type 0
ByMark t h p s wait i b unsent = Unit {0}
ByMark t h p s wait i b again = Unit {0}
ByMark t h p s wait i b (acked v) = AckShown t h p s wait i b v

abbrev pub Holds : Told → List Entry → ℕ → Server → (ℕ → Option Call) → Spot → ℕ → ℕ → Option Cell → Option Flight → Type 0
Holds t h p s wait i b m (Some cell) fly = (cell.byte ≡ b) × (cell.number ≡ m) × ByMark t h p s wait i b cell.mark
Holds t h p s wait i b m None (Some f) = (f.byte ≡ b) × (f.number ≡ m) × WriteShown h s i b f.xid
Holds t h p s wait i b m None None = Both s i b

pub same_server : (old new : Server) (i : Spot) → new ≡ old → Keeps old new i
same_server old new i e = record { verf = ap (λ (s : Server). s.verf) e; now = λ b k. ap (λ (s : Server). s.now i) e ∙ k; both = λ b k. (ap (λ (s : Server). s.now i) e ∙ k.0, ap (λ (s : Server). s.stable i) e ∙ k.1) }

pub later_seen : (t : Told) (p : ℕ) (v : Verifier) → Seen t p v → Seen t (suc p) v
later_seen t p v s = record { at = s.at; early = let e = s.early in omega (arith, e); is = s.is }

-- what an execution of x shows in the longer history was shown before
abbrev pub OldWrites : List Entry → List Entry → ℕ → Type 0
OldWrites h h' x = (n count k : ℕ) (v : Verifier) (call : Call) → At h' n (Executed x call (wrote 0 count k v)) → At h n (Executed x call (wrote 0 count k v))

abbrev pub OldCommits : List Entry → (ℕ → Option Call) → List Entry → (ℕ → Option Call) → Type 0
OldCommits h old h' new = (n y : ℕ) (v : Verifier) (f : File) → new y ≡ Some (commit f) → At h' n (Executed y (commit f) (committed 0 v))
    → (old y ≡ Some (commit f)) × At h n (Executed y (commit f) (committed 0 v))

-- a later moment: p ≤ q
abbrev pub Later : Told → ℕ → ℕ → Type 0
Later t p q = (v : Verifier) → Seen t p v → Seen t q v

keep_mark : (t : Told) (h h' : List Entry) (p q : ℕ) (s s' : Server) (st st' : ℕ → Option Call) (i : Spot) (b : ℕ) (m : Mark) → Later t p q → Keeps s s' i → OldCommits h st h' st'
    → ByMark t h p s st i b m → ByMark t h' q s' st' i b m
keep_mark t h h' p q s s' st st' i b unsent later same oc k = tt
keep_mark t h h' p q s s' st st' i b again later same oc k = tt
keep_mark t h h' p q s s' st st' i b (acked v) later same oc k = record {
  seen = later v k.seen;
  now = λ is. same.now b (k.now (sym same.verf ∙ is));
  firm = λ n y w at. let o = oc n y v i.file w at in same.both b (k.firm n y o.0 o.1);
}

pub keep : (t : Told) (h h' : List Entry) (p q : ℕ) (s s' : Server) (st st' : ℕ → Option Call) (i : Spot) (b m : ℕ) (o : Option Cell) (g : Option Flight) → Later t p q → Keeps s s' i → ((f : Flight) → g ≡ Some f → OldWrites h h' f.xid) → OldCommits h st h' st'
    → Holds t h p s st i b m o g → Holds t h' q s' st' i b m o g
keep t h h' p q s s' st st' i b m (Some cell) g later same ow oc k = (k.0, k.1, keep_mark t h h' p q s s' st st' i b cell.mark later same oc k.2)
keep t h h' p q s s' st st' i b m None None later same ow oc k = same.both b k
keep t h h' p q s s' st st' i b m None (Some f) later same ow oc k = (
  k.0,
  k.1,
  λ n c j v call at reach.
      let r = k.2 n c j v call (ow f refl n c j v call at) reach in (λ is. same.now b (r.0 (sym same.verf ∙ is)), λ le. same.both b (r.1 le)),
)

served_verf : (t : Told) (n c k : ℕ) (v : Verifier) (call : Call) → Serves (t.at n) call (wrote 0 c k v) (t.at (suc n)) → v ≡ (t.at n).verf
served_verf t n c k v (write f o y how) s = s.says
served_verf t n c k v (commit f) s = absurd s
served_verf t n c k v (resize f z) s = absurd s
served_verf t n c k v (plain f) s = absurd s

pub write_seen : (t : Told) → Lawful t → (h : List Entry) → Begins t h → (n x c k : ℕ) (v : Verifier) (call : Call) → At h n (Executed x call (wrote 0 c k v)) → Seen t (length h) v
write_seen t lawful h begun n x c k v call at =
    let s = lawful.step n (Executed x call (wrote 0 c k v)) (At-told t h n (Executed x call (wrote 0 c k v)) begun at) in
    let low = At-below h n (Executed x call (wrote 0 c k v)) at in
    record { at = n; early = omega (arith, low); is = sym (served_verf t n c k v call s.step) }

-- fewer calls wait
abbrev pub Fewer : (ℕ → Option Call) → (ℕ → Option Call) → Type 0
Fewer st st' = (y : ℕ) (f : File) → st' y ≡ Some (commit f) → st y ≡ Some (commit f)

fewer_mark : (t : Told) (h : List Entry) (p : ℕ) (s : Server) (st st' : ℕ → Option Call) (i : Spot) (b : ℕ) (m : Mark) → Fewer st st' → ByMark t h p s st i b m → ByMark t h p s st' i b m
fewer_mark t h p s st st' i b unsent w q = tt
fewer_mark t h p s st st' i b again w q = tt
fewer_mark t h p s st st' i b (acked v) w q = record { seen = q.seen; now = q.now; firm = λ n y e at. q.firm n y (w y i.file e) at }

fewer : (t : Told) (h : List Entry) (p : ℕ) (s : Server) (st st' : ℕ → Option Call) (i : Spot) (b m : ℕ) (o : Option Cell) (g : Option Flight) → Fewer st st' → Holds t h p s st i b m o g → Holds t h p s st' i b m o g
fewer t h p s st st' i b m (Some cell) g w q = (q.0, q.1, fewer_mark t h p s st st' i b cell.mark w q.2)
fewer t h p s st st' i b m None None w q = q
fewer t h p s st st' i b m None (Some f) w q = q

-- the reply to a WRITE
abbrev pub Shows : List Entry → ℕ → Call → Reply → Type 0
Shows h x call r = ((n : ℕ) × At h n (Executed x call r)) ⊎ (r ≡ denied)

pub came : (t : Told) → Lawful t → (h : List Entry) → Begins t h → (s : Server) (st st' : ℕ → Option Call) (b m x : ℕ) (call : Call) (r : Reply) (i : Spot) (o : Option Cell) (g : Option Flight) (o' : Option Cell) (g' : Option Flight)
    → Shows h x call r → Fewer st st' → ((y : ℕ) → st y ≡ Some (commit i.file) → g ≡ None)
    → Came x call r i o g o' g' → Holds t h (length h) s st i b m o g → Holds t h (length h) s st' i b m o' g'
came t lawful h begun s st st' b m _ _ _ _ _ _ _ _ at fewer_wait alone (stays x call r i o g o' g' ne rs fs) q = rw (rs, fs) (fewer t h (length h) s st st' i b m o g fewer_wait q)
came t lawful h begun s st st' b m _ _ _ _ _ _ _ _ at fewer_wait alone (covered x call r i o g o' g' f c a xi d rs fs) q =
    let q2 : Holds t h (length h) s st i b m (Some c) g = rw d at q in
    rw (rs, d) (fewer t h (length h) s st st' i b m (Some c) g fewer_wait q2)
came t lawful h begun s st st' b m _ _ _ _ _ _ _ _ at fewer_wait alone (acks x call r i o g o' g' f c v a xi d is reach rs fs) q =
    let q2 : Holds t h (length h) s st i b m None (Some f) = rw (a, d) at q in
    elim at [
      | inl k ↦
          let e : At h k.0 (Executed f.xid call (wrote 0 c 0 v)) = rw xi (rw is at k.1) in
          rw rs (q2.0, q2.1, record { seen = write_seen t lawful h begun k.0 f.xid c 0 v call e; now = (q2.2 k.0 c 0 v call e reach).0; firm = λ m y w ex. absurd (cc (alone y (fewer_wait y i.file w), a)) })
      | inr no_ ↦ absurd (cc (no_, is))
    ]
came t lawful h begun s st st' b m _ _ _ _ _ _ _ _ at fewer_wait alone (firms x call r i o g o' g' f c k v a xi d is reach rs fs) q =
    let q2 : Holds t h (length h) s st i b m None (Some f) = rw (a, d) at q in
    elim at [
      | inl z ↦
          let e : At h z.0 (Executed f.xid call (wrote 0 c (suc k) v)) = rw xi (rw is at z.1) in
          rw (rs, fs) ((q2.2 z.0 c (suc k) v call e reach).1 (omega arith))
      | inr no_ ↦ absurd (cc (no_, is))
    ]
came t lawful h begun s st st' b m _ _ _ _ _ _ _ _ at fewer_wait alone (returns x call r i o g o' g' f a xi d rs fs) q =
    let q2 : Holds t h (length h) s st i b m None (Some f) = rw (a, d) at q in
    rw rs (q2.0, q2.1, tt)

-- the reply to a COMMIT
pub heard : (t : Told) (h : List Entry) (p : ℕ) (s : Server) (st st' : ℕ → Option Call) (i : Spot) (b m x : ℕ) (r : Reply) (o o' : Option Cell) (g : Option Flight)
    → Shows h x (commit i.file) r → st x ≡ Some (commit i.file) → Fewer st st' → g ≡ None
    → Heard r o o' → Holds t h p s st i b m o g → Holds t h p s st' i b m o' g
heard t h p s st st' i b m x _ _ _ g at w fewer_wait none (keeps r o o' is) q = rw is (fewer t h p s st st' i b m o g fewer_wait q)
heard t h p s st st' i b m x _ _ _ g at w fewer_wait none (settles r o o' c v re was mark is) q =
    let q2 : Holds t h p s st i b m (Some c) g = rw was at q in
    let a : AckShown t h p s st i b v = rw mark at q2.2 in
    elim at [
      | inl k ↦ rw (is, none) (a.firm k.0 x w (rw re at k.1))
      | inr no_ ↦ absurd (cc (no_, re))
    ]
heard t h p s st st' i b m x _ _ _ g at w fewer_wait none (resends r o o' c was is) q =
    let q2 : Holds t h p s st i b m (Some c) g = rw was at q in
    rw is (q2.0, q2.1, tt)

-- a call is made again under a new number, not executed yet; the COMMITs that wait and were executed are old ones
pub renamed : (t : Told) (h : List Entry) (p : ℕ) (s : Server) (st st' : ℕ → Option Call) (i : Spot) (b m x y : ℕ) (o : Option Cell) (g g' : Option Flight)
    → ((n count k : ℕ) (v : Verifier) (call : Call) → At h n (Executed y call (wrote 0 count k v)) → ⊥) → OldCommits h st h st' → Renamed x y g g'
    → Holds t h p s st i b m o g → Holds t h p s st' i b m o g'
renamed t h p s st st' i b m x y (Some cell) g g' fresh oc k q = (q.0, q.1, keep_mark t h h p p s s st st' i b cell.mark (λ v e. e) (same_server s s i refl) oc q.2)
renamed t h p s st st' i b m x y None g g' fresh oc k q = go g g' k q
  where
    go : (g g' : Option Flight) → Renamed x y g g' → Holds t h p s st i b m None g → Holds t h p s st' i b m None g'
    go g g' (unmoved ne is) q = rw is (only g q)
      where
        only : (g : Option Flight) → Holds t h p s st i b m None g → Holds t h p s st' i b m None g
        only None q = q
        only (Some f) q = q
    go g g' (moved f a xi is) q =
        let q2 : Holds t h p s st i b m None (Some f) = rw a at q in
        rw is (q2.0, q2.1, λ n c j v call at reach. absurd (fresh n c j v call at))

-- a restart
pub restarts : (t : Told) → Lawful t → (h h' : List Entry) → Begins t h → (st : ℕ → Option Call) (i : Spot) (b m : ℕ) (o : Option Cell) (g : Option Flight) → Restarts t (length h) → ((x : ℕ) → OldWrites h h' x) → OldCommits h st h' st
    → Holds t h (length h) (t.at (length h)) st i b m o g → Holds t h' (suc (length h)) (t.at (suc (length h))) st i b m o g
restarts t lawful h h' begun st i b m None None r ow oc q = (r.now i ∙ q.1, r.stable i ∙ q.1)
restarts t lawful h h' begun st i b m None (Some f) r ow oc q = (
  q.0,
  q.1,
  λ n c k v call at reach.
      let old = ow f.xid n c k v call at in
      let seen = write_seen t lawful h begun n f.xid c k v call old in
      (λ is. absurd (r.fresh seen.at seen.early (seen.is ∙ sym is)), λ le. let o = (q.2 n c k v call old reach).1 le in (r.now i ∙ o.1, r.stable i ∙ o.1)),
)
restarts t lawful h h' begun st i b m (Some cell) g r ow oc q = (q.0, q.1, marked cell.mark q.2)
  where
    marked : (m : Mark) → ByMark t h (length h) (t.at (length h)) st i b m → ByMark t h' (suc (length h)) (t.at (suc (length h))) st i b m
    marked unsent q = tt
    marked again q = tt
    marked (acked v) q = record {
      seen = later_seen t (length h) v q.seen;
      now = λ is. absurd (r.fresh q.seen.at q.seen.early (q.seen.is ∙ sym is));
      firm = λ n y w at. let c = oc n y v i.file w at in let o = q.firm n y c.0 c.1 in (r.now i ∙ o.1, r.stable i ∙ o.1);
    }

-- a COMMIT of the file is executed, while nothing flies
pub commits : (t : Told) (h : List Entry) (p : ℕ) (s s' : Server) (st : ℕ → Option Call) (i : Spot) (b m x : ℕ) (v : Verifier) (o : Option Cell) (g : Option Flight) → Commits s s' i.file v → g ≡ None
    → Holds t h p s st i b m o g → Holds t (h ++ Executed x (commit i.file) (committed 0 v) ∷ []) (suc p) s' st i b m o g
commits t h p s s' st i b m x v None None c none q = let k = c.there i refl in (k.0 ∙ q.0, k.1 ∙ q.0)
commits t h p s s' st i b m x v None (Some f) c none q = absurd (cc none)
commits t h p s s' st i b m x v (Some cell) g c none q = (q.0, q.1, marked cell.mark q.2)
  where
    verf_is : (y : ℕ) (u : Verifier) → Executed x (commit i.file) (committed 0 v) ≡ Executed y (commit i.file) (committed 0 u) → v ≡ u
    verf_is y u e = cc

    both : s.now i ≡ Some b → Both s' i b
    both is = let k = c.there i refl in (k.0 ∙ is, k.1 ∙ is)

    marked : (m : Mark) → ByMark t h p s st i b m → ByMark t (h ++ Executed x (commit i.file) (committed 0 v) ∷ []) (suc p) s' st i b m
    marked unsent q = tt
    marked again q = tt
    marked (acked u) q = record {
      seen = later_seen t p u q.seen;
      now = λ is. (both (q.now (sym c.verf ∙ is))).0;
      firm = λ n y w at. elim (At-cases h (Executed x (commit i.file) (committed 0 v)) n (Executed y (commit i.file) (committed 0 u)) at) [
        | inl a ↦ both (q.firm n y w a).0
        | inr m ↦ both (q.now (sym c.says ∙ verf_is y u m.1))
      ];
    }

-- a place that an executed WRITE covers keeps the byte that the WRITE gives
put_kept : (s s' : Server) (i : Spot) (y b : ℕ) → y ≡ b → ((s'.now i ≡ s.now i) ⊎ (s'.now i ≡ Some y)) × ((s'.stable i ≡ s.stable i) ⊎ (s'.stable i ≡ Some y)) → (s.now i ≡ Some b → s'.now i ≡ Some b) × (s.stable i ≡ Some b → s'.stable i ≡ Some b)
put_kept s s' i y b is p = (λ o. elim p.0 [ inl k ↦ k ∙ o | inr u ↦ rw (← is) u ], λ o. elim p.1 [ inl k ↦ k ∙ o | inr u ↦ rw (← is) u ])

-- a WRITE is executed, with any status: at a place that it covers
pub put_here : (t : Told) (h : List Entry) (p : ℕ) (s s' : Server) (st : ℕ → Option Call) (i : Spot) (b m x y : ℕ) (call : Call) (r : Reply) (o : Option Cell) (g : Option Flight) (f : Flight)
    → Puts s s' call → gives call i ≡ Some y → g ≡ Some f → f.byte ≡ y → f.xid ≡ x → ((cell : Cell) → o ≡ Some cell → cell.mark ≡ unsent)
    → ((count k : ℕ) (v : Verifier) → r ≡ wrote 0 count k v → Reach call count i → (s'.now i ≡ Some y) × (1 ≤ k → s'.stable i ≡ Some y))
    → Holds t h p s st i b m o g → Holds t (h ++ Executed x call r ∷ []) (suc p) s' st i b m o g
put_here t h p s s' st i b m x y call r (Some cell) g f u at fl byte xid newer there q = (q.0, q.1, rw (newer cell refl) tt)
put_here t h p s s' st i b m x y call r None None f u at fl byte xid newer there q = absurd (cc fl)
put_here t h p s s' st i b m x y call r None (Some d) f u at fl byte xid newer there q = (
  q.0,
  q.1,
  λ n c k v l ex reach. elim (At-cases h (Executed x call r) n (Executed d.xid l (wrote 0 c k v)) ex) [
    | inl a ↦ let w = q.2 n c k v l a reach in (λ e. kept.0 (w.0 (sym u.verf ∙ e)), λ le. let o = w.1 le in (kept.0 o.0, kept.1 o.1))
    | inr m ↦ let z = there c k v (reply_is m.1) (rw (← call_is m.1) at reach) in (λ e. rw (← is) z.0, λ le. (rw (← is) z.0, rw (← is) (z.1 le)))
  ],
)
  where
    flight_is : (d f : Flight) → Some d ≡ Some f → d.byte ≡ f.byte
    flight_is d f e = ap (λ (h : Option Flight). elim h as (λ _. ℕ) [ None ↦ 0 | Some k ↦ k.byte ]) e

    is : y ≡ b
    is = sym byte ∙ sym (flight_is d f fl) ∙ q.0

    kept : (s.now i ≡ Some b → s'.now i ≡ Some b) × (s.stable i ≡ Some b → s'.stable i ≡ Some b)
    kept = put_kept s s' i y b is (u.covered i y at)

    reply_is : {l : Call} {c k : ℕ} {v : Verifier} {z : ℕ} → Executed x call r ≡ Executed z l (wrote 0 c k v) → r ≡ wrote 0 c k v
    reply_is e = cc

    call_is : {l : Call} {c k : ℕ} {v : Verifier} {z : ℕ} → Executed x call r ≡ Executed z l (wrote 0 c k v) → call ≡ l
    call_is e = cc
