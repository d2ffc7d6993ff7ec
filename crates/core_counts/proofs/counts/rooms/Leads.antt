-- The step of a lane leads to the call that it asks for, to a refusal, or to its answer: what the session may still make of the COMMITs of the file after it.
use Rattle.core_counts.proofs.Prelude.{◌≡◌, ◌<◌, ◌≤◌, ◌+◌, ◌-◌, ◌*◌, ◌⊎◌, inl, inr, ℕ, Bool, true, false, List, length, Some, Err, slice_get, refl, sym, ap, subst, ◌∙◌, arith, Pending, Waiting, next_xid, waiting_at, waits_early, Answer, Entry, Sent, Call, Op, IsWriter, Placed, IsCommitOf, StableOf, NoneBegan, At, HasXid, Terms, Step, Send, Wait, Done, Repeat, Shelf, Mounted, Machine, Lane, Purpose, State, Busy, Over, Setup, with_state, IsRefused, Makes, Refuses, Leads, View, turn_at, unmade_turn, in_flight, KnowsRoot, GoesWith, Runs, at-set, Rows, AskedOf, Going, Asks, AreAsked, Calls, count, state-is, job_kind, told, Turns}
use Rattle.core_answers.proofs.writes.AllFits.{all-takes}
use Rattle.world_model.specs.declared.op.Op.TheVariants as ops
use Rattle.client_shelf.specs.Repeats.{answered}
use Rattle.core_counts.proofs.counts.commits.Counted.{test, test-sound, test-complete}
use Rattle.core_counts.proofs.counts.rooms.Base.{IsKeeper, Stepped, tale}
use Rattle.core_counts.proofs.counts.rooms.Calls as calls
use Rattle.core_counts.proofs.counts.rooms.Calls.{Such, Waiting_, Ends, pots, Counts_, fresh, other, again_, held-enough, ends-same, ends-other, ends-fresh, ends-again, unmade-table}
use Rattle.core_counts.proofs.counts.rooms.Numbers.{In, many}
use Rattle.core_counts.proofs.counts.rooms.OwnFiles.{all-own}
use Rattle.core_counts.proofs.counts.rooms.Owns.{asks-commits}
use Rattle.core_counts.proofs.counts.rooms.Posts as posts
use Rattle.core_counts.proofs.counts.rooms.Posts.{Holds, Post, Paid, pays, joins, KindOf, takes-post, kind-neither, kind-own}
use Rattle.core_counts.proofs.counts.rooms.Purses.{Purse, plain-end, joins-end}
use Rattle.core_counts.proofs.counts.rooms.Roles.{Role, neither, storing, own, role_of, OwnLeft}
use Rattle.core_counts.proofs.counts.rooms.Writes.{NotAgain}

same-machine : (a b : Machine) → Busy a ≡ Busy b → a ≡ b
same-machine a b e = cc

over-busy : (X : Type 0) (answer : Answer) (m : Machine) → Over answer ≡ Busy m → X
over-busy X answer m e = absurd (cc)

-- one that saves its own file is no write or fill
not-one : (f : List ℕ) (S : List Placed) (x : ℕ) (m : Machine) → job_kind m ≡ 1 → (left : ℕ) → OwnLeft f left (role_of m) → ⊥
not-one f S x m kind left owns = by (role_of m) refl owns
  where
    by : (r : Role) → role_of m ≡ r → OwnLeft f left r → ⊥
    by neither is k = kind-neither f S x m 1 is kind (inl refl)
    by (storing state) is k = absurd k
    by (own s) is k = kind-own f S x m s is kind

keeper-own : (f : List ℕ) (S : List Placed) (x : ℕ) (mt : Mounted) (number : ℕ) (m : Machine) (left : ℕ) → OwnLeft f left (role_of m) → (op : Op) → KindOf f S x mt number op m → IsKeeper op
keeper-own f S x mt number m left owns (ops.Write slot offset bytes) kind = not-one f S x m kind left owns
keeper-own f S x mt number m left owns (ops.Fill slot offset count byte) kind = not-one f S x m kind left owns
keeper-own f S x mt number m left owns (ops.Sync slot) kind = tt
keeper-own f S x mt number m left owns (ops.Close slot) kind = tt
keeper-own f S x mt number m left owns (ops.Put path offset bytes) kind = tt
keeper-own f S x mt number m left owns (ops.OpenFile slot mode path) kind = tt
keeper-own f S x mt number m left owns (ops.Read slot offset count) kind = tt
keeper-own f S x mt number m left owns (ops.Truncate slot size) kind = tt
keeper-own f S x mt number m left owns (ops.Stat path) kind = tt
keeper-own f S x mt number m left owns (ops.Access path bits) kind = tt
keeper-own f S x mt number m left owns (ops.ReadLink path) kind = tt
keeper-own f S x mt number m left owns (ops.MakeDir path) kind = tt
keeper-own f S x mt number m left owns (ops.RemoveDir path) kind = tt
keeper-own f S x mt number m left owns (ops.Remove path) kind = tt
keeper-own f S x mt number m left owns (ops.Rename from to) kind = tt
keeper-own f S x mt number m left owns (ops.Link from to) kind = tt
keeper-own f S x mt number m left owns (ops.SymLink path target) kind = tt
keeper-own f S x mt number m left owns (ops.List path) kind = tt

module _ (mt : Mounted) (terms : Terms) (setup : Setup) (H : List Entry) (V : View) (g : GoesWith mt terms setup H V) (roots : KnowsRoot terms.origin H mt.root) (asked : AreAsked H) (f : List ℕ) where
  -- ---- a lane made its step, and comes to the view `v` before its call is made

  module _ (h h2 : List Entry) (old new : View) (at number x : ℕ) (op : Op) (s : Stepped mt terms setup H V g roots asked f h2 old new at number x op) (t : Turns f h h2 old new at number x op s.state)
      (runs : Runs h2 number) (least : 1 ≤ number) (most : number ≤ 16) (b : Purse terms H f h old) (had more : ℕ) (many_is : many h2 ≡ many h + more) (had_is : had ≤ b.q number + 32 * more)
      (longer : length h ≤ length h2) (own_low : x < length h2) (held : ℕ) (held_is : held ≤ pots f old b.made)
      (sents : (all : List ℕ) → ((y : ℕ) → In y b.made → In y all) → (i xid : ℕ) (bytes : List ℕ) → At h2 i (Sent bytes) → HasXid bytes xid → Such f bytes → NoneBegan h2 i ⊎ In xid all)
      (v : View) (rows : Rows setup h2 v) (waiting : Waiting_ f b.made v) (after : Machine) (there : slice_get v.lanes at ≡ Some (record { number = number; state = Busy after })) (kind : KindOf f b.stable x mt number op after)
      (F : List Repeat → Type 0) where
    early : (y : ℕ) (w : Waiting Purpose) → waiting_at y v.calls.calls ≡ Some w → y < next_xid v.calls
    early y w is = waits_early v.calls.cred v.calls.first_xid (next_xid v.calls) y v.calls.calls w rows.sound.calls.each is

    -- the state that it came to
    state-of : (state : State) → slice_get new.lanes at ≡ Some (record { number = number; state = state }) → (m : Machine) → s.state ≡ Busy m → state ≡ Busy m
    state-of state here m is = sym (state-is s.state state number number (sym s.but.here ∙ here)) ∙ is

    busy-state : new.lanes ≡ v.lanes → (m : Machine) → s.state ≡ Busy m → after ≡ m
    busy-state same m is = same-machine after m (state-of (Busy after) (ap (λ (ls : List Lane). slice_get ls at) same ∙ there) m is)

    -- with so much left, where no COMMIT of its own file is new
    plain : (fresh_ : ℕ) → Ends f b.made held fresh_ new → (left : ℕ) → ((m : Machine) → s.state ≡ Busy m → Holds f b.stable x new.shelf.seq new.shelf.back left m) → left + fresh_ ≤ had
        → (IsWriter op → (new.shelf.seq ≡ old.shelf.seq) ⊎ (left + fresh_ + 30 ≤ had)) → Purse terms H f h2 new
    plain fresh_ ends = plain-end terms H f h h2 old new at number x op s.state t runs least most s.effect b fresh_ had more many_is had_is longer held held_is sents ends

    -- ---- no call

    held-on : (seq left : ℕ) (back : Pending) (m : Machine) → after ≡ m → Holds f b.stable x seq back left after → Holds f b.stable x seq back left m
    held-on seq left back m is k = subst (Holds f b.stable x seq back left) is k

    wait-lead : new ≡ v → Post f b.stable x F op had old.shelf v.shelf Wait after → Ends f b.made held 0 v → Purse terms H f h2 new
    wait-lead same p ends =
        plain 0 (subst (Ends f b.made held 0) (sym same) ends) p.left
        (λ m is. subst (λ (w : View). Holds f b.stable x w.shelf.seq w.shelf.back p.left m) (sym same)
        (held-on v.shelf.seq p.left v.shelf.back m (busy-state (ap (λ (w : View). w.lanes) same) m is) p.holds))
        (let less = p.less in omega (arith, less)) (λ w. by (p.adds w))
      where
        by : (v.shelf.seq ≡ old.shelf.seq) ⊎ (p.left + 30 ≤ had) → (new.shelf.seq ≡ old.shelf.seq) ⊎ (p.left + 0 + 30 ≤ had)
        by (inl e) = inl (ap (λ (w : View). w.shelf.seq) same ∙ e)
        by (inr enough) = inr (omega (arith, enough))

    -- where the lane has its answer, or goes on without a call
    over-lead : (answer : Answer) → new ≡ with_state v at number (Over answer) v.shelf → Post f b.stable x F op had old.shelf v.shelf (Done answer) after → Ends f b.made held 0 new → Purse terms H f h2 new
    over-lead answer same p ends =
        plain 0 ends p.left
        (λ m is. over-busy (Holds f b.stable x new.shelf.seq new.shelf.back p.left m) answer m
        (state-of (Over answer) (ap (λ (w : View). slice_get w.lanes at) same ∙ at-set v.lanes at (record { number = number; state = Busy after }) (record { number = number; state = Over answer }) there) m is))
        (let less = p.less in omega (arith, less)) (λ w. by (p.adds w))
      where
        by : (v.shelf.seq ≡ old.shelf.seq) ⊎ (p.left + 30 ≤ had) → (new.shelf.seq ≡ old.shelf.seq) ⊎ (p.left + 0 + 30 ≤ had)
        by (inl e) = inl (ap (λ (w : View). w.shelf.seq) same ∙ e)
        by (inr enough) = inr (omega (arith, enough))

    -- ---- the call is made

    module _ (call : Call) (k : Makes v number call new) (p : Post f b.stable x F op had old.shelf v.shelf (Send call) after) (fits : Asks (Send call) after) where
      shelf_is : new.shelf ≡ v.shelf
      shelf_is = ap (λ (w : View). w.shelf) k.is

      lanes_is : new.lanes ≡ v.lanes
      lanes_is = ap (λ (w : View). w.lanes) k.is

      same-seq : (n : ℕ) → (v.shelf.seq ≡ old.shelf.seq) ⊎ (n + 30 ≤ had) → (left fresh_ : ℕ) → left + fresh_ ≤ n → (new.shelf.seq ≡ old.shelf.seq) ⊎ (left + fresh_ + 30 ≤ had)
      same-seq n (inl e) left fresh_ less = inl (ap (λ (z : Shelf). z.seq) shelf_is ∙ e)
      same-seq n (inr enough) left fresh_ less = inr (omega (arith, enough, less))

      shelf-holds : (left : ℕ) → Holds f b.stable x v.shelf.seq v.shelf.back left after → (m : Machine) → s.state ≡ Busy m → Holds f b.stable x new.shelf.seq new.shelf.back left m
      shelf-holds left holds m is =
          subst (λ (z : Shelf). Holds f b.stable x z.seq z.back left m) (sym shelf_is) (held-on v.shelf.seq left v.shelf.back m (busy-state lanes_is m is) holds)

      -- as one that isn't counted anew
      made-plain : Ends f b.made held 0 new → Purse terms H f h2 new
      made-plain ends = plain 0 ends p.left (shelf-holds p.left p.holds) (let less = p.less in omega (arith, less)) (λ w. same-seq p.left (p.adds w) p.left 0 (omega arith))

      made-other : (IsCommitOf f call → ⊥) → pots f v b.made ≤ held → Purse terms H f h2 new
      made-other none enough = made-plain (ends-other f setup h2 v rows early b.made waiting number call new k none held enough)

      stable-by : IsCommitOf f call → (left : ℕ) → OwnLeft f left (role_of after) → StableOf terms H f (x, op)
      stable-by is left owns =
          let told_ = s.told_ after (state-is s.state (Busy after) number number (sym s.but.here ∙ ap (λ (ls : List Lane). slice_get ls at) lanes_is ∙ there)) in
          let o = all-own f left (told f (Unit {0}) (tale mt terms setup H V g roots asked f x op)) 0 new.shelf.back new.shelf.order after owns (asks-commits f (Send call) after call fits refl is)
          (told_.1 0 new.shelf.back new.shelf.order) in
          o.has.1 (keeper-own f b.stable x mt number after left owns op kind) (sym o.file)

      made-fresh : IsCommitOf f call → F v.shelf.repeats → pots f v b.made ≤ held → Purse terms H f h2 new
      made-fresh is first enough = by (p.made call refl is first)
        where
          ends : Ends f b.made held 1 new
          ends = ends-fresh f setup h2 v rows early b.made waiting number call new k held enough

          seq-same : (IsWriter op → v.shelf.seq ≡ old.shelf.seq) → (left : ℕ) → IsWriter op → (new.shelf.seq ≡ old.shelf.seq) ⊎ (left + 1 + 30 ≤ had)
          seq-same same left w = inl (ap (λ (z : Shelf). z.seq) shelf_is ∙ same w)

          seq-few : (v.shelf.seq ≡ old.shelf.seq) ⊎ (30 ≤ had) → (new.shelf.seq ≡ old.shelf.seq) ⊎ (30 ≤ had)
          seq-few (inl e) = inl (ap (λ (z : Shelf). z.seq) shelf_is ∙ e)
          seq-few (inr enough) = inr enough

          by : Paid f b.stable x op had old.shelf v.shelf (role_of after) → Purse terms H f h2 new
          by (pays left holds less same) = plain 1 ends left (shelf-holds left holds) less (seq-same same left)
          by (joins left off owns less same) =
              joins-end terms H f h h2 old new at number x op s.state t runs least most s.effect b 1 had more many_is had_is longer held held_is sents ends (stable-by is left owns) off own_low left
              (λ m at_. subst (λ (n : Machine). OwnLeft f left (role_of n)) (busy-state lanes_is m at_) owns) less (λ w. seq-few (same w))

      made-lead : Counts_ f b.made held v (Send call) (F v.shelf.repeats) → Purse terms H f h2 new
      made-lead c = by (test f call) refl
        where
          by : (d : Bool) → test f call ≡ d → Purse terms H f h2 new
          by false none = made-other (λ is. absurd (let no_way : false ≡ true = sym none ∙ test-complete f call is in cc)) (held-enough f b.made held v (Send call) (F v.shelf.repeats) c)
          by true found = with_it (test-sound f call found) c
            where
              with_it : IsCommitOf f call → Counts_ f b.made held v (Send call) (F v.shelf.repeats) → Purse terms H f h2 new
              with_it is (fresh first enough) = made-fresh is first enough
              with_it is (other none enough) = absurd (none call refl is)
              with_it is (again_ d one enough) = made-plain (ends-again f setup h2 v rows early b.made waiting number call new k held d one enough)

    -- ---- it can't be made

    module _ (call : Call) (r : Refuses v at number after new) (p : Post f b.stable x F op had old.shelf v.shelf (Send call) after) (awaits : AskedOf Calls (Send call) after) (some : 1 ≤ in_flight after)
        (enough : pots f v b.made ≤ held) where
      others-of : (others : ℕ) → others ≡ in_flight after - 1 → in_flight after ≡ others + 1
      others-of others same = let low = some in omega (arith, low, same)

      asks : Asks r.next r.after
      asks = all-takes v.wsize (unmade_turn v) (turn_at v) (Err r.fault) after v.shelf r.next r.after r.left (in_flight after - 1) (others-of (in_flight after - 1) refl) r.takes

      second : Post f b.stable x (NotAgain f (turn_at v) v.shelf.repeats) op p.left v.shelf r.left r.next r.after
      second = takes-post f b.stable x mt number op after kind v.wsize (turn_at v) (unmade_turn v) (Err r.fault) v.shelf r.next r.after r.left p.left some
          (posts.ends-unmade f v.wsize (turn_at v) (unmade_turn v) r.fault v.shelf after) p.holds asks r.takes

      table : (c : Bool) × (r.left.repeats ≡ answered c (next_xid v.calls) 0 v.shelf.repeats)
      table = unmade-table v after call r.fault (turn_at v) (unmade_turn v) r.next r.after r.left r.unmade some awaits r.takes

      ends : Ends f b.made held 0 new
      ends = calls.ends-unmade f v new b.made held (next_xid v.calls) 0 table.0 waiting (ap (λ (w : View). w.calls) r.is) (ap (λ (w : View). w.shelf.repeats) r.is ∙ table.1)
          (λ y in_ same. let low = waiting.below y in_ in omega (arith, low, same)) (λ y in_ same. let low = waiting.some y in_ in omega (arith, low, same)) enough

      its-state : (next : Step) → IsRefused r.after next r.state → Going next (Holds f b.stable x r.left.seq r.left.back second.left r.after) → (m : Machine) → r.state ≡ Busy m
          → Holds f b.stable x r.left.seq r.left.back second.left m
      its-state Wait i k m is = subst (Holds f b.stable x r.left.seq r.left.back second.left) (same-machine r.after m (sym i ∙ is)) k
      its-state (Done answer) i k m is = over-busy _ answer m (sym i ∙ is)
      its-state (Send its) i k m is = absurd i

      refused-lead : Purse terms H f h2 new
      refused-lead =
          plain 0 ends second.left
          (λ m is. subst (λ (w : View). Holds f b.stable x w.shelf.seq w.shelf.back second.left m) (sym r.is)
          (its-state r.next r.leads second.holds m
          (state-of r.state (ap (λ (w : View). slice_get w.lanes at) r.is ∙ at-set v.lanes at (record { number = number; state = Busy after }) (record { number = number; state = r.state }) there) m is)))
          (let less = second.less in let first = p.less in omega (arith, less, first)) (λ w. by (p.adds w) (second.adds w))
        where
          by : (v.shelf.seq ≡ old.shelf.seq) ⊎ (p.left + 30 ≤ had) → (r.left.seq ≡ v.shelf.seq) ⊎ (second.left + 30 ≤ p.left) → (new.shelf.seq ≡ old.shelf.seq) ⊎ (second.left + 0 + 30 ≤ had)
          by (inl one) (inl two) = inl (ap (λ (w : View). w.shelf.seq) r.is ∙ two ∙ one)
          by first (inr two) = inr (let less = p.less in omega (arith, two, less))
          by (inr one) (inl two) = inr (let less = second.less in omega (arith, one, less))

    pub lead : (next : Step) → Leads v at number after next new → Post f b.stable x F op had old.shelf v.shelf next after → Counts_ f b.made held v next (F v.shelf.repeats) → AskedOf Calls next after
        → Asks next after → ((call : Call) → next ≡ Send call → 1 ≤ in_flight after) → Purse terms H f h2 new
    lead (Send call) (inl k) p c awaits fits some = made-lead call k p fits c
    lead (Send call) (inr r) p c awaits fits some = refused-lead call r p awaits (some call refl) (held-enough f b.made held v (Send call) (F v.shelf.repeats) c)
    lead Wait same p c awaits fits some = wait-lead same p (ends-same f b.made held v waiting (held-enough f b.made held v Wait (F v.shelf.repeats) c))
    lead (Done answer) same p c awaits fits some =
        over-lead answer same p
        (subst (Ends f b.made held 0) (sym same) (over-ends (ends-same f b.made held v waiting (held-enough f b.made held v (Done answer) (F v.shelf.repeats) c))))
      where
        over-ends : Ends f b.made held 0 v → Ends f b.made held 0 (with_state v at number (Over answer) v.shelf)
        over-ends e = record {
          all = e.all;
          more = e.more;
          waiting = record { first = e.waiting.first; some = e.waiting.some; below = e.waiting.below; waits = e.waiting.waits };
          fits = e.fits;
        }
