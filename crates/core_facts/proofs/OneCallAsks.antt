-- For which call an operation of one call waits: for one that it asks for.
use Rattle.core_facts.proofs.Prelude.{◌≡◌, ◌≤◌, ◌+◌, ◌-◌, ℕ, zero, suc, Bool, true, false, List, [], ◌∷◌, ◌++◌, length, take, slice_get, Option, Some, None, refl, sym, ap, subst, ◌∙◌, arith, append_assoc, if◌then◌else◌, Entry, Call, Op, Rooted, Terms, Step, Pair, Visit, Walk, access_call, deed_call, link_call, text_call, rename_call, sym_link_call, Machine, IsNamed, front_of, last_of, of_walk, visit_by, of_visit, pair_by, of_pair, in_flight, Counts}
use Rattle.std.proofs.Common.{drop, Contains}
use Rattle.op_machines.specs.Begun.{IsAsked}
use Rattle.core_facts.specs.InFlight.{of_name}
use Rattle.world_model.specs.declared.op.Op.TheVariants as ops
use Rattle.claims.specs.Asks.{Asks, Acts, Opening, Stabilizes, IsWriter, found_by, look_up}
use Rattle.claims.specs.Asks as asks
use Rattle.claims.specs.Paths.{paths_of}
use Rattle.client_shelf.specs.declared.step.Step.TheVariants as nexts
use Rattle.name_ops.specs.declared.dir_change.DirDeed.TheVariants as deeds
use Rattle.name_ops.specs.Walking as walking
use Rattle.core_facts.specs.Naming.{IsOneCall}
use Rattle.core_facts.proofs.AllAwaited.{Awaits}
use Rattle.core_facts.proofs.Awaited.{WalkAwaits, OwnOr, PairOr}
use Rattle.core_facts.proofs.Leading.{LeadsTo, leads-from, WalkLeads}
use Rattle.core_facts.proofs.OneCalls.{VisitStory, PairStory}
use Rattle.core_facts.proofs.OneCallStory.{given, Runs, front-last, place-from, acts-from, act-dir, act-pair, place}
use Rattle.core_facts.proofs.Steps.{AskedOf, ThenOf}
use Rattle.core_facts.proofs.Telling.{AsksFor}

-- ---- lists

split-at : (xs : List (List ℕ)) (i : ℕ) (x : List ℕ) → slice_get xs i ≡ Some x → xs ≡ take i xs ++ x ∷ drop (suc i) xs
split-at [] i x at = absurd (cc)
split-at (y ∷ ys) zero x at = let same : y ≡ x = cc in ap (λ (z : List ℕ). z ∷ ys) same
split-at (y ∷ ys) (suc i) x at = ap (λ (zs : List (List ℕ)). y ∷ zs) (split-at ys i x at)

module _ (top : List ℕ) (terms : Terms) (h : List Entry) (x : ℕ) where
  abbrev pub AsksNow : Op → Call → Type 0
  AsksNow op call = Asks (given top terms) h x (length h) op call

  -- ---- the LOOKUPs of a walk

  -- the name that the walk waits for, and the directory in which it looks for it
  pub record LooksFor (path : List (List ℕ)) (call : Call) : Type 0 where
    pub at : ℕ
    pub name : List ℕ
    pub d : List ℕ
    pub there : slice_get path at ≡ Some name
    pub leads : LeadsTo top h (take at path) d
    pub is : call ≡ look_up d name

  walk-looks : (path : List (List ℕ)) (w : Walk) (call : Call) → WalkLeads top h path w → WalkAwaits w call → 1 ≤ of_walk w → LooksFor path call
  walk-looks path w call l e some = by (walking.waiting_name w) refl
    where
      next : (b : Bool) (name : List ℕ) → (if b then walking.next_name w else None) ≡ Some name → walking.next_name w ≡ Some name
      next true name is = is
      next false name is = absurd (cc)

      by : (o : Option (List ℕ)) → walking.waiting_name w ≡ o → LooksFor path call
      by None none = absurd (let zero_is : of_walk w ≡ 0 = ap of_name none in omega (arith, some, zero_is))
      by (Some name) is = record {
        at = length path - w.spot.left;
        name = name;
        d = w.spot.dir;
        there = ap (λ (p : List (List ℕ)). walking.name_at p w.spot.left) (sym l.path_is) ∙ next w.asked name is;
        leads = l.spot.leads;
        is = e name is;
      }

  -- along the whole of a path of which the object is found
  look-whole : (op : Op) (path : List (List ℕ)) (call : Call) → Contains (paths_of op) path → Contains (found_by op) path → LooksFor path call → AsksNow op call
  look-whole op path call walked found k = by (drop (suc k.at) path) refl
    where
      by : (rest : List (List ℕ)) → drop (suc k.at) path ≡ rest → AsksNow op call
      by [] is = asks.finds path k.d k.name found (record {
        earlier = take k.at path;
        is = split-at path k.at k.name k.there ∙ ap (λ (r : List (List ℕ)). take k.at path ++ k.name ∷ r) is;
        leads = k.leads;
      }) k.is
      by (y ∷ ys) is = asks.walks path (take k.at path) ys k.name y k.d walked
          (split-at path k.at k.name k.there ∙ ap (λ (r : List (List ℕ)). take k.at path ++ k.name ∷ r) is) k.leads k.is

  -- along the front of a path
  look-front : (op : Op) (path : List (List ℕ)) (call : Call) → IsNamed path → Contains (paths_of op) path → LooksFor (front_of path) call → AsksNow op call
  look-front op path call named walked k = by (drop (suc k.at) (front_of path)) refl
    where
      whole : path ≡ (take k.at (front_of path) ++ k.name ∷ drop (suc k.at) (front_of path)) ++ last_of path ∷ []
      whole = front-last path named ∙ ap (λ (f : List (List ℕ)). f ++ last_of path ∷ []) (split-at (front_of path) k.at k.name k.there)

      apart : path ≡ take k.at (front_of path) ++ k.name ∷ (drop (suc k.at) (front_of path) ++ last_of path ∷ [])
      apart = whole ∙ append_assoc (take k.at (front_of path)) (k.name ∷ drop (suc k.at) (front_of path)) (last_of path ∷ [])

      by : (rest : List (List ℕ)) → drop (suc k.at) (front_of path) ≡ rest → AsksNow op call
      by [] is = asks.walks path (take k.at (front_of path)) [] k.name (last_of path) k.d walked
          (apart ∙ ap (λ (r : List (List ℕ)). take k.at (front_of path) ++ k.name ∷ (r ++ last_of path ∷ [])) is) k.leads k.is
      by (y ∷ ys) is = asks.walks path (take k.at (front_of path)) (ys ++ last_of path ∷ []) k.name y k.d walked
          (apart ∙ ap (λ (r : List (List ℕ)). take k.at (front_of path) ++ k.name ∷ (r ++ last_of path ∷ [])) is) k.leads k.is

  -- ---- a visit and a pair of walks

  visit-asks : (op : Op) (path : List (List ℕ)) (call : Call) (own : List ℕ → Call) (v : Visit) → VisitStory top h path v → OwnOr v.asked own v.walk call → 1 ≤ of_visit v
      → ((d : List ℕ) → LeadsTo top h path d → Acts (given top terms) h x (length h) op (own d)) → (LooksFor path call → AsksNow op call) → AsksNow op call
  visit-asks op path call own v s e some acts looks = by v.asked refl
    where
      by : (b : Bool) → v.asked ≡ b → AsksNow op call
      by true is = asks.acts (act-dir top terms h x op path call own v s is e acts)
      by false is = looks (walk-looks path v.walk call s.walk (subst (λ (b : Bool). OwnOr b own v.walk call) is e)
          (let same : of_visit v ≡ of_walk v.walk = ap (λ (b : Bool). visit_by b (of_walk v.walk)) is in omega (arith, some, same)))

  pair-asks : (op : Op) (first second : List (List ℕ)) (call : Call) (own : List ℕ → List ℕ → Call) (p : Pair) → PairStory top h first second p
      → PairOr p.asked p.first.asked own p call → 1 ≤ of_pair p
      → ((c d : List ℕ) → LeadsTo top h first c → LeadsTo top h second d → Acts (given top terms) h x (length h) op (own c d))
      → (LooksFor first call → AsksNow op call) → (LooksFor second call → AsksNow op call) → AsksNow op call
  pair-asks op first second call own p s e some acts one two = by p.asked p.first.asked p.second.asked refl refl refl
    where
      count : Bool → Bool → Bool → ℕ
      count a b c = pair_by a b c (of_walk p.first) (of_walk p.second)

      by : (a b c : Bool) → p.asked ≡ a → p.first.asked ≡ b → p.second.asked ≡ c → AsksNow op call
      by true b c is at to = asks.acts (act-pair top terms h x op first second call own p s is e acts)
      by false true true is at to =
          absurd (let no_way = s.alone at in let both : true ≡ false = sym to ∙ no_way in cc)
      by false true false is at to = one (walk-looks first p.first call s.one (subst (λ (b : Bool). PairOr false b own p call) at (subst (λ (a : Bool). PairOr a p.first.asked own p call) is e))
          (let same : of_pair p ≡ of_walk p.first =
          ap (λ (a : Bool). count a p.first.asked p.second.asked) is ∙ ap (λ (b : Bool). count false b p.second.asked) at ∙ ap (λ (c : Bool). count false true c) to in
          omega (arith, some, same)))
      by false false c is at to = two (walk-looks second p.second call s.two (subst (λ (b : Bool). PairOr false b own p call) at (subst (λ (a : Bool). PairOr a p.first.asked own p call) is e))
          (let same : of_pair p ≡ of_walk p.second = ap (λ (a : Bool). count a p.first.asked p.second.asked) is ∙ ap (λ (b : Bool). count false b p.second.asked) at in
          omega (arith, some, same)))

  -- ---- any of these operations

  pub asked-by : (op : Op) (new : Machine) (call : Call) → IsOneCall op → IsAsked op → Runs top terms h op new → Awaits new call → 1 ≤ in_flight new → AsksNow op call
  asked-by (ops.Access path bits) new call one named k e some =
      visit-asks (ops.Access path bits) path call (access_call bits) k.visit k.story (subst (λ (n : Machine). Awaits n call) k.is e) (subst (λ (n : Machine). 1 ≤ in_flight n) k.is some)
      (λ d l. asks.accesses path bits d refl l refl) (look-whole (ops.Access path bits) path call (0, omega arith, refl) (0, omega arith, refl))
  asked-by (ops.ReadLink path) new call one named k e some =
      visit-asks (ops.ReadLink path) path call text_call k.visit k.story (subst (λ (n : Machine). Awaits n call) k.is e) (subst (λ (n : Machine). 1 ≤ in_flight n) k.is some)
      (λ d l. asks.reads_link path d refl l refl) (look-whole (ops.ReadLink path) path call (0, omega arith, refl) (0, omega arith, refl))
  asked-by (ops.MakeDir path) new call one named k e some =
      visit-asks (ops.MakeDir path) (front_of path) call (deed_call deeds.Make (last_of path)) k.visit k.story (subst (λ (n : Machine). Awaits n call) k.is e)
      (subst (λ (n : Machine). 1 ≤ in_flight n) k.is some) (λ d l. asks.makes_dir path d (last_of path) refl (place top terms h x path d named l) refl)
      (look-front (ops.MakeDir path) path call named (0, omega arith, refl))
  asked-by (ops.RemoveDir path) new call one named k e some =
      visit-asks (ops.RemoveDir path) (front_of path) call (deed_call deeds.Remove (last_of path)) k.visit k.story (subst (λ (n : Machine). Awaits n call) k.is e)
      (subst (λ (n : Machine). 1 ≤ in_flight n) k.is some) (λ d l. asks.removes_dir path d (last_of path) refl (place top terms h x path d named l) refl)
      (look-front (ops.RemoveDir path) path call named (0, omega arith, refl))
  asked-by (ops.SymLink path target) new call one named k e some =
      visit-asks (ops.SymLink path target) (front_of path) call (sym_link_call (last_of path) target) k.visit k.story (subst (λ (n : Machine). Awaits n call) k.is e)
      (subst (λ (n : Machine). 1 ≤ in_flight n) k.is some) (λ d l. asks.makes_link path target d (last_of path) refl (place top terms h x path d named.0 l) refl)
      (look-front (ops.SymLink path target) path call named.0 (0, omega arith, refl))
  asked-by (ops.Rename from to) new call one named k e some =
      pair-asks (ops.Rename from to) (front_of from) (front_of to) call (rename_call (last_of from) (last_of to)) k.pair k.story (subst (λ (n : Machine). Awaits n call) k.is e)
      (subst (λ (n : Machine). 1 ≤ in_flight n) k.is some)
      (λ c d l r. asks.renames from to c (last_of from) d (last_of to) refl (place top terms h x from c named.0 l) (place top terms h x to d named.1 r) refl)
      (look-front (ops.Rename from to) from call named.0 (0, omega arith, refl)) (look-front (ops.Rename from to) to call named.1 (1, omega arith, refl))
  asked-by (ops.Link from to) new call one named k e some =
      pair-asks (ops.Link from to) from (front_of to) call (link_call (last_of to)) k.pair k.story (subst (λ (n : Machine). Awaits n call) k.is e)
      (subst (λ (n : Machine). 1 ≤ in_flight n) k.is some)
      (λ c d l r. asks.links from to c d (last_of to) refl l (place top terms h x to d named r) refl)
      (look-whole (ops.Link from to) from call (0, omega arith, refl) (0, omega arith, refl)) (look-front (ops.Link from to) to call named (1, omega arith, refl))
  asked-by op new call one named k e some = absurd one

  -- a step that asks for a call
  pub asks-new : (op : Op) (next : Step) (before : ℕ) (new : Machine) → IsOneCall op → IsAsked op → ThenOf (Runs top terms h op) (λ a. Unit {0}) next new → AskedOf Awaits next new
      → Counts next before new → AsksFor (AsksNow op) next
  asks-new op (nexts.Send call) before new one named k e c = asked-by op new call one named k e (let more = c.0 in omega (arith, more))
  asks-new op nexts.Wait before new one named k e c = tt
  asks-new op (nexts.Done answer) before new one named k e c = tt

-- ---- a longer history

module _ (top : List ℕ) (terms : Terms) where
  none-of : (op to : Op) → (IsOneCall to → ⊥) → IsOneCall op → op ≡ to → ⊥
  none-of op to not one is = not (subst IsOneCall is one)

  no-opening : (op : Op) (path : List (List ℕ)) → IsOneCall op → Opening op path → ⊥
  no-opening op path one (asks.opens slot mode is) = none-of op (ops.OpenFile slot mode path) (λ k. k) one is
  no-opening op path one (asks.put offset bytes is) = none-of op (ops.Put path offset bytes) (λ k. k) one is

  no-writer : (op : Op) → IsOneCall op → IsWriter op → ⊥
  no-writer op one (asks.write slot offset bytes is) = none-of op (ops.Write slot offset bytes) (λ k. k) one is
  no-writer op one (asks.fill slot offset count byte is) = none-of op (ops.Fill slot offset count byte) (λ k. k) one is
  no-writer op one (asks.put path offset bytes is) = none-of op (ops.Put path offset bytes) (λ k. k) one is

  no-save : (t : Terms) (h : List Entry) (x n : ℕ) (op : Op) (f : List ℕ) → IsOneCall op → Stabilizes t h x n op f → ⊥
  no-save t h x n op f one (asks.sync slot is of) = none-of op (ops.Sync slot) (λ k. k) one is
  no-save t h x n op f one (asks.close slot is of) = none-of op (ops.Close slot) (λ k. k) one is
  no-save t h x n op f one (asks.put path offset bytes is l) = none-of op (ops.Put path offset bytes) (λ k. k) one is

  pub asks-from : (h more : List Entry) (x n m : ℕ) (op : Op) (call : Call) → IsOneCall op → n ≤ m → Rooted terms.origin (h ++ more) m top → Asks (given top terms) h x n op call
      → Asks terms (h ++ more) x m op call
  asks-from h more x n m op call one wide rooted (asks.walks path earlier later name next d of is l to) =
      asks.walks path earlier later name next d of is (leads-from top terms.origin h more n m earlier d wide rooted l) to
  asks-from h more x n m op call one wide rooted (asks.finds path d name of p to) = asks.finds path d name of (place-from top terms.origin h more n m path d name wide rooted p) to
  asks-from h more x n m op call one wide rooted (asks.looks_for_hidden path d last name is p hidden to) = absurd (none-of op (ops.Remove path) (λ k. k) one is)
  asks-from h more x n m op call one wide rooted (asks.creates slot path d name is p to) = absurd (none-of op (ops.OpenFile slot _ path) (λ k. k) one is)
  asks-from h more x n m op call one wide rooted (asks.creates_after slot path d name reply is p a s to) = absurd (none-of op (ops.OpenFile slot _ path) (λ k. k) one is)
  asks-from h more x n m op call one wide rooted (asks.opens path f o l to) = absurd (no-opening op path one o)
  asks-from h more x n m op call one wide rooted (asks.opens_made slot mode path d name f making attr wcc is p mk a to) = absurd (none-of op (ops.OpenFile slot mode path) (λ k. k) one is)
  asks-from h more x n m op call one wide rooted (asks.shows path f is l to) = absurd (none-of op (ops.Stat path) (λ k. k) one is)
  asks-from h more x n m op call one wide rooted (asks.reads slot offset count at size f is of p to) = absurd (none-of op (ops.Read slot offset count) (λ k. k) one is)
  asks-from h more x n m op call one wide rooted (asks.asks_anew slot offset count f is noac of to) = absurd (none-of op (ops.Read slot offset count) (λ k. k) one is)
  asks-from h more x n m op call one wide rooted (asks.writes f bytes at how s to) = absurd (no-save _ h x n op f one s)
  asks-from h more x n m op call one wide rooted (asks.commits f s to) = absurd (no-save _ h x n op f one s)
  asks-from h more x n m op call one wide rooted (asks.writes_for_room f bytes at how w had needs to) = absurd (no-writer op one w)
  asks-from h more x n m op call one wide rooted (asks.commits_for_room f w had needs to) = absurd (no-writer op one w)
  asks-from h more x n m op call one wide rooted (asks.removes_hidden r) = absurd (none-of op (ops.Close r.slot) (λ k. k) one r.is)
  asks-from h more x n m op call one wide rooted (asks.lists path d rows cookie verf is l c to) = absurd (none-of op (ops.List path) (λ k. k) one is)
  asks-from h more x n m op call one wide rooted (asks.acts a) = asks.acts (acts-from top terms h more x n m op call one wide rooted a)
