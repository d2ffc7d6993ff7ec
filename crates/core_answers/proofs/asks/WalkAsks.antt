-- The LOOKUP for which a walk waits is one that its operation asks for.
use Rattle.core_answers.proofs.Prelude.{◌≡◌, ◌≤◌, ◌-◌, ℕ, zero, suc, Bool, true, false, List, [], ◌∷◌, ◌++◌, length, take, drop, slice_get, Contains, Option, Some, None, refl, sym, ap, ◌∙◌, arith, append_assoc, if◌then◌else◌, Entry, Call, Op, Asks, look_up, Rooted, Terms, Walk, IsNamed, front_of, last_of, of_name, of_walk, WalkAwaits, LeadsTo, leads-from, WalkLeads, front-last}
use Rattle.claims.specs.Asks.{found_by}
use Rattle.claims.specs.Asks as asks
use Rattle.world_model.specs.Leads.{Leads}
use Rattle.claims.specs.Paths.{paths_of}
use Rattle.name_ops.specs.Walking as walking

pub split-at : (xs : List (List ℕ)) (i : ℕ) (x : List ℕ) → slice_get xs i ≡ Some x → xs ≡ take i xs ++ x ∷ drop (suc i) xs
split-at [] i x at = absurd (cc)
split-at (y ∷ ys) zero x at = let same : y ≡ x = cc in ap (λ (z : List ℕ). z ∷ ys) same
split-at (y ∷ ys) (suc i) x at = ap (λ (zs : List (List ℕ)). y ∷ zs) (split-at ys i x at)

module _ (top : List ℕ) (h : List Entry) where
  -- the LOOKUP of a name of a path
  pub record Looks (path : List (List ℕ)) (call : Call) : Type 0 where
    pub at : ℕ
    pub name : List ℕ
    pub d : List ℕ
    pub there : slice_get path at ≡ Some name
    pub leads : LeadsTo top h (take at path) d
    pub is : call ≡ look_up d name

  pub walk-looks : (path : List (List ℕ)) (w : Walk) (call : Call) → WalkLeads top h path w → WalkAwaits w call → 1 ≤ of_walk w → Looks path call
  walk-looks path w call l e some = by (walking.waiting_name w) refl
    where
      then_name : (b : Bool) (name : List ℕ) → (if b then walking.next_name w else None) ≡ Some name → walking.next_name w ≡ Some name
      then_name true name is = is
      then_name false name is = absurd (cc)

      by : (o : Option (List ℕ)) → walking.waiting_name w ≡ o → Looks path call
      by None none = absurd (let zero_is : of_walk w ≡ 0 = ap of_name none in omega (arith, some, zero_is))
      by (Some name) is = record {
        at = length path - w.spot.left;
        name = name;
        d = w.spot.dir;
        there = ap (λ (p : List (List ℕ)). walking.name_at p w.spot.left) (sym l.path_is) ∙ then_name w.asked name is;
        leads = l.spot.leads;
        is = e name is;
      }

module _ (top : List ℕ) (terms : Terms) (before after : List Entry) (x y : ℕ) (op : Op) (there : length before ≡ y) (rooted : Rooted terms.origin (before ++ after) y top) where
  pub leads-on : (path : List (List ℕ)) (object : List ℕ) → LeadsTo top before path object → Leads terms.origin (before ++ after) y path object
  leads-on path object l = leads-from top terms.origin before after (length before) y path object (omega (arith, there)) rooted l

  -- along a path of the operation but for its last name
  pub front-asks : (path : List (List ℕ)) (call : Call) → IsNamed path → Contains (paths_of op) path → Looks top before (front_of path) call → Asks terms (before ++ after) x y op call
  front-asks path call named of k = by (drop (suc k.at) (front_of path)) refl
    where
      front : List (List ℕ)
      front = take k.at (front_of path)

      whole : path ≡ (front ++ k.name ∷ drop (suc k.at) (front_of path)) ++ last_of path ∷ []
      whole = front-last path named ∙ ap (λ (f : List (List ℕ)). f ++ last_of path ∷ []) (split-at (front_of path) k.at k.name k.there)

      apart : path ≡ front ++ k.name ∷ (drop (suc k.at) (front_of path) ++ last_of path ∷ [])
      apart = whole ∙ append_assoc front (k.name ∷ drop (suc k.at) (front_of path)) (last_of path ∷ [])

      by : (rest : List (List ℕ)) → drop (suc k.at) (front_of path) ≡ rest → Asks terms (before ++ after) x y op call
      by [] is = asks.walks path front [] k.name (last_of path) k.d of (apart ∙ ap (λ (r : List (List ℕ)). front ++ k.name ∷ (r ++ last_of path ∷ [])) is) (leads-on front k.d k.leads) k.is
      by (z ∷ zs) is = asks.walks path front (zs ++ last_of path ∷ []) k.name z k.d of
          (apart ∙ ap (λ (r : List (List ℕ)). front ++ k.name ∷ (r ++ last_of path ∷ [])) is) (leads-on front k.d k.leads) k.is

  -- along the whole of it, where the operation finds its object
  pub whole-asks : (path : List (List ℕ)) (call : Call) → Contains (paths_of op) path → Contains (found_by op) path → Looks top before path call → Asks terms (before ++ after) x y op call
  whole-asks path call of found k = by (drop (suc k.at) path) refl
    where
      front : List (List ℕ)
      front = take k.at path

      parts : path ≡ front ++ k.name ∷ drop (suc k.at) path
      parts = split-at path k.at k.name k.there

      by : (rest : List (List ℕ)) → drop (suc k.at) path ≡ rest → Asks terms (before ++ after) x y op call
      by [] is = asks.finds path k.d k.name found (record {
        earlier = front;
        is = parts ∙ ap (λ (r : List (List ℕ)). front ++ k.name ∷ r) is;
        leads = leads-on front k.d k.leads;
      }) k.is
      by (z ∷ zs) is = asks.walks path front zs k.name z k.d of (parts ∙ ap (λ (r : List (List ℕ)). front ++ k.name ∷ r) is) (leads-on front k.d k.leads) k.is
