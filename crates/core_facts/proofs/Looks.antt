-- What is told of the operation with a number, among the lanes.
use Rattle.core_facts.proofs.Prelude.{◌≡◌, ◌≢◌, ◌+◌, ℕ, zero, suc, List, [], ◌∷◌, ◌++◌, remove, Bool, true, false, nat_eq, Option, Some, None, slice_get, slice_set, refl, sym, ap, subst, ◌∙◌, arith, if◌then◌else◌, eqb-true, eqb-false, eq-eqb, ne_eqb, Lane, State, IsOther, numbers_of}
use Rattle.core_facts.specs.Lanes.{AreApart}
use Rattle.core_facts.proofs.Orders.{seat_with, seat-own, seat-other}

abbrev pub look_in : (State → Option (List ℕ)) → ℕ → List Lane → Option (List ℕ)
look_in f n [] = None
look_in f n (lane ∷ lanes) = if nat_eq lane.number n then f lane.state else look_in f n lanes

pub some-lane : (a b : Lane) → Some a ≡ Some b → b ≡ a
some-lane a b e = cc

tail-apart : (lane : Lane) (lanes : List Lane) → AreApart (lane ∷ lanes) → AreApart lanes
tail-apart lane lanes apart at other a b here there same = let next = apart (suc at) (suc other) a b here there same in omega (arith, next)

-- no other lane has the number of the first
head-apart : (lane : Lane) (lanes : List Lane) → AreApart (lane ∷ lanes) → (k : ℕ) (l : Lane) → slice_get lanes k ≡ Some l → l.number ≢ lane.number
head-apart lane lanes apart k l there same = let no_way = apart (suc k) zero l lane there refl same in absurd (omega (arith, no_way))

module _ (f : State → Option (List ℕ)) where
  pub head-same : (n : ℕ) (lane : Lane) (lanes : List Lane) → lane.number ≡ n → look_in f n (lane ∷ lanes) ≡ f lane.state
  head-same n lane lanes same = ap (λ (b : Bool). if b then f lane.state else look_in f n lanes) (eq-eqb lane.number n same)

  pub head-other : (n : ℕ) (lane : Lane) (lanes : List Lane) → lane.number ≢ n → look_in f n (lane ∷ lanes) ≡ look_in f n lanes
  head-other n lane lanes apart = ap (λ (b : Bool). if b then f lane.state else look_in f n lanes) (ne_eqb lane.number n apart)

  pub look-none : (n : ℕ) (lanes : List Lane) → ((k : ℕ) (l : Lane) → slice_get lanes k ≡ Some l → l.number ≢ n) → look_in f n lanes ≡ None
  look-none n [] none = refl
  look-none n (lane ∷ lanes) none = head-other n lane lanes (none zero lane refl) ∙ look-none n lanes (λ k l there. none (suc k) l there)

  pub look-idle : (n : ℕ) (lanes : List Lane) → IsOther n (numbers_of lanes) → look_in f n lanes ≡ None
  look-idle n [] other = refl
  look-idle n (lane ∷ lanes) other = head-other n lane lanes other.0 ∙ look-idle n lanes other.1

  pub look-at : (lanes : List Lane) (at number : ℕ) (state : State) → AreApart lanes → slice_get lanes at ≡ Some (record { number = number; state = state })
      → look_in f number lanes ≡ f state
  look-at [] at number state apart there = absurd (cc)
  look-at (lane ∷ lanes) zero number state apart there =
      let is = some-lane (record { number = number; state = state }) lane (sym there) in
      head-same number lane lanes (ap (λ (l : Lane). l.number) is) ∙ ap (λ (l : Lane). f l.state) is
  look-at (lane ∷ lanes) (suc at) number state apart there =
      head-other number lane lanes (λ same. head-apart lane lanes apart at (record { number = number; state = state }) there (sym same))
      ∙ look-at lanes at number state (tail-apart lane lanes apart) there

  -- a lane with another number before the place
  after-other : (n number : ℕ) (lane : Lane) (others lanes : List Lane) (own : Option (List ℕ)) → lane.number ≢ number
      → look_in f n others ≡ seat_with number own (λ m. look_in f m lanes) n
      → (b : Bool) → nat_eq n number ≡ b → look_in f n (lane ∷ others) ≡ seat_with number own (λ m. look_in f m (lane ∷ lanes)) n
  after-other n number lane others lanes own other rest true d =
      let same = eqb-true n number d in
      head-other n lane others (λ e. other (e ∙ same)) ∙ rest
      ∙ ap (λ (k : ℕ). seat_with number own (λ m. look_in f m lanes) k) same ∙ seat-own number own (λ m. look_in f m lanes)
      ∙ sym (ap (λ (k : ℕ). seat_with number own (λ m. look_in f m (lane ∷ lanes)) k) same ∙ seat-own number own (λ m. look_in f m (lane ∷ lanes)))
  after-other n number lane others lanes own other rest false d =
      let apart = eqb-false n number d in
      ap (λ (s : Option (List ℕ)). if nat_eq lane.number n then f lane.state else s) (rest ∙ seat-other number n own (λ m. look_in f m lanes) apart)
      ∙ sym (seat-other number n own (λ m. look_in f m (lane ∷ lanes)) apart)

  at-head : (n number : ℕ) (state : State) (others lanes : List Lane) → ((m : ℕ) → m ≢ number → look_in f m others ≡ look_in f m lanes)
      → (b : Bool) → nat_eq n number ≡ b → look_in f n (record { number = number; state = state } ∷ others) ≡ seat_with number (f state) (λ m. look_in f m lanes) n
  at-head n number state others lanes same_ true d =
      let same = eqb-true n number d in
      head-same n (record { number = number; state = state }) others (sym same)
      ∙ sym (ap (λ (k : ℕ). seat_with number (f state) (λ m. look_in f m lanes) k) same ∙ seat-own number (f state) (λ m. look_in f m lanes))
  at-head n number state others lanes same_ false d =
      let apart = eqb-false n number d in
      head-other n (record { number = number; state = state }) others (λ same. apart (sym same)) ∙ same_ n apart
      ∙ sym (seat-other number n (f state) (λ m. look_in f m lanes) apart)

  pub look-set : (n : ℕ) (lanes : List Lane) (at number : ℕ) (was state : State) → AreApart lanes
      → slice_get lanes at ≡ Some (record { number = number; state = was })
      → look_in f n (slice_set lanes at (record { number = number; state = state })) ≡ seat_with number (f state) (λ m. look_in f m lanes) n
  look-set n [] at number was state apart there = absurd (cc)
  look-set n (lane ∷ lanes) zero number was state apart there =
      at-head n number state lanes (lane ∷ lanes)
      (λ m other. sym (head-other m lane lanes
      (λ same. other (sym same ∙ ap (λ (l : Lane). l.number) (some-lane (record { number = number; state = was }) lane (sym there))))))
      (nat_eq n number) refl
  look-set n (lane ∷ lanes) (suc at) number was state apart there =
      after-other n number lane (slice_set lanes at (record { number = number; state = state })) lanes (f state)
      (λ same. head-apart lane lanes apart at (record { number = number; state = was }) there (sym same))
      (look-set n lanes at number was state (tail-apart lane lanes apart) there) (nat_eq n number) refl

  pub look-push : (n : ℕ) (lanes : List Lane) (number : ℕ) (state : State) → IsOther number (numbers_of lanes)
      → look_in f n (lanes ++ record { number = number; state = state } ∷ []) ≡ seat_with number (f state) (λ m. look_in f m lanes) n
  look-push n [] number state other = at-head n number state [] [] (λ m apart. refl) (nat_eq n number) refl
  look-push n (lane ∷ lanes) number state other =
      after-other n number lane (lanes ++ record { number = number; state = state } ∷ []) lanes (f state) other.0 (look-push n lanes number state other.1) (nat_eq n number) refl

  pub look-remove : (n : ℕ) (lanes : List Lane) (at : ℕ) (lane : Lane) → AreApart lanes → slice_get lanes at ≡ Some lane → f lane.state ≡ None
      → look_in f n (remove lanes at) ≡ look_in f n lanes
  look-remove n [] at lane apart there none = absurd (cc)
  look-remove n (l ∷ lanes) zero lane apart there none = by (nat_eq l.number n) refl
    where
      is : l ≡ lane
      is = some-lane lane l (sym there)

      by : (b : Bool) → nat_eq l.number n ≡ b → look_in f n lanes ≡ look_in f n (l ∷ lanes)
      by true d =
          let same = eqb-true l.number n d in
          look-none n lanes (λ k m here e. head-apart l lanes apart k m here (e ∙ sym same))
          ∙ sym (head-same n l lanes same ∙ ap (λ (x : Lane). f x.state) is ∙ none)
      by false d = sym (head-other n l lanes (eqb-false l.number n d))
  look-remove n (l ∷ lanes) (suc at) lane apart there none =
      ap (λ (s : Option (List ℕ)). if nat_eq l.number n then f l.state else s) (look-remove n lanes at lane (tail-apart l lanes apart) there none)

-- ---- a lane among the others

pub set-other : (lanes : List Lane) (at k : ℕ) (lane : Lane) → k ≢ at → slice_get (slice_set lanes at lane) k ≡ slice_get lanes k
set-other [] at k lane apart = refl
set-other (l ∷ lanes) zero zero lane apart = absurd (apart refl)
set-other (l ∷ lanes) zero (suc k) lane apart = refl
set-other (l ∷ lanes) (suc at) zero lane apart = refl
set-other (l ∷ lanes) (suc at) (suc k) lane apart = set-other lanes at k lane (λ same. apart (ap suc same))

-- a fact of the lane at a place, and of the others, is one of all
pub by-place : (Q : Lane → Type 0) (lanes : List Lane) (at : ℕ) (own : Lane) → slice_get lanes at ≡ Some own → Q own
    → ((k : ℕ) (lane : Lane) → slice_get lanes k ≡ Some lane → k ≢ at → Q lane) → (k : ℕ) (lane : Lane) → slice_get lanes k ≡ Some lane → Q lane
by-place Q lanes at own there q others k lane here = by (nat_eq k at) refl
  where
    by : (b : Bool) → nat_eq k at ≡ b → Q lane
    by true d = subst Q (sym (some-lane own lane (sym there ∙ ap (slice_get lanes) (sym (eqb-true k at d)) ∙ here))) q
    by false d = others k lane here (eqb-false k at d)
