-- Which lane's save of the file is under way, and how the lanes look to one of them that makes a step, and after it.
use Rattle.core_session.proofs.Prelude.{◌≡◌, ◌≢◌, ◌≤◌, ◌⊎◌, inl, inr, ℕ, Bool, true, false, nat_eq, List, Option, Some, None, slice_get, refl, sym, ap, subst, ◌∙◌, arith, eqb-true, eqb-false, Pending, HasNoPiece, same-or, LaneFile, is_first, Saving, Machine, Lane, State, Busy, Over, AreApart, look-at, seat_state, seat_in, IsUnderWay}
use Rattle.file_ops.specs.Saves as saves
use Rattle.core_session.proofs.syncs.AllJobs.{job_save}
use Rattle.core_session.proofs.syncs.Fates.{save-is}
use Rattle.core_session.proofs.syncs.Levels.{Owner, BesideSo, SaveSo, queued, elsewhere, under}

some-save : (a b : Saving) → Some a ≡ Some b → a ≡ b
some-save a b e = cc

module _ (f : List ℕ) where
  -- a save of the file waits for its turn
  abbrev pub Rested : ℕ → Machine → Type 0
  Rested q m = (s : Saving) → job_save m ≡ Some s → f ≡ s.file → (s ≡ saves.begun s.file s.upto) × (s.upto ≤ q)

  abbrev pub StateRested : ℕ → State → Type 0
  StateRested q (Busy m) = Rested q m
  StateRested q (Over answer) = Unit {0}

  rested-more : (q r : ℕ) → q ≤ r → (state : State) → StateRested q state → StateRested r state
  rested-more q r low (Busy m) s = λ save is here. ((s save is here).0, (let at = (s save is here).1 in omega (arith, low, at)))
  rested-more q r low (Over answer) s = tt

  -- none is under way, or that of one lane
  pub data Owned (lanes : List Lane) (q : ℕ) (b : Pending) (o : List LaneFile) : Type 0 where
    free : HasNoPiece f b → ((k : ℕ) (lane : Lane) → slice_get lanes k ≡ Some lane → StateRested q lane.state) → Owned lanes q b o
    taken : (at number : ℕ) (m : Machine) (s : Saving) → slice_get lanes at ≡ Some (record { number = number; state = Busy m }) → job_save m ≡ Some s → f ≡ s.file → IsUnderWay s b
        → is_first number o ≡ true → s.upto ≤ q → ((k : ℕ) (lane : Lane) → slice_get lanes k ≡ Some lane → k ≢ at → StateRested q lane.state) → Owned lanes q b o

  -- the other lanes, as seen from one
  pub record IsBeside (lanes : List Lane) (at number : ℕ) (base : ℕ → Option (List ℕ)) (w : Owner f number base) (q : ℕ) : Type 0 where
    pub place : ℕ
    pub machine : Machine
    pub apart : place ≢ at
    pub there : slice_get lanes place ≡ Some (record { number = w.n; state = Busy machine })
    pub holds : job_save machine ≡ Some w.s
    pub rest : (k : ℕ) (lane : Lane) → slice_get lanes k ≡ Some lane → k ≢ at → k ≢ place → StateRested q lane.state

  abbrev pub OthersSo : List Lane → (at number : ℕ) (base : ℕ → Option (List ℕ)) → Option (Owner f number base) → ℕ → Type 0
  OthersSo lanes at number base None q = (k : ℕ) (lane : Lane) → slice_get lanes k ≡ Some lane → k ≢ at → StateRested q lane.state
  OthersSo lanes at number base (Some w) q = IsBeside lanes at number base w q

  abbrev pub bases : List Lane → ℕ → Option (List ℕ)
  bases lanes n = seat_in n lanes

  -- What a lane at a place sees: its machine has this save, or none.
  pub record Sees (lanes : List Lane) (at number : ℕ) (save : Option Saving) (q : ℕ) (b : Pending) (o : List LaneFile) : Type 0 where
    pub owner : Option (Owner f number (bases lanes))
    pub others : OthersSo lanes at number (bases lanes) owner q
    pub beside : save ≡ None → BesideSo f number (bases lanes) owner q b o
    pub saves_ : (s : Saving) → save ≡ Some s → SaveSo f number (bases lanes) owner s q b o

  -- one that rests, beside others
  pub rests-so : (lanes : List Lane) (number : ℕ) (owner : Option (Owner f number (bases lanes))) (q : ℕ) (b : Pending) (o : List LaneFile) (save : Option Saving)
      → ((s : Saving) → save ≡ Some s → f ≡ s.file → (s ≡ saves.begun s.file s.upto) × (s.upto ≤ q)) → BesideSo f number (bases lanes) owner q b o
      → (s : Saving) → save ≡ Some s → SaveSo f number (bases lanes) owner s q b o
  rests-so lanes number owner q b o save rest beside s is = by (same-or s.file f)
    where
      by : (f ≡ s.file) ⊎ (f ≢ s.file) → SaveSo f number (bases lanes) owner s q b o
      by (inl here) = let r = rest s is here in queued r.0 r.1 beside
      by (inr apart) = elsewhere apart beside

  abbrev owner-of : (lanes : List Lane) (at number place n : ℕ) (m : Machine) (s : Saving) → AreApart lanes → slice_get lanes place ≡ Some (record { number = n; state = Busy m }) → n ≢ number
      → job_save m ≡ Some s → f ≡ s.file → Owner f number (bases lanes)
  owner-of lanes at number place n m s apart there other holds here = record {
    n = n;
    s = s;
    apart = other;
    seat = look-at seat_state lanes place n (Busy m) apart there ∙ (save-is m s holds).seat_is ∙ ap Some (sym here);
    file = sym here;
  }

  some-lane : (a b : Lane) → Some a ≡ Some b → a ≡ b
  some-lane a b e = cc

  busy-is : (a b : Machine) → Busy a ≡ Busy b → a ≡ b
  busy-is a b e = cc

  -- a lane that is busy
  pub sees : (lanes : List Lane) (at number : ℕ) (m : Machine) (q : ℕ) (b : Pending) (o : List LaneFile) → AreApart lanes → slice_get lanes at ≡ Some (record { number = number; state = Busy m })
      → Owned lanes q b o → Sees lanes at number (job_save m) q b o
  sees lanes at number m q b o apart here (free quiet rest) = record {
    owner = None;
    others = λ k lane there other. rest k lane there;
    beside = λ none. quiet;
    saves_ = rests-so lanes number None q b o (job_save m) (rest at (record { number = number; state = Busy m }) here) quiet;
  }
  sees lanes at number m q b o apart here (taken place n t s there holds file way first low rest) = by (nat_eq place at) refl
    where
      by : (c : Bool) → nat_eq place at ≡ c → Sees lanes at number (job_save m) q b o
      by true d =
          let is : place ≡ at = eqb-true place at d in
          let same : record { number = n; state = Busy t } ≡ record { number = number; state = Busy m } =
          some-lane (record { number = n; state = Busy t }) (record { number = number; state = Busy m }) (sym there ∙ ap (λ (k : ℕ). slice_get lanes k) is ∙ here) in
          let machine : t ≡ m = busy-is t m (ap (λ (l : Lane). l.state) same) in
          let own : job_save m ≡ Some s = ap job_save (sym machine) ∙ holds in
          record {
            owner = None;
            others = λ k lane at_k other. rest k lane at_k (λ e. other (e ∙ is));
            beside = λ none. absurd (let no_way : None ≡ Some s = sym none ∙ own in cc);
            saves_ = λ z is_z.
                subst (λ (y : Saving). SaveSo f number (bases lanes) None y q b o) (some-save s z (sym own ∙ is_z))
                (under file refl low (subst (λ (k : ℕ). is_first k o ≡ true) (ap (λ (l : Lane). l.number) same) first) way);
          }
      by false d =
          let other : place ≢ at = eqb-false place at d in
          let number_other : n ≢ number = (λ e. other (apart place at (record { number = n; state = Busy t }) (record { number = number; state = Busy m }) there here e)) in
          let w : Owner f number (bases lanes) = owner-of lanes at number place n t s apart there number_other holds file in
          let beside : BesideSo f number (bases lanes) (Some w) q b o = (way, first, low) in
          record {
            owner = Some w;
            others = record { place = place; machine = t; apart = other; there = there; holds = holds; rest = λ k lane at_k not_at not_place. rest k lane at_k not_place };
            beside = λ none. beside;
            saves_ = rests-so lanes number (Some w) q b o (job_save m) (rest at (record { number = number; state = Busy m }) here (λ e. other (sym e))) beside;
          }

  -- a lane that is still to come, at the end
  pub sees-new : (lanes : List Lane) (at number : ℕ) (q : ℕ) (b : Pending) (o : List LaneFile) → AreApart lanes → ((k : ℕ) (lane : Lane) → slice_get lanes k ≡ Some lane → (k ≢ at) × (lane.number ≢ number))
      → Owned lanes q b o → Sees lanes at number None q b o
  sees-new lanes at number q b o apart other (free quiet rest) = record {
    owner = None;
    others = λ k lane there not_at. rest k lane there;
    beside = λ none. quiet;
    saves_ = λ s is. absurd (cc);
  }
  sees-new lanes at number q b o apart other (taken place n t s there holds file way first low rest) =
      let w : Owner f number (bases lanes) = owner-of lanes at number place n t s apart there (other place (record { number = n; state = Busy t }) there).1 holds file in
      record {
        owner = Some w;
        others = record {
          place = place;
          machine = t;
          apart = (other place (record { number = n; state = Busy t }) there).0;
          there = there;
          holds = holds;
          rest = λ k lane at_k not_at not_place. rest k lane at_k not_place;
        };
        beside = λ none. (way, first, low);
        saves_ = λ s is. absurd (cc);
      }

  -- ---- after a step

  -- the lanes differ at a place alone
  pub record ButFor (lanes new : List Lane) (at : ℕ) (own : Lane) : Type 0 where
    pub here : slice_get new at ≡ Some own
    pub was : (k : ℕ) (lane : Lane) → slice_get new k ≡ Some lane → k ≢ at → slice_get lanes k ≡ Some lane
    pub stays : (k : ℕ) (lane : Lane) → slice_get lanes k ≡ Some lane → k ≢ at → slice_get new k ≡ Some lane

  -- The state that the lane came to: with a save that goes on, or with none.
  pub data Came (number : ℕ) (base : ℕ → Option (List ℕ)) (owner : Option (Owner f number base)) (q : ℕ) (b : Pending) (o : List LaneFile) (state : State) : Type 0 where
    bare : ((m : Machine) → state ≡ Busy m → job_save m ≡ None) → BesideSo f number base owner q b o → Came number base owner q b o state
    saving : (m : Machine) (s : Saving) → state ≡ Busy m → job_save m ≡ Some s → SaveSo f number base owner s q b o → Came number base owner q b o state

  module _ (lanes new : List Lane) (at number : ℕ) (base : ℕ → Option (List ℕ)) (state : State) (but : ButFor lanes new at (record { number = number; state = state })) (q r : ℕ) (more : q ≤ r) (b : Pending)
      (o : List LaneFile) where
    -- with its own at rest
    owned-rest : (owner : Option (Owner f number base)) → OthersSo lanes at number base owner q → BesideSo f number base owner r b o → StateRested r state → Owned new r b o
    owned-rest None others beside own = free beside rest
      where
        rest : (k : ℕ) (lane : Lane) → slice_get new k ≡ Some lane → StateRested r lane.state
        rest k lane there = by (nat_eq k at) refl
          where
            by : (c : Bool) → nat_eq k at ≡ c → StateRested r lane.state
            by true d =
                let is : k ≡ at = eqb-true k at d in
                let same : record { number = number; state = state } ≡ lane = some-lane (record { number = number; state = state }) lane (sym but.here ∙ ap (λ (n : ℕ). slice_get new n) (sym is) ∙ there) in
                subst (λ (l : Lane). StateRested r l.state) same own
            by false d = let apart = eqb-false k at d in rested-more q r more lane.state (others k lane (but.was k lane there apart) apart)
    owned-rest (Some w) others beside own =
        taken others.place w.n others.machine w.s (but.stays others.place (record { number = w.n; state = Busy others.machine }) others.there others.apart) others.holds (sym w.file) beside.0 beside.1 beside.2 rest
      where
        rest : (k : ℕ) (lane : Lane) → slice_get new k ≡ Some lane → k ≢ others.place → StateRested r lane.state
        rest k lane there not_place = by (nat_eq k at) refl
          where
            by : (c : Bool) → nat_eq k at ≡ c → StateRested r lane.state
            by true d =
                let is : k ≡ at = eqb-true k at d in
                let same : record { number = number; state = state } ≡ lane = some-lane (record { number = number; state = state }) lane (sym but.here ∙ ap (λ (n : ℕ). slice_get new n) (sym is) ∙ there) in
                subst (λ (l : Lane). StateRested r l.state) same own
            by false d = let apart = eqb-false k at d in rested-more q r more lane.state (others.rest k lane (but.was k lane there apart) apart not_place)

    bare-rests : (st : State) → ((m : Machine) → st ≡ Busy m → job_save m ≡ None) → StateRested r st
    bare-rests (Busy m) none = λ s is. absurd (let no_way : None ≡ Some s = sym (none m refl) ∙ is in cc)
    bare-rests (Over answer) none = tt

    pub owned : (owner : Option (Owner f number base)) → OthersSo lanes at number base owner q → Came number base owner r b o state → Owned new r b o
    owned owner others (bare none beside) = owned-rest owner others beside (bare-rests state none)
    owned owner others (saving m s is holds (queued begun low beside)) =
        owned-rest owner others beside (subst (StateRested r) (sym is) (λ z is_z here.
        subst (λ (y : Saving). (y ≡ saves.begun y.file y.upto) × (y.upto ≤ r)) (some-save s z (sym holds ∙ is_z)) (begun, low)))
    owned owner others (saving m s is holds (elsewhere apart beside)) =
        owned-rest owner others beside (subst (StateRested r) (sym is) (λ z is_z here. absurd (apart (here ∙ ap (λ (y : Saving). y.file) (some-save z s (sym is_z ∙ holds))))))
    owned owner others (saving m s is holds (under here alone low first way)) =
        taken at number m s (but.here ∙ ap (λ (st : State). Some (record { number = number; state = st })) is) holds here way first low
        (λ k lane there apart. rested-more q r more lane.state (alone-others owner alone others k lane (but.was k lane there apart) apart))
      where
        alone-others : (w : Option (Owner f number base)) → w ≡ None → OthersSo lanes at number base w q → (k : ℕ) (lane : Lane) → slice_get lanes k ≡ Some lane → k ≢ at → StateRested q lane.state
        alone-others None is others = others
        alone-others (Some x) is others = absurd (cc)
