-- A session that can't dial: the core follows its history into the loss, and an operation that begins then is answered so.
use Rattle.core_facts.proofs.Prelude.{◌≡◌, ℕ, suc, List, [], ◌∷◌, ◌++◌, Some, inr, false, refl, sym, ◌∙◌, subst, arith, Refused, Entry, Began, Answered, Dialed, Failed, Clock, Op, At, Shelf, Machine, Over, Setup, IsFresh, lost, counted, View, MaySetUp, IsSetUp, Reaches, begins, goes, loses}
use Rattle.std.specs.FinMap as map
use Rattle.attr_cache.specs.Attrs.{nothing_learnt}
use Rattle.page_cache.specs.Sound.{IsSound}
use Rattle.world_model.specs.declared.answer.Fault.TheVariants as faults
use Rattle.world_model.specs.declared.op.Op.TheVariants.{Sync}
use Rattle.world_model.specs.Lost.{FailedDial, IsTraffic, sent, came, dialed, Loses, undialed}
use Rattle.op_machines.specs.Fits.{Fits}

-- ---- the core at first

abbrev pub first_shelf : Setup → Shelf
first_shelf setup = record {
  pages = setup.pages;
  attrs = nothing_learnt setup.lives;
  names = [];
  back = [];
  opens = map.empty;
  silly = map.empty;
  order = [];
  puts = [];
  repeats = [];
  seq = 0;
  counter = 0;
}

abbrev pub first_view : Setup → View
first_view setup = record {
  calls = record { first_xid = setup.first_xid; limit = setup.limit; cred = setup.cred; made = 0; calls = [] };
  shelf = first_shelf setup;
  lanes = [];
  wsize = setup.wsize;
  clock = 0;
  moments = 0;
  begun = 0;
  lost = false;
}

first_is_fresh : (setup : Setup) → IsSound setup.pages → IsFresh setup (first_view setup)
first_is_fresh setup sound = record {
  calls = refl;
  lanes = refl;
  wsize = refl;
  clock = refl;
  moments = refl;
  begun = refl;
  lost = refl;
  pages = refl;
  sound = sound;
  attrs = refl;
  names = refl;
  back = refl;
  opens = refl;
  silly = refl;
  order = refl;
  puts = refl;
  repeats = refl;
  seq = refl;
  counter = refl;
}

nothing_set_up : (setup : Setup) → IsSetUp setup []
nothing_set_up setup = record {
  unmarked = λ lane. refl;
  unbegun = λ i lane line op at. absurd (cc);
  numbered = record { equal = λ i j xid a b at. absurd (cc); unrepeated = λ g i xid reply bytes answers. absurd (cc answers.got) };
  below = λ i xid bytes at. absurd (cc);
}

-- ---- four dials

abbrev pub four_dials : List Entry
four_dials = Dialed 2049 ∷ Failed ∷ Dialed 2049 ∷ Failed ∷ Dialed 2049 ∷ Failed ∷ Dialed 2049 ∷ Failed ∷ []

not_traffic : (entry : Entry) → Failed ≡ entry → IsTraffic entry → ⊥
not_traffic entry is (sent bytes e) = cc
not_traffic entry is (came bytes e) = cc
not_traffic entry is (dialed port e) = cc

some_entry : (a b : Entry) → Some a ≡ Some b → a ≡ b
some_entry a b e = cc

-- the dial at a place, which the next entry says to have failed
fails : (at : ℕ) → At four_dials at (Dialed 2049) → At four_dials (suc at) Failed → FailedDial four_dials at (suc (suc at))
fails at dial failure = record {
  port = 2049;
  failed = suc at;
  dialed = dial;
  is = failure;
  after = omega arith;
  before = omega arith;
  quiet = λ j entry there after before traffic.
      let here : j ≡ suc at = omega (arith, after, before) in
      not_traffic entry (some_entry Failed entry (sym failure ∙ subst (λ (n : ℕ). At four_dials n entry) here there)) traffic;
}

dials_lose : Loses four_dials 8
dials_lose = undialed 0 2 4 6 (fails 0 refl refl) (fails 2 refl refl) (fails 4 refl refl) (fails 6 refl refl)

module _ (machine_of : ℕ → Op → Machine) (setup : Setup) (may : MaySetUp setup) (sound : IsSound setup.pages) where
  dial : (h : List Entry) (v : View) → Reaches machine_of setup h v → Reaches machine_of setup (h ++ Dialed 2049 ∷ []) v
  dial h v r = goes (h ++ Dialed 2049 ∷ []) h v v (Dialed 2049) r refl refl

  fail : (h : List Entry) (v : View) → Reaches machine_of setup h v → Reaches machine_of setup (h ++ Failed ∷ []) v
  fail h v r = goes (h ++ Failed ∷ []) h v v Failed r refl (inr refl)

  twice : (h : List Entry) → Reaches machine_of setup h (first_view setup) → Reaches machine_of setup ((h ++ Dialed 2049 ∷ []) ++ Failed ∷ []) (first_view setup)
  twice h r = fail (h ++ Dialed 2049 ∷ []) (first_view setup) (dial h (first_view setup) r)

  dialed_in_vain : Reaches machine_of setup four_dials (first_view setup)
  dialed_in_vain =
      let first : Reaches machine_of setup [] (first_view setup) = begins [] (first_view setup) may (nothing_set_up setup) (first_is_fresh setup sound) in
      twice (Dialed 2049 ∷ Failed ∷ Dialed 2049 ∷ Failed ∷ Dialed 2049 ∷ Failed ∷ []) (twice (Dialed 2049 ∷ Failed ∷ Dialed 2049 ∷ Failed ∷ []) (twice (Dialed 2049 ∷ Failed ∷ []) (twice [] first)))

  lost_core : Reaches machine_of setup four_dials (lost (first_view setup))
  lost_core = loses four_dials (lost (first_view setup)) (first_view setup) dialed_in_vain dials_lose refl

  -- what the lanes are, then, of an operation that begins
  abbrev pub began_lost : View
  began_lost = record (counted (lost (first_view setup)) 7) { lanes = record { number = 1; state = Over (Refused faults.Lost) } ∷ [] }

  -- the clock is read, an operation begins, and it is answered lost
  pub runs_to_a_loss : Fits (machine_of 1 (Sync 3))
      → Reaches machine_of setup (four_dials ++ Clock 7 ∷ Began 1 1 (Sync 3) ∷ Answered 1 1 (Refused faults.Lost) ∷ []) (record (counted (lost (first_view setup)) 7) { lanes = [] })
  runs_to_a_loss fits =
      let read : Reaches machine_of setup (four_dials ++ Clock 7 ∷ []) (lost (first_view setup)) = goes (four_dials ++ Clock 7 ∷ []) four_dials (lost (first_view setup)) (lost (first_view setup)) (Clock 7) lost_core refl refl in
      let began : Reaches machine_of setup (four_dials ++ Clock 7 ∷ Began 1 1 (Sync 3) ∷ []) began_lost = goes (four_dials ++ Clock 7 ∷ Began 1 1 (Sync 3) ∷ []) (four_dials ++ Clock 7 ∷ []) began_lost (lost (first_view setup)) (Began 1 1 (Sync 3)) read refl (record {
        idle = record { least = omega arith; most = omega arith; other = tt };
        few = omega arith;
        fits = fits;
        step = refl;
      }) in
      goes (four_dials ++ Clock 7 ∷ Began 1 1 (Sync 3) ∷ Answered 1 1 (Refused faults.Lost) ∷ []) (four_dials ++ Clock 7 ∷ Began 1 1 (Sync 3) ∷ []) (record began_lost { lanes = [] }) began_lost
      (Answered 1 1 (Refused faults.Lost)) began refl (record {
        line_is = record { op = Sync 3; before = []; is = refl };
        answers = record { answer = Refused faults.Lost; there = refl; gives = refl; is = refl };
      })
