-- The lines of a script, lane after lane: those of each lane are all of the script's, in their order.
use Rattle.std.proofs.Common.{◌≡◌, ◌≢◌, ◌≤◌, ◌<◌, ◌+◌, ◌⊎◌, inl, inr, Bool, true, false, cond, nat_eq, ℕ, zero, suc, List, [], ◌∷◌, ◌++◌, take, drop, All, slice_get, Some, refl, sym, ap, subst, ◌∙◌, arith, append-nil, append_assoc}
use Rattle.std.proofs.lemmas.Bool.{eqb-true, eqb-false, cases_lt}
use Rattle.std.proofs.lemmas.List.{take-append-drop}
use Rattle.world_model.specs.declared.entry.Entry.{Entry}
use Rattle.world_model.specs.declared.entry.Entry.TheVariants.{Began}
use Rattle.world_model.specs.Follows.{begun}
use Rattle.nfs_script.specs.declared.script.ScriptLine.{ScriptLine}
use Rattle.nfs_script.specs.Asked.{IsAskedLine}
use Rattle.lane_session.specs.Endings.{entries_of}
use Rattle.lane_session.specs.Losing.{of_lane, by_lanes}
use Rattle.lane_session.proofs.Ending.{which, none-out}
use Rattle.lane_session.proofs.LostLaws.{entries-both, SameLanes}
use Rattle.lane_session.proofs.Placing.{begun-other}
use Rattle.lane_session.proofs.Pushes.{begun-append}

-- ---- the lines of one lane

of-more : (lane : ℕ) (l : ScriptLine) (ls : List ScriptLine) (b : Bool) → nat_eq l.lane lane ≡ b → of_lane lane (l ∷ ls) ≡ cond b (l ∷ of_lane lane ls) (of_lane lane ls)
of-more lane l ls b e = ap (λ (t : Bool). cond t (l ∷ of_lane lane ls) (of_lane lane ls)) e

of-both : (lane : ℕ) (a b : List ScriptLine) → of_lane lane (a ++ b) ≡ of_lane lane a ++ of_lane lane b
of-both lane [] b = refl
of-both lane (l ∷ ls) b = by (nat_eq l.lane lane) refl (of-both lane ls b)
  where
    by : (t : Bool) → nat_eq l.lane lane ≡ t → of_lane lane (ls ++ b) ≡ of_lane lane ls ++ of_lane lane b → of_lane lane (l ∷ (ls ++ b)) ≡ of_lane lane (l ∷ ls) ++ of_lane lane b
    by true e rest =
        of-more lane l (ls ++ b) true e ∙ ap (λ (s : List ScriptLine). l ∷ s) rest ∙ ap (λ (s : List ScriptLine). s ++ of_lane lane b) (sym (of-more lane l ls true e))
    by false e rest = of-more lane l (ls ++ b) false e ∙ rest ∙ ap (λ (s : List ScriptLine). s ++ of_lane lane b) (sym (of-more lane l ls false e))

-- the line at a place
one-at : (script : List ScriptLine) (n : ℕ) (l : ScriptLine) → slice_get script n ≡ Some l → take 1 (drop n script) ≡ l ∷ []
one-at [] n l there = absurd (cc)
one-at (x ∷ xs) zero l there = let is : x ≡ l = cc in ap (λ (z : ScriptLine). z ∷ []) is
one-at (x ∷ xs) (suc n) l there = one-at xs n l there

pub of-own : (lane : ℕ) (script : List ScriptLine) (n : ℕ) (l : ScriptLine) → slice_get script n ≡ Some l → nat_eq l.lane lane ≡ true → of_lane lane (take 1 (drop n script)) ≡ l ∷ []
of-own lane script n l there own = ap (of_lane lane) (one-at script n l there) ∙ of-more lane l [] true own

pub of-other : (lane : ℕ) (script : List ScriptLine) (n : ℕ) (l : ScriptLine) → slice_get script n ≡ Some l → nat_eq l.lane lane ≡ false → of_lane lane (take 1 (drop n script)) ≡ []
of-other lane script n l there other = ap (of_lane lane) (one-at script n l there) ∙ of-more lane l [] false other

take-one : (script : List ScriptLine) (n : ℕ) → take (suc n) script ≡ take n script ++ take 1 (drop n script)
take-one [] zero = refl
take-one [] (suc n) = refl
take-one (x ∷ xs) zero = refl
take-one (x ∷ xs) (suc n) = ap (λ (t : List ScriptLine). x ∷ t) (take-one xs n)

-- a front that is longer by a line
pub of-take : (lane : ℕ) (script : List ScriptLine) (n : ℕ) → of_lane lane (take (n + 1) script) ≡ of_lane lane (take n script) ++ of_lane lane (take 1 (drop n script))
of-take lane script n =
    let one : n + 1 ≡ suc n = omega arith in
    ap (λ (m : ℕ). of_lane lane (take m script)) one ∙ ap (of_lane lane) (take-one script n) ∙ of-both lane (take n script) (take 1 (drop n script))

-- a front, the line behind it, and what is left
pub of-parts : (lane : ℕ) (script : List ScriptLine) (n : ℕ)
    → of_lane lane script ≡ of_lane lane (take n script) ++ (of_lane lane (take 1 (drop n script)) ++ of_lane lane (drop (n + 1) script))
of-parts lane script n =
    ap (of_lane lane) (sym (take-append-drop (n + 1) script))
    ∙ of-both lane (take (n + 1) script) (drop (n + 1) script)
    ∙ ap (λ (s : List ScriptLine). s ++ of_lane lane (drop (n + 1) script)) (of-take lane script n)
    ∙ append_assoc (of_lane lane (take n script)) (of_lane lane (take 1 (drop n script))) (of_lane lane (drop (n + 1) script))

-- ---- lane after lane

pub by-none : (script : List ScriptLine) → by_lanes 0 script ≡ []
unfolding by_lanes
by-none script = refl

by-suc : (n : ℕ) (script : List ScriptLine) → by_lanes (suc n) script ≡ by_lanes n script ++ of_lane (suc n) script
unfolding by_lanes
by-suc n script = refl

pub by-next : (n : ℕ) (script : List ScriptLine) → by_lanes (n + 1) script ≡ by_lanes n script ++ of_lane (n + 1) script
by-next n script =
    let one : n + 1 ≡ suc n = omega arith in
    subst (λ (m : ℕ). by_lanes m script ≡ by_lanes n script ++ of_lane m script) (sym one) (by-suc n script)

pub by-empty : (n : ℕ) (script : List ScriptLine) → script ≡ [] → by_lanes n script ≡ []
unfolding by_lanes
by-empty zero script none = refl
by-empty (suc n) script none = ap (λ (s : List ScriptLine). s ++ of_lane (suc n) script) (by-empty n script none) ∙ ap (of_lane (suc n)) none

-- the lanes before, this one, and what is left
pub by-parts : (m n : ℕ) (script : List ScriptLine) → n < m → (rest : List ScriptLine) × (by_lanes m script ≡ by_lanes n script ++ (of_lane (n + 1) script ++ rest))
by-parts zero n script lt = absurd (omega (arith, lt))
by-parts (suc m) n script lt = elim (cases_lt n m) [
  | inl less ↦ let p = by-parts m n script less in (
    p.0 ++ of_lane (m + 1) script,
    ap (λ (k : ℕ). by_lanes k script) one ∙ by-next m script ∙ ap (λ (s : List ScriptLine). s ++ of_lane (m + 1) script) p.1
        ∙ append_assoc (by_lanes n script) (of_lane (n + 1) script ++ p.0) (of_lane (m + 1) script)
        ∙ ap (λ (s : List ScriptLine). by_lanes n script ++ s) (append_assoc (of_lane (n + 1) script) p.0 (of_lane (m + 1) script)),
  )
  | inr last ↦ (
    [],
    (let same : suc m ≡ n + 1 = omega (arith, lt, last) in ap (λ (k : ℕ). by_lanes k script) same) ∙ by-next n script
        ∙ ap (λ (s : List ScriptLine). by_lanes n script ++ s) (sym (append-nil (of_lane (n + 1) script))),
  )
]
  where
    one : suc m ≡ m + 1
    one = omega arith

-- ---- what begins in a lane

begun-more : (lane : ℕ) (l : ScriptLine) (ls : List ScriptLine) → begun lane (entries_of (l ∷ ls)) ≡ begun lane (Began l.lane l.line l.op ∷ []) ++ begun lane (entries_of ls)
begun-more lane l ls = begun-append lane (Began l.lane l.line l.op ∷ []) (entries_of ls)

begun-both : (lane : ℕ) (a b : List ScriptLine) → begun lane (entries_of (a ++ b)) ≡ begun lane (entries_of a) ++ begun lane (entries_of b)
begun-both lane a b = ap (begun lane) (entries-both a b) ∙ begun-append lane (entries_of a) (entries_of b)

begun-past : (lane : ℕ) (l : ScriptLine) (ls : List ScriptLine) → l.lane ≢ lane → begun lane (entries_of (l ∷ ls)) ≡ begun lane (entries_of ls)
begun-past lane l ls differs = begun-more lane l ls ∙ ap (λ (t : List Entry). t ++ begun lane (entries_of ls)) (begun-other lane l.lane l.line l.op differs)

-- all lines of a lane begin in it
of-begun : (lane : ℕ) (script : List ScriptLine) → begun lane (entries_of (of_lane lane script)) ≡ begun lane (entries_of script)
of-begun lane [] = refl
of-begun lane (l ∷ ls) = by (nat_eq l.lane lane) refl (of-begun lane ls)
  where
    by : (b : Bool) → nat_eq l.lane lane ≡ b → begun lane (entries_of (of_lane lane ls)) ≡ begun lane (entries_of ls)
        → begun lane (entries_of (of_lane lane (l ∷ ls))) ≡ begun lane (entries_of (l ∷ ls))
    by true e rest =
        ap (λ (s : List ScriptLine). begun lane (entries_of s)) (of-more lane l ls true e)
        ∙ begun-more lane l (of_lane lane ls)
        ∙ ap (λ (t : List Entry). begun lane (Began l.lane l.line l.op ∷ []) ++ t) rest
        ∙ sym (begun-more lane l ls)
    by false e rest = ap (λ (s : List ScriptLine). begun lane (entries_of s)) (of-more lane l ls false e) ∙ rest ∙ sym (begun-past lane l ls (eqb-false l.lane lane e))

-- none begins in another
of-unbegun : (lane other : ℕ) (script : List ScriptLine) → other ≢ lane → begun lane (entries_of (of_lane other script)) ≡ []
of-unbegun lane other [] differs = refl
of-unbegun lane other (l ∷ ls) differs = by (nat_eq l.lane other) refl (of-unbegun lane other ls differs)
  where
    by : (b : Bool) → nat_eq l.lane other ≡ b → begun lane (entries_of (of_lane other ls)) ≡ [] → begun lane (entries_of (of_lane other (l ∷ ls))) ≡ []
    by true e rest =
        ap (λ (s : List ScriptLine). begun lane (entries_of s)) (of-more other l ls true e)
        ∙ begun-past lane l (of_lane other ls) (λ same. differs (sym (eqb-true l.lane other e) ∙ same))
        ∙ rest
    by false e rest = ap (λ (s : List ScriptLine). begun lane (entries_of s)) (of-more other l ls false e) ∙ rest

-- a lane that doesn't come by then
by-unbegun : (n lane : ℕ) (script : List ScriptLine) → (lane ≡ 0) ⊎ (n < lane) → begun lane (entries_of (by_lanes n script)) ≡ []
unfolding by_lanes
by-unbegun zero lane script out = refl
by-unbegun (suc n) lane script out =
    begun-both lane (by_lanes n script) (of_lane (suc n) script)
    ∙ ap (λ (t : List Entry). t ++ begun lane (entries_of (of_lane (suc n) script))) (by-unbegun n lane script (before out))
    ∙ of-unbegun lane (suc n) script (apart out)
  where
    before : (lane ≡ 0) ⊎ (suc n < lane) → (lane ≡ 0) ⊎ (n < lane)
    before (inl is) = inl is
    before (inr over) = inr (omega (arith, over))

    apart : (lane ≡ 0) ⊎ (suc n < lane) → suc n ≢ lane
    apart (inl is) same = omega (arith, is, same)
    apart (inr over) same = omega (arith, over, same)

-- a lane that comes by then
by-begun : (n lane : ℕ) (script : List ScriptLine) → 1 ≤ lane → lane ≤ n → begun lane (entries_of (by_lanes n script)) ≡ begun lane (entries_of script)
unfolding by_lanes
by-begun zero lane script least most = absurd (omega (arith, least, most))
by-begun (suc n) lane script least most = begun-both lane (by_lanes n script) (of_lane (suc n) script) ∙ by (nat_eq lane (suc n)) refl (by-begun n lane script least)
  where
    below : lane ≢ suc n → lane ≤ n
    below differs = elim (cases_lt n lane) [ inl over ↦ absurd (differs (omega (arith, over, most))) | inr low ↦ low ]

    by : (b : Bool) → nat_eq lane (suc n) ≡ b → (lane ≤ n → begun lane (entries_of (by_lanes n script)) ≡ begun lane (entries_of script))
        → begun lane (entries_of (by_lanes n script)) ++ begun lane (entries_of (of_lane (suc n) script)) ≡ begun lane (entries_of script)
    by true e earlier =
        let same : lane ≡ suc n = eqb-true lane (suc n) e in
        ap (λ (t : List Entry). t ++ begun lane (entries_of (of_lane (suc n) script))) (by-unbegun n lane script (inr (omega (arith, same))))
        ∙ ap (λ (m : ℕ). begun lane (entries_of (of_lane m script))) (sym same)
        ∙ of-begun lane script
    by false e earlier =
        let differs : lane ≢ suc n = eqb-false lane (suc n) e in
        ap (λ (t : List Entry). t ++ begun lane (entries_of (of_lane (suc n) script))) (earlier (below differs))
        ∙ ap (λ (t : List Entry). begun lane (entries_of script) ++ t) (of-unbegun lane (suc n) script (λ same. differs (sym same)))
        ∙ append-nil (begun lane (entries_of script))

-- the lines of a script, lane after lane, are the script's in each lane
pub lanes-same : (script : List ScriptLine) → All IsAskedLine script → SameLanes (by_lanes 16 script) script
lanes-same script asked lane = by (which lane)
  where
    by : ((n : ℕ) × (n < 16) × (lane ≡ suc n)) ⊎ ((lane ≡ 0) ⊎ (16 < lane)) → begun lane (entries_of (by_lanes 16 script)) ≡ begun lane (entries_of script)
    by (inl (n, lt, is)) = by-begun 16 lane script (omega (arith, is)) (omega (arith, is, lt))
    by (inr out) = by-unbegun 16 lane script out ∙ sym (none-out script lane asked out)
