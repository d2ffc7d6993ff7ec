-- Two places of a file as an operation begins, of which what was written there last is pending or was made stable; or an operation took it away that the words
-- of the model exclude.
use Rattle.core_counts.proofs.Prelude.{◌≡◌, ◌<◌, ◌≤◌, ◌⊎◌, inl, inr, ◌+◌, ◌++◌, ℕ, false, List, [], length, Some, None, sym, ap, ◌∙◌, arith, Answer, Fault, Entry, Began, Op, At, IsOf, Terms, OneLane, NeverFull, CoveredEarlier, Wrote, of_file, HasNoPiece, FilePending, Flown, rest_at, fly_at, fly_in, Cell, Mounted, machine_of, Setup, View, Notes, Reaches, GoesFrom}
use Rattle.claims.specs.Thrifty.{Uncut, IsLatest, earlier}
use Rattle.world_model.specs.declared.answer.Answer.TheVariants.{Refused}
use Rattle.world_model.specs.declared.op.Op.TheVariants as ops
use Rattle.world_model.specs.Leads.{Leads}
use Rattle.world_model.specs.Operations.{Ended}
use Rattle.write_back.specs.Pieces.{Sent as Piece}
use Rattle.core_session.proofs.syncs.Phases.{Family, StageBy}
use Rattle.core_session.proofs.syncs.Stages.{unsent, flies, again, held, stable, over}
use Rattle.core_counts.proofs.thrift.short.Assembled.{Pends, PendsSo, NoLane}

-- what is asked of a byte: once it is settled a WRITE covers its place
abbrev pub settled_by : Type 0 → Family
settled_by Cov = record {
  Fresh = λ k z. Unit {0};
  Since = λ k. Unit {0};
  Wrote = λ k v. Cov;
  Made = λ k. Cov;
}

-- an operation that was answered before, and began after w, took the byte at the place away
pub data Lost (terms : Terms) (h : List Entry) (w x : ℕ) (f : List ℕ) (i : ℕ) : Type 0 where
  wrote : (b y v : ℕ) → w < b → y < x → Wrote terms.modes h b y f i v → Lost terms h w x f i
  cut : (lane b slot size y : ℕ) (answer : Answer) → y < x → IsOf terms.modes h b (ops.Truncate slot size) f → Ended h lane b (ops.Truncate slot size) y answer → Lost terms h w x f i
  closed : (lane b slot y : ℕ) (fault : Fault) → y < x → IsOf terms.modes h b (ops.Close slot) f → Ended h lane b (ops.Close slot) y (Refused fault) → Lost terms h w x f i
  put : (lane b offset y : ℕ) (path : List (List ℕ)) (bytes : List ℕ) (fault : Fault) → y < x → Ended h lane b (ops.Put path offset bytes) y (Refused fault) → Leads terms.origin h y path f
      → Lost terms h w x f i

-- a byte of the place that came under the number n is pending, or was covered by a WRITE; or it was lost
abbrev pub PlaceKept : Terms → List Entry → List Entry → ℕ → ℕ → List ℕ → FilePending → ℕ → ℕ → Type 0
PlaceKept terms h before w x f of n i = ((byte : ℕ) × StageBy (settled_by (CoveredEarlier before (length before) f i)) i byte n ⊥ of) ⊎ Lost terms h w x f i

-- so it is of both places, under one number
abbrev pub KeptSo : Type 0
KeptSo = (m : Mounted) (terms : Terms) (setup : Setup) (start h : List Entry) (v : View) → GoesFrom m terms setup start h v → Notes (machine_of m) setup h v → OneLane h → NeverFull h
    → (lane line i x e w : ℕ) (op : Op) (f : List ℕ) → At h x (Began lane line op) → x ≤ i → Uncut terms h i f → IsLatest terms h x op f (e + 1) w → IsLatest terms h x op f e w → w < x
    → (before after : List Entry) → h ≡ before ++ after → length before ≡ x → (view : View) → Reaches (machine_of m) setup before view → view.lost ≡ false → HasNoPiece f view.shelf.back → NoLane view
    → CoveredEarlier before (length before) f (e + 1)
    ⊎ ((n : ℕ) × PlaceKept terms h before w x f (of_file f view.shelf.back) n e × PlaceKept terms h before w x f (of_file f view.shelf.back) n (e + 1))

module _ (terms : Terms) (h : List Entry) (i x : ℕ) (op : Op) (f : List ℕ) (least : x ≤ i) (uncut : Uncut terms h i f) where
  -- which can't be
  not-lost : (place w : ℕ) → IsLatest terms h x op f place w → Lost terms h w x f place → ⊥
  not-lost place w latest (wrote b y v late early by) = let most = latest.latest b (earlier y v by early) in omega (arith, late, most)
  not-lost place w latest (cut lane b slot size y answer early of ended) = uncut.truncate lane b slot size y answer of ended (omega (arith, early, least))
  not-lost place w latest (closed lane b slot y fault early of ended) = uncut.close lane b slot y fault of ended (omega (arith, early, least))
  not-lost place w latest (put lane b offset y path bytes fault early ended leads) = uncut.put lane b offset y path bytes fault ended leads (omega (arith, early, least))

module _ (of : FilePending) (quiet : of.pieces ≡ []) where
  no-fly : (place : ℕ) (flown : Flown) → fly_at of place ≡ Some flown → ⊥
  no-fly place flown at = absurd (let no_way : None ≡ Some flown = sym (ap (λ (qs : List Piece). fly_in qs place) quiet) ∙ at in cc)

  one-cell : (a b : Cell) → Some a ≡ Some b → a ≡ b
  one-cell a b e = cc

  -- what rests there has the number
  numbered : (Cov : Type 0) (place byte n : ℕ) → StageBy (settled_by Cov) place byte n ⊥ of → (other : Cell) → rest_at of place ≡ Some other → other.number ≡ n
  numbered Cov place byte n (unsent ready at z) other here = ap (λ (c : Cell). c.number) (one-cell other _ (sym here ∙ at))
  numbered Cov place byte n (flies k flown at b m none fr s) other here = absurd (no-fly place flown at)
  numbered Cov place byte n (again k ready at none s) other here = ap (λ (c : Cell). c.number) (one-cell other _ (sym here ∙ at))
  numbered Cov place byte n (held k verf at none s w) other here = ap (λ (c : Cell). c.number) (one-cell other _ (sym here ∙ at))
  numbered Cov place byte n (stable k none q s made) other here = absurd (let no_way : None ≡ Some other = sym none ∙ here in cc)
  numbered Cov place byte n (over o) other here = absurd o

  both : (e n one two : ℕ) (Cov Cov' : Type 0) → StageBy (settled_by Cov) e one n ⊥ of → StageBy (settled_by Cov') (e + 1) two n ⊥ of → Cov' ⊎ Pends of e
  both e n one two Cov Cov' first (unsent ready at z) = inr (record { cell = _; at = at; older = λ other here. let same = numbered Cov e one n first other here in omega (arith, same) })
  both e n one two Cov Cov' first (flies k flown at b m none fr s) = absurd (no-fly (e + 1) flown at)
  both e n one two Cov Cov' first (again k ready at none s) = inr (record { cell = _; at = at; older = λ other here. let same = numbered Cov e one n first other here in omega (arith, same) })
  both e n one two Cov Cov' first (held k verf at none s w) = inl w
  both e n one two Cov Cov' first (stable k none q s made) = inl made
  both e n one two Cov Cov' first (over o) = absurd o

pub pends-by : KeptSo → PendsSo
pends-by kept m terms setup start h v from notes one never lane line i x e w op f began least uncut next here first before after is there view reaches found quiet idle =
    by (kept m terms setup start h v from notes one never lane line i x e w op f began least uncut next here first before after is there view reaches found quiet idle)
  where
    by : CoveredEarlier before (length before) f (e + 1) ⊎ ((n : ℕ) × PlaceKept terms h before w x f (of_file f view.shelf.back) n e × PlaceKept terms h before w x f (of_file f view.shelf.back) n (e + 1))
        → CoveredEarlier before (length before) f (e + 1) ⊎ Pends (of_file f view.shelf.back) e
    by (inl c) = inl c
    by (inr (n, inr gone, second)) = absurd (not-lost terms h i x op f least uncut e w here gone)
    by (inr (n, inl a, inr gone)) = absurd (not-lost terms h i x op f least uncut (e + 1) w next gone)
    by (inr (n, inl a, inl b)) = both (of_file f view.shelf.back) quiet e n a.0 b.0 (CoveredEarlier before (length before) f e) (CoveredEarlier before (length before) f (e + 1)) a.1 b.1
