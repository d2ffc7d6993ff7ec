-- No segment that waits with a number up to another begins before a place.
use Rattle.std.proofs.Common.{◌≡◌, ◌<◌, ◌≤◌, ◌^◌, ℕ, ◌+◌, ◌-◌, ◌&&◌, ◌||◌, Bool, true, false, List, [], ◌∷◌, ◌++◌, length, min, Option, Some, None, Result, Ok, Err, refl, sym, ap, ◌∙◌, ◌⊎◌, inl, inr, subst, arith}
use Rattle.std.specs.Prelude.{nat_le, nat_lt, not, OnOk, OnErr, if◌then◌else◌}
use Rattle.std.specs.Option.{option_map}
use Rattle.std.proofs.lemmas.Bool.{le-leb, lt-leb, leb-true, ltb-true, and_parts, cases_lt}
use Rattle.write_back.specs.declared.state.State.{State}
use Rattle.write_back.specs.declared.state.State.TheVariants.{Waiting, InFlight, Acked}
use Rattle.write_back.specs.declared.change.Change.{Change}
use Rattle.write_back.specs.declared.change.Change.TheVariants as by_change
use Rattle.write_back.specs.States.{is_ready, is_in_flight, sent}
use Rattle.write_back.specs.Segments.{Segment, Segments, AreApart, end_of, written, before, after, added, split_if, cut_from}
use Rattle.write_back.specs.Changes.{changed, fate_between, left_of}
use Rattle.write_back.specs.Pieces.{Sent, overlaps, end_of_sent}
use Rattle.write_back.specs.Landing.{changed_part}
use Rattle.write_back.specs.Choice.{may_go}
use Rattle.write_back.specs.Walk.{first_that}
use Rattle.write_back.specs.Sound.{NoneBefore}
use Rattle.write_back.specs.Cursor.{waits_upto, NoneUpto, place_of}

waits-ready : (upto : ℕ) (s : Segment) → waits_upto upto s ≡ true → is_ready s.state ≡ true
waits-ready upto s t = (and_parts (is_ready s.state) (nat_le s.number upto) t).0

pub upto-lower : (upto low place : ℕ) (es : Segments) → low ≤ place → NoneUpto upto place es → NoneUpto upto low es
upto-lower upto low place [] le none = tt
upto-lower upto low place (e ∷ es) le none = (λ t. omega (arith, le, none.0 t), upto-lower upto low place es le none.1)

pub upto-zero : (upto : ℕ) (es : Segments) → NoneUpto upto 0 es
upto-zero upto [] = tt
upto-zero upto (e ∷ es) = (λ t. omega arith, upto-zero upto es)

-- where nothing waits at all, nothing waits with such a number
pub upto-any : (upto place : ℕ) (es : Segments) → NoneBefore place es → NoneUpto upto place es
upto-any upto place [] none = tt
upto-any upto place (e ∷ es) none = (λ t. none.0 (waits-ready upto e.1 t), upto-any upto place es none.1)

-- nor with a smaller one
pub upto-less : (upto less place : ℕ) (es : Segments) → less ≤ upto → NoneUpto upto place es → NoneUpto less place es
upto-less upto less place [] le none = tt
upto-less upto less place (e ∷ es) le none = (λ t. none.0 (wider t), upto-less upto less place es le none.1)
  where
    wider : waits_upto less e.1 ≡ true → waits_upto upto e.1 ≡ true
    wider t =
        let parts = and_parts (is_ready e.1.state) (nat_le e.1.number less) t in
        let old : nat_le e.1.number upto ≡ true = le-leb e.1.number upto (omega (arith, le, leb-true e.1.number less parts.1)) in
        rw (parts.0, old) refl

pub upto-from : (before upto place resume : ℕ) (es : Segments) → NoneUpto before place es → NoneBefore resume es → NoneUpto upto (if nat_le upto before then place else resume) es
upto-from before upto place resume es passed none = by (nat_le upto before) refl
  where
    by : (b : Bool) → nat_le upto before ≡ b → NoneUpto upto (if nat_le upto before then place else resume) es
    by true h = rw h (upto-less before upto place es (leb-true upto before h) passed)
    by false h = rw h (upto-any upto resume es none)

upto-before : (upto place at : ℕ) (es ys : Segments) → NoneUpto upto place es → NoneUpto upto place ys → NoneUpto upto place (before at es ++ ys)
upto-before upto place at [] ys none rest = rest
upto-before upto place at (e ∷ es) ys none rest = by (nat_lt e.0 at) refl (upto-before upto place at es ys none.1 rest)
  where
    by : (b : Bool) → nat_lt e.0 at ≡ b → NoneUpto upto place (before at es ++ ys) → NoneUpto upto place (before at (e ∷ es) ++ ys)
    by true h more = rw h (none.0, more)
    by false h more = rw h rest

upto-after : (upto place at : ℕ) (es : Segments) → NoneUpto upto place es → NoneUpto upto place (after at es)
upto-after upto place at [] none = tt
upto-after upto place at (e ∷ es) none = by (nat_le (end_of e) at) (nat_lt e.0 at) refl refl (upto-after upto place at es none.1)
  where
    by : (b d : Bool) → nat_le (end_of e) at ≡ b → nat_lt e.0 at ≡ d → NoneUpto upto place (after at es) → NoneUpto upto place (after at (e ∷ es))
    by true d h g more = rw h more
    by false true h g more = rw (h, g) (λ t. omega (arith, none.0 t, ltb-true e.0 at g), none.1)
    by false false h g more = rw (h, g) none

upto-laid : (upto place offset : ℕ) (bytes : List ℕ) (number : ℕ) (es : Segments) → (nat_le number upto ≡ true → place ≤ offset) → NoneUpto upto place es → NoneUpto upto place (added offset bytes number es)
upto-laid upto place offset bytes number es late none =
    upto-before upto place offset es ((offset, written bytes number) ∷ after (offset + length bytes) es) none (late, upto-after upto place (offset + length bytes) es none)

-- new bytes lower the place only where their number is up to the other
pub upto-added : (upto place offset : ℕ) (bytes : List ℕ) (number : ℕ) (es : Segments) → NoneUpto upto place es → NoneUpto upto (if nat_le number upto then min place offset else place) (added offset bytes number es)
upto-added upto place offset bytes number es none = by (nat_le number upto) refl
  where
    by : (b : Bool) → nat_le number upto ≡ b → NoneUpto upto (if nat_le number upto then min place offset else place) (added offset bytes number es)
    by true h = rw h (upto-laid upto (min place offset) offset bytes number es (λ t. omega arith) (upto-lower upto (min place offset) place es (omega arith) none))
    by false h = rw h (upto-laid upto place offset bytes number es (λ t. absurd (let wrong : true ≡ false = sym t ∙ h in cc)) none)

pub upto-split : (upto place at : ℕ) (cut : Segment → Bool) (es : Segments) → NoneUpto upto place es → NoneUpto upto place (split_if cut at es)
upto-split upto place at cut [] none = tt
upto-split upto place at cut (e ∷ es) none = by (nat_lt e.0 at) (nat_lt at (end_of e) && cut e.1) refl refl (upto-split upto place at cut es none.1)
  where
    by : (b d : Bool) → nat_lt e.0 at ≡ b → (nat_lt at (end_of e) && cut e.1) ≡ d → NoneUpto upto place (split_if cut at es) → NoneUpto upto place (split_if cut at (e ∷ es))
    by true true h g more = rw (h, g) (none.0, ((λ t. omega (arith, none.0 t, ltb-true e.0 at h)), none.1))
    by true false h g more = rw (h, g) (none.0, more)
    by false d h g more = rw h none

pub upto-cut : (upto place at last : ℕ) (es : Segments) → NoneUpto upto place es → NoneUpto upto place (cut_from at last es)
upto-cut upto place at last [] none = tt
upto-cut upto place at last (e ∷ es) none = by (nat_lt last e.1.number || nat_le (end_of e) at) (nat_lt e.0 at) refl refl (upto-cut upto place at last es none.1)
  where
    by : (b d : Bool) → (nat_lt last e.1.number || nat_le (end_of e) at) ≡ b → nat_lt e.0 at ≡ d → NoneUpto upto place (cut_from at last es) → NoneUpto upto place (cut_from at last (e ∷ es))
    by true d h g more = rw h (none.0, more)
    by false true h g more = rw (h, g) (none.0, more)
    by false false h g more = rw (h, g) more

-- a change of a range that begins at the place or after it
upto-left : (upto place : ℕ) (e : ℕ × Segment) (es : Segments) (o : Option State) → ((left : State) → o ≡ Some left → (is_ready left && nat_le e.1.number upto) ≡ true → place ≤ e.0) → NoneUpto upto place es → NoneUpto upto place (left_of o e es)
upto-left upto place e es None none more = more
upto-left upto place e es (Some left) none more = (none left refl, more)

pub upto-changed : (change : Change) (upto place low high : ℕ) (es : Segments) → place ≤ low → NoneUpto upto place es → NoneUpto upto place (changed change low high es)
upto-changed change upto place low high [] le none = tt
upto-changed change upto place low high (e ∷ es) le none = upto-left upto place e (changed change low high es) (fate_between change low high e) (λ left is t. by left is t (nat_le low e.0 && nat_lt e.0 high) refl) (upto-changed change upto place low high es le none.1)
  where
    by : (left : State) → fate_between change low high e ≡ Some left → (is_ready left && nat_le e.1.number upto) ≡ true → (b : Bool) → (nat_le low e.0 && nat_lt e.0 high) ≡ b → place ≤ e.0
    by left is t true h = omega (arith, le, leb-true low e.0 ((and_parts (nat_le low e.0) (nat_lt e.0 high) h).0))
    by left is t false h =
        let f : Some e.1.state ≡ Some left = (rw h at is) in
        let same : e.1.state ≡ left = cc in
        none.0 (ap (λ z. is_ready z && nat_le e.1.number upto) same ∙ t)

-- a transmission makes nothing wait
pub upto-sent : (upto place low high : ℕ) (es : Segments) → NoneUpto upto place es → NoneUpto upto place (changed by_change.Send low high es)
upto-sent upto place low high [] none = tt
upto-sent upto place low high (e ∷ es) none = by (nat_le low e.0 && nat_lt e.0 high) refl (upto-sent upto place low high es none.1)
  where
    waits : (state : State) → is_ready (sent state) ≡ true → ⊥
    waits (Waiting ready) t = absurd cc
    waits (InFlight ready) t = absurd cc
    waits (Acked verf) t = absurd cc

    by : (b : Bool) → (nat_le low e.0 && nat_lt e.0 high) ≡ b → NoneUpto upto place (changed by_change.Send low high es) → NoneUpto upto place (changed by_change.Send low high (e ∷ es))
    by true h more = rw h ((λ t. absurd (waits e.1.state ((and_parts (is_ready (sent e.1.state)) (nat_le e.1.number upto) t).0))), more)
    by false h more = rw h (none.0, more)

-- the first that waits so, or a place past all
upto-next : (upto place from : ℕ) (es : Segments) → AreApart from es → NoneUpto upto place es → NoneUpto upto (place_of (first_that (λ e. waits_upto upto e.1) place es)) es
upto-next upto place from [] apart none = tt
upto-next upto place from (e ∷ es) apart none = by (nat_le place e.0) (waits_upto upto e.1) refl refl (upto-next upto place (end_of e) es apart.3 none.1)
  where
    later : (from q : ℕ) (fs : Segments) → AreApart from fs → q ≤ from → NoneUpto upto q fs
    later from q [] apart le = tt
    later from q (f ∷ fs) apart le = (λ t. omega (arith, le, apart.0), later (end_of f) q fs apart.3 (omega (arith, le, apart.0)))

    by : (b d : Bool) → nat_le place e.0 ≡ b → waits_upto upto e.1 ≡ d → NoneUpto upto (place_of (first_that (λ e. waits_upto upto e.1) place es)) es → NoneUpto upto (place_of (first_that (λ e. waits_upto upto e.1) place (e ∷ es))) (e ∷ es)
    by true true h g more =
        let stop : first_that (λ e. waits_upto upto e.1) place (e ∷ es) ≡ Some e = rw (h, g) refl in
        subst (λ z. NoneUpto upto (place_of z) (e ∷ es)) (sym stop) ((λ t. omega arith), later (end_of e) e.0 es apart.3 (omega arith))
    by true false h g more =
        let skip : first_that (λ e. waits_upto upto e.1) place (e ∷ es) ≡ first_that (λ e. waits_upto upto e.1) place es = rw (h, g) refl in
        subst (λ z. NoneUpto upto (place_of z) (e ∷ es)) (sym skip) ((λ t. absurd (let wrong : true ≡ false = sym t ∙ g in cc)), more)
    by false d h g more =
        let skip : first_that (λ e. waits_upto upto e.1) place (e ∷ es) ≡ first_that (λ e. waits_upto upto e.1) place es = rw h refl in
        subst (λ z. NoneUpto upto (place_of z) (e ∷ es)) (sym skip) ((λ t. absurd (let late : nat_le place e.0 ≡ true = le-leb place e.0 (none.0 t) in let wrong : true ≡ false = sym late ∙ h in cc)), more)

pub upto-first : (upto place : ℕ) (es : Segments) → AreApart 0 es → NoneUpto upto place es → NoneUpto upto (place_of (first_that (λ e. waits_upto upto e.1) place es)) es
upto-first upto place es apart none = upto-next upto place 0 es apart none

-- what may go waits so, and doesn't begin before the place
pub go-upto : (pieces : List Sent) (upto place : ℕ) (es : Segments) → NoneUpto upto place es → first_that (may_go pieces upto) 0 es ≡ first_that (may_go pieces upto) place es
go-upto pieces upto place [] none = refl
go-upto pieces upto place (e ∷ es) none = by (may_go pieces upto e) refl (go-upto pieces upto place es none.1)
  where
    go-waits : may_go pieces upto e ≡ true → waits_upto upto e.1 ≡ true
    go-waits go = (and_parts (waits_upto upto e.1) (not (overlaps pieces e.0 (end_of e))) go).0

    zero-le : nat_le 0 e.0 ≡ true
    zero-le = le-leb 0 e.0 (omega arith)

    both : (b : Bool) → (b && false) ≡ false
    both true = refl
    both false = refl

    by : (b : Bool) → may_go pieces upto e ≡ b → first_that (may_go pieces upto) 0 es ≡ first_that (may_go pieces upto) place es → first_that (may_go pieces upto) 0 (e ∷ es) ≡ first_that (may_go pieces upto) place (e ∷ es)
    by true h more =
        let late : nat_le place e.0 ≡ true = le-leb place e.0 (none.0 (go-waits h)) in
        rw (h, zero-le, late) refl
    by false h more = rw (h, both (nat_le place e.0), zero-le) more

-- ---- what is kept of a file's pending bytes, with the place

pub resumed-part : (change : Change) (upto passed count : ℕ) (piece : Sent) (es : Segments) → NoneUpto upto passed es → NoneUpto upto (min passed piece.offset) (changed_part change count piece es)
resumed-part change upto passed count piece es none = by (nat_le (length piece.bytes) count) refl
  where
    lower : NoneUpto upto (min passed piece.offset) es
    lower = upto-lower upto (min passed piece.offset) passed es (omega arith) none

    by : (b : Bool) → nat_le (length piece.bytes) count ≡ b → NoneUpto upto (min passed piece.offset) (changed_part change count piece es)
    by true h = rw h (upto-changed change upto (min passed piece.offset) piece.offset (end_of_sent piece) es (omega arith) lower)
    by false h = rw h (upto-changed by_change.Return upto (min passed piece.offset) (piece.offset + count) (end_of_sent piece) _ (omega arith)
        (upto-changed change upto (min passed piece.offset) piece.offset (piece.offset + count) _ (omega arith) (upto-split upto (min passed piece.offset) (piece.offset + count) (λ s. is_in_flight s.state) es lower)))

pub resumed-one : (change : Change) (upto passed : ℕ) (piece : Sent) (es : Segments) → NoneUpto upto passed es → NoneUpto upto (min passed piece.offset) (changed change piece.offset (end_of_sent piece) es)
resumed-one change upto passed piece es none = upto-changed change upto (min passed piece.offset) piece.offset (end_of_sent piece) es (omega arith) (upto-lower upto (min passed piece.offset) passed es (omega arith) none)

pub resumed-landing : {A E : Type 0} (r : Result A E) (change : Change) (upto passed count : ℕ) (piece : Sent) (es new : Segments) → OnOk r (new ≡ changed_part change count piece es) → OnErr r (new ≡ changed by_change.Return piece.offset (end_of_sent piece) es)
    → NoneUpto upto passed es → NoneUpto upto (min passed piece.offset) new
resumed-landing (Ok x) change upto passed count piece es new ok err none = subst (NoneUpto upto (min passed piece.offset)) (sym ok) (resumed-part change upto passed count piece es none)
resumed-landing (Err e) change upto passed count piece es new ok err none = subst (NoneUpto upto (min passed piece.offset)) (sym err) (resumed-one by_change.Return upto passed piece es none)

-- where the next one is looked for
pub passed-first : (upto before passed resume : ℕ) (es : Segments) (from at : ℕ) → AreApart 0 es → NoneUpto before passed es → NoneBefore resume es → from ≡ (if nat_le upto before then passed else resume)
    → at ≡ place_of (first_that (λ e. waits_upto upto e.1) from es) → NoneUpto upto at es
passed-first upto before passed resume es from at apart none any is found =
    let start : NoneUpto upto from es = subst (λ n. NoneUpto upto n es) (sym is) (upto-from before upto passed resume es none any) in
    subst (λ n. NoneUpto upto n es) (sym found) (upto-first upto from es apart start)
