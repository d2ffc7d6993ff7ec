-- A byte that a write, fill or put wrote is pending, or was made stable, unless it was touched.
use Rattle.core_session.proofs.Prelude.{false, ◌≡◌, ◌<◌, ◌≤◌, ◌-◌, inl, inr, ℕ, zero, suc, Bool, List, [], ◌++◌, length, replicate, Option, Some, None, slice_get, refl, sym, ap, subst, ◌∙◌, arith, append-nil, if◌then◌else◌, le-ltb, of_file, Flown, rest_at, fly_at, Cell, newest_at, EachSound, Fault, Value, Entry, Began, Ended, Terms, Wrote, At-below, Mounted, machine_of, Setup, View, NoneReady, begins-unbegun, byte_from, TouchedUntil}
use Rattle.claims.specs.Touched.{Covers}
use Rattle.core_session.specs.syncs.Until.{written, given_up}
use Rattle.write_back.specs.Waits.{byte_pending}
use Rattle.write_back.proofs.EndAndBytes.{newest-is}
use Rattle.world_model.specs.declared.answer.Answer.TheVariants as answers
use Rattle.world_model.specs.declared.op.Op.TheVariants as ops
use Rattle.claims.specs.Touched as touched_by
use Rattle.core_session.proofs.pending.Onwards.{refused-not}
use Rattle.core_session.proofs.syncs.Aparts.{Apart, apart-done}
use Rattle.core_session.proofs.syncs.Ends.{ended-back, fate-ends}
use Rattle.core_session.proofs.syncs.Looks.{Touching, plain, wrote, left_, owed, was_left, doomed, aside}
use Rattle.core_session.proofs.syncs.Showings.{Made}
use Rattle.core_session.proofs.syncs.Stages.{Stage}
use Rattle.core_session.proofs.syncs.Stages as stages
use Rattle.core_session.proofs.syncs.Stands.{of_slot, of_last}
use Rattle.core_session.proofs.syncs.Turning.{IsFixed, ready, gone, fixed-once}
use Rattle.core_session.proofs.syncs.WatchingAlong.{reached-watching}
use Rattle.core_session.specs.kept.Kept.{WrittenKept, IsKept}
use Rattle.core_session.specs.kept.Kept as kept_as
use Rattle.core_session.proofs.kept.Kept.{stands-all}
use Rattle.core_session.proofs.kept.Lefts.{left-unowed}
use Rattle.core_session.proofs.kept.Stands.{Case, Phase, Stands, SinceTwo, two, early, unsent, since, touched, past, Early, IsUnsent}

done-refused : (value : Value) (fault : Fault) → answers.Done value ≡ answers.Refused fault → ⊥
done-refused value fault e = cc

-- ---- what it is said of

in-filled : (n byte k : ℕ) → k < n → slice_get (replicate n byte) k ≡ Some byte
in-filled zero byte k low = absurd (omega (arith, low))
in-filled (suc n) byte zero low = refl
in-filled (suc n) byte (suc k) low = in-filled n byte k (omega (arith, low))

from-at : (offset i : ℕ) (bytes : List ℕ) → offset ≤ i → byte_from offset bytes i ≡ slice_get bytes (i - offset)
from-at offset i bytes low = ap (λ (z : Bool). if z then None else slice_get bytes (i - offset)) (le-ltb i offset low)

has-covers : (offset i byte : ℕ) (bytes : List ℕ) → Covers offset bytes i byte → byte_from offset bytes i ≡ Some byte
has-covers offset i byte bytes c =
    let place = c.place in
    let number : i - offset ≡ c.k = omega (arith, place) in
    from-at offset i bytes (omega (arith, place)) ∙ ap (slice_get bytes) number ∙ c.byte

pub case-of : (terms : Terms) (H : List Entry) (w y p : ℕ) (f : List ℕ) (i byte : ℕ) → Wrote terms.modes H w y f i byte → p ≤ length H → Case terms H w y p f i byte
case-of terms H w y p f i byte (touched_by.write lane slot offset bytes value of ended covers) within = record {
  laneW = lane;
  opW = ops.Write slot offset bytes;
  valueW = value;
  endW = ended;
  wrote = of_slot tt of;
  has = has-covers offset i byte bytes covers;
  within = within;
}
case-of terms H w y p f i byte (touched_by.fill lane slot offset count value of ended low high) within = record {
  laneW = lane;
  opW = ops.Fill slot offset count byte;
  valueW = value;
  endW = ended;
  wrote = of_slot tt of;
  has = from-at offset i (replicate count byte) low ∙ in-filled count byte (i - offset) (omega (arith, low, high));
  within = within;
}
case-of terms H w y p f i byte (touched_by.put offset bytes to covers) within = record {
  laneW = to.lane;
  opW = ops.Put to.path offset bytes;
  valueW = to.value;
  endW = to.ended;
  wrote = of_last to.path offset bytes refl to.call to.names to.asked;
  has = has-covers offset i byte bytes covers;
  within = within;
}

-- ---- what the invariant says once the write was answered

module _ (mt : Mounted) (terms : Terms) (setup : Setup) (H : List Entry) (w y : ℕ) (sure : Bool) (due p : ℕ) (f : List ℕ) (i byte : ℕ) (c : Case terms H w y p f i byte) where
  abbrev pub Tch : List Entry → View → Type 0
  Tch h v = Touching terms.modes terms.origin H w (length H) p p f i h v

  abbrev Two : List Entry → ℕ → Type 0
  Two = SinceTwo mt terms setup H w y sure due p f i byte

  -- it is pending; or it was made stable; or touched
  pub data Says (h : List Entry) (v : View) : Type 0 where
    held_back : newest_at (of_file f v.shelf.back).segments i ≡ Some byte → Says h v
    stable_ : (k : ℕ) → newest_at (of_file f v.shelf.back).segments i ≡ None → Two h k → Made f i byte h k → Says h v
    touched_ : Tch h v → Says h v

  module _ (h rest : List Entry) (is : h ++ rest ≡ H) (v : View) (low : y < length h) (within : length h ≤ p) where
    wrote-here : Ended h c.laneW w c.opW y (answers.Done c.valueW)
    wrote-here = ended-back h rest H is c.laneW w c.opW y (answers.Done c.valueW) low c.endW

    newest : EachSound v.shelf.back → (cell : Option Cell) (flown : Option Flown) → rest_at (of_file f v.shelf.back) i ≡ cell → fly_at (of_file f v.shelf.back) i ≡ flown
        → newest_at (of_file f v.shelf.back).segments i ≡ byte_pending cell flown
    newest sound cell flown at fly = newest-is (of_file f v.shelf.back) i (sound f) ∙ ap (λ (z : Option Cell). byte_pending z (fly_at (of_file f v.shelf.back) i)) at ∙ ap (byte_pending cell) fly

    by-stage : (n : ℕ) → EachSound v.shelf.back → Stage i byte n (two mt terms setup H w y sure due p f i byte h v.calls.calls).Fresh (Two h) (two mt terms setup H w y sure due p f i byte h v.calls.calls).Wrote (Made f i byte h) ⊥ (of_file f v.shelf.back)
        → Says h v
    by-stage n sound (stages.unsent up at z) = held_back (newest sound (Some _) (fly_at (of_file f v.shelf.back) i) at refl)
    by-stage n sound (stages.flies k flown at b m none fr z) = held_back (newest sound None (Some flown) none at ∙ ap Some b)
    by-stage n sound (stages.again k up at none z) = held_back (newest sound (Some _) None at none)
    by-stage n sound (stages.held k verf at none z wr) = held_back (newest sound (Some _) None at none)
    by-stage n sound (stages.stable k none quiet z m) = stable_ k (newest sound None None none quiet) z m
    by-stage n sound (stages.over o) = absurd o

    pub never-early : Early mt terms setup H w y sure due p f i byte h v → ⊥
    never-early e = apart-done f h v w (fate-ends h v w (Apart f h v w) c.laneW c.opW y c.valueW wrote-here e.fate) c.laneW y c.opW (answers.Done c.valueW) wrote-here

    pub unsent-held : (n : ℕ) → IsUnsent mt terms setup H w y sure due p f i byte n v → newest_at (of_file f v.shelf.back).segments i ≡ Some byte
    unsent-held n e = newest e.common.sound (Some _) (fly_at (of_file f v.shelf.back) i) e.there refl

    pub says : Phase mt terms setup H w y sure due p f i byte h v → Says h v
    says (early low_ e) = absurd (never-early e)
    says (unsent low_ n e) = held_back (unsent-held n e.content)
    says (since low_ n e) = by-stage n e.content.common.sound e.content.stage
    says (touched t) = touched_ t
    says (past over) = absurd (omega (arith, over, within))

-- ---- at the end of a history

module _ (mt : Mounted) (terms : Terms) (setup : Setup) (H : List Entry) (V : View) (none : NoneReady V) (w y : ℕ) (sure : Bool) (due : ℕ) (f : List ℕ) (i byte : ℕ) (c : Case terms H w y (length H) f i byte)
    (free : TouchedUntil terms.modes terms.origin H w (length H) (length H) f i → ⊥) where
  not-end : (x : ℕ) (answer : _) → x ≡ length H → IsFixed H V x answer → ⊥
  not-end x answer same (ready k number op there under) = absurd (let low = under.before in omega (arith, low, same))
  not-end x answer same (gone lane z op ended) = absurd (let low = At-below H x (Began lane ended.line op) ended.began in omega (arith, low, same))

  untouched : Tch mt terms setup H w y sure due (length H) f i byte c H V → ⊥
  untouched (plain t) = free t
  untouched (wrote x u value apart low not by fixed) = free (written x u apart low not by (refused-not H V x value fixed))
  untouched (left_ (owed from after dropped fate saver puts)) =
      left-unowed mt terms setup H w y sure due (length H) f i byte H [] (append-nil H) (omega arith) V from after dropped (λ o. none o.some.at o.some.lane o.answer o.some.there)
      (λ l. free (given_up l.0 l.1 l.2 l.3 l.4))
  untouched (left_ (was_left n)) = n (λ l. free (given_up l.0 l.1 l.2 l.3 l.4))
  untouched (doomed x (inl same) fault fixed) =
      done-refused c.valueW fault
      (fixed-once H V x (answers.Refused fault) fixed c.laneW c.opW y (answers.Done c.valueW) (subst (λ (z : ℕ). Ended H c.laneW z c.opW y (answers.Done c.valueW)) (sym same) c.endW))
  untouched (doomed x (inr same) fault fixed) = not-end x (answers.Refused fault) same fixed
  untouched (aside a) = absurd (let low = a.under.before in omega (arith, low))

pub written-kept : WrittenKept
written-kept mt terms setup h v g found roots puts_named none w y f i byte wrote_ free =
    by (says mt terms setup h w y false (length h) (length h) f i byte c h [] (append-nil h) v (At-below h y _ c.endW.answered) (omega arith) (st.phase [] (append-nil h)))
  where
    c : Case terms h w y (length h) f i byte
    c = case-of terms h w y (length h) f i byte wrote_ (omega arith)

    st : Stands mt terms setup h w y false (length h) (length h) f i byte h v
    st = reached-watching (machine_of mt) (begins-unbegun mt) setup (Stands mt terms setup h w y false (length h) (length h) f i byte)
        (stands-all mt terms setup h v g w y (length h) f i byte c roots puts_named (length h)) h v g.reaches found

    by : Says mt terms setup h w y false (length h) (length h) f i byte c h v → IsKept h v w f i byte
    by (held_back is) = kept_as.pending is
    by (stable_ k is z m) = kept_as.stable (record { from = k; after = z.1; made = m; kept = z.2 })
    by (touched_ t) = absurd (untouched mt terms setup h v none w y false (length h) f i byte c free t)
