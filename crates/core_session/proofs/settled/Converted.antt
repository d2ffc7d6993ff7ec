-- What the core's crates say of a byte that was made stable, in the words of the law of stable bytes.
use Rattle.core_session.proofs.Prelude.{◌≡◌, ◌<◌, ◌≤◌, ◌+◌, ◌-◌, ◌&&◌, ℕ, Bool, true, false, nat_le, List, length, Some, refl, sym, ap, ◌∙◌, arith, ltb-true, slice_get-get_or, Verf, Entry, WroteAt, Evidence, WroteByte, MadeStable}
use Rattle.std.proofs.Common.{nat_lt}
use Rattle.std.proofs.lemmas.Bool.{leb-true}
use Rattle.core_session.specs.saves.Evidence.{at_once, by_commit}
use Rattle.claims.specs.Settled as stably

both-left : (a b : Bool) → (a && b) ≡ true → a ≡ true
both-left true b e = refl
both-left false b e = absurd cc

both-right : (a b : Bool) → (a && b) ≡ true → b ≡ true
both-right true b e = e
both-right false b e = absurd cc

wrote-at : (h : List Entry) (from to : ℕ) (f : List ℕ) (i v firm : ℕ) (verf : Verf) → WroteByte h from to f i v firm verf → WroteAt h from to f i v firm verf
wrote-at h from to f i v firm verf w =
    let low : w.offset ≤ i = leb-true w.offset i (both-left (nat_le w.offset i) (nat_lt i (w.offset + length w.bytes)) w.inside) in
    let high : i < w.offset + length w.bytes = ltb-true i (w.offset + length w.bytes) (both-right (nat_le w.offset i) (nat_lt i (w.offset + length w.bytes)) w.inside) in
    record {
      offset = w.offset;
      how = w.how;
      bytes = w.bytes;
      wcc = w.wcc;
      count = w.count;
      asked = w.asked;
      covers = record {
        k = i - w.offset;
        place = omega (arith, low);
        byte = slice_get-get_or w.bytes (i - w.offset) 0 (omega (arith, low, high)) ∙ ap (λ (z : ℕ). Some z) w.has;
      };
      reached = w.reached;
    }

pub to-evidence : (h : List Entry) (from to : ℕ) (f : List ℕ) (i v : ℕ) → MadeStable h from to f i v → Evidence h from to f i v
to-evidence h from to f i v (at_once firm verf some w) =
    record { middle = to; firm = firm; verf = verf; by = omega arith; wrote = wrote-at h from to f i v firm verf w; made = stably.at_once some }
to-evidence h from to f i v (by_commit middle wcc verf low u asked) = record {
  middle = middle;
  firm = u.firm;
  verf = u.verf;
  by = low;
  wrote = wrote-at h from middle f i v u.firm u.verf u.wrote;
  made = stably.by_commit wcc verf (sym u.same) asked;
}
