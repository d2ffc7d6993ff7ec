-- The rows of statuses and of refusals by RPC: the call that a record refused is one that the operation asks for.
use Rattle.core_answers.proofs.Prelude.{◌≡◌, ℕ, List, ◌++◌, length, sym, subst, arith, Fault, Entry, Call, Op, Asks, Terms, Mounted, Setup, View}
use Rattle.claims.specs.Asks.{IsWriter}
use Rattle.nfs_types.specs.declared.mode.Mode.TheVariants as modes
use Rattle.world_model.specs.declared.answer.Fault.TheVariants as faults
use Rattle.world_model.specs.declared.op.Op.TheVariants as ops
use Rattle.claims.specs.Asks as acts
use Rattle.claims.specs.GoesOn.{GoesOn}
use Rattle.claims.specs.GoesOn as on
use Rattle.claims.specs.RefusalRows.{IsLastRemove}
use Rattle.op_machines.specs.Begun.{IsAsked}
use Rattle.core_answers.specs.refusals.Asked.{AskedOr, asked, rooms, hides, removes}
use Rattle.core_answers.specs.refusals.Rowed.{GoesSo, MayMiss, IsFinal, RefusedFor, RefusalsOwned, AsksPlainly, RefusalsRowed}
use Rattle.core_answers.proofs.refusals.Asking.{row-of}
use Rattle.core_answers.proofs.refusals.Refused.{OwnRefusal, NoRemoval, Shown, own-later, own-refused}

-- a status from which the operation doesn't go on
may-make : (op : Op) (slot : ℕ) (path : List (List ℕ)) → op ≡ ops.OpenFile slot modes.C path → MayMiss op
may-make op slot path is = subst MayMiss (sym is) tt

may-hide : (op : Op) (path : List (List ℕ)) → op ≡ ops.Remove path → MayMiss op
may-hide op path is = subst MayMiss (sym is) tt

ends-there : (terms : Terms) (h : List Entry) (x n : ℕ) (op : Op) (call : Call) (status : ℕ) → IsFinal op (faults.Nfs status) → GoesOn terms h x n op call status → ⊥
ends-there terms h x n op call status f (on.makes slot path d name is place alone c two none) = f.1 (may-make op slot path is) two
ends-there terms h x n op call status f (on.hides path d last name file attr dir is place hidden other alone c two gave) = f.1 (may-hide op path is) two
ends-there terms h x n op call status f (on.tries_again is few none) = f.0 is

last-not : (op : Op) (call : Call) → NoRemoval op call → IsLastRemove op call → ⊥
last-not op call stays l = stays l.slot l.close (record { d = l.d; name = l.name; is = l.remove })

status-is : (fault : Fault) (op : Op) (n : ℕ) → fault ≡ faults.Nfs n → IsFinal op fault → IsFinal op (faults.Nfs n)
status-is fault op n is f = subst (IsFinal op) is f

owned : (m : Mounted) (terms : Terms) (setup : Setup) (h : List Entry) (v : View) → GoesSo m terms setup h v → (x y : ℕ) (op : Op) (fault : Fault) → IsAsked op → IsFinal op fault
    → OwnRefusal m setup h x y op fault → RefusedFor terms h x y op fault
owned m terms setup h v g x y op fault named final w = record {
  call = w.call;
  refused = w.refused;
  asks = row-of m terms setup g.goes.nocto g.noac g.some h g.known w.refused.heard.sent_at x w.call op named w.sent;
  last = last-not op w.call w.stays;
  ends = λ n is goes. ends-there terms h x w.refused.heard.got_at op w.call n (status-is fault op n is final) goes;
}

pub refusals-owned : RefusalsOwned
refusals-owned m terms setup h v g lane x y op fault named final ended = by fault final (own-refused m setup terms.modes g.goes.nocto h v g.goes.reaches lane x op y fault ended)
  where
    until : (f : Fault) (before after : List Entry) → h ≡ before ++ after → length before ≡ y → IsFinal op f → OwnRefusal m setup before x (length before) op f → RefusedFor terms h x y op f
    until f before after is there final w =
        owned m terms setup h v g x y op f named final
        (subst (λ (k : List Entry). OwnRefusal m setup k x y op f) (sym is) (own-later m setup before after x (length before) y op f (omega (arith, there)) w))

    by : (f : Fault) → IsFinal op f → (before : List Entry) × ((after : List Entry) × (h ≡ before ++ after) × (length before ≡ y) × Shown m setup before x op f) → RefusedFor terms h x y op f
    by (faults.Nfs n) final s = until (faults.Nfs n) s.0 s.1.0 s.1.1 s.1.2 final s.1.3
    by (faults.Rpc n) final s = until (faults.Rpc n) s.0 s.1.0 s.1.1 s.1.2 final s.1.3
    by (faults.Bad n) final s = until (faults.Bad n) s.0 s.1.0 s.1.1 s.1.2 final s.1.3
    by faults.Lost final s = absurd final
    by faults.Spent final s = absurd final
    by faults.Slot final s = absurd final
    by faults.Mode final s = absurd final
    by faults.Kind final s = absurd final
    by faults.Many final s = absurd final
    by faults.Memory final s = absurd final

-- it asks for each of its calls
no-writer : (op : Op) → AsksPlainly op → IsWriter op → ⊥
no-writer op plain (acts.write slot offset bytes is) = subst AsksPlainly is plain
no-writer op plain (acts.fill slot offset count byte is) = subst AsksPlainly is plain
no-writer op plain (acts.put path offset bytes is) = subst AsksPlainly is plain

plainly : (terms : Terms) (h : List Entry) (x n : ℕ) (op : Op) (call : Call) → AsksPlainly op → (IsLastRemove op call → ⊥) → AskedOr terms h x n op call → Asks terms h x n op call
plainly terms h x n op call plain last (asked asks) = asks
plainly terms h x n op call plain last (rooms writer) = absurd (no-writer op plain writer)
plainly terms h x n op call plain last (hides path is hiding) = absurd (subst AsksPlainly is plain)
plainly terms h x n op call plain last (removes slot is removal) = absurd (last (record { slot = slot; d = removal.d; name = removal.name; close = is; remove = removal.is }))

pub refusals-rowed : RefusalsRowed
refusals-rowed m terms setup h v g lane x y op fault named plain final ended =
    let w = refusals-owned m terms setup h v g lane x y op fault named final ended in
    record {
      call = w.call;
      refused = w.refused;
      asks = plainly terms h x w.refused.heard.sent_at op w.call plain w.last w.asks;
      last = w.last;
      ends = w.ends;
    }
