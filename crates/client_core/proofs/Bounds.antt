-- Numbers that no step passes, and so what each step needs.
use Rattle.std.proofs.Common.{◌≡◌, ◌≤◌, ◌<◌, ◌+◌, ◌-◌, ◌*◌, ◌^◌, ℕ, Bool, List, length, refl, sym, ap, subst, ◌∙◌, inl, inr, arith}
use Rattle.rpc_retry.specs.Held.{next_xid}
use Rattle.rpc_retry.specs.Sound.{IsSound as HeldSound}
use Rattle.file_ops.specs.Ready.{IsReady}
use Rattle.op_machines.specs.MayStep.{MayStep}
use Rattle.client_shelf.specs.declared.turn.Turn.{Turn}
use Rattle.client_core.specs.View.{View, has_room, turn_at, unmade_turn, IsBound, IsSound}

-- moments have 64 bits
pub few-moments : (v : View) → HeldSound v.calls → IsBound v → v.moments + 2 < 2 ^ 63
few-moments v held b =
    let all : v.moments + length v.calls.calls ≤ v.begun + 2 * v.calls.made = b.moments in
    let begun : v.begun ≤ 2 ^ 32 = b.begun in
    let made : v.calls.made ≤ v.calls.limit = held.within in
    let last : v.calls.first_xid + v.calls.limit ≤ 2 ^ 32 - 1 = held.last in
    omega (arith, all, begun, made, last)

-- a step may be made with the next xid
pub may-step : (v : View) → HeldSound v.calls → IsSound v → MayStep v.wsize (turn_at v) v.shelf
may-step v held s = record {
  size = s.bound.size;
  newest = s.ready.numbers;
  free = s.ready.xids (next_xid v.calls) (inr (omega arith));
  seq = let few = s.bound.seq in omega (arith, few);
  moment = let few = few-moments v held s.bound in omega (arith, few);
}

-- a step may be made that takes a refusal in place of a call
pub may-take-back : (v : View) → HeldSound v.calls → IsBound v → IsReady (next_xid v.calls + 1) v.shelf.seq v.shelf.back → MayStep v.wsize (unmade_turn v) v.shelf
may-take-back v held b ready = record {
  size = b.size;
  newest = ready.numbers;
  free = ready.xids 0 (inl refl);
  seq = let few = b.seq in omega (arith, few);
  moment = let few = few-moments v held b in omega (arith, few);
}

-- the same of what is seen of a core
pub seen-may : (v now : View) (xid : ℕ) (room : Bool) → v ≡ now → HeldSound v.calls → IsSound now → xid ≡ next_xid v.calls → room ≡ has_room now
    → MayStep now.wsize (record { xid = xid; moment = v.moments + 1; now = v.clock; room = room }) now.shelf
seen-may v now xid room is held s numbered free =
    let own : MayStep v.wsize (turn_at v) v.shelf = may-step v held (subst IsSound (sym is) s) in
    let roomy : room ≡ has_room v = free ∙ ap (λ (w : View). has_room w) (sym is) in
    let by_xid : MayStep v.wsize (record { xid = xid; moment = v.moments + 1; now = v.clock; room = has_room v }) v.shelf = subst (λ (x : ℕ). MayStep v.wsize (record { xid = x; moment = v.moments + 1; now = v.clock; room = has_room v }) v.shelf) (sym numbered) own in
    let by_room : MayStep v.wsize (record { xid = xid; moment = v.moments + 1; now = v.clock; room = room }) v.shelf = subst (λ (b : Bool). MayStep v.wsize (record { xid = xid; moment = v.moments + 1; now = v.clock; room = b }) v.shelf) (sym roomy) by_xid in
    subst (λ (w : View). MayStep w.wsize (record { xid = xid; moment = v.moments + 1; now = v.clock; room = room }) w.shelf) is by_room

pub seen-may-back : (v now : View) → v ≡ now → HeldSound v.calls → IsBound now → IsReady (next_xid now.calls + 1) now.shelf.seq now.shelf.back → MayStep now.wsize (unmade_turn v) now.shelf
seen-may-back v now is held b ready =
    let own : MayStep v.wsize (unmade_turn v) v.shelf = may-take-back v held (subst IsBound (sym is) b) (subst (λ (w : View). IsReady (next_xid w.calls + 1) w.shelf.seq w.shelf.back) (sym is) ready) in
    subst (λ (w : View). MayStep w.wsize (unmade_turn v) w.shelf) is own
