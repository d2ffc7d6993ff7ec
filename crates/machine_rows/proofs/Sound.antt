-- What is kept is what a step needs, and a step leaves it for the next one.
use Rattle.std.proofs.Common.{◌≡◌, ◌≤◌, ◌<◌, ◌+◌, ◌^◌, ℕ, [], refl, sym, subst, inr, arith}
use Rattle.std.specs.Prelude.{Contains}
use Rattle.write_back.specs.Files.{Pending}
use Rattle.client_shelf.specs.declared.shelf.Shelf.{Shelf}
use Rattle.client_shelf.specs.declared.turn.Turn.{Turn}
use Rattle.file_ops.specs.Ready.{IsReady}
use Rattle.op_machines.specs.Laws.{StaysReady}
use Rattle.op_machines.specs.MayStep.{MayStep}
use Rattle.machine_rows.specs.Sound.{IsSound}

pub may_step : (number wsize : ℕ) (turn : Turn) (shelf : Shelf) → number < 2 ^ 32 → turn.xid ≡ number → turn.moment ≡ number + 1 → 1 ≤ wsize
    → IsSound number shelf → MayStep wsize turn shelf
may_step number wsize turn shelf below xid_is moment_is size sound = record {
  size = size;
  newest = sound.ready.numbers;
  free = sound.ready.xids turn.xid (inr (omega (arith, xid_is)));
  seq = omega (arith, sound.numbers, moment_is);
  moment = omega (arith, below, moment_is);
}

-- a step that gives out one number of a write at most
pub stays_sound : (number : ℕ) (turn : Turn) (old new : Shelf) → turn.xid ≡ number → StaysReady turn old new → new.seq ≤ old.seq + 1
    → IsSound number old → IsSound (number + 1) new
stays_sound number turn old new xid_is ready numbers sound =
    let before : IsReady turn.xid old.seq old.back = subst (λ (x : ℕ). IsReady x old.seq old.back) (sym xid_is) sound.ready in
    record { ready = subst (λ (x : ℕ). IsReady (x + 1) new.seq new.back) xid_is (ready before); numbers = omega (arith, numbers, sound.numbers) }

no-number : (next number : ℕ) → Contains [] number → number < next
no-number next number c = absurd (omega (arith, c.1))

-- nothing is pending
pub empty_sound : (shelf : Shelf) → shelf.back ≡ [] → shelf.seq ≡ 0 → IsSound 1 shelf
empty_sound shelf none first = record {
  ready = subst (λ (back : Pending). IsReady 1 shelf.seq back) (sym none) (record {
    first = omega arith;
    numbers = λ file number c. no-number (shelf.seq + 1) number c;
    xids = λ other above file. refl;
  });
  numbers = omega (arith, first);
}
