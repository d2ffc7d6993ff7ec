-- Replies that wait for turns, and turns that were had.
use Rattle.std.specs.Prelude.{ℕ, ◌+◌, ◌==◌, List, [], ◌∷◌, ◌++◌, Bool, Option, Some, None, nat_le, slice_index, slice_set, if◌then◌else◌}
use Rattle.std.specs.List.{list_all}
use Rattle.world_link.specs.declared.directive.RequestId.{RequestId}
use Rattle.world_link.specs.declared.routed.Routed.{Routed}

-- a reply, and the transmissions before whose turns it isn't ready
pub record HeldView : Type 0 where
  pub bytes : List ℕ
  pub waits : List RequestId

-- the same with the end to which the reply goes
pub record HeldReply : Type 0 where
  pub reply : Routed
  pub waits : List RequestId

abbrev pub held_view : HeldReply → HeldView
held_view held = record { bytes = held.reply.bytes; waits = held.waits }

-- The next sending of a procedure, by the counts of those before it. A schedule can't name one after the last count.
abbrev pub next_of : List ℕ → ℕ → Option RequestId
next_of counts proc = if slice_index counts proc == 4294967295 then None else Some (record { proc = proc; k = slice_index counts proc + 1 })

-- that transmission was the last one of its procedure
abbrev pub counted : List ℕ → RequestId → List ℕ
counted counts s = slice_set counts s.proc s.k

abbrev pub counted_if : List ℕ → Option RequestId → List ℕ
counted_if counts None = counts
counted_if counts (Some s) = counted counts s

-- turns go in order of transmission, so the last one that had its turn tells of those before it
abbrev pub is_past : List ℕ → RequestId → Bool
is_past turns s = nat_le s.k (slice_index turns s.proc)

abbrev pub are_past : List ℕ → List RequestId → Bool
are_past turns sendings = list_all (λ s. is_past turns s) sendings

-- what is ready and what is still held after some turns, in order
abbrev pub released_of : List ℕ → List (List ℕ) → List HeldView → List (List ℕ) × List HeldView
released_of turns ready [] = (ready, [])
released_of turns ready (held ∷ more) =
    if are_past turns held.waits then released_of turns (ready ++ held.bytes ∷ []) more
    else ((released_of turns ready more).0, held ∷ (released_of turns ready more).1)
