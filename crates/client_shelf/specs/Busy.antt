-- A server that is busy asks to be called again later (RFC 1813, section 2.6, NFS3ERR_JUKEBOX).
use Rattle.std.specs.Prelude.{Bool, false, ◌==◌, ◌&&◌, Result, Ok, Err, List}
use Rattle.client_shelf.specs.declared.repeats.Repeat.{Repeat}
use Rattle.client_shelf.specs.declared.turn.Turn.{Turn}
use Rattle.client_shelf.specs.Repeats.{may_repeat, answered}
use Rattle.world_model.specs.declared.answer.Fault.{Fault}
use Rattle.world_model.specs.declared.answer.Fault.TheVariants.{Nfs}

-- whether a call was refused so
abbrev pub is_busy : Fault → Bool
is_busy (Nfs status) = status == 10008
is_busy fault = false

abbrev pub fails_busy : {A : Type 0} → Result A Fault → Bool
fails_busy (Ok value) = false
fails_busy (Err fault) = is_busy fault

-- Whether the call that a step with the turn `sent` made is made again: the server was busy, there is room, and it was made again
-- fewer than three times.
abbrev pub goes_again : Bool → Turn → Turn → List Repeat → Bool
goes_again busy sent turn repeats = may_repeat (busy && turn.room) sent.xid repeats

-- the calls that are made again, after it was answered
abbrev pub repeats_after : Bool → Turn → Turn → List Repeat → List Repeat
repeats_after busy sent turn repeats = answered (goes_again busy sent turn repeats) sent.xid turn.xid repeats
