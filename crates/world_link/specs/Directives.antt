-- What a line of a schedule asks for.
use Rattle.std.specs.Prelude.{ℕ, List, [], ◌∷◌, codes, ◌==◌, Option, Some, None, option_and_then, if◌then◌else◌}
use Rattle.std.specs.Option.{option_map}
use Rattle.std.specs.Str.{bytes_eq}
use Rattle.script_text.specs.Lines.{one, two, three, four}
use Rattle.script_text.specs.Numbers.{number_of}
use Rattle.script_text.specs.Payloads.{contents_of}
use Rattle.script_text.specs.Paths.{path_of}
use Rattle.world_link.specs.declared.event.Event.{Event}
use Rattle.world_link.specs.declared.directive.RequestId.{RequestId}
use Rattle.world_link.specs.declared.directive.Directive.{Directive}
use Rattle.world_link.specs.declared.directive.Directive.TheVariants as directives
use Rattle.world_link.specs.Procedures.{proc_of}
use Rattle.world_link.specs.Events.{event_of}

-- ---- words

-- a number of 32 bits that isn't 0
abbrev pub count_of : List ℕ → Option ℕ
count_of digits = number_of 1 4294967295 digits

abbrev pub sent : Option ℕ → Option ℕ → Option RequestId
sent (Some proc) (Some k) = Some (record { proc = proc; k = k })
sent proc k = None

-- the transmission that a procedure's name and a count name
abbrev pub sending_of : List ℕ → List ℕ → Option RequestId
sending_of proc k = sent (proc_of proc) (count_of k)

-- ---- what holds from the start

-- milliseconds
abbrev pub tick_of : List (List ℕ) → Option Directive
tick_of words = option_and_then (λ w. option_map (λ n. directives.Tick n) (number_of 0 4294967295 w)) (one words)

-- a path
abbrev pub dir_of : List (List ℕ) → Option Directive
dir_of words = option_and_then (λ w. option_map (λ path. directives.Place path None) (path_of w)) (one words)

abbrev pub placed : Option (List (List ℕ)) → Option (List ℕ) → Option Directive
placed (Some path) (Some bytes) = Some (directives.Place path (Some bytes))
placed path bytes = None

-- a path and bytes
abbrev pub file_of : List (List ℕ) → Option Directive
file_of words = option_and_then (λ w. placed (path_of w.0) (contents_of w.1)) (two words)

-- a status of MOUNT
abbrev pub mount_of : List (List ℕ) → Option Directive
mount_of words = option_and_then (λ w. option_map (λ n. directives.Mount n) (count_of w)) (one words)

-- which dial
abbrev pub no_dial_of : List (List ℕ) → Option Directive
no_dial_of words = option_and_then (λ w. option_map (λ n. directives.NoDial n) (count_of w)) (one words)

abbrev pub start_of : List ℕ → List (List ℕ) → Option Directive
start_of command words =
    if bytes_eq command (codes "tick") then tick_of words else
    (if bytes_eq command (codes "dir") then dir_of words else
    (if bytes_eq command (codes "file") then file_of words else
    (if bytes_eq command (codes "mnt") then mount_of words else
    (if bytes_eq command (codes "nodial") then no_dial_of words else None))))

-- ---- what becomes of a transmission

-- a transmission
abbrev pub lose_of : List (List ℕ) → Option Directive
lose_of words = option_and_then (λ w. option_map (λ s. directives.Lose s) (sending_of w.0 w.1)) (two words)

-- a transmission
abbrev pub mute_of : List (List ℕ) → Option Directive
mute_of words = option_and_then (λ w. option_map (λ s. directives.Mute s) (sending_of w.0 w.1)) (two words)

abbrev pub held : Option RequestId → Option RequestId → Option Directive
held (Some s) (Some turn) = Some (directives.Hold s turn)
held s turn = None

-- a transmission, and the one whose turn its reply waits for
abbrev pub hold_of : List (List ℕ) → Option Directive
hold_of words = option_and_then (λ w. held (sending_of w.0 w.1) (sending_of w.2 w.3)) (four words)

abbrev pub repeated : Option RequestId → Option RequestId → Option Directive
repeated (Some s) (Some turn) = Some (directives.Late s turn)
repeated s turn = None

-- a transmission, and the one at whose turn a further copy of it is executed
abbrev pub late_of : List (List ℕ) → Option Directive
late_of words = option_and_then (λ w. repeated (sending_of w.0 w.1) (sending_of w.2 w.3)) (four words)

-- NULL has no status to be answered with
abbrev pub answered : Option RequestId → Option ℕ → Option Directive
answered (Some s) (Some status) = if s.proc == 0 then None else Some (directives.Answer s status)
answered s status = None

-- a transmission and a status
abbrev pub answer_of : List (List ℕ) → Option Directive
answer_of words = option_and_then (λ w. answered (sending_of w.0 w.1) (count_of w.2)) (three words)

-- the procedure 7 is WRITE (RFC 1813, section 3.3.7)
abbrev pub broken : Option RequestId → Option ℕ → Option ℕ → Option Directive
broken (Some s) (Some bytes) (Some status) = if s.proc == 7 then Some (directives.Partial s (record { bytes = bytes; status = status })) else None
broken s bytes status = None

-- a transmission of WRITE, how many bytes it writes, and the status that it fails with then
abbrev pub partial_of : List (List ℕ) → Option Directive
partial_of words = option_and_then (λ w. broken (sending_of w.0 w.1) (number_of 0 65536 w.2) (count_of w.3)) (four words)

abbrev pub limited : Option RequestId → Option ℕ → Option Directive
limited (Some s) (Some most) = Some (directives.Limit s most)
limited s most = None

-- a transmission, and the most bytes that it handles
abbrev pub limit_of : List (List ℕ) → Option Directive
limit_of words = option_and_then (λ w. limited (sending_of w.0 w.1) (count_of w.2)) (three words)

abbrev pub happens_before : Option RequestId → Option Event → Option Directive
happens_before (Some s) (Some event) = Some (directives.Before s event)
happens_before s event = None

-- a transmission, and the words of an event
abbrev pub before_of : List (List ℕ) → Option Directive
before_of (proc ∷ k ∷ words) = happens_before (sending_of proc k) (event_of words)
before_of words = None

abbrev pub happens_after : Option RequestId → Option Event → Option Directive
happens_after (Some s) (Some event) = Some (directives.After s event)
happens_after s event = None

-- a transmission, and the words of an event
abbrev pub after_of : List (List ℕ) → Option Directive
after_of (proc ∷ k ∷ words) = happens_after (sending_of proc k) (event_of words)
after_of words = None

abbrev pub turn_of : List ℕ → List (List ℕ) → Option Directive
turn_of command words =
    if bytes_eq command (codes "before") then before_of words else
    (if bytes_eq command (codes "after") then after_of words else
    (if bytes_eq command (codes "lose") then lose_of words else
    (if bytes_eq command (codes "mute") then mute_of words else
    (if bytes_eq command (codes "hold") then hold_of words else
    (if bytes_eq command (codes "late") then late_of words else
    (if bytes_eq command (codes "answer") then answer_of words else
    (if bytes_eq command (codes "partial") then partial_of words else
    (if bytes_eq command (codes "limit") then limit_of words else None))))))))

-- ---- lines

-- the first of the two that there is
abbrev pub either : Option Directive → Option Directive → Option Directive
either (Some d) other = Some d
either None other = other

-- what a line's words ask for; None if they are of no form
abbrev pub directive_of : List (List ℕ) → Option Directive
directive_of [] = None
directive_of (command ∷ words) = either (start_of command words) (turn_of command words)
