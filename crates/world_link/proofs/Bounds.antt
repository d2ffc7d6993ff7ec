-- The bound of a READ or WRITE that a line of a schedule gives is 1 or above.
use Rattle.std.proofs.Common.{◌≤◌, ℕ, Bool, true, false, List, [], ◌∷◌, Option, Some, None, codes, ◌&&◌, ◌==◌, if◌then◌else◌, nat_le}
use Rattle.std.specs.Prelude.{⊤, option_and_then}
use Rattle.std.specs.Option.{option_map}
use Rattle.std.specs.Str.{bytes_eq}
use Rattle.std.specs.Str.Parse.{digits_value}
use Rattle.std.proofs.lemmas.Bool.{cond_both, and_parts, leb-true}
use Rattle.script_text.specs.Lines.{one, two, three, four}
use Rattle.script_text.specs.Numbers.{number_of, is_numeral, is_within}
use Rattle.script_text.specs.Paths.{path_of}
use Rattle.script_text.specs.Payloads.{contents_of}
use Rattle.world_link.specs.declared.directive.RequestId.{RequestId}
use Rattle.world_link.specs.declared.directive.Directive.{Directive}
use Rattle.world_link.specs.declared.directive.Directive.TheVariants as directives
use Rattle.world_link.specs.declared.event.Event.{Event}
use Rattle.world_link.specs.Directives as lines
use Rattle.world_link.specs.Events.{event_of}
use Rattle.world_link.specs.Fates.{FateView}
use Rattle.world_link.specs.Honest.{IsBound, IsBounded}
use Rattle.world_link.specs.Plans.{PlanView, is_same, destined, planned, no_plan}

-- ---- lines

abbrev pub Limits : Directive → Type 0
Limits (directives.Limit s most) = 1 ≤ most
Limits d = ⊤

abbrev pub MayLimit : Option Directive → Type 0
MayLimit None = ⊤
MayLimit (Some d) = Limits d

and_then_limits : {A : Type 0} (f : A → Option Directive) (o : Option A) → ((a : A) → MayLimit (f a)) → MayLimit (option_and_then f o)
and_then_limits f None h = tt
and_then_limits f (Some a) h = h a

map_limits : {A : Type 0} (f : A → Directive) (o : Option A) → ((a : A) → Limits (f a)) → MayLimit (option_map f o)
map_limits f None h = tt
map_limits f (Some a) h = h a

tick_limits : (words : List (List ℕ)) → MayLimit (lines.tick_of words)
tick_limits words = and_then_limits _ (one words) (λ w. map_limits (λ n. directives.Tick n) (number_of 0 4294967295 w) (λ n. tt))

dir_limits : (words : List (List ℕ)) → MayLimit (lines.dir_of words)
dir_limits words = and_then_limits _ (one words) (λ w. map_limits (λ path. directives.Place path None) (path_of w) (λ n. tt))

placed_limits : (path : Option (List (List ℕ))) (bytes : Option (List ℕ)) → MayLimit (lines.placed path bytes)
placed_limits None bytes = tt
placed_limits (Some path) None = tt
placed_limits (Some path) (Some bytes) = tt

file_limits : (words : List (List ℕ)) → MayLimit (lines.file_of words)
file_limits words = and_then_limits _ (two words) (λ w. placed_limits (path_of w.0) (contents_of w.1))

mount_limits : (words : List (List ℕ)) → MayLimit (lines.mount_of words)
mount_limits words = and_then_limits _ (one words) (λ w. map_limits (λ n. directives.Mount n) (lines.count_of w) (λ n. tt))

no_dial_limits : (words : List (List ℕ)) → MayLimit (lines.no_dial_of words)
no_dial_limits words = and_then_limits _ (one words) (λ w. map_limits (λ n. directives.NoDial n) (lines.count_of w) (λ n. tt))

lose_limits : (words : List (List ℕ)) → MayLimit (lines.lose_of words)
lose_limits words = and_then_limits _ (two words) (λ w. map_limits (λ s. directives.Lose s) (lines.sending_of w.0 w.1) (λ n. tt))

mute_limits : (words : List (List ℕ)) → MayLimit (lines.mute_of words)
mute_limits words = and_then_limits _ (two words) (λ w. map_limits (λ s. directives.Mute s) (lines.sending_of w.0 w.1) (λ n. tt))

held_limits : (s turn : Option RequestId) → MayLimit (lines.held s turn)
held_limits None turn = tt
held_limits (Some s) None = tt
held_limits (Some s) (Some turn) = tt

hold_limits : (words : List (List ℕ)) → MayLimit (lines.hold_of words)
hold_limits words = and_then_limits _ (four words) (λ w. held_limits (lines.sending_of w.0 w.1) (lines.sending_of w.2 w.3))

repeated_limits : (s turn : Option RequestId) → MayLimit (lines.repeated s turn)
repeated_limits None turn = tt
repeated_limits (Some s) None = tt
repeated_limits (Some s) (Some turn) = tt

late_limits : (words : List (List ℕ)) → MayLimit (lines.late_of words)
late_limits words = and_then_limits _ (four words) (λ w. repeated_limits (lines.sending_of w.0 w.1) (lines.sending_of w.2 w.3))

answered_limits : (s : Option RequestId) (status : Option ℕ) → MayLimit (lines.answered s status)
answered_limits None status = tt
answered_limits (Some s) None = tt
answered_limits (Some s) (Some status) = cond_both (s.proc == 0) None (Some (directives.Answer s status)) MayLimit (λ e. tt) (λ e. tt)

answer_limits : (words : List (List ℕ)) → MayLimit (lines.answer_of words)
answer_limits words = and_then_limits _ (three words) (λ w. answered_limits (lines.sending_of w.0 w.1) (lines.count_of w.2))

-- a count is 1 or above
abbrev IsCount : Option ℕ → Type 0
IsCount None = ⊤
IsCount (Some n) = 1 ≤ n

counts : (digits : List ℕ) → IsCount (lines.count_of digits)
counts digits =
    cond_both (is_numeral digits && is_within 1 4294967295 (digits_value 10 digits)) (Some (digits_value 10 digits)) None IsCount
    (λ e. leb-true 1 (digits_value 10 digits) (and_parts (nat_le 1 (digits_value 10 digits)) (nat_le (digits_value 10 digits) 4294967295) (and_parts (is_numeral digits) (is_within 1 4294967295 (digits_value 10 digits)) e).1).0)
    (λ e. tt)

broken_limits : (s : Option RequestId) (bytes status : Option ℕ) → MayLimit (lines.broken s bytes status)
broken_limits None bytes status = tt
broken_limits (Some s) None status = tt
broken_limits (Some s) (Some bytes) None = tt
broken_limits (Some s) (Some bytes) (Some status) = cond_both (s.proc == 7) (Some (directives.Partial s (record { bytes = bytes; status = status }))) None MayLimit (λ e. tt) (λ e. tt)

partial_limits : (words : List (List ℕ)) → MayLimit (lines.partial_of words)
partial_limits words = and_then_limits _ (four words) (λ w. broken_limits (lines.sending_of w.0 w.1) (number_of 0 65536 w.2) (lines.count_of w.3))

limited_limits : (s : Option RequestId) (most : Option ℕ) → IsCount most → MayLimit (lines.limited s most)
limited_limits None most c = tt
limited_limits (Some s) None c = tt
limited_limits (Some s) (Some most) c = c

limit_limits : (words : List (List ℕ)) → MayLimit (lines.limit_of words)
limit_limits words = and_then_limits _ (three words) (λ w. limited_limits (lines.sending_of w.0 w.1) (lines.count_of w.2) (counts w.2))

happens_before_limits : (s : Option RequestId) (event : Option Event) → MayLimit (lines.happens_before s event)
happens_before_limits None event = tt
happens_before_limits (Some s) None = tt
happens_before_limits (Some s) (Some event) = tt

before_limits : (words : List (List ℕ)) → MayLimit (lines.before_of words)
before_limits [] = tt
before_limits (proc ∷ []) = tt
before_limits (proc ∷ k ∷ words) = happens_before_limits (lines.sending_of proc k) (event_of words)

happens_after_limits : (s : Option RequestId) (event : Option Event) → MayLimit (lines.happens_after s event)
happens_after_limits None event = tt
happens_after_limits (Some s) None = tt
happens_after_limits (Some s) (Some event) = tt

after_limits : (words : List (List ℕ)) → MayLimit (lines.after_of words)
after_limits [] = tt
after_limits (proc ∷ []) = tt
after_limits (proc ∷ k ∷ words) = happens_after_limits (lines.sending_of proc k) (event_of words)

one_of : (b : Bool) (x y : Option Directive) → MayLimit x → MayLimit y → MayLimit (if b then x else y)
one_of true x y h k = h
one_of false x y h k = k

start_limits : (command : List ℕ) (words : List (List ℕ)) → MayLimit (lines.start_of command words)
start_limits command words =
    one_of (bytes_eq command (codes "tick")) _ _ (tick_limits words)
    (one_of (bytes_eq command (codes "dir")) _ _ (dir_limits words)
    (one_of (bytes_eq command (codes "file")) _ _ (file_limits words)
    (one_of (bytes_eq command (codes "mnt")) _ _ (mount_limits words)
    (one_of (bytes_eq command (codes "nodial")) _ None (no_dial_limits words) tt))))

turn_limits : (command : List ℕ) (words : List (List ℕ)) → MayLimit (lines.turn_of command words)
turn_limits command words =
    one_of (bytes_eq command (codes "before")) _ _ (before_limits words)
    (one_of (bytes_eq command (codes "after")) _ _ (after_limits words)
    (one_of (bytes_eq command (codes "lose")) _ _ (lose_limits words)
    (one_of (bytes_eq command (codes "mute")) _ _ (mute_limits words)
    (one_of (bytes_eq command (codes "hold")) _ _ (hold_limits words)
    (one_of (bytes_eq command (codes "late")) _ _ (late_limits words)
    (one_of (bytes_eq command (codes "answer")) _ _ (answer_limits words)
    (one_of (bytes_eq command (codes "partial")) _ _ (partial_limits words)
    (one_of (bytes_eq command (codes "limit")) _ None (limit_limits words) tt))))))))

either_limits : (first second : Option Directive) → MayLimit first → MayLimit second → MayLimit (lines.either first second)
either_limits None second h k = k
either_limits (Some d) second h k = h

pub line_limits : (words : List (List ℕ)) → MayLimit (lines.directive_of words)
line_limits [] = tt
line_limits (command ∷ words) = either_limits (lines.start_of command words) (lines.turn_of command words) (start_limits command words) (turn_limits command words)

-- ---- plans

pub none_bounded : IsBounded no_plan
none_bounded s = tt

destined_bounded : (plan : PlanView) (s : RequestId) (fate : FateView) → IsBound fate.limit → IsBounded plan → IsBounded (destined plan s fate)
destined_bounded plan s fate m b other = cond_both (is_same s other) fate (plan.fate other) (λ (f : FateView). IsBound f.limit) (λ e. m) (λ e. b other)

pub planned_bounded : (plan : PlanView) (d : Directive) → Limits d → IsBounded plan → IsBounded (planned plan d)
planned_bounded plan (directives.Tick ms) l b = b
planned_bounded plan (directives.Place path file) l b = b
planned_bounded plan (directives.Mount status) l b = b
planned_bounded plan (directives.NoDial n) l b = b
planned_bounded plan (directives.Before s event) l b = destined_bounded plan s _ (b s) b
planned_bounded plan (directives.After s event) l b = destined_bounded plan s _ (b s) b
planned_bounded plan (directives.Lose s) l b = destined_bounded plan s _ (b s) b
planned_bounded plan (directives.Mute s) l b = destined_bounded plan s _ (b s) b
planned_bounded plan (directives.Hold s turn) l b = destined_bounded plan s _ (b s) b
planned_bounded plan (directives.Late s turn) l b = destined_bounded plan turn _ (b turn) b
planned_bounded plan (directives.Answer s status) l b = destined_bounded plan s _ (b s) b
planned_bounded plan (directives.Partial s part) l b = destined_bounded plan s _ (b s) b
planned_bounded plan (directives.Limit s most) l b = destined_bounded plan s _ l b
