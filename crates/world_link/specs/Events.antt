-- What happens at the server beside the client's calls, as a schedule's words say it.
use Rattle.std.specs.Prelude.{ℕ, List, [], ◌∷◌, codes, Option, Some, None, option_and_then, if◌then◌else◌}
use Rattle.std.specs.Option.{option_map}
use Rattle.std.specs.Str.{bytes_eq}
use Rattle.script_text.specs.Lines.{one, two, three}
use Rattle.script_text.specs.Numbers.{number_of}
use Rattle.script_text.specs.Payloads.{contents_of}
use Rattle.script_text.specs.Paths.{path_of}
use Rattle.world_link.specs.declared.event.Event.{Event}
use Rattle.world_link.specs.declared.event.Event.TheVariants as events

-- an offset or a size, up to 2 ^ 62
abbrev pub offset_of : List ℕ → Option ℕ
offset_of digits = number_of 0 4611686018427387904 digits

abbrev pub reboot_of : List (List ℕ) → Option Event
reboot_of [] = Some events.Reboot
reboot_of (word ∷ words) = None

-- a path other than `/` alone, which is no file and can't be renamed or removed
abbrev pub named : List (List ℕ) → Option (List (List ℕ))
named [] = None
named (name ∷ names) = Some (name ∷ names)

abbrev pub named_path_of : List ℕ → Option (List (List ℕ))
named_path_of word = option_and_then named (path_of word)

-- a path
abbrev pub flush_of : List (List ℕ) → Option Event
flush_of words = option_and_then (λ path. option_map (λ path. events.Flush path) (named_path_of path)) (one words)

-- a path
abbrev pub remove_of : List (List ℕ) → Option Event
remove_of words = option_and_then (λ path. option_map (λ path. events.Remove path) (named_path_of path)) (one words)

abbrev pub written : Option (List (List ℕ)) → Option ℕ → Option (List ℕ) → Option Event
written (Some path) (Some offset) (Some bytes) = Some (events.Write path offset bytes)
written path offset bytes = None

-- a path, an offset and bytes
abbrev pub write_of : List (List ℕ) → Option Event
write_of words = option_and_then (λ w. written (named_path_of w.0) (offset_of w.1) (contents_of w.2)) (three words)

abbrev pub truncated : Option (List (List ℕ)) → Option ℕ → Option Event
truncated (Some path) (Some size) = Some (events.Truncate path size)
truncated path size = None

-- a path and a size
abbrev pub truncate_of : List (List ℕ) → Option Event
truncate_of words = option_and_then (λ w. truncated (named_path_of w.0) (offset_of w.1)) (two words)

abbrev pub created : Option (List (List ℕ)) → Option (List ℕ) → Option Event
created (Some path) (Some bytes) = Some (events.Create path bytes)
created path bytes = None

-- a path and bytes
abbrev pub create_of : List (List ℕ) → Option Event
create_of words = option_and_then (λ w. created (named_path_of w.0) (contents_of w.1)) (two words)

abbrev pub renamed : Option (List (List ℕ)) → Option (List (List ℕ)) → Option Event
renamed (Some from) (Some to) = Some (events.Rename from to)
renamed from to = None

-- two paths
abbrev pub rename_of : List (List ℕ) → Option Event
rename_of words = option_and_then (λ w. renamed (named_path_of w.0) (named_path_of w.1)) (two words)

-- by the word that names its kind
abbrev pub event_named : List ℕ → List (List ℕ) → Option Event
event_named kind words =
    if bytes_eq kind (codes "reboot") then reboot_of words else
    (if bytes_eq kind (codes "flush") then flush_of words else
    (if bytes_eq kind (codes "write") then write_of words else
    (if bytes_eq kind (codes "truncate") then truncate_of words else
    (if bytes_eq kind (codes "create") then create_of words else
    (if bytes_eq kind (codes "remove") then remove_of words else
    (if bytes_eq kind (codes "rename") then rename_of words else None))))))

-- the event that words ask for
abbrev pub event_of : List (List ℕ) → Option Event
event_of [] = None
event_of (kind ∷ words) = event_named kind words
