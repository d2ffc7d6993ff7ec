-- The text of answers: a line for each operation that was answered, in the order of the answers.
use Rattle.std.specs.Prelude.{ℕ, ◌+◌, ◌/◌, ◌%◌, ◌==◌, ◌&&◌, nat_le, not, Bool, List, [], ◌∷◌, ◌++◌, codes, decimal, if◌then◌else◌}
use Rattle.hex.specs.Hex.{encode_lower}
use Rattle.nfs_types.specs.declared.attr.Attr.{Attr}
use Rattle.world_model.specs.declared.answer.Answer.{Answer}
use Rattle.world_model.specs.declared.answer.Answer.TheVariants as answers
use Rattle.world_model.specs.declared.answer.Fault.{Fault}
use Rattle.world_model.specs.declared.answer.Fault.TheVariants as faults
use Rattle.world_model.specs.declared.answer.Value.{Value}
use Rattle.world_model.specs.declared.answer.Value.TheVariants as values
use Rattle.world_model.specs.declared.entry.Entry.{Entry}
use Rattle.world_model.specs.declared.entry.Entry.TheVariants.{Answered}

abbrev pub fault_text : Fault → List ℕ
fault_text (faults.Nfs n) = codes "nfs " ++ decimal n
fault_text (faults.Rpc n) = codes "rpc " ++ decimal n
fault_text (faults.Bad n) = codes "bad " ++ decimal n
fault_text faults.Lost = codes "lost"
fault_text faults.Spent = codes "spent"
fault_text faults.Slot = codes "slot"
fault_text faults.Mode = codes "mode"
fault_text faults.Kind = codes "type"
fault_text faults.Many = codes "many"
fault_text faults.Memory = codes "memory"

-- a byte that a name or text shows as it is: one from 33 to 126 other than `%`
abbrev pub is_shown : ℕ → Bool
is_shown byte = nat_le 33 byte && nat_le byte 126 && not (byte == 37)

-- each other byte is `%` and its two hex digits
abbrev pub shown_byte : ℕ → List ℕ
shown_byte byte = if is_shown byte then byte ∷ [] else 37 ∷ encode_lower (byte ∷ [])

unfoldable pub shown : List ℕ → List ℕ
shown [] = []
shown (byte ∷ bytes) = shown_byte byte ++ shown bytes

-- the text after a space, and nothing if it is empty
abbrev pub spaced : List ℕ → List ℕ
spaced [] = []
spaced (byte ∷ bytes) = 32 ∷ byte ∷ bytes

-- each name after a space
unfoldable pub names_text : List (List ℕ) → List ℕ
names_text [] = []
names_text (name ∷ names) = codes " " ++ shown name ++ names_text names

-- a digit's byte
abbrev pub octal_digit : ℕ → ℕ
octal_digit n = 48 + n % 8

-- the lower 12 bits as four octal digits
unfoldable pub mode_text : ℕ → List ℕ
mode_text mode = octal_digit (mode / 512) ∷ octal_digit (mode / 64) ∷ octal_digit (mode / 8) ∷ octal_digit mode ∷ []

-- what is shown of an object's attributes (RFC 1813, section 2.6, fattr3)
unfoldable pub attr_text : Attr → List ℕ
attr_text a =
    decimal a.kind ++ codes " " ++ mode_text a.mode ++ codes " " ++ decimal a.nlink ++ codes " " ++ decimal a.uid ++ codes " " ++ decimal a.gid ++ codes " "
    ++ decimal a.size ++ codes " " ++ decimal a.fileid
    ++ codes " " ++ decimal a.mtime.seconds

-- what follows `ok`
abbrev pub value_text : Value → List ℕ
value_text values.Nothing = []
value_text (values.Bytes bytes) = spaced (encode_lower bytes)
value_text (values.Text text) = spaced (shown text)
value_text (values.Attrs attr) = codes " " ++ attr_text attr
value_text (values.Bits bits) = codes " " ++ decimal bits
value_text (values.Names names) = names_text names

abbrev pub answer_text : Answer → List ℕ
answer_text (answers.Done value) = codes "ok" ++ value_text value
answer_text (answers.Refused fault) = fault_text fault

-- lane, line and text, parted by single spaces, and a line feed
unfoldable pub line_text : ℕ → ℕ → Answer → List ℕ
line_text lane line answer = decimal lane ++ codes " " ++ decimal line ++ codes " " ++ answer_text answer ++ codes "\n"

abbrev pub transcript : List Entry → List ℕ
transcript [] = []
transcript (Answered lane line answer ∷ es) = line_text lane line answer ++ transcript es
transcript (e ∷ es) = transcript es

-- why a mount was refused: its status alone, or the word of the refusal and its number
abbrev pub mount_fault_text : Fault → List ℕ
mount_fault_text (faults.Nfs n) = decimal n
mount_fault_text fault = fault_text fault

-- the text of a session whose mount was refused
unfoldable pub mount_text : Fault → List ℕ
mount_text fault = codes "mount " ++ mount_fault_text fault ++ codes "\n"
