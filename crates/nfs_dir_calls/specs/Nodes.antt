-- What MKNOD makes (RFC 1813, section 3.3.11, mknoddata3). After a kind of 3 or 4 come the attributes to set and
-- the two numbers of the device. After 6 or 7 come the attributes to set, and after another nothing.
use Rattle.std.specs.Prelude.{◌≡◌, ℕ, List, ◌++◌, Bool, true, false, ◌||◌, ◌==◌, Result, Ok, if◌then◌else◌}
use Rattle.xdr_codec.specs.declared.reader.XdrFault.{XdrFault}
use Rattle.xdr_codec.specs.Reading.{◌>>=◌, u32_at}
use Rattle.xdr_codec.specs.Spelling.{u32_bytes}
use Rattle.xdr_codec.specs.Spells.{◌⨾◌, SpellsU32}
use Rattle.nfs_types.specs.Fields.{set_attr_at, set_attr_bytes}
use Rattle.nfs_types.specs.Spells.{SpellsSetAttr}
use Rattle.nfs_dir_calls.specs.declared.mknod.Node.{Node}
use Rattle.nfs_dir_calls.specs.declared.mknod.Node.TheVariants.{Device, Pipe, Plain}
use Rattle.nfs_dir_calls.specs.Pairs.{◌▸◌}

abbrev pub is_device : ℕ → Bool
is_device kind = kind == 3 || kind == 4

abbrev pub is_pipe : ℕ → Bool
is_pipe kind = kind == 6 || kind == 7

-- the rest of a node of this kind
unfoldable pub device_of : ℕ → List ℕ → Result (Node × List ℕ) XdrFault
device_of kind bytes = (set_attr_at ▸ u32_at ▸ u32_at) bytes >>= λ v. Ok (Device kind v.0.0 v.0.1.0 v.0.1.1, v.1)

unfoldable pub pipe_of : ℕ → List ℕ → Result (Node × List ℕ) XdrFault
pipe_of kind bytes = set_attr_at bytes >>= λ v. Ok (Pipe kind v.0, v.1)

abbrev pub node_of : ℕ → List ℕ → Result (Node × List ℕ) XdrFault
node_of kind bytes = if is_device kind then device_of kind bytes else (if is_pipe kind then pipe_of kind bytes else Ok (Plain kind, bytes))

unfoldable pub node_at : List ℕ → Result (Node × List ℕ) XdrFault
node_at bytes = u32_at bytes >>= λ kind. node_of kind.0 kind.1

unfoldable pub node_bytes : Node → List ℕ
node_bytes (Device kind set major minor) = u32_bytes kind ++ set_attr_bytes set ++ u32_bytes major ++ u32_bytes minor
node_bytes (Pipe kind set) = u32_bytes kind ++ set_attr_bytes set
node_bytes (Plain kind) = u32_bytes kind

-- a node whose kind fits what comes with it
abbrev pub IsNode : Node → Type 0
IsNode (Device kind set major minor) = is_device kind ≡ true
IsNode (Pipe kind set) = is_pipe kind ≡ true
IsNode (Plain kind) = (is_device kind ≡ false) × (is_pipe kind ≡ false)

abbrev pub SpellsFields : Node → List ℕ → Type 0
SpellsFields (Device kind set major minor) = SpellsU32 kind ⨾ SpellsSetAttr set ⨾ SpellsU32 major ⨾ SpellsU32 minor
SpellsFields (Pipe kind set) = SpellsU32 kind ⨾ SpellsSetAttr set
SpellsFields (Plain kind) = SpellsU32 kind

pub record SpellsNode (v : Node) (bytes : List ℕ) : Type 0 where
  pub kind : IsNode v
  pub is : SpellsFields v bytes
