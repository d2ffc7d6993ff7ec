-- What the record means that answers a call of GETPORT (RFC 1833, section 3.2; RFC 5531, section 9).
use Rattle.std.specs.Prelude.{◌≡◌, ◌≢◌, ◌≤◌, ◌<◌, ◌⊎◌, ◌+◌, ◌==◌, ◌||◌, nat_lt, ℕ, List, length, Result, Ok, Err, if◌then◌else◌}
use Rattle.xdr_codec.specs.Spells.{SpellsU32}
use Rattle.rpc_message.specs.Reply.{SpellsAccepted, SpellsRefusal}
use Rattle.world_model.specs.Rules.{most_bytes, IsNotReply}
use Rattle.port_finder.specs.declared.reply.Refusal.{Refusal}
use Rattle.port_finder.specs.declared.reply.Refusal.TheVariants as refusals

-- RPC_MISMATCH has the number 100, an auth status that and 200
abbrev pub denial_number : ℕ → ℕ → ℕ
denial_number stat first = if stat == 0 then 100 else 200 + first

-- The record is an accepted reply under this xid, with this port.
pub record SpellsPort (x port : ℕ) (rec : List ℕ) : Type 0 where
  pub results : List ℕ
  pub accepted : SpellsAccepted x results rec
  pub is : SpellsU32 port results

-- neither an accepted reply with a port nor a refusal by RPC is spelled
pub record IsUnspelled (x : ℕ) (rec : List ℕ) : Type 0 where
  pub no_port : (port : ℕ) → SpellsPort x port rec → ⊥
  pub no_refusal : (n : ℕ) → SpellsRefusal x n rec → ⊥

-- The record breaks rule n of what a reply has to be.
pub data Breaks (x : ℕ) (rec : List ℕ) (n : ℕ) : Type 0 where
  -- 1: it isn't a reply
  not_a_reply : n ≡ 1 → IsNotReply rec → Breaks x rec n
  -- 2: the grammar doesn't spell it
  unspelled : n ≡ 2 → (IsNotReply rec → ⊥) → IsUnspelled x rec → Breaks x rec n
  -- 7: it is too long
  too_long : n ≡ 7 → most_bytes < length rec → Breaks x rec n

-- The record under the xid has these results, and no others, and is no refusal.
pub record HasResults (x : ℕ) (results rec : List ℕ) : Type 0 where
  pub is : SpellsAccepted x results rec
  pub only : (others : List ℕ) → SpellsAccepted x others rec → others ≡ results
  pub reply : IsNotReply rec → ⊥
  pub accepted : (n : ℕ) → SpellsRefusal x n rec → ⊥

-- the results in the record; or it refuses the call, or breaks a rule
abbrev pub ResultsIn : ℕ → List ℕ → Result (List ℕ) Refusal → Type 0
ResultsIn x rec (Ok results) = HasResults x results rec
ResultsIn x rec (Err refusals.None) = ⊥
ResultsIn x rec (Err (refusals.Rpc n)) = SpellsRefusal x n rec
ResultsIn x rec (Err (refusals.Bad n)) = Breaks x rec n

-- a port: 1 to 65,535
abbrev pub IsPort : ℕ → Type 0
IsPort port = (1 ≤ port) × (port ≤ 65535)

-- a port that is registered: above 0 and below 65,536
abbrev pub registered_port : ℕ → Result ℕ Refusal
registered_port port = if (port == 0) || nat_lt 65535 port then Err refusals.None else Ok port

-- The record tells the port; or that none is registered, or one above 65,535; or it refuses the call, or breaks a rule.
abbrev pub Means : ℕ → List ℕ → Result ℕ Refusal → Type 0
Means x rec (Ok port) = SpellsPort x port rec × (1 ≤ port) × (port ≤ 65535)
Means x rec (Err refusals.None) = (port : ℕ) × SpellsPort x port rec × ((port ≡ 0) ⊎ (65535 < port))
Means x rec (Err (refusals.Rpc n)) = SpellsRefusal x n rec
Means x rec (Err (refusals.Bad n)) = Breaks x rec n
