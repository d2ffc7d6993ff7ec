-- What is read as a node is spelled so, and what is spelled so is read.
use Rattle.std.proofs.Common.{◌≡◌, ◌⊎◌, ℕ, List, ◌++◌, Bool, true, false, cond, ◌||◌, ◌==◌, Result, Ok, refl, sym, subst, inl, inr}
use Rattle.std.proofs.lemmas.Bool.{eqb-true}
use Rattle.xdr_codec.specs.declared.reader.XdrFault.{XdrFault}
use Rattle.xdr_codec.specs.Reading.{u32_at}
use Rattle.xdr_codec.specs.Spells.{◌⨾◌, SpellsU32, Wrote}
use Rattle.xdr_codec.proofs.Laws.{Takes, Codec, bind_ok, u32_codec}
use Rattle.xdr_codec.proofs.MoreLaws.{ok_is, both}
use Rattle.nfs_types.specs.declared.set_attr.SetAttr.{SetAttr}
use Rattle.nfs_types.specs.Fields.{set_attr_at}
use Rattle.nfs_types.specs.Spells.{SpellsSetAttr}
use Rattle.nfs_types.proofs.Laws.{set_attr_codec}
use Rattle.nfs_dir_calls.specs.declared.mknod.Node.{Node}
use Rattle.nfs_dir_calls.specs.declared.mknod.Node.TheVariants.{Device, Pipe, Plain}
use Rattle.nfs_dir_calls.specs.Pairs.{◌▸◌}
use Rattle.nfs_dir_calls.specs.Nodes.{is_device, is_pipe, device_of, pipe_of, node_of, node_at, IsNode, SpellsFields, SpellsNode}
use Rattle.nfs_dir_calls.proofs.Readers.{pair_codec, after_text}

abbrev Numbers : Type 0
Numbers = SetAttr × (ℕ × ℕ)

abbrev SpellsNumbers : Numbers → List ℕ → Type 0
SpellsNumbers v = SpellsSetAttr v.0 ⨾ SpellsU32 v.1.0 ⨾ SpellsU32 v.1.1

numbers_codec : Codec (set_attr_at ▸ u32_at ▸ u32_at) SpellsNumbers
numbers_codec = pair_codec set_attr_codec (pair_codec u32_codec u32_codec)

device_takes : (bytes : List ℕ) (kind : ℕ) (more : List ℕ) (x : Node × List ℕ) → is_device kind ≡ true → Takes SpellsU32 bytes (kind, more) → device_of kind more ≡ Ok x → Takes SpellsNode bytes x
unfolding device_of
device_takes bytes kind more x k t e =
    let o = bind_ok ((set_attr_at ▸ u32_at ▸ u32_at) more) (λ v. Ok (Device kind v.0.0 v.0.1.0 v.0.1.1, v.1)) x e in
    let pair : Node × List ℕ = (Device kind o.0.0.0 o.0.0.1.0 o.0.0.1.1, o.0.1) in
    subst (λ (y : Node × List ℕ). Takes SpellsNode bytes y) (ok_is pair x o.2)
    (both {T = SpellsNumbers} {U = SpellsNode} bytes (kind, more) o.0 (Device kind o.0.0.0 o.0.0.1.0 o.0.0.1.1) t (numbers_codec.takes more o.0 t.rest o.1) (λ text s. record { kind = k; is = s }))

pipe_takes : (bytes : List ℕ) (kind : ℕ) (more : List ℕ) (x : Node × List ℕ) → is_pipe kind ≡ true → Takes SpellsU32 bytes (kind, more) → pipe_of kind more ≡ Ok x → Takes SpellsNode bytes x
unfolding pipe_of
pipe_takes bytes kind more x k t e =
    let o = bind_ok (set_attr_at more) (λ v. Ok (Pipe kind v.0, v.1)) x e in
    let pair : Node × List ℕ = (Pipe kind o.0.0, o.0.1) in
    subst (λ (y : Node × List ℕ). Takes SpellsNode bytes y) (ok_is pair x o.2)
    (both {T = SpellsSetAttr} {U = SpellsNode} bytes (kind, more) o.0 (Pipe kind o.0.0) t (set_attr_codec.takes more o.0 t.rest o.1) (λ text s. record { kind = k; is = s }))

abbrev plain_of : ℕ → List ℕ → Result (Node × List ℕ) XdrFault
plain_of kind bytes = Ok (Plain kind, bytes)

plain_takes : (bytes : List ℕ) (kind : ℕ) (more : List ℕ) (x : Node × List ℕ) → is_device kind ≡ false → is_pipe kind ≡ false → Takes SpellsU32 bytes (kind, more) → plain_of kind more ≡ Ok x → Takes SpellsNode bytes x
plain_takes bytes kind more x k l t e =
    let pair : Node × List ℕ = (Plain kind, more) in
    subst (λ (y : Node × List ℕ). Takes SpellsNode bytes y) (ok_is pair x e)
    (record { front = t.front; is = t.is; spells = record { kind = (k, l); is = t.spells }; rest = t.rest })

abbrev Choice : Bool → Bool → ℕ → List ℕ → Result (Node × List ℕ) XdrFault
Choice a b kind more = cond a (device_of kind more) (cond b (pipe_of kind more) (plain_of kind more))

choice_takes : (bytes : List ℕ) (kind : ℕ) (more : List ℕ) (x : Node × List ℕ) (a b : Bool) → is_device kind ≡ a → is_pipe kind ≡ b → Takes SpellsU32 bytes (kind, more) → Choice a b kind more ≡ Ok x → Takes SpellsNode bytes x
choice_takes bytes kind more x true b k l t e = device_takes bytes kind more x k t e
choice_takes bytes kind more x false true k l t e = pipe_takes bytes kind more x l t e
choice_takes bytes kind more x false false k l t e = plain_takes bytes kind more x k l t e

either : (a b : Bool) → (a || b) ≡ true → (a ≡ true) ⊎ (b ≡ true)
either true b h = inl refl
either false b h = inr h

-- no kind is of both
not_device : (kind : ℕ) → is_pipe kind ≡ true → is_device kind ≡ false
not_device kind k =
    elim (either (kind == 6) (kind == 7) k) [
      | inl e ↦ subst (λ (n : ℕ). is_device n ≡ false) (sym (eqb-true kind 6 e)) refl
      | inr e ↦ subst (λ (n : ℕ). is_device n ≡ false) (sym (eqb-true kind 7 e)) refl
    ]

node_again : (v : Node) (text rest : List ℕ) → SpellsNode v text → node_at (text ++ rest) ≡ Ok (v, rest)
unfolding node_at device_of pipe_of
node_again (Device kind set major minor) text rest s =
    let k = s.is in
    rw (after_text text k.front k.back rest k.is, u32_codec.again kind k.front (k.back ++ rest) k.one, s.kind, numbers_codec.again (set, (major, minor)) k.back rest k.two) refl
node_again (Pipe kind set) text rest s =
    let k = s.is in
    rw (after_text text k.front k.back rest k.is, u32_codec.again kind k.front (k.back ++ rest) k.one, not_device kind s.kind, s.kind, set_attr_codec.again set k.back rest k.two) refl
node_again (Plain kind) text rest s = rw (u32_codec.again kind text rest s.is, s.kind.0, s.kind.1) refl

pub node_codec : Codec node_at SpellsNode
unfolding node_at
node_codec = record {
  takes = λ bytes x fits e.
      let o = bind_ok (u32_at bytes) (λ kind. node_of kind.0 kind.1) x e in
      choice_takes bytes o.0.0 o.0.1 x (is_device o.0.0) (is_pipe o.0.0) refl refl (u32_codec.takes bytes o.0 fits o.1) o.2;
  again = λ v text rest s. node_again v text rest s;
}

-- a node of a kind that fits, written field by field
pub wrote_node : (v : Node) (old new : List ℕ) → IsNode v → Wrote (SpellsFields v) old new → Wrote (SpellsNode v) old new
wrote_node v old new k w = record { text = w.text; is = w.is; spells = record { kind = k; is = w.spells } }
