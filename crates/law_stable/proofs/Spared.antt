-- Which entries spare a place of a file: those of this client that were first sent later have the byte there, and earlier calls aren't executed any more.
use Rattle.std.proofs.Common.{inl, inr, ◌≡◌, ◌<◌, ◌≤◌, ◌+◌, ℕ, suc, List, Some, slice_get, refl, subst, arith}
use Rattle.std.proofs.lemmas.Bool.{cases_lt}
use Rattle.std.proofs.lemmas.Option.{slice_get_within}
use Rattle.nfs_dir_calls.specs.declared.call.DirCall.TheVariants as dirs
use Rattle.nfs_dir_calls.specs.declared.create.Making.TheVariants as makings
use Rattle.nfs_file_calls.specs.declared.call.FileCall.TheVariants as files
use Rattle.world_model.specs.declared.entry.Entry.{Entry}
use Rattle.world_model.specs.declared.entry.Entry.TheVariants.{Executed, Foreign}
use Rattle.world_model.specs.declared.message.Call.{Call}
use Rattle.world_model.specs.declared.message.Call.TheVariants as calls
use Rattle.world_model.specs.declared.message.Reply.{Reply}
use Rattle.world_model.specs.Entries.{At}
use Rattle.world_model.specs.History.{History}
use Rattle.world_model.specs.Lawful.{Lawful, WasSent}
use Rattle.world_model.specs.Messages.{HasXid, SpellsCall}
use Rattle.world_model.specs.Once.{Once}
use Rattle.world_model.specs.Server.{Server}
use Rattle.claims.specs.Touched.{ChangesPlace}
use Rattle.world_model.specs.Waiting.{FirstSent}
use Rattle.world_model.proofs.Goes.{SetsSize, by_set, by_meeting}
use Rattle.law_calls.specs.Calls.{Numbered}
use Rattle.law_calls.proofs.CallsWait.{was_sent, xid_of_call}
use Rattle.law_stable.specs.OwnCalls.{Alters, writes, sizes, OwnCalls, NoForeign}
use Rattle.law_stable.proofs.FirstSends.{first_of}

-- What an entry may not do for a place to be kept: a WRITE of this client has the byte there, its calls cut nothing off, and other clients keep it.
pub record Spares (e : Entry) (after : Server) (f : List ℕ) (i v : ℕ) : Type 0 where
  pub writing : (xid offset how k b : ℕ) (bytes : List ℕ) (reply : Reply) → e ≡ Executed xid (calls.File (files.Write f offset how bytes)) reply → i ≡ offset + k
      → slice_get bytes k ≡ Some b → b ≡ v
  pub cutting : (xid size : ℕ) (call : Call) (reply : Reply) → e ≡ Executed xid call reply → SetsSize after call reply f size → size ≤ i → ⊥
  pub others : (call : Call) (reply : Reply) → e ≡ Foreign call reply → ChangesPlace after f i call reply → ⊥

-- a call that is executed was first sent then
pub record FirstCall (h : List Entry) (n xid : ℕ) (call : Call) : Type 0 where
  pub place : ℕ
  pub bytes : List ℕ
  pub first : FirstSent h place xid bytes
  pub spells : SpellsCall xid call bytes
  pub before : place < n

pub first_call : (t : History) → Lawful t → Numbered t.entries → (n xid : ℕ) (call : Call) (reply : Reply) → At t.entries n (Executed xid call reply) → FirstCall t.entries n xid call
first_call t lawful numbered n xid call reply at =
    let s : WasSent t.entries n xid call = was_sent t lawful n xid call reply at in
    let under : HasXid s.bytes xid = xid_of_call xid call s.bytes s.spells in
    let f = first_of t.entries s.at xid s.bytes s.sent under in
    let same : s.bytes ≡ f.bytes = numbered.equal s.at f.place xid s.bytes f.bytes s.sent f.first.sent under f.first.under in
    let low = f.before in
    let lt = s.before in
    record { place = f.place; bytes = f.bytes; first = f.first; spells = subst (λ z. SpellsCall xid call z) same s.spells; before = omega (arith, low, lt) }

-- a call that alters the place and was first sent earlier isn't executed any more
early : (t : History) → Once t.entries → (from p : ℕ) (f : List ℕ) (i v : ℕ) → OwnCalls t.entries from p f i v → (n xid : ℕ) (call : Call) (reply : Reply)
    → At t.entries n (Executed xid call reply) → from ≤ n → (c : FirstCall t.entries n xid call) → Alters f i call → c.place < from → ⊥
early t once from p f i v own n xid call reply at le c alters lt =
    let heard = own.earlier c.place xid c.bytes call c.first c.spells alters lt in
    let late = once heard.at n xid heard.bytes call reply heard.got heard.under at in
    let before = heard.before in
    absurd (omega (arith, late, before, le))

pub spares : (t : History) → Lawful t → Once t.entries → Numbered t.entries → (from p : ℕ) (f : List ℕ) (i v : ℕ) → OwnCalls t.entries from p f i v → NoForeign t from p f i
    → (n : ℕ) (e : Entry) → At t.entries n e → from < n → n < p → Spares e (t.at (suc n)) f i v
spares t lawful once numbered from p f i v own none n e at low high = record {
  writing = λ xid offset how k b bytes reply is place byte.
      (let here : At t.entries n (Executed xid (calls.File (files.Write f offset how bytes)) reply) = subst (λ z. At t.entries n z) is at in
      let c = first_call t lawful numbered n xid (calls.File (files.Write f offset how bytes)) reply here in
      let before = c.before in
      let within = slice_get_within bytes k b byte in
      elim (cases_lt c.place from) [
        | inr ge ↦ own.later c.place xid c.bytes offset how k b bytes c.first c.spells ge (omega (arith, before, high)) place byte
        | inl lt ↦ absurd (early t once from p f i v own n xid _ reply here (omega (arith, low)) c (writes offset how bytes refl (omega (arith, place)) (omega (arith, place, within))) lt)
      ]);
  cutting = λ xid size call reply is sets low_size. by n e at low high xid size call reply is sets low_size;
  others = λ call reply is changes. none n call reply (subst (λ z. At t.entries n z) is at) low high changes;
}
  where
    by : (n : ℕ) (e : Entry) → At t.entries n e → from < n → n < p → (xid size : ℕ) (call : Call) (reply : Reply) → e ≡ Executed xid call reply → SetsSize (t.at (suc n)) call reply f size → size ≤ i → ⊥
    by n e at low high xid size call reply is (by_set set guard wcc is_call answer sized) le =
        let here : At t.entries n (Executed xid (calls.File (files.SetAttr f set guard)) reply) = subst (λ z. At t.entries n (Executed xid z reply)) is_call (subst (λ z. At t.entries n z) is at) in
        let c = first_call t lawful numbered n xid (calls.File (files.SetAttr f set guard)) reply here in
        let before = c.before in
        elim (cases_lt c.place from) [
          | inr ge ↦ own.uncut c.place xid c.bytes set guard size c.first c.spells ge (omega (arith, before, high)) sized le
          | inl lt ↦ early t once from p f i v own n xid _ reply here (omega (arith, low)) c (sizes set size guard refl sized le) lt
        ]
    by n e at low high xid size call reply is (by_meeting d name set object attr wcc is_call answer named sized) le =
        let here : At t.entries n (Executed xid (calls.Dir (dirs.Create d name (makings.Unchecked set))) reply) = subst (λ z. At t.entries n (Executed xid z reply)) is_call (subst (λ z. At t.entries n z) is at) in
        let s = was_sent t lawful n xid (calls.Dir (dirs.Create d name (makings.Unchecked set))) reply here in
        own.unsized s.at xid s.bytes d name set size s.sent s.spells sized
