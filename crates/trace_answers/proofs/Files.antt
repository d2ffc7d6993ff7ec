-- Which file an open found, and which one a put wrote.
use Rattle.std.proofs.Common.{◌≡◌, ◌<◌, ◌≤◌, ℕ, Bool, true, false, List, length, Option, Some, None, refl, sym, ◌∙◌, ap, subst, arith}
use Rattle.std.specs.Prelude.{MatchOption, if◌then◌else◌}
use Rattle.nfs_types.specs.declared.attr.Attr.{Attr}
use Rattle.nfs_types.specs.declared.wcc.Wcc.{Wcc}
use Rattle.nfs_dir_calls.specs.declared.call.DirCall.{DirCall}
use Rattle.nfs_dir_calls.specs.declared.call.DirCall.TheVariants as dirs
use Rattle.nfs_dir_calls.specs.declared.create.Making.{Making}
use Rattle.nfs_dir_calls.specs.declared.keeping.DirKept.{DirKept}
use Rattle.nfs_dir_calls.specs.declared.keeping.DirKept.TheVariants as found
use Rattle.nfs_file_calls.specs.declared.call.FileCall.{FileCall}
use Rattle.nfs_file_calls.specs.declared.call.FileCall.TheVariants as files
use Rattle.world_model.specs.declared.entry.Entry.{Entry}
use Rattle.world_model.specs.declared.entry.Entry.TheVariants.{Delivered}
use Rattle.world_model.specs.declared.message.Call.{Call}
use Rattle.world_model.specs.declared.message.Call.TheVariants as calls
use Rattle.world_model.specs.declared.message.Reply.{Reply}
use Rattle.world_model.specs.declared.message.Reply.TheVariants as replies
use Rattle.world_model.specs.Entries.{At}
use Rattle.world_model.specs.Messages.{HasXid, SpellsReply}
use Rattle.world_model.specs.Operations.{LastReply}
use Rattle.world_model.proofs.Places.{At-one, At-below}
use Rattle.claims.specs.Modes.{Modes}
use Rattle.claims.specs.Slots.{Finds, asked, looked_up, made, NamesFile, writes, commits}
use Rattle.trace_calls.specs.Coming.{FindsReplyTo, IsReplyTo}
use Rattle.trace_answers.specs.declared.calls.LastCall.{LastCall}
use Rattle.trace_answers.specs.Calling.{LastCalled, NoneCalled}
use Rattle.trace_answers.specs.Filing.{asked_of, named_of, lookup_in, create_in, lookup_of, create_of, given_by, file_in, named_in, FindsFile, IsFound, Names, IsNamed, NamesAFile}
use Rattle.trace_answers.specs.Tests.{came_bytes}
use Rattle.trace_answers.proofs.Callings.{came-is, same-came, one-xid}

none-some : (f : List ℕ) → None ≡ Some f → ⊥
none-some f e = absurd (cc)

some-one : (f g : List ℕ) → Some f ≡ Some g → f ≡ g
some-one f g e = cc

-- ---- what the tests say of calls and replies

asked-is : (call : FileCall) (f : List ℕ) → asked_of call ≡ Some f → call ≡ files.GetAttr f
asked-is files.Null f is = absurd (none-some f is)
asked-is (files.GetAttr g) f is = ap (λ z. files.GetAttr z) (some-one g f is)
asked-is (files.SetAttr g set guard) f is = absurd (none-some f is)
asked-is (files.Access g bits) f is = absurd (none-some f is)
asked-is (files.Read g offset count) f is = absurd (none-some f is)
asked-is (files.Write g offset how bytes) f is = absurd (none-some f is)
asked-is (files.FsStat g) f is = absurd (none-some f is)
asked-is (files.FsInfo g) f is = absurd (none-some f is)
asked-is (files.PathConf g) f is = absurd (none-some f is)
asked-is (files.Commit g offset count) f is = absurd (none-some f is)

named-is : (call : FileCall) (f : List ℕ) → named_of call ≡ Some f → NamesFile f (calls.File call)
named-is files.Null f is = absurd (none-some f is)
named-is (files.GetAttr g) f is = absurd (none-some f is)
named-is (files.SetAttr g set guard) f is = absurd (none-some f is)
named-is (files.Access g bits) f is = absurd (none-some f is)
named-is (files.Read g offset count) f is = absurd (none-some f is)
named-is (files.Write g offset how bytes) f is = writes offset how bytes (ap (λ z. calls.File (files.Write z offset how bytes)) (some-one g f is))
named-is (files.FsStat g) f is = absurd (none-some f is)
named-is (files.FsInfo g) f is = absurd (none-some f is)
named-is (files.PathConf g) f is = absurd (none-some f is)
named-is (files.Commit g offset count) f is = commits offset count (ap (λ z. calls.File (files.Commit z offset count)) (some-one g f is))

lookup-is : (reply : DirKept) (f : List ℕ) → lookup_in reply ≡ Some f → (attr : Option Attr) × (dir : Option Attr) × (reply ≡ found.Lookup f attr dir)
lookup-is (found.Lookup g attr dir) f is = (attr, dir, ap (λ z. found.Lookup z attr dir) (some-one g f is))
lookup-is (found.LookupFail status dir) f is = absurd (none-some f is)
lookup-is (found.ReadLink attr text) f is = absurd (none-some f is)
lookup-is (found.ReadLinkFail status attr) f is = absurd (none-some f is)
lookup-is (found.Create g attr wcc) f is = absurd (none-some f is)
lookup-is (found.CreateFail status wcc) f is = absurd (none-some f is)
lookup-is (found.MkDir g attr wcc) f is = absurd (none-some f is)
lookup-is (found.MkDirFail status wcc) f is = absurd (none-some f is)
lookup-is (found.SymLink g attr wcc) f is = absurd (none-some f is)
lookup-is (found.SymLinkFail status wcc) f is = absurd (none-some f is)
lookup-is (found.MkNod g attr wcc) f is = absurd (none-some f is)
lookup-is (found.MkNodFail status wcc) f is = absurd (none-some f is)
lookup-is (found.Remove wcc) f is = absurd (none-some f is)
lookup-is (found.RemoveFail status wcc) f is = absurd (none-some f is)
lookup-is (found.RmDir wcc) f is = absurd (none-some f is)
lookup-is (found.RmDirFail status wcc) f is = absurd (none-some f is)
lookup-is (found.Rename source target) f is = absurd (none-some f is)
lookup-is (found.RenameFail status source target) f is = absurd (none-some f is)
lookup-is (found.Link attr wcc) f is = absurd (none-some f is)
lookup-is (found.LinkFail status attr wcc) f is = absurd (none-some f is)
lookup-is (found.ReadDir attr verf page eof) f is = absurd (none-some f is)
lookup-is (found.ReadDirFail status attr) f is = absurd (none-some f is)
lookup-is (found.ReadDirPlus attr verf page eof) f is = absurd (none-some f is)
lookup-is (found.ReadDirPlusFail status attr) f is = absurd (none-some f is)

create-is : (reply : DirKept) (f : List ℕ) → create_in reply ≡ Some f → (attr : Option Attr) × (wcc : Wcc) × (reply ≡ found.Create (Some f) attr wcc)
create-is (found.Lookup g attr dir) f is = absurd (none-some f is)
create-is (found.LookupFail status dir) f is = absurd (none-some f is)
create-is (found.ReadLink attr text) f is = absurd (none-some f is)
create-is (found.ReadLinkFail status attr) f is = absurd (none-some f is)
create-is (found.Create g attr wcc) f is = (attr, wcc, ap (λ z. found.Create z attr wcc) is)
create-is (found.CreateFail status wcc) f is = absurd (none-some f is)
create-is (found.MkDir g attr wcc) f is = absurd (none-some f is)
create-is (found.MkDirFail status wcc) f is = absurd (none-some f is)
create-is (found.SymLink g attr wcc) f is = absurd (none-some f is)
create-is (found.SymLinkFail status wcc) f is = absurd (none-some f is)
create-is (found.MkNod g attr wcc) f is = absurd (none-some f is)
create-is (found.MkNodFail status wcc) f is = absurd (none-some f is)
create-is (found.Remove wcc) f is = absurd (none-some f is)
create-is (found.RemoveFail status wcc) f is = absurd (none-some f is)
create-is (found.RmDir wcc) f is = absurd (none-some f is)
create-is (found.RmDirFail status wcc) f is = absurd (none-some f is)
create-is (found.Rename source target) f is = absurd (none-some f is)
create-is (found.RenameFail status source target) f is = absurd (none-some f is)
create-is (found.Link attr wcc) f is = absurd (none-some f is)
create-is (found.LinkFail status attr wcc) f is = absurd (none-some f is)
create-is (found.ReadDir attr verf page eof) f is = absurd (none-some f is)
create-is (found.ReadDirFail status attr) f is = absurd (none-some f is)
create-is (found.ReadDirPlus attr verf page eof) f is = absurd (none-some f is)
create-is (found.ReadDirPlusFail status attr) f is = absurd (none-some f is)

lookup-of-is : (reply : Option Reply) (f : List ℕ) → lookup_of reply ≡ Some f → (attr : Option Attr) × (dir : Option Attr) × (reply ≡ Some (replies.Dir (found.Lookup f attr dir)))
lookup-of-is None f is = absurd (none-some f is)
lookup-of-is (Some (replies.File reply)) f is = absurd (none-some f is)
lookup-of-is (Some (replies.Dir reply)) f is = let l = lookup-is reply f is in (l.0, l.1, ap (λ z. Some (replies.Dir z)) l.2)
lookup-of-is (Some (replies.Mount reply)) f is = absurd (none-some f is)

create-of-is : (reply : Option Reply) (f : List ℕ) → create_of reply ≡ Some f → (attr : Option Attr) × (wcc : Wcc) × (reply ≡ Some (replies.Dir (found.Create (Some f) attr wcc)))
create-of-is None f is = absurd (none-some f is)
create-of-is (Some (replies.File reply)) f is = absurd (none-some f is)
create-of-is (Some (replies.Dir reply)) f is = let l = create-is reply f is in (l.0, l.1, ap (λ z. Some (replies.Dir z)) l.2)
create-of-is (Some (replies.Mount reply)) f is = absurd (none-some f is)

-- ---- the last call that is told is each last call

-- what two last replies before a place agree on
pub record Agree (h : List Entry) (y : ℕ) (l : LastCall) (call : Call) (r : LastReply h y call) : Type 0 where
  pub same : call ≡ l.call
  pub xid : r.xid ≡ l.xid
  pub bytes : r.bytes ≡ came_bytes h l.at

agree : (h : List Entry) (y : ℕ) (l : LastCall) → LastCalled h y l → (call : Call) (r : LastReply h y call) → Agree h y l call r
agree h y l c call r = record { same = c.only call r; xid = one; bytes = is }
  where
    s : LastReply h y l.call
    s = c.replies

    here : r.at ≡ l.at
    here = let low : r.at ≤ s.at = s.last r.at r.bytes r.got r.before in let high : s.at ≤ r.at = r.last s.at s.bytes s.got s.before in let is : s.at ≡ l.at = c.place in omega (arith, low, high, is)

    is : r.bytes ≡ came_bytes h l.at
    is = sym (came-is h l.at r.bytes (subst (λ (k : ℕ). At h k (Delivered r.bytes)) here r.got))

    its : s.bytes ≡ came_bytes h l.at
    its = sym (came-is h l.at s.bytes (subst (λ (k : ℕ). At h k (Delivered s.bytes)) c.place s.got))

    one : r.xid ≡ l.xid
    one = one-xid r.xid s.xid s.bytes (subst (λ (z : List ℕ). HasXid z r.xid) (is ∙ sym its) r.under) s.under ∙ c.xid

-- a reply to the last call is the one that was read
read-so : (h : List Entry) (y : ℕ) (l : LastCall) → LastCalled h y l → (reply : Option Reply) → FindsReplyTo l.xid l.call (came_bytes h l.at) reply
    → (call : Call) (r : LastReply h y call) (other : Reply) → SpellsReply r.xid call other r.bytes → reply ≡ Some other
read-so h y l c reply reads call r other spells = by reply reads
  where
    a : Agree h y l call r
    a = agree h y l c call r

    moved : SpellsReply l.xid l.call other (came_bytes h l.at)
    moved = subst (λ (z : Call). SpellsReply l.xid z other (came_bytes h l.at)) a.same
        (subst (λ (x : ℕ). SpellsReply x call other (came_bytes h l.at)) a.xid (subst (λ (z : List ℕ). SpellsReply r.xid call other z) a.bytes spells))

    by : (reply : Option Reply) → FindsReplyTo l.xid l.call (came_bytes h l.at) reply → reply ≡ Some other
    by None none = absurd (none other moved)
    by (Some own) is = ap (λ z. Some z) (sym (is.only other moved))

-- ---- an open

from-finds : (m : Modes) (h : List Entry) (y : ℕ) (l : LastCall) → LastCalled h y l → (reply : Option Reply) → FindsReplyTo l.xid l.call (came_bytes h l.at) reply
    → (f : List ℕ) → Finds m h y f → file_in m.nocto l.call reply ≡ Some f
from-finds m h y l c reply reads f (asked last) = subst (λ (z : Call). file_in m.nocto z reply ≡ Some f) (agree h y l c (calls.File (files.GetAttr f)) last).same refl
from-finds m h y l c reply reads f (looked_up on d name attr dir last spells) =
    let is = read-so h y l c reply reads (calls.Dir (dirs.Lookup d name)) last (replies.Dir (found.Lookup f attr dir)) spells in
    subst (λ (z : Call). file_in m.nocto z reply ≡ Some f) (agree h y l c (calls.Dir (dirs.Lookup d name)) last).same
    (subst (λ (b : Bool). (if b then lookup_of reply else None) ≡ Some f) (sym on) (subst (λ (z : Option Reply). lookup_of z ≡ Some f) (sym is) refl))
from-finds m h y l c reply reads f (made on d name making attr wcc last spells) =
    let is = read-so h y l c reply reads (calls.Dir (dirs.Create d name making)) last (replies.Dir (found.Create (Some f) attr wcc)) spells in
    subst (λ (z : Call). file_in m.nocto z reply ≡ Some f) (agree h y l c (calls.Dir (dirs.Create d name making)) last).same
    (subst (λ (b : Bool). (if b then create_of reply else None) ≡ Some f) (sym on) (subst (λ (z : Option Reply). create_of z ≡ Some f) (sym is) refl))

-- the reply that was read, as the last call's
spelled-so : (h : List Entry) (y : ℕ) (l : LastCall) → (c : LastCalled h y l) → (reply : Reply) → IsReplyTo l.xid l.call (came_bytes h l.at) reply → SpellsReply c.replies.xid l.call reply c.replies.bytes
spelled-so h y l c reply is = let a = agree h y l c l.call c.replies in
    subst (λ (x : ℕ). SpellsReply x l.call reply c.replies.bytes) (sym a.xid) (subst (λ (z : List ℕ). SpellsReply l.xid l.call reply z) (sym a.bytes) is.spells)

given-finds : (m : Modes) (h : List Entry) (y : ℕ) (l : LastCall) → LastCalled h y l → m.nocto ≡ true → (reply : Option Reply) → FindsReplyTo l.xid l.call (came_bytes h l.at) reply
    → (f : List ℕ) (call : DirCall) → l.call ≡ calls.Dir call → given_by call reply ≡ Some f → Finds m h y f
given-finds m h y l c on reply reads f (dirs.Lookup d name) e is = by reply reads (lookup-of-is reply f is)
  where
    then_finds : (attr dir : Option Attr) (call : Call) → call ≡ calls.Dir (dirs.Lookup d name) → (r : LastReply h y call) → SpellsReply r.xid call (replies.Dir (found.Lookup f attr dir)) r.bytes → Finds m h y f
    then_finds attr dir call same = subst (λ (z : Call). (r : LastReply h y z) → SpellsReply r.xid z (replies.Dir (found.Lookup f attr dir)) r.bytes → Finds m h y f) (sym same) (λ r s. looked_up on d name attr dir r s)

    by : (reply : Option Reply) → FindsReplyTo l.xid l.call (came_bytes h l.at) reply → (attr : Option Attr) × (dir : Option Attr) × (reply ≡ Some (replies.Dir (found.Lookup f attr dir))) → Finds m h y f
    by None none w = absurd (let q : None ≡ Some (replies.Dir (found.Lookup f w.0 w.1)) = w.2 in cc)
    by (Some own) is w = then_finds w.0 w.1 l.call e c.replies (subst (λ (z : Reply). SpellsReply c.replies.xid l.call z c.replies.bytes) (one own w.0 w.1 w.2) (spelled-so h y l c own is))
      where
        one : (own : Reply) (attr dir : Option Attr) → Some own ≡ Some (replies.Dir (found.Lookup f attr dir)) → own ≡ replies.Dir (found.Lookup f attr dir)
        one own attr dir q = cc
given-finds m h y l c on reply reads f (dirs.Create d name making) e is = by reply reads (create-of-is reply f is)
  where
    then_finds : (attr : Option Attr) (wcc : Wcc) (call : Call) → call ≡ calls.Dir (dirs.Create d name making) → (r : LastReply h y call) → SpellsReply r.xid call (replies.Dir (found.Create (Some f) attr wcc)) r.bytes → Finds m h y f
    then_finds attr wcc call same = subst (λ (z : Call). (r : LastReply h y z) → SpellsReply r.xid z (replies.Dir (found.Create (Some f) attr wcc)) r.bytes → Finds m h y f) (sym same) (λ r s. made on d name making attr wcc r s)

    by : (reply : Option Reply) → FindsReplyTo l.xid l.call (came_bytes h l.at) reply → (attr : Option Attr) × (wcc : Wcc) × (reply ≡ Some (replies.Dir (found.Create (Some f) attr wcc))) → Finds m h y f
    by None none w = absurd (let q : None ≡ Some (replies.Dir (found.Create (Some f) w.0 w.1)) = w.2 in cc)
    by (Some own) is w = then_finds w.0 w.1 l.call e c.replies (subst (λ (z : Reply). SpellsReply c.replies.xid l.call z c.replies.bytes) (one own w.0 w.1 w.2) (spelled-so h y l c own is))
      where
        one : (own : Reply) (attr : Option Attr) (wcc : Wcc) → Some own ≡ Some (replies.Dir (found.Create (Some f) attr wcc)) → own ≡ replies.Dir (found.Create (Some f) attr wcc)
        one own attr wcc q = cc
given-finds m h y l c on reply reads f (dirs.ReadLink g) e is = absurd (none-some f is)
given-finds m h y l c on reply reads f (dirs.MkDir d name set) e is = absurd (none-some f is)
given-finds m h y l c on reply reads f (dirs.SymLink d name set target) e is = absurd (none-some f is)
given-finds m h y l c on reply reads f (dirs.MkNod d name node) e is = absurd (none-some f is)
given-finds m h y l c on reply reads f (dirs.Remove d name) e is = absurd (none-some f is)
given-finds m h y l c on reply reads f (dirs.RmDir d name) e is = absurd (none-some f is)
given-finds m h y l c on reply reads f (dirs.Rename d old k new) e is = absurd (none-some f is)
given-finds m h y l c on reply reads f (dirs.Link g d name) e is = absurd (none-some f is)
given-finds m h y l c on reply reads f (dirs.ReadDir d cookie verf count) e is = absurd (none-some f is)
given-finds m h y l c on reply reads f (dirs.ReadDirPlus d cookie verf dircount maxcount) e is = absurd (none-some f is)

to-finds : (m : Modes) (h : List Entry) (y : ℕ) (l : LastCall) → LastCalled h y l → (reply : Option Reply) → FindsReplyTo l.xid l.call (came_bytes h l.at) reply
    → (f : List ℕ) → (call : Call) → l.call ≡ call → file_in m.nocto call reply ≡ Some f → Finds m h y f
to-finds m h y l c reply reads f (calls.File call) e is = asked (subst (λ (z : Call). LastReply h y z) (e ∙ ap (λ z. calls.File z) (asked-is call f is)) c.replies)
to-finds m h y l c reply reads f (calls.Dir call) e is = by m.nocto refl is
  where
    by : (b : Bool) → m.nocto ≡ b → (if b then given_by call reply else None) ≡ Some f → Finds m h y f
    by true on is = given-finds m h y l c on reply reads f call e is
    by false off is = absurd (none-some f is)
to-finds m h y l c reply reads f (calls.Mount call) e is = absurd (none-some f is)

-- what the last call and its reply tell is what the open finds
pub finds-by : (m : Modes) (h : List Entry) (y : ℕ) (l : LastCall) → LastCalled h y l → (reply : Option Reply) → FindsReplyTo l.xid l.call (came_bytes h l.at) reply
    → FindsFile m h y (file_in m.nocto l.call reply)
finds-by m h y l c reply reads = by (file_in m.nocto l.call reply) refl
  where
    by : (found : Option (List ℕ)) → file_in m.nocto l.call reply ≡ found → FindsFile m h y found
    by None is = λ f finds. none-some f (sym is ∙ from-finds m h y l c reply reads f finds)
    by (Some f) is = record {
      finds = to-finds m h y l c reply reads f l.call refl is;
      only = λ g finds. some-one g f (sym (from-finds m h y l c reply reads g finds) ∙ is);
    }

pub finds-none : (m : Modes) (h : List Entry) (y : ℕ) → NoneCalled h y → (f : List ℕ) → Finds m h y f → ⊥
finds-none m h y none f (asked last) = none (calls.File (files.GetAttr f)) last
finds-none m h y none f (looked_up on d name attr dir last spells) = none (calls.Dir (dirs.Lookup d name)) last
finds-none m h y none f (made on d name making attr wcc last spells) = none (calls.Dir (dirs.Create d name making)) last

-- ---- a put

names-file : (call : Call) (f : List ℕ) → named_in call ≡ Some f → NamesFile f call
names-file (calls.File call) f is = named-is call f is
names-file (calls.Dir call) f is = absurd (none-some f is)
names-file (calls.Mount call) f is = absurd (none-some f is)

file-named : (call : Call) (f : List ℕ) → NamesFile f call → named_in call ≡ Some f
file-named call f (writes offset how bytes is) = ap named_in is
file-named call f (commits offset count is) = ap named_in is

pub names-by : (h : List Entry) (y : ℕ) (l : LastCall) → LastCalled h y l → NamesAFile h y (named_in l.call)
names-by h y l c = by (named_in l.call) refl
  where
    told : (f : List ℕ) → Names h y f → named_in l.call ≡ Some f
    told f n = subst (λ (z : Call). named_in z ≡ Some f) (c.only n.call n.asked) (file-named n.call f n.names)

    by : (found : Option (List ℕ)) → named_in l.call ≡ found → NamesAFile h y found
    by None is = λ f n. none-some f (sym is ∙ told f n)
    by (Some f) is = record {
      is = record { call = l.call; names = names-file l.call f is; asked = c.replies };
      only = λ g n. some-one g f (sym (told g n) ∙ is);
    }

pub names-none : (h : List Entry) (y : ℕ) → NoneCalled h y → (f : List ℕ) → Names h y f → ⊥
names-none h y none f n = none n.call n.asked

-- the place of the last record is within
pub at-below : (h : List Entry) (y : ℕ) (l : LastCall) → LastCalled h y l → l.at < length h
at-below h y l c = At-below h l.at (Delivered c.replies.bytes) (subst (λ (k : ℕ). At h k (Delivered c.replies.bytes)) c.place c.replies.got)
