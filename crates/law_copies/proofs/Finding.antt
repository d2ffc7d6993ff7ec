-- An open that succeeded is of a file.
use Rattle.std.proofs.Common.{◌≡◌, ℕ, true, List, Option, Some, None, refl, sym, ap, subst, ◌∙◌}
use Rattle.nfs_types.specs.declared.attr.Attr.{Attr}
use Rattle.nfs_types.specs.declared.mode.Mode.{Mode}
use Rattle.nfs_types.specs.declared.wcc.Wcc.{Wcc}
use Rattle.nfs_dir_calls.specs.Replies.{reply_proc}
use Rattle.nfs_dir_calls.specs.declared.call.DirCall.TheVariants as dirs
use Rattle.nfs_dir_calls.specs.declared.create.Making.{Making}
use Rattle.nfs_dir_calls.specs.declared.keeping.DirKept.{DirKept}
use Rattle.nfs_dir_calls.specs.declared.keeping.DirKept.TheVariants as found
use Rattle.world_model.specs.declared.answer.Answer.TheVariants as answers
use Rattle.world_model.specs.declared.answer.Value.{Value}
use Rattle.world_model.specs.declared.entry.Entry.{Entry}
use Rattle.world_model.specs.declared.message.Call.{Call}
use Rattle.world_model.specs.declared.message.Call.TheVariants as calls
use Rattle.world_model.specs.declared.message.Reply.{Reply}
use Rattle.world_model.specs.declared.message.Reply.TheVariants as replies
use Rattle.world_model.specs.declared.op.Op.{Op}
use Rattle.world_model.specs.declared.op.Op.TheVariants as ops
use Rattle.world_model.specs.Messages.{SpellsReply}
use Rattle.world_model.specs.Operations.{Ended, EndsWith, LastReply}
use Rattle.claims.specs.Asks.{MakesFile, guarded, look_up, unchecked}
use Rattle.claims.specs.Modes.{Modes}
use Rattle.claims.specs.OkRows.{FindsFile, OkRow, OpenOk, asked as by_attributes, known, looked_up as by_lookup, made as by_create}
use Rattle.claims.specs.Shown.{given_object}
use Rattle.claims.specs.Slots.{Finds, Opens, asked, looked_up, made}
use Rattle.claims.specs.Terms.{Terms}
use Rattle.law_copies.specs.Lasting.{OpensFind, RowsFind}

none-some : (f : List ℕ) → None ≡ Some f → ⊥
none-some f e = absurd (cc)

-- ---- a reply that gives an object, to a LOOKUP or a CREATE

looked : (reply : DirKept) (f : List ℕ) → reply_proc reply ≡ 3 → given_object (replies.Dir reply) ≡ Some f
    → (attr : Option Attr) × (dir : Option Attr) × (reply ≡ found.Lookup f attr dir)
looked (found.Lookup g attr dir) f of is = (attr, dir, ap (λ (z : List ℕ). found.Lookup z attr dir) (let same : g ≡ f = cc in same))
looked (found.LookupFail status dir) f of is = absurd (none-some f is)
looked (found.ReadLink attr text) f of is = absurd (none-some f is)
looked (found.ReadLinkFail status attr) f of is = absurd (none-some f is)
looked (found.Create g attr wcc) f of is = absurd cc
looked (found.CreateFail status wcc) f of is = absurd (none-some f is)
looked (found.MkDir g attr wcc) f of is = absurd cc
looked (found.MkDirFail status wcc) f of is = absurd (none-some f is)
looked (found.SymLink g attr wcc) f of is = absurd cc
looked (found.SymLinkFail status wcc) f of is = absurd (none-some f is)
looked (found.MkNod g attr wcc) f of is = absurd cc
looked (found.MkNodFail status wcc) f of is = absurd (none-some f is)
looked (found.Remove wcc) f of is = absurd (none-some f is)
looked (found.RemoveFail status wcc) f of is = absurd (none-some f is)
looked (found.RmDir wcc) f of is = absurd (none-some f is)
looked (found.RmDirFail status wcc) f of is = absurd (none-some f is)
looked (found.Rename source target) f of is = absurd (none-some f is)
looked (found.RenameFail status source target) f of is = absurd (none-some f is)
looked (found.Link attr wcc) f of is = absurd (none-some f is)
looked (found.LinkFail status attr wcc) f of is = absurd (none-some f is)
looked (found.ReadDir attr verf page eof) f of is = absurd (none-some f is)
looked (found.ReadDirFail status attr) f of is = absurd (none-some f is)
looked (found.ReadDirPlus attr verf page eof) f of is = absurd (none-some f is)
looked (found.ReadDirPlusFail status attr) f of is = absurd (none-some f is)

created : (reply : DirKept) (f : List ℕ) → reply_proc reply ≡ 8 → given_object (replies.Dir reply) ≡ Some f
    → (attr : Option Attr) × (wcc : Wcc) × (reply ≡ found.Create (Some f) attr wcc)
created (found.Lookup g attr dir) f of is = absurd cc
created (found.LookupFail status dir) f of is = absurd (none-some f is)
created (found.ReadLink attr text) f of is = absurd (none-some f is)
created (found.ReadLinkFail status attr) f of is = absurd (none-some f is)
created (found.Create g attr wcc) f of is = (attr, wcc, ap (λ (z : Option (List ℕ)). found.Create z attr wcc) is)
created (found.CreateFail status wcc) f of is = absurd (none-some f is)
created (found.MkDir g attr wcc) f of is = absurd cc
created (found.MkDirFail status wcc) f of is = absurd (none-some f is)
created (found.SymLink g attr wcc) f of is = absurd cc
created (found.SymLinkFail status wcc) f of is = absurd (none-some f is)
created (found.MkNod g attr wcc) f of is = absurd cc
created (found.MkNodFail status wcc) f of is = absurd (none-some f is)
created (found.Remove wcc) f of is = absurd (none-some f is)
created (found.RemoveFail status wcc) f of is = absurd (none-some f is)
created (found.RmDir wcc) f of is = absurd (none-some f is)
created (found.RmDirFail status wcc) f of is = absurd (none-some f is)
created (found.Rename source target) f of is = absurd (none-some f is)
created (found.RenameFail status source target) f of is = absurd (none-some f is)
created (found.Link attr wcc) f of is = absurd (none-some f is)
created (found.LinkFail status attr wcc) f of is = absurd (none-some f is)
created (found.ReadDir attr verf page eof) f of is = absurd (none-some f is)
created (found.ReadDirFail status attr) f of is = absurd (none-some f is)
created (found.ReadDirPlus attr verf page eof) f of is = absurd (none-some f is)
created (found.ReadDirPlusFail status attr) f of is = absurd (none-some f is)

-- ---- what an open found

module _ (m : Modes) (h : List Entry) (y : ℕ) (f : List ℕ) (on : m.nocto ≡ true) where
  by-looked : (d name : List ℕ) (last : LastReply h y (look_up d name)) (reply : Reply) → SpellsReply last.xid (look_up d name) reply last.bytes → given_object reply ≡ Some f → Finds m h y f
  by-looked d name last (replies.Dir reply) spells gives =
      let is = looked reply f spells.is.of gives in
      looked_up on d name is.0 is.1 last (subst (λ (z : DirKept). SpellsReply last.xid (look_up d name) (replies.Dir z) last.bytes) is.2 spells)
  by-looked d name last (replies.File reply) spells gives = absurd spells.is
  by-looked d name last (replies.Mount reply) spells gives = absurd spells.is

  by-made : (d name : List ℕ) (making : Making) (last : LastReply h y (calls.Dir (dirs.Create d name making))) (reply : Reply)
      → SpellsReply last.xid (calls.Dir (dirs.Create d name making)) reply last.bytes → given_object reply ≡ Some f → Finds m h y f
  by-made d name making last (replies.Dir reply) spells gives =
      let is = created reply f spells.is.of gives in
      made on d name making is.0 is.1 last (subst (λ (z : DirKept). SpellsReply last.xid (calls.Dir (dirs.Create d name making)) (replies.Dir z) last.bytes) is.2 spells)
  by-made d name making last (replies.File reply) spells gives = absurd spells.is
  by-made d name making last (replies.Mount reply) spells gives = absurd spells.is

  by-find : (terms : Terms) (mode : Mode) (path : List (List ℕ)) (x : ℕ) (call : Call) (reply : Reply) → FindsFile terms h y mode path call → EndsWith h x y call reply
      → given_object reply ≡ Some f → Finds m h y f
  by-find terms mode path x call reply (by_lookup d name place is) ends gives =
      let e : EndsWith h x y (look_up d name) reply = subst (λ (c : Call). EndsWith h x y c reply) is ends in
      by-looked d name e.last reply e.spells gives
  by-find terms mode path x call reply (by_create d name place (unchecked of is)) ends gives =
      let e = subst (λ (c : Call). EndsWith h x y c reply) is ends in
      by-made d name _ e.last reply e.spells gives
  by-find terms mode path x call reply (by_create d name place (guarded of is)) ends gives =
      let e = subst (λ (c : Call). EndsWith h x y c reply) is ends in
      by-made d name _ e.last reply e.spells gives

open-finds : (terms : Terms) (h : List Entry) (x y : ℕ) (op : Op) (mode : Mode) (path : List (List ℕ)) → OpenOk terms h x y op mode path → (f : List ℕ) × Finds terms.modes h y f
open-finds terms h x y op mode path (by_attributes f attr asks ends kind) = (f, asked ends.last)
open-finds terms h x y op mode path (known f attr call reply on find ends went gives shown kind) = (f, by-find terms.modes h y f on terms mode path x call reply find ends gives)

pub rows-find : RowsFind
rows-find terms h rows lane slot x y mode path value e =
    let row : OkRow terms h lane x y (ops.OpenFile slot mode path) value = rows lane x y (ops.OpenFile slot mode path) value e in
    let f = open-finds terms h x y (ops.OpenFile slot mode path) mode path row.0 in
    (f.0, record { mode = mode; path = path; value = value; ended = e; finds = f.1 })
