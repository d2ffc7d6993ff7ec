-- What a call that is served does to the object under one file handle (RFC 1813, section 3.3).
use Rattle.std.proofs.Common.{inl, inr, ◌⊎◌, ◌≡◌, ◌==◌, ℕ, List, take, Option, Some, None, refl, sym, subst, ◌∙◌}
use Rattle.std.proofs.lemmas.Bool.{cases_Bool}
use Rattle.nfs_types.specs.declared.set_attr.SetAttr.{SetAttr}
use Rattle.nfs_types.specs.declared.attr.Attr.{Attr}
use Rattle.nfs_types.specs.declared.time.Time.{Time}
use Rattle.nfs_types.specs.declared.wcc.Wcc.{Wcc}
use Rattle.nfs_dir_calls.specs.declared.keeping.DirKept.TheVariants as found
use Rattle.nfs_file_calls.specs.declared.owned.FileKept.TheVariants as kept
use Rattle.world_model.specs.declared.message.Reply.TheVariants as replies
use Rattle.nfs_dir_calls.specs.declared.call.DirCall.TheVariants as dirs
use Rattle.nfs_dir_calls.specs.declared.create.Making.{Making}
use Rattle.nfs_dir_calls.specs.declared.create.Making.TheVariants as makings
use Rattle.nfs_file_calls.specs.declared.call.FileCall.TheVariants as files
use Rattle.world_model.specs.declared.message.Call.{Call}
use Rattle.world_model.specs.declared.message.Call.TheVariants as calls
use Rattle.world_model.specs.declared.message.Reply.{Reply}
use Rattle.world_model.specs.Bytes.{put_at, committed_part}
use Rattle.world_model.specs.Server.{Listed, Holds, Object, Server, HasName}
use Rattle.world_model.specs.Steps.{Only, Turns, Reads, Looks}
use Rattle.world_model.specs.FileService.{Puts, HoldsSized, SetsAttr, steady_after}
use Rattle.world_model.specs.NameService.{Relists, Begins, Makes, Meets, Creates, Removes, HoldsMoved, Moves, within, across, Renames, KeepsNames}
use Rattle.world_model.specs.Names.{Loses}
use Rattle.world_model.specs.Service.{Serves}
use Rattle.world_model.proofs.Deciding.{same_bytes, entry_or_not}
use Rattle.world_model.proofs.Served.{Served, served, by_refusal, by_breaking_off, by_nothing, by_asking, by_getattr, by_setattr, by_read, by_write, by_commit, by_lookup, by_readlink, by_create, by_mkdir, by_symlink, by_mknod, by_remove, by_rmdir, by_rename, by_link, by_readdir, by_readdirplus}

-- the call that was answered 0 sets the size of this file: a SETATTR, or a CREATE UNCHECKED that meets it
pub data SetsSize (t : Server) (call : Call) (reply : Reply) (h : List ℕ) (size : ℕ) : Type 0 where
  by_set : (set : SetAttr) (guard : Option Time) (wcc : Wcc) → call ≡ calls.File (files.SetAttr h set guard) → reply ≡ replies.File (kept.SetAttr wcc) → set.size ≡ Some size → SetsSize t call reply h size
  by_meeting : (d name : List ℕ) (set : SetAttr) (object : Option (List ℕ)) (attr : Option Attr) (wcc : Wcc) → call ≡ calls.Dir (dirs.Create d name (makings.Unchecked set)) → reply ≡ replies.Dir (found.Create object attr wcc)
      → HasName t d name h → set.size ≡ Some size → SetsSize t call reply h size

-- The object stays as it was, or is read; a file is written to, made stable or sized; a directory gets another list; an
-- object moves, loses a name, or comes to be.
pub data Goes (s : Server) (call : Call) (reply : Reply) (t : Server) (h : List ℕ) : Type 0 where
  left_alone : t.object h ≡ s.object h → Goes s call reply t h
  read_only : Reads s t h → Goes s call reply t h
  written : (offset how : ℕ) (bytes : List ℕ) (count : ℕ) (now stable steady : List ℕ) → call ≡ calls.File (files.Write h offset how bytes) → Puts s t h now stable (put_at offset (take count bytes) now) steady
      → (steady ≡ stable) ⊎ (steady ≡ put_at offset (take count bytes) stable) → Goes s call reply t h
  committed : (offset count : ℕ) (now stable : List ℕ) → call ≡ calls.File (files.Commit h offset count) → Puts s t h now stable now (put_at offset (committed_part offset count now) stable) → Goes s call reply t h
  sized : (size : ℕ) (o : Object) (later : Holds) → SetsSize t call reply h size → HoldsSized (Some size) o.holds later → Turns s t h o later → Goes s call reply t h
  relisted : (old new : List Listed) → Relists s t h old new → Goes s call reply t h
  moved : (o : Object) (later : Holds) → HoldsMoved o.holds later → Turns s t h o later → Goes s call reply t h
  unnamed : Loses s t h → Goes s call reply t h
  begun : (kind : ℕ) (holds : Holds) → Begins s t h kind holds → Goes s call reply t h

-- ---- one object, or two, and all else stays

turns_reads : (s t : Server) (h : List ℕ) (o : Object) (later : Holds) → later ≡ o.holds → Turns s t h o later → Reads s t h
turns_reads s t h o later e w = record { object = o; turns = subst (λ (z : Holds). Turns s t h o z) e w }

one : (s t : Server) (call : Call) (reply : Reply) (f h : List ℕ) → Goes s call reply t f → Only (λ other. other ≡ f) s t → Goes s call reply t h
one s t call reply f h g only = elim (same_bytes h f) [ inl e ↦ subst (λ (z : List ℕ). Goes s call reply t z) (sym e) g | inr d ↦ left_alone (only.others h d) ]

two : (s t : Server) (call : Call) (reply : Reply) (f g h : List ℕ) → Goes s call reply t f → Goes s call reply t g → Only (λ other. (other ≡ f) ⊎ (other ≡ g)) s t → Goes s call reply t h
two s t call reply f g h a b only =
    elim (same_bytes h f) [
      | inl e ↦ subst (λ (z : List ℕ). Goes s call reply t z) (sym e) a
      | inr d ↦ elim (same_bytes h g) [
        | inl e ↦ subst (λ (z : List ℕ). Goes s call reply t z) (sym e) b
        | inr n ↦ left_alone (only.others h (λ q. elim q [ inl e ↦ d e | inr e ↦ n e ]))
      ]
    ]

looks : (s t : Server) (call : Call) (reply : Reply) (f h : List ℕ) → Looks s t f → Goes s call reply t h
looks s t call reply f h l = one s t call reply f h (read_only l.reads) l.only

-- ---- rows of files

sets : (s t : Server) (f : List ℕ) (set : SetAttr) (guard : Option Time) (reply : Reply) (wcc : Wcc) (size : Option ℕ) → reply ≡ replies.File (kept.SetAttr wcc) → set.size ≡ size → (w : SetsAttr s t f set) → HoldsSized size w.object.holds w.later → Goes s (calls.File (files.SetAttr f set guard)) reply t f
sets s t f set guard reply wcc None answer e w h = read_only (turns_reads s t f w.object w.later h w.turns)
sets s t f set guard reply wcc (Some size) answer e w h = sized size w.object w.later (by_set set guard wcc refl answer e) h w.turns

-- ---- rows of names

makes : (s t : Server) (call : Call) (reply : Reply) (d name : List ℕ) (kind : ℕ) (holds : Holds) (h : List ℕ) → Makes s t d name kind holds → Goes s call reply t h
makes s t call reply d name kind holds h m = two s t call reply d m.object h (relisted m.old m.new m.relists) (begun kind holds m.begins) m.only

-- a directory that is read keeps its names
keeps_name : (s t : Server) (d name h : List ℕ) → Reads s t d → HasName s d name h → HasName t d name h
keeps_name s t d name h r n =
    let same : n.names.dir ≡ r.object = some_is n.names.dir r.object (sym n.names.is ∙ r.turns.has.is) in
    record {
      names = record { dir = r.turns.new; entries = n.names.entries; cookie = n.names.cookie; is = r.turns.is; holds = r.turns.becomes.holds ∙ rw (sym same) n.names.holds; listed = n.names.listed };
      there = r.turns.becomes.gone ∙ r.turns.has.there;
    }
  where
    some_is : (a b : Object) → Some a ≡ Some b → a ≡ b
    some_is a b e = cc

meets : (s t : Server) (call : Call) (reply : Reply) (d name : List ℕ) (set : SetAttr) (h : List ℕ) (size : Option ℕ) → (m : Meets s t d name set) → set.size ≡ size → HoldsSized size m.file.holds m.later
    → ((z : ℕ) → set.size ≡ Some z → SetsSize t call reply m.object z) → Goes s call reply t h
meets s t call reply d name set h None m e held is = two s t call reply d m.object h (read_only m.reads) (read_only (turns_reads s t m.object m.file m.later held m.turns)) m.only
meets s t call reply d name set h (Some size) m e held is = two s t call reply d m.object h (read_only m.reads) (sized size m.file m.later (is size e) held m.turns) m.only

creates : (s t : Server) (d name : List ℕ) (making : Making) (reply : Reply) (object : Option (List ℕ)) (attr : Option Attr) (wcc : Wcc) (h : List ℕ) → reply ≡ replies.Dir (found.Create object attr wcc) → Creates s t d name making → Goes s (calls.Dir (dirs.Create d name making)) reply t h
creates s t d name (makings.Unchecked set) reply object attr wcc h answer (inl m) = makes s t _ _ d name 1 _ h m
creates s t d name (makings.Unchecked set) reply object attr wcc h answer (inr m) = meets s t _ _ d name set h set.size m refl m.sized (λ z e. by_meeting d name set object attr wcc refl answer (keeps_name s t d name m.object m.reads m.named) e)
creates s t d name (makings.Guarded set) reply object attr wcc h answer m = makes s t _ _ d name 1 _ h m
creates s t d name (makings.Exclusive verf) reply object attr wcc h answer (inl m) = makes s t _ _ d name 1 _ h m
creates s t d name (makings.Exclusive verf) reply object attr wcc h answer (inr m) = meets s t _ _ d name _ h None m refl m.sized (λ z e. absurd (cc e))

removes : (s t : Server) (call : Call) (reply : Reply) (d name h : List ℕ) → Removes s t d name → Goes s call reply t h
removes s t call reply d name h r = two s t call reply d r.object h (relisted r.old r.new r.relists) (unnamed r.loses) r.only

-- the directories of a RENAME get other lists
from_relists : (s t : Server) (d from e to h : List ℕ) (target : List Listed) → Moves s t d from e to h target → (old : List Listed) × (new : List Listed) × Relists s t d old new
from_relists s t d from e to h target (within less clear new same a b c r) = (target, new, r)
from_relists s t d from e to h target (across old less clear new other a r b c q) = (old, less, r)

to_relists : (s t : Server) (d from e to h : List ℕ) (target : List Listed) → Moves s t d from e to h target → (old : List Listed) × (new : List Listed) × Relists s t e old new
to_relists s t d from e to h target (within less clear new same a b c r) = (target, new, subst (λ (z : List ℕ). Relists s t z target new) same r)
to_relists s t d from e to h target (across old less clear new other a r b c q) = (target, new, q)

renames : (s t : Server) (call : Call) (reply : Reply) (d from e to h : List ℕ) → Renames s t d from e to → Goes s call reply t h
renames s t call reply d from e to h r =
    let p = from_relists s t d from e to r.object r.target r.moves in
    let q = to_relists s t d from e to r.object r.target r.moves in
    elim (same_bytes h r.object) [
      | inl same ↦ subst (λ (z : List ℕ). Goes s call reply t z) (sym same) (moved r.moved r.later r.holds r.turns)
      | inr other ↦ elim (same_bytes h d) [
        | inl same ↦ subst (λ (z : List ℕ). Goes s call reply t z) (sym same) (relisted p.0 p.1 p.2)
        | inr not_from ↦ elim (same_bytes h e) [
          | inl same ↦ subst (λ (z : List ℕ). Goes s call reply t z) (sym same) (relisted q.0 q.1 q.2)
          | inr not_to ↦ elim (entry_or_not r.target to h) [
            | inl x ↦ unnamed (r.replaced h other x.0 x.1 x.2 x.3)
            | inr none ↦ left_alone (r.only.others h (λ z. elim z [ inl a ↦ not_from a | inr y ↦ elim y [ inl a ↦ not_to a | inr w ↦ elim w [ inl a ↦ other a | inr x ↦ none x ] ] ]))
          ]
        ]
      ]
    ]

keeps : (s t : Server) (call : Call) (reply : Reply) (d from e to h : List ℕ) → KeepsNames s t d from e to → Goes s call reply t h
keeps s t call reply d from e to h k =
    elim (same_bytes h d) [
      | inl same ↦ subst (λ (z : List ℕ). Goes s call reply t z) (sym same) (read_only k.reads_from)
      | inr not_from ↦ elim (same_bytes h e) [
        | inl same ↦ subst (λ (z : List ℕ). Goes s call reply t z) (sym same) (read_only k.reads_to)
        | inr not_to ↦ elim (same_bytes h k.object) [
          | inl same ↦ subst (λ (z : List ℕ). Goes s call reply t z) (sym same) (read_only k.reads)
          | inr other ↦ left_alone (k.only.others h (λ z. elim z [ inl a ↦ not_from a | inr y ↦ elim y [ inl a ↦ not_to a | inr a ↦ other a ] ]))
        ]
      ]
    ]

-- ---- all rows

steady_is : (firm offset : ℕ) (bytes stable : List ℕ) → (steady_after firm offset bytes stable ≡ stable) ⊎ (steady_after firm offset bytes stable ≡ put_at offset bytes stable)
steady_is firm offset bytes stable =
    elim (cases_Bool (firm == 0)) [
      | inl e ↦ let q : steady_after firm offset bytes stable ≡ stable = simp e refl in inl q
      | inr e ↦ let q : steady_after firm offset bytes stable ≡ put_at offset bytes stable = simp e refl in inr q
    ]

goes_by : (s t : Server) (call : Call) (reply : Reply) (h : List ℕ) → Served s call reply t → Goes s call reply t h
goes_by s t call reply h (by_refusal r same) = left_alone (same.object h)
goes_by s t call reply h (by_breaking_off f offset how bytes status wcc is answer w) = one s t call reply f h (written offset how bytes w.count w.now w.stable w.steady is w.puts w.kept) w.puts.only
goes_by s t call reply h (by_nothing same) = left_alone (same.object h)
goes_by s t call reply h (by_asking f attr a) = looks s t call reply f h a.looks
goes_by s t call reply h (by_getattr f attr is answer g) = looks s t call reply f h g.looks
goes_by s t call reply h (by_setattr f set guard wcc is answer w) = subst (λ (z : Call). Goes s z reply t h) (sym is) (one s t _ reply f h (sets s t f set guard reply wcc set.size answer refl w.0 w.0.sized) w.0.only)
goes_by s t call reply h (by_read f offset count attr counted eof bytes is answer r) = one s t call reply f h (read_only (turns_reads s t f r.puts.file _ (sym r.puts.held) r.puts.turns)) r.puts.only
goes_by s t call reply h (by_write f offset how bytes wcc counted firm verf is answer w) = one s t call reply f h (written offset how bytes counted w.now w.stable _ is w.puts (steady_is firm offset (take counted bytes) w.stable)) w.puts.only
goes_by s t call reply h (by_commit f offset count wcc verf is answer c) = one s t call reply f h (committed offset count c.now c.stable is c.puts) c.puts.only
goes_by s t call reply h (by_lookup d name object attr dir is answer l) = two s t call reply d object h (read_only l.reads) (read_only (record { object = l.object; turns = l.turns })) l.only
goes_by s t call reply h (by_readlink f attr text is answer r) = looks s t call reply f h r.looks
goes_by s t call reply h (by_create d name making object attr wcc is answer c) = subst (λ (z : Call). Goes s z reply t h) (sym is) (creates s t d name making reply object attr wcc h answer c.0)
goes_by s t call reply h (by_mkdir d name set object attr wcc is answer m) = makes s t call reply d name 2 _ h m.0.makes
goes_by s t call reply h (by_symlink d name set target object attr wcc is answer m) = makes s t call reply d name 5 _ h m.0
goes_by s t call reply h (by_mknod d name node object attr wcc is answer m) = makes s t call reply d name _ _ h m.0
goes_by s t call reply h (by_remove d name wcc is answer r) = removes s t call reply d name h r.0
goes_by s t call reply h (by_rmdir d name wcc is answer r) = removes s t call reply d name h r.0
goes_by s t call reply h (by_rename d old e new source target is answer r) = elim r.0 [ inl m ↦ renames s t call reply d old e new h m | inr k ↦ keeps s t call reply d old e new h k ]
goes_by s t call reply h (by_link f d name attr wcc is answer l) = two s t call reply d f h (relisted l.0.old l.0.new l.0.relists) (read_only l.0.reads) l.0.only
goes_by s t call reply h (by_readdir d cookie verf count attr check rows eof is answer l) = looks s t call reply d h l.reads.looks
goes_by s t call reply h (by_readdirplus d cookie verf dircount maxcount attr check rows eof is answer l) = looks s t call reply d h l.reads.looks

pub goes : (s t : Server) (call : Call) (reply : Reply) (h : List ℕ) → Serves s call reply t → Goes s call reply t h
goes s t call reply h v = goes_by s t call reply h (served s t call reply v)
