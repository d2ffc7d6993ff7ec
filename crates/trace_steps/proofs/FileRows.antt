-- The tests decide whether an entry serves a call on a file: a row for each call and reply.
use Rattle.std.proofs.Common.{◌≡◌, ◌⊎◌, inl, inr, ℕ, suc, List, Some, refl, sym, subst}
use Rattle.std.specs.Prelude.{Decides, ◌||◌}
use Rattle.std.proofs.lemmas.Bool.Decides.{Decides-like, Decides-or}
use Rattle.nfs_types.specs.declared.status.Status.{Status}
use Rattle.nfs_types.specs.declared.wcc.Wcc.{Wcc}
use Rattle.nfs_file_calls.specs.declared.call.FileCall.{FileCall}
use Rattle.nfs_file_calls.specs.declared.call.FileCall.TheVariants as files
use Rattle.nfs_file_calls.specs.declared.owned.FileKept.{FileKept}
use Rattle.nfs_file_calls.specs.declared.owned.FileKept.TheVariants as kept
use Rattle.world_model.specs.declared.message.Call.TheVariants as calls
use Rattle.world_model.specs.declared.message.Reply.TheVariants as replies
use Rattle.world_model.specs.Server.{Server}
use Rattle.world_model.specs.Steps.{Same}
use Rattle.world_model.specs.FileService.{WritesPrefix}
use Rattle.world_model.specs.Service.{RefusesWcc, Serves, refused, broken_off, done}
use Rattle.trace_data.specs.declared.trace.Trace.{Trace}
use Rattle.trace_data.specs.Histories.{server_at}
use Rattle.trace_steps.specs.MomentTests.{is_same}
use Rattle.trace_steps.specs.FileTests.{refuses, refuses_with, refuses_wcc, asks, sets, reads_bytes, writes, breaks_off, commits, serves_file}
use Rattle.trace_steps.proofs.Sparing.{is-same}
use Rattle.trace_steps.proofs.FileDone.{refuses-decides, with-decides, refused-wcc, asks-decides, gets-decides, sets-decides, read-done, write-done, break-done, commit-done}
use Rattle.trace_steps.proofs.Serving as serving

module _ (t : Trace) (n : ℕ) where
  abbrev pub S : Server
  S = server_at t n

  abbrev pub T : Server
  T = server_at t (suc n)

  -- a WRITE that is refused: nothing changed, or a prefix of its bytes was put into the file
  breaks : (f : List ℕ) (offset how : ℕ) (bytes : List ℕ) (status : Status) (wcc : Wcc) → Decides (refuses_wcc t n status f wcc || breaks_off t n f offset bytes status wcc) (Serves S (calls.File (files.Write f offset how bytes)) (replies.File (kept.WriteFail status wcc)) T)
  breaks f offset how bytes status wcc =
      Decides-like (refuses_wcc t n status f wcc || breaks_off t n f offset bytes status wcc) to from
      (Decides-or (refuses_wcc t n status f wcc) (breaks_off t n f offset bytes status wcc) (refused-wcc t n status f wcc) (break-done t n f offset bytes status wcc))
    where
      to : (RefusesWcc S status f wcc × Same S T) ⊎ WritesPrefix S T f offset bytes status wcc → Serves S (calls.File (files.Write f offset how bytes)) (replies.File (kept.WriteFail status wcc)) T
      to (inl r) = refused r.0 r.1
      to (inr w) = broken_off f offset how bytes status wcc refl refl w

      same-args : (f' : List ℕ) (offset' how' : ℕ) (bytes' : List ℕ) (status' : Status) (wcc' : Wcc) → calls.File (files.Write f offset how bytes) ≡ calls.File (files.Write f' offset' how' bytes') → replies.File (kept.WriteFail status wcc) ≡ replies.File (kept.WriteFail status' wcc') → WritesPrefix S T f' offset' bytes' status' wcc' → WritesPrefix S T f offset bytes status wcc
      same-args f' offset' how' bytes' status' wcc' is answer w =
          let a : f ≡ f' = cc in
          let b : offset ≡ offset' = cc in
          let c : bytes ≡ bytes' = cc in
          let d : status ≡ status' = cc in
          let e : wcc ≡ wcc' = cc in
          subst (λ (z : List ℕ). WritesPrefix S T z offset bytes status wcc) (sym a)
          (subst (λ (z : ℕ). WritesPrefix S T f' z bytes status wcc) (sym b)
          (subst (λ (z : List ℕ). WritesPrefix S T f' offset' z status wcc) (sym c)
          (subst (λ (z : Status). WritesPrefix S T f' offset' bytes' z wcc) (sym d)
          (subst (λ (z : Wcc). WritesPrefix S T f' offset' bytes' status' z) (sym e) w))))

      from : Serves S (calls.File (files.Write f offset how bytes)) (replies.File (kept.WriteFail status wcc)) T → (RefusesWcc S status f wcc × Same S T) ⊎ WritesPrefix S T f offset bytes status wcc
      from (refused r same) = inl (r, same)
      from (broken_off f' offset' how' bytes' status' wcc' is answer w) = inr (same-args f' offset' how' bytes' status' wcc' is answer w)
      from (done d) = absurd d

  pub file-rows : (call : FileCall) (reply : FileKept) → Decides (serves_file t n call reply) (Serves S (calls.File call) (replies.File reply) T)
  file-rows files.Null kept.Null = serving.does S T _ _ (is_same t n) (λ r. r) (λ b. b) (is-same t n)
  file-rows files.Null (kept.GetAttr _) = serving.off S T _ _ (λ r. r) (λ b. b) (λ d. d)
  file-rows files.Null (kept.GetAttrFail _) = serving.off S T _ _ (λ r. r) (λ b. b) (λ d. d)
  file-rows files.Null (kept.SetAttr _) = serving.off S T _ _ (λ r. r) (λ b. b) (λ d. d)
  file-rows files.Null (kept.SetAttrFail _ _) = serving.off S T _ _ (λ r. r) (λ b. b) (λ d. d)
  file-rows files.Null (kept.Access _ _) = serving.off S T _ _ (λ r. r) (λ b. b) (λ d. d)
  file-rows files.Null (kept.AccessFail _ _) = serving.off S T _ _ (λ r. r) (λ b. b) (λ d. d)
  file-rows files.Null (kept.Read _ _ _ _) = serving.off S T _ _ (λ r. r) (λ b. b) (λ d. d)
  file-rows files.Null (kept.ReadFail _ _) = serving.off S T _ _ (λ r. r) (λ b. b) (λ d. d)
  file-rows files.Null (kept.Write _ _ _ _) = serving.off S T _ _ (λ r. r) (λ b. b) (λ d. d)
  file-rows files.Null (kept.WriteFail _ _) = serving.off S T _ _ (λ r. r) (λ b. b) (λ d. d)
  file-rows files.Null (kept.FsStat _ _ _ _ _ _ _ _) = serving.off S T _ _ (λ r. r) (λ b. b) (λ d. d)
  file-rows files.Null (kept.FsStatFail _ _) = serving.off S T _ _ (λ r. r) (λ b. b) (λ d. d)
  file-rows files.Null (kept.FsInfo _ _ _ _ _ _ _ _ _ _ _) = serving.off S T _ _ (λ r. r) (λ b. b) (λ d. d)
  file-rows files.Null (kept.FsInfoFail _ _) = serving.off S T _ _ (λ r. r) (λ b. b) (λ d. d)
  file-rows files.Null (kept.PathConf _ _ _ _ _ _ _) = serving.off S T _ _ (λ r. r) (λ b. b) (λ d. d)
  file-rows files.Null (kept.PathConfFail _ _) = serving.off S T _ _ (λ r. r) (λ b. b) (λ d. d)
  file-rows files.Null (kept.Commit _ _) = serving.off S T _ _ (λ r. r) (λ b. b) (λ d. d)
  file-rows files.Null (kept.CommitFail _ _) = serving.off S T _ _ (λ r. r) (λ b. b) (λ d. d)
  file-rows (files.GetAttr _) kept.Null = serving.off S T _ _ (λ r. r) (λ b. b) (λ d. d)
  file-rows (files.GetAttr file) (kept.GetAttr attr) = serving.does S T _ _ (asks t n file (Some attr)) (λ r. r) (λ b. b) (gets-decides t n file attr)
  file-rows (files.GetAttr _) (kept.GetAttrFail status) = serving.fails S T _ _ (refuses t n status) (λ b. b) (λ d. d) (refuses-decides t n status)
  file-rows (files.GetAttr _) (kept.SetAttr _) = serving.off S T _ _ (λ r. r) (λ b. b) (λ d. d)
  file-rows (files.GetAttr _) (kept.SetAttrFail _ _) = serving.off S T _ _ (λ r. r) (λ b. b) (λ d. d)
  file-rows (files.GetAttr _) (kept.Access _ _) = serving.off S T _ _ (λ r. r) (λ b. b) (λ d. d)
  file-rows (files.GetAttr _) (kept.AccessFail _ _) = serving.off S T _ _ (λ r. r) (λ b. b) (λ d. d)
  file-rows (files.GetAttr _) (kept.Read _ _ _ _) = serving.off S T _ _ (λ r. r) (λ b. b) (λ d. d)
  file-rows (files.GetAttr _) (kept.ReadFail _ _) = serving.off S T _ _ (λ r. r) (λ b. b) (λ d. d)
  file-rows (files.GetAttr _) (kept.Write _ _ _ _) = serving.off S T _ _ (λ r. r) (λ b. b) (λ d. d)
  file-rows (files.GetAttr _) (kept.WriteFail _ _) = serving.off S T _ _ (λ r. r) (λ b. b) (λ d. d)
  file-rows (files.GetAttr _) (kept.FsStat _ _ _ _ _ _ _ _) = serving.off S T _ _ (λ r. r) (λ b. b) (λ d. d)
  file-rows (files.GetAttr _) (kept.FsStatFail _ _) = serving.off S T _ _ (λ r. r) (λ b. b) (λ d. d)
  file-rows (files.GetAttr _) (kept.FsInfo _ _ _ _ _ _ _ _ _ _ _) = serving.off S T _ _ (λ r. r) (λ b. b) (λ d. d)
  file-rows (files.GetAttr _) (kept.FsInfoFail _ _) = serving.off S T _ _ (λ r. r) (λ b. b) (λ d. d)
  file-rows (files.GetAttr _) (kept.PathConf _ _ _ _ _ _ _) = serving.off S T _ _ (λ r. r) (λ b. b) (λ d. d)
  file-rows (files.GetAttr _) (kept.PathConfFail _ _) = serving.off S T _ _ (λ r. r) (λ b. b) (λ d. d)
  file-rows (files.GetAttr _) (kept.Commit _ _) = serving.off S T _ _ (λ r. r) (λ b. b) (λ d. d)
  file-rows (files.GetAttr _) (kept.CommitFail _ _) = serving.off S T _ _ (λ r. r) (λ b. b) (λ d. d)
  file-rows (files.SetAttr _ _ _) kept.Null = serving.off S T _ _ (λ r. r) (λ b. b) (λ d. d)
  file-rows (files.SetAttr _ _ _) (kept.GetAttr _) = serving.off S T _ _ (λ r. r) (λ b. b) (λ d. d)
  file-rows (files.SetAttr _ _ _) (kept.GetAttrFail _) = serving.off S T _ _ (λ r. r) (λ b. b) (λ d. d)
  file-rows (files.SetAttr file set _) (kept.SetAttr wcc) = serving.does S T _ _ (sets t n file set wcc) (λ r. r) (λ b. b) (sets-decides t n file set wcc)
  file-rows (files.SetAttr file _ _) (kept.SetAttrFail status wcc) = serving.fails S T _ _ (refuses_wcc t n status file wcc) (λ b. b) (λ d. d) (refused-wcc t n status file wcc)
  file-rows (files.SetAttr _ _ _) (kept.Access _ _) = serving.off S T _ _ (λ r. r) (λ b. b) (λ d. d)
  file-rows (files.SetAttr _ _ _) (kept.AccessFail _ _) = serving.off S T _ _ (λ r. r) (λ b. b) (λ d. d)
  file-rows (files.SetAttr _ _ _) (kept.Read _ _ _ _) = serving.off S T _ _ (λ r. r) (λ b. b) (λ d. d)
  file-rows (files.SetAttr _ _ _) (kept.ReadFail _ _) = serving.off S T _ _ (λ r. r) (λ b. b) (λ d. d)
  file-rows (files.SetAttr _ _ _) (kept.Write _ _ _ _) = serving.off S T _ _ (λ r. r) (λ b. b) (λ d. d)
  file-rows (files.SetAttr _ _ _) (kept.WriteFail _ _) = serving.off S T _ _ (λ r. r) (λ b. b) (λ d. d)
  file-rows (files.SetAttr _ _ _) (kept.FsStat _ _ _ _ _ _ _ _) = serving.off S T _ _ (λ r. r) (λ b. b) (λ d. d)
  file-rows (files.SetAttr _ _ _) (kept.FsStatFail _ _) = serving.off S T _ _ (λ r. r) (λ b. b) (λ d. d)
  file-rows (files.SetAttr _ _ _) (kept.FsInfo _ _ _ _ _ _ _ _ _ _ _) = serving.off S T _ _ (λ r. r) (λ b. b) (λ d. d)
  file-rows (files.SetAttr _ _ _) (kept.FsInfoFail _ _) = serving.off S T _ _ (λ r. r) (λ b. b) (λ d. d)
  file-rows (files.SetAttr _ _ _) (kept.PathConf _ _ _ _ _ _ _) = serving.off S T _ _ (λ r. r) (λ b. b) (λ d. d)
  file-rows (files.SetAttr _ _ _) (kept.PathConfFail _ _) = serving.off S T _ _ (λ r. r) (λ b. b) (λ d. d)
  file-rows (files.SetAttr _ _ _) (kept.Commit _ _) = serving.off S T _ _ (λ r. r) (λ b. b) (λ d. d)
  file-rows (files.SetAttr _ _ _) (kept.CommitFail _ _) = serving.off S T _ _ (λ r. r) (λ b. b) (λ d. d)
  file-rows (files.Access _ _) kept.Null = serving.off S T _ _ (λ r. r) (λ b. b) (λ d. d)
  file-rows (files.Access _ _) (kept.GetAttr _) = serving.off S T _ _ (λ r. r) (λ b. b) (λ d. d)
  file-rows (files.Access _ _) (kept.GetAttrFail _) = serving.off S T _ _ (λ r. r) (λ b. b) (λ d. d)
  file-rows (files.Access _ _) (kept.SetAttr _) = serving.off S T _ _ (λ r. r) (λ b. b) (λ d. d)
  file-rows (files.Access _ _) (kept.SetAttrFail _ _) = serving.off S T _ _ (λ r. r) (λ b. b) (λ d. d)
  file-rows (files.Access file _) (kept.Access attr _) = serving.does S T _ _ (asks t n file attr) (λ r. r) (λ b. b) (asks-decides t n file attr)
  file-rows (files.Access file _) (kept.AccessFail status attr) = serving.fails S T _ _ (refuses_with t n status file attr) (λ b. b) (λ d. d) (with-decides t n status file attr)
  file-rows (files.Access _ _) (kept.Read _ _ _ _) = serving.off S T _ _ (λ r. r) (λ b. b) (λ d. d)
  file-rows (files.Access _ _) (kept.ReadFail _ _) = serving.off S T _ _ (λ r. r) (λ b. b) (λ d. d)
  file-rows (files.Access _ _) (kept.Write _ _ _ _) = serving.off S T _ _ (λ r. r) (λ b. b) (λ d. d)
  file-rows (files.Access _ _) (kept.WriteFail _ _) = serving.off S T _ _ (λ r. r) (λ b. b) (λ d. d)
  file-rows (files.Access _ _) (kept.FsStat _ _ _ _ _ _ _ _) = serving.off S T _ _ (λ r. r) (λ b. b) (λ d. d)
  file-rows (files.Access _ _) (kept.FsStatFail _ _) = serving.off S T _ _ (λ r. r) (λ b. b) (λ d. d)
  file-rows (files.Access _ _) (kept.FsInfo _ _ _ _ _ _ _ _ _ _ _) = serving.off S T _ _ (λ r. r) (λ b. b) (λ d. d)
  file-rows (files.Access _ _) (kept.FsInfoFail _ _) = serving.off S T _ _ (λ r. r) (λ b. b) (λ d. d)
  file-rows (files.Access _ _) (kept.PathConf _ _ _ _ _ _ _) = serving.off S T _ _ (λ r. r) (λ b. b) (λ d. d)
  file-rows (files.Access _ _) (kept.PathConfFail _ _) = serving.off S T _ _ (λ r. r) (λ b. b) (λ d. d)
  file-rows (files.Access _ _) (kept.Commit _ _) = serving.off S T _ _ (λ r. r) (λ b. b) (λ d. d)
  file-rows (files.Access _ _) (kept.CommitFail _ _) = serving.off S T _ _ (λ r. r) (λ b. b) (λ d. d)
  file-rows (files.Read _ _ _) kept.Null = serving.off S T _ _ (λ r. r) (λ b. b) (λ d. d)
  file-rows (files.Read _ _ _) (kept.GetAttr _) = serving.off S T _ _ (λ r. r) (λ b. b) (λ d. d)
  file-rows (files.Read _ _ _) (kept.GetAttrFail _) = serving.off S T _ _ (λ r. r) (λ b. b) (λ d. d)
  file-rows (files.Read _ _ _) (kept.SetAttr _) = serving.off S T _ _ (λ r. r) (λ b. b) (λ d. d)
  file-rows (files.Read _ _ _) (kept.SetAttrFail _ _) = serving.off S T _ _ (λ r. r) (λ b. b) (λ d. d)
  file-rows (files.Read _ _ _) (kept.Access _ _) = serving.off S T _ _ (λ r. r) (λ b. b) (λ d. d)
  file-rows (files.Read _ _ _) (kept.AccessFail _ _) = serving.off S T _ _ (λ r. r) (λ b. b) (λ d. d)
  file-rows (files.Read file offset count) (kept.Read attr counted eof data_) = serving.does S T _ _ (reads_bytes t n file offset count attr counted eof data_) (λ r. r) (λ b. b) (read-done t n file offset count attr counted eof data_)
  file-rows (files.Read file _ _) (kept.ReadFail status attr) = serving.fails S T _ _ (refuses_with t n status file attr) (λ b. b) (λ d. d) (with-decides t n status file attr)
  file-rows (files.Read _ _ _) (kept.Write _ _ _ _) = serving.off S T _ _ (λ r. r) (λ b. b) (λ d. d)
  file-rows (files.Read _ _ _) (kept.WriteFail _ _) = serving.off S T _ _ (λ r. r) (λ b. b) (λ d. d)
  file-rows (files.Read _ _ _) (kept.FsStat _ _ _ _ _ _ _ _) = serving.off S T _ _ (λ r. r) (λ b. b) (λ d. d)
  file-rows (files.Read _ _ _) (kept.FsStatFail _ _) = serving.off S T _ _ (λ r. r) (λ b. b) (λ d. d)
  file-rows (files.Read _ _ _) (kept.FsInfo _ _ _ _ _ _ _ _ _ _ _) = serving.off S T _ _ (λ r. r) (λ b. b) (λ d. d)
  file-rows (files.Read _ _ _) (kept.FsInfoFail _ _) = serving.off S T _ _ (λ r. r) (λ b. b) (λ d. d)
  file-rows (files.Read _ _ _) (kept.PathConf _ _ _ _ _ _ _) = serving.off S T _ _ (λ r. r) (λ b. b) (λ d. d)
  file-rows (files.Read _ _ _) (kept.PathConfFail _ _) = serving.off S T _ _ (λ r. r) (λ b. b) (λ d. d)
  file-rows (files.Read _ _ _) (kept.Commit _ _) = serving.off S T _ _ (λ r. r) (λ b. b) (λ d. d)
  file-rows (files.Read _ _ _) (kept.CommitFail _ _) = serving.off S T _ _ (λ r. r) (λ b. b) (λ d. d)
  file-rows (files.Write _ _ _ _) kept.Null = serving.off S T _ _ (λ r. r) (λ b. b) (λ d. d)
  file-rows (files.Write _ _ _ _) (kept.GetAttr _) = serving.off S T _ _ (λ r. r) (λ b. b) (λ d. d)
  file-rows (files.Write _ _ _ _) (kept.GetAttrFail _) = serving.off S T _ _ (λ r. r) (λ b. b) (λ d. d)
  file-rows (files.Write _ _ _ _) (kept.SetAttr _) = serving.off S T _ _ (λ r. r) (λ b. b) (λ d. d)
  file-rows (files.Write _ _ _ _) (kept.SetAttrFail _ _) = serving.off S T _ _ (λ r. r) (λ b. b) (λ d. d)
  file-rows (files.Write _ _ _ _) (kept.Access _ _) = serving.off S T _ _ (λ r. r) (λ b. b) (λ d. d)
  file-rows (files.Write _ _ _ _) (kept.AccessFail _ _) = serving.off S T _ _ (λ r. r) (λ b. b) (λ d. d)
  file-rows (files.Write _ _ _ _) (kept.Read _ _ _ _) = serving.off S T _ _ (λ r. r) (λ b. b) (λ d. d)
  file-rows (files.Write _ _ _ _) (kept.ReadFail _ _) = serving.off S T _ _ (λ r. r) (λ b. b) (λ d. d)
  file-rows (files.Write file offset how bytes) (kept.Write wcc counted committed verf) = serving.does S T _ _ (writes t n file offset how bytes wcc counted committed verf) (λ r. r) (λ b. b) (write-done t n file offset how bytes wcc counted committed verf)
  file-rows (files.Write file offset how bytes) (kept.WriteFail status wcc) = breaks file offset how bytes status wcc
  file-rows (files.Write _ _ _ _) (kept.FsStat _ _ _ _ _ _ _ _) = serving.off S T _ _ (λ r. r) (λ b. b) (λ d. d)
  file-rows (files.Write _ _ _ _) (kept.FsStatFail _ _) = serving.off S T _ _ (λ r. r) (λ b. b) (λ d. d)
  file-rows (files.Write _ _ _ _) (kept.FsInfo _ _ _ _ _ _ _ _ _ _ _) = serving.off S T _ _ (λ r. r) (λ b. b) (λ d. d)
  file-rows (files.Write _ _ _ _) (kept.FsInfoFail _ _) = serving.off S T _ _ (λ r. r) (λ b. b) (λ d. d)
  file-rows (files.Write _ _ _ _) (kept.PathConf _ _ _ _ _ _ _) = serving.off S T _ _ (λ r. r) (λ b. b) (λ d. d)
  file-rows (files.Write _ _ _ _) (kept.PathConfFail _ _) = serving.off S T _ _ (λ r. r) (λ b. b) (λ d. d)
  file-rows (files.Write _ _ _ _) (kept.Commit _ _) = serving.off S T _ _ (λ r. r) (λ b. b) (λ d. d)
  file-rows (files.Write _ _ _ _) (kept.CommitFail _ _) = serving.off S T _ _ (λ r. r) (λ b. b) (λ d. d)
  file-rows (files.FsStat _) kept.Null = serving.off S T _ _ (λ r. r) (λ b. b) (λ d. d)
  file-rows (files.FsStat _) (kept.GetAttr _) = serving.off S T _ _ (λ r. r) (λ b. b) (λ d. d)
  file-rows (files.FsStat _) (kept.GetAttrFail _) = serving.off S T _ _ (λ r. r) (λ b. b) (λ d. d)
  file-rows (files.FsStat _) (kept.SetAttr _) = serving.off S T _ _ (λ r. r) (λ b. b) (λ d. d)
  file-rows (files.FsStat _) (kept.SetAttrFail _ _) = serving.off S T _ _ (λ r. r) (λ b. b) (λ d. d)
  file-rows (files.FsStat _) (kept.Access _ _) = serving.off S T _ _ (λ r. r) (λ b. b) (λ d. d)
  file-rows (files.FsStat _) (kept.AccessFail _ _) = serving.off S T _ _ (λ r. r) (λ b. b) (λ d. d)
  file-rows (files.FsStat _) (kept.Read _ _ _ _) = serving.off S T _ _ (λ r. r) (λ b. b) (λ d. d)
  file-rows (files.FsStat _) (kept.ReadFail _ _) = serving.off S T _ _ (λ r. r) (λ b. b) (λ d. d)
  file-rows (files.FsStat _) (kept.Write _ _ _ _) = serving.off S T _ _ (λ r. r) (λ b. b) (λ d. d)
  file-rows (files.FsStat _) (kept.WriteFail _ _) = serving.off S T _ _ (λ r. r) (λ b. b) (λ d. d)
  file-rows (files.FsStat file) (kept.FsStat attr _ _ _ _ _ _ _) = serving.does S T _ _ (asks t n file attr) (λ r. r) (λ b. b) (asks-decides t n file attr)
  file-rows (files.FsStat file) (kept.FsStatFail status attr) = serving.fails S T _ _ (refuses_with t n status file attr) (λ b. b) (λ d. d) (with-decides t n status file attr)
  file-rows (files.FsStat _) (kept.FsInfo _ _ _ _ _ _ _ _ _ _ _) = serving.off S T _ _ (λ r. r) (λ b. b) (λ d. d)
  file-rows (files.FsStat _) (kept.FsInfoFail _ _) = serving.off S T _ _ (λ r. r) (λ b. b) (λ d. d)
  file-rows (files.FsStat _) (kept.PathConf _ _ _ _ _ _ _) = serving.off S T _ _ (λ r. r) (λ b. b) (λ d. d)
  file-rows (files.FsStat _) (kept.PathConfFail _ _) = serving.off S T _ _ (λ r. r) (λ b. b) (λ d. d)
  file-rows (files.FsStat _) (kept.Commit _ _) = serving.off S T _ _ (λ r. r) (λ b. b) (λ d. d)
  file-rows (files.FsStat _) (kept.CommitFail _ _) = serving.off S T _ _ (λ r. r) (λ b. b) (λ d. d)
  file-rows (files.FsInfo _) kept.Null = serving.off S T _ _ (λ r. r) (λ b. b) (λ d. d)
  file-rows (files.FsInfo _) (kept.GetAttr _) = serving.off S T _ _ (λ r. r) (λ b. b) (λ d. d)
  file-rows (files.FsInfo _) (kept.GetAttrFail _) = serving.off S T _ _ (λ r. r) (λ b. b) (λ d. d)
  file-rows (files.FsInfo _) (kept.SetAttr _) = serving.off S T _ _ (λ r. r) (λ b. b) (λ d. d)
  file-rows (files.FsInfo _) (kept.SetAttrFail _ _) = serving.off S T _ _ (λ r. r) (λ b. b) (λ d. d)
  file-rows (files.FsInfo _) (kept.Access _ _) = serving.off S T _ _ (λ r. r) (λ b. b) (λ d. d)
  file-rows (files.FsInfo _) (kept.AccessFail _ _) = serving.off S T _ _ (λ r. r) (λ b. b) (λ d. d)
  file-rows (files.FsInfo _) (kept.Read _ _ _ _) = serving.off S T _ _ (λ r. r) (λ b. b) (λ d. d)
  file-rows (files.FsInfo _) (kept.ReadFail _ _) = serving.off S T _ _ (λ r. r) (λ b. b) (λ d. d)
  file-rows (files.FsInfo _) (kept.Write _ _ _ _) = serving.off S T _ _ (λ r. r) (λ b. b) (λ d. d)
  file-rows (files.FsInfo _) (kept.WriteFail _ _) = serving.off S T _ _ (λ r. r) (λ b. b) (λ d. d)
  file-rows (files.FsInfo _) (kept.FsStat _ _ _ _ _ _ _ _) = serving.off S T _ _ (λ r. r) (λ b. b) (λ d. d)
  file-rows (files.FsInfo _) (kept.FsStatFail _ _) = serving.off S T _ _ (λ r. r) (λ b. b) (λ d. d)
  file-rows (files.FsInfo file) (kept.FsInfo attr _ _ _ _ _ _ _ _ _ _) = serving.does S T _ _ (asks t n file attr) (λ r. r) (λ b. b) (asks-decides t n file attr)
  file-rows (files.FsInfo file) (kept.FsInfoFail status attr) = serving.fails S T _ _ (refuses_with t n status file attr) (λ b. b) (λ d. d) (with-decides t n status file attr)
  file-rows (files.FsInfo _) (kept.PathConf _ _ _ _ _ _ _) = serving.off S T _ _ (λ r. r) (λ b. b) (λ d. d)
  file-rows (files.FsInfo _) (kept.PathConfFail _ _) = serving.off S T _ _ (λ r. r) (λ b. b) (λ d. d)
  file-rows (files.FsInfo _) (kept.Commit _ _) = serving.off S T _ _ (λ r. r) (λ b. b) (λ d. d)
  file-rows (files.FsInfo _) (kept.CommitFail _ _) = serving.off S T _ _ (λ r. r) (λ b. b) (λ d. d)
  file-rows (files.PathConf _) kept.Null = serving.off S T _ _ (λ r. r) (λ b. b) (λ d. d)
  file-rows (files.PathConf _) (kept.GetAttr _) = serving.off S T _ _ (λ r. r) (λ b. b) (λ d. d)
  file-rows (files.PathConf _) (kept.GetAttrFail _) = serving.off S T _ _ (λ r. r) (λ b. b) (λ d. d)
  file-rows (files.PathConf _) (kept.SetAttr _) = serving.off S T _ _ (λ r. r) (λ b. b) (λ d. d)
  file-rows (files.PathConf _) (kept.SetAttrFail _ _) = serving.off S T _ _ (λ r. r) (λ b. b) (λ d. d)
  file-rows (files.PathConf _) (kept.Access _ _) = serving.off S T _ _ (λ r. r) (λ b. b) (λ d. d)
  file-rows (files.PathConf _) (kept.AccessFail _ _) = serving.off S T _ _ (λ r. r) (λ b. b) (λ d. d)
  file-rows (files.PathConf _) (kept.Read _ _ _ _) = serving.off S T _ _ (λ r. r) (λ b. b) (λ d. d)
  file-rows (files.PathConf _) (kept.ReadFail _ _) = serving.off S T _ _ (λ r. r) (λ b. b) (λ d. d)
  file-rows (files.PathConf _) (kept.Write _ _ _ _) = serving.off S T _ _ (λ r. r) (λ b. b) (λ d. d)
  file-rows (files.PathConf _) (kept.WriteFail _ _) = serving.off S T _ _ (λ r. r) (λ b. b) (λ d. d)
  file-rows (files.PathConf _) (kept.FsStat _ _ _ _ _ _ _ _) = serving.off S T _ _ (λ r. r) (λ b. b) (λ d. d)
  file-rows (files.PathConf _) (kept.FsStatFail _ _) = serving.off S T _ _ (λ r. r) (λ b. b) (λ d. d)
  file-rows (files.PathConf _) (kept.FsInfo _ _ _ _ _ _ _ _ _ _ _) = serving.off S T _ _ (λ r. r) (λ b. b) (λ d. d)
  file-rows (files.PathConf _) (kept.FsInfoFail _ _) = serving.off S T _ _ (λ r. r) (λ b. b) (λ d. d)
  file-rows (files.PathConf file) (kept.PathConf attr _ _ _ _ _ _) = serving.does S T _ _ (asks t n file attr) (λ r. r) (λ b. b) (asks-decides t n file attr)
  file-rows (files.PathConf file) (kept.PathConfFail status attr) = serving.fails S T _ _ (refuses_with t n status file attr) (λ b. b) (λ d. d) (with-decides t n status file attr)
  file-rows (files.PathConf _) (kept.Commit _ _) = serving.off S T _ _ (λ r. r) (λ b. b) (λ d. d)
  file-rows (files.PathConf _) (kept.CommitFail _ _) = serving.off S T _ _ (λ r. r) (λ b. b) (λ d. d)
  file-rows (files.Commit _ _ _) kept.Null = serving.off S T _ _ (λ r. r) (λ b. b) (λ d. d)
  file-rows (files.Commit _ _ _) (kept.GetAttr _) = serving.off S T _ _ (λ r. r) (λ b. b) (λ d. d)
  file-rows (files.Commit _ _ _) (kept.GetAttrFail _) = serving.off S T _ _ (λ r. r) (λ b. b) (λ d. d)
  file-rows (files.Commit _ _ _) (kept.SetAttr _) = serving.off S T _ _ (λ r. r) (λ b. b) (λ d. d)
  file-rows (files.Commit _ _ _) (kept.SetAttrFail _ _) = serving.off S T _ _ (λ r. r) (λ b. b) (λ d. d)
  file-rows (files.Commit _ _ _) (kept.Access _ _) = serving.off S T _ _ (λ r. r) (λ b. b) (λ d. d)
  file-rows (files.Commit _ _ _) (kept.AccessFail _ _) = serving.off S T _ _ (λ r. r) (λ b. b) (λ d. d)
  file-rows (files.Commit _ _ _) (kept.Read _ _ _ _) = serving.off S T _ _ (λ r. r) (λ b. b) (λ d. d)
  file-rows (files.Commit _ _ _) (kept.ReadFail _ _) = serving.off S T _ _ (λ r. r) (λ b. b) (λ d. d)
  file-rows (files.Commit _ _ _) (kept.Write _ _ _ _) = serving.off S T _ _ (λ r. r) (λ b. b) (λ d. d)
  file-rows (files.Commit _ _ _) (kept.WriteFail _ _) = serving.off S T _ _ (λ r. r) (λ b. b) (λ d. d)
  file-rows (files.Commit _ _ _) (kept.FsStat _ _ _ _ _ _ _ _) = serving.off S T _ _ (λ r. r) (λ b. b) (λ d. d)
  file-rows (files.Commit _ _ _) (kept.FsStatFail _ _) = serving.off S T _ _ (λ r. r) (λ b. b) (λ d. d)
  file-rows (files.Commit _ _ _) (kept.FsInfo _ _ _ _ _ _ _ _ _ _ _) = serving.off S T _ _ (λ r. r) (λ b. b) (λ d. d)
  file-rows (files.Commit _ _ _) (kept.FsInfoFail _ _) = serving.off S T _ _ (λ r. r) (λ b. b) (λ d. d)
  file-rows (files.Commit _ _ _) (kept.PathConf _ _ _ _ _ _ _) = serving.off S T _ _ (λ r. r) (λ b. b) (λ d. d)
  file-rows (files.Commit _ _ _) (kept.PathConfFail _ _) = serving.off S T _ _ (λ r. r) (λ b. b) (λ d. d)
  file-rows (files.Commit file offset count) (kept.Commit wcc verf) = serving.does S T _ _ (commits t n file offset count wcc verf) (λ r. r) (λ b. b) (commit-done t n file offset count wcc verf)
  file-rows (files.Commit file _ _) (kept.CommitFail status wcc) = serving.fails S T _ _ (refuses_wcc t n status file wcc) (λ b. b) (λ d. d) (refused-wcc t n status file wcc)
