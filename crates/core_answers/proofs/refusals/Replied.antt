-- What a reply comes to for an operation, by its call: a status refuses the call, a broken rule does, and no reply is of another procedure.
use Rattle.core_answers.proofs.Prelude.{◌≡◌, ◌≢◌, ◌<◌, ◌+◌, ◌||◌, ◌==◌, ◌⊎◌, inl, inr, ℕ, Bool, true, false, List, [], ◌∷◌, length, Option, Some, None, Result, Ok, Err, refl, sym, subst, arith, if◌then◌else◌, nat_lt, eqb-true, eqb-false, Attr, Verf, Wcc, DirKept, PlusRow, FileCall, FileKept, ListFault, More, End, last_cookie, listing_limit, page_step, Fault, Value, Call, Reply, look_up, list_call, SpellsReply, Pending, Sent, Saving, write_told_by, written_by, commit_told, Said, part, refusal, said_to, breaks_rule, Turn, access_call, access_told, deed_call, deed_told, link_call, linked_told, found_by, moved_told, text_call, sym_link_call, sym_linked_told, FineOption, FineResult, fine-fault, write_of}
use Rattle.std.specs.Prelude.{nat_eq, not, ◌&&◌}
use Rattle.std.proofs.lemmas.Bool.{ltb-true}
use Rattle.dir_list.specs.Listings.{counted}
use Rattle.file_ops.specs.ReadReply.{said_by}
use Rattle.name_ops.specs.Moving.{move_call}
use Rattle.name_ops.specs.ReadLink.{TellsText}
use Rattle.core_facts.proofs.Faults.{fine-some}
use Rattle.nfs_dir_calls.specs.declared.call.DirCall.{DirCall}
use Rattle.nfs_dir_calls.specs.declared.call.DirCall.TheVariants as dirs
use Rattle.nfs_dir_calls.specs.declared.create.Making.{Making}
use Rattle.nfs_dir_calls.specs.declared.keeping.DirKept.TheVariants as found
use Rattle.nfs_file_calls.specs.declared.call.FileCall.TheVariants as files
use Rattle.nfs_file_calls.specs.declared.owned.FileKept.TheVariants as kept
use Rattle.dir_list.specs.declared.progress.ListFault.TheVariants as list_faults
use Rattle.world_model.specs.declared.answer.Fault.TheVariants as faults
use Rattle.world_model.specs.declared.answer.Value.TheVariants as values
use Rattle.world_model.specs.declared.message.Call.TheVariants as calls
use Rattle.world_model.specs.declared.message.Reply.TheVariants as replies
use Rattle.world_model.specs.Heard.{status_of}
use Rattle.claims.specs.PageRules.{RefusesSo, refuses, breaks, wrong_data, no_entry, WrongData, longer, unlike, nothing}
use Rattle.world_model.specs.Rules.{wrong_committed, wrong_count}
use Rattle.file_ops.specs.Saves as saves
use Rattle.file_ops.specs.Told as told
use Rattle.file_ops.specs.TruncateFile as truncates
use Rattle.name_ops.specs.declared.dir_change.DirDeed.TheVariants as deeds
use Rattle.name_ops.specs.ListDir as listing
use Rattle.name_ops.specs.RemoveFile as removals
use Rattle.name_ops.specs.Stat as stats
use Rattle.core_answers.proofs.answers.PieceSteps.{IsPiece}
use Rattle.core_answers.proofs.answers.SaveFaults.{CallFaults, FitsSave}

or-either : (a b : Bool) → (a || b) ≡ true → (a ≡ true) ⊎ (b ≡ true)
or-either true b is = inl refl
or-either false b is = inr is

and-both : (a b : Bool) → (a && b) ≡ true → (a ≡ true) × (b ≡ true)
and-both true b is = (refl, is)
and-both false b is = absurd (cc)

not-true : (b : Bool) → not b ≡ true → b ≡ false
not-true true is = absurd (cc)
not-true false is = refl

empty-of : (xs : List ℕ) → length xs ≡ 0 → xs ≡ []
empty-of [] is = refl
empty-of (x ∷ xs) is = absurd (omega (arith, is))

not-zero : (n : ℕ) → 0 < n → n ≢ 0
not-zero n some none = absurd (omega (arith, some, none))

module _ (P : Fault → Type 0) (own : CallFaults P) (xid : ℕ) (rec : List ℕ) where
  -- A reply is what the record spells; P holds of what came in place of one, and of what the record refuses the call with.
  pub record Given (call : Call) (came : Result Reply Fault) : Type 0 where
    pub ok : (reply : Reply) → came ≡ Ok reply → SpellsReply xid call reply rec
    pub err : (fault : Fault) → came ≡ Err fault → P fault
    pub give : (reply : Reply) → came ≡ Ok reply → (fault : Fault) → RefusesSo xid call rec fault → P fault

  pub given-as : (a b : Call) (came : Result Reply Fault) → a ≡ b → Given a came → Given b came
  given-as a b came is g = subst (λ (c : Call). Given c came) is g

  err-fine : (call : Call) (fault : Fault) → Given call (Err fault) → P fault
  err-fine call fault g = g.err fault refl

  -- a status of a directory's procedure
  of-dir : (call : DirCall) (reply : DirKept) (status : ℕ) → Given (calls.Dir call) (Ok (replies.Dir reply)) → status_of (replies.Dir reply) ≡ status → 0 < status → P (faults.Nfs status)
  of-dir call reply status g is some = g.give _ refl (faults.Nfs status) (refuses (replies.Dir reply, g.ok (replies.Dir reply) refl, is, not-zero status some))

  of-file : (call : FileCall) (reply : FileKept) (status : ℕ) → Given (calls.File call) (Ok (replies.File reply)) → status_of (replies.File reply) ≡ status → 0 < status → P (faults.Nfs status)
  of-file call reply status g is some = g.give _ refl (faults.Nfs status) (refuses (replies.File reply, g.ok (replies.File reply) refl, is, not-zero status some))

  -- ---- directories and names

  looked-dir : (d name : List ℕ) → (reply : DirKept) → Given (look_up d name) (Ok (replies.Dir reply)) → FineResult P (found_by (Ok (replies.Dir reply)))
  looked-dir d name (found.Lookup object attr dir) g = tt
  looked-dir d name (found.LookupFail status dir) g = of-dir _ (found.LookupFail status dir) status.0 g refl (g.ok _ refl).is.is.failed
  looked-dir d name reply g = absurd (let no_way = (g.ok _ refl).is.of in omega (arith, no_way))

  pub looked : (d name : List ℕ) → (came : Result Reply Fault) → Given (look_up d name) came → FineResult P (found_by came)
  looked d name (Ok (replies.Dir reply)) g = looked-dir d name reply g
  looked d name (Ok (replies.File reply)) g = absurd ((g.ok _ refl).is)
  looked d name (Ok (replies.Mount reply)) g = absurd ((g.ok _ refl).is)
  looked d name (Err fault) g = err-fine (look_up d name) fault g

  found-file-dir : (d name : List ℕ) → (reply : DirKept) → Given (look_up d name) (Ok (replies.Dir reply)) → FineResult P (told.found_by (Ok (replies.Dir reply)))
  found-file-dir d name (found.Lookup object attr dir) g = tt
  found-file-dir d name (found.LookupFail status dir) g = of-dir _ (found.LookupFail status dir) status.0 g refl (g.ok _ refl).is.is.failed
  found-file-dir d name reply g = absurd (let no_way = (g.ok _ refl).is.of in omega (arith, no_way))

  pub found-file : (d name : List ℕ) → (came : Result Reply Fault) → Given (look_up d name) came → FineResult P (told.found_by came)
  found-file d name (Ok (replies.Dir reply)) g = found-file-dir d name reply g
  found-file d name (Ok (replies.File reply)) g = absurd ((g.ok _ refl).is)
  found-file d name (Ok (replies.Mount reply)) g = absurd ((g.ok _ refl).is)
  found-file d name (Err fault) g = err-fine (look_up d name) fault g

  made-file-dir : (d name : List ℕ) (making : Making) → (reply : DirKept) → Given (calls.Dir (dirs.Create d name making)) (Ok (replies.Dir reply)) → FineResult P (told.made_by (Ok (replies.Dir reply)))
  made-file-dir d name making (found.Create object attr wcc) g = tt
  made-file-dir d name making (found.CreateFail status wcc) g = of-dir _ (found.CreateFail status wcc) status.0 g refl (g.ok _ refl).is.is.failed
  made-file-dir d name making reply g = absurd (let no_way = (g.ok _ refl).is.of in omega (arith, no_way))

  pub made-file : (d name : List ℕ) (making : Making) → (came : Result Reply Fault) → Given (calls.Dir (dirs.Create d name making)) came → FineResult P (told.made_by came)
  made-file d name making (Ok (replies.Dir reply)) g = made-file-dir d name making reply g
  made-file d name making (Ok (replies.File reply)) g = absurd ((g.ok _ refl).is)
  made-file d name making (Ok (replies.Mount reply)) g = absurd ((g.ok _ refl).is)
  made-file d name making (Err fault) g = err-fine (calls.Dir (dirs.Create d name making)) fault g

  dir-made-dir : (name d : List ℕ) → (reply : DirKept) → Given (deed_call deeds.Make name d) (Ok (replies.Dir reply)) → FineOption P (deed_told deeds.Make (Ok (replies.Dir reply))).refusal
  dir-made-dir name d (found.MkDir object attr wcc) g = tt
  dir-made-dir name d (found.MkDirFail status wcc) g = of-dir _ (found.MkDirFail status wcc) status.0 g refl (g.ok _ refl).is.is.failed
  dir-made-dir name d reply g = absurd (let no_way = (g.ok _ refl).is.of in omega (arith, no_way))

  pub dir-made : (name d : List ℕ) → (came : Result Reply Fault) → Given (deed_call deeds.Make name d) came → FineOption P (deed_told deeds.Make came).refusal
  dir-made name d (Ok (replies.Dir reply)) g = dir-made-dir name d reply g
  dir-made name d (Ok (replies.File reply)) g = absurd ((g.ok _ refl).is)
  dir-made name d (Ok (replies.Mount reply)) g = absurd ((g.ok _ refl).is)
  dir-made name d (Err fault) g = err-fine (deed_call deeds.Make name d) fault g

  dir-removed-dir : (name d : List ℕ) → (reply : DirKept) → Given (deed_call deeds.Remove name d) (Ok (replies.Dir reply)) → FineOption P (deed_told deeds.Remove (Ok (replies.Dir reply))).refusal
  dir-removed-dir name d (found.RmDir wcc) g = tt
  dir-removed-dir name d (found.RmDirFail status wcc) g = of-dir _ (found.RmDirFail status wcc) status.0 g refl (g.ok _ refl).is.is.failed
  dir-removed-dir name d reply g = absurd (let no_way = (g.ok _ refl).is.of in omega (arith, no_way))

  pub dir-removed : (name d : List ℕ) → (came : Result Reply Fault) → Given (deed_call deeds.Remove name d) came → FineOption P (deed_told deeds.Remove came).refusal
  dir-removed name d (Ok (replies.Dir reply)) g = dir-removed-dir name d reply g
  dir-removed name d (Ok (replies.File reply)) g = absurd ((g.ok _ refl).is)
  dir-removed name d (Ok (replies.Mount reply)) g = absurd ((g.ok _ refl).is)
  dir-removed name d (Err fault) g = err-fine (deed_call deeds.Remove name d) fault g

  linked-to-dir : (name target d : List ℕ) → (reply : DirKept) → Given (sym_link_call name target d) (Ok (replies.Dir reply)) → FineOption P (sym_linked_told (Ok (replies.Dir reply))).refusal
  linked-to-dir name target d (found.SymLink object attr wcc) g = tt
  linked-to-dir name target d (found.SymLinkFail status wcc) g = of-dir _ (found.SymLinkFail status wcc) status.0 g refl (g.ok _ refl).is.is.failed
  linked-to-dir name target d reply g = absurd (let no_way = (g.ok _ refl).is.of in omega (arith, no_way))

  pub linked-to : (name target d : List ℕ) → (came : Result Reply Fault) → Given (sym_link_call name target d) came → FineOption P (sym_linked_told came).refusal
  linked-to name target d (Ok (replies.Dir reply)) g = linked-to-dir name target d reply g
  linked-to name target d (Ok (replies.File reply)) g = absurd ((g.ok _ refl).is)
  linked-to name target d (Ok (replies.Mount reply)) g = absurd ((g.ok _ refl).is)
  linked-to name target d (Err fault) g = err-fine (sym_link_call name target d) fault g

  moved-dir : (d name e to : List ℕ) → (reply : DirKept) → Given (move_call d name e to) (Ok (replies.Dir reply)) → FineOption P (moved_told (Ok (replies.Dir reply))).refusal
  moved-dir d name e to (found.Rename source target) g = tt
  moved-dir d name e to (found.RenameFail status source target) g = of-dir _ (found.RenameFail status source target) status.0 g refl (g.ok _ refl).is.is.failed
  moved-dir d name e to reply g = absurd (let no_way = (g.ok _ refl).is.of in omega (arith, no_way))

  pub moved : (d name e to : List ℕ) → (came : Result Reply Fault) → Given (move_call d name e to) came → FineOption P (moved_told came).refusal
  moved d name e to (Ok (replies.Dir reply)) g = moved-dir d name e to reply g
  moved d name e to (Ok (replies.File reply)) g = absurd ((g.ok _ refl).is)
  moved d name e to (Ok (replies.Mount reply)) g = absurd ((g.ok _ refl).is)
  moved d name e to (Err fault) g = err-fine (move_call d name e to) fault g

  linked-dir : (name file d : List ℕ) → (reply : DirKept) → Given (link_call name file d) (Ok (replies.Dir reply)) → FineOption P (linked_told file (Ok (replies.Dir reply))).refusal
  linked-dir name file d (found.Link attr wcc) g = tt
  linked-dir name file d (found.LinkFail status attr wcc) g = of-dir _ (found.LinkFail status attr wcc) status.0 g refl (g.ok _ refl).is.is.failed
  linked-dir name file d reply g = absurd (let no_way = (g.ok _ refl).is.of in omega (arith, no_way))

  pub linked : (name file d : List ℕ) → (came : Result Reply Fault) → Given (link_call name file d) came → FineOption P (linked_told file came).refusal
  linked name file d (Ok (replies.Dir reply)) g = linked-dir name file d reply g
  linked name file d (Ok (replies.File reply)) g = absurd ((g.ok _ refl).is)
  linked name file d (Ok (replies.Mount reply)) g = absurd ((g.ok _ refl).is)
  linked name file d (Err fault) g = err-fine (link_call name file d) fault g

  removed-dir : (d name : List ℕ) → (reply : DirKept) → Given (calls.Dir (dirs.Remove d name)) (Ok (replies.Dir reply)) → FineOption P (removals.removed_told (Ok (replies.Dir reply))).refusal
  removed-dir d name (found.Remove wcc) g = tt
  removed-dir d name (found.RemoveFail status wcc) g = of-dir _ (found.RemoveFail status wcc) status.0 g refl (g.ok _ refl).is.is.failed
  removed-dir d name reply g = absurd (let no_way = (g.ok _ refl).is.of in omega (arith, no_way))

  pub removed : (d name : List ℕ) → (came : Result Reply Fault) → Given (calls.Dir (dirs.Remove d name)) came → FineOption P (removals.removed_told came).refusal
  removed d name (Ok (replies.Dir reply)) g = removed-dir d name reply g
  removed d name (Ok (replies.File reply)) g = absurd ((g.ok _ refl).is)
  removed d name (Ok (replies.Mount reply)) g = absurd ((g.ok _ refl).is)
  removed d name (Err fault) g = err-fine (calls.Dir (dirs.Remove d name)) fault g

  listed-dir : (d : List ℕ) (cookie : ℕ) (verf : Verf) → (reply : DirKept) → Given (list_call d cookie verf) (Ok (replies.Dir reply)) → FineResult P (listing.page_heard (Ok (replies.Dir reply)))
  listed-dir d cookie verf (found.ReadDirPlus attr next page eof) g = tt
  listed-dir d cookie verf (found.ReadDirPlusFail status attr) g = of-dir _ (found.ReadDirPlusFail status attr) status.0 g refl (g.ok _ refl).is.is.failed
  listed-dir d cookie verf reply g = absurd (let no_way = (g.ok _ refl).is.of in omega (arith, no_way))

  pub listed : (d : List ℕ) (cookie : ℕ) (verf : Verf) → (came : Result Reply Fault) → Given (list_call d cookie verf) came → FineResult P (listing.page_heard came)
  listed d cookie verf (Ok (replies.Dir reply)) g = listed-dir d cookie verf reply g
  listed d cookie verf (Ok (replies.File reply)) g = absurd ((g.ok _ refl).is)
  listed d cookie verf (Ok (replies.Mount reply)) g = absurd ((g.ok _ refl).is)
  listed d cookie verf (Err fault) g = err-fine (list_call d cookie verf) fault g

  -- ---- files

  accessed-file : (bits : ℕ) (f : List ℕ) → (reply : FileKept) → Given (access_call bits f) (Ok (replies.File reply)) → FineResult P (access_told (Ok (replies.File reply)))
  accessed-file bits f (kept.Access attr rights) g = tt
  accessed-file bits f (kept.AccessFail status attr) g = of-file _ (kept.AccessFail status attr) status.0 g refl (g.ok _ refl).is.is.failed
  accessed-file bits f reply g = absurd (let no_way = (g.ok _ refl).is.answers in omega (arith, no_way))

  pub accessed : (bits : ℕ) (f : List ℕ) → (came : Result Reply Fault) → Given (access_call bits f) came → FineResult P (access_told came)
  accessed bits f (Ok (replies.File reply)) g = accessed-file bits f reply g
  accessed bits f (Ok (replies.Dir reply)) g = absurd ((g.ok _ refl).is)
  accessed bits f (Ok (replies.Mount reply)) g = absurd ((g.ok _ refl).is)
  accessed bits f (Err fault) g = err-fine (access_call bits f) fault g

  got-attr-file : (f : List ℕ) → (reply : FileKept) → Given (calls.File (files.GetAttr f)) (Ok (replies.File reply)) → FineResult P (stats.got_told (Ok (replies.File reply)))
  got-attr-file f (kept.GetAttr attr) g = tt
  got-attr-file f (kept.GetAttrFail status) g = of-file _ (kept.GetAttrFail status) status.0 g refl (g.ok _ refl).is.is.failed
  got-attr-file f reply g = absurd (let no_way = (g.ok _ refl).is.answers in omega (arith, no_way))

  pub got-attr : (f : List ℕ) → (came : Result Reply Fault) → Given (calls.File (files.GetAttr f)) came → FineResult P (stats.got_told came)
  got-attr f (Ok (replies.File reply)) g = got-attr-file f reply g
  got-attr f (Ok (replies.Dir reply)) g = absurd ((g.ok _ refl).is)
  got-attr f (Ok (replies.Mount reply)) g = absurd ((g.ok _ refl).is)
  got-attr f (Err fault) g = err-fine (calls.File (files.GetAttr f)) fault g

  got-file-file : (f : List ℕ) → (reply : FileKept) → Given (calls.File (files.GetAttr f)) (Ok (replies.File reply)) → FineResult P (told.got_by (Ok (replies.File reply)))
  got-file-file f (kept.GetAttr attr) g = tt
  got-file-file f (kept.GetAttrFail status) g = of-file _ (kept.GetAttrFail status) status.0 g refl (g.ok _ refl).is.is.failed
  got-file-file f reply g = absurd (let no_way = (g.ok _ refl).is.answers in omega (arith, no_way))

  pub got-file : (f : List ℕ) → (came : Result Reply Fault) → Given (calls.File (files.GetAttr f)) came → FineResult P (told.got_by came)
  got-file f (Ok (replies.File reply)) g = got-file-file f reply g
  got-file f (Ok (replies.Dir reply)) g = absurd ((g.ok _ refl).is)
  got-file f (Ok (replies.Mount reply)) g = absurd ((g.ok _ refl).is)
  got-file f (Err fault) g = err-fine (calls.File (files.GetAttr f)) fault g

  sized-file : (f : List ℕ) (size : ℕ) → (reply : FileKept) → Given (truncates.size_call f size) (Ok (replies.File reply)) → FineResult P (truncates.size_told (Ok (replies.File reply)))
  sized-file f size (kept.SetAttr wcc) g = tt
  sized-file f size (kept.SetAttrFail status wcc) g = of-file _ (kept.SetAttrFail status wcc) status.0 g refl (g.ok _ refl).is.is.failed
  sized-file f size reply g = absurd (let no_way = (g.ok _ refl).is.answers in omega (arith, no_way))

  pub sized : (f : List ℕ) (size : ℕ) → (came : Result Reply Fault) → Given (truncates.size_call f size) came → FineResult P (truncates.size_told came)
  sized f size (Ok (replies.File reply)) g = sized-file f size reply g
  sized f size (Ok (replies.Dir reply)) g = absurd ((g.ok _ refl).is)
  sized f size (Ok (replies.Mount reply)) g = absurd ((g.ok _ refl).is)
  sized f size (Err fault) g = err-fine (truncates.size_call f size) fault g

  committed-file : (f : List ℕ) → (reply : FileKept) → Given (saves.commit_of f) (Ok (replies.File reply)) → FineResult P (commit_told (Ok (replies.File reply)))
  committed-file f (kept.Commit wcc verf) g = tt
  committed-file f (kept.CommitFail status wcc) g = of-file _ (kept.CommitFail status wcc) status.0 g refl (g.ok _ refl).is.is.failed
  committed-file f reply g = absurd (let no_way = (g.ok _ refl).is.answers in omega (arith, no_way))

  pub committed : (f : List ℕ) → (came : Result Reply Fault) → Given (saves.commit_of f) came → FineResult P (commit_told came)
  committed f (Ok (replies.File reply)) g = committed-file f reply g
  committed f (Ok (replies.Dir reply)) g = absurd ((g.ok _ refl).is)
  committed f (Ok (replies.Mount reply)) g = absurd ((g.ok _ refl).is)
  committed f (Err fault) g = err-fine (saves.commit_of f) fault g

  -- ---- READLINK

  same-fine : (told to : Result Value Fault) → told ≡ to → FineResult P to → FineResult P told
  same-fine told to is n = subst (FineResult P) (sym is) n

  text-dir : (f : List ℕ) (reply : DirKept) (told : Result Value Fault) → Given (text_call f) (Ok (replies.Dir reply)) → TellsText (Ok (replies.Dir reply)) told → FineResult P told
  text-dir f (found.ReadLink attr text) told g (inl t) = same-fine told (Ok (values.Text text)) t tt
  text-dir f (found.ReadLink attr text) told g (inr t) = same-fine told (Err faults.Memory) t own.memory
  text-dir f (found.ReadLinkFail status attr) told g t =
      same-fine told (Err (faults.Nfs status.0)) t (of-dir _ (found.ReadLinkFail status attr) status.0 g refl (g.ok _ refl).is.is.failed)
  text-dir f reply told g t = absurd (let no_way = (g.ok _ refl).is.of in omega (arith, no_way))

  pub text : (f : List ℕ) (came : Result Reply Fault) → Given (text_call f) came → (told : Result Value Fault) → TellsText came told → FineResult P told
  text f (Ok (replies.Dir reply)) g told t = text-dir f reply told g t
  text f (Ok (replies.File reply)) g told t = absurd ((g.ok _ refl).is)
  text f (Ok (replies.Mount reply)) g told t = absurd ((g.ok _ refl).is)
  text f (Err fault) g told t = same-fine told (Err fault) t (err-fine (text_call f) fault g)

  -- ---- pages

  pub page-fault : (many : P faults.Many) (d : List ℕ) (cookie : ℕ) (verf next : Verf) (attr : Option Attr) (before : List (List ℕ)) (page : List PlusRow) (eof : Bool) (fault : ListFault)
      → Given (list_call d cookie verf) (Ok (replies.Dir (found.ReadDirPlus attr next page eof))) → page_step before page next eof ≡ Err fault → P (listing.refusal_of fault)
  unfolding page_step
  page-fault many d cookie verf next attr before [] true fault g is = absurd (cc)
  page-fault many d cookie verf next attr before [] false fault g is =
      let same : list_faults.Stuck ≡ fault = cc in
      subst (λ (f : ListFault). P (listing.refusal_of f)) same
      (g.give _ refl (faults.Bad 6) (breaks 6 refl (no_entry refl d cookie _ _ verf next attr refl (g.ok _ refl))))
  page-fault many d cookie verf next attr before (row ∷ rows) eof fault g is = by (nat_lt listing_limit (length before + length (counted (row ∷ rows)))) eof is
    where
      by : (b e : Bool) → (if b then Err list_faults.Many else if e then Ok End else Ok (More (last_cookie row rows) next)) ≡ Err fault → P (listing.refusal_of fault)
      by true e same = let which : list_faults.Many ≡ fault = cc in subst (λ (f : ListFault). P (listing.refusal_of f)) which many
      by false true same = absurd (cc)
      by false false same = absurd (cc)

  -- ---- READ

  wrong : (count counted_ : ℕ) (eof : Bool) (bytes : List ℕ) → breaks_rule count counted_ eof bytes ≡ true → WrongData count counted_ bytes eof
  wrong count counted_ eof bytes is = by (or-either (nat_lt count (length bytes) || not (nat_eq (length bytes) counted_)) (nat_eq (length bytes) 0 && not eof) is)
    where
      first : (nat_lt count (length bytes) ≡ true) ⊎ (not (nat_eq (length bytes) counted_) ≡ true) → WrongData count counted_ bytes eof
      first (inl more) = longer (ltb-true count (length bytes) more)
      first (inr other) = unlike (λ same. eqb-false (length bytes) counted_ (not-true (nat_eq (length bytes) counted_) other) (sym same))

      by : ((nat_lt count (length bytes) || not (nat_eq (length bytes) counted_)) ≡ true) ⊎ ((nat_eq (length bytes) 0 && not eof) ≡ true) → WrongData count counted_ bytes eof
      by (inl one) = first (or-either (nat_lt count (length bytes)) (not (nat_eq (length bytes) counted_)) one)
      by (inr none) =
          let k = and-both (nat_eq (length bytes) 0) (not eof) none in
          nothing (empty-of bytes (eqb-true (length bytes) 0 k.0)) (not-true eof k.1)

  -- what is said of a part
  abbrev pub SaidFine : Said → Type 0
  SaidFine (part attr eof bytes) = Unit {0}
  SaidFine (refusal attr fault) = P fault

  read-file : (f : List ℕ) (at count : ℕ) (reply : FileKept) → Given (calls.File (files.Read f at count)) (Ok (replies.File reply)) → SaidFine (said_by count (replies.File reply))
  read-file f at count (kept.Read attr counted_ eof bytes) g = by (breaks_rule count counted_ eof bytes) refl
    where
      by : (b : Bool) → breaks_rule count counted_ eof bytes ≡ b → SaidFine (if b then refusal attr (faults.Bad 5) else part attr eof bytes)
      by true is = g.give _ refl (faults.Bad 5) (breaks 5 refl (wrong_data refl f at count counted_ attr eof bytes refl (g.ok _ refl) (wrong count counted_ eof bytes is)))
      by false is = tt
  read-file f at count (kept.ReadFail status attr) g = of-file _ (kept.ReadFail status attr) status.0 g refl (g.ok _ refl).is.is.failed
  read-file f at count reply g = absurd (let no_way = (g.ok _ refl).is.answers in omega (arith, no_way))

  pub read : (f : List ℕ) (at count : ℕ) (came : Result Reply Fault) → Given (calls.File (files.Read f at count)) came → SaidFine (said_to count came)
  read f at count (Ok (replies.File reply)) g = read-file f at count reply g
  read f at count (Ok (replies.Dir reply)) g = absurd ((g.ok _ refl).is)
  read f at count (Ok (replies.Mount reply)) g = absurd ((g.ok _ refl).is)
  read f at count (Err fault) g = err-fine (calls.File (files.Read f at count)) fault g

  -- ---- WRITE

  module _ (file : List ℕ) (piece : Sent) (asked_xid : ℕ) (back between : Pending) where
    written : (a b : Bool) (wcc : Wcc) (count committed : ℕ) (verf : Verf) (why : Option Fault)
        → (nat_lt committed piece.how || nat_lt 2 committed) ≡ a → ((count == 0) || nat_lt (length piece.bytes) count) ≡ b
        → Given (write_of file piece) (Ok (replies.File (kept.Write wcc count committed verf)))
        → saves.Lands asked_xid file (written_by piece.how (length piece.bytes) wcc count committed verf) back between why → FineOption P why
    written true b wcc count committed verf why is other g l =
        let k = rw is at l in
        fine-some P (faults.Bad 3) why k.0
        (g.give _ refl (faults.Bad 3) (refuses (wrong_committed refl wcc count committed verf file piece.offset piece.how piece.bytes refl (g.ok _ refl)
        (by (or-either (nat_lt committed piece.how) (nat_lt 2 committed) is)))))
      where
        by : (nat_lt committed piece.how ≡ true) ⊎ (nat_lt 2 committed ≡ true) → (committed < piece.how) ⊎ (2 < committed)
        by (inl low) = inl (ltb-true committed piece.how low)
        by (inr high) = inr (ltb-true 2 committed high)
    written false true wcc count committed verf why is other g l =
        let k = rw (is, other) at l in
        fine-some P (faults.Bad 4) why k.0
        (g.give _ refl (faults.Bad 4) (refuses (wrong_count refl wcc count committed verf file piece.offset piece.how piece.bytes refl (g.ok _ refl)
        (by (or-either (count == 0) (nat_lt (length piece.bytes) count) other)))))
      where
        by : ((count == 0) ≡ true) ⊎ (nat_lt (length piece.bytes) count ≡ true) → (count ≡ 0) ⊎ (length piece.bytes < count)
        by (inl none) = inl (eqb-true count 0 none)
        by (inr more) = inr (ltb-true (length piece.bytes) count more)
    written false false wcc count committed verf None is other g l = tt
    written false false wcc count committed verf (Some fault) is other g l = let k = rw (is, other) at l in fine-fault P fault faults.Memory k.0 own.memory

    write-file : (reply : FileKept) (why : Option Fault) → Given (write_of file piece) (Ok (replies.File reply))
        → saves.Lands asked_xid file (write_told_by piece.how (length piece.bytes) reply) back between why → FineOption P why
    write-file (kept.Write wcc count committed verf) why g l = written _ _ wcc count committed verf why refl refl g l
    write-file (kept.WriteFail status wcc) why g l = fine-some P (faults.Nfs status.0) why l.0 (of-file _ (kept.WriteFail status wcc) status.0 g refl (g.ok _ refl).is.is.failed)
    write-file reply why g l = absurd (let no_way = (g.ok _ refl).is.answers in omega (arith, no_way))

  -- a WRITE of the file, of its piece
  lands : (call : Call) (s : Saving) (sent : Turn) (came : Result Reply Fault) (back between : Pending) (why : Option Fault) (piece : Sent) → call ≡ saves.write_of s.file piece
      → ((reply : Reply) → came ≡ Ok reply → IsPiece sent.xid call back) → Given call came → saves.Lands sent.xid s.file (saves.told_of sent.xid s.file back came) back between why → FineOption P why
  lands call s sent (Ok (replies.File reply)) back between why piece is own_piece g l =
      let same = own_piece (replies.File reply) refl s.file piece.offset piece.how piece.bytes is in
      write-file s.file (saves.answered sent.xid s.file back) sent.xid back between reply why (given-as call _ (Ok (replies.File reply)) same g) l
  lands call s sent (Ok (replies.Dir reply)) back between why piece is own_piece g l = absurd ((given-as call _ (Ok (replies.Dir reply)) is g).ok (replies.Dir reply) refl).is
  lands call s sent (Ok (replies.Mount reply)) back between why piece is own_piece g l = absurd ((given-as call _ (Ok (replies.Mount reply)) is g).ok (replies.Mount reply) refl).is
  lands call s sent (Err fault) back between why piece is own_piece g l = fine-some P fault why l.0 (err-fine call fault g)

  -- a save: of which call it waits, by whether it sends
  pub save : (call : Call) (sent : Turn) (came : Result Reply Fault) (s : Saving) (back : Pending)
      → (saves.is_sending s.phase ≡ true → (piece : Sent) × (call ≡ saves.write_of s.file piece)) → (saves.is_sending s.phase ≡ false → call ≡ saves.commit_of s.file)
      → ((reply : Reply) → came ≡ Ok reply → IsPiece sent.xid call back) → Given call came → FitsSave P own sent came s back
  save call sent came s back sends idle own_piece g = record {
    lands = λ sending between why l. let w = sends sending in lands call s sent came back between why w.0 w.1 own_piece g l;
    commits = λ is. committed s.file came (given-as call (saves.commit_of s.file) came (idle is) g);
  }
