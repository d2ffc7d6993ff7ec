-- Operations other than reads add no page.
use Rattle.core_counts.proofs.Prelude.{◌≡◌, ◌⊎◌, inl, inr, ℕ, List, Result, Ok, refl, sym, ◌∙◌, Fault, Call, Reply, read_call, Pending, Step, Shelf, Turn, Truncating, FileMachine, Machine, Takes}
use Rattle.nfs_file_calls.specs.declared.call.FileCall.TheVariants as calls_of
use Rattle.world_model.specs.declared.message.Call.TheVariants as calls
use Rattle.file_ops.specs.declared.truncate_file.Truncating.TheVariants as truncating
use Rattle.file_ops.specs.Saves.{write_of}
use Rattle.file_ops.specs.TruncateFile.{size_call}
use Rattle.op_machines.specs.declared.file_machine.FileMachine.TheVariants as files
use Rattle.op_machines.specs.declared.machine.Machine.TheVariants as machines
use Rattle.core_answers.proofs.pages.FilePages.{ToldLaws, IsSentAs}
use Rattle.core_answers.proofs.pages.MachinePages.{pages-takes}
use Rattle.core_answers.proofs.pages.PageCalls.{SizeAwaits, FileAwaits, PageAwaits}
use Rattle.core_counts.proofs.thrift.PageNames.{AllOf, quiet-all, wrote-all, cut-all}

-- ---- calls other than READ

-- a READ
pub record IsRead (call : Call) : Type 0 where
  pub file : List ℕ
  pub place : ℕ
  pub count : ℕ
  pub is : call ≡ read_call file place count

abbrev pub NoRead : Call → Type 0
NoRead call = (file : List ℕ) (place count : ℕ) → call ≡ read_call file place count → ⊥

reads-or : (call : Call) → IsRead call ⊎ NoRead call
reads-or (calls.File (calls_of.Read file place count)) = inl (record { file = file; place = place; count = count; is = refl })
reads-or (calls.File calls_of.Null) = inr (λ f p c e. cc)
reads-or (calls.File (calls_of.GetAttr file)) = inr (λ f p c e. cc)
reads-or (calls.File (calls_of.SetAttr file set guard)) = inr (λ f p c e. cc)
reads-or (calls.File (calls_of.Access file bits)) = inr (λ f p c e. cc)
reads-or (calls.File (calls_of.Write file offset how bytes)) = inr (λ f p c e. cc)
reads-or (calls.File (calls_of.FsStat file)) = inr (λ f p c e. cc)
reads-or (calls.File (calls_of.FsInfo file)) = inr (λ f p c e. cc)
reads-or (calls.File (calls_of.PathConf file)) = inr (λ f p c e. cc)
reads-or (calls.File (calls_of.Commit file offset count)) = inr (λ f p c e. cc)
reads-or (calls.Dir call) = inr (λ f p c e. cc)
reads-or (calls.Mount call) = inr (λ f p c e. cc)

-- a call that does nothing
abbrev null_call : Call
null_call = calls.File calls_of.Null

null-none : NoRead null_call
null-none f p c e = cc

-- ---- operations other than reads

abbrev pub IsOtherFile : FileMachine → Type 0
IsOtherFile (files.Open m) = Unit {0}
IsOtherFile (files.Read m) = ⊥
IsOtherFile (files.Write m) = Unit {0}
IsOtherFile (files.Sync m) = Unit {0}
IsOtherFile (files.Close m) = Unit {0}
IsOtherFile (files.Truncate m) = Unit {0}
IsOtherFile (files.Put m) = Unit {0}

abbrev pub IsOther : Machine → Type 0
IsOther (machines.File m) = IsOtherFile m
IsOther (machines.Path m) = Unit {0}
IsOther (machines.Name m) = Unit {0}

-- None of them waits for a READ, or what it waits for isn't said.
size-null : (at : Truncating) (size : ℕ) (call : Call) → IsRead call → SizeAwaits at size call → SizeAwaits at size null_call
size-null truncating.Idle size call r on = tt
size-null (truncating.Queued file upto) size call r on = tt
size-null (truncating.Asked file upto) size call r on = absurd (let no_way : read_call r.file r.place r.count ≡ size_call file size = sym r.is ∙ on in cc)

file-null : (m : FileMachine) (call : Call) → IsOtherFile m → IsRead call → FileAwaits m call → FileAwaits m null_call
file-null (files.Open m) call other r on = tt
file-null (files.Read m) call other r on = absurd other
file-null (files.Write m) call other r on = tt
file-null (files.Sync m) call other r on = tt
file-null (files.Close m) call other r on = tt
file-null (files.Truncate m) call other r on = size-null m.state m.size call r on
file-null (files.Put m) call other r on = tt

page-null : (m : Machine) (call : Call) → IsOther m → IsRead call → PageAwaits m call → PageAwaits m null_call
page-null (machines.File m) call other r on = file-null m call other r on
page-null (machines.Path m) call other r on = tt
page-null (machines.Name m) call other r on = tt

link-null : (xid : ℕ) (call : Call) (back : Pending) → IsRead call → IsSentAs xid call back → IsSentAs xid null_call back
link-null xid call back r sent file piece there = absurd (let no_way : read_call r.file r.place r.count ≡ write_of file piece = sym r.is ∙ sent file piece there in cc)

module _ (P : List ℕ → ℕ → Type 0) where
  told-all : (call : Call) (came : Result Reply Fault) → NoRead call → ToldLaws (AllOf P) call came
  told-all call came none = record {
    offers = λ file attr counted eof given place count sent index ends c is asked whole all. absurd (none file place count asked);
    writes = λ file offset how bytes wcc count committed verf moment c is asked all. wrote-all P file wcc offset _ moment c all;
    cuts = λ file wcc size moment c is asked all. cut-all P file wcc size moment c all;
  }

  pub other-takes : (m : Machine) (call : Call) (wsize : ℕ) (sent turn : Turn) (came : Result Reply Fault) (old : Shelf) (next : Step) (new : Machine) (after : Shelf) → IsOther m → PageAwaits m call
      → ((reply : Reply) → came ≡ Ok reply → IsSentAs sent.xid call old.back) → Takes wsize m sent turn came old next new after → AllOf P old.pages → AllOf P after.pages
  other-takes m call wsize sent turn came old next new after other on link t all = elim (reads-or call) [
    | inl r ↦ pages-takes (AllOf P) (quiet-all P) null_call came (told-all null_call came null-none) sent turn old (λ reply is. link-null sent.xid call old.back r (link reply is)) m wsize next new after
        (page-null m call other r on) t all
    | inr none ↦ pages-takes (AllOf P) (quiet-all P) call came (told-all call came none) sent turn old link m wsize next new after on t all
  ]
