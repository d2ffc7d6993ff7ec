-- A call that isn't refused passes each line.
use Rattle.std.proofs.Common.{◌≡◌, ◌&&◌, ◌||◌, ℕ, suc, Bool, true, false, List, length, refl, sym, ◌∙◌, arith, cond, ◌==◌}
use Rattle.std.proofs.lemmas.Bool.{ltb-false}
use Rattle.nfs_file_calls.specs.declared.call.FileCall.{FileCall}
use Rattle.nfs_dir_calls.specs.declared.call.DirCall.{DirCall}
use Rattle.nfs_dir_calls.specs.declared.call.DirCall.TheVariants as dirs
use Rattle.export_fs.specs.View.{View}
use Rattle.export_fs.specs.Parts.{kind}
use Rattle.export_fs.specs.Refusals
use Rattle.export_fs.specs.Spelling.{TargetFits}

nonzero : (n : ℕ) → suc n ≡ 0 → ⊥
nonzero n e = omega arith

pub line : (b : Bool) (n m : ℕ) → (n ≡ 0 → ⊥) → cond b n m ≡ 0 → (b ≡ false) × (m ≡ 0)
line true n m d e = absurd (d e)
line false n m d e = (refl, e)

pub record FilePasses (view : View) (call : FileCall) (file : List ℕ) : Type 0 where
  pub bad : Refusals.is_bad file ≡ false
  pub stale : Refusals.is_stale view.nodes file ≡ false
  pub directory : (Refusals.needs_file call && (kind view.nodes file == 2)) ≡ false
  pub link : (Refusals.needs_file call && (kind view.nodes file == 5)) ≡ false
  pub sync : Refusals.is_out_of_sync view.nodes call ≡ false
  pub big : Refusals.is_too_big call ≡ false
  pub full : (Refusals.changes_file call && Refusals.is_full view) ≡ false

pub file_passes : (view : View) (call : FileCall) (file : List ℕ) → Refusals.refusal_on view call file ≡ 0 → FilePasses view call file
file_passes view call file e =
    let a = line _ 10001 _ (λ q. absurd (nonzero 10000 q)) e in
    let b = line _ 70 _ (λ q. absurd (nonzero 69 q)) a.1 in
    let c = line _ 21 _ (λ q. absurd (nonzero 20 q)) b.1 in
    let d = line _ 22 _ (λ q. absurd (nonzero 21 q)) c.1 in
    let f = line _ 10002 _ (λ q. absurd (nonzero 10001 q)) d.1 in
    let g = line _ 27 _ (λ q. absurd (nonzero 26 q)) f.1 in
    let h = line _ 28 _ (λ q. absurd (nonzero 27 q)) g.1 in
    record { bad = a.0; stale = b.0; directory = c.0; link = d.0; sync = f.0; big = g.0; full = h.0 }

pub record DirPasses (view : View) (call : DirCall) : Type 0 where
  pub bad : (Refusals.is_bad (Refusals.dir_of call) || Refusals.is_bad (Refusals.other_of call)) ≡ false
  pub stale : (Refusals.is_stale view.nodes (Refusals.dir_of call) || Refusals.is_stale view.nodes (Refusals.other_of call)) ≡ false
  pub no_dir : Refusals.is_no_dir view.nodes call ≡ false
  pub a_dir : Refusals.is_a_dir view.nodes call ≡ false
  pub invalid : Refusals.is_invalid view.nodes call ≡ false
  pub unsupported : Refusals.is_unsupported call ≡ false
  pub missing : Refusals.is_missing view.nodes call ≡ false
  pub there : Refusals.exists view.nodes call ≡ false
  pub filled : Refusals.is_not_empty view.nodes call ≡ false
  pub big : Refusals.is_made_too_big call ≡ false
  pub cookie : Refusals.is_bad_cookie view.nodes call ≡ false
  pub full : (Refusals.changes view.nodes call && Refusals.is_full view) ≡ false
  pub text : Refusals.is_text_too_long call ≡ false

short : (call : DirCall) → Refusals.is_text_too_long call ≡ false → TargetFits call
short (dirs.SymLink dir name set target) e = ltb-false 1024 (length target) e
short (dirs.Lookup dir name) e = tt
short (dirs.ReadLink file) e = tt
short (dirs.Create dir name making) e = tt
short (dirs.MkDir dir name set) e = tt
short (dirs.MkNod dir name node) e = tt
short (dirs.Remove dir name) e = tt
short (dirs.RmDir dir name) e = tt
short (dirs.Rename dir name to_dir to) e = tt
short (dirs.Link file dir name) e = tt
short (dirs.ReadDir dir cookie verf count) e = tt
short (dirs.ReadDirPlus dir cookie verf dircount maxcount) e = tt

pub dir_passes : (view : View) (call : DirCall) → Refusals.dir_refusal view call ≡ 0 → DirPasses view call
dir_passes view call e =
    let a = line _ 10001 _ (λ q. absurd (nonzero 10000 q)) e in
    let b = line _ 70 _ (λ q. absurd (nonzero 69 q)) a.1 in
    let c = line _ 20 _ (λ q. absurd (nonzero 19 q)) b.1 in
    let d = line _ 21 _ (λ q. absurd (nonzero 20 q)) c.1 in
    let f = line _ 22 _ (λ q. absurd (nonzero 21 q)) d.1 in
    let g = line _ 10004 _ (λ q. absurd (nonzero 10003 q)) f.1 in
    let h = line _ 2 _ (λ q. absurd (nonzero 1 q)) g.1 in
    let i = line _ 17 _ (λ q. absurd (nonzero 16 q)) h.1 in
    let j = line _ 66 _ (λ q. absurd (nonzero 65 q)) i.1 in
    let k = line _ 27 _ (λ q. absurd (nonzero 26 q)) j.1 in
    let l = line _ 10003 _ (λ q. absurd (nonzero 10002 q)) k.1 in
    let m = line _ 28 _ (λ q. absurd (nonzero 27 q)) l.1 in
    let n = line _ 63 _ (λ q. absurd (nonzero 62 q)) m.1 in
    record { bad = a.0; stale = b.0; no_dir = c.0; a_dir = d.0; invalid = f.0; unsupported = g.0; missing = h.0; there = i.0; filled = j.0; big = k.0; cookie = l.0; full = m.0; text = n.0 }

-- the text of a new link that isn't refused has at most 1,024 bytes
pub target_fits : (view : View) (call : DirCall) (number : ℕ) → number ≡ Refusals.dir_refusal view call → number ≡ 0 → TargetFits call
target_fits view call number is zero = short call (dir_passes view call (sym is ∙ zero)).text
