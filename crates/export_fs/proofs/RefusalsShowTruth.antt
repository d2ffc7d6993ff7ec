-- A call that is refused has a status other than 0, and shows what is true.
use Rattle.std.proofs.Common.{◌≡◌, ℕ, sym}
use Rattle.nfs_file_calls.specs.declared.call.FileCall.{FileCall}
use Rattle.nfs_file_calls.specs.declared.call.FileCall.TheVariants as files
use Rattle.nfs_dir_calls.specs.declared.call.DirCall.{DirCall}
use Rattle.nfs_dir_calls.specs.declared.call.DirCall.TheVariants as dirs
use Rattle.world_model.specs.Service.{RefusesFile, RefusesDir}
use Rattle.export_fs.specs.View.{View}
use Rattle.export_fs.specs.Refusals.{file_refusal}
use Rattle.export_fs.specs.Answer.{file_refused, dir_refused}
use Rattle.export_fs.specs.Seen.{server_of}
use Rattle.export_fs.specs.Spelled.{IsFileSpelled, IsDirSpelled}
use Rattle.export_fs.proofs.ServerOfExport.{true_of, true_wcc}

pub refuses_file : (v : View) (call : FileCall) (n : ℕ) → IsFileSpelled call → file_refusal v call ≡ n → (n ≡ 0 → ⊥) → RefusesFile (server_of v) call (file_refused v.nodes n call)
refuses_file v files.Null n s e d = absurd (d (sym e))
refuses_file v (files.GetAttr file) n s e d = d
refuses_file v (files.SetAttr file set guard) n s e d = record { nonzero = d; shows = true_wcc v v file s }
refuses_file v (files.Access file bits) n s e d = record { nonzero = d; shows = true_of v file s }
refuses_file v (files.Read file offset count) n s e d = record { nonzero = d; shows = true_of v file s }
refuses_file v (files.Write file offset how bytes) n s e d = record { nonzero = d; shows = true_wcc v v file s.0 }
refuses_file v (files.FsStat file) n s e d = record { nonzero = d; shows = true_of v file s }
refuses_file v (files.FsInfo file) n s e d = record { nonzero = d; shows = true_of v file s }
refuses_file v (files.PathConf file) n s e d = record { nonzero = d; shows = true_of v file s }
refuses_file v (files.Commit file offset count) n s e d = record { nonzero = d; shows = true_wcc v v file s }

pub refuses_dir : (v : View) (call : DirCall) (n : ℕ) → IsDirSpelled call → (n ≡ 0 → ⊥) → RefusesDir (server_of v) call (dir_refused v.nodes n call)
refuses_dir v (dirs.Lookup dir name) n s d = record { nonzero = d; shows = true_of v dir s.0 }
refuses_dir v (dirs.ReadLink file) n s d = record { nonzero = d; shows = true_of v file s.0 }
refuses_dir v (dirs.Create dir name making) n s d = record { nonzero = d; shows = true_wcc v v dir s.0 }
refuses_dir v (dirs.MkDir dir name set) n s d = record { nonzero = d; shows = true_wcc v v dir s.0 }
refuses_dir v (dirs.SymLink dir name set target) n s d = record { nonzero = d; shows = true_wcc v v dir s.0 }
refuses_dir v (dirs.MkNod dir name node) n s d = record { nonzero = d; shows = true_wcc v v dir s.0 }
refuses_dir v (dirs.Remove dir name) n s d = record { nonzero = d; shows = true_wcc v v dir s.0 }
refuses_dir v (dirs.RmDir dir name) n s d = record { nonzero = d; shows = true_wcc v v dir s.0 }
refuses_dir v (dirs.Rename dir name to_dir to) n s d = (record { nonzero = d; shows = true_wcc v v dir s.0 }, true_wcc v v to_dir s.1)
refuses_dir v (dirs.Link file dir name) n s d = (record { nonzero = d; shows = true_wcc v v dir s.0 }, true_of v file s.1)
refuses_dir v (dirs.ReadDir dir cookie verf count) n s d = record { nonzero = d; shows = true_of v dir s.0 }
refuses_dir v (dirs.ReadDirPlus dir cookie verf dircount maxcount) n s d = record { nonzero = d; shows = true_of v dir s.0 }
