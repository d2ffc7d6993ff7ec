-- What a reply says, wherever its data lie.
use Rattle.nfs_dir_calls.specs.declared.reply.DirReply.{DirReply}
use Rattle.nfs_dir_calls.specs.declared.reply.DirReply.TheVariants as replies
use Rattle.nfs_dir_calls.specs.declared.keeping.DirKept.{DirKept}
use Rattle.nfs_dir_calls.specs.declared.keeping.DirKept.TheVariants as kept

abbrev pub kept_of : DirReply → DirKept
kept_of (replies.Lookup found attr dir) = kept.Lookup found attr dir
kept_of (replies.LookupFail status dir) = kept.LookupFail status dir
kept_of (replies.ReadLink attr text) = kept.ReadLink attr text.now
kept_of (replies.ReadLinkFail status attr) = kept.ReadLinkFail status attr
kept_of (replies.Create found attr wcc) = kept.Create found attr wcc
kept_of (replies.CreateFail status wcc) = kept.CreateFail status wcc
kept_of (replies.MkDir found attr wcc) = kept.MkDir found attr wcc
kept_of (replies.MkDirFail status wcc) = kept.MkDirFail status wcc
kept_of (replies.SymLink found attr wcc) = kept.SymLink found attr wcc
kept_of (replies.SymLinkFail status wcc) = kept.SymLinkFail status wcc
kept_of (replies.MkNod found attr wcc) = kept.MkNod found attr wcc
kept_of (replies.MkNodFail status wcc) = kept.MkNodFail status wcc
kept_of (replies.Remove wcc) = kept.Remove wcc
kept_of (replies.RemoveFail status wcc) = kept.RemoveFail status wcc
kept_of (replies.RmDir wcc) = kept.RmDir wcc
kept_of (replies.RmDirFail status wcc) = kept.RmDirFail status wcc
kept_of (replies.Rename «from» to) = kept.Rename «from» to
kept_of (replies.RenameFail status «from» to) = kept.RenameFail status «from» to
kept_of (replies.Link attr wcc) = kept.Link attr wcc
kept_of (replies.LinkFail status attr wcc) = kept.LinkFail status attr wcc
kept_of (replies.ReadDir attr verf page eof) = kept.ReadDir attr verf page eof
kept_of (replies.ReadDirFail status attr) = kept.ReadDirFail status attr
kept_of (replies.ReadDirPlus attr verf page eof) = kept.ReadDirPlus attr verf page eof
kept_of (replies.ReadDirPlusFail status attr) = kept.ReadDirPlusFail status attr
