-- What the world tells is fresh, and it rises: each change takes a number of its own, and cookies only rise.
use Rattle.std.proofs.Common.{ℕ, suc, List, [], ◌∷◌, Option, Some, None, refl, subst, ◌==◌}
use Rattle.std.proofs.lemmas.Bool.{cond_both}
use Rattle.nfs_types.specs.declared.verf.Verf.{Verf}
use Rattle.nfs_dir_calls.specs.declared.call.DirCall.{DirCall}
use Rattle.nfs_dir_calls.specs.declared.call.DirCall.TheVariants as dirs
use Rattle.world_model.specs.declared.answer.Answer.{Answer}
use Rattle.world_model.specs.declared.op.Op.{Op}
use Rattle.world_model.specs.declared.entry.Entry.{Entry}
use Rattle.world_model.specs.declared.entry.Entry.TheVariants as entries
use Rattle.world_model.specs.declared.message.Call.{Call}
use Rattle.world_model.specs.declared.message.Call.TheVariants as calls
use Rattle.world_model.specs.declared.message.Reply.{Reply}
use Rattle.world_model.specs.declared.message.Reply.TheVariants as replies
use Rattle.world_model.specs.Fresh.{Fresh}
use Rattle.world_model.specs.Rising.{RisesAt, Rising}
use Rattle.export_fs.specs.View.{View}
use Rattle.export_fs.specs.Executed.{executed}
use Rattle.export_fs.specs.Partial.{partly_executed}
use Rattle.export_fs.specs.Seen.{server_of}
use Rattle.export_fs.specs.Stamped.{Stamped, Proceeds}
use Rattle.export_fs.specs.Risen.{PageRises, PagesRise}
use Rattle.export_fs.proofs.EachCallProceeds.{stays, executed_proceeds, restart_proceeds, flush_proceeds, stamped_after}
use Rattle.export_fs.proofs.PartialWrites.{partly_proceeds}
use Rattle.export_fs.proofs.Rises.{rises_executed}
use Rattle.export_fs.proofs.WorkedOutHistory.{IsReplay, fresh_replay, rising_replay}
use Rattle.world_link.specs.declared.directive.PartialWrite.{PartialWrite}
use Rattle.world_link.specs.declared.manner.Manner.{Manner}
use Rattle.world_link.specs.Handling.{shortened, answered, handled}
use Rattle.world_link.specs.Refused.{refused_by, refused_with, status_for, dir_refused}
use Rattle.world_link.specs.Replay.{is_granted, cut, stepped_by, stepped_with, stepped, replayed, told_of}

-- ---- steps

by_proceeds : (v : View) (call : Call) (reply : Reply) → Proceeds v (stepped_by v call reply)
by_proceeds v call reply = cond_both (is_granted reply) (executed v (cut call reply)).0 v (Proceeds v) (λ e. executed_proceeds v (cut call reply)) (λ e. stays v)

with_proceeds : (part : Option PartialWrite) (v : View) (call : Call) (reply : Reply) → Proceeds v (stepped_with part v call reply)
with_proceeds None v call reply = by_proceeds v call reply
with_proceeds (Some part) v call reply = partly_proceeds v call part.bytes part.status

-- each entry is a step of the export, or none
pub stepped_proceeds : (part : Option PartialWrite) (v : View) (e : Entry) → Proceeds v (stepped part v e)
stepped_proceeds part v (entries.Began lane line op) = stays v
stepped_proceeds part v (entries.Answered lane line answer) = stays v
stepped_proceeds part v (entries.Dialed port) = stays v
stepped_proceeds part v (entries.Sent bytes) = stays v
stepped_proceeds part v (entries.Executed xid call reply) = with_proceeds part v call reply
stepped_proceeds part v (entries.Foreign call reply) = by_proceeds v call reply
stepped_proceeds part v (entries.Flushed file start count) = flush_proceeds v file start count
stepped_proceeds part v (entries.Reboot verf) = restart_proceeds v
stepped_proceeds part v (entries.Delivered bytes) = stays v
stepped_proceeds part v entries.Failed = stays v
stepped_proceeds part v (entries.Clock now) = stays v

is_replay : IsReplay stepped replayed
is_replay = record { none = λ parts v. refl; more = λ parts v e es. refl; proceeds = stepped_proceeds }

pub stamped_replayed : (parts : ℕ → Option PartialWrite) (start : View) (list : List Entry) → Stamped start → Stamped (replayed parts start list)
stamped_replayed parts start [] s = s
stamped_replayed parts start (e ∷ list) s =
    stamped_replayed (λ n. parts (suc n)) (stepped (parts 0) start e) list (stamped_after start (stepped (parts 0) start e) s (stepped_proceeds (parts 0) start e))

-- ---- what is told

pub told_fresh : (parts : ℕ → Option PartialWrite) (start : View) (list : List Entry) → Stamped start → Fresh (told_of parts start list)
told_fresh parts start list s = fresh_replay stepped replayed is_replay parts start list s

pub told_rising : (parts : ℕ → Option PartialWrite) (start : View) (list : List Entry) → Stamped start → PagesRise (replayed parts) start list → Rising (told_of parts start list)
told_rising parts start list s pages = rising_replay stepped replayed is_replay parts start list s pages

-- ---- what an executed call is answered

-- a status that is given comes with no page
given_rises : (s : View) (n : ℕ) (call : DirCall) → RisesAt (server_of s) (calls.Dir call) (replies.Dir (dir_refused n call))
given_rises s n (dirs.Lookup dir name) = tt
given_rises s n (dirs.ReadLink link) = tt
given_rises s n (dirs.Create dir name making) = tt
given_rises s n (dirs.MkDir dir name set) = tt
given_rises s n (dirs.SymLink dir name set target) = tt
given_rises s n (dirs.MkNod dir name node) = tt
given_rises s n (dirs.Remove dir name) = tt
given_rises s n (dirs.RmDir dir name) = tt
given_rises s n (dirs.Rename dir name to_dir to) = tt
given_rises s n (dirs.Link link dir name) = tt
given_rises s n (dirs.ReadDir dir cookie verf count) = tt
given_rises s n (dirs.ReadDirPlus dir cookie verf dircount maxcount) = tt

-- a limit doesn't change a call on a directory
short_rises : (limit : Option ℕ) (v : View) (call : DirCall) → Stamped v → RisesAt (server_of v) (calls.Dir call) (executed v (shortened limit (calls.Dir call))).1
short_rises None v call s = rises_executed v (calls.Dir call) s
short_rises (Some most) v call s = rises_executed v (calls.Dir call) s

dir_rises : (given limit : Option ℕ) (v : View) (call : DirCall) → Stamped v → RisesAt (server_of v) (calls.Dir call) (answered (refused_by given (calls.Dir call)) limit v (calls.Dir call)).1
dir_rises None limit v call s = short_rises limit v call s
dir_rises (Some n) limit v call s =
    cond_both (n == 0) None (refused_with n (calls.Dir call)) (λ (o : Option Reply). RisesAt (server_of v) (calls.Dir call) (answered o limit v (calls.Dir call)).1)
    (λ e. short_rises limit v call s) (λ e. given_rises v n call)

partly_rises : (v : View) (call : DirCall) (part : PartialWrite) → Stamped v → RisesAt (server_of v) (calls.Dir call) (partly_executed v (calls.Dir call) part.bytes part.status).1
partly_rises v call part s = rises_executed v (calls.Dir call) s

handled_dir_rises : (part : Option PartialWrite) (manner : Manner) (v : View) (call : DirCall) → Stamped v → RisesAt (server_of v) (calls.Dir call) (handled part manner v (calls.Dir call)).1
handled_dir_rises None manner v call s = dir_rises (status_for manner.mount manner.answer (calls.Dir call)) manner.limit v call s
handled_dir_rises (Some part) manner v call s = partly_rises v call part s

pub handled_rises : (part : Option PartialWrite) (manner : Manner) (v : View) (call : Call) → Stamped v → RisesAt (server_of v) call (handled part manner v call).1
handled_rises part manner v (calls.File call) s = tt
handled_rises part manner v (calls.Dir call) s = handled_dir_rises part manner v call s
handled_rises part manner v (calls.Mount call) s = tt

-- ---- entries without a page

abbrev ShowsPage : View → Entry → Type 0
ShowsPage v (entries.Executed xid call reply) = RisesAt (server_of v) call reply
ShowsPage v e = Unit {0}

shown_page : (v : View) (e : Entry) → ShowsPage v e → PageRises v e
shown_page v e s xid call reply same = subst (ShowsPage v) same s

pub told_page : (part : Option PartialWrite) (manner : Manner) (v : View) (xid : ℕ) (call : Call) → Stamped v → PageRises v (entries.Executed xid call (handled part manner v call).1)
told_page part manner v xid call s = shown_page v (entries.Executed xid call (handled part manner v call).1) (handled_rises part manner v call s)

pub foreign_page : (v : View) (call : Call) (reply : Reply) → PageRises v (entries.Foreign call reply)
foreign_page v call reply = shown_page v (entries.Foreign call reply) tt

pub flushed_page : (v : View) (file : List ℕ) (start count : ℕ) → PageRises v (entries.Flushed file start count)
flushed_page v file start count = shown_page v (entries.Flushed file start count) tt

pub reboot_page : (v : View) (verf : Verf) → PageRises v (entries.Reboot verf)
reboot_page v verf = shown_page v (entries.Reboot verf) tt

pub sent_page : (v : View) (bytes : List ℕ) → PageRises v (entries.Sent bytes)
sent_page v bytes = shown_page v (entries.Sent bytes) tt

pub delivered_page : (v : View) (bytes : List ℕ) → PageRises v (entries.Delivered bytes)
delivered_page v bytes = shown_page v (entries.Delivered bytes) tt

pub dialed_page : (v : View) (port : ℕ) → PageRises v (entries.Dialed port)
dialed_page v port = shown_page v (entries.Dialed port) tt

pub failed_page : (v : View) → PageRises v entries.Failed
failed_page v = shown_page v entries.Failed tt

pub began_page : (v : View) (lane line : ℕ) (op : Op) → PageRises v (entries.Began lane line op)
began_page v lane line op = shown_page v (entries.Began lane line op) tt

pub answered_page : (v : View) (lane line : ℕ) (answer : Answer) → PageRises v (entries.Answered lane line answer)
answered_page v lane line answer = shown_page v (entries.Answered lane line answer) tt

pub clock_page : (v : View) (ms : ℕ) → PageRises v (entries.Clock ms)
clock_page v ms = shown_page v (entries.Clock ms) tt
