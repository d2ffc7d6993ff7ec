use Rattle.std.proofs.Common.{◌≡◌}
use Rattle.std.specs.VecDeque.Iter.{deque_iter_rest}
use Rattle.export_serve.specs.Kept.{reply_kept}
use Rattle.export_serve.proofs.kept_replies.reply_among.Given as goal

abbrev pub invariant-loop-kept : goal.invariant-loop-kept
invariant-loop-kept l = reply_kept l.rec l.replies.items ≡ reply_kept l.rec (deque_iter_rest l.kept-iterator)
