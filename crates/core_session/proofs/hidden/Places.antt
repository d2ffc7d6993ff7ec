-- Where a file was hidden, as far as a history shows; and in a longer one.
use Rattle.core_session.proofs.Prelude.{◌≤◌, ℕ, List, [], ◌∷◌, ◌++◌, length, Option, arith, Attr, Wcc, Entry, Began, Call, Reply, At, Asked, Origin, Rooted, FirstSent-grow, Answers-grow, Asked-grow, At-grow, length_last, IsNamed, front_of, last_of, LeadsTo, leads-from, leads-later, front-last}
use Rattle.nfs_dir_calls.specs.declared.keeping.DirKept.TheVariants as kept
use Rattle.world_model.specs.declared.message.Reply.TheVariants as replies
use Rattle.world_model.specs.declared.op.Op.TheVariants as ops
use Rattle.claims.specs.Hidden.{IsHidden, HiddenAt}
use Rattle.name_ops.specs.Looking.{look_up}
use Rattle.name_ops.specs.Moving.{move_call}

-- A remove moved the file there, as `HiddenAt` of `claims` has it: the root is known.
pub record WasHidden (top : List ℕ) (h : List Entry) (f d name : List ℕ) : Type 0 where
  pub x : ℕ
  pub lane : ℕ
  pub line : ℕ
  pub path : List (List ℕ)
  pub attr : Option Attr
  pub dir : Option Attr
  pub source : Wcc
  pub target : Wcc
  pub began : At h x (Began lane line (ops.Remove path))
  pub hidden : IsHidden name
  pub leads : LeadsTo top h (front_of path) d
  pub renamed : Asked h x (length h) (move_call d (last_of path) d name) (replies.Dir (kept.Rename source target))
  pub gave : Asked h x renamed.heard.sent_at (look_up d (last_of path)) (replies.Dir (kept.Lookup f attr dir))

-- the same answer in a longer history, of a call that was sent at the same place
abbrev pub asked-on : (h more : List Entry) (x n to : ℕ) (call : Call) (reply : Reply) → n ≤ to → Asked h x n call reply → Asked (h ++ more) x to call reply
asked-on h more x n to call reply wide a = record {
  xid = a.xid;
  bytes = a.bytes;
  heard = record {
    sent_at = a.heard.sent_at;
    record_sent = a.heard.record_sent;
    got_at = a.heard.got_at;
    sent = FirstSent-grow h more a.heard.sent_at a.xid a.heard.record_sent a.heard.sent;
    spells = a.heard.spells;
    got = Answers-grow h more a.heard.got_at a.xid a.bytes a.heard.got;
    after = a.heard.after;
    later = a.heard.later;
    before = let early = a.heard.before in omega (arith, early, wide);
  };
  spells = a.spells;
}

pub hidden-later : (top : List ℕ) (h : List Entry) (e : Entry) (f d name : List ℕ) → WasHidden top h f d name → WasHidden top (h ++ e ∷ []) f d name
hidden-later top h e f d name k =
    let more = length_last h e in
    record {
      x = k.x;
      lane = k.lane;
      line = k.line;
      path = k.path;
      attr = k.attr;
      dir = k.dir;
      source = k.source;
      target = k.target;
      began = At-grow h (e ∷ []) k.x (Began k.lane k.line (ops.Remove k.path)) k.began;
      hidden = k.hidden;
      leads = leads-later top h e (front_of k.path) d k.leads;
      renamed = asked-on h (e ∷ []) k.x (length h) (length (h ++ e ∷ [])) (move_call d (last_of k.path) d name) (replies.Dir (kept.Rename k.source k.target)) (omega (arith, more)) k.renamed;
      gave = Asked-grow h (e ∷ []) k.x k.renamed.heard.sent_at (look_up d (last_of k.path)) (replies.Dir (kept.Lookup f k.attr k.dir)) k.gave;
    }

-- in the whole history, where the root and the path of the remove are known
pub hidden-at : (top : List ℕ) (origin : Origin) (h more : List Entry) (n : ℕ) (f d name : List ℕ) → length h ≤ n → Rooted origin (h ++ more) n top → (k : WasHidden top h f d name) → IsNamed k.path
    → HiddenAt origin (h ++ more) n f d name
hidden-at top origin h more n f d name wide rooted k named = record {
  x = k.x;
  lane = k.lane;
  line = k.line;
  path = k.path;
  last = last_of k.path;
  attr = k.attr;
  dir = k.dir;
  source = k.source;
  target = k.target;
  began = At-grow h more k.x (Began k.lane k.line (ops.Remove k.path)) k.began;
  hidden = k.hidden;
  place = record { earlier = front_of k.path; is = front-last k.path named; leads = leads-from top origin h more (length h) n (front_of k.path) d wide rooted k.leads };
  renamed = asked-on h more k.x (length h) n (move_call d (last_of k.path) d name) (replies.Dir (kept.Rename k.source k.target)) wide k.renamed;
  gave = Asked-grow h more k.x k.renamed.heard.sent_at (look_up d (last_of k.path)) (replies.Dir (kept.Lookup f k.attr k.dir)) k.gave;
}
