-- What an operation asks for before one place of a history, it asks for before each later place.
use Rattle.core_counts.proofs.Prelude.{◌≤◌, ℕ, List, Some, arith, All-weaker, Entry, Call, Op, Verf, Reply, list_call, Terms, Rooted-wide}
use Rattle.world_model.specs.Chains.{Chain, start, next, page_reply}
use Rattle.world_model.proofs.Growth.{Asked-wide}
use Rattle.nfs_dir_calls.specs.declared.call.DirCall.TheVariants as dirs
use Rattle.nfs_dir_calls.specs.declared.keeping.DirKept.TheVariants as found
use Rattle.world_model.specs.declared.message.Call.TheVariants as calls
use Rattle.world_model.specs.declared.message.Reply.TheVariants as replies
use Rattle.claims.specs.Asks as a
use Rattle.nfs_dir_calls.specs.declared.plus_page.PlusRow.{PlusRow}
use Rattle.world_model.specs.Heard.{Asked}
use Rattle.claims.specs.Hidden.{HiddenAt}
use Rattle.world_model.specs.Leads.{Leads, root, step}
use Rattle.world_model.specs.Mounts.{Origin}
use Rattle.claims.specs.Paths.{PlaceOf}
use Rattle.claims.specs.ReadTrue.{Within}

pub leads-wide : (origin : Origin) (h : List Entry) (n more : ℕ) → n ≤ more → (path : List (List ℕ)) (object : List ℕ) → Leads origin h n path object → Leads origin h more path object
leads-wide origin h n more wide _ _ (root path object is r) = root path object is (Rooted-wide origin h n more object wide r)
leads-wide origin h n more wide _ _ (step path earlier object name d attr dir is l told) =
    step path earlier object name d attr dir is (leads-wide origin h n more wide earlier d l)
    (Asked-wide h 0 n 0 more (calls.Dir (dirs.Lookup d name)) (replies.Dir (found.Lookup object attr dir)) (omega arith) wide told)

chain-wide : (h : List Entry) (x n more : ℕ) (d : List ℕ) (rows : List PlusRow) (cookie : ℕ) (verf : Verf) → n ≤ more → Chain h x n d rows cookie verf → Chain h x more d rows cookie verf
chain-wide h x n more d _ _ _ wide (start rows cookie verf e f g) = start rows cookie verf e f g
chain-wide h x n more d _ _ _ wide (next rows before page cookie from verf with_ attr eof c told l is) =
    next rows before page cookie from verf with_ attr eof (chain-wide h x n more d before from with_ wide c)
    (Asked-wide h x n x more (list_call d from with_) (page_reply attr verf page eof) (omega arith) wide told) l is

module _ (terms : Terms) (h : List Entry) (x n more : ℕ) (wide : n ≤ more) where
  leads : (path : List (List ℕ)) (object : List ℕ) → Leads terms.origin h n path object → Leads terms.origin h more path object
  leads path object l = leads-wide terms.origin h n more wide path object l

  place : (path : List (List ℕ)) (d name : List ℕ) → PlaceOf terms.origin h n path d name → PlaceOf terms.origin h more path d name
  place path d name p = record { earlier = p.earlier; is = p.is; leads = leads p.earlier d p.leads }

  asked : (call : Call) (reply : Reply) → Asked h x n call reply → Asked h x more call reply
  asked call reply told = Asked-wide h x n x more call reply (omega arith) wide told

  within : (at : ℕ) → Within x n at → Within x more at
  within at w = record { late = w.late; soon = let low = w.soon in omega (arith, low, wide) }

  held : (f : List ℕ) → a.HeldOpen terms h x n f → a.HeldOpen terms h x more f
  held f o = record { lane = o.lane; slot = o.slot; open_at = o.open_at; n = o.n; moment = within o.n o.moment; holds = o.holds }

  hide : (d last name : List ℕ) → a.MayHide terms h x n d last name → a.MayHide terms h x more d last name
  hide d last name k = record {
    f = k.f;
    attr = k.attr;
    dir = k.dir;
    reply = k.reply;
    gave = asked (a.look_up d last) (a.looked_up k.f k.attr k.dir) k.gave;
    held = held k.f k.held;
    free = asked (a.look_up d name) k.reply k.free;
    none = k.none;
  }

  hidden : (f d name : List ℕ) → HiddenAt terms.origin h n f d name → HiddenAt terms.origin h more f d name
  hidden f d name k = record {
    x = k.x;
    lane = k.lane;
    line = k.line;
    path = k.path;
    last = k.last;
    attr = k.attr;
    dir = k.dir;
    source = k.source;
    target = k.target;
    began = k.began;
    hidden = k.hidden;
    place = place k.path d k.last k.place;
    renamed = record {
      xid = k.renamed.xid;
      bytes = k.renamed.bytes;
      heard = record {
        sent_at = k.renamed.heard.sent_at;
        record_sent = k.renamed.heard.record_sent;
        got_at = k.renamed.heard.got_at;
        sent = k.renamed.heard.sent;
        spells = k.renamed.heard.spells;
        got = k.renamed.heard.got;
        after = k.renamed.heard.after;
        later = k.renamed.heard.later;
        before = let low = k.renamed.heard.before in omega (arith, low, wide);
      };
      spells = k.renamed.spells;
    };
    gave = k.gave;
  }

  removes : (op : Op) (call : Call) → a.RemovesHidden terms h x n op call → a.RemovesHidden terms h x more op call
  removes op call k = record {
    slot = k.slot;
    f = k.f;
    d = k.d;
    name = k.name;
    is = k.is;
    of = k.of;
    hidden = hidden k.f k.d k.name k.hidden;
    alone = record { n = k.alone.n; moment = within k.alone.n k.alone.moment; alone = k.alone.alone };
    removes = k.removes;
  }

  stable : (op : Op) (f : List ℕ) → a.Stabilizes terms h x n op f → a.Stabilizes terms h x more op f
  stable op f (a.sync slot is of) = a.sync slot is of
  stable op f (a.close slot is of) = a.close slot is of
  stable op f (a.put path offset bytes is l) = a.put path offset bytes is (leads path f l)

  room : a.NeedsRoom h x n → a.NeedsRoom h x more
  room r = record {
    writers = r.writers;
    different = r.different;
    each = All-weaker (a.TakesRoom h x n) (a.TakesRoom h x more)
        (λ o t. record { began = t.began; writes = t.writes; before = let low = t.before in omega (arith, low, wide); counts = t.counts }) r.writers r.each;
    full = r.full;
  }

  had : (f : List ℕ) → a.HadPending terms h x n f → a.HadPending terms h x more f
  had f p = record { i = p.i; v = p.v; n = p.n; moment = within p.n p.moment; pending = p.pending }

  acts : (op : Op) (call : Call) → a.Acts terms h x n op call → a.Acts terms h x more op call
  acts op call (a.cuts slot size f is of c) = a.cuts slot size f is of c
  acts op call (a.accesses path bits f is l c) = a.accesses path bits f is (leads path f l) c
  acts op call (a.reads_link path f is l c) = a.reads_link path f is (leads path f l) c
  acts op call (a.makes_dir path d name is p c) = a.makes_dir path d name is (place path d name p) c
  acts op call (a.makes_link path target d name is p c) = a.makes_link path target d name is (place path d name p) c
  acts op call (a.removes_dir path d name is p c) = a.removes_dir path d name is (place path d name p) c
  acts op call (a.renames source target d name to_d to_name is p q c) = a.renames source target d name to_d to_name is (place source d name p) (place target to_d to_name q) c
  acts op call (a.links source target f d name is l p c) = a.links source target f d name is (leads source f l) (place target d name p) c
  acts op call (a.removes path d name is p c) = a.removes path d name is (place path d name p) c
  acts op call (a.hides path d last name is p k m c) = a.hides path d last name is (place path d last p) k (hide d last name m) c

  pub asks-wide : (op : Op) (call : Call) → a.Asks terms h x n op call → a.Asks terms h x more op call
  asks-wide op call (a.walks path earlier later name next_name d of is l c) = a.walks path earlier later name next_name d of is (leads earlier d l) c
  asks-wide op call (a.finds path d name of p c) = a.finds path d name of (place path d name p) c
  asks-wide op call (a.looks_for_hidden path d last name is p k c) = a.looks_for_hidden path d last name is (place path d last p) k c
  asks-wide op call (a.creates slot path d name is p c) = a.creates slot path d name is (place path d name p) c
  asks-wide op call (a.creates_after slot path d name reply is p told none c) = a.creates_after slot path d name reply is (place path d name p) (asked (a.look_up d name) reply told) none c
  asks-wide op call (a.opens path f of l c) = a.opens path f of (leads path f l) c
  asks-wide op call (a.opens_made slot mode path d name f making attr wcc is p made told c) =
      a.opens_made slot mode path d name f making attr wcc is (place path d name p) made (asked making (replies.Dir (found.Create (Some f) attr wcc)) told) c
  asks-wide op call (a.shows path f is l c) = a.shows path f is (leads path f l) c
  asks-wide op call (a.reads slot offset count at size f is of inside c) = a.reads slot offset count at size f is of inside c
  asks-wide op call (a.asks_anew slot offset count f is anew of c) = a.asks_anew slot offset count f is anew of c
  asks-wide op call (a.writes f bytes at how s c) = a.writes f bytes at how (stable op f s) c
  asks-wide op call (a.commits f s c) = a.commits f (stable op f s) c
  asks-wide op call (a.writes_for_room f bytes at how w p r c) = a.writes_for_room f bytes at how w (had f p) (room r) c
  asks-wide op call (a.commits_for_room f w p r c) = a.commits_for_room f w (had f p) (room r) c
  asks-wide op call (a.removes_hidden r) = a.removes_hidden (removes op call r)
  asks-wide op call (a.lists path d rows cookie verf is l c e) = a.lists path d rows cookie verf is (leads path d l) (chain-wide h x n more d rows cookie verf wide c) e
  asks-wide op call (a.acts k) = a.acts (acts op call k)
