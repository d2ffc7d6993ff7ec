-- Pages that are true of a history are true of it as a later client sees it, and the other way round.
use Rattle.std.proofs.Common.{◌≡◌, ◌≤◌, ℕ, List, ◌++◌, length, Option, refl, sym, ap, ◌∙◌, arith}
use Rattle.nfs_types.specs.declared.wcc.Stamp.{Stamp}
use Rattle.page_cache.specs.Bytes.{page_at}
use Rattle.page_store.specs.Disk.{Every}
use Rattle.page_store.specs.Pages.{StoredPage}
use Rattle.page_store.specs.Store.{Stands}
use Rattle.world_model.specs.declared.entry.Entry.{Entry}
use Rattle.world_model.specs.declared.entry.Entry.TheVariants.{Began}
use Rattle.world_model.specs.Fresh.{Fresh}
use Rattle.world_model.specs.History.{History}
use Rattle.world_model.specs.Lawful.{Lawful}
use Rattle.world_model.specs.Server.{Server}
use Rattle.law_reads.specs.Kept.{HasStamp}
use Rattle.law_reads.proofs.KeptBytes.{same_bytes}
use Rattle.law_anew.specs.Seen.{IsApart, Seen}
use Rattle.law_anew.proofs.SeenLaw.{later-clients-see}
use Rattle.kept_runs.specs.Stored.{BeganTrue, Stored, WasTrue}
use Rattle.law_kept.specs.Sessions.{BeginTrue, LeaveTrue}

-- a stamp at a moment of one history is one of another at a moment with the same server
moved : (t u : History) (n m : ℕ) (file : List ℕ) (stamp : Stamp) (now : List ℕ) → u.at m ≡ t.at n → m ≤ length u.entries → HasStamp t n file stamp now → HasStamp u m file stamp now
moved t u n m file stamp now same within h = record {
  file = h.file;
  stable = h.stable;
  moment = within;
  is = ap (λ (s : Server). s.object file) same ∙ h.is;
  holds = h.holds;
  stamp = h.stamp;
}

module _ (first : List Entry) (t : History) (s : Seen first t) where
  -- before
  was-true : (lawful : Lawful t) (fresh : Fresh t) (page : StoredPage) → WasTrue t (length first) page → WasTrue s.seen s.until page
  was-true lawful fresh page w =
      let b = s.before w.n w.within in
      let early = b.1 in
      let within = s.within in
      record {
        n = b.0;
        within = early;
        now = w.now;
        has = moved t s.seen w.n b.0 page.file page.stamp w.now b.2 (omega (arith, early, within)) w.has;
        each = λ m later soon has.
            let q = s.shows m (omega (arith, soon, within)) in
            let there : HasStamp t q.0 page.file page.stamp later = moved s.seen t m q.0 page.file page.stamp later (sym q.2) q.1 has in
            w.each w.n w.now w.within w.has ∙ ap (page_at page.index) (same_bytes t lawful fresh w.n q.0 page.file page.stamp w.now later w.has there);
      }

  -- after
  is-true : (page : StoredPage) → WasTrue s.seen (length s.seen.entries) page → WasTrue t (length t.entries) page
  is-true page w =
      let b = s.shows w.n w.within in
      record {
        n = b.0;
        within = b.1;
        now = w.now;
        has = moved s.seen t w.n b.0 page.file page.stamp w.now (sym b.2) b.1 w.has;
        each = λ m later soon has.
            let q = s.shown m soon in
            w.each q.0 later q.1 (moved t s.seen m q.0 page.file page.stamp later q.2 q.1 has);
      }

pub leave-true : LeaveTrue
leave-true first t s slots image stored k page low has = is-true first t s page (stored k page low has)

pub begin-true : {D : Type 0} (tells : D → Type 0) (may_leave : D → List ℕ → Type 0) → BeginTrue tells may_leave
begin-true tells may_leave disk slots t first more is lawful fresh apart told stands stored =
    let s : Seen first t = later-clients-see t first more is lawful apart in (
      s,
      record {
        told = told;
        stands = stands;
        until = s.until;
        early = λ i lane line op at. s.early i (Began lane line op) at refl;
        stored = λ image may k page low has. was-true first t s lawful fresh page (stored image may k page low has);
      },
    )
