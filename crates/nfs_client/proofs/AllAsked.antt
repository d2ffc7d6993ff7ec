-- The calls of a session that was set up were asked for.
use Rattle.std.proofs.Common.{◌≡◌, ◌++◌, ℕ, List, inl, inr, subst, refl, Ok, arith}
use Rattle.world_model.specs.declared.entry.Entry.{Entry}
use Rattle.world_model.specs.declared.entry.Entry.TheVariants.{Sent}
use Rattle.world_model.specs.declared.message.Call.{Call}
use Rattle.claims.specs.CallsAsked.{CallsAsked, NoneBegan, IsCaused, IsCause}
use Rattle.claims.specs.CallsAsked as causes
use Rattle.world_model.specs.Entries.{At}
use Rattle.world_model.proofs.Places.{At-back}
use Rattle.session_words.specs.declared.settings.Settings.{Settings}
use Rattle.session_setup.specs.declared.opening.SetUp.{SetUp}
use Rattle.session_setup.specs.Origins.{origin_of, terms_by}
use Rattle.session_setup.specs.Outcomes.{SetsUp, FitsSession}
use Rattle.session_setup.specs.Sendings.{IsSetUpCall, mounts, informs}
use Rattle.lane_session.specs.Bonds.{HasCore, SentSince}
use Rattle.lane_session.specs.Running.{mounted_by}
use Rattle.op_machines.specs.Begun.{machine_of}
use Rattle.core_session.specs.calls.Sessions.{AreAsked}
use Rattle.core_session.specs.calls.Whole.{IsSetUpFor, GoesFrom}
use Rattle.core_facts.proofs.Noting.{notes-reach}
use Rattle.core_session.specs.settled.Settling as settling
use Rattle.script_runs.specs.declared.stock.Stock.{Stock}
use Rattle.script_runs.specs.Stock.{setup_with}

module _ (s : Settings) (first : ℕ) (v : SetUp) (before : List Entry) (so : SetsUp s first (Ok v) before) (fits : FitsSession s first v) where
  none-began : (i : ℕ) → NoneBegan before i
  none-began i j lane line op at low = so.unmarked.began j lane line op at

  set-up-caused : (i : ℕ) (bytes : List ℕ) → At before i (Sent bytes) → IsCaused (terms_by s first) before i bytes
  set-up-caused i bytes at =
      let r = so.sent.caused i bytes at in
      record { xid = r.xid; call = r.call; made = r.made; cause = by r.call r.xid r.is }
    where
      by : (call : Call) (xid : ℕ) → IsSetUpCall (origin_of s.export) first before i xid call → IsCause (terms_by s first) before i call
      by call xid (mounts path is c x) = causes.mounts path is c (none-began i)
      by call xid (informs root rooted c x) = causes.informs root rooted c (none-began i)

  set-up-asked : CallsAsked (terms_by s first) before
  set-up-asked = record {
    caused = set-up-caused;
    among = λ i xid bytes at has. let among = so.sent.among i xid bytes at has in let low = among.0 in let high = among.1 in let within = so.within in (low, omega (arith, high, within));
    equal = so.sent.equal;
    single = so.single;
    unrepeated = so.sent.unrepeated;
  }

  set-up-for : (stock : Stock) → IsSetUpFor (mounted_by s (setup_with stock s v)) (terms_by s first) (setup_with stock s v) before
  set-up-for stock = record {
    unbegun = so.unmarked.began;
    asked = set-up-asked;
    root = so.ends.rooted;
    read = so.ends.read;
    write = so.ends.write;
    first = fits.starts;
    total = let total = fits.total in omega (arith, total);
  }

  pub goes-from : (stock : Stock) (h more : List Entry) → h ≡ before ++ more → AreAsked h → (has : HasCore (mounted_by s (setup_with stock s v)) (setup_with stock s v) before h)
      → GoesFrom (mounted_by s (setup_with stock s v)) (terms_by s first) (setup_with stock s v) before h has.core
  goes-from stock h more is asked has = record {
    set_up = set-up-for stock;
    more = more;
    grows = is;
    goes = record { nocto = refl; reaches = notes-reach (machine_of (mounted_by s (setup_with stock s v))) (setup_with stock s v) h has.core has.notes };
    noac = refl;
    some = fits.read;
    cred = refl;
    since = has.since;
    asked = asked;
  }

  -- ---- what was sent before operations began

  set-up-call : (call : Call) (i xid : ℕ) → IsSetUpCall (origin_of s.export) first before i xid call → settling.IsSetUpCall call
  set-up-call call i xid (mounts path is c x) = settling.mounts path c
  set-up-call call i xid (informs root rooted c x) = settling.informs root c

  set-up-record : (i : ℕ) (bytes : List ℕ) → At before i (Sent bytes) → settling.IsSetUpRecord bytes
  set-up-record i bytes at = let r = so.sent.caused i bytes at in record { xid = r.xid; call = r.call; spells = r.made.spells; is = set-up-call r.call i r.xid r.is }

  pub only-sets-up : (h more : List Entry) → h ≡ before ++ more → SentSince before h → settling.OnlySetsUp h
  only-sets-up h more is since i bytes at none = elim (since i bytes at) [
    | inl early ↦ set-up-record i bytes (At-back before more i (Sent bytes) (subst (λ (k : List Entry). At k i (Sent bytes)) is at) early)
    | inr begun ↦ absurd (none begun.at begun.lane begun.line begun.op begun.began begun.before)
  ]
