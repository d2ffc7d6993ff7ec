-- How a session counts its calls: those of NFS, each xid once (RFC 5531, section 9: a call that is sent again keeps its xid).
use Rattle.std.specs.Prelude.{◌+◌, ◌==◌, ℕ, min, if◌then◌else◌}
use Rattle.nfs_types.specs.declared.nfs_proc.TheConstants.{GETATTR, LOOKUP, READ, WRITE, COMMIT}
use Rattle.world_model.specs.declared.tally.Tally.{Tally}
use Rattle.lane_session.specs.Running.{one_where}

-- the numbers with one more call of a procedure; they have 32 bits
abbrev pub with_proc : Tally → ℕ → Tally
with_proc t proc = record {
  calls = min (t.calls + 1) 4294967295;
  getattr = min (t.getattr + one_where (proc == GETATTR)) 4294967295;
  lookup = min (t.lookup + one_where (proc == LOOKUP)) 4294967295;
  read = min (t.read + one_where (proc == READ)) 4294967295;
  write = min (t.write + one_where (proc == WRITE)) 4294967295;
  commit = min (t.commit + one_where (proc == COMMIT)) 4294967295;
}

-- the numbers after an attempt of a call, the first or a later one: it is counted by its first
abbrev pub with_attempt : ℕ → ℕ → Tally → Tally
with_attempt attempts proc t = if attempts == 1 then with_proc t proc else t
