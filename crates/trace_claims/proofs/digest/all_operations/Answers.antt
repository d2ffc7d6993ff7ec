-- With the replies that came, and the roots.
use Rattle.trace_claims.proofs.digest.all_operations.Goals as goal

pub returns : goal.returns
returns c m origin is named =
    let heard = rw c.as_slice-entries.ensures.value at c.in_ok-heard.ensures in
    let mounted = rw c.as_slice-entries.ensures.value at c.in_ok-path.ensures in
    let roots = (rw (c.bytes.ensures, c.as_slice.ensures.value) at c.in_ok-roots.ensures) origin is mounted heard in
    (rw (c.as_slice-entries.ensures.value, c.as_slice-2.ensures.value, c.as_slice-3.ensures.value) at c.with_files.ensures) m origin named heard roots
