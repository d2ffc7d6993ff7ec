-- Attributes that are believed for a while (nfs(5), acregmin to acdirmax), by file handle. Moments and lifetimes are milliseconds.
use Rattle.std.specs.Prelude.{ℕ, ◌+◌, ◌*◌, Bool, ◌==◌, nat_eq, nat_lt, min, if◌then◌else◌, List, [], ◌∷◌, take, Option, Some, None, option_and_then}
use Rattle.std.specs.Cmp.Lexicographic.{pointwise}
use Rattle.std.specs.Map.{lookup, remove_entry}
use Rattle.nfs_types.specs.declared.attr.Attr.{Attr}
use Rattle.nfs_types.specs.Stamps.{same_stamp, stamp_of}
use Rattle.attr_cache.specs.declared.lives.Lives.{Lives}
use Rattle.attr_cache.specs.declared.kept.KeptAttr.{KeptAttr}

-- the files that are known, the one that was learnt last in front, and the bounds of the lifetimes
pub record Attrs : Type 0 where
  pub entries : List (List ℕ × KeptAttr)
  pub lives : Lives

-- 3 to 60 seconds, and 30 to 60 seconds for directories
abbrev pub usual_lives : Lives
usual_lives = record { reg_min = 3000; reg_max = 60000; dir_min = 30000; dir_max = 60000 }

-- no file is known
abbrev pub nothing_learnt : Lives → Attrs
nothing_learnt lives = record { entries = []; lives = lives }

-- what is kept of a file
abbrev pub kept_of : List ℕ → Attrs → Option KeptAttr
kept_of file c = lookup (pointwise nat_eq file) c.entries

-- whether it is believed at a moment: this is before the end of its lifetime
abbrev pub is_fresh : ℕ → KeptAttr → Bool
is_fresh now kept = nat_lt now (kept.sent_at + kept.lifetime)

-- the attributes of a file that are believed at a moment
abbrev pub looked : List ℕ → ℕ → Attrs → Option Attr
looked file now c = option_and_then (λ kept. if is_fresh now kept then Some kept.attr else None) (kept_of file c)

-- the bounds of the lifetime of attributes; kind 2 is a directory (RFC 1813, section 2.5, ftype3)
abbrev pub shortest : Lives → Attr → ℕ
shortest lives attr = if attr.kind == 2 then lives.dir_min else lives.reg_min

abbrev pub longest : Lives → Attr → ℕ
longest lives attr = if attr.kind == 2 then lives.dir_max else lives.reg_max

-- whether the file has the length and the times of its last changes that are kept: mtime tells of its bytes, ctime of its attributes
abbrev pub has_stamp : Attr → KeptAttr → Bool
has_stamp attr kept = same_stamp (stamp_of kept.attr) (stamp_of attr)

-- the lifetime of attributes that are learnt by a call that was sent at a moment: a file that changed begins again, and one that
-- didn't change while it was believed is believed longer
abbrev pub next_lifetime : Lives → KeptAttr → Attr → ℕ → ℕ
next_lifetime lives kept attr sent_at =
    if has_stamp attr kept then (if is_fresh sent_at kept then kept.lifetime else min (kept.lifetime * 2) (longest lives attr)) else shortest lives attr

-- what is kept of a file goes to the front, in place of what was kept of it before, and at most 1,024 entries stay
abbrev pub fronted : List ℕ → KeptAttr → List (List ℕ × KeptAttr) → List (List ℕ × KeptAttr)
fronted file kept entries = take 1024 ((file, kept) ∷ remove_entry (pointwise nat_eq file) entries)

abbrev pub noted : List ℕ → Attr → ℕ → ℕ → Attrs → Attrs
noted file attr sent_at lifetime c = record c { entries = fronted file (record { attr = attr; sent_at = sent_at; lifetime = lifetime }) c.entries }

-- after attributes were learnt over what was kept of the file; those of an earlier call than the kept ones change nothing
abbrev pub learnt_over : Option KeptAttr → List ℕ → Attr → ℕ → Attrs → Attrs
learnt_over None file attr sent_at c = noted file attr sent_at (shortest c.lives attr) c
learnt_over (Some kept) file attr sent_at c =
    if nat_lt sent_at kept.sent_at then c else noted file attr sent_at (next_lifetime c.lives kept attr sent_at) c

-- after attributes were learnt from a call that was sent at a moment
abbrev pub learnt : List ℕ → Attr → ℕ → Attrs → Attrs
learnt file attr sent_at c = learnt_over (kept_of file c) file attr sent_at c

-- after a file was forgotten
abbrev pub forgotten : List ℕ → Attrs → Attrs
forgotten file c = record c { entries = remove_entry (pointwise nat_eq file) c.entries }
