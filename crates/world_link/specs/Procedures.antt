-- The procedures of NFS version 3 by their names (RFC 1813, section 3).
use Rattle.std.specs.Prelude.{ℕ, List, [], ◌∷◌, codes, position, Option}
use Rattle.std.specs.Str.{bytes_eq}

-- in the order of their numbers
abbrev pub procedures : List (List ℕ)
procedures =
    codes "NULL" ∷ codes "GETATTR" ∷ codes "SETATTR" ∷ codes "LOOKUP" ∷ codes "ACCESS" ∷ codes "READLINK" ∷ codes "READ" ∷ codes "WRITE"
    ∷ codes "CREATE" ∷ codes "MKDIR" ∷ codes "SYMLINK" ∷ codes "MKNOD" ∷ codes "REMOVE" ∷ codes "RMDIR" ∷ codes "RENAME" ∷ codes "LINK"
    ∷ codes "READDIR" ∷ codes "READDIRPLUS" ∷ codes "FSSTAT" ∷ codes "FSINFO" ∷ codes "PATHCONF" ∷ codes "COMMIT" ∷ []

-- the number of the procedure of that name
abbrev pub proc_of : List ℕ → Option ℕ
proc_of name = position (λ p. bytes_eq p name) procedures
