-- What datagrams in memory tell.
use Rattle.std.proofs.Common.{map, ◌++◌, ◌≡◌, List, [], ◌∷◌, refl, ap}
use Rattle.outside.specs.declared.datagrams.DatagramEntry.{DatagramEntry}
use Rattle.outside.specs.Datagrams.{DatagramCall, DatagramsTold, AddsDatagram}
use Rattle.world_model.specs.History.{no_server}
use Rattle.outside.specs.MemDatagrams.{by_itself, of_memory}

map_last : (es : List DatagramEntry) (e : DatagramEntry) → map by_itself (es ++ e ∷ []) ≡ map by_itself es ++ by_itself e ∷ []
map_last [] e = refl
map_last (x ∷ es) e = ap (λ (t : List DatagramCall). by_itself x ∷ t) (map_last es e)

abbrev no_server_told : List DatagramCall → DatagramsTold
no_server_told cs = record { start = no_server; calls = cs }

-- one more call is told, and nothing of the server
pub notes_itself : (old : List DatagramEntry) (e : DatagramEntry) → of_memory (old ++ e ∷ []) ≡ record { start = no_server; calls = (of_memory old).calls ++ record { quiet = []; did = e } ∷ [] }
notes_itself old e = ap (λ (cs : List DatagramCall). no_server_told cs) (map_last old e)

pub tells_itself : (old : List DatagramEntry) (e : DatagramEntry) → AddsDatagram (of_memory old) (of_memory (old ++ e ∷ [])) e
tells_itself old e = record { quiet = []; grown = notes_itself old e; unseen = refl }
