-- A history with the server at each of its moments.
use Rattle.std.specs.Prelude.{ℕ, List, None, replicate}
use Rattle.world_model.specs.declared.entry.Entry.{Entry}
use Rattle.world_model.specs.Server.{Server}

-- Moment n lies after the first n entries; so entry n leads from moment n to the next.
pub record History : Type 0 where
  pub entries : List Entry
  pub at : ℕ → Server

-- a server without objects, if nothing is known of the real one
abbrev pub no_server : Server
no_server = record { verf = record { 0 = replicate 8 0 }; object = λ h. None }

-- a history of which the entries alone are known
abbrev pub history : List Entry → History
history entries = record { entries = entries; at = λ n. no_server }
