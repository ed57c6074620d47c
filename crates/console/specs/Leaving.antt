-- What a read or a write that fails leaves of map, table and states.
use Rattle.std.specs.Prelude.{List, [], ℕ, ◌⊎◌}
use Rattle.protocol.specs.declared.asked.Program.{Program}
use Rattle.report.specs.Edits.{Site, Session, session, bytes_of}
use Rattle.report.specs.Reads.{Led, Ended}

-- the bytes bs lead to the site
abbrev pub Came : Program → List ℕ → Session → List ℕ → Site → Type 0
Came p space s bs here = (l : List ℕ) × Led l here (bytes_of p space s bs)

-- some bytes lead to the site from this one, or they and the end of the input
abbrev pub Left : Program → List ℕ → Site → Site → Type 0
Left p space s here = (bs : List ℕ) × (Came p space (session s []) bs here ⊎ Ended p space s bs here)
