-- What comes back of the calls that engine does not have, each as one record.
use Rattle.std.specs.Prelude.{List, ℕ}
use Rattle.definitions.specs.Calls.{DaemonAnswer, DrivesAnswer}
use Rattle.engine.specs.declared.place.Placing.{Placing}
use Rattle.crush_place.specs.declared.Drives.{Drives}

abbrev pub daemon_answer : Placing → List ℕ → DaemonAnswer
daemon_answer r out = record { number = r.number; places = r.places; tries = r.tries; out = out }

abbrev pub drives_answer : Drives → List ℕ → DrivesAnswer
drives_answer r out = record { number = r.number; group = r.group; places = r.places; tries = r.tries; out = out }
