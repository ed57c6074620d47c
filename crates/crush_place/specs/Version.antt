-- The version of the calls for C, by which a program sees that its header and its archive belong together.
use Rattle.std.specs.Prelude.{ℕ}

-- document 01 with changes 1 to 8 of document 02: 10000 for the document, 100 for each change
abbrev pub version : ℕ
version = 10800
