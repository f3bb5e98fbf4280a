-- The version of the library for C programs: 10,000 for each version, 100 for each change that adds calls, 1 for each
-- other one.
use Rattle.std.specs.Prelude.{ℕ}

abbrev pub version : ℕ
version = 10400
