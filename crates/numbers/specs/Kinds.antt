-- The limits of the two kinds of coordinates: an element may be loaded while both magnitudes are below the first, and work stays below the second.
use Rattle.std.specs.Prelude.{ℕ, ◌^◌}

abbrev pub short_loading : ℕ
short_loading = 2 ^ 24

abbrev pub short_working : ℕ
short_working = 2 ^ 28

abbrev pub long_loading : ℕ
long_loading = 2 ^ 48

abbrev pub long_working : ℕ
long_working = 2 ^ 52
