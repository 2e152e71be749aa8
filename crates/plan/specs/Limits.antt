-- The bounds of the product, each under one name. Assumes nothing.
use Rattle.std.specs.Prelude.{ℕ, ◌≤◌}

-- the greatest last size of a plan
abbrev pub max_size : ℕ
max_size = 4096

-- the greatest rejection number, and the greatest acceptance number, which is one less
abbrev pub max_rejection : ℕ
max_rejection = 254

abbrev pub max_acceptance : ℕ
max_acceptance = 253

-- the greatest count that one item of any kind may give
abbrev pub max_count : ℕ
max_count = 15

-- h_A, h_R and g are whole numbers of millionths
abbrev pub million : ℕ
million = 1000000

abbrev pub max_intercept : ℕ
max_intercept = 10000000

abbrev pub max_slope : ℕ
max_slope = 999999

-- n lies within two limits
abbrev pub Within : ℕ → ℕ → ℕ → Type 0
Within low high n = (low ≤ n) × (n ≤ high)
