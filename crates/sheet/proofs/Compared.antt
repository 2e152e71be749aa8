-- Two lists of rows, compared row by row. Assumes nothing.
use Rattle.std.proofs.Common.{◌≡◌, List}
use Rattle.sheet.specs.declared.rows.Row.{Row}

-- two lists are equal exactly if what is left of them is
abbrev pub Follows : List Row → List Row → List Row → List Row → Type 0
Follows xs ys us vs = (xs ≡ ys → us ≡ vs) × (us ≡ vs → xs ≡ ys)
