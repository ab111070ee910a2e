use Rattle.std.proofs.Common.{◌<◌, ◌≤◌, All, vec_len}
use Rattle.place_search.proofs.division.number_pins.Given as goal

abbrev pub invariant-loop-u : goal.invariant-loop-u
invariant-loop-u l = All (λ v. v < l.count) l.pins.items × (vec_len l.pins ≤ l.u-index)
