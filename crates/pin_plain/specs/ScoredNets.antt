-- What a net as it is scored saves for a block.
use Rattle.std.specs.Prelude.{ℕ}
use Rattle.pin_plain.specs.declared.lent.Scored.{Scored}
use Rattle.pin_plain.specs.Scores.{amount_for}

abbrev pub amount_of : Scored → ℕ → ℕ
amount_of net b = amount_for net.objective net.weight net.blocks.now net.pins.now b
