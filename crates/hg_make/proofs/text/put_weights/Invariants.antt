use Rattle.std.proofs.Common.{◌≡◌, ℕ, List, [], ◌∷◌, ◌++◌, drop, map}
use Rattle.std.specs.Prelude.{Ok}
use Rattle.std.specs.List.{flat_map}
use Rattle.hg_io.specs.declared.traits.Failed.{Failed}
use Rattle.hg_io.specs.Transfers.{Writes}
use Rattle.part_text.specs.NumberLines.{numbers_line}
use Rattle.hg_make.proofs.text.put_weights.Given as goal

abbrev pub invariant-weights : goal.invariant-weights
invariant-weights g l = (done : List ℕ)
    × (Writes {T = Unit {0}} {E = Failed} (g.K.Sink.got l.fn.sink) (g.K.Sink.got l.sink) l.fn.pen l.pen (Ok tt) done
    × (flat_map numbers_line (map (λ w. w ∷ []) l.h.weights) ≡ done ++ flat_map numbers_line (map (λ w. w ∷ []) (drop l.v l.h.weights)))
    × (g.K.Sink.faults l.sink ≡ g.K.Sink.faults l.fn.sink))
