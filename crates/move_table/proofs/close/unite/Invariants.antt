use Rattle.std.proofs.Common.{◌≡◌, ◌+◌, [], ◌++◌, List, All, vec_len}
use Rattle.move_table.specs.Calls.{RacedPass}
use Rattle.move_table.specs.Closing.{united_all}
use Rattle.move_table.proofs.close.unite.Given as goal

abbrev pub invariant-loop-pass : goal.invariant-loop-pass
invariant-loop-pass l =
    (taken : List RacedPass)
    × (l.initial.rest.items ≡ l.rest.items ++ taken)
    × (l.seat.table_id ≡ l.initial.seat.table_id)
    × (l.seat.me ≡ (united_all l.initial.seat.me.0 taken, []))
    × All (λ p. p.view.stands + p.view.may ≡ 1) taken

abbrev pub decreases-loop-pass : goal.decreases-loop-pass
decreases-loop-pass l = vec_len l.rest
