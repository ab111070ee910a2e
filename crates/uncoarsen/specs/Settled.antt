-- The end of a run: the choice on the file, and the sweeps.
use Rattle.std.specs.Prelude.{◌≡◌, ℕ, List, ◌++◌}
use Rattle.hg_defs.specs.Hypergraph.{Hyper}
use Rattle.round_log.specs.declared.record.LoggedRound.{LoggedRound}
use Rattle.round_log.specs.declared.record.Trace.{Trace}
use Rattle.round_log.specs.Trace.{IsChoice, AreSweeps}

-- the greedy partition was taken where it is cheaper, and sweeps from what was chosen lead to q; the trace tells both, and all else of it is as it was
pub record SettlesBest (h : Hyper) (k l : ℕ) (old new : Trace) (q : List ℕ) : Type 0 where
  pub swept : List ℕ
  pub choice : IsChoice h k old.last new.chosen swept
  pub sweeps : List LoggedRound
  pub settled : AreSweeps h k l swept sweeps q
  pub trace : new ≡ record old { chosen = new.chosen; rounds = old.rounds ++ sweeps }
