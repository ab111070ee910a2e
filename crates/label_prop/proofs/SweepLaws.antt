-- Laws of a sweep that is logged as a round of label propagation.
use Rattle.std.proofs.Common.{◌≡◌, ℕ, ◌-◌, ◌<◌, false, List, [], ◌∷◌, ◌++◌, length, ℤ, pos, ◌-ℤ◌, refl, sym, ap, subst, ◌∙◌}
use Rattle.hg_defs.specs.declared.moves.Move.{Move}
use Rattle.hg_defs.specs.Hypergraph.{Hyper}
use Rattle.hg_defs.specs.Cost.{cost}
use Rattle.hg_defs.specs.Replay.{replay}
use Rattle.hg_defs.specs.Moves.{IsSettled, sweep}
use Rattle.hg_defs.proofs.MoveLaws.{settled_sweep, sweep_saves}
use Rattle.pin_plain.specs.Parted.{Parted}
use Rattle.pin_plain.proofs.SettleLaws.{sweep_some, sweep_less}
use Rattle.round_log.specs.declared.record.Kind.TheVariants.{Label}
use Rattle.round_log.specs.declared.record.LoggedRound.{LoggedRound}
use Rattle.round_log.specs.Rounds.{IsSwept}
use Rattle.round_log.specs.Passes.{saved}
use Rattle.round_log.proofs.RoundLaws.{swept_to}
use Rattle.refiner.specs.declared.pass.Task.{Task}
use Rattle.label_prop.specs.LabelRounds.{LogsLabelRound}

-- the round of a sweep
abbrev pub sweep_round : ℕ → List Move → ℕ → ℕ → LoggedRound
sweep_round level moves before after = record {
  kind = Label;
  level = level;
  moves = moves;
  kept = length moves;
  gains = (pos before -ℤ pos after) ∷ [];
  before = before;
  made = after;
  after = after;
  first = 0;
  second = 0;
  region = [];
  value = 0;
  tabled = false;
}

round_swept : (h : Hyper) (k l level : ℕ) (p : List ℕ) → (IsSettled h k l p → ⊥) →
    IsSwept h k l p (sweep_round level (sweep h k l p) (cost h p) (cost h (replay p (sweep h k l p))))
round_swept h k l level p unsettled = record {
  moves = refl;
  some = sweep_some h k l p unsettled;
  gains = ap (λ (z : ℤ). z ∷ []) (sym (sweep_saves h k l p));
  before = refl;
  kept = refl;
  made = refl;
  after = refl;
  no_pair = record { first = refl; second = refl; value = refl; region = refl };
}

module _ (h : Hyper) (task : Task) (p q : Parted) (after : q ≡ record p { blocks = replay p.blocks (sweep h p.k p.limit p.blocks) }) where
  new_blocks : q.blocks ≡ replay p.blocks (sweep h p.k p.limit p.blocks)
  new_blocks = ap (λ (x : Parted). x.blocks) after

  -- a settled partition stays
  pub rests : IsSettled h p.k p.limit p.blocks → q ≡ p
  rests settled = after ∙ ap (λ (ms : List Move). record p { blocks = replay p.blocks ms }) (settled_sweep h p.k p.limit p.blocks settled)

  module _ (unsettled : IsSettled h p.k p.limit p.blocks → ⊥) where
    pub cheaper : cost h q.blocks < cost h p.blocks
    cheaper = subst (λ (bs : List ℕ). cost h bs < cost h p.blocks) (sym new_blocks) (sweep_less h p.k p.limit p.blocks unsettled)

    -- any other one is swept
    pub sweeps : (moves : List Move) (before later : ℕ) (r : LoggedRound) (old new : List LoggedRound) → moves ≡ sweep h p.k p.limit p.blocks
        → before ≡ cost h p.blocks → later ≡ cost h q.blocks → r ≡ sweep_round task.level moves before later → new ≡ old ++ r ∷ []
        → LogsLabelRound false h task p old new (before - later) q
    sweeps moves before later r old new em eb ea er el =
        let is : r ≡ sweep_round task.level (sweep h p.k p.limit p.blocks) (cost h p.blocks) (cost h (replay p.blocks (sweep h p.k p.limit p.blocks))) =
        er ∙ ap (λ (ms : List Move). sweep_round task.level ms before later) em
        ∙ ap (λ (b : ℕ). sweep_round task.level (sweep h p.k p.limit p.blocks) b later) eb
        ∙ ap (λ (a : ℕ). sweep_round task.level (sweep h p.k p.limit p.blocks) (cost h p.blocks) a) (ea ∙ ap (cost h) new_blocks) in
        let swept = subst (IsSwept h p.k p.limit p.blocks) (sym is) (round_swept h p.k p.limit task.level p.blocks unsettled) in
        record {
          round = r;
          log = el;
          kind = ap (λ (x : LoggedRound). x.kind) is;
          level = ap (λ (x : LoggedRound). x.level) is;
          legal = (swept, ap (λ (x : LoggedRound). x.tabled) is);
          lower = sym (ap saved er);
          leads = after ∙ ap (λ (bs : List ℕ). record p { blocks = bs }) (sym (swept_to h p.k p.limit p.blocks r swept));
        }
