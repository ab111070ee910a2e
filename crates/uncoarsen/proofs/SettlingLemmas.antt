-- The choice on the file and the sweeps from it, put together.
use Rattle.std.proofs.Common.{◌≡◌, ◌<◌, ℕ, List, ◌++◌, sym, ap, subst, ◌∙◌, refl}
use Rattle.hg_defs.specs.Hypergraph.{Hyper}
use Rattle.hg_defs.specs.Cost.{cost}
use Rattle.hg_defs.specs.LeastLoaded.{greedy}
use Rattle.pin_plain.specs.Parted.{Parted}
use Rattle.pin_plain.specs.Settling.{Settles}
use Rattle.round_log.specs.declared.record.Chosen.{Chosen}
use Rattle.round_log.specs.declared.record.Chosen.TheVariants.{Levels, Greedy}
use Rattle.round_log.specs.declared.record.LoggedRound.{LoggedRound}
use Rattle.round_log.specs.declared.record.Trace.{Trace}
use Rattle.round_log.specs.Trace.{IsChoice, AreSweeps}
use Rattle.uncoarsen.specs.Settled.{SettlesBest}

chosen_apart : {P : Type 0} → Greedy ≡ Levels → P
chosen_apart e = cc

chosen_apart_too : {P : Type 0} → Levels ≡ Greedy → P
chosen_apart_too e = cc

pub choice_greedy : (h : Hyper) (k : ℕ) (last p : List ℕ) → p ≡ greedy h k → cost h (greedy h k) < cost h last → IsChoice h k last Greedy p
choice_greedy h k last p same less = record {
  greedy_where_cheaper = (λ e. less, λ l. refl);
  greedy_is_swept = λ e. same;
  last_is_swept = λ e. chosen_apart e;
}

pub choice_levels : (h : Hyper) (k : ℕ) (last p : List ℕ) → p ≡ last → (cost h (greedy h k) < cost h last → ⊥) → IsChoice h k last Levels p
choice_levels h k last p same not_less = record {
  greedy_where_cheaper = (λ e. chosen_apart_too e, λ l. absurd (not_less l));
  greedy_is_swept = λ e. chosen_apart_too e;
  last_is_swept = λ e. same;
}

pub settled_best :
    (h : Hyper) (k l : ℕ) (old mid : Trace) (taken : Chosen) (best : Parted) (q : List ℕ) (log : List LoggedRound) (n : ℕ) → best.k ≡ k → best.limit ≡ l →
    IsChoice h k old.last taken best.blocks
    → mid ≡ record old { chosen = taken } → Settles h best.k best.limit best.blocks q mid.rounds log n →
    SettlesBest h k l old (record mid { rounds = log }) q
settled_best h k l old mid taken best q log n same_k same_l choice mid_is settles = record {
  swept = best.blocks;
  choice = subst (λ (x : Chosen). IsChoice h k old.last x best.blocks) (sym (ap (λ (t : Trace). t.chosen) mid_is)) choice;
  sweeps = settles.rounds;
  settled = subst (λ (x : ℕ). AreSweeps h x l best.blocks settles.rounds q) same_k (subst (λ (x : ℕ). AreSweeps h best.k x best.blocks settles.rounds q)
      same_l
      settles.sweeps);
  trace =
      ap (λ (t : Trace). record t { rounds = log }) mid_is
      ∙ ap (λ (x : Chosen). record old { chosen = x; rounds = log }) (sym (ap (λ (t : Trace). t.chosen) mid_is))
      ∙ ap (λ (rs : List LoggedRound). record old { chosen = mid.chosen; rounds = rs }) (settles.log ∙ ap (λ (t : Trace). t.rounds ++ settles.rounds)
      mid_is);
}
