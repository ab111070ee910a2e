-- Runs on made hypergraphs.
use Rattle.std.proofs.Common.{◌≡◌, ℕ, refl, sym, subst}
use Rattle.hg_defs.specs.Hypergraph.{Hyper, IsFixedWithin}
use Rattle.hg_make.specs.Made.{made}
use Rattle.part_run.specs.declared.status.Status.{Status}
use Rattle.part_run.specs.declared.status.Status.TheVariants.{Done, Usage, Malformed, TooLarge, Unplaced, ReadFault}
use Rattle.part_run.specs.declared.status.Status.TheVariants.{WriteFault, NoMemory, BadPartition, BadFix}
use Rattle.part_run.specs.Answers.{Outputs, IsPlaceRefusal, IsTrialRefusal, trial_job}
use Rattle.part_run.proofs.FreeGraph.{all_free}

-- no vertex of a made hypergraph is fixed
pub made_unfixed : (n k : ℕ) (h : Hyper) → h ≡ made n → IsFixedWithin h k
made_unfixed n k h is = subst (λ (g : Hyper). IsFixedWithin g k) (sym is) (λ v low other. absurd (other (all_free n v)))

-- what gives no partition is a refusal
pub trial_refusal : (n k : ℕ) (o : Outputs) (s : Status) → IsPlaceRefusal (trial_job k) (made n) s → IsTrialRefusal n k o o s
trial_refusal n k o Done cause = absurd cause
trial_refusal n k o Usage cause = absurd cause
trial_refusal n k o (Malformed line kind) cause = absurd cause
trial_refusal n k o (TooLarge line what) cause = absurd cause
trial_refusal n k o (Unplaced v) cause = (cause, refl)
trial_refusal n k o ReadFault cause = absurd cause
trial_refusal n k o WriteFault cause = absurd cause
trial_refusal n k o NoMemory cause = refl
trial_refusal n k o (BadPartition line kind) cause = absurd cause
trial_refusal n k o (BadFix line kind) cause = absurd cause
