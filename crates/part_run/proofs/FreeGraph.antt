-- A hypergraph that a file spells has no fixed vertex.
use Rattle.std.proofs.Common.{◌≡◌, ℕ, zero, suc, List, [], ◌∷◌, refl, subst, replicate}
use Rattle.std.specs.Prelude.{Ok, Err, IfOk, slice_index_or}
use Rattle.hg_defs.specs.declared.objective.TheConstants.{FREE}
use Rattle.hg_defs.specs.declared.objective.Objective.TheVariants.{Connectivity}
use Rattle.hg_defs.specs.Hypergraph.{Hyper, Net, IsFree}
use Rattle.hg_text.specs.Kept.{Line, reading}
use Rattle.hmetis_read.specs.Graph.{Read, ◌>>=◌, first_in, nets_in, weights_in, read_on, ended, shape_of, graph}

abbrev AllFree : Hyper → Type 0
AllFree h = (v : ℕ) → IsFree h v

bound : {A B : Type 0} (P : B → Type 0) (r : Read A) (f : A → Read B) → ((x : A) → IfOk (f x) P) → IfOk (r >>= f) P
bound P (Ok x) f k = k x
bound P (Err e) f k = tt

pub all_free : (n v : ℕ) → slice_index_or (replicate n FREE) v FREE ≡ FREE
all_free zero v = refl
all_free (suc n) zero = refl
all_free (suc n) (suc v) = all_free n v

free_end : (lines : List Line) (n : ℕ) (nets : List Net) (weights : List ℕ)
    → IfOk (ended lines (record { weights = weights; nets = nets; objective = Connectivity; fixes = replicate n FREE })) AllFree
free_end [] n nets weights = all_free n
free_end (line ∷ lines) n nets weights = tt

pub free_graph : (bytes : List ℕ) (h : Hyper) → graph bytes ≡ Ok h → (v : ℕ) → IsFree h v
free_graph bytes h spelled =
    subst (λ (r : Read Hyper). IfOk r AllFree) spelled
    (bound AllFree (shape_of (reading bytes)) _
    (λ shape. bound AllFree (first_in shape.nets (nets_in shape) (read_on 1 (reading bytes))) _
    (λ nets. bound AllFree (weights_in shape (read_on shape.nets (read_on 1 (reading bytes)))) _
    (λ weights. free_end _ shape.vertices nets weights))))
