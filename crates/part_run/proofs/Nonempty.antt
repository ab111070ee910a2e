-- Texts that have a byte at least.
use Rattle.std.proofs.Common.{length, false, true≢false, ◌≡◌, ◌≢◌, ℕ, List, [], ◌∷◌, ◌++◌, refl}
use Rattle.std.specs.Prelude.{codes, ◌==◌, Result, Ok, Err, OnErr}
use Rattle.std.specs.Fmt.{decimal}
use Rattle.hg_make.specs.Made.{made}
use Rattle.hg_make.specs.Text.{hypergraph_text}
use Rattle.hg_defs.specs.Hypergraph.{Hyper, vertex_count, net_count, total_weight}
use Rattle.hg_defs.specs.Partition.{limit, is_fitting}
use Rattle.hg_defs.specs.Cost.{cost}
use Rattle.part_text.specs.Part.{part_text}
use Rattle.trace_text.specs.Lines.{number_line, sizes_text, objective_text, loads_text, loads_of, fits_text}
use Rattle.trace_text.specs.Evaluation.{evaluation_text}
use Rattle.trace_text.specs.Summary.{summary_text, outcome_text}
use Rattle.trace_text.specs.Report.{asked_text, descent_text, cycles_text, report_text}
use Rattle.hg_defs.specs.LeastLoaded.{greedy}
use Rattle.round_log.specs.declared.record.Job.{Job}
use Rattle.round_log.specs.declared.record.Trace.{Trace}
use Rattle.round_log.specs.Trace.{limit_of}

-- a list with an element in it
has_one : (xs ys : List ℕ) (y : ℕ) → xs ++ y ∷ ys ≢ []
has_one [] ys y e = cc
has_one (x ∷ xs) ys y e = cc

some_cons : (x : ℕ) (xs : List ℕ) → x ∷ xs ≢ []
some_cons x xs e = cc

front_some : (xs ys : List ℕ) → xs ≢ [] → xs ++ ys ≢ []
front_some [] ys some e = some refl
front_some (x ∷ xs) ys some e = cc

pub part_text-some : (blocks : List ℕ) → blocks ≢ [] → part_text blocks ≢ []
part_text-some [] some = absurd (some refl)
part_text-some (b ∷ blocks) some = front_some (decimal b ++ 10 ∷ []) (part_text blocks) (has_one (decimal b) [] 10)

pub hypergraph_text-some : (n : ℕ) → hypergraph_text (made n) ≢ []
hypergraph_text-some n = front_some _ _ (has_one _ _ _)

pub not_empty : (xs : List ℕ) → (length xs == 0) ≡ false → xs ≢ []
not_empty [] e h = true≢false e
not_empty (x ∷ xs) e h = cc

-- what holds anyway holds on an Err
pub on_err : {T E : Type 0} (r : Result T E) (xs : List ℕ) → xs ≢ [] → OnErr r (xs ≢ [])
on_err (Ok y) xs some = tt
on_err (Err e) xs some = some

line_some : (label : List ℕ) (n : ℕ) → label ≢ [] → number_line label n ≢ []
line_some label n some = front_some (label ++ decimal n) (codes "\n") (front_some label (decimal n) some)

sizes_text-some : (h : Hyper) (k l : ℕ) → sizes_text h k l ≢ []
sizes_text-some h k l =
    let first = number_line (codes "vertices ") (vertex_count h) in
    let second = number_line (codes "nets ") (net_count h) in
    let third = number_line (codes "weight ") (total_weight h) in
    let fourth = number_line (codes "blocks ") k in
    front_some (first ++ second ++ third ++ fourth) (number_line (codes "limit ") l)
    (front_some (first ++ second ++ third) fourth
    (front_some (first ++ second) third
    (front_some first second (line_some (codes "vertices ") (vertex_count h) (some_cons 118 (codes "ertices "))))))

-- an evaluation has a line at least
pub evaluation_text-some : (h : Hyper) (k eps : ℕ) (blocks : List ℕ) → evaluation_text h k eps blocks ≢ []
evaluation_text-some h k eps blocks =
    let l = limit (total_weight h) k eps in
    let sizes = sizes_text h k l in
    let objective = objective_text h.objective in
    let price = number_line (codes "cost ") (cost h blocks) in
    let loads = loads_text (loads_of h k blocks) in
    front_some (sizes ++ objective ++ price ++ loads) (fits_text (is_fitting h k l blocks))
    (front_some (sizes ++ objective ++ price) loads
    (front_some (sizes ++ objective) price (front_some sizes objective (sizes_text-some h k l))))

asked_text-some : (h : Hyper) (job : Job) → asked_text h job ≢ []
asked_text-some h job =
    let sizes = sizes_text h job.k (limit_of h job) in
    let seed = number_line (codes "seed ") job.seed in
    let workers = number_line (codes "workers ") job.workers in
    let objective = objective_text h.objective in
    let placed = number_line (codes "greedy ") (cost h (greedy h job.k)) in
    front_some (sizes ++ seed ++ workers ++ objective) placed
    (front_some (sizes ++ seed ++ workers) objective
    (front_some (sizes ++ seed) workers (front_some sizes seed (sizes_text-some h job.k (limit_of h job)))))

-- a summary has a line at least
pub summary_text-some : (h : Hyper) (k l : ℕ) → summary_text h k l ≢ []
summary_text-some h k l =
    let first = number_line (codes "vertices ") (vertex_count h) in
    let second = number_line (codes "nets ") (net_count h) in
    let third = number_line (codes "blocks ") k in
    let fourth = number_line (codes "limit ") l in
    let fifth = number_line (codes "greedy ") (cost h (greedy h k)) in
    front_some (first ++ second ++ third ++ fourth ++ fifth) outcome_text
    (front_some (first ++ second ++ third ++ fourth) fifth
    (front_some (first ++ second ++ third) fourth
    (front_some (first ++ second) third
    (front_some first second (line_some (codes "vertices ") (vertex_count h) (some_cons 118 (codes "ertices ")))))))

-- a report has a line at least
pub report_text-some : (h : Hyper) (job : Job) (trace : Trace) (cycles : List Trace) (blocks : List ℕ) → report_text h job trace cycles blocks ≢ []
report_text-some h job trace cycles blocks =
    let asked = asked_text h job in
    let descent = descent_text h trace in
    let more = cycles_text h cycles in
    let price = number_line (codes "cost ") (cost h blocks) in
    let loads = loads_text (loads_of h job.k blocks) in
    front_some (asked ++ descent ++ more ++ price) loads
    (front_some (asked ++ descent ++ more) price
    (front_some (asked ++ descent) more (front_some asked descent (asked_text-some h job))))

-- a text that isn't empty says nothing of an unused sink
